-- What the functions of the levels do, on states: a law for each call, each node and each return of theirs. What they
-- do on views is in grammar/proofs/Levels.
--   past_lent                                   what is handed on behind a token
--   room_one, room_behind, room_choice          there is room for one node more
--   ran_operand, ran_prefix, ran_bracket, ran_stop    the returns of level 1
--   Grew, grew_none, grew_lent, grew_on, grew_out     the loop of levels 2 to 5
--   ran_lent, ran_choice, ran_plain                   level 6
use Prim.Native.Nat.{ℕ, suc, ◌+◌, ◌≤◌, ◌<◌}
use native.Mathlib.Omega.{arith}
use mathlib.Core.Path.{◌≡◌, refl, sym, ap, ◌∙◌}
use mathlib.Core.List.{List}
use lib.ListN.{length}
use Rattle.grammar.specs.declared.Token.{Token}
use Rattle.grammar.specs.Tokens.{Kind, operand, prefix, question, colon, opening, closing, other, binary, weight}
use Rattle.grammar.specs.Stops.{rank}
use Rattle.grammar.specs.Views.{View, ahead_v, head_v, push, Does}
use Rattle.grammar.proofs.Ranks.{unrank, rank_kind, not_starting}
use Rattle.grammar.proofs.Levels.{reads_operand, reads_prefix, reads_bracket, stops_here, up_level, joins}
use Rattle.grammar.proofs.Levels.{level_done, chooses, no_choice}
use Rattle.parser_steps.specs.declared.State.{State}
use Rattle.parser_steps.specs.Inner.{view, next, used, Fine, Lent, Here, Moved, Ranked, Stepped, Room}
use Rattle.parser_steps.specs.Inner.{Emitted, Halted, Ate}
use Rattle.parser_levels.specs.Inner.{Ran}
use Rattle.parser_steps.proofs.SingleSteps.{rank_of, head_of, used_step, fine_step, view_step}
use Rattle.parser_steps.proofs.SingleSteps.{used_emit, fine_emit, long_emit, view_emit}
use Rattle.parser_steps.proofs.SingleSteps.{view_halt, moved_halt, used_small}

-- a token of a rank below 61 is counted
weight_one : (k : Kind) → rank k < 61 → weight k ≡ 1
unfolding weight
weight_one operand h = refl
weight_one prefix h = refl
weight_one question h = refl
weight_one colon h = absurd (omega arith)
weight_one opening h = absurd (omega arith)
weight_one closing h = absurd (omega arith)
weight_one other h = refl
weight_one (binary l) h = refl

module _ {cs : List ℕ} {s : State} {k : ℕ} (rk : Ranked cs s k) where
  counted_one : k < 61 → weight (next cs s) ≡ 1
  counted_one h = weight_one (next cs s) (omega (arith, rk.is))

  module _ (ps : List ℕ) (even : length ps ≡ length cs) (ns : List ℕ) where
    kind_is : {r : ℕ} → k ≡ r → ahead_v (view cs ps s ns) ≡ unrank r
    kind_is e = rank_kind (view cs ps s ns) (rank_of cs ps s even ns rk ∙ e)

    unlike : {r : ℕ} → ¬ (k ≡ r) → ¬ (rank (ahead_v (view cs ps s ns)) ≡ r)
    unlike n e = n (sym (rank_of cs ps s even ns rk) ∙ e)

-- the token at s, written behind b
noted :
    (cs ps : List ℕ) {s b r : State} {n₁ n₂ : List ℕ} → length ps ≡ length cs → Here cs s →
    Emitted s.at b n₁ r n₂ → b.len < length n₁ → (n : List ℕ) →
    view cs ps r n₂ ≡ push (head_v (view cs ps s n)) (view cs ps b n₁)
noted cs ps {s} {b} {n₁ = n₁} even h em l n =
    view_emit cs em ps l ∙ ap (λ (t : Token). push t (view cs ps b n₁)) (sym (head_of cs ps s even n h))

-- from s by way of b: one node more, or none
by_emit :
    {cs : List ℕ} {k : ℕ} {s b r : State} {n n' : List ℕ} →
    Fine cs s → Fine cs b → Emitted k b n r n' →
    s.at ≤ b.at → (b.len + 1) + used cs s ≤ s.len + used cs b → Moved cs s r
by_emit {cs} f g em p q =
    let u = used_emit cs em in
    record { fine = fine_emit cs em g (omega (arith, f.room)); on = omega arith; grown = omega arith }

moved_on :
    {cs : List ℕ} {s b r : State} → s.at ≤ b.at → b.len + used cs s ≤ s.len + used cs b →
    Moved cs b r →
    Moved cs s r
moved_on p q m = record { fine = m.fine; on = omega arith; grown = omega arith }

room : {cs : List ℕ} {s : State} {n : List ℕ} → Fine cs s → s.len < used cs s → length n ≡ 256 → Room s n
room f h w = record { below = omega (arith, used_small f); whole = w }

-- behind the token at s
module _ {cs : List ℕ} {s : State} {n : List ℕ} {k : ℕ} {a : State} (le : Lent cs s n) (rk : Ranked cs s k)
    (st : Stepped s a)
  where
    pub past_lent : k < 99 → Lent cs a n
    past_lent h = record { fine = fine_step (rk.here h) st le.fine; whole = le.whole }

    spent : k < 61 → used cs a ≡ used cs s + 1
    spent h = omega (arith, used_step (rk.here (omega arith)) st, counted_one rk h)

    module _ (h : k < 61) where
      pub room_one : Room a n
      room_one = room (past_lent (omega arith)).fine (omega (arith, spent h, le.fine.room)) le.whole

      pub room_behind : {l : ℕ} {b : State} {n₁ : List ℕ} → Ran l cs a n b n₁ → Room b n₁
      room_behind rn = room rn.moved.fine (omega (arith, spent h, le.fine.room)) rn.whole

      pub room_choice :
          {b c d : State} {n₁ n₂ : List ℕ} → Ran 6 cs a n b n₁ → Ate cs 61 b c →
          Ran 6 cs c n₁ d n₂ → Room d n₂
      room_choice r₁ et r₂ = room r₂.moved.fine (omega (arith, spent h, le.fine.room)) r₂.whole

    -- level 1
    pub ran_operand : {r : State} {n₁ : List ℕ} → k ≡ 32 → Emitted s.at a n r n₁ → Ran 1 cs s n r n₁
    ran_operand e em =
        let h = rk.here (omega arith) in
        let u = spent (omega arith) in
        record {
          moved = by_emit le.fine (fine_step h st le.fine) em (omega arith) (omega arith);
          whole = long_emit em ∙ le.whole;
          does = λ ps even.
              rw (noted cs ps even h em (omega (arith, room_one (omega arith))) n, view_step h st ps even n)
              (reads_operand (view cs ps s n) (kind_is rk ps even n e));
        }

    pub ran_prefix :
        {b r : State} {n₁ n₂ : List ℕ} → k ≡ 33 → Ran 1 cs a n b n₁ → Emitted s.at b n₁ r n₂ →
        Ran 1 cs s n r n₂
    ran_prefix e rn em =
        let h = rk.here (omega arith) in
        let u = spent (omega arith) in
        record {
          moved = by_emit le.fine rn.moved.fine em (omega arith) (omega arith);
          whole = long_emit em ∙ rn.whole;
          does = λ ps even.
              rw (noted cs ps even h em (omega (arith, room_behind (omega arith) rn)) n)
              (reads_prefix (view cs ps s n) (kind_is rk ps even n e)
              (rw (view_step h st ps even n) at (rn.does ps even)));
        }

    pub ran_bracket : {b r : State} {n₁ : List ℕ} → k ≡ 62 → Ran 6 cs a n b n₁ → Ate cs 63 b r
        → Ran 1 cs s n r n₁
    ran_bracket {n₁ = n₁} e rn et =
        let h = rk.here (omega arith) in
        let u = used_step h st in
        record {
          moved = moved_on (omega arith) (omega arith) et.moved;
          whole = rn.whole;
          does = λ ps even.
              rw (et.is ps even n₁)
              (reads_bracket (view cs ps s n) (kind_is rk ps even n e)
              (rw (view_step h st ps even n) at (rn.does ps even)));
        }

pub ran_stop :
    {cs : List ℕ} {s r : State} {n : List ℕ} {k : ℕ} → Lent cs s n → Ranked cs s k →
    ¬ (k ≡ 32) → ¬ (k ≡ 33) →
    ¬ (k ≡ 62) → Halted s r → Ran 1 cs s n r n
ran_stop {cs} {s} {n = n} le rk a b c h =
    record {
      moved = moved_halt cs h le.fine;
      whole = le.whole;
      does = λ ps even.
          let v = view cs ps s n in
          rw (view_halt cs h ps n)
          (stops_here v
          (not_starting (ahead_v v) (unlike rk ps even n a) (unlike rk ps even n b) (unlike rk ps even n c)));
    }

-- the loop of level l + 1: whatever was read up to o₀, one operand more is read up to o
pub record Grew (l : ℕ) (cs : List ℕ) (o₀ : State) (n₀ : List ℕ) (o : State) (n : List ℕ) : Type 0 where
  pub moved : Moved cs o₀ o
  pub whole : length n ≡ 256
  pub more : (ps : List ℕ) → length ps ≡ length cs → (v : View) → Does (suc l) l v (view cs ps o₀ n₀)
      → Does (suc l) l v (view cs ps o n)

pub grew_none : {l : ℕ} {cs : List ℕ} {s o : State} {n n₁ : List ℕ} → Ran l cs s n o n₁
    → Grew l cs o n₁ o n₁
grew_none rn =
    record {
      moved = record { fine = rn.moved.fine; on = omega arith; grown = omega arith };
      whole = rn.whole;
      more = λ ps even v d. d;
    }

pub grew_lent : {l : ℕ} {cs : List ℕ} {o₀ o : State} {n₀ n : List ℕ} → Grew l cs o₀ n₀ o n
    → Lent cs o n
grew_lent g = record { fine = g.moved.fine; whole = g.whole }

pub grew_on :
    {l : ℕ} {cs : List ℕ} {o₀ o a b r : State} {n₀ n n₁ n₂ : List ℕ} {k : ℕ} →
    Grew l cs o₀ n₀ o n →
    Ranked cs o k → k ≡ suc l → suc l < 6 → Stepped o a → Ran l cs a n b n₁ →
    Emitted o.at b n₁ r n₂ →
    Grew l cs o₀ n₀ r n₂
grew_on {cs = cs} {o = o} {n = n} g rk e six st rn em =
    let le = grew_lent g in
    let h = rk.here (omega arith) in
    let m = by_emit le.fine rn.moved.fine em (omega arith) (omega (arith, spent le rk st (omega arith))) in
    record {
      moved = moved_on g.moved.on g.moved.grown m;
      whole = long_emit em ∙ rn.whole;
      more = λ ps even v d.
          rw (noted cs ps even h em (omega (arith, room_behind le rk st (omega arith) rn)) n)
          (joins six (g.more ps even v d) (rank_of cs ps o even n rk ∙ e)
          (rw (view_step h st ps even n) at (rn.does ps even)));
    }

pub grew_out :
    {l : ℕ} {cs : List ℕ} {s o₀ o : State} {n n₀ n₁ : List ℕ} {k : ℕ} →
    Ran l cs s n o₀ n₀ → Grew l cs o₀ n₀ o n₁ →
    Ranked cs o k → ¬ (k ≡ suc l) → Ran (suc l) cs s n o n₁
grew_out {n₁ = n₁} rn g rk u =
    record {
      moved = moved_on rn.moved.on rn.moved.grown g.moved;
      whole = g.whole;
      does = λ ps even.
          level_done (g.more ps even _ (up_level (rn.does ps even))) (unlike rk ps even n₁ u);
    }

-- level 6
pub ran_lent : {l : ℕ} {cs : List ℕ} {s c : State} {n n₁ : List ℕ} → Ran l cs s n c n₁ → Lent cs c n₁
ran_lent rn = record { fine = rn.moved.fine; whole = rn.whole }

pub ran_choice :
    {cs : List ℕ} {s c a b d e r : State} {n n₁ n₂ n₃ n₄ : List ℕ} {k : ℕ} →
    Ran 5 cs s n c n₁ → Ranked cs c k →
    k ≡ 6 → Stepped c a → Ran 6 cs a n₁ b n₂ → Ate cs 61 b d → Ran 6 cs d n₂ e n₃ →
    Emitted c.at e n₃ r n₄ → Ran 6 cs s n r n₄
ran_choice {cs} {c = c} {n₁ = n₁} {n₂ = n₂} r₁ rk q st r₂ et r₃ em =
    let le = ran_lent r₁ in
    let h = rk.here (omega arith) in
    let m = by_emit le.fine r₃.moved.fine em (omega arith) (omega (arith, spent le rk st (omega arith))) in
    record {
      moved = moved_on r₁.moved.on r₁.moved.grown m;
      whole = long_emit em ∙ r₃.whole;
      does = λ ps even.
          rw (noted cs ps even h em (omega (arith, room_choice le rk st (omega arith) r₂ et r₃)) n₁)
          (chooses (r₁.does ps even) (rank_of cs ps c even n₁ rk ∙ q)
          (rw (view_step h st ps even n₁) at (r₂.does ps even))
          (rw (et.is ps even n₂) at (r₃.does ps even)));
    }

pub ran_plain :
    {cs : List ℕ} {s c : State} {n n₁ : List ℕ} {k : ℕ} →
    Ran 5 cs s n c n₁ → Ranked cs c k → ¬ (k ≡ 6) →
    Ran 6 cs s n c n₁
ran_plain {n₁ = n₁} r rk u =
    record {
      moved = r.moved;
      whole = r.whole;
      does = λ ps even. no_choice (r.does ps even) (unlike rk ps even n₁ u);
    }
