-- Laws of a parser's state, for the functions that make one step.
--   ranked_token, ranked_end, ranked_off       rank_at
--   rank_of, head_of                           the rank and the next token, said of a view
--   used_step, fine_step, view_step            step
--   used_emit, fine_emit, long_emit, view_emit emit
--   view_halt, moved_halt                      stop
--   eat_hit, eat_miss                          eat
--   used_small                                 at most 256 tokens are counted
use Rattle.std.specs.Prelude.{if◌then◌else◌}
use Prim.Native.Nat.{ℕ, ◌+◌, ◌≤◌, ◌<◌}
use native.Mathlib.Omega.{arith}
use native.Mathlib.Numerals.{add-one}
use mathlib.Core.Path.{◌≡◌, refl, sym, ap, ◌∙◌}
use mathlib.Core.Bool.{Bool, true, false}
use mathlib.Core.List.{List}
use lib.ListN.{length, get_or, take, drop, set, drop_of_length-le, length-set}
use lib.Seq.{drop-cons}
use borrow.Author.Tests.{eq-eqb, ne_eqb}
use Rattle.grammar.specs.declared.Token.{Token}
use Rattle.grammar.specs.Tokens.{other, kind, weight, ahead, tokens}
use Rattle.grammar.specs.Stops.{rank}
use Rattle.grammar.specs.Views.{View, going, stopped, nothing, ahead_v, head_v, tail, past, push, halt, eaten}
use Rattle.parser_steps.specs.declared.State.{State}
use Rattle.parser_steps.specs.Inner.{token_at, picked, view, first, next, used, Fine, Here, Moved, Ranked}
use Rattle.parser_steps.specs.Inner.{Stepped, Emitted, Halted, Ate}
use Rattle.parser_steps.proofs.CodeTokens.{tokens_length, first_ahead, token_head, first_at}
use Rattle.parser_steps.proofs.CodeTokens.{counts_next, counts_take, picked_next}

-- rank_at
module _ (cs : List ℕ) (s : State) where
  pub ranked_token : {k : ℕ} → s.ok ≡ true → s.at < length cs → k ≡ rank (kind (get_or cs s.at 0))
      → Ranked cs s k
  unfolding next
  ranked_token e h q =
      record { is = simp (e, first_at cs s.at h) q; here = λ l. record { goes = e; left = h } }

  pub ranked_end : s.ok ≡ true → length cs ≤ s.at → Ranked cs s 99
  unfolding next
  ranked_end e h = record { is = simp (e, drop_of_length-le cs h); here = λ l. absurd (omega arith) }

  pub ranked_off : s.ok ≡ false → Ranked cs s 99
  unfolding next
  ranked_off e = record { is = simp e; here = λ l. absurd (omega arith) }

-- what comes next, said of a view
module _ (cs ps : List ℕ) (s : State) (even : length ps ≡ length cs) (ns : List ℕ) where
  ahead_of : ahead_v (view cs ps s ns) ≡ next cs s
  unfolding view next
  ahead_of = go s.ok
    where
      go :
          (b : Bool) →
          ahead_v
          (if b then going (drop s.at (tokens cs ps)) (picked cs ps (take s.len ns))
          else stopped (drop s.at (tokens cs ps)))
          ≡ (if b then first (drop s.at cs) else other)
      go true = first_ahead cs ps s.at even
      go false = refl

  pub rank_of : {k : ℕ} → Ranked cs s k → rank (ahead_v (view cs ps s ns)) ≡ k
  rank_of rk = ap rank ahead_of ∙ sym rk.is

  pub head_of : Here cs s → head_v (view cs ps s ns) ≡ token_at cs ps s.at
  unfolding view
  head_of h = simp h.goes (token_head cs ps s.at even h.left)

-- step
tail_in : (ts : List Token) (i : ℕ) → i < length ts → drop (i + 1) ts ≡ tail (drop i ts)
tail_in ts i h = rw (add-one, drop-cons ts i nothing h)

module _ {cs : List ℕ} {s r : State} (h : Here cs s) (st : Stepped s r) where
  pub used_step : used cs r ≡ used cs s + weight (next cs s)
  unfolding used next
  used_step = simp (st.on, add-one, h.goes) (counts_next cs s.at h.left)

  pub fine_step : Fine cs s → Fine cs r
  fine_step f = record { inside = omega arith; room = omega (arith, used_step); small = f.small }

  pub view_step : (ps : List ℕ) → length ps ≡ length cs → (ns : List ℕ)
      → view cs ps r ns ≡ past (view cs ps s ns)
  unfolding view
  view_step ps even ns =
      simp (st.goes, st.on, st.same, h.goes)
      (ap (λ (l : List Token). going l (picked cs ps (take s.len ns)))
      (tail_in (tokens cs ps) s.at (omega (arith, tokens_length cs ps even))))

-- emit
pub long_emit : {s r : State} {k : ℕ} {ns ns' : List ℕ} → Emitted k s ns r ns' → length ns' ≡ length ns
long_emit {s = s} {k = k} {ns = ns} em = rw em.nodes (length-set ns s.len k)

module _ (cs : List ℕ) {s r : State} {k : ℕ} {ns ns' : List ℕ} (em : Emitted k s ns r ns') where
  pub used_emit : used cs r ≡ used cs s
  unfolding used
  used_emit = rw em.on

  pub fine_emit : Fine cs s → s.len < used cs s → Fine cs r
  fine_emit f h = record { inside = omega arith; room = omega (arith, used_emit); small = f.small }

  pub view_emit : (ps : List ℕ) → s.len < length ns
      → view cs ps r ns' ≡ push (token_at cs ps k) (view cs ps s ns)
  unfolding view
  view_emit ps h = simp (em.goes, em.on, em.grown, em.nodes) (go s.ok)
    where
      rest : List Token
      rest = drop s.at (tokens cs ps)

      go :
          (b : Bool) →
          (if b then going rest (picked cs ps (take (s.len + 1) (set ns s.len k))) else stopped rest)
          ≡ push (token_at cs ps k) (if b then going rest (picked cs ps (take s.len ns)) else stopped rest)
      go true = ap (going rest) (picked_next cs ps ns s.len k h)
      go false = refl

-- stop
module _ (cs : List ℕ) {s r : State} (h : Halted s r) where
  pub view_halt : (ps ns : List ℕ) → view cs ps r ns ≡ halt (view cs ps s ns)
  unfolding view
  view_halt ps ns = simp (h.off, h.on) (go s.ok)
    where
      rest : List Token
      rest = drop s.at (tokens cs ps)

      go : (b : Bool)
          → stopped rest ≡ halt (if b then going rest (picked cs ps (take s.len ns)) else stopped rest)
      go true = refl
      go false = refl

  used_halt : used cs r ≡ used cs s
  unfolding used
  used_halt = rw h.on

  pub moved_halt : Fine cs s → Moved cs s r
  moved_halt f =
      let u = used_halt in
      record {
        fine = record { inside = omega arith; room = omega arith; small = f.small };
        on = omega arith;
        grown = omega arith;
      }

-- eat
eaten_hit : (v : View) (k : ℕ) → k < 99 → rank (ahead_v v) ≡ k → past v ≡ eaten k v
eaten_hit (going ts out) k h e = rw (eq-eqb (rank (ahead ts)) k e)
eaten_hit (stopped ts) k h e = absurd (omega (arith, e))

eaten_miss : (v : View) (k : ℕ) → ¬ (rank (ahead_v v) ≡ k) → halt v ≡ eaten k v
eaten_miss (going ts out) k e = rw (ne_eqb (rank (ahead ts)) k e)
eaten_miss (stopped ts) k e = refl

module _ {cs : List ℕ} {s r : State} {x k : ℕ} (f : Fine cs s) (rk : Ranked cs s x) where
  pub eat_hit : x ≡ k → k < 99 → Stepped s r → Ate cs k s r
  eat_hit e h st =
      let here = rk.here (omega arith) in
      record {
        moved =
            record { fine = fine_step here st f; on = omega arith; grown = omega (arith, used_step here st) };
        is = λ ps even ns.
            view_step here st ps even ns ∙ eaten_hit (view cs ps s ns) k h (rank_of cs ps s even ns rk ∙ e);
      }

  pub eat_miss : ¬ (x ≡ k) → Halted s r → Ate cs k s r
  eat_miss e h =
      record {
        moved = moved_halt cs h f;
        is = λ ps even ns.
            view_halt cs h ps ns
            ∙ eaten_miss (view cs ps s ns) k (λ q. e (sym (rank_of cs ps s even ns rk) ∙ q));
      }

pub used_small : {cs : List ℕ} {s : State} → Fine cs s → used cs s ≤ 256
unfolding used
used_small {cs} {s} f = omega (arith, counts_take cs s.at, f.small)
