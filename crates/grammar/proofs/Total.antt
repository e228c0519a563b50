-- Every text, of whatever length, is an expression or refused (parsed_or_refused): the laws of the levels, put together
-- as the functions are.
use Rattle.std.specs.Prelude.{if◌then◌else◌}
use Prim.Native.Nat.{ℕ, zero, suc, ◌≤◌, ◌<◌}
use native.Mathlib.Omega.{arith}
use mathlib.Core.Path.{◌≡◌, refl, ap}
use mathlib.Core.Bool.{Bool, true, false}
use mathlib.Core.List.{List, [], ◌∷◌}
use mathlib.Core.Logic.{◌⊎◌, inl, inr}
use lib.Dec.{eqb, lit≤, lit<}
use lib.ListN.{length}
use borrow.Author.Tests.{eqb-true, eqb-false}
use Rattle.grammar.specs.declared.Token.{Token}
use Rattle.grammar.specs.Tokens.{Kind, operand, prefix, question, colon, opening, closing, other, binary, ahead}
use Rattle.grammar.specs.Grammar.{Tree, Expression, Refused}
use Rattle.grammar.specs.Stops.{rank, starts}
use Rattle.grammar.specs.Views.{View, going, stopped, ahead_v, head_v, tail, past, push, halt, eaten, Does}
use Rattle.grammar.specs.Views.{Ends, whole, refused}
use Rattle.grammar.proofs.Levels.{reads_operand, reads_prefix, reads_bracket, stops_here, up_level, joins}
use Rattle.grammar.proofs.Levels.{level_done, chooses, no_choice}
use Rattle.grammar.proofs.Refusals.{left, ends, ends_halted}

-- how many tokens are left
abbrev size : View → ℕ
size v = length (left v)

past_less : (v : View) → rank (ahead_v v) < 99 → size (past v) < size v
past_less (going [] out) h = absurd (omega arith)
past_less (going (t ∷ ts) out) h = omega arith
past_less (stopped ts) h = absurd (omega arith)

push_size : (t : Token) (v : View) → size (push t v) ≡ size v
push_size t (going ts out) = refl
push_size t (stopped ts) = refl

halt_size : (v : View) → size (halt v) ≡ size v
halt_size (going ts out) = refl
halt_size (stopped ts) = refl

eaten_size : (k : ℕ) (v : View) → size (eaten k v) ≤ size v
eaten_size k (going ts out) = go (eqb (rank (ahead ts)) k) ts
  where
    go : (b : Bool) (us : List Token) → size (if b then going (tail us) out else stopped us) ≤ length us
    go true [] = omega arith
    go true (u ∷ us) = omega arith
    go false us = omega arith
eaten_size k (stopped ts) = omega arith

-- level l comes to something, and what is left is no more
record Reach (l : ℕ) (v : View) : Type 0 where
  to : View
  does : Does l l v to
  less : size to ≤ size v

-- so does every level where fewer tokens are left
Below : View → Type 0
Below v = (l : ℕ) → 1 ≤ l → l ≤ 6 → (w : View) → size w < size v → Reach l w

level_one : (v : View) → Below v → Reach 1 v
unfolding Below
level_one v ih = go (ahead_v v) refl
  where
    stops : starts (ahead_v v) ≡ false → Reach 1 v
    stops e = record { to = halt v; does = stops_here v e; less = omega (arith, halt_size v) }

    go : (k : Kind) → ahead_v v ≡ k → Reach 1 v
    go operand e =
        let f = past_less v (omega (arith, ap rank e)) in
        record { to = _; does = reads_operand v e; less = omega (arith, push_size (head_v v) (past v)) }
    go prefix e =
        let f = past_less v (omega (arith, ap rank e)) in
        let x = ih 1 (lit≤ tt) (lit≤ tt) (past v) f in
        record {
          to = _;
          does = reads_prefix v e x.does;
          less = omega (arith, push_size (head_v v) x.to, x.less);
        }
    go question e = stops (ap starts e)
    go colon e = stops (ap starts e)
    go opening e =
        let f = past_less v (omega (arith, ap rank e)) in
        let x = ih 6 (lit≤ tt) (lit≤ tt) (past v) f in
        record { to = _; does = reads_bracket v e x.does; less = omega (arith, eaten_size 63 x.to, x.less) }
    go closing e = stops (ap starts e)
    go other e = stops (ap starts e)
    go (binary l) e = stops (ap starts e)

-- levels 2 to 5: one operand more, as long as an operator of the level follows
chain :
    (n l : ℕ) (v w : View) →
    1 ≤ l →
    suc l < 6 →
    Below v →
    size w ≤ n →
    size w ≤ size v →
    Does (suc l) l v w →
    Reach (suc l) v
unfolding Below
chain zero l v w a b ih h k d =
    record {
      to = w;
      does = level_done d (λ e. let f = past_less w (omega (arith, e)) in omega arith);
      less = k;
    }
chain (suc n) l v w a b ih h k d = go (eqb (rank (ahead_v w)) (suc l)) refl (λ x e p. chain n l v x a b ih e p)
  where
    go :
        (y : Bool) →
        eqb (rank (ahead_v w)) (suc l) ≡ y →
        ((x : View) → size x ≤ n → size x ≤ size v → Does (suc l) l v x → Reach (suc l) v) →
        Reach (suc l) v
    go false q next = record { to = w; does = level_done d (eqb-false _ _ q); less = k }
    go true q next =
        let e = eqb-true (rank (ahead_v w)) (suc l) q in
        let f = past_less w (omega arith) in
        let x = ih l a (omega arith) (past w) (omega arith) in
        let s = push_size (head_v w) x.to in
        let m = x.less in
        next (push (head_v w) x.to) (omega arith) (omega arith) (joins b d e x.does)

-- level 6
level_six : (v : View) → Below v → Reach 5 v → Reach 6 v
unfolding Below
level_six v ih r = go (eqb (rank (ahead_v r.to)) 6) refl
  where
    go : (y : Bool) → eqb (rank (ahead_v r.to)) 6 ≡ y → Reach 6 v
    go false q = record { to = r.to; does = no_choice r.does (eqb-false _ _ q); less = r.less }
    go true q =
        let e = eqb-true (rank (ahead_v r.to)) 6 q in
        let f = past_less r.to (omega arith) in
        let g = r.less in
        let x = ih 6 (lit≤ tt) (lit≤ tt) (past r.to) (omega arith) in
        let m = x.less in
        let n = eaten_size 61 x.to in
        let y = ih 6 (lit≤ tt) (lit≤ tt) (eaten 61 x.to) (omega arith) in
        record {
          to = _;
          does = chooses r.does e x.does y.does;
          less = omega (arith, push_size (head_v r.to) y.to, y.less);
        }

-- from level to level
climb : (v : View) → Below v → (l : ℕ) → 1 ≤ l → l < 6 → Reach l v
climb v ih zero a b = absurd (omega arith)
climb v ih (suc zero) a b = level_one v ih
climb v ih (suc (suc l)) a b =
    let r = climb v ih (suc l) (omega arith) (omega arith) in
    chain (size r.to) (suc l) v r.to (omega arith) b ih (omega arith) r.less (up_level r.does)

every : (v : View) → Below v → (l : ℕ) → 1 ≤ l → l ≤ 6 → Reach l v
every v ih l a b = go (eqb l 6) refl
  where
    go : (y : Bool) → eqb l 6 ≡ y → Reach l v
    go true q = rw (eqb-true l 6 q) (level_six v ih (climb v ih 5 (lit≤ tt) (lit< tt)))
    go false q = let n = eqb-false l 6 q in climb v ih l a (omega arith)

reach : (n : ℕ) (v : View) → size v ≤ n → (l : ℕ) → 1 ≤ l → l ≤ 6 → Reach l v
unfolding Below
reach zero v h = every v (λ l a b w k. absurd (omega arith))
reach (suc n) v h = every v (λ l a b w k. reach n w (omega arith) l a b)

-- what it ends in
settled : {ts : List Token} {v : View} → Ends ts v →
    ((e : Tree) × Expression ts e) ⊎ ((rest : List Token) × Refused ts rest)
settled (whole {e = e} p q) = inl (e, p)
settled (refused {rest = rest} s) = inr (rest, s)

pub parsed_or_refused : (ts : List Token)
    → ((e : Tree) × Expression ts e) ⊎ ((rest : List Token) × Refused ts rest)
parsed_or_refused ts =
    let r = reach (length ts) (going ts []) (omega arith) 6 (lit≤ tt) (lit≤ tt) in
    go r.to (left r.to) refl r.does
  where
    go :
        (w : View) (us : List Token) →
        left w ≡ us →
        Does 6 6 (going ts []) w →
        ((e : Tree) × Expression ts e) ⊎ ((rest : List Token) × Refused ts rest)
    go w [] e d = settled (ends d e)
    go w (u ∷ us) e d = settled (ends_halted d (rw e (omega arith)))
