-- Codes and tokens: what is told of codes cs is so of the tokens that cs and as many places ps hold.
--   tokens_length, first_ahead, token_head     how many there are, the next one's kind, the next one
--   first_at                                   the kind of a code at a number
--   counts_tokens, counts_next, counts_take    how many are counted
--   place_at_of                                 the place of the token at a number
--   picked_next                                one node more
use Rattle.std.specs.Prelude.{if◌then◌else◌}
use Prim.Native.Nat.{ℕ, zero, suc, ◌+◌, ◌≤◌, ◌<◌}
use native.Mathlib.Omega.{arith}
use native.Mathlib.Numerals.{add-one}
use mathlib.Core.Path.{◌≡◌, refl}
use mathlib.Core.Bool.{Bool, true, false}
use mathlib.Core.List.{List, [], ◌∷◌, ◌++◌, map-append}
use lib.Dec.{ltb}
use lib.ListN.{length, get_or, take, drop, set, drop_of_length-le}
use lib.Seq.{drop-cons, take-suc-set}
use borrow.Author.Tests.{ltb-true, ltb-false}
use Rattle.grammar.specs.Tokens.{kind, weight, ahead, counted, tokens}
use Rattle.grammar.specs.Grammar.{place_of}
use Rattle.grammar.specs.Answers.{place_at}
use Rattle.grammar.specs.Views.{head}
use Rattle.parser_steps.specs.Inner.{token_at, picked, first, counts}

pub tokens_length : (cs ps : List ℕ) → length ps ≡ length cs → length (tokens cs ps) ≡ length cs
unfolding tokens
tokens_length [] ps e = refl
tokens_length (c ∷ cs) [] e = absurd (omega arith)
tokens_length (c ∷ cs) (p ∷ ps) e = omega (arith, tokens_length cs ps (omega arith))

pub first_ahead : (cs ps : List ℕ) (i : ℕ) → length ps ≡ length cs
    → ahead (drop i (tokens cs ps)) ≡ first (drop i cs)
unfolding tokens
first_ahead [] ps zero e = refl
first_ahead [] ps (suc i) e = refl
first_ahead (c ∷ cs) [] i e = absurd (omega arith)
first_ahead (c ∷ cs) (p ∷ ps) zero e = refl
first_ahead (c ∷ cs) (p ∷ ps) (suc i) e = first_ahead cs ps i (omega arith)

pub token_head : (cs ps : List ℕ) (i : ℕ) → length ps ≡ length cs → i < length cs
    → head (drop i (tokens cs ps)) ≡ token_at cs ps i
unfolding tokens
token_head [] ps i e h = absurd (omega arith)
token_head (c ∷ cs) [] i e h = absurd (omega arith)
token_head (c ∷ cs) (p ∷ ps) zero e h = refl
token_head (c ∷ cs) (p ∷ ps) (suc i) e h = token_head cs ps i (omega arith) (omega arith)

pub first_at : (cs : List ℕ) (i : ℕ) → i < length cs → first (drop i cs) ≡ kind (get_or cs i 0)
first_at cs i h = rw (drop-cons cs i 0 h)

pub counts_tokens : (cs ps : List ℕ) → length ps ≡ length cs → counted (tokens cs ps) ≡ counts cs
unfolding tokens counted counts
counts_tokens [] ps e = refl
counts_tokens (c ∷ cs) [] e = absurd (omega arith)
counts_tokens (c ∷ cs) (p ∷ ps) e = omega (arith, counts_tokens cs ps (omega arith))

pub counts_next : (cs : List ℕ) (i : ℕ) → i < length cs
    → counts (take (suc i) cs) ≡ counts (take i cs) + weight (first (drop i cs))
unfolding counts
counts_next [] i h = absurd (omega arith)
counts_next (c ∷ cs) zero h = omega arith
counts_next (c ∷ cs) (suc i) h = omega (arith, counts_next cs i (omega arith))

pub counts_take : (cs : List ℕ) (i : ℕ) → counts (take i cs) ≤ counts cs
unfolding counts
counts_take [] zero = omega arith
counts_take [] (suc i) = omega arith
counts_take (c ∷ cs) zero = omega arith
counts_take (c ∷ cs) (suc i) = omega (arith, counts_take cs i)

-- the place of the token at a number
place_in : (cs ps : List ℕ) (i bytes : ℕ) → i < length cs → i < length ps
    → get_or ps i 0 ≡ place_of bytes (drop i (tokens cs ps))
unfolding tokens
place_in [] ps i bytes h k = absurd (omega arith)
place_in (c ∷ cs) [] i bytes h k = absurd (omega arith)
place_in (c ∷ cs) (p ∷ ps) zero bytes h k = refl
place_in (c ∷ cs) (p ∷ ps) (suc i) bytes h k = place_in cs ps i bytes (omega arith) (omega arith)

pub place_at_of : (cs ps : List ℕ) (i bytes : ℕ) → length ps ≡ length cs
    → place_at ps i bytes ≡ place_of bytes (drop i (tokens cs ps))
unfolding place_at
place_at_of cs ps i bytes e = go (ltb i (length ps)) refl
  where
    go : (b : Bool) → ltb i (length ps) ≡ b
        → (if b then get_or ps i 0 else bytes) ≡ place_of bytes (drop i (tokens cs ps))
    go true h = let k = ltb-true i (length ps) h in place_in cs ps i bytes (omega arith) k
    go false h =
        let k = ltb-false i (length ps) h in
        let l : length (tokens cs ps) ≤ i = omega (arith, tokens_length cs ps e) in
        rw (drop_of_length-le (tokens cs ps) l)

-- a number written behind the nodes is one node more
pub picked_next : (cs ps ns : List ℕ) (n k : ℕ) → n < length ns
    → picked cs ps (take (n + 1) (set ns n k)) ≡ picked cs ps (take n ns) ++ (token_at cs ps k ∷ [])
picked_next cs ps ns n k h =
    rw (add-one, take-suc-set ns n k h) (map-append (token_at cs ps) (take n ns) (k ∷ []))
