-- Document 01 as definitions, a file for each chapter, in its order. The laws of these definitions stand apart.
-- How to read them, for who does not prove:
--   f : A → B → C            f takes an A and a B and gives a C; `f x y` is f of x and y; ℕ: the numbers 0, 1, 2, ..
--   List A, [], x ∷ xs       a list of As; the empty one; x before the list xs; `xs ++ ys` is one list behind another
--   get_or xs i d            entry i of a list, counted from 0; d where there is none
--   zero, suc n              0; n + 1
--   eqb, ltb, leb            tests: equal, below, at most; `x - y` is 0 where y is above x
--   λ x. e                   the function that gives e for x
--   Type 0                   what is said: a value of it is a proof that it holds
--   x ≡ y                    x and y are the same
--   A × B, A ⊎ B, A → ⊥      both; one of the two; not A. `Unit {0}` always holds
--   (x : A) → B              for every x of A, B holds; (x : A) × B: for some x
--   record { f = x }, r.f   a record with field f; that field of it
--   unfoldable, abbrev, pub  how the prover treats a name: no part of what is meant
pub mod States
pub mod Expressions
pub mod Values
pub mod Names
pub mod Windows
pub mod Answers
pub mod Alternatives
pub mod Steady
pub mod Beginnings
pub mod Traces
pub mod Refusals
pub mod TableT
pub mod Bytes
pub mod Decoder
