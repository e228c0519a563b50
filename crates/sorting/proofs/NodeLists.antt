-- Laws of the tokens that two lists hold, one by one. Main names: handed_none, handed_next, pass_next.
use mathlib.Core.Path.{◌≡◌, refl, ap}
use mathlib.Core.List.{List, [], ◌∷◌, ◌++◌}
use Prim.Native.Nat.{ℕ, zero, suc, ◌+◌, ◌<◌}
use native.Mathlib.Omega.{arith}
use native.Mathlib.Numerals.{add-one}
use lib.ListN.{length, get_or, take}
use Rattle.grammar.specs.declared.Token.{Token}
use Rattle.grammar.specs.Tokens.{tokens}
use Rattle.grammar.specs.Answers.{handed}
use Rattle.sorting.specs.declared.sorts.Sorting.{Sorting}
use Rattle.sorting.specs.Passes.{going, run, leaf_byte, Shows, Stepped}
use Rattle.sorting.proofs.NodeRuns.{run_last}

abbrev pub token : ℕ → ℕ → Token
token c p = record { code = c; place = p }

tokens_next :
    (cs ps : List ℕ) (i : ℕ) →
    i < length cs →
    i < length ps →
    tokens (take (suc i) cs) (take (suc i) ps)
    ≡ tokens (take i cs) (take i ps) ++ (token (get_or cs i 0) (get_or ps i 0) ∷ [])
unfolding tokens
tokens_next [] ps i h k = absurd (omega arith)
tokens_next (c ∷ cs) [] i h k = absurd (omega arith)
tokens_next (c ∷ cs) (p ∷ ps) zero h k = refl
tokens_next (c ∷ cs) (p ∷ ps) (suc i) h k =
    ap (λ (ts : List Token). token c p ∷ ts) (tokens_next cs ps i (omega arith) (omega arith))

pub handed_next :
    (cs ps : List ℕ) (i : ℕ) →
    i < length cs →
    i < length ps →
    handed cs ps (i + 1) ≡ handed cs ps i ++ (token (get_or cs i 0) (get_or ps i 0) ∷ [])
handed_next cs ps i h k = rw add-one (tokens_next cs ps i h k)

pub handed_none : (cs ps : List ℕ) → handed cs ps 0 ≡ []
unfolding tokens
handed_none cs ps = refl

-- one node of the pass
pub pass_next :
    (number : ℕ → ℕ) (cs ps : List ℕ) (i : ℕ) {b : ℕ} {s r : Sorting} →
    i < length cs →
    i < length ps →
    b ≡ leaf_byte number (token (get_or cs i 0) (get_or ps i 0)) →
    Stepped (token (get_or cs i 0) (get_or ps i 0)) b s r →
    Shows s (run number (handed cs ps i) (going [])) →
    Shows r (run number (handed cs ps (i + 1)) (going []))
pass_next number cs ps i h k e st w =
    rw (handed_next cs ps i h k, run_last number) (st.does number e _ w)

pub pass_none : (number : ℕ → ℕ) (cs ps : List ℕ) {s : Sorting} → Shows s (going [])
    → Shows s (run number (handed cs ps 0) (going []))
unfolding tokens run
pass_none number cs ps w = w
