-- Two words compared: the test is `same`. Main name: same_is.
use Prim.Native.Nat.{ℕ}
use mathlib.Core.Path.{◌≡◌, refl, sym}
use mathlib.Core.Bool.{Bool, true, false}
use mathlib.Core.List.{List}
use Rattle.basics.specs.Words.{same}
use Rattle.basics.proofs.Bools.{never}
use Rattle.basics.proofs.Entries.{same_true, same_false}

same_by : (b : Bool) (xs ys : List ℕ) → (b ≡ true → xs ≡ ys) → (xs ≡ ys → b ≡ true) → b ≡ same xs ys
same_by true xs ys y n = sym (same_true xs ys (y refl))
same_by false xs ys y n = sym (same_false xs ys (λ e. never (n e)))

pub same_is : {b : Bool} (xs ys : List ℕ) → (b ≡ true → xs ≡ ys) → (xs ≡ ys → b ≡ true) → b ≡ same xs ys
same_is {b} xs ys = same_by b xs ys
