-- What a tree is, from what it ends with and where that starts; and what that says of the expression it is.
-- Main names: whole_some, whole_more, whole_none; kind_decodes.
use Prim.Native.Nat.{ℕ, ◌<◌}
use native.Mathlib.Nat.{pos_of_ne-zero}
use mathlib.Core.Path.{◌≡◌, refl, ap, sym, ◌∙◌}
use mathlib.Core.Bool.{Bool, true, false}
use mathlib.Core.List.{List}
use lib.ListN.{length}
use Rattle.alf.specs.Expressions.{boolean, vector}
use Rattle.alf.specs.Decoder.{Stack, empty, broken, push, under, stack_at, Decodes}
use Rattle.basics.proofs.Bools.{never}
use Rattle.alf.proofs.Made.{Made, a_name, a_literal, a_negation, a_binary, a_choice, an_edge, a_join}
use Rattle.alf.proofs.Made.{a_condition, a_condition_before, nothing}
use Rattle.alf.proofs.Parts.{made_last}
use Rattle.std.specs.Prelude.{Some, None}
use Rattle.alf.specs.declared.Sort.{Sort}
use Rattle.trees.specs.declared.sorts.Part.{Part}
use Rattle.trees.specs.Parts.{is_whole}
use Rattle.trees.specs.Sorts.{kind_of, Ending, whole_kind, tree_kind, Holds}
use Rattle.trees.proofs.Endings.{ending_is, ending_from, ending_none}

is_empty : Stack → Bool
is_empty empty = true
is_empty broken = false
is_empty (push e s) = false

made_some : (names b : ℕ) {s s' : Stack} → Made names b s s' → is_empty s' ≡ false
unfolding is_empty
made_some names b (a_name l u) = refl
made_some names b (a_literal l u) = refl
made_some names b (a_negation k e) = refl
made_some names b (a_binary l u e) = refl
made_some names b (a_choice k e) = refl
made_some names b (an_edge l u e) = refl
made_some names b (a_join l u e) = refl
made_some names b (a_condition k e) = refl
made_some names b (a_condition_before k e) = refl
made_some names b nothing = refl

-- only no bytes leave the stack empty
some_bytes : (t : List ℕ) (names n : ℕ) → 0 < n → is_empty (stack_at t names n) ≡ false
some_bytes t names n p = made_some names _ (made_last t names n p)

no_bytes : (t : List ℕ) (names : ℕ) → is_empty (stack_at t names 0) ≡ true
unfolding stack_at is_empty
no_bytes t names = refl

more : (s : Stack) → is_empty (under s) ≡ false → whole_kind s ≡ None
unfolding is_empty under whole_kind
more empty h = refl
more broken h = refl
more (push e empty) h = never (sym h)
more (push e broken) h = refl
more (push e (push f s)) h = refl

alone_some : (s : Stack) (k : Sort) → Some k ≡ kind_of s → is_empty (under s) ≡ true → Some k ≡ whole_kind s
unfolding is_empty under whole_kind kind_of
alone_some empty k e h = e
alone_some broken k e h = e
alone_some (push (boolean c) empty) k e h = e
alone_some (push (boolean c) broken) k e h = never h
alone_some (push (boolean c) (push f s)) k e h = never h
alone_some (push (vector p) empty) k e h = e
alone_some (push (vector p) broken) k e h = never h
alone_some (push (vector p) (push f s)) k e h = never h

alone_none : (s : Stack) → kind_of s ≡ None → whole_kind s ≡ None
unfolding whole_kind kind_of
alone_none empty e = refl
alone_none broken e = refl
alone_none (push (boolean c) s) e = cc
alone_none (push (vector p) s) e = cc

module _ (t : List ℕ) (names : ℕ) where
  pub whole_none : Ending t names (length t) None → None ≡ tree_kind t names
  unfolding tree_kind
  whole_none a = sym (alone_none _ (ending_none a))

  module _ {p : Part} (a : Ending t names (length t) (Some p)) where
    pub whole_more : (p.start ≡ 0 → ⊥) → None ≡ tree_kind t names
    unfolding tree_kind
    whole_more f =
        sym (more _ (ap is_empty (sym (ending_from a).left) ∙ some_bytes t names p.start (pos_of_ne-zero f)))

    pub whole_some : p.start ≡ 0 → Some p.sort ≡ tree_kind t names
    unfolding tree_kind
    whole_some z =
        alone_some _ p.sort (ending_is a) (ap is_empty (sym (ending_from a).left) ∙ rw z (no_bytes t names))

-- a stack of one expression is of its kind, and any other of neither
alone_says : (s : Stack) → Holds (whole_kind s) (λ e. s ≡ push e empty)
unfolding Holds whole_kind is_empty under is_whole
alone_says empty = λ e h. never (sym (ap is_empty h))
alone_says broken = λ e h. never (ap is_whole h)
alone_says (push e (push f s)) = λ x h. never (ap (λ (s : Stack). is_empty (under s)) h)
alone_says (push e broken) = λ x h. never (ap (λ (s : Stack). is_empty (under s)) h)
alone_says (push (boolean c) empty) = (c, refl)
alone_says (push (vector p) empty) = (p, refl)

-- the theorem: what a tree is, is what it decodes to
pub kind_decodes : (t : List ℕ) (names : ℕ) → Holds (tree_kind t names) (Decodes names t)
unfolding tree_kind Decodes
kind_decodes t names = alone_says (stack_at t names (length t))
