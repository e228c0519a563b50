-- What is read of a text, whatever sort is asked for: a refusal of the text's order, or the bytes of what it gives.
--   read_refused, read_sole                      refused, and with one number at one place
--   Found, read_found                            not refused: what was read is the bytes of an expression given
--   found_front                                  they are the front of the array
--   found_count, found_within, found_few         as many as is said: no more than the array has, and at most 256
--   found_accepted, found_decodes, found_sort    an accepted tree of the sort asked for, 10 is not given; what it is
--   IsVector, sorted_vector, found_vector        a vector expression, where one is asked for
--   vector_given, vector_decodes                 so it is what the text gives and what the bytes are
--   IsBoolean, sorted_boolean, found_boolean     a boolean expression, likewise
use Rattle.std.specs.Prelude.{Ok, Err}
use Prim.Native.Nat.{ℕ, ◌≤◌}
use native.Mathlib.Omega.{arith}
use mathlib.Core.Path.{◌≡◌, refl, ap, sym, ◌∙◌}
use mathlib.Core.Bool.{Bool, true, false}
use mathlib.Core.List.{List}
use lib.ListN.{length, take, replicate, length-take}
use Rattle.alf.specs.Names.{names_in}
use Rattle.alf.specs.declared.Rules.{Rules}
use Rattle.alf.specs.declared.Sort.{Sort}
use Rattle.alf.specs.declared.Sort.TheVariants as the_sort
use Rattle.alf.specs.Expressions.{Boolean, Vector, Expression, boolean, vector}
use Rattle.alf.specs.Bytes.{bytes_of}
use Rattle.alf.specs.Decoder.{Decodes}
use Rattle.alf.specs.Refusals.{Passed}
use Rattle.basics.proofs.Bools.{never}
use Rattle.basics.proofs.Stores.{front_take}
use Rattle.alf.proofs.Decoding.{decode_unique}
use Rattle.names.specs.Check.{names_order}
use Rattle.alf.proofs.Orders.{passed_left, Sole, sole_fixed}
use Rattle.acceptance.proofs.Acceptance.{accepted_decodes}
use Rattle.acceptance.specs.Accepted.{sort_of_lem, Accepted}
use Rattle.basics.specs.declared.Refusal.{Refusal}
use Rattle.reader.specs.declared.Read.{Read}
use Rattle.tokens.specs.Extents.{RefusedIn}
use Rattle.reader.specs.Reads.{made}
use Rattle.reader.specs.Reading.{read_order, Gives, ReadsText, refused, read}
use Rattle.reader.proofs.Unique.{read_fixed}
use Rattle.text_laws.proofs.GivenAccepted.{gives_accepted, gives_decodes}

-- the text is refused
pub read_refused : {ρ : Rules} {names text : List ℕ} {sort : Sort} {r : Refusal}
    → ReadsText ρ names text sort (Err r) → RefusedIn text (read_order ρ names text sort) r
read_refused (refused f a) = a

pub read_sole : (ρ : Rules) (names text : List ℕ) (sort : Sort) → Sole (read_order ρ names text sort)
read_sole ρ names text sort = sole_fixed (read_order ρ names text sort) (read_fixed ρ names text sort)

-- the text is not refused
pub record Found (ρ : Rules) (names text : List ℕ) (sort : Sort) (r : Read) : Type 0 where
  pub passed : Passed (read_order ρ names text sort)
  pub it : Expression
  pub gives : Gives ρ names text sort it
  pub is_it : r ≡ made it

pub read_found : {ρ : Rules} {names text : List ℕ} {sort : Sort} {r : Read}
    → ReadsText ρ names text sort (Ok r) → Found ρ names text sort r
read_found (read {x = x} a g) = record { passed = a; it = x; gives = g; is_it = refl }

module _ {ρ : Rules} {names text : List ℕ} {sort : Sort} {r : Read} (f : Found ρ names text sort r) where
  pub found_front : take r.len r.tree ≡ bytes_of f.it
  unfolding made
  found_front = rw f.is_it (front_take (replicate 256 0) (bytes_of f.it) (length (bytes_of f.it)) refl)

  pub found_count : r.len ≡ length (take r.len r.tree)
  unfolding made
  found_count = ap (λ (x : Read). x.len) f.is_it ∙ ap length (sym found_front)

  pub found_within : r.len ≤ length r.tree
  found_within = omega (arith, found_count, length-take r.len r.tree)

  found_names : Passed (names_order names)
  found_names = passed_left (names_order names) _ f.passed

  pub found_accepted : Accepted ρ (names_in names) sort (take r.len r.tree)
  found_accepted = rw found_front (gives_accepted found_names f.gives)

  pub found_few : r.len ≤ 256
  found_few = omega (arith, found_count, found_accepted.tokens)

  pub found_decodes : Decodes (names_in names) (take r.len r.tree) f.it
  found_decodes = rw found_front (gives_decodes found_names f.gives)

  pub found_sort : sort_of_lem f.it ≡ sort
  found_sort =
      let a = found_accepted in
      ap sort_of_lem (decode_unique _ _ f.it a.expression found_decodes (accepted_decodes a)) ∙ a.sorted

-- what it is, by the sort
is_vector : Sort → Bool
is_vector the_sort.Boolean = false
is_vector the_sort.Vector = true

pub record IsVector (x : Expression) : Type 0 where
  pub p : Vector
  pub is_vector_lem : x ≡ vector p

pub record IsBoolean (x : Expression) : Type 0 where
  pub c : Boolean
  pub is_boolean_lem : x ≡ boolean c

pub sorted_vector : (x : Expression) → sort_of_lem x ≡ the_sort.Vector → IsVector x
unfolding sort_of_lem is_vector
sorted_vector (boolean c) s = never (ap is_vector s)
sorted_vector (vector p) s = record { p = p; is_vector_lem = refl }

pub sorted_boolean : (x : Expression) → sort_of_lem x ≡ the_sort.Boolean → IsBoolean x
unfolding sort_of_lem is_vector
sorted_boolean (boolean c) s = record { c = c; is_boolean_lem = refl }
sorted_boolean (vector p) s = never (sym (ap is_vector s))

pub found_boolean : {ρ : Rules} {names text : List ℕ} {r : Read} (f : Found ρ names text the_sort.Boolean r)
    → IsBoolean f.it
found_boolean f = sorted_boolean f.it (found_sort f)

pub found_vector : {ρ : Rules} {names text : List ℕ} {r : Read} (f : Found ρ names text the_sort.Vector r)
    → IsVector f.it
found_vector f = sorted_vector f.it (found_sort f)

module _ {ρ : Rules} {names text : List ℕ} {r : Read} (f : Found ρ names text the_sort.Vector r) where
  pub vector_given : Gives ρ names text the_sort.Vector (vector (found_vector f).p)
  vector_given = rw (found_vector f).is_vector_lem at f.gives

  pub vector_decodes : Decodes (names_in names) (take r.len r.tree) (vector (found_vector f).p)
  vector_decodes = rw (found_vector f).is_vector_lem at (found_decodes f)
