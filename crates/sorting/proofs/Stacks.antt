-- Laws of the stack of sorts and of the bytes behind it.
--   bytes_append                           the bytes of two stacks, one on the other
--   put_puts                               `down` expressions go and one comes, with one byte more
--   started                                before the first node
--   top_sort, shows_depth, shows_ok        the sort k places below the last made; what a run that goes on shows
--   halted_shows, shows_stopped            stopped at a place
use mathlib.Core.Path.{◌≡◌, refl, sym, ap, ◌∙◌}
use mathlib.Core.Bool.{Bool, true, false}
use mathlib.Core.List.{List, [], ◌∷◌, ◌++◌, append_assoc, append-nil}
use Prim.Native.Nat.{ℕ, zero, suc, ◌+◌, ◌-◌, ◌<◌}
use native.Mathlib.Omega.{arith}
use native.Mathlib.Numerals.{add-one}
use lib.ListN.{length, take, get_or, set, replicate, length-append, length-set, get_or-append}
use lib.Seq.{take-suc-set, take-take, take_at, get_or-take, get_or_at}
use Rattle.alf.specs.Expressions.{Expression}
use Rattle.alf.specs.Bytes.{bytes_of}
use Rattle.grammar.specs.Answers.{padded}
use Rattle.basics.proofs.Stores.{front_next}
use Rattle.sorting.specs.declared.sorts.Sorting.{Sorting}
use Rattle.sorting.specs.Passes.{going, stopped, is_vector, sorts_of, stack_bytes, Shows, goes, stops}
use Rattle.sorting.specs.Passes.{Moved}
use Rattle.sorting.specs.Passes.{sort_at, Room, Put, Halted, Started}

sorts_append : (ys xs : List Expression) → sorts_of (ys ++ xs) ≡ sorts_of xs ++ sorts_of ys
unfolding sorts_of
sorts_append [] xs = sym (append-nil (sorts_of xs))
sorts_append (y ∷ ys) xs = rw (sorts_append ys xs, append_assoc) refl

pub bytes_append : (ys xs : List Expression) → stack_bytes (ys ++ xs) ≡ stack_bytes xs ++ stack_bytes ys
unfolding stack_bytes
bytes_append [] xs = sym (append-nil (stack_bytes xs))
bytes_append (y ∷ ys) xs = rw (bytes_append ys xs, append_assoc) refl

sorts_length : (xs : List Expression) → length (sorts_of xs) ≡ length xs
unfolding sorts_of
sorts_length [] = refl
sorts_length (x ∷ xs) = rw length-append (omega (arith, sorts_length xs))

-- `down` expressions go, and one comes
module _ (s : Sorting) (down : ℕ) (v : Bool) (b : ℕ) (room : Room s down) where
  abbrev after : Sorting
  after =
      record {
        ok = s.ok;
        place = s.place;
        depth = s.depth - down + 1;
        len = s.len + 1;
        sorts = set s.sorts (s.depth - down) v;
        tree = set s.tree s.len b;
      }

  put_moved : Moved s after
  put_moved =
      let f = room.fine in
      record {
        fine =
            record {
              sorts_whole = length-set s.sorts _ v ∙ f.sorts_whole;
              tree_whole = length-set s.tree _ b ∙ f.tree_whole;
              deep = omega (arith, f.deep, room.there);
              small = omega (arith, room.spare);
            };
        grown = omega arith;
      }

  module _ (ys xs : List Expression) (z : Expression) (n : length ys ≡ down) where
    put_shows :
        s.depth ≡ length (ys ++ xs) →
        take s.depth s.sorts ≡ sorts_of (ys ++ xs) →
        s.len ≡ length (stack_bytes (ys ++ xs)) →
        s.tree ≡ padded (stack_bytes (ys ++ xs)) →
        is_vector z ≡ v →
        bytes_of z ≡ stack_bytes ys ++ (b ∷ []) →
        Shows after (going (z ∷ xs))
    unfolding sorts_of stack_bytes
    put_shows d k l t sv bz =
        let f = room.fine in
        let q : s.depth - down ≡ length xs = omega (arith, length-append ys xs) in
        let below : take (length xs) s.sorts ≡ sorts_of xs =
        sym (take-take (length xs) s.depth s.sorts (omega (arith, length-append ys xs)))
        ∙ ap (take (length xs)) (k ∙ sorts_append ys xs)
        ∙ take_at (sorts_of xs) (sorts_of ys) (length xs) (sorts_length xs)
        in
        let whole : stack_bytes (ys ++ xs) ++ (b ∷ []) ≡ stack_bytes xs ++ bytes_of z =
        ap (λ (w : List ℕ). w ++ (b ∷ [])) (bytes_append ys xs)
        ∙ append_assoc (stack_bytes xs) (stack_bytes ys) (b ∷ [])
        ∙ ap (λ (w : List ℕ). stack_bytes xs ++ w) (sym bz)
        in
        goes {xs = z ∷ xs} room.goes (omega arith)
        (rw (q, add-one)
        (take-suc-set s.sorts (length xs) v (omega
        (arith, f.sorts_whole, f.deep, room.spare, length-append ys xs))
        ∙ rw (below, sv) refl))
        (ap (λ (m : ℕ). m + 1) l ∙ sym (length-append (stack_bytes (ys ++ xs)) (b ∷ [])) ∙ ap length whole)
        (rw (t, l)
        (front_next (replicate 256 0) (stack_bytes (ys ++ xs)) b (omega (arith, room.spare)) ∙ ap padded whole))

  pub put_puts : Put s down v b after
  put_puts =
      record {
        moved = put_moved;
        puts = λ ys xs z n h sv bz. take_apart ys xs z n h sv bz;
      }
    where
      take_apart :
          (ys xs : List Expression) (z : Expression) →
          length ys ≡ down →
          Shows s (going (ys ++ xs)) →
          is_vector z ≡ v →
          bytes_of z ≡ stack_bytes ys ++ (b ∷ []) →
          Shows after (going (z ∷ xs))
      take_apart ys xs z n (goes o d k l t) sv bz = put_shows ys xs z n d k l t sv bz

-- before the first node
pub started :
    Started
    (record {
      ok = true;
      place = 0;
      depth = 0;
      len = 0;
      sorts = replicate 256 false;
      tree = replicate 256 0;
    })
unfolding sorts_of stack_bytes
started =
    record {
      fine = record { sorts_whole = refl; tree_whole = refl; deep = omega arith; small = omega arith };
      none = refl;
      shows = goes {xs = []} refl refl refl refl refl;
    }

-- the sort k places below the last made
stack_sort : (xs : List Expression) (k : ℕ) (d : Expression) → k < length xs →
    get_or (sorts_of xs) (length xs - 1 - k) false ≡ is_vector (get_or xs k d)
unfolding sorts_of
stack_sort [] k d h = absurd (omega arith)
stack_sort (x ∷ xs) zero d h =
    get_or_at (sorts_of xs) (is_vector x) [] false (length (x ∷ xs) - 1 - 0) (omega (arith, sorts_length xs))
stack_sort (x ∷ xs) (suc k) d h =
    let e : suc (length xs) - 1 - suc k ≡ length xs - 1 - k = omega arith in
    rw e
    (get_or-append (sorts_of xs) (is_vector x ∷ []) false _ (omega (arith, sorts_length xs))
    ∙ stack_sort xs k d (omega arith))

pub top_sort : {s : Sorting} {xs : List Expression} (k : ℕ) (d : Expression) → Shows s (going xs) → k < length xs
    → sort_at s k ≡ is_vector (get_or xs k d)
unfolding sort_at
top_sort {s} {xs} k d (goes o n e l t) h =
    sym (get_or-take s.depth s.sorts (s.depth - 1 - k) false (omega arith))
    ∙ rw (e, n) (stack_sort xs k d h)

pub shows_depth : {s : Sorting} {xs : List Expression} → Shows s (going xs) → s.depth ≡ length xs
shows_depth (goes o n e l t) = n

pub shows_ok : {s : Sorting} {xs : List Expression} → Shows s (going xs) → s.ok ≡ true
shows_ok (goes o n e l t) = o

pub halted_shows : {s r : Sorting} {p : ℕ} → Halted p s r → Shows r (stopped p)
halted_shows {s} {r} h = rw (sym h.place_is) (stops h.stopped_is)

pub shows_stopped : {s : Sorting} {p : ℕ} → Shows s (stopped p) → s.ok ≡ false
shows_stopped (stops o) = o
