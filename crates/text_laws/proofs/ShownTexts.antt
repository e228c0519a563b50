-- What a refused reading shows: the bytes of the refused token, or up to the next blank.
--   stuck_byte      where bytes form no token there is a byte, and it is no blank
--   runs_to_blank   the bytes up to the next blank, counted
--   two_stuck       2 is given where bytes form no token
--   refusal_shows   the theorem
use Rattle.std.specs.Prelude.{Err}
use mathlib.Core.Path.{◌≡◌, refl, sym, ap, ◌∙◌}
use mathlib.Core.Bool.{Bool, true, false}
use mathlib.Core.Logic.{◌⊎◌, inl, inr}
use mathlib.Core.List.{List, [], ◌∷◌, ◌++◌}
use Prim.Native.Nat.{ℕ, zero, suc, ◌+◌, ◌<◌, ◌≤◌}
use native.Mathlib.Omega.{arith}
use native.Mathlib.Numerals.{add-one}
use lib.Dec.{eqb}
use lib.ListN.{length, get_or, take, drop, length-drop, get_or-eq_default}
use lib.Seq.{drop-cons, get_or-drop, take-append_seam}
use Rattle.basics.specs.declared.Refusal.{Refusal}
use Rattle.basics.proofs.Bools.{below?, or_right}
use Rattle.alf.specs.declared.Rules.{Rules}
use Rattle.alf.specs.declared.Sort.{Sort}
use Rattle.alf.specs.States.{among}
use Rattle.alf.specs.Refusals.{RefusedWith, Passed, numbers_of}
use Rattle.alf.proofs.Outcomes.{refused_among}
use Rattle.alf.proofs.Orders.{refused_either}
use Rattle.names.specs.Check.{names_order}
use Rattle.token_steps.specs.Classes.{is_blank_lem}
use Rattle.token_steps.specs.Taking.{NoToken}
use Rattle.token_steps.specs.Taking.Barred.{together, overlong, loose, lone, bad_half}
use Rattle.token_steps.specs.Taking.NoToken.{barred, tokenless}
use Rattle.token_steps.proofs.Bytes.{contrary}
use Rattle.tokens.specs.Texts.{Stuck, order}
use Rattle.tokens.specs.Texts.Stuck.{blank, token, here}
use Rattle.tokens.specs.Extents.{to_blank_lem, OfToken, Extent, to_blank_rule, at_end, other, RefusedIn}
use Rattle.tokens.specs.Extents as extents
use Rattle.tokens.proofs.ShownBytes.{extent_unique}
use Rattle.reader.specs.Reading.{tree_order, read_order, ReadsText, refused}
use Rattle.reader.proofs.ShownTokens.{behind_first}
use Rattle.text_laws.specs.Shown.{RunsToBlank, TokenAt, ShownAs}

-- a byte of a text that is no blank
record Byte (text : List ℕ) (q : ℕ) : Type 0 where
  inside : q < length text
  unblank : is_blank_lem (get_or text q 0) ≡ false

quote_unblank : (b : ℕ) → b ≡ 39 → is_blank_lem b ≡ false
unfolding is_blank_lem among
quote_unblank b e = rw e refl

-- the byte that is refused, counted from the first
none_byte : (b : ℕ) (bs : List ℕ) {k : ℕ} → is_blank_lem b ≡ false → NoToken (b ∷ bs) k → Byte (b ∷ bs) k
none_byte b bs h (barred (together x y z)) = record { inside = omega arith; unblank = h }
none_byte b bs h (barred (overlong x y)) = record { inside = omega arith; unblank = h }
none_byte b bs h (barred (loose x y)) = record { inside = omega arith; unblank = h }
none_byte b bs h (barred (lone x y z)) = record { inside = omega arith; unblank = h }
none_byte b bs h (barred (bad_half x y z)) =
    record { inside = go (below? 3 (length (b ∷ bs))); unblank = quote_unblank _ y }
  where
    go : (3 < length (b ∷ bs)) ⊎ (length (b ∷ bs) ≤ 3) → 3 < length (b ∷ bs)
    go (inl l) = l
    go (inr l) = let n : get_or (b ∷ bs) 3 0 ≡ 0 = get_or-eq_default (b ∷ bs) 0 l in absurd (omega (arith, n, y))
none_byte b bs h (tokenless t f) = record { inside = omega arith; unblank = h }

module _ (text : List ℕ) where
  from : (p k : ℕ) {ds : List ℕ} → drop p text ≡ ds → Byte ds k → Byte text (p + k)
  from p k e c =
      let l = c.inside in
      record {
        inside = omega (arith, ap length e, length-drop p text);
        unblank = ap is_blank_lem (sym (get_or-drop p text k 0) ∙ ap (λ (ds : List ℕ). get_or ds k 0) e) ∙ c.unblank;
      }

  stuck_byte : {p q : ℕ} {ds : List ℕ} → Stuck p ds q → drop p text ≡ ds → Byte text q
  stuck_byte (blank {p = p} {b = b} h s) e =
      let l : drop (p + 1) text ≡ _ = behind_first text p (b ∷ []) e in stuck_byte s (rw add-one at l)
  stuck_byte (token {p = p} {w = w} {after = after} h t s) e =
      stuck_byte s (behind_first text p w (e ∙ t.there))
  stuck_byte (here {p = p} {b = b} {k = k} {bs = bs} h n) e = from p k e (none_byte b bs h n)

-- the bytes up to the next blank
stop_here : (b : ℕ) (bs : List ℕ) → is_blank_lem b ≡ true → to_blank_lem (b ∷ bs) ≡ 0
unfolding to_blank_lem
stop_here b bs e = rw e refl

one_more_lem : (b : ℕ) (bs : List ℕ) → is_blank_lem b ≡ false → to_blank_lem (b ∷ bs) ≡ suc (to_blank_lem bs)
unfolding to_blank_lem
one_more_lem b bs e = rw e refl

no_more : to_blank_lem [] ≡ 0
unfolding to_blank_lem
no_more = refl

unblank : (bs : List ℕ) (i : ℕ) → i < to_blank_lem bs → is_blank_lem (get_or bs i 0) ≡ false
unblank [] i h = absurd (omega (arith, no_more))
unblank (b ∷ bs) i h = go i h (is_blank_lem b) refl (unblank bs)
  where
    go : (i : ℕ) → i < to_blank_lem (b ∷ bs) → (q : Bool) → is_blank_lem b ≡ q
        → ((j : ℕ) → j < to_blank_lem bs → is_blank_lem (get_or bs j 0) ≡ false)
        → is_blank_lem (get_or (b ∷ bs) i 0) ≡ false
    go i h true e f = absurd (omega (arith, stop_here b bs e))
    go zero h false e f = e
    go (suc i) h false e f = f i (omega (arith, one_more_lem b bs e))

then : (bs : List ℕ) → (to_blank_lem bs ≡ length bs) ⊎ (is_blank_lem (get_or bs (to_blank_lem bs) 0) ≡ true)
then [] = inl no_more
then (b ∷ bs) = go (is_blank_lem b) refl (then bs)
  where
    go : (q : Bool) → is_blank_lem b ≡ q → (to_blank_lem bs ≡ length bs) ⊎ (is_blank_lem (get_or bs (to_blank_lem bs) 0) ≡ true)
        → (to_blank_lem (b ∷ bs) ≡ length (b ∷ bs)) ⊎ (is_blank_lem (get_or (b ∷ bs) (to_blank_lem (b ∷ bs)) 0) ≡ true)
    go true e h = inr (rw (stop_here b bs e) e)
    go false e (inl h) = inl (omega (arith, one_more_lem b bs e))
    go false e (inr h) = inr (rw (one_more_lem b bs e) h)

blank_more : (ts : List ℕ) (i : ℕ) → i < length ts → is_blank_lem (get_or ts i 0) ≡ false
    → to_blank_lem (drop i ts) ≡ suc (to_blank_lem (drop (i + 1) ts))
unfolding to_blank_lem
blank_more ts i h e = rw (add-one, drop-cons ts i 0 h, e)

module _ (text : List ℕ) where
  runs_to_blank : (p : ℕ) → Byte text p → RunsToBlank text p (to_blank_lem (drop p text))
  runs_to_blank p c =
      record {
        some = omega (arith, blank_more text p c.inside c.unblank);
        no_blank = λ i h. ap is_blank_lem (sym (get_or-drop p text i 0)) ∙ unblank (drop p text) i h;
        behind = go (then (drop p text));
      }
    where
      go : (to_blank_lem (drop p text) ≡ length (drop p text))
          ⊎ (is_blank_lem (get_or (drop p text) (to_blank_lem (drop p text)) 0) ≡ true)
          → (p + to_blank_lem (drop p text) ≡ length text) ⊎ (is_blank_lem (get_or text (p + to_blank_lem (drop p text)) 0) ≡ true)
      go (inl h) = let l = c.inside in inl (omega (arith, length-drop p text))
      go (inr h) = inr (ap is_blank_lem (sym (get_or-drop p text (to_blank_lem (drop p text)) 0)) ∙ h)

-- 2 is given where bytes form no token
module _ (ρ : Rules) (names text : List ℕ) (sort : Sort) where
  no_name : (p : ℕ) → RefusedWith (names_order names) 2 p → ⊥
  unfolding numbers_of among
  no_name p h = contrary (refused_among (names_order names) 2 p h) refl

  no_tree : (p : ℕ) → RefusedWith (tree_order ρ names text sort) 2 p → ⊥
  unfolding numbers_of among tree_order
  no_tree p h = contrary (refused_among (tree_order ρ names text sort) 2 p h) refl

  by_order : (p : ℕ) → RefusedWith (order text) 2 p → Stuck 0 text p
  unfolding RefusedWith order
  by_order p (inl x) = let e = x.0 in absurd (omega arith)
  by_order p (inr (a, inl x)) = x.1.given
  by_order p (inr (a, inr (b, inl x))) = let e = x.0 in absurd (omega arith)
  by_order p (inr (a, inr (b, inr (c, inl x)))) = let e = x.0 in absurd (omega arith)
  by_order p (inr (a, inr (b, inr (c, inr x)))) = absurd x.1

  two_stuck : (p : ℕ) → RefusedWith (read_order ρ names text sort) 2 p → Stuck 0 text p
  two_stuck p h = go (refused_either (names_order names) _ 2 p h)
    where
      on : RefusedWith (order text) 2 p ⊎ (Passed (order text) × RefusedWith (tree_order ρ names text sort) 2 p)
          → Stuck 0 text p
      on (inl x) = by_order p x
      on (inr x) = absurd (no_tree p x.1)

      go : RefusedWith (names_order names) 2 p
          ⊎ (Passed (names_order names) × RefusedWith (order text ++ tree_order ρ names text sort) 2 p)
          → Stuck 0 text p
      go (inl x) = absurd (no_name p x)
      go (inr x) = on (refused_either (order text) (tree_order ρ names text sort) 2 p x.1)

-- the bytes of a token
by_token : {text : List ℕ} {n p k : ℕ} → Extent text n p k → among n OfToken ≡ true
    → TokenAt text p k ⊎ ((p ≡ length text) × (k ≡ 0))
unfolding among
by_token (to_blank_rule e f) h = absurd (contrary (rw e at h) refl)
by_token {text} {p = p} (extents.token {w = w} {after = after} {c = c} g t f) h =
    inl (record { code = c; after = after; taken = rw (f, seam) t })
  where
    seam : take (length w) (drop p text) ≡ w
    seam = ap (take (length w)) t.there ∙ take-append_seam w after
by_token (at_end g q f) h = inr (q, f)
by_token {n = n} (other g f) h = absurd (contrary h (or_right (eqb n 2) _ g))

-- the theorem
pub refusal_shows : {ρ : Rules} {names text : List ℕ} {sort : Sort} {r : Refusal}
    → ReadsText ρ names text sort (Err r) → ShownAs text r.number r.place r.extent
refusal_shows {ρ} {names} {text} {sort} (refused r h) =
    record {
      of_bytes = λ n. two r h n;
      of_token = λ n. by_token h.shows n;
      of_others = λ n. extent_unique text _ _ h.shows (other n refl);
    }
  where
    two : (r : Refusal) → RefusedIn text (read_order ρ names text sort) r → r.number ≡ 2
        → RunsToBlank text r.place r.extent
    two r h n =
        let s = two_stuck ρ names text sort r.place (rw n at h.by) in
        let k = extent_unique text r.number r.place h.shows (to_blank_rule n refl) in
        rw k (runs_to_blank text r.place (stuck_byte text s refl))
