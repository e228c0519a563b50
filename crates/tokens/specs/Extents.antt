-- Document 02, [4]: how many bytes a refusal of a text shows, from its place on.
--   to_blank_lem         up to the next blank or the end
--   OfToken, Shown  the numbers whose place is a token; all numbers that show bytes
--   Extent          the bytes that a refusal with a number at a place shows
--   RefusedIn       a refusal of a call that reads a text
-- That there is one extent for a number and a place is a law.
use Rattle.std.specs.Prelude.{ℕ, suc, true, false, ◌≡◌, List, [], ◌∷◌, length, drop, if◌then◌else◌}
use Rattle.basics.specs.declared.Refusal.{Refusal}
use Rattle.alf.specs.States.{among}
use Rattle.alf.specs.Refusals.{Order, RefusedWith}
use Rattle.token_steps.specs.Classes.{is_blank_lem}
use Rattle.token_steps.specs.Taking.{Taken}

unfoldable pub to_blank_lem : List ℕ → ℕ
to_blank_lem [] = 0
to_blank_lem (b ∷ bs) = if is_blank_lem b then 0 else suc (to_blank_lem bs)

-- 5, 6 and 7 are refused at a token, or at the text's end; 2 at bytes that form none
abbrev pub OfToken : List ℕ
OfToken = 5 ∷ 6 ∷ 7 ∷ []

abbrev pub Shown : List ℕ
Shown = 2 ∷ OfToken

-- the refusal with number n at place p of the text shows k bytes
pub data Extent (text : List ℕ) (n p k : ℕ) : Type 0 where
  -- 2: the bytes from the place up to the next blank or the end
  to_blank_rule : n ≡ 2 → k ≡ to_blank_lem (drop p text) → Extent text n p k
  -- 5, 6, 7: the bytes of the token that is taken at the place
  token :
      {w after : List ℕ} {c : ℕ} →
      among n OfToken ≡ true →
      Taken (drop p text) w c after →
      k ≡ length w →
      Extent text n p k
  -- 0 where the place is the text's end
  at_end : among n OfToken ≡ true → p ≡ length text → k ≡ 0 → Extent text n p k
  -- 0 for every other number
  other : among n Shown ≡ false → k ≡ 0 → Extent text n p k

-- number and place by the call's order, and the bytes of the text that are shown
pub record RefusedIn (text : List ℕ) (order : Order) (r : Refusal) : Type 0 where
  pub by : RefusedWith order r.number r.place
  pub shows : Extent text r.number r.place r.extent
