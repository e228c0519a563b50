-- Document 02, [4]: what a refused reading shows, for each number, by the bytes at its place.
--   RunsToBlank    bytes up to the next blank or the text's end
--   TokenAt        the bytes are a token, the longest that starts there
--   ShownAs        what is shown for a number at a place
use Rattle.std.specs.Prelude.{ℕ, ◌+◌, ◌<◌, true, false, ◌≡◌, ◌⊎◌, List, length, get_or, take, drop}
use Rattle.alf.specs.States.{among}
use Rattle.token_steps.specs.Classes.{is_blank_lem}
use Rattle.token_steps.specs.Taking.{Taken}
use Rattle.tokens.specs.Extents.{OfToken, Shown}

-- k bytes from place p on, at least one, and none of them a blank; behind them is a blank, or the text ends
pub record RunsToBlank (text : List ℕ) (p k : ℕ) : Type 0 where
  pub some : 0 < k
  pub no_blank : (i : ℕ) → i < k → is_blank_lem (get_or text (p + i) 0) ≡ false
  pub behind : (p + k ≡ length text) ⊎ (is_blank_lem (get_or text (p + k) 0) ≡ true)

-- the k bytes from place p on are the token that is taken there
pub record TokenAt (text : List ℕ) (p k : ℕ) : Type 0 where
  pub code : ℕ
  pub after : List ℕ
  pub taken : Taken (drop p text) (take k (drop p text)) code after

pub record ShownAs (text : List ℕ) (n p k : ℕ) : Type 0 where
  pub of_bytes : n ≡ 2 → RunsToBlank text p k
  pub of_token : among n OfToken ≡ true → TokenAt text p k ⊎ ((p ≡ length text) × (k ≡ 0))
  pub of_others : among n Shown ≡ false → k ≡ 0
