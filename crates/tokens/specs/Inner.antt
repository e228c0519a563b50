-- What the inner functions ask of their callers, and what they give.
--   stopped_at, Scan    the refusal where bytes form no token; the text's tokens, limits aside
--   changed             brackets open or tokens counted behind a token
--   over_at, over_found   the first token behind which there are too many
--   Counting           codes that can be counted
use Rattle.std.specs.Prelude.{Result, Ok, Err, Option, Some, None, ℕ, suc, ◌≤◌, Bool, true, false, List, [], ◌∷◌, ltb, length, drop, if◌then◌else◌}
use Rattle.basics.specs.declared.Refusal.{Refusal}
use Rattle.basics.specs.Refusing.{refusal_over_lem}
use Rattle.tokens.specs.declared.Tokens.{Tokens}
use Rattle.tokens.specs.Texts.{Token, Reads, Stuck, opened, counted}
use Rattle.tokens.specs.Extents.{to_blank_lem}
use Rattle.tokens.specs.Tokenizing.{made}

-- 2 at a place, with the bytes up to the next blank or the end
abbrev pub stopped_at : List ℕ → ℕ → Refusal
stopped_at text p = refusal_over_lem 2 p (to_blank_lem (drop p text))

-- the text's tokens, limits aside
pub data Scan (text : List ℕ) : Result Tokens Refusal → Type 0 where
  stopped : (q : ℕ) → Stuck 0 text q → Scan text (Err (stopped_at text q))
  whole : (ts : List Token) → Reads 0 text ts → Scan text (Ok (made ts))

-- what a token changes: the open brackets, or the counted tokens
abbrev pub changed : Bool → ℕ → ℕ → ℕ
changed true = opened
changed false = counted

pub record Counting (codes : List ℕ) (count limit : ℕ) : Type 0 where
  pub inside : count ≤ 4096
  pub there : count ≤ length codes
  pub below : limit ≤ 4096

-- the first code behind which a number is over the limit, as an index; the number of codes where there is none
unfoldable pub over_at : (ℕ → ℕ → ℕ) → ℕ → ℕ → List ℕ → ℕ
over_at f limit n [] = 0
over_at f limit n (c ∷ cs) = if ltb limit (f c n) then 0 else suc (over_at f limit (f c n) cs)

abbrev pub over_found : (ℕ → ℕ → ℕ) → ℕ → List ℕ → Option ℕ
over_found f limit cs = if ltb (over_at f limit 0 cs) (length cs) then Some (over_at f limit 0 cs) else None
