-- Document 01, "Text" and rows 1 to 4 of "Numbers for refused work": the tokens of a text with their places, the place
-- where its bytes form no token, and its refusals in their order, each over the whole text before the next.
--   Token, token_at            a token in a text
--   Reads, Stuck              the tokens of a text, or the place where its bytes form none
--   opened, counted, running  brackets open and tokens counted, behind a token and up to a byte
--   deep, many                rows 3 and 4
--   OfTokens, order           a row that speaks of the text's tokens; all rows in their order
use Rattle.std.specs.Prelude.{ℕ, suc, ◌+◌, ◌-◌, true, false, ◌||◌, ◌≡◌, List, [], ◌∷◌, eqb, leb, length, if◌then◌else◌}
use Rattle.alf.specs.Refusals.{Row, Order, check, too_long, no_token, too_deep, too_many_tokens}
use Rattle.token_steps.specs.Classes.{is_blank_lem}
use Rattle.token_steps.specs.Taking.{Taken, NoToken}

-- a token in a text: its code and its first byte
pub record Token : Type 0 where
  pub code : ℕ
  pub place : ℕ

abbrev pub token_at : ℕ → ℕ → Token
token_at c p = record { code = c; place = p }

-- the bytes that stand from place p on to the text's end are these tokens
pub data Reads : ℕ → List ℕ → List Token → Type 0 where
  done : {p : ℕ} → Reads p [] []
  blank : {p b : ℕ} {bs : List ℕ} {ts : List Token} → is_blank_lem b ≡ true → Reads (suc p) bs ts
      → Reads p (b ∷ bs) ts
  token :
      {p b c : ℕ} {bs w after : List ℕ} {ts : List Token} →
      is_blank_lem b ≡ false →
      Taken (b ∷ bs) w c after →
      Reads (p + length w) after ts →
      Reads p (b ∷ bs) (token_at c p ∷ ts)

-- of the bytes that stand from place p on, those at place q form no token, and all before them are tokens and blanks
pub data Stuck : ℕ → List ℕ → ℕ → Type 0 where
  blank : {p b q : ℕ} {bs : List ℕ} → is_blank_lem b ≡ true → Stuck (suc p) bs q → Stuck p (b ∷ bs) q
  token :
      {p b c q : ℕ} {bs w after : List ℕ} →
      is_blank_lem b ≡ false →
      Taken (b ∷ bs) w c after →
      Stuck (p + length w) after q →
      Stuck p (b ∷ bs) q
  here : {p b k : ℕ} {bs : List ℕ} → is_blank_lem b ≡ false → NoToken (b ∷ bs) k → Stuck p (b ∷ bs) (p + k)

-- a number that each token changes by its code: what it is behind the tokens that start at byte p or before
unfoldable pub running : (ℕ → ℕ → ℕ) → ℕ → List Token → ℕ → ℕ
running f n [] p = n
running f n (t ∷ ts) p = if leb t.place p then running f (f t.code n) ts p else n

-- open brackets; a `)` with none open is skipped
unfoldable pub opened : ℕ → ℕ → ℕ
opened c n = if eqb c 62 then n + 1 else if eqb c 63 then n - 1 else n

-- tokens; brackets and `:` are not counted
unfoldable pub counted : ℕ → ℕ → ℕ
counted c n = if eqb c 61 || (eqb c 62 || eqb c 63) then n else n + 1

-- a row of the table that speaks of the text's tokens
pub record OfTokens (text : List ℕ) (row : List Token → Row) (p : ℕ) : Type 0 where
  pub tokens : List Token
  pub read : Reads 0 text tokens
  pub holds : row tokens p

abbrev pub deep : List Token → Row
deep ts = too_deep (running opened 0 ts)

abbrev pub many : List Token → Row
many ts = too_many_tokens (running counted 0 ts)

unfoldable pub order : List ℕ → Order
order text =
    check 1 (too_long (length text)) ∷
    check 2 (no_token (Stuck 0 text)) ∷
    check 3 (OfTokens text deep) ∷
    check 4 (OfTokens text many) ∷
    []
