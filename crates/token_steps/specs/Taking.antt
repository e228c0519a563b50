-- Document 01, "Text": the token that is taken where one is to start, and bytes that form no token.
-- `bs` are the bytes from there to the end of the text.
--   byte_at, name_bytes            a byte; how many name bytes stand together
--   is_plain, is_based, is_half     one of `0 1 ?`; `'b` and a literal; the same with no name byte right after it
--   Barred                       what bars a token, and the byte that is refused
--   Taken, Tokenless, NoToken    the longest token is taken; none starts; none is taken
use Rattle.std.specs.Prelude.{ℕ, suc, ◌+◌, ◌<◌, ◌≤◌, Bool, true, false, not, ◌&&◌, ◌≡◌, List, [], ◌∷◌, ◌++◌, eqb, ltb, length, get_or, if◌then◌else◌}
use Rattle.alf.specs.Names.{starts_name, goes_on_name}
use Rattle.token_steps.specs.Classes.{half_of}
use Rattle.token_steps.specs.Spelling.{IsToken}

-- byte k of bs; 0, which belongs to no class, past their end
abbrev pub byte_at : List ℕ → ℕ → ℕ
byte_at bs k = get_or bs k 0

-- how many name bytes stand together
unfoldable pub name_bytes : List ℕ → ℕ
name_bytes [] = 0
name_bytes (b ∷ bs) = if goes_on_name b then suc (name_bytes bs) else 0

-- the byte is one of `0 1 ?`
abbrev pub is_plain : ℕ → Bool
is_plain b = ltb (half_of b) 3

-- `'b` and one of `? 0 1 X H L W Z U` at byte k
abbrev pub is_based : List ℕ → ℕ → Bool
is_based bs k = eqb (byte_at bs k) 39 && (eqb (byte_at bs (k + 1)) 98 && ltb (half_of (byte_at bs (k + 2))) 9)

-- a half: based, with no letter, digit or `_` right after it
abbrev pub is_half : List ℕ → ℕ → Bool
is_half bs k = is_based bs k && not (goes_on_name (byte_at bs (k + 3)))

-- No token, and the byte that is refused, counted from the first of bs. A bad based half is refused at its own `'`.
pub data Barred (bs : List ℕ) : ℕ → Type 0 where
  -- three or more of `0 1 ?` together
  together :
      is_plain (byte_at bs 0) ≡ true →
      is_plain (byte_at bs 1) ≡ true →
      is_plain (byte_at bs 2) ≡ true →
      Barred bs 0
  -- over 32 name bytes together
  overlong : starts_name (byte_at bs 0) ≡ true → 32 < name_bytes bs → Barred bs 0
  -- `'b` and a literal with a letter, digit or `_` right after it
  loose : is_based bs 0 ≡ true → goes_on_name (byte_at bs 3) ≡ true → Barred bs 0
  -- a lone `'b?`
  lone : is_based bs 0 ≡ true → byte_at bs 2 ≡ 63 → (byte_at bs 3 ≡ 39 → ⊥) → Barred bs 0
  -- what is written together with a half, and is none
  bad_half : is_half bs 0 ≡ true → byte_at bs 3 ≡ 39 → is_half bs 3 ≡ false → Barred bs 3

-- The longest token is taken: w is one, bs begin with it, and with no longer one.
pub record Taken (bs w : List ℕ) (c : ℕ) (after : List ℕ) : Type 0 where
  pub token : IsToken w c
  pub there : bs ≡ w ++ after
  pub longest : (v : List ℕ) (d : ℕ) (rest : List ℕ) → IsToken v d → bs ≡ v ++ rest
      → length v ≤ length w
  pub allowed : (k : ℕ) → Barred bs k → ⊥

-- bs begin with no token
abbrev pub Tokenless : List ℕ → Type 0
Tokenless bs = (v : List ℕ) (d : ℕ) (rest : List ℕ) → IsToken v d → bs ≡ v ++ rest → ⊥

pub data NoToken (bs : List ℕ) : ℕ → Type 0 where
  barred : {k : ℕ} → Barred bs k → NoToken bs k
  tokenless : Tokenless bs → ((k : ℕ) → Barred bs k → ⊥) → NoToken bs 0
