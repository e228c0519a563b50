-- Document 01, "Text": which byte strings are tokens, each with its code.
--   0           a name                            50 51 52 53   ->  <->  &>  <&>
--   32 to 39    a literal, 32 + the state's code  60 61         ?  :
--   40 41       & &&, | ||                        62 63         (  )
--   42 43       ^  ~^                             64 to 144     an edge of two halves, 64 + 9 f + t
--   44 to 49    == != > < >= <=                   145 146 147   ?!, ?-, ! ~
-- Names: Spelling, _means_, spellings, _In_ (what is spelled one way only); based, edge_code; IsToken (a byte string is
-- the token with a code).
use Rattle.std.specs.Prelude.{ℕ, ◌+◌, ◌*◌, ◌<◌, true, ◌≡◌, List, [], ◌∷◌}
use Rattle.alf.specs.Names.{is_name}
use Rattle.token_steps.specs.Classes.{half_of}

pub record Spelling : Type 0 where
  pub bytes : List ℕ
  pub code : ℕ

infix 90 ◌means◌
abbrev pub ◌means◌ : List ℕ → ℕ → Spelling
◌means◌ w c = record { bytes = w; code = c }

-- What is spelled one way only, three bytes first, then two, then one: the unbased literals, `?!`, `?-` and operators.
unfoldable pub spellings : List Spelling
spellings =
    (60 ∷ 45 ∷ 62 ∷ []) means 51 ∷  -- <->
    (60 ∷ 38 ∷ 62 ∷ []) means 53 ∷  -- <&>
    (38 ∷ 38 ∷ []) means 40 ∷  -- &&
    (124 ∷ 124 ∷ []) means 41 ∷  -- ||
    (126 ∷ 94 ∷ []) means 43 ∷  -- ~^
    (61 ∷ 61 ∷ []) means 44 ∷  -- ==
    (33 ∷ 61 ∷ []) means 45 ∷  -- !=
    (62 ∷ 61 ∷ []) means 48 ∷  -- >=
    (60 ∷ 61 ∷ []) means 49 ∷  -- <=
    (45 ∷ 62 ∷ []) means 50 ∷  -- ->
    (38 ∷ 62 ∷ []) means 52 ∷  -- &>
    (63 ∷ 33 ∷ []) means 145 ∷  -- ?!
    (63 ∷ 45 ∷ []) means 146 ∷  -- ?-
    (48 ∷ []) means 32 ∷  -- 0
    (49 ∷ []) means 33 ∷  -- 1
    (38 ∷ []) means 40 ∷  -- &
    (124 ∷ []) means 41 ∷  -- |
    (94 ∷ []) means 42 ∷  -- ^
    (62 ∷ []) means 46 ∷  -- >
    (60 ∷ []) means 47 ∷  -- <
    (63 ∷ []) means 60 ∷  -- ?
    (58 ∷ []) means 61 ∷  -- :
    (40 ∷ []) means 62 ∷  -- (
    (41 ∷ []) means 63 ∷  -- )
    (33 ∷ []) means 147 ∷  -- !
    (126 ∷ []) means 147 ∷  -- ~
    []

infix 20 ◌In◌
pub data ◌In◌ : Spelling → List Spelling → Type 0 where
  here : {e : Spelling} {es : List Spelling} → e In (e ∷ es)
  there : {e d : Spelling} {es : List Spelling} → e In es → e In (d ∷ es)

-- `'b` and a byte
abbrev pub based : ℕ → List ℕ
based x = 39 ∷ 98 ∷ x ∷ []

abbrev pub edge_code : ℕ → ℕ → ℕ
edge_code f t = 64 + 9 * f + t

-- Names; literals: `0`, `1`, or `'b` and one of the eight; edges: two characters of `0 1 ?` written together, two based
-- literals written together (`'b?` allowed here), `?!` and `?-`; operators.
pub data IsToken : List ℕ → ℕ → Type 0 where
  name : {w : List ℕ} → is_name w ≡ true → IsToken w 0
  spelled : {w : List ℕ} {c : ℕ} → (w means c) In spellings → IsToken w c
  literal : (x : ℕ) → 0 < half_of x → half_of x < 9 → IsToken (based x) (31 + half_of x)
  edge : (x y : ℕ) → half_of x < 3 → half_of y < 3 → IsToken (x ∷ y ∷ []) (edge_code (half_of x) (half_of y))
  based_edge :
      (x y : ℕ) →
      half_of x < 9 →
      half_of y < 9 →
      IsToken (39 ∷ 98 ∷ x ∷ based y) (edge_code (half_of x) (half_of y))
