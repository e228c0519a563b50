-- Document 01, refusal 6: the name that stands at a byte of a text, and the number of the slot that holds it.
-- That a number is the first slot's with the name, or that there is none, is a law.
--   word                      the name bytes from a byte on
--   first                     the first number that passes a test
--   slot_number, number_at        the number of a name, and of the name at a byte
--   is_unknown, unknown_at      a token is a name that no slot holds; the first that is
use Rattle.std.specs.Prelude.{ℕ, zero, suc, Bool, ◌&&◌, List, eqb, take, drop, get_or, if◌then◌else◌}
use Rattle.basics.specs.Words.{same}
use Rattle.alf.specs.Names.{names_in, name_at}
use Rattle.token_steps.specs.Taking.{name_bytes}

-- the name bytes that stand together from byte p on
unfoldable pub word : List ℕ → ℕ → List ℕ
word text p = take (name_bytes (drop p text)) (drop p text)

-- the first number below n that passes; n where none does
unfoldable pub first : ℕ → (ℕ → Bool) → ℕ
first zero p = 0
first (suc n) p = if p 0 then 0 else suc (first n (λ k. p (suc k)))

-- the number of the slot that holds a name; the number of slots where none does
unfoldable pub slot_number : List ℕ → List ℕ → ℕ
slot_number names w = first (names_in names) (λ k. same (name_at names k) w)

-- the number of the name that stands at byte p
abbrev pub number_at : List ℕ → List ℕ → ℕ → ℕ
number_at names text p = slot_number names (word text p)

-- a token is a name that no slot holds
unfoldable pub is_unknown : List ℕ → List ℕ → ℕ → ℕ → Bool
is_unknown names text code place = eqb code 0 && eqb (number_at names text place) (names_in names)

-- the first token that is; the number of tokens where none is
abbrev pub unknown_at : List ℕ → List ℕ → List ℕ → List ℕ → ℕ → ℕ
unknown_at names text codes places count =
    first count (λ i. is_unknown names text (get_or codes i 0) (get_or places i 0))
