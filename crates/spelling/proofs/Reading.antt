-- The text of some tokens reads as these tokens.
--   AllKnown      tokens that can all be written
--   text_reads    their text reads as they, each where it begins
-- No token begins with a blank, so that the blanks between them end one and begin none.
use Prim.Native.Nat.{ℕ, suc, ◌+◌, ◌≤◌, ◌<◌}
use native.Mathlib.Omega.{arith}
use mathlib.Core.Path.{◌≡◌, refl}
use mathlib.Core.Bool.{Bool, true, false, not, ◌&&◌}
use mathlib.Core.List.{List, [], ◌∷◌, ◌++◌}
use lib.Dec.{ltb, leb}
use lib.ListN.{length, get_or}
use Rattle.alf.specs.States.{among}
use Rattle.alf.specs.Names.{is_letter, starts_name, is_name}
use Rattle.basics.proofs.Bools.{and_left, and_right}
use borrow.Author.Tests.{leb-true, leb-false, ltb-true, ne_eqb, not-true}
use Rattle.token_steps.specs.Classes.{is_blank_lem, half_of}
use Rattle.token_steps.specs.Spelling.{IsToken, spellings}
use Rattle.token_steps.specs.Taking.{Taken}
use Rattle.tokens.specs.Texts.{Reads, token_at}
use Rattle.tokens.specs.Texts as texts
use Rattle.basics.proofs.Ranges.{all_from, all_from_law}
use Rattle.token_steps.proofs.Bytes.{contrary}
use Rattle.token_steps.proofs.Search.{all_in, in_all}
use Rattle.token_steps.proofs.TokenStarts.{token_size}
use Rattle.grammar.specs.declared.Token.{Token}
use Rattle.spelling.specs.Spelled.{spelled, following, text_of_lem}
use Rattle.spelling.specs.TokenPlaces.{tokens_from}
use Rattle.spelling.proofs.LongestSigns.{Behind, end, blank}
use Rattle.spelling.proofs.LongestWords.{Known, spelled_taken}

-- tokens that can all be written
pub data AllKnown (names : List ℕ) : List Token → Type 0 where
  none : AllKnown names []
  more : {t : Token} {ts : List Token} → Known names t → AllKnown names ts → AllKnown names (t ∷ ts)

pub following_behind : (names : List ℕ) (ts : List Token) → Behind (following names ts)
unfolding following
following_behind names [] = end
following_behind names (t ∷ ts) = blank

-- no token begins with a blank: blanks are at most 32, and begin nothing
foreign : ℕ → Bool
foreign b = not (starts_name b) && leb 9 (half_of b)

small_foreign : all_from foreign 0 33 ≡ true
unfolding foreign starts_name is_letter half_of among
small_foreign = refl

foreign_small : (b : ℕ) → b ≤ 32 → foreign b ≡ true
foreign_small b h = all_from_law foreign 0 33 b small_foreign (omega arith) (omega arith)

spellings_large : all_in (λ e. ltb 32 (get_or e.bytes 0 0)) spellings ≡ true
unfolding spellings
spellings_large = refl

large_or : (b : ℕ) → (b ≤ 32 → ⊥) → 32 < b
large_or b f = go (leb b 32) refl
  where
    go : (q : Bool) → leb b 32 ≡ q → 32 < b
    go true e = absurd (f (leb-true b 32 e))
    go false e = leb-false b 32 e

half_large : (b : ℕ) → half_of b < 9 → 32 < b
unfolding foreign
half_large b h =
    large_or b (λ l. omega (arith, leb-true 9 (half_of b) (and_right (not (starts_name b)) _ (foreign_small b l))))

starts_large : (b : ℕ) → starts_name b ≡ true → 32 < b
unfolding foreign
starts_large b h =
    large_or b (λ l. contrary h (not-true _ (and_left (not (starts_name b)) _ (foreign_small b l))))

token_large : {b c : ℕ} {w : List ℕ} → IsToken (b ∷ w) c → 32 < b
unfolding is_name
token_large {b} (IsToken.name h) = starts_large b (and_left (starts_name b) _ h)
token_large (IsToken.spelled m) = ltb-true 32 _ (in_all _ m spellings_large)
token_large (IsToken.literal x h k) = omega arith
token_large (IsToken.edge x y h k) = half_large x (omega arith)
token_large (IsToken.based_edge x y h k) = omega arith

large_unblank : (b : ℕ) → 32 < b → is_blank_lem b ≡ false
unfolding is_blank_lem among
large_unblank b h =
    rw (
      ne_eqb b 32 (λ e. omega arith),
      ne_eqb b 9 (λ e. omega arith),
      ne_eqb b 10 (λ e. omega arith),
      ne_eqb b 13 (λ e. omega arith),
    )

-- a token that is taken is one that is read
taken_reads :
    {p c : ℕ} (w : List ℕ) {after : List ℕ} {ts : List texts.Token} →
    Taken (w ++ after) w c after →
    Reads (p + length w) after ts →
    Reads p (w ++ after) (token_at c p ∷ ts)
taken_reads [] t r = absurd (omega (arith, token_size t.token))
taken_reads (b ∷ w) t r = Reads.token (large_unblank b (token_large t.token)) t r

space : is_blank_lem 32 ≡ true
unfolding is_blank_lem among
space = refl

-- the text of some tokens from place p on
following_reads : {names : List ℕ} (p : ℕ) {ts : List Token} → AllKnown names ts
    → Reads p (following names ts) (tokens_from names (suc p) ts)
unfolding following tokens_from
following_reads p none = Reads.done
following_reads {names} p (more {t = t} {ts = ts} k a) =
    Reads.blank space
    (taken_reads (spelled names t) (spelled_taken k (following_behind names ts)) (following_reads (suc p + length (spelled names t)) a))

pub text_reads : {names : List ℕ} {ts : List Token} → AllKnown names ts
    → Reads 0 (text_of_lem names ts) (tokens_from names 0 ts)
unfolding text_of_lem tokens_from
text_reads none = Reads.done
text_reads {names} (more {t = t} {ts = ts} k a) =
    taken_reads (spelled names t) (spelled_taken k (following_behind names ts)) (following_reads _ a)
