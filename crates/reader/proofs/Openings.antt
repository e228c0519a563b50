-- How the call begins: the list of names is refused or good, the text's tokens are refused or read.
--   text_refused, tokened       a text whose tokens are refused, or read
--   names_wrong, names_done     a list of names that is refused, or good
--   refused_text                a text that is refused, limit 8 aside
use Rattle.std.specs.Prelude.{Err, Ok}
use mathlib.Core.Path.{refl}
use mathlib.Core.List.{List}
use Prim.Native.Nat.{ℕ}
use Rattle.alf.specs.declared.Rules.{Rules}
use Rattle.alf.specs.declared.Sort.{Sort}
use Rattle.basics.specs.declared.Refusal.{Refusal}
use Rattle.alf.specs.Refusals.{Passed, Comes}
use Rattle.names.specs.Check.{names_order}
use Rattle.tokens.specs.declared.Tokens.{Tokens}
use Rattle.tokens.specs.Tokenizing as reading
use Rattle.reader.specs.Reading.{ReadsText, Unlimited, refused}
use Rattle.reader.specs.Tokened.{Tokened}
use Rattle.reader.proofs.Readings.{names_refused, tokens_refused}

-- the tokens' reading: refused, or read
pub text_refused :
    {ρ : Rules} {names bytes : List ℕ} (sort : Sort) {f : Refusal} →
    Passed (names_order names) →
    reading.Tokenized bytes (Err f) →
    Unlimited ρ names bytes sort (Err f)
text_refused sort g (reading.refused f h) = refused f (tokens_refused _ _ _ sort g f h)

pub tokened :
    {names bytes : List ℕ} {t : Tokens} →
    Passed (names_order names) →
    reading.Tokenized bytes (Ok t) →
    Tokened names bytes t
tokened g (reading.read {ts = ts} h r) = record { good = g; clear = h; tokens = ts; read = r; are = refl }

-- the list of names: refused, or good
pub names_wrong :
    (ρ : Rules) (names bytes : List ℕ) (made : ℕ → Type 0) (sort : Sort) {f : Refusal} →
    Comes (names_order names) made (Err f) →
    ReadsText ρ names bytes sort (Err f)
unfolding Comes
names_wrong ρ names bytes made sort {f = f} h = names_refused ρ names bytes sort f h

pub names_done :
    (names : List ℕ) (made : ℕ → Type 0) (n : ℕ) → Comes (names_order names) made (Ok n)
    → Passed (names_order names)
unfolding Comes
names_done names made n h = h.0

-- a text that is refused, limit 8 aside, is refused
pub refused_text : {ρ : Rules} {names text : List ℕ} {sort : Sort} {f : Refusal} → Unlimited ρ names text sort (Err f)
    → ReadsText ρ names text sort (Err f)
refused_text (refused f h) = h
