-- `read_tokens` reads a text into its tokens, or refuses it as document 01 says.
use native.Mathlib.Omega.{arith}
use mathlib.Core.Path.{◌≡◌}
use mathlib.Core.List.{List}
use Prim.Native.Nat.{ℕ}
use Rattle.std.specs.Prelude.{Result, Ok, Err}
use Rattle.basics.specs.declared.Refusal.{Refusal}
use Rattle.tokens.specs.declared.Tokens.{Tokens}
use Rattle.tokens.specs.Inner.{Scan}
use Rattle.tokens.proofs.ReadingLaws.{read_long}
use Rattle.tokens.proofs.Handing.{stopped_reading, whole_of, counting, deep_reading}
use Rattle.tokens.proofs.Handing.{many_reading, whole_reading, Whole}
use Rattle.tokens.proofs.read_tokens.Goals as goal

whole : {text : List ℕ} {r : Result Tokens Refusal} {t : Tokens} → Scan text r → r ≡ Ok t → Whole text t
whole s e = whole_of (rw e at s)

pub returns-then-text-gt4096 : goal.returns-then-text-gt4096
returns-then-text-gt4096 c = rw c.refusal_of.ensures (read_long _ c.if-text-gt4096.true)

pub first_over-requires : goal.first_over-requires
first_over-requires c =
    counting c.if-text-gt4096.false (whole c.scan-scanned.ensures c.in-Ok.is) 32 (omega arith)

pub returns-in-Some : goal.returns-in-Some
returns-in-Some c =
    deep_reading c.if-text-gt4096.false (whole c.scan-scanned.ensures c.in-Ok.is) c.in-Some.ensures
    c.refusal_of-in-Some.ensures

pub first_over-requires-in-Ok : goal.first_over-requires-in-Ok
first_over-requires-in-Ok c =
    counting c.if-text-gt4096.false (whole c.scan-scanned.ensures c.in-Ok.is) 256 (omega arith)

pub returns-in-Some-first_over : goal.returns-in-Some-first_over
returns-in-Some-first_over c =
    many_reading c.if-text-gt4096.false (whole c.scan-scanned.ensures c.in-Ok.is) c.in_default-first_over.ensures
    c.in-Some-first_over.ensures c.refusal_of-in-Some-first_over.ensures

pub returns-in_default-first_over-2 : goal.returns-in_default-first_over-2
returns-in_default-first_over-2 c =
    rw c.in-Ok.is
    (whole_reading c.if-text-gt4096.false (whole c.scan-scanned.ensures c.in-Ok.is)
    c.in_default-first_over.ensures c.in_default-first_over-2.ensures)

pub returns-in_default : goal.returns-in_default
returns-in_default c =
    rw c.in_default.is (stopped_reading c.if-text-gt4096.false (rw c.in_default.is at c.scan-scanned.ensures))
