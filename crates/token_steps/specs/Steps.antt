-- One token step as a computation: what stands at the start of bs, as a code and a number of bytes, or how far on the
-- byte refused is. That this is the token taken, or the place where none is, is a law.
--   Outcome, step             a token, or how far on the byte refused is; a token by its code and size
--   starts, first_of          to begin with some bytes; the first spelling with which bs begin
--   name_step, based_step, plain_step      the step at a name, at a `'`, at any other byte
--   half_at, pair_step, lone_step, half_step    parts of the step at a `'`
--   step_of                   the step
use Rattle.std.specs.Prelude.{Option, None, Some, Result, Ok, Err, ℕ, ◌+◌, Bool, true, false, ◌&&◌, List, [], ◌∷◌, eqb, leb, length, if◌then◌else◌}
use Rattle.alf.specs.Names.{starts_name}
use Rattle.token_steps.specs.declared.Step.{Step}
use Rattle.token_steps.specs.Classes.{half_of}
use Rattle.token_steps.specs.Spelling.{Spelling, spellings, edge_code}
use Rattle.token_steps.specs.Taking.{byte_at, name_bytes, is_plain, is_half}

-- a token, or how far on the byte refused is
abbrev pub Outcome : Type 0
Outcome = Result Step ℕ

abbrev pub step : ℕ → ℕ → Outcome
step c n = Ok (record { code = c; size = n })

-- bs begin with w
unfoldable pub starts : List ℕ → List ℕ → Bool
starts [] bs = true
starts (a ∷ w) [] = false
starts (a ∷ w) (b ∷ bs) = eqb a b && starts w bs

-- the first of some spellings with which bs begin
unfoldable pub first_of : List Spelling → List ℕ → Outcome
first_of [] bs = Err 0
first_of (e ∷ es) bs = if starts e.bytes bs then step e.code (length e.bytes) else first_of es bs

unfoldable pub name_step : List ℕ → Outcome
name_step bs = if leb (name_bytes bs) 32 then step 0 (name_bytes bs) else Err 0

-- the half at byte k
unfoldable pub half_at : List ℕ → ℕ → Option ℕ
half_at bs k = if is_half bs k then Some (half_of (byte_at bs (k + 2))) else None

abbrev pub pair_step : ℕ → Option ℕ → Outcome
pair_step f None = Err 3
pair_step f (Some t) = step (edge_code f t) 6

abbrev pub lone_step : ℕ → Outcome
lone_step f = if eqb f 0 then Err 0 else step (31 + f) 3

abbrev pub half_step : Option ℕ → List ℕ → Outcome
half_step None bs = Err 0
half_step (Some f) bs = if eqb (byte_at bs 3) 39 then pair_step f (half_at bs 3) else lone_step f

unfoldable pub based_step : List ℕ → Outcome
based_step bs = half_step (half_at bs 0) bs

unfoldable pub plain_step : List ℕ → Outcome
plain_step bs =
    if is_plain (byte_at bs 0) && is_plain (byte_at bs 1)
    then (if is_plain (byte_at bs 2) then Err 0
    else step (edge_code (half_of (byte_at bs 0)) (half_of (byte_at bs 1))) 2)
    else first_of spellings bs

unfoldable pub step_of : List ℕ → Outcome
step_of bs =
    if starts_name (byte_at bs 0) then name_step bs
    else if eqb (byte_at bs 0) 39 then based_step bs
    else plain_step bs
