-- `based` is the step at a `'`: each way out by its own law.
use mathlib.Core.Path.{◌≡◌, sym, ◌∙◌}
use Rattle.std.proofs.lemmas.Result.{err_from_is_err_and}
use Rattle.token_steps.proofs.Ways.{no_half, bad_second, both_halves, lone, based_literal}
use Rattle.token_steps.proofs.steps.based.Goals as goal

pub returns-in_err-f : goal.returns-in_err-f
returns-in_err-f c =
    let p = err_from_is_err_and c.from_residual.result c.from_residual.ensures.1 in
    let o = c.in_err-f.ensures.ok_part in
    let v = rw o at c.in_err-f.ensures.value in
    let z : c.in_err-f.field-0.0 ≡ 0 = cc in
    rw (p.1, p.2, z) (no_half _ (sym c.half_at.ensures.is ∙ o))

pub returns-in_err-t : goal.returns-in_err-t
returns-in_err-t c =
    let p = err_from_is_err_and c.from_residual-in_err-t.result c.from_residual-in_err-t.ensures.1 in
    let o = c.in_err-t.ensures.ok_part in
    let v = rw o at c.in_err-t.ensures.value in
    let z : c.in_err-t.field-0.0 ≡ 3 = cc in
    rw (p.1, p.2, z)
    (bad_second _ (sym c.half_at.ensures.is ∙ c.in_ok-f.ensures.ok_part) c.peek.ensures
    c.if-peek-eq39.true (sym c.half_at-then-peek-eq39.ensures.is ∙ o))

pub returns-then-peek-eq39 : goal.returns-then-peek-eq39
returns-then-peek-eq39 c =
    both_halves _ (sym c.half_at.ensures.is ∙ c.in_ok-f.ensures.ok_part)
    c.peek.ensures c.if-peek-eq39.true
    (sym c.half_at-then-peek-eq39.ensures.is ∙ c.in_ok-t.ensures.ok_part)

pub returns-then-f-eq0 : goal.returns-then-f-eq0
returns-then-f-eq0 c =
    lone _ (sym c.half_at.ensures.is ∙ c.in_ok-f.ensures.ok_part)
    c.peek.ensures c.if-peek-eq39.false c.if-f-eq0.true

pub returns : goal.returns
returns c =
    based_literal _ (sym c.half_at.ensures.is ∙ c.in_ok-f.ensures.ok_part)
    c.peek.ensures c.if-peek-eq39.false c.if-f-eq0.false
