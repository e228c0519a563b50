use mathlib.Core.Path.{◌≡◌, ◌∙◌, sym}
use lib.ListN.{length}
use native.Mathlib.Omega.{arith}
use Rattle.matcher.proofs.Walking.{walking_first, walking_yes, walking_next}
use Rattle.matcher.proofs.Walking.{walking_end, alternative_asked}
use Rattle.matcher.proofs.answers.match_event.Goals as goal

pub loop-k-init : goal.loop-k-init
loop-k-init c = walking_first c.requires.asked _

pub alternative_at-r-requires : goal.alternative_at-r-requires
alternative_at-r-requires c = alternative_asked c.requires.asked _ c.loop-k.invariant c.loop-k-test.true

pub returns-then-r-eq2 : goal.returns-then-r-eq2
returns-then-r-eq2 c =
    walking_yes c.requires.asked _ c.loop-k.invariant c.loop-k-test.true c.requires.event
    (sym c.alternative_at-r.ensures ∙ c.if-r-eq2.true)

pub pass-t-requires : goal.pass-t-requires
pass-t-requires c =
    let w = alternative_asked c.requires.asked _ c.loop-k.invariant c.loop-k-test.true in
    record { there = w.there; room = omega (arith, w.tested, c.well_formed) }

pub overflow_add-s : goal.overflow_add-s
overflow_add-s c =
    let w = alternative_asked c.requires.asked _ c.loop-k.invariant c.loop-k-test.true in
    omega (arith, w.there, c.well_formed)

pub loop-k-preserved : goal.loop-k-preserved
loop-k-preserved c =
    rw (c.pass-t.ensures, c.max-best.ensures)
    (walking_next c.requires.asked _ c.loop-k.invariant c.loop-k-test.true _
    c.alternative_at-r.ensures c.if-r-eq2.false)

pub returns : goal.returns
returns c =
    let e : c.loop-k.k ≡ length c.args.lists.now.steps.now = omega (arith, c.loop-k-test.false) in
    rw e at
    (walking_end c.requires.asked _ c.loop-k.invariant c.loop-k-test.false c.requires.event c.name_of.ensures)
