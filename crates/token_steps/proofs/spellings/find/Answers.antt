use borrow.Author.Rules.{rules}
use native.Mathlib.Omega.{arith}
use mathlib.Core.Path.{refl, sym, ◌∙◌}
use Rattle.token_steps.proofs.Table.{row_begins, find_hit, find_miss, find_end}
use Rattle.token_steps.proofs.spellings.find.Goals as goal

pub loop-i-init : goal.loop-i-init
loop-i-init c = (omega arith, refl)

pub stands-requires : goal.stands-requires
stands-requires c =
    let l = c.loop-i in
    record {
      inside = c.requires;
      byte = row_begins _ l.i l.invariant.1 c.row_of-row.ensures c.loop-i-test.true;
    }

pub returns-then-stands : goal.returns-then-stands
returns-then-stands c =
    find_hit _ c.loop-i.i c.loop-i.invariant.1 c.row_of-row.ensures c.loop-i-test.true
    (sym c.if-stands.true ∙ c.stands.ensures) c.size_of.ensures

pub loop-i-preserved : goal.loop-i-preserved
loop-i-preserved c = (
  search rules,
  find_miss _ c.loop-i.i c.loop-i.invariant.1 c.row_of-row.ensures c.loop-i-test.true
      (sym c.if-stands.false ∙ c.stands.ensures),
)

pub returns : goal.returns
returns c = find_end _ c.loop-i.i c.loop-i.invariant.1 c.loop-i-test.false
