-- `put_test` meets its contract.
use mathlib.Core.Path.{refl}
use native.Mathlib.Omega.{arith}
use Rattle.basics.proofs.PartByPart.{holds_within, holds_count}
use Rattle.basics.specs.Text.{bytes}
use Rattle.alternative_writing.proofs.StepWalks.{test_asked, test_countable, test_put}
use Rattle.alternative_writing.proofs.steps.put_test.Goals as goal

pub overflow_cast-operands : goal.overflow_cast-operands
overflow_cast-operands c = omega (arith, c.type_inv.operands c.args.k)

pub show_test-shown-requires : goal.show_test-shown-requires
show_test-shown-requires c = test_asked c.requires

pub slice_bounds-text-end : goal.slice_bounds-text-end
slice_bounds-text-end c = holds_within c.show_test-shown.ensures.holds

pub slice_bounds-put-end : goal.slice_bounds-put-end
slice_bounds-put-end c = holds_count c.show_test-shown.ensures.holds

pub put-requires : goal.put-requires
put-requires c = test_countable c.requires c.show_test-shown.ensures _ refl _ c.put_gap-p.ensures

pub returns : goal.returns
unfolding bytes
returns c = test_put c.requires c.show_test-shown.ensures _ refl _ c.put_gap-p.ensures c.put.ensures
