use native.Mathlib.Omega.{arith}
use borrow.Author.Rules.{rules}
use mathlib.Core.Path.{◌≡◌}
use Rattle.basics.proofs.PartByPart.{put_length}
use Rattle.trace_writer.proofs.Putting.{slot_name, name_fits, names_put, names_none}
use Rattle.trace_writer.proofs.write.put_names.Goals as goal

pub loop-i-init : goal.loop-i-init
loop-i-init c = (search rules, names_none _ _)

pub overflow_add-end : goal.overflow_add-end
overflow_add-end c =
    omega (arith, (slot_name c.args.names.now c.loop-i.i (omega arith) c.name_len-n.ensures).few)

pub slice_bounds-put_name-end : goal.slice_bounds-put_name-end
slice_bounds-put_name-end c =
    omega (arith, (slot_name c.args.names.now c.loop-i.i (omega arith) c.name_len-n.ensures).few)

pub put_name-at-requires : goal.put_name-at-requires
put_name-at-requires c =
    name_fits (slot_name _ _ (omega arith) c.name_len-n.ensures) c.loop-i.invariant.1
    c.loop-i-test.true c.requires.room

pub loop-i-preserved : goal.loop-i-preserved
loop-i-preserved c = (
  search rules,
  names_put (slot_name _ _ (omega arith) c.name_len-n.ensures) c.loop-i.invariant.1
      c.put_name-at.ensures,
)

pub shape_of-out : goal.shape_of-out
shape_of-out c = put_length c.loop-i.invariant.1

pub returns : goal.returns
returns c =
    let e : c.loop-i.i ≡ c.args.k = omega arith in
    rw e at c.loop-i.invariant.1
