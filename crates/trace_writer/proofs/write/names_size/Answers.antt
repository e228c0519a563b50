use native.Mathlib.Omega.{arith}
use borrow.Author.Rules.{rules}
use mathlib.Core.Path.{◌≡◌, refl}
use Rattle.trace_format.specs.Format.{name_records}
use Rattle.trace_writer.proofs.Putting.{slot_name, names_grow}
use Rattle.trace_writer.proofs.write.names_size.Goals as goal

pub loop-i-init : goal.loop-i-init
unfolding name_records
loop-i-init c = (search rules, record { is = refl; few = search rules })

pub loop-i-preserved : goal.loop-i-preserved
loop-i-preserved c = (
  search rules,
  names_grow (slot_name _ _ (omega arith) c.name_len.ensures)
      c.loop-i.invariant.1,
)

pub returns : goal.returns
returns c =
    let e : c.loop-i.i ≡ c.args.k = omega arith in
    rw e at c.loop-i.invariant.1
