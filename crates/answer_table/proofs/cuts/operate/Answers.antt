-- `cuts::operate` meets its contract: each operator by its byte.
use Rattle.std.proofs.Common.{arith}
use Rattle.answer_table.specs.Tables.{stored}
use Rattle.answer_table.proofs.Joining.{condition_byte, or_else_byte, with_byte, followed_byte}
use Rattle.answer_table.proofs.Joining.{either_order_byte, with_or_then_byte, any_order_byte, the_sixth}
use Rattle.answer_table.proofs.cuts.operate.Goals as goal

pub returns-then-k-ge56 : goal.returns-then-k-ge56
returns-then-k-ge56 c =
    condition_byte (stored c.args.table.now c.args.p) (stored c.args.table.now c.args.q) c.args.a c.args.b
    c.if-k-ge56.true c.read.ensures c.read-then-k-ge56.ensures c.min.ensures

pub returns-then-k-eq55 : goal.returns-then-k-eq55
returns-then-k-eq55 c =
    or_else_byte (stored c.args.table.now c.args.p) (stored c.args.table.now c.args.q) c.args.a c.args.b
    c.if-k-eq55.true c.read-then-k-eq55.ensures c.read-then-k-eq55-2.ensures c.max.ensures

pub returns-then-k-eq54 : goal.returns-then-k-eq54
returns-then-k-eq54 c =
    with_byte (stored c.args.table.now c.args.p) (stored c.args.table.now c.args.q) c.args.a c.args.b
    c.if-k-eq54.true c.overlap.ensures

pub returns-then-k-eq50 : goal.returns-then-k-eq50
returns-then-k-eq50 c =
    followed_byte (stored c.args.table.now c.args.p) (stored c.args.table.now c.args.q) c.args.a c.args.b
    c.if-k-eq50.true c.sequence-x.ensures

pub returns-then-k-eq51 : goal.returns-then-k-eq51
returns-then-k-eq51 c =
    either_order_byte (stored c.args.table.now c.args.p) (stored c.args.table.now c.args.q) c.args.a c.args.b
    c.sequence-x.ensures c.if-k-eq51.true c.sequence.ensures c.max-then-k-eq51.ensures

pub returns-then-k-eq52 : goal.returns-then-k-eq52
returns-then-k-eq52 c =
    with_or_then_byte (stored c.args.table.now c.args.p) (stored c.args.table.now c.args.q) c.args.a c.args.b
    c.sequence-x.ensures c.if-k-eq52.true c.overlap-y.ensures c.max-then-k-eq52.ensures

pub returns : goal.returns
returns c =
    let only =
    the_sixth c.requires.operator_byte (omega (arith, c.if-k-ge56.false)) c.if-k-eq55.false c.if-k-eq54.false
    c.if-k-eq50.false c.if-k-eq51.false c.if-k-eq52.false in
    any_order_byte (stored c.args.table.now c.args.p) (stored c.args.table.now c.args.q) c.args.a c.args.b
    c.sequence-x.ensures only c.overlap-y.ensures c.sequence-2.ensures c.max-2.ensures c.max-3.ensures
