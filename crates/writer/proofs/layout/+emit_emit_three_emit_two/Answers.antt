-- `emit`, `emit_two` and `emit_three` meet their contracts: what is to be written from a place on is written part by
-- part. A leaf is one sign, a prefix is a sign and its operand's signs; an operator's and a choice's signs stand
-- between brackets where these are needed.
use Rattle.std.proofs.Common.{ℕ, [], ◌∷◌, arith, ap}
use Rattle.trees.proofs.Starts.{ends_pos}
use Rattle.basics.proofs.PartByPart.{going_room, going_on, going_end, put_as}
use Rattle.writer.proofs.Layouts.{leaf_signs, leaf_room, one_ends, one_start}
use Rattle.writer.proofs.Layouts.{two_right, two_parts_lem, two_start, level_bounds}
use Rattle.writer.proofs.Layouts.{three_right, three_middle, three_parts_lem, three_start}
use Rattle.writer.proofs.layout.+emit_emit_three_emit_two.Goals as goal

pub emit-overflow_sub-last : goal.emit-overflow_sub-last
emit-overflow_sub-last t c = omega (arith, ends_pos c.requires.ends)

pub emit-bounds-tree-last : goal.emit-bounds-tree-last
emit-bounds-tree-last t c =
    let h = c.requires.ends in
    omega (arith, ends_pos h, h.within)

pub emit-push-requires : goal.emit-push-requires
emit-push-requires t c = leaf_room c.requires c.if-b-lt40.true

pub emit-returns-then-b-lt40 : goal.emit-returns-then-b-lt40
emit-returns-then-b-lt40 t c =
    rw (leaf_signs _ _ _ c.requires.ends _ c.if-b-lt40.true) c.push.ensures

pub emit-push-p-requires : goal.emit-push-p-requires
emit-push-p-requires t c =
    let r = going_room (one_start c.requires c.if-b-ge64.true) in
    omega arith

pub emit-emit-requires : goal.emit-emit-requires
emit-emit-requires t c =
    let h = c.requires in
    let before = going_on (one_start h c.if-b-ge64.true) c.push-p.ensures in (
      omega (arith, ends_pos h.ends),
      record { ends = one_ends _ _ _ h.ends c.if-b-ge64.true; room = going_room before },
    )

pub emit-returns-then-b-ge64 : goal.emit-returns-then-b-ge64
emit-returns-then-b-ge64 t c =
    let before = going_on (one_start c.requires c.if-b-ge64.true) c.push-p.ensures in
    going_end (going_on before c.emit.ensures)

pub emit-emit_two-requires : goal.emit-emit_two-requires
emit-emit_two-requires t c =
    (omega arith, record { whole = c.requires; low = c.if-b-lt40.false; high = c.if-b-lt60.true })

pub emit-emit_three-requires : goal.emit-emit_three-requires
emit-emit_three-requires t c =
    (omega arith, record { whole = c.requires; low = c.if-b-lt60.false; high = c.if-b-ge64.false })

pub emit_three-overflow_sub-last : goal.emit_three-overflow_sub-last
emit_three-overflow_sub-last t c = omega (arith, ends_pos c.requires.whole.ends)

pub emit_three-start_of-mid-requires : goal.emit_three-start_of-mid-requires
emit_three-start_of-mid-requires t c =
    let h = c.requires in
    three_right _ _ _ h.whole.ends h.low h.high

pub emit_three-start_of-first-requires : goal.emit_three-start_of-first-requires
emit_three-start_of-first-requires t c =
    let h = c.requires in
    three_middle _ _ _ h.whole.ends h.low h.high c.start_of-mid.ensures

pub emit_three-put_bracket-p-requires : goal.emit_three-put_bracket-p-requires
emit_three-put_bracket-p-requires t c =
    let located = three_start c.requires c.start_of-mid.ensures c.start_of-first.ensures in
    going_room located

pub emit_three-emit-q-requires : goal.emit_three-emit-q-requires
emit_three-emit-q-requires t c =
    let located = three_start c.requires c.start_of-mid.ensures c.start_of-first.ensures in
    let opened = going_on located c.put_bracket-p.ensures in
    let h = c.requires in
    let s = c.start_of-mid.ensures in
    let r = c.start_of-first.ensures in (
      omega (arith, s.before, r.before, ends_pos h.whole.ends),
      record {
        ends = (three_parts_lem _ _ _ h.whole.ends h.low h.high 6 s r).first;
        room = going_room opened;
      },
    )

pub emit_three-push-r-requires : goal.emit_three-push-r-requires
emit_three-push-r-requires t c =
    let located = three_start c.requires c.start_of-mid.ensures c.start_of-first.ensures in
    let opened = going_on located c.put_bracket-p.ensures in
    let first = going_on opened c.emit-q.ensures in
    let k = going_room first in
    omega arith

pub emit_three-emit-s-requires : goal.emit_three-emit-s-requires
emit_three-emit-s-requires t c =
    let located = three_start c.requires c.start_of-mid.ensures c.start_of-first.ensures in
    let opened = going_on located c.put_bracket-p.ensures in
    let first = going_on opened c.emit-q.ensures in
    let asked = going_on first c.push-r.ensures in
    let h = c.requires in
    let s = c.start_of-mid.ensures in (
      omega (arith, s.before, ends_pos h.whole.ends),
      record {
        ends = three_middle _ _ _ h.whole.ends h.low h.high s;
        room = going_room asked;
      },
    )

pub emit_three-push-u-requires : goal.emit_three-push-u-requires
emit_three-push-u-requires t c =
    let located = three_start c.requires c.start_of-mid.ensures c.start_of-first.ensures in
    let opened = going_on located c.put_bracket-p.ensures in
    let first = going_on opened c.emit-q.ensures in
    let asked = going_on first c.push-r.ensures in
    let middle = going_on asked c.emit-s.ensures in
    let k = going_room middle in
    omega arith

pub emit_three-emit-v-requires : goal.emit_three-emit-v-requires
emit_three-emit-v-requires t c =
    let located = three_start c.requires c.start_of-mid.ensures c.start_of-first.ensures in
    let opened = going_on located c.put_bracket-p.ensures in
    let first = going_on opened c.emit-q.ensures in
    let asked = going_on first c.push-r.ensures in
    let middle = going_on asked c.emit-s.ensures in
    let parted = going_on middle c.push-u.ensures in
    let h = c.requires in (
      omega (arith, ends_pos h.whole.ends),
      record {
        ends = three_right _ _ _ h.whole.ends h.low h.high;
        room = going_room parted;
      },
    )

pub emit_three-put_bracket-requires : goal.emit_three-put_bracket-requires
emit_three-put_bracket-requires t c =
    let located = three_start c.requires c.start_of-mid.ensures c.start_of-first.ensures in
    let opened = going_on located c.put_bracket-p.ensures in
    let first = going_on opened c.emit-q.ensures in
    let asked = going_on first c.push-r.ensures in
    let middle = going_on asked c.emit-s.ensures in
    let parted = going_on middle c.push-u.ensures in
    let last = going_on parted c.emit-v.ensures in
    going_room last

pub emit_three-returns : goal.emit_three-returns
emit_three-returns t c =
    let located = three_start c.requires c.start_of-mid.ensures c.start_of-first.ensures in
    let opened = going_on located c.put_bracket-p.ensures in
    let first = going_on opened c.emit-q.ensures in
    let asked = going_on first c.push-r.ensures in
    let middle = going_on asked c.emit-s.ensures in
    let parted = going_on middle c.push-u.ensures in
    let last = going_on parted c.emit-v.ensures in
    let shut = going_on last c.put_bracket.ensures in
    going_end shut

pub emit_two-overflow_sub-last : goal.emit_two-overflow_sub-last
emit_two-overflow_sub-last t c = omega (arith, ends_pos c.requires.whole.ends)

pub emit_two-start_of-mid-requires : goal.emit_two-start_of-mid-requires
emit_two-start_of-mid-requires t c =
    let h = c.requires in
    two_right _ _ _ h.whole.ends h.low h.high

pub emit_two-put_bracket-p-requires : goal.emit_two-put_bracket-p-requires
emit_two-put_bracket-p-requires t c =
    let located = two_start c.requires c.start_of-mid.ensures c.level_of-m.ensures in
    going_room located

pub emit_two-emit-q-requires : goal.emit_two-emit-q-requires
emit_two-emit-q-requires t c =
    let located = two_start c.requires c.start_of-mid.ensures c.level_of-m.ensures in
    let opened = going_on located c.put_bracket-p.ensures in
    let h = c.requires in
    let s = c.start_of-mid.ensures in (
      omega (arith, s.before, ends_pos h.whole.ends),
      record {
        ends = (two_parts_lem _ _ _ h.whole.ends h.low h.high 6 s).left;
        room = going_room opened;
      },
    )

pub emit_two-push-r-requires : goal.emit_two-push-r-requires
emit_two-push-r-requires t c =
    let located = two_start c.requires c.start_of-mid.ensures c.level_of-m.ensures in
    let opened = going_on located c.put_bracket-p.ensures in
    let left = going_on opened c.emit-q.ensures in
    let k = going_room left in
    omega arith

pub emit_two-overflow_sub-m : goal.emit_two-overflow_sub-m
emit_two-overflow_sub-m t c =
    let h = c.requires in
    omega (arith, c.level_of-m.ensures, level_bounds _ h.low h.high)

pub emit_two-emit-s-requires : goal.emit_two-emit-s-requires
emit_two-emit-s-requires t c =
    let located = two_start c.requires c.start_of-mid.ensures c.level_of-m.ensures in
    let opened = going_on located c.put_bracket-p.ensures in
    let left = going_on opened c.emit-q.ensures in
    let joined = going_on left (put_as (ap (λ (n : ℕ). n ∷ []) c.code_of.ensures) c.push-r.ensures) in
    let h = c.requires in (
      omega (arith, c.start_of-mid.ensures.before, ends_pos h.whole.ends),
      record {
        ends = two_right _ _ _ h.whole.ends h.low h.high;
        room = going_room joined;
      },
    )

pub emit_two-put_bracket-requires : goal.emit_two-put_bracket-requires
emit_two-put_bracket-requires t c =
    let located = two_start c.requires c.start_of-mid.ensures c.level_of-m.ensures in
    let opened = going_on located c.put_bracket-p.ensures in
    let left = going_on opened c.emit-q.ensures in
    let joined = going_on left (put_as (ap (λ (n : ℕ). n ∷ []) c.code_of.ensures) c.push-r.ensures) in
    let right = going_on joined c.emit-s.ensures in
    going_room right

pub emit_two-returns : goal.emit_two-returns
emit_two-returns t c =
    let located = two_start c.requires c.start_of-mid.ensures c.level_of-m.ensures in
    let opened = going_on located c.put_bracket-p.ensures in
    let left = going_on opened c.emit-q.ensures in
    let joined = going_on left (put_as (ap (λ (n : ℕ). n ∷ []) c.code_of.ensures) c.push-r.ensures) in
    let right = going_on joined c.emit-s.ensures in
    let shut = going_on right c.put_bracket.ensures in
    going_end shut
