-- `spelling::spell` meets its contract, by recursion on the bytes before `end`.
use Rattle.std.proofs.Common.{ℕ, ◌+◌, ◌-◌, ◌*◌, ◌<◌, ◌≤◌, List, length, refl, arith}
use Rattle.trees.specs.Parts.{Start}
use Rattle.trees.proofs.Starts.{of_boolean}
use Rattle.evaluator.proofs.Booleans.{some_bytes, operator_known, last_byte}
use Rattle.evaluator.proofs.Booleans as booleans
use Rattle.state_columns.specs.Spelt.{SpellAsked, PartsOf}
use Rattle.state_columns.proofs.SpeltParts.{operand_asked, name_rows_lem, name_spelt, literal_spelt}
use Rattle.state_columns.proofs.SpeltParts.{negation_states, negation_spelt}
use Rattle.state_columns.proofs.SpeltOperands.{parts_few, Operator, left_shorter, right_shorter, left_ends}
use Rattle.state_columns.proofs.SpeltOperands.{right_ends, left_asked, right_asked, operands, binary_spelt}
use Rattle.state_columns.proofs.SpeltOperands.{condition_asked, first_asked, second_asked, branches}
use Rattle.state_columns.proofs.SpeltOperands.{choice_spelt}
use Rattle.state_columns.proofs.spelling.+spell.Goals as goal

-- an operator is found whose parts reach
operator_of : {tree : List ℕ} {names : ℕ} {states : List ℕ} {end lo n : ℕ} {parts : List ℕ} {d r m : ℕ}
    → SpellAsked tree names states end lo n parts d → 40 ≤ last_byte tree end → last_byte tree end < 64
    → PartsOf (last_byte tree end) r → (d + r) * 1041 ≤ length parts → Start tree names (end - 1) m
    → Operator tree names states end lo n parts d r m
operator_of a f l p h s = record { asked = a; first = f; last = l; takes = p; reach = h; start = s }

pub overflow_sub-at : goal.overflow_sub-at
overflow_sub-at t c =
    some_bytes c.requires.ends

pub bounds-tree-at : goal.bounds-tree-at
bounds-tree-at t c =
    omega (arith, some_bytes c.requires.ends, c.requires.ends.within)

pub overflow_mul-o : goal.overflow_mul-o
overflow_mul-o t c =
    omega (arith, c.requires.room, c.well_formed)

pub copy_name-requires : goal.copy_name-requires
copy_name-requires t c =
    name_rows_lem c.requires c.if-b-lt32.true

pub shape_of-parts-then-b-lt32 : goal.shape_of-parts-then-b-lt32
shape_of-parts-then-b-lt32 t c =
    (name_spelt c.requires c.args.rules c.if-b-lt32.true c.copy_name.ensures).length_same

pub returns-then-b-lt32 : goal.returns-then-b-lt32
returns-then-b-lt32 t c =
    name_spelt c.requires _ c.if-b-lt32.true c.copy_name.ensures

pub fill-requires : goal.fill-requires
fill-requires t c =
    record { v_bound = omega arith; n_in_bounds = omega (arith, c.requires.room, c.requires.wide) }

pub shape_of-parts-then-b-lt40 : goal.shape_of-parts-then-b-lt40
shape_of-parts-then-b-lt40 t c =
    (literal_spelt c.requires c.args.rules c.if-b-lt32.false c.if-b-lt40.true c.fill.ensures).length_same

pub returns-then-b-lt40 : goal.returns-then-b-lt40
returns-then-b-lt40 t c =
    literal_spelt c.requires _ c.if-b-lt32.false c.if-b-lt40.true c.fill.ensures

pub spell-requires : goal.spell-requires
spell-requires t c =
    let a = c.requires in (
      omega (arith, c.decreases, some_bytes a.ends),
      operand_asked a _ (booleans.right_ends a.ends c.if-b-lt40.false) refl a.room,
    )

pub negate-requires : goal.negate-requires
negate-requires t c =
    negation_states c.requires _ c.spell.ensures

pub shape_of-parts-then-b-ge64 : goal.shape_of-parts-then-b-ge64
shape_of-parts-then-b-ge64 t c =
    (negation_spelt c.requires _ c.spell.ensures c.if-b-ge64.true c.negate.ensures).length_same

pub returns-then-b-ge64 : goal.returns-then-b-ge64
returns-then-b-ge64 t c =
    negation_spelt c.requires _ c.spell.ensures c.if-b-ge64.true c.negate.ensures

pub overflow_add-d : goal.overflow_add-d
overflow_add-d t c =
    omega (arith, parts_few c.parts_of.ensures, c.requires.room, c.well_formed)

pub overflow_mul-d : goal.overflow_mul-d
overflow_mul-d t c =
    omega (arith, parts_few c.parts_of.ensures, c.requires.room, c.well_formed)

pub spell_rows-requires : goal.spell_rows-requires
spell_rows-requires t c =
    c.requires

pub shape_of-parts-then-parts-d : goal.shape_of-parts-then-parts-d
shape_of-parts-then-parts-d t c =
    (c.spell_rows.ensures).length_same

pub returns-then-parts-d : goal.returns-then-parts-d
returns-then-parts-d t c =
    c.spell_rows.ensures

pub start_of-left-requires : goal.start_of-left-requires
start_of-left-requires t c =
    of_boolean (booleans.right_ends c.requires.ends c.if-b-lt40.false)

pub overflow_add-p : goal.overflow_add-p
overflow_add-p t c =
    omega (arith, c.requires.room, c.well_formed)

pub overflow_mul-p : goal.overflow_mul-p
overflow_mul-p t c =
    omega (arith, c.requires.room, c.well_formed)

pub spell-requires-then-b-lt60 : goal.spell-requires-then-b-lt60
spell-requires-then-b-lt60 t c =
    let g = operator_of c.requires c.if-b-lt40.false c.if-b-ge64.false c.parts_of.ensures c.if-parts-d.false
    c.start_of-left.ensures in
    (omega (arith, c.decreases, left_shorter g), left_asked g)

pub overflow_add-d-then-b-lt60 : goal.overflow_add-d-then-b-lt60
overflow_add-d-then-b-lt60 t c =
    omega (arith, c.requires.room, c.well_formed)

pub spell-requires-then-b-lt60-2 : goal.spell-requires-then-b-lt60-2
spell-requires-then-b-lt60-2 t c =
    let g = operator_of c.requires c.if-b-lt40.false c.if-b-ge64.false c.parts_of.ensures c.if-parts-d.false
    c.start_of-left.ensures in (
      omega (arith, c.decreases, right_shorter g),
      right_asked g c.if-b-lt60.true _ c.spell-then-b-lt60.ensures,
    )

pub operate-requires : goal.operate-requires
operate-requires t c =
    let g = operator_of c.requires c.if-b-lt40.false c.if-b-ge64.false c.parts_of.ensures c.if-parts-d.false
    c.start_of-left.ensures in
    let k = c.if-b-lt60.true in
    record {
      le_b = (g.first, operator_known g.asked.ends g.first k);
      two = operands g k _ c.spell-then-b-lt60.ensures c.spell-then-b-lt60-2.ensures;
    }

pub shape_of-parts-then-b-lt60 : goal.shape_of-parts-then-b-lt60
shape_of-parts-then-b-lt60 t c =
    let g = operator_of c.requires c.if-b-lt40.false c.if-b-ge64.false c.parts_of.ensures c.if-parts-d.false
    c.start_of-left.ensures in
    (binary_spelt g c.if-b-lt60.true _ c.spell-then-b-lt60.ensures c.spell-then-b-lt60-2.ensures
    c.operate.ensures).length_same

pub returns-then-b-lt60 : goal.returns-then-b-lt60
returns-then-b-lt60 t c =
    let g = operator_of c.requires c.if-b-lt40.false c.if-b-ge64.false c.parts_of.ensures c.if-parts-d.false
    c.start_of-left.ensures in
    binary_spelt g c.if-b-lt60.true _ c.spell-then-b-lt60.ensures c.spell-then-b-lt60-2.ensures
    c.operate.ensures

pub start_of-first-requires : goal.start_of-first-requires
start_of-first-requires t c =
    let g = operator_of c.requires c.if-b-lt40.false c.if-b-ge64.false c.parts_of.ensures c.if-parts-d.false
    c.start_of-left.ensures in
    of_boolean (left_ends g)

pub spell-requires-2 : goal.spell-requires-2
spell-requires-2 t c =
    let g = operator_of c.requires c.if-b-lt40.false c.if-b-ge64.false c.parts_of.ensures c.if-parts-d.false
    c.start_of-left.ensures in (
      omega (arith, c.decreases, left_shorter g, c.start_of-first.ensures.before),
      condition_asked g c.if-b-lt60.false c.start_of-first.ensures,
    )

pub overflow_add-d-2 : goal.overflow_add-d-2
overflow_add-d-2 t c =
    omega (arith, c.requires.room, c.well_formed)

pub spell-requires-3 : goal.spell-requires-3
spell-requires-3 t c =
    let g = operator_of c.requires c.if-b-lt40.false c.if-b-ge64.false c.parts_of.ensures c.if-parts-d.false
    c.start_of-left.ensures in (
      omega (arith, c.decreases, left_shorter g),
      first_asked g c.if-b-lt60.false c.start_of-first.ensures _ c.spell-2.ensures,
    )

pub overflow_add-d-3 : goal.overflow_add-d-3
overflow_add-d-3 t c =
    omega (arith, c.requires.room, c.well_formed)

pub spell-requires-4 : goal.spell-requires-4
spell-requires-4 t c =
    let g = operator_of c.requires c.if-b-lt40.false c.if-b-ge64.false c.parts_of.ensures c.if-parts-d.false
    c.start_of-left.ensures in (
      omega (arith, c.decreases, right_shorter g),
      second_asked g c.if-b-lt60.false c.start_of-first.ensures _ c.spell-2.ensures c.spell-3.ensures,
    )

pub overflow_add-q : goal.overflow_add-q
overflow_add-q t c =
    omega (arith, c.requires.room, c.well_formed)

pub overflow_mul-q : goal.overflow_mul-q
overflow_mul-q t c =
    omega (arith, c.requires.room, c.well_formed)

pub overflow_sub-left : goal.overflow_sub-left
overflow_sub-left t c =
    let g = operator_of c.requires c.if-b-lt40.false c.if-b-ge64.false c.parts_of.ensures c.if-parts-d.false
    c.start_of-left.ensures in
    some_bytes (left_ends g)

pub bounds-tree-left : goal.bounds-tree-left
bounds-tree-left t c =
    let g = operator_of c.requires c.if-b-lt40.false c.if-b-ge64.false c.parts_of.ensures c.if-parts-d.false
    c.start_of-left.ensures in
    let e = left_ends g in
    omega (arith, e.within, some_bytes e)

pub overflow_sub-at-2 : goal.overflow_sub-at-2
overflow_sub-at-2 t c =
    let g = operator_of c.requires c.if-b-lt40.false c.if-b-ge64.false c.parts_of.ensures c.if-parts-d.false
    c.start_of-left.ensures in
    some_bytes (right_ends g)

pub bounds-tree-at-2 : goal.bounds-tree-at-2
bounds-tree-at-2 t c =
    let g = operator_of c.requires c.if-b-lt40.false c.if-b-ge64.false c.parts_of.ensures c.if-parts-d.false
    c.start_of-left.ensures in
    let e = right_ends g in
    omega (arith, e.within, some_bytes e)

pub choose-requires : goal.choose-requires
choose-requires t c =
    let g = operator_of c.requires c.if-b-lt40.false c.if-b-ge64.false c.parts_of.ensures c.if-parts-d.false
    c.start_of-left.ensures in
    branches g c.if-b-lt60.false c.start_of-first.ensures _ c.spell-2.ensures c.spell-3.ensures c.spell-4.ensures

pub shape_of-parts : goal.shape_of-parts
shape_of-parts t c =
    let g = operator_of c.requires c.if-b-lt40.false c.if-b-ge64.false c.parts_of.ensures c.if-parts-d.false
    c.start_of-left.ensures in
    (choice_spelt g c.if-b-lt60.false c.start_of-first.ensures _ c.spell-2.ensures c.spell-3.ensures c.spell-4.ensures
    c.choose.ensures).length_same

pub returns : goal.returns
returns t c =
    let g = operator_of c.requires c.if-b-lt40.false c.if-b-ge64.false c.parts_of.ensures c.if-parts-d.false
    c.start_of-left.ensures in
    choice_spelt g c.if-b-lt60.false c.start_of-first.ensures _ c.spell-2.ensures c.spell-3.ensures c.spell-4.ensures
    c.choose.ensures
