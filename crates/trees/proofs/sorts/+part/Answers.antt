use native.Mathlib.Nat.{pos_of_ne-zero}
use Rattle.trees.proofs.Endings.{none, leaf_found, one_found, pair_found, three_found, one_made, pair_made, three_made}
use Rattle.trees.proofs.Endings.{no_right, no_left, no_first}
use Rattle.trees.proofs.sorts.+part.Goals as goal

pub part_of-returns-then-end-eq0 : goal.part_of-returns-then-end-eq0
part_of-returns-then-end-eq0 t c = rw c.if-end-eq0.true (none _ _)

pub part_of-returns-in_err-sort : goal.part_of-returns-in_err-sort
part_of-returns-in_err-sort t c =
    let u = leaf_found _ _ _ (pos_of_ne-zero c.if-end-eq0.false) c.requires c.if-b-lt40.true c.leaf_kind.ensures in
    rw c.from_residual.ensures (rw c.in_err-sort.was at u)

pub part_of-returns-then-b-lt40 : goal.part_of-returns-then-b-lt40
part_of-returns-then-b-lt40 t c =
    rw c.in_ok-sort.was at
    (leaf_found _ _ _ (pos_of_ne-zero c.if-end-eq0.false) c.requires c.if-b-lt40.true c.leaf_kind.ensures)

pub start_of_made-returns-in_err-right : goal.start_of_made-returns-in_err-right
start_of_made-returns-in_err-right t c =
    rw c.from_residual.ensures
    (no_right _ _ _ c.requires.some c.requires.within c.in_err-right.ensures c.requires.takes)

pub start_of_made-returns-in_err-one_kind : goal.start_of_made-returns-in_err-one_kind
start_of_made-returns-in_err-one_kind t c =
    let u = one_found _ _ _ c.requires.some c.requires.within c.in_ok-right.ensures
    c.if-b-ge64.true c.one_kind.ensures in
    rw c.from_residual-in_err-one_kind.ensures (rw c.in_err-one_kind.was at u)

pub start_of_made-returns-then-b-ge64 : goal.start_of_made-returns-then-b-ge64
start_of_made-returns-then-b-ge64 t c =
    let e = rw c.in_ok-one_kind.was at c.one_kind.ensures in
    one_made _ _ _ c.requires.some c.requires.within c.in_ok-right.ensures c.if-b-ge64.true e

pub start_of_made-returns-in_err-left : goal.start_of_made-returns-in_err-left
start_of_made-returns-in_err-left t c =
    rw c.from_residual-in_err-left.ensures
    (no_left _ _ _ c.requires.some c.requires.within c.in_ok-right.ensures c.in_err-left.ensures
    c.requires.takes c.if-b-ge64.false)

pub start_of_made-returns-in_err-pair_kind : goal.start_of_made-returns-in_err-pair_kind
start_of_made-returns-in_err-pair_kind t c =
    let u = pair_found _ _ _ c.requires.some c.requires.within c.in_ok-right.ensures c.in_ok-left.ensures
    c.requires.takes c.if-b-lt60.true c.pair_kind.ensures in
    rw c.from_residual-in_err-pair_kind.ensures (rw c.in_err-pair_kind.was at u)

pub start_of_made-returns-then-b-lt60 : goal.start_of_made-returns-then-b-lt60
start_of_made-returns-then-b-lt60 t c =
    let e = rw c.in_ok-pair_kind.was at c.pair_kind.ensures in
    pair_made _ _ _ c.requires.some c.requires.within c.in_ok-right.ensures c.in_ok-left.ensures
    c.requires.takes c.if-b-lt60.true e

pub start_of_made-returns-in_err-first : goal.start_of_made-returns-in_err-first
start_of_made-returns-in_err-first t c =
    rw c.from_residual-in_err-first.ensures
    (no_first _ _ _ c.requires.some c.requires.within c.in_ok-right.ensures c.in_ok-left.ensures
    c.in_err-first.ensures c.if-b-lt60.false c.if-b-ge64.false)

pub start_of_made-returns-in_err-three_kind : goal.start_of_made-returns-in_err-three_kind
start_of_made-returns-in_err-three_kind t c =
    let u = three_found _ _ _ c.requires.some c.requires.within c.in_ok-right.ensures
    c.in_ok-left.ensures c.in_ok-first.ensures c.if-b-lt60.false c.if-b-ge64.false c.three_kind.ensures in
    rw c.from_residual-in_err-three_kind.ensures (rw c.in_err-three_kind.was at u)

pub start_of_made-returns : goal.start_of_made-returns
start_of_made-returns t c =
    let e = rw c.in_ok-three_kind.was at c.three_kind.ensures in
    three_made _ _ _ c.requires.some c.requires.within c.in_ok-right.ensures c.in_ok-left.ensures
    c.in_ok-first.ensures c.if-b-lt60.false c.if-b-ge64.false e
