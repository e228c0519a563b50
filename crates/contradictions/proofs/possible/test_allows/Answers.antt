-- `rewriting::possible::test_allows` meets its contract.
use Prim.Native.Nat.{◌-◌}
use native.Mathlib.Omega.{arith}
use Rattle.trees.proofs.Starts.{of_boolean, ends_pos}
use Rattle.contradictions.proofs.Allowing.{test_apart, test_other, test_later, test_before}
use Rattle.contradictions.proofs.possible.test_allows.Goals as goal

pub returns-then-k-gt80 : goal.returns-then-k-gt80
returns-then-k-gt80 c = test_apart _ _ _ _ _ _ _ (omega (arith, c.if-k-gt80.true))

pub overflow_sub-at : goal.overflow_sub-at
overflow_sub-at c = let p = ends_pos (of_boolean c.requires.ends) in omega arith

pub bounds-tree-at : goal.bounds-tree-at
bounds-tree-at c =
    let h = c.requires.ends in
    let p = ends_pos (of_boolean h) in
    omega (arith, h.within)

pub overflow_cast-b : goal.overflow_cast-b
overflow_cast-b c = omega (arith, c.type_inv.tree (c.args.end - 1))

pub returns-then-b-name : goal.returns-then-b-name
returns-then-b-name c = test_other _ _ _ _ _ _ _ c.requires c.if-b-name.true c.if-k-gt80.false

pub returns-then-later : goal.returns-then-later
returns-then-later c =
    test_later _ c.requires c.if-b-name.false c.if-k-gt80.false c.if-later.true c.ask.ensures

pub returns : goal.returns
returns c =
    test_before _ c.requires c.if-b-name.false c.if-k-gt80.false c.if-later.false c.ask-2.ensures
