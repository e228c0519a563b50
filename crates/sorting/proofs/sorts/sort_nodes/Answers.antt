use borrow.Author.Rules.{rules}
use mathlib.Core.Path.{◌≡◌}
use native.Mathlib.Omega.{arith}
use Rattle.sorting.specs.Lookup.{number_at}
use Rattle.sorting.proofs.NodeLists.{pass_none, pass_next}
use Rattle.sorting.proofs.sorts.sort_nodes.Goals as goal

pub loop-i-init : goal.loop-i-init
loop-i-init c =
    let s = c.start-s.ensures in
    let a = c.args in
    let shows-none = pass_none (number_at a.names.now a.text.now) a.codes.now a.places.now s.shows in
    record { far = search rules; room = omega (arith, s.none); fine = s.fine; shows = shows-none }

pub overflow_cast-place : goal.overflow_cast-place
overflow_cast-place c = omega (arith, c.type_inv.places c.loop-i.i)

pub leaf_byte-byte-requires : goal.leaf_byte-byte-requires
leaf_byte-byte-requires c =
    let p = c.requires in
    record { few = p.few; inside = p.listed.inside _ c.loop-i-test.true }

pub step-s-requires : goal.step-s-requires
step-s-requires c =
    let p = c.requires in
    let l = c.loop-i.invariant in
    let t = c.loop-i-test.true in
    record { fine = l.fine; spare = omega (arith, l.room, p.short); known = p.known _ t }

pub loop-i-preserved : goal.loop-i-preserved
loop-i-preserved c =
    let p = c.requires in
    let l = c.loop-i.invariant in
    let t = c.loop-i-test.true in
    let s = c.step-s.ensures in
    record {
      far = omega arith;
      room = omega (arith, l.room, s.moved.grown);
      fine = s.moved.fine;
      shows =
          pass_next (number_at c.args.names.now c.args.text.now) c.args.codes.now c.args.places.now _
          (omega (arith, p.listed.codes_hold)) (omega (arith, p.listed.places_hold))
          c.leaf_byte-byte.ensures s l.shows;
    }

pub returns : goal.returns
returns c =
    let l = c.loop-i.invariant in
    let e : c.loop-i.i ≡ c.args.len =
    omega (arith, c.loop-i-test.false, l.far)
    in
    record { fine = l.fine; shows = rw e at l.shows }
