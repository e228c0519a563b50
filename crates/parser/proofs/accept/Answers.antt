use Prim.Native.Nat.{◌≤◌, ◌<◌}
use lib.ListN.{length}
use borrow.Author.Rules.{rules}
use Rattle.basics.proofs.Stores.{writing_first}
use Rattle.parser.proofs.LastState.{column_next, accepted_all}
use Rattle.parser.proofs.accept.Goals as goal

pub loop-i-init : goal.loop-i-init
loop-i-init c = record { codes_are = writing_first; places_are = writing_first }

pub loop-i-preserved : goal.loop-i-preserved
loop-i-preserved c =
    let l = c.loop-i in
    let a = c.args in
    let few : a.len ≤ length a.nodes.now = search rules in
    let more : l.i < a.len = search rules in
    let cs = a.codes.now in
    let ps = a.places.now in
    let ns = a.nodes.now in
    record {
      codes_are = column_next _ cs ps ns a.len few l.invariant.codes_are more c.code_of.ensures;
      places_are = column_next _ cs ps ns a.len few l.invariant.places_are more c.place_of.ensures;
    }

pub returns : goal.returns
returns c =
    let l = c.loop-i in
    accepted_all c.args.codes.now c.args.places.now _ c.requires (search rules) l.invariant.codes_are
    l.invariant.places_are
