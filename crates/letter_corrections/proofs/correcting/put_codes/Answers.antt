use native.Mathlib.Omega.{arith}
use mathlib.Core.Path.{◌≡◌, refl}
use lib.ListN.{length, length-map}
use Rattle.basics.proofs.PartByPart.{put_length}
use Rattle.state_letters.specs.Letters.{state_of}
use Rattle.letter_corrections.proofs.LetterCodes.{codes_more, codes_all}
use Rattle.letter_corrections.proofs.correcting.put_codes.Goals as goal

pub loop-i-init : goal.loop-i-init
loop-i-init c = (omega arith, record { bytes = refl; next = omega arith })

pub bounds-out-i : goal.bounds-out-i
bounds-out-i c =
    omega (arith, length-map c.args.letters.now state_of, c.requires, put_length c.loop-i.invariant.1)

pub loop-i-preserved : goal.loop-i-preserved
loop-i-preserved c = (
  omega arith,
  codes_more c.args.letters.now c.loop-i-test.true c.code_of.ensures
      c.loop-i.invariant.1,
)

pub shape_of-out : goal.shape_of-out
shape_of-out c = put_length c.loop-i.invariant.1

pub returns : goal.returns
returns c =
    let e : c.loop-i.i ≡ length c.args.letters.now = omega (arith, c.loop-i-test.false) in
    rw e at (codes_all c.args.letters.now c.loop-i-test.false c.loop-i.invariant.1)
