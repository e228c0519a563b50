-- `correcting::put_codes` meets its contract.
use Prim.Native.Nat.{◌≤◌}
use mathlib.Core.List.{map}
use lib.ListN.{length, take}
use Rattle.basics.specs.Memory.{Put}
use Rattle.state_letters.specs.Letters.{state_of}
use Rattle.letter_corrections.proofs.correcting.put_codes.Given as goal

abbrev pub invariant-loop-i : goal.invariant-loop-i
invariant-loop-i l = (l.i ≤ length l.letters) × Put l.initial.out 0 (take l.i (map state_of l.letters)) l.out l.i
