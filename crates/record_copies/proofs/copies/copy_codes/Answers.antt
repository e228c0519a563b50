-- `copy_codes` meets its contract.
use Prim.Native.Nat.{◌+◌}
use Rattle.record_copies.proofs.Copying.{codes_put}
use Rattle.record_copies.proofs.copies.copy_codes.Goals as goal

pub returns : goal.returns
returns c = codes_put c.args.file.now (c.args.q + 2 + c.args.w) c.args.k c.put.ensures
