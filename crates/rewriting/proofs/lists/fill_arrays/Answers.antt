-- `rewriting::lists::fill_arrays` meets its contract: the arrays have room.
use Rattle.rewriting.proofs.Holding.{arrays_fillable}
use borrow.Author.Rules.{rules}
use Rattle.rewriting.proofs.lists.fill_arrays.Goals as goal

pub fill-requires : goal.fill-requires
fill-requires c =
    (arrays_fillable c.requires.0 (search rules) (search rules) (search rules) (search rules), c.requires.1)
