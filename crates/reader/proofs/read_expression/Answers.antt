-- `read_expression` meets its contract: the list of names first, then the text.
use Rattle.std.proofs.lemmas.Result.{err_from_is_err_and}
use Rattle.reader.proofs.Openings.{names_done, names_wrong, refused_text}
use Rattle.reader.proofs.read_expression.Goals as goal

pub returns-in_err-check_names : goal.returns-in_err-check_names
returns-in_err-check_names c =
    let p = err_from_is_err_and c.from_residual.result c.from_residual.ensures.1 in
    rw (p.1, p.2) (names_wrong _ _ _ _ _ c.in_err-check_names.ensures)

pub read_text-requires : goal.read_text-requires
read_text-requires c = names_done _ _ _ c.in_ok-check_names.ensures

pub returns-in_err-r : goal.returns-in_err-r
returns-in_err-r c =
    let p = err_from_is_err_and c.from_residual-in_err-r.result c.from_residual-in_err-r.ensures.1 in
    rw (p.1, p.2) (refused_text c.in_err-r.ensures)
