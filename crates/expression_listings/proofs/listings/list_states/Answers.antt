-- `list_states` meets its contract.
use Rattle.std.proofs.lemmas.Result.{err_from_is_err_and}
use Rattle.expression_listings.proofs.RowListings.{states_refused, states_listed}
use Rattle.expression_listings.proofs.listings.list_states.Goals as goal

pub returns-in_err-values : goal.returns-in_err-values
returns-in_err-values c =
    let p = err_from_is_err_and c.from_residual.result c.from_residual.ensures.1 in
    rw (p.1, p.2)
    (states_refused c.requires.accepted c.requires.codes_len c.values.ensures c.in_err-values.was)

pub returns : goal.returns
returns c =
    states_listed c.requires.accepted c.requires.codes_len c.values.ensures c.in_ok-values.was
    c.list_values.ensures
