-- `list_values` meets its contract: 18, 15, or what writing answers.
use Rattle.basics.proofs.Deciding.{told, not_told}
use Rattle.column_listings.proofs.ListOrder.{refused_18, refused_15, listable, listed}
use Rattle.column_listings.proofs.listings.list_values.Goals as goal

pub returns-then-not-lists_fit : goal.returns-then-not-lists_fit
returns-then-not-lists_fit c =
    refused_18 (not_told _ c.lists_fit.ensures c.if-not-lists_fit.true) c.refuse.ensures

pub returns-then-bad-values : goal.returns-then-bad-values
returns-then-bad-values c =
    let fits = told _ c.lists_fit.ensures c.if-not-lists_fit.false in
    refused_15 fits c.first_bad_code-bad.ensures c.if-bad-values.true c.refuse-then-bad-values.ensures

pub write_values-requires : goal.write_values-requires
write_values-requires c =
    let fits = told _ c.lists_fit.ensures c.if-not-lists_fit.false in
    listable fits c.first_bad_code-bad.ensures c.if-bad-values.false

pub returns : goal.returns
returns c =
    let fits = told _ c.lists_fit.ensures c.if-not-lists_fit.false in
    listed (listable fits c.first_bad_code-bad.ensures c.if-bad-values.false) c.write_values.ensures
