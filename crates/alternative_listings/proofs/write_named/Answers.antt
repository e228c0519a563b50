-- `write_named` meets its contract.
use mathlib.Core.Path.{ap}
use mathlib.Core.Bool.{not}
use Rattle.basics.proofs.Deciding.{decided_no, decided_yes}
use Rattle.alternative_listings.proofs.WritingCases.{refused_tree, listed}
use Rattle.alternative_listings.proofs.write_named.Goals as goal

pub returns-then-not-accepts : goal.returns-then-not-accepts
returns-then-not-accepts c =
    refused_tree c.requires (decided_no _ c.accepts.ensures (ap not c.if-not-accepts.true)) c.refuse.ensures

pub list_tree-requires : goal.list_tree-requires
list_tree-requires c =
    record { named = c.requires; accepted = decided_yes _ c.accepts.ensures (ap not c.if-not-accepts.false) }

pub returns : goal.returns
returns c =
    listed c.requires (decided_yes _ c.accepts.ensures (ap not c.if-not-accepts.false)) c.list_tree.ensures
