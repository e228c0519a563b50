-- `operators::operated` meets its contract: each byte's function is the definition's.
use borrow.Author.Rules.{rules}
use Rattle.alf.specs.Values.{operate}
use Rattle.alf.specs.Decoder.{binary_at}
use Rattle.evaluator.proofs.Operating.{operated_by, past, only}
use Rattle.evaluator.proofs.operators.operated.Goals as goal

pub and_of-requires : goal.and_of-requires
unfolding operate binary_at
and_of-requires c = search rules

pub or_of-requires : goal.or_of-requires
unfolding operate binary_at
or_of-requires c = search rules

pub xor_of-requires : goal.xor_of-requires
unfolding operate binary_at
xor_of-requires c = search rules

pub xnor_of-requires : goal.xnor_of-requires
unfolding operate binary_at
xnor_of-requires c = search rules

pub equals-requires : goal.equals-requires
unfolding operate binary_at
equals-requires c = search rules

pub differs-requires : goal.differs-requires
unfolding operate binary_at
differs-requires c = search rules

pub above-requires : goal.above-requires
unfolding operate binary_at
above-requires c = search rules

pub below-requires : goal.below-requires
unfolding operate binary_at
below-requires c = search rules

pub at_least-requires : goal.at_least-requires
unfolding operate binary_at
at_least-requires c = search rules

pub at_most-requires : goal.at_most-requires
unfolding operate binary_at
at_most-requires c = search rules

pub returns-in-40 : goal.returns-in-40
unfolding operate binary_at
returns-in-40 c = operated_by 40 _ _ c.in-40.is c.and_of.ensures

pub returns-in-41 : goal.returns-in-41
unfolding operate binary_at
returns-in-41 c = operated_by 41 _ _ c.in-41.is c.or_of.ensures

pub returns-in-42 : goal.returns-in-42
unfolding operate binary_at
returns-in-42 c = operated_by 42 _ _ c.in-42.is c.xor_of.ensures

pub returns-in-43 : goal.returns-in-43
unfolding operate binary_at
returns-in-43 c = operated_by 43 _ _ c.in-43.is c.xnor_of.ensures

pub returns-in-44 : goal.returns-in-44
unfolding operate binary_at
returns-in-44 c = operated_by 44 _ _ c.in-44.is c.equals.ensures

pub returns-in-45 : goal.returns-in-45
unfolding operate binary_at
returns-in-45 c = operated_by 45 _ _ c.in-45.is c.differs.ensures

pub returns-in-46 : goal.returns-in-46
unfolding operate binary_at
returns-in-46 c = operated_by 46 _ _ c.in-46.is c.above.ensures

pub returns-in-47 : goal.returns-in-47
unfolding operate binary_at
returns-in-47 c = operated_by 47 _ _ c.in-47.is c.below.ensures

pub returns-in-48 : goal.returns-in-48
unfolding operate binary_at
returns-in-48 c = operated_by 48 _ _ c.in-48.is c.at_least.ensures

pub returns-in_default : goal.returns-in_default
unfolding operate binary_at
returns-in_default c =
    let r = c.in_default.in_default-own.rest in
    let r3 = r.0.0.0 in
    let r6 = r3.0.0.0 in
    let from43 = past (past (past c.requires.first r6.0.0.1) r6.0.1) r6.1 in
    let from46 = past (past (past from43 r3.0.0.1) r3.0.1) r3.1 in
    let from49 = past (past (past from46 r.0.0.1) r.0.1) r.1 in
    operated_by 49 _ _ (only from49 c.requires.last) c.at_most.ensures
