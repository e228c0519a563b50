use borrow.Author.Rules.{rules}
use borrow.Author.Count.{below_none, below_more}
use native.Mathlib.Omega.{arith}
use mathlib.Core.Path.{refl, ap}
use mathlib.Core.Bool.{not}
use Rattle.basics.proofs.Deciding.{decided_no, decided_yes}
use Rattle.names.proofs.Outcomes.{names_18, names_12, names_done}
use Rattle.names.proofs.check_names.Goals as goal

pub returns-then-n-ne0 : goal.returns-then-n-ne0
returns-then-n-ne0 c = rw c.refuse.ensures (names_18 _ _ (λ s. c.if-n-ne0.true s.whole))

pub returns-then-k-eq0 : goal.returns-then-k-eq0
returns-then-k-eq0 c =
    rw c.refuse-then-k-eq0.ensures (names_18 _ _ (λ s. omega (arith, s.some, c.if-k-eq0.true)))

pub returns-then-k-gt32 : goal.returns-then-k-gt32
returns-then-k-gt32 c =
    rw c.refuse-then-k-gt32.ensures (names_18 _ _ (λ s. omega (arith, s.few, c.if-k-gt32.true)))

pub loop-i-init : goal.loop-i-init
loop-i-init c =
    (search rules, record { whole = search rules; some = search rules; few = search rules }, below_none _)

pub returns-then-not-good_slot : goal.returns-then-not-good_slot
returns-then-not-good_slot c =
    rw c.refuse-then-not-good_slot.ensures
    (names_12 _ _ c.loop-i.invariant.1 _ c.loop-i-test.true
    c.loop-i.invariant.2
    (decided_no _ c.good_slot.ensures (ap not c.if-not-good_slot.true)))

pub loop-i-preserved : goal.loop-i-preserved
loop-i-preserved c = (
  search rules,
  c.loop-i.invariant.1,
  below_more _ _ c.loop-i.invariant.2
      (decided_yes _ c.good_slot.ensures (ap not c.if-not-good_slot.false)),
)

pub returns : goal.returns
returns c =
    names_done _ _ c.loop-i.invariant.1 _ refl
    (λ j l. c.loop-i.invariant.2 j (omega (arith, c.loop-i-test.false)))
