-- `check_name` meets its contract.
use Rattle.record_checks.proofs.Cursors.{
  name_late,
  name_33rd,
  name_unmeasured,
  name_cut,
  name_stands,
  name_not,
  name_old,
}
use Rattle.record_checks.proofs.Cursors.{name_good}
use Rattle.record_checks.proofs.checks.check_name.Goals as goal

pub returns-then-s-ne0 : goal.returns-then-s-ne0
returns-then-s-ne0 c = name_late c.requires c.refuse.ensures c.if-s-ne0.true

pub returns-then-k-gt31 : goal.returns-then-k-gt31
returns-then-k-gt31 c = name_33rd c.requires c.refuse-then-k-gt31.ensures c.if-k-gt31.true

pub returns-then-file-at-lt3 : goal.returns-then-file-at-lt3
returns-then-file-at-lt3 c =
    name_unmeasured c.requires c.if-s-ne0.false
    c.if-k-gt31.false c.refuse-then-file-at-lt3.ensures c.if-file-at-lt3.true

pub returns-then-file-from : goal.returns-then-file-from
returns-then-file-from c =
    name_cut c.requires
    c.if-s-ne0.false c.if-k-gt31.false
    c.byte_at-n.ensures c.if-file-at-lt3.false
    c.refuse-then-file-from.ensures c.if-file-from.true

pub returns-then-not-is_name : goal.returns-then-not-is_name
returns-then-not-is_name c =
    name_not c.requires
    c.if-s-ne0.false
    c.if-k-gt31.false
    c.byte_at-n.ensures
    c.if-file-at-lt3.false
    c.if-file-from.false c.is_name.ensures c.refuse-then-not-is_name.ensures
    c.if-not-is_name.true

pub is_new-requires : goal.is_new-requires
is_new-requires c =
    name_stands c.requires
    c.if-s-ne0.false
    c.if-k-gt31.false
    c.byte_at-n.ensures c.if-file-at-lt3.false
    c.if-file-from.false

pub returns-then-not-is_new : goal.returns-then-not-is_new
returns-then-not-is_new c =
    name_old c.requires c.if-s-ne0.false
    c.if-k-gt31.false
    c.byte_at-n.ensures
    c.if-file-at-lt3.false
    c.if-file-from.false
    c.is_name.ensures c.is_new.ensures c.refuse-then-not-is_new.ensures
    c.if-not-is_new.true

pub returns : goal.returns
returns c =
    name_good c.requires
    c.if-s-ne0.false
    c.if-k-gt31.false
    c.byte_at-n.ensures
    c.if-file-at-lt3.false
    c.if-file-from.false c.is_name.ensures
    c.is_new.ensures c.if-not-is_name.false
    c.if-not-is_new.false
