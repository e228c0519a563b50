-- `check_end` meets its contract.
use Rattle.record_checks.proofs.RowCursors.{end_early, end_cut, end_count, end_after, end_good}
use Rattle.record_checks.proofs.checks.check_end.Goals as goal

pub returns-then-n-eq0 : goal.returns-then-n-eq0
returns-then-n-eq0 c = end_early c.requires c.refuse.ensures c.if-n-eq0.true

pub returns-then-file-at-lt6 : goal.returns-then-file-at-lt6
returns-then-file-at-lt6 c =
    end_cut c.requires c.if-n-eq0.false c.refuse-then-file-at-lt6.ensures
    c.if-file-at-lt6.true

pub returns-then-word_at-n : goal.returns-then-word_at-n
returns-then-word_at-n c =
    end_count c.requires c.if-n-eq0.false
    c.if-file-at-lt6.false c.word_at.ensures.is c.refuse-then-word_at-n.ensures
    c.if-word_at-n.true

pub returns-then-file-at-gt6 : goal.returns-then-file-at-gt6
returns-then-file-at-gt6 c =
    end_after c.requires
    c.if-n-eq0.false c.if-file-at-lt6.false
    c.word_at.ensures.is c.if-word_at-n.false
    c.refuse-then-file-at-gt6.ensures c.if-file-at-gt6.true

pub returns : goal.returns
returns c =
    end_good c.requires c.if-n-eq0.false
    c.if-file-at-lt6.false c.word_at.ensures.is c.if-word_at-n.false c.if-file-at-gt6.false
