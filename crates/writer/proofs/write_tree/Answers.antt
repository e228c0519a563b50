-- `write_tree` meets its contract: refused with 10, or laid out, spelled and delivered.
use Rattle.basics.proofs.Deciding.{told, not_told}
use Rattle.basics.proofs.PartByPart.{holds_within, holds_count}
use Rattle.writer.proofs.Calls.{under_old, not_old, refused_tree, laid, lined, wrote}
use Rattle.writer.proofs.write_tree.Goals as goal

pub returns-then-not-accepts : goal.returns-then-not-accepts
returns-then-not-accepts c =
    refused_tree c.requires
    (not_old c.old_rules.ensures
    (not_told _ c.accepts.ensures c.if-not-accepts.true))
    c.refuse.ensures

pub lay_out-count-requires : goal.lay_out-count-requires
lay_out-count-requires c =
    laid c.requires
    (under_old c.old_rules.ensures
    (told _ c.accepts.ensures c.if-not-accepts.false))

pub spell_out-size-requires : goal.spell_out-size-requires
spell_out-size-requires c =
    lined c.requires
    (under_old c.old_rules.ensures
    (told _ c.accepts.ensures c.if-not-accepts.false))
    c.lay_out-count.ensures

pub slice_bounds-buffer-end : goal.slice_bounds-buffer-end
slice_bounds-buffer-end c = holds_within c.spell_out-size.ensures

pub slice_bounds-deliver-end : goal.slice_bounds-deliver-end
slice_bounds-deliver-end c = holds_count c.spell_out-size.ensures

pub returns : goal.returns
returns c =
    wrote c.requires
    (under_old c.old_rules.ensures
    (told _ c.accepts.ensures c.if-not-accepts.false))
    c.lay_out-count.ensures c.spell_out-size.ensures c.deliver.ensures
