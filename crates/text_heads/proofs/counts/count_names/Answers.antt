use native.Mathlib.Omega.{arith}
use mathlib.Core.Path.{◌∙◌}
use Rattle.trace_texts.proofs.WordOf.{word_of}
use Rattle.text_heads.proofs.Counting.{counting_first, counting_few, counting_next}
use Rattle.text_heads.proofs.Counting.{counted, marked, unmarked}
use Rattle.text_heads.proofs.counts.count_names.Goals as goal
use Rattle.text_heads.proofs.counts.count_names.Goals.{then-is_changed, else-is_changed}

pub find_word-word-requires : goal.find_word-word-requires
find_word-word-requires c = c.requires

pub loop-word-init : goal.loop-word-init
loop-word-init c = counting_first c.find_word-word.ensures

pub slice_bounds-is_changed-count : goal.slice_bounds-is_changed-count
slice_bounds-is_changed-count c = omega (arith, c.loop-word-test.true)

pub slice_bounds-is_changed-start : goal.slice_bounds-is_changed-start
slice_bounds-is_changed-start c = omega (arith, c.loop-word-test.true)

pub slice_bounds-is_changed-end : goal.slice_bounds-is_changed-end
slice_bounds-is_changed-end c = omega (arith, c.loop-word.invariant.found.run.within)

pub find_word-word-requires-in-loop-word : goal.find_word-word-requires-in-loop-word
find_word-word-requires-in-loop-word c =
    omega (arith, c.loop-word-test.true, c.loop-word.invariant.found.run.within)

pub overflow_add-n : goal.overflow_add-n
overflow_add-n c = omega (arith, counting_few c.loop-word.invariant c.loop-word-test.true)

pub loop-word-smaller : goal.loop-word-smaller
loop-word-smaller c = omega (arith, (word_of c.loop-word.invariant.found c.loop-word-test.true).0)

pub loop-word-preserved : goal.loop-word-preserved
loop-word-preserved c =
    counting_next c.loop-word.invariant _ c.loop-word-test.true
    (elim c.if-is_changed.branch [
      | then-is_changed w ↦ w.changed-is ∙ marked _ _ _ c.is_changed.ensures w.if-is_changed.true
      | else-is_changed w ↦ w.changed-is ∙ unmarked _ _ _ c.is_changed.ensures w.if-is_changed.false
    ])
    c.find_word-word-in-loop-word.ensures

pub returns : goal.returns
returns c = rw (c.unwrap_or.ensures, c.is_some.ensures) (counted c.loop-word.invariant c.loop-word-test.false)
