-- `count_names` meets its contract.
use Prim.Native.Nat.{◌-◌}
use lib.ListN.{length}
use Rattle.trace_texts.specs.Finding.{from}
use Rattle.text_heads.proofs.Counting.{Counting}
use Rattle.text_heads.proofs.counts.count_names.Given as goal

abbrev pub invariant-loop-word : goal.invariant-loop-word
invariant-loop-word l = Counting l.text l.p l.n l.changed l.word.start l.word.end

abbrev pub decreases-loop-word : goal.decreases-loop-word
decreases-loop-word l = length (from l.text l.p).first.words - l.n
