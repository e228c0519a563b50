use native.Mathlib.Omega.{arith}
use Rattle.basics.proofs.Deciding.{told, not_told}
use Rattle.text_heads.proofs.HeadChecks.{naming_first, names_done, word_here_lem, names_33rd, names_bad}
use Rattle.text_heads.proofs.HeadChecks.{naming_next}
use Rattle.text_heads.proofs.heads.check_names.Goals as goal

pub find_word-word-requires : goal.find_word-word-requires
find_word-word-requires c = c.requires.within

pub loop-i-init : goal.loop-i-init
loop-i-init c = naming_first c.find_word-word.ensures

pub returns-then-i-ge32 : goal.returns-then-i-ge32
returns-then-i-ge32 c =
    names_33rd c.requires c.loop-i.invariant c.loop-i-test.true _ c.if-i-ge32.true
    c.refuse.ensures

pub is_new_name-requires : goal.is_new_name-requires
is_new_name-requires c =
    word_here_lem c.requires c.loop-i.invariant
    c.loop-i-test.true

pub returns-then-not-is_new_name : goal.returns-then-not-is_new_name
returns-then-not-is_new_name c =
    names_bad c.requires c.loop-i.invariant c.loop-i-test.true _ c.if-i-ge32.false
    (not_told _ c.is_new_name.ensures c.if-not-is_new_name.true) c.refuse-then-not-is_new_name.ensures

pub find_word-word-requires-in-loop-i : goal.find_word-word-requires-in-loop-i
find_word-word-requires-in-loop-i c =
    let found = c.loop-i.invariant.found in
    omega (arith, found.run.low, found.run.within)

pub loop-i-preserved : goal.loop-i-preserved
loop-i-preserved c =
    naming_next c.requires c.loop-i.invariant c.loop-i-test.true c.if-i-ge32.false
    (told _ c.is_new_name.ensures c.if-not-is_new_name.false) c.find_word-word-in-loop-i.ensures

pub returns : goal.returns
returns c = names_done c.requires c.loop-i.invariant c.loop-i-test.false
