-- `put_word` meets its contract: each range of signs is spelled by its own function.
use Rattle.spelling.proofs.Tables.{wording_name, wording_literal, wording_mark, wording_pair}
use Rattle.basics.proofs.PartByPart.{put_as}
use Rattle.spelling.proofs.Tables.{word_name, word_literal, word_mark, word_pair}
use native.Mathlib.Omega.{arith}
use mathlib.Core.Path.{sym}
use Rattle.spelling.proofs.spells.put_word.Goals as goal

pub put_name-requires : goal.put_name-requires
put_name-requires c = wording_name c.requires c.if-s-lt32.true

pub returns-then-s-lt32 : goal.returns-then-s-lt32
returns-then-s-lt32 c = put_as (sym (word_name _ _ c.if-s-lt32.true)) c.put_name.ensures

pub put_literal-requires : goal.put_literal-requires
put_literal-requires c = wording_literal c.requires c.if-s-lt32.false c.if-s-lt40.true

pub returns-then-s-lt40 : goal.returns-then-s-lt40
returns-then-s-lt40 c =
    put_as (sym (word_literal _ _ c.if-s-lt32.false c.if-s-lt40.true)) c.put_literal.ensures

pub put_mark-requires : goal.put_mark-requires
put_mark-requires c = wording_mark c.requires c.if-s-lt40.false (λ h. omega arith)

pub returns-then-s-lt64 : goal.returns-then-s-lt64
returns-then-s-lt64 c = put_as (sym (word_mark _ _ c.if-s-lt40.false)) c.put_mark.ensures

pub put_pair-requires : goal.put_pair-requires
put_pair-requires c = wording_pair c.requires c.if-s-lt64.false c.if-s-lt145.true

pub returns-then-s-lt145 : goal.returns-then-s-lt145
returns-then-s-lt145 c =
    put_as (sym (word_pair _ _ c.if-s-lt64.false c.if-s-lt145.true)) c.put_pair.ensures

pub put_mark-requires-2 : goal.put_mark-requires-2
put_mark-requires-2 c = wording_mark c.requires c.if-s-lt40.false (λ h. c.if-s-lt145.false)

pub returns : goal.returns
returns c = put_as (sym (word_mark _ _ c.if-s-lt40.false)) c.put_mark-2.ensures
