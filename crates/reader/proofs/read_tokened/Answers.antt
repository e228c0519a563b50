-- `read_tokened` meets its contract.
use borrow.Author.Tests.{not-true, not-false}
use native.Mathlib.Omega.{arith}
use Rattle.reader.proofs.TokenedTexts.{parse_asked, names_asked, count_small, short, five_inside}
use Rattle.reader.proofs.TokenedTexts.{whole_five, whole_six, grown, whole_sorted}
use Rattle.reader.proofs.read_tokened.Goals as goal

pub parse-parsed-requires : goal.parse-parsed-requires
parse-parsed-requires c = parse_asked c.requires

pub refuse_token-requires : goal.refuse_token-requires
refuse_token-requires c =
    five_inside c.requires c.args.sort c.parse-parsed.ensures (not-true _ c.if-not-parsed.true)

pub returns-then-not-parsed : goal.returns-then-not-parsed
returns-then-not-parsed c =
    whole_five c.requires _ c.parse-parsed.ensures c.args.rules
    (not-true _ c.if-not-parsed.true) c.refuse_token.ensures

pub first_unknown-u-requires : goal.first_unknown-u-requires
first_unknown-u-requires c = names_asked c.requires

-- the number of an unknown name, and its place
pub bounds-t-u : goal.bounds-t-u
bounds-t-u c =
    omega (arith, count_small c.requires, c.if-u-count.true)

pub offset_bounds-t-u : goal.offset_bounds-t-u
offset_bounds-t-u c =
    omega (arith, count_small c.requires, c.if-u-count.true)

pub refuse_token-requires-then-u-count : goal.refuse_token-requires-then-u-count
refuse_token-requires-then-u-count c =
    (names_asked c.requires).inside c.first_unknown-u.result c.if-u-count.true

pub returns-then-u-count : goal.returns-then-u-count
returns-then-u-count c =
    whole_six c.requires _ c.parse-parsed.ensures (not-false _ c.if-not-parsed.false)
    c.first_unknown-u.ensures c.args.rules c.if-u-count.true
    c.refuse_token-then-u-count.ensures

pub read_nodes-requires : goal.read_nodes-requires
read_nodes-requires c =
    grown c.requires c.args.sort c.parse-parsed.ensures (not-false _ c.if-not-parsed.false)
    c.first_unknown-u.ensures

pub returns : goal.returns
returns c =
    whole_sorted c.requires _ c.parse-parsed.ensures (not-false _ c.if-not-parsed.false)
    c.first_unknown-u.ensures c.args.rules c.if-u-count.false
    c.read_nodes.ensures
