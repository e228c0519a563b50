use native.Mathlib.Omega.{arith}
use Rattle.text_heads.proofs.NewNames.{not_named, newing_first, repeated, newing_next, new_all}
use Rattle.text_heads.proofs.heads.is_new_name.Goals as goal

pub slice_bounds-is_name-count : goal.slice_bounds-is_name-count
slice_bounds-is_name-count c = omega (arith, c.requires.found.run.low)

pub slice_bounds-is_name-start : goal.slice_bounds-is_name-start
slice_bounds-is_name-start c = omega (arith, c.requires.found.run.low)

pub slice_bounds-is_name-end : goal.slice_bounds-is_name-end
slice_bounds-is_name-end c = omega (arith, c.requires.found.run.within)

pub returns-then-not-is_name : goal.returns-then-not-is_name
returns-then-not-is_name c = not_named c.requires c.is_name.ensures c.if-not-is_name.true

pub find_word-earlier-requires : goal.find_word-earlier-requires
find_word-earlier-requires c = c.requires.within

pub loop-j-init : goal.loop-j-init
loop-j-init c = λ w. newing_first w c.find_word-earlier.ensures

pub slice_bounds-same-count : goal.slice_bounds-same-count
slice_bounds-same-count c = omega (arith, (c.loop-j.invariant c.requires).found.run.low)

pub slice_bounds-same-start : goal.slice_bounds-same-start
slice_bounds-same-start c = omega (arith, (c.loop-j.invariant c.requires).found.run.low)

pub slice_bounds-same-end : goal.slice_bounds-same-end
slice_bounds-same-end c = omega (arith, (c.loop-j.invariant c.requires).found.run.within)

pub slice_bounds-same-count-in-loop-j : goal.slice_bounds-same-count-in-loop-j
slice_bounds-same-count-in-loop-j c = omega (arith, c.requires.found.run.low)

pub slice_bounds-same-start-in-loop-j : goal.slice_bounds-same-start-in-loop-j
slice_bounds-same-start-in-loop-j c = omega (arith, c.requires.found.run.low)

pub slice_bounds-same-end-in-loop-j : goal.slice_bounds-same-end-in-loop-j
slice_bounds-same-end-in-loop-j c = omega (arith, c.requires.found.run.within)

pub returns-then-same : goal.returns-then-same
returns-then-same c =
    repeated c.requires (c.loop-j.invariant c.requires) c.loop-j-test.true c.same.ensures.0
    c.if-same.true

pub find_word-earlier-requires-in-loop-j : goal.find_word-earlier-requires-in-loop-j
find_word-earlier-requires-in-loop-j c =
    let found = (c.loop-j.invariant c.requires).found in
    omega (arith, found.run.low, found.run.within)

pub loop-j-preserved : goal.loop-j-preserved
loop-j-preserved c =
    λ w. newing_next w (c.loop-j.invariant w) c.loop-j-test.true c.same.ensures.1
    c.if-same.false c.find_word-earlier-in-loop-j.ensures

pub returns : goal.returns
returns c =
    new_all c.requires (c.loop-j.invariant c.requires) c.loop-j-test.false c.is_name.ensures
    c.if-not-is_name.false
