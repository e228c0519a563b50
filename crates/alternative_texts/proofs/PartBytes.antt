-- The bytes of a part of a tree are those of its expression.
--   tops             the bytes of some expressions on top of a stack
--   tops_added       one byte more
--   part_tops        the bytes before a place end with those of the expressions on top
--   operand_bytes    of an operand, from where it starts to where it ends
--   edge_low, edge_high      the byte of an edge, by its number
--   bytes_laid, laid_decodes     the bytes of a test's expression, and that they are
use Prim.Native.Nat.{ℕ, zero, suc, ◌+◌, ◌-◌, ◌<◌, ◌≤◌}
use native.Mathlib.Omega.{arith}
use native.Mathlib.Nat.{add-zero}
use native.Mathlib.Numerals.{add-one, add-two, add-three, sub-one}
use mathlib.Core.Path.{◌≡◌, refl, sym, ap, ◌∙◌}
use mathlib.Core.Bool.{true}
use mathlib.Core.List.{List, [], ◌∷◌, ◌++◌, append_assoc, append-nil}
use mathlib.Core.Logic.{◌⊎◌, inl, inr}
use lib.ListN.{length, get_or, take, drop, length-append, length-take}
use borrow.Author.Tests.{le-ltb, ne_eqb}
use lib.Seq.{take-suc, take-add, drop_at, length-take-le}
use Rattle.alf.specs.Expressions.{boolean, vector, edge, stays, EdgeKnown, Over, VectorOver, ExpressionOver}
use Rattle.alf.specs.Bytes.{boolean_bytes, vector_bytes, bytes_of}
use Rattle.alf.specs.Decoder.{Stack, empty, broken, push, stack_at, arity_at}
use Rattle.alf.specs.Bytes.{edge_number}
use Rattle.alf.specs.Decoder.{is_boolean, top_boolean, edge_at, Decodes}
use Rattle.basics.proofs.Bools.{never, below?}
use Rattle.alf.proofs.OperatorBytes.{binary_byte_lem, join_byte_lem, edge_byte, edge_known}
use Rattle.alf.proofs.Encoding.{decode_bytes}
use Rattle.alf.proofs.Stacks.{AllOver, stack_over}
use Rattle.alf.proofs.Made.{Made, a_name, a_literal, a_negation, a_binary, a_choice, an_edge, a_join}
use Rattle.alf.proofs.Made.{a_condition, a_condition_before, nothing, made}
use Rattle.alf.proofs.Parts.{arity_zero, arity_one, arity_two, arity_three, deep, size, back}
use Rattle.trees.specs.Parts.{top, EndsBoolean, boolean_at, Start}
use Rattle.basics.specs.Memory.{Put}
use Rattle.basics.specs.Memory.{Holds}
use Rattle.basics.proofs.PartByPart.{held}
use Rattle.basics.proofs.PartByPart.{put_as}
use Rattle.basics.proofs.PartByPart.{put_then}

-- the bytes of the n expressions on top, the lowest first
tops : ℕ → Stack → List ℕ
tops zero s = []
tops (suc n) empty = []
tops (suc n) broken = []
tops (suc n) (push e s) = tops n s ++ bytes_of e

tops_added : (names b n : ℕ) {s s' : Stack} → Made names b s s' → deep (suc n) s'
    → tops (suc n) s' ≡ tops (n + arity_at b) s ++ (b ∷ [])
unfolding tops deep bytes_of boolean_bytes vector_bytes
tops_added names b n (a_name l u) h = rw (arity_zero b (omega arith), add-zero) refl
tops_added names b n (a_literal l u) h =
    let e : 32 + (b - 32) ≡ b = omega arith in
    rw (arity_zero b u, add-zero, e) refl
tops_added names b n (a_negation k e) h =
    rw (arity_one b (omega arith), add-one, e, k) (simp append_assoc)
tops_added names b n (a_binary l u e) h =
    rw (arity_two b l (omega arith), add-two, e, binary_byte_lem l u) (simp append_assoc)
tops_added names b n (a_choice k e) h =
    rw (arity_three b (omega arith) (omega arith), add-three, e, k) (simp append_assoc)
tops_added names b n (an_edge l u e) h = rw (arity_one b l, add-one, e, edge_byte l u) (simp append_assoc)
tops_added names b n (a_join l u e) h =
    rw (arity_two b (omega arith) (omega arith), add-two, e, join_byte_lem l u) (simp append_assoc)
tops_added names b n (a_condition k e) h =
    rw (arity_two b (omega arith) (omega arith), add-two, e, k) (simp append_assoc)
tops_added names b n (a_condition_before k e) h =
    rw (arity_two b (omega arith) (omega arith), add-two, e, k) (simp append_assoc)
tops_added names b n nothing h = absurd h

part_tops : (t : List ℕ) (names m n k : ℕ) → m ≤ length t → deep n (stack_at t names m)
    → k + size n (stack_at t names m) ≡ m → take m t ≡ take k t ++ tops n (stack_at t names m)
unfolding tops size deep stack_at
part_tops t names zero zero k l d e = let z : k ≡ 0 = omega arith in rw z refl
part_tops t names zero (suc n) k l d e = absurd d
part_tops t names (suc m) zero k l d e =
    let z : k ≡ suc m = omega arith in rw z (sym (append-nil (take (suc m) t)))
part_tops t names (suc m) (suc n) k l d e =
    let g = rw sub-one at (back t names (suc m) n (omega arith) d) in
    let r = part_tops t names m (n + arity_at (get_or t m 0)) k (omega arith) g.has (omega (arith, g.less)) in
    take-suc t m 0 l
    ∙ ap (λ (x : List ℕ). x ++ (get_or t m 0 ∷ [])) r
    ∙ append_assoc (take k t) _ _
    ∙ ap (λ (x : List ℕ). take k t ++ x)
    (sym (tops_added names (get_or t m 0) n (made names (get_or t m 0) (stack_at t names m)) d))

-- of a boolean expression on top
boolean_tops : (s : Stack) → is_boolean s ≡ true → tops 1 s ≡ boolean_bytes (top_boolean s)
unfolding tops is_boolean top_boolean bytes_of
boolean_tops empty h = never h
boolean_tops broken h = never h
boolean_tops (push (boolean c) s) h = refl
boolean_tops (push (vector p) s) h = never h

boolean_size : (s : Stack) → is_boolean s ≡ true → size 1 s ≡ length (bytes_of (top s))
unfolding size is_boolean top
boolean_size empty h = never h
boolean_size broken h = never h
boolean_size (push (boolean c) s) h = add-zero _
boolean_size (push (vector p) s) h = never h

boolean_deep : (s : Stack) → is_boolean s ≡ true → deep 1 s
unfolding deep is_boolean
boolean_deep empty h = never h
boolean_deep broken h = never h
boolean_deep (push (boolean c) s) h = tt
boolean_deep (push (vector p) s) h = never h

module _ {t : List ℕ} {names end start : ℕ} (h : EndsBoolean t names end) (s : Start t names end start) where
  front : take end t ≡ take start t ++ boolean_bytes (boolean_at t names end)
  front =
      part_tops t names end 1 start h.within (boolean_deep _ h.whole)
      (ap (λ (n : ℕ). start + n) (boolean_size _ h.whole) ∙ s.is)
      ∙ ap (λ (l : List ℕ). take start t ++ l) (boolean_tops _ h.whole)

  pub operand_bytes : take (end - start) (drop start t) ≡ boolean_bytes (boolean_at t names end)
  operand_bytes =
      let k : start + (end - start) ≡ end = omega (arith, s.before) in
      let l = length-take-le start t (omega (arith, s.before, h.within)) in
      sym (drop_at (take start t) _ start l)
      ∙ ap (drop start) (sym (take-add start (end - start) t) ∙ ap (λ (n : ℕ). take n t) k ∙ front)
      ∙ drop_at (take start t) _ start l

-- the byte of an edge; numbers from 82 on stand for `?-`
pub edge_low : (k : ℕ) → k < 82 → 64 + k ≡ 64 + edge_number (edge_at k)
edge_low k l =
    let e : 64 + k - 64 ≡ k = omega arith in
    sym (rw e at (edge_byte {b = 64 + k} (omega arith) (omega arith)))

edge_stays : (k : ℕ) → 82 ≤ k → edge_at k ≡ stays
unfolding edge_at
edge_stays k l =
    let h : 81 ≤ k = omega arith in
    rw (le-ltb k 81 h, ne_eqb k 81 (λ e. omega arith)) refl

pub edge_high : (k : ℕ) → 82 ≤ k → 146 ≡ 64 + edge_number (edge_at k)
unfolding edge_number
edge_high k l = rw (edge_stays k l) refl

any_known : (k : ℕ) → EdgeKnown (edge_at k)
unfolding EdgeKnown
any_known k = go (below? k 82)
  where
    go : (k < 82) ⊎ (82 ≤ k) → EdgeKnown (edge_at k)
    go (inl l) = edge_known k (omega arith)
    go (inr l) = rw (edge_stays k l) tt

top_over : (names : ℕ) (s : Stack) → is_boolean s ≡ true → AllOver names s → Over names (top_boolean s)
unfolding is_boolean top_boolean AllOver ExpressionOver
top_over names empty h o = never h
top_over names broken h o = never h
top_over names (push (boolean c) s) h o = o.0
top_over names (push (vector p) s) h o = never h

-- the bytes of a test's expression
module _ {tree : List ℕ} {names end : ℕ} (k : ℕ) (h : EndsBoolean tree names end) where
  abbrev laid : List ℕ
  laid = vector_bytes (edge (edge_at k) (boolean_at tree names end))

  is : {w : List ℕ} {b : ℕ} → w ≡ boolean_bytes (boolean_at tree names end)
      → b ≡ 64 + edge_number (edge_at k) → w ++ (b ∷ []) ≡ laid
  unfolding vector_bytes
  is d e = rw (d, e) refl

  pub bytes_laid : {start b n r : ℕ} {list list' list'' : List ℕ} → length tree ≤ 256 → 257 ≤ length list
      → Start tree names end start → Put list 0 (take (end - start) (drop start tree)) list' n
      → b ≡ 64 + edge_number (edge_at k) → Put list' n (b ∷ []) list'' r → Holds list'' r laid
  bytes_laid {start} {b} few room s p e q =
      let d = operand_bytes h s in
      held (put_as (is d e) (put_then p q))
      (omega (
        arith,
        ap length (is d e),
        length-append (take (end - start) (drop start tree)) (b ∷ []),
        length-take (end - start) (drop start tree),
        h.within,
      ))

  pub laid_decodes : names ≤ 32 → Decodes names laid (vector (edge (edge_at k) (boolean_at tree names end)))
  unfolding bytes_of ExpressionOver VectorOver
  laid_decodes few =
      decode_bytes names few (vector (edge (edge_at k) (boolean_at tree names end)))
      (any_known k, top_over names _ h.whole (stack_over tree names end))
