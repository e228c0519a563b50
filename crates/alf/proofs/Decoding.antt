-- Whatever bytes decode to an expression are its bytes: same expression, same bytes, and a tree decodes to at most one.
-- Main names: bytes_decode, decode_over, decode_unique, same_bytes.
use Prim.Native.Nat.{ℕ, zero, suc, ◌+◌, ◌-◌, ◌≤◌}
use native.Mathlib.Omega.{arith}
use mathlib.Core.Path.{◌≡◌, refl, ap, sym, ◌∙◌}
use mathlib.Core.List.{List, [], ◌∷◌, ◌++◌, append_assoc}
use lib.ListN.{get_or, length, take}
use lib.Seq.{take-suc, take-length}
use Rattle.alf.specs.Expressions.{Expression, ExpressionOver}
use Rattle.alf.specs.Bytes.{boolean_bytes, vector_bytes, bytes_of}
use Rattle.alf.specs.Decoder.{Stack, empty, broken, push, stack_at, Decodes}
use Rattle.alf.proofs.Made.{Made, a_name, a_literal, a_negation, a_binary, a_choice, an_edge, a_join}
use Rattle.alf.proofs.Made.{a_condition, a_condition_before, nothing, made}
use Rattle.alf.proofs.OperatorBytes.{binary_byte_lem, join_byte_lem, edge_byte}
use Rattle.alf.proofs.Stacks.{AllOver, stack_over}

-- the bytes of all that a stack holds, from the bottom
held : Stack → List ℕ
held empty = []
held broken = []
held (push e s) = held s ++ bytes_of e

-- nothing is broken at the bottom
Sound : Stack → Type 0
Sound empty = Unit {0}
Sound broken = ⊥
Sound (push e s) = Sound s

-- a byte that leaves the stack sound adds itself
record Added (b : ℕ) (s s' : Stack) : Type 0 where
  sound : Sound s
  bytes : held s' ≡ held s ++ (b ∷ [])

added : (names b : ℕ) {s s' : Stack} → Made names b s s' → Sound s' → Added b s s'
unfolding held Sound bytes_of boolean_bytes vector_bytes
added names b (a_name l u) h = record { sound = h; bytes = refl }
added names b (a_literal l u) h =
    let e : 32 + (b - 32) ≡ b = omega arith in
    record { sound = h; bytes = rw e refl }
added names b (a_negation k e) h = record { sound = rw e h; bytes = rw (e, k) (simp append_assoc) }
added names b (a_binary l u e) h =
    record { sound = rw e h; bytes = rw (e, binary_byte_lem l u) (simp append_assoc) }
added names b (a_choice k e) h = record { sound = rw e h; bytes = rw (e, k) (simp append_assoc) }
added names b (an_edge l u e) h = record { sound = rw e h; bytes = rw (e, edge_byte l u) (simp append_assoc) }
added names b (a_join l u e) h = record { sound = rw e h; bytes = rw (e, join_byte_lem l u) (simp append_assoc) }
added names b (a_condition k e) h = record { sound = rw e h; bytes = rw (e, k) (simp append_assoc) }
added names b (a_condition_before k e) h = record { sound = rw e h; bytes = rw (e, k) (simp append_assoc) }
added names b nothing h = absurd h

-- what the stack holds is what was read
read : (t : List ℕ) (names n : ℕ) → n ≤ length t → Sound (stack_at t names n)
    → held (stack_at t names n) ≡ take n t
unfolding stack_at held
read t names zero l h = refl
read t names (suc n) l h =
    let a = added names (get_or t n 0) (made names (get_or t n 0) (stack_at t names n)) h in
    a.bytes ∙ rw (read t names n (omega arith) a.sound) (sym (take-suc t n 0 l))

module _ (names : ℕ) (t : List ℕ) (e : Expression) (h : Decodes names t e) where
  whole : held (stack_at t names (length t)) ≡ take (length t) t
  unfolding Decodes Sound
  whole = read t names (length t) (omega arith) (rw h tt)

  pub bytes_decode : bytes_of e ≡ t
  unfolding Decodes held
  bytes_decode = sym (ap held h) ∙ whole ∙ take-length t

  pub decode_over : ExpressionOver names e
  unfolding Decodes AllOver
  decode_over = (rw h at (stack_over t names (length t))).0

pub same_bytes : (names : ℕ) (t u : List ℕ) (e : Expression) → Decodes names t e → Decodes names u e → t ≡ u
same_bytes names t u e h k = sym (bytes_decode names t e h) ∙ bytes_decode names u e k

top : Stack → Expression → Expression
top empty d = d
top broken d = d
top (push e s) d = e

pub decode_unique : (names : ℕ) (t : List ℕ) (e f : Expression) → Decodes names t e → Decodes names t f
    → e ≡ f
unfolding Decodes top
decode_unique names t e f h k = ap (λ (s : Stack). top s e) (sym h ∙ k)
