-- A sign's spelling, with nothing or a blank behind it, is the longest token there. One test, computed over all codes,
-- says that the token step takes it; that the step takes the longest token is shown in crate tokens.
--   Behind           what stands behind a written token
--   Sign             the codes of tokens that are no names
--   taken_by_step, sign_taken
use Prim.Native.Nat.{ℕ, ◌<◌, ◌≤◌}
use native.Mathlib.Omega.{arith}
use Rattle.std.specs.Prelude.{Ok, Err}
use mathlib.Core.Path.{◌≡◌, refl, subst}
use mathlib.Core.Bool.{Bool, true, false, ◌&&◌}
use mathlib.Core.List.{List, [], ◌∷◌, ◌++◌}
use lib.Dec.{eqb, ltb}
use lib.ListN.{length, length-append}
use lib.Seq.{take_at, drop_at}
use borrow.Author.Tests.{eqb-true, ltb-true}
use Rattle.alf.specs.Names.{is_letter, is_decimal, starts_name, goes_on_name}
use Rattle.alf.specs.States.{among}
use Rattle.basics.proofs.Bools.{and_left, and_right, never}
use Rattle.token_steps.specs.Classes.{half_of}
use Rattle.token_steps.specs.Spelling.{spellings}
use Rattle.token_steps.specs.Taking.{name_bytes, Taken}
use Rattle.token_steps.specs.Steps.{starts, first_of, name_step, half_at, based_step, plain_step, step_of, step, Outcome}
use Rattle.basics.proofs.Ranges.{all_from, all_from_law}
use Rattle.token_steps.proofs.Right.{Right, Right_token}
use Rattle.token_steps.proofs.Taking.{right}
use Rattle.spelling.specs.Spelled.{half_byte, literal_spelled, pair_spelled, operators, marks, prefixes, sign_spelled}

-- what stands behind a written token: nothing, or a blank
pub data Behind : List ℕ → Type 0 where
  end : Behind []
  blank : {bs : List ℕ} → Behind (32 ∷ bs)

-- where the token step takes all of w, w is the longest token
right_some : (bs : List ℕ) → 0 < length bs → Right bs (step_of bs)
right_some [] h = absurd (omega arith)
right_some (b ∷ bs) h = right b bs

pub taken_by_step :
    (w rest : List ℕ) (c : ℕ) →
    0 < length w →
    step_of (w ++ rest) ≡ step c (length w) →
    Taken (w ++ rest) w c rest
taken_by_step w rest c h e =
    let l : 0 < length (w ++ rest) = rw length-append (omega arith) in
    let r : Right_token (w ++ rest) (record { code = c; size = length w }) =
    subst (Right (w ++ rest)) e (right_some (w ++ rest) l) in
    rw (take_at w rest (length w) refl, drop_at w rest (length w) refl) at r.takes

-- the step is the token with a code and a size
is_token : Outcome → ℕ → ℕ → Bool
is_token (Ok s) c n = eqb s.code c && eqb s.size n
is_token (Err k) c n = false

token_is : (o : Outcome) (c n : ℕ) → is_token o c n ≡ true → o ≡ step c n
unfolding is_token
token_is (Ok s) c n t =
    rw (← eqb-true s.code c (and_left (eqb s.code c) _ t), ← eqb-true s.size n (and_right (eqb s.code c) _ t))
token_is (Err k) c n t = never t

-- codes of signs: literals, operators, marks, prefixes
pub data Sign : ℕ → Type 0 where
  low : {c : ℕ} → 32 ≤ c → c < 54 → Sign c
  high : {c : ℕ} → 60 ≤ c → c < 148 → Sign c

takes : List ℕ → ℕ → Bool
takes rest c =
    is_token (step_of (sign_spelled c ++ rest)) c (length (sign_spelled c)) && ltb 0 (length (sign_spelled c))

-- the test passes for every code, whatever stands behind the blank
tested : List ℕ → Bool
tested rest = all_from (takes rest) 32 22 && all_from (takes rest) 60 88

tested_end : tested [] ≡ true
unfolding tested takes is_token sign_spelled literal_spelled half_byte operators marks prefixes pair_spelled
    step_of name_step based_step plain_step first_of starts spellings half_at half_of among
    starts_name goes_on_name is_letter is_decimal name_bytes
tested_end = refl

tested_blank : (bs : List ℕ) → tested (32 ∷ bs) ≡ true
unfolding tested takes is_token sign_spelled literal_spelled half_byte operators marks prefixes pair_spelled
    step_of name_step based_step plain_step first_of starts spellings half_at half_of among
    starts_name goes_on_name is_letter is_decimal name_bytes
tested_blank bs = refl

behind_tested : {rest : List ℕ} → Behind rest → tested rest ≡ true
behind_tested end = tested_end
behind_tested blank = tested_blank _

sign_takes : {rest : List ℕ} {c : ℕ} → Behind rest → Sign c → takes rest c ≡ true
unfolding tested
sign_takes {rest} {c} b (low l u) =
    all_from_law (takes rest) 32 22 c (and_left (all_from (takes rest) 32 22) _ (behind_tested b)) l (omega arith)
sign_takes {rest} {c} b (high l u) =
    all_from_law (takes rest) 60 88 c (and_right (all_from (takes rest) 32 22) _ (behind_tested b)) l (omega arith)

pub sign_small : {c : ℕ} → Sign c → c < 148
sign_small (low l u) = omega arith
sign_small (high l u) = u

pub sign_taken : {rest : List ℕ} {c : ℕ} → Behind rest → Sign c
    → Taken (sign_spelled c ++ rest) (sign_spelled c) c rest
unfolding takes
sign_taken {rest} {c} b s =
    let w = sign_spelled c in
    let t = sign_takes b s in
    let is = is_token (step_of (w ++ rest)) c (length w) in
    taken_by_step w rest c (ltb-true 0 _ (and_right is _ t)) (token_is _ c _ (and_left is _ t))
