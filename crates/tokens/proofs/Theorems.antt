-- What the crate stands for, in one place.
--   longest_token   where a token is taken, no longer token starts
--   step_sound      the step that the code computes takes the token that is taken, or stops where none is
--   step_complete_taken, step_complete_none   and it is the only one that does
--   reads_by_step   a text is read by such steps
--   one_text        a text has tokens, or a place where its bytes form none, and not both; each is the only one
--   one_reading     every text has one reading: its tokens, or one refusal of 1 to 4 at one place
use mathlib.Core.Path.{◌≡◌, ap, subst, ◌∙◌}
use Rattle.std.specs.Prelude.{Result, Ok, Err}
use Rattle.basics.specs.declared.Refusal.{Refusal}
use mathlib.Core.Bool.{false}
use mathlib.Core.List.{List, ◌∷◌, ◌++◌}
use Prim.Native.Nat.{ℕ, ◌+◌, ◌≤◌}
use lib.ListN.{length, take, drop}
use Rattle.tokens.specs.declared.Tokens.{Tokens}
use Rattle.token_steps.specs.Classes.{is_blank_lem}
use Rattle.token_steps.specs.Spelling.{IsToken}
use Rattle.token_steps.specs.Taking.{Taken, NoToken}
use Rattle.tokens.specs.Texts.{Token, token_at, Reads, Stuck}
use Rattle.tokens.specs.Texts.Reads.{token}
use Rattle.token_steps.specs.Steps.{step, step_of}
use Rattle.token_steps.specs.declared.Step.{Step}
use Rattle.tokens.specs.Tokenizing.{Tokenized}
use Rattle.token_steps.proofs.Right.{Right, Right_token}
use Rattle.token_steps.proofs.Taking.{right}
use Rattle.tokens.proofs.TextLaws.{taken_unique, taken_not_none, no_token_unique}
use Rattle.tokens.proofs.TextLaws.{Outcome, reads_or_stuck, reads_unique, stuck_unique, reads_not_stuck}
use Rattle.tokens.proofs.ReadingLaws.{reading_total, reading_unique}

pub longest_token :
    {bs w v a : List ℕ} {c d : ℕ} (rest : List ℕ) →
    Taken bs w c a →
    IsToken v d →
    bs ≡ v ++ rest →
    length v ≤ length w
longest_token rest t u e = t.longest _ _ rest u e

pub step_sound : (b : ℕ) (bs : List ℕ) → Right (b ∷ bs) (step_of (b ∷ bs))
step_sound = right

pub step_complete_taken :
    {b c : ℕ} {bs w a : List ℕ} →
    Taken (b ∷ bs) w c a →
    step_of (b ∷ bs) ≡ step c (length w)
step_complete_taken {b} {c} {bs} {w} t = go (step_of (b ∷ bs)) (right b bs)
  where
    go : (o : Result Step ℕ) → Right (b ∷ bs) o → o ≡ step c (length w)
    go (Ok s) r = let e = taken_unique t r.takes in let n = ap length e.bytes ∙ r.fits in rw (e.code, n)
    go (Err k) r = absurd (taken_not_none t r)

pub step_complete_none : {b k : ℕ} {bs : List ℕ} → NoToken (b ∷ bs) k → step_of (b ∷ bs) ≡ Err k
step_complete_none {b} {k} {bs} n = go (step_of (b ∷ bs)) (right b bs)
  where
    go : (o : Result Step ℕ) → Right (b ∷ bs) o → o ≡ Err k
    go (Ok s) r = absurd (taken_not_none r.takes n)
    go (Err j) r = ap Err (no_token_unique r n)

pub reads_by_step :
    {b : ℕ} {bs : List ℕ} {p : ℕ} (c n : ℕ) {ts : List Token} →
    is_blank_lem b ≡ false →
    step_of (b ∷ bs) ≡ step c n →
    Reads (p + n) (drop n (b ∷ bs)) ts →
    Reads p (b ∷ bs) (token_at c p ∷ ts)
reads_by_step {b} {bs} {p} c n {ts} h e r =
    let s : Right_token (b ∷ bs) (record { code = c; size = n }) = subst (Right (b ∷ bs)) e (right b bs) in
    let onward : Reads (p + length (take n (b ∷ bs))) (drop n (b ∷ bs)) ts = rw s.fits r in
    token h s.takes onward

pub record OneText (text : List ℕ) : Type 0 where
  pub some : Outcome 0 text
  pub one_list : (ts us : List Token) → Reads 0 text ts → Reads 0 text us → ts ≡ us
  pub one_place : (p q : ℕ) → Stuck 0 text p → Stuck 0 text q → p ≡ q
  pub not_both : (ts : List Token) (p : ℕ) → Reads 0 text ts → Stuck 0 text p → ⊥

pub one_text : (text : List ℕ) → OneText text
one_text text =
    record {
      some = reads_or_stuck text;
      one_list = λ ts us. reads_unique;
      one_place = λ p q. stuck_unique;
      not_both = λ ts p. reads_not_stuck;
    }

pub record OneReading (text : List ℕ) : Type 0 where
  pub answer : Result Tokens Refusal
  pub is : Tokenized text answer
  pub only : (r : Result Tokens Refusal) → Tokenized text r → r ≡ answer

pub one_reading : (text : List ℕ) → OneReading text
one_reading text =
    let some = reading_total text in
    record { answer = some.0; is = some.1; only = λ r h. reading_unique h some.1 }
