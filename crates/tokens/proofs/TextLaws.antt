-- A text has one list of tokens or one place where its bytes form none, and not both.
--   taken_unique    one token is taken where one starts
--   no_token_unique, taken_not_none   or none is, at one place
--   reads_unique, stuck_unique, reads_not_stuck   the same of texts
--   reads_or_stuck  every text has the one or the other
use Rattle.std.specs.Prelude.{if◌then◌else◌}
use mathlib.Core.Path.{◌≡◌, refl, sym, ap, ◌∙◌}
use mathlib.Core.Bool.{Bool, true, false, ◌&&◌}
use mathlib.Core.Logic.{◌⊎◌, inl, inr}
use mathlib.Core.List.{List, [], ◌∷◌}
use Prim.Native.Nat.{ℕ, zero, suc, ◌+◌, ◌≤◌}
use native.Mathlib.Omega.{arith}
use lib.Dec.{eqb}
use lib.ListN.{length, take, drop, length-append}
use lib.Seq.{take-append_seam, drop-append_seam}
use borrow.Author.Tests.{eq-eqb, ne_eqb}
use Rattle.token_steps.specs.Classes.{is_blank_lem}
use Rattle.token_steps.specs.Taking.{byte_at, is_half, Barred, Taken, NoToken}
use Rattle.token_steps.specs.Taking.Barred.{together, overlong, loose, lone, bad_half}
use Rattle.token_steps.specs.Taking.NoToken.{barred, tokenless}
use Rattle.tokens.specs.Texts.{Token, Reads, Stuck}
use Rattle.tokens.specs.Texts.Reads.{done, blank, token}
use Rattle.tokens.specs.Texts.Stuck.{blank as blank_then, token as token_then, here}
use Rattle.token_steps.specs.Steps.{step_of}
use Rattle.token_steps.specs.declared.Step.{Step}
use Rattle.token_steps.proofs.Right.{Right}
use Rattle.std.specs.Prelude.{Result, Ok, Err}
use Rattle.token_steps.proofs.Bytes.{contrary, plain_unquoted, quote_unnamed}
use Rattle.token_steps.proofs.ByteByByte.{and_false}
use Rattle.token_steps.proofs.TokenStarts.{token_size}
use Rattle.token_steps.proofs.OneCode.{token_unique}
use Rattle.token_steps.proofs.Taking.{right}

-- a token that is taken, by how many bytes it has
module _ {bs w a : List ℕ} {c : ℕ} (t : Taken bs w c a) where
  taken_bytes : take (length w) bs ≡ w
  taken_bytes = rw t.there (take-append_seam w a)

  taken_after : drop (length w) bs ≡ a
  taken_after = rw t.there (drop-append_seam w a)

pub record Same (w v : List ℕ) (c d : ℕ) (a b : List ℕ) : Type 0 where
  pub bytes : w ≡ v
  pub code : c ≡ d
  pub after : a ≡ b

pub taken_unique : {bs w v a b : List ℕ} {c d : ℕ} → Taken bs w c a → Taken bs v d b → Same w v c d a b
taken_unique {bs} {w} {v} t u =
    record {
      bytes = same;
      code = token_unique t.token (rw same u.token);
      after = sym (taken_after t) ∙ ap (λ (n : ℕ). drop n bs) size ∙ taken_after u;
    }
  where
    size : length w ≡ length v
    size =
        let x = t.longest v _ _ u.token u.there in
        let y = u.longest w _ _ t.token t.there in omega arith

    same : w ≡ v
    same = sym (taken_bytes t) ∙ ap (λ (n : ℕ). take n bs) size ∙ taken_bytes u

-- what is barred is barred at one place
place : List ℕ → ℕ
place bs = if is_half bs 0 && eqb (byte_at bs 3) 39 then 3 else 0

unhalf : (bs : List ℕ) → eqb (byte_at bs 0) 39 ≡ false → is_half bs 0 ≡ false
unhalf bs h = rw h

barred_place : {bs : List ℕ} {k : ℕ} → Barred bs k → k ≡ place bs
unfolding place
barred_place {bs} (together a b c) = rw (unhalf bs (plain_unquoted (byte_at bs 0) a))
barred_place {bs} (overlong a b) =
    rw (unhalf bs (ne_eqb (byte_at bs 0) 39 (λ e. contrary a (quote_unnamed (byte_at bs 0) e))))
barred_place {bs} (loose a b) = rw (b, and_false)
barred_place {bs} (lone a b c) = rw (ne_eqb (byte_at bs 3) 39 c, and_false)
barred_place {bs} (bad_half a b c) = rw (a, eq-eqb (byte_at bs 3) 39 b)

pub no_token_unique : {bs : List ℕ} {j k : ℕ} → NoToken bs j → NoToken bs k → j ≡ k
no_token_unique (barred a) (barred b) = barred_place a ∙ sym (barred_place b)
no_token_unique (barred a) (tokenless t f) = absurd (f _ a)
no_token_unique (tokenless t f) (barred b) = absurd (f _ b)
no_token_unique (tokenless t f) (tokenless u g) = refl

pub taken_not_none : {bs w a : List ℕ} {c k : ℕ} → Taken bs w c a → NoToken bs k → ⊥
taken_not_none t (barred b) = t.allowed _ b
taken_not_none t (tokenless u f) = u _ _ _ t.token t.there

pub reads_unique : {p : ℕ} {bs : List ℕ} {ts us : List Token} → Reads p bs ts → Reads p bs us → ts ≡ us
reads_unique done done = refl
reads_unique (blank h r) (blank k s) = reads_unique r s
reads_unique (blank h r) (token k u s) = absurd (contrary h k)
reads_unique (token h t r) (blank k s) = absurd (contrary k h)
reads_unique {p} (token h t r) (token k u s) =
    let e = taken_unique t u in
    cc (e.code, reads_unique r (rw (← e.bytes, ← e.after) at s))

pub stuck_unique : {p q r : ℕ} {bs : List ℕ} → Stuck p bs q → Stuck p bs r → q ≡ r
stuck_unique (blank_then h s) (blank_then k t) = stuck_unique s t
stuck_unique (blank_then h s) (token_then k u t) = absurd (contrary h k)
stuck_unique (blank_then h s) (here k n) = absurd (contrary h k)
stuck_unique (token_then h t s) (blank_then k r) = absurd (contrary k h)
stuck_unique (token_then h t s) (token_then k u r) =
    let e = taken_unique t u in stuck_unique s (rw (← e.bytes, ← e.after) at r)
stuck_unique (token_then h t s) (here k n) = absurd (taken_not_none t n)
stuck_unique (here h n) (blank_then k r) = absurd (contrary k h)
stuck_unique (here h n) (token_then k u r) = absurd (taken_not_none u n)
stuck_unique (here {p = p} h n) (here k m) = ap (λ (x : ℕ). p + x) (no_token_unique n m)

pub reads_not_stuck : {p q : ℕ} {bs : List ℕ} {ts : List Token} → Reads p bs ts → Stuck p bs q → ⊥
reads_not_stuck {q = q} (done {p = p}) s = elim s [ ]
reads_not_stuck (blank h r) (blank_then k s) = reads_not_stuck r s
reads_not_stuck (blank h r) (token_then k u s) = contrary h k
reads_not_stuck (blank h r) (here k n) = contrary h k
reads_not_stuck (token h t r) (blank_then k s) = contrary k h
reads_not_stuck (token h t r) (token_then k u s) =
    let e = taken_unique t u in reads_not_stuck r (rw (← e.bytes, ← e.after) at s)
reads_not_stuck (token h t r) (here k n) = taken_not_none t n

-- one or the other: by steps, each of which leaves fewer bytes
abbrev pub Outcome : ℕ → List ℕ → Type 0
Outcome p bs = ((ts : List Token) × Reads p bs ts) ⊎ ((q : ℕ) × Stuck p bs q)

after_blank : {p b : ℕ} {bs : List ℕ} → is_blank_lem b ≡ true → Outcome (suc p) bs → Outcome p (b ∷ bs)
after_blank h (inl (ts, r)) = inl (ts, blank h r)
after_blank h (inr (q, s)) = inr (q, blank_then h s)

after_token :
    {p b c : ℕ} {bs w a : List ℕ} →
    is_blank_lem b ≡ false →
    Taken (b ∷ bs) w c a →
    Outcome (p + length w) a →
    Outcome p (b ∷ bs)
after_token h t (inl (ts, r)) = inl (_, token h t r)
after_token h t (inr (q, s)) = inr (q, token_then h t s)

taken_less : {bs w a : List ℕ} {c n : ℕ} → Taken bs w c a → length bs ≤ suc n → length a ≤ n
taken_less {bs} {w} {a} t h =
    let k = token_size t.token in omega (arith, simp length-append at (ap length t.there))

by_steps : (n p : ℕ) (bs : List ℕ) → length bs ≤ n → Outcome p bs
by_steps zero p [] h = inl ([], done)
by_steps zero p (b ∷ bs) h = absurd (omega arith)
by_steps (suc n) p [] h = inl ([], done)
by_steps (suc n) p (b ∷ bs) h =
    go (is_blank_lem b) refl (step_of (b ∷ bs)) (right b bs) (by_steps n (suc p) bs (omega arith))
    (λ m after k. by_steps n m after k)
  where
    go :
        (x : Bool) →
        is_blank_lem b ≡ x →
        (s : Result Step ℕ) →
        Right (b ∷ bs) s →
        Outcome (suc p) bs →
        ((m : ℕ) (after : List ℕ) → length after ≤ n → Outcome m after) →
        Outcome p (b ∷ bs)
    go true e s r o ih = after_blank e o
    go false e (Err k) r o ih = inr (_, here e r)
    go false e (Ok s) r o ih = after_token e r.takes (ih _ _ (taken_less r.takes h))

pub reads_or_stuck : (text : List ℕ) → Outcome 0 text
reads_or_stuck text = by_steps (length text) 0 text (omega arith)
