-- What a text is read as: the tokens or the refusal, one of them, and each by its own law.
--   read_long, read_stuck, read_deep, read_many, read_whole   refused with 1, 2, 3, 4; read
--   of_tokens_fixes, order_fixes   each row of the order fixes its place
--   reading_unique   two readings of a text are the same
--   reading_total    every text has one
use Rattle.std.specs.Prelude.{Result, Ok, Err}
use mathlib.Core.Path.{◌≡◌, refl, ap}
use mathlib.Core.Bool.{Bool, true, false}
use mathlib.Core.Logic.{inl, inr}
use mathlib.Core.List.{List}
use Prim.Native.Nat.{ℕ, ◌≤◌, ◌<◌}
use native.Mathlib.Omega.{arith}
use lib.Dec.{ltb}
use lib.ListN.{length, get_or}
use borrow.Author.Tests.{ltb-true, ltb-false}
use Rattle.alf.specs.Refusals.{Row, First, Never, check, RefusedWith, Passed, too_long, no_token}
use Rattle.alf.proofs.Outcomes.{Fixed, AllFixed, at_fixed, first_fixed, refused_passed}
use Rattle.alf.proofs.Orders.{sole_fixed}
use Rattle.basics.specs.Refusing.{refusal}
use Rattle.basics.specs.declared.Refusal.{Refusal}
use Rattle.tokens.specs.declared.Tokens.{Tokens}
use Rattle.tokens.specs.Texts.{Token, Reads, Stuck, running, opened, counted, OfTokens, deep, many, order}
use Rattle.tokens.specs.Tokenizing.{codes_of, places_of, made, Tokenized}
use Rattle.tokens.specs.Tokenizing.Tokenized.{refused, read}
use Rattle.tokens.specs.Extents.{Shown, to_blank_rule, other}
use Rattle.tokens.specs.Inner.{over_at, stopped_at}
use Rattle.alf.specs.States.{among}
use Rattle.tokens.proofs.TextLaws.{reads_unique, stuck_unique, reads_not_stuck, reads_or_stuck, Outcome}
use Rattle.tokens.proofs.Places.{reads_rising, over_first, over_none}
use Rattle.tokens.proofs.ShownBytes.{refused_in_unique}

-- each row fixes its place
pub of_tokens_fixes :
    (text : List ℕ) (row : List Token → Row) →
    ((ts : List Token) → Fixed (row ts)) →
    Fixed (OfTokens text row)
of_tokens_fixes text row f p q a b =
    f a.tokens p q a.holds (rw (reads_unique a.read b.read) b.holds)

pub order_fixes : (text : List ℕ) → AllFixed (order text)
unfolding order
order_fixes text = (
  at_fixed _ _,
  (
    first_fixed _,
    (
      of_tokens_fixes text deep (λ ts. first_fixed _),
      (
        of_tokens_fixes text many (λ ts. first_fixed _),
        tt,
      ),
    ),
  ),
)

pub reading_unique : {text : List ℕ} {r s : Result Tokens Refusal} → Tokenized text r → Tokenized text s → r ≡ s
reading_unique {text} (refused r a) (refused s b) =
    ap Err (refused_in_unique text (order text) (sole_fixed (order text) (order_fixes text)) a b)
reading_unique {text} (refused r a) (read b c) = absurd (refused_passed (order text) _ _ b a.by)
reading_unique {text} (read a b) (refused r c) = absurd (refused_passed (order text) _ _ a c.by)
reading_unique (read a b) (read c d) = ap (λ ts. Ok (made ts)) (reads_unique b d)

-- 1, 3 and 4 show no bytes
limits : (text : List ℕ) (n p : ℕ) → among n Shown ≡ false → RefusedWith (order text) n p
    → Tokenized text (Err (refusal n p))
limits text n p e h = refused _ (record { by = h; shows = other e refl })

pub read_long : (text : List ℕ) → 4096 < length text → Tokenized text (Err (refusal 1 4096))
unfolding RefusedWith order among
read_long text h = limits text 1 4096 refl (inl (refl, record { given = h; there = refl }))

module _ (text : List ℕ) (l : length text ≤ 4096) where
  short : Never (check 1 (too_long (length text)))
  short p a = let h = a.given in omega arith

  pub read_stuck : {q : ℕ} → Stuck 0 text q → Tokenized text (Err (stopped_at text q))
  unfolding RefusedWith order
  read_stuck {q} s =
      refused _
      (record {
        by = inr (short, inl (refl, record { given = s; before = λ i k t. let e = stuck_unique s t in omega arith }));
        shows = to_blank_rule refl refl;
      })

  module _ {ts : List Token} (r : Reads 0 text ts) where
    unstuck : Never (check 2 (no_token (Stuck 0 text)))
    unstuck p a = reads_not_stuck r a.given

    under :
        (f : ℕ → ℕ → ℕ) (limit : ℕ) →
        length ts ≤ over_at f limit 0 (codes_of ts) →
        (p : ℕ) →
        OfTokens text (λ us. First (λ q. limit < running f 0 us q)) p →
        ⊥
    under f limit k p o =
        let e = over_none f limit 0 ts (omega arith) k p in
        let g = rw (reads_unique o.read r) at o.holds in
        let h = g.given in omega arith

    pub read_deep :
        over_at opened 32 0 (codes_of ts) < length ts →
        Tokenized text (Err (refusal 3 (get_or (places_of ts) (over_at opened 32 0 (codes_of ts)) 0)))
    unfolding RefusedWith order among
    read_deep h =
        limits text 3 _ refl
        (inr (
          short,
          inr (
            unstuck,
            inl (
              refl,
              record
                  { tokens = ts; read = r; holds = over_first opened 32 0 0 ts (omega arith) (reads_rising r) h },
            ),
          ),
        ))

    module _ (d : length ts ≤ over_at opened 32 0 (codes_of ts)) where
      pub read_many :
          over_at counted 256 0 (codes_of ts) < length ts →
          Tokenized text (Err (refusal 4 (get_or (places_of ts) (over_at counted 256 0 (codes_of ts)) 0)))
      unfolding RefusedWith order among
      read_many h =
          limits text 4 _ refl
          (inr (
            short,
            inr (
              unstuck,
              inr (
                under opened 32 d,
                inl (
                  refl,
                  record
                      { tokens = ts; read = r; holds = over_first counted 256 0 0 ts (omega arith) (reads_rising r) h },
                ),
              ),
            ),
          ))

      pub read_whole : length ts ≤ over_at counted 256 0 (codes_of ts) → Tokenized text (Ok (made ts))
      unfolding Passed order
      read_whole h = read (short, (unstuck, (under opened 32 d, (under counted 256 h, tt)))) r

-- every text is read or refused
pub reading_total : (text : List ℕ) → (r : Result Tokens Refusal) × Tokenized text r
reading_total text = go (ltb 4096 (length text)) refl (reads_or_stuck text)
  where
    tokens : length text ≤ 4096 → (ts : List Token) → Reads 0 text ts → (x y : Bool) →
        ltb (over_at opened 32 0 (codes_of ts)) (length ts) ≡ x →
        ltb (over_at counted 256 0 (codes_of ts)) (length ts) ≡ y →
        (r : Result Tokens Refusal) × Tokenized text r
    tokens l ts r true y e f = (_, read_deep text l r (ltb-true _ _ e))
    tokens l ts r false true e f = (_, read_many text l r (ltb-false _ _ e) (ltb-true _ _ f))
    tokens l ts r false false e f = (_, read_whole text l r (ltb-false _ _ e) (ltb-false _ _ f))

    go : (x : Bool) → ltb 4096 (length text) ≡ x → Outcome 0 text → (r : Result Tokens Refusal) × Tokenized text r
    go true e o = (_, read_long text (ltb-true _ _ e))
    go false e (inl (ts, r)) = tokens (ltb-false _ _ e) ts r _ _ refl refl
    go false e (inr (q, s)) = (_, read_stuck text (ltb-false _ _ e) s)
