-- The scan of a text: what is known at a place where a token is to start, and how it goes on.
--   Scanned        the tokens before the place are written, and what the rest comes to, the text comes to
--   scan_start, scan_blank, scan_token   at the start; past a blank; past a token
--   stop_inside, scan_stop, scan_end     where no token starts; at the text's end
use mathlib.Core.Path.{◌≡◌, refl, sym, subst, ◌∙◌}
use Rattle.std.specs.Prelude.{Ok, Err}
use mathlib.Core.Bool.{true, false}
use mathlib.Core.Logic.{◌⊎◌, inl, inr}
use mathlib.Core.List.{List, [], ◌∷◌, ◌++◌, append_assoc, append-nil}
use Prim.Native.Nat.{ℕ, suc, ◌+◌, ◌≤◌, ◌<◌}
use native.Mathlib.Omega.{arith}
use native.Mathlib.Numerals.{add-one}
use lib.ListN.{length, take, drop, get_or, set, length-append, length-drop, length-take, drop_of_length-le}
use lib.ListN.{get_or-eq_default}
use lib.Seq.{drop-cons, drop-drop}
use Rattle.token_steps.specs.declared.Step.{Step}
use Rattle.token_steps.specs.Classes.{is_blank_lem}
use Rattle.token_steps.specs.Taking.{Taken, NoToken}
use Rattle.token_steps.specs.Taking.Barred.{together, overlong, loose, lone, bad_half}
use Rattle.token_steps.specs.Taking.NoToken.{barred, tokenless}
use Rattle.tokens.specs.Texts.{Token, token_at, Reads, Stuck}
use Rattle.tokens.specs.Texts.Reads.{done, blank, token}
use Rattle.tokens.specs.Texts.Stuck.{blank as blank_then, token as token_then, here}
use Rattle.token_steps.specs.Steps.{Outcome, step_of}
use Rattle.tokens.specs.Tokenizing.{zeros, filled, codes_of, places_of, made}
use Rattle.tokens.specs.Inner.{Scan}
use Rattle.tokens.specs.Inner.Scan.{whole}
use Rattle.token_steps.proofs.TokenStarts.{token_size}
use Rattle.token_steps.proofs.Right.{Right, Right_token}
use Rattle.token_steps.proofs.Taking.{right}
use Rattle.basics.proofs.Bools.{below?}
use Rattle.tokens.proofs.Filling.{filled_none, filled_more}

pub record Scanned (text : List ℕ) (p count : ℕ) (codes places : List ℕ) : Type 0 where
  pub before : List Token
  pub inside : p ≤ length text
  pub room : count ≤ p
  pub count_is : count ≡ length before
  pub codes_are : codes ≡ filled (codes_of before)
  pub places_are : places ≡ filled (places_of before)
  pub reads : (ts : List Token) → Reads p (drop p text) ts → Reads 0 text (before ++ ts)
  pub stuck : (q : ℕ) → Stuck p (drop p text) q → Stuck 0 text q

pub scan_start :
    (text : List ℕ) {codes places : List ℕ} →
    codes ≡ zeros →
    places ≡ zeros →
    Scanned text 0 0 codes places
scan_start text e f =
    record {
      before = [];
      inside = omega arith;
      room = omega arith;
      count_is = refl;
      codes_are = e ∙ filled_none;
      places_are = f ∙ filled_none;
      reads = λ ts r. r;
      stuck = λ q s. s;
    }

stop_small : {bs : List ℕ} {k : ℕ} → NoToken bs k → k ≤ 3
stop_small (barred (together a b c)) = omega arith
stop_small (barred (overlong a b)) = omega arith
stop_small (barred (loose a b)) = omega arith
stop_small (barred (lone a b c)) = omega arith
stop_small (barred (bad_half a b c)) = omega arith
stop_small (tokenless t f) = omega arith

-- the byte refused is one of the bytes, or the first where there is none
none_inside : (bs : List ℕ) {k : ℕ} → NoToken bs k → k ≤ length bs
none_inside bs (barred (together a b c)) = omega arith
none_inside bs (barred (overlong a b)) = omega arith
none_inside bs (barred (loose a b)) = omega arith
none_inside bs (barred (lone a b c)) = omega arith
none_inside bs (barred (bad_half a b c)) = go (below? (length bs) 3)
  where
    go : (length bs < 3) ⊎ (3 ≤ length bs) → 3 ≤ length bs
    go (inl l) = let z : get_or bs 3 0 ≡ 0 = get_or-eq_default bs 0 (omega arith) in absurd (omega (arith, z, b))
    go (inr l) = l
none_inside bs (tokenless t f) = omega arith

reads_token :
    {bs xs w a : List ℕ} {x p c : ℕ} {ts : List Token} →
    bs ≡ x ∷ xs →
    is_blank_lem x ≡ false →
    Taken bs w c a →
    Reads (p + length w) a ts →
    Reads p bs (token_at c p ∷ ts)
reads_token e b t r = rw e (token b (rw e at t) r)

stuck_token :
    {bs xs w a : List ℕ} {x p c q : ℕ} →
    bs ≡ x ∷ xs →
    is_blank_lem x ≡ false →
    Taken bs w c a →
    Stuck (p + length w) a q →
    Stuck p bs q
stuck_token e b t r = rw e (token_then b (rw e at t) r)

module _ (text : List ℕ) (p : ℕ) (h : p < length text) where
  abbrev first : ℕ
  first = get_or text p 0

  rest : drop p text ≡ first ∷ drop (suc p) text
  rest = drop-cons text p 0 h

  module _ {count : ℕ} {codes places : List ℕ} (z : Scanned text p count codes places) where
    pub scan_blank : is_blank_lem first ≡ true → Scanned text (p + 1) count codes places
    scan_blank b =
        rw add-one
        (record {
          before = z.before;
          inside = h;
          room = omega arith;
          count_is = z.count_is;
          codes_are = z.codes_are;
          places_are = z.places_are;
          reads = λ ts r. z.reads ts (rw rest (blank b r));
          stuck = λ q s. z.stuck q (rw rest (blank_then b s));
        })

    step_right : {o : Outcome} → o ≡ step_of (drop p text) → Right (drop p text) o
    step_right e = subst (Right (drop p text)) (sym e) (rw rest (right first (drop (suc p) text)))

    module _ {k : ℕ} (e : Err k ≡ step_of (drop p text)) where
      none : NoToken (drop p text) k
      none = step_right e

      pub stop_fits : k ≤ 3
      stop_fits = stop_small none

      pub stop_inside : p + k ≤ length text
      stop_inside = let i = none_inside (drop p text) none in omega (arith, length-drop p text)

      pub scan_stop : is_blank_lem first ≡ false → Stuck 0 text (p + k)
      scan_stop b = z.stuck _ (rw rest (here b (rw rest at none)))

    module _ {r : Step} (e : Ok r ≡ step_of (drop p text)) where
      found : Right_token (drop p text) r
      found = step_right e

      pub token_fits : (0 < r.size) × (p + r.size ≤ length text)
      token_fits =
          let k = found.fits in
          let j = token_size found.takes.token in
          (omega arith, omega (arith, length-take r.size (drop p text), length-drop p text))

      pub scan_token :
          is_blank_lem first ≡ false →
          length text ≤ 4096 →
          Scanned text (p + r.size) (count + 1) (set codes count r.code) (set places count p)
      scan_token b l =
          record {
            before = z.before ++ (token_at r.code p ∷ []);
            inside = token_fits.1;
            room = let k = token_fits.0 in omega arith;
            count_is = rw length-append (omega arith);
            codes_are =
                filled_more (λ t. t.code) z.before (token_at r.code p) z.count_is (omega arith)
                z.codes_are;
            places_are =
                filled_more (λ t. t.place) z.before (token_at r.code p) z.count_is (omega arith)
                z.places_are;
            reads =
                λ ts s. rw append_assoc
                (z.reads (token_at r.code p ∷ ts) (reads_token rest b found.takes (onward s)));
            stuck = λ q s. z.stuck q (stuck_token rest b found.takes (onward_stuck s));
          }
        where
          onward :
              {ts : List Token} →
              Reads (p + r.size) (drop (p + r.size) text) ts →
              Reads (p + length (take r.size (drop p text))) (drop r.size (drop p text)) ts
          onward s = rw (found.fits, drop-drop r.size p text) s

          onward_stuck :
              {q : ℕ} →
              Stuck (p + r.size) (drop (p + r.size) text) q →
              Stuck (p + length (take r.size (drop p text))) (drop r.size (drop p text)) q
          onward_stuck s = rw (found.fits, drop-drop r.size p text) s

pub scan_end :
    (text : List ℕ) {p count : ℕ} {codes places : List ℕ} →
    length text ≤ p →
    Scanned text p count codes places →
    Scan text (Ok (record { count = count; codes = codes; places = places }))
unfolding made
scan_end text {p} h z =
    rw (z.count_is, z.codes_are, z.places_are)
    (whole z.before (rw append-nil at (z.reads [] (rw (drop_of_length-le text {i = p} h) done))))
