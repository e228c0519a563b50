-- Reading what was written, for every list of names, tree and buffer. A tree is written under document 01's limits,
-- and its text is read under those of some rules. So reading it back asks that these rules accept the tree; document
-- 01's accept each that is written.
--   was_written          what is known of a tree that was written
--   written_read         a written text is read as the expression that the tree is
--   read_write           so reading a written text gives the tree, byte for byte
--   read_write_plain     under document 01's rules that holds of all that is written
--   read-back            what is read of a written text under some rules, if it is not refused, is the tree
--   read_again           writing what was read and reading it again gives the same result
--   written_within       a tree that some rules accept, with a text of at most 4,096 bytes, is written, given room
--   refused_past_limit   one whose text has more is refused with 1 at 4,096
--   one_pair_less        the tokens of a written text with a pair of brackets left out are another tree, or none
use Rattle.std.specs.Prelude.{Result, Err, Ok}
use Rattle.basics.specs.declared.Refusal.{Refusal}
use Prim.Native.Nat.{ℕ, ◌<◌, ◌≤◌}
use native.Mathlib.Omega.{arith}
use mathlib.Core.Path.{◌≡◌, refl, sym, ap, ◌∙◌}
use mathlib.Core.List.{List, ◌∷◌, ◌++◌}
use mathlib.Core.Logic.{◌⊎◌, inl, inr}
use lib.ListN.{length, take, replicate}
use lib.Seq.{take_at}
use Rattle.alf.specs.Names.{names_in}
use Rattle.alf.specs.declared.Rules.{Rules}
use Rattle.alf.specs.declared.Sort.{Sort}
use Rattle.alf.specs.Values.{old_rules_lem}
use Rattle.basics.specs.Refusing.{refusal}
use Rattle.basics.specs.Refusing.{Outcome}
use Rattle.alf.specs.Expressions.{Expression, ExpressionOver}
use Rattle.alf.specs.Bytes.{bytes_of}
use Rattle.alf.specs.Refusals.{too_long, RefusedWith, Passed, Comes}
use Rattle.basics.proofs.Bools.{below?}
use Rattle.basics.proofs.Stores.{front_take}
use Rattle.tokens.specs.Texts.{Reads}
use Rattle.tokens.specs.Texts as texts
use Rattle.tokens.proofs.TextLaws.{reads_unique}
use Rattle.grammar.specs.declared.Token.{Token}
use Rattle.grammar.specs.Tokens.{opening, closing, kind_of}
use Rattle.grammar.specs.Grammar.{Tree, nodes}
use Rattle.grammar.specs.Grammar as grammar
use Rattle.grammar.specs.Answers.{padded, codes_of}
use Rattle.grammar.proofs.Written.{expression_formed}
use Rattle.trees.specs.Parts.{expression_at}
use Rattle.acceptance.specs.Accepted.{Accepted}
use Rattle.reader.specs.declared.Read.{Read}
use Rattle.reader.specs.Texts.{tokens_of}
use Rattle.reader.specs.Reads.{made}
use Rattle.reader.specs.Reading.{ReadsText}
use Rattle.reader.proofs.Unique.{gives_unique, read_unique, read_sound, gives_read}
use Rattle.writer.specs.Trees.{tree_of}
use Rattle.writer.specs.Trees.{text}
use Rattle.writer.specs.Writing.{text_at, order, Writes, Named, end_order}
use Rattle.basics.specs.Memory.{after, front}
use Rattle.acceptance.proofs.Acceptance.{accepted_bytes}
use Rattle.writer.proofs.Theorems.{text_tokens, text_parses, writes_unique}
use Rattle.acceptance.proofs.AnyRules.{accepted_old}
use Rattle.text_laws.proofs.AnyRules.{gives_written}
use Rattle.text_laws.proofs.AcceptedStable.{accepted_stable}
use Rattle.text_laws.proofs.GivenAccepted.{gives_accepted}
use Rattle.text_laws.proofs.WrittenGives.{written_gives, codes_there}
use Rattle.text_laws.proofs.NeededPairs.{pair_left_out}

-- a tree that was written: names and tree were good, and the text is the tree's
pub record Written (names tree : List ℕ) (sort : Sort) (bytes : List ℕ) : Type 0 where
  pub named : Named names
  pub accepted : Accepted old_rules_lem (names_in names) sort tree
  pub is : bytes ≡ text_at names tree
  pub short : length bytes ≤ 4096

not_long : (n : ℕ) → ((p : ℕ) → too_long n p → ⊥) → n ≤ 4096
not_long n f = go (below? 4096 n)
  where
    go : (4096 < n) ⊎ (n ≤ 4096) → n ≤ 4096
    go (inl l) = absurd (f 4096 (record { given = l; there = refl }))
    go (inr l) = l

pub was_written : {names tree : List ℕ} {sort : Sort} {out out' : List ℕ} {k : ℕ}
    → Writes names tree sort out out' (Ok k) → Written names tree sort (take k out')
unfolding Comes Passed order after
was_written {names} {tree} {sort} {k = k} w =
    let p = w.outcome.0 in
    let front = ap (take k) w.memory ∙ take_at (text_at names tree) _ k (sym w.outcome.1) in
    record {
      named = record { passed = (p.0, (p.1.0, tt)) };
      accepted =
          accepted_stable old_rules_lem (names_in names) sort tree (λ f. p.1.1.0 0 (record { given = f; there = refl }));
      is = front;
      short = rw front (not_long (length (text_at names tree)) p.1.1.1.0);
    }

-- a reading is no refusal, and what is read is a tree: these bytes, and zeros behind them
pub record ReadAs (tree : List ℕ) (r : Result Read Refusal) : Type 0 where
  pub it : Expression
  pub is_it : r ≡ Ok (made it)
  pub bytes : bytes_of it ≡ tree
  pub size : (made it).len ≡ length tree
  pub all : (made it).tree ≡ padded tree

made_as : {tree : List ℕ} {r : Result Read Refusal} (x : Expression) → r ≡ Ok (made x) → bytes_of x ≡ tree
    → ReadAs tree r
unfolding made
made_as x e b = record { it = x; is_it = e; bytes = b; size = ap length b; all = ap padded b }

pub written_read : {ρ : Rules} {names tree : List ℕ} {sort : Sort} {out out' : List ℕ} {k : ℕ}
    → Accepted ρ (names_in names) sort tree → Writes names tree sort out out' (Ok k)
    → ReadsText ρ names (take k out') sort (Ok (made (expression_at tree (names_in names) (length tree))))
written_read a w =
    let g = was_written w in
    rw g.is (gives_read g.named.passed (rw g.is at g.short) (written_gives g.named a))

pub read_write : {ρ : Rules} {names tree : List ℕ} {sort : Sort} {out out' : List ℕ} {k : ℕ}
    {r : Result Read Refusal}
    → Accepted ρ (names_in names) sort tree → Writes names tree sort out out' (Ok k)
    → ReadsText ρ names (take k out') sort r → ReadAs tree r
read_write {names = names} {tree = tree} a w v =
    made_as (expression_at tree (names_in names) (length tree)) (read_unique v (written_read a w)) (accepted_bytes a)

pub read_write_plain : {names tree : List ℕ} {sort : Sort} {out out' : List ℕ} {k : ℕ} {r : Result Read Refusal}
    → Writes names tree sort out out' (Ok k) → ReadsText old_rules_lem names (take k out') sort r → ReadAs tree r
read_write_plain w v = read_write (was_written w).accepted w v

pub read_back : {ρ : Rules} {names tree : List ℕ} {sort : Sort} {out out' : List ℕ} {k : ℕ} {r : Read}
    → Writes names tree sort out out' (Ok k) → ReadsText ρ names (take k out') sort (Ok r)
    → ReadAs tree (Ok r)
read_back w v =
    let g = was_written w in
    let s = read_sound v in
    made_as s.it (ap Ok s.is_it)
    (ap bytes_of (gives_unique (gives_written s.gives) (rw g.is (written_gives g.named g.accepted)))
    ∙ accepted_bytes g.accepted)

-- what is read is told by its bytes alone
abbrev read_of : List ℕ → Read
read_of bs =
    record { len = length bs; tree = padded bs }

made_same : (x y : Expression) → bytes_of x ≡ bytes_of y → made x ≡ made y
unfolding made
made_same x y b = ap read_of b

tree_of_lem : (x : Expression) → take (made x).len (made x).tree ≡ bytes_of x
unfolding made
tree_of_lem x = front_take (replicate 256 0) (bytes_of x) (length (bytes_of x)) refl

pub read_again : {ρ : Rules} {names bytes : List ℕ} {sort : Sort} {q : Read} {r : Result Read Refusal}
    {out out' : List ℕ} {k : ℕ}
    → ReadsText ρ names bytes sort (Ok q)
    → Writes names (take q.len q.tree) sort out out' (Ok k) → ReadsText ρ names (take k out') sort r
    → r ≡ Ok q
read_again {q = q} u w v =
    let s = read_sound u in
    let front = ap (λ (z : Read). take z.len z.tree) s.is_it ∙ tree_of_lem s.it in
    let a = read_write (rw front (gives_accepted s.good s.gives)) w v in
    let b = a.bytes ∙ front in
    a.is_it ∙ ap Ok (made_same a.it s.it b ∙ sym s.is_it)

-- within the limit of 4,096 bytes, and past it
module _ {ρ : Rules} {names tree : List ℕ} {sort : Sort} {out out' : List ℕ} {r : Outcome} (h : Named names)
    (a : Accepted ρ (names_in names) sort tree) (w : Writes names tree sort out out' r) where
  pub written_within : length (text_at names tree) ≤ 4096 → length (text_at names tree) ≤ length out
      → (r ≡ Ok (length (text_at names tree))) × (out' ≡ front (text_at names tree) out)
  unfolding Comes Passed order end_order after
  written_within e l =
      let fits : Passed (end_order (text_at names tree) (length out)) =
      ((λ p y. omega (arith, y.given)), ((λ p y. omega (arith, y.given)), tt))
      in
      writes_unique {s = Ok (length (text_at names tree))} w
      (record {
        outcome = ((h.passed.0, (h.passed.1.0, ((λ p y. y.given (accepted_old a)), fits))), refl);
        memory = refl;
      })

  pub refused_past_limit : 4096 < length (text_at names tree)
      → (r ≡ Err (refusal 1 4096)) × (out' ≡ out)
  unfolding Comes RefusedWith Passed order after
  refused_past_limit l =
      writes_unique {s = Err (refusal 1 4096)} w
      (record {
        outcome =
            record {
              by = inr (
                h.passed.0,
                inr (
                  h.passed.1.0,
                  inr ((λ p y. y.given (accepted_old a)), inl (refl, record { given = l; there = refl })),
                ),
              );
              bare = refl;
            };
        memory = refl;
      })

-- us are the tokens ts without a bracket that opens and one behind it that closes
pub record PairLess (ts us : List Token) : Type 0 where
  pub before : List Token
  pub opener : Token
  pub inside : List Token
  pub closer : Token
  pub behind : List Token
  pub opens : kind_of opener ≡ opening
  pub closes : kind_of closer ≡ closing
  pub had : ts ≡ before ++ (opener ∷ (inside ++ (closer ∷ behind)))
  pub has : us ≡ before ++ (inside ++ behind)

-- the tokens of an expression's text are its tree; without such a pair they are no tree with the same codes
module _ {names : List ℕ} (h : Named names) (x : Expression) (o : ExpressionOver (names_in names) x) where
  pub one_pair_less : {ts : List texts.Token} {us : List Token} → Reads 0 (text names x) ts
      → PairLess (tokens_of ts) us → (e : Tree) → grammar.Expression us e
      → codes_of (nodes e) ≡ codes_of (nodes (tree_of x)) → ⊥
  one_pair_less {ts} r p e q =
      let s = ap tokens_of (reads_unique r (text_tokens h x o)) in
      pair_left_out (expression_formed (text_parses h x o)) (tokens_of ts) p.before p.inside p.behind
      p.opener p.closer (ap codes_of s ∙ codes_there h x o) p.had p.opens p.closes e (rw p.has at q)
