-- What `parse` answers follows from the tokens alone. Main names: answer_unique (any two answers coincide),
-- parse_sound and parse_complete (a tree is answered exactly where there is one), refuse_sound and refuse_complete (a
-- refusal exactly where the document says).
use Prim.Native.Nat.{ℕ}
use native.Mathlib.Omega.{arith}
use mathlib.Core.Path.{◌≡◌, sym, ap, ◌∙◌}
use mathlib.Core.Bool.{true, false}
use mathlib.Core.List.{List}
use Rattle.grammar.specs.declared.Token.{Token}
use Rattle.grammar.specs.declared.Parsed.{Parsed}
use Rattle.grammar.specs.Grammar.{Tree, nodes, Expression, Refused, place_of}
use Rattle.grammar.specs.Answers.{accepted, refused_at, Answer, tree, no_tree}
use Rattle.grammar.proofs.Unique.{parses_unique, refused_unique, never_both}

module _ {ts : List Token} {bytes : ℕ} {r : Parsed} where
  pub parse_complete : {e : Tree} → Expression ts e → Answer ts bytes r → r ≡ accepted (nodes e)
  parse_complete p (tree q f) = f ∙ ap (λ x. accepted (nodes x)) (parses_unique q p)
  parse_complete p (no_tree s f) = absurd (never_both p s)

  pub refuse_complete :
      {rest : List Token} → Refused ts rest → Answer ts bytes r → r ≡ refused_at (place_of bytes rest)
  refuse_complete s (tree p f) = absurd (never_both p s)
  refuse_complete s (no_tree s' f) = f ∙ ap (λ x. refused_at (place_of bytes x)) (refused_unique s' s)

  pub parse_sound : Answer ts bytes r → r.ok ≡ true → (e : Tree) × Expression ts e × (r ≡ accepted (nodes e))
  parse_sound (tree {e = e} p f) o = (e, p, f)
  parse_sound (no_tree s f) o =
      let w : false ≡ true = sym (ap (λ (x : Parsed). x.ok) f) ∙ o in
      let z : ◌≡◌ {A = ℕ} 0 1 = cc in absurd (omega arith)

  pub refuse_sound :
      Answer ts bytes r →
      r.ok ≡ false →
      (rest : List Token) × Refused ts rest × (r ≡ refused_at (place_of bytes rest))
  refuse_sound (tree p f) o =
      let w : true ≡ false = sym (ap (λ (x : Parsed). x.ok) f) ∙ o in
      let z : ◌≡◌ {A = ℕ} 0 1 = cc in absurd (omega arith)
  refuse_sound (no_tree {rest = rest} s f) o = (rest, s, f)

pub answer_unique :
    {ts : List Token} {bytes : ℕ} {r r' : Parsed} → Answer ts bytes r → Answer ts bytes r' → r ≡ r'
answer_unique (tree p f) a = f ∙ sym (parse_complete p a)
answer_unique (no_tree s f) a = f ∙ sym (refuse_complete s a)
