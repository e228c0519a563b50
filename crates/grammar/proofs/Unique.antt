-- The grammar is unambiguous: a text has one tree (parses_unique), or one place of refusal (refused_unique), and never
-- both (never_both).
use mathlib.Core.Path.{◌≡◌, refl, sym, ◌∙◌}
use mathlib.Core.List.{List, [], ◌∷◌, ◌++◌, append_assoc, append-nil}
use Rattle.grammar.specs.declared.Token.{Token}
use Rattle.grammar.specs.Grammar.{Tree, Expression, Begins, Refused, at_token, at_end}
use Rattle.grammar.proofs.Shunting.{one_tree}

-- one tree
pub parses_unique : {ts : List Token} {e e' : Tree} → Expression ts e → Expression ts e' → e ≡ e'
parses_unique p q = one_tree p q

-- what begins an expression has every part of it before that begins one
begins_before : (ts us : List Token) → Begins (ts ++ us) → Begins ts
begins_before ts us b = record { more = us ++ b.more; tree = b.tree; whole = rw append_assoc at b.whole }

pub expression_begins : (ts : List Token) (e : Tree) → Expression ts e → Begins ts
expression_begins ts e p = record { more = []; tree = e; whole = rw append-nil p }

pub begins_with : (pre more : List Token) (t : Token) → Begins (pre ++ (t ∷ more)) → Begins (pre ++ (t ∷ []))
begins_with pre more t b =
    begins_before (pre ++ (t ∷ [])) more (rw append_assoc b)

-- a tree or a refusal, and never both
pub never_both : {ts rest : List Token} {e : Tree} → Expression ts e → Refused ts rest → ⊥
never_both {e = e} p (at_token {before = pre} {rest = rest} {t = t} s b n) =
    n (begins_with pre rest t (expression_begins _ e (rw s at p)))
never_both {e = e} p (at_end b n) = n e p

-- two ways to part a list: one goes at least as far as the other
pub data Parts (a b c d : List Token) : Type 0 where
  further : (m : List Token) → c ≡ a ++ m → b ≡ m ++ d → Parts a b c d
  shorter : (m : List Token) → a ≡ c ++ m → d ≡ m ++ b → Parts a b c d

pub parts : (a b c d : List Token) → a ++ b ≡ c ++ d → Parts a b c d
parts [] b c d e = further c refl e
parts (x ∷ a) b [] d e = shorter (x ∷ a) refl (sym e)
parts (x ∷ a) b (y ∷ c) d e =
    let h : x ≡ y = cc in
    let t : a ++ b ≡ c ++ d = cc in
    go (parts a b c d t) h
  where
    go : Parts a b c d → x ≡ y → Parts (x ∷ a) b (y ∷ c) d
    go (further m p q) h = further m (cc) q
    go (shorter m p q) h = shorter m (cc) q

-- where one goes on past the token at which the other is refused, that token begins something after all
no_further :
    (a r c d m : List Token) (t : Token) →
    c ≡ a ++ m →
    t ∷ r ≡ m ++ d →
    Begins c →
    (Begins (a ++ (t ∷ [])) → ⊥) →
    t ∷ r ≡ d
no_further a r c d [] t p q b n = q
no_further a r c d (x ∷ m) t p q b n =
    let h : t ≡ x = cc in absurd (n (begins_with a m t (rw (← h) at (rw p at b))))

-- one place
pub refused_unique : {ts rest rest' : List Token} → Refused ts rest → Refused ts rest' → rest ≡ rest'
refused_unique (at_token {before = a} {rest = r} {t = t} s b n)
    (at_token {before = c} {rest = r'} {t = u} s' b' n') =
    go (parts a (t ∷ r) c (u ∷ r') (sym s ∙ s'))
  where
    go : Parts a (t ∷ r) c (u ∷ r') → t ∷ r ≡ u ∷ r'
    go (further m p q) = no_further a r c (u ∷ r') m t p q b' n
    go (shorter m p q) = sym (no_further c r' a (t ∷ r) m u p q b n')
refused_unique (at_token {before = a} {rest = r} {t = t} s b n) (at_end b' n') =
    absurd (n (begins_with a r t (rw s at b')))
refused_unique (at_end b n) (at_token {before = a} {rest = r} {t = t} s b' n') =
    absurd (n' (begins_with a r t (rw s at b)))
refused_unique (at_end b n) (at_end b' n') = refl
