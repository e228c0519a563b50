-- A tree's nodes tell the tree: nodes_unique. They are read back from the left, operands before their operator, with a
-- stack.
use mathlib.Core.Path.{◌≡◌, sym, ap, ◌∙◌}
use mathlib.Core.List.{List, [], ◌∷◌, ◌++◌, append_assoc, append-nil}
use Rattle.grammar.specs.declared.Token.{Token}
use Rattle.grammar.specs.Tokens.{Kind, operand, prefix, question, colon, opening, closing}
use Rattle.grammar.specs.Tokens.{other, binary, kind_of}
use Rattle.grammar.specs.Grammar.{Tree, leaf, one, two, three, nodes}
use Rattle.grammar.specs.Written.{Formed, leaf_is, one_is, two_is, three_is}

-- one node more: it takes its operands from the stack
abbrev put : Kind → Token → List Tree → List Tree
put operand t S = leaf t ∷ S
put prefix t [] = []
put prefix t (a ∷ S) = one t a ∷ S
put question t [] = []
put question t (b ∷ []) = []
put question t (b ∷ (a ∷ [])) = []
put question t (b ∷ (a ∷ (c ∷ S))) = three t c a b ∷ S
put colon t S = S
put opening t S = S
put closing t S = S
put other t S = S
put (binary l) t [] = []
put (binary l) t (b ∷ []) = []
put (binary l) t (b ∷ (a ∷ S)) = two t a b ∷ S

abbrev rebuilt : List Token → List Tree → List Tree
rebuilt [] S = S
rebuilt (t ∷ ts) S = rebuilt ts (put (kind_of t) t S)

put_law :
    (t : Token) (ts : List Token) (S : List Tree) {k : Kind} →
    kind_of t ≡ k →
    rebuilt (t ∷ ts) S ≡ rebuilt ts (put k t S)
put_law t ts S e = ap (λ (x : Kind). rebuilt ts (put x t S)) e

rebuilds : {e : Tree} → Formed e → (ts : List Token) (S : List Tree)
    → rebuilt (nodes e ++ ts) S ≡ rebuilt ts (e ∷ S)
unfolding nodes
rebuilds (leaf_is {t = t} k) ts S = put_law t ts S k
rebuilds (one_is {t = t} {a = a} k f) ts S =
    rw (append_assoc (nodes a) (t ∷ []) ts) (rebuilds f (t ∷ ts) S ∙ put_law t ts (a ∷ S) k)
rebuilds (two_is {t = t} {a = a} {b = b} k f g) ts S =
    rw (append_assoc (nodes a ++ nodes b) (t ∷ []) ts, append_assoc (nodes a) (nodes b) (t ∷ ts))
    (rebuilds f (nodes b ++ (t ∷ ts)) S ∙ rebuilds g (t ∷ ts) (a ∷ S) ∙ put_law t ts (b ∷ (a ∷ S)) k)
rebuilds (three_is {t = t} {c = c} {a = a} {b = b} k f g h) ts S =
    rw (
      append_assoc ((nodes c ++ nodes a) ++ nodes b) (t ∷ []) ts,
      append_assoc (nodes c ++ nodes a) (nodes b) (t ∷ ts),
      append_assoc (nodes c) (nodes a) (nodes b ++ (t ∷ ts)),
    )
    (rebuilds f (nodes a ++ (nodes b ++ (t ∷ ts))) S
    ∙ rebuilds g (nodes b ++ (t ∷ ts)) (c ∷ S)
    ∙ rebuilds h (t ∷ ts) (a ∷ (c ∷ S))
    ∙ put_law t ts (b ∷ (a ∷ (c ∷ S))) k)

back : {e : Tree} → Formed e → rebuilt (nodes e) [] ≡ e ∷ []
back {e} f = ap (λ (x : List Token). rebuilt x []) (sym (append-nil (nodes e))) ∙ rebuilds f [] []

pub nodes_unique : {e e' : Tree} → Formed e → Formed e' → nodes e ≡ nodes e' → e ≡ e'
nodes_unique {e} {e'} f g h =
    let w : e ∷ [] ≡ e' ∷ [] = sym (back f) ∙ ap (λ (x : List Token). rebuilt x []) h ∙ back g in cc
