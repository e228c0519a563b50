-- Texts of document 01 and of its neighbourhood, worked out by hand from its levels: the text of each tree is the one
-- that stands beside it, as one computed statement (texts_hold); and the document's own example is read as it says
-- (document_example). In the texts 0 is a name, 75 and 83 are the edges 01 and 10.
use Prim.Native.Nat.{ℕ}
use mathlib.Core.Path.{◌≡◌, refl}
use mathlib.Core.List.{List, [], ◌∷◌, map}
use Rattle.grammar.specs.Tokens.{table, kind_in, kind}
use Rattle.grammar.specs.Grammar.{Tree, leaf, one, two, three, Expression}
use Rattle.grammar.specs.Answers.{codes_of}
use Rattle.grammar.specs.Written.{made, fitted, written, leaf_is, one_is, two_is}
use Rattle.grammar.proofs.Written.{written_expression}

pub record Example : Type 0 where
  pub tree : Tree
  pub text : List ℕ

-- a name; `01 A`, `10 A`, `! A`; `A & B`, `A | B`, `A ^ B`, `A == B`, `A -> B`; `A ? B : C`
abbrev n : Tree
n = leaf (made 0)

abbrev rise : Tree → Tree
rise a = one (made 75) a

abbrev fall : Tree → Tree
fall a = one (made 83) a

abbrev neg : Tree → Tree
neg a = one (made 147) a

abbrev and : Tree → Tree → Tree
and a b = two (made 40) a b

abbrev or : Tree → Tree → Tree
or a b = two (made 41) a b

abbrev xor : Tree → Tree → Tree
xor a b = two (made 42) a b

abbrev equals : Tree → Tree → Tree
equals a b = two (made 44) a b

abbrev follow : Tree → Tree → Tree
follow a b = two (made 50) a b

abbrev choose : Tree → Tree → Tree → Tree
choose c a b = three (made 60) c a b

abbrev shows : Tree → List ℕ → Example
shows e ts = record { tree = e; text = ts }

-- level 4 is one level, stronger than | and weaker than &; all from the left, only ? : from the right
pub examples : List Example
examples =
    -- 01 A -> 10 B && C
    shows (follow (rise n) (and (fall n) n)) (75 ∷ 0 ∷ 50 ∷ 83 ∷ 0 ∷ 40 ∷ 0 ∷ [])
    -- ( 01 A -> 10 B ) & C
    ∷ shows (and (follow (rise n) (fall n)) n) (62 ∷ 75 ∷ 0 ∷ 50 ∷ 83 ∷ 0 ∷ 63 ∷ 40 ∷ 0 ∷ [])
    -- 10 C & ( 01 A -> 10 B )
    ∷ shows (and (fall n) (follow (rise n) (fall n)))
    (83 ∷ 0 ∷ 40 ∷ 62 ∷ 75 ∷ 0 ∷ 50 ∷ 83 ∷ 0 ∷ 63 ∷ [])
    -- 01 ( A & B )
    ∷ shows (rise (and n n)) (75 ∷ 62 ∷ 0 ∷ 40 ∷ 0 ∷ 63 ∷ [])
    -- ! 01 A and 01 01 A: the grammar knows no sorts
    ∷ shows (neg (rise n)) (147 ∷ 75 ∷ 0 ∷ [])
    ∷ shows (rise (rise n)) (75 ∷ 75 ∷ 0 ∷ [])
    -- A ^ B & C, and A ^ ( B & C )
    ∷ shows (and (xor n n) n) (0 ∷ 42 ∷ 0 ∷ 40 ∷ 0 ∷ [])
    ∷ shows (xor n (and n n)) (0 ∷ 42 ∷ 62 ∷ 0 ∷ 40 ∷ 0 ∷ 63 ∷ [])
    -- A ^ B == C, and A ^ ( B == C )
    ∷ shows (equals (xor n n) n) (0 ∷ 42 ∷ 0 ∷ 44 ∷ 0 ∷ [])
    ∷ shows (xor n (equals n n)) (0 ∷ 42 ∷ 62 ∷ 0 ∷ 44 ∷ 0 ∷ 63 ∷ [])
    -- A -> B | C -> D, and A -> ( B | C )
    ∷ shows (or (follow n n) (follow n n)) (0 ∷ 50 ∷ 0 ∷ 41 ∷ 0 ∷ 50 ∷ 0 ∷ [])
    ∷ shows (follow n (or n n)) (0 ∷ 50 ∷ 62 ∷ 0 ∷ 41 ∷ 0 ∷ 63 ∷ [])
    -- A -> B -> C, and A -> ( B -> C )
    ∷ shows (follow (follow n n) n) (0 ∷ 50 ∷ 0 ∷ 50 ∷ 0 ∷ [])
    ∷ shows (follow n (follow n n)) (0 ∷ 50 ∷ 62 ∷ 0 ∷ 50 ∷ 0 ∷ 63 ∷ [])
    -- A ? B : C ? D : E, and ( A ? B : C ) ? D : E
    ∷ shows (choose n n (choose n n n)) (0 ∷ 60 ∷ 0 ∷ 61 ∷ 0 ∷ 60 ∷ 0 ∷ 61 ∷ 0 ∷ [])
    ∷ shows (choose (choose n n n) n n) (62 ∷ 0 ∷ 60 ∷ 0 ∷ 61 ∷ 0 ∷ 63 ∷ 60 ∷ 0 ∷ 61 ∷ 0 ∷ [])
    -- A ? B ? C : D : E, and ( A ? B : C ) | D
    ∷ shows (choose n (choose n n n) n) (0 ∷ 60 ∷ 0 ∷ 60 ∷ 0 ∷ 61 ∷ 0 ∷ 61 ∷ 0 ∷ [])
    ∷ shows (or (choose n n n) n) (62 ∷ 0 ∷ 60 ∷ 0 ∷ 61 ∷ 0 ∷ 63 ∷ 41 ∷ 0 ∷ [])
    ∷ []

pub texts_hold : map (λ x. codes_of (written 6 x.tree)) examples ≡ map (λ x. x.text) examples
unfolding examples written fitted kind kind_in table
texts_hold = refl

-- `01 A -> 10 B && C` binds C to `10 B`
pub document_example :
    Expression
    (made 75 ∷ made 0 ∷ made 50 ∷ made 83 ∷ made 0 ∷ made 40 ∷ made 0 ∷ [])
    (follow (rise n) (and (fall n) n))
unfolding written fitted kind kind_in table
document_example =
    written_expression
    (two_is refl (one_is refl (leaf_is refl)) (two_is refl (one_is refl (leaf_is refl)) (leaf_is refl)))
