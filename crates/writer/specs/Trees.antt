-- Document 01, "Text" and "Writing out": an expression as the grammar's tree of tokens, and its text.
--   named, join_code                   a name's token; the code of a vector's operator
--   boolean_tree, vector_tree, tree_of   which token stands for each node
--   text                              what is written for an expression
-- Which brackets the text needs is the grammar's to say (`written`, in its Written.antt).
use Rattle.std.specs.Prelude.{ℕ, ◌+◌, List}
use Rattle.alf.specs.Expressions.{Boolean, name, literal, negated, binary, choice, Vector, edge, join, while}
use Rattle.alf.specs.Expressions.{Join, followed_by_join, either_order, with_or_then, any_order, with, or_else}
use Rattle.alf.specs.Expressions.{on_right, on_left, Expression, boolean, vector}
use Rattle.alf.specs.Bytes.{binary_byte, edge_number}
use Rattle.grammar.specs.declared.Token.{Token}
use Rattle.grammar.specs.Grammar.{Tree, leaf, one, two, three}
use Rattle.grammar.specs.Written.{made, written}
use Rattle.spelling.specs.Spelled.{text_of_lem}

-- A token that is not written yet has no byte; where the grammar keeps it, a name's token keeps the name's number.
abbrev pub named : ℕ → Token
named i = record { code = 0; place = i }

-- vectors have the booleans' `&` and `|`
unfoldable pub join_code : Join → ℕ
join_code followed_by_join = 50
join_code either_order = 51
join_code with_or_then = 52
join_code any_order = 53
join_code with = 40
join_code or_else = 41

unfoldable pub boolean_tree : Boolean → Tree
boolean_tree (name i) = leaf (named i)
boolean_tree (literal s) = leaf (made (32 + s))
boolean_tree (negated a) = one (made 147) (boolean_tree a)
boolean_tree (binary o a b) = two (made (binary_byte o)) (boolean_tree a) (boolean_tree b)
boolean_tree (choice c a b) = three (made 60) (boolean_tree c) (boolean_tree a) (boolean_tree b)

unfoldable pub vector_tree : Vector → Tree
vector_tree (edge e c) = one (made (64 + edge_number e)) (boolean_tree c)
vector_tree (join j p q) = two (made (join_code j)) (vector_tree p) (vector_tree q)
vector_tree (while on_right p c) = two (made 40) (vector_tree p) (boolean_tree c)
vector_tree (while on_left p c) = two (made 40) (boolean_tree c) (vector_tree p)

unfoldable pub tree_of : Expression → Tree
tree_of (boolean c) = boolean_tree c
tree_of (vector p) = vector_tree p

-- the text of an expression
unfoldable pub text : List ℕ → Expression → List ℕ
text names e = text_of_lem names (written 6 (tree_of e))
