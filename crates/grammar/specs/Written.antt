-- Document 01, "Writing out": a tree's tokens with only needed brackets, and which trees there are. Laws: they parse
-- back to the tree, and no text of it has fewer brackets, or opens them less deep.
--   made, level_of                 a token that the writer puts in; an operator's level
--   fitted, written               brackets where they are needed; a tree's tokens
--   Formed                        a tree whose operators have as many operands as they take
--   opens, brackets               how many brackets open
--   opened, depth                 how deep they open
--   deepened, depth_of             the same from the tree alone
use Rattle.std.specs.Prelude.{ℕ, suc, pred, ◌+◌, max, ◌≡◌, List, [], ◌∷◌, ◌++◌, leb, if◌then◌else◌}
use Rattle.grammar.specs.declared.Token.{Token}
use Rattle.grammar.specs.Tokens.{Kind, operand, prefix, question, colon, opening, closing}
use Rattle.grammar.specs.Tokens.{other, binary, kind_of}
use Rattle.grammar.specs.Grammar.{Tree, leaf, one, two, three}

-- a token that the writer puts in, whose place does not matter: 61 is `:`, 62 `(`, 63 `)`
abbrev pub made : ℕ → Token
made c = record { code = c; place = 0 }

-- an operator's level
abbrev pub level_of : Kind → ℕ
level_of operand = 1
level_of prefix = 1
level_of question = 6
level_of colon = 6
level_of opening = 1
level_of closing = 1
level_of other = 1
level_of (binary l) = l

-- what is of level m, where level l is asked for: in round brackets if it is weaker
unfoldable pub fitted : ℕ → ℕ → List Token → List Token
fitted l m ts = if leb m l then ts else made 62 ∷ (ts ++ (made 63 ∷ []))

-- a tree's tokens where level l is asked for
unfoldable pub written : ℕ → Tree → List Token
written l (leaf t) = t ∷ []
written l (one t a) = t ∷ written 1 a
written l (two t a b) =
    let m = level_of (kind_of t) in fitted l m (written m a ++ (t ∷ written (pred m) b))
written l (three t c a b) = fitted l 6 (written 5 c ++ (t ∷ (written 6 a ++ (made 61 ∷ written 6 b))))

-- a tree whose tokens are operators of as many operands
pub data Formed : Tree → Type 0 where
  leaf_is : {t : Token} → kind_of t ≡ operand → Formed (leaf t)
  one_is : {t : Token} {a : Tree} → kind_of t ≡ prefix → Formed a → Formed (one t a)
  two_is :
      {l : ℕ} {t : Token} {a b : Tree} → kind_of t ≡ binary (suc l) → Formed a → Formed b →
      Formed (two t a b)
  three_is :
      {t : Token} {c a b : Tree} → kind_of t ≡ question → Formed c → Formed a → Formed b →
      Formed (three t c a b)

-- how many brackets open
abbrev pub opens : Kind → ℕ
opens operand = 0
opens prefix = 0
opens question = 0
opens colon = 0
opens opening = 1
opens closing = 0
opens other = 0
opens (binary l) = 0

unfoldable pub brackets : List Token → ℕ
brackets [] = 0
brackets (t ∷ ts) = opens (kind_of t) + brackets ts

-- how deep brackets open, d being open before; a `)` with none open is skipped
abbrev pub opened : Kind → ℕ → ℕ
opened operand d = d
opened prefix d = d
opened question d = d
opened colon d = d
opened opening d = suc d
opened closing d = pred d
opened other d = d
opened (binary l) d = d

unfoldable pub depth : ℕ → List Token → ℕ
depth d [] = d
depth d (t ∷ ts) = max d (depth (opened (kind_of t) d) ts)

-- how deep they open in a tree's text where level l is asked for, from the tree alone
unfoldable pub deepened : ℕ → ℕ → ℕ → ℕ
deepened l m n = if leb m l then n else suc n

unfoldable pub depth_of : ℕ → Tree → ℕ
depth_of l (leaf t) = 0
depth_of l (one t a) = depth_of 1 a
depth_of l (two t a b) = let m = level_of (kind_of t) in deepened l m (max (depth_of m a) (depth_of (pred m) b))
depth_of l (three t c a b) = deepened l 6 (max (depth_of 5 c) (max (depth_of 6 a) (depth_of 6 b)))
