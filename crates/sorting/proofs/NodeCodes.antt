-- Laws of the codes of a tree's nodes: how many operands a code takes, and which byte it becomes.
--   operand_code, prefix_code, binary_code, question_code   what the kind of a token says of its code
--   formed_nodes                                            each node of a tree has the code of a node
--   node_leaf, node_two, node_one                           what a node's code is in its range
use Rattle.std.specs.Prelude.{if◌then◌else◌}
use mathlib.Core.Path.{◌≡◌, refl, sym, ◌∙◌}
use mathlib.Core.Bool.{Bool, true, false, ◌&&◌, ◌||◌}
use mathlib.Core.List.{List, [], ◌∷◌}
use Prim.Native.Nat.{ℕ, ◌≤◌, ◌<◌}
use native.Mathlib.Omega.{arith}
use lib.Dec.{eqb, ltb, leb}
use borrow.Author.Tests.{ltb-true, leb-true, lt-leb, le-leb, ne_eqb}
use Rattle.basics.specs.Words.{all}
use Rattle.basics.proofs.Bools.{never, and_left, and_right, below?}
use Rattle.basics.proofs.Choices.{every, every_at}
use Rattle.basics.proofs.AllEntries.{All, none, more, all_append}
use Rattle.grammar.specs.declared.Token.{Token}
use Rattle.grammar.specs.Tokens.{Kind, operand, prefix, question, colon, opening, closing, other, binary, Span}
use Rattle.grammar.specs.Tokens.{table, kind_in, kind}
use Rattle.grammar.specs.Grammar.{Tree, nodes}
use Rattle.grammar.specs.Written.{Formed, leaf_is, one_is, two_is, three_is}
use Rattle.sorting.specs.Passes.{is_node}
use mathlib.Core.Logic.{◌⊎◌, inl, inr}

-- a kind says what its codes are
unfoldable agrees : Kind → ℕ → Bool
agrees operand c = is_node c && ltb c 40
agrees prefix c = is_node c && leb 64 c
agrees question c = is_node c && (leb 60 c && ltb c 64)
agrees colon c = true
agrees opening c = true
agrees closing c = true
agrees other c = true
agrees (binary l) c = is_node c && (leb 40 c && ltb c 60)

-- no span reaches so far
kind_far : (ss : List Span) (c : ℕ) → all (λ (s : Span). ltb s.upto 148) ss ≡ true → 148 ≤ c
    → kind_in ss c ≡ other
unfolding kind_in all
kind_far [] c h l = refl
kind_far (s ∷ ss) c h l =
    let u = ltb-true s.upto 148 (and_left _ _ h) in
    let z = lt-leb c s.upto (omega arith) in
    go (leb s.from c) (leb c s.upto) z (kind_far ss c (and_right (ltb s.upto 148) _ h) l)
  where
    go : (x y : Bool) → y ≡ false → kind_in ss c ≡ other → (if x && y then s.is else kind_in ss c) ≡ other
    go true y e k = rw e k
    go false y e k = k

code_near : every 148 (λ c. agrees (kind c) c) ≡ true
unfolding every agrees kind kind_in table is_node
code_near = refl

pub code_far : (c : ℕ) → 148 ≤ c → kind c ≡ other
unfolding kind table all
code_far c l = kind_far table c refl l

other_agrees : (c : ℕ) → kind c ≡ other → agrees (kind c) c ≡ true
unfolding agrees
other_agrees c e = rw e

code_agrees : (c : ℕ) → agrees (kind c) c ≡ true
code_agrees c = go (below? c 148)
  where
    go : (c < 148) ⊎ (148 ≤ c) → agrees (kind c) c ≡ true
    go (inl l) = every_at 148 (λ c. agrees (kind c) c) code_near c l
    go (inr l) = other_agrees c (code_far c l)

pub record Coded (c : ℕ) (lo hi : ℕ) : Type 0 where
  pub node : is_node c ≡ true
  pub low : lo ≤ c
  pub high : c < hi

pub operand_code : (c : ℕ) → kind c ≡ operand → Coded c 0 40
unfolding agrees
operand_code c e =
    let h : (is_node c && ltb c 40) ≡ true = rw e at (code_agrees c) in
    record { node = and_left _ _ h; low = omega arith; high = ltb-true c 40 (and_right (is_node c) _ h) }

pub prefix_code : (c : ℕ) → kind c ≡ prefix → (is_node c ≡ true) × (64 ≤ c)
unfolding agrees
prefix_code c e =
    let h : (is_node c && leb 64 c) ≡ true = rw e at (code_agrees c) in
    (and_left _ _ h, leb-true 64 c (and_right (is_node c) _ h))

pub question_code : (c : ℕ) → kind c ≡ question → Coded c 60 64
unfolding agrees
question_code c e =
    let h : (is_node c && (leb 60 c && ltb c 64)) ≡ true = rw e at (code_agrees c) in
    let k = and_right (is_node c) _ h in
    record {
      node = and_left _ _ h;
      low = leb-true 60 c (and_left _ _ k);
      high = ltb-true c 64 (and_right (leb 60 c) _ k);
    }

pub binary_code : (c l : ℕ) → kind c ≡ binary l → Coded c 40 60
unfolding agrees
binary_code c l e =
    let h : (is_node c && (leb 40 c && ltb c 60)) ≡ true = rw e at (code_agrees c) in
    let k = and_right (is_node c) _ h in
    record {
      node = and_left _ _ h;
      low = leb-true 40 c (and_left _ _ k);
      high = ltb-true c 60 (and_right (leb 40 c) _ k);
    }

-- what a node's code is in its range
abbrev sure_below : (ℕ → Bool) → ℕ → Bool
sure_below p c = if is_node c then p c else true

sure : (p : ℕ → Bool) (n : ℕ) → every n (sure_below p) ≡ true → (c : ℕ) → c < n → is_node c ≡ true
    → p c ≡ true
sure p n h c l k = rw k at (every_at n (sure_below p) h c l)

pub node_leaf : (c : ℕ) → is_node c ≡ true → c < 40 → (eqb c 0 || leb 32 c) ≡ true
unfolding every is_node
node_leaf c k l = sure (λ c. eqb c 0 || leb 32 c) 40 refl c l k

pub node_two : (c : ℕ) → is_node c ≡ true → c < 60 → c < 54
unfolding every is_node
node_two c k h = ltb-true c 54 (sure (λ c. ltb c 54) 60 refl c h k)

node_far : (c : ℕ) → 148 ≤ c → is_node c ≡ false
unfolding is_node
node_far c h =
    rw (
      ne_eqb c 0 (λ e. omega arith),
      le-leb 32 c (omega arith),
      lt-leb c 53 (omega arith),
      ne_eqb c 60 (λ e. omega arith),
      le-leb 64 c (omega arith),
      lt-leb c 147 (omega arith),
    )

pub node_one : (c : ℕ) → is_node c ≡ true → c < 148
node_one c k = go (below? c 148)
  where
    go : (c < 148) ⊎ (148 ≤ c) → c < 148
    go (inl h) = h
    go (inr h) = never (sym (node_far c h) ∙ k)

-- each node of a tree has the code of a node
abbrev pub Nodes : List Token → Type 0
Nodes ts = All (λ (t : Token). is_node t.code ≡ true) ts

pub formed_nodes : {e : Tree} → Formed e → Nodes (nodes e)
unfolding nodes
formed_nodes (leaf_is k) = more (operand_code _ k).node none
formed_nodes (one_is k p) = all_append (formed_nodes p) (more (prefix_code _ k).0 none)
formed_nodes (two_is k p q) =
    all_append (all_append (formed_nodes p) (formed_nodes q)) (more (binary_code _ _ k).node none)
formed_nodes (three_is k o p q) =
    all_append (all_append (all_append (formed_nodes o) (formed_nodes p)) (formed_nodes q))
    (more (question_code _ k).node none)
