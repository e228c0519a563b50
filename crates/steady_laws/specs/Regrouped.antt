-- Document 02, [2], "brackets around parts of it ignored": two expressions that differ in how their chains of `->` are
-- grouped, at any depth: Regrouped.
use Rattle.alf.specs.Expressions.{Boolean, Vector, join, while, Join, followed_by_join, Side}

pub data Regrouped : Vector → Vector → Type 0 where
  -- ( p -> q ) -> r is p -> ( q -> r )
  turned : (p q r : Vector)
      → Regrouped (join followed_by_join (join followed_by_join p q) r) (join followed_by_join p (join followed_by_join q r))
  -- in the operands of an operator, and of a condition
  in_both : {p p' q q' : Vector} (j : Join) → Regrouped p p' → Regrouped q q' → Regrouped (join j p q) (join j p' q')
  in_while : {p p' : Vector} (s : Side) (c : Boolean) → Regrouped p p' → Regrouped (while s p c) (while s p' c)
  -- not at all, the other way round, and one after the other
  as_it_is : (p : Vector) → Regrouped p p
  backwards : {p q : Vector} → Regrouped p q → Regrouped q p
  twice : {p q r : Vector} → Regrouped p q → Regrouped q r → Regrouped p r
