-- Document 02, [2]: regrouping chains of `->`, at any depth, changes no filled alternatives.
--   Alike                        what two expressions that differ in grouping have in common
--   regrouped                    so they have the same alternatives when filled
use mathlib.Core.Path.{◌≡◌, refl, ap, sym, ◌∙◌}
use mathlib.Core.Bool.{Bool, true, false, ◌&&◌}
use mathlib.Core.List.{map}
use Rattle.alf.specs.Expressions.{Boolean, Vector, join, while, Join, followed_by_join, Side}
use Rattle.alf.specs.Alternatives.{conditioned, rewritten, alternatives}
use Rattle.alf.specs.Steady.{is_then, is_with, is_step_lem, filled}
use Rattle.basics.proofs.Bools.{never, and_left, and_right}
use Rattle.steady_laws.specs.Beside.{Beside, alone, front, back, filled_beside}
use Rattle.steady_laws.specs.Regrouped.{Regrouped, turned, in_both, in_while, as_it_is, backwards, twice}
use Rattle.steady_laws.proofs.Rows.{then_no_step, step_join}
use Rattle.steady_laws.proofs.Chains.{chained_assoc}
use Rattle.steady_laws.proofs.Besides.{filled_beside_lem}

pub record Alike (p q : Vector) : Type 0 where
  -- both are a step, and then the same, or neither
  pub steps : is_step_lem p ≡ is_step_lem q
  pub one_step : is_step_lem p ≡ true → p ≡ q
  -- the rows of steps at their ends
  pub fronts : (r : Beside) → front p r ≡ front q r
  pub backs : (r : Beside) → back p r ≡ back q r
  -- their alternatives, filled as a part of any chain
  pub fillings : (b a : Beside) → alternatives (filled_beside b a p) ≡ alternatives (filled_beside b a q)

alike_same : {p q : Vector} → p ≡ q → Alike p q
alike_same e =
    record {
      steps = ap is_step_lem e;
      one_step = λ h. e;
      fronts = λ r i. front (e i) r;
      backs = λ r i. back (e i) r;
      fillings = λ b a i. alternatives (filled_beside b a (e i));
    }

alike_back : {p q : Vector} → Alike p q → Alike q p
alike_back x =
    record {
      steps = sym x.steps;
      one_step = λ h. sym (x.one_step (x.steps ∙ h));
      fronts = λ r. sym (x.fronts r);
      backs = λ r. sym (x.backs r);
      fillings = λ b a. sym (x.fillings b a);
    }

alike_twice : {p q r : Vector} → Alike p q → Alike q r → Alike p r
alike_twice x y =
    record {
      steps = x.steps ∙ y.steps;
      one_step = λ h. x.one_step h ∙ y.one_step (sym x.steps ∙ h);
      fronts = λ r. x.fronts r ∙ y.fronts r;
      backs = λ r. x.backs r ∙ y.backs r;
      fillings = λ b a. x.fillings b a ∙ y.fillings b a;
    }

alike_while : {p q : Vector} (s : Side) (c : Boolean) → Alike p q → Alike (while s p c) (while s q c)
unfolding is_step_lem front back filled_beside alternatives
alike_while s c x =
    record {
      steps = refl;
      one_step = λ h. never h;
      fronts = λ r. refl;
      backs = λ r. refl;
      fillings = λ b a. ap (map (conditioned c)) (x.fillings alone alone);
    }

alike_turned : (p q r : Vector)
    → Alike (join followed_by_join (join followed_by_join p q) r) (join followed_by_join p (join followed_by_join q r))
unfolding is_then is_with is_step_lem front back filled_beside alternatives rewritten
alike_turned p q r =
    record {
      steps = refl;
      one_step = λ h. never h;
      fronts = λ s. refl;
      backs = λ s. refl;
      fillings = λ b a.
          chained_assoc (alternatives (filled_beside b (front q (front r a)) p))
          (alternatives (filled_beside (back p b) (front r a) q)) (alternatives (filled_beside (back q (back p b)) a r));
    }

-- a join by its kind
module _ (j : Join) (p q : Vector) where
  front_then : is_then j ≡ true → (r : Beside) → front (join j p q) r ≡ front p (front q r)
  unfolding front
  front_then e r = rw e refl

  back_then : is_then j ≡ true → (r : Beside) → back (join j p q) r ≡ back q (back p r)
  unfolding back
  back_then e r = rw e refl

  filling_then : is_then j ≡ true → (b a : Beside) → alternatives (filled_beside b a (join j p q))
      ≡ rewritten j (alternatives (filled_beside b (front q a) p)) (alternatives (filled_beside (back p b) a q))
  unfolding filled_beside alternatives
  filling_then e b a = rw e refl

  front_other : is_then j ≡ false → is_step_lem (join j p q) ≡ false → (r : Beside) → front (join j p q) r ≡ alone
  unfolding front
  front_other e h r = rw (e, h) refl

  back_other : is_then j ≡ false → is_step_lem (join j p q) ≡ false → (r : Beside) → back (join j p q) r ≡ alone
  unfolding back
  back_other e h r = rw (e, h) refl

  filling_other : is_then j ≡ false → is_step_lem (join j p q) ≡ false → (b a : Beside)
      → alternatives (filled_beside b a (join j p q))
      ≡ rewritten j (alternatives (filled_beside alone alone p)) (alternatives (filled_beside alone alone q))
  unfolding filled_beside alternatives
  filling_other e h b a = rw (e, h) refl

module _ (j : Join) {p p' q q' : Vector} (x : Alike p p') (y : Alike q q') where
  same_steps : is_step_lem (join j p q) ≡ is_step_lem (join j p' q')
  same_steps = step_join j p q p' q' x.steps y.steps

  alike_then : is_then j ≡ true → Alike (join j p q) (join j p' q')
  alike_then e =
      record {
        steps = same_steps;
        one_step = λ h. never (sym (then_no_step j p q e) ∙ h);
        fronts = λ r.
            front_then j p q e r ∙ x.fronts (front q r) ∙ ap (front p') (y.fronts r) ∙ sym (front_then j p' q' e r);
        backs = λ r.
            back_then j p q e r ∙ y.backs (back p r) ∙ ap (back q') (x.backs r) ∙ sym (back_then j p' q' e r);
        fillings = λ b a.
            let f = x.fillings b (front q a) ∙ λ i. alternatives (filled_beside b (y.fronts a i) p') in
            let g = y.fillings (back p b) a ∙ λ i. alternatives (filled_beside (x.backs b i) a q') in
            filling_then j p q e b a ∙ (λ i. rewritten j (f i) (g i)) ∙ sym (filling_then j p' q' e b a);
      }

  -- a step has no `->` to regroup
  both_steps : is_step_lem (join j p q) ≡ true → join j p q ≡ join j p' q'
  both_steps h =
      let r = and_right (is_with j) (is_step_lem p && is_step_lem q) (unfold is_step_lem in h) in
      let d = x.one_step (and_left (is_step_lem p) (is_step_lem q) r) in
      let e = y.one_step (and_right (is_step_lem p) (is_step_lem q) r) in
      λ i. join j (d i) (e i)

  alike_other : is_then j ≡ false → is_step_lem (join j p q) ≡ false → Alike (join j p q) (join j p' q')
  alike_other e h =
      record {
        steps = same_steps;
        one_step = λ k. never (sym h ∙ k);
        fronts = λ r. front_other j p q e h r ∙ sym (front_other j p' q' e (sym same_steps ∙ h) r);
        backs = λ r. back_other j p q e h r ∙ sym (back_other j p' q' e (sym same_steps ∙ h) r);
        fillings = λ b a.
            let f = x.fillings alone alone in
            let g = y.fillings alone alone in
            filling_other j p q e h b a
            ∙ (λ i. rewritten j (f i) (g i))
            ∙ sym (filling_other j p' q' e (sym same_steps ∙ h) b a);
      }

  alike_join : Alike (join j p q) (join j p' q')
  alike_join = go (is_then j) (is_step_lem (join j p q)) refl refl
    where
      go : (u v : Bool) → is_then j ≡ u → is_step_lem (join j p q) ≡ v → Alike (join j p q) (join j p' q')
      go true v e h = alike_then e
      go false true e h = alike_same (both_steps h)
      go false false e h = alike_other e h

alike : {p q : Vector} → Regrouped p q → Alike p q
alike (turned p q r) = alike_turned p q r
alike (in_both j g h) = alike_join j (alike g) (alike h)
alike (in_while s c g) = alike_while s c (alike g)
alike (as_it_is p) = alike_same refl
alike (backwards g) = alike_back (alike g)
alike (twice g h) = alike_twice (alike g) (alike h)

pub regrouped : (p q : Vector) → Regrouped p q → alternatives (filled p) ≡ alternatives (filled q)
regrouped p q g =
    ap alternatives (filled_beside_lem p) ∙ (alike g).fillings alone alone ∙ sym (ap alternatives (filled_beside_lem q))
