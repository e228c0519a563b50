-- Laws of numbering tests by their columns.
--   names_same, place_same, else_same               when two operands are the same
--   found_here, found_none                          the search for a column
--   Numbering, numbering_first, -asked, -next, -end     the tests before t have their columns
use mathlib.Core.Path.{◌≡◌, refl, sym, ap, ◌∙◌}
use mathlib.Core.Bool.{Bool, true, false}
use mathlib.Core.List.{List}
use mathlib.Core.Logic.{◌⊎◌, inl, inr}
use Prim.Native.Nat.{ℕ, ◌+◌, ◌<◌, ◌≤◌}
use native.Mathlib.Omega.{arith}
use lib.ListN.{length, get_or, set, length-set}
use lib.Seq.{get_or-set_same, get_or-set_other}
use Rattle.basics.proofs.Bools.{never, equal?, below?}
use Rattle.alf.specs.Expressions.{name}
use Rattle.alf.specs.Alternatives.{test}
use Rattle.alf.specs.Decoder.{edge_at}
use Rattle.alf.proofs.Parts.{made_last}
use Rattle.alf.proofs.StackTops.{name_top}
use Rattle.trees.specs.Parts.{EndsBoolean, boolean_at}
use Rattle.evaluator.proofs.Booleans.{last_byte, some_bytes}
use Rattle.alternatives.specs.InMemory.{test_of, Tests}
use Rattle.blocks.specs.Numbering.{OperandAt, Same, FindAsked, Found, AddAsked, Added, NumberAsked, Numbered}

name_is : {tree : List ℕ} {names end : ℕ} → EndsBoolean tree names end → last_byte tree end < 32
    → boolean_at tree names end ≡ name (last_byte tree end)
name_is {tree} {names} {end} h l = (name_top names _ (made_last tree names end (some_bytes h)) h.whole l).is

pub place_same : {tree : List ℕ} {x y : ℕ} {r : Bool} → x ≡ y → Same tree x y r
place_same e = record { same = λ _ names h k. rw e refl }

pub names_same : (tree : List ℕ) (x y : ℕ) {r : Bool} → last_byte tree x < 32
    → (r ≡ true → last_byte tree x ≡ last_byte tree y) → Same tree x y r
names_same tree x y l e =
    record { same = λ t names h k. name_is h l ∙ ap name (e t) ∙ sym (name_is k (rw (← e t) l)) }

pub else_same : {tree : List ℕ} {x y : ℕ} → Same tree x y false
else_same = record { same = λ e. never e }

-- the search for a column
pub found_here : (tree kinds ends : List ℕ) (many k end c : ℕ) → c < many → get_or kinds c 0 ≡ k
    → {r : Bool} → Same tree (get_or ends c 0) end r → r ≡ true → Found tree kinds ends many k end c
found_here tree kinds ends many k end c h e s t =
    record {
      within = omega arith;
      is = λ _ names p q.
          ap (λ (j : ℕ). test_of tree names j (get_or ends c 0)) e ∙ ap (test (edge_at k)) (s.same t names p q);
    }

pub found_none : (tree kinds ends : List ℕ) (many k end : ℕ) → Found tree kinds ends many k end many
found_none tree kinds ends many k end = record { within = omega arith; is = λ h. absurd (omega arith) }

-- the tests before t have their columns
pub record Numbering (tree edges operands kinds₀ ends₀ slots₀ kinds ends slots : List ℕ) (many t : ℕ) : Type 0 where
  pub within : t ≤ length edges
  pub few : many ≤ 64
  pub kinds_long : length kinds ≡ length kinds₀
  pub ends_long : length ends ≡ length ends₀
  pub slots_long : length slots ≡ length slots₀
  pub at : (c : ℕ) → c < many → OperandAt tree (get_or ends c 0)
  pub operand : (names : ℕ) → Tests tree names edges operands → (c : ℕ) → c < many
      → EndsBoolean tree names (get_or ends c 0)
  pub slot : (u : ℕ) → u < t → get_or slots u 0 < many
  pub is : (names : ℕ) → Tests tree names edges operands → (u : ℕ) → u < t
      → test_of tree names (get_or kinds (get_or slots u 0) 0) (get_or ends (get_or slots u 0) 0)
      ≡ test_of tree names (get_or edges u 0) (get_or operands u 0)

module _ {tree edges operands kinds₀ ends₀ slots₀ : List ℕ}
    (asked : NumberAsked tree edges operands kinds₀ ends₀ slots₀) where
  pub numbering_first : Numbering tree edges operands kinds₀ ends₀ slots₀ kinds₀ ends₀ slots₀ 0 0
  numbering_first =
      record {
        within = omega arith;
        few = omega arith;
        kinds_long = refl;
        ends_long = refl;
        slots_long = refl;
        at = λ c h. absurd (omega arith);
        operand = λ names g c h. absurd (omega arith);
        slot = λ u h. absurd (omega arith);
        is = λ names g u h. absurd (omega arith);
      }

  module _ {kinds ends slots : List ℕ} {many t : ℕ}
      (g : Numbering tree edges operands kinds₀ ends₀ slots₀ kinds ends slots many t) (l : t < length edges) where
    abbrev k : ℕ
    k = get_or edges t 0

    abbrev end : ℕ
    end = get_or operands t 0

    pub slot_room : t < length slots
    slot_room = omega (arith, g.slots_long, asked.room)

    pub find_asked : FindAsked tree kinds ends many end
    find_asked =
        record {
          edges = omega (arith, g.kinds_long, asked.kinds_room, g.few);
          operands = omega (arith, g.ends_long, asked.ends_room, g.few);
          few = g.few;
          at = g.at;
          this = asked.at t l;
        }

    module _ {c : ℕ} (f : Found tree kinds ends many k end c) (n : c ≡ 64 → ⊥) where
      pub add_asked : AddAsked kinds ends many c
      add_asked =
          record {
            within = f.within;
            edges = omega (arith, g.kinds_long, asked.kinds_room, g.few, f.within);
            operands = omega (arith, g.ends_long, asked.ends_room, g.few, f.within);
          }

      -- the column is there
      kept : c < many → Numbering tree edges operands kinds₀ ends₀ slots₀ kinds ends (set slots t c) many (t + 1)
      kept h =
          record {
            within = omega arith;
            few = g.few;
            kinds_long = g.kinds_long;
            ends_long = g.ends_long;
            slots_long = length-set slots t c ∙ g.slots_long;
            at = g.at;
            operand = g.operand;
            slot = λ u j. slot u j (equal? u t);
            is = λ names q u j. is names q u j (equal? u t);
          }
        where
          slot : (u : ℕ) → u < t + 1 → (u ≡ t) ⊎ (u ≡ t → ⊥) → get_or (set slots t c) u 0 < many
          slot u j (inl e) = rw (e, get_or-set_same slots t c 0 slot_room) h
          slot u j (inr e) = rw (get_or-set_other slots t u c 0 e) (g.slot u (omega arith))

          is : (names : ℕ) → Tests tree names edges operands → (u : ℕ) → u < t + 1 → (u ≡ t) ⊎ (u ≡ t → ⊥)
              → test_of tree names (get_or kinds (get_or (set slots t c) u 0) 0) (get_or ends (get_or (set slots t c) u 0) 0)
              ≡ test_of tree names (get_or edges u 0) (get_or operands u 0)
          is names q u j (inl e) =
              rw (e, get_or-set_same slots t c 0 slot_room)
              (f.is h names (g.operand names q c h) (q.boolean t l))
          is names q u j (inr e) =
              rw (get_or-set_other slots t u c 0 e) (g.is names q u (omega arith))

      -- it is a new one
      module _ (h : c ≡ many) where
        kind_room : c < length kinds
        kind_room = add_asked.edges

        end_room : c < length ends
        end_room = add_asked.operands

        before : (d : ℕ) → d < many → d ≡ c → ⊥
        before d j e = omega arith

        kind_old : (d : ℕ) → d < many → get_or (set kinds c k) d 0 ≡ get_or kinds d 0
        kind_old d j = get_or-set_other kinds c d k 0 (before d j)

        end_old : (d : ℕ) → d < many → get_or (set ends c end) d 0 ≡ get_or ends d 0
        end_old d j = get_or-set_other ends c d end 0 (before d j)

        end_new : (d : ℕ) → d ≡ c → get_or (set ends c end) d 0 ≡ end
        end_new d e = rw e (get_or-set_same ends c end 0 end_room)

        slot_new : (u : ℕ) → u ≡ t → get_or (set slots t c) u 0 ≡ c
        slot_new u e = rw e (get_or-set_same slots t c 0 slot_room)

        slot_old : (u : ℕ) → (u ≡ t → ⊥) → get_or (set slots t c) u 0 ≡ get_or slots u 0
        slot_old u e = get_or-set_other slots t u c 0 e

        new : Numbering tree edges operands kinds₀ ends₀ slots₀ (set kinds c k) (set ends c end) (set slots t c) (c + 1)
            (t + 1)
        new =
            record {
              within = omega arith;
              few = omega (arith, g.few, f.within);
              kinds_long = length-set kinds c k ∙ g.kinds_long;
              ends_long = length-set ends c end ∙ g.ends_long;
              slots_long = length-set slots t c ∙ g.slots_long;
              at = λ d j. at d j (equal? d c);
              operand = λ names q d j. operand names q d j (equal? d c);
              slot = λ u j. slot u j (equal? u t);
              is = λ names q u j. is names q u j (equal? u t);
            }
          where
            at : (d : ℕ) → d < c + 1 → (d ≡ c) ⊎ (d ≡ c → ⊥) → OperandAt tree (get_or (set ends c end) d 0)
            at d j (inl e) = rw (end_new d e) (asked.at t l)
            at d j (inr e) = rw (end_old d (omega arith)) (g.at d (omega arith))

            operand : (names : ℕ) → Tests tree names edges operands → (d : ℕ) → d < c + 1 → (d ≡ c) ⊎ (d ≡ c → ⊥)
                → EndsBoolean tree names (get_or (set ends c end) d 0)
            operand names q d j (inl e) = rw (end_new d e) (q.boolean t l)
            operand names q d j (inr e) = rw (end_old d (omega arith)) (g.operand names q d (omega arith))

            slot : (u : ℕ) → u < t + 1 → (u ≡ t) ⊎ (u ≡ t → ⊥) → get_or (set slots t c) u 0 < c + 1
            slot u j (inl e) = rw (slot_new u e) (omega arith)
            slot u j (inr e) = rw (slot_old u e) (omega (arith, g.slot u (omega arith)))

            is : (names : ℕ) → Tests tree names edges operands → (u : ℕ) → u < t + 1 → (u ≡ t) ⊎ (u ≡ t → ⊥)
                → test_of tree names (get_or (set kinds c k) (get_or (set slots t c) u 0) 0)
                (get_or (set ends c end) (get_or (set slots t c) u 0) 0)
                ≡ test_of tree names (get_or edges u 0) (get_or operands u 0)
            is names q u j (inl e) =
                rw (slot_new u e, get_or-set_same kinds c k 0 kind_room, end_new c refl, e) refl
            is names q u j (inr e) =
                let o = g.slot u (omega arith) in
                rw (slot_old u e, kind_old _ o, end_old _ o) (g.is names q u (omega arith))

      pub numbering_next : {kinds' ends' : List ℕ} {r : ℕ} → Added kinds ends many c k end kinds' ends' r
          → Numbering tree edges operands kinds₀ ends₀ slots₀ kinds' ends' (set slots t c) r (t + 1)
      numbering_next {kinds'} {ends'} {r} a = go (below? c many)
        where
          go : (c < many) ⊎ (many ≤ c)
              → Numbering tree edges operands kinds₀ ends₀ slots₀ kinds' ends' (set slots t c) r (t + 1)
          go (inl h) = let e = a.kept h in rw (e.0, e.1, e.2) (kept h)
          go (inr h) = let e = a.new h in rw (e.0, e.1, e.2) (new (omega (arith, f.within)))

  pub numbering_end : {kinds ends slots : List ℕ} {many t : ℕ}
      → Numbering tree edges operands kinds₀ ends₀ slots₀ kinds ends slots many t → length edges ≤ t
      → Numbered tree edges operands kinds ends slots many
  numbering_end g h =
      record {
        operand = λ _. g.operand;
        slot = λ _ u l. g.slot u (omega arith);
        is = λ _ names q u l. g.is names q u (omega arith);
      }

-- 64 columns are not enough
pub numbered_none : {tree edges operands kinds ends slots : List ℕ} → Numbered tree edges operands kinds ends slots 65
numbered_none =
    record {
      operand = λ h. absurd (omega arith);
      slot = λ h. absurd (omega arith);
      is = λ h. absurd (omega arith);
    }
