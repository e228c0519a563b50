-- What the second pass returns: 9 for the first short list, or the trace.
--   short_names, short_times, short_states, filled     what is returned
--   refused                                            from the first pass on
use Rattle.std.specs.Prelude.{Err, Ok}
use Rattle.trace_reader.specs.Reading.{size}
use Prim.Native.Nat.{ℕ, ◌*◌, ◌<◌, ◌≤◌}
use native.Mathlib.Omega.{arith}
use mathlib.Core.Path.{◌≡◌, refl, sym, ap, ◌∙◌}
use mathlib.Core.Logic.{inl, inr}
use mathlib.Core.List.{List}
use lib.ListN.{length}
use Rattle.basics.specs.declared.Refusal.{Refusal}
use Rattle.basics.specs.Refusing.{refusal}
use Rattle.basics.specs.Memory.{front}
use Rattle.alf.specs.Refusals.{RefusedWith, Passed}
use Rattle.alf.proofs.Orders.{plainly, by_first, by_then, passed_both}
use Rattle.trace_reader.specs.Reading.{Reading}
use Rattle.trace_reader.specs.Reading.{room_order, Untouched}
use Rattle.trace_texts.specs.Words.{Line}
use Rattle.trace_texts.specs.Texts.{names_made, times_made, states_made, text_order}
use Rattle.trace_texts.specs.Finding.{from, said_from, Passes, Next}
use Rattle.text_copies.specs.Copies.{RowsMade}
use Rattle.text_reading.specs.Reading.{rows_of, MakesTrace, Checked, Checks}
use Rattle.text_reading.proofs.Outcomes.{split}

untouched : (names times states : List ℕ) → Untouched names times states names times states
untouched names times states = record { names_kept = refl; times_kept = refl; states_kept = refl }

module _ {text : List ℕ} {k n : ℕ} (g : Checked text k n) (names times states : List ℕ) where
  short : {r : Reading} {q p : ℕ} → r ≡ Err (refusal q p) → RefusedWith (room_order names times states k n) q p
      → MakesTrace text names times states names times states r
  unfolding MakesTrace
  short {q = q} {p} e w =
      let here = rw (g.named, g.counted) at w in
      rw e (by_then (text_order text) _ g.passes (plainly _ q p here), untouched names times states)

  pub short_names : {r : Reading} → r ≡ Err (refusal 9 (k * 32)) → length names < k * 32
      → MakesTrace text names times states names times states r
  unfolding RefusedWith
  short_names e h = short e (inl (refl, record { given = h; there = refl }))

  module _ (a : k * 32 ≤ length names) where
    pub short_times : {r : Reading} → r ≡ Err (refusal 9 n) → length times < n
        → MakesTrace text names times states names times states r
    unfolding RefusedWith
    short_times e h =
        short e (inr ((λ q x. omega (arith, x.given, a)), inl (refl, record { given = h; there = refl })))

    module _ (b : n ≤ length times) where
      pub short_states : {r : Reading} → r ≡ Err (refusal 9 (n * k)) → length states < n * k
          → MakesTrace text names times states names times states r
      unfolding RefusedWith
      short_states e h =
          short e
          (inr (
            (λ q x. omega (arith, x.given, a)),
            inr ((λ q x. omega (arith, x.given, b)), inl (refl, record { given = h; there = refl })),
          ))

      pub filled : n * k ≤ length states → {h i : ℕ} → Next text 0 h → Passes text h i
          → {names' times' states' : List ℕ} → names' ≡ front (names_made (from text h).first) names
          → RowsMade k (said_from text i) times states times' states'
          → MakesTrace text names times states names' times' states' (Ok (size k n))
      unfolding MakesTrace Passed
      filled c next behind ns rs =
          let parts = split g next behind in
          let room : Passed (room_order names times states k n) = (
            (λ q x. omega (arith, x.given, a)),
            (
              (λ q x. omega (arith, x.given, b)),
              ((λ q x. omega (arith, x.given, c)), tt),
            ),
          )
          in
          let head = parts.head_is in
          record {
            passes = passed_both (text_order text) _ g.passes (rw (g.named, g.counted) at room);
            named = g.named;
            counted = g.counted;
            names_now = ns ∙ ap (λ (l : Line). front (names_made l) names) (sym head);
            times_now = rs.times_now ∙ ap (λ (l : List Line). front (times_made l) times) (sym parts.rows_are);
            states_now =
                rs.states_now ∙ ap (λ (l : List Line). front (states_made k l) states) (sym parts.rows_are)
                ∙ ap (λ (m : ℕ). front (states_made m (rows_of text)) states) g.named;
          }

pub refused : (text names times states : List ℕ) (x : Refusal) → Checks text (Err x)
    → MakesTrace text names times states names times states (Err x)
unfolding Checks MakesTrace
refused text names times states x h = (by_first _ _ h, untouched names times states)
