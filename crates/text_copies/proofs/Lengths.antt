-- How long the lists are that a text is read as. Main names: names_long, states_long.
use Prim.Native.Nat.{ℕ, ◌*◌}
use mathlib.Core.Path.{◌≡◌, ap, ◌∙◌}
use mathlib.Core.List.{List}
use lib.ListN.{length, length-map}
use Rattle.alf.specs.Names.{slot_of}
use Rattle.record_copies.proofs.Copying.{slot_length}
use Rattle.trace_texts.specs.Words.{Word, Line}
use Rattle.trace_texts.specs.Texts.{name_words, names_made, states_made}
use Rattle.trace_texts.proofs.Parts.{parts_length, all_map}
use Rattle.text_copies.specs.Copies.{codes_at}
use Rattle.text_copies.proofs.Copying.{codes_long}

pub names_long : (head : Line) → length (names_made head) ≡ length (name_words head) * 32
unfolding names_made
names_long head =
    parts_length 32 (all_map (λ (w : Word). slot_of w.bytes) (name_words head) (λ w. slot_length w.bytes))
    ∙ ap (λ (m : ℕ). m * 32) (length-map (name_words head) (λ (w : Word). slot_of w.bytes))

pub states_long : (k : ℕ) (rows : List Line) → length (states_made k rows) ≡ length rows * k
unfolding states_made
states_long k rows =
    parts_length k (all_map (codes_at k) rows (codes_long k)) ∙ ap (λ (m : ℕ). m * k) (length-map rows (codes_at k))
