-- Document 02, [11], "Partners' pins blanked": a trace in which every pin outside a set is overwritten.
--   blanked_row, blanked     a row, a trace, with every other pin overwritten by any states
--   blanked_by_x              by X, where a table tells which pins are kept
use Rattle.std.specs.Prelude.{ℕ, Bool, List, if◌then◌else◌}
use Rattle.basics.specs.Words.{listed}
use Rattle.alf.specs.States.{X}
use Rattle.alf.specs.Values.{row_of}
use Rattle.named_pins.specs.Tables.{keeps}
use Rattle.queue.specs.Queues.{fed}

-- row r of a trace of k names, every pin but these overwritten by another state
unfoldable pub blanked_row : (ℕ → Bool) → (ℕ → ℕ → ℕ) → ℕ → List ℕ → ℕ → List ℕ
blanked_row pins other k states r = listed 0 k (λ n. if pins n then row_of k states r n else other r n)

-- all n rows of a trace
abbrev pub blanked : (ℕ → Bool) → (ℕ → ℕ → ℕ) → ℕ → ℕ → List ℕ → List ℕ
blanked pins other k n states = fed (blanked_row pins other k states) n

-- every pin is X that the table does not keep
abbrev pub blanked_by_x : List ℕ → ℕ → ℕ → List ℕ → List ℕ
blanked_by_x kept k n states = blanked (keeps kept) (λ r m. X) k n states
