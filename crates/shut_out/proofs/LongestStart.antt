-- What is shut out of where a match began (document 02, [12]).
--   longest_start   `10 B | 01 A -> 10 B` at row 2 of T, without steady pins: the longer alternative answers yes too,
--                   and begins at 0
use Rattle.std.specs.Prelude.{Ok}
use Rattle.std.specs.Prelude.{Some}
use native.Mathlib.Omega.{arith}
use mathlib.Core.Path.{◌≡◌, ap, sym, ◌∙◌}
use mathlib.Core.Bool.{false}
use Rattle.alf.specs.declared.Rules.{Rules}
use Rattle.alf.specs.Beginnings.{time_of_lem}
use Rattle.alf.specs.TableT.{names, rows, times, states}
use Rattle.steady_laws.proofs.Meant.{meant_off}
use Rattle.beginnings.specs.declared.times.Dated.{Dated}
use Rattle.matching_calls.specs.Matching.{Finds, RowMatch}
use Rattle.shut_out.specs.Asked as T
use Rattle.shut_out.proofs.Beginning.{short_first, short_began, short_is}

module _ {ρ : Rules} (off : ρ.steady_pins ≡ false) (m : Dated) where
  pub longest_start : RowMatch ρ names rows (T.asked short_first) times states 2 (Ok m)
      → m.began ≡ Some (record { 0 = 0 }) → ⊥
  unfolding Finds time_of_lem
  longest_start w e =
      let d = rw (short_is ρ, meant_off ρ short_first off) at w.comes.1.start in
      omega (arith, ap time_of_lem (sym e ∙ d ∙ short_began ρ))
