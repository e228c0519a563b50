-- What the functions inside ask and give.
--   HeadFits, OpeningFits   room for the head, and for the head before row 0
--   WritesPart              what a part comes to, once its lists are known to fit
use Rattle.std.specs.Prelude.{ℕ, ◌-◌, ◌≡◌, List, length}
use Rattle.basics.specs.Refusing.{Outcome}
use Rattle.basics.specs.Memory.{Room, after, front}
use Rattle.alf.specs.Refusals.{Comes}
use Rattle.trace_writer.specs.Putting.{SlotsLent}
use Rattle.activity.specs.Activity.{head_line, opening, part_text, some_order}

pub record HeadFits (names : List ℕ) (k : ℕ) (out : List ℕ) (at : ℕ) : Type 0 where
  pub slots : SlotsLent names k
  pub room : Room out at (head_line names k)

pub record OpeningFits (names : List ℕ) (k first : ℕ) (out : List ℕ) (at : ℕ) : Type 0 where
  pub slots : SlotsLent names k
  pub room : Room out at (opening names k first)

pub record WritesPart (names : List ℕ) (k : ℕ) (times states : List ℕ) (n from to : ℕ) (out out' : List ℕ) (r : Outcome)
    : Type 0 where
  pub outcome :
      Comes (some_order names k times states n from to (length out))
      (λ m. m ≡ length (part_text names k times states from (to - from))) r
  pub memory : out' ≡ after (front (part_text names k times states from (to - from)) out) out r
