-- How the pins of a tree are written in one walk from left to right. A run is a row of steps. Of the run so far the
-- walk keeps what is beside the next step, and the rows of its steps in the table of pins. What comes after the run so
-- far is not known yet. So what the table holds is said for whatever may come after (`Followed`).
--   cell, among               an entry of the table, by its row and its name; whether a row is one of the run's
--   over, passed              a place over another; a step, and then what was before it
--   settled_entry, Settled, Followed     the table, once it is known what comes after the run so far
--   Rows, Column, Named       what is asked and ensured where a name's places are written into the rows of a run
--   own_row, begun             the row of a step, while nothing comes after it; a run without steps
--   Ready, Walk, StepWalk     what is asked where the walk of an expression starts
--   Walked, Apart             what the walk gives, and with nothing beside the expression
use Rattle.std.specs.Prelude.{ℕ, ◌-◌, ◌+◌, ◌*◌, ◌<◌, ◌≤◌, ◌≡◌, Bool, true, ◌&&◌, List, eqb, length, get_or, if◌then◌else◌}
use Rattle.std.proofs.lemmas.List.Edits.{sets}
use Rattle.basics.specs.Words.{some, listed}
use Rattle.alf.specs.Expressions.{Vector}
use Rattle.alf.specs.Bytes.{vector_bytes}
use Rattle.alf.specs.Steady.{is_step_lem}
use Rattle.trees.specs.Parts.{vector_at}
use Rattle.steady_pins.specs.declared.finding.Beside.{Beside}
use Rattle.steady_pins.specs.declared.finding.Run.{Run}
use Rattle.steady_pins.specs.Finding.{Tree, alone, front, back, pin_entry, marked}

-- the part that ends at e has row e - 1
abbrev pub cell : List ℕ → ℕ → ℕ → ℕ
cell l r n = get_or l (r * 32 + n) 0

abbrev pub among : List ℕ → ℕ → ℕ → Bool
among rows many r = some many (λ k. eqb (get_or rows k 0) r)

unfoldable pub over : ℕ → ℕ → ℕ
over place other = if eqb place 0 then other else place

-- what is beside a part behind a step: the step, and then what was before it
abbrev pub passed : Beside → Beside → Beside
passed mine before =
    record {
      places = listed 0 32 (λ n. over (get_or mine.places n 0) (get_or before.places n 0));
      changing = mine.changing && before.changing;
    }

-- one entry, in a row of the run (`run`) or not: 0 if a step that comes after does not change; else the place that
-- comes after, where there is one and the name is new in the run
unfoldable pub settled_entry : Bool → Bool → ℕ → ℕ → ℕ → ℕ
settled_entry run changing before after old =
    if run then (if changing then (if eqb before 0 then over after old else old) else 0) else old

-- the table l' is l, once `after` has come after the run: `on` where all steps of the run change
pub record Settled (on changing : Bool) (before after rows : List ℕ) (many : ℕ) (l l' : List ℕ) : Type 0 where
  pub long : length l' ≡ length l
  pub entry : (r n : ℕ) → r < 256 → n < 32
      → cell l' r n ≡ settled_entry (on && among rows many r) changing (get_or before n 0) (get_or after n 0) (cell l r n)

abbrev pub Followed : Beside → Beside → List ℕ → ℕ → List ℕ → List ℕ → Type 0
Followed before after rows many l l' =
    Settled before.changing after.changing before.places after.places rows many l l'

-- the first `many` of the rows are rows of the table
pub record Rows (rows : List ℕ) (many : ℕ) (l : List ℕ) : Type 0 where
  pub few : many ≤ 256
  pub low : (k : ℕ) → k < many → get_or rows k 0 < 256
  pub long : length l ≡ 8192

pub record NameRows (n : ℕ) (rows : List ℕ) (many : ℕ) (l : List ℕ) : Type 0 where
  pub name : n < 32
  pub fit : Rows rows many l

-- one place for name n in all the rows
pub record Column (rows : List ℕ) (many n place : ℕ) (l l' : List ℕ) : Type 0 where
  pub long : length l' ≡ length l
  pub entry : (r k : ℕ) → r < 256 → k < 32
      → cell l' r k ≡ (if among rows many r && eqb k n then place else cell l r k)

-- the entries of name n are settled, in a run whose steps all change
pub record Named (changing : Bool) (before after : ℕ) (rows : List ℕ) (many n : ℕ) (l l' : List ℕ) : Type 0 where
  pub long : length l' ≡ length l
  pub entry : (r k : ℕ) → r < 256 → k < 32
      → cell l' r k
      ≡ (if eqb k n then settled_entry (among rows many r) changing before after (cell l r k) else cell l r k)

-- the row of a step, while nothing comes after the step: a place before it for each name that it has no edge on
unfoldable pub own_row : Beside → Beside → ℕ → List ℕ → List ℕ
own_row before mine row l =
    if before.changing && mine.changing
    then sets l (row * 32) (listed 0 32 (λ n. pin_entry (get_or before.places n 0) (get_or mine.places n 0) 0))
    else l

abbrev pub begun : Run
begun = record { beside = alone; many = 0 }

-- at byte `at`: the run's rows are of parts that ended before, and no later part has pins yet
pub record Ready (at : ℕ) (run : Run) (rows l : List ℕ) : Type 0 where
  pub wide : length run.beside.places ≡ 32
  pub room : length rows ≡ 256
  pub long : length l ≡ 8192
  pub few : run.many ≤ at
  pub earlier : (k : ℕ) → k < run.many → get_or rows k 0 < at
  pub blank : (i : ℕ) → at * 32 ≤ i → get_or l i 0 ≡ 0

-- what is asked: an expression, at whose first byte the walk is
pub record Walk (tree : List ℕ) (names end : ℕ) (run : Run) (rows l : List ℕ) : Type 0 where
  pub is : Tree tree names end
  pub ready : Ready (end - length (vector_bytes (vector_at tree names end))) run rows l

pub record StepWalk (tree : List ℕ) (names end : ℕ) (run : Run) (rows l : List ℕ) : Type 0 where
  pub walk : Walk tree names end run rows l
  pub step : is_step_lem (vector_at tree names end) ≡ true

-- what the walk of the expression p gives: the run that p ends with, its rows, and the table. Whatever comes after p,
-- the table is then the one before p, with the pins of p
pub record Walked (end : ℕ) (p : Vector) (run : Run) (rows l : List ℕ) (run' : Run) (rows' l' : List ℕ) : Type 0 where
  pub last : run'.beside ≡ back end p run.beside
  pub ready : Ready end run' rows' l'
  pub pins : (after : Beside) (m : List ℕ) → length after.places ≡ 32
      → Followed run.beside (front end p after) rows run.many l m
      → Followed run'.beside after rows' run'.many l' (marked end p run.beside after m)

-- what the walk of an expression gives that has nothing beside it
pub record Apart (end : ℕ) (p : Vector) (l rows' l' : List ℕ) : Type 0 where
  pub pins : l' ≡ marked end p alone alone l
  pub ready : Ready end begun rows' l'
