-- The alternatives of a pattern, from its text: refused as the text is read (18 and 12 for the names, 1 to 8 for the
-- text), then with 9; else their lines stand at the front of the lent buffer. 10 does not come, since a text gives the
-- tree.
--   RewritesText    what the call comes to
use Rattle.std.specs.Prelude.{Err}
use Rattle.std.specs.Prelude.{ℕ, List}
use Rattle.basics.specs.declared.Refusal.{Refusal}
use Rattle.alf.specs.declared.Rules.{Rules}
use Rattle.alf.specs.declared.Sort.TheVariants as sort
use Rattle.alf.specs.Expressions.{Vector, vector}
use Rattle.alf.specs.Alternatives.{alternatives}
use Rattle.alf.specs.Steady.{meant}
use Rattle.alf.specs.Refusals.{Passed}
use Rattle.tokens.specs.Extents.{RefusedIn}
use Rattle.reader.specs.Reading.{read_order, Gives}
use Rattle.alternative_listings.specs.declared.Lines.{Lines}
use Rattle.alternative_texts.specs.Texts.{untold}
use Rattle.alternative_lines.specs.Listing.{listing}
use Rattle.alternative_listings.specs.Calls.{DeliversLines}

-- refused as the text is read, and the buffer stays; or the text gives the pattern p, and what comes is that of the
-- alternatives of p as the rules read it (document 02, [2]): 9, or their lines
pub data RewritesText (ρ : Rules) (names text out : List ℕ) : List ℕ → Lines → Type 0 where
  refused : {r : Refusal} → RefusedIn text (read_order ρ names text sort.Vector) r
      → RewritesText ρ names text out out (record { written = Err r; untold = 0 })
  rewritten : {p : Vector} {out' : List ℕ} {r : Lines} → Passed (read_order ρ names text sort.Vector)
      → Gives ρ names text sort.Vector (vector p)
      → DeliversLines (listing names (alternatives (meant ρ p))) (untold names (alternatives (meant ρ p))) out out' r
      → RewritesText ρ names text out out' r
