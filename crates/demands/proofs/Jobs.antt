-- Demand 1 holds of the calls that the program makes. Main name: demand_1_jobs.
use Rattle.basics.specs.Memory.{after}
use Rattle.alternative_listings.proofs.Theorems.{alternatives_unique}
use Rattle.column_listings.proofs.Theorems.{values_unique}
use Rattle.row_listings.proofs.ListingTheorems.{list_text_unique, values_text_unique, lists_stays}
use Rattle.began_texts.proofs.Theorems.{began_text_unique, began_text_stays}
use Rattle.alternative_listings.proofs.AlternativesLaws.{text_unique}
use Rattle.jobs.proofs.TextCounts.{counts_unique}
use Rattle.jobs.proofs.TableLines.{table_line_unique}
use Rattle.letter_corrections.proofs.LetterCorrections.{letters_unique}
use Rattle.blank_calls.proofs.Outcomes.{blank_unique}
use Rattle.kept_texts.proofs.Theorems.{keep_unique, keep_stays}
use Rattle.demands.specs.Jobs.{Demand1Jobs}
use Rattle.alf.specs.declared.Rules.{Rules}

pub demand_1_jobs : {ρ : Rules} → Demand1Jobs ρ
unfolding after
demand_1_jobs =
    record {
      count_text_lem = λ names n states text a b x y. counts_unique x y;
      table_line = λ names n states text out. record { one = λ a b m o x y. table_line_unique x y };
      list_text = λ names times states text out.
          record { one = λ a b m o x y. list_text_unique _ x y; stays = λ r m x. lists_stays x };
      list_began_text = λ names times states text out.
          record {
            one = λ a b m o x y. began_text_unique _ _ _ _ _ x y;
            stays = λ r m x. began_text_stays _ _ _ _ _ x;
          };
      values_text = λ names times states text out.
          record { one = λ a b m o x y. values_text_unique _ x y; stays = λ r m x. lists_stays x };
      list_values_lem = λ times values out.
          record { one = λ a b m o x y. values_unique times values out x y; stays = λ r m x. x.memory };
      alternatives_text = λ names text out. record { one = λ a b m o x y. text_unique x y };
      write_alternatives_lem = λ names tree out. record { one = λ a b m o x y. alternatives_unique x y };
      correct_letters = λ names n states row letters.
          record { one = λ a b m o x y. letters_unique x y; stays = λ r m x. x.memory };
      keep_text = λ names text sort kept.
          record { one = λ a b m o x y. keep_unique _ _ _ _ _ x y; stays = λ r m x. keep_stays _ _ _ _ _ x };
      blank = λ names n states kept. record { one = λ a b m o x y. blank_unique x y; stays = λ r m x. x.memory };
    }
