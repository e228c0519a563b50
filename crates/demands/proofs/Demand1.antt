-- Demand 1 holds: each public call's promise, by the uniqueness of its contract. Main name: demand_1.
use Rattle.names.proofs.Unique.{names_unique}
use Rattle.reader.proofs.Unique.{read_unique}
use Rattle.text_laws.proofs.ShownTexts.{refusal_shows}
use Rattle.writer.proofs.Theorems as writing_laws
use Rattle.trace_reader.specs.Reading.{Reads}
use Rattle.trace_laws.proofs.RoundTrips as file_laws
use Rattle.activity.proofs.Theorems.{activity_unique}
use Rattle.activity.proofs.Parts.{part_unique}
use Rattle.text_reading.specs.Reading.{MakesTrace}
use Rattle.trace_text_laws.proofs.MadeUnique.{made_unique}
use Rattle.changes.proofs.Unique.{changes_unique}
use Rattle.rewriting_calls.proofs.Theorems.{rewrites_unique}
use Rattle.contradictions.proofs.Reporting.{contradicts_unique}
use Rattle.basics.specs.Memory.{after}
use Rattle.call_laws.proofs.Unique.{state_unique, value_unique, values_unique, answer_unique, match_unique, all_unique}
use Rattle.call_laws.proofs.Unique.{totals_unique, correction_unique, push_unique}
use Rattle.call_laws.proofs.Unique.{window_unique}
use Rattle.listed_acceptance.proofs.Fitting.{listed_fits_unique}
use Rattle.listed_calls.proofs.Unique as listed_laws
use Rattle.figures.proofs.Delivering.{delivers_unique}
use Rattle.tree_listings.proofs.Theorems.{list_unique, line_unique}
use Rattle.queue_calls.specs.Pushing.{Takes}
use Rattle.listed_calls.specs.Listed as listed
use Rattle.demands.specs.Demand1.{Demand1}
use Rattle.alf.specs.declared.Rules.{Rules}

pub demand_1 : {ρ : Rules} → Demand1 ρ
unfolding after Reads MakesTrace Takes listed.Takes
demand_1 =
    record {
      check_names_lem = λ names a b x y. names_unique names a b x y;
      read_expression_lem = λ names text sort a b x y. read_unique x y;
      read_shows = λ names text sort r h. refusal_shows h;
      write_expression_lem = λ names tree sort out.
          record { one = λ a b m n x y. writing_laws.writes_unique x y; stays = λ r m x. x.memory };
      read_trace = λ file names times states.
          record {
            one = λ a b m n x y.
                let e = file_laws.reads_unique file names times states a b x y in
                (e.answer, λ i. (e.names_now i, e.times_now i, e.states_now i));
            stays = λ r m x. λ i. (x.2.names_kept i, x.2.times_kept i, x.2.states_kept i);
          };
      write_trace = λ names times states n out.
          record {
            one = λ a b m o x y. let e = file_laws.writes_unique x y in (e.answer, e.memory);
            stays = λ r m x. x.memory;
          };
      check_trace_lem = λ names times states n a b x y. file_laws.checks_unique names times states n a b x y;
      check_lists_lem = λ names times states n a b x y. file_laws.lists_unique names times states n a b x y;
      activity = λ names times states n out.
          record {
            one = λ a b m o x y. activity_unique names times states n out x y;
            stays = λ r m x. x.memory;
          };
      activity_part = λ names times states n from to out.
          record {
            one = λ a b m o x y. part_unique names times states n from to out x y;
            stays = λ r m x. x.memory;
          };
      make_trace = λ text names times states.
          record {
            one = λ a b m n x y.
                let e = made_unique text names times states a b x y in (e.0, λ i. (e.1 i, e.2 i, e.3 i));
            stays = λ r m x. λ i. (x.1.names_kept i, x.1.times_kept i, x.1.states_kept i);
          };
      changes_at = λ names n states row a b x y. changes_unique names n states row a b x y;
      rewrite = λ names tree steps tests edges operands.
          record {
            one = λ a b m n x y.
                let e = rewrites_unique _ names tree steps tests edges operands x y in
                (e.0, λ i. (e.1 i, e.2 i, e.3 i, e.4 i));
            stays = λ r m x.
                let l = x.memory in
                λ i. (l.steps_are i, l.tests_are i, l.edges_are i, l.operands_are i);
          };
      contradictions = λ names tree flags.
          record { one = λ a b m n x y. contradicts_unique _ names tree flags x y; stays = λ r m x. x.memory };
      row_state = λ names n tree states row a b x y. state_unique x y;
      row_value = λ names n tree states row a b x y. value_unique x y;
      values = λ names n tree states out.
          record { one = λ a b m o x y. values_unique x y; stays = λ r m x. x.memory };
      row_answer_lem = λ names n tree states row a b x y. answer_unique x y;
      window_answer = λ names n tree states from to a b x y. window_unique x y;
      match_row_lem = λ names n tree times states row a b x y. match_unique x y;
      match_all = λ names n tree times states answers tried given began.
          record {
            one = λ a b m o x y. let e = all_unique x y in (e.0, λ i. (e.1 i, e.2 i, e.3 i, e.4 i));
            stays = λ r m x. λ i.
                (x.answers_memory i, x.tried_memory i, x.given_memory i, x.began_memory i);
          };
      totals = λ names n tree states a b x y. totals_unique x y;
      correct = λ names n tree states answers row new.
          record {
            one = λ a b m o x y. let e = correction_unique x y in (e.0, λ i. (e.1 i, e.2 i));
            stays = λ r m x. λ i. (x.states_memory i, x.answers_memory i);
          };
      push = λ names tree queue time row.
          record { one = λ a b p q x y. push_unique x y; stays = λ r q x. x.comes.1 };
      listed_fits = λ names tree steps tests edges operands a b x y. listed_fits_unique x y;
      listed_match_row = λ names n tree steps tests edges operands states times row a b x y.
          listed_laws.listed_match_unique x y;
      listed_match_all = λ names n tree steps tests edges operands states times answers tried given began.
          record {
            one = λ a b m o x y.
                let e = listed_laws.listed_all_unique x y in (e.0, λ i. (e.1 i, e.2 i, e.3 i, e.4 i));
            stays = λ r m x. λ i.
                (x.answers_memory i, x.tried_memory i, x.given_memory i, x.began_memory i);
          };
      listed_totals = λ names n tree steps tests edges operands states a b x y. listed_laws.listed_totals_unique x y;
      listed_push = λ names tree steps tests edges operands queue time row.
          record { one = λ a b p q x y. listed_laws.listed_push_unique x y; stays = λ r q x. x.comes.1 };
      list = λ names n tree states times out.
          record { one = λ a b m o x y. list_unique x y; stays = λ r m x. x.memory };
      table_line = λ names n tree states pattern out.
          record { one = λ a b m o x y. line_unique x y; stays = λ r m x. x.memory };
      line = λ text out.
          record { one = λ a b m n x y. delivers_unique text out x y; stays = λ r m x. x.memory };
    }
