-- Reading and writing, of a question for either sort: what demand 2 says of them. Main name: survives.
use Rattle.std.specs.Prelude.{Ok}
use Prim.Native.Nat.{ℕ}
use mathlib.Core.Path.{◌≡◌, sym, ap, ◌∙◌}
use mathlib.Core.List.{List}
use Rattle.alf.specs.declared.Sort.{Sort}
use Rattle.alf.specs.Expressions.{Expression}
use Rattle.reader.specs.Reads.{made}
use Rattle.reader.proofs.Unique.{read_complete, read_unique}
use Rattle.text_laws.proofs.RoundTrips.{written_read, written_within, refused_past_limit}
use Rattle.trace_laws.proofs.RoundTrips.{read_any, writes_bytes}
use Rattle.trace_laws.proofs.Rewritten.{same_file, shorter}
use Rattle.demands.specs.Questions.{Asked}
use Rattle.demands.specs.Survival.{Survives}
use Rattle.demands.proofs.Asked.{names_good, named, tree_accepted, tree_whole, tree_text}

module _ {A : Type 0} {into : A → Expression} {sort : Sort} {file text : List ℕ} (q : Asked into sort file text) where
  pub survives : Survives q
  survives =
      record {
        file_read = λ n₀ t₀ s₀ n₁ t₁ s₁ r a b c w.
            let o = read_any q.trace q.widths q.fitting n₀ t₀ s₀ r a b c (rw q.read at w) in
            (o.answer, o.names_now, o.times_now, o.states_now);
        file_written = λ out out' r l w. let o = writes_bytes q.trace r l w in (o.answer, o.memory);
        file_same = λ none.
            sym (q.read ∙ same_file q.trace q.widths q.fitting (rw q.read at none));
        file_shorter = rw q.read (shorter q.trace q.widths q.fitting);
        text_read = λ r l w. read_complete (names_good q) l q.given w;
        text_written = λ out out' r l m w.
            rw (tree_text q) at
            (written_within (named q) (tree_accepted q) w (rw (tree_text q) l) (rw (tree_text q) m));
        text_too_long = λ out out' r l w.
            refused_past_limit (named q) (tree_accepted q) w (rw (tree_text q) l);
        text_survives = λ out out' m r w v.
            read_unique v (written_read (tree_accepted q) w) ∙ ap (λ x. Ok (made x)) (tree_whole q);
      }
