-- What a text is read as, from what the parts of the call found.
--   names_refused, tokens_refused, five, six, seven, eight    refused, by the first row of the order that is given
--   read_clear                                                read
use Rattle.std.specs.Prelude.{Ok, Err}
use mathlib.Core.Path.{◌≡◌, refl}
use mathlib.Core.List.{List, ◌++◌}
use mathlib.Core.Logic.{inl, inr}
use Prim.Native.Nat.{ℕ}
use lib.ListN.{length}
use Rattle.alf.specs.declared.Rules.{Rules}
use Rattle.alf.specs.declared.Sort.{Sort}
use Rattle.alf.specs.Expressions.{Expression}
use Rattle.alf.specs.Refusals.{RefusedWith, RefusedBy, Passed, numbers_of}
use Rattle.names.specs.Check.{names_order}
use Rattle.tokens.specs.Texts.{Token, Reads, OfTokens, order}
use Rattle.tokens.proofs.TextLaws.{reads_unique}
use Rattle.grammar.specs.Grammar as grammar
use Rattle.grammar.specs.Grammar.{Tree, nodes}
use Rattle.grammar.specs.Answers.{accepted, tree}
use Rattle.grammar.proofs.RowFive.{row_never}
use Rattle.grammar.proofs.Unique.{parses_unique}
use Rattle.sorting.specs.Lookup.{number_at}
use Rattle.sorting.specs.Sorts.{is, faulty}
use Rattle.reader.specs.Texts.{tokens_of}
use Rattle.reader.specs.Reads.{made, refused_with, refused_at}
use Rattle.reader.specs.Reading.{Unknown, unsorted, too_large, OfTree, stuck, unknown, sorted_in, faults_in}
use Rattle.reader.specs.Reading.{tree_order, Gives, ReadsText, refused, read}
use Rattle.reader.proofs.Faults.{call_agree, row_seven, seven_never}
use Rattle.alf.proofs.Orders.{passed_both}
use Rattle.alf.specs.States.{among}
use Rattle.basics.specs.Words.{all}
use Rattle.basics.specs.Refusing.{refusal_over_lem}
use Rattle.basics.specs.declared.Refusal.{Refusal}
use Rattle.tokens.specs.Extents.{Extent, other, RefusedIn}
use Rattle.tokens.proofs.ShownBytes.{in_first, in_then, in_silent}
use Rattle.reader.proofs.Texts.{nodes_inside}
use Rattle.reader.proofs.ShownTokens.{At, Held, tokens_held, end_held, stuck_place, unknown_place}
use Rattle.reader.proofs.ShownTokens.{call_within, within_at}

module _ (ρ : Rules) (names text : List ℕ) (sort : Sort) where
  pub names_refused : (r : Refusal) → RefusedBy (names_order names) r → ReadsText ρ names text sort (Err r)
  unfolding all numbers_of among
  names_refused r h = refused r (in_first text (names_order names) _ (in_silent text (names_order names) refl h))

  module _ (good : Passed (names_order names)) where
    pub tokens_refused : (r : Refusal) → RefusedIn text (order text) r → ReadsText ρ names text sort (Err r)
    tokens_refused r h =
        refused r (in_then text (names_order names) _ good (in_first text (order text) _ h))

    module _ {ts : List Token} (clear : Passed (order text)) (r : Reads 0 text ts) where
      in_tree : (n p k : ℕ) → Extent text n p k → RefusedWith (tree_order ρ names text sort) n p
          → ReadsText ρ names text sort (Err (refusal_over_lem n p k))
      in_tree n p k x h =
          refused _
          (in_then text (names_order names) _ good (in_then text (order text) _ clear (record { by = h; shows = x })))

      -- each token shows its bytes
      held : At (Held text) (tokens_of ts)
      held = tokens_held text r refl

      pub five : (p : ℕ) → stuck text ts p → ReadsText ρ names text sort (refused_at text 5 p)
      unfolding RefusedWith tree_order among
      five p h =
          in_tree 5 p _ (stuck_place (Held text) held (end_held text) h.given 5 refl)
          (inl (refl, record { tokens = ts; read = r; holds = h }))

      module _ {e : Tree} (w : grammar.Expression (tokens_of ts) e) where
        no_five : (p : ℕ) → OfTokens text (stuck text) p → ⊥
        no_five p o =
            row_never {r = accepted (nodes e)} (tree w refl) refl (rw (reads_unique o.read r) at o.holds)

        pub six : (p : ℕ) → unknown names text ts p → ReadsText ρ names text sort (refused_at text 6 p)
        unfolding RefusedWith tree_order among
        six p h =
            in_tree 6 p _ (unknown_place (Held text) h.given.stands held 6 refl)
            (inr (no_five, inl (refl, record { tokens = ts; read = r; holds = h })))

        module _ (known : (p : ℕ) → Unknown names text ts p → ⊥) where
          no_six : (p : ℕ) → OfTokens text (unknown names text) p → ⊥
          no_six p o = known p (rw (reads_unique o.read r) at o.holds.given)

          same_tree : {row : Tree → ℕ → Type 0} {p : ℕ} (o : OfTree text row p) → o.tree ≡ e
          same_tree o = parses_unique (rw (reads_unique o.read r) at o.whole) w

          -- a faulty operator is a token, or the sort asked for is at the text's end
          faulty_held : (p : ℕ) → sorted_in names text sort e ≡ faulty p → Held text p
          faulty_held p q =
              within_at (Held text)
              (call_within (Held text) sort (length text) (number_at names text) e (nodes_inside w held)
              (end_held text)) q

          pub seven : (p : ℕ) → sorted_in names text sort e ≡ faulty p
              → ReadsText ρ names text sort (refused_at text 7 p)
          unfolding RefusedWith tree_order among
          seven p q =
              in_tree 7 p _ (faulty_held p q 7 refl)
              (inr (
                no_five,
                inr (
                  no_six,
                  inl (
                    refl,
                    record {
                      tokens = ts;
                      read = r;
                      tree = e;
                      whole = w;
                      holds = row_seven (call_agree (number_at names text) sort (length text) e) q;
                    },
                  ),
                ),
              ))

          module _ {x : Expression} (s : sorted_in names text sort e ≡ is x) where
            no_seven : (p : ℕ) → OfTree text (λ f. unsorted (faults_in names text sort f)) p → ⊥
            no_seven p o =
                seven_never (call_agree (number_at names text) sort (length text) e) s
                (rw (same_tree o) at o.holds)

            pub eight : (p : ℕ) → too_large ρ (is x) p → ReadsText ρ names text sort (refused_with 8 p)
            unfolding RefusedWith tree_order among
            eight p h =
                in_tree 8 p 0 (other refl refl)
                (inr (
                  no_five,
                  inr (
                    no_six,
                    inr (
                      no_seven,
                      inl (refl, record { tokens = ts; read = r; tree = e; whole = w; holds = rw s h }),
                    ),
                  ),
                ))

            module _ (small : (p : ℕ) → too_large ρ (is x) p → ⊥) where
              no_eight : (p : ℕ) → OfTree text (λ f. too_large ρ (sorted_in names text sort f)) p → ⊥
              no_eight p o = small p (rw s at (rw (same_tree o) at o.holds))

              gives : Gives ρ names text sort x
              unfolding Passed order
              gives =
                  record {
                    tokens = ts;
                    read = r;
                    shallow = λ p d. clear.1.1.0 p (record { tokens = ts; read = r; holds = d });
                    few = λ p d. clear.1.1.1.0 p (record { tokens = ts; read = r; holds = d });
                    tree = e;
                    whole = w;
                    known = known;
                    sorts = s;
                    small = small;
                  }

              pub read_clear : ReadsText ρ names text sort (Ok (made x))
              unfolding Passed tree_order
              read_clear =
                  read
                  (passed_both (names_order names) (order text ++ tree_order ρ names text sort) good
                  (passed_both (order text) (tree_order ρ names text sort) clear
                  (no_five, (no_six, (no_seven, (no_eight, tt))))))
                  gives
