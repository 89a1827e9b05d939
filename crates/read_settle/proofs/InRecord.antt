-- The record after the chosen descriptors of a transaction are settled, in each way that settling can go.
use mathlib.Core.{Bool.{Bool, true, false, cond, not, ◌||◌}, List.List, Path.{◌≡◌, refl, sym, ap, ap₂, ◌∙◌}}
use borrow.Author.Tests.{leb-true}
use lib.{Dec.leb, ListN.{length, get_or}, Seq.set-get_or}
use Prim.Native.Nat.{ℕ, ◌+◌, ◌<◌}
use Rattle.limits.specs.Limits.{file_bytes, descriptor_count}
use Rattle.buffers.{specs.Parts.tabulate, proofs.TableLaws.{get_d_tabulate, table_same}}
use Rattle.standings.specs.{declared.Standing.Standing, Table.{advance, settled}}
use Rattle.state.specs.declared.{Descriptor.Descriptor, Transaction.Transaction, StoreMeaning.StoreMeaning}
use Rattle.state.specs.StoreMeaning.{transaction, standing_at, no_descriptor, no_transaction, with_descriptors, with_transaction}
use Rattle.state.specs.{Layout.{descriptor_of, transaction_of, store_of, journal_of}, Updates.{StandingFits, with_chosen_at}}
use Rattle.state.proofs.LayoutLaws.{transaction-of, descriptor-of, length-with-chosen, store-with-chosen, journal-with-chosen}
use Rattle.admission.{specs.Admission.standing_in, proofs.Laws.below_at}
use Rattle.spec.proofs.Refinement.StandingRanges.{settled-in}
use Rattle.refinement.proofs.{Shapes.sixteen-descriptors, Fitting.standing-fits}
use Rattle.std.specs.Prelude.{Result, Ok, Err}
use Rattle.state.specs.declared.outcomes.Refusal.{Refusal}
use Rattle.read_settle.specs.Choices.{settles_within, all_within, settled_descriptor, settled_transaction, settling_of}
use Rattle.read_settle.specs.Choices.{verdict_of}
use Rattle.read_settle.specs.{Records.{Placeable, PlacedIn}, Outcome.SettledIn}
use Rattle.read_settle.proofs.ChoiceLaws.{settling-none, verdict-settled, transaction-settled}
use Rattle.read_settle.proofs.RecordLaws.{placed-preserved}

-- A descriptor in range stays so, settled or left.
chosen-in : (b : Bool) (c : ℕ) (z : Standing) → standing_in z ≡ true → not b || leb (c + advance z) file_bytes ≡ true
    → standing_in (cond b (settled c z) z) ≡ true
chosen-in true c z e h = settled-in c z (leb-true (c + advance z) file_bytes h) e
chosen-in false c z e h = e

module _ (chosen : List Bool) (t : ℕ) (before : List ℕ) (ready : Placeable before t (transaction_of before t).used.records) where
  abbrev x : Transaction
  x = transaction_of before t

  abbrev offsets : List ℕ
  offsets = (store_of before).offsets

  own-again : with_transaction t x (store_of before) ≡ store_of before
  unfolding with_transaction
  own-again = rw (sym (transaction-of before t ready.small), set-get_or (store_of before).transactions t no_transaction)

  -- None was chosen.
  pub none-settled : ((e : ℕ) → e < descriptor_count → get_or chosen e false ≡ false) → SettledIn chosen t x before before (Ok tt)
  none-settled none = let e = settling-none chosen offsets x none (sixteen-descriptors before t) in
      record {
        verdict = sym (ap verdict_of e);
        refused = λ r v. refl;
        store = λ v. sym own-again ∙ ap (λ (y : Transaction). with_transaction t y (store_of before))
            (transaction-settled chosen offsets x x e);
        journal = λ v. (placed-preserved chosen t before ready.long x.used.records ready.descriptors none).journal;
        long = ready.long;
      }

  module _ (r : Result Transaction Refusal) (answer : r ≡ settling_of chosen offsets x) where
    -- One of the chosen would come past the end.
    pub past-settled : (e : Refusal) → r ≡ Err e → SettledIn chosen t x before before (Err e)
    past-settled e is = record {
      verdict = ap verdict_of (sym is ∙ answer);
      refused = λ s v. refl;
      store = λ v. cc;
      journal = λ v. cc;
      long = ready.long;
    }

    -- All of them were settled.
    module _ (then : Transaction) (settled : r ≡ Ok then) where
      verdict-is : Ok tt ≡ verdict_of (settling_of chosen offsets x)
      verdict-is = ap verdict_of (sym settled ∙ answer)

      abbrev pub then_of : ℕ → Descriptor
      then_of e = get_or then.descriptors e no_descriptor

      pub then_is : (e : ℕ) → e < descriptor_count → then_of e ≡ settled_descriptor chosen offsets x e
      unfolding settled_transaction
      then_is e h = ap (λ (y : Transaction). get_or y.descriptors e no_descriptor)
          (transaction-settled chosen offsets x then (sym answer ∙ settled))
          ∙ get_d_tabulate (settled_descriptor chosen offsets x) 16 e no_descriptor h

      -- What is put has room in the record: settled, by its test against 4,096; left, by check 2.
      pub settled-fits : (e : ℕ) → e < descriptor_count → StandingFits (then_of e).standing
      unfolding settled_descriptor all_within settles_within
      settled-fits e h = standing-fits (then_of e).standing (ap (λ (q : Descriptor). standing_in q.standing) (then_is e h)
          ∙ chosen-in (get_or chosen e false) (get_or offsets e 0) (standing_at x e) (ready.standings e h)
          (below_at (settles_within chosen offsets x) 16 e (verdict-settled chosen offsets x (sym verdict-is)) h))

      -- The write records were placed, and the descriptors put back.
      module _ (placed after : List ℕ) (p : PlacedIn chosen t x.used.records before placed) where
        own-placed : transaction (store_of placed) t ≡ x
        own-placed = ap (λ (s : StoreMeaning). transaction s t) p.store ∙ transaction-of before t ready.small

        -- One that is not chosen is as it was.
        not_chosen : (e : ℕ) → e < descriptor_count → get_or chosen e false ≡ false → then_of e ≡ descriptor_of placed t e
        unfolding settled_descriptor
        not_chosen e h q = then_is e h ∙ rw q (ap (λ (y : Transaction). get_or y.descriptors e no_descriptor)
            (sym own-placed ∙ transaction-of placed t ready.small) ∙ descriptor-of placed t e h)

        pub all_settled : after ≡ with_chosen_at placed t (λ e. get_or chosen e false) then_of 16
            → SettledIn chosen t x before after (Ok tt)
        all_settled put = unfold settled_transaction in record {
          verdict = verdict-is;
          refused = λ r v. cc;
          store = λ v. ap store_of put ∙ store-with-chosen placed t (λ e. get_or chosen e false) then_of p.long ready.small
              not_chosen ∙ ap₂ (λ (y : Transaction) (s : StoreMeaning). with_transaction t (with_descriptors
              (tabulate then_of 16) y) s) own-placed p.store ∙ ap (λ (ds : List Descriptor). with_transaction t
              (with_descriptors ds x) (store_of before)) (table_same then_of (settled_descriptor chosen offsets x) 16 then_is);
          journal = λ v. ap journal_of put
              ∙ journal-with-chosen placed t (λ e. get_or chosen e false) then_of p.long ready.small ∙ p.journal;
          long = ap length put ∙ length-with-chosen placed t (λ e. get_or chosen e false) then_of 16 ∙ p.long;
        }
