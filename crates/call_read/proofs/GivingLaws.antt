-- Laws of a Read through a descriptor whose place is known: what the code puts back, and what it reads.
use mathlib.Core.{Bool.true, List.{List, ◌++◌}, Path.{◌≡◌, sym, ap, ap₂, ◌∙◌}}
use borrow.Author.Tests.{lt-ltb, le-ltb}
use lib.ListN.{length, get_or, set, drop}
use native.Mathlib.Omega.{arith}
use Prim.Native.Nat.{ℕ, ◌-◌, ◌≤◌, ◌<◌, min}
use Rattle.buffers.specs.{Bits.with_bit, Parts.file_part}
use Rattle.standings.specs.{declared.Standing.Standing, Table.{after_read, offset_of}}
use Rattle.counters.specs.declared.Used.{Used}
use Rattle.state.specs.declared.{Transaction.Transaction, StoreMeaning.StoreMeaning}
use Rattle.state.specs.StoreMeaning.{transaction, standing_at, with_descriptors, with_lengthmarks, with_transaction}
use Rattle.state.specs.Layout.{transaction_of, store_of, journal_of, state_length}
use Rattle.state.specs.Updates.{StandingFits, with_descriptor_at, with_lengthmarks_at}
use Rattle.state.proofs.LayoutLaws.{transaction-of, length-with-descriptor, store-with-descriptor, journal-with-descriptor}
use Rattle.state.proofs.LayoutLaws.{store-with-lengthmarks, journal-with-lengthmarks}
use Rattle.spec.proofs.Refinement.StandingRanges.{read-in}
use Rattle.refinement.proofs.{Shapes.{eight, put-read, shape-put-twice}, Fitting.standing-fits}
use Rattle.read_lookup.specs.{declared.Extent.Extent, Lookup.{extent, recorded_in, length_seen}}
use Rattle.read_fetch.specs.Fetch.{HandedWhole, bytes_read, marks_after, log_part}
use Rattle.call_read.specs.ReadCall.{places_from, Movable, MovedOn, Served}

-- The standing that is put has room in the record.
pub read_fits : {state : List ℕ} {t d : ℕ} {e : Extent} → Movable state t d e
    → (y : Standing) → y ≡ after_read e.length (standing_at (transaction_of state t) d) → StandingFits y
read_fits {state = state} {t = t} {d = d} {e = e} p y goes = standing-fits y
    (rw goes (read-in e.length (standing_at (transaction_of state t) d) (omega (arith, p.places)) p.standing))

module _ (state : List ℕ) (t d n : ℕ) (e : Extent) (p : Movable state t d e)
    (y : Standing) (goes : y ≡ after_read e.length (standing_at (transaction_of state t) d)) (after : List ℕ)
    (put : after ≡ with_descriptor_at state t d (record { standing = y; dirty = true }))
  where
    abbrev dirtied : Transaction → Transaction
    dirtied x = with_descriptors (set x.descriptors d
        (record { standing = after_read e.length (standing_at x d); dirty = true })) x

    store-dirtied : store_of after ≡ with_transaction t (dirtied (transaction_of state t)) (store_of state)
    store-dirtied = let x = transaction_of state t in
        ap store_of put ∙ store-with-descriptor state t d (record { standing = y; dirty = true }) p.long p.small
        p.few ∙ ap₂ (λ (w : Transaction) (v : Standing). with_transaction t (with_descriptors (set w.descriptors d
        (record { standing = v; dirty = true })) w) (store_of state)) (transaction-of state t p.small) goes

    journal-dirtied : journal_of after ≡ journal_of state
    journal-dirtied = ap journal_of put ∙ journal-with-descriptor state t d (record { standing = y; dirty = true }) p.long
        p.small p.few

    -- All that was wanted was given.
    pub moved-full : n ≤ e.length → MovedOn t d n e state after
    moved-full h = record { store = rw (le-ltb e.length n h) store-dirtied; journal = journal-dirtied }

    -- Fewer bytes: the length is sighted.
    pub moved-short : e.length < n → (sighted m : ℕ) → sighted ≡ (transaction_of after t).lengthmarks
        → m ≡ with_bit e.file sighted → (last : List ℕ) → last ≡ with_lengthmarks_at after t m → MovedOn t d n e state last
    moved-short h sighted m read is last marked = let long : length after ≡ state_length = ap length put
        ∙ length-with-descriptor state t d (record { standing = y; dirty = true }) ∙ p.long in
        let now-is : transaction_of after t ≡ dirtied (transaction_of state t) = sym (transaction-of after t p.small)
        ∙ ap (λ (s : StoreMeaning). transaction s t) store-dirtied
        ∙ put-read (store_of state) t (dirtied (transaction_of state t)) (eight state t p.small) in record {
          store = rw (lt-ltb e.length n h) (ap store_of marked ∙ store-with-lengthmarks after t long p.small m
              ∙ ap (λ (s : StoreMeaning). with_transaction t (with_lengthmarks m (transaction s t)) s) store-dirtied
              ∙ shape-put-twice (store_of state) t (dirtied (transaction_of state t)) (with_lengthmarks m) (eight state t
              p.small) ∙ ap (λ (k : ℕ). with_transaction t (with_lengthmarks k (dirtied (transaction_of state t)))
              (store_of state)) (is ∙ ap (with_bit e.file) (read ∙ ap (λ (x : Transaction). x.lengthmarks) now-is)));
          journal = ap journal_of marked ∙ journal-with-lengthmarks after t long p.small m ∙ journal-dirtied;
        }

-- The places as the code finds them, from what it reads off the record.
pub places-are : (state : List ℕ) (t d n : ℕ) (used : Used) (place f end : ℕ) (e : Extent) → used ≡ (transaction_of state
    t).used → place ≡ offset_of (standing_at (transaction_of state t) d) → f ≡ get_or (store_of state).filenumbers d 0
    → end ≡ length_seen state t used.records f → e ≡ extent f place (min n (end - place)) → e ≡ places_from state t d n
places-are state t d n used place f end e eu ep ef el ee = rw (ee, el, eu, ep, ef)

-- What is handed over and given, with the counters and the places as the code has them.
module _ (state files logs marks : List ℕ) (t : ℕ) (used : Used) (e places : Extent) (eu : used ≡ (transaction_of state t).used)
    (ee : e ≡ places) where
  pub handed-as : HandedWhole files logs marks places → HandedWhole files logs marks e
  handed-as h = rw ee h

  pub given-as : (reader marks_then reader_then : List ℕ) → reader_then ≡ bytes_read (recorded_in state) t used.records
      (log_part logs t) (file_part files e.file) e ++ drop e.length reader
      → marks_then ≡ marks_after (recorded_in state) t used.records (log_part logs t) (file_part files e.file) e marks
      → Served t places state files logs marks reader marks_then reader_then
  given-as reader marks_then reader_then b m = record { bytes = rw (eu, ee) at b; marking = rw (eu, ee) at m }
