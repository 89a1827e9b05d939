-- The rules of Commit after each of its tests: no minute of the day, stale, closed, past the end, granted.
use Rattle.std.specs.declared.result.Result.TheVariants.{Ok, Err}
use mathlib.Core.{Bool.{Bool, true, false, cond, ◌||◌, true≢false}, List.{List, [], ◌++◌}}
use mathlib.Core.Path.{◌≡◌, refl, sym, ap, ap₂, ◌∙◌, subst}
use lib.{Count.ones, Dec.eqb, ListN.{length, get_or, set, drop}, Seq.{drop-cons, get_or_at, get_or-set_same, get_or-set_other}}
use borrow.Author.Tests.{eqb-true, eqb-false, eq-eqb}
use native.Mathlib.Omega.{arith}
use Prim.Native.Nat.{ℕ, zero, suc, ◌+◌, ◌<◌}
use Rattle.limits.specs.Limits.{buffer_bytes, transaction_count}
use Rattle.windows.specs.Windows.{minute_in}
use Rattle.buffers.specs.{Bits.{bits_of, count_of}, Parts.{pasted, tabulate}, Marks.{without_marks, contains}}
use Rattle.buffers.proofs.{SetLaws.{bits-lt, contains-bits, ones-bits, octets-same}, TableLaws.{length-tabulate, table_same}}
use Rattle.counters.specs.declared.Used.{Used}
use Rattle.state.specs.declared.{Undo.Undo, StoreMeaning.StoreMeaning, Transaction.Transaction}
use Rattle.state.specs.declared.outcomes.{Refusal.TheVariants.Stale, Answer.TheVariants.{Granted}}
use Rattle.state.specs.StoreMeaning.{transaction, no_transaction, window_at, ended, with_stale, with_offsets, with_lengths, with_undo}
use Rattle.state.specs.{StoreMeaning.{with_transactions, with_transaction}, Layout.{transaction_of, store_of, journal_of, state_length}}
use Rattle.state.specs.{Updates.{with_stale_at, reset_at}, Outcomes.{granted, refused, number, said}}
use Rattle.state.proofs.LayoutLaws.{transaction-of, length-with-stale, store-with-stale, journal-with-stale, store-reset}
use Rattle.state.proofs.{LayoutLaws.journal-reset, Filled.{filled, filled-set, filled-preserved}}
use Rattle.admission.specs.Admission.{lengths_before, admission}
use Rattle.spec.specs.{Windows.for_closed, Commits.{Setting, commit_refusal}, Messages.commit}
use Rattle.spec.specs.Machine.{Machine, lent, sizes, file_of, txn_of}
use Rattle.spec.specs.Calls.{Turn, refuse_turn, reset, passing, admitted, land_files, land_offsets, land_lengths, made_stale}
use Rattle.spec.specs.Calls.{after_commit, commit_decided, commit_granted, settings_of, commit_turn, former_number, call}
use Rattle.spec.specs.{Undo.saving_undo, Promises.{Meets, machine_of, LeftAsFound}}
use Rattle.spec.proofs.Refinement.Landing.{files-land, offsets-land, lengths-land}
use Rattle.refinement.proofs.{Shapes.shaped, TurnLaws.passing-on}
use Rattle.commit_apply.specs.Apply.{places_fit, with_offsets_of, bytes_set_in, lengths_landed_in, CanLandIn, Means}
use Rattle.commit_apply.{specs.SaveUndo.{old_bytes_in, preserved_records, GrantPreserved}, proofs.OffsetLaws.offsets_set}
use Rattle.commit_apply.proofs.Landed.{all_set, fits-is, files-are, offsets_are, old-are, lengths-are, records-are, counters-are}
use Rattle.commit_conflicts.specs.Conflicts.{stale_by}
use Rattle.call_commit.specs.Grant.{CanGrant, grant_turn, stale_in, with_stale_in}

-- ---- after each test

module _ (t minute : ℕ) (m : Machine) where
  -- A byte would go to a file that is closed at the minute.
  abbrev closed : Bool
  closed = for_closed (file_of m.store) (window_at m.store) minute (txn_of m.store m.journal m.logs t).writes

  -- A commit that is let through goes by its own turn.
  pub commit-on : admission (sizes m) m.store m.journal t ≡ 0 → call (commit t minute) m ≡ commit_turn t minute m
  unfolding call admitted
  commit-on passes = passing-on (admission (sizes m) m.store m.journal t) [] m (commit_turn t minute m) passes

  -- 22 keeps the transaction open, and so do 21 and 12.
  pub commit-no-minute : minute_in minute ≡ false → commit_turn t minute m ≡ refuse_turn 22 [] m
  commit-no-minute e = unfold commit_turn commit_refusal commit_decided refuse_turn in rw e

  module _ (daily : minute_in minute ≡ true) where
    -- 13: "it ends as at Abort".
    pub commit-stale : (transaction m.store t).stale ≡ true
        → commit_turn t minute m ≡ record { reply = record { answer = refused 13; buffer = [] }; after = reset t ended m }
    commit-stale e = unfold commit_turn commit_refusal commit_decided in rw (daily, e)

    module _ (fresh : (transaction m.store t).stale ≡ false) where
      pub commit-closed : closed ≡ true → commit_turn t minute m ≡ refuse_turn 21 [] m
      commit-closed e = unfold commit_turn commit_refusal commit_decided refuse_turn in rw (daily, fresh, e)

      module _ (unlocked : closed ≡ false) where
        pub commit-past : places_fit m.store (transaction m.store t) ≡ false → commit_turn t minute m ≡ refuse_turn 12 [] m
        unfolding commit_turn commit_refusal commit_decided refuse_turn
        commit-past e = rw (daily, fresh, unlocked, fits-is m.store m.journal m.files m.logs t, e)

        pub commit-granted : places_fit m.store (transaction m.store t) ≡ true → commit_turn t minute m ≡ grant_turn t m
        unfolding commit_turn commit_refusal commit_decided
        commit-granted e = rw (daily, fresh, unlocked, fits-is m.store m.journal m.files m.logs t, e)

-- ---- a stale transaction ends

pub stale-follows : (state files logs marks undo after unmarked : List ℕ) (t : ℕ) (w : Turn) → length state ≡ state_length
    → t < transaction_count → w ≡ record {
      reply = record { answer = refused 13; buffer = [] };
      after = reset t ended (machine_of state files logs marks undo);
    } → after ≡ reset_at state t false → unmarked ≡ without_marks t marks
    → Meets w (Err Stale) (machine_of after files logs unmarked undo) [] × LeftAsFound (Err Stale) state after
stale-follows state files logs marks undo after unmarked t w long small e r u = unfold reset said ended in (
  rw (e, u) (record {
    outcome = refl;
    machine = ap₂ (λ (s : StoreMeaning) (j : List ℕ). lent s j files logs (without_marks t marks) undo) (ap store_of r
        ∙ store-reset state t long small false) (ap journal_of r ∙ journal-reset state t long small false);
    reader = refl;
  }),
  λ q f n. let same : Stale ≡ q = cc in absurd (n (ap number (sym same))),
)

-- ---- those who go stale

-- The element that a loop fills next is still the list's own.
filled_next : {A : Type 0} (f : ℕ → A) (xs : List A) (n : ℕ) (z : A) → n < length xs → get_or (filled f xs n) n z ≡ get_or xs n z
filled_next f xs n z h = ap (λ (l : List _). get_or (tabulate f n ++ l) n z) (drop-cons xs n z h)
    ∙ get_or_at (tabulate f n) (get_or xs n z) (drop (suc n) xs) z n (length-tabulate f n)

-- The store once those of the octet among the first n transactions are stale.
abbrev pub stale_first : ℕ → List ℕ → ℕ → StoreMeaning
stale_first octet state n = with_transactions (filled (stale_in octet (store_of state)) (store_of state).transactions n)
    (store_of state)

module _ (octet : ℕ) (before state : List ℕ) (u : ℕ) (few : u < transaction_count) where
  module _ (so : Means before state (stale_first octet before u)) where
    pub stale-put : contains octet u ≡ true → (after : List ℕ) → after ≡ with_stale_at state u
        → Means before after (stale_first octet before (u + 1))
    stale-put has after e = unfold with_transaction in let s = store_of before in let eight = (shaped before).transactions in
        let same : transaction (stale_first octet before u) u ≡ transaction s u =
        filled_next (stale_in octet s) s.transactions u no_transaction (omega arith) in record {
          store = ap store_of e ∙ store-with-stale state u so.long few ∙ ap (λ (q : StoreMeaning). with_transaction u
              (with_stale true (transaction q u)) q) so.store ∙ ap (λ (y : Transaction). with_transactions
              (set (stale_first octet before u).transactions u (with_stale true y)) s) same ∙ ap (λ (xs : List Transaction).
              with_transactions xs s) (filled-set (stale_in octet s) s.transactions u (with_stale true (transaction s u))
              (omega arith) (sym (ap (λ (b : Bool). cond b (with_stale true (transaction s u)) (transaction s u)) has)));
          journal = ap journal_of e ∙ journal-with-stale state u so.long few ∙ so.journal;
          long = ap length e ∙ length-with-stale state u so.long few ∙ so.long;
        }

    pub stale-left : contains octet u ≡ false → (after : List ℕ) → after ≡ state
        → Means before after (stale_first octet before (u + 1))
    stale-left has after e = let s = store_of before in let eight = (shaped before).transactions in record {
      store = ap store_of e ∙ so.store
          ∙ ap (λ (xs : List Transaction). with_transactions xs s) (filled-preserved (stale_in octet s) s.transactions u
          no_transaction (omega arith) (ap (λ (b : Bool). cond b (with_stale true (transaction s u)) (transaction s u)) has));
      journal = ap journal_of e ∙ so.journal;
      long = ap length e ∙ so.long;
    }

-- ---- a granted commit

-- Only a transaction that goes stale is written anew.
rewritten : (y : Transaction) (b z : Bool) → y.stale ≡ z → cond b (with_stale true y) y ≡ with_stale (z || b) y
rewritten y b z e = pick b z (ap (λ (w : Bool). with_stale w y) e)
  where
    pick : (b z : Bool) → y ≡ with_stale z y → cond b (with_stale true y) y ≡ with_stale (z || b) y
    pick true true k = refl
    pick true false k = refl
    pick false true k = k
    pick false false k = k

module _ (m : Machine) (ss : List Setting) (t octet : ℕ) (small : t < transaction_count)
    (eight : length m.store.transactions ≡ transaction_count) (says : octet ≡ bits_of (made_stale t ss m) transaction_count)
  where
    -- Transaction u, once t has ended and those of the octet are stale.
    after_same : (u : ℕ) → u < transaction_count → let y = get_or (set m.store.transactions t ended) u no_transaction in
        cond (contains octet u) (with_stale true y) y ≡ after_commit t ss m u
    unfolding after_commit
    after_same u l = rw (ap (λ (n : ℕ). contains n u) says ∙ contains-bits (made_stale t ss m) 8 u l) (pick (eqb u t) refl)
      where
        y : Transaction
        y = transaction m.store u

        own : u ≡ t → made_stale t ss m u ≡ false
        own e = unfold made_stale in rw (eq-eqb u t e) refl

        pick : (b : Bool) → eqb u t ≡ b → let x = get_or (set m.store.transactions t ended) u no_transaction in
            cond (made_stale t ss m u) (with_stale true x) x ≡ cond (eqb u t) ended (with_stale (y.stale || made_stale t ss m u) y)
        pick true e = rw (e, own (eqb-true u t e), eqb-true u t e)
            (get_or-set_same m.store.transactions t ended no_transaction (omega arith))
        pick false e = rw (e, get_or-set_other m.store.transactions t u ended no_transaction (eqb-false u t e))
            (rewritten y (made_stale t ss m u) y.stale refl)

    transactions-are : tabulate (λ u. cond (contains octet u) (with_stale true (get_or (set m.store.transactions t ended) u
        no_transaction)) (get_or (set m.store.transactions t ended) u no_transaction)) 8 ≡ tabulate (after_commit t ss m) 8
    transactions-are = table_same _ _ 8 after_same

-- What is saved of a grant and the lengths that it raises leave its transaction as it was.
pub still-own : (state holding raised : List ℕ) (t : ℕ) (lengths : List ℕ) (used : Used) → t < transaction_count
    → GrantPreserved state holding t used → Means holding raised (with_lengths lengths (store_of holding))
    → transaction_of raised t ≡ transaction_of state t
still-own state holding raised t lengths used small holds raises = sym (transaction-of raised t small)
    ∙ ap (λ (s : StoreMeaning). transaction s t) raises.store ∙ ap (λ (s : StoreMeaning). transaction s t) holds.store
    ∙ transaction-of state t small

-- What the grant leaves, part by part.
module _ (state files logs marks undo : List ℕ) (t : ℕ) (x : Transaction) (can : CanGrant state files logs marks undo t x)
    (octet : ℕ) (says : (files logs undo : List ℕ) → length logs ≡ buffer_bytes
    → octet ≡ stale_by (machine_of state files logs marks undo) t) (lengths : List ℕ) (lengths_are : lengths ≡ lengths_landed_in
    state t x.used.records) (holding : List ℕ) (holds : GrantPreserved state holding t x.used) (raised : List ℕ)
    (raises : Means holding raised (with_lengths lengths (store_of holding))) (placed : List ℕ) (places : Means raised placed
    (with_offsets_of x (store_of raised))) (closed : List ℕ) (ends : closed ≡ reset_at placed t false) (after : List ℕ)
    (stales : Means closed after (with_stale_in octet (store_of closed)))
  where
    abbrev s : StoreMeaning
    s = store_of state

    abbrev m : Machine
    m = machine_of state files logs marks undo

    abbrev ss : List Setting
    ss = all_set s (journal_of state) files logs t

    -- What is saved of the grant, and the store with it.
    abbrev held : Undo
    held = record { valid = true; used = x.used; offsets = s.offsets; lengths = s.lengths }

    own_is : transaction s t ≡ x
    own_is = transaction-of state t can.lands.small ∙ sym can.own

    closed_is : store_of closed ≡ with_transaction t ended (with_offsets_of x (with_lengths lengths (with_undo held s)))
    unfolding ended
    closed_is = ap store_of ends ∙ store-reset placed t places.long can.lands.small false ∙ ap (with_transaction t
        ended) (places.store ∙ ap (with_offsets_of x) (raises.store ∙ ap (with_lengths lengths) holds.store))

    journal-is : journal_of after ≡ preserved_records state t x.used.records
    journal-is = stales.journal ∙ ap journal_of ends ∙ journal-reset placed t places.long can.lands.small false
        ∙ places.journal ∙ raises.journal ∙ holds.journal

    offsets-is : land_offsets ss s.offsets ≡ (with_offsets_of x s).offsets
    offsets-is = offsets_are s (journal_of state) files logs t ∙ ap (λ (y : Transaction). offsets_set y s.offsets 16) own_is

    -- Its writes land, as the transaction in the state has them.
    lands-own : CanLandIn state t (transaction s t).used.records
    lands-own = subst (λ (y : Transaction). CanLandIn state t y.used.records) (sym own_is) can.lands

    lengths-is : land_lengths ss s.lengths ≡ lengths
    lengths-is = lengths-are s (journal_of state) files logs t lands-own can.logs_length (shaped state).lengths
        ∙ ap (λ (y : Transaction). lengths_landed_in state t y.used.records) own_is ∙ sym lengths_are

    -- The store that keeps what the grant finds, as the rules have it.
    abbrev keeping : Machine
    keeping = saving_undo (txn_of s (journal_of state) logs t) m

    bytes-own : lengths_before (journal_of state) t (transaction s t).used.records ≡ (transaction s t).used.bytes
    bytes-own = subst (λ (y : Transaction). lengths_before (journal_of state) t y.used.records ≡ y.used.bytes) (sym own_is)
        can.bytes

    held-is : with_undo held s ≡ keeping.store
    unfolding saving_undo
    held-is = ap (λ (u : Used). with_undo (record { valid = true; used = u; offsets = s.offsets; lengths = s.lengths }) s)
        (sym (counters-are s (journal_of state) files logs t lands-own can.logs_length bytes-own
        ∙ ap (λ (y : Transaction). y.used) own_is))

    records_is : preserved_records state t x.used.records ≡ keeping.journal
    unfolding saving_undo
    records_is = ap (λ (y : Transaction). preserved_records state t y.used.records) (sym own_is)
        ∙ records-are s (journal_of state) files logs t lands-own can.logs_length

    -- A store with these offsets and lengths, and the transactions as they are after the commit.
    abbrev committed : List ℕ → List ℕ → StoreMeaning → StoreMeaning
    committed os ls q = with_offsets os (with_lengths ls (with_transactions (tabulate (after_commit t ss m) 8) q))

    store_is : store_of after ≡ committed (land_offsets ss s.offsets) (land_lengths ss s.lengths) keeping.store
    unfolding with_transaction stale_by
    store_is = stales.store ∙ ap (with_stale_in octet) closed_is ∙ ap (λ (xs : List Transaction). with_transactions xs
        (with_offsets_of x (with_lengths lengths (with_undo held s)))) (transactions-are m ss t octet can.lands.small
        (shaped state).transactions (says files logs undo can.logs_length))
        ∙ ap₂ (λ (os ls : List ℕ). committed os ls (with_undo held s)) (sym offsets-is) (sym lengths-is)
        ∙ ap (committed (land_offsets ss s.offsets) (land_lengths ss s.lengths)) held-is

    pub granted-follows : (landed : List ℕ) → landed ≡ land_files (bytes_set_in state logs t x.used.records) files
        → (old : List ℕ) → old ≡ pasted undo 0 (old_bytes_in state files logs t x.used.records) → (unmarked : List ℕ)
        → unmarked ≡ without_marks t marks → Meets (grant_turn t m) (Ok (Granted octet)) (machine_of after landed logs unmarked old)
        [] × LeftAsFound (Ok (Granted octet)) state after
    granted-follows landed lands old olds unmarked ms = unfold commit_granted saving_undo said stale_by in
        let files-is : landed ≡ land_files ss files = lands ∙ ap (λ (y : Transaction). land_files (bytes_set_in state logs t
        y.used.records) files) (sym own_is) ∙ sym (files-are s (journal_of state) files logs t) in
        let old-is = olds ∙ ap (λ (y : Transaction). pasted undo 0 (old_bytes_in state files logs t y.used.records))
        (sym own_is) ∙ ap (pasted undo 0) (sym (old-are s (journal_of state) files logs t)) in
        let noted = journal-is ∙ records_is in let files-landed = files-is ∙ files-land ss s files in
        let stored = store_is ∙ ap₂ (λ (os ls : List ℕ). committed os ls keeping.store) (offsets-land ss s files)
        (lengths-land ss s files) in (
          record {
            outcome = ap granted (says files logs undo can.logs_length);
            machine = λ i. lent (stored i) (noted i) (files-landed i) logs (ms i) (old-is i);
            reader = refl;
          },
          λ r e n. cc,
        )

-- ---- the former number

not-granted : (k n : ℕ) → refused k ≡ granted n → ⊥
not-granted k n e = true≢false cc

-- An octet is the number of its own bits.
pub ones-count : (x : ℕ) → x < 256 → ones x ≡ count_of (contains x) 8
ones-count x h = ap ones (octets-same x (bits_of (contains x) 8) h (omega (arith, bits-lt (contains x) 8))
    (λ u l. sym (contains-bits (contains x) 8 u l))) ∙ ones-bits (contains x) 8

module _ (t : ℕ) (m : Machine) (n : ℕ) where
  abbrev became : ℕ → Bool
  became = made_stale t (settings_of m t) m

  decided-octet : (daily stale closed placed : Bool) → (commit_decided t (txn_of m.store m.journal m.logs t)
      (settings_of m t) m (commit_refusal daily stale closed placed)).reply.answer ≡ granted n
      → n ≡ bits_of became transaction_count
  unfolding commit_decided commit_refusal commit_granted
  decided-octet false stale closed placed e = absurd (not-granted 22 n e)
  decided-octet true true closed placed e = absurd (not-granted 13 n e)
  decided-octet true false true placed e = absurd (not-granted 21 n e)
  decided-octet true false false false e = absurd (not-granted 12 n e)
  decided-octet true false false true e = cc

  passing-octet : (minute k : ℕ) → (passing k [] m (commit_turn t minute m)).reply.answer ≡ granted n
      → n ≡ bits_of became transaction_count
  unfolding passing refuse_turn commit_turn
  passing-octet minute zero e = decided-octet (minute_in minute) (transaction m.store t).stale _ _ e
  passing-octet minute (suc k) e = absurd (not-granted (suc k) n e)

  -- The count of ones in the octet that a Commit answers.
  pub ones-are : (minute : ℕ) → (call (commit t minute) m).reply.answer ≡ granted n → ones n ≡ former_number t m
  unfolding call admitted former_number
  ones-are minute e = ap ones (passing-octet minute (admission (sizes m) m.store m.journal t) e) ∙ ones-bits became 8
