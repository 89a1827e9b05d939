-- No grant puts a byte into a file that is closed at its minute.
use mathlib.Core.{Bool.{Bool, true, false, cond, ◌&&◌, ◌||◌, true≢false}, List.{List, [], ◌∷◌, ◌++◌}}
use mathlib.Core.Path.{◌≡◌, refl, sym, ap, ◌∙◌, subst}
use borrow.Author.Tests.{eqb-true, eq-eqb, lt-ltb, le-ltb}
use lib.{Dec.{eqb, ltb}, ListN.{length, get_or}, Seq.get_or-set_other}
use native.Mathlib.Omega.{arith}
use Prim.Native.Nat.{ℕ, zero, suc, ◌+◌, ◌*◌, ◌/◌, ◌≤◌, ◌<◌, suc-le-suc}
use Rattle.limits.specs.Limits.{file_bytes}
use Rattle.windows.specs.Windows.{Windows, is_closed_at}
use Rattle.state.specs.{StoreMeaning.{transaction, window_at}, Outcomes.granted}
use Rattle.standings.specs.Table.{final_offset}
use Rattle.admission.{specs.{Admission.admission, FirstRefusal.unless}, proofs.Laws.{Admitted, in-range, shared-zero}}
use Rattle.spec.specs.{Items.{Item, byte, offset, file_length, same, Values}, Transactions.{Txn, Write}}
use Rattle.spec.specs.{Reading.{write_end, farthest}, Places.some_write, Windows.{is_for_closed, for_closed}}
use Rattle.spec.specs.Commits.{Setting, lands_at, bytes_from, byte_settings, sets_offset, offset_settings, landed_end}
use Rattle.spec.specs.{Commits.{length_settings, settings, fits, commit_refusal}, Messages.commit}
use Rattle.spec.specs.Machine.{Machine, sizes, file_of, values, txn_of, no_write}
use Rattle.spec.specs.Calls.{Turn, passing, land_byte, land_files, land_length, land_lengths, commit_granted, commit_decided}
use Rattle.spec.specs.{Calls.{settings_of, commit_turn, admitted, call}, ClosedFiles.{Among, first, later, ClosedSpared}}
use Rattle.spec.proofs.Abstract.{Programs.{Every, every_append}, Lists.{touched, same_true, or_left_false, or_right_false}}
use Rattle.spec.proofs.Refinement.{Relation.WriteIn, Decode.decoded-writes, SettingsIn.{lands-in, settings-fit-at}}
use Rattle.spec.proofs.Refinement.{Landing.{files-land, lengths-land}, Zeros.neither}
use Rattle.spec.proofs.Theorems.{Answers.answer-not-refused, Refusals.passing-zero, Buffers.answered-turn}

-- A write of no byte ends nowhere.
no_bytes : (a n : ℕ) → (ltb 0 n && true) ≡ false → write_end a n ≡ 0
unfolding write_end
no_bytes a zero q = refl
no_bytes a (suc n) q = absurd (true≢false (sym (ap (λ (b : Bool). b && true) (lt-ltb 0 (suc n) (omega arith))) ∙ q))

-- ---- settings

module _ (ws : Windows) (minute : ℕ) where
  -- A setting of no byte of a closed file.
  abbrev Sparing : Item → Type 0
  Sparing (byte q) = is_closed_at ws minute (q / file_bytes) ≡ false
  Sparing (offset d) = Unit {0}
  Sparing (file_length f) = Unit {0}

  abbrev AllSparing : List Setting → Type 0
  AllSparing = Every (λ (s : Setting). Sparing s.item)

  -- The bytes of a write in file g.
  interval-spares : (g q : ℕ) (bs : List ℕ) → file_bytes * g ≤ q → q + length bs ≤ file_bytes * g + file_bytes
      → (0 < length bs → is_closed_at ws minute g ≡ false) → AllSparing (bytes_from q bs)
  unfolding bytes_from
  interval-spares g q [] l k h = tt
  interval-spares g q (b ∷ bs) l k h = let e : q / file_bytes ≡ g = omega arith in let c = h (omega arith) in
      (rw e c, interval-spares g (suc q) bs (omega arith) (omega arith) (λ m. c))

  module _ (file : ℕ → ℕ) (v : Values) (y : Txn) (fit : fits v y ≡ true) where
    bytes-spare : (us : List Write) → ((k : ℕ) → k < length us → WriteIn y (get_or us k no_write))
        → for_closed file ws minute us ≡ false → AllSparing (byte_settings file v us)
    unfolding byte_settings for_closed some_write
    bytes-spare [] h e = tt
    bytes-spare (w ∷ us) h e = let i = h 0 (omega arith) in let d = w.descriptor in
        let a = lands_at (v (offset d)) w.place in
        let k = lands-in (v (offset d)) (y.standing d) w.place (length w.bytes)
        (settings-fit-at v y fit d i.descriptor) i.place in
        let o = or_left_false (is_for_closed file ws minute w) (some_write (is_for_closed file ws minute) us) e in
        let r = or_right_false (is_for_closed file ws minute w) (some_write (is_for_closed file ws minute) us) e in
        every_append (λ (s : Setting). Sparing s.item) (bytes_from (file_bytes * file d + a) w.bytes)
        (byte_settings file v us) (interval-spares (file d) (file_bytes * file d + a) w.bytes (omega arith) (omega arith)
        (λ l. opened (length w.bytes) l (unfold is_for_closed in o))) (bytes-spare us (λ k l. h (suc k) (suc-le-suc l)) r)
      where
        opened : (n : ℕ) → 0 < n → (ltb 0 n && is_closed_at ws minute (file w.descriptor)) ≡ false
            → is_closed_at ws minute (file w.descriptor) ≡ false
        opened n l q = rw (lt-ltb 0 n l) at q

    offsets-spare : (n : ℕ) → AllSparing (offset_settings v y n)
    unfolding offset_settings
    offsets-spare zero = tt
    offsets-spare (suc d) =
        every_append (λ (s : Setting). Sparing s.item) (offset_settings v y d) _ (offsets-spare d) (pick (sets_offset y d))
      where
        pick : (b : Bool) → AllSparing (cond b (record { item = offset d; to = final_offset (v (offset d)) (y.standing d) } ∷ [])
            [])
        pick true = (tt, tt)
        pick false = tt

    lengths-spare : (us : List Write) (n : ℕ) → AllSparing (length_settings file v us n)
    unfolding length_settings
    lengths-spare us zero = tt
    lengths-spare us (suc f) = every_append (λ (s : Setting). Sparing s.item) (length_settings file v us f) _
        (lengths-spare us f) (pick (ltb (v (file_length f)) (landed_end file v f us)))
      where
        pick : (b : Bool) → AllSparing (cond b (record { item = file_length f; to = landed_end file v f us } ∷ []) [])
        pick true = (tt, tt)
        pick false = tt

    settings-spare : ((k : ℕ) → k < length y.writes → WriteIn y (get_or y.writes k no_write))
        → for_closed file ws minute y.writes ≡ false → AllSparing (settings file v y)
    unfolding settings
    settings-spare h e = every_append (λ (s : Setting). Sparing s.item) (byte_settings file v y.writes) _
        (bytes-spare y.writes h e) (every_append (λ (s : Setting). Sparing s.item) (offset_settings v y 16) _
        (offsets-spare 16) (lengths-spare y.writes 8))

  -- One among them.
  among-spares : (s : Setting) (ss : List Setting) → Among s ss → AllSparing ss → Sparing s.item
  among-spares s ss (first rs) h = h.0
  among-spares s ss (later r rs a) h = among-spares s rs a h.1

  -- A byte of a closed file is not touched.
  not-touched : (q : ℕ) → is_closed_at ws minute (q / file_bytes) ≡ true → (ss : List Setting) → AllSparing ss → touched ss (byte q)
      ≡ false
  unfolding touched
  not-touched q c [] h = refl
  not-touched q c (s ∷ ss) h = pick (same s.item (byte q)) refl (not-touched q c ss h.1)
    where
      pick : (b : Bool) → same s.item (byte q) ≡ b → touched ss (byte q) ≡ false → (b || touched ss (byte q)) ≡ false
      pick true e r = let z : is_closed_at ws minute (q / file_bytes) ≡ false =
          subst Sparing (same_true s.item (byte q) e) h.0 in absurd (true≢false (sym c ∙ z))
      pick false e r = r

  -- The writes of a file that is closed have no byte: they end nowhere, and raise no length.
  module _ (file : ℕ → ℕ) (v : Values) (f : ℕ) (shut : is_closed_at ws minute f ≡ true) where
    ends_nowhere : (us : List Write) → for_closed file ws minute us ≡ false → landed_end file v f us ≡ 0
    unfolding landed_end for_closed some_write farthest
    ends_nowhere [] e = refl
    ends_nowhere (w ∷ us) e = let o =
        or_left_false (is_for_closed file ws minute w) (some_write (is_for_closed file ws minute) us) e in
        let r = ends_nowhere us (or_right_false (is_for_closed file ws minute w) (some_write (is_for_closed file ws minute) us)
        e) in let a = lands_at (v (offset w.descriptor)) w.place in
        let n : cond (eqb (file w.descriptor) f) (write_end a (length w.bytes)) 0 ≡ 0 =
        pick a (eqb (file w.descriptor) f) refl (unfold is_for_closed in o) in omega arith
      where
        pick : (a : ℕ) (b : Bool) → eqb (file w.descriptor) f ≡ b → (ltb 0 (length w.bytes) && is_closed_at ws minute
            (file w.descriptor)) ≡ false → cond b (write_end a (length w.bytes)) 0 ≡ 0
        pick a true e q = let c : is_closed_at ws minute (file w.descriptor) ≡ true = ap (is_closed_at ws minute)
            (eqb-true (file w.descriptor) f e) ∙ shut in no_bytes a (length w.bytes) (rw c at q)
        pick a false e q = refl

    module _ (y : Txn) (none : for_closed file ws minute y.writes ≡ false) where
      interval-no-length : (q : ℕ) (bs : List ℕ) → touched (bytes_from q bs) (file_length f) ≡ false
      unfolding bytes_from touched same
      interval-no-length q [] = refl
      interval-no-length q (b ∷ bs) = interval-no-length (suc q) bs

      bytes-no-length : (us : List Write) → touched (byte_settings file v us) (file_length f) ≡ false
      unfolding byte_settings
      bytes-no-length [] = unfold touched in refl
      bytes-no-length (w ∷ us) =
          let q = file_bytes * file w.descriptor + lands_at (v (offset w.descriptor)) w.place in
          neither (bytes_from q w.bytes) (byte_settings file v us) (file_length f) (interval-no-length q w.bytes)
          (bytes-no-length us)

      offsets-no-length : (n : ℕ) → touched (offset_settings v y n) (file_length f) ≡ false
      unfolding offset_settings
      offsets-no-length zero = unfold touched in refl
      offsets-no-length (suc d) = neither (offset_settings v y d)
          (cond (sets_offset y d) (record { item = offset d; to = final_offset (v (offset d)) (y.standing d) } ∷ []) [])
          (file_length f) (offsets-no-length d) (pick (sets_offset y d))
        where
          pick : (b : Bool) → touched (cond b
              (record { item = offset d; to = final_offset (v (offset d)) (y.standing d) } ∷ []) []) (file_length f) ≡ false
          pick true = unfold touched same in refl
          pick false = unfold touched in refl

      lengths-not : (n : ℕ) → touched (length_settings file v y.writes n) (file_length f) ≡ false
      unfolding length_settings
      lengths-not zero = unfold touched in refl
      lengths-not (suc g) = neither (length_settings file v y.writes g) (cond (ltb (v (file_length g))
          (landed_end file v g y.writes)) (record { item = file_length g; to = landed_end file v g y.writes } ∷ []) [])
          (file_length f) (lengths-not g) (last (eqb g f) refl)
        where
          pick : (b : Bool) → eqb g f ≡ false → touched
              (cond b (record { item = file_length g; to = landed_end file v g y.writes } ∷ []) []) (file_length f) ≡ false
          pick true e = unfold touched same in rw e
          pick false e = unfold touched in refl

          last : (b : Bool) → eqb g f ≡ b → touched (cond (ltb (v (file_length g)) (landed_end file v g y.writes))
              (record { item = file_length g; to = landed_end file v g y.writes } ∷ []) []) (file_length f) ≡ false
          last false e = pick (ltb (v (file_length g)) (landed_end file v g y.writes)) e
          last true e = let z : landed_end file v g y.writes ≡ 0 =
              ap (λ (h : ℕ). landed_end file v h y.writes) (eqb-true g f e) ∙ ends_nowhere y.writes none in
              let l : ltb (v (file_length g)) (landed_end file v g y.writes) ≡ false = ap (ltb (v (file_length g))) z
              ∙ le-ltb (v (file_length g)) 0 (omega arith) in
              ap (λ (b : Bool). touched (cond b (record { item = file_length g; to = landed_end file v g y.writes } ∷ [])
              []) (file_length f)) l ∙ (unfold touched in refl)

      length-not-touched : touched (settings file v y) (file_length f) ≡ false
      unfolding settings
      length-not-touched = neither (byte_settings file v y.writes) (offset_settings v y 16 ++ length_settings file v
          y.writes 8) (file_length f) (bytes-no-length y.writes) (neither (offset_settings v y 16)
          (length_settings file v y.writes 8) (file_length f) (offsets-no-length 16) (lengths-not 8))

-- ---- a granted Commit

-- Its tests passed, and it leaves what the settings leave.
pub record CommitPassed (m : Machine) (t minute : ℕ) : Type 0 where
  pub admitted : Admitted (sizes m) m.store m.journal t
  pub begun : (transaction m.store t).begun ≡ true
  pub none : for_closed (file_of m.store) (window_at m.store) minute (txn_of m.store m.journal m.logs t).writes
      ≡ false
  pub fit : fits (values m.store m.files) (txn_of m.store m.journal m.logs t) ≡ true
  pub leaves : (call (commit t minute) m).after
      ≡ (commit_granted t (txn_of m.store m.journal m.logs t) (settings_of m t) m).after

decided-granted : (t : ℕ) (x : Txn) (ss : List Setting) (m : Machine) (daily stale shut placed : Bool) (n : ℕ)
    → (commit_decided t x ss m (commit_refusal daily stale shut placed)).reply.answer ≡ granted n
    → (shut ≡ false) × (placed ≡ true) × ((commit_decided t x ss m (commit_refusal daily stale shut placed)).after
    ≡ (commit_granted t x ss m).after)
unfolding commit_decided commit_refusal
decided-granted t x ss m false stale shut placed n e = absurd (answer-not-refused (granted n) 22 tt (sym e))
decided-granted t x ss m true true shut placed n e = absurd (answer-not-refused (granted n) 13 tt (sym e))
decided-granted t x ss m true false true placed n e = absurd (answer-not-refused (granted n) 21 tt (sym e))
decided-granted t x ss m true false false true n e = (refl, refl, refl)
decided-granted t x ss m true false false false n e = absurd (answer-not-refused (granted n) 12 tt (sym e))

is_open : (b : Bool) → unless b 4 0 ≡ 0 → b ≡ true
unfolding unless
is_open true e = refl
is_open false e = absurd (let z : ◌≡◌ {A = ℕ} 4 0 = e in omega arith)

pub commit-passed : (m : Machine) (t minute n : ℕ) → (call (commit t minute) m).reply.answer ≡ granted n → CommitPassed m t minute
unfolding call admitted admission commit_turn
commit-passed m t minute n e = let k = admission (sizes m) m.store m.journal t in
    let z : k ≡ 0 = passing-zero k [] m (commit_turn t minute m) (granted n) tt e in
    let a = shared-zero (sizes m) m.store m.journal t (unless (transaction m.store t).begun 4 0) z in
    let w : passing k [] m (commit_turn t minute m) ≡ commit_turn t minute m =
    answered-turn k m (commit_turn t minute m) (granted n) tt e in
    let d = decided-granted t (txn_of m.store m.journal m.logs t) (settings_of m t) m _ _ _ _ n
    (sym (ap (λ (x : Turn). x.reply.answer) w) ∙ e) in record {
      admitted = a.0;
      begun = is_open (transaction m.store t).begun a.1;
      none = d.0;
      fit = d.1;
      leaves = ap (λ (x : Turn). x.after) w ∙ d.2;
    }

-- What is not touched is left where the settings land, in lists of any length.
files-left : (q : ℕ) (ss : List Setting) (files : List ℕ) → touched ss (byte q) ≡ false → get_or (land_files ss files) q 0
    ≡ get_or files q 0
unfolding land_files land_byte touched same
files-left q [] files h = refl
files-left q (s ∷ ss) files h = files-left q ss (land_byte s.item s.to files) (or_right_false (same s.item (byte q))
    (touched ss (byte q)) h) ∙ one s.item (or_left_false (same s.item (byte q)) (touched ss (byte q)) h)
  where
    one : (i : Item) → same i (byte q) ≡ false → get_or (land_byte i s.to files) q 0 ≡ get_or files q 0
    one (byte p) e = get_or-set_other files p q s.to 0 (λ f. absurd (true≢false (sym (eq-eqb p q (sym f)) ∙ e)))
    one (offset d) e = refl
    one (file_length f) e = refl

lengths-left : (f : ℕ) (ss : List Setting) (lengths : List ℕ) → touched ss (file_length f) ≡ false
    → get_or (land_lengths ss lengths) f 0 ≡ get_or lengths f 0
unfolding land_lengths land_length touched same
lengths-left f [] lengths h = refl
lengths-left f (s ∷ ss) lengths h = lengths-left f ss (land_length s.item s.to lengths)
    (or_right_false (same s.item (file_length f)) (touched ss (file_length f)) h)
    ∙ one s.item (or_left_false (same s.item (file_length f)) (touched ss (file_length f)) h)
  where
    one : (i : Item) → same i (file_length f) ≡ false → get_or (land_length i s.to lengths) f 0 ≡ get_or lengths f 0
    one (byte q) e = refl
    one (offset d) e = refl
    one (file_length g) e = get_or-set_other lengths g f s.to 0 (λ h. absurd (true≢false (sym (eq-eqb g f (sym h)) ∙ e)))

pub closed-spared : ClosedSpared
unfolding commit_granted
closed-spared m t minute n e = let p = commit-passed m t minute n e in let s = m.store in let a = p.admitted in
    let ws = window_at s in let x = txn_of s m.journal m.logs t in
    let r = (in-range s m.journal a.ranges).transactions t a.small p.begun in
    let sparing = settings-spare ws minute (file_of s) (values s m.files) x p.fit
    (decoded-writes s m.journal m.logs t a.lengths.logs a.small r) p.none in record {
      bytes = λ b q i f. subst (Sparing ws minute) f (among-spares ws minute b (settings_of m t) i sparing);
      unchanged = λ q c. ap (λ (y : Machine). get_or y.files q 0) p.leaves
          ∙ ap (λ (l : List ℕ). get_or l q 0) (sym (files-land (settings_of m t) s m.files))
          ∙ files-left q (settings_of m t) m.files (not-touched ws minute q c (settings_of m t) sparing);
      length = λ f c. ap (λ (y : Machine). get_or y.store.lengths f 0) p.leaves
          ∙ ap (λ (l : List ℕ). get_or l f 0) (sym (lengths-land (settings_of m t) s m.files)) ∙ lengths-left f
          (settings_of m t) s.lengths (length-not-touched ws minute (file_of s) (values s m.files) f c x p.none);
    }
