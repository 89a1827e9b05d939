-- What a granted Commit saves: the state and the undo log that it leaves hold what it found, and the store stays sound.
use mathlib.Core.{Bool.{Bool, true, false, cond, ◌&&◌}, List.{List, [], ◌∷◌, ◌++◌, map}, Path.{◌≡◌, refl, sym, ap, ap₂, ◌∙◌}}
use lib.{Dec.{leb, ltb}, ListN.{length, get_or, set, drop, length-map, get_or-map}, Seq.sets}
use Prim.Native.Nat.{ℕ, zero, suc, ◌+◌, ◌*◌, ◌≤◌, ◌<◌, suc-le-suc}
use native.Mathlib.Omega.{arith}
use borrow.Author.Tests.{leb-true}
use Rattle.limits.specs.Limits.{last_file, file_bytes, descriptor_count, transaction_count, last_transaction, record_count, log_bytes}
use Rattle.buffers.{specs.Parts.{tabulate, pasted}, proofs.PartLaws.{length-pasted, pasted-sets}}
use Rattle.standings.specs.Table.{final_offset}
use Rattle.state.specs.{declared.{journal.WriteRecord.WriteRecord, StoreMeaning.StoreMeaning}, StoreMeaning.transaction}
use Rattle.state.specs.Journal.{last_grant, write_record_at, with_records, journal_length}
use Rattle.state.proofs.JournalLaws.{length-with, read-own, read-elsewhere}
use Rattle.admission.specs.Admission.{landed_in, lengths_before}
use Rattle.admission.proofs.Laws.{and_left, and_right, sum_same, InRange, in-range, in-range-intro, landed-in-intro}
use Rattle.spec_undo.specs.OldBytes.{Span, span_of, land_all, old_bytes, restored, Inside}
use Rattle.spec_undo.proofs.OldBytesLaws.{put_back, length-old}
use Rattle.spec.specs.{Items.{offset, file_length, Values}, Transactions.{Txn, Write}, Steps.total}
use Rattle.spec.specs.Undo.{landing_of, landings_of, landed_record, saving_undo, span_of_record, landed_on}
use Rattle.spec.specs.Commits.{Setting, lands_at, bytes_from, byte_settings, sets_offset, offset_settings, landed_end}
use Rattle.spec.specs.{Commits.{length_settings, settings, fits}, Machine.{Machine, file_of, values, no_write}}
use Rattle.spec.specs.Calls.{land_byte, land_files}
use Rattle.spec.proofs.Abstract.AbstractStore.{vacant, occupied}
use Rattle.spec.proofs.Refinement.Relation.{open_txn_in, seat, Sound, TxnIn, WriteIn}
use Rattle.spec.proofs.Refinement.{IndexedLists.{tabulate-same, tabulate-get_d, map-tabulate}, StepPreserves.pieces}
use Rattle.spec.proofs.Refinement.{Decode.{data_before, total-pieces}, Others.{SameAt, range_same, txn-same}}
use Rattle.spec.proofs.Refinement.SettingsIn.{lands-in, settings-fit-at}

abbrev span_at : ℕ → ℕ → Span
span_at a n = record { at = a; length = n }

-- ---- settings land as their writes do

land-append : (ss rs : List Setting) (files : List ℕ) → land_files (ss ++ rs) files ≡ land_files rs (land_files ss files)
unfolding land_files
land-append [] rs files = refl
land-append (s ∷ ss) rs files = land-append ss rs (land_byte s.item s.to files)

land-interval : (q : ℕ) (bs files : List ℕ) → land_files (bytes_from q bs) files ≡ sets files q bs
unfolding land_files bytes_from land_byte
land-interval q [] files = refl
land-interval q (b ∷ bs) files = land-interval (suc q) bs (set files q b)

module _ (F : ℕ → ℕ) (v : Values) where
  abbrev Lands : ℕ → List Write → Type 0
  Lands n ws = Inside n (map span_of (landings_of F v ws))

  land-bytes : (ws : List Write) (files : List ℕ) → Lands (length files) ws → land_files (byte_settings F v ws) files
      ≡ land_all (landings_of F v ws) files
  unfolding byte_settings land_all landing_of
  land-bytes [] files h = unfold land_files in refl
  land-bytes (w ∷ ws) files h = let q = file_bytes * F w.descriptor + lands_at (v (offset w.descriptor)) w.place in
      land-append (bytes_from q w.bytes) (byte_settings F v ws) files ∙ ap (land_files (byte_settings F v ws))
      (land-interval q w.bytes files ∙ sym (pasted-sets files q w.bytes h.0))
      ∙ land-bytes ws (pasted files q w.bytes) (rw (length-pasted files q w.bytes h.0) h.1)

  land-offsets : (x : Txn) (n : ℕ) (files : List ℕ) → land_files (offset_settings v x n) files ≡ files
  unfolding offset_settings
  land-offsets x zero files = unfold land_files in refl
  land-offsets x (suc d) files = land-append (offset_settings v x d)
      (cond (sets_offset x d) (record { item = offset d; to = final_offset (v (offset d)) (x.standing d) } ∷ []) []) files
      ∙ pick (sets_offset x d) ∙ land-offsets x d files
    where
      pick : (b : Bool) → land_files (cond b (record { item = offset d; to = final_offset (v (offset d)) (x.standing d) }
          ∷ []) []) (land_files (offset_settings v x d) files) ≡ land_files (offset_settings v x d) files
      pick true = unfold land_files land_byte in refl
      pick false = unfold land_files in refl

  land-lengths : (ws : List Write) (n : ℕ) (files : List ℕ) → land_files (length_settings F v ws n) files ≡ files
  unfolding length_settings
  land-lengths ws zero files = unfold land_files in refl
  land-lengths ws (suc f) files = land-append (length_settings F v ws f)
      (cond (ltb (v (file_length f)) (landed_end F v f ws)) (record { item = file_length f; to = landed_end F v f ws } ∷ []) [])
      files ∙ pick (ltb (v (file_length f)) (landed_end F v f ws)) ∙ land-lengths ws f files
    where
      pick : (b : Bool) → land_files (cond b (record { item = file_length f; to = landed_end F v f ws } ∷ []) [])
          (land_files (length_settings F v ws f) files) ≡ land_files (length_settings F v ws f) files
      pick true = unfold land_files land_byte in refl
      pick false = unfold land_files in refl

  land-all : (x : Txn) (files : List ℕ) → Lands (length files) x.writes
      → land_files (settings F v x) files ≡ land_all (landings_of F v x.writes) files
  unfolding settings
  land-all x files h = land-append (byte_settings F v x.writes) (offset_settings v x 16 ++ length_settings F v x.writes
      8) files ∙ land-append (offset_settings v x 16) (length_settings F v x.writes 8)
      (land_files (byte_settings F v x.writes) files) ∙ ap (land_files (length_settings F v x.writes 8))
      (land-offsets x 16 (land_files (byte_settings F v x.writes) files))
      ∙ land-lengths x.writes 8 (land_files (byte_settings F v x.writes) files) ∙ land-bytes x.writes files h

  old-total : (ws : List Write) (files : List ℕ) → Lands (length files) ws → length (old_bytes (landings_of F v ws) files)
      ≡ total ws
  unfolding total landing_of
  old-total [] files h = unfold old_bytes in refl
  old-total (w ∷ ws) files h = let l = landing_of F v w in
      length-old l (landings_of F v ws) files h ∙ ap (λ (n : ℕ). length w.bytes + n)
      (old-total ws (pasted files l.at w.bytes) (rw (length-pasted files l.at w.bytes h.0) h.1))

  -- The spans, as a table.
  spans-table : (ws : List Write) → tabulate (λ k. span_of (landing_of F v (get_or ws k no_write))) (length ws)
      ≡ map span_of (landings_of F v ws)
  spans-table ws = sym (map-tabulate (λ w. span_of (landing_of F v w)) (λ k. get_or ws k no_write) (length ws))
      ∙ ap (map (λ w. span_of (landing_of F v w))) (tabulate-get_d ws no_write) ∙ twice ws
    where
      twice : (us : List Write) → map (λ w. span_of (landing_of F v w)) us ≡ map span_of (landings_of F v us)
      twice [] = refl
      twice (u ∷ us) = ap (λ (l : List Span). span_of (landing_of F v u) ∷ l) (twice us)

module _ (m : Machine) (x : Txn) (sound : Sound m) (ranges : TxnIn x) (fit : fits (values m.store m.files) x ≡ true) where
  abbrev v : Values
  v = values m.store m.files

  abbrev ws : List Write
  ws = x.writes

  abbrev F : ℕ → ℕ
  F = file_of m.store

  range : InRange m.store m.journal
  range = in-range m.store m.journal sound.in_range

  files-in : (d : ℕ) → d < descriptor_count → F d ≤ last_file
  files-in = unfold file_of in range.files

  ends : (w : Write) → WriteIn x w → lands_at (v (offset w.descriptor)) w.place + length w.bytes ≤ log_bytes
  ends w i = lands-in (v (offset w.descriptor)) (x.standing w.descriptor) w.place (length w.bytes)
      (settings-fit-at v x fit w.descriptor i.descriptor) i.place

  inside_of : (us : List Write) → ((k : ℕ) → k < length us → WriteIn x (get_or us k no_write)) → Lands F v (length m.files) us
  unfolding landing_of
  inside_of [] h = tt
  inside_of (w ∷ us) h = let i = h 0 (omega arith) in let e = ends w i in
      let f = files-in w.descriptor i.descriptor in
      (omega (arith, sound.files, e, f), inside_of us (λ k l. h (suc k) (suc-le-suc l)))

  inside : Lands F v (length m.files) ws
  inside = inside_of ws ranges.writes

  -- ---- the journal

  abbrev noted : ℕ → WriteRecord
  noted k = landed_record v (get_or ws k no_write)

  abbrev written : List ℕ
  written = with_records m.journal last_grant noted (length ws)

  journal-long : length written ≡ journal_length
  journal-long = length-with m.journal last_grant noted (length ws) ∙ sound.journal

  preserved-record : (k : ℕ) → k < length ws → write_record_at written last_grant k ≡ noted k
  preserved-record k l = read-own m.journal last_grant noted sound.journal (omega arith) (length ws) k
      ranges.records l (unfold landed_record in (ranges.writes k l).descriptor)

  other-record : (u k : ℕ) → u < transaction_count → k < record_count → write_record_at written u k ≡ write_record_at m.journal u k
  other-record u k a b = read-elsewhere m.journal last_grant noted sound.journal (omega arith) (length ws) u k
      ranges.records (omega arith) b (λ q. omega arith)

  preserved-total : lengths_before written last_grant (length ws) ≡ total ws
  preserved-total = unfold lengths_before landed_record in
      sum_same (λ j. (write_record_at written last_grant j).length) (λ j. length (get_or (pieces ws) j [])) (length ws) (λ j g.
      ap (λ (w : WriteRecord). w.length) (preserved-record j g) ∙ ap length (sym (get_or-map (λ (w : Write). w.bytes)
      ws j no_write))) ∙ ap (data_before (pieces ws)) (sym (length-map ws (λ w. w.bytes))) ∙ sym (total-pieces ws)

  noted_in : (k : ℕ) → k < length ws → landed_in (noted k) ≡ true
  noted_in k l = unfold landed_record in let i = ranges.writes k l in let w = get_or ws k no_write in
      landed-in-intro w.descriptor (lands_at (v (offset w.descriptor)) w.place) (length w.bytes)
      (omega (arith, i.descriptor)) (ends w i)

  -- ---- the store with it

  abbrev pub keeping : Machine
  keeping = saving_undo x m

  same_at : (u : ℕ) → u < transaction_count → SameAt keeping.store written m.store m.journal u
  same_at u l = unfold saving_undo in record { transaction = refl; records = λ k g. other-record u k l g }

  pub keeping-sound : Sound keeping
  keeping-sound = unfold saving_undo in let old = old-total F v ws m.files inside in record {
    shaped = record {
      files = sound.shaped.files;
      offsets = sound.shaped.offsets;
      lengths = sound.shaped.lengths;
      windows = sound.shaped.windows;
      found_offsets = sound.shaped.offsets;
      found_lengths = sound.shaped.lengths;
      transactions = sound.shaped.transactions;
      descriptors = sound.shaped.descriptors;
    };
    journal = journal-long;
    files = sound.files;
    logs = sound.logs;
    marks = sound.marks;
    undo = length-pasted m.undo 0 (old_bytes (landings_of F v ws) m.files)
        (omega (arith, old, sound.undo, ranges.bytes)) ∙ sound.undo;
    in_range = in-range-intro _ written (record {
      files = range.files;
      offsets = range.offsets;
      lengths = range.lengths;
      windows = range.windows;
      undo = λ b. record {
        records = ranges.records;
        bytes = ranges.bytes;
        total = preserved-total;
        writes = λ k l. ap landed_in (preserved-record k l) ∙ noted_in k l;
        offsets = range.offsets;
        lengths = range.lengths;
      };
      transactions = λ u l b. range_same _ written m.store m.journal u (same_at u l) (range.transactions u l b);
    });
  }

  -- What every transaction is stays.
  open-same : (u : ℕ) → u < transaction_count → (transaction m.store u).begun ≡ true → open_txn_in keeping u ≡ open_txn_in m u
  unfolding saving_undo open_txn_in
  open-same u l b = let e = txn-same keeping.store written m.store m.journal u (same_at u l) 8 m.logs m.logs
      (record { size = refl; before = λ i g. refl; beyond = λ i g. refl }) sound.logs (λ q. omega arith) l
      (range.transactions u l b) in
      λ i. record
      { txn = e i; marked = (open_txn_in m u).marked; lengths = (open_txn_in m u).lengths; stale = (open_txn_in m u).stale }

  pub keeping-seat : (u : ℕ) → seat keeping u ≡ seat m u
  unfolding seat saving_undo
  keeping-seat u = pick (leb u last_transaction && (transaction m.store u).begun) refl
    where
      pick : (c : Bool) → (leb u last_transaction && (transaction m.store u).begun) ≡ c
          → cond c (occupied (open_txn_in keeping u)) vacant ≡ cond c (occupied (open_txn_in m u)) vacant
      pick true e =
          let l = leb-true u last_transaction (and_left (leb u last_transaction) (transaction m.store u).begun e) in
          ap occupied (open-same u (omega arith) (and_right (leb u last_transaction) (transaction m.store u).begun e))
      pick false e = refl

  -- ---- and back again

  noted-span : (s : StoreMeaning) → s.filenumbers ≡ m.store.filenumbers → (k : ℕ)
      → span_of_record s (noted k) ≡ span_of (landing_of F v (get_or ws k no_write))
  noted-span s e k = unfold span_of_record landed_record landing_of file_of in let w = get_or ws k no_write in
      ap (λ (ns : List ℕ). span_at (file_bytes * get_or ns w.descriptor 0 + lands_at (v (offset w.descriptor)) w.place)
      (length w.bytes)) e

  landed-is : (s : StoreMeaning) → s.filenumbers ≡ m.store.filenumbers → s.undo.used.records ≡ length ws
      → landed_on s written ≡ map span_of (landings_of F v ws)
  unfolding landed_on
  landed-is s e f = ap (tabulate (λ k. span_of_record s (write_record_at written last_grant k))) f ∙ tabulate-same {A = Span}
      (λ k. span_of_record s (write_record_at written last_grant k)) (λ k. span_of (landing_of F v (get_or ws k no_write)))
      (length ws) (λ k l. ap (span_of_record s) (preserved-record k l) ∙ noted-span s e k) ∙ spans-table F v ws

  pub files-back : (s : StoreMeaning) → s.filenumbers ≡ m.store.filenumbers → s.undo.used.records ≡ length ws
      → restored (landed_on s written) (pasted m.undo 0 (old_bytes (landings_of F v ws) m.files))
      (land_files (settings F v x) m.files) ≡ m.files
  unfolding pasted
  files-back s e f = let old = old_bytes (landings_of F v ws) m.files in let rest = drop (0 + length old) m.undo in
      ap₂ (λ (ss : List Span) (fs : List ℕ). restored ss (old ++ rest) fs) (landed-is s e f)
      (land-all F v x m.files inside) ∙ put_back (landings_of F v ws) m.files rest inside
