-- The laws of a fetch: in two pieces, over one run, and what it marks. Assumes nothing.
use mathlib.Core.{Bool.{Bool, true, false, false≢true}, List.{List, [], ◌∷◌, ◌++◌, append_assoc, append-nil}}
use mathlib.Core.Path.{◌≡◌, refl, sym, ap, ap₂, ◌∙◌, subst}
use lib.{ListN.{length, get_or, take, drop, length-append}, Seq.drop-cons}
use Prim.Native.Nat.{ℕ, zero, suc, ◌+◌, ◌-◌, ◌*◌, ◌≤◌, ◌<◌}
use native.Mathlib.{Nat.{add-zero, add-suc, zero-add}, Omega.arith}
use Rattle.limits.specs.Limits.{file_bytes, log_bytes}
use Rattle.buffers.specs.{Parts.{cut, chosen, pasted, tabulate}, Marks.{with_mark, with_marks}}
use Rattle.buffers.proofs.{PartLaws.{pasted-none, pasted-append}, MarkLaws.{with-marks-none, with-marks-first}}
use Rattle.admission.specs.Admission.{lengths_before}
use Rattle.spec.proofs.Abstract.Programs.{result-and_then, asked-and_then}
use Rattle.spec.specs.Items.{Item, byte, offset, file_length, Values, Prog, done, and_then, result, asked}
use Rattle.spec.specs.{Reading.{Source, own, file, latest, bring, fetch}, Transactions.Write, Calls.marked, Machine.lengthmarked}
use Rattle.std.specs.Prelude.{Option, Some, None, is_some}
use Rattle.read_lookup.specs.declared.{Extent.Extent, Run.Run}
use Rattle.read_lookup.specs.Lookup.{extent, Recorded, supplier, stands_at, source_of, RunOf, write_in}
use Rattle.read_lookup.proofs.RunLaws.{latest-is, run-in-log, run_along}
use Rattle.read_fetch.specs.Fetch.{file_values, fetching, bytes_read, marks_after}

-- ---- a fetch, byte by byte

module _ (v : Values) (file_of : ℕ → ℕ) (ws : List Write) (f : ℕ) where
  -- the program of one byte
  abbrev one : ℕ → Prog ℕ
  one p = bring (latest file_of f p ws) (file_bytes * f + p)

  result-suc : (p n : ℕ) → result v (fetch file_of ws f p (suc n)) ≡ result v (one p) ∷ result v (fetch file_of ws f (suc p) n)
  unfolding fetch result
  result-suc p n = result-and_then v (one p) (λ b. and_then (fetch file_of ws f (suc p) n) (λ bs. done (b ∷ bs)))
      ∙ result-and_then v (fetch file_of ws f (suc p) n) (λ bs. done (result v (one p) ∷ bs))

  asked-suc : (p n : ℕ) → asked v (fetch file_of ws f p (suc n)) ≡ asked v (one p) ++ asked v (fetch file_of ws f (suc p) n)
  unfolding fetch asked
  asked-suc p n = asked-and_then v (one p) (λ b. and_then (fetch file_of ws f (suc p) n) (λ bs. done (b ∷ bs)))
      ∙ ap (λ (l : List Item). asked v (one p) ++ l) (asked-and_then v (fetch file_of ws f (suc p) n)
      (λ bs. done (result v (one p) ∷ bs)) ∙ append-nil (asked v (fetch file_of ws f (suc p) n)))

  -- a fetch of m bytes, then of n
  result-split : (p m n : ℕ) → result v (fetch file_of ws f p (m + n)) ≡ result v (fetch file_of ws f p m)
      ++ result v (fetch file_of ws f (p + m) n)
  unfolding fetch result
  result-split p zero n = ap₂ (λ (i j : ℕ). result v (fetch file_of ws f i j)) (sym (add-zero p)) (zero-add n)
  result-split p (suc m) n = let e : suc m + n ≡ suc (m + n) = omega arith in let g : suc p + m ≡ p + suc m = omega arith in
      ap (λ (k : ℕ). result v (fetch file_of ws f p k)) e ∙ result-suc p (m + n) ∙ ap (λ (l : List ℕ). result v (one p) ∷ l)
      (result-split (suc p) m n ∙ ap (λ (k : ℕ). result v (fetch file_of ws f (suc p) m) ++ result v (fetch file_of ws f k n))
      g) ∙ ap (λ (l : List ℕ). l ++ result v (fetch file_of ws f (p + suc m) n)) (sym (result-suc p m))

  asked-split : (p m n : ℕ) → asked v (fetch file_of ws f p (m + n)) ≡ asked v (fetch file_of ws f p m)
      ++ asked v (fetch file_of ws f (p + m) n)
  unfolding fetch asked
  asked-split p zero n = ap₂ (λ (i j : ℕ). asked v (fetch file_of ws f i j)) (sym (add-zero p)) (zero-add n)
  asked-split p (suc m) n = let e : suc m + n ≡ suc (m + n) = omega arith in let g : suc p + m ≡ p + suc m = omega arith in
      ap (λ (k : ℕ). asked v (fetch file_of ws f p k)) e ∙ asked-suc p (m + n) ∙ ap (λ (l : List Item). asked v (one p) ++ l)
      (asked-split (suc p) m n ∙ ap (λ (k : ℕ). asked v (fetch file_of ws f (suc p) m) ++ asked v (fetch file_of ws f k n)) g)
      ∙ sym (append_assoc (asked v (one p)) (asked v (fetch file_of ws f (suc p) m)) (asked v (fetch file_of ws f (p + suc m)
      n))) ∙ ap (λ (l : List Item). l ++ asked v (fetch file_of ws f (p + suc m) n)) (sym (asked-suc p m))

  length-fetched : (p n : ℕ) → length (result v (fetch file_of ws f p n)) ≡ n
  unfolding fetch result
  length-fetched p zero = refl
  length-fetched p (suc n) = ap length (result-suc p n) ∙ ap suc (length-fetched (suc p) n)

  -- bytes that stand one after the other in a buffer are a part of it
  result-run : (p at n : ℕ) (src : List ℕ) → at + n ≤ length src
      → ((i : ℕ) → i < n → result v (one (p + i)) ≡ get_or src (at + i) 0) → result v (fetch file_of ws f p n) ≡ cut src at n
  unfolding fetch result cut
  result-run p at zero src h same = refl
  result-run p at (suc n) src h same = result-suc p n ∙ ap₂ (λ (b : ℕ) (l : List ℕ). b ∷ l)
      (ap (λ (k : ℕ). result v (one k)) (sym (add-zero p)) ∙ same 0 (omega arith) ∙ ap (λ (k : ℕ). get_or src k 0)
      (add-zero at)) (result-run (suc p) (suc at) n src (omega arith) (λ i l. moved i ∙ same (suc i) (omega arith)
      ∙ ap (λ (k : ℕ). get_or src k 0) (omega arith))) ∙ sym (ap (take (suc n)) (drop-cons src at 0 (omega arith)))
    where
      moved : (i : ℕ) → result v (one (suc p + i)) ≡ result v (one (p + suc i))
      moved i = let e : suc p + i ≡ p + suc i = omega arith in ap (λ (k : ℕ). result v (one k)) e

  -- where an own write shields each byte, none is asked
  asked-run : (p n : ℕ) → ((i : ℕ) → i < n → asked v (one (p + i)) ≡ []) → asked v (fetch file_of ws f p n) ≡ []
  unfolding fetch asked
  asked-run p zero none = refl
  asked-run p (suc n) none = asked-suc p n ∙ ap₂ (λ (x y : List Item). x ++ y) (ap (λ (k : ℕ). asked v (one k))
      (sym (add-zero p)) ∙ none 0 (omega arith)) (asked-run (suc p) n (λ i l. moved i ∙ none (suc i) (omega arith)))
    where
      moved : (i : ℕ) → asked v (one (suc p + i)) ≡ asked v (one (p + suc i))
      moved i = let e : suc p + i ≡ p + suc i = omega arith in ap (λ (k : ℕ). asked v (one k)) e

-- ---- other committed values

-- What one byte asks does not depend on the values; what it gives depends on its own value alone.
bring-asked : (v w : Values) (x : Source) (q : ℕ) → asked v (bring x q) ≡ asked w (bring x q)
unfolding bring asked
bring-asked v w (own b) q = refl
bring-asked v w file q = refl

bring-result : (v w : Values) (x : Source) (q : ℕ) → v (byte q) ≡ w (byte q) → result v (bring x q) ≡ result w (bring x q)
unfolding bring result
bring-result v w (own b) q e = refl
bring-result v w file q e = e

module _ (v w : Values) (file_of : ℕ → ℕ) (ws : List Write) (f : ℕ) where
  pub asked-same : (p n : ℕ) → asked v (fetch file_of ws f p n) ≡ asked w (fetch file_of ws f p n)
  unfolding fetch asked
  asked-same p zero = refl
  asked-same p (suc n) = asked-suc v file_of ws f p n ∙ ap₂ (λ (x y : List Item). x ++ y) (bring-asked v w
      (latest file_of f p ws) (file_bytes * f + p)) (asked-same (suc p) n) ∙ sym (asked-suc w file_of ws f p n)

  pub result-same : (p n : ℕ) → ((i : ℕ) → i < n → v (byte (file_bytes * f + (p + i))) ≡ w (byte (file_bytes * f + (p + i))))
      → result v (fetch file_of ws f p n) ≡ result w (fetch file_of ws f p n)
  unfolding fetch result
  result-same p zero same = refl
  result-same p (suc n) same = result-suc v file_of ws f p n ∙ ap₂ (λ (b : ℕ) (l : List ℕ). b ∷ l) (bring-result v w
      (latest file_of f p ws) (file_bytes * f + p) (at p (omega arith) (same 0 (omega arith)))) (result-same (suc p) n
      (λ i l. at (suc p + i) (omega arith) (same (suc i) (omega arith)))) ∙ sym (result-suc w file_of ws f p n)
    where
      at : {k : ℕ} (j : ℕ) → k ≡ j → v (byte (file_bytes * f + k)) ≡ w (byte (file_bytes * f + k)) → v (byte (file_bytes * f + j))
          ≡ w (byte (file_bytes * f + j))
      at j e = subst (λ (m : ℕ). v (byte (file_bytes * f + m)) ≡ w (byte (file_bytes * f + m))) e

-- ---- marks

pub marked_append : (t : ℕ) (is js : List Item) (marks : List ℕ) → marked t (is ++ js) marks ≡ marked t js (marked t is marks)
unfolding marked
marked_append t [] js marks = refl
marked_append t (byte q ∷ is) js marks = marked_append t is js (with_mark t q marks)
marked_append t (offset d ∷ is) js marks = marked_append t is js marks
marked_append t (file_length g ∷ is) js marks = marked_append t is js marks

-- A fetch sights no length.
lengths-bring : (v : Values) (s : Source) (q : ℕ) (is : List Item) (n : ℕ) → lengthmarked (asked v (bring s q) ++ is) n
    ≡ lengthmarked is n
unfolding bring asked lengthmarked
lengths-bring v (own b) q is n = refl
lengths-bring v file q is n = refl

pub lengths-fetch : (v : Values) (file_of : ℕ → ℕ) (ws : List Write) (f p m : ℕ) (is : List Item) (n : ℕ)
    → lengthmarked (asked v (fetch file_of ws f p m) ++ is) n ≡ lengthmarked is n
lengths-fetch v file_of ws f p zero is n = unfold fetch asked in refl
lengths-fetch v file_of ws f p (suc m) is n = let here = asked v (one v file_of ws f p) in
    ap (λ (l : List Item). lengthmarked (l ++ is) n) (asked-suc v file_of ws f p m) ∙ ap (λ (l : List Item). lengthmarked l
    n) (append_assoc here (asked v (fetch file_of ws f (suc p) m)) is) ∙ lengths-bring v (latest file_of f p ws)
    (file_bytes * f + p) (asked v (fetch file_of ws f (suc p) m) ++ is) n ∙ lengths-fetch v file_of ws f (suc p) m is n

module _ (v : Values) (file_of : ℕ → ℕ) (ws : List Write) (f t : ℕ) where
  -- where the file supplies each byte, the interval is marked
  marked-run : (p n : ℕ) (marks : List ℕ) → ((i : ℕ) → i < n → asked v (one v file_of ws f (p + i)) ≡ byte (file_bytes * f
      + (p + i)) ∷ []) → marked t (asked v (fetch file_of ws f p n)) marks ≡ with_marks t (file_bytes * f + p) n marks
  unfolding fetch asked marked
  marked-run p zero marks each = sym (with-marks-none t (file_bytes * f + p) marks)
  marked-run p (suc n) marks each = let q = file_bytes * f + p in
      let first : asked v (one v file_of ws f p) ≡ byte q ∷ [] = ap (λ (k : ℕ). asked v (one v file_of ws f k))
      (sym (add-zero p)) ∙ each 0 (omega arith) ∙ ap (λ (k : ℕ). byte (file_bytes * f + k) ∷ []) (add-zero p) in
      ap (λ (l : List Item). marked t l marks) (asked-suc v file_of ws f p n
      ∙ ap (λ (l : List Item). l ++ asked v (fetch file_of ws f (suc p) n)) first)
      ∙ marked-run (suc p) n (with_mark t q marks) (λ i l. moved i (each (suc i) (omega arith))) ∙ ap (λ (k : ℕ). with_marks t
      k n (with_mark t q marks)) (add-suc (file_bytes * f) p) ∙ sym (with-marks-first t q n marks)
    where
      moved : (i : ℕ) → asked v (one v file_of ws f (p + suc i)) ≡ byte (file_bytes * f + (p + suc i)) ∷ []
          → asked v (one v file_of ws f (suc p + i)) ≡ byte (file_bytes * f + (suc p + i)) ∷ []
      moved i = let e : p + suc i ≡ suc p + i = omega arith in subst (λ (k : ℕ). asked v (one v file_of ws f k)
          ≡ byte (file_bytes * f + k) ∷ []) e

-- ---- the bytes and the marks of one run

-- what lies inside both parts lies inside the one that supplies
pub in-chosen : (b : Bool) (x y : List ℕ) (m n : ℕ) → length x ≡ n → length y ≡ n → m ≤ n → m ≤ length (chosen b x y)
unfolding chosen
in-chosen true x y m n hx hy l = omega arith
in-chosen false x y m n hx hy l = omega arith

module _ (j : Recorded) (t records : ℕ) (log file : List ℕ) (inside : lengths_before j.journal t records ≤ length log) where
  abbrev of_one : ℕ → ℕ → Prog ℕ
  of_one f p = one (file_values f file) (λ d. get_or j.filenumbers d 0) (tabulate (write_in j.journal log t) records) f p

  supplied : (f p : ℕ) (s : Option ℕ) → supplier j t records f p ≡ s → of_one f p
      ≡ bring (source_of j.journal log t p s) (file_bytes * f + p)
  supplied f p s e = ap (λ (x : Source). bring x (file_bytes * f + p))
      (latest-is j log t f p records inside ∙ ap (source_of j.journal log t p) e)

  by-file : (f p : ℕ) → supplier j t records f p ≡ None → (result (file_values f file) (of_one f p) ≡ get_or file p 0)
      × (asked (file_values f file) (of_one f p) ≡ byte (file_bytes * f + p) ∷ [])
  unfolding source_of bring result asked file_values
  by-file f p e = let g : file_bytes * f + p - file_bytes * f ≡ p = omega arith in (
    ap (result (file_values f file)) (supplied f p None e) ∙ ap (λ (k : ℕ). get_or file k 0) g,
    ap (asked (file_values f file)) (supplied f p None e),
  )

  by-record : (f p k : ℕ) → supplier j t records f p ≡ Some k → (result (file_values f file) (of_one f p) ≡ get_or log
      (stands_at j.journal t p (Some k)) 0) × (asked (file_values f file) (of_one f p) ≡ [])
  by-record f p k e = unfold source_of bring result asked in (
    ap (result (file_values f file)) (supplied f p (Some k) e),
    ap (asked (file_values f file)) (supplied f p (Some k) e),
  )

  module _ (e : Extent) (r : Run) (run : RunOf j t records e r) (within : e.place + e.length ≤ length file) where
    abbrev f : ℕ
    f = e.file

    abbrev p : ℕ
    p = e.place

    abbrev logged : Bool
    logged = is_some r.supplier

    -- the places of the run
    abbrev its : Extent
    its = extent f p r.length

    -- a run of the file, and one of a record
    is-file : supplier j t records f p ≡ None → (logged ≡ false) × (r.at ≡ p)
    is-file s = unfold stands_at in (ap is_some (run.supplied ∙ s), run.start ∙ ap (stands_at j.journal t p) s)

    is-record : (k : ℕ) → supplier j t records f p ≡ Some k → logged ≡ true
    is-record k s = ap is_some (run.supplied ∙ s)

    pub run-within : length log ≡ log_bytes → length file ≡ file_bytes → r.at + r.length ≤ file_bytes
    run-within = pick (supplier j t records f p) refl
      where
        pick : (s : Option ℕ) → supplier j t records f p ≡ s → length log ≡ log_bytes → length file ≡ file_bytes
            → r.at + r.length ≤ file_bytes
        pick None s hl hf = omega (arith, (is-file s).1, run.within)
        pick (Some k) s hl hf = omega (arith, run-in-log j t records e r run k s)

    -- "handed over as that part of the log or of the file"
    pub run-bytes : bytes_read j t records log file its ≡ cut (chosen (logged) log file) r.at r.length
    unfolding chosen bytes_read fetching
    run-bytes = pick (supplier j t records f p) refl
      where
        part : (at : ℕ) (src : List ℕ) → at + r.length ≤ length src → ((i : ℕ) → i < r.length → result (file_values f file)
            (of_one f (p + i)) ≡ get_or src (at + i) 0) → bytes_read j t records log file its ≡ cut src at r.length
        part at src = result-run (file_values f file) (λ d. get_or j.filenumbers d 0)
            (tabulate (write_in j.journal log t) records) f p at r.length src

        pick : (s : Option ℕ) → supplier j t records f p ≡ s
            → bytes_read j t records log file its ≡ cut (chosen (logged) log file) r.at r.length
        pick None s = let g = is-file s in
            rw (g.0, g.1) (part p file (omega (arith, run.within)) (λ i l. (by-file f (p + i) (run.same i l ∙ s)).0))
        pick (Some k) s =
            rw (is-record k s) (part r.at log (omega (arith, run-in-log j t records e r run k s)) (λ i l. (by-record f
            (p + i) k (run.same i l ∙ s)).0 ∙ ap (λ (m : ℕ). get_or log m 0) (run_along j t records e r run k s i)))

    -- "an own write shields, byte by byte"
    pub run-shields : (marks : List ℕ) → logged ≡ true → marks_after j t records log file its marks ≡ marks
    unfolding marks_after fetching marked
    run-shields marks b = pick (supplier j t records f p) refl
      where
        pick : (s : Option ℕ) → supplier j t records f p ≡ s → marks_after j t records log file its marks ≡ marks
        pick None s = absurd (false≢true (sym (is-file s).0 ∙ b))
        pick (Some k) s = ap (λ (l : List Item). marked t l marks)
            (asked-run (file_values f file) (λ d. get_or j.filenumbers d 0) (tabulate (write_in j.journal log t) records)
            f p r.length (λ i l. (by-record f (p + i) k (run.same i l ∙ s)).1))

    pub run-marks : (marks : List ℕ) → logged ≡ false → (from n : ℕ) → from ≡ file_bytes * f + p → n ≡ r.length
        → with_marks t from n marks ≡ marks_after j t records log file its marks
    unfolding marks_after fetching
    run-marks marks b from n ef en = ap₂ (λ (k i : ℕ). with_marks t k i marks) ef en ∙ sym (pick (supplier j t records f p) refl)
      where
        pick : (s : Option ℕ) → supplier j t records f p ≡ s → marks_after j t records log file its marks
            ≡ with_marks t (file_bytes * f + p) r.length marks
        pick None s = marked-run (file_values f file) (λ d. get_or j.filenumbers d 0) (tabulate (write_in j.journal log t)
            records) f t p r.length marks (λ i l. (by-file f (p + i) (run.same i l ∙ s)).1)
        pick (Some k) s = absurd (false≢true (sym b ∙ is-record k s))

-- ---- the buffers after some bytes, and after some more

module _ (j : Recorded) (t records : ℕ) (log file : List ℕ) (f p : ℕ) where
  abbrev file_of : ℕ → ℕ
  file_of d = get_or j.filenumbers d 0

  abbrev writes : List Write
  writes = tabulate (write_in j.journal log t) records

  abbrev bytes : ℕ → ℕ → List ℕ
  bytes p n = bytes_read j t records log file (extent f p n)

  abbrev marking : ℕ → ℕ → List ℕ → List ℕ
  marking p n marks = marks_after j t records log file (extent f p n) marks

  pub length-bytes : (n : ℕ) → length (bytes p n) ≡ n
  length-bytes n = unfold bytes_read fetching in length-fetched (file_values f file) file_of writes f p n

  module _ (reader : List ℕ) where
    pub bytes-none : pasted reader 0 (bytes p 0) ≡ reader
    bytes-none = unfold bytes_read fetching fetch result in pasted-none reader 0

    -- d is the buffer after m bytes; n more come from place q
    pub bytes-more : (m n q : ℕ) (d : List ℕ) → d ≡ pasted reader 0 (bytes p m) → q ≡ p + m → m + n ≤ length reader
        → pasted d m (bytes q n) ≡ pasted reader 0 (bytes p (m + n))
    bytes-more m n q d before next h = unfold bytes_read fetching in let x = bytes p m in let y = bytes (p + m) n in
        let e = length-bytes m in let g = length-fetched (file_values f file) file_of writes f (p + m) n in
        ap₂ (λ (l : List ℕ) (k : ℕ). pasted l m (bytes k n)) before next ∙ ap (λ (k : ℕ). pasted (pasted reader 0 x) k y)
        (omega arith) ∙ sym (pasted-append reader 0 x y (omega (arith, length-append x y)))
        ∙ ap (pasted reader 0) (sym (result-split (file_values f file) file_of writes f p m n))

    -- "copied to the front of the reader's buffer. The rest of that buffer is left."
    pub bytes-all : (m : ℕ) → pasted reader 0 (bytes p m) ≡ bytes p m ++ drop m reader
    bytes-all m = unfold pasted in ap (λ (k : ℕ). bytes p m ++ drop k reader) (zero-add _ ∙ length-bytes m)

  module _ (marks : List ℕ) where
    pub marks-none : marking p 0 marks ≡ marks
    marks-none = unfold marks_after fetching fetch asked marked in refl

    pub marks-more : (m n q : ℕ) (d : List ℕ) → d ≡ marking p m marks → q ≡ p + m → marking q n d ≡ marking p (m + n) marks
    marks-more m n q d before next = unfold marks_after fetching in
        ap₂ (λ (l : List ℕ) (k : ℕ). marking k n l) before next ∙ sym (ap (λ (l : List Item). marked t l marks)
        (asked-split (file_values f file) file_of writes f p m n) ∙ marked_append t (asked (file_values f file)
        (fetch file_of writes f p m)) (asked (file_values f file) (fetch file_of writes f (p + m) n)) marks)
