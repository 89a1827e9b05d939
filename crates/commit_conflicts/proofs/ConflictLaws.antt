-- Who has sighted what a commit would set, setting by setting, and whom it would make stale.
use mathlib.Core.Bool.{Bool, true, false, cond, not, ◌&&◌, ◌||◌, and-false, or_assoc, or-false}
use mathlib.Core.{List.{List, [], ◌∷◌, ◌++◌, append-nil}, Logic.⊎_elim, Path.{◌≡◌, refl, sym, ap, ap₂, ◌∙◌}}
use lib.{Dec.{eqb, ltb}, ListN.{length, get_or}}
use borrow.Author.Tests.{eqb-true, ltb-true, ltb-false, lt-ltb, le-ltb, not-false}
use native.Mathlib.{Numerals.add-one, Omega.arith}
use Prim.Native.Nat.{ℕ, zero, suc, ◌+◌, ◌*◌, ◌≤◌, ◌<◌, max}
use Rattle.limits.specs.Limits.{file_count, file_bytes, buffer_bytes, descriptor_count, transaction_count}
use Rattle.buffers.specs.{Bits.bits_of, Parts.{cut, tabulate}, Marks.{has_mark, has_mark_in, contains}}
use Rattle.buffers.proofs.{PartLaws.{le-or-lt, length_cut}, MarkLaws.{has-in-none, has-in-first, contains-none}}
use Rattle.buffers.proofs.SetLaws.{bits-lt, contains-bits, octets-same}
use Rattle.counters.specs.declared.Used.{Used}
use Rattle.state.specs.{declared.{Descriptor.Descriptor, Transaction.Transaction}, StoreMeaning.{standing_at, dirty_at}}
use Rattle.state.specs.Layout.{descriptor_of, transaction_of, store_of, journal_of}
use Rattle.state.proofs.LayoutLaws.{transaction-of, descriptor-of}
use Rattle.standings.specs.Table.{is_known, is_touched, final_offset}
use Rattle.spec.specs.{Items.{offset, file_length, Values}, Transactions.Txn}
use Rattle.spec.specs.Commits.{Setting, bytes_from, byte_settings, sets_offset, offset_settings, landed_end, length_settings}
use Rattle.spec.specs.{Machine.{Machine, data_start, file_of, values, write_at, txn_of}, Calls.{has_sighted, conflicts, made_stale}}
use Rattle.spec.specs.Promises.{machine_of}
use Rattle.commit_apply.specs.declared.writes.LandedWrite.{LandedWrite}
use Rattle.commit_apply.specs.Apply.{descriptors_only, bytes_set, bytes_set_in, landed_reach, lengths_landed_in, CanLandIn, LandsAs}
use Rattle.commit_apply.proofs.{WriteLaws.{data-in, byte-count, set_more}, LengthLaws.{reach-is, length_at}}
use Rattle.commit_apply.proofs.Landed.{all_set, settings-are}
use Rattle.commit_conflicts.specs.Conflicts.{stale_by, is_watched, Sighters, offsets_set_in, lengths_set_in, knows_offset}
use Rattle.commit_conflicts.specs.Conflicts.{knows_length, NoneSighted}

-- ---- what the code reads of a descriptor

-- Its offset is set.
pub sets-is : (state : List ℕ) (t d : ℕ) → d < descriptor_count → (q : Descriptor) → q ≡ descriptor_of state t d
    → sets_offset (descriptors_only (transaction_of state t)) d ≡ (q.dirty && is_touched q.standing)
unfolding sets_offset
sets-is state t d few q e = ap (λ (p : Descriptor). p.dirty && is_touched p.standing) (descriptor-of state t d few ∙ sym e)

-- None is, where nothing is dirty.
pub none-set : (state : List ℕ) (t : ℕ) → ((d : ℕ) → d < descriptor_count → dirty_at (transaction_of state t) d ≡ false)
    → (d : ℕ) → d < descriptor_count → sets_offset (descriptors_only (transaction_of state t)) d ≡ false
unfolding sets_offset
none-set state t none d few = ap (λ (b : Bool). b && is_touched (standing_at (transaction_of state t) d)) (none d few)

-- ---- what the code reads of the lengths that were sighted

-- One transaction more: u, which is watched where w says so, and has sighted the lengths n.
pub sighted-more : (state : List ℕ) (watched u n : ℕ) (w : Bool) → NoneSighted state watched u → w ≡ contains watched u
    → n ≡ (transaction_of state u).lengthmarks → w && not (eqb n 0) ≡ false → NoneSighted state watched (u + 1)
sighted-more state watched u n w so is-w is-n e v l watches =
    ⊎_elim (λ less. so v less watches) (λ same. own (omega arith)) (le-or-lt (suc v) u)
  where
    own : v ≡ u → (transaction_of state v).lengthmarks ≡ 0
    own same = let told : w ≡ true = is-w ∙ ap (contains watched) (sym same) ∙ watches in
        ap (λ (k : ℕ). (transaction_of state k).lengthmarks) same ∙ sym is-n
        ∙ eqb-true n 0 (not-false _ (ap (λ (b : Bool). b && not (eqb n 0)) (sym told) ∙ e))

-- ---- settings in order

module _ (marks : List ℕ) (u : ℕ) (y : Transaction) where
  conflicts-append : (xs ys : List Setting) → conflicts marks u y (xs ++ ys) ≡ conflicts marks u y xs || conflicts marks u y ys
  unfolding conflicts
  conflicts-append [] ys = refl
  conflicts-append (x ∷ xs) ys = ap (λ (b : Bool). has_sighted marks u y x.item || b) (conflicts-append xs ys)
      ∙ sym (or_assoc (has_sighted marks u y x.item) (conflicts marks u y xs) (conflicts marks u y ys))

  -- Who has sighted one of the bytes of a range has a mark in it.
  conflicts-interval : (q : ℕ) (bs : List ℕ) → conflicts marks u y (bytes_from q bs) ≡ has_mark_in marks u q (length bs)
  unfolding conflicts bytes_from has_sighted
  conflicts-interval q [] = sym (has-in-none marks u q)
  conflicts-interval q (b ∷ bs) =
      ap (λ (c : Bool). has_mark marks u q || c) (conflicts-interval (suc q) bs) ∙ sym (has-in-first marks u q (length bs))

-- The lengths of the first f files that transaction t's first n writes raise, and how far they reach in file f.
abbrev pub raised_below : List ℕ → List ℕ → List ℕ → ℕ → ℕ → ℕ → List Setting
raised_below state files logs t n f =
    let s = store_of state in length_settings (file_of s) (values s files) (tabulate (write_at (journal_of state) logs t) n) f

abbrev reach_of : List ℕ → List ℕ → List ℕ → ℕ → ℕ → ℕ → ℕ
reach_of state files logs t n f =
    let s = store_of state in landed_end (file_of s) (values s files) f (tabulate (write_at (journal_of state) logs t) n)

module _ (state marks : List ℕ) (watched : ℕ) where
  sighters-none : Sighters state marks watched [] 0
  unfolding conflicts
  sighters-none u l = contains-none u ∙ sym (and-false (contains watched u))

  sighters-join : (ss rs : List Setting) (a b c : ℕ) → Sighters state marks watched ss a → Sighters state marks watched rs b
      → ((u : ℕ) → contains c u ≡ contains a u || contains b u) → Sighters state marks watched (ss ++ rs) c
  sighters-join ss rs a b c sa sb joins u l = joins u ∙ ap₂ ◌||◌ (sa u l) (sb u l) ∙ both (contains watched u)
      (conflicts marks u (transaction_of state u) ss) (conflicts marks u (transaction_of state u) rs)
      ∙ ap (λ (x : Bool). contains watched u && x) (sym (conflicts-append marks u (transaction_of state u) ss rs))
    where
      both : (w x y : Bool) → (w && x) || (w && y) ≡ w && (x || y)
      both true x y = refl
      both false x y = refl

  -- ---- bytes

  pub no_bytes : (logs : List ℕ) (t : ℕ) → Sighters state marks watched (bytes_set_in state logs t 0) 0
  no_bytes logs t = unfold bytes_set tabulate byte_settings in sighters-none

  pub byte-hits-more : {t n k : ℕ} {w : LandedWrite} → CanLandIn state t n → k < n → LandsAs state t k w → (logs : List ℕ)
      → length logs ≡ buffer_bytes → (a b c : ℕ) → Sighters state marks watched (bytes_set_in state logs t k) a
      → ((u : ℕ) → u < transaction_count
      → contains b u ≡ contains watched u && has_mark_in marks u (file_bytes * w.file + w.place) w.length) → ((u : ℕ)
      → contains c u ≡ contains a u || contains b u) → Sighters state marks watched (bytes_set_in state logs t (k + 1)) c
  byte-hits-more {t} {n} {k} {w} can earlier lands logs size a b c sa sb joins = let q = file_bytes * w.file + w.place in
      let start = data_start (journal_of state) t k in let bs = cut logs start w.length in
      let long : length bs ≡ w.length =
      length_cut logs start w.length (let e = lands.length in omega (arith, data-in can earlier, can.small)) in
      rw (set_more lands logs start refl) (sighters-join (bytes_set_in state logs t k) (bytes_from q bs) a b c sa
      (λ u l. sb u l ∙ ap (λ (x : Bool). contains watched u && x) (ap (has_mark_in marks u q) (sym long)
      ∙ sym (conflicts-interval marks u (transaction_of state u) q bs))) joins)

  -- ---- offsets

  module _ (v : Values) (x : Txn) where
    pub no-offsets : Sighters state marks watched (offset_settings v x 0) 0
    no-offsets = unfold offset_settings in sighters-none

    pub offset-more : (d : ℕ) → sets_offset x d ≡ true → (a b c : ℕ) → Sighters state marks watched (offset_settings v x d) a
        → b ≡ bits_of (knows_offset state watched d) transaction_count → ((u : ℕ) → contains c u ≡ contains a u || contains b u)
        → Sighters state marks watched (offset_settings v x (d + 1)) c
    unfolding offset_settings conflicts has_sighted
    offset-more d sets a b c sa sb joins = rw (add-one, sets) (sighters-join (offset_settings v x d)
        (record { item = offset d; to = final_offset (v (offset d)) (x.standing d) } ∷ []) a b c sa
        (λ u l. ap (λ (k : ℕ). contains k u) sb ∙ contains-bits (knows_offset state watched d) 8 u l ∙ ap (λ (y : Bool).
        contains watched u && y) (sym (or-false (is_known (standing_at (transaction_of state u) d))))) joins)

    -- Where none is set.
    pub offset-hits-none : (n : ℕ) → ((d : ℕ) → d < n → sets_offset x d ≡ false)
        → Sighters state marks watched (offset_settings v x n) 0
    unfolding offset_settings
    offset-hits-none zero h = sighters-none
    offset-hits-none (suc n) h = rw (h n (omega arith), append-nil) (offset-hits-none n (λ d l. h d (omega arith)))

    pub offset-less : (d a : ℕ) → sets_offset x d ≡ false → Sighters state marks watched (offset_settings v x d) a
        → Sighters state marks watched (offset_settings v x (d + 1)) a
    offset-less d a sets sa = unfold offset_settings in rw (add-one, sets, append-nil) sa

  -- ---- lengths

  module _ (files logs : List ℕ) (t n : ℕ) where
    pub no_lengths : Sighters state marks watched (raised_below state files logs t n 0) 0
    no_lengths = unfold length_settings in sighters-none

    -- Who has sighted no length conflicts with none that is raised.
    unsighted : (u : ℕ) → (transaction_of state u).lengthmarks ≡ 0 → (f : ℕ)
        → conflicts marks u (transaction_of state u) (raised_below state files logs t n f) ≡ false
    unfolding length_settings conflicts has_sighted
    unsighted u none zero = refl
    unsighted u none (suc f) = conflicts-append marks u (transaction_of state u) (raised_below state files logs t n f) _
        ∙ ap₂ ◌||◌ (unsighted u none f)
        (last (ltb (values (store_of state) files (file_length f)) (reach_of state files logs t n f)))
      where
        last : (b : Bool) → conflicts marks u (transaction_of state u)
            (cond b (record { item = file_length f; to = reach_of state files logs t n f } ∷ []) []) ≡ false
        last true = ap (λ (k : ℕ). contains k f || false) none ∙ ap (λ (c : Bool). c || false) (contains-none f)
        last false = refl

    pub length-hits-none : NoneSighted state watched 8 → (f : ℕ) → Sighters state marks watched
        (raised_below state files logs t n f) 0
    length-hits-none none f u l = contains-none u ∙ sym (pick (contains watched u) refl)
      where
        pick : (b : Bool) → contains watched u ≡ b
            → b && conflicts marks u (transaction_of state u) (raised_below state files logs t n f) ≡ false
        pick true e = unsighted u (none u l e) f
        pick false e = refl

    module _ (can : CanLandIn state t n) (size : length logs ≡ buffer_bytes) (f : ℕ) (few : f < file_count) where
      -- A number lies below the larger of itself and another where it lies below the other.
      over-max : (a b : ℕ) → ltb a (max a b) ≡ ltb a b
      over-max a b = pick (ltb a b) refl
        where
          pick : (c : Bool) → ltb a b ≡ c → ltb a (max a b) ≡ c
          pick true e = let l = ltb-true a b e in lt-ltb a (max a b) (omega arith)
          pick false e = let l = ltb-false a b e in le-ltb a (max a b) (omega arith)

      raised_is : ltb (values (store_of state) files (file_length f)) (reach_of state files logs t n f)
          ≡ ltb (get_or (store_of state).lengths f 0) (get_or (lengths_landed_in state t n) f 0)
      raised_is = unfold values file_of in let s = store_of state in let j = journal_of state in
          sym (ap (ltb (get_or s.lengths f 0)) (length_at s.filenumbers s.offsets j t s.lengths n f few)
          ∙ over-max (get_or s.lengths f 0) (landed_reach s.filenumbers s.offsets j t f n)
          ∙ ap (ltb (get_or s.lengths f 0)) (reach-is s.filenumbers s.offsets j t (values s files) (λ d. refl) logs f
          n (λ k h. byte-count can h logs size)))

      module _ (length after : ℕ) (before : length ≡ get_or (store_of state).lengths f 0)
          (afterwards : after ≡ get_or (lengths_landed_in state t n) f 0) where
        raised-so : ltb (values (store_of state) files (file_length f)) (reach_of state files logs t n f) ≡ ltb length after
        raised-so = raised_is ∙ sym (ap₂ ltb before afterwards)

        pub length_more : length < after → (a b c : ℕ) → Sighters state marks watched (raised_below state files logs t n f) a
            → b ≡ bits_of (knows_length state watched f) transaction_count → ((u : ℕ) → contains c u ≡ contains a u || contains b u)
            → Sighters state marks watched (raised_below state files logs t n (f + 1)) c
        unfolding length_settings conflicts has_sighted
        length_more h a b c sa sb joins = rw (add-one, raised-so ∙ lt-ltb length after h) (sighters-join (raised_below state
            files logs t n f) (record { item = file_length f; to = reach_of state files logs t n f } ∷ []) a b c sa
            (λ u l. ap (λ (k : ℕ). contains k u) sb ∙ contains-bits (knows_length state watched f) 8 u l ∙ ap (λ (y : Bool).
            contains watched u && y) (sym (or-false (contains (transaction_of state u).lengthmarks f)))) joins)

        pub length-less : after ≤ length → (a : ℕ) → Sighters state marks watched (raised_below state files logs t n f) a
            → Sighters state marks watched (raised_below state files logs t n (f + 1)) a
        length-less h a sa = unfold length_settings in rw (add-one, raised-so ∙ le-ltb length after h, append-nil) sa

-- ---- the octet

module _ (state files logs marks undo : List ℕ) (t : ℕ) where
  abbrev committed : Values
  committed = values (store_of state) files

  abbrev all : List Setting
  all = all_set (store_of state) (journal_of state) files logs t

  abbrev m : Machine
  m = machine_of state files logs marks undo

  -- All that it sets, as the code goes over it.
  all-is : t < transaction_count → (used : Used) → used ≡ (transaction_of state t).used → all ≡ bytes_set_in state logs t
      used.records ++ (offsets_set_in state committed t ++ lengths_set_in state files logs t used.records)
  all-is small used e = unfold txn_of in let s = store_of state in
      settings-are s (journal_of state) files logs t ∙ ap (λ (x : Transaction). bytes_set_in state logs t x.used.records
      ++ (offset_settings committed (descriptors_only x) 16 ++ lengths_set_in state files logs t x.used.records))
      (transaction-of state t small) ∙ ap (λ (n : Used). bytes_set_in state logs t
      n.records ++ (offsets_set_in state committed t ++ lengths_set_in state files logs t n.records)) (sym e)

  module _ (watched : ℕ) (watches : watched ≡ bits_of (is_watched state t) transaction_count) where
    octet-is : (r : ℕ) → r < 256 → Sighters state marks watched all r → r ≡ stale_by m t
    unfolding stale_by made_stale
    octet-is r small sees = octets-same r (bits_of (made_stale t all m) 8) small (bits-lt (made_stale t all m) 8)
        (λ u l. sees u l ∙ ap (λ (b : Bool). b && conflicts marks u (transaction_of state u) all)
        (ap (λ (n : ℕ). contains n u) watches ∙ contains-bits (is_watched state t) 8 u l) ∙ regroup (not (eqb u t))
        (transaction_of state u).begun (not (transaction_of state u).stale) (conflicts marks u (transaction_of state u) all)
        ∙ ap (λ (y : Transaction). not (eqb u t) && y.begun && not y.stale && conflicts marks u y all)
        (sym (transaction-of state u l)) ∙ sym (contains-bits (made_stale t all m) 8 u l))
      where
        regroup : (a b c d : Bool) → (a && b && c) && d ≡ a && b && c && d
        regroup true true c d = refl
        regroup true false c d = refl
        regroup false b c d = refl

    -- Nobody is watched.
    pub none-stale : watched ≡ 0 → 0 ≡ stale_by m t
    none-stale e = octet-is 0 (omega arith) (λ u l. contains-none u
        ∙ sym (ap (λ (n : ℕ). contains n u && conflicts marks u (transaction_of state u) all) e
        ∙ ap (λ (b : Bool). b && conflicts marks u (transaction_of state u) all) (contains-none u)))

    pub stale-by-is : t < transaction_count → (used : Used) → used ≡ (transaction_of state t).used → (a b c d r : ℕ)
        → Sighters state marks watched (bytes_set_in state logs t used.records) a
        → Sighters state marks watched (offsets_set_in state committed t) b → Sighters state marks watched
        (lengths_set_in state files logs t used.records) c → ((u : ℕ) → contains d u ≡ contains b u || contains c u)
        → ((u : ℕ) → contains r u ≡ contains a u || contains d u) → r < 256 → r ≡ stale_by m t
    stale-by-is small used e a b c d r sa sb sc later joins octet = octet-is r octet (rw (all-is small used e)
        (sighters-join state marks watched (bytes_set_in state logs t used.records) (offsets_set_in state committed
        t ++ lengths_set_in state files logs t used.records) a d r sa (sighters-join state marks watched
        (offsets_set_in state committed t) (lengths_set_in state files logs t used.records) b c d sb sc later) joins))
