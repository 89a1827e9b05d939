-- The lengths that a commit raises, write record by write record, and as the rules set them.
use mathlib.Core.{Bool.{Bool, true, false, cond}, List.List, Path.{◌≡◌, refl, sym, ap, ap₂, ◌∙◌}}
use lib.{Dec.eqb, ListN.{length, get_or, set, length-set}}
use borrow.Author.Tests.{ltb-true, ltb-false, eq-eqb, ne_eqb}
use native.Mathlib.{Numerals.add-one, Omega.arith}
use Prim.Native.Nat.{ℕ, zero, suc, ◌+◌, ◌≤◌, ◌<◌, max}
use Rattle.limits.specs.Limits.{file_count}
use Rattle.buffers.{specs.Parts.tabulate, proofs.TableLaws.get_d_tabulate}
use Rattle.state.specs.{declared.StoreMeaning.StoreMeaning, StoreMeaning.with_lengths, Journal.write_record_at}
use Rattle.state.specs.{Layout.{store_of, journal_of}, Updates.with_length_at}
use Rattle.state.proofs.LayoutLaws.{store-with-length, journal-with-length}
use Rattle.state.proofs.Filled.{filled, filled_none, filled-set, filled-preserved, filled-all}
use Rattle.spec.specs.{Items.{offset, file_length, Values}, Reading.{write_end, farthest}, Transactions.Write}
use Rattle.spec.specs.{Commits.{lands_at, landed_end, length_settings}, Machine.write_at, Calls.{land_length, land_lengths}}
use Rattle.spec.proofs.Refinement.{IndexedLists.{tabulate-same, tabulate-get_d, tabulate-set}, WriteEnds.farthest-last}
use Rattle.refinement.proofs.Shapes.{shaped}
use Rattle.commit_apply.specs.Apply.{landed_reach, lengths_landed, Means}
use Rattle.commit_apply.proofs.Settings.{lengths-append, raising, raises}

module _ (filenumbers offsets journal : List ℕ) (t : ℕ) where
  -- Where record k ends in file f.
  abbrev end_in : ℕ → ℕ → ℕ
  end_in f k = let w = write_record_at journal t k in
      cond (eqb (get_or filenumbers w.descriptor 0) f)
      (write_end (lands_at (get_or offsets w.descriptor 0) w.place) w.length) 0

  reach-more : (f k : ℕ) → landed_reach filenumbers offsets journal t f (k + 1)
      ≡ max (landed_reach filenumbers offsets journal t f k) (end_in f k)
  reach-more f k = unfold landed_reach in rw add-one

  -- The same of the writes.
  pub reach-is : (v : Values) → ((d : ℕ) → v (offset d) ≡ get_or offsets d 0) → (logs : List ℕ) (f n : ℕ)
      → ((k : ℕ) → k < n → length (write_at journal logs t k).bytes ≡ (write_record_at journal t k).length) → landed_reach
      filenumbers offsets journal t f n ≡ landed_end (λ d. get_or filenumbers d 0) v f (tabulate (write_at journal logs t) n)
  unfolding landed_reach landed_end tabulate farthest write_record_at write_at
  reach-is v h logs f zero l = refl
  reach-is v h logs f (suc n) l = let end : Write → ℕ = λ w. write_end (lands_at (v (offset w.descriptor)) w.place)
      (length w.bytes) in let w = write_record_at journal t n in
      let here : end_in f n ≡ cond (eqb (get_or filenumbers w.descriptor 0) f) (end (write_at journal logs t n)) 0 =
      unfold write_at in ap₂ (λ (c k : ℕ). cond (eqb (get_or filenumbers w.descriptor 0) f)
      (write_end (lands_at c w.place) k) 0) (sym (h w.descriptor)) (sym (unfold write_at in l n (omega arith))) in
      let later = reach-is v h logs f n (λ k g. l k (omega arith)) in
      ap₂ (λ (a b : ℕ). max a b) later here ∙ sym (farthest-last (λ d. get_or filenumbers d 0) f end
      (tabulate (write_at journal logs t) n) (write_at journal logs t n))

  module _ (lengths : List ℕ) where
    abbrev length_after : ℕ → ℕ → ℕ
    length_after k f = max (get_or lengths f 0) (landed_reach filenumbers offsets journal t f k)

    pub length_at : (k f : ℕ) → f < file_count → get_or (lengths_landed filenumbers offsets journal t lengths k) f 0 ≡ length_after k f
    length_at k f h = unfold lengths_landed in get_d_tabulate (length_after k) 8 f 0 h

    pub landed-lengths-none : length lengths ≡ file_count → lengths ≡ lengths_landed filenumbers offsets journal t lengths 0
    unfolding lengths_landed landed_reach
    landed-lengths-none e = sym (tabulate-get_d lengths 0) ∙ ap (tabulate (λ f. get_or lengths f 0)) e
        ∙ tabulate-same (λ f. get_or lengths f 0) (λ f. max (get_or lengths f 0) 0) 8 (λ f l. omega arith)

    -- One record more raises the length of its file.
    pub landed-lengths-more : (k f end n : ℕ) → f < file_count → f ≡ get_or filenumbers (write_record_at journal t k).descriptor
        0 → end ≡ write_end (lands_at (get_or offsets (write_record_at journal t k).descriptor 0)
        (write_record_at journal t k).place) (write_record_at journal t k).length
        → n ≡ max (get_or (lengths_landed filenumbers offsets journal t lengths k) f 0) end → set (lengths_landed filenumbers
        offsets journal t lengths k) f n ≡ lengths_landed filenumbers offsets journal t lengths (k + 1)
    unfolding lengths_landed
    landed-lengths-more k f end n h ef ee en = sym (tabulate-set (length_after k) (length_after (k + 1)) 8 f n h own other)
      where
        own : length_after (k + 1) f ≡ n
        own = let e : end_in f k ≡ end = rw (eq-eqb (get_or filenumbers (write_record_at journal t k).descriptor 0) f (sym ef))
            (sym ee) in let m = reach-more f k in
            let g : n ≡ max (length_after k f) end = en
            ∙ ap (λ (a : ℕ). max a end) (get_d_tabulate (length_after k) 8 f 0 h) in omega arith

        other : (j : ℕ) → (j ≡ f → ⊥) → length_after (k + 1) j ≡ length_after k j
        other j ne = let e : end_in j k ≡ 0 = rw (ne_eqb (get_or filenumbers (write_record_at journal t k).descriptor 0) j
            (λ q. ne (sym q ∙ sym ef))) in let m = reach-more j k in omega arith

module _ (F : ℕ → ℕ) (v : Values) (ws : List Write) where
  lengths-filled : (lengths : List ℕ) → length lengths ≡ file_count → ((f : ℕ) → v (file_length f) ≡ get_or lengths f 0) → (n : ℕ)
      → n ≤ 8
      → land_lengths (length_settings F v ws n) lengths ≡ filled (λ f. max (get_or lengths f 0) (landed_end F v f ws)) lengths n
  unfolding length_settings
  lengths-filled lengths e h zero l = unfold land_lengths in sym
      (filled_none (λ f. max (get_or lengths f 0) (landed_end F v f ws)) lengths)
  lengths-filled lengths e h (suc n) l = lengths-append (length_settings F v ws n) (raising F v ws (raises F v ws n) n)
      lengths ∙ ap (land_lengths (raising F v ws (raises F v ws n) n)) (lengths-filled lengths e h n (omega arith))
      ∙ one (raises F v ws n) refl ∙ ap (filled (λ f. max (get_or lengths f 0) (landed_end F v f ws)) lengths) (omega arith)
    where
      one : (b : Bool) → raises F v ws n ≡ b → land_lengths (raising F v ws b n) (filled (λ f. max (get_or lengths f 0)
          (landed_end F v f ws)) lengths n) ≡ filled (λ f. max (get_or lengths f 0) (landed_end F v f ws)) lengths (n + 1)
      one true q = let k = ltb-true (v (file_length n)) (landed_end F v n ws) q in let a = h n in
          unfold land_lengths land_length in
          filled-set (λ f. max (get_or lengths f 0) (landed_end F v f ws)) lengths n (landed_end F v n ws) (omega arith)
          (omega arith)
      one false q = let k = ltb-false (v (file_length n)) (landed_end F v n ws) q in let a = h n in unfold land_lengths in
          filled-preserved (λ f. max (get_or lengths f 0) (landed_end F v f ws)) lengths n 0 (omega arith) (omega arith)

  pub lengths-table : (lengths : List ℕ) → length lengths ≡ file_count → ((f : ℕ) → v (file_length f) ≡ get_or lengths f 0)
      → land_lengths (length_settings F v ws 8) lengths ≡ tabulate (λ f. max (get_or lengths f 0) (landed_end F v f ws)) file_count
  lengths-table lengths e h = lengths-filled lengths e h 8 (omega arith)
      ∙ filled-all (λ f. max (get_or lengths f 0) (landed_end F v f ws)) lengths 8 (omega arith)

-- ---- the lengths put into a state, one after another

module _ (before state after : List ℕ) (g : ℕ → ℕ) (f : ℕ) (few : f < file_count) where
  pub length-put : Means before state (with_lengths (filled g (store_of before).lengths f) (store_of before)) → after
      ≡ with_length_at state f (g f)
      → Means before after (with_lengths (filled g (store_of before).lengths (f + 1)) (store_of before))
  length-put so e = record {
    store = ap store_of e ∙ store-with-length state so.long f (g f) few ∙ ap (λ (s : StoreMeaning). with_lengths
        (set s.lengths f (g f)) s) so.store ∙ ap (λ (ls : List ℕ). with_lengths ls (store_of before))
        (filled-set g (store_of before).lengths f (g f) (omega (arith, (shaped before).lengths)) refl);
    journal = ap journal_of e ∙ journal-with-length state so.long f (g f) ∙ so.journal;
    long = ap length e ∙ length-set state _ (g f) ∙ so.long;
  }
