-- An accepted step leaves a transaction in range, and its writes with the bytes that they had; a Write adds one.
use mathlib.Core.{Bool.{Bool, true, false, cond}, List.{List, [], ◌∷◌, ◌++◌, map, map-append}, Path.{◌≡◌, refl, sym, ap, ◌∙◌}}
use borrow.Author.Tests.{leb-true, eqb-true, eqb-false, eq-eqb}
use lib.{Dec.{leb, eqb}, ListN.{length, get_or, length-append, length-map}}
use native.Mathlib.Omega.{arith}
use Prim.Native.Nat.{ℕ, ◌+◌, ◌≤◌, ◌<◌}
use Rattle.limits.specs.Limits.{file_bytes, descriptor_count, last_descriptor, record_count, log_bytes}
use Rattle.standings.specs.declared.{Standing.{Standing, TheVariants.Untouched}}
use Rattle.standings.specs.Table.{place_number, advance, settled, after_seek, after_write, after_read, pointer_settles, read_settles}
use Rattle.standings.specs.Table.{offset_of, write_place}
use Rattle.state.specs.Outcomes.{Said}
use Rattle.admission.specs.Admission.{standing_in, place_in}
use Rattle.spec.specs.Items.{offset, file_length, Values, Prog, done, and_then, result}
use Rattle.spec.specs.Transactions.{Txn, Write, put, with_writes, dirtied, placed_at, place_write, settle, those, Settled}
use Rattle.spec.specs.{Transactions.{past, all, settling}, Reading.gather, Messages.{Op, seek, write, get_file_pointer, read}}
use Rattle.spec.specs.Steps.{Stepped, accept, check, or_given_back, total, written, seek_step, write_step, pointer_step}
use Rattle.spec.specs.{Steps.{settled_by_read, read_settled, read_step, step}, Machine.no_write}
use Rattle.spec.proofs.{Abstract.{Programs.result-and_then, Gathers.length-gather}, Refinement.Relation.{WriteIn, TxnIn}}
use Rattle.spec.proofs.Refinement.{WriteEnds.length-for, IndexedLists.{every-snoc, get_d_map}}
use Rattle.spec.proofs.Refinement.Chosen.{DescriptorsIn, one_in, those-in}
use Rattle.spec.proofs.Refinement.StandingRanges.{EndsPreserved, seek-in, write-in, read-in, settled-in, seek-ends}
use Rattle.spec.proofs.Refinement.StandingRanges.{write-ends, read-ends, place-preserved, place-settled, place-written}

-- The bytes of writes, which the log holds one after the other.
abbrev pub pieces : List Write → List (List ℕ)
pieces ws = map (λ w. w.bytes) ws

pub total-append : (ws : List Write) (w : Write) → total (ws ++ (w ∷ [])) ≡ total ws + length w.bytes
unfolding total
total-append [] w = omega arith
total-append (x ∷ ws) w = let e = total-append ws w in omega arith

-- What holds at every descriptor but one, and of the new value there.
put-case : {A : Type 0} (P : ℕ → A → Type 0) (d : ℕ) (z : A) (f : ℕ → A) → P d z → ((e : ℕ) → (e ≡ d → ⊥) → P e (f e)) → (e : ℕ)
    → P e (put d z f e)
unfolding put
put-case P d z f here elsewhere e = pick (eqb e d) refl
  where
    pick : (b : Bool) → eqb e d ≡ b → P e (cond b z (f e))
    pick true q = rw (eqb-true e d q) here
    pick false q = elsewhere e (eqb-false e d q)

-- ---- one descriptor changed, one write added

dirtied-in : (d : ℕ) (z : Standing) (x : Txn) → d < descriptor_count → standing_in z ≡ true → EndsPreserved (x.standing d) z
    → TxnIn x → TxnIn (dirtied d z x)
dirtied-in d z x small zin ends h = record {
  standings = put-case (λ (e : ℕ) (y : Standing). standing_in y ≡ true) d z x.standing zin (λ e ne. h.standings e);
  above = put-case (λ (e : ℕ) (y : Standing). 16 ≤ e → y ≡ Untouched) d z x.standing (λ g. absurd (omega arith))
      (λ e ne. h.above e);
  clean = put-case (λ (e : ℕ) (b : Bool). 16 ≤ e → b ≡ false) d true x.dirty (λ g. absurd (omega arith))
      (λ e ne. h.clean e);
  records = h.records;
  bytes = h.bytes;
  writes = λ k g. let w = get_or x.writes k no_write in record {
    descriptor = (h.writes k g).descriptor;
    place = place-preserved (x.standing w.descriptor) (put d z x.standing w.descriptor) w.place
        (length w.bytes) (put-case (λ (e : ℕ) (y : Standing). EndsPreserved (x.standing e) y) d z x.standing ends
        (λ e ne end q. q) w.descriptor) (h.writes k g).place;
  };
}

append-in : (w : Write) (x : Txn) → WriteIn x w → length x.writes + 1 ≤ record_count
    → total x.writes + length w.bytes ≤ log_bytes → TxnIn x → TxnIn (with_writes (x.writes ++ (w ∷ [])) x)
append-in w x win few small h = let y : Txn = with_writes (x.writes ++ (w ∷ [])) x in record {
  standings = h.standings;
  above = h.above;
  clean = h.clean;
  records = rw length-append few;
  bytes = rw total-append small;
  writes = every-snoc (λ (w : Write). WriteIn y w) x.writes w no_write
      (λ k g. record { descriptor = (h.writes k g).descriptor; place = (h.writes k g).place })
      (record { descriptor = win.descriptor; place = win.place });
}

-- A new write lies in range under the standing that it leaves.
new_in : (d : ℕ) (bytes : List ℕ) (x : Txn) → d < descriptor_count → place_number (write_place (x.standing d)) + length
    bytes ≤ log_bytes → WriteIn (dirtied d (after_write (length bytes) (x.standing d)) x)
    (record { descriptor = d; place = write_place (x.standing d); bytes = bytes })
new_in d bytes x low small = unfold put in
    record { descriptor = low; place = rw (eq-eqb d d refl) (place-written (length bytes) (x.standing d) small) }

-- ---- settling

total-placed : (d c : ℕ) (ws : List Write) → total (map (place_write d c) ws) ≡ total ws
unfolding total place_write
total-placed d c [] = refl
total-placed d c (w ∷ ws) = ap (λ (n : ℕ). length w.bytes + n) (total-placed d c ws)

pieces-placed : (d c : ℕ) (ws : List Write) → pieces (map (place_write d c) ws) ≡ pieces ws
unfolding place_write
pieces-placed d c [] = refl
pieces-placed d c (w ∷ ws) = ap (λ (l : List (List ℕ)). w.bytes ∷ l) (pieces-placed d c ws)

write-settled : (d c : ℕ) (x : Txn) (w : Write) → c + advance (x.standing d) ≤ file_bytes → WriteIn x w
    → WriteIn (settle d c x) (place_write d c w)
unfolding settle place_write put
write-settled d c x w small h = record { descriptor = h.descriptor; place = pick (eqb w.descriptor d) refl }
  where
    pick : (b : Bool) → eqb w.descriptor d ≡ b → place_in (cond b (settled c (x.standing d))
        (x.standing w.descriptor)) (cond b (placed_at c w.place) w.place) (length w.bytes) ≡ true
    pick true e = place-settled c (x.standing w.descriptor) (settled c (x.standing d)) w.place (length w.bytes)
        (rw (eqb-true w.descriptor d e) small) h.place
    pick false e = h.place

settle-in : (d c : ℕ) (x : Txn) → d < descriptor_count → c + advance (x.standing d) ≤ file_bytes → TxnIn x → TxnIn (settle d c x)
settle-in d c x low small h = unfold settle in record {
  standings = put-case (λ (e : ℕ) (y : Standing). standing_in y ≡ true) d (settled c (x.standing d)) x.standing
      (settled-in c (x.standing d) small (h.standings d)) (λ e ne. h.standings e);
  above = put-case (λ (e : ℕ) (y : Standing). 16 ≤ e → y ≡ Untouched) d (settled c (x.standing d)) x.standing
      (λ g. absurd (omega arith)) (λ e ne. h.above e);
  clean = h.clean;
  records = rw length-map h.records;
  bytes = rw total-placed h.bytes;
  writes = λ k g. let l : k < length x.writes = rw length-map at g in
      rw (get_d_map (place_write d c) x.writes no_write no_write k l)
      (write-settled d c x (get_or x.writes k no_write) small (h.writes k l));
}

-- A transaction in range whose writes have these bytes.
pub record Preserved (ps : List (List ℕ)) (y : Txn) : Type 0 where
  pub ranges : TxnIn y
  pub same : pieces y.writes ≡ ps

pub settling-preserved : (v : Values) (ds : List ℕ) (x y : Txn) (ps : List (List ℕ)) → DescriptorsIn ds → Preserved ps x
    → result v (settling ds x) ≡ all y → Preserved ps y
unfolding settling result settle
settling-preserved v [] x y ps low h e = let q : y ≡ x = cc in rw q h
settling-preserved v (d ∷ ds) x y ps low h e = pick (λ h. settling-preserved v ds (settle d (v (offset d)) x) y ps low.1
    h) (leb (v (offset d) + advance (x.standing d)) file_bytes) refl e
  where
    next : Txn
    next = settle d (v (offset d)) x

    pick : (Preserved ps next → result v (settling ds next) ≡ all y → Preserved ps y) → (b : Bool) → leb (v (offset d)
        + advance (x.standing d)) file_bytes ≡ b → result v (cond b (settling ds next) (done past)) ≡ all y → Preserved ps y
    pick later true q r = later (record {
      ranges =
          settle-in d (v (offset d)) x low.0 (leb-true (v (offset d) + advance (x.standing d)) file_bytes q) h.ranges;
      same = pieces-placed d (v (offset d)) x.writes ∙ h.same;
    }) r
    pick later false q r = let z : ◌≡◌ {A = ℕ} 0 1 = cc in absurd (omega arith)

-- ---- a step

-- The bytes of the writes after an accepted step: a Write adds its own, every other call keeps them.
abbrev pub pieces_after : Op → List (List ℕ) → List (List ℕ)
pieces_after (seek d v) ps = ps
pieces_after (write d bytes) ps = ps ++ (bytes ∷ [])
pieces_after (get_file_pointer d) ps = ps
pieces_after (read d n buffer) ps = ps

module _ (v : Values) (bounded : (f : ℕ) → v (file_length f) ≤ file_bytes) where
  -- A program that, if it accepts, ends in such a transaction.
  Ends : List (List ℕ) → Prog Stepped → Type 0
  Ends ps p = (y : Txn) (a : Said) (b : List ℕ) → result v p ≡ accept y a b → Preserved ps y

  ends-done : (ps : List (List ℕ)) (x : Txn) (a : Said) (b : List ℕ) → Preserved ps x → Ends ps (done (accept x a b))
  unfolding Ends result
  ends-done ps x a b h y a₁ b₁ e = let q : y ≡ x = cc in rw q h

  ends-check : (ps : List (List ℕ)) (t : Bool) (n : ℕ) (p : Prog Stepped) → (t ≡ true → Ends ps p) → Ends ps (check t n p)
  unfolding Ends check result
  ends-check ps true n p h y a b e = h refl y a b e
  ends-check ps false n p h y a b e = let z : ◌≡◌ {A = ℕ} 0 1 = cc in absurd (omega arith)

  ends-and_then : {A : Type 0} (ps : List (List ℕ)) (p : Prog A) (k : A → Prog Stepped) → Ends ps (k (result v p))
      → Ends ps (and_then p k)
  unfolding Ends
  ends-and_then ps p k h y a b e = h y a b (sym (result-and_then v p k) ∙ e)

  ends-settling : (ps : List (List ℕ)) (ds : List ℕ) (x : Txn) (next : Txn → Prog Stepped) → DescriptorsIn ds → Preserved ps x
      → ((y : Txn) → Preserved ps y → Ends ps (next y)) → Ends ps (and_then (settling ds x) (or_given_back next))
  unfolding Ends or_given_back result
  ends-settling ps ds x next low h k =
      ends-and_then ps (settling ds x) (or_given_back next) (pick (result v (settling ds x)) refl)
    where
      pick : (s : Settled) → result v (settling ds x) ≡ s → Ends ps (or_given_back next s)
      pick past e = λ y a b q. let z : ◌≡◌ {A = ℕ} 0 1 = cc in absurd (omega arith)
      pick (all y) e = k y (settling-preserved v ds x y ps low h e)

  ends-seek : (d u : ℕ) (x : Txn) → TxnIn x → Ends (pieces x.writes) (seek_step d u x)
  unfolding seek_step
  ends-seek d u x h = ends-check _ (leb d last_descriptor) 6 _ (λ e. ends-check _ (leb u file_bytes) 8 _
      (λ f. let low = leb-true d last_descriptor e in ends-done _ (dirtied d (after_seek u (x.standing d)) x) _ _ (record {
        ranges = dirtied-in d (after_seek u (x.standing d)) x (omega arith)
            (seek-in u (x.standing d) (leb-true u file_bytes f) (h.standings d)) (seek-ends u (x.standing d)) h;
        same = refl;
      })))

  ends-write : (d : ℕ) (bytes : List ℕ) (x : Txn) → TxnIn x → Ends (pieces x.writes ++ (bytes ∷ [])) (write_step d bytes x)
  ends-write d bytes x h = unfold write_step written in let z = x.standing d in let n = length bytes in
      let w : Write = record { descriptor = d; place = write_place z; bytes = bytes } in
      ends-check _ (leb d last_descriptor) 6 _ (λ e. ends-check _ (leb (place_number (write_place z) + n) file_bytes) 9 _
      (λ f. ends-check _ (leb (length x.writes + 1) record_count) 10 _
      (λ g. ends-check _ (leb (total x.writes + n) log_bytes) 11 _ (λ i. let low = leb-true d last_descriptor e in
      let small = leb-true (place_number (write_place z) + n) file_bytes f in ends-done _ (written d bytes x) _ _ (record {
        ranges = append-in w (dirtied d (after_write n z) x) (new_in d bytes x (omega arith) small)
            (leb-true (length x.writes + 1) record_count g) (leb-true (total x.writes + n) log_bytes i)
            (dirtied-in d (after_write n z) x (omega arith) (write-in n z small (h.standings d)) (write-ends n z) h);
        same = map-append (λ w. w.bytes) x.writes (w ∷ []);
      })))))

  ends_read : (ps : List (List ℕ)) (file_of : ℕ → ℕ) (d n : ℕ) (buffer : List ℕ) (y : Txn) → d < descriptor_count → Preserved ps y
      → Ends ps (read_settled file_of d n buffer y)
  unfolding read_settled
  ends_read ps file_of d n buffer y low h = let p = gather file_of y.writes (file_of d) (offset_of (y.standing d)) n in
      let m = length (result v p) in let e = length-gather file_of y.writes (file_of d) (offset_of (y.standing d)) n v in
      let l = length-for file_of (file_of d) y (v (file_length (file_of d))) (bounded (file_of d)) h.ranges in
      ends-and_then ps p _ (ends-done ps (dirtied d (after_read m (y.standing d)) y) _ _ (record {
        ranges = dirtied-in d (after_read m (y.standing d)) y low
            (read-in m (y.standing d) (omega arith) (h.ranges.standings d)) (read-ends m (y.standing d)) h.ranges;
        same = h.same;
      }))

  ends-step : (file_of : ℕ → ℕ) (o : Op) (x : Txn) → TxnIn x → Ends (pieces_after o (pieces x.writes)) (step file_of o x)
  unfolding step pointer_step read_step settled_by_read
  ends-step file_of (seek d u) x h = ends-seek d u x h
  ends-step file_of (write d bytes) x h = ends-write d bytes x h
  ends-step file_of (get_file_pointer d) x h = ends-check _ (leb d last_descriptor) 6 _ (λ e. let low =
      leb-true d last_descriptor e in ends-settling _ (cond (pointer_settles (x.standing d)) (d ∷ []) []) x _ (one_in
      (pointer_settles (x.standing d)) d (omega arith)) (record { ranges = h; same = refl }) (λ y k. ends-done _ y _ _ k))
  ends-step file_of (read d n buffer) x h = ends-check _ (leb d last_descriptor) 6 _
      (λ e. ends-check _ (leb n (length buffer)) 7 _ (λ f. let low = leb-true d last_descriptor e in ends-settling _
      (those (λ e. read_settles (eqb (file_of e) (file_of d)) (eqb e d) (x.standing e)) 16) x _
      (those-in (λ e. read_settles (eqb (file_of e) (file_of d)) (eqb e d) (x.standing e)) 16 (omega arith))
      (record { ranges = h; same = refl }) (λ y k. ends_read _ file_of d n buffer y (omega arith) k)))

pub step-preserved : (file_of : ℕ → ℕ) (v : Values) → ((f : ℕ) → v (file_length f) ≤ file_bytes)
    → (o : Op) (x y : Txn) (a : Said) (b : List ℕ) → TxnIn x → result v (step file_of o x) ≡ accept y a b
    → Preserved (pieces_after o (pieces x.writes)) y
step-preserved file_of v bounded o x y a b h e = unfold Ends in ends-step v bounded file_of o x h y a b e
