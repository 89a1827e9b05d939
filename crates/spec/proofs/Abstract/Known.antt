-- A descriptor stands Known after an accepted step exactly when it stood so before or its offset was asked for.
use mathlib.Core.{Bool.{Bool, true, false, cond, ◌||◌, or_assoc, or-false, or-true}, List.{List, [], ◌∷◌, ◌++◌}}
use mathlib.Core.Path.{◌≡◌, refl, ap, sym, ◌∙◌}
use borrow.Author.Tests.{eqb-true}
use lib.{Dec.{eqb, leb, ltb}, ListN.length}
use Prim.Native.Nat.{ℕ, zero, suc, ◌+◌, ◌-◌, ◌*◌, min}
use Rattle.limits.specs.Limits.{file_bytes}
use Rattle.standings.specs.declared.{Standing.{Standing, TheVariants.{Untouched, Placed, Deferred, Moved, Known}}}
use Rattle.standings.specs.Table.{is_known, settled, advance, after_seek, after_write, after_read, pointer_settles, read_settles}
use Rattle.standings.specs.Table.{offset_of}
use Rattle.state.specs.Outcomes.{Said}
use Rattle.spec.specs.Items.{offset, file_length, same, Values, Prog, done, and_then, result, asked}
use Rattle.spec.specs.Transactions.{Txn, Write, put, settle, those, Settled, past, all, settling}
use Rattle.spec.specs.Reading.{Source, own, file, bring, latest, fetch, length_for, length_sighted, gather}
use Rattle.spec.specs.Messages.{Op, seek, write, get_file_pointer, read}
use Rattle.spec.specs.Steps.{Stepped, accept, check, or_given_back, written, seek_step, write_step, pointer_step, settled_by_read}
use Rattle.spec.specs.Steps.{read_settled, read_step, step}
use Rattle.spec.proofs.Abstract.{AbstractStore.among, Programs.{result-and_then, among-and_then, none-and_then}}

-- A standing that settling makes Known.
unfoldable Settleable : Standing → Type 0
Settleable z = (c : ℕ) → is_known (settled c z) ≡ true

-- Each of a list of descriptors has a standing that settling makes Known.
unfoldable Each : Txn → List ℕ → Type 0
Each x [] = Unit {0}
Each x (d ∷ ds) = Settleable (x.standing d) × Each x ds

each_append : (x : Txn) (ds es : List ℕ) → Each x ds → Each x es → Each x (ds ++ es)
unfolding Each
each_append x [] es h k = k
each_append x (d ∷ ds) es h k = (h.0, each_append x ds es h.1 k)

-- `those` holds only numbers that pass the test.
each-one : (x : Txn) (n : ℕ) (b : Bool) → (b ≡ true → Settleable (x.standing n)) → Each x (cond b (n ∷ []) [])
unfolding Each
each-one x n true h = (h refl, tt)
each-one x n false h = tt

each-those : (x : Txn) (p : ℕ → Bool) → ((e : ℕ) → p e ≡ true → Settleable (x.standing e)) → (n : ℕ) → Each x (those p n)
unfolding Each those
each-those x p h zero = tt
each-those x p h (suc n) = each_append x (those p n) (cond (p n) (n ∷ []) []) (each-those x p h n) (each-one x n (p n) (h n))

pointer-settleable : (z : Standing) → pointer_settles z ≡ true → Settleable z
unfolding Settleable settled
pointer-settleable Untouched h c = refl
pointer-settleable (Placed o) h c = h
pointer-settleable (Deferred a) h c = refl
pointer-settleable (Moved a o) h c = refl
pointer-settleable (Known o) h c = refl

read-settleable : (f i : Bool) (z : Standing) → read_settles f i z ≡ true → Settleable z
unfolding Settleable settled
read-settleable f i Untouched h c = refl
read-settleable f i (Placed o) h c = h
read-settleable f i (Deferred a) h c = refl
read-settleable f i (Moved a o) h c = refl
read-settleable f i (Known o) h c = refl

-- What is Known stays so when settled.
settled-settleable : (k : ℕ) (z : Standing) → Settleable z → Settleable (settled k z)
unfolding Settleable settled
settled-settleable k Untouched h c = refl
settled-settleable k (Placed o) h c = h c
settled-settleable k (Deferred a) h c = refl
settled-settleable k (Moved a o) h c = refl
settled-settleable k (Known o) h c = refl

-- The three columns that leave a standing Known or not.
seek-known : (v : ℕ) (z : Standing) → is_known (after_seek v z) ≡ is_known z
unfolding after_seek
seek-known v Untouched = refl
seek-known v (Placed o) = refl
seek-known v (Deferred a) = refl
seek-known v (Moved a o) = refl
seek-known v (Known o) = refl

write_known : (n : ℕ) (z : Standing) → is_known (after_write n z) ≡ is_known z
unfolding after_write
write_known n Untouched = refl
write_known n (Placed o) = refl
write_known n (Deferred a) = refl
write_known n (Moved a o) = refl
write_known n (Known o) = refl

read_known : (n : ℕ) (z : Standing) → is_known (after_read n z) ≡ is_known z
unfolding after_read
read_known n Untouched = refl
read_known n (Placed o) = refl
read_known n (Deferred a) = refl
read_known n (Moved a o) = refl
read_known n (Known o) = refl

-- A standing put for e changes at d only where d is e.
put-known : (e d : ℕ) (z : Standing) (s : ℕ → Standing) → is_known z ≡ is_known (s e) → is_known (put e z s d) ≡ is_known (s d)
unfolding put
put-known e d z s h = chosen (eqb d e) refl
  where
    chosen : (t : Bool) → eqb d e ≡ t → is_known (cond t z (s d)) ≡ is_known (s d)
    chosen true q = h ∙ ap (λ (k : ℕ). is_known (s k)) (sym (eqb-true d e q))
    chosen false q = refl

-- Settling e makes e Known and leaves every other standing.
settle-known : (e c : ℕ) (x : Txn) → Settleable (x.standing e) → (d : ℕ)
    → is_known ((settle e c x).standing d) ≡ (is_known (x.standing d) || same (offset d) (offset e))
unfolding settle put Settleable same
settle-known e c x h d = chosen (eqb d e)
  where
    chosen : (t : Bool) → is_known (cond t (settled c (x.standing e)) (x.standing d)) ≡ (is_known (x.standing d) || t)
    chosen true = h c ∙ sym (or-true (is_known (x.standing d)))
    chosen false = sym (or-false (is_known (x.standing d)))

settle-settleable : (e c : ℕ) (x : Txn) (d : ℕ) → Settleable (x.standing e) → Settleable (x.standing d)
    → Settleable ((settle e c x).standing d)
unfolding settle put
settle-settleable e c x d he hd = chosen (eqb d e)
  where
    chosen : (t : Bool) → Settleable (cond t (settled c (x.standing e)) (x.standing d))
    chosen true = settled-settleable c (x.standing e) he
    chosen false = hd

settle-each : (e c : ℕ) (x : Txn) (ds : List ℕ) → Settleable (x.standing e) → Each x ds → Each (settle e c x) ds
unfolding Each
settle-each e c x [] he h = tt
settle-each e c x (d ∷ ds) he h = (settle-settleable e c x d he h.0, settle-each e c x ds he h.1)

-- Settling a list of descriptors: those Known after it were so before, or were asked for.
settling-known : (v : Values) (ds : List ℕ) (x y : Txn) → Each x ds → result v (settling ds x) ≡ all y
    → (d : ℕ) → is_known (y.standing d) ≡ (is_known (x.standing d) || among (offset d) (asked v (settling ds x)))
unfolding settling result asked among Each
settling-known v [] x y h e d = let q : y ≡ x = cc in
    ap (λ (z : Txn). is_known (z.standing d)) q ∙ sym (or-false (is_known (x.standing d)))
settling-known v (d ∷ ds) x y h e k = chosen (settling-known v ds next y (settle-each d (v (offset d)) x ds h.0 h.1))
    (leb (v (offset d) + advance (x.standing d)) file_bytes) e
  where
    next : Txn
    next = settle d (v (offset d)) x

    chosen : (result v (settling ds next) ≡ all y → (j : ℕ) → is_known
        (y.standing j) ≡ (is_known (next.standing j) || among (offset j) (asked v (settling ds next)))) → (t : Bool)
        → result v (cond t (settling ds next) (done past)) ≡ all y → is_known (y.standing k) ≡ (is_known (x.standing k)
        || (same (offset k) (offset d) || among (offset k) (asked v (cond t (settling ds next) (done past)))))
    chosen rest true q = rest q k
        ∙ ap (λ (b : Bool). b || among (offset k) (asked v (settling ds next))) (settle-known d (v (offset d)) x h.0 k)
        ∙ or_assoc (is_known (x.standing k)) (same (offset k) (offset d)) (among (offset k) (asked v (settling ds next)))
    chosen rest false q = cc

-- A byte is no offset, so fetching asks for no offset.
bring-among : (v : Values) (d : ℕ) (s : Source) (q : ℕ) → among (offset d) (asked v (bring s q)) ≡ false
unfolding bring asked among same
bring-among v d (own b) q = refl
bring-among v d file q = refl

fetch-among : (v : Values) (d : ℕ) (file_of : ℕ → ℕ) (ws : List Write) (f p n : ℕ)
    → among (offset d) (asked v (fetch file_of ws f p n)) ≡ false
unfolding fetch asked among
fetch-among v d file_of ws f p zero = refl
fetch-among v d file_of ws f p (suc n) = none-and_then v (offset d) (bring (latest file_of f p ws) (file_bytes * f + p)) _
    (bring-among v d (latest file_of f p ws) (file_bytes * f + p))
    (λ b. none-and_then v (offset d) (fetch file_of ws f (suc p) n) _ (fetch-among v d file_of ws f (suc p) n) (λ bs. refl))

-- Nor is a length.
sighted-among : (v : Values) (d : ℕ) (b : Bool) (f : ℕ) (bytes : List ℕ) → among (offset d) (asked v (length_sighted b f bytes))
    ≡ false
unfolding length_sighted asked among same
sighted-among v d true f bytes = refl
sighted-among v d false f bytes = refl

gather-among : (v : Values) (d : ℕ) (file_of : ℕ → ℕ) (ws : List Write) (f p n : ℕ)
    → among (offset d) (asked v (gather file_of ws f p n)) ≡ false
gather-among v d file_of ws f p n = unfold gather asked in let m = min n (length_for file_of f ws (v (file_length f)) - p) in
    none-and_then v (offset d) (fetch file_of ws f p m) (length_sighted (ltb m n) f) (fetch-among v d file_of ws f p m)
    (sighted-among v d (ltb m n) f)

module _ (v : Values) where
  -- What known_step says, of a program that starts at transaction x.
  unfoldable Keeps : Txn → Prog Stepped → Type 0
  Keeps x p = (y : Txn) (a : Said) (b : List ℕ) → result v p ≡ accept y a b → (d : ℕ)
      → is_known (y.standing d) ≡ (is_known (x.standing d) || among (offset d) (asked v p))

  keeps-check : (x : Txn) (t : Bool) (n : ℕ) (p : Prog Stepped) → Keeps x p → Keeps x (check t n p)
  unfolding Keeps check result asked
  keeps-check x true n p h y a b e d = h y a b e d
  keeps-check x false n p h y a b e d = cc

  -- A program that asks for nothing and puts one standing, which stays Known or not.
  keeps-put : (x : Txn) (e : ℕ) (z : Standing) (f : ℕ → Bool) (ws : List Write) (a : Said) (b : List ℕ) → is_known z
      ≡ is_known (x.standing e)
      → Keeps x (done (accept (record { standing = put e z x.standing; dirty = f; writes = ws }) a b))
  unfolding Keeps result asked among
  keeps-put x e z f ws a b h y a₁ b₁ q d =
      let s : y ≡ record { standing = put e z x.standing; dirty = f; writes = ws } = cc in
      ap (λ (w : Txn). is_known (w.standing d)) s ∙ put-known e d z x.standing h ∙ sym (or-false (is_known (x.standing d)))

  -- A program that does nothing but answer.
  keeps-done : (x : Txn) (a : Said) (b : List ℕ) → Keeps x (done (accept x a b))
  unfolding Keeps result asked among
  keeps-done x a b y a₁ b₁ q d = let s : y ≡ x = cc in
      ap (λ (w : Txn). is_known (w.standing d)) s ∙ sym (or-false (is_known (x.standing d)))

  -- A program that asks for no offset, then another.
  keeps-after : {A : Type 0} (x : Txn) (p : Prog A) (k : A → Prog Stepped) → ((d : ℕ) → among (offset d) (asked v p) ≡ false)
      → ((r : A) → Keeps x (k r)) → Keeps x (and_then p k)
  unfolding Keeps
  keeps-after x p k none h y a b q d = h (result v p) y a b (sym (result-and_then v p k) ∙ q) d
      ∙ ap (λ (t : Bool). is_known (x.standing d) || (t || among (offset d) (asked v (k (result v p))))) (sym (none d))
      ∙ ap (λ (t : Bool). is_known (x.standing d) || t) (sym (among-and_then v (offset d) p k))

  -- Settling, then a program that starts at what was settled.
  keeps-settling : (x : Txn) (ds : List ℕ) (next : Txn → Prog Stepped) → Each x ds → ((y : Txn) → Keeps y (next y))
      → Keeps x (and_then (settling ds x) (or_given_back next))
  unfolding Keeps or_given_back result
  keeps-settling x ds next h k y a b q d =
      chosen (result v (settling ds x)) refl (sym (result-and_then v (settling ds x) (or_given_back next)) ∙ q)
      ∙ ap (λ (t : Bool). is_known (x.standing d) || t) (sym (among-and_then v (offset d) (settling ds x) (or_given_back next)))
    where
      chosen : (s : Settled) → result v (settling ds x) ≡ s → result v (or_given_back next s) ≡ accept y a b
          → is_known (y.standing d) ≡ (is_known (x.standing d)
          || (among (offset d) (asked v (settling ds x)) || among (offset d) (asked v (or_given_back next s))))
      chosen past e r = cc
      chosen (all z) e r = k z y a b r d
          ∙ ap (λ (t : Bool). t || among (offset d) (asked v (next z))) (settling-known v ds x z h e d) ∙ or_assoc
          (is_known (x.standing d)) (among (offset d) (asked v (settling ds x))) (among (offset d) (asked v (next z)))

  keeps-read : (file_of : ℕ → ℕ) (d n : ℕ) (buffer : List ℕ) (y : Txn) → Keeps y (read_settled file_of d n buffer y)
  unfolding read_settled
  keeps-read file_of d n buffer y = keeps-after y (gather file_of y.writes (file_of d) (offset_of (y.standing d)) n) _
      (λ e. gather-among v e file_of y.writes (file_of d) (offset_of (y.standing d)) n)
      (λ bytes. keeps-put y d _ _ y.writes _ _ (read_known (length bytes) (y.standing d)))

  keeps-step : (file_of : ℕ → ℕ) (o : Op) (x : Txn) → Keeps x (step file_of o x)
  unfolding step seek_step write_step pointer_step read_step written settled_by_read
  keeps-step file_of (seek d u) x = keeps-check x _ _ _
      (keeps-check x _ _ _ (keeps-put x d _ _ x.writes _ _ (seek-known u (x.standing d))))
  keeps-step file_of (write d bytes) x = keeps-check x _ _ _ (keeps-check x _ _ _
      (keeps-check x _ _ _ (keeps-check x _ _ _ (keeps-put x d _ _ _ _ _ (write_known (length bytes) (x.standing d))))))
  keeps-step file_of (get_file_pointer d) x = keeps-check x _ _ _ (keeps-settling x _ _
      (each-one x d (pointer_settles (x.standing d)) (pointer-settleable (x.standing d))) (λ y. keeps-done y _ _))
  keeps-step file_of (read d n buffer) x = keeps-check x _ _ _ (keeps-check x _ _ _
      (keeps-settling x _ _ (each-those x _ (λ e. read-settleable (eqb (file_of e) (file_of d)) (eqb e d) (x.standing e)) 16)
      (λ y. keeps-read file_of d n buffer y)))

pub known_step : (file_of : ℕ → ℕ) (v : Values) (o : Op) (x y : Txn) (a : Said) (b : List ℕ) → result v (step file_of o x)
    ≡ accept y a b
    → (d : ℕ) → is_known (y.standing d) ≡ (is_known (x.standing d) || among (offset d) (asked v (step file_of o x)))
known_step file_of v o x = unfold Keeps in keeps-step v file_of o x
