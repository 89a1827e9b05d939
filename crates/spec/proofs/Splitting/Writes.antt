-- The one fact, and what two lists of writes have in common that differ by a split: the latest write over a place, the farthest
-- end, what a commit sets, and the places after settling.
use mathlib.Core.Bool.{Bool, true, false, cond, ◌&&◌, ◌||◌, and-false, or_assoc, or_comm}
use mathlib.Core.{List.{List, [], ◌∷◌, ◌++◌, map, append_assoc}, Logic.{◌⊎◌, inl, inr}}
use mathlib.Core.Path.{◌≡◌, refl, sym, ap, ap₂, ◌∙◌, subst⁻¹}
use borrow.Author.Tests.{le-leb, lt-leb, lt-ltb, le-ltb}
use lib.{Dec.{leb, ltb, eqb}, ListN.{length, get_or, length-append, get_or-append}, Seq.get_or-append-add}
use native.Mathlib.Omega.{arith}
use Prim.Native.Nat.{ℕ, zero, suc, ◌+◌, ◌-◌, ◌*◌, ◌≤◌, ◌<◌, max}
use Rattle.limits.specs.Limits.{file_bytes}
use Rattle.buffers.{specs.Parts.{cut, pasted}, proofs.PartLaws.{le-or-lt, length-pasted}}
use Rattle.spec_undo.{specs.OldBytes.{Landing, landing, span_of, old_bytes, Inside}, proofs.OldBytesLaws.old-joined}
use Rattle.windows.specs.Windows.{Windows, is_closed_at}
use Rattle.standings.specs.declared.{Standing.{Standing, TheVariants.{Untouched, Placed, Deferred, Moved, Known}}, Place.Place}
use Rattle.standings.specs.{declared.Place.TheVariants.{At, After}, Table.{after_write, write_place}}
use Rattle.spec.specs.{Items.{byte, offset, file_length, Values}, Transactions.{Write, placed_at, place_write}}
use Rattle.spec.specs.Reading.{Source, own, file, lies_over, byte_at, supplies, or_else, latest, write_end, placed_end, farthest}
use Rattle.spec.specs.{Reading.own_end, Steps.total, Places.{some_write, covers_place, covered, no_place, unplaced_on, unplaced}}
use Rattle.spec.specs.Windows.{is_for_closed, for_closed}
use Rattle.spec.specs.Commits.{Setting, lands_at, bytes_from, byte_settings, landed_end, length_settings}
use Rattle.spec.specs.{Undo.{landing_of, landings_of}, Splitting.{further, through, Split, here, there}, Corollaries.AddsUp}

-- ---- the one fact

adding : (x m n : ℕ) → (x + m) + n ≡ x + (m + n)
adding x m n = omega arith

pub adds-up : (z : Standing) → AddsUp z
unfolding after_write write_place further
adds-up Untouched = record { standing = λ m n. refl; place = λ m. ap After (omega arith) }
adds-up (Placed o) = record { standing = λ m n. ap Placed (adding o m n); place = λ m. refl }
adds-up (Deferred a) = record { standing = λ m n. ap Deferred (adding a m n); place = λ m. refl }
adds-up (Moved a o) = record { standing = λ m n. ap (Moved a) (adding o m n); place = λ m. refl }
adds-up (Known o) = record { standing = λ m n. ap Known (adding o m n); place = λ m. refl }

-- ---- the latest write over a place

module _ (q n p : ℕ) where
  over-in : q ≤ p → p < q + n → lies_over (At q) n p ≡ true
  over-in g l = unfold lies_over in ap₂ (λ (a b : Bool). a && b) (le-leb q p g) (lt-ltb p (q + n) l)

  over-before : p < q → lies_over (At q) n p ≡ false
  over-before l = unfold lies_over in rw (lt-leb q p l)

  over-past : q + n ≤ p → lies_over (At q) n p ≡ false
  over-past l = unfold lies_over in rw (le-ltb p (q + n) l) (and-false (leb q p))

-- A place before a, in a, in b, or past b.
bytes-joined : (q : ℕ) (a b : List ℕ) (p : ℕ) → (q ≤ p) ⊎ (p < q) → (q + length a ≤ p) ⊎ (p < q + length a) → (q + length
    a + length b ≤ p) ⊎ (p < q + length a + length b) → or_else (cond (lies_over (At (q + length a)) (length b) p)
    (own (byte_at (At (q + length a)) b p)) file) (cond (lies_over (At q) (length a) p) (own (byte_at (At q) a p)) file) ≡ cond
    (lies_over (At q) (length (a ++ b)) p) (own (byte_at (At q) (a ++ b) p)) file
unfolding or_else byte_at
bytes-joined q a b p (inr l) k m =
    rw (over-before (q + length a) (length b) p (omega arith), over-before q (length a) p l, over-before q (length (a ++ b)) p l)
bytes-joined q a b p (inl g) (inr l) m =
    let e = length-append a b in
    rw (over-before (q + length a) (length b) p l, over-in q (length a) p g l, over-in q (length (a ++ b)) p g (omega arith))
    (ap own (sym (get_or-append a b 0 (p - q) (omega arith))))
bytes-joined q a b p (inl g) (inl k) (inr l) = let e = length-append a b in
    let f : p - q ≡ length a + (p - (q + length a)) = omega arith in
    rw (over-in (q + length a) (length b) p k l, over-in q (length (a ++ b)) p g (omega arith))
    (ap own (sym (ap (λ (i : ℕ). get_or (a ++ b) i 0) f ∙ get_or-append-add a b (p - (q + length a)) 0)))
bytes-joined q a b p (inl g) (inl k) (inl m) = let e = length-append a b in
    rw (over-past (q + length a) (length b) p m, over-past q (length a) p k, over-past q (length (a ++ b)) p (omega arith))

module _ (file_of : ℕ → ℕ) (f p : ℕ) where
  -- What the two supply together: b, or else a.
  supplies-joined : (d : ℕ) (q : Place) (a b : List ℕ) → or_else (supplies file_of f p (through d (further (length a) q) b))
      (supplies file_of f p (through d q a)) ≡ supplies file_of f p (through d q (a ++ b))
  unfolding supplies
  supplies-joined d q a b = of-file (eqb (file_of d) f) q
    where
      at_place : (q : Place) → or_else (cond (lies_over (further (length a) q) (length b) p)
          (own (byte_at (further (length a) q) b p)) file) (cond (lies_over q (length a) p) (own (byte_at q a p)) file) ≡ cond
          (lies_over q (length (a ++ b)) p) (own (byte_at q (a ++ b) p)) file
      at_place (At q) = unfold further in bytes-joined q a b p (le-or-lt q p) (le-or-lt (q + length a) p)
          (le-or-lt (q + length a + length b) p)
      at_place (After n) = unfold or_else lies_over further in refl

      of-file : (t : Bool) (q : Place) → or_else (cond (t && lies_over (further (length a) q) (length b) p)
          (own (byte_at (further (length a) q) b p)) file) (cond (t && lies_over q (length a) p) (own (byte_at q a p)) file)
          ≡ cond (t && lies_over q (length (a ++ b)) p) (own (byte_at q (a ++ b) p)) file
      of-file true q = at_place q
      of-file false q = unfold or_else in refl

  pub latest-split : (xs ys : List Write) → Split xs ys → latest file_of f p xs ≡ latest file_of f p ys
  unfolding latest or_else
  latest-split xs ys (here d q a b ws) = after (latest file_of f p ws)
    where
      after : (x : Source) → or_else (or_else x (supplies file_of f p (through d (further (length a) q) b)))
          (supplies file_of f p (through d q a)) ≡ or_else x (supplies file_of f p (through d q (a ++ b)))
      after (own n) = refl
      after file = supplies-joined d q a b
  latest-split xs ys (there w ws vs s) = ap (λ (x : Source). or_else x (supplies file_of f p w)) (latest-split ws vs s)

-- ---- the places covered, and writes without a place

is_own : Source → Bool
is_own (own b) = true
is_own file = false

module _ (file_of : ℕ → ℕ) (f : ℕ) where
  -- A place is covered where a write supplies it.
  covered-own : (p : ℕ) (ws : List Write) → covered file_of f ws p ≡ is_own (latest file_of f p ws)
  unfolding covered some_write latest is_own
  covered-own p [] = refl
  covered-own p (w ∷ ws) = ap (λ (b : Bool). covers_place file_of f p w || b) (covered-own p ws)
      ∙ or_comm (covers_place file_of f p w) (is_own (latest file_of f p ws)) ∙ either (latest file_of f p ws) w
    where
      chosen : (b : Bool) (n : ℕ) → b ≡ is_own (cond b (own n) file)
      chosen true n = unfold is_own in refl
      chosen false n = unfold is_own in refl

      either : (x : Source) (w : Write) → (is_own x || covers_place file_of f p w) ≡ is_own (or_else x (supplies file_of f p w))
      either (own n) w = unfold is_own or_else in refl
      either file w = unfold is_own or_else covers_place supplies in chosen
          (eqb (file_of w.descriptor) f && lies_over w.place (length w.bytes) p) (byte_at w.place w.bytes p)

  pub covered-split : (p : ℕ) (xs ys : List Write) → Split xs ys → covered file_of f xs p ≡ covered file_of f ys p
  covered-split p xs ys s = covered-own p xs ∙ ap is_own (latest-split file_of f p xs ys s) ∙ sym (covered-own p ys)

-- ---- tests of writes

-- A test that the joined write passes where one of the two does.
some-split : (test : Write → Bool) → ((d : ℕ) (q : Place) (a b : List ℕ)
    → (test (through d q a) || test (through d (further (length a) q) b)) ≡ test (through d q (a ++ b)))
    → (xs ys : List Write) → Split xs ys → some_write test xs ≡ some_write test ys
unfolding some_write
some-split test h xs ys (here d q a b ws) = sym (or_assoc (test (through d q a)) (test (through d (further (length a) q) b))
    (some_write test ws)) ∙ ap (λ (c : Bool). c || some_write test ws) (h d q a b)
some-split test h xs ys (there w ws vs s) = ap (λ (c : Bool). test w || c) (some-split test h ws vs s)

pub unplaced-split : (file_of : ℕ → ℕ) (f : ℕ) (xs ys : List Write) → Split xs ys → unplaced file_of f xs ≡ unplaced file_of f ys
unfolding unplaced unplaced_on
unplaced-split file_of f = some-split (unplaced_on file_of f)
    (λ d q a b. waiting (eqb (file_of d) f) q (length a))
  where
    waiting : (t : Bool) (q : Place) (n : ℕ) → ((t && no_place q) || (t && no_place (further n q))) ≡ (t && no_place q)
    waiting false q n = refl
    waiting true (At p) n = unfold no_place further in refl
    waiting true (After a) n = unfold no_place further in refl

pub closed-split : (file_of : ℕ → ℕ) (windows : Windows) (minute : ℕ) (xs ys : List Write) → Split xs ys
    → for_closed file_of windows minute xs ≡ for_closed file_of windows minute ys
unfolding for_closed
closed-split file_of windows minute = some-split (is_for_closed file_of windows minute)
    (λ d q a b. unfold is_for_closed in bytes-in a b (is_closed_at windows minute (file_of d)))
  where
    either : (c t : Bool) → (c || (t && c)) ≡ c
    either true t = refl
    either false t = and-false t

    bytes-in : (a b : List ℕ) (c : Bool) → ((ltb 0 (length a) && c) || (ltb 0 (length b) && c)) ≡ (ltb 0 (length (a ++ b)) && c)
    bytes-in [] b c = refl
    bytes-in (x ∷ a) b c =
        rw (lt-ltb 0 (suc (length a)) (omega arith), lt-ltb 0 (suc (length (a ++ b))) (omega arith)) (either c (ltb 0 (length b)))

-- ---- ends

-- A write of 0 bytes has none, on either side.
end-joined : (p : ℕ) (a b : List ℕ) → max (write_end p (length a)) (write_end (p + length a) (length b))
    ≡ write_end p (length (a ++ b))
unfolding write_end
end-joined p [] [] = omega arith
end-joined p [] (y ∷ b) = omega arith
end-joined p (x ∷ a) [] = let e = length-append a [] in omega arith
end-joined p (x ∷ a) (y ∷ b) = let e = length-append a (y ∷ b) in omega arith

module _ (file_of : ℕ → ℕ) (f : ℕ) where
  -- Any end of writes that adds up.
  farthest-split : (end : Write → ℕ) → ((d : ℕ) (q : Place) (a b : List ℕ)
      → max (end (through d q a)) (end (through d (further (length a) q) b)) ≡ end (through d q (a ++ b)))
      → (xs ys : List Write) → Split xs ys → farthest file_of f end xs ≡ farthest file_of f end ys
  unfolding farthest
  farthest-split end h xs ys (here d q a b ws) = pick (eqb (file_of d) f) (h d q a b)
    where
      pick : (t : Bool) → max (end (through d q a)) (end (through d (further (length a) q) b)) ≡ end (through d q (a ++ b))
          → max (cond t (end (through d q a)) 0) (max (cond t (end (through d (further (length a) q) b)) 0)
          (farthest file_of f end ws)) ≡ max (cond t (end (through d q (a ++ b))) 0) (farthest file_of f end ws)
      pick true e = omega arith
      pick false e = omega arith
  farthest-split end h xs ys (there w ws vs s) =
      ap (max (cond (eqb (file_of w.descriptor) f) (end w) 0)) (farthest-split end h ws vs s)

  pub own-end-split : (xs ys : List Write) → Split xs ys → own_end file_of f xs ≡ own_end file_of f ys
  unfolding own_end
  own-end-split = farthest-split (λ w. placed_end w.place (length w.bytes)) (λ d q a b. placed q a b)
    where
      placed : (q : Place) (a b : List ℕ) → max (placed_end q (length a)) (placed_end (further (length a) q) (length b))
          ≡ placed_end q (length (a ++ b))
      placed (At p) a b = unfold placed_end further in end-joined p a b
      placed (After n) a b = unfold placed_end further in omega arith

-- ---- what a commit sets

lands-further : (c n : ℕ) (q : Place) → lands_at c (further n q) ≡ lands_at c q + n
unfolding lands_at further
lands-further c n (At p) = refl
lands-further c n (After a) = sym (adding c a n)

interval-append : (q : ℕ) (a b : List ℕ) → bytes_from q (a ++ b) ≡ bytes_from q a ++ bytes_from (q + length a) b
unfolding bytes_from
interval-append q [] b = let e : q ≡ q + 0 = omega arith in ap (λ (k : ℕ). bytes_from k b) e
interval-append q (x ∷ a) b = let e : suc q + length a ≡ q + suc (length a) = omega arith in
    ap (λ (l : List Setting). record { item = byte q; to = x } ∷ l) (interval-append (suc q) a b
    ∙ ap (λ (k : ℕ). bytes_from (suc q) a ++ bytes_from k b) e)

old-after : (w : Landing) (ws vs : List Landing) (files : List ℕ) → let next = pasted files w.at w.bytes in
    old_bytes ws next ≡ old_bytes vs next → old_bytes (w ∷ ws) files ≡ old_bytes (w ∷ vs) files
old-after w ws vs files e = unfold old_bytes in ap (λ (l : List ℕ). cut files w.at (length w.bytes) ++ l) e

module _ (file_of : ℕ → ℕ) (v : Values) where
  -- The second write lands where the first ends.
  lands-behind : (d : ℕ) (q : Place) (n : ℕ)
      → file_bytes * file_of d + lands_at (v (offset d)) (further n q) ≡ file_bytes * file_of d + lands_at (v (offset d)) q + n
  lands-behind d q n = ap (λ (k : ℕ). file_bytes * file_of d + k) (lands-further (v (offset d)) n q)
      ∙ sym (adding (file_bytes * file_of d) (lands_at (v (offset d)) q) n)

  pub byte-settings-split : (xs ys : List Write) → Split xs ys → byte_settings file_of v xs ≡ byte_settings file_of v ys
  unfolding byte_settings
  byte-settings-split xs ys (here d q a b ws) = let p = file_bytes * file_of d + lands_at (v (offset d)) q in
      ap (λ (k : ℕ). bytes_from p a ++ (bytes_from k b ++ byte_settings file_of v ws)) (lands-behind d q (length a))
      ∙ sym (append_assoc (bytes_from p a) (bytes_from (p + length a) b) (byte_settings file_of v ws))
      ∙ ap (λ (l : List Setting). l ++ byte_settings file_of v ws) (sym (interval-append p a b))
  byte-settings-split xs ys (there w ws vs s) = ap (λ (l : List Setting). bytes_from (file_bytes * file_of
      w.descriptor + lands_at (v (offset w.descriptor)) w.place) w.bytes ++ l) (byte-settings-split ws vs s)

  -- They land on the same bytes.
  pub old-split : (xs ys : List Write) → Split xs ys → (files : List ℕ) → Inside (length files) (map span_of
      (landings_of file_of v ys)) → old_bytes (landings_of file_of v xs) files ≡ old_bytes (landings_of file_of v ys) files
  unfolding landing_of
  old-split xs ys (here d q a b ws) files h = let p = file_bytes * file_of d + lands_at (v (offset d)) q in
      ap (λ (k : ℕ). old_bytes (landing p a ∷ (landing k b ∷ landings_of file_of v ws)) files) (lands-behind d q (length a))
      ∙ old-joined p a b (landings_of file_of v ws) files h.0
  old-split xs ys (there w ws vs s) files h =
      let p = file_bytes * file_of w.descriptor + lands_at (v (offset w.descriptor)) w.place in
      old-after (landing p w.bytes) (landings_of file_of v ws) (landings_of file_of v vs) files
      (old-split ws vs s (pasted files p w.bytes) (rw (length-pasted files p w.bytes h.0) h.1))

  landed-end-split : (f : ℕ) (xs ys : List Write) → Split xs ys → landed_end file_of v f xs ≡ landed_end file_of v f ys
  unfolding landed_end
  landed-end-split f = farthest-split file_of f (λ w. write_end (lands_at (v (offset w.descriptor)) w.place)
      (length w.bytes)) (λ d q a b. ap (λ (k : ℕ). max (write_end (lands_at (v (offset d)) q) (length a))
      (write_end k (length b))) (lands-further (v (offset d)) (length a) q) ∙ end-joined (lands_at (v (offset d)) q) a b)

  pub length-settings-split : (xs ys : List Write) → Split xs ys → (n : ℕ) → length_settings file_of v xs n
      ≡ length_settings file_of v ys n
  unfolding length_settings
  length-settings-split xs ys s zero = refl
  length-settings-split xs ys s (suc f) = ap₂ (λ (l : List Setting) (e : ℕ). l ++ cond (ltb (v (file_length f)) e)
      (record { item = file_length f; to = e } ∷ []) []) (length-settings-split xs ys s f) (landed-end-split f xs ys s)

-- ---- after settling, with one write more, and how much they take

placed-further : (c n : ℕ) (q : Place) → placed_at c (further n q) ≡ further n (placed_at c q)
unfolding placed_at further
placed-further c n (At p) = refl
placed-further c n (After a) = ap At (sym (adding c a n))

pub placed-split : (d c : ℕ) (xs ys : List Write) → Split xs ys → Split (map (place_write d c) xs) (map (place_write d c) ys)
unfolding place_write
placed-split d c xs ys (here e q a b ws) = let q' = cond (eqb e d) (placed_at c q) q in let vs = map (place_write d c) ws in
    subst⁻¹ (λ (p : Place). Split (through e q' a ∷ (through e p b ∷ vs)) (through e q' (a ++ b) ∷ vs)) (pick (eqb e d))
    (here e q' a b vs)
  where
    pick : (t : Bool) → cond t (placed_at c (further (length a) q)) (further (length a) q)
        ≡ further (length a) (cond t (placed_at c q) q)
    pick true = placed-further c (length a) q
    pick false = refl
placed-split d c xs ys (there w ws vs s) = there (place_write d c w) (map (place_write d c) ws) (map (place_write d c) vs)
    (placed-split d c ws vs s)

pub more-split : (xs ys zs : List Write) → Split xs ys → Split (xs ++ zs) (ys ++ zs)
more-split xs ys zs (here d p a b ws) = here d p a b (ws ++ zs)
more-split xs ys zs (there w ws vs s) = there w (ws ++ zs) (vs ++ zs) (more-split ws vs zs s)

pub last-split : (ws : List Write) (d : ℕ) (p : Place) (a b : List ℕ)
    → Split (ws ++ (through d p a ∷ (through d (further (length a) p) b ∷ []))) (ws ++ (through d p (a ++ b) ∷ []))
last-split [] d p a b = here d p a b []
last-split (w ∷ ws) d p a b = there w _ _ (last-split ws d p a b)

pub split-one-more : (xs ys : List Write) → Split xs ys → length xs ≡ suc (length ys)
split-one-more xs ys (here d p a b ws) = refl
split-one-more xs ys (there w ws vs s) = ap suc (split-one-more ws vs s)

pub total-split : (xs ys : List Write) → Split xs ys → total xs ≡ total ys
unfolding total
total-split xs ys (here d p a b ws) = let e = length-append a b in omega arith
total-split xs ys (there w ws vs s) = ap (λ (n : ℕ). length w.bytes + n) (total-split ws vs s)
