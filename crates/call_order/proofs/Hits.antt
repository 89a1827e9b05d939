-- Whom a Commit makes stale, at other committed values: the items that it sets are the same but for the lengths that it raises.
use mathlib.Core.{Bool.{Bool, true, false, cond, ◌||◌, or_assoc, true≢false}, List.{List, [], ◌∷◌, ◌++◌}}
use mathlib.Core.Path.{◌≡◌, refl, sym, ap, ap₂, ◌∙◌}
use lib.{Dec.{ltb, eqb}, ListN.length}
use Prim.Native.Nat.{ℕ, zero, suc, ◌+◌, ◌*◌, max}
use Rattle.limits.specs.Limits.{file_bytes}
use Rattle.standings.specs.{declared.Place.{Place, TheVariants.{At, After}}, Table.final_offset}
use Rattle.spec.specs.{Items.{Item, byte, offset, file_length, same, Values}, Transactions.{Txn, Write}}
use Rattle.spec.specs.{Reading.{write_end, farthest}, Places.{some_write, no_place}, OrderReply.has_unplaced}
use Rattle.spec.specs.Commits.{Setting, lands_at, bytes_from, byte_settings, sets_offset, offset_settings, landed_end, length_settings}
use Rattle.spec.{specs.Commits.{settings, put_item, landed}, proofs.Abstract.AbstractStore.{OpenTxn, abstract_sighted, hit}}
use Rattle.spec.proofs.Abstract.Lists.{same_true, or_left_false, or_right_false}

hit-append : (h : OpenTxn) (ss rs : List Setting) → hit (ss ++ rs) h ≡ hit ss h || hit rs h
unfolding hit
hit-append h [] rs = refl
hit-append h (s ∷ ss) rs = ap (λ (b : Bool). abstract_sighted h s.item || b) (hit-append h ss rs)
    ∙ sym (or_assoc (abstract_sighted h s.item) (hit ss h) (hit rs h))

-- ---- the items

abbrev Placed : List Write → Type 0
Placed ws = some_write (λ w. no_place w.place) ws ≡ false

lands-same : (c e : ℕ) (p : Place) → no_place p ≡ false → lands_at c p ≡ lands_at e p
unfolding lands_at no_place
lands-same c e (At p) h = refl
lands-same c e (After a) h = absurd (true≢false h)

module _ (file_of : ℕ → ℕ) (v w : Values) where
  bytes_same : (ws : List Write) → Placed ws → byte_settings file_of v ws ≡ byte_settings file_of w ws
  unfolding byte_settings some_write
  bytes_same [] p = refl
  bytes_same (x ∷ ws) p = ap₂ (λ (k : ℕ) (l : List Setting). bytes_from (file_bytes * file_of x.descriptor + k) x.bytes ++ l)
      (lands-same (v (offset x.descriptor)) (w (offset x.descriptor)) x.place
      (or_left_false (no_place x.place) _ p)) (bytes_same ws (or_right_false (no_place x.place) _ p))

  end_same : (f : ℕ) (ws : List Write) → Placed ws → landed_end file_of v f ws ≡ landed_end file_of w f ws
  unfolding landed_end farthest some_write
  end_same f [] p = refl
  end_same f (x ∷ ws) p = ap₂ (λ (k m : ℕ). max (cond (eqb (file_of x.descriptor) f) (write_end k (length x.bytes)) 0)
      m) (lands-same (v (offset x.descriptor)) (w (offset x.descriptor)) x.place
      (or_left_false (no_place x.place) _ p)) (end_same f ws (or_right_false (no_place x.place) _ p))

  module _ (h : OpenTxn) (lengths : (f : ℕ) → abstract_sighted h (file_length f) ≡ true → v (file_length f)
      ≡ w (file_length f)) where
    offsets-hit : (x : Txn) (n : ℕ) → hit (offset_settings v x n) h ≡ hit (offset_settings w x n) h
    unfolding offset_settings
    offsets-hit x zero = refl
    offsets-hit x (suc d) = hit-append h (offset_settings v x d) _ ∙ ap₂ (λ (a b : Bool). a || b) (offsets-hit x d)
        (one (sets_offset x d)) ∙ sym (hit-append h (offset_settings w x d) _)
      where
        one : (b : Bool) → hit (cond b (record { item = offset d; to = final_offset (v (offset d)) (x.standing d) } ∷ [])
            []) h ≡ hit (cond b (record { item = offset d; to = final_offset (w (offset d)) (x.standing d) } ∷ []) []) h
        one true = unfold hit in refl
        one false = refl

    -- A length that is not sighted hits nobody, raised or not.
    abbrev raising : ℕ → ℕ → ℕ → List Setting
    raising f c e = cond (ltb c e) (record { item = file_length f; to = e } ∷ []) []

    lengths-hit : (ws : List Write) → Placed ws → (n : ℕ) → hit (length_settings file_of v ws n) h
        ≡ hit (length_settings file_of w ws n) h
    unfolding length_settings
    lengths-hit ws p zero = refl
    lengths-hit ws p (suc f) = hit-append h (length_settings file_of v ws f) _ ∙ ap₂ (λ (a b : Bool). a || b)
        (lengths-hit ws p f) (ap (λ (e : ℕ). hit (raising f (v (file_length f)) e) h) (end_same f ws p)
        ∙ one (abstract_sighted h (file_length f)) refl (landed_end file_of w f ws))
        ∙ sym (hit-append h (length_settings file_of w ws f) _)
      where
        never : (b : Bool) (e : ℕ) → abstract_sighted h (file_length f) ≡ false
            → hit (cond b (record { item = file_length f; to = e } ∷ []) []) h ≡ false
        never true e k = unfold hit in rw k
        never false e k = unfold hit in refl

        one : (b : Bool) → abstract_sighted h (file_length f) ≡ b → (e : ℕ)
            → hit (raising f (v (file_length f)) e) h ≡ hit (raising f (w (file_length f)) e) h
        one true k e = ap (λ (n : ℕ). hit (raising f n e) h) (lengths f k)
        one false k e = never (ltb (v (file_length f)) e) e k ∙ sym (never (ltb (w (file_length f)) e) e k)

    -- Who sees the lengths that it has sighted as they were is made stale now by whom it would have been made stale then.
    pub hit_same : (x : Txn) → has_unplaced x.writes ≡ false → hit (settings file_of v x) h ≡ hit (settings file_of w x) h
    unfolding settings has_unplaced
    hit_same x p = hit-append h (byte_settings file_of v x.writes) _ ∙ ap₂ (λ (a b : Bool). a || b)
        (ap (λ (ss : List Setting). hit ss h) (bytes_same x.writes p)) (hit-append h (offset_settings v x 16) _
        ∙ ap₂ (λ (a b : Bool). a || b) (offsets-hit x 16) (lengths-hit x.writes p 8)
        ∙ sym (hit-append h (offset_settings w x 16) _)) ∙ sym (hit-append h (byte_settings file_of w x.writes) _)

-- ---- what is sighted and not hit stays

pub not-hit : (h : OpenTxn) (i : Item) → abstract_sighted h i ≡ true → (ss : List Setting) (v : Values) → hit ss h ≡ false
    → landed ss v i ≡ v i
unfolding landed hit
not-hit h i k [] v e = refl
not-hit h i k (s ∷ ss) v e = not-hit h i k ss (put_item s.item s.to v)
    (or_right_false (abstract_sighted h s.item) (hit ss h) e) ∙ pick (same i s.item) refl
  where
    pick : (b : Bool) → same i s.item ≡ b → put_item s.item s.to v i ≡ v i
    pick true q = let z : abstract_sighted h i ≡ false = ap (abstract_sighted h) (same_true i s.item q)
        ∙ or_left_false (abstract_sighted h s.item) (hit ss h) e in absurd (true≢false (sym k ∙ z))
    pick false q = unfold put_item in rw q

-- ---- the flag of the stale has no part in it

abbrev pub flagged : Bool → OpenTxn → OpenTxn
flagged c h = record { txn = h.txn; marked = h.marked; lengths = h.lengths; stale = c }

sighted-flagged : (c : Bool) (h : OpenTxn) (i : Item) → abstract_sighted (flagged c h) i ≡ abstract_sighted h i
unfolding abstract_sighted
sighted-flagged c h (byte q) = refl
sighted-flagged c h (offset d) = refl
sighted-flagged c h (file_length f) = refl

pub hit-flagged : (c : Bool) (h : OpenTxn) (ss : List Setting) → hit ss (flagged c h) ≡ hit ss h
unfolding hit
hit-flagged c h [] = refl
hit-flagged c h (s ∷ ss) = ap₂ (λ (a b : Bool). a || b) (sighted-flagged c h s.item) (hit-flagged c h ss)
