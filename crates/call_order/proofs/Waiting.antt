-- In a store reached from Fresh every descriptor that stands Deferred or Moved has a write without a place.
use mathlib.Core.{Bool.{Bool, true, false, cond, ◌&&◌, ◌||◌, or-true, false≢true, true≢false}, List.{List, [], ◌∷◌, map}}
use mathlib.Core.Path.{◌≡◌, refl, sym, ap, ap₂, ◌∙◌, subst, subst⁻¹}
use borrow.Author.Tests.{eqb-true, eq-eqb, le-leb}
use lib.{Dec.{leb, eqb}, ListN.length}
use Prim.Native.Nat.{ℕ, zero, suc, ◌+◌}
use Rattle.limits.specs.Limits.{file_bytes, last_descriptor, last_transaction}
use Rattle.standings.specs.declared.{Standing.{Standing, TheVariants.{Untouched, Placed, Deferred, Moved, Known}}}
use Rattle.standings.specs.Table.{after_seek, after_write, after_read, advance, settled, write_place, may_wait, pointer_settles}
use Rattle.standings.specs.Table.{offset_of}
use Rattle.refinement.proofs.Decoded.{some-one-more}
use Rattle.spec.specs.Items.{Item, file_length, Values, Prog, done, ask, measure, and_then, result}
use Rattle.spec.specs.Transactions.{Txn, Write, empty, put, dirtied, placed_at, place_write, settle, Settled, past, all, settling}
use Rattle.spec.specs.{Reading.gather, Places.{some_write, no_place, unplaced_on, unplaced}, Machine.Machine}
use Rattle.spec.specs.{Recovery.{runs_after, Reached}, Commits.Setting, OrderReply.has_unplaced}
use Rattle.spec.specs.Messages.{Op, seek, write, get_file_pointer, read, buffer_of, Call, begin, on, commit, abort, places}
use Rattle.spec.specs.Messages.{set_window, undo_commit, best_order}
use Rattle.spec.specs.Steps.{Stepped, refuse, accept, check, or_given_back, written, seek_step, write_step, pointer_step}
use Rattle.spec.specs.Steps.{settled_by_read, read_settled, read_step, step, refuses_stale, refused_stale}
use Rattle.spec.proofs.Abstract.AbstractStore.{OpenTxn, Seat, vacant, occupied, Saved, none, preserved, Abstract, start_abstract}
use Rattle.spec.proofs.Abstract.AbstractStore.{AbstractTurn, abstract_refuse, with_seat, abstract_answer, abstract_begin}
use Rattle.spec.proofs.Abstract.AbstractStore.{abstract_stepped, abstract_on, touch, granting, abstract_committed, abstract_commit}
use Rattle.spec.proofs.Abstract.AbstractStore.{abstract_abort, abstract_places, windowed, abstract_window, none_occupied, returned}
use Rattle.spec.proofs.Abstract.AbstractStore.{abstract_return, abstract_undo, seated, abstract_best_order, abstract_call}
use Rattle.spec.proofs.{Abstract.AbstractStore.abstract_after, Refinement.{Relation.{open_txn_in, view}, OrderTurn.seat-open}}
use Rattle.spec.proofs.Theorems.Serializability.{calls-agree, fresh-facts}
use Rattle.spec.proofs.Theorems.Recovery.{resting-view, runs-from-fresh, runs_closed}
use Rattle.state.specs.Outcomes.{done_answer}
use Rattle.admission.specs.{FirstRefusal.{guarded, is_none, some_below}, Admission.window_refusal}
use Rattle.windows.specs.Windows.{Windows}
use Rattle.call_order.specs.OrderStatements.{txn_in, waits, NeverWaits}

-- ---- what holds of every result of a program

module _ {A : Type 0} (P : A → Type 0) where
  abbrev Ever : Prog A → Type 0
  Ever (done a) = P a
  Ever (ask i g) = (n : ℕ) → Ever (g n)
  Ever (measure f g) = (n : ℕ) → Ever (g n)

  ever-result : (v : Values) (p : Prog A) → Ever p → P (result v p)
  unfolding result
  ever-result v (done a) h = h
  ever-result v (ask i g) h = ever-result v (g (v i)) (h (v i))
  ever-result v (measure f g) h = ever-result v (g (v (file_length f))) (h (v (file_length f)))

module _ {A B : Type 0} (Q : A → Type 0) (P : B → Type 0) where
  ever-then : (p : Prog A) (k : A → Prog B) → Ever Q p → ((a : A) → Q a → Ever P (k a)) → Ever P (and_then p k)
  unfolding and_then
  ever-then (done a) k h then = then a h
  ever-then (ask i g) k h then = λ n. ever-then (g n) k (h n) then
  ever-then (measure f g) k h then = λ n. ever-then (g n) k (h n) then

-- ---- a descriptor that waits has a write that waits

-- Descriptor d has a write without a place.
abbrev waits_on : ℕ → List Write → Bool
waits_on d ws = unplaced (λ e. e) d ws

pub Backed : Txn → Type 0
Backed x = (d : ℕ) → may_wait (x.standing d) ≡ true → waits_on d x.writes ≡ true

-- One descriptor's standing changes, and it waited before if it does now.
backed-dirtied : (d : ℕ) (z : Standing) (x : Txn) → (may_wait z ≡ true → may_wait (x.standing d) ≡ true) → Backed x
    → Backed (dirtied d z x)
unfolding put Backed
backed-dirtied d z x h b e k = pick (eqb e d) refl k
  where
    pick : (c : Bool) → eqb e d ≡ c → may_wait (cond c z (x.standing e)) ≡ true → waits_on e x.writes ≡ true
    pick true q w = subst (λ (n : ℕ). waits_on n x.writes ≡ true) (sym (eqb-true e d q)) (b d (h w))
    pick false q w = b e w

seek-waits : (v : ℕ) (z : Standing) → may_wait (after_seek v z) ≡ true → may_wait z ≡ true
unfolding after_seek
seek-waits v Untouched k = absurd (false≢true k)
seek-waits v (Placed o) k = absurd (false≢true k)
seek-waits v (Deferred a) k = refl
seek-waits v (Moved a o) k = refl
seek-waits v (Known o) k = absurd (false≢true k)

read-waits : (n : ℕ) (z : Standing) → may_wait (after_read n z) ≡ true → may_wait z ≡ true
unfolding after_read
read-waits n Untouched k = absurd (false≢true k)
read-waits n (Placed o) k = absurd (false≢true k)
read-waits n (Deferred a) k = refl
read-waits n (Moved a o) k = refl
read-waits n (Known o) k = absurd (false≢true k)

-- One more write: where the place is unknown, it waits itself.
write-waits : (d n : ℕ) (z : Standing) (b : Bool) → (may_wait z ≡ true → b ≡ true) → may_wait (after_write n z) ≡ true
    → b || (eqb d d && no_place (write_place z)) ≡ true
unfolding after_write write_place no_place
write-waits d n Untouched b h k = rw (eq-eqb d d refl) (or-true b)
write-waits d n (Placed o) b h k = absurd (false≢true k)
write-waits d n (Deferred a) b h k = rw (eq-eqb d d refl) (or-true b)
write-waits d n (Moved a o) b h k = rw (h refl) refl
write-waits d n (Known o) b h k = absurd (false≢true k)

backed-written : (d : ℕ) (bytes : List ℕ) (x : Txn) → Backed x → Backed (written d bytes x)
unfolding written put Backed unplaced unplaced_on
backed-written d bytes x b e k = some-one-more (unplaced_on (λ f. f) e) x.writes
    (record { descriptor = d; place = write_place (x.standing d); bytes = bytes }) ∙ pick (eqb e d) refl k
  where
    w : Write
    w = record { descriptor = d; place = write_place (x.standing d); bytes = bytes }

    pick : (c : Bool) → eqb e d ≡ c → may_wait (cond c (after_write (length bytes) (x.standing d)) (x.standing e)) ≡ true
        → waits_on e x.writes || unplaced_on (λ f. f) e w ≡ true
    pick true q j = subst (λ (n : ℕ). waits_on n x.writes || unplaced_on (λ f. f) n w ≡ true) (sym (eqb-true e d q))
        (write-waits d (length bytes) (x.standing d) (waits_on d x.writes) (b d) j)
    pick false q j = rw (b e j) refl

-- Settled.
settled-waits : (c : ℕ) (z : Standing) → may_wait (settled c z) ≡ true → ⊥
unfolding settled
settled-waits c Untouched k = false≢true k
settled-waits c (Placed o) k = false≢true k
settled-waits c (Deferred a) k = false≢true k
settled-waits c (Moved a o) k = false≢true k
settled-waits c (Known o) k = false≢true k

one_placed : (d c e : ℕ) (w : Write) → eqb e d ≡ false → unplaced_on (λ f. f) e (place_write d c w) ≡ unplaced_on (λ f. f) e w
unfolding unplaced_on place_write
one_placed d c e w other = pick (eqb w.descriptor e) refl
  where
    pick : (b : Bool) → eqb w.descriptor e ≡ b
        → b && no_place (cond (eqb w.descriptor d) (placed_at c w.place) w.place) ≡ b && no_place w.place
    pick true q = ap (λ (a : Bool). no_place (cond a (placed_at c w.place) w.place))
        (ap (λ (n : ℕ). eqb n d) (eqb-true w.descriptor e q) ∙ other)
    pick false q = refl

all_placed : (d c e : ℕ) (ws : List Write) → eqb e d ≡ false → waits_on e (map (place_write d c) ws) ≡ waits_on e ws
unfolding unplaced some_write
all_placed d c e [] other = refl
all_placed d c e (w ∷ ws) other = ap₂ (λ (a b : Bool). a || b) (one_placed d c e w other) (all_placed d c e ws other)

backed-settle : (d c : ℕ) (x : Txn) → Backed x → Backed (settle d c x)
unfolding settle put Backed
backed-settle d c x b e k = pick (eqb e d) refl k
  where
    pick : (a : Bool) → eqb e d ≡ a → may_wait (cond a (settled c (x.standing d)) (x.standing e)) ≡ true
        → waits_on e (map (place_write d c) x.writes) ≡ true
    pick true q j = absurd (settled-waits c (x.standing d) j)
    pick false q j = all_placed d c e x.writes q ∙ b e j

abbrev AfterSettling : Settled → Type 0
AfterSettling past = Unit {0}
AfterSettling (all y) = Backed y

backed-settling : (ds : List ℕ) (x : Txn) → Backed x → Ever AfterSettling (settling ds x)
unfolding settling
backed-settling [] x b = b
backed-settling (d ∷ ds) x b = λ c.
    pick c (leb (c + advance (x.standing d)) file_bytes) (backed-settling ds (settle d c x) (backed-settle d c x b))
  where
    pick : (c : ℕ) (a : Bool) → Ever AfterSettling (settling ds (settle d c x))
        → Ever AfterSettling (cond a (settling ds (settle d c x)) (done past))
    pick c true h = h
    pick c false h = tt

-- ---- the steps

abbrev AfterStep : Stepped → Type 0
AfterStep (refuse n) = Unit {0}
AfterStep (accept y a buffer) = Backed y

checked : (ok : Bool) (n : ℕ) (next : Prog Stepped) → Ever AfterStep next → Ever AfterStep (check ok n next)
unfolding check
checked true n next h = h
checked false n next h = tt

given_back : (next : Txn → Prog Stepped) → ((y : Txn) → Backed y → Ever AfterStep (next y))
    → (s : Settled) → AfterSettling s → Ever AfterStep (or_given_back next s)
unfolding or_given_back
given_back next h past b = tt
given_back next h (all y) b = h y b

anything : {A : Type 0} (p : Prog A) → Ever (λ (a : A). Unit {0}) p
anything (done a) = tt
anything (ask i g) = λ n. anything (g n)
anything (measure f g) = λ n. anything (g n)

backed-read : (file_of : ℕ → ℕ) (d n : ℕ) (buffer : List ℕ) (y : Txn) → Backed y → Ever AfterStep (read_settled file_of d n buffer y)
unfolding read_settled
backed-read file_of d n buffer y b = ever-then (λ bytes. Unit {0}) AfterStep (gather file_of y.writes (file_of d)
    (offset_of (y.standing d)) n) _ (anything (gather file_of y.writes (file_of d) (offset_of (y.standing d)) n))
    (λ bytes u. backed-dirtied d (after_read (length bytes) (y.standing d)) y (read-waits (length bytes) (y.standing d)) b)

backed-step : (file_of : ℕ → ℕ) (o : Op) (x : Txn) → Backed x → Ever AfterStep (step file_of o x)
unfolding step seek_step write_step pointer_step read_step
backed-step file_of (seek d v) x b = checked (leb d last_descriptor) 6 _
    (checked (leb v file_bytes) 8 _ (backed-dirtied d (after_seek v (x.standing d)) x (seek-waits v (x.standing d)) b))
backed-step file_of (write d bytes) x b =
    checked (leb d last_descriptor) 6 _ (checked _ 9 _ (checked _ 10 _ (checked _ 11 _ (backed-written d bytes x b))))
backed-step file_of (get_file_pointer d) x b = checked (leb d last_descriptor) 6 _
    (ever-then AfterSettling AfterStep (settling (cond (pointer_settles (x.standing d)) (d ∷ []) []) x) _
    (backed-settling (cond (pointer_settles (x.standing d)) (d ∷ []) []) x b) (given_back _ (λ y h. h)))
backed-step file_of (read d n buffer) x b = checked (leb d last_descriptor) 6 _
    (checked (leb n (length buffer)) 7 _ (ever-then AfterSettling AfterStep (settling (settled_by_read file_of d x) x) _
    (backed-settling (settled_by_read file_of d x) x b) (given_back _ (λ y h. backed-read file_of d n buffer y h))))

-- ---- the abstract store

abbrev BackedSeat : Seat → Type 0
BackedSeat vacant = Unit {0}
BackedSeat (occupied h) = Backed h.txn

abbrev BackedAll : Abstract → Type 0
BackedAll s = (u : ℕ) → BackedSeat (s.seats u)

backed-put : (t : ℕ) (x : Seat) (z : ℕ → Seat) → BackedSeat x → ((u : ℕ) → BackedSeat (z u)) → (u : ℕ) → BackedSeat (put t x z u)
unfolding put
backed-put t x z h b u = pick (eqb u t)
  where
    pick : (c : Bool) → BackedSeat (cond c x (z u))
    pick true = h
    pick false = b u

backed-empty : Backed empty
unfolding Backed empty
backed-empty d k = absurd (false≢true k)

backed-turned : (stale : Bool) (o : Op) (r : Stepped) → AfterStep r → AfterStep (refused_stale stale o r)
unfolding refused_stale
backed-turned stale o r h = pick (refuses_stale stale o)
  where
    pick : (b : Bool) → AfterStep (cond b (refuse 18) r)
    pick true = tt
    pick false = h

module _ (s : Abstract) (b : BackedAll s) where
  backed-stepped : (t : ℕ) (o : Op) (h : OpenTxn) (is : List Item) (r : Stepped) → AfterStep r
      → BackedAll (abstract_stepped t o h is s r).after
  unfolding abstract_stepped abstract_refuse with_seat
  backed-stepped t o h is (refuse n) k = b
  backed-stepped t o h is (accept y a buffer) k = backed-put t _ s.seats k b

  backed-on : (t : ℕ) (o : Op) (x : Seat) → BackedSeat x → BackedAll (abstract_on t o x s).after
  unfolding abstract_on abstract_refuse
  backed-on t o vacant k = b
  backed-on t o (occupied h) k = backed-stepped t o h _ _ (backed-turned h.stale o _
      (ever-result AfterStep s.value (step s.file_of o h.txn) (backed-step s.file_of o h.txn k)))

  backed-begin : (t : ℕ) (x : Seat) → BackedAll (abstract_begin t x s).after
  unfolding abstract_begin abstract_refuse abstract_answer with_seat
  backed-begin t vacant = backed-put t _ s.seats backed-empty b
  backed-begin t (occupied h) = b

  backed-touch : (ss : List Setting) (x : Seat) → BackedSeat x → BackedSeat (touch ss x)
  unfolding touch
  backed-touch ss vacant k = tt
  backed-touch ss (occupied h) k = k

  backed-committed : (t : ℕ) (h : OpenTxn) (n : ℕ) → BackedAll (abstract_committed t h s n).after
  unfolding abstract_committed granting with_seat
  backed-committed t h zero = λ u. backed-touch _ _ (backed-put t vacant s.seats tt b u)
  backed-committed t h (suc n) = pick (eqb (suc n) 13)
    where
      pick : (c : Bool) → BackedAll (cond c (with_seat t vacant s) s)
      pick true = backed-put t vacant s.seats tt b
      pick false = b

  backed-commit : (t minute : ℕ) (x : Seat) → BackedAll (abstract_commit t minute x s).after
  unfolding abstract_commit abstract_refuse
  backed-commit t minute vacant = b
  backed-commit t minute (occupied h) = backed-committed t h _

  backed-abort : (t : ℕ) (x : Seat) → BackedAll (abstract_abort t x s).after
  unfolding abstract_abort abstract_refuse abstract_answer with_seat
  backed-abort t vacant = b
  backed-abort t (occupied h) = backed-put t vacant s.seats tt b

  backed-places : (f : ℕ) (out : List ℕ) (x : Seat) → BackedAll (abstract_places f out x s).after
  unfolding abstract_places abstract_refuse
  backed-places f out vacant = b
  backed-places f out (occupied h) = b

  backed-window : (f start end : ℕ) → BackedAll (abstract_window f start end s).after
  unfolding abstract_window abstract_refuse abstract_answer windowed
  backed-window f start end = pick (window_refusal f start end)
    where
      pick : (n : ℕ) → BackedAll (guarded (λ k. abstract_refuse k [] s) (is_none n) n
          (abstract_answer done_answer (windowed f start end s))).after
      pick zero = b
      pick (suc n) = b

  backed-return : (x : Saved) → BackedAll (abstract_return x s).after
  unfolding abstract_return abstract_refuse abstract_answer returned
  backed-return none = b
  backed-return (preserved v) = b

  backed-back : BackedAll (abstract_undo s).after
  unfolding abstract_undo abstract_refuse
  backed-back = pick (none_occupied s)
    where
      pick : (c : Bool) → BackedAll (guarded (λ k. abstract_refuse k [] s) c 23 (abstract_return s.back s)).after
      pick true = backed-return s.back
      pick false = b

  backed-seated : (t : ℕ) (buffer : List ℕ) (next : Seat → Abstract → AbstractTurn) → BackedAll (next (s.seats t) s).after
      → BackedAll (seated t buffer next s).after
  unfolding seated abstract_refuse
  backed-seated t buffer next h = pick (leb t last_transaction)
    where
      pick : (c : Bool) → BackedAll (cond c (next (s.seats t) s) (abstract_refuse 3 buffer s)).after
      pick true = h
      pick false = b

  backed-call : (c : Call) → BackedAll (abstract_call c s).after
  unfolding abstract_call abstract_best_order
  backed-call (begin t) = backed-seated t [] (abstract_begin t) (backed-begin t (s.seats t))
  backed-call (on t o) = backed-seated t (buffer_of o) (abstract_on t o) (backed-on t o (s.seats t) (b t))
  backed-call (commit t minute) = backed-seated t [] (abstract_commit t minute) (backed-commit t minute (s.seats t))
  backed-call (abort t) = backed-seated t [] (abstract_abort t) (backed-abort t (s.seats t))
  backed-call (places t f out) = backed-seated t out (abstract_places f out) (backed-places f out (s.seats t))
  backed-call (set_window f start end) = backed-window f start end
  backed-call undo_commit = backed-back
  backed-call (best_order ts minute budget) = b

backed-after : (cs : List Call) (s : Abstract) → BackedAll s → BackedAll (abstract_after cs s)
unfolding abstract_after
backed-after [] s b = b
backed-after (c ∷ cs) s b = backed-after cs (abstract_call c s).after (backed-call s b c)

-- ---- the theorem

some_of : (d : ℕ) (ws : List Write) → waits_on d ws ≡ true → has_unplaced ws ≡ true
unfolding has_unplaced unplaced some_write unplaced_on
some_of d [] e = absurd (false≢true e)
some_of d (w ∷ ws) e = pick (eqb w.descriptor d) (no_place w.place) e (some_of d ws)
  where
    pick : (a b : Bool) → (a && b) || waits_on d ws ≡ true → (waits_on d ws ≡ true → has_unplaced ws ≡ true) → b || has_unplaced ws
        ≡ true
    pick a true k rest = refl
    pick true false k rest = rest k
    pick false false k rest = rest k

none-waits : (p : ℕ → Bool) (n : ℕ) → ((k : ℕ) → p k ≡ false) → some_below p n ≡ false
unfolding some_below
none-waits p zero h = refl
none-waits p (suc n) h = rw (none-waits p n h, h n) refl

-- A transaction without a write without a place.
not-waiting : (x : Txn) → Backed x → has_unplaced x.writes ≡ false → waits x ≡ false
unfolding waits Backed
not-waiting x b e = none-waits (λ d. may_wait (x.standing d)) 16 (λ d. pick d (may_wait (x.standing d)) refl)
  where
    pick : (d : ℕ) (c : Bool) → may_wait (x.standing d) ≡ c → c ≡ false
    pick d true q = absurd (true≢false (sym (some_of d x.writes (b d q)) ∙ e))
    pick d false q = refl

backed-start : (F : ℕ → ℕ) (v : Values) (ws : Windows) (x : Saved) → BackedAll (start_abstract F v ws x)
backed-start F v ws x = unfold start_abstract in λ u. tt

-- After runs nothing is open, and calls keep it.
backed-view : (m : Machine) → Reached m → BackedAll (view m)
backed-view m r = let n = runs_after r.runs r.first in
    let sound = (runs-from-fresh r.numbers r.first r.made r.runs).second in
    let closed = runs_closed r.runs r.first (fresh-facts r.numbers r.first r.made).closed in
    let e = ap view r.by ∙ (calls-agree r.calls n sound).state ∙ ap (abstract_after r.calls)
    (resting-view n closed) in subst⁻¹ (λ (s : Abstract). BackedAll s) e (backed-after r.calls _ (backed-start _ _ _ _))

pub never-waits : NeverWaits
unfolding view open_txn_in
never-waits m r t l begun e = let b : BackedSeat (occupied (open_txn_in m t)) = subst BackedSeat
    (seat-open m t (rw (le-leb t last_transaction l, begun) refl)) (backed-view m r t) in not-waiting (txn_in m t) b e
