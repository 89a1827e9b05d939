-- First half of serializability: the abstract store is a function of the reference model, and every call gives the same reply on
-- both.
use mathlib.Core.{Bool.{Bool, true, false, cond, not, ◌&&◌, ◌||◌, and-true}, List.{List, [], ◌∷◌, ◌++◌}}
use mathlib.Core.Path.{◌≡◌, refl, sym, ap, ap₂, ◌∙◌, fun_ext}
use lib.Dec.{eqb, leb}
use Prim.Native.Nat.{ℕ, zero, suc}
use Rattle.limits.specs.Limits.{last_transaction}
use Rattle.windows.specs.Windows.{minute_in, window, Windows}
use Rattle.buffers.specs.Bits.{bits_of}
use Rattle.state.specs.Outcomes.{Said, done_answer, granted, refused}
use Rattle.admission.specs.{FirstRefusal.{guarded, is_none, below}, Admission.window_refusal}
use Rattle.spec.specs.{Windows.for_closed, Items.{Item, Values, byte, offset, file_length, result, asked}}
use Rattle.spec.specs.Transactions.{Txn, Write, empty, put}
use Rattle.spec.specs.Messages.{Op, buffer_of, places, set_window, undo_commit, best_order, after_all, replies_to, Call, begin}
use Rattle.spec.specs.{Messages.{on, commit, abort, Reply, answer_with, refuse_turn}, OrderReply.has_unplaced}
use Rattle.spec.specs.{Steps.{Stepped, refuse, accept, step}, Commits.{settings, fits, landed, commit_refusal}}
use Rattle.spec.specs.Sightings.{same_entries, entries, Committed}
use Rattle.spec.specs.Plain.{Running, Slot, closed, running, Plain, Earlier, nothing, found, is_running, none_running}
use Rattle.spec.specs.Plain.{plain_restored, plain_restore, plain_undo, plain_with_windows, plain_set_window, start_plain, ops}
use Rattle.spec.specs.Plain.{first_list, second_list, is_stale, PlainTurn, with_slot, plain_begin, plain_stepped, plain_on}
use Rattle.spec.specs.Plain.{committing, grant, stale_slot, became_stale, plain_committed, plain_commit, plain_abort, with_number}
use Rattle.spec.specs.Plain.{plain_call, plain_after, plain_replies, plain_places, plain_commit_call, writes_in, plain_asked}
use Rattle.spec.specs.{Plain.plain_best_order, LoneRuns.lone}
use Rattle.spec.proofs.Abstract.AbstractStore.{OpenTxn, Seat, vacant, occupied, Saved, none, preserved, is_occupied}
use Rattle.spec.proofs.Abstract.AbstractStore.{none_occupied, returned, abstract_return, abstract_undo, Abstract}
use Rattle.spec.proofs.Abstract.AbstractStore.{start_abstract, abstract_sighted, among, hit, mark_all, length_all}
use Rattle.spec.proofs.Abstract.AbstractStore.{AbstractTurn, abstract_refuse, with_seat, abstract_answer, abstract_begin}
use Rattle.spec.proofs.Abstract.AbstractStore.{abstract_stepped, abstract_on, touch, newly_stale, granting, abstract_committed}
use Rattle.spec.proofs.Abstract.AbstractStore.{abstract_commit, abstract_abort, windowed, abstract_window, seated}
use Rattle.spec.proofs.Abstract.AbstractStore.{abstract_call, abstract_after, abstract_replies, abstract_places}
use Rattle.spec.proofs.Abstract.AbstractStore.{abstract_commit_call, stale_seat, writes_seat, abstract_asked, abstract_best_order}
use Rattle.spec.proofs.Abstract.Programs.{among-append, refused-stale}
use Rattle.spec.proofs.Abstract.Lists.{put_keeps, items, current, current-entries, current-append, any_touched, hit-is}
use Rattle.spec.proofs.Abstract.Lists.{mark_all-at, length_all-at, current-after}
use Rattle.spec.proofs.Abstract.RecordedRuns.{SoundRun, seen-old, lists-same, sound_more, sound-granted, items_more}
use Rattle.spec.proofs.Abstract.{RecordedRuns.extended, OrderReplies.{grants-same, Agreed, reply-same}}
use Rattle.spec.proofs.Abstract.PlainInvariant.{SoundSlot, Good, all_closed, good-call}

-- The store of a reference model: a byte is marked where it was sighted, and a transaction is stale where its two lists differ.
unfoldable pub open_txn_of : Plain → Running → OpenTxn
open_txn_of p r = record {
  txn = r.txn;
  marked = λ q. among (byte q) (items r.seen);
  lengths = λ f. among (file_length f) (items r.seen);
  stale = is_stale p r;
}

unfoldable pub seat_of : Plain → Slot → Seat
seat_of p closed = vacant
seat_of p (running r) = occupied (open_txn_of p r)

unfoldable pub back_of : Earlier → Saved
back_of nothing = none
back_of (found c n) = preserved c.value

unfoldable pub abs : Plain → Abstract
abs p = record {
  file_of = p.file_of;
  value = p.committed.value;
  windows = p.windows;
  back = back_of p.earlier;
  seats = λ t. seat_of p (p.slots t);
}

unfoldable pub abs_turn : PlainTurn → AbstractTurn
abs_turn τ = record { reply = τ.reply; after = abs τ.after }

pub abs-start : (file_of : ℕ → ℕ) (v : Values) (ws : Windows) (e : Earlier) → start_abstract file_of v ws (back_of e)
    ≡ abs (start_plain file_of v ws e)
abs-start file_of v ws e = unfold start_abstract abs start_plain seat_of in refl

-- A function with another value at one number, after a map.
put_map : {A B : Type 0} (f : A → B) (t : ℕ) (a : A) (g : ℕ → A) (u : ℕ) → put t (f a) (λ w. f (g w)) u ≡ f (put t a g u)
unfolding put
put_map f t a g u = chosen (eqb u t)
  where
    chosen : (b : Bool) → cond b (f a) (f (g u)) ≡ f (cond b a (g u))
    chosen true = refl
    chosen false = refl

-- A transaction is stale exactly where one of its entries has another setter than its item has now.
pub stale-is : (p : Plain) (r : Running) → SoundRun p.file_of p.committed p.grants r
    → is_stale p r ≡ not (current p.committed.setter r.seen)
stale-is p r s = unfold is_stale first_list second_list in ap not (lists-same p.file_of p.committed p.grants r s)

-- The items that the store's transaction has sighted are those of the machine's list.
sighted-is : (p : Plain) (r : Running) → SoundRun p.file_of p.committed p.grants r → (i : Item)
    → abstract_sighted (open_txn_of p r) i ≡ among i (items r.seen)
unfolding abstract_sighted open_txn_of
sighted-is p r s (byte q) = refl
sighted-is p r s (offset d) = s.known d
sighted-is p r s (file_length f) = refl

module _ (t : ℕ) (r : Running) (p : Plain) where
  -- Who is stale after a grant: who was so before, and who has sighted an item just set.
  stale-after : (q : Running) → SoundRun p.file_of p.committed p.grants q
      → (is_stale p q || hit (settings p.file_of p.committed.value r.txn) (open_txn_of p q)) ≡ is_stale (grant t r p) q
  unfolding grant committing with_slot
  stale-after q s = let ss = settings p.file_of p.committed.value r.txn in
      ap₂ (λ (a b : Bool). a || b) (stale-is p q s) (hit-is (open_txn_of p q) (items q.seen) (sighted-is p q s) ss) ∙ moved
      (current p.committed.setter q.seen) (any_touched ss (items q.seen)) ∙ ap not (sym (current-after p.grants
      ss p.committed.setter q.seen (seen-old p.file_of p.committed p.grants q s)))
      ∙ sym (stale-is (grant t r p) q (sound-granted p.file_of p.committed p.grants q s r.txn))
    where
      moved : (a b : Bool) → (not a || b) ≡ not (a && not b)
      moved true true = refl
      moved true false = refl
      moved false b = refl

  touch_is : (s : Slot) → SoundSlot p.file_of p.committed p.grants s
      → touch (settings p.file_of p.committed.value r.txn) (seat_of p s) ≡ seat_of (grant t r p) s
  unfolding touch seat_of SoundSlot open_txn_of
  touch_is closed h = refl
  touch_is (running q) h = ap (λ (b : Bool). occupied (record {
    txn = q.txn;
    marked = λ k. among (byte k) (items q.seen);
    lengths = λ f. among (file_length f) (items q.seen);
    stale = b;
  })) (stale-after q h)

  newly-is : (s : Slot) → SoundSlot p.file_of p.committed p.grants s → newly_stale (settings p.file_of
      p.committed.value r.txn) (seat_of p s) ≡ (not (stale_slot p s) && stale_slot (grant t r p) s)
  unfolding newly_stale seat_of SoundSlot stale_slot is_stale open_txn_of
  newly-is closed h = refl
  newly-is (running q) h = newly (same_entries (first_list q) (second_list p q))
      (hit (settings p.file_of p.committed.value r.txn) (open_txn_of p q))
      ∙ ap (λ (b : Bool). not (not (same_entries (first_list q) (second_list p q))) && b) (stale-after q h)
    where
      newly : (a b : Bool) → (not (not a) && b) ≡ (not (not a) && (not a || b))
      newly true b = refl
      newly false b = refl

  -- Those that the grant makes stale.
  became-is : ((u : ℕ) → SoundSlot p.file_of p.committed p.grants (p.slots u)) → (u : ℕ)
      → newly_stale (settings p.file_of p.committed.value r.txn)
      (put t vacant (λ w. seat_of p (p.slots w)) u) ≡ became_stale t p (grant t r p) u
  unfolding newly_stale became_stale put grant with_slot stale_slot
  became-is h u = pick (eqb u t)
    where
      pick : (b : Bool)
          → newly_stale (settings p.file_of p.committed.value r.txn) (cond b vacant (seat_of p (p.slots u)))
          ≡ (not b && not (stale_slot p (p.slots u)) && stale_slot (grant t r p) (cond b closed (p.slots u)))
      pick true = refl
      pick false = newly-is (p.slots u) (h u)

-- The store of a machine with another slot.
seat-slot : (t : ℕ) (s : Slot) (p : Plain) (z : Slot) → seat_of p z ≡ seat_of (with_slot t s p) z
unfolding seat_of open_txn_of is_stale second_list with_slot
seat-slot t s p closed = refl
seat-slot t s p (running r) = refl

abs-slot : (t : ℕ) (s : Slot) (p : Plain) → with_seat t (seat_of p s) (abs p) ≡ abs (with_slot t s p)
unfolding with_seat abs with_slot
abs-slot t s p = ap (λ (f : ℕ → Seat). record
    { file_of = p.file_of; value = p.committed.value; windows = p.windows; back = back_of p.earlier; seats = f })
    (fun_ext (λ u. put_map (seat_of p) t s p.slots u ∙ seat-slot t s p (put t s p.slots u)))

-- Each call: what it gives on a slot, and on that slot's seat.
module _ (p : Plain) (g : Good p) where
  same-begin : (t : ℕ) (s : Slot) → abstract_begin t (seat_of p s) (abs p) ≡ abs_turn (plain_begin t s p)
  unfolding abstract_begin seat_of plain_begin abs_turn abstract_answer answer_with abstract_refuse refuse_turn open_txn_of items
      among is_stale first_list second_list same_entries lone ops
  same-begin t closed = ap (λ (a : Abstract). record { reply = record { answer = done_answer; buffer = [] }; after = a })
      (abs-slot t (running (record { txn = empty; calls = []; seen = [] })) p)
  same-begin t (running r) = refl

  -- An accepted call sights what it asked for, and makes nobody stale.
  stale-more : (o : Op) (r : Running) (y : Txn) (answer : Said) (buffer : List ℕ) → SoundRun p.file_of p.committed
      p.grants r → result p.committed.value (step p.file_of o r.txn) ≡ accept y answer buffer
      → is_stale p r ≡ is_stale p (extended r o y answer buffer
      (entries p.committed.setter (asked p.committed.value (step p.file_of o r.txn))))
  stale-more o r y answer buffer h e = let now = asked p.committed.value (step p.file_of o r.txn) in
      let s = p.committed.setter in
      stale-is p r h ∙ ap not (sym (current-append s r.seen (entries s now) ∙ ap (λ (b : Bool). current s r.seen && b)
      (current-entries s now) ∙ and-true (current s r.seen))) ∙ sym (stale-is p (extended r o y answer buffer
      (entries s now)) (sound_more p.file_of p.committed p.grants r h g.setters o y answer buffer e))

  marked_more : (r : Running) (is : List Item) (q : ℕ) → mark_all is (λ k. among (byte k) (items r.seen)) q ≡ among
      (byte q) (items (r.seen ++ entries p.committed.setter is))
  marked_more r is q = mark_all-at is (λ k. among (byte k) (items r.seen)) q ∙ sym (among-append (byte q)
      (items r.seen) is) ∙ ap (among (byte q)) (sym (items_more p.committed.setter r.seen is))

  lengths-more : (r : Running) (is : List Item) (f : ℕ) → length_all is (λ k. among (file_length k) (items r.seen))
      f ≡ among (file_length f) (items (r.seen ++ entries p.committed.setter is))
  lengths-more r is f = length_all-at is (λ k. among (file_length k) (items r.seen)) f ∙ sym (among-append (file_length f)
      (items r.seen) is) ∙ ap (among (file_length f)) (sym (items_more p.committed.setter r.seen is))

  same-stepped : (t : ℕ) (o : Op) (r : Running) → SoundRun p.file_of p.committed p.grants r → (s : Stepped)
      → result p.committed.value (step p.file_of o r.txn) ≡ s
      → abstract_stepped t o (open_txn_of p r) (asked p.committed.value (step p.file_of o r.txn)) (abs p) s ≡ abs_turn
      (plain_stepped t o r (entries p.committed.setter (asked p.committed.value (step p.file_of o r.txn))) p s)
  unfolding abstract_stepped plain_stepped abs_turn abstract_refuse refuse_turn open_txn_of seat_of
  same-stepped t o r h (refuse n) e = refl
  same-stepped t o r h (accept y answer buffer) e = let now = asked p.committed.value (step p.file_of o r.txn) in
      let reply : Reply = record { answer = answer; buffer = buffer } in ap₂ (λ (m l : ℕ → Bool). record {
        reply = reply;
        after = with_seat t (occupied (record { txn = y; marked = m; lengths = l; stale = is_stale p r })) (abs p);
      }) (fun_ext (marked_more r now)) (fun_ext (lengths-more r now)) ∙ ap (λ (b : Bool). record {
        reply = reply;
        after = with_seat t (occupied (record {
          txn = y;
          marked = λ q. among (byte q) (items (r.seen ++ entries p.committed.setter now));
          lengths = λ f. among (file_length f) (items (r.seen ++ entries p.committed.setter now));
          stale = b;
        })) (abs p);
      }) (stale-more o r y answer buffer h e) ∙ ap (λ (a : Abstract). record { reply = reply; after = a })
      (abs-slot t (running (extended r o y answer buffer (entries p.committed.setter now))) p)

  same-on : (t : ℕ) (o : Op) (s : Slot) → SoundSlot p.file_of p.committed p.grants s
      → abstract_on t o (seat_of p s) (abs p) ≡ abs_turn (plain_on t o s p)
  unfolding abstract_on plain_on seat_of abs abstract_refuse refuse_turn abs_turn SoundSlot open_txn_of
  same-on t o closed h = refl
  same-on t o (running r) h = let s = result p.committed.value (step p.file_of o r.txn) in
      let is = asked p.committed.value (step p.file_of o r.txn) in
      refused-stale (λ z. abstract_stepped t o (open_txn_of p r) is (abs p) z ≡ abs_turn
      (plain_stepped t o r (entries p.committed.setter is) p z)) (is_stale p r) o s
      (unfold abstract_stepped plain_stepped in refl) (λ e. same-stepped t o r h s refl)

  same-grant : (t : ℕ) (r : Running) → granting t (settings p.file_of p.committed.value r.txn) (abs p) ≡ abs_turn
      (answer_with (granted (bits_of (became_stale t p (grant t r p)) 8)) (grant t r p))
  same-grant t r = unfold granting abs_turn answer_with abs grant committing seat_of SoundSlot with_slot back_of in
      let ss = settings p.file_of p.committed.value r.txn in let others : ℕ → Slot = put t closed p.slots in
      let sound : (u : ℕ) → SoundSlot p.file_of p.committed p.grants (others u) =
      put_keeps t closed p.slots (SoundSlot p.file_of p.committed p.grants) tt g.sound in
      let seats : (u : ℕ) → put t vacant (λ w. seat_of p (p.slots w)) u ≡ seat_of p (others u) =
      put_map (seat_of p) t closed p.slots in ap₂ (λ (b : ℕ → Bool) (f : ℕ → Seat). record {
        reply = record { answer = granted (bits_of b 8); buffer = [] };
        after = record {
          file_of = p.file_of;
          value = landed ss p.committed.value;
          windows = p.windows;
          back = preserved p.committed.value;
          seats = f;
        };
      }) (fun_ext (became-is t r p g.sound))
      (fun_ext (λ u. ap (touch ss) (seats u) ∙ touch_is t r p (others u) (sound u)))

  same-committed :
      (t : ℕ) (r : Running) (n : ℕ) → abstract_committed t (open_txn_of p r) (abs p) n ≡ abs_turn (plain_committed t r p n)
  unfolding abstract_committed plain_committed abs_turn open_txn_of abs seat_of
  same-committed t r zero = same-grant t r
  same-committed t r (suc n) = ended (eqb (suc n) 13)
    where
      ended : (b : Bool) → record {
        reply = record { answer = refused (suc n); buffer = [] };
        after = cond b (with_seat t vacant (abs p)) (abs p);
      } ≡ abs_turn
          (record { reply = record { answer = refused (suc n); buffer = [] }; after = cond b (with_slot t closed p) p })
      ended true = ap (λ (a : Abstract). record { reply = record { answer = refused (suc n); buffer = [] }; after = a })
          (abs-slot t closed p)
      ended false = refl

  same-commit : (t minute : ℕ) (s : Slot) → abstract_commit t minute (seat_of p s) (abs p) ≡ abs_turn (plain_commit t minute s p)
  unfolding abstract_commit plain_commit seat_of abstract_refuse refuse_turn abs_turn open_txn_of abs
  same-commit t minute closed = refl
  same-commit t minute (running r) = same-committed t r (commit_refusal (minute_in minute) (is_stale p r)
      (for_closed p.file_of p.windows minute r.txn.writes) (fits p.committed.value r.txn))

  same-abort : (t : ℕ) (s : Slot) → abstract_abort t (seat_of p s) (abs p) ≡ abs_turn (plain_abort t s p)
  unfolding abstract_abort plain_abort seat_of abstract_refuse refuse_turn abs_turn abstract_answer answer_with
  same-abort t closed = refl
  same-abort t (running r) =
      ap (λ (a : Abstract). record { reply = record { answer = done_answer; buffer = [] }; after = a }) (abs-slot t closed p)

  same-places : (f : ℕ) (out : List ℕ) (s : Slot) → abstract_places f out (seat_of p s) (abs p) ≡ abs_turn (plain_places f out s p)
  unfolding abstract_places plain_places seat_of abstract_refuse refuse_turn abs_turn open_txn_of abs
  same-places f out closed = refl
  same-places f out (running r) = refl

  -- A window set makes nobody stale.
  same-window : (f start end : ℕ) → abstract_window f start end (abs p) ≡ abs_turn (plain_set_window f start end p)
  unfolding abstract_window plain_set_window abs_turn abstract_refuse refuse_turn abstract_answer answer_with windowed abs
  same-window f start end = chosen (window_refusal f start end)
    where
      seat-windows : (ws : Windows) (s : Slot) → seat_of p s ≡ seat_of (plain_with_windows ws p) s
      seat-windows ws closed = unfold seat_of in refl
      seat-windows ws (running r) = unfold seat_of open_txn_of is_stale first_list second_list in refl

      ws : Windows
      ws = put f (window start end) p.windows

      seats-same : ◌≡◌ {A = ℕ → Seat} (λ t. seat_of p (p.slots t)) (λ t. seat_of (plain_with_windows ws p) (p.slots t))
      seats-same = fun_ext (λ t. seat-windows ws (p.slots t))

      chosen : (n : ℕ) → guarded (λ k. abstract_refuse k [] (abs p)) (is_none n) n
          (abstract_answer done_answer (windowed f start end (abs p))) ≡ abs_turn
          (guarded (λ k. refuse_turn k [] p) (is_none n) n (answer_with done_answer (plain_with_windows ws p)))
      chosen zero = ap (λ (g : ℕ → Seat). record {
        reply = record { answer = done_answer; buffer = [] };
        after =
            record { file_of = p.file_of; value = p.committed.value; windows = ws; back = back_of p.earlier; seats = g };
      }) seats-same
      chosen (suc n) = refl

  -- Going back: nobody is open, so that nobody's lists matter.
  none_is : none_occupied (abs p) ≡ none_running p
  unfolding none_occupied none_running abs
  none_is = ap (λ (f : ℕ → Bool). below f 8) (fun_ext (λ t. ap not (occupied-is (p.slots t))))
    where
      occupied-is : (s : Slot) → is_occupied (seat_of p s) ≡ is_running s
      occupied-is closed = unfold seat_of is_occupied is_running in refl
      occupied-is (running r) = unfold seat_of is_occupied is_running in refl

  same-gone : (c : Committed) (n : ℕ) → none_running p ≡ true → returned c.value (abs p) ≡ abs (plain_restored c n p)
  unfolding returned abs back_of seat_of
  same-gone c n e =
      ap (λ (f : ℕ → Seat). record { file_of = p.file_of; value = c.value; windows = p.windows; back = none; seats = f })
      (fun_ext (λ t. seat-gone (p.slots t) (all_closed p g e t)))
    where
      seat-gone : (s : Slot) → s ≡ closed → seat_of p s ≡ seat_of (plain_restored c n p) s
      seat-gone s q = ap (seat_of p) q ∙ (unfold seat_of in ap (seat_of (plain_restored c n p)) (sym q))

  same-return : (x : Earlier) → none_running p ≡ true → abstract_return (back_of x) (abs p) ≡ abs_turn (plain_restore x p)
  unfolding abstract_return back_of plain_restore abs_turn abstract_refuse refuse_turn abstract_answer answer_with
  same-return nothing e = refl
  same-return (found c n) e = ap (λ (a : Abstract). record { reply = record { answer = done_answer; buffer = [] }; after = a })
      (same-gone c n e)

  same_back : abstract_undo (abs p) ≡ abs_turn (plain_undo p)
  unfolding abstract_undo plain_undo
  same_back = ap (λ (b : Bool). guarded (λ k. abstract_refuse k [] (abs p)) b 23 (abstract_return (abs p).back (abs p))) none_is
      ∙ chosen (none_running p) refl
    where
      chosen : (b : Bool) → none_running p ≡ b → guarded (λ k. abstract_refuse k [] (abs p)) b 23 (abstract_return
          (abs p).back (abs p)) ≡ abs_turn (guarded (λ k. refuse_turn k [] p) b 23 (plain_restore p.earlier p))
      chosen true e = unfold abs in same-return p.earlier e
      chosen false e = unfold abs_turn abstract_refuse refuse_turn in refl

  same-numbered : (t : ℕ) (buffer : List ℕ) (first : Seat → Abstract → AbstractTurn) (second : Slot → Plain → PlainTurn)
      → first (seat_of p (p.slots t)) (abs p) ≡ abs_turn (second (p.slots t) p)
      → seated t buffer first (abs p) ≡ abs_turn (with_number t buffer second p)
  unfolding seated with_number abs abs_turn abstract_refuse refuse_turn
  same-numbered t buffer first second h = chosen (leb t last_transaction)
    where
      chosen : (b : Bool) → cond b (first (seat_of p (p.slots t)) (abs p)) (abstract_refuse 3 buffer (abs p)) ≡ abs_turn
          (cond b (second (p.slots t) p) (refuse_turn 3 buffer p))
      chosen true = h
      chosen false = refl

-- F-14: what the store is asked and what the reference model is asked.
commit-same : (t minute : ℕ) (p : Plain) → Good p → abstract_commit_call t minute (abs p) ≡ abs_turn (plain_commit_call t minute p)
commit-same t minute p g = same-numbered p g t [] (abstract_commit t minute) (plain_commit t minute)
    (same-commit p g t minute (p.slots t))

module _ (minute : ℕ) where
  abbrev Stands : Abstract → Plain → Type 0
  Stands s p = Good p × (s ≡ abs p)

  committed : (t : ℕ) (s : Abstract) (p : Plain) → Stands s p → ((abstract_commit_call t minute s).reply ≡ (plain_commit_call t
      minute p).reply) × Stands (abstract_commit_call t minute s).after (plain_commit_call t minute p).after
  unfolding abs_turn
  committed t s p h = let e : abstract_commit_call t minute s ≡ abs_turn (plain_commit_call t minute p) =
      ap (abstract_commit_call t minute) h.1 ∙ commit-same t minute p h.0 in (
        ap (λ (τ : AbstractTurn). τ.reply) e,
        ((unfold plain_call in good-call (commit t minute) p h.0), ap (λ (τ : AbstractTurn). τ.after) e),
      )

  agreed : (p : Plain) → Good p → Agreed (abstract_asked minute (abs p)) (plain_asked minute p)
  unfolding abstract_asked plain_asked abs
  agreed p g = record {
    is_open = λ t e. opened (p.slots t);
    not_ready =
        λ t e. ap₂ (λ (b : Bool) (ws : List Write). b || has_unplaced ws) (staled (p.slots t)) (written (p.slots t));
    has_closed = λ t e. ap (for_closed p.file_of p.windows minute) (written (p.slots t));
    grants = fun_ext (λ o. grants-same (λ t x. (abstract_commit_call t minute x).reply)
        (λ t x. (abstract_commit_call t minute x).after) (λ t q. (plain_commit_call t minute q).reply)
        (λ t q. (plain_commit_call t minute q).after) Stands committed o (abs p) p (g, refl));
  }
    where
      opened : (s : Slot) → is_occupied (seat_of p s) ≡ is_running s
      opened closed = unfold seat_of is_occupied is_running in refl
      opened (running r) = unfold seat_of is_occupied is_running in refl

      staled : (s : Slot) → stale_seat (seat_of p s) ≡ stale_slot p s
      staled closed = unfold seat_of stale_seat stale_slot in refl
      staled (running r) = unfold seat_of open_txn_of stale_seat stale_slot in refl

      written : (s : Slot) → writes_seat (seat_of p s) ≡ writes_in s
      written closed = unfold seat_of writes_seat writes_in in refl
      written (running r) = unfold seat_of open_txn_of writes_seat writes_in in refl

  same-order : (p : Plain) → Good p → (ts : List ℕ) (budget : ℕ)
      → abstract_best_order ts minute budget (abs p) ≡ abs_turn (plain_best_order ts minute budget p)
  unfolding abstract_best_order plain_best_order abs_turn
  same-order p g ts budget = ap (λ (y : Reply). record { reply = y; after = abs p })
      (reply-same (abstract_asked minute (abs p)) (plain_asked minute p) (agreed p g) ts budget minute)

-- The store's turn is that of the reference model, for every call.
pub same-call : (c : Call) (p : Plain) → Good p → abstract_call c (abs p) ≡ abs_turn (plain_call c p)
unfolding abstract_call plain_call
same-call (begin t) p g = same-numbered p g t [] (abstract_begin t) (plain_begin t) (same-begin p g t (p.slots t))
same-call (on t o) p g = same-numbered p g t (buffer_of o) (abstract_on t o) (plain_on t o)
    (same-on p g t o (p.slots t) (g.sound t))
same-call (commit t minute) p g = commit-same t minute p g
same-call (abort t) p g = same-numbered p g t [] (abstract_abort t) (plain_abort t) (same-abort p g t (p.slots t))
same-call (places t f out) p g = same-numbered p g t out (abstract_places f out) (plain_places f out)
    (same-places p g f out (p.slots t))
same-call (set_window f start end) p g = same-window p g f start end
same-call undo_commit p g = same_back p g
same-call (best_order ts minute budget) p g = same-order minute p g ts budget

pub same_after : (cs : List Call) (p : Plain) → Good p → abstract_after cs (abs p) ≡ abs (plain_after cs p)
unfolding abstract_after abs_turn after_all
same_after [] p g = refl
same_after (c ∷ cs) p g = ap (λ (τ : AbstractTurn). abstract_after cs τ.after) (same-call c p g)
    ∙ same_after cs (plain_call c p).after (good-call c p g)

pub same-replies : (cs : List Call) (p : Plain) → Good p → abstract_replies cs (abs p) ≡ plain_replies cs p
unfolding abstract_replies abs_turn replies_to
same-replies [] p g = refl
same-replies (c ∷ cs) p g = ap (λ (τ : AbstractTurn). τ.reply ∷ abstract_replies cs τ.after) (same-call c p g)
    ∙ ap (λ (rs : List Reply). (plain_call c p).reply ∷ rs) (same-replies cs (plain_call c p).after (good-call c p g))
