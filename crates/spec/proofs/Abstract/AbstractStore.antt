-- The abstract store, which has no buffers, for the proof of serializability: committed values, windows, and for each open
-- transaction what it is, the bytes and the lengths that it has sighted, and whether it is stale. Nothing here has to be
-- believed: the store's rules are shown equal to it, and it to the reference model.
use Rattle.limits.specs.Limits.{last_transaction}
use Rattle.windows.specs.Windows.{minute_in, window, Windows}
use Rattle.spec.specs.{Places.places_of, Windows.for_closed}
use Rattle.spec.specs.Items.{Item, byte, offset, file_length, same, Values, result, asked}
use Rattle.spec.specs.Transactions.{Txn, Write, empty, put}
use Rattle.spec.specs.Messages.{Op, buffer_of, places, set_window, undo_commit, best_order, Call, begin, on, commit, abort}
use Rattle.spec.specs.{Messages.Reply, OrderReply.{grants_in, has_unplaced, Asked, order_reply}}
use Rattle.spec.specs.Steps.{Stepped, refuse, accept, step, refused_stale}
use Rattle.spec.specs.Commits.{Setting, settings, fits, landed, commit_refusal}
use mathlib.Core.{Bool.{Bool, true, false, cond, not, ◌&&◌, ◌||◌}, List.{List, [], ◌∷◌}}
use lib.Dec.{leb, eqb}
use Prim.Native.Nat.{ℕ, zero, suc}
use Rattle.buffers.specs.Bits.{bits_of}
use Rattle.state.specs.{declared.outcomes.Refusal.TheVariants.Stale, Outcomes.{number, Said, done_answer, granted, refused}}
use Rattle.admission.specs.{FirstRefusal.{guarded, is_none, below}, Admission.window_refusal}
use Rattle.standings.specs.Table.{is_known}

pub record OpenTxn : Type 0 where
  pub txn : Txn
  pub marked : ℕ → Bool
  pub lengths : ℕ → Bool
  pub stale : Bool

pub data Seat : Type 0 where
  vacant : Seat
  occupied : OpenTxn → Seat

-- 02, F-13: the values that the last grant found, as long as it can be undone.
pub data Saved : Type 0 where
  none : Saved
  preserved : Values → Saved

pub record Abstract : Type 0 where
  pub file_of : ℕ → ℕ
  pub value : Values
  pub windows : Windows
  pub back : Saved
  pub seats : ℕ → Seat

unfoldable pub start_abstract : (ℕ → ℕ) → Values → Windows → Saved → Abstract
start_abstract file_of v windows back = record { file_of = file_of; value = v; windows = windows; back = back; seats = λ t. vacant }

-- A byte is sighted where it is marked, an offset where its descriptor stands Known, and a length where its bit is set.
unfoldable pub abstract_sighted : OpenTxn → Item → Bool
abstract_sighted h (byte q) = h.marked q
abstract_sighted h (offset d) = is_known (h.txn.standing d)
abstract_sighted h (file_length f) = h.lengths f

-- Whether an item stands in a list.
unfoldable pub among : Item → List Item → Bool
among i [] = false
among i (j ∷ js) = same i j || among i js

unfoldable pub hit : List Setting → OpenTxn → Bool
hit [] h = false
hit (s ∷ ss) h = abstract_sighted h s.item || hit ss h

unfoldable pub mark_all : List Item → (ℕ → Bool) → ℕ → Bool
mark_all [] m = m
mark_all (byte q ∷ is) m = mark_all is (put q true m)
mark_all (offset d ∷ is) m = mark_all is m
mark_all (file_length f ∷ is) m = mark_all is m

unfoldable pub length_all : List Item → (ℕ → Bool) → ℕ → Bool
length_all [] m = m
length_all (byte q ∷ is) m = length_all is m
length_all (offset d ∷ is) m = length_all is m
length_all (file_length f ∷ is) m = length_all is (put f true m)

pub record AbstractTurn : Type 0 where
  pub reply : Reply
  pub after : Abstract

unfoldable pub abstract_refuse : ℕ → List ℕ → Abstract → AbstractTurn
abstract_refuse n buffer s = record { reply = record { answer = refused n; buffer = buffer }; after = s }

unfoldable pub with_seat : ℕ → Seat → Abstract → Abstract
with_seat t x s = record { file_of = s.file_of; value = s.value; windows = s.windows; back = s.back; seats = put t x s.seats }

unfoldable pub abstract_answer : Said → Abstract → AbstractTurn
abstract_answer a s = record { reply = record { answer = a; buffer = [] }; after = s }

unfoldable pub abstract_begin : ℕ → Seat → Abstract → AbstractTurn
abstract_begin t vacant s = abstract_answer done_answer
    (with_seat t (occupied (record { txn = empty; marked = λ q. false; lengths = λ f. false; stale = false })) s)
abstract_begin t (occupied h) s = abstract_refuse 5 [] s

unfoldable pub abstract_stepped : ℕ → Op → OpenTxn → List Item → Abstract → Stepped → AbstractTurn
abstract_stepped t o h is s (refuse n) = abstract_refuse n (buffer_of o) s
abstract_stepped t o h is s (accept y answer buffer) = record {
  reply = record { answer = answer; buffer = buffer };
  after = with_seat t (occupied
      (record { txn = y; marked = mark_all is h.marked; lengths = length_all is h.lengths; stale = h.stale })) s;
}

unfoldable pub abstract_on : ℕ → Op → Seat → Abstract → AbstractTurn
abstract_on t o vacant s = abstract_refuse 4 (buffer_of o) s
abstract_on t o (occupied h) s = abstract_stepped t o h (asked s.value (step s.file_of o h.txn)) s
    (refused_stale h.stale o (result s.value (step s.file_of o h.txn)))

-- Another open transaction after a commit of those settings.
unfoldable pub touch : List Setting → Seat → Seat
touch ss vacant = vacant
touch ss (occupied h) = occupied (record { txn = h.txn; marked = h.marked; lengths = h.lengths; stale = h.stale || hit ss h })

unfoldable pub newly_stale : List Setting → Seat → Bool
newly_stale ss vacant = false
newly_stale ss (occupied h) = not h.stale && hit ss h

-- Transaction t ends with these settings; every other open one that has sighted one of them is stale.
unfoldable pub granting : ℕ → List Setting → Abstract → AbstractTurn
granting t ss s = let others = put t vacant s.seats in record {
  reply = record { answer = granted (bits_of (λ u. newly_stale ss (others u)) 8); buffer = [] };
  after = record {
    file_of = s.file_of;
    value = landed ss s.value;
    windows = s.windows;
    back = preserved s.value;
    seats = λ u. touch ss (others u);
  };
}

unfoldable pub abstract_committed : ℕ → OpenTxn → Abstract → ℕ → AbstractTurn
abstract_committed t h s zero = granting t (settings s.file_of s.value h.txn) s
abstract_committed t h s (suc n) = record {
  reply = record { answer = refused (suc n); buffer = [] };
  after = cond (eqb (suc n) (number Stale)) (with_seat t vacant s) s;
}

unfoldable pub abstract_commit : ℕ → ℕ → Seat → Abstract → AbstractTurn
abstract_commit t minute vacant s = abstract_refuse 4 [] s
abstract_commit t minute (occupied h) s = abstract_committed t h s (commit_refusal (minute_in minute) h.stale
    (for_closed s.file_of s.windows minute h.txn.writes) (fits s.value h.txn))

unfoldable pub abstract_abort : ℕ → Seat → Abstract → AbstractTurn
abstract_abort t vacant s = abstract_refuse 4 [] s
abstract_abort t (occupied h) s = abstract_answer done_answer (with_seat t vacant s)

unfoldable pub abstract_places : ℕ → List ℕ → Seat → Abstract → AbstractTurn
abstract_places f out vacant s = abstract_refuse 4 out s
abstract_places f out (occupied h) s = record { reply = places_of s.file_of f out h.txn; after = s }

-- With another window for file f.
unfoldable pub windowed : ℕ → ℕ → ℕ → Abstract → Abstract
windowed f start end s = record {
  file_of = s.file_of;
  value = s.value;
  windows = put f (window start end) s.windows;
  back = s.back;
  seats = s.seats;
}

unfoldable pub abstract_window : ℕ → ℕ → ℕ → Abstract → AbstractTurn
abstract_window f start end s = let n = window_refusal f start end in
    guarded (λ k. abstract_refuse k [] s) (is_none n) n (abstract_answer done_answer (windowed f start end s))

unfoldable pub is_occupied : Seat → Bool
is_occupied vacant = false
is_occupied (occupied h) = true

unfoldable pub none_occupied : Abstract → Bool
none_occupied s = below (λ t. not (is_occupied (s.seats t))) 8

unfoldable pub returned : Values → Abstract → Abstract
returned v s = record { file_of = s.file_of; value = v; windows = s.windows; back = none; seats = s.seats }

unfoldable pub abstract_return : Saved → Abstract → AbstractTurn
abstract_return none s = abstract_refuse 24 [] s
abstract_return (preserved v) s = abstract_answer done_answer (returned v s)

unfoldable pub abstract_undo : Abstract → AbstractTurn
abstract_undo s = guarded (λ k. abstract_refuse k [] s) (none_occupied s) 23 (abstract_return s.back s)

unfoldable pub seated : ℕ → List ℕ → (Seat → Abstract → AbstractTurn) → Abstract → AbstractTurn
seated t buffer next s = cond (leb t last_transaction) (next (s.seats t) s) (abstract_refuse 3 buffer s)

abbrev pub abstract_commit_call : ℕ → ℕ → Abstract → AbstractTurn
abstract_commit_call t minute s = seated t [] (abstract_commit t minute) s

-- 02, F-14: what it is asked.
unfoldable pub stale_seat : Seat → Bool
stale_seat vacant = false
stale_seat (occupied h) = h.stale

unfoldable pub writes_seat : Seat → List Write
writes_seat vacant = []
writes_seat (occupied h) = h.txn.writes

unfoldable pub abstract_asked : ℕ → Abstract → Asked
abstract_asked minute s = record {
  is_open = λ t. is_occupied (s.seats t);
  not_ready = λ t. stale_seat (s.seats t) || has_unplaced (writes_seat (s.seats t));
  has_closed = λ t. for_closed s.file_of s.windows minute (writes_seat (s.seats t));
  grants = λ o. grants_in (λ t x. (abstract_commit_call t minute x).reply) (λ t x. (abstract_commit_call t minute x).after) o s;
}

unfoldable pub abstract_best_order : List ℕ → ℕ → ℕ → Abstract → AbstractTurn
abstract_best_order ts minute budget s = record { reply = order_reply (abstract_asked minute s) ts minute budget; after = s }

unfoldable pub abstract_call : Call → Abstract → AbstractTurn
abstract_call (begin t) s = seated t [] (abstract_begin t) s
abstract_call (on t o) s = seated t (buffer_of o) (abstract_on t o) s
abstract_call (commit t minute) s = abstract_commit_call t minute s
abstract_call (abort t) s = seated t [] (abstract_abort t) s
abstract_call (places t f out) s = seated t out (abstract_places f out) s
abstract_call (set_window f start end) s = abstract_window f start end s
abstract_call undo_commit s = abstract_undo s
abstract_call (best_order ts minute budget) s = abstract_best_order ts minute budget s

unfoldable pub abstract_after : List Call → Abstract → Abstract
abstract_after [] s = s
abstract_after (c ∷ cs) s = abstract_after cs (abstract_call c s).after

unfoldable pub abstract_replies : List Call → Abstract → List Reply
abstract_replies [] s = []
abstract_replies (c ∷ cs) s = (abstract_call c s).reply ∷ abstract_replies cs (abstract_call c s).after
