-- What the buffer for an answer holds beforehand does not count.
use mathlib.Core.{Bool.{Bool, true, false, cond}, List.{List, [], ◌∷◌, ◌++◌, map}, Path.{◌≡◌, refl, sym, ap, ap₂, ◌∙◌}}
use Prim.Native.Nat.{ℕ, ◌*◌}
use native.Mathlib.Omega.{arith}
use lib.{Dec.leb, ListN.{length, drop, replicate, length-replicate}, Seq.{take-append_seam, take_at}}
use Rattle.limits.specs.Limits.{last_descriptor}
use Rattle.state.specs.{Outcomes.{Said, pairs, refused}, StoreMeaning.transaction}
use Rattle.admission.specs.{Admission.admission, FirstRefusal.is_none}
use Rattle.spec.specs.{Items.{Item, Values, Prog, done, and_then, result, asked}, Machine.{Machine, txn_of, values, file_of, sizes}}
use Rattle.spec.specs.Messages.{Call, begin, on, commit, abort, places, set_window, undo_commit, best_order, replies_to, after_all, Op}
use Rattle.spec.specs.{Messages.{seek, write, get_file_pointer, read, buffer_of}, Transactions.{Txn, Settled, past, all}}
use Rattle.spec.specs.Steps.{Stepped, refuse, accept, check, or_given_back, read_settled, read_step, step, refused_stale, refuses_stale}
use Rattle.spec.specs.Steps.{is_read_call, descriptor_of_op}
use Rattle.spec.specs.Places.{Interval, encoded, sixteen, intervals_of, covered, places_refusal, places_reply, places_of}
use Rattle.spec.specs.Calls.{call, Turn, refuse_turn, passing, admitted, served, step_turn, places_turn, logged, calls_after}
use Rattle.spec.{specs.Calls.calls_replies, proofs.Abstract.Programs.{result-and_then, asked-and_then}}
use Rattle.text_log.specs.{Statements.{blank, blank_op}, Replays.{shown, shown_by, SameTurn}}

pub same_turn : (x : Turn) → SameTurn x x
same_turn x = record { after = refl; answer = refl; shows = refl }

-- ---- a step, but for the rest of its buffer

unfoldable pub Close : Stepped → Stepped → Type 0
Close (refuse n) (refuse k) = n ≡ k
Close (refuse n) (accept x a b) = ⊥
Close (accept y b c) (refuse n) = ⊥
Close (accept x a b) (accept y a' b') = (x ≡ y) × (a ≡ a') × (shown a b ≡ shown a' b')

pub record Near (v : Values) (p q : Prog Stepped) : Type 0 where
  pub asks : asked v p ≡ asked v q
  pub comes : Close (result v p) (result v q)

pub near-at : {A : Type 0} (v : Values) (p : Prog A) (k l : A → Prog Stepped) → Near v (k (result v p)) (l (result v p))
    → Near v (and_then p k) (and_then p l)
near-at v p k l h = record {
  asks = asked-and_then v p k ∙ ap (λ (is : List Item). asked v p ++ is) h.asks ∙ sym (asked-and_then v p l);
  comes = rw (result-and_then v p k, result-and_then v p l) h.comes;
}

near-and_then : {A : Type 0} (v : Values) (p : Prog A) (k l : A → Prog Stepped) → ((a : A) → Near v (k a) (l a))
    → Near v (and_then p k) (and_then p l)
near-and_then v p k l h = near-at v p k l (h (result v p))

pub near-refused : (v : Values) (n : ℕ) → Near v (done (refuse n)) (done (refuse n))
near-refused v n = unfold Close asked result in record { asks = refl; comes = refl }

pub near-check : (v : Values) (b : Bool) (n : ℕ) (p q : Prog Stepped) → Near v p q → Near v (check b n p) (check b n q)
unfolding check
near-check v true n p q h = h
near-check v false n p q h = near-refused v n

module _ (v : Values) (file : ℕ → ℕ) (d n : ℕ) (b c : List ℕ) where
  near-settled : (y : Txn) → Near v (read_settled file d n b y) (read_settled file d n c y)
  near-settled y = unfold read_settled Close asked result shown in near-and_then v _ _ _ (λ bytes. record {
    asks = refl;
    comes = (
      refl,
      refl,
      take-append_seam bytes (drop (length bytes) b) ∙ sym (take-append_seam bytes (drop (length bytes) c)),
    );
  })

  near-given : (s : Settled) → Near v (or_given_back (read_settled file d n b) s) (or_given_back (read_settled file d n c) s)
  unfolding or_given_back
  near-given past = near-refused v 12
  near-given (all y) = near-settled y

  near-read : length b ≡ length c → (x : Txn) → Near v (read_step file d n b x) (read_step file d n c x)
  unfolding read_step
  near-read e x =
      rw e (near-check v (leb d last_descriptor) 6 _ _ (near-check v (leb n (length c)) 7 _ _ (near-and_then v _ _ _ near-given)))

-- ---- turns

pub served-alike : (t d n k : ℕ) (b c : List ℕ) (m : Machine) (is : List Item) (s r : Stepped) → Close s r
    → SameTurn (served t (read d n b) m is s) (served t (read d k c) m is r)
unfolding served Close shown refuse_turn logged
served-alike t d n k b c m is (refuse i) (refuse l) e = record { after = refl; answer = ap refused e; shows = refl }
served-alike t d n k b c m is (refuse i) (accept y a o) e = absurd e
served-alike t d n k b c m is (accept y a o) (refuse i) e = absurd e
served-alike t d n k b c m is (accept x a o) (accept y a' o') e = record { after = rw e.0; answer = e.1; shows = e.2 }

pub turned-close : (t : Bool) (s r : Stepped) → Close s r → Close (cond t (refuse 18) s) (cond t (refuse 18) r)
unfolding Close
turned-close true s r h = refl
turned-close false s r h = h

pub read_alike : (t d n : ℕ) (b c : List ℕ) → length b ≡ length c → (m : Machine)
    → SameTurn (step_turn t (read d n b) m) (step_turn t (read d n c) m)
unfolding step_turn step refused_stale refuses_stale is_read_call descriptor_of_op
read_alike t d n b c e m = let v = values m.store m.files in
    let near = near-read v (file_of m.store) d n b c e (txn_of m.store m.journal m.logs t) in
    rw near.asks (served-alike t d n n b c m _ _ _
    (turned-close (refuses_stale (transaction m.store t).stale (read d n c)) _ _ near.comes))

pub admitted-alike : (t : ℕ) (b c : List ℕ) (m : Machine) (x y : Turn) → SameTurn x y
    → SameTurn (admitted t b m x) (admitted t c m y)
unfolding admitted passing refuse_turn shown
admitted-alike t b c m x y h = pick (admission (sizes m) m.store m.journal t)
    (is_none (admission (sizes m) m.store m.journal t))
  where
    pick : (n : ℕ) (k : Bool) → SameTurn (cond k x (refuse_turn n b m)) (cond k y (refuse_turn n c m))
    pick n true = h
    pick n false = record { after = refl; answer = refl; shows = refl }

length-encoded : (l : List Interval) → length (encoded l) ≡ 4 * length l
unfolding encoded sixteen
length-encoded [] = refl
length-encoded (s ∷ l) = omega (arith, length-encoded l)

pub reply-alike : (file : ℕ → ℕ) (f : ℕ) (b c : List ℕ) (x : Txn) (m : Machine) (n : ℕ)
    → SameTurn (record { reply = places_reply file f b x n; after = m }) (record { reply = places_reply file f c x n; after = m })
unfolding places_reply shown
reply-alike file f b c x m n = pick (is_none n)
  where
    l : List Interval
    l = intervals_of (covered file f x.writes)

    pick : (k : Bool) → SameTurn (record {
      reply = cond k (record { answer = pairs (length l); buffer = encoded l ++ drop (4 * length l) b })
          (record { answer = refused n; buffer = b });
      after = m;
    }) (record {
      reply = cond k (record { answer = pairs (length l); buffer = encoded l ++ drop (4 * length l) c })
          (record { answer = refused n; buffer = c });
      after = m;
    })
    pick true = record {
      after = refl;
      answer = refl;
      shows = take_at (encoded l) (drop (4 * length l) b) (4 * length l) (length-encoded l)
          ∙ sym (take_at (encoded l) (drop (4 * length l) c) (4 * length l) (length-encoded l));
    }
    pick false = record { after = refl; answer = refl; shows = refl }

pub places-alike : (t f : ℕ) (b c : List ℕ) → length b ≡ length c → (m : Machine)
    → SameTurn (places_turn t f b m) (places_turn t f c m)
places-alike t f b c e m = unfold places_turn places_of places_refusal in let x = txn_of m.store m.journal m.logs t in
    rw e (reply-alike (file_of m.store) f b c x m (places_refusal (file_of m.store) f c x))

-- ---- calls

blanked-op : (t : ℕ) (o : Op) (m : Machine) → SameTurn (call (on t (blank_op o)) m) (call (on t o) m)
unfolding blank_op call buffer_of
blanked-op t (seek d v) m = same_turn _
blanked-op t (write d bytes) m = same_turn _
blanked-op t (get_file_pointer d) m = same_turn _
blanked-op t (read d n buffer) m = admitted-alike t (replicate (length buffer) 0) buffer m _ _
    (read_alike t d n (replicate (length buffer) 0) buffer (length-replicate (length buffer) 0) m)

pub blanked : (c : Call) (m : Machine) → SameTurn (call (blank c) m) (call c m)
unfolding blank
blanked (begin t) m = same_turn _
blanked (on t o) m = blanked-op t o m
blanked (commit t minute) m = same_turn _
blanked (abort t) m = same_turn _
blanked (places t f out) m =
    unfold call in admitted-alike t (replicate (length out) 0) out m _ _
    (places-alike t f (replicate (length out) 0) out (length-replicate (length out) 0) m)
blanked (set_window f start end) m = same_turn _
blanked undo_commit m = same_turn _
blanked (best_order ts minute budget) m = same_turn _

pub blanked-all : (cs : List Call) (m : Machine)
    → (calls_after (map blank cs) m ≡ calls_after cs m) × (map (λ r. r.answer) (calls_replies (map blank cs) m) ≡ map
    (λ r. r.answer) (calls_replies cs m)) × (map shown_by (calls_replies (map blank cs) m) ≡ map shown_by (calls_replies cs m))
unfolding after_all replies_to
blanked-all [] m = (refl, refl, refl)
blanked-all (c ∷ cs) m = let h = blanked c m in let r = blanked-all cs (call c m).after in (
  ap (λ (n : Machine). calls_after (map blank cs) n) h.after ∙ r.0,
  ap₂ (λ (a : Said) (l : List Said). a ∷ l) h.answer
      (ap (λ (n : Machine). map (λ r. r.answer) (calls_replies (map blank cs) n)) h.after ∙ r.1),
  ap₂ (λ (a : List ℕ) (l : List (List ℕ)). a ∷ l) h.shows
      (ap (λ (n : Machine). map shown_by (calls_replies (map blank cs) n)) h.after ∙ r.2),
)
