-- Second half of serializability: the granted transactions, run again alone in the order of their grants, do the same and leave
-- the same.
use mathlib.Core.{Bool.{Bool, true, false, cond, not}, List.{List, [], ◌∷◌, ◌++◌, map}, Option.Option-elim}
use mathlib.Core.Path.{◌≡◌, refl, sym, ap, ap₂, ◌∙◌, subst}
use native.Mathlib.Omega.{arith}
use lib.{ListN.length, Dec.leb}
use Rattle.limits.specs.Limits.{last_transaction}
use Rattle.admission.{proofs.Laws.below_all, specs.{FirstRefusal.{guarded, is_none}, Admission.window_refusal}}
use borrow.Author.Tests.{not-false}
use Prim.Native.Nat.{ℕ, zero, suc, ◌+◌}
use Rattle.windows.specs.Windows.{minute_in, window, Windows, fresh_windows}
use Rattle.state.specs.Outcomes.{done_answer, refused}
use Rattle.spec.specs.{Windows.for_closed, Items.{result, asked}, Transactions.{Txn, empty, put}}
use Rattle.spec.specs.Messages.{Op, buffer_of, places, set_window, undo_commit, best_order, after_all, Call, begin, on, commit}
use Rattle.spec.specs.Messages.{abort, Reply, refusal_of, is_grant, answer_with, refuse_turn}
use Rattle.spec.specs.{Steps.{Stepped, refuse, accept, step, refused_stale}, Commits.{fits, commit_refusal}}
use Rattle.spec.specs.Sightings.{Entry, entries, Committed}
use Rattle.spec.specs.Plain.{Running, Slot, closed, running, Plain, Earlier, nothing, found, is_running, none_running}
use Rattle.spec.specs.Plain.{plain_restored, plain_restore, plain_undo, plain_with_windows, plain_set_window, plain_best_order, ops}
use Rattle.spec.specs.Plain.{is_stale, PlainTurn, with_slot, plain_begin, plain_stepped, plain_on, committing, grant}
use Rattle.spec.specs.Plain.{plain_committed, plain_commit, plain_abort, with_number, plain_call, plain_after, plain_places}
use Rattle.spec.specs.LoneRuns.{Lone, lone}
use Rattle.spec.specs.Grants.{Grant, granted_by, Serial, but_last, dropped_from, adding, serial_by, serial_from, serial_of}
use Rattle.spec.proofs.Abstract.{Alone.{again, serially, SameAgain, AllSame}, Lists.{current, current-is}}
use Rattle.spec.proofs.Abstract.RecordedRuns.{SoundRun, recorded-run, alone-now}
use Rattle.spec.proofs.Abstract.{PlainInvariant.{Good, sound-at, open-number, good-call}, SameReplies.stale-is}

-- An open transaction that is not stale: its run in isolation on the committed state is the recorded one.
pub alone-recorded : (p : Plain) (r : Running) → SoundRun p.file_of p.committed p.grants r → is_stale p r ≡ false
    → lone p.file_of p.committed (ops r.calls) empty ≡ record
    { through = true; txn = r.txn; replies = map (λ a. a.reply) r.calls; seen = r.seen }
unfolding recorded-run
alone-recorded p r s e = let c : current p.committed.setter r.seen ≡ true =
    not-false (current p.committed.setter r.seen) (sym (stale-is p r s) ∙ e) in
    alone-now p.file_of p.committed p.grants r s c
    ∙ ap (λ (es : List Entry). record { through = true; txn = r.txn; replies = map (λ a. a.reply) r.calls; seen = es })
    (current-is p.committed.setter r.seen c)

-- What a call does to the committed state and to the serial order: nothing, or it is a granted Commit, or it goes back.
pub data Turned (p : Plain) (s : Serial) : PlainTurn → Serial → Type 0 where
  preserved : (reply : Reply) (windows : Windows) (slots : ℕ → Slot) → Turned p s (record {
    reply = reply;
    after = record {
      file_of = p.file_of;
      committed = p.committed;
      grants = p.grants;
      windows = windows;
      earlier = p.earlier;
      slots = slots;
    };
  }) s
  grants : (t minute : ℕ) (r : Running) (reply : Reply) → minute_in minute ≡ true → p.slots t ≡ running r → is_stale p
      r ≡ false → fits p.committed.value r.txn ≡ true → Turned p s (record { reply = reply; after = grant t r p })
      (adding (record { txn_number = t; minute = minute; calls = r.calls } ∷ []) s)
  undone : (c : Committed) (n : ℕ) (reply : Reply) → p.earlier ≡ found c n → none_running p ≡ true
      → Turned p s (record { reply = reply; after = plain_restored c n p }) (dropped_from s.start s.grants)

-- An undo, accepted or not.
abbrev Taken : Plain → Serial → PlainTurn → Type 0
Taken p s τ = Turned p s τ (Option-elim (refusal_of τ.reply.answer) (dropped_from s.start s.grants) (λ n. s))

module _ (p : Plain) (s : Serial) where
  turned-begin : (t : ℕ) (z : Slot) → Turned p s (plain_begin t z p) s
  unfolding plain_begin answer_with with_slot refuse_turn
  turned-begin t closed = preserved _ _ _
  turned-begin t (running r) = preserved _ _ _

  turned-stepped : (t : ℕ) (o : Op) (r : Running) (es : List Entry) (z : Stepped) → Turned p s (plain_stepped t o r es p z) s
  unfolding plain_stepped with_slot refuse_turn
  turned-stepped t o r es (refuse n) = preserved _ _ _
  turned-stepped t o r es (accept y answer buffer) = preserved _ _ _

  turned_on : (t : ℕ) (o : Op) (z : Slot) → Turned p s (plain_on t o z p) s
  unfolding plain_on refuse_turn
  turned_on t o closed = preserved _ _ _
  turned_on t o (running r) =
      turned-stepped t o r (entries p.committed.setter (asked p.committed.value (step p.file_of o r.txn)))
      (refused_stale (is_stale p r) o (result p.committed.value (step p.file_of o r.txn)))

  turned-committed : (t minute : ℕ) (r : Running) → p.slots t ≡ running r → (daily stale shut placed : Bool)
      → minute_in minute ≡ daily → is_stale p r ≡ stale → fits p.committed.value r.txn ≡ placed
      → Turned p s (plain_committed t r p (commit_refusal daily stale shut placed)) (adding (granted_by t minute
      (plain_committed t r p (commit_refusal daily stale shut placed)).reply.answer (running r)) s)
  unfolding plain_committed commit_refusal granted_by is_grant answer_with with_slot adding
  turned-committed t minute r o false stale shut placed d e f = preserved _ _ _
  turned-committed t minute r o true true shut placed d e f = preserved _ _ _
  turned-committed t minute r o true false true placed d e f = preserved _ _ _
  turned-committed t minute r o true false false true d e f = grants t minute r _ d o e f
  turned-committed t minute r o true false false false d e f = preserved _ _ _

  turned-commit : (t minute : ℕ) (z : Slot) → p.slots t ≡ z
      → Turned p s (plain_commit t minute z p) (adding (granted_by t minute (plain_commit t minute z p).reply.answer z) s)
  unfolding plain_commit refuse_turn granted_by adding
  turned-commit t minute closed o = preserved _ _ _
  turned-commit t minute (running r) o = turned-committed t minute r o (minute_in minute) (is_stale p r)
      (for_closed p.file_of p.windows minute r.txn.writes) (fits p.committed.value r.txn) refl refl refl

  turned-refused : (t minute n : ℕ) (z : Slot) → Turned p s (refuse_turn n [] p) (adding (granted_by t minute (refused n) z) s)
  unfolding refuse_turn granted_by is_grant adding
  turned-refused t minute n closed = preserved _ _ _
  turned-refused t minute n (running r) = preserved _ _ _

  turned-abort : (t : ℕ) (z : Slot) → Turned p s (plain_abort t z p) s
  unfolding plain_abort refuse_turn answer_with with_slot
  turned-abort t closed = preserved _ _ _
  turned-abort t (running r) = preserved _ _ _

  turned-places : (f : ℕ) (out : List ℕ) (z : Slot) → Turned p s (plain_places f out z p) s
  unfolding plain_places refuse_turn
  turned-places f out closed = preserved _ _ _
  turned-places f out (running r) = preserved _ _ _

  turned-window : (f start end : ℕ) → Turned p s (plain_set_window f start end p) s
  unfolding plain_set_window refuse_turn answer_with
  turned-window f start end = chosen (window_refusal f start end)
    where
      chosen : (n : ℕ) → Turned p s (guarded (λ k. refuse_turn k [] p) (is_none n) n
          (answer_with done_answer (plain_with_windows (put f (window start end) p.windows) p))) s
      chosen zero = preserved _ _ _
      chosen (suc n) = preserved _ _ _

  -- What holds of a call's turn and of a refusal 3 holds of the call.
  turned-numbered : (P : PlainTurn → Type 0) (t : ℕ) (buffer : List ℕ) (next : Slot → Plain → PlainTurn)
      → P (next (p.slots t) p) → P (refuse_turn 3 buffer p) → P (with_number t buffer next p)
  unfolding with_number
  turned-numbered P t buffer next h k = chosen (leb t last_transaction)
    where
      chosen : (b : Bool) → P (cond b (next (p.slots t) p) (refuse_turn 3 buffer p))
      chosen true = h
      chosen false = k

  turned-return : (x : Earlier) → p.earlier ≡ x → none_running p ≡ true → Taken p s (plain_restore x p)
  unfolding plain_restore refuse_turn answer_with Option-elim refusal_of
  turned-return nothing q e = preserved _ _ _
  turned-return (found c n) q e = undone c n _ q e

  turned-undo : Taken p s (plain_undo p)
  unfolding plain_undo
  turned-undo = chosen (none_running p) refl
    where
      chosen : (b : Bool) → none_running p ≡ b
          → Taken p s (guarded (λ n. refuse_turn n [] p) b 23 (plain_restore p.earlier p))
      chosen true e = turned-return p.earlier refl e
      chosen false e = unfold refuse_turn Option-elim refusal_of in preserved _ _ _

  pub turned : (c : Call) → Turned p s (plain_call c p) (serial_by c p s)
  unfolding plain_call serial_by refuse_turn
  turned (begin t) = turned-numbered (λ τ. Turned p s τ s) t [] (plain_begin t) (turned-begin t (p.slots t)) (preserved _ _ _)
  turned (on t o) = turned-numbered (λ τ. Turned p s τ s) t (buffer_of o) (plain_on t o) (turned_on t o (p.slots t))
      (preserved _ _ _)
  turned (commit t minute) = turned-numbered (λ τ. Turned p s τ (adding (granted_by t minute τ.reply.answer (p.slots t))
      s)) t [] (plain_commit t minute) (turned-commit t minute (p.slots t) refl) (turned-refused t minute 3 (p.slots t))
  turned (abort t) = turned-numbered (λ τ. Turned p s τ s) t [] (plain_abort t) (turned-abort t (p.slots t)) (preserved _ _ _)
  turned (places t f out) = turned-numbered (λ τ. Turned p s τ s) t out (plain_places f out) (turned-places f out (p.slots t))
      (preserved _ _ _)
  turned (set_window f start end) = turned-window f start end
  turned undo_commit = turned-undo
  turned (best_order ts minute budget) = unfold plain_best_order in preserved _ _ _

-- No call changes a descriptor's file.
files-turn : (p : Plain) (s : Serial) (τ : PlainTurn) (z : Serial) → Turned p s τ z → τ.after.file_of ≡ p.file_of
unfolding grant with_slot
files-turn p s τ z (preserved reply windows slots) = refl
files-turn p s τ z (grants t minute r reply d o e f) = refl
files-turn p s τ z (undone c n reply q e) = refl

pub files-preserved : (cs : List Call) (p : Plain) → (plain_after cs p).file_of ≡ p.file_of
unfolding after_all
files-preserved [] p = refl
files-preserved (c ∷ cs) p = let s : Serial = record { start = p; grants = [] } in
    files-preserved cs (plain_call c p).after ∙ files-turn p s (plain_call c p) (serial_by c p s) (turned p s c)

module _ (p : Plain) where
  granted-again : (t minute : ℕ) (r : Running) → leb t last_transaction ≡ true → minute_in minute ≡ true
      → SoundRun p.file_of p.committed p.grants r → is_stale p r ≡ false → fits p.committed.value r.txn ≡ true
      → SameAgain p.file_of p.committed (record { txn_number = t; minute = minute; calls = r.calls })
  granted-again t minute r small d s e f = unfold again in let l = alone-recorded p r s e in record {
    small = small;
    daily = d;
    through = ap (λ (a : Lone). a.through) l;
    replies = ap (λ (a : Lone). a.replies) l;
    fitting = ap (λ (a : Lone). fits p.committed.value a.txn) l ∙ f;
  }

-- ---- one grant more at the end of the serial order, and one fewer

but_last_lem : (gs : List Grant) (g : Grant) → but_last (gs ++ (g ∷ [])) ≡ gs
unfolding but_last
but_last_lem [] g = refl
but_last_lem (x ∷ []) g = refl
but_last_lem (x ∷ (y ∷ gs)) g = ap (λ (l : List Grant). x ∷ l) (but_last_lem (y ∷ gs) g)

length_more : (gs : List Grant) (g : Grant) → length (gs ++ (g ∷ [])) ≡ length gs + 1
length_more [] g = refl
length_more (x ∷ gs) g = let e = length_more gs g in omega arith

module _ (file_of : ℕ → ℕ) where
  serially-more : (gs : List Grant) (g : Grant) (n k : ℕ) (c : Committed) → n + length gs ≡ k
      → serially file_of n (gs ++ (g ∷ [])) c
      ≡ committing file_of (k + 1) (again file_of (serially file_of n gs c) g.calls).txn (serially file_of n gs c)
  unfolding serially
  serially-more [] g n k c e = let f : n ≡ k = omega arith in
      ap (λ (i : ℕ). committing file_of (i + 1) (again file_of c g.calls).txn c) f
  serially-more (x ∷ gs) g n k c e =
      serially-more gs g (n + 1) k (committing file_of (n + 1) (again file_of c x.calls).txn c) (omega arith)

  all_more : (gs : List Grant) (g : Grant) (n : ℕ) (c : Committed) → AllSame file_of n gs c
      → SameAgain file_of (serially file_of n gs c) g → AllSame file_of n (gs ++ (g ∷ [])) c
  unfolding AllSame serially
  all_more [] g n c a b = (b, tt)
  all_more (x ∷ gs) g n c a b =
      (a.0, all_more gs g (n + 1) (committing file_of (n + 1) (again file_of c x.calls).txn c) a.1 b)

  all-fewer : (g : Grant) (gs : List Grant) (n : ℕ) (c : Committed) → AllSame file_of n (g ∷ gs) c
      → AllSame file_of n (but_last (g ∷ gs)) c
  unfolding AllSame but_last
  all-fewer g [] n c a = tt
  all-fewer g (h ∷ gs) n c a =
      (a.0, all-fewer h gs (n + 1) (committing file_of (n + 1) (again file_of c g.calls).txn c) a.1)

  -- What the machine goes back to, by the serial order: the run without its last grant, or what its start goes back to.
  unfoldable pub BackTo : Plain → List Grant → Committed → ℕ → Type 0
  BackTo start [] c n = start.earlier ≡ found c n
  BackTo start (g ∷ gs) c n = (serially file_of start.grants (but_last (g ∷ gs)) start.committed ≡ c)
      × (start.grants + length (but_last (g ∷ gs)) ≡ n)

  back_more : (start : Plain) (gs : List Grant) (g : Grant)
      → BackTo start (gs ++ (g ∷ [])) (serially file_of start.grants gs start.committed) (start.grants + length gs)
  unfolding BackTo but_last
  back_more start [] g = (refl, refl)
  back_more start (x ∷ gs) g = let e = but_last_lem (x ∷ gs) g in (
    ap (λ (l : List Grant). serially file_of start.grants l start.committed) e,
    ap (λ (l : List Grant). start.grants + length l) e,
  )

-- The granted ones that were not undone do the same again, and leave the machine's committed state; and where it can go back, the
-- run without the last of them leaves that.
pub record InOrder (s : Serial) (p : Plain) : Type 0 where
  pub files : s.start.file_of ≡ p.file_of
  pub windows : s.start.windows ≡ fresh_windows
  pub idle : (u : ℕ) → s.start.slots u ≡ closed
  pub same : AllSame p.file_of s.start.grants s.grants s.start.committed
  pub left : serially p.file_of s.start.grants s.grants s.start.committed ≡ p.committed
  pub count : s.start.grants + length s.grants ≡ p.grants
  pub back : (c : Committed) (n : ℕ) → p.earlier ≡ found c n → BackTo p.file_of s.start s.grants c n

found_first : (c d : Committed) (n k : ℕ) → found c n ≡ found d k → c ≡ d
found_first c d n k e = ap first e
  where
    first : Earlier → Committed
    first nothing = c
    first (found x i) = x

found-second : (c d : Committed) (n k : ℕ) → found c n ≡ found d k → n ≡ k
found-second c d n k e = ap second e
  where
    second : Earlier → ℕ
    second nothing = n
    second (found x i) = i

pub nothing-found : (d : Committed) (k : ℕ) → nothing ≡ found d k → ⊥
nothing-found d k e = let z : ◌≡◌ {A = ℕ} 0 1 = ap expected e in absurd (omega arith)
  where
    expected : Earlier → ℕ
    expected nothing = 0
    expected (found x i) = 1

module _ (p : Plain) (g : Good p) where
  granted-last : (s : Serial) (t minute : ℕ) (r : Running) → InOrder s p → minute_in minute ≡ true → p.slots t ≡ running r
      → is_stale p r ≡ false → fits p.committed.value r.txn ≡ true
      → InOrder (adding (record { txn_number = t; minute = minute; calls = r.calls } ∷ []) s) (grant t r p)
  unfolding grant with_slot adding again
  granted-last s t minute r i d o e f = let h : Grant = record { txn_number = t; minute = minute; calls = r.calls } in
      let sound = sound-at p g t r o in let start = s.start in let small = open-number p g t r o in
      let x : (again p.file_of p.committed r.calls).txn ≡ r.txn =
      ap (λ (a : Lone). a.txn) (alone-recorded p r sound e) in
      let again-same : SameAgain p.file_of p.committed h = granted-again p t minute r small d sound e f in record {
        files = i.files;
        windows = i.windows;
        idle = i.idle;
        same = all_more p.file_of s.grants h start.grants start.committed i.same
            (subst (λ (c : Committed). SameAgain p.file_of c h) (sym i.left) again-same);
        left = serially-more p.file_of s.grants h start.grants p.grants start.committed i.count
            ∙ ap (λ (c : Committed). committing p.file_of (p.grants + 1) (again p.file_of c r.calls).txn c)
            i.left ∙ ap (λ (y : Txn). committing p.file_of (p.grants + 1) y p.committed) x;
        count = let l = length_more s.grants h in omega (arith, i.count);
        back = λ c n q. subst (λ (k : ℕ). BackTo p.file_of start (s.grants ++ (h ∷ [])) c k) (i.count
            ∙ found-second p.committed c p.grants n q) (subst (λ (b : Committed). BackTo p.file_of start
            (s.grants ++ (h ∷ [])) b (start.grants + length s.grants)) (i.left
            ∙ found_first p.committed c p.grants n q) (back_more p.file_of start s.grants h));
      }

-- The start goes back itself, where no grant is left.
start_back : (start : Plain) (c : Committed) (n : ℕ) → ((u : ℕ) → start.slots u ≡ closed) → start.earlier ≡ found c n
    → (plain_call undo_commit start).after ≡ plain_restored c n start
unfolding plain_call plain_undo none_running
start_back start c n idle e = ap₂ (λ (b : Bool) (x : Earlier). (guarded (λ k. refuse_turn k [] start) b 23
    (plain_restore x start)).after) (below_all (λ t. not (is_running (start.slots t))) 8 (λ t l. ap (λ (z : Slot). not
    (is_running z)) (idle t) ∙ (unfold is_running in refl))) e ∙ (unfold plain_restore answer_with in refl)

taken-last : (p start : Plain) (gs : List Grant) (c : Committed) (n : ℕ) → InOrder (record { start = start; grants = gs }) p
    → p.earlier ≡ found c n → InOrder (dropped_from start gs) (plain_restored c n p)
unfolding dropped_from serially AllSame BackTo
taken-last p start [] c n i e = subst (λ (q : Plain). InOrder (record { start = q; grants = [] }) (plain_restored c n p))
    (sym (start_back start c n i.idle (i.back c n e))) (record {
      files = i.files;
      windows = i.windows;
      idle = i.idle;
      same = tt;
      left = refl;
      count = omega arith;
      back = λ d k q. absurd (nothing-found d k q);
    })
taken-last p start (g ∷ gs) c n i e = let b = i.back c n e in record {
  files = i.files;
  windows = i.windows;
  idle = i.idle;
  same = all-fewer p.file_of g gs start.grants start.committed i.same;
  left = b.0;
  count = b.1;
  back = λ d k q. absurd (nothing-found d k q);
}

in-order-turn : (p : Plain) → Good p → (s : Serial) (τ : PlainTurn) (z : Serial) → Turned p s τ z → InOrder s p
    → InOrder z τ.after
in-order-turn p g s τ z (preserved reply windows slots) i = record {
  files = i.files;
  windows = i.windows;
  idle = i.idle;
  same = i.same;
  left = i.left;
  count = i.count;
  back = i.back;
}
in-order-turn p g s τ z (grants t minute r reply d o e f) i = granted-last p g s t minute r i d o e f
in-order-turn p g s τ z (undone c n reply q e) i = taken-last p s.start s.grants c n i q

pub in_order : (cs : List Call) (p : Plain) → Good p → (s : Serial) → InOrder s p → InOrder (serial_from cs p s) (plain_after cs p)
unfolding serial_from after_all
in_order [] p g s i = i
in_order (c ∷ cs) p g s i = in_order cs (plain_call c p).after (good-call c p g) (serial_by c p s)
    (in-order-turn p g s (plain_call c p) (serial_by c p s) (turned p s c) i)

-- From a machine with nothing open.
pub in-order-from : (cs : List Call) (p : Plain) → Good p → ((u : ℕ) → p.slots u ≡ closed)
    → InOrder (serial_of cs p) (plain_after cs p)
unfolding serial_of serially AllSame BackTo
in-order-from cs p g idle = in_order cs p g (record { start = plain_with_windows fresh_windows p; grants = [] })
    (record { files = refl; windows = refl; idle = idle; same = tt; left = refl; count = omega arith; back = λ c n e. e })
