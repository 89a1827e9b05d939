-- The granted transactions run again, as a list of calls on the reference model: each accepted call gives what it gave in the run
-- in isolation, and each Commit is granted.
use mathlib.Core.Bool.{Bool, true, false, cond, not, ◌&&◌, and-false, false≢true}
use mathlib.Core.List.{List, [], ◌∷◌, ◌++◌, map, map-append, append-nil, append_assoc}
use mathlib.Core.Path.{◌≡◌, refl, sym, ap, ap₂, ◌∙◌, fun_ext}
use borrow.Author.Tests.{eqb-true, eq-eqb}
use lib.Dec.{leb, eqb}
use Prim.Native.Nat.{ℕ, ◌+◌}
use Rattle.limits.specs.Limits.{transaction_count, last_transaction}
use Rattle.windows.specs.Windows.{minute_in, fresh_windows, is_open_at, is_closed_at}
use Rattle.buffers.{specs.Bits.bits_of, proofs.SetLaws.bits_none}
use Rattle.state.specs.Outcomes.{Said, done_answer, granted}
use Rattle.spec.specs.{Places.some_write, Windows.{is_for_closed, for_closed}}
use Rattle.spec.specs.Messages.{Op, buffer_of, Call, begin, on, commit, Reply, says, after_all, replies_to, answer_with}
use Rattle.spec.specs.{Messages.refuse_turn, Items.{result, asked}, Transactions.{Txn, Write, empty, put}}
use Rattle.spec.specs.{Steps.{Stepped, refuse, accept, step}, Commits.{fits, commit_refusal}, Sightings.{Entry, entries}}
use Rattle.spec.specs.LoneRuns.{Lone, stopped, prepend, go_on, lone}
use Rattle.spec.specs.Plain.{Accepted, Running, just_begun, after_call, Slot, closed, running, Plain, ops, first_list}
use Rattle.spec.specs.Plain.{second_list, is_stale, PlainTurn, with_slot, plain_begin, plain_stepped, plain_on, committing, grant}
use Rattle.spec.specs.Plain.{stale_slot, became_stale, plain_committed, with_number, plain_call, plain_after, plain_replies}
use Rattle.spec.specs.Grants.{Grant, again_of, rerun, replies_of, same_replies}
use Rattle.spec.proofs.Abstract.{Programs.not-refused-stale, Lone.lone-more, Alone.{again, serially, SameAgain, AllSame}}
use Rattle.spec.proofs.Abstract.Commits.{stale-exactly, commit-turn}

-- ---- one list of calls after another

replies-append : (cs ds : List Call) (p : Plain) → plain_replies (cs ++ ds) p ≡ plain_replies cs p
    ++ plain_replies ds (plain_after cs p)
unfolding after_all replies_to
replies-append [] ds p = refl
replies-append (c ∷ cs) ds p = ap (λ (rs : List Reply). (plain_call c p).reply ∷ rs) (replies-append cs ds (plain_call c p).after)

pub after-append : (cs ds : List Call) (p : Plain) → plain_after (cs ++ ds) p ≡ plain_after ds (plain_after cs p)
unfolding after_all
after-append [] ds p = refl
after-append (c ∷ cs) ds p = after-append cs ds (plain_call c p).after

-- ---- one number of the machine

module _ {A : Type 0} (t : ℕ) where
  put-own : (f : ℕ → A) → put t (f t) f ≡ f
  unfolding put
  put-own f = fun_ext (λ u. pick u (eqb u t) refl)
    where
      pick : (u : ℕ) (b : Bool) → eqb u t ≡ b → cond b (f t) (f u) ≡ f u
      pick u true e = ap f (sym (eqb-true u t e))
      pick u false e = refl

  pub put_same : (a : A) (f : ℕ → A) → put t a f t ≡ a
  put_same a f = unfold put in rw (eq-eqb t t refl)

  pub put-twice : (a b : A) (f : ℕ → A) → put t a (put t b f) ≡ put t a f
  unfolding put
  put-twice a b f = fun_ext (λ u. pick u (eqb u t))
    where
      pick : (u : ℕ) (c : Bool) → cond c a (cond c b (f u)) ≡ cond c a (f u)
      pick u true = refl
      pick u false = refl

slot-own : (t : ℕ) (s : Slot) (p : Plain) → p.slots t ≡ s → with_slot t s p ≡ p
unfolding with_slot
slot-own t s p e =
    ap (λ (f : ℕ → Slot). record
    { file_of = p.file_of; committed = p.committed; grants = p.grants; windows = p.windows; earlier = p.earlier; slots = f })
    (ap (λ (x : Slot). put t x p.slots) (sym e) ∙ put-own t p.slots)

slot_twice : (t : ℕ) (s r : Slot) (p : Plain) → with_slot t s (with_slot t r p) ≡ with_slot t s p
unfolding with_slot
slot_twice t s r p =
    ap (λ (f : ℕ → Slot). record
    { file_of = p.file_of; committed = p.committed; grants = p.grants; windows = p.windows; earlier = p.earlier; slots = f })
    (put-twice t s r p.slots)

-- ---- the accepted calls of one transaction

-- What the run in isolation leaves of it, on the machine.
abbrev pub after_run : List Accepted → Running → Lone → Running
after_run xs r l = record { txn = l.txn; calls = r.calls ++ xs; seen = r.seen ++ l.seen }

abbrev pub calls_on : ℕ → List Accepted → List Call
calls_on t xs = map (λ a. on t a.op) xs

pub record Ran (t : ℕ) (xs : List Accepted) (r : Running) (p : Plain) (l : Lone) : Type 0 where
  pub replies : plain_replies (calls_on t xs) p ≡ map (λ a. a.reply) xs
  pub after : plain_after (calls_on t xs) p ≡ with_slot t (running (after_run xs r l)) p

-- The head and the tail of equal lists.
heads : (a b : Reply) (xs bs : List Reply) → a ∷ xs ≡ b ∷ bs → a ≡ b
heads a b xs bs e = ap first e
  where
    first : List Reply → Reply
    first [] = a
    first (x ∷ xs) = x

tails : (a b : Reply) (xs bs : List Reply) → a ∷ xs ≡ b ∷ bs → xs ≡ bs
tails a b xs bs e = ap rest e
  where
    rest : List Reply → List Reply
    rest [] = []
    rest (x ∷ xs) = xs

-- The run in isolation of what the machine holds of a transaction is what it holds.
abbrev pub Faithful : Plain → Running → List Reply → Type 0
Faithful p r rs =
    lone p.file_of p.committed (ops r.calls) empty ≡ record { through = true; txn = r.txn; replies = rs; seen = r.seen }

-- Then it is not stale, and stays so by one more accepted call.
module _ (p : Plain) (r : Running) (rs : List Reply) (f : Faithful p r rs) where
  faithful-fresh : is_stale p r ≡ false
  faithful-fresh = unfold first_list second_list in (stale-exactly p r).1 (sym (ap (λ (l : Lone). l.seen) f))

  faithful-more : (a : Accepted) (y : Txn) (answer : Said) (buffer : List ℕ)
      → result p.committed.value (step p.file_of a.op r.txn) ≡ accept y answer buffer → Faithful p
      (after_call y a (entries p.committed.setter (asked p.committed.value (step p.file_of a.op r.txn))) r)
      (rs ++ (record { answer = answer; buffer = buffer } ∷ []))
  unfolding ops
  faithful-more a y answer buffer q =
      ap (λ (os : List Op). lone p.file_of p.committed os empty) (map-append (λ (x : Accepted). x.op) r.calls (a ∷ []))
      ∙ lone-more p.file_of p.committed (ops r.calls) a.op empty r.txn y answer buffer rs r.seen f q

module _ (t : ℕ) (small : leb t last_transaction ≡ true) where
  -- The turn of a call of an open transaction that is not stale.
  on-turn : (o : Op) (r : Running) (p : Plain) → p.slots t ≡ running r → is_stale p r ≡ false → plain_call (on t o)
      p ≡ plain_stepped t o r (entries p.committed.setter (asked p.committed.value (step p.file_of o r.txn))) p
      (result p.committed.value (step p.file_of o r.txn))
  unfolding plain_call with_number plain_on
  on-turn o r p e f = ap₂ (λ (b : Bool) (s : Slot). cond b (plain_on t o s p) (refuse_turn 3 (buffer_of o) p)) small e
      ∙ ap (plain_stepped t o r (entries p.committed.setter (asked p.committed.value (step p.file_of o r.txn)))
      p) (not-refused-stale (is_stale p r) o (result p.committed.value (step p.file_of o r.txn)) f)

  -- One accepted call more, before those that the rest of the run in isolation gives.
  run_step : (a : Accepted) (xs : List Accepted) (r : Running) (p : Plain) (es : List Entry) (rest : Txn → Lone)
      (s : Stepped) → ((y : Txn) (answer : Said) (buffer : List ℕ) → s ≡ accept y answer buffer → (rest y).through ≡ true
      → (rest y).replies ≡ map (λ b. b.reply) xs → Ran t xs (after_call y a es r) (with_slot t (running (after_call y a es r))
      p) (rest y)) → plain_call (on t a.op) p ≡ plain_stepped t a.op r es p s → (go_on rest r.txn es s).through ≡ true
      → (go_on rest r.txn es s).replies ≡ a.reply ∷ map (λ b. b.reply) xs → Ran t (a ∷ xs) r p (go_on rest r.txn es s)
  unfolding go_on stopped prepend plain_stepped after_all replies_to
  run_step a xs r p es rest (refuse n) next q h g = absurd (false≢true h)
  run_step a xs r p es rest (accept y answer buffer) next q h g = let k = heads _ a.reply _ _ g in
      let n = next y answer buffer refl h (tails _ a.reply _ _ g) in
      let turn : plain_call (on t a.op) p ≡ record
      { reply = a.reply; after = with_slot t (running (after_call y a es r)) p } = q ∙ ap (λ (x : Reply). record
      { reply = x; after = with_slot t (running (after_call y (record { op = a.op; reply = x }) es r)) p }) k in record {
        replies = ap (λ (τ : PlainTurn). τ.reply ∷ plain_replies (calls_on t xs) τ.after) turn
            ∙ ap (λ (rs : List Reply). a.reply ∷ rs) n.replies;
        after = ap (λ (τ : PlainTurn). plain_after (calls_on t xs) τ.after) turn ∙ n.after ∙ slot_twice t _ _ p
            ∙ ap₂ (λ (cs : List Accepted) (fs : List Entry). with_slot t
            (running (record { txn = (rest y).txn; calls = cs; seen = fs })) p) (append_assoc r.calls (a ∷ []) xs)
            (append_assoc r.seen es (rest y).seen);
      }

  run_on : (xs : List Accepted) (r : Running) (p : Plain) → p.slots t ≡ running r → (rs : List Reply) → Faithful p r rs
      → (lone p.file_of p.committed (ops xs) r.txn).through ≡ true → (lone p.file_of p.committed (ops xs)
      r.txn).replies ≡ map (λ a. a.reply) xs → Ran t xs r p (lone p.file_of p.committed (ops xs) r.txn)
  unfolding lone ops with_slot after_all replies_to
  run_on [] r p e rs f h g = record {
    replies = refl;
    after = sym (ap₂ (λ (cs : List Accepted) (es : List Entry). with_slot t
        (running (record { txn = r.txn; calls = cs; seen = es })) p) (append-nil r.calls) (append-nil r.seen)
        ∙ slot-own t (running r) p e);
  }
  run_on (a ∷ xs) r p e rs f h g = let es =
      entries p.committed.setter (asked p.committed.value (step p.file_of a.op r.txn)) in
      run_step a xs r p es (λ y. lone p.file_of p.committed (ops xs) y) (result p.committed.value (step p.file_of
      a.op r.txn)) (λ y answer buffer q. run_on xs (after_call y a es r) (with_slot t (running (after_call y a es r)) p)
      (put_same t (running (after_call y a es r)) p.slots) (rs ++ (record { answer = answer; buffer = buffer } ∷ []))
      (faithful-more p r rs f a y answer buffer q)) (on-turn a.op r p e (faithful-fresh p r rs f)) h g

-- ---- a granted transaction, begun with nothing else open

abbrev pub Idle : Plain → Type 0
Idle p = (u : ℕ) → p.slots u ≡ closed

-- With Fresh's windows every file is open at every minute.
no-write-closed : (file_of : ℕ → ℕ) (minute : ℕ) (w : Write) → is_for_closed file_of fresh_windows minute w ≡ false
no-write-closed file_of minute w = unfold is_for_closed is_closed_at is_open_at in simp and-false

never-closed : (file_of : ℕ → ℕ) (minute : ℕ) (ws : List Write) → for_closed file_of fresh_windows minute ws ≡ false
unfolding for_closed some_write
never-closed file_of minute [] = refl
never-closed file_of minute (w ∷ ws) = rw (no-write-closed file_of minute w) (never-closed file_of minute ws)

-- Nobody becomes stale where nobody is open.
nobody : (t : ℕ) (p q : Plain) → Idle q → bits_of (became_stale t p q) transaction_count ≡ 0
unfolding became_stale stale_slot
nobody t p q none = bits_none (became_stale t p q) 8 (λ u. rw (none u) (last (not (eqb u t)) (not (stale_slot p (p.slots u)))))
  where
    last : (a b : Bool) → (a && b && false) ≡ false
    last true true = refl
    last true false = refl
    last false b = refl

put-closed : (t : ℕ) (s : Slot) (f : ℕ → Slot) → ((u : ℕ) → f u ≡ closed) → (u : ℕ) → put t closed (put t s f) u ≡ closed
unfolding put
put-closed t s f none u = pick (eqb u t)
  where
    pick : (b : Bool) → cond b closed (cond b s (f u)) ≡ closed
    pick true = refl
    pick false = none u

-- Begin of a closed number.
begun-turn : (t : ℕ) (p : Plain) → leb t last_transaction ≡ true → p.slots t ≡ closed
    → plain_call (begin t) p ≡ record { reply = says done_answer; after = with_slot t (running just_begun) p }
unfolding plain_call with_number plain_begin answer_with
begun-turn t p small e = ap₂ (λ (b : Bool) (s : Slot). cond b (plain_begin t s p) (refuse_turn 3 [] p)) small e

-- Its accepted calls.
ran_on : (t : ℕ) (p : Plain) (xs : List Accepted) → leb t last_transaction ≡ true → (lone p.file_of p.committed (ops xs)
    empty).through ≡ true → (lone p.file_of p.committed (ops xs) empty).replies ≡ map (λ a. a.reply) xs
    → Ran t xs just_begun (with_slot t (running just_begun) p) (lone p.file_of p.committed (ops xs) empty)
unfolding with_slot
ran_on t p xs small h g = run_on t small xs just_begun (with_slot t (running just_begun) p)
    (put_same t (running just_begun) p.slots) [] (unfold lone ops in refl) h g

-- What it leaves.
module _ (t : ℕ) (p : Plain) (r : Running) where
  abbrev ready : Plain
  ready = with_slot t (running r) (with_slot t (running just_begun) p)

  idle-after : Idle p → Idle (grant t r ready)
  unfolding grant with_slot
  idle-after none u = ap (λ (f : ℕ → Slot). put t closed f u) (put-twice t (running r) (running just_begun) p.slots)
      ∙ put-closed t (running r) p.slots none u

  granted-turn : (minute : ℕ) → leb t last_transaction ≡ true → minute_in minute ≡ true → p.windows ≡ fresh_windows → Idle p
      → r.seen ≡ (lone p.file_of p.committed (ops r.calls) empty).seen → fits p.committed.value r.txn ≡ true
      → plain_call (commit t minute) ready ≡ record { reply = says (granted 0); after = grant t r ready }
  unfolding with_slot first_list second_list
  granted-turn minute small daily always none same fit = commit-turn t minute r ready small (put_same t (running r) _)
      ∙ ap₂ (λ (d s : Bool). plain_committed t r ready (commit_refusal d s (for_closed p.file_of p.windows minute
      r.txn.writes) (fits p.committed.value r.txn))) daily ((stale-exactly ready r).1 same)
      ∙ ap₂ (λ (c f : Bool). plain_committed t r ready (commit_refusal true false c f)) (ap (λ ws. for_closed p.file_of ws
      minute r.txn.writes) always ∙ never-closed p.file_of minute r.txn.writes) fit ∙ granting-turn
    where
      granting-turn : plain_committed t r ready (commit_refusal true false false true)
          ≡ record { reply = says (granted 0); after = grant t r ready }
      granting-turn = unfold plain_committed commit_refusal answer_with in
          ap (λ (n : ℕ). record { reply = says (granted n); after = grant t r ready })
          (nobody t ready (grant t r ready) (idle-after none))

-- The replies, and what is left committed.
pub record Done (g : Grant) (p : Plain) : Type 0 where
  pub end : Plain
  pub replies : plain_replies (again_of g) p ≡ replies_of g
  pub after : plain_after (again_of g) p ≡ end
  pub idle : Idle end
  pub files : end.file_of ≡ p.file_of
  pub windows : end.windows ≡ p.windows
  pub grants : end.grants ≡ p.grants + 1
  pub committed : end.committed ≡ committing p.file_of (p.grants + 1) (again p.file_of p.committed g.calls).txn
      p.committed

done-again : (g : Grant) (p : Plain) → p.windows ≡ fresh_windows → Idle p → SameAgain p.file_of p.committed g → Done g p
done-again g p always none s = unfold again_of replies_of again after_all replies_to in let t = g.txn_number in
    let minute = g.minute in let l = lone p.file_of p.committed (ops g.calls) empty in
    let q = with_slot t (running just_begun) p in let r = after_run g.calls just_begun l in
    let b : plain_call (begin t) p ≡ record { reply = says done_answer; after = q } = begun-turn t p s.small (none t) in
    let ran : Ran t g.calls just_begun q l = ran_on t p g.calls s.small s.through s.replies in
    let c : plain_call (commit t minute) (with_slot t (running r) q) ≡ record
    { reply = says (granted 0); after = grant t r (with_slot t (running r) q) } = granted-turn t p r minute s.small
    s.daily always none refl s.fitting in let cs = calls_on t g.calls in record {
      end = grant t r (with_slot t (running r) q);
      replies = ap (λ (τ : PlainTurn). τ.reply ∷ plain_replies (cs ++ (commit t minute ∷ [])) τ.after) b
          ∙ ap (λ (rs : List Reply). says done_answer ∷ rs) (replies-append cs (commit t minute ∷ []) q
          ∙ ap₂ (λ (rs : List Reply) (m : Plain). rs ++ plain_replies (commit t minute ∷ []) m) ran.replies ran.after
          ∙ ap (λ (τ : PlainTurn). map (λ (a : Accepted). a.reply) g.calls ++ (τ.reply ∷ [])) c);
      after = ap (λ (τ : PlainTurn). plain_after (cs ++ (commit t minute ∷ [])) τ.after) b
          ∙ after-append cs (commit t minute ∷ []) q ∙ ap (plain_after (commit t minute ∷ [])) ran.after
          ∙ ap (λ (τ : PlainTurn). τ.after) c;
      idle = idle-after t p r none;
      files = unfold grant with_slot in refl;
      windows = unfold grant with_slot in refl;
      grants = unfold grant with_slot in refl;
      committed = unfold grant with_slot in refl;
    }

-- ---- all of them, in order

pub record Reran (gs : List Grant) (p : Plain) : Type 0 where
  pub replies : plain_replies (rerun gs) p ≡ same_replies gs
  pub left : (plain_after (rerun gs) p).committed ≡ serially p.file_of p.grants gs p.committed

pub reran : (gs : List Grant) (p : Plain) → p.windows ≡ fresh_windows → Idle p → AllSame p.file_of p.grants gs p.committed
    → Reran gs p
unfolding rerun same_replies serially AllSame after_all replies_to
reran [] p always none s = record { replies = refl; left = refl }
reran (g ∷ gs) p always none s = let d = done-again g p always none s.0 in
    let c = committing p.file_of (p.grants + 1) (again p.file_of p.committed g.calls).txn p.committed in
    let rest : Reran gs d.end =
    reran gs d.end (d.windows ∙ always) d.idle (rw (d.files, d.grants, d.committed) s.1) in record {
      replies = replies-append (again_of g) (rerun gs) p ∙ ap₂ (λ (rs : List Reply) (q : Plain). rs ++ plain_replies
          (rerun gs) q) d.replies d.after ∙ ap (λ (rs : List Reply). replies_of g ++ rs) rest.replies;
      left = ap (λ (q : Plain). q.committed) (after-append (again_of g) (rerun gs) p
          ∙ ap (plain_after (rerun gs)) d.after) ∙ rest.left ∙ rw (d.files, d.grants, d.committed) refl;
    }
