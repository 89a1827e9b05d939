-- F-14: a Commit is granted only to an open transaction without a byte for a closed file, and a Commit gives no other one such a
-- chance.
use mathlib.Core.{Bool.{Bool, true, false, cond, not, ◌&&◌, false≢true}, List.{List, [], ◌∷◌}, Path.{◌≡◌, refl, sym, ◌∙◌}}
use lib.Dec.{leb, eqb}
use native.Mathlib.Omega.{arith}
use Prim.Native.Nat.{ℕ, zero, suc, ◌≤◌}
use Rattle.limits.specs.Limits.{last_transaction}
use Rattle.windows.specs.Windows.{minute_in}
use Rattle.spec_orders.specs.Orders.{count_in}
use Rattle.spec.specs.{Messages.is_grant, OrderReply.grants_in, Windows.for_closed, Transactions.put}
use Rattle.spec.specs.Commits.{Setting, settings, fits, commit_refusal}
use Rattle.spec.proofs.Abstract.AbstractStore.{OpenTxn, Seat, vacant, occupied, Abstract, AbstractTurn, is_occupied}
use Rattle.spec.proofs.Abstract.AbstractStore.{writes_seat, with_seat, abstract_refuse, touch, granting, abstract_committed}
use Rattle.spec.proofs.Abstract.AbstractStore.{abstract_commit, seated, abstract_commit_call}

module _ (minute : ℕ) where
  -- Whether a seat may be granted, at these files and windows.
  unfoldable pub may : Abstract → Seat → Bool
  may s x = is_occupied x && not (for_closed s.file_of s.windows minute (writes_seat x))

  abbrev Grants : AbstractTurn → ℕ
  Grants τ = is_grant τ.reply.answer

  grants-decided : (t : ℕ) (h : OpenTxn) (s : Abstract) (daily stale shut placed : Bool)
      → Grants (abstract_committed t h s (commit_refusal daily stale shut placed)) ≤ cond (not shut) 1 0
  unfolding abstract_committed commit_refusal granting is_grant
  grants-decided t h s false stale shut placed = omega arith
  grants-decided t h s true true shut placed = omega arith
  grants-decided t h s true false true placed = omega arith
  grants-decided t h s true false false true = omega arith
  grants-decided t h s true false false false = omega arith

  grants-seat : (t : ℕ) (x : Seat) (s : Abstract) → Grants (abstract_commit t minute x s) ≤ cond (may s x) 1 0
  unfolding abstract_commit abstract_refuse is_grant may is_occupied writes_seat
  grants-seat t vacant s = omega arith
  grants-seat t (occupied h) s = let shut = for_closed s.file_of s.windows minute h.txn.writes in
      grants-decided t h s (minute_in minute) h.stale shut (fits s.value h.txn)

  grants-call : (t : ℕ) (s : Abstract) → Grants (abstract_commit_call t minute s) ≤ cond (may s (s.seats t)) 1 0
  unfolding seated
  grants-call t s = pick (leb t last_transaction)
    where
      pick : (b : Bool)
          → Grants (cond b (abstract_commit t minute (s.seats t) s) (abstract_refuse 3 [] s)) ≤ cond (may s (s.seats t)) 1 0
      pick true = grants-seat t (s.seats t) s
      pick false = unfold abstract_refuse is_grant in omega arith

  -- What may be granted after a Commit could be before it.
  abbrev Fewer : Abstract → Abstract → Type 0
  Fewer r s = (u : ℕ) → may r (r.seats u) ≡ true → may s (s.seats u) ≡ true

  fewer-put : (t u : ℕ) (s : Abstract) → may s (put t vacant s.seats u) ≡ true → may s (s.seats u) ≡ true
  unfolding put
  fewer-put t u s e = pick (eqb u t) e
    where
      pick : (b : Bool) → may s (cond b vacant (s.seats u)) ≡ true → may s (s.seats u) ≡ true
      pick true k = absurd (false≢true (unfold may is_occupied in k))
      pick false k = k

  fewer-touch : (ss : List Setting) (s : Abstract) (x : Seat) → may s (touch ss x) ≡ may s x
  unfolding touch may is_occupied writes_seat
  fewer-touch ss s vacant = refl
  fewer-touch ss s (occupied h) = refl

  fewer-granted : (t : ℕ) (ss : List Setting) (s : Abstract) → Fewer (granting t ss s).after s
  unfolding granting may
  fewer-granted t ss s u e = fewer-put t u s (sym (fewer-touch ss s (put t vacant s.seats u)) ∙ e)

  fewer-decided : (t : ℕ) (h : OpenTxn) (s : Abstract) (n : ℕ) → Fewer (abstract_committed t h s n).after s
  unfolding abstract_committed
  fewer-decided t h s zero u e = fewer-granted t (settings s.file_of s.value h.txn) s u e
  fewer-decided t h s (suc n) u e = pick (eqb (suc n) 13) e
    where
      pick : (b : Bool) → may (cond b (with_seat t vacant s) s) ((cond b (with_seat t vacant s) s).seats u) ≡ true
          → may s (s.seats u) ≡ true
      pick true k = fewer-put t u s (unfold may with_seat in k)
      pick false k = k

  fewer-seat : (t : ℕ) (x : Seat) (s : Abstract) → Fewer (abstract_commit t minute x s).after s
  unfolding abstract_commit abstract_refuse
  fewer-seat t vacant s u e = e
  fewer-seat t (occupied h) s u e = let shut = for_closed s.file_of s.windows minute h.txn.writes in
      fewer-decided t h s (commit_refusal (minute_in minute) h.stale shut (fits s.value h.txn)) u e

  fewer-call : (t : ℕ) (s : Abstract) → Fewer (abstract_commit_call t minute s).after s
  unfolding seated abstract_refuse
  fewer-call t s u e = pick (leb t last_transaction) e
    where
      τ : Bool → AbstractTurn
      τ b = cond b (abstract_commit t minute (s.seats t) s) (abstract_refuse 3 [] s)

      pick : (b : Bool) → may (τ b).after ((τ b).after.seats u) ≡ true → may s (s.seats u) ≡ true
      pick true k = fewer-seat t (s.seats t) s u k
      pick false k = k

  -- A test that passes less often is passed by fewer.
  pub fewer-count : (p q : ℕ → Bool) → ((t : ℕ) → p t ≡ true → q t ≡ true) → (o : List ℕ) → count_in p o ≤ count_in q o
  unfolding count_in
  fewer-count p q h [] = omega arith
  fewer-count p q h (t ∷ o) = let a = one (p t) (q t) (h t) in let r = fewer-count p q h o in omega arith
    where
      one : (b c : Bool) → (b ≡ true → c ≡ true) → cond b 1 0 ≤ cond c 1 0
      one true true k = omega arith
      one true false k = absurd (false≢true (k refl))
      one false c k = omega arith

  pub few-closed : (o : List ℕ) (s : Abstract) → grants_in (λ t x. (abstract_commit_call t minute x).reply)
      (λ t x. (abstract_commit_call t minute x).after) o s ≤ count_in (λ t. may s (s.seats t)) o
  unfolding grants_in count_in
  few-closed [] s = omega arith
  few-closed (t ∷ o) s = let r = (abstract_commit_call t minute s).after in let a = grants-call t s in
      let b = few-closed o r in
      let c = fewer-count (λ u. may r (r.seats u)) (λ u. may s (s.seats u)) (fewer-call t s) o in omega arith
