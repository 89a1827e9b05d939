-- Commits of an order on the abstract store: each is decided by the table of the start.
use mathlib.Core.{Bool.{Bool, true, false, cond, not, ◌||◌, true≢false}, List.{List, [], ◌∷◌, ◌++◌, map}, Logic.◌↔◌}
use mathlib.Core.Path.{◌≡◌, refl, sym, ap, ap₂, ◌∙◌, subst}
use borrow.Author.Tests.{eq-eqb}
use lib.{Bits.bit_or, Dec.{leb, eqb}}
use native.Mathlib.Omega.{arith}
use Prim.Native.Nat.{ℕ, ◌+◌}
use Rattle.limits.specs.Limits.{last_transaction}
use Rattle.buffers.{specs.Marks.contains, proofs.SetLaws.contains-or}
use Rattle.windows.specs.Windows.{minute_in, Windows}
use Rattle.state.specs.Outcomes.{refused}
use Rattle.admission.proofs.Laws.{and_right}
use Rattle.spec_orders.{specs.Orders.{all_in, is_in, distinct}, proofs.Distinct.{front-not-in, rest-distinct, in-test, in_rest}}
use Rattle.spec.specs.{Items.{file_length, Values}, Transactions.put, Windows.for_closed, Messages.{commit, is_grant}}
use Rattle.spec.specs.{OrderReply.{grants_in, has_unplaced}, Commits.{settings, landed, commit_refusal}}
use Rattle.spec.proofs.Abstract.Lists.{or_left_false, or_right_false}
use Rattle.spec.proofs.Abstract.AbstractStore.{OpenTxn, Seat, vacant, occupied, Saved, preserved, Abstract, abstract_sighted, hit}
use Rattle.spec.proofs.Abstract.AbstractStore.{AbstractTurn, with_seat, abstract_refuse, touch, granting, abstract_committed}
use Rattle.spec.proofs.Abstract.AbstractStore.{abstract_commit, seated, abstract_commit_call, abstract_call, abstract_after}
use Rattle.spec.proofs.Theorems.{Answers.answer-not-refused, Refusals.refused-same}
use Rattle.call_order.specs.OrderStatements.{Pass, fits_at, offsets_after, follow_one, follow_all}
use Rattle.call_order.proofs.{Hits.{hit_same, not-hit, flagged, hit-flagged}, Offsets.{Holding, fits-same, still-holding}}

-- Files, windows and a minute of the day; the committed values at the start; for each transaction that may stand in the order
-- (`ok`) what it is, and its octet.
module _ (F : ℕ → ℕ) (W : Windows) (minute : ℕ) (v₀ : Values) (h : ℕ → OpenTxn) (row : ℕ → ℕ) (ok : ℕ → Bool)
    (daily : minute_in minute ≡ true) (small : (t : ℕ) → ok t ≡ true → leb t last_transaction ≡ true) (placed : (t : ℕ)
    → ok t ≡ true → has_unplaced (h t).txn.writes ≡ false) (rows : (t u : ℕ) → ok u ≡ true → eqb u t ≡ false
    → contains (row t) u ≡ hit (settings F v₀ (h t).txn) (h u)) where
  abbrev state : Values → Saved → (ℕ → Seat) → Abstract
  state v b z = record { file_of = F; value = v; windows = W; back = b; seats = z }

  abbrev closed : ℕ → Bool
  closed t = for_closed F W minute (h t).txn.writes

  abbrev follow : ℕ → Pass → Pass
  follow t p = follow_one row closed (λ u. (h u).txn) t p

  -- Who is not stale yet sees the lengths that it has sighted as they were at the start.
  pub record Inv (o : List ℕ) (v : Values) (z : ℕ → Seat) (p : Pass) : Type 0 where
    pub offsets : Holding v p.offsets
    pub seats : (u : ℕ) → is_in u o ≡ true → z u ≡ occupied (flagged (contains p.stale u) (h u))
    pub lengths : (u f : ℕ) → is_in u o ≡ true → contains p.stale u ≡ false → abstract_sighted (h u) (file_length f) ≡ true
        → v (file_length f) ≡ v₀ (file_length f)

  -- What one Commit does, from p to q.
  pub record OrderStep (t : ℕ) (o : List ℕ) (p q : Pass) (τ : AbstractTurn) : Type 0 where
    pub value : Values
    pub back : Saved
    pub seats : ℕ → Seat
    pub after : τ.after ≡ state value back seats
    pub grants : is_grant τ.reply.answer + p.grants ≡ q.grants
    pub stale : (τ.reply.answer ≡ refused 13) ↔ (contains p.stale t ≡ true)
    pub inv : Inv o value seats q

  module _ (t : ℕ) (o : List ℕ) (v : Values) (b : Saved) (z : ℕ → Seat) (p : Pass)
      (fine : all_in ok (t ∷ o) ≡ true) (other : is_in t o ≡ false) (inv : Inv (t ∷ o) v z p) where
    behind : (u : ℕ) → is_in u o ≡ true → is_in u (t ∷ o) ≡ true
    unfolding is_in
    behind u k = pick (eqb u t)
      where
        pick : (b : Bool) → b || is_in u o ≡ true
        pick true = refl
        pick false = k

    own : is_in t (t ∷ o) ≡ true
    own = unfold is_in in rw (eq-eqb t t refl) refl

    ok-own : ok t ≡ true
    ok-own = in-test ok t (t ∷ o) fine own

    -- The Commit, as it is decided.
    decided : abstract_commit_call t minute (state v b z) ≡ abstract_committed t (flagged (contains p.stale t) (h t))
        (state v b z) (commit_refusal true (contains p.stale t) (closed t) (fits_at (h t).txn p.offsets))
    unfolding seated abstract_commit
    decided = let c = contains p.stale t in
        ap (λ (a : Bool). cond a (abstract_commit t minute (z t) (state v b z)) (abstract_refuse 3 [] (state v b z)))
        (small t ok-own) ∙ ap (λ (seat : Seat). abstract_commit t minute seat (state v b z)) (inv.seats t own)
        ∙ ap₂ (λ (day fit : Bool). abstract_committed t (flagged c (h t)) (state v b z) (commit_refusal day c (closed t) fit))
        daily (fits-same (h t).txn v p.offsets inv.offsets)

    -- A refusal leaves the others as they are.
    preserved-inv : Inv o v z p
    preserved-inv = record {
      offsets = inv.offsets;
      seats = λ u k. inv.seats u (behind u k);
      lengths = λ u f k. inv.lengths u f (behind u k);
    }

    ended-inv : Inv o v (put t vacant z) p
    ended-inv = unfold put in record {
      offsets = inv.offsets;
      seats = λ u k. ap (λ (a : Bool). cond a vacant (z u)) (in_rest t u o other k) ∙ inv.seats u (behind u k);
      lengths = λ u f k. inv.lengths u f (behind u k);
    }

    -- A grant.
    next : Pass
    next = record { stale = bit_or p.stale (row t); offsets = offsets_after (h t).txn p.offsets; grants = p.grants + 1 }

    -- Who was not stale is made stale exactly where the table says so.
    staled : (u : ℕ) → is_in u o ≡ true
        → contains p.stale u || hit (settings F v (h t).txn) (h u) ≡ contains (bit_or p.stale (row t)) u
    staled u k = each (contains p.stale u) refl ∙ ap (λ (a : Bool). contains p.stale u || a) (sym (rows t u
        (in-test ok u (t ∷ o) fine (behind u k)) (in_rest t u o other k))) ∙ sym (contains-or p.stale (row t) u)
      where
        each : (c : Bool) → contains p.stale u ≡ c → c || hit (settings F v (h t).txn) (h u) ≡ c
            || hit (settings F v₀ (h t).txn) (h u)
        each true e = refl
        each false e = hit_same F v v₀ (h u) (λ f s. inv.lengths u f (behind u k) e s) (h t).txn (placed t ok-own)

    granted-inv : Inv o (landed (settings F v (h t).txn) v) (λ u. touch (settings F v (h t).txn) (put t vacant z u)) next
    granted-inv = unfold touch put next in record {
      offsets = still-holding (h t).txn v p.offsets inv.offsets F;
      seats = λ u k. let c = contains p.stale u in let gs = settings F v (h t).txn in
          ap (touch gs) (ap (λ (a : Bool). cond a vacant (z u)) (in_rest t u o other k) ∙ inv.seats u (behind u k))
          ∙ ap (λ (a : Bool). occupied (flagged (c || a) (h u))) (hit-flagged c (h u) gs)
          ∙ ap (λ (a : Bool). occupied (flagged a (h u))) (staled u k);
      lengths = λ u f k e s. let c = contains p.stale u in let gs = settings F v (h t).txn in
          let n : c || hit gs (h u) ≡ false = staled u k ∙ e in
          not-hit (h u) (file_length f) s gs v (or_right_false c (hit gs (h u)) n)
          ∙ inv.lengths u f (behind u k) (or_left_false c (hit gs (h u)) n) s;
    }

    grant-step : contains p.stale t ≡ false → OrderStep t o p next (granting t (settings F v (h t).txn) (state v b z))
    grant-step e = unfold granting is_grant next in record {
      value = landed (settings F v (h t).txn) v;
      back = preserved v;
      seats = λ u. touch (settings F v (h t).txn) (put t vacant z u);
      after = refl;
      grants = omega arith;
      stale = (λ g. absurd (answer-not-refused _ 13 tt g), λ g. absurd (true≢false (sym g ∙ e)));
      inv = granted-inv;
    }

    -- A refusal other than 13.
    stays : (n : ℕ) → (n ≡ 13 → ⊥) → contains p.stale t ≡ false
        → OrderStep t o p p (record { reply = record { answer = refused n; buffer = [] }; after = state v b z })
    stays n d e = unfold is_grant in record {
      value = v;
      back = b;
      seats = z;
      after = refl;
      grants = omega arith;
      stale = (λ g. absurd (d (refused-same n 13 g)), λ g. absurd (true≢false (sym g ∙ e)));
      inv = preserved-inv;
    }

    -- 13, 21, 12, or granted.
    decides : (c shut fit : Bool) → contains p.stale t ≡ c → OrderStep t o p (cond (c || (shut || not fit)) p next)
        (abstract_committed t (flagged c (h t)) (state v b z) (commit_refusal true c shut fit))
    unfolding abstract_committed commit_refusal with_seat is_grant
    decides true shut fit e = record {
      value = v;
      back = b;
      seats = put t vacant z;
      after = refl;
      grants = omega arith;
      stale = (λ g. e, λ g. refl);
      inv = ended-inv;
    }
    decides false true fit e = stays 21 (λ z. omega arith) e
    decides false false false e = stays 12 (λ z. omega arith) e
    decides false false true e = grant-step e

    -- The table's law for one Commit.
    step : OrderStep t o p (follow t p) (abstract_commit_call t minute (state v b z))
    unfolding follow_one next
    step = subst (OrderStep t o p (follow t p)) (sym decided)
        (decides (contains p.stale t) (closed t) (fits_at (h t).txn p.offsets) refl)

  -- ---- the Commits of a list

  abbrev follow_from : List ℕ → Pass → Pass
  follow_from o p = follow_all row closed (λ u. (h u).txn) o p

  front-fine : (t : ℕ) (o : List ℕ) → all_in ok (t ∷ o) ≡ true → all_in ok o ≡ true
  front-fine t o e = unfold all_in in and_right (ok t) (all_in ok o) e

  pub grants-followed : (o : List ℕ) (v : Values) (b : Saved) (z : ℕ → Seat) (p : Pass) → distinct o ≡ true
      → all_in ok o ≡ true → Inv o v z p → grants_in (λ t x. (abstract_commit_call t minute x).reply)
      (λ t x. (abstract_commit_call t minute x).after) o (state v b z) + p.grants ≡ (follow_from o p).grants
  unfolding grants_in follow_all
  grants-followed [] v b z p d e inv = omega arith
  grants-followed (t ∷ o) v b z p d e inv = let one = step t o v b z p e (front-not-in t o d) inv in
      let rest = grants-followed o one.value one.back one.seats (follow t p) (rest-distinct t o d)
      (front-fine t o e) one.inv in
      let moved = ap (grants_in (λ u x. (abstract_commit_call u minute x).reply) (λ u x. (abstract_commit_call u minute x).after)
      o) one.after in let g = one.grants in omega arith

  -- The store that the Commits of a list leave, with those of ys to come.
  pub record Reached (ys : List ℕ) (q : Pass) (s : Abstract) : Type 0 where
    pub value : Values
    pub back : Saved
    pub seats : ℕ → Seat
    pub is : s ≡ state value back seats
    pub apart : distinct ys ≡ true
    pub fine : all_in ok ys ≡ true
    pub inv : Inv ys value seats q

  reached : (xs ys : List ℕ) (v : Values) (b : Saved) (z : ℕ → Seat) (p : Pass) → distinct (xs ++ ys) ≡ true → all_in ok (xs ++ ys)
      ≡ true
      → Inv (xs ++ ys) v z p → Reached ys (follow_from xs p) (abstract_after (map (λ t. commit t minute) xs) (state v b z))
  unfolding abstract_after abstract_call follow_all
  reached [] ys v b z p d e inv = record { value = v; back = b; seats = z; is = refl; apart = d; fine = e; inv = inv }
  reached (t ∷ xs) ys v b z p d e inv = let o = xs ++ ys in let one = step t o v b z p e (front-not-in t o d) inv in
      subst (λ (s : Abstract). Reached ys (follow_from xs (follow t p)) (abstract_after (map (λ u. commit u minute) xs) s))
      (sym one.after)
      (reached xs ys one.value one.back one.seats (follow t p) (rest-distinct t o d) (front-fine t o e) one.inv)

  -- A Commit of j is refused with 13 exactly when some i granted before it has j in its octet.
  pub stale-followed : (xs ys : List ℕ) (j : ℕ) (v : Values) (b : Saved) (z : ℕ → Seat) (p : Pass)
      → distinct (xs ++ (j ∷ ys)) ≡ true → all_in ok (xs ++ (j ∷ ys)) ≡ true → Inv (xs ++ (j ∷ ys)) v z p
      → ((abstract_commit_call j minute (abstract_after (map (λ t. commit t minute) xs) (state v b z))).reply.answer ≡ refused 13)
      ↔ (contains (follow_from xs p).stale j ≡ true)
  stale-followed xs ys j v b z p d e inv = let r = reached xs (j ∷ ys) v b z p d e inv in let q = follow_from xs p in
      subst (λ (s : Abstract). ((abstract_commit_call j minute s).reply.answer ≡ refused 13) ↔ (contains q.stale j ≡ true))
      (sym r.is) (step j ys r.value r.back r.seats q r.fine (front-not-in j ys r.apart) r.inv).stale
