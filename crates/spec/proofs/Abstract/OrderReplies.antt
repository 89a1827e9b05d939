-- F-14: machines that agree on what they are asked give the same reply.
use mathlib.Core.{Bool.{Bool, true, false, cond, not, ◌&&◌}, List.{List, [], ◌∷◌}, Path.{◌≡◌, refl, sym, ap, ap₂}}
use lib.{Dec.{leb, eqb}, ListN.length}
use native.Mathlib.Omega.{arith}
use Prim.Native.Nat.{ℕ, ◌+◌, ◌-◌}
use Rattle.limits.specs.Limits.{last_transaction, most_orders}
use Rattle.windows.specs.Windows.{minute_in}
use Rattle.state.specs.Outcomes.{ordered, refused}
use Rattle.admission.{specs.FirstRefusal.{guarded, is_none, unless}, proofs.Laws.{and_left, and_right, unless-zero}}
use Rattle.spec_orders.specs.Orders.{Rated, orders, tried_of, best_tried, count_in, all_in, gap_of, is_list}
use Rattle.spec.specs.Messages.{Reply, says, is_grant}
use Rattle.spec.specs.OrderReply.{grants_in, Asked, order_refusal, order_replied, order_reply}

-- Two machines whose Commits give the same replies, and leave what is related again.
module _ {S T : Type 0} (r : ℕ → S → Reply) (f : ℕ → S → S) (q : ℕ → T → Reply) (g : ℕ → T → T) (R : S → T → Type 0)
    (step : (t : ℕ) (s : S) (x : T) → R s x → (r t s ≡ q t x) × R (f t s) (g t x)) where
  pub grants-same : (o : List ℕ) (s : S) (x : T) → R s x → grants_in r f o s ≡ grants_in q g o x
  unfolding grants_in
  grants-same [] s x h = refl
  grants-same (t ∷ o) s x h = let a = step t s x h in
      ap₂ (λ (y : Reply) (n : ℕ). is_grant y.answer + n) a.0 (grants-same o (f t s) (g t x) a.1)

-- ---- tests that agree on the members of a list

module _ (r p q : ℕ → Bool) (h : (t : ℕ) → r t ≡ true → p t ≡ q t) where
  all_same : (ts : List ℕ) → all_in r ts ≡ true → all_in p ts ≡ all_in q ts
  unfolding all_in
  all_same [] e = refl
  all_same (t ∷ ts) e = ap₂ ◌&&◌ (h t (and_left (r t) _ e)) (all_same ts (and_right (r t) _ e))

  count_same : (ts : List ℕ) → all_in r ts ≡ true → count_in p ts ≡ count_in q ts
  unfolding count_in all_in
  count_same [] e = refl
  count_same (t ∷ ts) e = ap₂ (λ (b : Bool) (n : ℕ). cond b 1 0 + n) (h t (and_left (r t) _ e))
      (count_same ts (and_right (r t) _ e))

pub all_both : (p q : ℕ → Bool) (ts : List ℕ) → all_in p ts ≡ true → all_in q ts ≡ true → all_in (λ t. p t && q t) ts ≡ true
unfolding all_in
all_both p q [] e f = refl
all_both p q (t ∷ ts) e f =
    rw (and_left (p t) _ e, and_left (q t) _ f) (all_both p q ts (and_right (p t) _ e) (and_right (q t) _ f))

-- ---- the reply

abbrev chain : Bool → Bool → Bool → Bool → Bool → Bool → ℕ
chain b₁ b₂ b₃ b₄ b₅ b₆ = unless b₁ 26 (unless b₂ 3 (unless b₃ 4 (unless b₄ 22 (unless b₅ 25 (unless b₆ 27 0)))))

abbrev replied : ℕ → Reply → Reply
replied n y = guarded (λ k. says (refused k)) (is_none n) n y

-- What comes after 3, and after 4, matters only where these are not met.
chosen : (b₁ b₂ c d b₄ e f b₆ : Bool) (x y : Reply) → (b₂ ≡ true → c ≡ d) → (b₂ ≡ true → c ≡ true → (e ≡ f) × (x ≡ y))
    → replied (chain b₁ b₂ c b₄ e b₆) x ≡ replied (chain b₁ b₂ d b₄ f b₆) y
unfolding unless
chosen false b₂ c d b₄ e f b₆ x y g h = refl
chosen true false c d b₄ e f b₆ x y g h = refl
chosen true true false d b₄ e f b₆ x y g h = rw (sym (g refl)) refl
chosen true true true d b₄ e f b₆ x y g h = rw (sym (g refl))
    (ap₂ (λ (b : Bool) (z : Reply). replied (chain true true true b₄ b b₆) z) (h refl refl).0 (h refl refl).1)

-- On whom two machines agree: of the numbers up to 7 on who is open, and on all else of the open ones.
pub record Agreed (a b : Asked) : Type 0 where
  pub is_open : (t : ℕ) → leb t last_transaction ≡ true → a.is_open t ≡ b.is_open t
  pub not_ready : (t : ℕ) → leb t last_transaction && a.is_open t ≡ true → a.not_ready t ≡ b.not_ready t
  pub has_closed : (t : ℕ) → leb t last_transaction && a.is_open t ≡ true → a.has_closed t ≡ b.has_closed t
  pub grants : a.grants ≡ b.grants

module _ (a b : Asked) (h : Agreed a b) (ts : List ℕ) (budget : ℕ) where
  abbrev expected : Asked → Reply
  expected x = let best = best_tried x.grants budget ts in record {
    answer = ordered best.grants (gap_of x.has_closed budget ts best.grants) (length (tried_of budget ts));
    buffer = best.order;
  }

  abbrev gap_for : Rated → ℕ → ℕ
  gap_for best n = cond (eqb (length (tried_of budget ts)) (length (orders ts))) 0 (n - best.grants)

  expected-same : all_in (λ t. leb t last_transaction && a.is_open t) ts ≡ true → expected a ≡ expected b
  unfolding gap_of
  expected-same e = ap₂ (λ (best : Rated) (n : ℕ). record
      { answer = ordered best.grants (gap_for best n) (length (tried_of budget ts)); buffer = best.order })
      (ap (λ (f : List ℕ → ℕ). best_tried f budget ts) h.grants) (count_same (λ t. leb t last_transaction && a.is_open t)
      (λ t. not (a.has_closed t)) (λ t. not (b.has_closed t)) (λ t k. ap not (h.has_closed t k)) ts e)

  pub reply-same : (minute : ℕ) → order_reply a ts minute budget ≡ order_reply b ts minute budget
  unfolding order_reply order_replied order_refusal
  reply-same minute = chosen (is_list ts) (all_in (λ t. leb t last_transaction) ts) (all_in a.is_open ts)
      (all_in b.is_open ts) (minute_in minute) (all_in (λ t. not (a.not_ready t)) ts) (all_in (λ t. not (b.not_ready t)) ts)
      (leb 1 budget && leb budget most_orders) (expected a) (expected b)
      (λ e. all_same (λ t. leb t last_transaction) a.is_open b.is_open h.is_open ts e) (λ e f. let k =
      all_both (λ t. leb t last_transaction) a.is_open ts e f in let ready : all_in (λ t. not (a.not_ready t)) ts ≡ all_in
      (λ t. not (b.not_ready t)) ts = all_same (λ t. leb t last_transaction && a.is_open t) (λ t. not (a.not_ready t))
      (λ t. not (b.not_ready t)) (λ t j. ap not (h.not_ready t j)) ts k in (ready, expected-same k))

-- What a list, a minute and a budget that are not refused have passed.
pub record Passed (a : Asked) (ts : List ℕ) (minute budget : ℕ) : Type 0 where
  pub list : is_list ts ≡ true
  pub numbers : all_in (λ t. leb t last_transaction) ts ≡ true
  pub is_open : all_in a.is_open ts ≡ true
  pub daily : minute_in minute ≡ true
  pub ready : all_in (λ t. not (a.not_ready t)) ts ≡ true
  pub affordable : leb 1 budget && leb budget most_orders ≡ true

pub passed : (a : Asked) (ts : List ℕ) (minute budget : ℕ) → order_refusal a ts minute budget ≡ 0 → Passed a ts minute budget
passed a ts minute budget e = unfold order_refusal in let b = unless-zero (is_list ts) 26 _ (omega arith) e in
    let c = unless-zero (all_in (λ t. leb t last_transaction) ts) 3 _ (omega arith) b.1 in
    let d = unless-zero (all_in a.is_open ts) 4 _ (omega arith) c.1 in
    let f = unless-zero (minute_in minute) 22 _ (omega arith) d.1 in
    let g = unless-zero (all_in (λ t. not (a.not_ready t)) ts) 25 _ (omega arith) f.1 in
    let k = unless-zero (leb 1 budget && leb budget most_orders) 27 0 (omega arith) g.1 in
    record { list = b.0; numbers = c.0; is_open = d.0; daily = f.0; ready = g.0; affordable = k.0 }
