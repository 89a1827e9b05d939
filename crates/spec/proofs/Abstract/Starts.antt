-- The serial order starts where the list of calls does, unless the machine had something to go back to there.
use mathlib.Core.{List.{List, [], ◌∷◌, ◌++◌}, Path.{◌≡◌, refl, sym, ◌∙◌}}
use Prim.Native.Nat.{ℕ}
use Rattle.windows.specs.Windows.{fresh_windows}
use Rattle.spec.specs.{Sightings.Committed, Messages.Call}
use Rattle.spec.specs.Plain.{Plain, nothing, found, plain_with_windows, plain_restored, PlainTurn, grant, plain_call}
use Rattle.spec.specs.Grants.{Grant, Serial, but_last, dropped_from, adding, serial_by, serial_from, serial_of}
use Rattle.spec.proofs.Abstract.SerialOrder.{Turned, preserved, grants, undone, turned, nothing-found}

-- Without a grant in the serial order there is nothing to go back to.
abbrev Stays : List Grant → Plain → Type 0
Stays [] p = p.earlier ≡ nothing
Stays (g ∷ gs) p = Unit {0}

stays-nothing : (gs : List Grant) (p : Plain) → p.earlier ≡ nothing → Stays gs p
stays-nothing [] p e = e
stays-nothing (g ∷ gs) p e = tt

stays_same : (gs : List Grant) (p q : Plain) → q.earlier ≡ p.earlier → Stays gs p → Stays gs q
stays_same [] p q e h = e ∙ h
stays_same (g ∷ gs) p q e h = tt

stays-more : (gs : List Grant) (g : Grant) (p : Plain) → Stays (gs ++ (g ∷ [])) p
stays-more [] g p = tt
stays-more (x ∷ gs) g p = tt

dropped : (start : Plain) (gs : List Grant) (p : Plain) (c : Committed) (n : ℕ) → p.earlier ≡ found c n → Stays gs p
    → ((dropped_from start gs).start ≡ start) × Stays (dropped_from start gs).grants (plain_restored c n p)
unfolding dropped_from
dropped start [] p c n e h = absurd (nothing-found c n (sym h ∙ e))
dropped start (g ∷ gs) p c n e h = (refl, stays-nothing (but_last (g ∷ gs)) (plain_restored c n p) refl)

starts-turn : (p : Plain) (s : Serial) (τ : PlainTurn) (z : Serial) → Turned p s τ z → Stays s.grants p
    → (z.start ≡ s.start) × Stays z.grants τ.after
unfolding adding
starts-turn p s τ z (preserved reply windows slots) h = (refl, stays_same s.grants p τ.after refl h)
starts-turn p s τ z (grants t minute r reply d o e f) h = (refl, stays-more s.grants _ (grant t r p))
starts-turn p s τ z (undone c n reply q e) h = dropped s.start s.grants p c n q h

starts-after : (cs : List Call) (p : Plain) (s : Serial) → Stays s.grants p → (serial_from cs p s).start ≡ s.start
unfolding serial_from
starts-after [] p s h = refl
starts-after (c ∷ cs) p s h = let e = starts-turn p s (plain_call c p) (serial_by c p s) (turned p s c) h in
    starts-after cs (plain_call c p).after (serial_by c p s) e.1 ∙ e.0

pub start-stays : (cs : List Call) (p : Plain) → p.earlier ≡ nothing → (serial_of cs p).start ≡ plain_with_windows fresh_windows p
unfolding serial_of
start-stays cs p e = starts-after cs p (record { start = plain_with_windows fresh_windows p; grants = [] }) e
