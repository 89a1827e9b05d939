-- A line of a trace says in a call log what it says there.
use mathlib.Core.{Bool.{Bool, true, false, cond}, List.{List, [], ◌∷◌}, Path.{◌≡◌, refl, ap, ◌∙◌}}
use Prim.Native.Nat.{ℕ, zero, suc, ◌+◌, ◌*◌, ◌≤◌, ◌<◌}
use native.Mathlib.Omega.{arith}
use lib.{Dec.{eqb, leb, ltb}, ListN.{length, replicate}}
use borrow.Author.Tests.{ltb-true, leb-true, le-leb, eqb-true}
use Rattle.text_numerals.specs.Decimal.{past, Numeral, none, numeral, is_digit, worth, digits, front_within, fitting, front_number}
use Rattle.text_numerals.specs.Decimal.{spaced_number, more_digits, Stops, NumberList, values, before, then_values, numbers_in}
use Rattle.text_numerals.proofs.{Decimals.digits-stops, ReadLaws.{digit-bounds, numeral-fits}}
use Rattle.requests.specs.declared.{Request.{Request, TheVariants.{Begin, Seek, Write, GetFilePointer, Read, Commit, Abort}}}
use Rattle.requests.specs.Requests.{call_of}
use Rattle.text_trace.specs.Grammar.{Line, another, asks, spaced, after_numeral, ends, writes, lettered, form, parsed}
use Rattle.text_log.specs.LogLines.{calls, call_in, if_whole, entry_asked, next_number, last, last_or, numbers_only, entry_in}
use Rattle.text_log.specs.LogLines.{on_number, write_entry, text_behind, most_numbers, trace_room}
use Rattle.text_log.proofs.ReadingLaws.{entry-within}
use Rattle.text_log.specs.LogLines as log

-- ---- a number of few digits among those of more

nothing : (w : ℕ) (rest : List ℕ) → none ≡ numeral w rest → ⊥
nothing w rest e = let z : ◌≡◌ {A = ℕ} 0 1 = cc in omega arith

-- A number that ends before another byte than a digit, read with more digits allowed.
digits-wider : (n m v : ℕ) (bytes : List ℕ) (w : ℕ) (rest : List ℕ) → n ≤ m → Stops rest → digits n v bytes ≡ numeral w rest
    → digits m v bytes ≡ numeral w rest
unfolding digits
digits-wider zero m v bytes w rest l stop e = let s : bytes ≡ rest = cc in digits-stops m v bytes (rw s stop) ∙ e
digits-wider (suc n) zero v bytes w rest l stop e = absurd (omega arith)
digits-wider (suc n) (suc m) v [] w rest l stop e = e
digits-wider (suc n) (suc m) v (b ∷ bytes) w rest l stop e =
    pick (is_digit b) (digits-wider n m (v * 10 + worth b) bytes w rest (omega arith) stop) e
  where
    pick : (t : Bool) → (digits n (v * 10 + worth b) bytes ≡ numeral w rest → digits m (v * 10 + worth b) bytes ≡ numeral w rest)
        → cond t (digits n (v * 10 + worth b) bytes) (numeral v (b ∷ bytes)) ≡ numeral w rest
        → cond t (digits m (v * 10 + worth b) bytes) (numeral v (b ∷ bytes)) ≡ numeral w rest
    pick true ih e = ih e
    pick false ih e = e

fitting-expected : (g : Numeral) (w : ℕ) (rest : List ℕ) → fitting g ≡ numeral w rest → (g ≡ numeral w rest) × (w < past)
unfolding fitting
fitting-expected none w rest e = absurd (nothing w rest e)
fitting-expected (numeral v bytes) w rest e = pick (ltb v past) refl e
  where
    pick : (t : Bool) → ltb v past ≡ t → cond t (numeral v bytes) none ≡ numeral w rest → (numeral v bytes ≡ numeral w rest)
        × (w < past)
    pick true b e = let s : v ≡ w = cc in (e, omega (arith, ltb-true v past b))
    pick false b e = absurd (nothing w rest e)

front-wider : (bytes : List ℕ) (w : ℕ) (rest : List ℕ) → Stops rest → front_number 4 bytes ≡ numeral w rest
    → front_number more_digits bytes ≡ numeral w rest
unfolding front_number front_within fitting
front-wider [] w rest stop e = e
front-wider (b ∷ bytes) w rest stop e = pick (is_digit b) e
  where
    pick : (t : Bool) → fitting (cond t (digits 4 (worth b) bytes) none) ≡ numeral w rest
        → fitting (cond t (digits more_digits (worth b) bytes) none) ≡ numeral w rest
    pick true e =
        let told = fitting-expected (digits 4 (worth b) bytes) w rest e in
        ap fitting (digits-wider 4 more_digits (worth b) bytes w rest (omega arith) stop told.0) ∙ numeral-fits w rest told.1
    pick false e = e

spaced-wider : (bytes : List ℕ) (w : ℕ) (rest : List ℕ) → Stops rest → spaced bytes ≡ numeral w rest
    → spaced_number more_digits bytes ≡ numeral w rest
unfolding spaced_number
spaced-wider [] w rest stop e = e
spaced-wider (b ∷ bytes) w rest stop e = pick (eqb b 32) e
  where
    pick : (t : Bool) → cond t (front_number 4 bytes) none ≡ numeral w rest → cond t (front_number more_digits bytes) none
        ≡ numeral w rest
    pick true e = front-wider bytes w rest stop e
    pick false e = e

spaced-stops : (bytes : List ℕ) (w : ℕ) (rest : List ℕ) → spaced bytes ≡ numeral w rest → Stops bytes
unfolding spaced_number Stops is_digit
spaced-stops [] w rest e = tt
spaced-stops (b ∷ bytes) w rest e = pick (eqb b 32) refl e
  where
    pick : (t : Bool) → eqb b 32 ≡ t → cond t (front_number 4 bytes) none ≡ numeral w rest → is_digit b ≡ false
    pick true i e = rw (eqb-true b 32 i)
    pick false i e = absurd (nothing w rest e)

-- ---- the numbers of a line

front-digit : (t : ℕ) (bytes : List ℕ) → is_digit t ≡ true → Stops bytes → front_number more_digits (t ∷ bytes)
    ≡ numeral (worth t) bytes
front-digit t bytes d stop = unfold front_number front_within in let l = digit-bounds t d in
    rw d (ap fitting (digits-stops more_digits (worth t) bytes stop) ∙ numeral-fits (worth t) bytes (omega arith))

one_more : (k : ℕ) (bytes : List ℕ) (w : ℕ) (rest : List ℕ) → spaced_number more_digits bytes ≡ numeral w rest
    → numbers_in (suc k) bytes ≡ before w (numbers_in k rest)
unfolding numbers_in then_values spaced_number
one_more k [] w rest e = absurd (nothing w rest e)
one_more k (b ∷ bytes) w rest e = ap (λ (g : Numeral). then_values g (λ rest. numbers_in k rest)) e

abbrev values_in : List ℕ → NumberList
values_in bytes = then_values (front_number more_digits bytes) (numbers_in most_numbers)

module _ (t : ℕ) (digit : is_digit t ≡ true) where
  one_value : values_in (t ∷ []) ≡ values (worth t ∷ [])
  one_value = unfold then_values numbers_in before Stops in rw (front-digit t [] digit tt)

  two-values : (bytes : List ℕ) (d : ℕ) → spaced bytes ≡ numeral d [] → values_in (t ∷ bytes) ≡ values (worth t ∷ d ∷ [])
  two-values bytes d e = unfold then_values numbers_in before Stops in
      rw (front-digit t bytes digit (spaced-stops bytes d [] e), one_more 16 bytes d [] (spaced-wider bytes d [] tt e))

  three-values : (bytes : List ℕ) (d : ℕ) (rest : List ℕ) (n : ℕ) → spaced bytes ≡ numeral d rest → spaced rest ≡ numeral n []
      → values_in (t ∷ bytes) ≡ values (worth t ∷ d ∷ n ∷ [])
  three-values bytes d rest n e f = unfold then_values numbers_in before Stops in rw (
    front-digit t bytes digit (spaced-stops bytes d rest e),
    one_more 16 bytes d rest (spaced-wider bytes d rest (spaced-stops rest n [] f) e),
    one_more 15 rest n [] (spaced-wider rest n [] tt f),
  )

-- ---- what a line of a trace is made of

never : (q : Request) (bs : List ℕ) → another ≡ asks q bs → ⊥
never q bs e = let z : ◌≡◌ {A = ℕ} 0 1 = cc in omega arith

record Expected (g : Numeral) (made : ℕ → List ℕ → Line) (l : Line) : Type 0 where
  number : ℕ
  rest : List ℕ
  is : g ≡ numeral number rest
  so : made number rest ≡ l

after-expected : (g : Numeral) (made : ℕ → List ℕ → Line) (q : Request) (bs : List ℕ) → after_numeral g made ≡ asks q bs
    → Expected g made (asks q bs)
unfolding after_numeral
after-expected none made q bs e = absurd (never q bs e)
after-expected (numeral v bytes) made q bs e = record { number = v; rest = bytes; is = refl; so = e }

ends-expected : (p q : Request) (rest bs : List ℕ) → ends p rest ≡ asks q bs → (rest ≡ []) × (q ≡ p)
unfolding ends
ends-expected p q [] bs e = let s : q ≡ p = cc in (refl, s)
ends-expected p q (b ∷ rest) bs e = absurd (never q bs e)

writes-expected : (p q : Request) (rest bs : List ℕ) → writes p rest ≡ asks q bs → (rest ≡ 32 ∷ bs) × (q ≡ p)
unfolding writes
writes-expected p q [] bs e = absurd (never q bs e)
writes-expected p q (b ∷ rest) bs e = pick (eqb b 32) refl e
  where
    pick : (t : Bool) → eqb b 32 ≡ t → cond t (asks p rest) another ≡ asks q bs → (b ∷ rest ≡ 32 ∷ bs) × (q ≡ p)
    pick true i e = let f = eqb-true b 32 i in let g : rest ≡ bs = cc in let s : q ≡ p = cc in (rw (f, g), s)
    pick false i e = absurd (never q bs e)

-- ---- each letter

module _ (q : Request) (bs : List ℕ) where
  abbrev Same : ℕ → ℕ → List ℕ → Type 0
  Same k t bytes = log.lettered_entry k (t ∷ bytes) ≡ calls (call_of q bs (replicate trace_room 0))

  module _ (t : ℕ) (bytes : List ℕ) (digit : is_digit t ≡ true) where
    begin-line : ends (Begin (worth t)) bytes ≡ asks q bs → Same 66 t bytes
    unfolding log.lettered_entry numbers_only if_whole entry_asked next_number last call_of
    begin-line e = let told = ends-expected _ q bytes bs e in rw (told.0, told.1, one_value t digit)

    commit-line : ends (Commit (worth t) 0) bytes ≡ asks q bs → Same 67 t bytes
    unfolding log.lettered_entry numbers_only if_whole entry_asked next_number last_or call_of
    commit-line e = let told = ends-expected _ q bytes bs e in rw (told.0, told.1, one_value t digit)

    abort-line : ends (Abort (worth t)) bytes ≡ asks q bs → Same 65 t bytes
    unfolding log.lettered_entry numbers_only if_whole entry_asked next_number last call_of
    abort-line e = let told = ends-expected _ q bytes bs e in rw (told.0, told.1, one_value t digit)

    pointer-line : after_numeral (spaced bytes) (λ d. ends (GetFilePointer (worth t) d)) ≡ asks q bs → Same 80 t bytes
    unfolding log.lettered_entry numbers_only if_whole entry_asked next_number last call_of
    pointer-line e = let d = after-expected (spaced bytes) _ q bs e in let told = ends-expected _ q d.rest bs d.so in
        rw (told.1, two-values t digit bytes d.number (d.is ∙ ap (numeral d.number) told.0))

    seek-line : after_numeral (spaced bytes) (λ d rest. after_numeral (spaced rest) (λ v. ends (Seek (worth t) d v))) ≡ asks q bs
        → Same 83 t bytes
    seek-line e = unfold log.lettered_entry numbers_only if_whole entry_asked next_number last call_of in
        let d = after-expected (spaced bytes) _ q bs e in let v = after-expected (spaced d.rest) _ q bs d.so in
        let told = ends-expected _ q v.rest bs v.so in rw (
          told.1,
          three-values t digit bytes d.number d.rest v.number d.is (v.is ∙ ap (numeral v.number) told.0),
        )

    read-line : after_numeral (spaced bytes) (λ d rest. after_numeral (spaced rest) (λ n. ends (Read (worth t) d n))) ≡ asks q bs
        → Same 82 t bytes
    read-line e = unfold log.lettered_entry numbers_only if_whole entry_asked next_number last_or call_of in
        let d = after-expected (spaced bytes) _ q bs e in let v = after-expected (spaced d.rest) _ q bs d.so in
        let told = ends-expected _ q v.rest bs v.so in rw (
          told.1,
          three-values t digit bytes d.number d.rest v.number d.is (v.is ∙ ap (numeral v.number) told.0),
        )

    write-line : length bytes ≤ 126 → after_numeral (spaced bytes) (λ d. writes (Write (worth t) d)) ≡ asks q bs → Same 87 t bytes
    write-line l e = unfold log.lettered_entry write_entry on_number text_behind call_of Stops is_digit in
        let d = after-expected (spaced bytes) _ q bs e in let told = writes-expected _ q d.rest bs d.so in
        let is : spaced bytes ≡ numeral d.number (32 ∷ bs) = d.is ∙ ap (numeral d.number) told.0 in rw (
          told.1,
          le-leb (suc (length bytes)) 127 (omega arith),
          front-digit t bytes digit (spaced-stops bytes d.number (32 ∷ bs) is),
          spaced-wider bytes d.number (32 ∷ bs) refl is,
        )

-- One letter after the other.
choose : {G : Type 0} (q : Request) (bs : List ℕ) (k l : ℕ) (t : Bool) → eqb k l ≡ t → (x y : Line) → cond t x y ≡ asks q bs
    → (k ≡ l → x ≡ asks q bs → G) → (y ≡ asks q bs → G) → G
choose q bs k l true i x y e f g = f (eqb-true k l i) e
choose q bs k l false i x y e f g = g e

lettered-same : (q : Request) (bs : List ℕ) (k t : ℕ) (bytes : List ℕ) → is_digit t ≡ true → length bytes ≤ 126
    → lettered k (worth t) bytes ≡ asks q bs → Same q bs k t bytes
unfolding lettered
lettered-same q bs k t bytes d l e = choose q bs k 66 (eqb k 66) refl _ _ e (λ i e. rw i (begin-line q bs t bytes d e))
    (λ e. choose q bs k 67 (eqb k 67) refl _ _ e (λ i e. rw i (commit-line q bs t bytes d e)) (λ e. choose q bs k 65
    (eqb k 65) refl _ _ e (λ i e. rw i (abort-line q bs t bytes d e)) (λ e. choose q bs k 80 (eqb k 80) refl _ _ e
    (λ i e. rw i (pointer-line q bs t bytes d e)) (λ e. choose q bs k 83 (eqb k 83) refl _ _ e (λ i e. rw i (seek-line q bs
    t bytes d e)) (λ e. choose q bs k 82 (eqb k 82) refl _ _ e (λ i e. rw i (read-line q bs t bytes d e)) (λ e. choose q bs
    k 87 (eqb k 87) refl _ _ e (λ i e. rw i (write-line q bs t bytes d l e)) (λ e. absurd (never q bs e))))))))

form-same : (line : List ℕ) (q : Request) (bs : List ℕ) → length line ≤ 128 → form line ≡ asks q bs
    → call_in line ≡ calls (call_of q bs (replicate trace_room 0))
unfolding form entry_in
form-same [] q bs l e = absurd (never q bs e)
form-same (k ∷ []) q bs l e = absurd (never q bs e)
form-same (k ∷ t ∷ bytes) q bs l e = pick (is_digit t) refl e
  where
    pick : (b : Bool) → is_digit t ≡ b → cond b (lettered k (worth t) bytes) another ≡ asks q bs
        → call_in (k ∷ t ∷ bytes) ≡ calls (call_of q bs (replicate trace_room 0))
    pick true d e = entry-within (k ∷ t ∷ bytes) (omega arith) ∙ lettered-same q bs k t bytes d (omega arith) e
    pick false d e = absurd (never q bs e)

pub traces : (line : List ℕ) (q : Request) (bs : List ℕ) → parsed line ≡ asks q bs → call_in line
    ≡ calls (call_of q bs (replicate trace_room 0))
unfolding parsed
traces line q bs e = pick (leb (length line) 128) refl e
  where
    pick : (b : Bool) → leb (length line) 128 ≡ b → cond b (form line) another ≡ asks q bs → call_in line
        ≡ calls (call_of q bs (replicate trace_room 0))
    pick true l e = form-same line q bs (leb-true (length line) 128 l) e
    pick false l e = absurd (never q bs e)
