-- The invariant of an open transaction of the reference model: its run in isolation is the recorded one, unless an item that it
-- sighted was set since.
use mathlib.Core.{Bool.{Bool, true, false, cond, ◌||◌}, List.{List, [], ◌∷◌, ◌++◌, map, map-append}}
use mathlib.Core.Path.{◌≡◌, refl, sym, ap, ap₂, ◌∙◌, subst}
use borrow.Author.Tests.{eqb-true}
use lib.Dec.{eqb}
use native.Mathlib.Omega.{arith}
use Prim.Native.Nat.{ℕ, ◌+◌, ◌≤◌}
use Rattle.state.specs.Outcomes.{Said}
use Rattle.buffers.proofs.BelowLaws.{and_left, and_right}
use Rattle.spec.specs.{Items.{Item, offset, Values, result, asked}, Transactions.{Txn, empty}, Messages.{Op, Reply}}
use Rattle.spec.specs.{Steps.{accept, step}, Commits.{Setting, settings, landed, set_by}}
use Rattle.spec.specs.{Sightings.{Entry, same_entries, entries, Committed}, Plain.{Accepted, Running, ops, committing}}
use Rattle.spec.specs.{LoneRuns.{Lone, lone}, Lengths.Longer}
use Rattle.standings.specs.Table.{is_known}
use Rattle.spec.proofs.Abstract.AbstractStore.{among}
use Rattle.spec.proofs.Abstract.Programs.{Every, every_append, every-left, every-right, among-append}
use Rattle.spec.proofs.Abstract.{Steady.{Steady, steady-step}, Lengths.commit-longer, Known.known_step}
use Rattle.spec.proofs.Abstract.Lists.{iff-same, same_entries-true, same_entries-of, items, items-entries, items-append}
use Rattle.spec.proofs.Abstract.Lists.{entries-append, current, current-is, touched, set_by-at, landed_at}
use Rattle.spec.proofs.Abstract.Lone.{lone-more, lone-current}

-- A sighting with the value that was sighted. The machine holds no values: they are in the proof alone.
pub record Sighting : Type 0 where
  pub item : Item
  pub setter : ℕ
  pub value : ℕ

unfoldable pub entry_of : Sighting → Entry
entry_of g = record { item = g.item; setter = g.setter }

-- Values on which every sighting would give what it gave.
abbrev pub EntriesAgree : Values → List Sighting → Type 0
EntriesAgree v = Every (λ (g : Sighting). v g.item ≡ g.value)

-- Of a sighting on a committed state after n grants: its setter is no later one, and where its item still has that setter it
-- still has that value.
pub record Recent (c : Committed) (n : ℕ) (g : Sighting) : Type 0 where
  pub old : g.setter ≤ n
  pub unchanged : c.setter g.item ≡ g.setter → c.value g.item ≡ g.value

-- What the machine recorded of a transaction, as a run in isolation on a state with those setters.
unfoldable pub recorded-run : Running → Values → Lone
recorded-run r s =
    record { through = true; txn = r.txn; replies = map (λ a. a.reply) r.calls; seen = entries s (items r.seen) }

pub record SoundRun (file_of : ℕ → ℕ) (c : Committed) (n : ℕ) (r : Running) : Type 0 where
  pub sightings : List Sighting
  pub listed : r.seen ≡ map entry_of sightings
  pub alone : (k : Committed) → Longer c.value k.value → EntriesAgree k.value sightings
      → lone file_of k (ops r.calls) empty ≡ recorded-run r k.setter
  pub recent : Every (Recent c n) sightings
  pub known : (d : ℕ) → is_known (r.txn.standing d) ≡ among (offset d) (items r.seen)

every_map : {A B : Type 0} (P : A → Type 0) (Q : B → Type 0) (f : A → B) → ((a : A) → P a → Q (f a)) → (xs : List A) → Every P xs
    → Every Q (map f xs)
every_map P Q f h [] e = tt
every_map P Q f h (x ∷ xs) e = (h x e.0, every_map P Q f h xs e.1)

every-as : {A : Type 0} (P Q : A → Type 0) → ((a : A) → P a → Q a) → (xs : List A) → Every P xs → Every Q xs
every-as P Q h [] e = tt
every-as P Q h (x ∷ xs) e = (h x e.0, every-as P Q h xs e.1)

module _ (file_of : ℕ → ℕ) (c : Committed) (n : ℕ) (r : Running) (s : SoundRun file_of c n r) where
  pub seen-old : Every (λ (e : Entry). e.setter ≤ n) r.seen
  unfolding entry_of
  seen-old = subst (Every (λ (e : Entry). e.setter ≤ n)) (sym s.listed)
      (every_map (Recent c n) (λ (e : Entry). e.setter ≤ n) entry_of (λ g h. h.old) s.sightings s.recent)

  -- Where every setter is still current, so is every value.
  agrees-now : (gs : List Sighting) → Every (Recent c n) gs → current c.setter (map entry_of gs) ≡ true
      → EntriesAgree c.value gs
  unfolding current entry_of
  agrees-now [] h e = tt
  agrees-now (g ∷ gs) h e = (
    h.0.unchanged (eqb-true (c.setter g.item) g.setter
        (and_left (eqb (c.setter g.item) g.setter) (current c.setter (map entry_of gs)) e)),
    agrees-now gs h.1 (and_right (eqb (c.setter g.item) g.setter) (current c.setter (map entry_of gs)) e),
  )

  -- The run in isolation of a transaction whose setters are current is the recorded one.
  pub alone-now : current c.setter r.seen ≡ true → lone file_of c (ops r.calls) empty ≡ recorded-run r c.setter
  alone-now e = s.alone c (λ f. omega arith)
      (agrees-now s.sightings s.recent (subst (λ (l : List Entry). current c.setter l ≡ true) s.listed e))

  -- The two lists are equal exactly where every recorded entry still has its setter.
  pub lists-same : same_entries r.seen (lone file_of c (ops r.calls) empty).seen ≡ current c.setter r.seen
  unfolding recorded-run
  lists-same = iff-same (same_entries r.seen (lone file_of c (ops r.calls) empty).seen) (current c.setter r.seen)
      (λ e. subst (λ (l : List Entry). current c.setter l ≡ true) (sym (same_entries-true r.seen
      (lone file_of c (ops r.calls) empty).seen e)) (lone-current file_of c (ops r.calls) empty))
      (λ e. same_entries-of r.seen (lone file_of c (ops r.calls) empty).seen
      (sym (ap (λ (l : Lone). l.seen) (alone-now e) ∙ current-is c.setter r.seen e)))

-- What a program asks for, as sightings on a committed state.
unfoldable sightings_of : Committed → List Item → List Sighting
sightings_of c is = map (λ i. record { item = i; setter = c.setter i; value = c.value i }) is

sightings-entries : (c : Committed) (is : List Item) → entries c.setter is ≡ map entry_of (sightings_of c is)
unfolding sightings_of entries entry_of
sightings-entries c [] = refl
sightings-entries c (i ∷ is) = ap (λ (l : List Entry). record { item = i; setter = c.setter i } ∷ l) (sightings-entries c is)

sightings-agree : (c : Committed) (v : Values) (is : List Item) → EntriesAgree v (sightings_of c is)
    → Every (λ (i : Item). v i ≡ c.value i) is
unfolding sightings_of
sightings-agree c v [] h = tt
sightings-agree c v (i ∷ is) h = (h.0, sightings-agree c v is h.1)

sightings-recent : (c : Committed) (n : ℕ) → ((i : Item) → c.setter i ≤ n) → (is : List Item)
    → Every (Recent c n) (sightings_of c is)
unfolding sightings_of
sightings-recent c n h [] = tt
sightings-recent c n h (i ∷ is) = (record { old = h i; unchanged = λ e. refl }, sightings-recent c n h is)

-- Begin: nothing sighted yet.
pub sound-begun : (file_of : ℕ → ℕ) (c : Committed) (n : ℕ) → SoundRun file_of c n (record { txn = empty; calls = []; seen = [] })
unfolding lone ops recorded-run empty items among entries
sound-begun file_of c n = record { sightings = []; listed = refl; alone = λ k l h. refl; recent = tt; known = λ d. refl }

-- The items that a transaction has sighted after one more call.
pub items_more : (s : Values) (es : List Entry) (is : List Item) → items (es ++ entries s is) ≡ items es ++ is
items_more s es is = items-append es (entries s is) ∙ ap (λ (l : List Item). items es ++ l) (items-entries s is)

-- An open transaction after one more accepted call.
abbrev pub extended : Running → Op → Txn → Said → List ℕ → List Entry → Running
extended r o y answer buffer es = record {
  txn = y;
  calls = r.calls ++ (record { op = o; reply = record { answer = answer; buffer = buffer } } ∷ []);
  seen = r.seen ++ es;
}

-- An accepted call extends the sightings by what it asked for.
module _ (file_of : ℕ → ℕ) (c : Committed) (n : ℕ) (r : Running) (s : SoundRun file_of c n r) where
  more-alone : (o : Op) (y : Txn) (answer : Said) (buffer : List ℕ) → result c.value (step file_of o r.txn) ≡ accept y
      answer buffer → (k : Committed) → Longer c.value k.value → EntriesAgree k.value
      (s.sightings ++ sightings_of c (asked c.value (step file_of o r.txn))) → lone file_of k (ops (extended r o y
      answer buffer (entries c.setter (asked c.value (step file_of o r.txn)))).calls) empty ≡ recorded-run
      (extended r o y answer buffer (entries c.setter (asked c.value (step file_of o r.txn)))) k.setter
  unfolding ops recorded-run Steady
  more-alone o y answer buffer e k l a = let now = asked c.value (step file_of o r.txn) in
      let reply : Reply = record { answer = answer; buffer = buffer } in
      let same-values = sightings-agree c k.value now
      (every-right (λ (g : Sighting). k.value g.item ≡ g.value) s.sightings (sightings_of c now) a) in
      let steady = steady-step c.value k.value l file_of o r.txn same-values in
      ap (λ (os : List Op). lone file_of k os empty) (map-append (λ (x : Accepted). x.op) r.calls
      (record { op = o; reply = reply } ∷ [])) ∙ lone-more file_of k (ops r.calls) o empty r.txn y answer buffer
      (map (λ x. x.reply) r.calls) (entries k.setter (items r.seen)) (s.alone k l
      (every-left (λ (g : Sighting). k.value g.item ≡ g.value) s.sightings (sightings_of c now) a)) (steady.0 ∙ e)
      ∙ ap₂ (λ (rs : List Reply) (es : List Entry). record { through = true; txn = y; replies = rs; seen = es })
      (sym (map-append (λ (x : Accepted). x.reply) r.calls (record { op = o; reply = reply } ∷ [])))
      (ap (λ (is : List Item). entries k.setter (items r.seen) ++ entries k.setter is) steady.1
      ∙ sym (entries-append k.setter (items r.seen) now)
      ∙ ap (entries k.setter) (sym (items_more c.setter r.seen now)))

  pub sound_more : ((i : Item) → c.setter i ≤ n) → (o : Op) (y : Txn) (answer : Said) (buffer : List ℕ)
      → result c.value (step file_of o r.txn) ≡ accept y answer buffer
      → SoundRun file_of c n (extended r o y answer buffer (entries c.setter (asked c.value (step file_of o r.txn))))
  sound_more h o y answer buffer e = let now = asked c.value (step file_of o r.txn) in record {
    sightings = s.sightings ++ sightings_of c now;
    listed = ap₂ (λ (xs ys : List Entry). xs ++ ys) s.listed (sightings-entries c now)
        ∙ sym (map-append entry_of s.sightings (sightings_of c now));
    alone = more-alone o y answer buffer e;
    recent = every_append (Recent c n) s.sightings (sightings_of c now) s.recent (sightings-recent c n h now);
    known = λ d. known_step file_of c.value o r.txn y answer buffer e d
        ∙ ap (λ (b : Bool). b || among (offset d) now) (s.known d) ∙ sym (among-append (offset d) (items r.seen) now)
        ∙ ap (among (offset d)) (sym (items_more c.setter r.seen now));
  }

  -- A grant by another keeps what is known: a set item has a setter that no sighting has.
  after-setting : (ss : List Setting) (g : Sighting) → Recent c n g
      → Recent (record { value = landed ss c.value; setter = set_by (n + 1) ss c.setter }) (n + 1) g
  after-setting ss g h = record {
    old = omega (arith, h.old);
    unchanged = λ e. preserved-at (touched ss g.item) refl (sym (set_by-at (n + 1) ss c.setter g.item) ∙ e);
  }
    where
      preserved-at : (b : Bool) → touched ss g.item ≡ b → cond (touched ss g.item) (n + 1)
          (c.setter g.item) ≡ g.setter → landed ss c.value g.item ≡ g.value
      preserved-at true t e = let z : n + 1 ≡ g.setter =
          subst (λ (b : Bool). cond b (n + 1) (c.setter g.item) ≡ g.setter) t e in absurd (omega (arith, h.old))
      preserved-at false t e = landed_at ss c.value g.item t
          ∙ h.unchanged (subst (λ (b : Bool). cond b (n + 1) (c.setter g.item) ≡ g.setter) t e)

  pub sound-granted : (x : Txn) → SoundRun file_of (committing file_of (n + 1) x c) (n + 1) r
  sound-granted x = unfold committing in let ss = settings file_of c.value x in record {
    sightings = s.sightings;
    listed = s.listed;
    alone = λ k l a. s.alone k (λ f. omega (arith, commit-longer file_of c.value x f, l f)) a;
    recent = every-as (Recent c n) (Recent (committing file_of (n + 1) x c) (n + 1)) (after-setting ss) s.sightings
        s.recent;
    known = s.known;
  }
