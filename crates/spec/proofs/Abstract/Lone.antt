-- Laws of the run in isolation (01's run in isolation).
use mathlib.Core.{Bool.{Bool, true, false}, List.{List, [], ◌∷◌, ◌++◌, append-nil, append_assoc}, Path.{◌≡◌, refl, sym, ap, ◌∙◌}}
use Prim.Native.Nat.{ℕ}
use Rattle.state.specs.Outcomes.{Said}
use Rattle.buffers.proofs.BelowLaws.{and_both}
use Rattle.spec.specs.{Items.{result, asked}, Transactions.Txn, Messages.{Op, Reply}, Steps.{Stepped, refuse, accept, step}}
use Rattle.spec.specs.{Sightings.{Entry, entries, Committed}, LoneRuns.{Lone, stopped, prepend, go_on, lone}}
use Rattle.spec.proofs.Abstract.Lists.{current, current-entries, current-append}

-- One run, and then another where it got through.
unfoldable pub join : Bool → Lone → Lone → Lone
join true l m = record { through = m.through; txn = m.txn; replies = l.replies ++ m.replies; seen = l.seen ++ m.seen }
join false l m = l

unfoldable pub runs-joined : Lone → (Txn → Lone) → Lone
runs-joined l k = join l.through l (k l.txn)

prepend-join : (r : Reply) (es : List Entry) (b : Bool) (l m : Lone) → prepend r es (join b l m) ≡ join b (prepend r es l) m
unfolding join prepend
prepend-join r es true l m =
    ap (λ (s : List Entry). record { through = m.through; txn = m.txn; replies = r ∷ (l.replies ++ m.replies); seen = s })
    (sym (append_assoc es l.seen m.seen))
prepend-join r es false l m = refl

module _ (file_of : ℕ → ℕ) (c : Committed) where
  go_on-join : (before rest after : Txn → Lone) (x : Txn) (es : List Entry) → ((y : Txn)
      → before y ≡ runs-joined (rest y) after) → (s : Stepped) → go_on before x es s ≡ runs-joined (go_on rest x es s) after
  unfolding go_on runs-joined join stopped prepend
  go_on-join before rest after x es h (refuse n) = refl
  go_on-join before rest after x es h (accept y answer buffer) =
      ap (λ (l : Lone). prepend (record { answer = answer; buffer = buffer }) es l) (h y)
      ∙ prepend-join (record { answer = answer; buffer = buffer }) es (rest y).through (rest y) (after (rest y).txn)

  pub lone-append :
      (os ps : List Op) (x : Txn) → lone file_of c (os ++ ps) x ≡ runs-joined (lone file_of c os x) (λ y. lone file_of c ps y)
  unfolding lone runs-joined join
  lone-append [] ps x = refl
  lone-append (o ∷ os) ps x = go_on-join (λ y. lone file_of c (os ++ ps) y) (λ y. lone file_of c os y)
      (λ y. lone file_of c ps y) x (entries c.setter (asked c.value (step file_of o x))) (λ y. lone-append os ps y)
      (result c.value (step file_of o x))

  -- A run that got through, and one more accepted call.
  pub lone-more : (os : List Op) (o : Op) (x y z : Txn) (answer : Said) (buffer : List ℕ) (rs : List Reply)
      (es : List Entry) → lone file_of c os x ≡ record { through = true; txn = y; replies = rs; seen = es }
      → result c.value (step file_of o y) ≡ accept z answer buffer → lone file_of c (os ++ (o ∷ [])) x ≡ record {
        through = true;
        txn = z;
        replies = rs ++ (record { answer = answer; buffer = buffer } ∷ []);
        seen = es ++ entries c.setter (asked c.value (step file_of o y));
      }
  lone-more os o x y z answer buffer rs es e f = unfold lone runs-joined join go_on prepend in
      lone-append os (o ∷ []) x ∙ ap (λ (l : Lone). runs-joined l (λ y. lone file_of c (o ∷ []) y)) e
      ∙ ap (λ (s : Stepped). join true (record { through = true; txn = y; replies = rs; seen = es }) (go_on (λ w. lone file_of
      c [] w) y (entries c.setter (asked c.value (step file_of o y))) s)) f ∙ ap (λ (l : List Entry). record
      { through = true; txn = z; replies = rs ++ (record { answer = answer; buffer = buffer } ∷ []); seen = es ++ l })
      (append-nil (entries c.setter (asked c.value (step file_of o y))))

  -- The entries of a run in isolation carry the setters of the committed state that it runs on, also where it stops.
  go_on-current : (rest : Txn → Lone) (x : Txn) (es : List Entry) → current c.setter es ≡ true → ((y : Txn)
      → current c.setter (rest y).seen ≡ true) → (s : Stepped) → current c.setter (go_on rest x es s).seen ≡ true
  unfolding go_on stopped prepend current
  go_on-current rest x es e h (refuse n) = refl
  go_on-current rest x es e h (accept y answer buffer) = current-append c.setter es (rest y).seen
      ∙ and_both (current c.setter es) (current c.setter (rest y).seen) e (h y)

  pub lone-current : (os : List Op) (x : Txn) → current c.setter (lone file_of c os x).seen ≡ true
  unfolding lone current
  lone-current [] x = refl
  lone-current (o ∷ os) x = go_on-current (λ y. lone file_of c os y) x (entries c.setter
      (asked c.value (step file_of o x))) (current-entries c.setter (asked c.value (step file_of o x)))
      (λ y. lone-current os y) (result c.value (step file_of o x))
