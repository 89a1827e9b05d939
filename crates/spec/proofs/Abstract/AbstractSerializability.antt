-- Serializability between the abstract store and the reference model, for every list of calls from Fresh.
use mathlib.Core.{Bool.true, List.List, Path.{◌≡◌, refl, sym, ap, ◌∙◌, subst}}
use Prim.Native.Nat.{ℕ}
use Rattle.windows.specs.Windows.{Windows}
use Rattle.state.specs.Outcomes.{refused}
use Rattle.spec.specs.{Items.Values, Messages.{Op, Call, on, commit}, Steps.is_read_call}
use Rattle.spec.specs.Serializability.{IsAccepted, OneMoment}
use Rattle.spec.specs.Plain.{Running, running, Plain, Earlier, start_plain, plain_call, plain_after, plain_replies}
use Rattle.spec.specs.Grants.{serial_of, rerun, same_replies}
use Rattle.spec.proofs.Abstract.Alone.{serially, AllSame}
use Rattle.spec.proofs.Abstract.AbstractStore.{start_abstract, AbstractTurn, abstract_call, abstract_after, abstract_replies}
use Rattle.spec.proofs.Abstract.{Commits.{Tells, commit-tells, daily-commit}, Rerun.{Reran, reran}}
use Rattle.spec.proofs.Abstract.PlainInvariant.{Good, GoodEarlier, good_start, good-after, open-number}
use Rattle.spec.proofs.Abstract.SameReplies.{back_of, abs, abs-start, abs_turn, same-call, same_after, same-replies}
use Rattle.spec.proofs.Abstract.{Moments.plain-moment, SerialOrder.{InOrder, in-order-from}}

module _ (file_of : ℕ → ℕ) (v : Values) (ws : Windows) (e : Earlier) (h : GoodEarlier e) (cs : List Call) where
  -- The machine after the list of calls.
  abbrev pub reached : Plain
  reached = plain_after cs (start_plain file_of v ws e)

  pub reached-good : Good (plain_after cs (start_plain file_of v ws e))
  reached-good = good-after cs (start_plain file_of v ws e) (good_start file_of v ws e h)

  -- "That the store returns the same refusals is part of demand 3": all replies are the same, refusals, answers, Commit's number
  -- and the reader's buffers.
  pub replies-same : abstract_replies cs (start_abstract file_of v ws (back_of e)) ≡ plain_replies cs (start_plain file_of v ws e)
  replies-same = ap (abstract_replies cs) (abs-start file_of v ws e)
      ∙ same-replies cs (start_plain file_of v ws e) (good_start file_of v ws e h)

  pub state-same : abstract_after cs (start_abstract file_of v ws (back_of e)) ≡ abs (plain_after cs (start_plain file_of v ws e))
  state-same = ap (abstract_after cs) (abs-start file_of v ws e)
      ∙ same_after cs (start_plain file_of v ws e) (good_start file_of v ws e h)

  -- The turn of one more call.
  pub turn-same : (c : Call) → abstract_call c (abstract_after cs (start_abstract file_of v ws (back_of e))) ≡ abs_turn
      (plain_call c (plain_after cs (start_plain file_of v ws e)))
  turn-same c = ap (abstract_call c) state-same ∙ same-call c reached reached-good

  -- A Commit after the list is refused with 13 exactly when the two lists of its transaction differ at that moment: by the
  -- machine, and by the store.
  pub machine-commit : (t minute : ℕ) (r : Running) → reached.slots t ≡ running r → ((plain_call (commit t minute)
      reached).reply.answer ≡ refused 22 → ⊥) → Tells (plain_call (commit t minute) reached).reply.answer r reached
  machine-commit t minute r o h = let l = open-number reached reached-good t r o in
      commit-tells t minute r reached l o (daily-commit t minute r reached l o h)

  pub store-commit : (t minute : ℕ) (r : Running) → reached.slots t ≡ running r → ((abstract_call (commit t minute)
      (abstract_after cs (start_abstract file_of v ws (back_of e)))).reply.answer ≡ refused 22 → ⊥) → Tells
      (abstract_call (commit t minute) (abstract_after cs (start_abstract file_of v ws (back_of e)))).reply.answer r reached
  store-commit t minute r o h = unfold abs_turn in let e = turn-same (commit t minute) in
      subst (λ (τ : AbstractTurn). Tells τ.reply.answer r reached) (sym e)
      (machine-commit t minute r o (λ k. h (ap (λ (τ : AbstractTurn). τ.reply.answer) e ∙ k)))

  -- "the granted ones are run alone .., in the order of their grants": each meets no refusal and gives the same answers and
  -- bytes, and together they leave the files and offsets of the machine. Those that were undone are left out.
  in-serial : InOrder (serial_of cs (start_plain file_of v ws e)) (plain_after cs (start_plain file_of v ws e))
  in-serial = unfold start_plain in in-order-from cs (start_plain file_of v ws e) (good_start file_of v ws e h) (λ u. refl)

  reran-again : Reran (serial_of cs (start_plain file_of v ws e)).grants (serial_of cs (start_plain file_of v ws e)).start
  reran-again = let i = in-serial in
      reran (serial_of cs (start_plain file_of v ws e)).grants (serial_of cs (start_plain file_of v ws e)).start i.windows
      i.idle (subst (λ (f : ℕ → ℕ). AllSame f (serial_of cs (start_plain file_of v ws e)).start.grants
      (serial_of cs (start_plain file_of v ws e)).grants (serial_of cs (start_plain file_of v ws e)).start.committed)
      (sym i.files) i.same)

  pub again-same : let s = serial_of cs (start_plain file_of v ws e) in
      plain_replies (rerun s.grants) s.start ≡ same_replies s.grants
  again-same = reran-again.replies

  pub again-left : let s = serial_of cs (start_plain file_of v ws e) in
      (plain_after (rerun s.grants) s.start).committed ≡ (plain_after cs (start_plain file_of v ws e)).committed
  again-left = let i = in-serial in let s = serial_of cs (start_plain file_of v ws e) in
      reran-again.left ∙ ap (λ (f : ℕ → ℕ). serially f s.start.grants s.grants s.start.committed) i.files
      ∙ i.left

  -- What an accepted Read or GetFilePointer gives is what its transaction gives alone at that moment.
  pub moment-same : (t : ℕ) (o : Op) → is_read_call o ≡ true → IsAccepted (plain_call (on t o) reached).reply
      → OneMoment reached t o (plain_call (on t o) reached).reply
  moment-same t o = plain-moment reached reached-good t o
