-- Serializability (demand 3), beside its wording. The theorem is generic in the store's behaviour: the store
-- of crate spec comes later (Machine.antt and Calls.antt), and SerializabilityOfStore.antt makes the claim
-- about it. The store and the reference model (`plain_call`) run the same list of calls, refused ones
-- included.
use Rattle.std.specs.Prelude.{Bool, true, List, [], ◌∷◌, ◌++◌, map, ◌↔◌, ◌≡◌, get_or, ℕ, ◌≤◌}
use Rattle.limits.specs.Limits.{transaction_count, last_transaction}
use Rattle.buffers.specs.Bits.{bits_of}
use Rattle.state.specs.declared.outcomes.Refusal.TheVariants.{Stale, NoSuchMinute}
use Rattle.state.specs.Outcomes.{number, granted, refused}
use Rattle.windows.specs.Windows.{fresh_windows}
use Rattle.spec.specs.Messages.{Op, Call, on, commit, Reply, TurnOf, replies_to, after_all}
use Rattle.spec.specs.Items.{Values}
use Rattle.spec.specs.Transactions.{empty}
use Rattle.spec.specs.Steps.{is_read_call}
use Rattle.spec.specs.LoneRuns.{Lone, lone}
use Rattle.spec.specs.Plain.{running, is_running, Running, Plain, ops, fresh_plain, plain_call, plain_after}
use Rattle.spec.specs.Plain.{plain_replies}
use Rattle.spec.specs.Plain.{nothing, plain_with_windows, first_list, second_list, became_stale}
use Rattle.spec.specs.Grants.{serial_of, rerun, same_replies}

-- How a store behaves, S being what it holds: how it answers calls, whether a transaction is open, and the
-- committed bytes, offsets and lengths.
pub record Behaviour (S : Type 0) : Type 0 where
  pub call : Call → S → TurnOf S
  pub is_open : S → ℕ → Bool
  pub committed : S → Values

-- Its reply to the next call.
abbrev pub reply_of : {S : Type 0} → Behaviour S → Call → S → Reply
reply_of b c s = (b.call c s).reply

-- "A call is accepted when it returns no refusal" [R-1.10].
abbrev pub IsAccepted : Reply → Type 0
IsAccepted r = (n : ℕ) → r.answer ≡ refused n → ⊥

-- 02, F-7: "its transaction's accepted calls up to it .. run alone on the committed files and offsets of that
-- moment" [R-18.7]: those that the machine holds of transaction r, and then o.
unfoldable pub up_to : Plain → Running → Op → Lone
up_to p r o = lone p.file_of p.committed (ops r.calls ++ (o ∷ [])) empty

-- Call o of transaction t gave a reply when the reference model was p: the run in isolation up to it gets
-- through and gives, after the replies that the transaction had before, this one, answer and the reader's
-- whole buffer.
pub record OneMoment (p : Plain) (t : ℕ) (o : Op) (reply : Reply) : Type 0 where
  pub reader : Running
  pub is_open : p.slots t ≡ running reader
  pub through : (up_to p reader o).through ≡ true
  pub replies : (up_to p reader o).replies ≡ map (λ a. a.reply) reader.calls ++ (reply ∷ [])

-- What holds after a list of calls cs, of the store s and the reference model p that it leads to, from the
-- store s₀ and the machine p₀. As it is claimed for every list, it holds at every moment of each.
pub record Holds {S : Type 0} (b : Behaviour S) (s₀ : S) (p₀ : Plain) (cs : List Call) (s : S)
    (p : Plain) : Type 0 where
  -- "the store returns the plain machine's refusals" [R-18.3]: each call gives what the reference model
  -- gives, answer and buffer.
  pub replies : replies_to b.call cs s₀ ≡ plain_replies cs p₀
  -- A transaction is open in the store exactly when it is on the reference model.
  pub openness : (t : ℕ) → t ≤ last_transaction → b.is_open s t ≡ is_running (p.slots t)
  -- "a commit by an open transaction is not refused as stale EXACTLY when its two lists of sightings on 01's
  -- plain machine are equal" [R-18.4]. 02, F-11: "A Commit refused with 22 stands outside the comparison of
  -- the two lists." [R-18.4]
  pub staleness :
      (t minute : ℕ) (r : Running) → p.slots t ≡ running r
      → ((reply_of b (commit t minute) s).answer ≡ refused (number NoSuchMinute) → ⊥)
      → ((reply_of b (commit t minute) s).answer ≡ refused (number Stale) → ⊥) ↔ (first_list r ≡ second_list p r)
  -- F-4, "an octet with bit t (worth 2 to the power t) for each transaction that this commit made stale and
  -- that was not so before" [R-9.9]: the bits of 01's "the other open ones whose two lists were equal before
  -- that commit and aren't after it" [R-18.5], and no others.
  pub octet :
      (t minute n : ℕ) → (reply_of b (commit t minute) s).answer ≡ granted n
      → n ≡ bits_of (became_stale t p (plain_call (commit t minute) p).after) transaction_count
  -- "the granted transactions, run again alone in grant order from the same fresh state with all their
  -- accepted calls, meet no refusal, give the same answers and bytes" [R-18.6]: the list of calls that does
  -- so gives on the reference model the replies that they had. F-11: "the serial order runs with Fresh's
  -- windows" [R-18.6]. F-13: "serial order is then over the grants not taken back." [R-18.6]
  pub again : let g = serial_of cs p₀ in plain_replies (rerun g.grants) g.start ≡ same_replies g.grants
  -- "from the same fresh state" [R-18.6]: where the machine has nothing to undo at the start, as after Fresh,
  -- the serial order starts there, with Fresh's windows.
  pub start : p₀.earlier ≡ nothing → (serial_of cs p₀).start ≡ plain_with_windows fresh_windows p₀
  -- "and leave the same files and offsets" [R-18.6]; 02, F-8: "Lengths join .. what serial order compares"
  -- [R-18.6]: files, offsets and lengths.
  pub left : let g = serial_of cs p₀ in b.committed s
      ≡ (plain_after (rerun g.grants) g.start).committed.value
  -- F-7, "each accepted Read and GetFilePointer, in transactions that later abort as well, gives the answer
  -- and the bytes that its transaction's accepted calls up to it give, run alone on the committed files and
  -- offsets of that moment" [R-18.7]: of the next call.
  pub moment :
      (t : ℕ) (o : Op) → is_read_call o ≡ true → IsAccepted (reply_of b (on t o) s)
      → OneMoment p t o (reply_of b (on t o) s)
  -- "A store reached from Fresh by these calls never meets 2" [R-16.5]: nor 1, while the caller lends the
  -- same buffers.
  pub ranges : (c : Call) → ((reply_of b c s).answer ≡ refused 2 → ⊥) × ((reply_of b c s).answer ≡ refused 1 → ⊥)

-- Serializability: one claim about the whole list, from every store that an accepted Fresh with these file
-- numbers has made.
abbrev pub SerializabilityOf : (S : Type 0) → Behaviour S → (List ℕ → S → Type 0) → Type 0
SerializabilityOf S b FreshlyMade =
    (numbers : List ℕ) (s₀ : S) → FreshlyMade numbers s₀
    → let p₀ : Plain = fresh_plain (λ d. get_or numbers d 0) in
    (cs : List Call) → Holds b s₀ p₀ cs (after_all b.call cs s₀) (plain_after cs p₀)
