-- How the situations are written: from Fresh, and what is compared after a list of calls.
use Rattle.std.specs.Prelude.{List, [], ◌∷◌, ◌++◌, map, ◌≡◌, get_or, ℕ, zero, suc, ◌*◌}
use Rattle.limits.specs.Limits.{file_bytes}
use Rattle.buffers.specs.Bits.{count_of}
use Rattle.buffers.specs.Marks.{contains}
use Rattle.state.specs.Outcomes.{Said, done_answer, pointer, given, granted, pairs, ordered, refused}
use Rattle.spec.specs.Items.{Item, byte, Values}
use Rattle.spec.specs.Messages.{Call, begin, commit, Reply, says}
use Rattle.spec.specs.Sightings.{Entry}
use Rattle.spec.specs.Plain.{Slot, closed, running, Plain, fresh_plain, plain_replies, plain_after}
use Rattle.spec.specs.Machine.{Machine, values}
use Rattle.spec.specs.Calls.{calls_replies, calls_after}

-- "Descriptor d belongs to file d mod 8, so 0 and 8 share file 0. Each situation starts at its own Fresh"
-- [R-20.1].
unfoldable pub numbers : List ℕ
numbers = 0 ∷ 1 ∷ 2 ∷ 3 ∷ 4 ∷ 5 ∷ 6 ∷ 7 ∷ 0 ∷ 1 ∷ 2 ∷ 3 ∷ 4 ∷ 5 ∷ 6 ∷ 7 ∷ []

unfoldable pub fresh_numbered : Plain
fresh_numbered = fresh_plain (λ d. get_or numbers d 0)

-- What is compared: the replies to a list of calls, and the committed values after it. On the reference
-- model, and on a store.
pub record Seen : Type 0 where
  pub replies : List Call → List Reply
  pub value : List Call → Values

unfoldable pub on_plain : Seen
on_plain = record {
  replies = λ cs. plain_replies cs fresh_numbered;
  value = λ cs. (plain_after cs fresh_numbered).committed.value;
}

unfoldable pub on_store : Machine → Seen
on_store m =
    record {
      replies = λ cs. calls_replies cs m;
      value = λ cs. values (calls_after cs m).store (calls_after cs m).files;
    }

-- A call and the reply that it is to give; a list of them is compared with the paper line by line.
pub record Exchange : Type 0 where
  pub call : Call
  pub reply : Reply

infix 90 ◌gets◌
abbrev pub ◌gets◌ : Call → Reply → Exchange
c gets r = record { call = c; reply = r }

unfoldable pub calls_of : List Exchange → List Call
calls_of = map (λ e. e.call)

-- The calls of the list give the replies of the list.
abbrev pub Goes : Seen → List Exchange → Type 0
Goes x es = x.replies (calls_of es) ≡ map (λ e. e.reply) es

-- F-4, "The old number is the count of ones in that octet" [R-9.9]: those of the granted Commits, in order.
unfoldable pub former_in : Said → List ℕ
former_in done_answer = []
former_in (pointer o) = []
former_in (given n) = []
former_in (granted o) = count_of (contains o) 8 ∷ []
former_in (pairs n) = []
former_in (ordered grants gap tried) = []
former_in (refused n) = []

unfoldable pub former_numbers : List Exchange → List ℕ
former_numbers [] = []
former_numbers (e ∷ es) = former_in e.reply.answer ++ former_numbers es

-- "T0 to T2 are begun." [R-20.1]
unfoldable pub three_begun : List Exchange
three_begun = begin 0 gets says done_answer ∷ begin 1 gets says done_answer ∷ begin 2 gets says done_answer ∷ []

-- Commit of t at minute 0: Fresh's windows are open at every minute, so where none is set it tells nothing.
abbrev pub commits : ℕ → Call
commits t = commit t 0

-- n committed bytes from a place of the files buffer on.
unfoldable pub committed_bytes : Values → ℕ → ℕ → List ℕ
committed_bytes v q zero = []
committed_bytes v q (suc n) = v (byte q) ∷ committed_bytes v (suc q) n

-- The first n bytes of file f.
unfoldable pub beginning : Values → ℕ → ℕ → List ℕ
beginning v f n = committed_bytes v (file_bytes * f) n

-- The sightings of transaction t; none where it is not open.
unfoldable pub seen_in : Slot → List Entry
seen_in closed = []
seen_in (running r) = r.seen

unfoldable pub sightings_of : List Call → ℕ → List Entry
sightings_of cs t = seen_in ((plain_after cs fresh_numbered).slots t)

-- An entry of a list of sightings.
abbrev pub sighted : Item → ℕ → Entry
sighted i n = record { item = i; setter = n }

-- The reply of a Read that gave n bytes, with the buffer after it.
abbrev pub gives : ℕ → List ℕ → Reply
gives n buffer = record { answer = given n; buffer = buffer }

-- The reply of a call that lists places, with its buffer.
abbrev pub lists : ℕ → List ℕ → Reply
lists n buffer = record { answer = pairs n; buffer = buffer }

-- The reply of a refused Read or list of places, with the buffer.
abbrev pub refuses_with : ℕ → List ℕ → Reply
refuses_with n buffer = record { answer = refused n; buffer = buffer }

-- The bytes that the situations write, and the one that fills a buffer before a call that writes there.
abbrev pub A : ℕ
A = 65

abbrev pub B : ℕ
B = 66

abbrev pub C : ℕ
C = 67

abbrev pub D : ℕ
D = 68

abbrev pub Q : ℕ
Q = 81

abbrev pub X : ℕ
X = 88

abbrev pub Y : ℕ
Y = 89

abbrev pub Z : ℕ
Z = 90

abbrev pub dot : ℕ
dot = 46
