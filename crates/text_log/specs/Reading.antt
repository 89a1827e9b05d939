-- What the reader's answers stand for.
use Rattle.std.specs.Prelude.{List, ◌≡◌, length, take, replicate, ℕ, ◌≤◌}
use Rattle.requests.specs.Requests.{call_of}
use Rattle.spec.specs.Messages.{best_order}
use Rattle.text_log.specs.LogLines.{LogEntry, another, comment, expects, version, fresh, calls}
use Rattle.text_log.specs.declared.parsing.ParsedEntry.{ParsedEntry}
use Rattle.text_log.specs.declared.parsing.ParsedEntry.TheVariants.{Another, Comment, Expects, Version}
use Rattle.text_log.specs.declared.parsing.ParsedEntry.TheVariants.{Fresh, Asks, Order}

-- What an answer says, with the bytes that were put into a buffer.
unfoldable pub log_entry_of : ParsedEntry → List ℕ → LogEntry
log_entry_of Another bytes = another
log_entry_of Comment bytes = comment
log_entry_of Expects bytes = expects
log_entry_of (Version v) bytes = version v
log_entry_of (Fresh n) bytes = fresh (take n bytes)
log_entry_of (Asks q n room) bytes = calls (call_of q (take n bytes) (replicate room 0))
log_entry_of (Order minute budget n) bytes = calls (best_order (take n bytes) minute budget)

-- How many bytes it has there.
unfoldable pub written_by : ParsedEntry → ℕ
written_by Another = 0
written_by Comment = 0
written_by Expects = 0
written_by (Version v) = 0
written_by (Fresh n) = n
written_by (Asks q n room) = n
written_by (Order minute budget n) = n

pub record Says (r : ParsedEntry) (written : List ℕ) (meant : LogEntry) : Type 0 where
  pub means : log_entry_of r written ≡ meant
  pub bytes : written_by r ≤ length written

-- .. whatever the buffer for bytes holds: a line of numbers.
abbrev pub SaysNumbers : ParsedEntry → LogEntry → Type 0
SaysNumbers r meant = (bytes : List ℕ) → Says r bytes meant
