-- Each letter with its count of numbers, and with another.
use Rattle.std.proofs.Common.{sym, ap, arith, rules}
use Rattle.requests.specs.Requests.{call_of}
use Rattle.text_log.specs.{LogLines.{entry_asked, next_number, last, last_or}, Reading.{log_entry_of, written_by}}
use Rattle.text_log.proofs.ReadingLaws.{none-of, one-of, two_of, three-of, four-of, other-entry, asked-other}
use Rattle.text_log.proofs.ReadingLaws.{not-begin, not-commit, not-abort, not-pointer, not-seek, not-read, not-places, not-window}
use Rattle.text_log.proofs.ReadingLaws.{not-undo, not-version}
use Rattle.text_log.proofs.parsing.by_letter.Goals as goal

pub returns-in-66-len1 : goal.returns-in-66-len1
unfolding log_entry_of written_by call_of entry_asked next_number last last_or
returns-in-66-len1 c bytes = record {
  means = rw c.in-66-len1.is-0 (sym (ap (entry_asked 66) (one-of c.args.numbers.now (omega arith))));
  bytes = omega arith;
}

pub returns-in-67-len1 : goal.returns-in-67-len1
unfolding log_entry_of written_by call_of entry_asked next_number last last_or
returns-in-67-len1 c bytes = record {
  means = rw c.in-67-len1.is-0 (sym (ap (entry_asked 67) (one-of c.args.numbers.now (omega arith))));
  bytes = omega arith;
}

pub returns-in-67-len2 : goal.returns-in-67-len2
unfolding log_entry_of written_by call_of entry_asked next_number last last_or
returns-in-67-len2 c bytes = record {
  means = rw c.in-67-len2.is-0 (sym (ap (entry_asked 67) (two_of c.args.numbers.now (omega arith))));
  bytes = omega arith;
}

pub returns-in-65-len1 : goal.returns-in-65-len1
unfolding log_entry_of written_by call_of entry_asked next_number last last_or
returns-in-65-len1 c bytes = record {
  means = rw c.in-65-len1.is-0 (sym (ap (entry_asked 65) (one-of c.args.numbers.now (omega arith))));
  bytes = omega arith;
}

pub returns-in-80-len2 : goal.returns-in-80-len2
unfolding log_entry_of written_by call_of entry_asked next_number last last_or
returns-in-80-len2 c bytes = record {
  means = rw c.in-80-len2.is-0 (sym (ap (entry_asked 80) (two_of c.args.numbers.now (omega arith))));
  bytes = omega arith;
}

pub returns-in-83-len3 : goal.returns-in-83-len3
unfolding log_entry_of written_by call_of entry_asked next_number last last_or
returns-in-83-len3 c bytes = record {
  means = rw c.in-83-len3.is-0 (sym (ap (entry_asked 83) (three-of c.args.numbers.now (omega arith))));
  bytes = omega arith;
}

pub returns-in-82-len3 : goal.returns-in-82-len3
unfolding log_entry_of written_by call_of entry_asked next_number last last_or
returns-in-82-len3 c bytes = record {
  means = rw c.in-82-len3.is-0 (sym (ap (entry_asked 82) (three-of c.args.numbers.now (omega arith))));
  bytes = omega arith;
}

pub returns-in-82-len4 : goal.returns-in-82-len4
unfolding log_entry_of written_by call_of entry_asked next_number last last_or
returns-in-82-len4 c bytes = record {
  means = rw c.in-82-len4.is-0 (sym (ap (entry_asked 82) (four-of c.args.numbers.now (omega arith))));
  bytes = omega arith;
}

pub returns-in-76-len3 : goal.returns-in-76-len3
unfolding log_entry_of written_by call_of entry_asked next_number last last_or
returns-in-76-len3 c bytes = record {
  means = rw c.in-76-len3.is-0 (sym (ap (entry_asked 76) (three-of c.args.numbers.now (omega arith))));
  bytes = omega arith;
}

pub returns-in-72-len3 : goal.returns-in-72-len3
unfolding log_entry_of written_by call_of entry_asked next_number last last_or
returns-in-72-len3 c bytes = record {
  means = rw c.in-72-len3.is-0 (sym (ap (entry_asked 72) (three-of c.args.numbers.now (omega arith))));
  bytes = omega arith;
}

pub returns-in-85-empty : goal.returns-in-85-empty
unfolding log_entry_of written_by call_of entry_asked next_number last last_or
returns-in-85-empty c bytes = record {
  means = rw c.in-85-empty.is-0 (sym (ap (entry_asked 85) (none-of c.args.numbers.now (omega arith))));
  bytes = omega arith;
}

pub returns-in-86-len1 : goal.returns-in-86-len1
unfolding log_entry_of written_by call_of entry_asked next_number last last_or
returns-in-86-len1 c bytes = record {
  means = rw c.in-86-len1.is-0 (sym (ap (entry_asked 86) (one-of c.args.numbers.now (omega arith))));
  bytes = omega arith;
}

pub returns-in_default : goal.returns-in_default
returns-in_default c bytes = rw c.in_default.is-0 (not-begin c.args.numbers.now bytes (λ e. omega arith))

pub returns-in_default-2 : goal.returns-in_default-2
returns-in_default-2 c bytes = rw c.in_default.is-0 (not-begin c.args.numbers.now bytes (λ e. omega arith))

pub returns-in_default-3 : goal.returns-in_default-3
returns-in_default-3 c bytes = rw c.in_default.is-0 (not-commit c.args.numbers.now bytes (λ e. omega arith) (λ e. omega arith))

pub returns-in_default-4 : goal.returns-in_default-4
returns-in_default-4 c bytes = rw c.in_default.is-0 (not-commit c.args.numbers.now bytes (λ e. omega arith) (λ e. omega arith))

pub returns-in_default-5 : goal.returns-in_default-5
returns-in_default-5 c bytes = rw c.in_default.is-0 (not-abort c.args.numbers.now bytes (λ e. omega arith))

pub returns-in_default-6 : goal.returns-in_default-6
returns-in_default-6 c bytes = rw c.in_default.is-0 (not-abort c.args.numbers.now bytes (λ e. omega arith))

pub returns-in_default-7 : goal.returns-in_default-7
returns-in_default-7 c bytes = rw c.in_default.is-0 (not-pointer c.args.numbers.now bytes (λ e. omega arith))

pub returns-in_default-8 : goal.returns-in_default-8
returns-in_default-8 c bytes = rw c.in_default.is-0 (not-pointer c.args.numbers.now bytes (λ e. omega arith))

pub returns-in_default-9 : goal.returns-in_default-9
returns-in_default-9 c bytes = rw c.in_default.is-0 (not-seek c.args.numbers.now bytes (λ e. omega arith))

pub returns-in_default-10 : goal.returns-in_default-10
returns-in_default-10 c bytes = rw c.in_default.is-0 (not-seek c.args.numbers.now bytes (λ e. omega arith))

pub returns-in_default-11 : goal.returns-in_default-11
returns-in_default-11 c bytes = rw c.in_default.is-0 (not-read c.args.numbers.now bytes (λ e. omega arith) (λ e. omega arith))

pub returns-in_default-12 : goal.returns-in_default-12
returns-in_default-12 c bytes = rw c.in_default.is-0 (not-read c.args.numbers.now bytes (λ e. omega arith) (λ e. omega arith))

pub returns-in_default-13 : goal.returns-in_default-13
returns-in_default-13 c bytes = rw c.in_default.is-0 (not-places c.args.numbers.now bytes (λ e. omega arith))

pub returns-in_default-14 : goal.returns-in_default-14
returns-in_default-14 c bytes = rw c.in_default.is-0 (not-places c.args.numbers.now bytes (λ e. omega arith))

pub returns-in_default-15 : goal.returns-in_default-15
returns-in_default-15 c bytes = rw c.in_default.is-0 (not-window c.args.numbers.now bytes (λ e. omega arith))

pub returns-in_default-16 : goal.returns-in_default-16
returns-in_default-16 c bytes = rw c.in_default.is-0 (not-window c.args.numbers.now bytes (λ e. omega arith))

pub returns-in_default-17 : goal.returns-in_default-17
returns-in_default-17 c bytes = rw c.in_default.is-0 (not-undo c.args.numbers.now bytes (λ e. omega arith))

pub returns-in_default-18 : goal.returns-in_default-18
returns-in_default-18 c bytes = rw c.in_default.is-0 (not-version c.args.numbers.now bytes (λ e. omega arith))

pub returns-in_default-19 : goal.returns-in_default-19
returns-in_default-19 c bytes = rw c.in_default.is-0 (not-version c.args.numbers.now bytes (λ e. omega arith))

pub returns-in_default-20 : goal.returns-in_default-20
returns-in_default-20 c bytes = other-entry bytes _ (asked-other c.args.letter c.args.numbers.now (search rules) (search rules) (search rules)
    (search rules) (search rules) (search rules) (search rules) (search rules) (search rules) (search rules)
    c.requires.0 c.requires.1)
