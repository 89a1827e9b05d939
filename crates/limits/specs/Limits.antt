-- The limits of the papers, each in one line: specs and contracts name them, and nothing else repeats the
-- numbers. src/lib.rt has the same for the code. Examples keep bare numbers: they are computed from the
-- definitions, and so hold these lines to the papers.
use Rattle.std.specs.Prelude.{◌≡◌, ℕ, ◌+◌, ◌*◌}

-- 01: "8 files (0 to 7)" [R-1.1]
abbrev pub file_count : ℕ
file_count = 8

abbrev pub last_file : ℕ
last_file = 7

-- 01: files of "exactly 4,096 bytes" [R-1.1]; also the greatest offset, "0 to 4,096" [R-1.2], and the
-- greatest length (02, F-8).
abbrev pub file_bytes : ℕ
file_bytes = 4096

-- 01: "one lent buffer of 32,768 bytes" [R-2.1], for files, for logs and for marks.
abbrev pub buffer_bytes : ℕ
buffer_bytes = 32768

-- 01: "16 descriptors (0 to 15)" [R-1.2]
abbrev pub descriptor_count : ℕ
descriptor_count = 16

abbrev pub last_descriptor : ℕ
last_descriptor = 15

-- 01: "8 transactions (0 to 7)" [R-1.3]
abbrev pub transaction_count : ℕ
transaction_count = 8

abbrev pub last_transaction : ℕ
last_transaction = 7

-- 01: a log has "at most 64 write records and 4,096 data bytes" [R-1.4].
abbrev pub record_count : ℕ
record_count = 64

abbrev pub log_bytes : ℕ
log_bytes = 4096

-- 02, F-9: the marks of a transaction are one of "eight stretches of 4,096 bytes" [R-2.3], a bit for each
-- file byte.
abbrev pub mark_octets : ℕ
mark_octets = 4096

-- 02, F-10: "up to 8 scripts of up to 16 calls" [R-13.1]
abbrev pub script_count : ℕ
script_count = 8

abbrev pub last_script : ℕ
last_script = 7

abbrev pub script_calls : ℕ
script_calls = 16

-- 02, F-11: "start and end minute, 0 to 1,439" [R-11.1]
abbrev pub last_minute : ℕ
last_minute = 1439

-- 02, F-13: "a fourth store buffer, of 4,096 bytes" [R-2.1]
abbrev pub undo_bytes : ℕ
undo_bytes = 4096

-- 02, F-14: "a budget of 1 to 40,320 orders" [R-14.1]
abbrev pub most_orders : ℕ
most_orders = 40320

-- How the limits hang together.
pub record Consistent : Type 0 where
  pub files : last_file + 1 ≡ file_count
  pub descriptors : last_descriptor + 1 ≡ descriptor_count
  pub transactions : last_transaction + 1 ≡ transaction_count
  pub last_one : last_script + 1 ≡ script_count
  pub file_buffer : file_count * file_bytes ≡ buffer_bytes
  pub log_buffer : transaction_count * log_bytes ≡ buffer_bytes
  pub mark_buffer : transaction_count * mark_octets ≡ buffer_bytes
  pub marks : 8 * mark_octets ≡ file_count * file_bytes
  pub undo : undo_bytes ≡ log_bytes
  pub scripts : script_count ≡ transaction_count
