-- Paper 01, "Reading" [R-6.2], and where a Read stops (02, F-8).
use Rattle.std.specs.Prelude.{Bool, true, false, cond, ◌&&◌, List, [], ◌∷◌, leb, ltb, eqb, length, get_or, ℕ, zero, suc, ◌+◌, ◌-◌, ◌*◌, min, max}
use Rattle.limits.specs.Limits.{file_bytes}
use Rattle.standings.specs.declared.Place.{Place}
use Rattle.standings.specs.declared.Place.TheVariants.{At, After}
use Rattle.spec.specs.Items.{Prog, done, ask, measure, and_then, byte, file_length}
use Rattle.spec.specs.Transactions.{Write}

-- Where a byte comes from: an own write, or the file.
pub data Source : Type 0 where
  own : ℕ → Source
  file : Source

-- Whether a write with that place and length lies over place p of its file.
unfoldable pub lies_over : Place → ℕ → ℕ → Bool
lies_over (At a) n p = leb a p && ltb p (a + n)
lies_over (After a) n p = false

unfoldable pub byte_at : Place → List ℕ → ℕ → ℕ
byte_at (At a) bytes p = get_or bytes (p - a) 0
byte_at (After a) bytes p = 0

-- What one write supplies for place p of file f, given each descriptor's file.
unfoldable pub supplies : (ℕ → ℕ) → ℕ → ℕ → Write → Source
supplies file_of f p w =
    cond (eqb (file_of w.descriptor) f && lies_over w.place (length w.bytes) p)
    (own (byte_at w.place w.bytes p)) file

unfoldable pub or_else : Source → Source → Source
or_else (own b) s = own b
or_else file s = s

-- "Each byte is that of the transaction's own latest write over the place, in call order, otherwise the
-- committed byte" [R-6.3].
unfoldable pub latest : (ℕ → ℕ) → ℕ → ℕ → List Write → Source
latest file_of f p [] = file
latest file_of f p (w ∷ ws) = or_else (latest file_of f p ws) (supplies file_of f p w)

-- One byte: an own write shields, the file's byte is asked for.
unfoldable pub bring : Source → ℕ → Prog ℕ
bring (own b) q = done b
bring file q = ask (byte q) (λ v. done v)

-- n bytes of file f from place p on, "bytes by place" [R-7.3].
unfoldable pub fetch : (ℕ → ℕ) → List Write → ℕ → ℕ → ℕ → Prog (List ℕ)
fetch file_of ws f p zero = done []
fetch file_of ws f p (suc n) =
    and_then (bring (latest file_of f p ws) (file_bytes * f + p))
    (λ b. and_then (fetch file_of ws f (suc p) n) (λ bs. done (b ∷ bs)))

-- ---- where a Read stops

-- "the ends of its own placed writes of at least one byte" [R-6.1]: the end of a write of n bytes from place
-- p on; 0 for one of 0 bytes.
unfoldable pub write_end : ℕ → ℕ → ℕ
write_end p zero = 0
write_end p (suc n) = p + suc n

unfoldable pub placed_end : Place → ℕ → ℕ
placed_end (At p) n = write_end p n
placed_end (After a) n = 0

-- The largest of the ends of the writes on file f, each end given by a function; 0 where there is none.
unfoldable pub farthest : (ℕ → ℕ) → ℕ → (Write → ℕ) → List Write → ℕ
farthest file_of f end [] = 0
farthest file_of f end (w ∷ ws) = max (cond (eqb (file_of w.descriptor) f) (end w) 0)
    (farthest file_of f end ws)

unfoldable pub own_end : (ℕ → ℕ) → ℕ → List Write → ℕ
own_end file_of f ws = farthest file_of f (λ w. placed_end w.place (length w.bytes)) ws

-- "A transaction's length is the largest of the committed one and the ends of its own placed writes of at
-- least one byte." [R-6.1]
unfoldable pub length_for : (ℕ → ℕ) → ℕ → List Write → ℕ → ℕ
length_for file_of f ws committed = max committed (own_end file_of f ws)

-- 02, F-8: "A Read that gave fewer bytes than wanted sights the length, listed after its bytes" [R-7.3]
unfoldable pub length_sighted : Bool → ℕ → List ℕ → Prog (List ℕ)
length_sighted true f bytes = ask (file_length f) (λ committed. done bytes)
length_sighted false f bytes = done bytes

-- The bytes that a Read of n bytes of file f from place p on gives: the smaller of n and the transaction's
-- length less the place. "Read stops there and gives nothing from beyond it." [R-6.2] "Bytes between an old
-- end and a write come from the file" [R-1.1].
unfoldable pub gather : (ℕ → ℕ) → List Write → ℕ → ℕ → ℕ → Prog (List ℕ)
gather file_of ws f p n =
    measure f
    (λ committed.
    let m = min n (length_for file_of f ws committed - p) in
    and_then (fetch file_of ws f p m) (length_sighted (ltb m n) f))
