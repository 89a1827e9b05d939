-- Paper 01, "Situations with their outcome" [R-20.1]: each situation's calls and the replies expected, in
-- order.
use Rattle.std.specs.Prelude.{List, [], ◌∷◌, ◌++◌, ◌≡◌, replicate, ℕ}
use Rattle.state.specs.Outcomes.{done_answer, pointer, granted, refused}
use Rattle.spec.specs.Items.{offset}
use Rattle.spec.specs.Messages.{seek, write, get_file_pointer, read, begin, on, Reply, says}
use Rattle.spec.specs.Setup.{Seen, Exchange, ◌gets◌, commits, calls_of, Goes, former_numbers, sighted}
use Rattle.spec.specs.Setup.{beginning, sightings_of, gives}
use Rattle.spec.specs.Setup.{three_begun, A, B, C, D, Q, X, Y, Z, dot}

-- 02, F-8: "Situations d, e and k get a first commit that fills the file with zeros" [R-20.1]: T7's, through
-- descriptor 0.
unfoldable pub filled : List Exchange
filled =
    begin 7 gets says done_answer
    ∷ on 7 (write 0 (replicate 4096 0)) gets says done_answer
    ∷ commits 7 gets says (granted 0)
    ∷ []

-- a "T0 writes AB, T1 writes CD, both on 0. Commit T1, T0: both answer 0. File 0 begins CDAB, offset 4."
-- [R-20.1]
unfoldable pub expected_a : List Exchange
expected_a =
    three_begun
    ++ on 0 (write 0 (A ∷ B ∷ [])) gets says done_answer
    ∷ on 1 (write 0 (C ∷ D ∷ [])) gets says done_answer
    ∷ commits 1 gets says (granted 0)
    ∷ commits 0 gets says (granted 0)
    ∷ []

-- b "T0 GetFilePointer on 0: 0. T1 writes A on 0, commits: 1. Commit T0: 13." [R-20.1]
unfoldable pub expected_b : List Exchange
expected_b =
    three_begun
    ++ on 0 (get_file_pointer 0) gets says (pointer 0)
    ∷ on 1 (write 0 (A ∷ [])) gets says done_answer
    ∷ commits 1 gets says (granted 1)
    ∷ commits 0 gets says (refused 13)
    ∷ []

-- c "T0 on 0: Seek 0, write AB, Seek 0, read 2: AB. T1 on 8: Seek 0, write XY, commit: 0. T0 commits; file
-- begins AB." [R-20.1]
unfoldable pub expected_c : List Exchange
expected_c =
    three_begun
    ++ on 0 (seek 0 0) gets says done_answer
    ∷ on 0 (write 0 (A ∷ B ∷ [])) gets says done_answer
    ∷ on 0 (seek 0 0) gets says done_answer
    ∷ on 0 (read 0 2 (dot ∷ dot ∷ dot ∷ [])) gets gives 2 (A ∷ B ∷ dot ∷ [])
    ∷ on 1 (seek 8 0) gets says done_answer
    ∷ on 1 (write 8 (X ∷ Y ∷ [])) gets says done_answer
    ∷ commits 1 gets says (granted 0)
    ∷ commits 0 gets says (granted 0)
    ∷ []

-- d "As c, but T0 reads 3 and T1 writes Z at 2: T1 answers 1, T0 13. With Z at 3: 0, and T0 passes." [R-20.1]
-- The place of Z is p.
unfoldable pub expected_d : ℕ → Reply → Reply → List Exchange
expected_d p of_t1 of_t0 =
    filled
    ++ three_begun
    ++ on 0 (seek 0 0) gets says done_answer
    ∷ on 0 (write 0 (A ∷ B ∷ [])) gets says done_answer
    ∷ on 0 (seek 0 0) gets says done_answer
    ∷ on 0 (read 0 3 (dot ∷ dot ∷ dot ∷ [])) gets gives 3 (A ∷ B ∷ 0 ∷ [])
    ∷ on 1 (seek 8 p) gets says done_answer
    ∷ on 1 (write 8 (Z ∷ [])) gets says done_answer
    ∷ commits 1 gets of_t1
    ∷ commits 0 gets of_t0
    ∷ []

-- e "T0 on 0: Seek 0, read 1. T1 writes byte 0 with value 0 on 8 after Seek 0: commit 1, T0 13." [R-20.1]
unfoldable pub expected_e : List Exchange
expected_e =
    filled
    ++ three_begun
    ++ on 0 (seek 0 0) gets says done_answer
    ∷ on 0 (read 0 1 (dot ∷ [])) gets gives 1 (0 ∷ [])
    ∷ on 1 (seek 8 0) gets says done_answer
    ∷ on 1 (write 8 (0 ∷ [])) gets says done_answer
    ∷ commits 1 gets says (granted 1)
    ∷ commits 0 gets says (refused 13)
    ∷ []

-- f "T0 on 0: write A, Seek 0, read 1: A. T1 on 0: Seek 5, commit: 1. T0 13." [R-20.1]
unfoldable pub expected_f : List Exchange
expected_f =
    three_begun
    ++ on 0 (write 0 (A ∷ [])) gets says done_answer
    ∷ on 0 (seek 0 0) gets says done_answer
    ∷ on 0 (read 0 1 (dot ∷ [])) gets gives 1 (A ∷ [])
    ∷ on 1 (seek 0 5) gets says done_answer
    ∷ commits 1 gets says (granted 1)
    ∷ commits 0 gets says (refused 13)
    ∷ []

-- g "T0 writes Q on 8; on 0 Seek 0, read 1: Q; one sighting, the offset of 8." [R-20.1]
unfoldable pub expected_g : List Exchange
expected_g =
    three_begun
    ++ on 0 (write 8 (Q ∷ [])) gets says done_answer
    ∷ on 0 (seek 0 0) gets says done_answer
    ∷ on 0 (read 0 1 (dot ∷ [])) gets gives 1 (Q ∷ [])
    ∷ []

-- h "T0 Seek 4,096 on 0, commit. T1 writes A on 0, commit: 12. T2 Seek 0, commit. T1 commits: A at 0, offset
-- 1." [R-20.1]
unfoldable pub expected_h : List Exchange
expected_h =
    three_begun
    ++ on 0 (seek 0 4096) gets says done_answer
    ∷ commits 0 gets says (granted 0)
    ∷ on 1 (write 0 (A ∷ [])) gets says done_answer
    ∷ commits 1 gets says (refused 12)
    ∷ on 2 (seek 0 0) gets says done_answer
    ∷ commits 2 gets says (granted 0)
    ∷ commits 1 gets says (granted 0)
    ∷ []

-- i "T0 on 0: write A, Seek 9, GetFilePointer 9. T1 on 0: Seek 4, commit: 0. T0 commits: A at 4, offset 9."
-- [R-20.1]
unfoldable pub expected_i : List Exchange
expected_i =
    three_begun
    ++ on 0 (write 0 (A ∷ [])) gets says done_answer
    ∷ on 0 (seek 0 9) gets says done_answer
    ∷ on 0 (get_file_pointer 0) gets says (pointer 9)
    ∷ on 1 (seek 0 4) gets says done_answer
    ∷ commits 1 gets says (granted 0)
    ∷ commits 0 gets says (granted 0)
    ∷ []

-- j "T0 and T1 each GetFilePointer on 0." [R-20.1]; 02, F-2: "In j both commits answer 0." [R-9.7]
unfoldable pub expected_j : List Exchange
expected_j =
    three_begun
    ++ on 0 (get_file_pointer 0) gets says (pointer 0)
    ∷ on 1 (get_file_pointer 0) gets says (pointer 0)
    ∷ commits 0 gets says (granted 0)
    ∷ commits 1 gets says (granted 0)
    ∷ []

-- k "Seek 4,096 passes, 4,097 is 8. At 4,096 a write of 1 is 9, of 0 passes. From 4,095 a read of 2 gives 1."
-- [R-20.1]
unfoldable pub expected_k : List Exchange
expected_k =
    filled
    ++ three_begun
    ++ on 0 (seek 0 4096) gets says done_answer
    ∷ on 0 (seek 0 4097) gets says (refused 8)
    ∷ on 0 (write 0 (A ∷ [])) gets says (refused 9)
    ∷ on 0 (write 0 []) gets says done_answer
    ∷ on 0 (seek 0 4095) gets says done_answer
    ∷ on 0 (read 0 2 (dot ∷ dot ∷ [])) gets gives 1 (0 ∷ dot ∷ [])
    ∷ []

-- l "64 writes of 0 bytes pass, the 65th is 10; one that also runs past the end is 9." [R-20.1]
unfoldable pub expected_l : List Exchange
expected_l =
    three_begun
    ++ replicate 64 (on 0 (write 0 []) gets says done_answer)
    ++ on 0 (write 0 []) gets says (refused 10)
    ∷ on 0 (seek 0 4096) gets says done_answer
    ∷ on 0 (write 0 (A ∷ [])) gets says (refused 9)
    ∷ []

-- What the starred situations come to, together; F-4: "the situations give the octet beside their number"
-- [R-20.1].
pub record Starred (x : Seen) : Type 0 where
  pub a :
      Goes x expected_a
      × (former_numbers expected_a ≡ 0 ∷ 0 ∷ [])
      × (beginning (x.value (calls_of expected_a)) 0 4 ≡ C ∷ D ∷ A ∷ B ∷ [])
      × (x.value (calls_of expected_a) (offset 0) ≡ 4)
  pub b : Goes x expected_b × (former_numbers expected_b ≡ 1 ∷ [])
  pub c : Goes x expected_c × (former_numbers expected_c ≡ 0 ∷ 0 ∷ [])
      × (beginning (x.value (calls_of expected_c)) 0 2 ≡ A ∷ B ∷ [])
  pub d :
      (let told = expected_d 2 (says (granted 1)) (says (refused 13)) in Goes x told
      × (former_numbers told ≡ 0 ∷ 1 ∷ []))
      × (let told = expected_d 3 (says (granted 0)) (says (granted 0)) in Goes x told
      × (former_numbers told ≡ 0 ∷ 0 ∷ 0 ∷ []))
  pub e : Goes x expected_e × (former_numbers expected_e ≡ 0 ∷ 1 ∷ [])
  pub f : Goes x expected_f × (former_numbers expected_f ≡ 1 ∷ [])
  pub g : Goes x expected_g × (sightings_of (calls_of expected_g) 0 ≡ sighted (offset 8) 0 ∷ [])
  pub h :
      Goes x expected_h
      × (former_numbers expected_h ≡ 0 ∷ 0 ∷ 0 ∷ [])
      × (beginning (x.value (calls_of expected_h)) 0 1 ≡ A ∷ [])
      × (x.value (calls_of expected_h) (offset 0) ≡ 1)
  pub i :
      Goes x expected_i
      × (former_numbers expected_i ≡ 0 ∷ 0 ∷ [])
      × (beginning (x.value (calls_of expected_i)) 0 5 ≡ 0 ∷ 0 ∷ 0 ∷ 0 ∷ A ∷ [])
      × (x.value (calls_of expected_i) (offset 0) ≡ 9)
  pub j : Goes x expected_j × (former_numbers expected_j ≡ 0 ∷ 0 ∷ [])
