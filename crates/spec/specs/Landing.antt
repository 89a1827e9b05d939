-- What a grant sets, put setting after setting into the files buffer, into the committed offsets and into the
-- committed lengths. Nobody has to believe it: the lists that come of it are `landed` of Commits.antt, place
-- for place (`files-land`, `offsets-land` and `lengths-land`, proofs/Refinement/Landing.antt).
use Rattle.std.specs.Prelude.{List, [], ◌∷◌, set, ℕ}
use Rattle.spec.specs.Items.{Item, byte, offset, file_length}
use Rattle.spec.specs.Commits.{Setting}

unfoldable pub land_byte : Item → ℕ → List ℕ → List ℕ
land_byte (byte q) n files = set files q n
land_byte (offset d) n files = files
land_byte (file_length f) n files = files

unfoldable pub land_files : List Setting → List ℕ → List ℕ
land_files [] files = files
land_files (s ∷ ss) files = land_files ss (land_byte s.item s.to files)

unfoldable pub land_offset : Item → ℕ → List ℕ → List ℕ
land_offset (byte q) n offsets = offsets
land_offset (offset d) n offsets = set offsets d n
land_offset (file_length f) n offsets = offsets

unfoldable pub land_offsets : List Setting → List ℕ → List ℕ
land_offsets [] offsets = offsets
land_offsets (s ∷ ss) offsets = land_offsets ss (land_offset s.item s.to offsets)

unfoldable pub land_length : Item → ℕ → List ℕ → List ℕ
land_length (byte q) n lengths = lengths
land_length (offset d) n lengths = lengths
land_length (file_length f) n lengths = set lengths f n

unfoldable pub land_lengths : List Setting → List ℕ → List ℕ
land_lengths [] lengths = lengths
land_lengths (s ∷ ss) lengths = land_lengths ss (land_length s.item s.to lengths)
