-- Rules 5: where the sections of a job file stand, what a file holds, and the file of a job.
use Rattle.std.specs.Prelude.{Bool, not, ◌||◌, cond, List, [], ◌∷◌, ◌++◌, ℕ, zero, suc, ◌+◌, ◌*◌, ◌/◌, ◌%◌, eqb, length, get_or, take, drop}
use Rattle.rules.specs.Images.{row_bytes, rows_of, stack_bytes, rings_in}
use Rattle.rules.specs.declared.Settings.{Settings}
use Rattle.rules.specs.declared.Layout.{Layout}

-- Rule 5.1: the numbers of 16 and 32 bits at an offset, the higher byte first, and their bytes
abbrev pub be16 : List ℕ → ℕ → ℕ
be16 f i = get_or f i 0 * 256 + get_or f (i + 1) 0

abbrev pub be32 : List ℕ → ℕ → ℕ
be32 f i = get_or f i 0 * 16777216 + get_or f (i + 1) 0 * 65536 + get_or f (i + 2) 0 * 256 + get_or f (i + 3) 0

abbrev pub put16 : ℕ → List ℕ
put16 n = n / 256 % 256 ∷ n % 256 ∷ []

abbrev pub put32 : ℕ → List ℕ
put32 n = n / 16777216 % 256 ∷ n / 65536 % 256 ∷ n / 256 % 256 ∷ n % 256 ∷ []

-- k numbers of 16 bits from an offset on, and the bytes of a list of them
abbrev pub get16s : List ℕ → ℕ → ℕ → List ℕ
get16s f at zero = []
get16s f at (suc k) = be16 f at ∷ get16s f (at + 2) k

abbrev pub put16s : List ℕ → List ℕ
put16s [] = []
put16s (x ∷ xs) = put16 x ++ put16s xs

-- Rule 5.2: four sections, each after its count ------------------------------------------------------------------------------
-- The count of a section stands where the section before it ends, and its contents 4 bytes further on.

-- section 1: count 5, then W, H, N, p and t
unfoldable pub head_end : ℕ
head_end = 14

-- section 2: a count of all rows, then the part
unfoldable pub part_end : Settings → ℕ
part_end s = head_end + 4 + stack_bytes s

-- section 3: a count of all rows or of none, then the support
unfoldable pub support_count : Settings → ℕ → Bool
support_count s c = eqb c 0 || eqb c (rows_of s)

unfoldable pub support_end : Settings → ℕ → ℕ
support_end s c = part_end s + 4 + c * row_bytes s.w

-- section 4: as many rings as there are, but none without support
unfoldable pub ring_count : Settings → ℕ → ℕ
ring_count s c = cond (eqb c 0) 0 (rings_in s)

-- nothing follows: the job's length, where section 3 has count c
unfoldable pub job_end : Settings → ℕ → ℕ
job_end s c = support_end s c + 4 + ring_count s c * 2

-- Rule 5.3: what a file holds -------------------------------------------------------------------------------------------------

unfoldable pub settings_in : List ℕ → Settings
settings_in f =
    record { w = be16 f 4; h = be16 f 6; n = be16 f 8; pitch = record { 0 = be16 f 10 }; overhang = record { 0 = be16 f 12 } }

-- the count of section 3
unfoldable pub stored_in : List ℕ → ℕ
stored_in f = be32 f (part_end (settings_in f))

unfoldable pub part_in : List ℕ → List ℕ
part_in f = take (stack_bytes (settings_in f)) (drop (head_end + 4) f)

unfoldable pub support_in : List ℕ → List ℕ
support_in f = take (stored_in f * row_bytes (settings_in f).w) (drop (part_end (settings_in f) + 4) f)

unfoldable pub rings_stored : List ℕ → List ℕ
rings_stored f = get16s f (support_end (settings_in f) (stored_in f) + 4) (ring_count (settings_in f) (stored_in f))

-- Rule 5.4: settings, whether support is stored, and for each section the offset of the first byte after its count
unfoldable pub layout_of : List ℕ → Layout
layout_of f =
    record {
      settings = settings_in f;
      stored = not (eqb (stored_in f) 0);
      head = 4;
      part = head_end + 4;
      support = part_end (settings_in f) + 4;
      rings = support_end (settings_in f) (stored_in f) + 4;
    }

-- Rule 5.5: the file of a job ------------------------------------------------------------------------------------------------

-- everything that a job holds; where no support is stored, it and the rings are empty lists
pub record Job : Type 0 where
  pub settings : Settings
  pub part : List ℕ
  pub support : List ℕ
  pub rings : List ℕ

abbrev pub job_in : List ℕ → Job
job_in f = record { settings = settings_in f; part = part_in f; support = support_in f; rings = rings_stored f }

-- the count of section 3 for support of k bytes
unfoldable pub stored_rows : Settings → ℕ → ℕ
stored_rows s k = cond (eqb k 0) 0 (rows_of s)

abbrev pub head_of : Settings → List ℕ
head_of s = put32 5 ++ put16 s.w ++ put16 s.h ++ put16 s.n ++ put16 s.pitch.0 ++ put16 s.overhang.0

unfoldable pub file_of : Job → List ℕ
file_of j =
    head_of j.settings
    ++ (put32 (rows_of j.settings) ++ j.part)
    ++ (put32 (stored_rows j.settings (length j.support)) ++ j.support)
    ++ (put32 (length j.rings) ++ put16s j.rings)

-- the length of that file
unfoldable pub file_length : Job → ℕ
file_length j = job_end j.settings (stored_rows j.settings (length j.support))

-- Rule 5.6: d with the bytes bs from an offset on, and all else as it was
unfoldable pub over : List ℕ → ℕ → List ℕ → List ℕ
over d at bs = take at d ++ bs ++ drop (at + length bs) d
