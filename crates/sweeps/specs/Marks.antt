-- Marks as the code handles them: single bits, and the planes of a pair while its rings grow.
use Rattle.std.specs.Prelude.{◌≡◌, ℕ, ◌+◌, ◌*◌, ◌<◌, true, false, ◌⊎◌, List, length, ◌≢◌, nat_lt, slice_index}
use Rattle.rules.specs.Images.{Plane}
use Rattle.words.specs.Words.{word_bit}
use Rattle.planes.specs.Scratch.{spot, Sizes, Framed, seen}
use Rattle.sweeps.specs.Rings.{later, Sweeping, Frame}

-- single bits --------------------------------------------------------------------------------------------------------

-- bit t is off, and all others are as they were
pub record Cleared (t : ℕ) (out was : List ℕ) : Type 0 where
  pub off : word_bit out t ≡ false
  pub same : (j : ℕ) → (j ≢ t) → word_bit out j ≡ word_bit was j

-- bit t is on, and all others are as they were
pub record Lit (t : ℕ) (out was : List ℕ) : Type 0 where
  pub on : word_bit out t ≡ true
  pub same : (j : ℕ) → (j ≢ t) → word_bit out j ≡ word_bit was j

-- the planes of one pair while its rings grow --------------------------------------------------------------------------

-- rings of all pixels, and planes in scratch: marks, got (those with a ring), cand (those that may be told one)
pub record SweepPlanes (w h : ℕ) (ring marks got cand : List ℕ) : Type 0 where
  pub sizes : Sizes w h
  pub ring_long : length ring ≡ h * w
  pub marks_long : length marks ≡ 1610
  pub got_long : length got ≡ 1610
  pub cand_long : length cand ≡ 1610
  pub cand_framed : Framed w h cand
  pub marks_framed : Framed w h marks

-- bit k of word q of row r is marked
pub record MarkedPixel (w h : ℕ) (ring marks got cand : List ℕ) (r q k : ℕ) : Type 0 where
  pub planes : SweepPlanes w h ring marks got cand
  pub row_in : r < h
  pub word_in : q < 4
  pub bit_inside : k < 64
  pub on : word_bit marks (spot r (q * 64 + k)) ≡ true

-- rings grow over free pixels from seeds; got has those with a ring, and cand those that may be told one
pub record Grows (w h : ℕ) (free seed known : Plane) (ring marks got cand : List ℕ) : Type 0 where
  pub frame : Frame w h free seed
  pub sweeping : Sweeping w h free seed known ring (seen w marks)
  pub cands : (p : ℕ) → p < h * w → seen w cand p ≡ later free known p
  pub gots : (p : ℕ) → p < h * w → seen w got p ≡ nat_lt 0 (slice_index ring p)

-- every growing that went on goes on, and what is got besides was a candidate
pub record Onward (w h : ℕ) (ring' ring marks' marks got' got cand : List ℕ) : Type 0 where
  pub grows : (free seed known : Plane) → Grows w h free seed known ring marks got cand → Grows w h free seed known ring' marks' got' cand
  pub adds : (j : ℕ) → word_bit got' j ≡ true → (word_bit got j ≡ true) ⊎ (word_bit cand j ≡ true)
