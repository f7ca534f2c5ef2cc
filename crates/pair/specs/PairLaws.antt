-- Laws of one pair of layers.
use Rattle.std.specs.Prelude.{◌≡◌, refl, List, Bool, ◌||◌, ℕ, ◌+◌, ◌-◌, ◌*◌, ◌/◌, ◌%◌, ◌≤◌, ◌<◌, eqb, length, get_or, take, replicate}
use Rattle.std.proofs.Common.{sym, ◌∙◌, inl, div-lt_iff_lt-mul, mul-le-mul, arith, eqb-true, length-take, get_or-take, length-take-le}
use Rattle.std.proofs.Math.Path.{ap, ap₂}
use Rattle.std.proofs.Math.Bool.{false, not, ◌&&◌}
use Rattle.std.proofs.Math.Nat.{mod-lt}
use Rattle.std.proofs.Math.Decide.{dec_lt}
use Rattle.std.proofs.lemmas.Bool.{not-false}
use Rattle.std.specs.Int.Bits.{bit_and, bit_or}
use Rattle.std.proofs.lemmas.List.{length-replicate, get_or-replicate}
use Rattle.std.proofs.Math.ListN.{get_or-eq_default}
use Rattle.rules.specs.Images.{Plane, bit_at, row_bytes}
use Rattle.rules.specs.Planning.{touch, shadow, seeds, near, reached}
use Rattle.laws.specs.Growing.{grown_same, grown_none}
use Rattle.laws.specs.Closing.{near_same}
use Rattle.image.specs.Bits.{bit_and_lem, bit_or_lem, bit_not, zero_bit, byte_but_not}
use Rattle.image.specs.Filling.{bit_here}
use Rattle.image.specs.Loops.{Bits, but_not}
use Rattle.image.specs.Planes.{row_fits}
use Rattle.image.specs.Rows.{packed, Clean, Packs}
use Rattle.image.specs.Scratch.{bit_of}
use Rattle.pair.specs.Found.{Sized}
use Rattle.pair.specs.Pairs.{pair_rings, unexcused, pair_support}

-- A pair looks only at the pixels that exist -------------------------------------------------------------------------

module _ (w h q : ℕ) (low low' up up' : Plane) (el : (p : ℕ) → p < h * w → low p ≡ low' p) (eu : (p : ℕ) → p < h * w → up p ≡ up' p) where
  shadow_same : (p : ℕ) → p < h * w → shadow low up p ≡ shadow low' up' p
  unfolding shadow
  shadow_same p lp = rw (el p lp, eu p lp)

  pub rings_same : pair_rings w h q low up ≡ pair_rings w h q low' up'
  unfolding pair_rings reached seeds
  rings_same = grown_same (h * w) (touch w) (reached w h q low up) (reached w h q low' up') (seeds low up) (seeds low' up')
      (λ p lp. ap₂ ◌&&◌ (shadow_same p lp) (near_same w h q low low' el p)) (λ p lp. ap₂ ◌&&◌ (el p lp) (eu p lp))

  pub support_same : (above above' : Plane) → ((p : ℕ) → p < h * w → above p ≡ above' p) → (p : ℕ) → p < h * w → pair_support w h q low up above p ≡ pair_support w h q low' up' above' p
  unfolding pair_support unexcused
  support_same above above' ea p lp = rw (shadow_same p lp, rings_same, el p lp, ea p lp)

-- Packed planes by their bytes -------------------------------------------------------------------------------------------

-- in the first n bytes no pixel of the upper layer hangs
abbrev pub NoneHangs : ℕ → List ℕ → List ℕ → Type 0
NoneHangs n low up = (k : ℕ) → k < n → (m : ℕ) → m < 8 → but_not (bit_at (get_or up k 0) m) (bit_at (get_or low k 0) m) ≡ false

pub none_more : (low up : List ℕ) (i : ℕ) → get_or low i 0 < 256 → bit_and (get_or up i 0) (255 - get_or low i 0) ≡ 0 → NoneHangs i low up → NoneHangs (i + 1) low up
none_more low up i small e f k lk m lm = elim (dec_lt k i) [
  | yes x ↦ f k x m lm
  | no x ↦
      let k' : k ≡ i = omega arith in
      rw k' (sym (byte_but_not (get_or up i 0) (get_or low i 0) small m lm) ∙ ap (λ (v : ℕ). bit_at v m) e ∙ zero_bit m)
]

pub none_hangs : (low up : List ℕ) (n t : ℕ) → (t ≡ 0 → NoneHangs n low up) → not (eqb t 0) ≡ false → (j : ℕ) → j < n * 8 → but_not (bit_of up j) (bit_of low j) ≡ false
unfolding bit_of
none_hangs low up n t all e j lj = all (eqb-true t 0 (not-false (eqb t 0) e)) (j / 8) (omega arith) (j % 8) (omega arith)

-- one byte of the support
pub support_byte : (rest low above : List ℕ) (i : ℕ) → get_or low i 0 < 256 → (m : ℕ) → m < 8
    → bit_at (bit_and (bit_or (get_or rest i 0) (get_or above i 0)) (255 - get_or low i 0)) m ≡ (bit_of rest (i * 8 + m) || bit_of above (i * 8 + m)) && not (bit_of low (i * 8 + m))
support_byte rest low above i y m l =
    bit_and_lem (bit_or (get_or rest i 0) (get_or above i 0)) (255 - get_or low i 0) m
    ∙ ap₂ ◌&&◌
    (bit_or_lem (get_or rest i 0) (get_or above i 0) m ∙ ap₂ ◌||◌ (sym (bit_here rest i m l)) (sym (bit_here above i m l)))
    (bit_not (get_or low i 0) m y l ∙ ap not (sym (bit_here low i m l)))

-- the bytes of a packed plane, as the code counts them
pub plane_size : (w h rb : ℕ) → Sized w h rb → (h * rb ≡ h * row_bytes w) × (h * rb ≤ 8192)
unfolding row_bytes
plane_size w h rb z =
    let b : rb ≤ 32 = omega (arith, z.bytes, z.sizes.w_max) in
    let l : h * rb ≤ 256 * 32 = mul-le-mul z.sizes.h_max b in
    (ap (λ (x : ℕ). h * x) z.bytes, omega arith)

-- the first places of an array of zeros
zeros_at : (size b : ℕ) → get_or (take size (replicate {A = ℕ} 8192 0)) b 0 ≡ 0
zeros_at size b = elim (dec_lt b size) [
  | yes x ↦ get_or-take size (replicate 8192 0) b 0 x ∙ zero b
  | no x ↦ get_or-eq_default (take size (replicate 8192 0)) 0 {n = b} (omega (arith, length-take size (replicate {A = ℕ} 8192 0)))
]
  where
    zero : (i : ℕ) → get_or (replicate {A = ℕ} 8192 0) i 0 ≡ 0
    zero i = elim (dec_lt i 8192) [
      | yes l ↦ get_or-replicate 8192 i 0 0 l
      | no l ↦ get_or-eq_default (replicate 8192 0) 0 {n = i} (omega (arith, length-replicate {A = ℕ} 8192 0))
    ]

pub zeros_small : (size b : ℕ) → get_or (take size (replicate {A = ℕ} 8192 0)) b 0 < 256
zeros_small size b = omega (arith, zeros_at size b)

module _ (w h : ℕ) (lw : 0 < w) where
  -- the bit of a pixel
  pub place_in : (p : ℕ) → p < h * w → p / w * row_bytes w * 8 + p % w < h * row_bytes w * 8
  unfolding row_bytes
  place_in p lp =
      let lr : p / w < h = (div-lt_iff_lt-mul lw).1 lp in
      let lc : p % w < w = mod-lt p lw in
      omega (arith, row_fits (p / w) h ((w + 7) / 8) lr)

  pub support_packs : (f : Plane) (rest low above out : List ℕ) (n : ℕ) → Packs w h f rest → Clean w h above → length out ≡ h * row_bytes w → n ≡ h * row_bytes w
      → Bits n (λ j. (bit_of rest j || bit_of above j) && not (bit_of low j)) out → Packs w h (λ p. (f p || packed w above p) && not (packed w low p)) out
  unfolding packed
  support_packs f rest low above out n R C e en b = record {
    clean = record {
      long = e;
      clear = λ r c lr wc lc.
          b (r * row_bytes w * 8 + c) (omega (arith, en, row_fits r h (row_bytes w) lr))
          ∙ ap₂ (λ (a b : Bool). (a || b) && not (bit_of low (r * row_bytes w * 8 + c))) (R.clean.clear r c lr wc lc) (C.clear r c lr wc lc);
    };
    pixels = λ p lp.
        b (p / w * row_bytes w * 8 + p % w) (omega (arith, en, place_in p lp))
        ∙ ap (λ (a : Bool). (a || bit_of above (p / w * row_bytes w * 8 + p % w)) && not (bit_of low (p / w * row_bytes w * 8 + p % w))) (R.pixels p lp);
  }

  -- bytes that are all 0 are a plane with no pixel
  pub zeros_pack : (s : List ℕ) → length s ≡ h * row_bytes w → ((b : ℕ) → get_or s b 0 ≡ 0) → Packs w h (λ p. false) s
  unfolding packed bit_of
  zeros_pack s long z = record {
    clean = record { long = long; clear = λ r c lr wc lc. off (r * row_bytes w * 8 + c) };
    pixels = λ p lp. off (p / w * row_bytes w * 8 + p % w);
  }
    where
      off : (j : ℕ) → bit_at (get_or s (j / 8) 0) (j % 8) ≡ false
      off j = ap (λ (x : ℕ). bit_at x (j % 8)) (z (j / 8)) ∙ zero_bit (j % 8)

  -- the first bytes of an array of zeros
  pub fresh_pack : (size : ℕ) → size ≡ h * row_bytes w → size ≤ 8192 → Packs w h (λ p. false) (take size (replicate 8192 0))
  fresh_pack size e l = zeros_pack (take size (replicate 8192 0)) (length-take-le size (replicate 8192 0) (omega (arith, length-replicate {A = ℕ} 8192 0)) ∙ e) (zeros_at size)

  pub packs_same : (f g : Plane) (s : List ℕ) → ((p : ℕ) → p < h * w → f p ≡ g p) → Packs w h f s → Packs w h g s
  packs_same f g s e P = record { clean = P.clean; pixels = λ p lp. P.pixels p lp ∙ e p lp }

-- A pair without shadow -------------------------------------------------------------------------------------------------

module _ (w h q : ℕ) (lw : 0 < w) (low up : List ℕ) (cl : Clean w h low) (none : (j : ℕ) → j < length low * 8 → but_not (bit_of up j) (bit_of low j) ≡ false) where
  pub no_shadow : (p : ℕ) → p < h * w → shadow (packed w low) (packed w up) p ≡ false
  unfolding shadow packed
  no_shadow p lp = none (p / w * row_bytes w * 8 + p % w) (omega (arith, cl.long, place_in w h lw p lp))

  pub bare_rings : (l : List ℕ) → length l ≡ h * w → ((p : ℕ) → p < h * w → get_or l p 0 ≡ 0) → l ≡ pair_rings w h q (packed w low) (packed w up)
  unfolding pair_rings reached
  bare_rings l long zeros = grown_none (h * w) (touch w) (reached w h q (packed w low) (packed w up)) (seeds (packed w low) (packed w up)) l long zeros
      (inl (λ p lp. ap (λ (b : Bool). b && near w h q (packed w low) p) (no_shadow p lp)))

-- a clean plane packs its own pixels
pub own_packs : (w h : ℕ) (s : List ℕ) → Clean w h s → Packs w h (packed w s) s
own_packs w h s C = record { clean = C; pixels = λ p lp. refl }
