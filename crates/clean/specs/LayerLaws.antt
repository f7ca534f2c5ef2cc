-- Laws of cleaning a stack: where it begins, one layer more, and where it ends; and that it is the cleaned support of the rules.
use Rattle.std.specs.Prelude.{◌≡◌, Bool, true, false, not, ◌&&◌, ◌||◌, List}
use Rattle.std.proofs.Math.Path.{refl, sym, ap}
use Rattle.std.proofs.Common.{subst, ◌∙◌, zero-mul}
use Prim.Native.Nat.{ℕ, zero, suc, ◌+◌, ◌-◌, ◌*◌, ◌/◌, ◌%◌, ◌<◌}
use Rattle.std.proofs.Math.Nat.{mul_assoc}
use Rattle.std.proofs.Math.Decide.{dec_lt}
use native.Mathlib.Omega.{arith}
use lib.ListN.{length, get_or}
use Rattle.rules.specs.Images.{Stack, Rings, row_bytes, bit_at, pixel, bytes_of}
use Rattle.rules.specs.Planning.{shadow, planned, empty, planned_rings, planned_bytes}
use Rattle.rules.specs.Cleaning.{disc_of, closed, cleaned_under, cleaned, cleaned_bytes}
use Rattle.rules.specs.Reach.{square}
use Rattle.rules.specs.declared.Pixels.{Pixels}
use Rattle.laws.specs.BytePixels.{bytes_same}
use Rattle.laws.specs.Cleaned.{excused_is}
use Rattle.laws.specs.Closing.{closed_same, closed_empty}
use Rattle.laws.specs.PixelBytes.{pixel_bytes}
use Rattle.laws.specs.Soundness.{rings_of}
use Rattle.laws.specs.Tests.{and_false, length_each}
use Rattle.image.specs.Filling.{Filling, filling_all}
use Rattle.image.specs.Packed.{plane_at, plane_long, plane_pixel, plane_bytes_lem, stack_plane}
use Rattle.image.specs.Planes.{row_fits}
use Rattle.image.specs.Rows.{packed, Packs, plane, OnlyPlane}
use Rattle.image.specs.Scratch.{bit_of}
use Rattle.pair.specs.PairLaws.{place_in, packs_same, zeros_pack}
use Rattle.plan.specs.StackLaws.{from_end, from_all, from_more, cut_low, low_plane}
use Rattle.clean.specs.Layers.{layer_of, clean_under, clean_by, joined_bit, Lent, Down}

-- a bit of a layer's stretch
plane_bit : (size i : ℕ) (l : List ℕ) (j : ℕ) → j < size * 8 → bit_of (plane size i l) j ≡ bit_of l (i * size * 8 + j)
unfolding bit_of
plane_bit size i l j lj =
    let a : (i * size * 8 + j) / 8 ≡ i * size + j / 8 = omega arith in
    let b : (i * size * 8 + j) % 8 ≡ j % 8 = omega arith in
    rw (a, b) (ap (λ (x : ℕ). bit_at x (j % 8)) (plane_at size i l (j / 8) (omega arith)))

module _ (w h n q : ℕ) (part support : List ℕ) where
  abbrev P : Stack
  P = pixel w h part

  abbrev S : Stack
  S = pixel w h support

  abbrev F : Stack
  F = clean_by w h n q P S

  top_none : (p : ℕ) → F (n - 1) p ≡ false
  unfolding clean_by clean_under
  top_none p = let z : n - 1 - (n - 1) ≡ 0 = omega arith in rw z

  clean_step : (i p : ℕ) → suc i < n → F i p ≡ layer_of (P i) (P (suc i)) (S i) (F (suc i)) (closed w h q (S i)) p
  unfolding clean_by clean_under layer_of
  clean_step i p l = let z : n - 1 - i ≡ suc (n - 1 - suc i) = omega arith in rw z

  length_clean : length (bytes_of w h n F) ≡ n * h * row_bytes w
  unfolding bytes_of
  length_clean = length_each 0 (n * h * row_bytes w) _

  -- a plane that packs layer i is its bytes
  layer_plane : (i : ℕ) (s : List ℕ) → i < n → ((b : ℕ) → get_or s b 0 < 256) → Packs w h (F i) s → s ≡ plane (h * row_bytes w) i (bytes_of w h n F)
  layer_plane i s li small K = plane_bytes_lem w h (F i) s K.clean small K.pixels ∙ sym (stack_plane w h n F i li)

  -- the top layer has none, and so no closing
  pub down_start : (lw : 0 < w) (clean clean' wide : List ℕ) → 0 < n → Lent w h n part support clean → ((p : ℕ) → p < h * w → S (n - 1) p ≡ false)
      → OnlyPlane (h * row_bytes w) (n - 1) clean' clean → plane (h * row_bytes w) (n - 1) clean' ≡ wide
      → ((b : ℕ) → get_or wide b 0 < 256) → Packs w h (λ p. false) wide → Down w h n q (n - 1) part support clean' wide
  down_start lw clean clean' wide ln L none o e small K =
      let size : ℕ = h * row_bytes w in
      let A : Packs w h (F (n - 1)) wide = packs_same w h lw (λ p. false) (F (n - 1)) wide (λ p lp. sym (top_none p)) K in
      let top : (n - 1 + 1) * size ≡ n * size = ap (λ (x : ℕ). x * size) (omega arith) in
      record {
        done = from_more size (n - 1) clean' clean (bytes_of w h n F) o
            (from_end ((n - 1 + 1) * size) clean (bytes_of w h n F) (omega (arith, top, L.clean_long, mul_assoc n h (row_bytes w))) (omega (arith, top, length_clean, mul_assoc n h (row_bytes w))))
            (e ∙ layer_plane (n - 1) wide (omega arith) small A);
        here = subst (Packs w h (F (n - 1))) (sym e) A;
        wide_is = packs_same w h lw (λ p. false) (closed w h q (S (n - 1))) wide (λ p lp. sym (closed_empty w h q (S (n - 1)) none p lp)) K;
      }

  -- one layer more
  module _ (lw : 0 < w) (i : ℕ) (clean clean' wide wide' : List ℕ) (li : suc i < n) (L : Lent w h n part support clean) (D : Down w h n q (suc i) part support clean wide)
      (W : Packs w h (closed w h q (S i)) wide') (small : (b : ℕ) → get_or clean' b 0 < 256)
      (J : Filling (i * (h * row_bytes w)) (i * (h * row_bytes w) + h * row_bytes w) (joined_bit (i * (h * row_bytes w)) (h * row_bytes w) part support wide' clean) clean' clean) where
    abbrev size : ℕ
    size = h * row_bytes w

    joined : (j : ℕ) → j < size * 8
        → bit_of (plane size i clean') j
        ≡ ((bit_of (plane size (suc i) clean) j || bit_of wide' j) && not (bit_of (plane size i part) j) && (not (bit_of (plane size (suc i) part) j) || bit_of (plane size i support) j))
    unfolding joined_bit
    joined j lj =
        let up : size * 8 + (i * size * 8 + j) ≡ suc i * size * 8 + j = omega arith in
        let own : i * size * 8 + j - i * size * 8 ≡ j = omega arith in
        plane_bit size i clean' j lj
        ∙ (filling_all _ _ _ _ _ J).inner (i * size * 8 + j) (omega arith) (omega arith)
        ∙ rw (up, own, plane_bit size (suc i) clean j lj, plane_bit size i part j lj, plane_bit size (suc i) part j lj, plane_bit size i support j lj)

    layer_packs : Packs w h (F i) (plane size i clean')
    unfolding packed layer_of
    layer_packs = record {
      clean = record {
        long = plane_long size i n clean' (J.long ∙ L.clean_long ∙ mul_assoc n h (row_bytes w)) (omega arith);
        clear = λ r c lr wc lc.
            joined (r * row_bytes w * 8 + c) (omega (arith, row_fits r h (row_bytes w) lr))
            ∙ rw (D.here.clean.clear r c lr wc lc, W.clean.clear r c lr wc lc);
      };
      pixels = λ p lp.
          joined (p / w * row_bytes w * 8 + p % w) (place_in w h lw p lp)
          ∙ rw (D.here.pixels p lp, W.pixels p lp, plane_pixel w h n part L.part_long lw i p lp, plane_pixel w h n part L.part_long lw (suc i) p lp, plane_pixel w h n support L.support_long lw i p lp)
          (sym (clean_step i p li));
    }

    down_more : Down w h n q i part support clean' wide'
    down_more = record {
      done = λ x lx. elim (dec_lt x (i * size + size)) [
        | yes l ↦
            let k : ℕ = x - i * size in
            let ek : i * size + k ≡ x = omega arith in
            let e : plane size i clean' ≡ plane size i (bytes_of w h n F) = layer_plane i (plane size i clean') (omega arith) plane_small layer_packs in
            subst (λ (y : ℕ). get_or clean' y 0 ≡ get_or (bytes_of w h n F) y 0) ek
            (sym (plane_at size i clean' k (omega arith)) ∙ ap (λ (l : List ℕ). get_or l k 0) e ∙ plane_at size i (bytes_of w h n F) k (omega arith))
        | no l ↦ J.left x (omega arith) ∙ D.done x (omega arith)
      ];
      here = layer_packs;
      wide_is = W;
    }
      where
        plane_small : (b : ℕ) → get_or (plane size i clean') b 0 < 256
        plane_small b = elim (dec_lt b size) [
          | yes l ↦ rw (plane_at size i clean' b l) (small (i * size + b))
          | no l ↦ rw (lib.ListN.get_or-eq_default (plane size i clean') 0 {n = b} (omega (arith, layer_packs.clean.long))) (omega arith)
        ]

  -- the same, with the bytes of a layer as the code counts them
  pub layer_done : (lw : 0 < w) (i size : ℕ) → size ≡ h * row_bytes w → (clean clean' wide wide' : List ℕ) → suc i < n → Lent w h n part support clean → Down w h n q (suc i) part support clean wide
      → Packs w h (closed w h q (S i)) wide' → ((b : ℕ) → get_or clean' b 0 < 256) → Filling (i * size) (i * size + size) (joined_bit (i * size) size part support wide' clean) clean' clean
      → Down w h n q i part support clean' wide'
  layer_done lw i size es clean clean' wide wide' li L D W small J =
      down_more lw i clean clean' wide wide' li L D W small
      (subst (λ (k : ℕ). Filling (i * k) (i * k + k) (joined_bit (i * k) k part support wide' clean) clean' clean) es J)

  -- the closing of the layer above is that of layer i where their supports are the same
  pub same_closing : (lw : 0 < w) (i size : ℕ) → size ≡ h * row_bytes w → (wide : List ℕ) → length support ≡ n * h * row_bytes w →
      ((j : ℕ) → j < size * 8 → bit_of support (i * size * 8 + j) ≡ bit_of support ((i * size + size) * 8 + j)) →
      Packs w h (closed w h q (S (suc i))) wide → Packs w h (closed w h q (S i)) wide
  unfolding packed
  same_closing lw i size es wide long same = packs_same w h lw (closed w h q (S (suc i))) (closed w h q (S i)) wide (closed_same w h q (S (suc i)) (S i) (λ p lp.
      let j : ℕ = p / w * row_bytes w * 8 + p % w in
      let lj : j < size * 8 = rw es (place_in w h lw p lp) in
      let up : suc i * size * 8 + j ≡ (i * size + size) * 8 + j = omega arith in
      sym (layer_pixel (suc i) p lp) ∙ ap (λ (k : ℕ). bit_of (plane k (suc i) support) j) (sym es) ∙ plane_bit size (suc i) support j lj ∙ ap (bit_of support) up ∙ sym (same j lj)
      ∙ sym (plane_bit size i support j lj) ∙ ap (λ (k : ℕ). bit_of (plane k i support) j) es ∙ layer_pixel i p lp))
    where
      layer_pixel : (i p : ℕ) → p < h * w → bit_of (plane (h * row_bytes w) i support) (p / w * row_bytes w * 8 + p % w) ≡ S i p
      layer_pixel i p lp = plane_pixel w h n support long lw i p lp

  -- where the support is empty so is its closing
  pub no_closing : (lw : 0 < w) (i size : ℕ) → size ≡ h * row_bytes w → (wide : List ℕ) → length support ≡ n * h * row_bytes w → length wide ≡ h * row_bytes w →
      ((j : ℕ) → j < size * 8 → bit_of support (i * size * 8 + j) ≡ false) → ((k : ℕ) → get_or wide k 0 ≡ 0) → Packs w h (closed w h q (S i)) wide
  unfolding packed
  no_closing lw i size es wide long lo none zeros =
      packs_same w h lw (λ p. false) (closed w h q (S i)) wide (λ p lp. sym (closed_empty w h q (S i) (λ o lo.
      let j : ℕ = o / w * row_bytes w * 8 + o % w in
      let lj : j < size * 8 = rw es (place_in w h lw o lo) in
      sym (plane_pixel w h n support long lw i o lo) ∙ ap (λ (k : ℕ). bit_of (plane k i support) j) (sym es) ∙ plane_bit size i support j lj ∙ none j lj) p lp))
      (zeros_pack w h lw wide lo zeros)

  -- the closing of what is cut from the support is that of layer i
  pub cut_closing : (lw : 0 < w) (i size : ℕ) → size ≡ h * row_bytes w → (wide : List ℕ) → length support ≡ n * h * row_bytes w →
      Packs w h (closed w h q (packed w (cut_low size i support))) wide → Packs w h (closed w h q (S i)) wide
  cut_closing lw i size es wide long =
      packs_same w h lw (closed w h q (packed w (cut_low size i support))) (closed w h q (S i)) wide (closed_same w h q (packed w (cut_low size i support)) (S i) (λ p lp.
      ap (λ (l : List ℕ). packed w l p) (low_plane size i support ∙ ap (λ (k : ℕ). plane k i support) es) ∙ plane_pixel w h n support long lw i p lp))

  -- the lowest layer is reached
  pub down_end : (clean wide : List ℕ) → length clean ≡ n * h * row_bytes w → Down w h n q 0 part support clean wide → clean ≡ bytes_of w h n F
  down_end clean wide long D = from_all clean (bytes_of w h n F) (long ∙ sym length_clean) (λ x l. D.done x (omega (arith, zero-mul (h * row_bytes w))))

-- With the planned support it is the cleaned support of the rules ------------------------------------------------------------

-- what is excused is the shadow that has no support
layer_bools : (x l u s : Bool) → (x && not l && (not u || s)) ≡ (x && not ((u && not l) && not s) && not l)
layer_bools false l u s = refl
layer_bools true true u s = sym (and_false (not ((u && false) && not s)))
layer_bools true false true true = refl
layer_bools true false true false = refl
layer_bools true false false s = refl

module _ (w h n d : ℕ) (q : ℕ → ℕ) (part sup : Stack) (same : (i p : ℕ) → i < n → p < h * w → sup i p ≡ planned n part empty (rings_of w h n q part) i p) where
  abbrev ring : Rings
  ring = rings_of w h n q part

  abbrev planned_sup : Stack
  planned_sup = planned n part empty ring

  under_rules : (k i p : ℕ) → k + suc i ≡ n → p < h * w → clean_under w h d part sup k i p ≡ cleaned_under w h d part ring planned_sup k i p
  unfolding clean_under cleaned_under layer_of shadow
  under_rules zero i p e lp = refl
  under_rules (suc k) i p e lp =
      let c : closed w h d (sup i) p ≡ closed w h d (planned_sup i) p = closed_same w h d (sup i) (planned_sup i) (λ o lo. same i o (omega arith) lo) p lp in
      rw (under_rules k (suc i) p (omega arith) lp, c, same i p (omega arith) lp, excused_is w h n q part i p (omega arith) lp)
      (layer_bools (cleaned_under w h d part ring planned_sup k (suc i) p || closed w h d (planned_sup i) p) (part i p) (part (suc i) p) (planned_sup i p))

  pub by_rules : (i p : ℕ) → i < n → p < h * w → clean_by w h n d part sup i p ≡ cleaned w h n d part ring planned_sup i p
  unfolding clean_by cleaned
  by_rules i p l lp = under_rules (n - 1 - i) i p (omega arith) lp

pub cleaned_bytes_lem : (w h n : ℕ) (q : ℕ → ℕ) (c : Pixels) (part support : List ℕ) → 0 < h → support ≡ planned_bytes w h n q part →
    bytes_of w h n (clean_by w h n (c.0 * c.0) (pixel w h part) (pixel w h support)) ≡ cleaned_bytes w h n q c part
unfolding cleaned_bytes planned_rings planned_bytes disc_of square
cleaned_bytes_lem w h n q c part support lh e =
    let P : Stack = pixel w h part in
    let T : Stack = planned n P empty (rings_of w h n q P) in
    bytes_same w h n _ _ lh (by_rules w h n (c.0 * c.0) q P (pixel w h support) (λ i p li lp. ap (λ (l : List ℕ). pixel w h l i p) e ∙ pixel_bytes w h n T i p li lp))
