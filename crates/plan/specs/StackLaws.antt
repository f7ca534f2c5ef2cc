-- Laws of planning a stack: where it begins, one layer more, and where it ends.
use Rattle.std.specs.Prelude.{◌≡◌, Bool, true, false, ◌&&◌, ◌||◌, cond, ltb, set, take, drop, replicate}
use Rattle.std.proofs.Math.Path.{refl, sym, ap}
use Rattle.std.proofs.Common.{subst, ◌∙◌, add-one, length-take, length-drop, get_or-take, get_or-drop, get_or-set_same, get_or-set_other}
use Rattle.std.proofs.Math.Bool.{not}
use mathlib.Core.List.{List}
use Prim.Native.Nat.{ℕ, suc, ◌+◌, ◌-◌, ◌*◌, ◌≤◌, ◌<◌}
use native.Mathlib.Nat.{mul_assoc, zero-mul, mul-le-mul}
use Rattle.std.proofs.Math.Decide.{dec_lt, ℕ_discrete}
use native.Mathlib.Omega.{arith}
use borrow.Rule.Slice.PartMut.{mid_of, put_mid}
use Rattle.std.proofs.Math.Dec.{eqb}
use Rattle.std.proofs.Math.ListN.{length, get_or, get_or-eq_default}
use Rattle.std.proofs.lemmas.List.{length-replicate}
use Rattle.std.proofs.Math.Seq.{ext_get_or}
use Rattle.rules.specs.Images.{padding_set, Stack, row_bytes, pixel, bytes_of, ring_at}
use Rattle.rules.specs.Planning.{shadow, ring_plane, rings, excused, planned, support_under, top_of, empty, planned_rings, planned_bytes}
use Rattle.rules.specs.Tools.{joined_up}
use Rattle.laws.specs.Growing.{length_grown}
use Rattle.laws.specs.Soundness.{get_d_joined, rings_length, not_excused, planned_step, planned_clear}
use Rattle.laws.specs.Tests.{length_each, clash}
use Rattle.image.specs.Packed.{plane_clean, plane_at, plane_long, plane_pixel, plane_bytes_lem, stack_plane}
use Rattle.image.specs.Planes.{row_fits, row_next}
use Rattle.image.specs.Rows.{Clean, Packs, packed, plane_bytes, plane, OnlyPlane}
use Rattle.image.specs.Stretches.{mid_put, put_plane, put_only}
use Rattle.planes.specs.PlaneLaws.{zero_bits, zero_ready}
use Rattle.pair.specs.Found.{Empty, Spare}
use Rattle.pair.specs.PairLaws.{rings_same, support_same, packs_same}
use Rattle.pair.specs.Pairs.{pair_rings, unexcused, pair_support}
use Rattle.plan.specs.Stacks.{Bare, From, planned_stack, Down}

-- Lists that agree from some place on -----------------------------------------------------------------------------------

pub from_end : (a : ℕ) (xs ys : List ℕ) → length xs ≤ a → length ys ≤ a → From a xs ys
from_end a xs ys lx ly x h = get_or-eq_default xs 0 (omega arith) ∙ sym (get_or-eq_default ys 0 (omega arith))

pub from_all : (xs ys : List ℕ) → length xs ≡ length ys → From 0 xs ys → xs ≡ ys
from_all xs ys e f = ext_get_or 0 xs ys e (λ i h. f i (omega arith))

-- a length that depends on whether rings are kept
kept : (keep : Bool) (a b : ℕ) {x : ℕ} → keep ≡ true → x ≡ cond keep a b → x ≡ a
kept keep a b k e = e ∙ ap (λ (y : Bool). cond y a b) k

shared : (keep : Bool) (a b : ℕ) {x : ℕ} → keep ≡ false → x ≡ cond keep a b → x ≡ b
shared keep a b k e = e ∙ ap (λ (y : Bool). cond y a b) k

-- one place more of a copy
pub put_more : (to from : List ℕ) (i : ℕ) → i < length to → ((k : ℕ) → k < i → get_or to k 0 ≡ get_or from k 0) → (k : ℕ) → k < i + 1 → get_or (set to i (get_or from i 0)) k 0 ≡ get_or from k 0
put_more to from i li f k lk = elim (ℕ_discrete k i) [
  | yes e ↦ subst (λ (x : ℕ). get_or (set to i (get_or from i 0)) x 0 ≡ get_or from x 0) (sym e) (get_or-set_same to i (get_or from i 0) 0 li)
  | no e ↦ get_or-set_other to i k (get_or from i 0) 0 e ∙ f k (omega arith)
]

-- one plane more
pub from_more : (size i : ℕ) (xs' xs ys : List ℕ) → OnlyPlane size i xs' xs → From ((i + 1) * size) xs ys → plane size i xs' ≡ plane size i ys → From (i * size) xs' ys
from_more size i xs' xs ys o f e x h = elim (dec_lt x (i * size + size)) [
  | yes l ↦
      let k : ℕ = x - i * size in
      let ek : i * size + k ≡ x = omega arith in
      let a : get_or xs' (i * size + k) 0 ≡ get_or ys (i * size + k) 0 =
      sym (plane_at size i xs' k (omega arith)) ∙ ap (λ (l : List ℕ). get_or l k 0) e ∙ plane_at size i ys k (omega arith) in
      rw ek at a
  | no l ↦
      let k : ℕ = x - (i + 1) * size in
      let ek : (i + 1) * size + k ≡ x = omega (arith, row_next i size) in
      let a : get_or xs' ((i + 1) * size + k) 0 ≡ get_or xs ((i + 1) * size + k) 0 =
      sym (get_or-drop ((i + 1) * size) xs' k 0) ∙ ap (λ (l : List ℕ). get_or l k 0) o.above ∙ get_or-drop ((i + 1) * size) xs k 0 in
      (rw ek at a) ∙ f x (omega (arith, row_next i size))
]

-- The planned stack, layer by layer -------------------------------------------------------------------------------------

module _ (w h n q : ℕ) (part : List ℕ) where
  P : Stack
  P = pixel w h part

  length_rings : length (planned_rings w h n (λ k. q) part) ≡ (n - 1) * (h * w)
  unfolding planned_rings
  length_rings = rings_length w h n (λ k. q) (pixel w h part)

  length_bytes : length (planned_bytes w h n (λ k. q) part) ≡ n * h * row_bytes w
  unfolding planned_bytes bytes_of
  length_bytes = length_each 0 (n * h * row_bytes w) _

  ring_plane_long : (i : ℕ) → length (ring_plane w h (λ k. q) (pixel w h part) i) ≡ h * w
  unfolding ring_plane
  ring_plane_long i = length_grown (h * w) _ _ _ (h * w)

  ring_plane_lem : (i : ℕ) → ring_plane w h (λ k. q) (pixel w h part) i ≡ pair_rings w h q (pixel w h part i) (pixel w h part (suc i))
  unfolding ring_plane pair_rings
  ring_plane_lem i = refl

  pub rings_plane : (i : ℕ) → suc i < n → plane (h * w) i (planned_rings w h n (λ k. q) part) ≡ pair_rings w h q (pixel w h part i) (pixel w h part (suc i))
  unfolding planned_rings rings
  rings_plane i l =
      let R : ℕ → List ℕ = ring_plane w h (λ k. q) (pixel w h part) in
      let long : length (plane (h * w) i (joined_up 0 (n - 1) R)) ≡ h * w = plane_long (h * w) i (n - 1) (joined_up 0 (n - 1) R) (rings_length w h n (λ k. q) (pixel w h part)) (omega arith) in
      ext_get_or 0 (plane (h * w) i (joined_up 0 (n - 1) R)) (R i) (long ∙ sym (ring_plane_long i)) (λ p lp.
      plane_at (h * w) i (joined_up 0 (n - 1) R) p (omega arith)
      ∙ get_d_joined 0 (n - 1) (h * w) R ring_plane_long i p 0 (omega arith) (omega arith)
      ∙ ap (λ (x : ℕ). get_or (R x) p 0) (native.Mathlib.Nat.zero-add i))
      ∙ ring_plane_lem i

  ring_at_lem : (i p : ℕ) → suc i < n → p < h * w → ring_at w h (planned_rings w h n (λ k. q) part) i p ≡ get_or (pair_rings w h q (pixel w h part i) (pixel w h part (suc i))) p 0
  unfolding ring_at
  ring_at_lem i p l lp = sym (plane_at (h * w) i (planned_rings w h n (λ k. q) part) p lp) ∙ ap (λ (r : List ℕ). get_or r p 0) (rings_plane i l)

  or_none : (a b c : Bool) → ((a || b || false) && c) ≡ ((a || b) && c)
  or_none true b c = refl
  or_none false true c = refl
  or_none false false c = refl

  pub support_step : (i p : ℕ) → suc i < n → p < h * w →
      planned_stack w h n q part i p ≡ pair_support w h q (pixel w h part i) (pixel w h part (suc i)) (planned_stack w h n q part (suc i)) p
  unfolding pair_support unexcused empty excused
  support_step i p l lp =
      let ring = ring_at w h (planned_rings w h n (λ k. q) part) in
      planned_step w h n (λ k. q) (pixel w h part) empty ring i p l
      ∙ or_none (shadow (pixel w h part i) (pixel w h part (suc i)) p && eqb (ring i p) 0) (planned_stack w h n q part (suc i) p) (not (pixel w h part i p))
      ∙ ap (λ (b : Bool). (shadow (pixel w h part i) (pixel w h part (suc i)) p && b || planned_stack w h n q part (suc i) p) && not (pixel w h part i p))
      (sym (not_excused w h n (λ k. q) (pixel w h part) ring i p) ∙ ap (λ (v : ℕ). not (ltb 0 v)) (ring_at_lem i p l lp))

  pub support_top : (p : ℕ) → 0 < n → planned_stack w h n q part (n - 1) p ≡ false
  unfolding planned support_under top_of empty
  support_top p l = let z : n - 1 - (n - 1) ≡ 0 = omega arith in rw z

-- Going down ------------------------------------------------------------------------------------------------------------

module _ (keep : Bool) (w h n q : ℕ) (lw : 0 < w) (part : List ℕ) (long : length part ≡ n * h * row_bytes w) where
  layer_pixel : (i p : ℕ) → p < h * w → packed w (plane (h * row_bytes w) i part) p ≡ pixel w h part i p
  layer_pixel i p lp = plane_pixel w h n part long lw i p lp

  layer_bytes : (i : ℕ) → i < n → plane (h * row_bytes w) i (planned_bytes w h n (λ k. q) part) ≡ plane_bytes w h (planned_stack w h n q part i)
  unfolding planned_bytes
  layer_bytes i li = stack_plane w h n (planned_stack w h n q part) i li

  -- a plane that packs what is planned for layer i is its bytes
  planned_plane : (i : ℕ) (s : List ℕ) → i < n → ((b : ℕ) → get_or s b 0 < 256) → Packs w h (planned_stack w h n q part i) s → s ≡ plane (h * row_bytes w) i (planned_bytes w h n (λ k. q) part)
  planned_plane i s li small P = plane_bytes_lem w h (planned_stack w h n q part i) s P.clean small P.pixels ∙ sym (layer_bytes i li)

  -- the top layer has no support
  pub down_start : (support support' rings above : List ℕ) → 0 < n → length support ≡ n * h * row_bytes w → length rings ≡ cond keep ((n - 1) * (h * w)) (h * w)
      → (keep ≡ false → Bare (h * w) rings)
      → OnlyPlane (h * row_bytes w) (n - 1) support' support → plane (h * row_bytes w) (n - 1) support' ≡ above
      → ((b : ℕ) → get_or above b 0 < 256) → Packs w h (λ p. false) above → Down keep w h n q (n - 1) part support' rings above
  down_start support support' rings above ln ls lr bare o e small a =
      let size : ℕ = h * row_bytes w in
      let A : Packs w h (planned_stack w h n q part (n - 1)) above = packs_same w h lw (λ p. false) (planned_stack w h n q part (n - 1)) above (λ p lp. sym (support_top w h n q part p ln)) a in
      record {
        support_done = from_more size (n - 1) support' support (planned_bytes w h n (λ k. q) part) o
            (from_end ((n - 1 + 1) * size) support (planned_bytes w h n (λ k. q) part) (omega (arith, top, mul_assoc n h (row_bytes w)))
            (omega (arith, top, length_bytes w h n q part, mul_assoc n h (row_bytes w))))
            (e ∙ planned_plane (n - 1) above (omega arith) small A);
        rings_done = λ k. from_end ((n - 1) * (h * w)) rings (planned_rings w h n (λ k. q) part) (omega (arith, kept keep ((n - 1) * (h * w)) (h * w) k lr))
            (omega (arith, length_rings w h n q part));
        bare = bare;
        above_is = A;
      }
    where
      top : (n - 1 + 1) * (h * row_bytes w) ≡ n * (h * row_bytes w)
      top = ap (λ (x : ℕ). x * (h * row_bytes w)) (omega arith)

  -- one layer more
  module _ (i : ℕ) (support support' rings rings' above above' : List ℕ) (li : suc i < n) (D : Down keep w h n q (i + 1) part support rings above) where
    layer_support : (p : ℕ) → p < h * w
        → pair_support w h q (packed w (plane (h * row_bytes w) i part)) (packed w (plane (h * row_bytes w) (suc i) part)) (packed w above) p ≡ planned_stack w h n q part i p
    layer_support p lp =
        support_same w h q (packed w (plane (h * row_bytes w) i part)) (pixel w h part i) (packed w (plane (h * row_bytes w) (suc i) part)) (pixel w h part (suc i)) (layer_pixel i)
        (layer_pixel (suc i)) (packed w above) (planned_stack w h n q part (suc i))
        (λ o lo. D.above_is.pixels o lo ∙ ap (λ (x : ℕ). planned_stack w h n q part x o) (add-one i)) p lp
        ∙ sym (support_step w h n q part i p li lp)

    pub down_more : OnlyPlane (h * row_bytes w) i support' support → plane (h * row_bytes w) i support' ≡ above'
        → (keep ≡ true → OnlyPlane (h * w) i rings' rings
        × (plane (h * w) i rings' ≡ pair_rings w h q (packed w (plane (h * row_bytes w) i part)) (packed w (plane (h * row_bytes w) (suc i) part))))
        → (keep ≡ false → Bare (h * w) rings')
        → ((b : ℕ) → get_or above' b 0 < 256)
        → Packs w h (pair_support w h q (packed w (plane (h * row_bytes w) i part)) (packed w (plane (h * row_bytes w) (suc i) part)) (packed w above)) above'
        → Down keep w h n q i part support' rings' above'
    down_more os es r bare small a =
        let A : Packs w h (planned_stack w h n q part i) above' = packs_same w h lw _ (planned_stack w h n q part i) above' layer_support a in
        record {
          support_done = from_more (h * row_bytes w) i support' support (planned_bytes w h n (λ k. q) part) os D.support_done (es ∙ planned_plane i above' (omega arith) small A);
          rings_done = λ k. from_more (h * w) i rings' rings (planned_rings w h n (λ k. q) part) (r k).0 (D.rings_done k)
              ((r k).1 ∙ rings_same w h q (packed w (plane (h * row_bytes w) i part)) (pixel w h part i) (packed w (plane (h * row_bytes w) (suc i) part)) (pixel w h part (suc i)) (layer_pixel i)
              (layer_pixel (suc i)) ∙ sym (rings_plane w h n q part i li));
          bare = bare;
          above_is = A;
        }

  -- the lowest layer is reached
  pub down_end : (support rings above : List ℕ) → length support ≡ n * h * row_bytes w → length rings ≡ cond keep ((n - 1) * (h * w)) (h * w)
      → Down keep w h n q 0 part support rings above
      → (support ≡ planned_bytes w h n (λ k. q) part) × ((keep ≡ true → rings ≡ planned_rings w h n (λ k. q) part) × (keep ≡ false → Bare (h * w) rings))
  down_end support rings above ls lr D = (
    from_all support (planned_bytes w h n (λ k. q) part) (ls ∙ sym (length_bytes w h n q part)) (λ x l. D.support_done x (omega (arith, zero-mul (h * row_bytes w)))),
    (
      λ k. from_all rings (planned_rings w h n (λ k. q) part) (kept keep ((n - 1) * (h * w)) (h * w) k lr ∙ sym (length_rings w h n q part))
          (λ x l. D.rings_done k x (omega (arith, zero-mul (h * w)))),
      D.bare,
    ),
  )

-- The stretches of a layer ------------------------------------------------------------------------------------------------

pub layer_room : (w h n size i len : ℕ) → size ≡ h * row_bytes w → len ≡ n * h * row_bytes w → i < n → i * size + size ≤ len
layer_room w h n size i len es el li = omega (arith, row_fits i n size li, mul_assoc n h (row_bytes w), ap (λ (x : ℕ). n * x) es)

pub up_room : (w h n size i len : ℕ) → size ≡ h * row_bytes w → len ≡ n * h * row_bytes w → suc i < n → i * size + size + size ≤ len
up_room w h n size i len es el li = omega (arith, row_next i size, layer_room w h n size (i + 1) len es el (omega arith))

pub area_max : (w h : ℕ) → w ≤ 256 → h ≤ 256 → h * w ≤ 65536
area_max w h a b = mul-le-mul b a

pub ring_room : (keep : Bool) (w h n step i len : ℕ) → step ≡ cond keep (h * w) 0 → len ≡ cond keep ((n - 1) * (h * w)) (h * w) → suc i < n → i * step + h * w ≤ len
ring_room true w h n step i len es el li = omega (arith, row_fits i (n - 1) (h * w) (omega arith), ap (λ (x : ℕ). i * x) es)
ring_room false w h n step i len es el li = omega (arith, ap (λ (x : ℕ). i * x) es, native.Mathlib.Nat.mul-zero i)

-- what is lent of the part: the stretches of layer i and of the layer above it, as the code cuts them
abbrev pub cut_low : ℕ → ℕ → List ℕ → List ℕ
cut_low size i part = take (i * size + size - i * size) (drop (i * size) part)

abbrev pub cut_up : ℕ → ℕ → List ℕ → List ℕ
cut_up size i part = take (i * size + size + size - (i * size + size)) (drop (i * size + size) part)

pub low_plane : (size i : ℕ) (part : List ℕ) → cut_low size i part ≡ plane size i part
low_plane size i part = let e : i * size + size - i * size ≡ size = omega arith in ap (λ (k : ℕ). take k (drop (i * size) part)) e

up_plane : (size i : ℕ) (part : List ℕ) → cut_up size i part ≡ plane size (suc i) part
up_plane size i part =
    let e : i * size + size + size - (i * size + size) ≡ size = omega arith in
    ap (λ (k : ℕ). take k (drop (i * size + size) part)) e
    ∙ ap (λ (a : ℕ). take size (drop a part)) (sym (row_next i size) ∙ ap (λ (x : ℕ). x * size) (add-one i))

module _ (w h n size i : ℕ) (part : List ℕ) (es : size ≡ h * row_bytes w) (long : length part ≡ n * h * row_bytes w) (pad : padding_set w (n * h) part ≡ false) (li : suc i < n) where
  pub lent_low : Clean w h (cut_low size i part)
  lent_low = subst (Clean w h) (sym (low_plane size i part ∙ ap (λ (x : ℕ). plane x i part) es)) (plane_clean w h n part long pad i (omega arith))

  pub lent_up : Clean w h (cut_up size i part)
  lent_up = subst (Clean w h) (sym (up_plane size i part ∙ ap (λ (x : ℕ). plane x (suc i) part) es)) (plane_clean w h n part long pad (suc i) li)

-- the support of the layer above has none of its pixels
pub above_apart : (keep : Bool) (w h n q size i : ℕ) → 0 < w → (part support rings above : List ℕ) → size ≡ h * row_bytes w → length part ≡ n * h * row_bytes w → suc i < n →
    Down keep w h n q (i + 1) part support rings above
    → (p : ℕ) → p < h * w → packed w above p ≡ true → packed w (cut_up size i part) p ≡ true → ⊥
above_apart keep w h n q size i lw part support rings above es long li D p lp a u =
    let e : cut_up size i part ≡ plane (h * row_bytes w) (suc i) part = up_plane size i part ∙ ap (λ (x : ℕ). plane x (suc i) part) es in
    let on : pixel w h part (suc i) p ≡ true = sym (plane_pixel w h n part long lw (suc i) p lp) ∙ ap (λ (s : List ℕ). packed w s p) (sym e) ∙ u in
    let sup : planned_stack w h n q part (suc i) p ≡ true = ap (λ (x : ℕ). planned_stack w h n q part x p) (sym (add-one i)) ∙ sym (D.above_is.pixels p lp) ∙ a in
    clash on (planned_clear w h n (λ k. q) (pixel w h part) empty (ring_at w h (planned_rings w h n (λ k. q) part)) (suc i) p li sup)

-- the rings of a pair as they are lent, and as they are given back
module _ (keep : Bool) (w h n step i : ℕ) (rings : List ℕ) (es : step ≡ cond keep (h * w) 0) (el : length rings ≡ cond keep ((n - 1) * (h * w)) (h * w)) (li : suc i < n) where
  room : i * step + h * w ≤ length rings
  room = ring_room keep w h n step i (length rings) es el li

  pub lent_rings : length (take (i * step + h * w - i * step) (drop (i * step) rings)) ≡ h * w
  lent_rings = simp (length-take, length-drop) (omega (arith, room))

  first : keep ≡ false → i * step ≡ 0
  first k = ap (λ (x : ℕ). i * x) (shared keep (h * w) 0 k es) ∙ native.Mathlib.Nat.mul-zero i

  at : keep ≡ false → (xs : List ℕ) (p : ℕ) → p < h * w → get_or (take (i * step + h * w - i * step) (drop (i * step) xs)) p 0 ≡ get_or xs p 0
  at k xs p lp =
      let e : i * step + p ≡ p = omega (arith, first k) in
      get_or-take (i * step + h * w - i * step) (drop (i * step) xs) p 0 (omega arith) ∙ get_or-drop (i * step) xs p 0 ∙ ap (λ (x : ℕ). get_or xs x 0) e

  pub lent_bare : (keep ≡ false → Bare (h * w) rings) → keep ≡ false → Bare (h * w) (take (i * step + h * w - i * step) (drop (i * step) rings))
  lent_bare bare k p lp = at k rings p lp ∙ bare k p lp

  abbrev Fits : ℕ → List ℕ → Type 0
  Fits x rs = length rs ≡ length (mid_of (i * x) (i * x + h * w - i * x) rings)

  abbrev back : ℕ → List ℕ → List ℕ
  back x rs = put_mid (i * x) (i * x + h * w - i * x) rings rs

  put_bare : (rs : List ℕ) → Fits step rs → (keep ≡ false → Bare (h * w) rs) → keep ≡ false → Bare (h * w) (back step rs)
  put_bare rs long bare k p lp =
      sym (at k (back step rs) p lp)
      ∙ ap (λ (l : List ℕ). get_or l p 0) (mid_put (i * step) (i * step + h * w - i * step) rings rs (omega (arith, room)) (long ∙ lent_rings ∙ omega arith))
      ∙ bare k p lp

  put_kept : keep ≡ true → (rs : List ℕ) → Fits step rs → OnlyPlane (h * w) i (back step rs) rings × (plane (h * w) i (back step rs) ≡ rs)
  put_kept k rs =
      let roomr : (i + 1) * (h * w) ≤ length rings = omega (arith, row_next i (h * w), row_fits i (n - 1) (h * w) (omega arith), kept keep ((n - 1) * (h * w)) (h * w) k el) in
      subst (λ (x : ℕ). Fits x rs → OnlyPlane (h * w) i (back x rs) rings × (plane (h * w) i (back x rs) ≡ rs)) (sym (kept keep (h * w) 0 k es))
      (λ long. (put_only (h * w) i rings rs roomr long, put_plane (h * w) i rings rs roomr long))

pub lent_support : (w h n size i : ℕ) (s : List ℕ) → size ≡ h * row_bytes w → length s ≡ n * h * row_bytes w → i < n → length (cut_low size i s) ≡ h * row_bytes w
lent_support w h n size i s es el li =
    ap length (low_plane size i s ∙ ap (λ (x : ℕ). plane x i s) es) ∙ plane_long (h * row_bytes w) i n s (el ∙ mul_assoc n h (row_bytes w)) li

-- layer i, worked on in its stretches: above' is its support, and rs are its rings
module _ (keep : Bool) (w h n q : ℕ) (lw : 0 < w) (part : List ℕ) (long : length part ≡ n * h * row_bytes w)
    (i : ℕ) (support rings above above' rs : List ℕ) (li : suc i < n)
    (ls : length support ≡ n * h * row_bytes w) (lr : length rings ≡ cond keep ((n - 1) * (h * w)) (h * w)) (D : Down keep w h n q (i + 1) part support rings above)
    (step : ℕ) (et : step ≡ cond keep (h * w) 0) where
  abbrev LayerDone : ℕ → Type 0
  LayerDone size =
      length above' ≡ length (mid_of (i * size) (i * size + size - i * size) support) → length rs ≡ length (mid_of (i * step) (i * step + h * w - i * step) rings)
      → (keep ≡ true → rs ≡ pair_rings w h q (packed w (cut_low size i part)) (packed w (cut_up size i part))) × (keep ≡ false → Bare (h * w) rs) → ((b : ℕ) → get_or above' b 0 < 256)
      → Packs w h (pair_support w h q (packed w (cut_low size i part)) (packed w (cut_up size i part)) (packed w above)) above'
      → Down keep w h n q i part (put_mid (i * size) (i * size + size - i * size) support above') (put_mid (i * step) (i * step + h * w - i * step) rings rs) above'

  layer_done_at : LayerDone (h * row_bytes w)
  layer_done_at ly lr' er small a =
      let size : ℕ = h * row_bytes w in
      let el = low_plane size i part in
      let eu = up_plane size i part in
      let room : (i + 1) * size ≤ length support = omega (arith, row_next i size, layer_room w h n size i (length support) refl ls (omega arith)) in
      let R = put_kept keep w h n step i rings et lr li in
      down_more keep w h n q lw part long i support (put_mid (i * size) (i * size + size - i * size) support above') rings
      (put_mid (i * step) (i * step + h * w - i * step) rings rs) above above' li D
      (put_only size i support above' room ly) (put_plane size i support above' room ly)
      (λ k. (
        (R k rs lr').0,
        (R k rs lr').1
            ∙ subst (λ (x : List ℕ). rs ≡ pair_rings w h q (packed w x) (packed w (plane size (suc i) part))) el
            (subst (λ (y : List ℕ). rs ≡ pair_rings w h q (packed w (cut_low size i part)) (packed w y)) eu (er.0 k)),
      ))
      (put_bare keep w h n step i rings et lr li rs lr' er.1)
      small
      (subst (λ (x : List ℕ). Packs w h (pair_support w h q (packed w x) (packed w (plane size (suc i) part)) (packed w above)) above') el
      (subst (λ (y : List ℕ). Packs w h (pair_support w h q (packed w (cut_low size i part)) (packed w y) (packed w above)) above') eu a))

  pub layer_done : (size : ℕ) → size ≡ h * row_bytes w → LayerDone size
  layer_done size es = subst LayerDone (sym es) layer_done_at

-- the top layer, worked on in its stretch
module _ (w h n : ℕ) (support ys : List ℕ) (ln : 0 < n) (ls : length support ≡ n * h * row_bytes w) where
  abbrev TopDone : ℕ → Type 0
  TopDone size =
      length ys ≡ length (mid_of ((n - 1) * size) ((n - 1) * size + size - (n - 1) * size) support)
      → (plane (h * row_bytes w) (n - 1) (put_mid ((n - 1) * size) ((n - 1) * size + size - (n - 1) * size) support ys) ≡ ys)
      × OnlyPlane (h * row_bytes w) (n - 1) (put_mid ((n - 1) * size) ((n - 1) * size + size - (n - 1) * size) support ys) support

  top_done_at : TopDone (h * row_bytes w)
  top_done_at ly =
      let size : ℕ = h * row_bytes w in
      let room : (n - 1 + 1) * size ≤ length support = omega (arith, row_next (n - 1) size, layer_room w h n size (n - 1) (length support) refl ls (omega arith)) in
      (put_plane size (n - 1) support ys room ly, put_only size (n - 1) support ys room ly)

  pub top_done : (size : ℕ) → size ≡ h * row_bytes w → TopDone size
  top_done size es = subst TopDone (sym es) top_done_at

-- scratch as it is made
pub fresh_spare : (w h : ℕ) → Spare w h (replicate 1610 0) (replicate 1610 0) (replicate 1610 0) (replicate 1610 0) (replicate 1610 0) (replicate 1610 0) (replicate 257 0)
fresh_spare w h = record {
  left_empty = none;
  got_empty = none;
  front_empty = none;
  next_empty = none;
  seed_ready = zero_ready w h;
  lower_ready = zero_ready w h;
  ahead_long = length-replicate {A = ℕ} 257 0;
}
  where
    none : Empty (replicate 1610 0)
    none = record { long = length-replicate {A = ℕ} 1610 0; none = zero_bits }
