-- From what the three searches found to the answer.
use Rattle.std.specs.Prelude.{◌≡◌, refl, Bool, false, true, cond, List, length}
use Rattle.std.proofs.Common.{sym, ◌∙◌, mul-le-mul, div-le_self, div-add-mod'}
use Rattle.std.proofs.Math.Path.{ap}
use Prim.Native.Nat.{ℕ, suc, ◌+◌, ◌-◌, ◌*◌, ◌/◌, ◌%◌, ◌<◌, ◌≤◌}
use Rattle.std.proofs.Math.Nat.{mod-lt}
use Rattle.std.proofs.Math.Arith.{digits_lt, digits_div, digits_mod}
use native.Mathlib.Omega.{arith}
use Rattle.rules.specs.Tools.{nothing, found, refusal}
use Rattle.rules.specs.Images.{Stack, row_bytes, pixel, rows_of, stack_bytes, rings_in, ring_at, padding_set}
use Rattle.rules.specs.Reach.{bound_of}
use Rattle.rules.specs.Judging.{overlap, bad_ring, unheld, unheld_number, first_in, place_of, tell, verdict, verdict_of}
use Rattle.rules.specs.Calls.{both_cases, refused, judge_cases, judge_answer}
use Rattle.rules.specs.Outcomes.{Judges}
use Rattle.rules.specs.declared.Settings.{Settings}
use Rattle.rules.specs.declared.Place.{Place}
use Rattle.rules.specs.declared.Judged.{Judged}
use Rattle.rules.specs.declared.Refusal.{Refusal}
use Rattle.rules.specs.declared.Refusal.TheVariants.{AtPixel}
use Rattle.rules.specs.declared.Judged.TheVariants.{Accepted, Refused}
use Rattle.laws.specs.Refusals.{says_no, says_yes}
use Rattle.laws.specs.Limits.{Ranged, ranged}
use Rattle.laws.specs.StackTables.{Padded, both_exactly, both_seven, both_eight}
use Rattle.laws.specs.Places.{digits_in, flat_is}
use Rattle.places.specs.Search.{FirstOf, flat, bit_in, Sized}
use Rattle.places.specs.Finding.{least_found, least_nothing, least_none}
use Rattle.quick.specs.Sureness.{Whole, Fine}
use Rattle.chains.specs.Amiss.{amiss_in}

-- The verdict -------------------------------------------------------------------------------------------------------------

found_in : (w h n : ℕ) (f : Stack) (r : ℕ) → FirstOf 0 (n * (h * w)) (flat w h f) r → r < n * (h * w) → first_in w h n f ≡ found r
unfolding first_in flat
found_in w h n f r s l = least_found (n * (h * w)) (flat w h f) r s l

none_in : (w h n : ℕ) (f : Stack) (r : ℕ) → FirstOf 0 (n * (h * w)) (flat w h f) r → n * (h * w) ≤ r → first_in w h n f ≡ nothing
unfolding first_in flat
none_in w h n f r s l = least_nothing (n * (h * w)) (flat w h f) r s l

module _ (w h n : ℕ) (q : ℕ → ℕ) (part sup rings : List ℕ) (o : ℕ) (so : FirstOf 0 (n * (h * w)) (flat w h (overlap (pixel w h part) (pixel w h sup))) o) where
  pub told_9 : o < n * (h * w) → (r : Place) → r ≡ place_of w h 0 o → Refused (AtPixel 9 r) ≡ verdict_of w h n q part sup rings
  unfolding verdict_of verdict tell
  told_9 l r e = rw (found_in w h n (overlap (pixel w h part) (pixel w h sup)) o so l, e)

  module _ (no : n * (h * w) ≤ o) (b : ℕ) (sb : FirstOf 0 ((n - 1) * (h * w)) (flat w h (bad_ring w h q (pixel w h part) (ring_at w h rings))) b) where
    pub told_10 : b < (n - 1) * (h * w) → (r : Place) → r ≡ place_of w h 1 b → Refused (AtPixel 10 r) ≡ verdict_of w h n q part sup rings
    unfolding verdict_of verdict tell
    told_10 l r e =
        rw (none_in w h n (overlap (pixel w h part) (pixel w h sup)) o so no, found_in w h (n - 1) (bad_ring w h q (pixel w h part) (ring_at w h rings)) b sb l, e)

    module _ (nb : (n - 1) * (h * w) ≤ b) (u : ℕ) (su : FirstOf 0 ((n - 1) * (h * w)) (flat w h (unheld (pixel w h part) (pixel w h sup) (ring_at w h rings))) u) where
      pub told_unheld : u < (n - 1) * (h * w) → (k : ℕ) → k ≡ unheld_number (pixel w h part) (u / (h * w)) (u % (h * w)) → (r : Place) → r ≡ place_of w h 1 u →
          Refused (AtPixel k r) ≡ verdict_of w h n q part sup rings
      unfolding verdict_of verdict tell
      told_unheld l k ek r e =
          rw (
            none_in w h n (overlap (pixel w h part) (pixel w h sup)) o so no,
            none_in w h (n - 1) (bad_ring w h q (pixel w h part) (ring_at w h rings)) b sb nb,
            found_in w h (n - 1)
                (unheld (pixel w h part) (pixel w h sup) (ring_at w h rings)) u su l,
            ek,
            e,
          )

      pub told_accepted : (n - 1) * (h * w) ≤ u → Accepted ≡ verdict_of w h n q part sup rings
      unfolding verdict_of verdict tell
      told_accepted l =
          rw (
            none_in w h n (overlap (pixel w h part) (pixel w h sup)) o so no,
            none_in w h (n - 1) (bad_ring w h q (pixel w h part) (ring_at w h rings)) b sb nb,
            none_in w h (n - 1)
                (unheld (pixel w h part) (pixel w h sup) (ring_at w h rings)) u su l,
          )

-- The call ----------------------------------------------------------------------------------------------------------------

module _ (s : Settings) (part sup rings : List ℕ) (a : ℕ) (ea : a ≡ refusal (both_cases s true part sup (length rings))) where
  -- 7 and 8 are those of padding
  pub padding_told : (a ≡ 7 → Padded s part) × (a ≡ 8 → Padded s sup)
  padding_told = ((λ e. both_seven s true part sup (length rings) (sym ea ∙ e)), (λ e. both_eight s true part sup (length rings) (sym ea ∙ e)))

  pub judged_refused : (a ≡ 0 → ⊥) → (r : Refusal) → r ≡ refused s part sup a → Judges s part sup rings (Refused r)
  unfolding judge_answer judge_cases
  judged_refused ne r er = record { answer = ap Refused er ∙ says_no _ (λ k. Refused (refused s part sup k)) ea ne }

  pub judged_by : a ≡ 0 → (j : Judged) → j ≡ verdict_of s.w s.h s.n (bound_of s) part sup rings → Judges s part sup rings j
  unfolding judge_answer judge_cases
  judged_by z j e = record { answer = says_yes _ (λ k. Refused (refused s part sup k)) ea z e }

-- What the sizes of a job say -----------------------------------------------------------------------------------------------

pub plane_sized : (s : Settings) → Ranged s → Sized s.w s.h
plane_sized s r = record { w_low = r.w_low; w_high = r.w_high; h_low = r.h_low; h_high = r.h_high }

pub rings_is : (s : Settings) → (s.n - 1) * (s.h * s.w) ≡ rings_in s
unfolding rings_in
rings_is s = refl

pub area_pos : (h w : ℕ) → 1 ≤ h → 1 ≤ w → 0 < h * w
area_pos h w a b = omega (arith, mul-le-mul a b)

pub stack_length : (s : Settings) (len : ℕ) → len ≡ stack_bytes s → len ≡ s.n * s.h * row_bytes s.w
unfolding stack_bytes rows_of
stack_length s len e = e

-- the layer of a place
pub layer_most : (x a : ℕ) → x / a ≤ x
layer_most x a = div-le_self x a

pub pixels_most : (s : Settings) → Ranged s → s.n * (s.h * s.w) ≤ 33554432
pixels_most s r = mul-le-mul r.n_high (mul-le-mul r.h_high r.w_high)

-- what is known of an input that is not refused
pub verdict_ready : (s : Settings) (part sup rings : List ℕ) → refusal (both_cases s true part sup (length rings)) ≡ 0 →
    Ranged s × ((length part ≡ stack_bytes s) × ((length sup ≡ stack_bytes s) × ((padding_set s.w (rows_of s) part ≡ false) × (length rings ≡ rings_in s))))
verdict_ready s part sup rings e =
    let v = ((both_exactly s true part sup (length rings)).0 e).stack in
    let l = v.lengths in
    (ranged s v.settings, (l.part_long, (l.support_long, (v.part_clear, l.rings_counted))))

-- the stack, as the searches take it
pub whole_of : (s : Settings) (part sup rings : List ℕ) → Ranged s
    × ((length part ≡ stack_bytes s) × ((length sup ≡ stack_bytes s) × ((padding_set s.w (rows_of s) part ≡ false) × (length rings ≡ rings_in s))))
    → Whole s.w s.h s.n part sup rings
unfolding stack_bytes rows_of rings_in
whole_of s part sup rings (r, (p, (u, (e, l)))) =
    record { sized = plane_sized s r; n_low = r.n_low; n_high = r.n_high; part_long = p; sup_long = u; clear = e; rings_long = l }

-- what the searches look for is what the rules call bad, or unheld
module _ (s : Settings) (q : ℕ) (part sup rings : List ℕ) (e : bound_of s ≡ (λ (i : ℕ). q)) (r : ℕ) where
  pub first_bad : FirstOf 0 ((s.n - 1) * (s.h * s.w)) (flat s.w s.h (amiss_in true s.w s.h q part sup rings)) r
      → FirstOf 0 ((s.n - 1) * (s.h * s.w)) (flat s.w s.h (bad_ring s.w s.h (bound_of s) (pixel s.w s.h part) (ring_at s.w s.h rings))) r
  unfolding amiss_in
  first_bad l = rw e l

  pub first_unheld : FirstOf 0 ((s.n - 1) * (s.h * s.w)) (flat s.w s.h (amiss_in false s.w s.h q part sup rings)) r
      → FirstOf 0 ((s.n - 1) * (s.h * s.w)) (flat s.w s.h (unheld (pixel s.w s.h part) (pixel s.w s.h sup) (ring_at s.w s.h rings))) r
  unfolding amiss_in
  first_unheld l = l

-- where the quick test is sure there is nothing to tell
pub told_sure : (s : Settings) (q : ℕ) (part sup rings : List ℕ) (o : ℕ) → bound_of s ≡ (λ (i : ℕ). q)
    → FirstOf 0 (s.n * (s.h * s.w)) (flat s.w s.h (overlap (pixel s.w s.h part) (pixel s.w s.h sup))) o → s.n * (s.h * s.w) ≤ o
    → ((x : ℕ) → x < (s.n - 1) * (s.h * s.w) → Fine s.w s.h q part sup rings x) → Accepted ≡ verdict_of s.w s.h s.n (bound_of s) part sup rings
told_sure s q part sup rings o e so n fine =
    let m : ℕ = (s.n - 1) * (s.h * s.w) in
    told_accepted s.w s.h s.n (bound_of s) part sup rings o so n m
    (least_none 0 m _ (omega arith) (λ x a l. rw e (fine x l).0)) (omega arith) m
    (least_none 0 m _ (omega arith) (λ x a l. (fine x l).1)) (omega arith)

-- An unheld pixel, by its row in the stack --------------------------------------------------------------------------------------

module _ (w h n u : ℕ) (l : u < n * (h * w)) where
  -- the rows of a stack counted through, and the columns
  stack_row : (u / w ≡ u / (h * w) * h + u % (h * w) / w) × (u % w ≡ u % (h * w) % w) × (u / w < n * h)
  stack_row =
      let (li, lp) = digits_in u n (h * w) l in
      let i : ℕ = u / (h * w) in
      let p : ℕ = u % (h * w) in
      let (lr, lc) = digits_in p h w lp in
      let nu : (i * h + p / w) * w + p % w ≡ u =
      sym (flat_is w h i (p / w) (p % w)) ∙ ap (λ (z : ℕ). i * (h * w) + z) (div-add-mod' p w) ∙ div-add-mod' u (h * w) in
      let d : u / w ≡ i * h + p / w = ap (λ (z : ℕ). z / w) (sym nu) ∙ digits_div (i * h + p / w) lc in
      (d, ap (λ (z : ℕ). z % w) (sym nu) ∙ digits_mod (i * h + p / w) lc, rw d (digits_lt li lr))

  -- it is a pixel of the part in the layer above, one plane of rows further on
  pub pixel_above : (s : List ℕ) (at : ℕ) → at ≡ (u / w + h) * row_bytes w → bit_in s at (u % w) ≡ pixel w h s (suc (u / (h * w))) (u % (h * w))
  unfolding bit_in pixel
  pixel_above s at e =
      let (d, m, b) = stack_row in
      let r : u / w + h ≡ suc (u / (h * w)) * h + u % (h * w) / w = omega arith in
      rw (e, r, m)

  -- and stands in the bytes of one layer more
  pub byte_above : (len : ℕ) → 1 ≤ w → len ≡ (n + 1) * h * row_bytes w → (u / w + h) * row_bytes w + u % w / 8 < len
  unfolding row_bytes
  byte_above len lw e =
      let (d, m, b) = stack_row in
      let row : u / w + h < (n + 1) * h = omega arith in
      let c : u % w < w = mod-lt u lw in
      let byte : u % w / 8 < (w + 7) / 8 = omega arith in
      rw e (digits_lt row byte)

-- so it is read off the part, in the layer that is told
module _ (s : Settings) (part : List ℕ) (u : ℕ) (ready : Ranged s × ((length part ≡ stack_bytes s) × (u < (s.n - 1) * (s.h * s.w)))) where
  pub row_most : u / s.w + s.h ≤ 131072
  row_most =
      let (r, (e, l)) = ready in
      let n : s.n - 1 ≤ 511 = omega (arith, r.n_high) in
      omega (arith, (stack_row s.w s.h (s.n - 1) u l).2, mul-le-mul n r.h_high, r.h_high)

  pub byte_there : (rb : ℕ) → rb ≡ row_bytes s.w → (u / s.w + s.h) * rb + u % s.w / 8 < length part
  unfolding stack_bytes rows_of
  byte_there rb er =
      let (r, (e, l)) = ready in
      let n : s.n - 1 + 1 ≡ s.n = omega (arith, r.n_low) in
      rw er (byte_above s.w s.h (s.n - 1) u l (length part) r.w_low (e ∙ rw n))

  pub number_is : (rb : ℕ) (b : Bool) → rb ≡ row_bytes s.w → b ≡ bit_in part ((u / s.w + s.h) * rb) (u % s.w) →
      cond b 11 19 ≡ unheld_number (pixel s.w s.h part) (u / (s.h * s.w)) (u % (s.h * s.w))
  unfolding unheld_number
  number_is rb b er eb = rw (eb ∙ pixel_above s.w s.h (s.n - 1) u ready.1.1 part _ (rw er))
