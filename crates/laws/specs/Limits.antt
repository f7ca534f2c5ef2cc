-- What the tests of sizes and settings say of the numbers: for each test the refusal that it gives, and for none of them the ranges.
use Rattle.std.specs.Prelude.{◌≡◌, true, not, ◌&&◌, ℕ, suc, ◌-◌, ◌*◌, ◌/◌, ◌≤◌, ◌<◌, leb, ltb}
use Rattle.std.proofs.Common.{subst, suc-mul, mul-suc, mul-le-mul, mul-pos, div-mul-le_self, le-div_iff_mul-le, div-lt_iff_lt-mul, arith, leb-true, ltb-false}
use Rattle.std.proofs.Math.Nat.{mul-mul-mul_comm}
use Rattle.std.proofs.lemmas.Bool.{not-false}
use Rattle.rules.specs.Tools.{refusal}
use Rattle.rules.specs.Images.{within, sized, row_bytes, rows_of, stack_bytes, rings_in}
use Rattle.rules.specs.Reach.{settable, reach_of, most_reach, square, bound_by, bound_of, most_bound}
use Rattle.rules.specs.Calls.{reach_cases, setting_cases}
use Rattle.rules.specs.declared.Micrometres.{Micrometres}
use Rattle.rules.specs.declared.Settings.{Settings}
use Rattle.laws.specs.Tests.{and_l, and_r}
use Rattle.laws.specs.Refusals.{case_out}

pub within_out : (low high x : ℕ) → within low high x ≡ true → (low ≤ x) × (x ≤ high)
unfolding within
within_out low high x e = (leb-true _ _ (and_l (leb low x) _ e), leb-true _ _ (and_r (leb low x) _ e))

-- a pitch, an overhang and a reach that are not refused
pub record Settable (p t : Micrometres) : Type 0 where
  pub pitch_low : 10 ≤ p.0
  pub pitch_high : p.0 ≤ 1000
  pub overhang_high : t.0 ≤ 10000
  pub reach_high : (reach_of p t).0 ≤ most_reach

pub settable_out : (p t : Micrometres) → refusal (reach_cases p t) ≡ 0 → Settable p t
unfolding reach_cases settable
settable_out p t e =
    let (a, e₁) = case_out (not (settable p t)) 1 _ e in
    let (b, e₂) = case_out (ltb most_reach (reach_of p t).0) 2 _ e₁ in
    let s : (within 10 1000 p.0 && leb t.0 10000) ≡ true = not-false _ a in
    let (x, y) = within_out 10 1000 p.0 (and_l _ (leb t.0 10000) s) in
    record {
      pitch_low = x;
      pitch_high = y;
      overhang_high = leb-true _ _ (and_r (within 10 1000 p.0) _ s);
      reach_high = ltb-false _ _ b;
    }

-- sizes and settings that are not refused
pub record Ranged (s : Settings) : Type 0 where
  pub w_low : 1 ≤ s.w
  pub w_high : s.w ≤ 256
  pub h_low : 1 ≤ s.h
  pub h_high : s.h ≤ 256
  pub n_low : 1 ≤ s.n
  pub n_high : s.n ≤ 512
  pub pitch_low : 10 ≤ s.pitch.0
  pub pitch_high : s.pitch.0 ≤ 1000
  pub overhang_high : s.overhang.0 ≤ 10000
  pub reach_high : (reach_of s.pitch s.overhang).0 ≤ most_reach

pub ranged : (s : Settings) → refusal (setting_cases s) ≡ 0 → Ranged s
unfolding setting_cases sized
ranged s e =
    let (a, e₁) = case_out (not (sized s)) 0 _ e in
    let z : (within 1 256 s.w && within 1 256 s.h && within 1 512 s.n) ≡ true = not-false _ a in
    let (x, x') = within_out 1 256 s.w (and_l _ (within 1 256 s.h) (and_l _ (within 1 512 s.n) z)) in
    let (y, y') = within_out 1 256 s.h (and_r (within 1 256 s.w) _ (and_l _ (within 1 512 s.n) z)) in
    let (u, u') = within_out 1 512 s.n (and_r (within 1 256 s.w && within 1 256 s.h) _ z) in
    let k = settable_out s.pitch s.overhang e₁ in
    record {
      w_low = x;
      w_high = x';
      h_low = y;
      h_high = y';
      n_low = u;
      n_high = u';
      pitch_low = k.pitch_low;
      pitch_high = k.pitch_high;
      overhang_high = k.overhang_high;
      reach_high = k.reach_high;
    }

-- how large planes, stacks and ring planes can be
pub area_most : (w h : ℕ) → w ≤ 256 → h ≤ 256 → h * w ≤ 65536
area_most w h a b = mul-le-mul b a

pub rows_most : (s : Settings) → Ranged s → rows_of s ≤ 131072
unfolding rows_of
rows_most s r = mul-le-mul r.n_high r.h_high

pub rows_least : (s : Settings) → Ranged s → 1 ≤ rows_of s
unfolding rows_of
rows_least s r = mul-le-mul r.n_low r.h_low

pub row_bytes_most : (w : ℕ) → w ≤ 256 → row_bytes w ≤ 32
unfolding row_bytes
row_bytes_most w h = omega arith

pub stack_most : (s : Settings) → Ranged s → stack_bytes s ≤ 4194304
unfolding stack_bytes
stack_most s r = mul-le-mul (rows_most s r) (row_bytes_most s.w r.w_high)

pub rings_most : (s : Settings) → Ranged s → rings_in s ≤ 33488896
unfolding rings_in
rings_most s r =
    let n = r.n_high in
    let k : s.n - 1 ≤ 511 = omega arith in
    mul-le-mul k (area_most s.w s.h r.w_high r.h_high)

-- the bound lies between the square of the reach and that of the next number
pub bound_low : (p t : Micrometres) → 0 < p.0 → square (reach_of p t).0 ≤ (bound_by p t).0
unfolding square reach_of bound_by
bound_low p t h =
    let r : ℕ = t.0 / p.0 in
    (le-div_iff_mul-le (mul-pos h h)).1
    (subst (λ (x : ℕ). x ≤ t.0 * t.0) (mul-mul-mul_comm r p.0 r p.0) (mul-le-mul (div-mul-le_self t.0 p.0) (div-mul-le_self t.0 p.0)))

squares_less : (a b : ℕ) → a < b → a * a < b * b
squares_less a b l =
    let m : suc a * suc a ≤ b * b = mul-le-mul l l in
    omega (arith, suc-mul a (suc a), mul-suc a a)

pub bound_high : (p t : Micrometres) → 0 < p.0 → (bound_by p t).0 < square (suc (reach_of p t).0)
unfolding square reach_of bound_by
bound_high p t h =
    let r : ℕ = suc (t.0 / p.0) in
    let l : t.0 < r * p.0 = (div-lt_iff_lt-mul h).0 (omega arith) in
    (div-lt_iff_lt-mul (mul-pos h h)).1
    (subst (λ (x : ℕ). t.0 * t.0 < x) (mul-mul-mul_comm r p.0 r p.0) (squares_less t.0 (r * p.0) l))

-- the bound of settings that are not refused
pub bound_by_most : (p t : Micrometres) → Settable p t → (bound_by p t).0 ≤ most_bound
unfolding square
bound_by_most p t k =
    let r : suc (reach_of p t).0 ≤ 33 = omega (arith, k.reach_high) in
    omega (arith, bound_high p t (omega (arith, k.pitch_low)), mul-le-mul r r)

pub settable_in : (s : Settings) → Ranged s → Settable s.pitch s.overhang
settable_in s r = record { pitch_low = r.pitch_low; pitch_high = r.pitch_high; overhang_high = r.overhang_high; reach_high = r.reach_high }

pub bound_most : (s : Settings) (i : ℕ) → Ranged s → bound_of s i ≤ most_bound
unfolding bound_of
bound_most s i r = bound_by_most s.pitch s.overhang (settable_in s r)
