-- The whole text of a planned job: its first line and a line for each layer, from the top down, as the loop writes them.
use Rattle.std.specs.Prelude.{◌≡◌, refl, List, ◌++◌, ℕ, zero, suc, ◌+◌, ◌-◌, ◌*◌, ◌≤◌, ◌<◌, length}
use Rattle.std.proofs.Common.{sym, ap, ◌∙◌, append_assoc, append-nil, add-one, lt-ltb, le-ltb}
use Rattle.std.proofs.Math.Path.{subst}
use Rattle.std.proofs.Math.Nat.{mul-le-mul}
use native.Mathlib.Omega.{arith}
use Rattle.rules.specs.Tools.{count, joined_up, refusal}
use Rattle.rules.specs.Images.{Rings, pixel, row_bytes, rows_of, stack_bytes, rings_in, ring_at}
use Rattle.rules.specs.Reach.{reach_of, bound_of}
use Rattle.rules.specs.Planning.{excused, planned_rings, planned_bytes}
use Rattle.rules.specs.Jobs.{over}
use Rattle.rules.specs.Calls.{setting_cases}
use Rattle.rules.specs.Report.{job_line, filled, excused_above, layer_line, plan_lines}
use Rattle.rules.specs.declared.Settings.{Settings}
use Rattle.laws.specs.Limits.{Ranged, ranged}
use Rattle.lines.specs.Lines.{line_of, line_length, spaced_length, job_long, Wrote, ◌then◌, wrote_long}
use Rattle.laws.specs.Runs.{over_none}
use Rattle.lines.specs.Counts.{Layer}

-- the text for a part, a support and rings
unfoldable pub layer_of : Settings → List ℕ → List ℕ → List ℕ → ℕ → List ℕ
layer_of s part sup ring k = layer_line s (pixel s.w s.h part) (pixel s.w s.h sup) (ring_at s.w s.h ring) (s.n - 1 - k)

unfoldable pub lines_to : Settings → List ℕ → List ℕ → List ℕ → ℕ → List ℕ
lines_to s part sup ring k = job_line s ++ joined_up 0 k (layer_of s part sup ring)

-- of the planned support and rings it is the report's
pub planned_lines_lem : (s : Settings) (part : List ℕ) →
    lines_to s part (planned_bytes s.w s.h s.n (bound_of s) part) (planned_rings s.w s.h s.n (bound_of s) part) s.n ≡ plan_lines s part
unfolding lines_to layer_of plan_lines
planned_lines_lem s part = refl

-- what the lines need of a job
pub record Whole (s : Settings) (part sup ring : List ℕ) : Type 0 where
  pub settings : refusal (setting_cases s) ≡ 0
  pub part_long : length part ≡ stack_bytes s
  pub sup_long : length sup ≡ stack_bytes s
  pub ring_long : length ring ≡ rings_in s

module _ {s : Settings} {part sup ring : List ℕ} (x : Whole s part sup ring) where
  pub in_range : Ranged s
  in_range = ranged s x.settings

  layer_in : (l : List ℕ) (i : ℕ) → length l ≡ stack_bytes s → i < s.n → Layer s.w s.h i l
  unfolding stack_bytes rows_of
  layer_in l i e li =
      let r = in_range in
      let hn = r.n_high in
      let a : (i + 1) * s.h ≤ s.n * s.h = mul-le-mul (omega arith) (omega arith) in
      let b : (i + 1) * s.h * row_bytes s.w ≤ s.n * s.h * row_bytes s.w = mul-le-mul a (omega arith) in
      record { w_low = r.w_low; w_high = r.w_high; h_high = r.h_high; i_high = omega arith; holds = omega arith }

  pub part_layer : {i : ℕ} → i < s.n → Layer s.w s.h i part
  part_layer {i} li = layer_in part i x.part_long li

  pub support_layer : {i : ℕ} → i < s.n → Layer s.w s.h i sup
  support_layer {i} li = layer_in sup i x.sup_long li

  -- the rings of the pair above layer i
  pub pair_rings_lem : (i : ℕ) → i + 1 < s.n → (s.w ≤ 256) × ((s.h ≤ 256) × ((i < 512) × ((i + 1) * (s.h * s.w) ≤ length ring)))
  unfolding rings_in
  pair_rings_lem i li =
      let r = in_range in
      let hn = r.n_high in
      let a : (i + 1) * (s.h * s.w) ≤ (s.n - 1) * (s.h * s.w) = mul-le-mul (omega arith) (omega arith) in
      (r.w_high, (r.h_high, (omega arith, omega (arith, x.ring_long))))

-- the excused pixels above a layer, by cases
pub excused_some : (s : Settings) (ring : Rings) (i n : ℕ) → i + 1 < s.n → n ≡ count (s.h * s.w) (excused ring i) → n ≡ excused_above s ring i
unfolding excused_above
excused_some s ring i n h e = let z : suc i < s.n = omega arith in rw (lt-ltb (suc i) s.n z) e

pub excused_none : (s : Settings) (ring : Rings) (i : ℕ) → s.n ≤ i + 1 → 0 ≡ excused_above s ring i
unfolding excused_above
excused_none s ring i h = let z : s.n ≤ suc i = omega arith in rw (le-ltb (suc i) s.n z)

-- a layer's line from its numbers
pub layer_is : (s : Settings) (part sup ring : List ℕ) (i a b c : ℕ) →
    a ≡ count (s.h * s.w) (pixel s.w s.h part i) → b ≡ count (s.h * s.w) (pixel s.w s.h sup i) → c ≡ excused_above s (ring_at s.w s.h ring) i →
    line_of i a b c ≡ layer_line s (pixel s.w s.h part) (pixel s.w s.h sup) (ring_at s.w s.h ring) i
unfolding line_of layer_line filled
layer_is s part sup ring i a b c ea eb ec = rw (ea, eb, ec)

-- the first line is short
pub job_short : (s : Settings) → Ranged s → length (job_line s) ≤ 40
job_short s r =
    let hw = r.w_high in
    let hh = r.h_high in
    let hn = r.n_high in
    let hr = r.reach_high in
    omega (
      arith,
      job_long s (reach_of s.pitch s.overhang) refl,
      spaced_length s.w (omega arith),
      spaced_length s.h (omega arith),
      spaced_length s.n (omega arith),
      spaced_length (reach_of s.pitch s.overhang).0 (omega arith),
    )

-- one line more
joined_more : (k : ℕ) (a : ℕ) (f : ℕ → List ℕ) → joined_up a (suc k) f ≡ joined_up a k f ++ f (a + k)
unfolding joined_up
joined_more zero a f = let z : a + 0 ≡ a = omega arith in rw z (append-nil (f a))
joined_more (suc k) a f =
    let z : suc a + k ≡ a + suc k = omega arith in
    ap (λ (l : List ℕ). f a ++ l) (joined_more k (suc a) f) ∙ rw z (sym (append_assoc (f a) (joined_up (suc a) k f) (f (a + suc k))))

joined_next : (k : ℕ) (f : ℕ → List ℕ) → joined_up 0 (k + 1) f ≡ joined_up 0 k f ++ f k
joined_next k f = let z : 0 + k ≡ k = omega arith in rw add-one (joined_more k 0 f ∙ rw z)

-- a layer's line was written from `at` on, and it is short
pub record Counted (s : Settings) (part sup ring : List ℕ) (i at r : ℕ) (now was : List ℕ) : Type 0 where
  pub wrote : Wrote was at now r (layer_line s (pixel s.w s.h part) (pixel s.w s.h sup) (ring_at s.w s.h ring) i)
  pub short : length (layer_line s (pixel s.w s.h part) (pixel s.w s.h sup) (ring_at s.w s.h ring) i) ≤ 24

pub counted_from : {s : Settings} {part sup ring : List ℕ} {i at r : ℕ} {now was : List ℕ} (a b c : ℕ) → i < 512 →
    (a ≡ count (s.h * s.w) (pixel s.w s.h part i)) × (a ≤ 65536) → (b ≡ count (s.h * s.w) (pixel s.w s.h sup i)) × (b ≤ 65536) →
    (c ≡ excused_above s (ring_at s.w s.h ring) i) × (c ≤ 65536) → Wrote was at now r (line_of i a b c) → Counted s part sup ring i at r now was
counted_from {s} {part} {sup} {ring} {i} {at} {r} {now} {was} a b c hi (ea, ha) (eb, hb) (ec, hc) w =
    let z = layer_is s part sup ring i a b c ea eb ec in
    record {
      wrote = subst (Wrote was at now r) z w;
      short = subst (λ (l : List ℕ). length l ≤ 24) z (line_length i a b c (omega arith) (omega arith) (omega arith) (omega arith));
    }

-- all layers' lines were written from `start` on
pub record Lined (s : Settings) (part sup ring was now : List ℕ) (start at : ℕ) : Type 0 where
  pub wrote : Wrote was start now at (joined_up 0 s.n (layer_of s part sup ring))

-- the loop: from `start` on k lines are written, each of at most 24 bytes
pub record LinesSoFar (s : Settings) (part sup ring was now : List ℕ) (start at k : ℕ) : Type 0 where
  pub wrote : Wrote was start now at (joined_up 0 k (layer_of s part sup ring))
  pub short : at ≤ start + 24 * k

module _ {s : Settings} {part sup ring was now : List ℕ} {start at k : ℕ} (g : LinesSoFar s part sup ring was now start at k) where
  pub line_room : k < s.n → start + 24 * s.n ≤ length was → at + 24 ≤ length now
  line_room lk h = omega (arith, wrote_long g.wrote, g.short)

  pub line_more : {new : List ℕ} {r : ℕ} → Counted s part sup ring (s.n - 1 - k) at r new now → LinesSoFar s part sup ring was new start r (k + 1)
  unfolding layer_of
  line_more {new} {r} c =
      let z = joined_next k (layer_of s part sup ring) in
      record { wrote = subst (Wrote was start new r) (sym z) (g.wrote then c.wrote); short = omega (arith, g.short, c.short, c.wrote.ends) }

  pub going_end : k ≤ s.n → s.n ≤ k → Lined s part sup ring was now start at
  going_end a b =
      let e : k ≡ s.n = omega arith in
      record { wrote = subst (λ (j : ℕ). Wrote was start now at (joined_up 0 j (layer_of s part sup ring))) e g.wrote }

pub no_lines_yet : {s : Settings} {part sup ring was : List ℕ} {start : ℕ} → start ≤ length was → LinesSoFar s part sup ring was was start start 0
unfolding joined_up
no_lines_yet {was = was} {start = start} h = record {
  wrote = record { ends = omega arith; holds = over_none was start; fits = omega arith };
  short = omega arith;
}

-- the first line, and then the layers'
pub job_room : {s : Settings} → Ranged s → (at : ℕ) (was : List ℕ) → at ≡ length (job_line s) → length was ≡ 16384 → at + 24 * s.n ≤ length was
job_room {s} r at was e n = omega (arith, r.n_high, job_short s r)

pub job_whole : {s : Settings} {part sup ring was l now : List ℕ} {at r : ℕ} → Ranged s → length was ≡ 16384 → (at ≡ length (job_line s)) × (l ≡ over was 0 (job_line s)) →
    Lined s part sup ring l now at r → Wrote was 0 now r (lines_to s part sup ring s.n)
unfolding lines_to
job_whole {s} {was = was} {l = l} {at = at} g n (e, is) w =
    let first : Wrote was 0 l at (job_line s) = record { ends = omega arith; holds = is; fits = omega (arith, job_short s g) } in
    first then w.wrote
