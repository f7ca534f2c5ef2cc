-- What a C caller sees of each answer, taken apart as include/kitegimlet.h does it, is what the call says, and nothing stands above it: no two answers look the
-- same.
use Rattle.std.specs.Prelude.{◌≡◌, Bool, not, ◌&&◌, ◌||◌, cond, List, [], ◌∷◌, ◌++◌, leb, length, get_or, drop}
use Rattle.std.proofs.Math.Path.{refl, sym, ap}
use Rattle.std.proofs.Common.{◌∙◌, append-nil, mod-eq_of_lt, arith, length-take, drop_of_length-le, take_at, drop_at}
use Rattle.std.proofs.Math.Bool.{true, false}
use Prim.Native.Nat.{ℕ, zero, suc, ◌+◌, ◌-◌, ◌*◌, ◌/◌, ◌%◌, ◌^◌, ◌≤◌, ◌<◌}
use Rattle.std.proofs.Math.Nat.{div-eq_of_lt, zero-mul, min-le_right}
use Rattle.std.proofs.Math.Arith.{digits_div, digits_mod}
use Rattle.std.proofs.Math.Dec.{eqb}
use Rattle.std.proofs.Math.ListN.{take}
use borrow.Author.Tests.{ne_eqb, eqb-true, eqb-false, leb-true, leb-false}
use Rattle.rules.specs.Tools.{Case, refusal, answer, bit}
use Rattle.rules.specs.Images.{Stack, Rings, pixel, ring_at, row_bytes, stack_bytes, first_padded}
use Rattle.rules.specs.Reach.{reach_of, bound_of}
use Rattle.rules.specs.Judging.{overlap, bad_ring, unheld, verdict_of}
use Rattle.rules.specs.Jobs.{Job, head_end, part_end, support_end, settings_in, stored_in, part_in, support_in, layout_of, file_length}
use Rattle.rules.specs.Calls.{says_refusal, tell_row, refused, refused_in}
use Rattle.rules.specs.Calls.{says_reached, says_planned, says_judged, says_read, says_copied, says_written, reach_cases, reach_answer, setting_cases, length_cases}
use Rattle.rules.specs.Calls.{clean_cases, clean_refusal, clean_answer, posts_cases, posts_refusal, posts_answer}
use Rattle.rules.specs.Calls.{stack_cases, both_cases, plan_cases, plan_refusal, plan_answer, judge_cases, judge_answer, section_cases, read_cases, read_refusal}
use Rattle.rules.specs.Calls.{read_answer, part_answer, support_answer, copy_cases, copy_answer, write_cases, write_refusal, write_answer}
use Rattle.rules.specs.Demands.{FirstAt}
use Rattle.rules.specs.declared.Micrometres.{Micrometres}
use Rattle.rules.specs.declared.Pixels.{Pixels}
use Rattle.rules.specs.declared.Settings.{Settings}
use Rattle.rules.specs.declared.Place.{Place}
use Rattle.rules.specs.declared.RowPlace.{RowPlace}
use Rattle.rules.specs.declared.Refusal.{Refusal}
use Rattle.rules.specs.declared.Refusal.TheVariants.{Number, InRow, AtPixel}
use Rattle.rules.specs.declared.Layout.{Layout}
use Rattle.rules.specs.declared.Reached.TheVariants.{By, Refused as NotReached}
use Rattle.rules.specs.declared.Planned.TheVariants.{Done, Refused as NotPlanned}
use Rattle.rules.specs.declared.Judged.{Judged}
use Rattle.rules.specs.declared.Judged.TheVariants.{Refused as NotJudged}
use Rattle.rules.specs.declared.ReadJob.TheVariants.{Job as IsJob, Refused as NotRead}
use Rattle.rules.specs.declared.CopiedRings.TheVariants.{Copied}
use Rattle.rules.specs.declared.WrittenJob.TheVariants.{Length, Refused as NotWritten}
use Rattle.laws.specs.Tests.{split, and_l, and_r}
use Rattle.laws.specs.Refusals.{up_to, at_most, lacks, never, answer_refused}
use Rattle.laws.specs.Padding.{padding_first, row_told, refused_number, refused_seven, refused_eight, refused_alone}
use Rattle.laws.specs.Limits.{Ranged, ranged, settable_out, stack_most}
use Rattle.laws.specs.Demand1.{copied_as_read, written_as_both, told_overlap, told_bad_ring, told_unheld}
use Rattle.laws.specs.Judgements.{Verdict, accepted, overlapping, ring_is_bad, part_hangs, support_hangs, verdict_is}
use Rattle.laws.specs.StackTables.{Padded, stack_seven, both_seven, both_eight, clean_seven, posts_seven, judge_exactly}
use Rattle.laws.specs.JobFiles.{accepted_exactly, rooms, read_seven, read_eight, stores, write_room, writable_exactly, longest_job}
use Rattle.laws.specs.Offsets.{longest_file}
use Rattle.laws.specs.ReportLaws.{take_all}
use Rattle.answers.specs.Packed.{above, pack_refusal, pack_reached, pack_planned, pack_judged, pack_read, pack_copied, pack_written, told, told_in, stretch, part_stretch, support_stretch}

-- kg_number, kg_value, kg_layer, kg_row, kg_column; kg_offset, kg_length
abbrev pub number : ℕ → ℕ
number a = a % 65536

abbrev pub value : ℕ → ℕ
value a = a / 65536

abbrev pub layer : ℕ → ℕ
layer a = a / 65536 % 65536

abbrev pub row : ℕ → ℕ
row a = a / 4294967296 % 65536

abbrev pub column : ℕ → ℕ
column a = a / 281474976710656 % 65536

abbrev pub offset : ℕ → ℕ
offset s = s / 4294967296

abbrev pub long : ℕ → ℕ
long s = s % 4294967296

-- kg_place_parts: 2 for a row, 3 for a pixel, 0 where a number has no place
unfoldable pub place_parts : ℕ → ℕ
place_parts k = cond (eqb k 7 || eqb k 8) 2 (cond (eqb k 9 || eqb k 10 || eqb k 11 || eqb k 19) 3 0)

-- what stands above the number and the parts of its place: nothing, or else it is seen too
unfoldable pub sees_above : ℕ → List ℕ
sees_above x = cond (eqb x 0) [] (x ∷ [])

-- the place, as many parts as it has, and what stands above it
unfoldable pub sees_parts : ℕ → List ℕ
sees_parts a = take (place_parts (number a)) (layer a ∷ row a ∷ column a ∷ []) ++ sees_above (a / 65536 ^ suc (place_parts (number a)))

-- a number, and its place
unfoldable pub sees_place : ℕ → List ℕ
sees_place a = number a ∷ sees_parts a

-- a number, and the value where it is 0, its place where it is not
unfoldable pub sees_value : ℕ → List ℕ
sees_value a = number a ∷ cond (eqb (number a) 0) (value a ∷ []) (sees_parts a)

-- the stretch of the caller's file
unfoldable pub sees_stretch : List ℕ → ℕ → List ℕ
sees_stretch f s = take (long s) (drop (offset s) f)

-- Numbers put together and taken apart ---------------------------------------------------------------------------------------

value_back : (v : ℕ) → v < 281474976710656 → sees_value (above v) ≡ 0 ∷ v ∷ []
unfolding sees_value
value_back v h =
    let e : above v ≡ v * 65536 + 0 = omega (arith, mod-eq_of_lt h) in
    let a : number (above v) ≡ 0 = rw e (digits_mod v {m = 65536} {r = 0} (omega arith)) in
    let b : value (above v) ≡ v = rw e (digits_div v {m = 65536} {r = 0} (omega arith)) in
    rw (a, b)

-- a number with three parts above it
module _ (x k i r c : ℕ) (e : x ≡ k + i * 65536 + r * 4294967296 + c * 281474976710656) (hk : k < 65536) (hi : i < 65536) (hr : r < 65536) (hc : c < 65536) where
  number_is : number x ≡ k
  number_is =
      let e1 : x ≡ (c * 4294967296 + r * 65536 + i) * 65536 + k = omega arith in
      ap number e1 ∙ digits_mod (c * 4294967296 + r * 65536 + i) {m = 65536} {r = k} hk

  layer_is : layer x ≡ i
  layer_is =
      let e1 : x ≡ (c * 4294967296 + r * 65536 + i) * 65536 + k = omega arith in
      let y : c * 4294967296 + r * 65536 + i ≡ (c * 65536 + r) * 65536 + i = omega arith in
      ap layer e1 ∙ ap (λ (z : ℕ). z % 65536) (digits_div (c * 4294967296 + r * 65536 + i) {m = 65536} {r = k} hk ∙ y) ∙ digits_mod (c * 65536 + r) {m = 65536} {r = i} hi

  row_is : row x ≡ r
  row_is =
      let e2 : x ≡ (c * 65536 + r) * 4294967296 + (i * 65536 + k) = omega arith in
      ap row e2 ∙ ap (λ (z : ℕ). z % 65536) (digits_div (c * 65536 + r) {m = 4294967296} {r = i * 65536 + k} (omega arith)) ∙ digits_mod c {m = 65536} {r = r} hr

  column_is : column x ≡ c
  column_is =
      let e3 : x ≡ c * 281474976710656 + (r * 4294967296 + i * 65536 + k) = omega arith in
      ap column e3 ∙ ap (λ (z : ℕ). z % 65536) (digits_div c {m = 281474976710656} {r = r * 4294967296 + i * 65536 + k} (omega arith)) ∙ mod-eq_of_lt hc

stretch_back : (f : List ℕ) (at n : ℕ) → at < 4294967296 → n < 4294967296 → sees_stretch f (stretch at n) ≡ take n (drop at f)
unfolding sees_stretch
stretch_back f at n ha hn =
    let e : stretch at n ≡ at * 4294967296 + n = omega (arith, mod-eq_of_lt ha, mod-eq_of_lt hn) in
    let a : offset (stretch at n) ≡ at = ap offset e ∙ digits_div at {m = 4294967296} {r = n} hn in
    let b : long (stretch at n) ≡ n = ap long e ∙ digits_mod at {m = 4294967296} {r = n} hn in
    rw (a, b)

-- Refusals ------------------------------------------------------------------------------------------------------------------------

-- a refusal whose number has as many parts as its place, all of them within their bits
data Fits : Refusal → Type 0 where
  alone : (k : ℕ) → k < 65536 → place_parts k ≡ 0 → Fits (Number k)
  in_row : (k : ℕ) (at : RowPlace) → k < 65536 → place_parts k ≡ 2 → at.layer < 65536 → at.row < 65536 → Fits (InRow k at)
  at_pixel : (k : ℕ) (at : Place) → k < 65536 → place_parts k ≡ 3 → at.layer < 65536 → at.row < 65536 → at.column < 65536 → Fits (AtPixel k at)

-- what is seen of it, number and place
seen_parts : (x k i r c n : ℕ) (e : x ≡ k + i * 65536 + r * 4294967296 + c * 281474976710656) → k < 65536 → i < 65536 → r < 65536 → c < 65536 → place_parts k ≡ n → x < 65536 ^ suc n →
    (number x ≡ k) × (sees_parts x ≡ take n (i ∷ r ∷ c ∷ []))
unfolding sees_parts sees_above
seen_parts x k i r c n e hk hi hr hc p h =
    let a = number_is x k i r c e hk hi hr hc in
    let z : x / 65536 ^ suc n ≡ 0 = div-eq_of_lt h in
    (a, rw (a, layer_is x k i r c e hk hi hr hc, row_is x k i r c e hk hi hr hc, column_is x k i r c e hk hi hr hc, p, z) (append-nil (take n (i ∷ r ∷ c ∷ []))))

refusal_seen : {v : Refusal} → Fits v → (number (pack_refusal v) ∷ sees_parts (pack_refusal v)) ≡ says_refusal v
refusal_seen (alone k h p) = let (a, b) = seen_parts k k 0 0 0 0 (omega arith) h (omega arith) (omega arith) (omega arith) p (omega arith) in rw (a, b)
refusal_seen (in_row k at h p hi hr) =
    let x : ℕ = pack_refusal (InRow k at) in
    let e : x ≡ k + at.layer * 65536 + at.row * 4294967296 = omega (arith, mod-eq_of_lt hi, mod-eq_of_lt hr) in
    let (a, b) = seen_parts x k at.layer at.row 0 2 (omega arith) h hi hr (omega arith) p (omega arith) in
    rw (a, b)
refusal_seen (at_pixel k at h p hi hr hc) =
    let x : ℕ = pack_refusal (AtPixel k at) in
    let e : x ≡ k + at.layer * 65536 + at.row * 4294967296 + at.column * 281474976710656 = omega (arith, mod-eq_of_lt hi, mod-eq_of_lt hr, mod-eq_of_lt hc) in
    let (a, b) = seen_parts x k at.layer at.row at.column 3 e h hi hr hc p (omega arith) in
    rw (a, b)

-- a table's numbers are 7, 8 or without a place
abbrev tabled : ℕ → Bool
tabled k = leb k 20 && (eqb k 7 || eqb k 8 || eqb (place_parts k) 0)

unfoldable ordinary : List Case → Bool
ordinary [] = true
ordinary (c ∷ cs) = tabled c.number && ordinary cs

is_ordinary : (cs : List Case) (k : ℕ) → ordinary cs ≡ true → refusal cs ≡ suc k → tabled (suc k) ≡ true
unfolding ordinary
is_ordinary [] k o e = absurd (omega arith)
is_ordinary (c ∷ cs) k o e =
    split c.applies
    (λ t. let z : c.number ≡ suc k = rw t at e in rw z at (and_l (tabled c.number) (ordinary cs) o))
    (λ t. is_ordinary cs k (and_r (tabled c.number) (ordinary cs) o) (rw t at e))

-- a row that is told is within the sizes
says_row : (v : Refusal) (k i r : ℕ) → says_refusal v ≡ k ∷ i ∷ r ∷ [] → v ≡ InRow k (record { layer = i; row = r })
says_row (Number j) k i r e = absurd (let z : ◌≡◌ {A = ℕ} 1 3 = ap length e in omega arith)
says_row (AtPixel j at) k i r e = absurd (let z : ◌≡◌ {A = ℕ} 4 3 = ap length e in omega arith)
says_row (InRow j at) k i r e =
    let a : j ≡ k = cc in
    let x : at.layer ≡ i = cc in
    let y : at.row ≡ r = cc in
    rw (← a, ← x, ← y)

row_fits : (s : Settings) (l : List ℕ) (k : ℕ) → k ≤ 20 → place_parts k ≡ 2 → Padded s l → Fits (tell_row s.h k (first_padded s l))
row_fits s l k h p v =
    let g = ranged s v.settings in
    let nh = g.n_high in
    let hh = g.h_high in
    let (i, r, a) = padding_first s l v.set in
    let (li, lr) = a.inside in
    let e = says_row (tell_row s.h k (first_padded s l)) k i r ((row_told s l k k i r).1 (refl, a)) in
    rw e (in_row k (record { layer = i; row = r }) (omega arith) p (omega arith) (omega arith))

seven_parts : place_parts 7 ≡ 2
unfolding place_parts
seven_parts = refl

eight_parts : place_parts 8 ≡ 2
unfolding place_parts
eight_parts = refl

third : (a b c : Bool) → a ≡ false → b ≡ false → (a || b || c) ≡ true → c ≡ true
third a b c x y e = rw (x, y) at e

-- so what a table refuses fits, where 7 and 8 are those of padding
module _ (cs : List Case) (o : ordinary cs ≡ true) (s : Settings) (part sup : List ℕ) (p7 : refusal cs ≡ 7 → Padded s part) (p8 : refusal cs ≡ 8 → Padded s sup) where
  refused_fits : (k : ℕ) → refusal cs ≡ suc k → Fits (refused s part sup (suc k))
  refused_fits k e =
      let m = is_ordinary cs k o e in
      let h : suc k ≤ 20 = leb-true (suc k) 20 (and_l (leb (suc k) 20) (eqb (suc k) 7 || eqb (suc k) 8 || eqb (place_parts (suc k)) 0) m) in
      split (eqb (suc k) 7)
      (λ t.
      let z : suc k ≡ 7 = eqb-true (suc k) 7 t in
      rw (refused_seven s part sup (suc k) z) (row_fits s part (suc k) h (ap place_parts z ∙ seven_parts) (p7 (e ∙ z))))
      (λ t. split (eqb (suc k) 8)
      (λ u.
      let z : suc k ≡ 8 = eqb-true (suc k) 8 u in
      rw (refused_eight s part sup (suc k) z) (row_fits s sup (suc k) h (ap place_parts z ∙ eight_parts) (p8 (e ∙ z))))
      (λ u.
      let q : eqb (place_parts (suc k)) 0 ≡ true = third (eqb (suc k) 7) (eqb (suc k) 8) _ t u (and_r (leb (suc k) 20) (eqb (suc k) 7 || eqb (suc k) 8 || eqb (place_parts (suc k)) 0) m) in
      rw (refused_alone s part sup (suc k) (eqb-false (suc k) 7 t) (eqb-false (suc k) 8 u)) (alone (suc k) (omega arith) (eqb-true _ _ q))))

  refused_seen : (k : ℕ) → refusal cs ≡ suc k → (number (pack_refusal (refused s part sup (suc k))) ∷ sees_parts (pack_refusal (refused s part sup (suc k)))) ≡ says_refusal (refused s part sup (suc k))
  refused_seen k e = refusal_seen (refused_fits k e)

  -- its number is not 0, so it is not taken for a value
  not_zero : (k : ℕ) → refusal cs ≡ suc k → eqb (number (pack_refusal (refused s part sup (suc k)))) 0 ≡ false
  not_zero k e =
      let z : number (pack_refusal (refused s part sup (suc k))) ≡ suc k = ap (λ (l : List ℕ). get_or l 0 0) (refused_seen k e) ∙ refused_number s part sup (suc k) in
      ne_eqb (number (pack_refusal (refused s part sup (suc k)))) 0 (λ y. let x : suc k ≡ 0 = sym z ∙ y in omega arith)

  abbrev packed : ℕ → ℕ → ℕ
  packed fine x = answer x fine (λ k. pack_refusal (refused s part sup k))

  abbrev said : List ℕ → ℕ → List ℕ
  said fine x = answer x fine (λ k. says_refusal (refused s part sup k))

  -- a call that answers done or a refusal, and one that answers a value or a refusal
  place_seen : sees_place (packed 0 (refusal cs)) ≡ said (0 ∷ []) (refusal cs)
  unfolding sees_place sees_parts sees_above place_parts
  place_seen = go (refusal cs) refl
    where
      go : (x : ℕ) → refusal cs ≡ x → sees_place (packed 0 x) ≡ said (0 ∷ []) x
      go zero e = refl
      go (suc x) e = refused_seen x e

  value_seen : (v : ℕ) → (refusal cs ≡ 0 → v < 281474976710656) → sees_value (packed (above v) (refusal cs)) ≡ said (0 ∷ v ∷ []) (refusal cs)
  unfolding sees_value
  value_seen v h = go (refusal cs) refl
    where
      go : (x : ℕ) → refusal cs ≡ x → sees_value (packed (above v) x) ≡ said (0 ∷ v ∷ []) x
      go zero e = value_back v (h e)
      go (suc x) e = rw (not_zero x e) (refused_seen x e)

-- Reach, plan, clean, posts, write, copy rings ------------------------------------------------------------------------------------------------

-- an answer of another kind, made of this one
through : {A B : Type 0} (f : A → B) (x : ℕ) (fine : A) (bad : ℕ → A) → f (answer x fine bad) ≡ answer x (f fine) (λ k. f (bad k))
through f zero fine bad = refl
through f (suc x) fine bad = refl

-- 2 and 3 have no place
small_alone : (k : ℕ) → suc k ≤ 3 → place_parts (suc k) ≡ 0
unfolding place_parts
small_alone zero h = refl
small_alone (suc zero) h = refl
small_alone (suc (suc zero)) h = refl
small_alone (suc (suc (suc k))) h = absurd (omega arith)

pub reach_seen : (p t : Micrometres) → sees_value (pack_reached (reach_answer p t)) ≡ says_reached (reach_answer p t)
unfolding reach_answer reach_cases up_to sees_value
reach_seen p t = go (refusal (reach_cases p t)) refl (at_most 3 (reach_cases p t) refl)
  where
    go : (x : ℕ) → refusal (reach_cases p t) ≡ x → x ≤ 3 →
        sees_value (pack_reached (answer x (By (reach_of p t)) NotReached)) ≡ says_reached (answer x (By (reach_of p t)) NotReached)
    go zero e h = let r = settable_out p t e in let m = r.reach_high in value_back (reach_of p t).0 (omega arith)
    go (suc x) e h =
        let (a, b) = seen_parts (suc x) (suc x) 0 0 0 0 (omega arith) (omega arith) (omega arith) (omega arith) (omega arith) (small_alone x h) (omega arith) in
        rw (a, ne_eqb (suc x) 0 (λ z. omega arith), b)

pub write_seen : (j : Job) (room : ℕ) → sees_value (pack_written (write_answer j room)) ≡ says_written (write_answer j room)
unfolding write_answer write_refusal write_cases both_cases stack_cases length_cases setting_cases reach_cases write_room lacks ordinary place_parts
write_seen j room =
    ap sees_value (through pack_written (refusal (write_cases j room)) (Length (file_length j)) _)
    ∙ value_seen (write_cases j room) refl j.settings j.part j.support
    (λ e. both_seven j.settings (stores j) j.part j.support (length j.rings) (written_as_both j room 6 refl e))
    (λ e. both_eight j.settings (stores j) j.part j.support (length j.rings) (written_as_both j room 7 refl e))
    (file_length j) (λ e. let m = longest_job j ((writable_exactly j room).0 e).0 in omega arith)
    ∙ sym (through says_written (refusal (write_cases j room)) (Length (file_length j)) _)

pub plan_seen : (s : Settings) (part : List ℕ) (a b : ℕ) → sees_place (pack_planned (plan_answer s part a b)) ≡ says_planned (plan_answer s part a b)
unfolding plan_answer plan_refusal plan_cases stack_cases setting_cases reach_cases length_cases lacks ordinary place_parts
plan_seen s part a b =
    ap sees_place (through pack_planned (refusal (plan_cases s part a b)) Done _)
    ∙ place_seen (plan_cases s part a b) refl s part [] (λ e. stack_seven s true part a b e) (λ e. absurd (never 7 (plan_cases s part a b) refl e))
    ∙ sym (through says_planned (refusal (plan_cases s part a b)) Done _)

pub clean_seen : (s : Settings) (c : Pixels) (part : List ℕ) (a b d : ℕ) → sees_place (pack_planned (clean_answer s c part a b d)) ≡ says_planned (clean_answer s c part a b d)
unfolding clean_answer clean_refusal clean_cases setting_cases reach_cases lacks ordinary place_parts
clean_seen s c part a b d =
    ap sees_place (through pack_planned (refusal (clean_cases s c part a b d)) Done _)
    ∙ place_seen (clean_cases s c part a b d) refl s part [] (λ e. clean_seven s c part a b d e) (λ e. absurd (never 7 (clean_cases s c part a b d) refl e))
    ∙ sym (through says_planned (refusal (clean_cases s c part a b d)) Done _)

pub posts_seen : (s : Settings) (r : Micrometres) (part : List ℕ) (a : ℕ) → sees_place (pack_planned (posts_answer s r part a)) ≡ says_planned (posts_answer s r part a)
unfolding posts_answer posts_refusal posts_cases setting_cases reach_cases lacks ordinary place_parts
posts_seen s r part a =
    ap sees_place (through pack_planned (refusal (posts_cases s r part a)) Done _)
    ∙ place_seen (posts_cases s r part a) refl s part [] (λ e. posts_seven s r part a e) (λ e. absurd (never 7 (posts_cases s r part a) refl e))
    ∙ sym (through says_planned (refusal (posts_cases s r part a)) Done _)

-- 7 and 8 of copying are those of reading
module _ (f : List ℕ) (room : ℕ) where
  copied_part : refusal (copy_cases f room) ≡ 7 → Padded (settings_in f) (part_in f)
  copied_part e = (read_seven f (copied_as_read f room 6 (λ z. omega arith) e)).1

  copied_support : refusal (copy_cases f room) ≡ 8 → Padded (settings_in f) (support_in f)
  copied_support e = (read_eight f (copied_as_read f room 7 (λ z. omega arith) e)).1

  pub copy_seen : sees_place (pack_copied (copy_answer f room)) ≡ says_copied (copy_answer f room)
  unfolding copy_answer refused_in copy_cases read_cases section_cases setting_cases reach_cases ordinary place_parts
  copy_seen =
      ap sees_place (through pack_copied (refusal (copy_cases f room)) Copied _)
      ∙ place_seen (copy_cases f room) refl (settings_in f) (part_in f) (support_in f) copied_part copied_support
      ∙ sym (through says_copied (refusal (copy_cases f room)) Copied _)

-- Check -------------------------------------------------------------------------------------------------------------------------

-- a pixel inside the sizes fits its bits
pixel_back : (w h n up k : ℕ) (g : Stack) (at : Place) → w ≤ 256 → h ≤ 256 → n ≤ 512 → up ≤ 1 → k ≤ 19 → place_parts k ≡ 3 → FirstAt w h n up g at →
    sees_place (pack_judged (NotJudged (AtPixel k at))) ≡ says_judged (NotJudged (AtPixel k at))
unfolding sees_place
pixel_back w h n up k g at hw hh hn hu hk p a =
    let (i, r, c) = a.inside in
    let el : at.layer ≡ a.i + up = ap (λ (x : Place). x.layer) a.told in
    let er : at.row ≡ a.r = ap (λ (x : Place). x.row) a.told in
    let ec : at.column ≡ a.c = ap (λ (x : Place). x.column) a.told in
    refusal_seen (at_pixel k at (omega arith) p (omega arith) (omega arith) (omega arith))

module _ (s : Settings) (part sup l : List ℕ) where
  abbrev P : Stack
  P = pixel s.w s.h part

  abbrev T : Stack
  T = pixel s.w s.h sup

  abbrev R : Rings
  R = ring_at s.w s.h l

  unheld_back : (k : ℕ) (at : Place) → Ranged s → (9 ≡ k → ⊥) → (10 ≡ k → ⊥) → k ≤ 19 → place_parts k ≡ 3 →
      verdict_of s.w s.h s.n (bound_of s) part sup l ≡ NotJudged (AtPixel k at) → sees_place (pack_judged (NotJudged (AtPixel k at))) ≡ says_judged (NotJudged (AtPixel k at))
  unfolding verdict_of
  unheld_back k at r n9 n10 h p e =
      let (o, b, a, z) = (told_unheld s.w s.h s.n (bound_of s) P T R k at n9 n10).0 e in
      let m = r.n_high in
      pixel_back s.w s.h (s.n - 1) 1 k (unheld P T R) at r.w_high r.h_high (omega arith) (omega arith) h p a

  verdict_back : {v : Judged} → Ranged s → Verdict v → verdict_of s.w s.h s.n (bound_of s) part sup l ≡ v → sees_place (pack_judged v) ≡ says_judged v
  unfolding verdict_of sees_place sees_parts sees_above place_parts
  verdict_back r accepted e = refl
  verdict_back r (overlapping at) e =
      let a = (told_overlap s.w s.h s.n (bound_of s) P T R at).0 e in
      pixel_back s.w s.h s.n 0 9 (overlap P T) at r.w_high r.h_high r.n_high (omega arith) (omega arith) refl a
  verdict_back r (ring_is_bad at) e =
      let (o, a) = (told_bad_ring s.w s.h s.n (bound_of s) P T R at).0 e in
      let m = r.n_high in
      pixel_back s.w s.h (s.n - 1) 1 10 (bad_ring s.w s.h (bound_of s) P R) at r.w_high r.h_high (omega arith) (omega arith) (omega arith) refl a
  verdict_back r (part_hangs at) e = unheld_back 11 at r (λ z. omega arith) (λ z. omega arith) (omega arith) refl e
  verdict_back r (support_hangs at) e = unheld_back 19 at r (λ z. omega arith) (λ z. omega arith) (omega arith) refl e

  pub check_seen : sees_place (pack_judged (judge_answer s part sup l)) ≡ says_judged (judge_answer s part sup l)
  unfolding judge_answer judge_cases both_cases stack_cases setting_cases reach_cases length_cases ordinary place_parts sees_place
  check_seen = go (refusal (judge_cases s part sup (length l))) refl
    where
      go : (x : ℕ) → refusal (judge_cases s part sup (length l)) ≡ x →
          sees_place (pack_judged (answer x (verdict_of s.w s.h s.n (bound_of s) part sup l) (λ k. NotJudged (refused s part sup k))))
          ≡ says_judged (answer x (verdict_of s.w s.h s.n (bound_of s) part sup l) (λ k. NotJudged (refused s part sup k)))
      go zero e = verdict_back (ranged s ((judge_exactly s part sup (length l)).0 e).stack.settings) (verdict_is s.w s.h s.n (bound_of s) part sup l) refl
      go (suc x) e = refused_seen (judge_cases s part sup (length l)) refl s part sup (λ z. both_seven s true part sup (length l) z) (λ z. both_eight s true part sup (length l) z) x e

-- Read, and the two stretches -----------------------------------------------------------------------------------------------------

-- the number, and where it is 0 what reading tells, its place where it is not
unfoldable pub sees_told : ℕ → List ℕ → List ℕ
sees_told a room = number a ∷ cond (eqb (number a) 0) (take 10 room) (sees_parts a)

told_says : (l : Layout) → 0 ∷ told l ≡ says_read (IsJob l)
unfolding bit
told_says l = go l.stored
  where
    go : (b : Bool) →
        0 ∷ l.settings.w ∷ l.settings.h ∷ l.settings.n ∷ l.settings.pitch.0 ∷ l.settings.overhang.0 ∷ bit b ∷ l.head ∷ l.part ∷ l.support ∷ l.rings ∷ []
        ≡ 0 ∷ l.settings.w ∷ l.settings.h ∷ l.settings.n ∷ l.settings.pitch.0 ∷ l.settings.overhang.0 ∷ cond b 1 0 ∷ l.head ∷ l.part ∷ l.support ∷ l.rings ∷ []
    go true = refl
    go false = refl

-- where there is room for all ten
pub read_seen : (f room : List ℕ) → 10 ≤ length room → sees_told (pack_read (read_answer f)) (told_in f room) ≡ says_read (read_answer f)
unfolding told_in read_answer refused_in sees_told read_refusal read_cases section_cases setting_cases reach_cases ordinary place_parts
read_seen f room h = go (refusal (read_cases f)) refl
  where
    all : take 10 (take (length room) (told (layout_of f)) ++ drop 10 room) ≡ told (layout_of f)
    all =
        let e : take (length room) (told (layout_of f)) ≡ told (layout_of f) = take_all (length room) (told (layout_of f)) h in
        rw e (take_at (told (layout_of f)) (drop 10 room) 10 refl)

    go : (x : ℕ) → refusal (read_cases f) ≡ x →
        sees_told (pack_read (answer x (IsJob (layout_of f)) (λ k. NotRead (refused_in f k)))) (answer x (take (length room) (told (layout_of f)) ++ drop 10 room) (λ k. room))
        ≡ says_read (answer x (IsJob (layout_of f)) (λ k. NotRead (refused_in f k)))
    go zero e = ap (λ (t : List ℕ). 0 ∷ t) all ∙ told_says (layout_of f)
    go (suc x) e =
        let p7 : refusal (read_cases f) ≡ 7 → Padded (settings_in f) (part_in f) = λ z. (read_seven f z).1 in
        let p8 : refusal (read_cases f) ≡ 8 → Padded (settings_in f) (support_in f) = λ z. (read_eight f z).1 in
        rw (not_zero (read_cases f) refl (settings_in f) (part_in f) (support_in f) p7 p8 x e) (refused_seen (read_cases f) refl (settings_in f) (part_in f) (support_in f) p7 p8 x e)

-- "further elements stay", whatever room there is
pub told_keeps : (f room : List ℕ) → drop 10 (told_in f room) ≡ drop 10 room
unfolding told_in
told_keeps f room = go (read_refusal f)
  where
    past : drop 10 (take (length room) (told (layout_of f)) ++ drop 10 room) ≡ drop 10 room
    past =
        split (leb 10 (length room))
        (λ t.
        let e : take (length room) (told (layout_of f)) ≡ told (layout_of f) = take_all (length room) (told (layout_of f)) (leb-true 10 (length room) t) in
        rw e (drop_at (told (layout_of f)) (drop 10 room) 10 refl))
        (λ t.
        let l : length room ≤ 10 = omega (arith, leb-false 10 (length room) t) in
        let n : drop 10 room ≡ [] = drop_of_length-le room l in
        let k : length (take (length room) (told (layout_of f)) ++ []) ≤ 10 = simp (append-nil, length-take) (omega (arith, min-le_right (length room) 10)) in
        rw n (drop_of_length-le (take (length room) (told (layout_of f)) ++ []) k))

    go : (x : ℕ) → drop 10 (answer x (take (length room) (told (layout_of f)) ++ drop 10 room) (λ k. room)) ≡ drop 10 room
    go zero = past
    go (suc x) = refl

-- and where the job is refused all of it stays
pub told_refused : (f room : List ℕ) → (read_refusal f ≡ 0 → ⊥) → told_in f room ≡ room
unfolding told_in
told_refused f room n = answer_refused (read_refusal f) _ (λ k. room) n

module _ (f : List ℕ) where
  nothing_seen : sees_stretch f 0 ≡ []
  unfolding sees_stretch
  nothing_seen = refl

  -- "hands back that stretch of the caller's file"
  pub part_seen : sees_stretch f (part_stretch f) ≡ part_answer f
  unfolding part_stretch part_answer part_in layout_of head_end
  part_seen = go (read_refusal f) refl
    where
      go : (x : ℕ) → read_refusal f ≡ x → sees_stretch f (answer x (stretch 18 (stack_bytes (settings_in f))) (λ k. 0)) ≡ answer x (take (stack_bytes (settings_in f)) (drop 18 f)) (λ k. [])
      go zero e =
          let m = stack_most (settings_in f) (ranged (settings_in f) ((accepted_exactly f).0 e).whole.settings) in
          stretch_back f 18 (stack_bytes (settings_in f)) (omega arith) (omega arith)
      go (suc x) e = nothing_seen

  pub support_seen : sees_stretch f (support_stretch f) ≡ support_answer f
  unfolding support_stretch support_answer support_in layout_of support_end
  support_seen = go (read_refusal f) refl
    where
      stored : (b : Bool) → eqb (stored_in f) 0 ≡ b → read_refusal f ≡ 0 →
          sees_stretch f (cond (not b) (stretch (part_end (settings_in f) + 4) (stored_in f * row_bytes (settings_in f).w)) 0)
          ≡ take (stored_in f * row_bytes (settings_in f).w) (drop (part_end (settings_in f) + 4) f)
      stored true z e =
          let c : stored_in f ≡ 0 = eqb-true (stored_in f) 0 z in
          let n : stored_in f * row_bytes (settings_in f).w ≡ 0 = ap (λ (k : ℕ). k * row_bytes (settings_in f).w) c ∙ zero-mul (row_bytes (settings_in f).w) in
          nothing_seen ∙ rw n
      stored false z e =
          let r = (rooms f ((accepted_exactly f).0 e).whole).support in
          let m = longest_file f e in
          stretch_back f (part_end (settings_in f) + 4) (stored_in f * row_bytes (settings_in f).w) (omega arith) (omega arith)

      go : (x : ℕ) → read_refusal f ≡ x →
          sees_stretch f (answer x (cond (not (eqb (stored_in f) 0)) (stretch (part_end (settings_in f) + 4) (stored_in f * row_bytes (settings_in f).w)) 0) (λ k. 0))
          ≡ answer x (take (stored_in f * row_bytes (settings_in f).w) (drop (part_end (settings_in f) + 4) f)) (λ k. [])
      go zero e = stored (eqb (stored_in f) 0) refl e
      go (suc x) e = nothing_seen

-- "No two answers look the same to a C caller": two calls that give the same number, whatever they were lent, say the same
pub look_alike : {a b : ℕ} {x y : List ℕ} (sees : ℕ → List ℕ) → sees a ≡ x → sees b ≡ y → a ≡ b → x ≡ y
look_alike sees ea eb e = sym ea ∙ ap sees e ∙ eb

-- Ends of the ranges, computed: the last pixel of the largest stack and layer 256, its last row, the longest job, the largest reach, a number alone
pub ends_seen :
    sees_place (pack_judged (NotJudged (AtPixel 11 (record { layer = 511; row = 255; column = 255 }))))
    ∷ sees_place (pack_judged (NotJudged (AtPixel 19 (record { layer = 511; row = 255; column = 255 }))))
    ∷ sees_place (pack_judged (NotJudged (AtPixel 9 (record { layer = 256; row = 0; column = 0 }))))
    ∷ sees_place (pack_judged (NotJudged (InRow 8 (record { layer = 511; row = 255 }))))
    ∷ sees_place (pack_planned (NotPlanned (InRow 7 (record { layer = 256; row = 0 }))))
    ∷ sees_value (pack_written (NotWritten (InRow 7 (record { layer = 1; row = 2 }))))
    ∷ sees_value (pack_written (Length 75366426))
    ∷ sees_value (pack_reached (By (record { 0 = 32 })))
    ∷ sees_place (pack_planned (NotPlanned (Number 18)))
    ∷ []
    ≡ (11 ∷ 511 ∷ 255 ∷ 255 ∷ []) ∷ (19 ∷ 511 ∷ 255 ∷ 255 ∷ []) ∷ (9 ∷ 256 ∷ 0 ∷ 0 ∷ []) ∷ (8 ∷ 511 ∷ 255 ∷ []) ∷ (7 ∷ 256 ∷ 0 ∷ []) ∷ (7 ∷ 1 ∷ 2 ∷ []) ∷ (0 ∷ 75366426 ∷ [])
    ∷ (0 ∷ 32 ∷ []) ∷ (18 ∷ []) ∷ []
unfolding sees_place sees_value sees_parts sees_above place_parts
ends_seen = refl
