-- What the reading functions know of a file, and what each of their tests says.
use Rattle.std.specs.Prelude.{◌≡◌, refl, List, Bool, true, false, not, ◌||◌, cond, ℕ, ◌+◌, ◌-◌, ◌*◌, ◌≤◌, ◌<◌, eqb, take, drop}
use Rattle.std.proofs.Common.{sym, ◌∙◌, ⊎_elim, arith}
use Rattle.std.proofs.Math.ListN.{length, length-drop}
use Rattle.std.proofs.Math.Seq.{length-take-le}
use borrow.Author.Tests.{eq-eqb, ne_eqb, eqb-true, le-ltb, lt-ltb, not-false}
use Rattle.rules.specs.Tools.{refusal}
use Rattle.rules.specs.Images.{row_bytes, rows_of, stack_bytes, first_padded}
use Rattle.rules.specs.Jobs.{be32, get16s, head_end, part_end, support_count, support_end, ring_count, settings_in, stored_in, part_in, support_in, rings_stored, layout_of}
use Rattle.rules.specs.Calls.{setting_cases, section_cases, read_refusal, copy_cases, tell_row, refused_in}
use Rattle.rules.specs.declared.Settings.{Settings}
use Rattle.rules.specs.declared.Refusal.{Refusal}
use Rattle.rules.specs.declared.Refusal.TheVariants.{Number}
use Rattle.laws.specs.Tests.{bool_eq, or_out, or_l}
use Rattle.laws.specs.Refusals.{else_both, case_out}
use Rattle.laws.specs.Limits.{ranged, rows_most}
use Rattle.laws.specs.StackTables.{Padded}
use Rattle.laws.specs.Padding.{refused_seven, refused_eight, refused_alone}
use Rattle.laws.specs.JobFiles.{Section, section_out, WholeFile, accepted_exactly, rooms, read_seven, read_eight, copy_parts}

-- a count that is to be a or b
abbrev pub one_of : ℕ → ℕ → ℕ → Bool
one_of a b c = eqb c a || eqb c b

-- section 3 is whole, with the count c
pub record Stored (f : List ℕ) (s : Settings) (c : ℕ) : Type 0 where
  pub fine : refusal (setting_cases s) ≡ 0
  pub same : s ≡ settings_in f
  pub count : c ≡ be32 f (part_end s)
  pub most : c ≤ 131072
  pub room : support_end s c ≤ length f

-- A section ------------------------------------------------------------------------------------------------------------

module _ (f : List ℕ) (at : ℕ) (allowed : ℕ → Bool) (u : ℕ) where
  pub count_cut : length f < at + 4 → 12 ≡ refusal (section_cases f at allowed u)
  unfolding section_cases
  count_cut h = simp (lt-ltb _ _ h)

  pub count_wrong : at + 4 ≤ length f → allowed (be32 f at) ≡ false → 13 ≡ refusal (section_cases f at allowed u)
  unfolding section_cases
  count_wrong h n = simp (le-ltb _ _ h, n)

  pub contents_cut : at + 4 ≤ length f → allowed (be32 f at) ≡ true → length f < at + 4 + be32 f at * u → 12 ≡ refusal (section_cases f at allowed u)
  unfolding section_cases
  contents_cut h y k = simp (le-ltb _ _ h, y, lt-ltb _ _ k)

  pub section_same : (other : ℕ → Bool) → allowed (be32 f at) ≡ other (be32 f at) → refusal (section_cases f at allowed u) ≡ refusal (section_cases f at other u)
  unfolding section_cases
  section_same other e = rw e

-- one count only
pub only : (f : List ℕ) (at a u : ℕ) → refusal (section_cases f at (one_of a a) u) ≡ refusal (section_cases f at (eqb a) u)
only f at a u = section_same f at (one_of a a) u (eqb a) (one (be32 f at))
  where
    one : (c : ℕ) → (eqb c a || eqb c a) ≡ eqb a c
    one c =
        bool_eq (eqb c a || eqb c a) (eqb a c)
        (λ t. eq-eqb a c (⊎_elim (λ y. sym (eqb-true c a y)) (λ y. sym (eqb-true c a y)) (or_out (eqb c a) (eqb c a) t)))
        (λ t. or_l (eqb c a) (eqb c a) (eq-eqb c a (sym (eqb-true a c t))))

-- 0 or all rows
pub none_or_all : (f : List ℕ) (s : Settings) (at u : ℕ) → refusal (section_cases f at (one_of 0 (rows_of s)) u) ≡ refusal (section_cases f at (support_count s) u)
unfolding support_count
none_or_all f s at u = section_same f at (one_of 0 (rows_of s)) u (support_count s) refl

-- What is known behind section 3 -----------------------------------------------------------------------------------------

support_most : (s : Settings) (c : ℕ) → refusal (setting_cases s) ≡ 0 → support_count s c ≡ true → c ≤ 131072
unfolding support_count
support_most s c e t =
    let r = rows_most s (ranged s e) in
    ⊎_elim (λ y. omega (arith, eqb-true c 0 y)) (λ y. omega (arith, eqb-true c (rows_of s) y)) (or_out (eqb c 0) (eqb c (rows_of s)) t)

module _ (f : List ℕ) (s : Settings) (c : ℕ) (e : c ≡ be32 f (part_end s)) where
  pub stored_whole : refusal (setting_cases s) ≡ 0 → s ≡ settings_in f → Section f (part_end s) (support_count s) (row_bytes s.w) → Stored f s c
  unfolding support_end
  stored_whole fine same v =
      record {
        fine = fine;
        same = same;
        count = e;
        most = support_most s c fine (rw e v.right);
        room = rw e v.fits;
      }

  pub stored_file : WholeFile f → s ≡ settings_in f → Stored f s c
  unfolding stored_in
  stored_file a same =
      let r = rooms f a in
      let d : c ≡ stored_in f = rw same at e in
      let fine : refusal (setting_cases s) ≡ 0 = rw same a.settings in
      record {
        fine = fine;
        same = same;
        count = e;
        most = support_most s c fine (rw (d, same) a.support_counted);
        room = rw (d, same) (omega arith);
      }

-- what a whole file has, for its settings
pub record Behind (f : List ℕ) (s : Settings) : Type 0 where
  pub fine : refusal (setting_cases s) ≡ 0
  pub count : part_end s + 4 ≤ length f

pub behind : (f : List ℕ) (s : Settings) → WholeFile f → s ≡ settings_in f → Behind f s
behind f s a same = record { fine = rw same a.settings; count = rw same (rooms f a).part }

pub head_whole : (f : List ℕ) → WholeFile f → 14 ≤ length f
unfolding head_end
head_whole f a = let r = rooms f a in omega arith

-- as an accepted file is
pub whole : (f : List ℕ) → read_refusal f ≡ 0 → WholeFile f
whole f z = ((accepted_exactly f).0 z).whole

-- The stretches --------------------------------------------------------------------------------------------------------------

pub part_stretch_lem : (f : List ℕ) (s : Settings) (e : ℕ) → s ≡ settings_in f → e ≡ part_end s → take (e - 18) (drop 18 f) ≡ part_in f
unfolding part_end part_in head_end
part_stretch_lem f s e same h =
    let n : e - 18 ≡ stack_bytes s = omega arith in
    rw (n, same)

pub support_stretch_lem : (f : List ℕ) (s : Settings) (c a e : ℕ) → Stored f s c → a ≡ part_end s → e ≡ support_end s c → take (e - (a + 4)) (drop (a + 4) f) ≡ support_in f
unfolding support_end support_in stored_in
support_stretch_lem f s c a e v h k =
    let n : e - (a + 4) ≡ c * row_bytes s.w = omega arith in
    rw (n, h, v.count, v.same)

-- section 1 is whole
pub first_whole : (f : List ℕ) → refusal (section_cases f 0 (eqb 5) 2) ≡ 0 → 14 ≤ length f
first_whole f e =
    let v = section_out f 0 (eqb 5) 2 e in
    let c : 5 ≡ be32 f 0 = eqb-true 5 (be32 f 0) v.right in
    omega (arith, v.fits)

-- Padding and rings ------------------------------------------------------------------------------------------------------------

module _ (f : List ℕ) (s : Settings) (c : ℕ) (v : Stored f s c) where
  pub part_room : part_end s ≤ length f
  unfolding support_end
  part_room = omega (arith, v.room)

  pub part_rows : rows_of s * row_bytes s.w ≤ length (part_in f)
  unfolding part_in part_end head_end stack_bytes
  part_rows =
      let r = part_room in
      let e : length (take (stack_bytes s) (drop 18 f)) ≡ stack_bytes s = length-take-le (stack_bytes s) (drop 18 f) (rw length-drop (omega arith)) in
      rw (← v.same) (omega arith)

  pub support_rows : c * row_bytes s.w ≤ length (support_in f)
  unfolding support_in stored_in support_end
  support_rows =
      let r = v.room in
      let e : length (take (c * row_bytes s.w) (drop (part_end s + 4) f)) ≡ c * row_bytes s.w = length-take-le (c * row_bytes s.w) (drop (part_end s + 4) f) (rw length-drop (omega arith)) in
      rw (← v.same, ← v.count) (omega arith)

module _ (f : List ℕ) (s : Settings) (c n room : ℕ) (same : s ≡ settings_in f) (count : c ≡ be32 f (part_end s)) (rings : n ≡ ring_count s c) where
  pub rings_of_lem : n ≡ ring_count (settings_in f) (stored_in f)
  unfolding stored_in
  rings_of_lem = rings ∙ rw (count, same)

  pub rings_right : room ≡ n → ◌≡◌ {A = ℕ} 0 (cond (not (eqb room (ring_count (settings_in f) (stored_in f)))) 6 0)
  rings_right e = simp (eq-eqb _ _ (e ∙ rings_of_lem))

  pub rings_wrong : (room ≡ n → ⊥) → ◌≡◌ {A = ℕ} 6 (cond (not (eqb room (ring_count (settings_in f) (stored_in f)))) 6 0)
  rings_wrong e = simp (ne_eqb _ _ (λ z. e (z ∙ sym rings_of_lem)))

-- a file whose rings are copied to so many places
pub record Copying (f : List ℕ) (room : ℕ) : Type 0 where
  pub accepted : read_refusal f ≡ 0
  pub fits : (layout_of f).rings + room * 2 ≤ length f
  pub all : get16s f (layout_of f).rings room ≡ rings_stored f

pub copying : (f : List ℕ) (room : ℕ) → refusal (copy_cases f room) ≡ 0 → Copying f room
unfolding layout_of rings_stored
copying f room e =
    let n : ℕ = ring_count (settings_in f) (stored_in f) in
    let p = else_both (read_refusal f) (cond (not (eqb room n)) 6 0) (sym (copy_parts f room) ∙ e) in
    let k : room ≡ n = eqb-true room n (not-false _ (case_out (not (eqb room n)) 5 0 p.1).0) in
    let r = rooms f (whole f p.0) in
    record { accepted = p.0; fits = omega (arith, r.rings); all = rw k }

-- A refusal with its row ----------------------------------------------------------------------------------------------------------

module _ (f : List ℕ) (s : Settings) (k : ℕ) (same : s ≡ settings_in f) where
  pub told_part : k ≡ 7 → (l : List ℕ) → l ≡ part_in f → (r : Refusal) → r ≡ tell_row s.h k (first_padded s l) → r ≡ refused_in f k
  unfolding refused_in
  told_part e l el r er = er ∙ rw (same, el) (sym (refused_seven (settings_in f) (part_in f) (support_in f) k e))

  pub told_support : k ≡ 8 → (l : List ℕ) → l ≡ support_in f → (r : Refusal) → r ≡ tell_row s.h k (first_padded s l) → r ≡ refused_in f k
  unfolding refused_in
  told_support e l el r er = er ∙ rw (same, el) (sym (refused_eight (settings_in f) (part_in f) (support_in f) k e))

  -- the stretch is a stack with padding
  pub part_padded : read_refusal f ≡ 7 → (l : List ℕ) → l ≡ part_in f → Padded s l
  part_padded z l el = rw (same, el) (read_seven f z).1

  pub support_padded : read_refusal f ≡ 8 → (l : List ℕ) → l ≡ support_in f → Padded s l
  support_padded z l el = rw (same, el) (read_eight f z).1

pub told_alone : (f : List ℕ) (k : ℕ) → (k ≡ 7 → ⊥) → (k ≡ 8 → ⊥) → Number k ≡ refused_in f k
unfolding refused_in
told_alone f k a b = sym (refused_alone (settings_in f) (part_in f) (support_in f) k a b)
