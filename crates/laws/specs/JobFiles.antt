-- Which job files are accepted, and which jobs are written: each as one list of plain facts, and where the sections end.
use Rattle.std.specs.Prelude.{◌≡◌, ◌↔◌, List, [], ◌∷◌, ◌++◌, ◌&&◌, ℕ, ◌+◌, ◌*◌, ◌≤◌, ◌<◌, eqb}
use Rattle.std.proofs.Math.Path.{refl, sym}
use Rattle.std.proofs.Common.{ap, ◌∙◌, ⊎_elim, zero-le, mul-le-mul, zero-mul, le_refl, length-append}
use Rattle.std.proofs.Math.Bool.{Bool, true, false, not, cond}
use native.Mathlib.Omega.{arith}
use Rattle.std.proofs.Math.Dec.{ltb}
use Rattle.std.proofs.Math.ListN.{length, length-drop}
use Rattle.std.proofs.Math.Seq.{length-take-le}
use borrow.Author.Tests.{eq-eqb, ne_eqb, eqb-true, le-ltb, lt-ltb, ltb-false, not-false}
use Rattle.rules.specs.Tools.{some, Case, ◌when◌, refusal}
use Rattle.rules.specs.Images.{row_bytes, rows_of, stack_bytes, rings_in, padding_set}
use Rattle.rules.specs.Jobs.{Job, be32, head_end, part_end, support_count, support_end, ring_count, job_end, settings_in, stored_in, part_in, support_in, stored_rows, file_of, file_length}
use Rattle.rules.specs.Calls.{reach_cases, setting_cases, section_cases, read_cases, read_refusal, copy_cases, both_cases, write_cases, write_refusal}
use Rattle.rules.specs.declared.Settings.{Settings}
use Rattle.laws.specs.Refusals.{numbered, or_else, else_both, else_passes, else_first, lacks, never, refusal_append, case_out, case_told, settings_numbered, both_numbered, read_numbered}
use Rattle.laws.specs.Tests.{and_l, and_r, clash, or_out}
use Rattle.laws.specs.Limits.{Ranged, ranged, rows_least, stack_most, rings_most}
use Rattle.laws.specs.StackTables.{Lengths, Both, both_exactly, Padded}
use Rattle.laws.specs.Numbers.{length_put16s}

-- A section: its count stands in the file, is allowed, and its contents stand in the file --------------------------------

pub record Section (f : List ℕ) (at : ℕ) (allowed : ℕ → Bool) (u : ℕ) : Type 0 where
  pub room : at + 4 ≤ length f
  pub right : allowed (be32 f at) ≡ true
  pub fits : at + 4 + be32 f at * u ≤ length f

module _ (f : List ℕ) (at : ℕ) (allowed : ℕ → Bool) (u : ℕ) where
  pub section_out : refusal (section_cases f at allowed u) ≡ 0 → Section f at allowed u
  unfolding section_cases
  section_out e =
      let y : Bool = not (allowed (be32 f at)) in
      let z : Bool = ltb (length f) (at + 4 + be32 f at * u) in
      let a = case_out (ltb (length f) (at + 4)) 11 (cond y 13 (cond z 12 0)) e in
      let b = case_out y 12 (cond z 12 0) a.1 in
      let c = case_out z 11 0 b.1 in
      record { room = ltb-false _ _ a.0; right = not-false _ b.0; fits = ltb-false _ _ c.0 }

  pub section_in : Section f at allowed u → refusal (section_cases f at allowed u) ≡ 0
  unfolding section_cases
  section_in s = simp (le-ltb _ _ s.room, s.right, le-ltb _ _ s.fits)

  pub section_numbered : numbered (section_cases f at allowed u) ≡ true
  unfolding section_cases numbered
  section_numbered = refl

-- Reading, part by part, for settings s and a count c of section 3 -----------------------------------------------------

-- the padding of part and support
unfoldable pub padding_refusal : List ℕ → Settings → ℕ → ℕ
padding_refusal f s c =
    or_else (cond (padding_set s.w (rows_of s) (part_in f)) 7 0) (cond (padding_set s.w c (support_in f)) 8 0)

-- from section 4 on
unfoldable pub rings_refusal : List ℕ → Settings → ℕ → ℕ
rings_refusal f s c =
    or_else (refusal (section_cases f (support_end s c) (eqb (ring_count s c)) 2))
    (or_else (cond (ltb (job_end s c) (length f)) 14 0) (padding_refusal f s c))

-- from section 2 on
unfoldable pub body_refusal : List ℕ → Settings → ℕ
body_refusal f s =
    or_else (refusal (section_cases f head_end (eqb (rows_of s)) (row_bytes s.w)))
    (or_else (refusal (section_cases f (part_end s) (support_count s) (row_bytes s.w))) (rings_refusal f s (be32 f (part_end s))))

pub read_parts : (f : List ℕ) → read_refusal f ≡ or_else (refusal (section_cases f 0 (eqb 5) 2)) (or_else (refusal (setting_cases (settings_in f))) (body_refusal f (settings_in f)))
unfolding read_refusal read_cases body_refusal rings_refusal padding_refusal section_cases setting_cases reach_cases stored_in numbered
read_parts f =
    let s : Settings = settings_in f in
    let c : ℕ = stored_in f in
    let x : List Case = (14 when ltb (job_end s c) (length f)) ∷ [] in
    let y : List Case = (7 when padding_set s.w (rows_of s) (part_in f)) ∷ [] in
    let z : List Case = (8 when padding_set s.w c (support_in f)) ∷ [] in
    let l : List Case = x ++ (y ++ z) in
    let a : List Case = section_cases f 0 (eqb 5) 2 in
    let b : List Case = setting_cases s in
    let g : List Case = section_cases f head_end (eqb (rows_of s)) (row_bytes s.w) in
    let h : List Case = section_cases f (part_end s) (support_count s) (row_bytes s.w) in
    let i : List Case = section_cases f (support_end s c) (eqb (ring_count s c)) 2 in
    refusal_append a (b ++ (g ++ (h ++ (i ++ l)))) (section_numbered f 0 (eqb 5) 2)
    ∙ ap (or_else (refusal a))
    (refusal_append b (g ++ (h ++ (i ++ l))) (settings_numbered s)
    ∙ ap (or_else (refusal b))
    (refusal_append g (h ++ (i ++ l)) (section_numbered f head_end (eqb (rows_of s)) (row_bytes s.w))
    ∙ ap (or_else (refusal g))
    (refusal_append h (i ++ l) (section_numbered f (part_end s) (support_count s) (row_bytes s.w))
    ∙ ap (or_else (refusal h))
    (refusal_append i l (section_numbered f (support_end s c) (eqb (ring_count s c)) 2)
    ∙ ap (or_else (refusal i)) (refusal_append x (y ++ z) refl ∙ ap (or_else (refusal x)) (refusal_append y z refl))))))

-- A file that is accepted -----------------------------------------------------------------------------------------------------

-- "Nothing follows.": its length is the job's, so every section is whole, and padding alone is left to test
pub record WholeFile (f : List ℕ) : Type 0 where
  pub first : be32 f 0 ≡ 5
  pub settings : refusal (setting_cases (settings_in f)) ≡ 0
  pub part_count : be32 f head_end ≡ rows_of (settings_in f)
  pub support_counted : support_count (settings_in f) (stored_in f) ≡ true
  pub rings_counted : be32 f (support_end (settings_in f) (stored_in f)) ≡ ring_count (settings_in f) (stored_in f)
  pub ends : length f ≡ job_end (settings_in f) (stored_in f)

pub record GoodFile (f : List ℕ) : Type 0 where
  pub whole : WholeFile f
  pub part_clear : padding_set (settings_in f).w (rows_of (settings_in f)) (part_in f) ≡ false
  pub support_clear : padding_set (settings_in f).w (stored_in f) (support_in f) ≡ false

-- a number that no table of reading has but that of padding, or none: no other test refuses where reading gives it
abbrev Passes : ℕ → Type 0
Passes k = (cs : List Case) → (lacks 7 cs && lacks 8 cs) ≡ true → refusal cs ≡ k → refusal cs ≡ 0

whole_out : (f : List ℕ) (k : ℕ) → Passes k → read_refusal f ≡ k → WholeFile f × (padding_refusal f (settings_in f) (stored_in f) ≡ k)
unfolding body_refusal rings_refusal job_end stored_in section_cases setting_cases reach_cases lacks
whole_out f k n e =
    let s : Settings = settings_in f in
    let c : ℕ = stored_in f in
    let x : Bool = ltb (job_end s c) (length f) in
    let a : List Case = section_cases f 0 (eqb 5) 2 in
    let b : List Case = section_cases f head_end (eqb (rows_of s)) (row_bytes s.w) in
    let d : List Case = section_cases f (part_end s) (support_count s) (row_bytes s.w) in
    let g : List Case = section_cases f (support_end s c) (eqb (ring_count s c)) 2 in
    let p0 = else_passes (refusal a) _ k (n a refl) (sym (read_parts f) ∙ e) in
    let p1 = else_passes (refusal (setting_cases s)) (body_refusal f s) k (n (setting_cases s) refl) p0.1 in
    let p2 = else_passes (refusal b) _ k (n b refl) p1.1 in
    let p3 = else_passes (refusal d) (rings_refusal f s c) k (n d refl) p2.1 in
    let p4 = else_passes (refusal g) (or_else (cond x 14 0) (padding_refusal f s c)) k (n g refl) p3.1 in
    let p5 = else_passes (cond x 14 0) (padding_refusal f s c) k (n ((14 when x) ∷ []) refl) p4.1 in
    let one = section_out f 0 (eqb 5) 2 p0.0 in
    let two = section_out f head_end (eqb (rows_of s)) (row_bytes s.w) p2.0 in
    let three = section_out f (part_end s) (support_count s) (row_bytes s.w) p3.0 in
    let four = section_out f (support_end s c) (eqb (ring_count s c)) 2 p4.0 in
    let rc : be32 f (support_end s c) ≡ ring_count s c = sym (eqb-true _ _ four.right) in
    let low : support_end s c + 4 + ring_count s c * 2 ≤ length f = rw rc at four.fits in
    let high : length f ≤ support_end s c + 4 + ring_count s c * 2 = ltb-false _ _ (case_out x 13 0 p5.0).0 in
    let w : WholeFile f = record {
      first = sym (eqb-true _ _ one.right);
      settings = p1.0;
      part_count = sym (eqb-true _ _ two.right);
      support_counted = three.right;
      rings_counted = rc;
      ends = omega arith;
    } in
    (w, p5.1)

accepted_out : (f : List ℕ) → read_refusal f ≡ 0 → GoodFile f
unfolding padding_refusal
accepted_out f e =
    let s : Settings = settings_in f in
    let (w, p) = whole_out f 0 (λ cs l z. z) e in
    let y : Bool = padding_set s.w (rows_of s) (part_in f) in
    let z : Bool = padding_set s.w (stored_in f) (support_in f) in
    let q = else_both (cond y 7 0) (cond z 8 0) p in
    record { whole = w; part_clear = (case_out y 6 0 q.0).0; support_clear = (case_out z 7 0 q.1).0 }

-- how far the sections of a file of the job's length reach
pub record Rooms (f : List ℕ) : Type 0 where
  pub head : head_end + 4 ≤ length f
  pub part : part_end (settings_in f) + 4 ≤ length f
  pub support : support_end (settings_in f) (stored_in f) + 4 ≤ length f
  pub rings : support_end (settings_in f) (stored_in f) + 4 + ring_count (settings_in f) (stored_in f) * 2 ≡ length f

pub rooms : (f : List ℕ) → WholeFile f → Rooms f
unfolding job_end support_end part_end head_end
rooms f a =
    let e = a.ends in
    record { head = omega arith; part = omega arith; support = omega arith; rings = omega arith }

-- the lengths of what a whole file holds
module _ (f : List ℕ) (a : WholeFile f) where
  pub part_length : length (part_in f) ≡ stack_bytes (settings_in f)
  unfolding part_in part_end
  part_length = let r = rooms f a in length-take-le _ _ (rw length-drop (omega arith))

  pub support_length : length (support_in f) ≡ stored_in f * row_bytes (settings_in f).w
  unfolding support_in support_end
  support_length = let r = rooms f a in length-take-le _ _ (rw length-drop (omega arith))

-- 7 and 8 are given to files that are whole, for no other table has them
padded_part : (f : List ℕ) → read_refusal f ≡ 7 → WholeFile f × (padding_set (settings_in f).w (rows_of (settings_in f)) (part_in f) ≡ true)
unfolding padding_refusal lacks
padded_part f e =
    let (w, p) = whole_out f 7 (λ cs l z. absurd (never 6 cs (and_l (lacks 7 cs) (lacks 8 cs) l) z)) e in
    let y : Bool = padding_set (settings_in f).w (rows_of (settings_in f)) (part_in f) in
    let z : Bool = padding_set (settings_in f).w (stored_in f) (support_in f) in
    (w, case_told y 6 (else_first (cond y 7 0) (cond z 8 0) 7 (never 6 ((8 when z) ∷ []) refl) p))

padded_support : (f : List ℕ) → read_refusal f ≡ 8 → WholeFile f × (padding_set (settings_in f).w (stored_in f) (support_in f) ≡ true)
unfolding padding_refusal lacks
padded_support f e =
    let y : Bool = padding_set (settings_in f).w (rows_of (settings_in f)) (part_in f) in
    let (w, p) = whole_out f 8 (λ cs l z. absurd (never 7 cs (and_r (lacks 7 cs) (lacks 8 cs) l) z)) e in
    (w, case_told _ 7 (else_passes (cond y 7 0) _ 8 (λ z. absurd (never 7 ((7 when y) ∷ []) refl z)) p).1)

-- and so both are told of a stack that is whole
pub read_seven : (f : List ℕ) → read_refusal f ≡ 7 → WholeFile f × Padded (settings_in f) (part_in f)
read_seven f e = let (w, p) = padded_part f e in (w, record { settings = w.settings; long = part_length f w; set = p })

pub read_eight : (f : List ℕ) → read_refusal f ≡ 8 → WholeFile f × Padded (settings_in f) (support_in f)
unfolding support_count stack_bytes padding_set some
read_eight f e =
    let s : Settings = settings_in f in
    let (w, p) = padded_support f e in
    let n : length (support_in f) ≡ stored_in f * row_bytes s.w = support_length f w in
    let c : stored_in f ≡ rows_of s = ⊎_elim
    (λ z. clash (rw (eqb-true (stored_in f) 0 z) at p) refl)
    (λ z. eqb-true (stored_in f) (rows_of s) z)
    (or_out (eqb (stored_in f) 0) (eqb (stored_in f) (rows_of s)) w.support_counted) in
    (w, record { settings = w.settings; long = rw c at n; set = rw c at p })

module _ (f : List ℕ) (good : GoodFile f) where
  abbrev a : WholeFile f
  a = good.whole

  abbrev s : Settings
  s = settings_in f

  abbrev c : ℕ
  c = stored_in f

  one : Section f 0 (eqb 5) 2
  unfolding head_end
  one = let r = rooms f a in record { room = omega arith; right = rw a.first; fits = rw a.first (omega arith) }

  two : Section f head_end (eqb (rows_of s)) (row_bytes s.w)
  unfolding part_end stack_bytes
  two =
      let r = rooms f a in
      record { room = r.head; right = eq-eqb _ _ (sym a.part_count); fits = rw a.part_count (omega arith) }

  three : Section f (part_end s) (support_count s) (row_bytes s.w)
  unfolding stored_in support_end
  three = let r = rooms f a in record { room = r.part; right = a.support_counted; fits = omega arith }

  four : Section f (support_end s c) (eqb (ring_count s c)) 2
  four =
      let r = rooms f a in
      record { room = r.support; right = eq-eqb _ _ (sym a.rings_counted); fits = rw a.rings_counted (omega arith) }

  accepted_in : read_refusal f ≡ 0
  unfolding body_refusal rings_refusal padding_refusal stored_in
  accepted_in =
      let e : length f ≤ job_end s c = omega (arith, a.ends) in
      read_parts f
      ∙ simp (
        section_in f 0 (eqb 5) 2 one,
        a.settings,
        section_in f head_end (eqb (rows_of s)) (row_bytes s.w) two,
        section_in f (part_end s) (support_count s) (row_bytes s.w) three,
        section_in
            f (support_end s c) (eqb (ring_count s c)) 2 four,
        le-ltb _ _ e,
        good.part_clear,
        good.support_clear,
      )

pub accepted_exactly : (f : List ℕ) → (read_refusal f ≡ 0) ↔ GoodFile f
accepted_exactly f = (accepted_out f, accepted_in f)

-- Copying rings tests 6 after everything that reading tests -------------------------------------------------------------

pub copy_parts : (f : List ℕ) (room : ℕ) → refusal (copy_cases f room) ≡ or_else (read_refusal f) (cond (not (eqb room (ring_count (settings_in f) (stored_in f)))) 6 0)
unfolding copy_cases read_refusal
copy_parts f room = refusal_append (read_cases f) _ (read_numbered f)

pub copy_fits : (f : List ℕ) (room : ℕ) → read_refusal f ≡ 0 → room ≡ ring_count (settings_in f) (stored_in f) → refusal (copy_cases f room) ≡ 0
copy_fits f room e k = copy_parts f room ∙ simp (e, eq-eqb _ _ k)

-- A job that is written ---------------------------------------------------------------------------------------------------------

-- the count of its section 3
abbrev pub rows_stored : Job → ℕ
rows_stored j = stored_rows j.settings (length j.support)

pub record Writable (j : Job) : Type 0 where
  pub settings : refusal (setting_cases j.settings) ≡ 0
  pub part : length j.part ≡ stack_bytes j.settings
  pub support : length j.support ≡ rows_stored j * row_bytes j.settings.w
  pub rings : length j.rings ≡ ring_count j.settings (rows_stored j)
  pub part_clear : padding_set j.settings.w (rows_of j.settings) j.part ≡ false
  pub support_clear : padding_set j.settings.w (rows_stored j) j.support ≡ false

-- support and rings as the tables ask for them are those of the rows stored
module _ (s : Settings) (k : ℕ) where
  pub rows_counted : cond (not (eqb k 0)) (rows_of s) 0 ≡ stored_rows s k
  unfolding stored_rows
  rows_counted = go (eqb k 0)
    where
      go : (b : Bool) → cond (not b) (rows_of s) 0 ≡ cond b 0 (rows_of s)
      go true = refl
      go false = refl

  pub stored_bytes : cond (not (eqb k 0)) (stack_bytes s) 0 ≡ stored_rows s k * row_bytes s.w
  unfolding stored_rows stack_bytes
  stored_bytes = go (eqb k 0)
    where
      go : (b : Bool) → cond (not b) (rows_of s * row_bytes s.w) 0 ≡ cond b 0 (rows_of s) * row_bytes s.w
      go true = sym (zero-mul (row_bytes s.w))
      go false = refl

  pub stored_rings : Ranged s → cond (not (eqb k 0)) (rings_in s) 0 ≡ ring_count s (stored_rows s k)
  unfolding stored_rows ring_count
  stored_rings r = go (eqb k 0)
    where
      go : (b : Bool) → cond (not b) (rings_in s) 0 ≡ cond (eqb (cond b 0 (rows_of s)) 0) 0 (rings_in s)
      go true = refl
      go false = rw (ne_eqb (rows_of s) 0 (λ e. omega (arith, rows_least s r)))

pub stored_most : (s : Settings) (k : ℕ) → stored_rows s k ≤ rows_of s
unfolding stored_rows
stored_most s k = go (eqb k 0)
  where
    go : (b : Bool) → cond b 0 (rows_of s) ≤ rows_of s
    go true = zero-le
    go false = le_refl (rows_of s)

pub ring_count_most : (s : Settings) (c : ℕ) → Ranged s → ring_count s c ≤ 33488896
unfolding ring_count
ring_count_most s c r = go (eqb c 0)
  where
    go : (b : Bool) → cond b 0 (rings_in s) ≤ 33488896
    go true = zero-le
    go false = rings_most s r

-- the longest job has 75,366,426 bytes, so 15 is never given
pub longest_job : (j : Job) → Writable j → file_length j ≤ 75366426
unfolding file_length job_end support_end part_end head_end stack_bytes
longest_job j v =
    let s : Settings = j.settings in
    let r = ranged s v.settings in
    let p = mul-le-mul (stored_most s (length j.support)) (le_refl (row_bytes s.w)) in
    omega (arith, ring_count_most s (rows_stored j) r, stack_most s r)

-- "The writer .. answers the length"
pub length_file : (j : Job) → Writable j → length (file_of j) ≡ file_length j
unfolding file_of file_length job_end support_end part_end head_end
length_file j v = simp (length-append, length_put16s) (omega (arith, v.part, v.support, ap (λ (k : ℕ). k * 2) v.rings))

-- Writing: 1 to 8 with support or without, and then the room --------------------------------------------------------------

-- the job's length, and the room for it
unfoldable pub write_room : ℕ → ℕ → List Case
write_room k room = (15 when ltb 4294967295 k) ∷ (16 when ltb room k) ∷ []

-- whether the job has support
abbrev pub stores : Job → Bool
stores j = not (eqb (length j.support) 0)

abbrev pub job_cases : Job → List Case
job_cases j = both_cases j.settings (stores j) j.part j.support (length j.rings)

-- what no number of these refuses is a job that can be written
abbrev InOrder : Job → Type 0
InOrder j = Both j.settings (stores j) j.part j.support (length j.rings)

pub in_order : (j : Job) → InOrder j → Writable j
in_order j v =
    let s : Settings = j.settings in
    let k : ℕ = length j.support in
    let l = v.stack.lengths in
    record {
      settings = v.stack.settings;
      part = l.part_long;
      support = l.support_long ∙ stored_bytes s k;
      rings = l.rings_counted ∙ stored_rings s k (ranged s v.stack.settings);
      part_clear = v.stack.part_clear;
      support_clear = rw (← rows_counted s k) v.support_clear;
    }

order_of : (j : Job) → Writable j → InOrder j
order_of j v =
    let s : Settings = j.settings in
    let k : ℕ = length j.support in
    let l : Lengths s (stores j) (length j.part) k (length j.rings) = record {
      part_long = v.part;
      support_long = v.support ∙ sym (stored_bytes s k);
      rings_counted = v.rings ∙ sym (stored_rings s k (ranged s v.settings));
    } in
    record {
      stack = record { settings = v.settings; lengths = l; part_clear = v.part_clear };
      support_clear = rw (rows_counted s k) v.support_clear;
    }

pub write_parts : (j : Job) (room : ℕ) → write_refusal j room ≡ or_else (refusal (job_cases j)) (refusal (write_room (file_length j) room))
unfolding write_refusal write_cases write_room
write_parts j room = refusal_append (job_cases j) (write_room (file_length j) room) (both_numbered j.settings (stores j) j.part j.support (length j.rings))

writable_out : (j : Job) (room : ℕ) → write_refusal j room ≡ 0 → Writable j × (file_length j ≤ room)
unfolding write_room
writable_out j room e =
    let (a, b) = else_both (refusal (job_cases j)) (refusal (write_room (file_length j) room)) (sym (write_parts j room) ∙ e) in
    let b16 : Bool = ltb room (file_length j) in
    let u = case_out (ltb 4294967295 (file_length j)) 14 (cond b16 16 0) b in
    (in_order j ((both_exactly j.settings (stores j) j.part j.support (length j.rings)).0 a), ltb-false _ _ (case_out b16 15 0 u.1).0)

-- for a job in order the room alone decides
module _ (j : Job) (room : ℕ) (v : Writable j) where
  by_room : write_refusal j room ≡ cond (ltb room (file_length j)) 16 0
  unfolding write_room
  by_room =
      let never : file_length j ≤ 4294967295 = omega (arith, longest_job j v) in
      write_parts j room
      ∙ rw ((both_exactly j.settings (stores j) j.part j.support (length j.rings)).1 (order_of j v), le-ltb _ _ never)

  pub write_fits : file_length j ≤ room → write_refusal j room ≡ 0
  write_fits h = by_room ∙ rw (le-ltb _ _ h)

  pub write_short : room < file_length j → write_refusal j room ≡ 16
  write_short h = by_room ∙ rw (lt-ltb _ _ h)

pub writable_exactly : (j : Job) (room : ℕ) → (write_refusal j room ≡ 0) ↔ (Writable j × (file_length j ≤ room))
writable_exactly j room = (writable_out j room, λ p. write_fits j room p.0 p.1)
