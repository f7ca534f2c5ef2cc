-- Demand 1, call by call: each number is answered exactly when it is given by the call's table, and nothing is refused exactly when
-- no condition holds; 7 and 8 tell their first row. Numbers 9, 10, 11 and 19 are told exactly at their first place.
use Rattle.std.specs.Prelude.{◌≡◌, ◌↔◌, false, not, cond, eqb, length, get_or}
use Rattle.std.proofs.Math.Path.{refl, sym, ap, subst}
use Rattle.std.proofs.Common.{◌∙◌, add-one, arith}
use Rattle.std.proofs.Math.Bool.{Bool, true}
use mathlib.Core.List.{List, [], ◌∷◌, ◌++◌}
use Prim.Native.Nat.{ℕ, zero, suc, ◌+◌, ◌-◌, ◌*◌, ◌/◌, ◌%◌, ◌<◌}
use Rattle.std.proofs.Math.Nat.{div-add-mod'}
use Rattle.std.proofs.Math.Arith.{digits_lt, digits_div, digits_mod}
use Rattle.rules.specs.Tools.{Case, refusal, answer, Found, nothing, found, first}
use Rattle.rules.specs.Images.{Stack, Rings}
use Rattle.rules.specs.Reach.{reach_of}
use Rattle.rules.specs.Judging.{overlap, bad_ring, unheld, unheld_number, first_in, place_of, tell, verdict}
use Rattle.rules.specs.Jobs.{Job, head_end, part_end, support_end, ring_count, settings_in, stored_in, part_in, support_in, layout_of, file_length}
use Rattle.rules.specs.Calls.{says_reached, says_planned, says_settings, says_read, says_copied, says_written, reach_cases, reach_answer, plan_cases, plan_refusal}
use Rattle.rules.specs.Calls.{length_cases, setting_cases, stack_cases, refused_in}
use Rattle.rules.specs.Calls.{clean_cases, clean_refusal, clean_answer, posts_cases, posts_refusal, posts_answer, plan_answer, read_cases, read_refusal, read_answer, copy_cases, copy_answer, write_cases, write_refusal, write_answer}
use Rattle.rules.specs.Demands.{Given, FirstAt, Tells}
use Rattle.rules.specs.declared.Micrometres.{Micrometres}
use Rattle.rules.specs.declared.Pixels.{Pixels}
use Rattle.rules.specs.declared.Settings.{Settings}
use Rattle.rules.specs.declared.Place.{Place}
use Rattle.rules.specs.declared.Judged.{Judged}
use Rattle.rules.specs.declared.Refusal.{Refusal}
use Rattle.rules.specs.declared.Refusal.TheVariants.{AtPixel}
use Rattle.rules.specs.declared.Judged.TheVariants.{Accepted, Refused}
use Rattle.rules.specs.declared.Reached.TheVariants.{By, Refused as NotReached}
use Rattle.rules.specs.declared.Planned.TheVariants.{Done, Refused as NotPlanned}
use Rattle.rules.specs.declared.Layout.{Layout}
use Rattle.rules.specs.declared.ReadJob.{ReadJob}
use Rattle.rules.specs.declared.ReadJob.TheVariants.{Job as IsJob, Refused as NotRead}
use Rattle.rules.specs.declared.CopiedRings.TheVariants.{Copied, Refused as NotCopied}
use Rattle.rules.specs.declared.WrittenJob.TheVariants.{Length, Refused as NotWritten}
use Rattle.laws.specs.Tests.{split}
use Rattle.laws.specs.Refusals.{given_exactly, answer_fine, lacks, never, else_first}
use Rattle.laws.specs.Padding.{number_exactly, tells}
use Rattle.laws.specs.StackTables.{stack_seven, both_seven, both_eight, clean_seven, posts_seven}
use Rattle.laws.specs.JobFiles.{read_seven, read_eight, copy_parts, stores, job_cases, write_room, write_parts}
use Rattle.laws.specs.Places.{First, one_is, first_is, first_unique, digits_in, number_of, flat_is, earlier_less, less_earlier, Nowhere, nowhere_in, nowhere_out}

-- Each call --------------------------------------------------------------------------------------------------------------

-- an answer that says the number alone where the table refuses, and begins with 0 where it does not
says_exactly : {A : Type 0} (says : A → List ℕ) (cs : List Case) (fine : A) (refused : ℕ → A) (k : ℕ) (v : List ℕ) → says fine ≡ 0 ∷ v → ((j : ℕ) → says (refused j) ≡ j ∷ []) →
    (says (answer (refusal cs) fine refused) ≡ suc k ∷ []) ↔ Given (suc k) cs
says_exactly says cs fine refused k v f r = (
  (λ e. (given_exactly cs k).0 (go (refusal cs) e)),
  (λ g.
      let z : refusal cs ≡ suc k = (given_exactly cs k).1 g in
      ap (λ (x : ℕ). says (answer x fine refused)) z ∙ r (suc k)),
)
  where
    go : (x : ℕ) → says (answer x fine refused) ≡ suc k ∷ [] → x ≡ suc k
    go zero e = absurd (let y : 0 ∷ v ≡ suc k ∷ [] = sym f ∙ e in let z : ◌≡◌ {A = ℕ} 0 (suc k) = cc in omega arith)
    go (suc x) e = let y : suc x ∷ [] ≡ suc k ∷ [] = sym (r (suc x)) ∙ e in cc

pub reach_refuses : (p t : Micrometres) (k : ℕ) → (says_reached (reach_answer p t) ≡ suc k ∷ []) ↔ Given (suc k) (reach_cases p t)
unfolding reach_answer
reach_refuses p t k = says_exactly says_reached (reach_cases p t) (By (reach_of p t)) NotReached k _ refl (λ j. refl)

-- the other calls say a place behind the number where it has one, so the number is the first of what they say
module _ (s : Settings) (part : List ℕ) (a b : ℕ) where
  pub plan_refuses : (k : ℕ) → (get_or (says_planned (plan_answer s part a b)) 0 0 ≡ suc k) ↔ Given (suc k) (plan_cases s part a b)
  unfolding plan_answer plan_refusal
  plan_refuses k = number_exactly says_planned Done NotPlanned (λ j. refl) (plan_cases s part a b) s part [] k (λ e. omega arith)

  pub plan_tells : Tells (says_planned (plan_answer s part a b)) (plan_cases s part a b) s part []
  unfolding plan_answer plan_refusal plan_cases stack_cases length_cases setting_cases reach_cases lacks
  plan_tells =
      tells says_planned Done NotPlanned (λ j. refl) (plan_cases s part a b) s part [] (λ e. omega arith) (λ e. omega arith)
      (λ e. (stack_seven s true part a b e).set)
      (λ e. absurd (never 7 (plan_cases s part a b) refl e))

module _ (s : Settings) (c : Pixels) (part : List ℕ) (x y z : ℕ) where
  pub clean_refuses : (k : ℕ) → (get_or (says_planned (clean_answer s c part x y z)) 0 0 ≡ suc k) ↔ Given (suc k) (clean_cases s c part x y z)
  unfolding clean_answer clean_refusal
  clean_refuses k = number_exactly says_planned Done NotPlanned (λ j. refl) (clean_cases s c part x y z) s part [] k (λ e. omega arith)

  pub clean_tells : Tells (says_planned (clean_answer s c part x y z)) (clean_cases s c part x y z) s part []
  unfolding clean_answer clean_refusal clean_cases setting_cases reach_cases lacks
  clean_tells =
      tells says_planned Done NotPlanned (λ j. refl) (clean_cases s c part x y z) s part [] (λ e. omega arith) (λ e. omega arith)
      (λ e. (clean_seven s c part x y z e).set)
      (λ e. absurd (never 7 (clean_cases s c part x y z) refl e))

module _ (s : Settings) (r : Micrometres) (part : List ℕ) (room : ℕ) where
  pub posts_refuses : (k : ℕ) → (get_or (says_planned (posts_answer s r part room)) 0 0 ≡ suc k) ↔ Given (suc k) (posts_cases s r part room)
  unfolding posts_answer posts_refusal
  posts_refuses k = number_exactly says_planned Done NotPlanned (λ j. refl) (posts_cases s r part room) s part [] k (λ e. omega arith)

  pub posts_tells : Tells (says_planned (posts_answer s r part room)) (posts_cases s r part room) s part []
  unfolding posts_answer posts_refusal posts_cases setting_cases reach_cases lacks
  posts_tells =
      tells says_planned Done NotPlanned (λ j. refl) (posts_cases s r part room) s part [] (λ e. omega arith) (λ e. omega arith)
      (λ e. (posts_seven s r part room e).set)
      (λ e. absurd (never 7 (posts_cases s r part room) refl e))

module _ (f : List ℕ) where
  pub read_refuses : (k : ℕ) → (get_or (says_read (read_answer f)) 0 0 ≡ suc k) ↔ Given (suc k) (read_cases f)
  unfolding read_answer read_refusal refused_in
  read_refuses k = number_exactly says_read (IsJob (layout_of f)) NotRead (λ j. refl) (read_cases f) (settings_in f) (part_in f) (support_in f) k (λ e. omega arith)

  pub read_tells : Tells (says_read (read_answer f)) (read_cases f) (settings_in f) (part_in f) (support_in f)
  unfolding read_answer read_refusal refused_in
  read_tells =
      tells says_read (IsJob (layout_of f)) NotRead (λ j. refl) (read_cases f) (settings_in f) (part_in f) (support_in f) (λ e. omega arith) (λ e. omega arith)
      (λ e. (read_seven f e).1.set) (λ e. (read_eight f e).1.set)

  -- copying gives what reading gives before its own 6
  pub copied_as_read : (room k : ℕ) → (6 ≡ suc k → ⊥) → refusal (copy_cases f room) ≡ suc k → read_refusal f ≡ suc k
  copied_as_read room k n e = else_first (read_refusal f) _ (suc k) (go (not (eqb room (ring_count (settings_in f) (stored_in f))))) (sym (copy_parts f room) ∙ e)
    where
      go : (b : Bool) → cond b 6 0 ≡ suc k → ⊥
      go true h = n h
      go false h = omega arith

  pub copy_refuses : (room k : ℕ) → (get_or (says_copied (copy_answer f room)) 0 0 ≡ suc k) ↔ Given (suc k) (copy_cases f room)
  unfolding copy_answer refused_in
  copy_refuses room k = number_exactly says_copied Copied NotCopied (λ j. refl) (copy_cases f room) (settings_in f) (part_in f) (support_in f) k (λ e. omega arith)

  pub copy_tells : (room : ℕ) → Tells (says_copied (copy_answer f room)) (copy_cases f room) (settings_in f) (part_in f) (support_in f)
  unfolding copy_answer refused_in
  copy_tells room =
      tells says_copied Copied NotCopied (λ j. refl) (copy_cases f room) (settings_in f) (part_in f) (support_in f) (λ e. omega arith) (λ e. omega arith)
      (λ e. (read_seven f (copied_as_read room 6 (λ h. omega arith) e)).1.set)
      (λ e. (read_eight f (copied_as_read room 7 (λ h. omega arith) e)).1.set)

module _ (j : Job) (room : ℕ) where
  pub write_refuses : (k : ℕ) → (get_or (says_written (write_answer j room)) 0 0 ≡ suc k) ↔ Given (suc k) (write_cases j room)
  unfolding write_answer write_refusal
  write_refuses k = number_exactly says_written (Length (file_length j)) NotWritten (λ r. refl) (write_cases j room) j.settings j.part j.support k (λ e. omega arith)

  -- 7 and 8 of writing are those of part and support
  pub written_as_both : (k : ℕ) → lacks (suc k) (write_room (file_length j) room) ≡ true → write_refusal j room ≡ suc k → refusal (job_cases j) ≡ suc k
  written_as_both k l e = else_first (refusal (job_cases j)) _ (suc k) (never k (write_room (file_length j) room) l) (sym (write_parts j room) ∙ e)

  pub write_tells : Tells (says_written (write_answer j room)) (write_cases j room) j.settings j.part j.support
  unfolding write_answer write_refusal write_room lacks
  write_tells =
      tells says_written (Length (file_length j)) NotWritten (λ r. refl) (write_cases j room) j.settings j.part j.support (λ e. omega arith) (λ e. omega arith)
      (λ e. (both_seven j.settings (stores j) j.part j.support (length j.rings) (written_as_both 6 refl e)).set)
      (λ e. (both_eight j.settings (stores j) j.part j.support (length j.rings) (written_as_both 7 refl e)).set)

-- what the calls answer where nothing is refused
pub reach_answers : (p t : Micrometres) → refusal (reach_cases p t) ≡ 0 → says_reached (reach_answer p t) ≡ 0 ∷ (reach_of p t).0 ∷ []
unfolding reach_answer
reach_answers p t e = ap says_reached (answer_fine (refusal (reach_cases p t)) (By (reach_of p t)) NotReached e)

-- "the settings, the presence of support and, for each section, the offset of the first byte after its count"
pub read_answers : (f : List ℕ) → read_refusal f ≡ 0 →
    says_read (read_answer f) ≡ 0 ∷ says_settings (settings_in f) ++ cond (not (eqb (stored_in f) 0)) 1 0 ∷ 4 ∷ 18 ∷ (part_end (settings_in f) + 4) ∷ (support_end (settings_in f) (stored_in f) + 4) ∷ []
unfolding read_answer layout_of head_end
read_answers f e = ap says_read (answer_fine (read_refusal f) (IsJob (layout_of f)) (λ k. NotRead (refused_in f k)) e)

-- what an answer of reading says of the file
pub job_read : (f : List ℕ) (r : ReadJob) (l : Layout) → r ≡ read_answer f → r ≡ IsJob l → (read_refusal f ≡ 0) × (l ≡ layout_of f)
unfolding read_answer
job_read f r l is e = go (read_refusal f) refl (sym e ∙ is)
  where
    go : (k : ℕ) → read_refusal f ≡ k → IsJob l ≡ answer k (IsJob (layout_of f)) (λ k. NotRead (refused_in f k)) → (read_refusal f ≡ 0) × (l ≡ layout_of f)
    go zero z y = (z, cc)
    go (suc k) z y = absurd (let x : ◌≡◌ {A = ℕ} 0 1 = cc in omega arith)

pub job_refused : (f : List ℕ) (r : ReadJob) (k : Refusal) → r ≡ read_answer f → r ≡ NotRead k → (k ≡ refused_in f (read_refusal f)) × (read_refusal f ≡ 0 → ⊥)
unfolding read_answer
job_refused f r k is e = go (read_refusal f) refl (sym e ∙ is)
  where
    go : (j : ℕ) → read_refusal f ≡ j → NotRead k ≡ answer j (IsJob (layout_of f)) (λ i. NotRead (refused_in f i)) → (k ≡ refused_in f (read_refusal f)) × (read_refusal f ≡ 0 → ⊥)
    go zero z y = absurd (let x : ◌≡◌ {A = ℕ} 0 1 = cc in omega arith)
    go (suc j) z y = let x : k ≡ refused_in f (suc j) = cc in (x ∙ ap (refused_in f) (sym z), λ n. omega arith)

pub write_answers : (j : Job) (room : ℕ) → write_refusal j room ≡ 0 → says_written (write_answer j room) ≡ 0 ∷ file_length j ∷ []
unfolding write_answer
write_answers j room e = ap says_written (answer_fine (write_refusal j room) (Length (file_length j)) _ e)

-- The checker's places ------------------------------------------------------------------------------------------------------

module _ (w h : ℕ) where
  place_of_lem : (up i r c : ℕ) → r < h → c < w → place_of w h up (number_of w h i r c) ≡ record { layer = i + up; row = r; column = c }
  unfolding place_of
  place_of_lem up i r c lr lc =
      let p : r * w + c < h * w = digits_lt lr lc in
      let a : number_of w h i r c / (h * w) ≡ i = digits_div i p in
      let b : number_of w h i r c / w ≡ i * h + r = rw (flat_is w h i r c) (digits_div (i * h + r) lc) in
      let d : number_of w h i r c % w ≡ c = rw (flat_is w h i r c) (digits_mod (i * h + r) lc) in
      rw (a, b, d, digits_mod i lr)

  module _ (n up : ℕ) (f : Stack) where
    F : ℕ → Bool
    F x = f (x / (h * w)) (x % (h * w))

    at_number : (i r c : ℕ) → r < h → c < w → F (number_of w h i r c) ≡ f i (r * w + c)
    unfolding F
    at_number i r c lr lc = let p : r * w + c < h * w = digits_lt lr lc in rw (digits_div i p, digits_mod i p)

    found_first : (x : ℕ) → First 0 (n * (h * w)) F (found x) → FirstAt w h n up f (place_of w h up x)
    unfolding F
    found_first x (one_is l b t g) =
        let (li, lp) = digits_in x n (h * w) (omega arith) in
        let i : ℕ = x / (h * w) in
        let p : ℕ = x % (h * w) in
        let (lr, lc) = digits_in p h w lp in
        let r : ℕ = p / w in
        let c : ℕ = p % w in
        let rc : r * w + c ≡ p = div-add-mod' p w in
        let ix : i * (h * w) + p ≡ x = div-add-mod' x (h * w) in
        let nx : number_of w h i r c ≡ x = ap (λ (z : ℕ). i * (h * w) + z) rc ∙ ix in
        record {
          i = i;
          r = r;
          c = c;
          inside = (li, lr, lc);
          told = ap (place_of w h up) (sym nx) ∙ place_of_lem up i r c lr lc;
          passes = ap (f i) rc ∙ t;
          none_earlier = λ j s d lj ls ld e.
              sym (at_number j s d ls ld) ∙ g (number_of w h j s d) (omega arith) (subst (λ (z : ℕ). number_of w h j s d < z) nx (earlier_less w h j s d i r c ls ld e));
        }

    first_found : (at : Place) → FirstAt w h n up f at → (x : ℕ) × First 0 (n * (h * w)) F (found x) × (at ≡ place_of w h up x)
    first_found at a =
        let i : ℕ = a.i in
        let r : ℕ = a.r in
        let c : ℕ = a.c in
        let (li, lr, lc) = a.inside in
        let x : ℕ = number_of w h i r c in
        let p : r * w + c < h * w = digits_lt lr lc in
        let lx : x < n * (h * w) = digits_lt li p in (
          x,
          one_is {x = x} (omega arith) (omega arith) (at_number i r c lr lc ∙ a.passes) (λ y _ ly.
              let (lj, lq) = digits_in y n (h * w) (omega arith) in
              let (ls, ld) = digits_in (y % (h * w)) h w lq in
              let ny : number_of w h (y / (h * w)) (y % (h * w) / w) (y % (h * w) % w) ≡ y =
              ap (λ (z : ℕ). y / (h * w) * (h * w) + z) (div-add-mod' (y % (h * w)) w) ∙ div-add-mod' y (h * w) in
              let e = less_earlier w h (y / (h * w)) (y % (h * w) / w) (y % (h * w) % w) i r c lr lc (subst (λ (z : ℕ). z < x) (sym ny) ly) in
              ap F (sym ny) ∙ at_number (y / (h * w)) (y % (h * w) / w) (y % (h * w) % w) ls ld ∙ a.none_earlier _ _ _ lj ls ld e),
          a.told ∙ sym (place_of_lem up i r c lr lc),
        )

    -- a search tells a place exactly when it is the first
    tells_exactly : (at : Place) → ((x : ℕ) × (first_in w h n f ≡ found x) × (at ≡ place_of w h up x)) ↔ FirstAt w h n up f at
    unfolding first_in F
    tells_exactly at = (
      (λ (x, e, p). subst (FirstAt w h n up f) (sym p) (found_first x (subst (First 0 (n * (h * w)) F) e (first_is 0 (n * (h * w)) F)))),
      (λ a.
          let (x, o, p) = first_found at a in
          (x, first_unique 0 (n * (h * w)) F (first 0 (n * (h * w)) F) (found x) (first_is 0 (n * (h * w)) F) o, p)),
    )

-- the layer and the pixel of a place that is told one layer higher
told_pixel : (w h n x : ℕ) → x < n * (h * w) → ((place_of w h 1 x).layer ≡ suc (x / (h * w))) × ((place_of w h 1 x).row * w + (place_of w h 1 x).column ≡ x % (h * w))
unfolding place_of
told_pixel w h n x l =
    let (li, lp) = digits_in x n (h * w) l in
    let (lr, lc) = digits_in (x % (h * w)) h w lp in
    let rc : x % (h * w) / w * w + x % (h * w) % w ≡ x % (h * w) = div-add-mod' (x % (h * w)) w in
    let nx : number_of w h (x / (h * w)) (x % (h * w) / w) (x % (h * w) % w) ≡ x = ap (λ (z : ℕ). x / (h * w) * (h * w) + z) rc ∙ div-add-mod' x (h * w) in
    let p = place_of_lem w h 1 (x / (h * w)) (x % (h * w) / w) (x % (h * w) % w) lr lc in
    let q : place_of w h 1 x ≡ record { layer = x / (h * w) + 1; row = x % (h * w) / w; column = x % (h * w) % w } = ap (place_of w h 1) (sym nx) ∙ p in
    (add-one (x / (h * w)), ap (λ (a : Place). a.row * w + a.column) q ∙ rc)

-- what a verdict is, by what the three searches find
module _ (w h n : ℕ) (q : ℕ → ℕ) (part sup : Stack) (ring : Rings) where
  abbrev judgement : Judged
  judgement = verdict w h n q part sup ring

  abbrev at_pixel : ℕ → Place → Judged
  at_pixel k at = Refused (AtPixel k at)

  told_number : (k : ℕ → ℕ → ℕ) (up : ℕ) (o : Found) (v : Judged) (j : ℕ) (at : Place) → ((i p : ℕ) → k i p ≡ j → ⊥) → tell w h k up o v ≡ at_pixel j at → (o ≡ nothing) × (v ≡ at_pixel j at)
  unfolding tell
  told_number k up nothing v j at ne e = (refl, e)
  told_number k up (found x) v j at ne e = let z : k (x / (h * w)) (x % (h * w)) ≡ j = cc in absurd (ne (x / (h * w)) (x % (h * w)) z)

  told_place : (k : ℕ → ℕ → ℕ) (up : ℕ) (o : Found) (v : Judged) (j : ℕ) (at : Place) → ((b : Place) → v ≡ at_pixel j b → ⊥) → tell w h k up o v ≡ at_pixel j at →
      (x : ℕ) × (o ≡ found x) × (at ≡ place_of w h up x) × (k (x / (h * w)) (x % (h * w)) ≡ j)
  unfolding tell
  told_place k up nothing v j at ne e = absurd (ne at e)
  told_place k up (found x) v j at ne e = (x, refl, cc, cc)

  -- an unheld pixel is told as 11 or 19
  unheld_number_lem : (j i p : ℕ) → (11 ≡ j → ⊥) → (19 ≡ j → ⊥) → unheld_number part i p ≡ j → ⊥
  unfolding unheld_number
  unheld_number_lem j i p a b e = split (part (suc i) p) (λ t. a (rw t at e)) (λ t. b (rw t at e))

  accepted_at : (j : ℕ) (b : Place) → Accepted ≡ at_pixel j b → ⊥
  accepted_at j b e = let y : ◌≡◌ {A = ℕ} 0 1 = cc in omega arith

  last_number : (j : ℕ) (at : Place) → (11 ≡ j → ⊥) → (19 ≡ j → ⊥) → tell w h (unheld_number part) 1 (first_in w h (n - 1) (unheld part sup ring)) Accepted ≡ at_pixel j at → ⊥
  last_number j at a b e =
      let (o, z) = told_number (unheld_number part) 1 (first_in w h (n - 1) (unheld part sup ring)) Accepted j at (λ i p. unheld_number_lem j i p a b) e in
      accepted_at j at z

  -- "overlap": 9 at the first pixel of support inside part
  pub told_overlap : (at : Place) → (judgement ≡ at_pixel 9 at) ↔ FirstAt w h n 0 (overlap part sup) at
  unfolding verdict tell
  told_overlap at = (
    (λ e.
        let (x, o, p, k) = told_place (λ i p. 9) 0 (first_in w h n (overlap part sup)) _ 9 at (λ b e'.
        let (o, e'') = told_number (λ i p. 10) 1 (first_in w h (n - 1) (bad_ring w h q part ring)) _ 9 b (λ i p z. omega arith) e' in
        last_number 9 b (λ z. omega arith) (λ z. omega arith) e'') e in
        (tells_exactly w h n 0 (overlap part sup) at).0 (x, o, p)),
    (λ a. let (x, e, p) = (tells_exactly w h n 0 (overlap part sup) at).1 a in rw e (ap (at_pixel 9) (sym p))),
  )

  -- "Overlap anywhere comes before any bad ring": 10 at the first bad ring
  pub told_bad_ring : (at : Place) → (judgement ≡ at_pixel 10 at) ↔ (Nowhere w h n (overlap part sup) × FirstAt w h (n - 1) 1 (bad_ring w h q part ring) at)
  unfolding verdict tell
  told_bad_ring at = (
    (λ e.
        let (o, e₁) = told_number (λ i p. 9) 0 (first_in w h n (overlap part sup)) _ 10 at (λ i p z. omega arith) e in
        let (x, f, p, k) = told_place (λ i p. 10) 1 (first_in w h (n - 1) (bad_ring w h q part ring)) _ 10 at (λ b e'. last_number 10 b (λ z. omega arith) (λ z. omega arith) e') e₁ in
        (nowhere_out w h n (overlap part sup) o, (tells_exactly w h (n - 1) 1 (bad_ring w h q part ring) at).0 (x, f, p))),
    (λ (none, a).
        let (x, e, p) = (tells_exactly w h (n - 1) 1 (bad_ring w h q part ring) at).1 a in
        rw (nowhere_in w h n (overlap part sup) none, e) (ap (at_pixel 10) (sym p))),
  )

  -- the number that an unheld pixel has at its place
  abbrev unheld_at : Place → ℕ
  unheld_at at = cond (part at.layer (at.row * w + at.column)) 11 19

  unheld_at_lem : (x : ℕ) → x < (n - 1) * (h * w) → unheld_number part (x / (h * w)) (x % (h * w)) ≡ unheld_at (place_of w h 1 x)
  unfolding unheld_number
  unheld_at_lem x l = let (a, b) = told_pixel w h (n - 1) x l in rw (a, b)

  -- a place that is found is that of a pixel
  found_below : (x : ℕ) → first_in w h (n - 1) (unheld part sup ring) ≡ found x → x < (n - 1) * (h * w)
  unfolding first_in
  found_below x e = go (first 0 ((n - 1) * (h * w)) f) (first_is 0 ((n - 1) * (h * w)) f) e
    where
      f : ℕ → Bool
      f y = unheld part sup ring (y / (h * w)) (y % (h * w))

      go : (o : Found) → First 0 ((n - 1) * (h * w)) f o → o ≡ found x → x < (n - 1) * (h * w)
      go nothing a z = absurd (let y : ◌≡◌ {A = ℕ} 0 1 = cc in omega arith)
      go (found y) (one_is a b t g) z = let i : y ≡ x = cc in omega arith

  -- "and any bad ring before any unheld pixel": 11 or 19 at the first unheld pixel, and which of them by what it is
  pub told_unheld : (j : ℕ) (at : Place) → (9 ≡ j → ⊥) → (10 ≡ j → ⊥) → (judgement ≡ at_pixel j at) ↔
      (Nowhere w h n (overlap part sup) × Nowhere w h (n - 1) (bad_ring w h q part ring) × FirstAt w h (n - 1) 1 (unheld part sup ring) at × (unheld_at at ≡ j))
  unfolding verdict tell
  told_unheld j at n9 n10 = (
    (λ e.
        let (o, e₁) = told_number (λ i p. 9) 0 (first_in w h n (overlap part sup)) _ j at (λ i p z. n9 z) e in
        let (b, e₂) = told_number (λ i p. 10) 1 (first_in w h (n - 1) (bad_ring w h q part ring)) _ j at (λ i p z. n10 z) e₁ in
        let (x, f, p, k) = told_place (unheld_number part) 1 (first_in w h (n - 1) (unheld part sup ring)) Accepted j at (accepted_at j) e₂ in (
          nowhere_out w h n (overlap part sup) o,
          nowhere_out w h (n - 1) (bad_ring w h q part ring) b,
          (tells_exactly w h (n - 1) 1 (unheld part sup ring) at).0 (x, f, p),
          ap unheld_at p ∙ sym (unheld_at_lem x (found_below x f)) ∙ k,
        )),
    (λ (none, good, a, k).
        let (x, e, p) = (tells_exactly w h (n - 1) 1 (unheld part sup ring) at).1 a in
        let m : unheld_number part (x / (h * w)) (x % (h * w)) ≡ j = unheld_at_lem x (found_below x e) ∙ ap unheld_at (sym p) ∙ k in
        rw (nowhere_in w h n (overlap part sup) none, nowhere_in w h (n - 1) (bad_ring w h q part ring) good, e, m) (ap (at_pixel j) (sym p))),
  )
