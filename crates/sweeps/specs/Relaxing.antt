-- Laws of rings while marked pixels tell: in any order they come to the fewest steps.
use Rattle.std.specs.Prelude.{◌≡◌, ℕ, zero, suc, ◌+◌, ◌*◌, ◌%◌, ◌<◌, ◌≤◌, true, false, ◌&&◌, ◌⊎◌, List, [], ◌∷◌, length, set, ◌≢◌, slice_index, slice_index_or, slice_set, refl}
use Rattle.std.proofs.Common.{sym, ap, subst, ◌∙◌, inl, inr, ⊎_elim, zero-le, not-suc-le-zero, le_of_suc-le-suc, arith, length-set, get_or-set_same, get_or-set_other, ext_get_or}
use Rattle.std.proofs.Math.Decide.{ℕ_discrete}
use Rattle.rules.specs.Demands.{onward, start, Joined}
use Rattle.rules.specs.Images.{Plane}
use Rattle.rules.specs.Planning.{touching, grown, touch}
use Rattle.laws.specs.Growing.{ring_joined, ring_fewest, length_grown}
use Rattle.laws.specs.Tests.{split, clash, and_l, and_r, and_in, not_in, not_out, some_in}
use Rattle.laws.specs.Waves.{joined_free}
use Rattle.sweeps.specs.Rings.{level, sum_by, one, later, Frame, Sweeping}

-- ---- sums over a list

pub sum_set : (g : ℕ → ℕ) (l : List ℕ) (i v : ℕ) → i < length l → sum_by g (slice_set l i v) + g (slice_index l i) ≡ sum_by g l + g v
unfolding sum_by
sum_set g [] i v h = absurd (not-suc-le-zero h)
sum_set g (x ∷ l) zero v h = omega arith
sum_set g (x ∷ l) (suc i) v h = let t = sum_set g l i v (le_of_suc-le-suc h) in omega arith

one_le : (v : ℕ) → one v ≤ 1
one_le zero = omega arith
one_le (suc v) = omega arith

count_le : (l : List ℕ) → sum_by one l ≤ length l
unfolding sum_by
count_le [] = zero-le
count_le (x ∷ l) = let t = count_le l in omega (arith, one_le x)

count_two : (l : List ℕ) (p q : ℕ) → p < length l → q < length l → (p ≢ q) → slice_index l p ≡ 0 → slice_index l q ≡ 0 → sum_by one l + 2 ≤ length l
count_two l p q hp hq ne zp zq =
    let m = set l p 1 in
    let a : sum_by one m + one (slice_index l p) ≡ sum_by one l + 1 = sum_set one l p 1 hp in
    let a' : sum_by one m + 0 ≡ sum_by one l + 1 = subst (λ (x : ℕ). sum_by one m + one x ≡ sum_by one l + 1) zp a in
    let lm : length m ≡ length l = length-set l p 1 in
    let b : sum_by one (slice_set m q 1) + one (slice_index m q) ≡ sum_by one m + 1 = sum_set one m q 1 (omega arith) in
    let zq' : slice_index_or m q 0 ≡ 0 = get_or-set_other l p q 1 0 (λ e. ne (sym e)) ∙ zq in
    let b' : sum_by one (slice_set m q 1) + 0 ≡ sum_by one m + 1 = subst (λ (x : ℕ). sum_by one (slice_set m q 1) + one x ≡ sum_by one m + 1) zq' b in
    omega (arith, count_le (slice_set m q 1), length-set m q 1)

zero_or : (v : ℕ) → (v ≡ 0) ⊎ (0 < v)
zero_or zero = inl refl
zero_or (suc v) = inr (omega arith)

pub level_pos : (v : ℕ) → 0 < v → level v ≡ v
level_pos zero h = absurd (not-suc-le-zero h)
level_pos (suc v) h = refl

one_pos : (v : ℕ) → 0 < v → one v ≡ 1
one_pos zero h = absurd (not-suc-le-zero h)
one_pos (suc v) h = refl

-- a level is one more than the number before the ring's, where 65535 is before 0
pub level_wraps : (v x : ℕ) → x < 65536 → (x + 1) % 65536 ≡ v → x + 1 ≡ level v
level_wraps zero x l e = omega (arith, e)
level_wraps (suc v) x l e = omega (arith, e)

level_zero : (v : ℕ) → v ≡ 0 → level v ≡ 65536
level_zero v e = ap level e

module _ (w h : ℕ) (free seed known : Plane) where
  abbrev Path : ℕ → ℕ → Type 0
  Path = Joined (h * w) (touch w) free seed

  seed_of : {k p : ℕ} → Joined (h * w) (touch w) free seed k p → (o : ℕ) × (o < h * w) × (seed o ≡ true)
  seed_of (start {o = o} f l t s) = (o, l, s)
  seed_of (onward f l t r) = seed_of r

  touching_by : (p o : ℕ) → o < h * w → touch w p o ≡ true → seed o ≡ true → touching (h * w) (touch w) seed p ≡ true
  unfolding touching
  touching_by p o l t s = some_in (h * w) (λ o. touch w p o && seed o) o l (and_in (touch w p o) _ t s)

  later_split : (p : ℕ) → later free known p ≡ true → (free p ≡ true) × (known p ≡ false)
  unfolding later
  later_split p e = (and_l (free p) _ e, not_out (known p) (and_r (free p) _ e))

  not_later : (p : ℕ) → free p ≡ true → later free known p ≡ false → known p ≡ true
  unfolding later
  not_later p f e = split (known p) (λ t. t) (λ t. clash (and_in (free p) _ f (not_in _ t)) e)

  module _ (fr : Frame w h free seed) (l : List ℕ) (M : Plane) (G : Sweeping w h free seed known l M) where
    seed_none : (p : ℕ) → p < h * w → seed p ≡ true → slice_index l p ≡ 0
    seed_none p lp e = ⊎_elim (λ z. z) (λ z. absurd (fr.apart p lp (joined_free (h * w) (touch w) free seed (G.path p lp z)) e)) (zero_or (slice_index l p))

    -- at rest ------------------------------------------------------------------------------------------------
    module _ (quiet : (p : ℕ) → p < h * w → M p ≡ false) where
      reach : {k p : ℕ} → p < h * w → Joined (h * w) (touch w) free seed k p → (0 < slice_index l p) × (slice_index l p ≤ k)
      reach lp (start {p = p} {o = o} f lo t s) = let (a, b) = G.sure p lp (G.first p lp f (touching_by p o lo t s)) in (a, b 1 (start f lo t s))
      reach lp (onward {k = k} {p = p} {o = o} f lo t s) = go (reach lo s)
        where
          go : (0 < slice_index l o) × (slice_index l o ≤ k) → (0 < slice_index l p) × (slice_index l p ≤ suc k)
          go ih =
              let r : level (slice_index l p) ≤ level (slice_index l o) + 1 = G.told o lo (quiet o lo) p lp f t in
              let lo' = level_pos (slice_index l o) ih.0 in
              ⊎_elim
              (λ (z : slice_index_or l p 0 ≡ 0).
              let sd = seed_of s in
              let ne : p ≡ sd.0 → ⊥ = λ (x : p ≡ sd.0). fr.apart p lp f (subst (λ (y : ℕ). seed y ≡ true) (sym x) sd.2) in
              absurd (omega (
                arith,
                count_two l p sd.0 (omega (arith, G.long)) (omega (arith, G.long, sd.1)) ne z (seed_none sd.0 sd.1 sd.2),
                G.few o lo,
                G.long,
                fr.room,
                level_zero (slice_index l p) z,
              )))
              (λ (z : 0 < slice_index l p). (z, omega (arith, level_pos (slice_index l p) z, ih.1)))
              (zero_or (slice_index l p))

      -- a plane at rest holds the rings
      pub at_rest : l ≡ grown (h * w) (touch w) free seed (h * w)
      at_rest = ext_get_or 0 l R (G.long ∙ sym (length_grown (h * w) (touch w) free seed (h * w))) (λ p lp. go p (omega (arith, G.long)) (slice_index l p) refl (slice_index R p) refl)
        where
          R : List ℕ
          R = grown (h * w) (touch w) free seed (h * w)

          go : (p : ℕ) → p < h * w → (v : ℕ) → slice_index l p ≡ v → (u : ℕ) → slice_index R p ≡ u → slice_index l p ≡ slice_index R p
          go p lp zero ev zero eu = ev ∙ sym eu
          go p lp zero ev (suc u) eu = absurd (omega (arith, reach lp (ring_joined (h * w) (touch w) free seed p u lp eu)))
          go p lp (suc v) ev zero eu = absurd (omega (arith, ring_fewest (h * w) (touch w) free seed lp (G.path p lp (omega arith))))
          go p lp (suc v) ev (suc u) eu = omega (arith, ring_fewest (h * w) (touch w) free seed lp (G.path p lp (omega arith)), reach lp (ring_joined (h * w) (touch w) free seed p u lp eu))

    -- a pixel that touches q and is told its ring ------------------------------------------------------------
    module _ (p q v : ℕ) (lp : p < h * w) (lq : q < h * w) (t : touch w p q ≡ true) (vq : slice_index_or l q 0 ≡ v) (pos : 0 < v) where
      path_v : free p ≡ true → Joined (h * w) (touch w) free seed (v + 1) p
      path_v f =
          subst (λ (k : ℕ). Joined (h * w) (touch w) free seed k p) (omega (arith, vq))
          (onward f lq t (G.path q lq (omega arith)))

      module _ (la : later free known p ≡ true) (lower : v + 1 < level (slice_index l p)) where
        pl : p < length l
        pl = omega (arith, G.long)

        count_eq : sum_by one (slice_set l p (v + 1)) + one (slice_index l p) ≡ sum_by one l + 1
        count_eq = subst (λ (x : ℕ). sum_by one (slice_set l p (v + 1)) + one (slice_index l p) ≡ sum_by one l + x) (one_pos (v + 1) (omega arith)) (sum_set one l p (v + 1) pl)

        v_few : v + 1 ≤ sum_by one (slice_set l p (v + 1))
        v_few =
            ⊎_elim
            (λ (z : slice_index_or l p 0 ≡ 0).
            let a : sum_by one (slice_set l p (v + 1)) + 0 ≡ sum_by one l + 1 = subst (λ (x : ℕ). sum_by one (slice_set l p (v + 1)) + one x ≡ sum_by one l + 1) z count_eq in
            omega (arith, G.few q lq, vq))
            (λ (z : 0 < slice_index l p). omega (arith, count_eq, one_le (slice_index l p), level_pos (slice_index l p) z, G.few p lp))
            (zero_or (slice_index l p))

        same : slice_index_or (slice_set l p (v + 1)) p 0 ≡ v + 1
        same = get_or-set_same l p (v + 1) 0 pl

        other : (x : ℕ) → (x ≢ p) → slice_index (slice_set l p (v + 1)) x ≡ slice_index l x
        other x n = get_or-set_other l p x (v + 1) 0 n

        level_le : (x : ℕ) → level (slice_index (slice_set l p (v + 1)) x) ≤ level (slice_index l x)
        level_le x = elim (ℕ_discrete x p) [
          | yes a ↦ omega (arith, ap (λ (y : ℕ). level (slice_index (slice_set l p (v + 1)) y)) a ∙ ap level same ∙ level_pos (v + 1) (omega arith), ap (λ (y : ℕ). level (slice_index l y)) a)
          | no a ↦ omega (arith, ap level (other x a))
        ]

        pub lowered : (N : Plane) → ((x : ℕ) → x < h * w → N x ≡ false → (x ≢ p) × (M x ≡ false)) → ((x : ℕ) → x < h * w → N x ≡ true → (x ≡ p) ⊎ (M x ≡ true)) →
            Sweeping w h free seed known (slice_set l p (v + 1)) N
        lowered N out in' = record {
          long = length-set l p (v + 1) ∙ G.long;
          path = λ x lx z. elim (ℕ_discrete x p) [
            | yes a ↦ subst (λ (y : ℕ). Joined (h * w) (touch w) free seed (slice_index (slice_set l p (v + 1)) y) y) (sym a)
                (subst (λ (k : ℕ). Joined (h * w) (touch w) free seed k p) (sym same) (path_v (later_split p la).0))
            | no a ↦ subst (λ (k : ℕ). Joined (h * w) (touch w) free seed k x) (sym (other x a)) (G.path x lx (subst (λ (k : ℕ). 0 < k) (other x a) z))
          ];
          few = λ x lx. elim (ℕ_discrete x p) [
            | yes a ↦ subst (λ (y : ℕ). slice_index (slice_set l p (v + 1)) y ≤ sum_by one (slice_set l p (v + 1))) (sym a) (omega (arith, same, v_few))
            | no a ↦ omega (arith, other x a, G.few x lx, count_eq, one_le (slice_index l p))
          ];
          first = G.first;
          sure = λ x lx e. elim (ℕ_discrete x p) [
            | yes a ↦ clash (subst (λ (y : ℕ). known y ≡ true) a e) (later_split p la).1
            | no a ↦ subst (λ (r : ℕ). (0 < r) × ((k : ℕ) → Joined (h * w) (touch w) free seed k x → r ≤ k)) (sym (other x a)) (G.sure x lx e)
          ];
          told = λ y ly e x lx f u. let (n, m) = out y ly e in omega (arith, level_le x, ap level (other y n), G.told y ly m x lx f u);
          marked = λ x lx e. elim (ℕ_discrete x p) [
            | yes a ↦ subst (λ (y : ℕ). 0 < slice_index (slice_set l p (v + 1)) y) (sym a) (omega (arith, same))
            | no a ↦ omega (arith, other x a, ⊎_elim (λ (b : x ≡ p). absurd (a b)) (λ b. G.marked x lx b) (in' x lx e))
          ];
        }

      -- a known pixel has no more than that already
      known_told : free p ≡ true → later free known p ≡ false → level (slice_index l p) ≤ v + 1
      known_told f e = let (a, b) = G.sure p lp (not_later p f e) in omega (arith, b (v + 1) (path_v f), level_pos (slice_index l p) a)

    -- q has told all, and loses its mark
    pub cleared : (q : ℕ) → q < h * w → M q ≡ true → ((p : ℕ) → p < h * w → later free known p ≡ true → touch w p q ≡ true → level (slice_index l p) ≤ slice_index l q + 1)
        → (N : Plane) → ((x : ℕ) → x < h * w → N x ≡ false → (x ≡ q) ⊎ (M x ≡ false)) → ((x : ℕ) → x < h * w → N x ≡ true → M x ≡ true) → Sweeping w h free seed known l N
    cleared q lq mq all N out in' = record {
      long = G.long;
      path = G.path;
      few = G.few;
      first = G.first;
      sure = G.sure;
      told = λ y ly e x lx f u. ⊎_elim (λ (a : y ≡ q). here x lx f y a u) (λ a. G.told y ly a x lx f u) (out y ly e);
      marked = λ x lx e. G.marked x lx (in' x lx e);
    }
      where
        pos : 0 < slice_index l q
        pos = G.marked q lq mq

        here : (x : ℕ) → x < h * w → free x ≡ true → (y : ℕ) → y ≡ q → touch w x y ≡ true → level (slice_index l x) ≤ level (slice_index l y) + 1
        here x lx f y a u =
            let u' : touch w x q ≡ true = subst (λ (z : ℕ). touch w x z ≡ true) a u in
            let e : level (slice_index l y) ≡ slice_index_or l q 0 = ap (λ (z : ℕ). level (slice_index l z)) a ∙ level_pos (slice_index l q) pos in
            let b : level (slice_index l x) ≤ slice_index l q + 1 =
            split (later free known x) (λ c. all x lx c u') (λ c. known_told x q (slice_index l q) lx lq u' refl pos f c) in
            omega arith
