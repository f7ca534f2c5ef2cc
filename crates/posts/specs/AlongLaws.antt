-- Laws of growing along a row: where it begins, one column more to each side, and where it ends.
use Rattle.std.specs.Prelude.{◌≡◌, refl, Bool, true, false, not, ◌&&◌, ◌||◌, ℕ, ◌+◌, ◌-◌, ◌<◌, ◌≤◌, leb}
use Rattle.std.proofs.Common.{sym, ◌∙◌, ⊎_elim, arith, le-leb, leb-true}
use Rattle.std.proofs.Math.Decide.{dec_lt, ℕ_discrete}
use Rattle.rules.specs.Tools.{count}
use Rattle.laws.specs.Tests.{split, clash, and_l, and_r, and_in, or_l, or_r, or_out, or_cases, not_in, not_out, count_more}
use Rattle.words.specs.Words.{beside}
use Rattle.posts.specs.Taking.{Next, Spreads, Along}

pub beside_in : (f : ℕ → Bool) (c d : ℕ) → Next c d → f d ≡ true → beside 1 f c ≡ true
unfolding beside
beside_in f c d (a, b) e = elim (ℕ_discrete d c) [
  | yes q ↦ or_l (f c || f (c + 1)) _ (or_l (f c) _ (rw (← q) e))
  | no q ↦ elim (dec_lt c d) [
    | yes v ↦ let z : c + 1 ≡ d = omega arith in or_l (f c || f (c + 1)) _ (or_r (f c) _ (rw z e))
    | no v ↦ let z : c - 1 ≡ d = omega arith in or_r (f c || f (c + 1)) _ (and_in (leb 1 c) _ (le-leb 1 c (omega arith)) (rw z e))
  ]
]

pub beside_out : (f : ℕ → Bool) (c : ℕ) → beside 1 f c ≡ true → (d : ℕ) × Next c d × (f d ≡ true)
unfolding beside
beside_out f c e =
    or_cases (f c) (f (c + 1)) (leb 1 c && f (c - 1)) e
    (λ u. (c, (omega arith, omega arith), u))
    (λ u. (c + 1, (omega arith, omega arith), u))
    (λ u. let p : 1 ≤ c = leb-true 1 c (and_l (leb 1 c) _ u) in (c - 1, (omega arith, omega arith), and_r (leb 1 c) _ u))

module _ (x free : ℕ → Bool) where
  -- s is on its way from x: all of x, only free columns, none that x does not lead to
  pub record Joining (s : ℕ → Bool) : Type 0 where
    pub has : (c : ℕ) → x c ≡ true → s c ≡ true
    pub only : (c : ℕ) → s c ≡ true → free c ≡ true
    pub led : (T : ℕ → Bool) → ((c : ℕ) → x c ≡ true → T c ≡ true) → Spreads free Next T → (c : ℕ) → s c ≡ true → T c ≡ true

  -- what lies beside it, is free and is not in it yet
  pub record More (s more : ℕ → Bool) : Type 0 where
    pub is : (c : ℕ) → c < 256 → more c ≡ ((beside 1 s c && free c) && not (s c))

  pub joining_start : ((c : ℕ) → x c ≡ true → free c ≡ true) → Joining x
  joining_start f = record { has = λ c e. e; only = f; led = λ T t g. t }

  pub more_is : (s wide near more : ℕ → Bool) → ((c : ℕ) → c < 256 → wide c ≡ beside 1 s c) → ((c : ℕ) → near c ≡ (wide c && free c)) → ((c : ℕ) → more c ≡ (near c && not (s c))) → More s more
  more_is s wide near more w n m = record { is = λ c l. m c ∙ rw (n c, w c l) refl }

  module _ (s more : ℕ → Bool) (inside : (c : ℕ) → more c ≡ true → c < 256) (J : Joining s) (M : More s more) where
    new : (c : ℕ) → more c ≡ true → (beside 1 s c ≡ true) × (free c ≡ true) × (s c ≡ false)
    new c e =
        let u = sym (M.is c (inside c e)) ∙ e in
        let v = and_l (beside 1 s c && free c) _ u in
        (and_l (beside 1 s c) _ v, and_r (beside 1 s c) _ v, not_out (s c) (and_r (beside 1 s c && free c) _ u))

    pub joining_more : (s' : ℕ → Bool) → ((c : ℕ) → s' c ≡ (s c || more c)) → Joining s'
    joining_more s' e = record {
      has = λ c u. e c ∙ or_l (s c) _ (J.has c u);
      only = λ c u. ⊎_elim (J.only c) (λ v. (new c v).1) (or_out (s c) _ (sym (e c) ∙ u));
      led = λ T t g c u. ⊎_elim (J.led T t g c)
          (λ v. let (a, b, n) = new c v in let (d, l, w) = beside_out s c a in g c d b l (J.led T t g d w))
          (or_out (s c) _ (sym (e c) ∙ u));
    }

    -- a column more is one less that is free and not in it
    pub joining_less : (s' : ℕ → Bool) → ((c : ℕ) → s' c ≡ (s c || more c)) → (c : ℕ) × (c < 256) × (more c ≡ true)
        → count 256 (λ c. free c && not (s' c)) < count 256 (λ c. free c && not (s c))
    joining_less s' e (c, l, m) =
        let (a, b, n) = new c m in
        count_more 256 (λ c. free c && not (s' c)) (λ c. free c && not (s c))
        (λ i li u. and_in (free i) _ (and_l (free i) _ u) (not_in (s i) (split (s i) (λ y. clash (e i ∙ or_l (s i) _ y) (not_out (s' i) (and_r (free i) _ u))) (λ y. y))))
        c l (rw (e c, m, n) (split (free c) (λ y. rw y refl) (λ y. rw y refl))) (and_in (free c) _ b (not_in (s c) n))

    pub joining_end : ((c : ℕ) → free c ≡ true → c < 256) → ((c : ℕ) → more c ≡ false) → Along x free s
    joining_end f z = record {
      has = J.has;
      only = J.only;
      led = J.led;
      whole = λ c d u l v. split (s c) (λ y. y)
          (λ y. clash (M.is c (f c u) ∙ and_in (beside 1 s c && free c) _ (and_in (beside 1 s c) _ (beside_in s c d l v) u) (not_in (s c) y)) (z c));
    }
