-- Laws of looking at two words of a row: nothing free, nothing joined, or something got.
use Rattle.std.specs.Prelude.{◌≡◌, refl, Bool, true, false, not, ◌&&◌, ◌||◌, List, ℕ, ◌+◌, ◌-◌, ◌*◌, ◌/◌, ◌%◌, ◌<◌, ◌≤◌, leb, ltb}
use Rattle.std.proofs.Common.{sym, ap, ap₂, ◌∙◌, ⊎_elim, div-add-mod', arith, lt-ltb, ltb-true}
use Rattle.std.proofs.Math.Decide.{dec_lt, ℕ_discrete}
use Rattle.std.proofs.Math.Arith.{digits_div, digits_mod}
use Rattle.laws.specs.Tests.{clash, and_l, and_r, and_in, and_true, or_l, or_r, or_out, or_cases, or_false, not_out}
use Rattle.words.specs.Words.{word_bit, beside, Within}
use Rattle.posts.specs.Taking.{Next, Along, Beside, Columns, two_of, three_of, Looked}
use Rattle.posts.specs.AlongLaws.{beside_in, beside_out}

-- the two words from word i on, put back with s taken off, or joined with s
two_here : (l : List ℕ) (i j : ℕ) → i * 64 ≤ j → j < i * 64 + 128 → two_of l i (j - i * 64) ≡ word_bit l j
two_here l i j lo hi =
    let z : i * 64 + (j - i * 64) ≡ j = omega arith in
    rw (lt-ltb (j - i * 64) 128 (omega arith), z) refl

module _ (t : Bool → Bool → Bool) (i : ℕ) (l l' : List ℕ) (own s out : ℕ → Bool) (O : (c : ℕ) → own c ≡ two_of l i c) (T : (c : ℕ) → out c ≡ t (own c) (s c)) where
  pub put_back : Within (i * 64) (i * 64 + 128) (λ j. out (j - i * 64)) (word_bit l) (word_bit l')
      → Within (i * 64) (i * 64 + 128) (λ j. t (word_bit l j) (s (j - i * 64))) (word_bit l) (word_bit l')
  put_back W = record {
    inner = λ j x y. W.inner j x y ∙ T (j - i * 64) ∙ ap (λ (b : Bool). t b (s (j - i * 64))) (O (j - i * 64) ∙ two_here l i j x y);
    before = W.before;
    behind = W.behind;
  }

-- the three words above each other, joined and made one column wider
pub fresh_is : (l : List ℕ) (i : ℕ) (up own down two three wide free r : ℕ → Bool) → ((c : ℕ) → up c ≡ two_of l (i - 5) c) → ((c : ℕ) → own c ≡ two_of l i c) → ((c : ℕ) → down c ≡ two_of l (i + 5) c)
    → ((c : ℕ) → two c ≡ (up c || own c)) → ((c : ℕ) → three c ≡ (two c || down c)) → ((c : ℕ) → c < 256 → wide c ≡ beside 1 three c) → ((c : ℕ) → r c ≡ (wide c && free c))
    → (c : ℕ) → c < 256 → r c ≡ (beside 1 (three_of l i) c && free c)
unfolding beside
fresh_is l i up own down two three wide free r U O D T H W R c lc =
    R c ∙ ap (λ (b : Bool). b && free c) (W c lc ∙ ap₂ ◌||◌ (ap₂ ◌||◌ (all c) (all (c + 1))) (ap (λ (b : Bool). leb 1 c && b) (all (c - 1))))
  where
    all : (x : ℕ) → three x ≡ three_of l i x
    all x = H x ∙ ap₂ ◌||◌ (T x ∙ ap₂ ◌||◌ (U x) (O x)) (D x)

pub fresh_free : (f fresh free : ℕ → Bool) → ((x : ℕ) → fresh x ≡ true → x < 256) → ((x : ℕ) → x < 256 → fresh x ≡ (beside 1 f x && free x)) → (x : ℕ) → fresh x ≡ true → free x ≡ true
fresh_free f fresh free i N x e = and_r (beside 1 f x) _ (sym (N x (i x e)) ∙ e)

module _ (k b i : ℕ) (ei : i ≡ k * 5 + b) (lb : b ≤ 2) (disc : ℕ → Bool) (rest got : List ℕ)
    (free : ℕ → Bool) (F : (x : ℕ) → free x ≡ (two_of rest i x && disc x)) where
  at : (x : ℕ) → i * 64 + x ≡ k * 320 + b * 64 + x
  at x = omega arith

  place : (x : ℕ) → x ≤ 128 → ((k * 320 + b * 64 + x) / 320 ≡ k) × ((k * 320 + b * 64 + x) % 320 ≡ b * 64 + x)
  place x l =
      let z : k * 320 + b * 64 + x ≡ k * 320 + (b * 64 + x) = omega arith in
      (ap (λ (n : ℕ). n / 320) z ∙ digits_div k {m = 320} {r = b * 64 + x} (omega arith), ap (λ (n : ℕ). n % 320) z ∙ digits_mod k {m = 320} {r = b * 64 + x} (omega arith))

  free_inside : (x : ℕ) → x < 128 → word_bit rest (k * 320 + b * 64 + x) ≡ true → disc x ≡ true → free x ≡ true
  free_inside x l r d = F x ∙ and_in _ _ (and_in (ltb x 128) _ (lt-ltb x 128 l) (ap (word_bit rest) (at x) ∙ r)) d

  free_out : (x : ℕ) → free x ≡ true → (x < 128) × (word_bit rest (k * 320 + b * 64 + x) ≡ true) × (disc x ≡ true)
  free_out x e =
      let u = sym (F x) ∙ e in
      let v = and_l (two_of rest i x) _ u in
      (ltb-true x 128 (and_l (ltb x 128) _ v), sym (ap (word_bit rest) (at x)) ∙ and_r (ltb x 128) _ v, and_r (two_of rest i x) _ u)

  -- nothing new: both planes are as they were
  kept : (l : List ℕ) → Within (k * 320 + b * 64) (k * 320 + b * 64 + 128) (λ j. word_bit l j && not false) (word_bit l) (word_bit l)
  kept l = record { inner = λ j x y. sym (and_true (word_bit l j)); before = λ j x. refl; behind = λ j x. refl }

  kept_or : (l : List ℕ) → Within (k * 320 + b * 64) (k * 320 + b * 64 + 128) (λ j. word_bit l j || false) (word_bit l) (word_bit l)
  kept_or l = record { inner = λ j x y. sym (or_false (word_bit l j)); before = λ j x. refl; behind = λ j x. refl }

  nothing : (((o : ℕ) → word_bit got o ≡ true → Columns b o) → (x o : ℕ) → x < 128 → word_bit rest (k * 320 + b * 64 + x) ≡ true → disc x ≡ true → word_bit got o ≡ true
      → Beside (k * 320 + b * 64 + x) o → ⊥) → Looked k b disc false rest got rest got
  nothing whole = record {
    new = λ x. false;
    there = λ x e. clash e refl;
    rest_put = kept rest;
    got_put = kept_or got;
    led = λ T t g x e. clash e refl;
    whole = whole;
    none = λ e x. refl;
    some = λ e. clash e refl;
  }

  -- no pixel of the disc remains there
  pub looked_none : ((x : ℕ) → free x ≡ false) → Looked k b disc false rest got rest got
  looked_none z = nothing (λ c x o l r d g n. clash (free_inside x l r d) (z x))

  module _ (l5 : 5 ≤ i) (fresh : ℕ → Bool) (inside : (x : ℕ) → fresh x ≡ true → x < 256) (N : (x : ℕ) → x < 256 → fresh x ≡ (beside 1 (three_of got i) x && free x)) where
    -- a bit that is got in one of the three rows
    three_in : (s y : ℕ) → y < 128 → Next k s → word_bit got (s * 320 + b * 64 + y) ≡ true → three_of got i y ≡ true
    three_in s y ly (x, z) e = elim (ℕ_discrete s k) [
      | yes q ↦ or_l (two_of got (i - 5) y || two_of got i y) _ (or_r (two_of got (i - 5) y) _ (and_in (ltb y 128) _ (lt-ltb y 128 ly) (ap (word_bit got) (omega arith) ∙ e)))
      | no q ↦ elim (dec_lt k s) [
        | yes v ↦ or_r (two_of got (i - 5) y || two_of got i y) _ (and_in (ltb y 128) _ (lt-ltb y 128 ly) (ap (word_bit got) (omega arith) ∙ e))
        | no v ↦ or_l (two_of got (i - 5) y || two_of got i y) _ (or_l (two_of got (i - 5) y) _ (and_in (ltb y 128) _ (lt-ltb y 128 ly) (ap (word_bit got) (omega arith) ∙ e)))
      ]
    ]

    three_out : (y : ℕ) → three_of got i y ≡ true → (s : ℕ) × (y < 128) × Next k s × (word_bit got (s * 320 + b * 64 + y) ≡ true)
    three_out y e =
        or_cases (two_of got (i - 5) y) (two_of got i y) (two_of got (i + 5) y) e
        (λ u. (k - 1, ltb-true y 128 (and_l (ltb y 128) _ u), (omega arith, omega arith), ap (word_bit got) (omega arith) ∙ and_r (ltb y 128) _ u))
        (λ u. (k, ltb-true y 128 (and_l (ltb y 128) _ u), (omega arith, omega arith), ap (word_bit got) (omega arith) ∙ and_r (ltb y 128) _ u))
        (λ u. (k + 1, ltb-true y 128 (and_l (ltb y 128) _ u), (omega arith, omega arith), ap (word_bit got) (omega arith) ∙ and_r (ltb y 128) _ u))

    -- what is free and lies beside what is got is fresh
    fresh_in : ((o : ℕ) → word_bit got o ≡ true → Columns b o) → (x o : ℕ) → x < 128 → free x ≡ true → word_bit got o ≡ true → Beside (k * 320 + b * 64 + x) o → fresh x ≡ true
    fresh_in C x o l f g (r, c) =
        let (lo, hi) = C o g in
        let (er, ec) = place x (omega arith) in
        let y : ℕ = o % 320 - b * 64 in
        let z : o / 320 * 320 + b * 64 + y ≡ o = omega (arith, div-add-mod' o 320) in
        N x (omega arith) ∙ and_in (beside 1 (three_of got i) x) _
        (beside_in (three_of got i) x y (omega arith, omega arith) (three_in (o / 320) y (omega arith) (omega arith, omega arith) (ap (word_bit got) z ∙ g))) f

    fresh_out : (x : ℕ) → fresh x ≡ true → (free x ≡ true) × ((o : ℕ) × Beside (k * 320 + b * 64 + x) o × (word_bit got o ≡ true))
    fresh_out x e =
        let u = sym (N x (inside x e)) ∙ e in
        let f = and_r (beside 1 (three_of got i) x) _ u in
        let lx : x < 128 = (free_out x f).0 in
        let (y, n, t) = beside_out (three_of got i) x (and_l (beside 1 (three_of got i) x) _ u) in
        let (s, ly, m, g) = three_out y t in
        let (er, ec) = place x (omega arith) in
        let z : s * 320 + b * 64 + y ≡ s * 320 + (b * 64 + y) = omega arith in
        let es : (s * 320 + b * 64 + y) / 320 ≡ s = ap (λ (n : ℕ). n / 320) z ∙ digits_div s {m = 320} {r = b * 64 + y} (omega arith) in
        let ey : (s * 320 + b * 64 + y) % 320 ≡ b * 64 + y = ap (λ (n : ℕ). n % 320) z ∙ digits_mod s {m = 320} {r = b * 64 + y} (omega arith) in
        (f, (s * 320 + b * 64 + y, ((omega arith, omega arith), (omega arith, omega arith)), g))

    -- nothing of it is joined to what is got
    pub looked_still : ((x : ℕ) → fresh x ≡ false) → Looked k b disc false rest got rest got
    looked_still z = nothing (λ C x o l r d g n. clash (fresh_in C x o l (free_inside x l r d) g n) (z x))

    module _ (s : ℕ → Bool) (A : Along fresh free s) (rest' got' : List ℕ)
        (R' : Within (i * 64) (i * 64 + 128) (λ j. word_bit rest j && not (s (j - i * 64))) (word_bit rest) (word_bit rest'))
        (G' : Within (i * 64) (i * 64 + 128) (λ j. word_bit got j || s (j - i * 64)) (word_bit got) (word_bit got')) where
      base : i * 64 ≡ k * 320 + b * 64
      base = omega arith

      rest_at : Within (k * 320 + b * 64) (k * 320 + b * 64 + 128) (λ j. word_bit rest j && not (s (j - (k * 320 + b * 64)))) (word_bit rest) (word_bit rest')
      rest_at = rw base at R'

      got_at : Within (k * 320 + b * 64) (k * 320 + b * 64 + 128) (λ j. word_bit got j || s (j - (k * 320 + b * 64))) (word_bit got) (word_bit got')
      got_at = rw base at G'

      still_free : (x : ℕ) → x < 128 → word_bit rest' (k * 320 + b * 64 + x) ≡ true → (word_bit rest (k * 320 + b * 64 + x) ≡ true) × (s x ≡ false)
      still_free x l e =
          let u = sym (rest_at.inner (k * 320 + b * 64 + x) (omega arith) (omega arith)) ∙ e in
          let z : k * 320 + b * 64 + x - (k * 320 + b * 64) ≡ x = omega arith in
          (and_l _ _ u, not_out (s x) (ap (λ (n : ℕ). not (s n)) (sym z) ∙ and_r (word_bit rest (k * 320 + b * 64 + x)) _ u))

      -- something is got
      pub looked_some : (x : ℕ) × (x < 256) × (fresh x ≡ true) → Looked k b disc true rest got rest' got'
      looked_some (x, lx, ex) = record {
        new = s;
        there = λ x e. free_out x (A.only x e);
        rest_put = rest_at;
        got_put = got_at;
        led = λ T t g x e. A.led (λ x. T (k * 320 + b * 64 + x))
            (λ x u. let (f, (o, n, v)) = fresh_out x u in let (l, r, d) = free_out x f in g x o l r d n (t o v))
            (λ x y f n u.
            let (l, r, d) = free_out x f in
            let (er, ec) = place x (omega arith) in
            let (fr, fc) = place y (omega arith) in
            g x (k * 320 + b * 64 + y) l r d ((omega arith, omega arith), (omega arith, omega arith)) u) x e;
        whole = λ C x o l r d g n.
            let (r₀, out) = still_free x l r in
            let f = free_inside x l r₀ d in
            elim (dec_lt o (k * 320 + b * 64)) [
              | yes p ↦ clash (A.has x (fresh_in C x o l f (sym (got_at.before o p) ∙ g) n)) out
              | no p ↦ elim (dec_lt o (k * 320 + b * 64 + 128)) [
                | yes q ↦ ⊎_elim (λ v. clash (A.has x (fresh_in C x o l f v n)) out)
                    (λ v.
                    let z : k * 320 + b * 64 + (o - (k * 320 + b * 64)) ≡ o = omega arith in
                    let (er, ec) = place x (omega arith) in
                    let (fr, fc) = place (o - (k * 320 + b * 64)) (omega arith) in
                    let ec' : o % 320 ≡ b * 64 + (o - (k * 320 + b * 64)) = ap (λ (n : ℕ). n % 320) (sym z) ∙ fc in
                    clash (A.whole x (o - (k * 320 + b * 64)) f (omega (arith, n.1), omega (arith, n.1)) v) out)
                    (or_out (word_bit got o) _ (sym (got_at.inner o (omega arith) q) ∙ g))
                | no q ↦ clash (A.has x (fresh_in C x o l f (sym (got_at.behind o (omega arith)) ∙ g) n)) out
              ]
            ];
        none = λ e. clash refl e;
        some = λ e. (x, A.has x ex);
      }
