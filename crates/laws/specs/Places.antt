-- What the checker's answer says of the images: the first place of a stack, and what it means to be accepted.
use Rattle.std.specs.Prelude.{◌≡◌, refl, Bool, true, false, ℕ, zero, suc, ◌+◌, ◌-◌, ◌*◌, ◌/◌, ◌%◌, ◌≤◌, ◌<◌, ltb, eqb}
use Rattle.std.proofs.Common.{ap, div-lt_iff_lt-mul, mod-lt, mul_assoc, add-mul, arith, eqb-true, ltb-true, ltb-false}
use Rattle.std.proofs.Math.Arith.{digits_lt, digits_div, digits_mod}
use Rattle.std.proofs.lemmas.Bool.{eqb-false}
use Rattle.rules.specs.Images.{Stack}
use Rattle.rules.specs.Tools.{Found, nothing, found, first}
use Rattle.rules.specs.Judging.{first_in, tell, verdict, overlap, bad_ring, unheld, unheld_number}
use Rattle.rules.specs.Demands.{Earlier, sooner_layer, sooner_row, sooner_column}
use Rattle.rules.specs.declared.Judged.{Judged}
use Rattle.rules.specs.declared.Judged.TheVariants.{Accepted}
use Rattle.laws.specs.Tests.{split, clash}

-- x is the first of a, a + 1, .., a + n - 1 that passes; or none does
pub data First (a n : ℕ) (f : ℕ → Bool) : Found → Type 0 where
  none_is : ((x : ℕ) → a ≤ x → x < a + n → f x ≡ false) → First a n f nothing
  one_is : {x : ℕ} → a ≤ x → x < a + n → f x ≡ true → ((y : ℕ) → a ≤ y → y < x → f y ≡ false) → First a n f (found x)

below_first : {a : ℕ} {f : ℕ → Bool} (g : ℕ → Type 0) → f a ≡ false → ((x : ℕ) → suc a ≤ x → g x → f x ≡ false) → (x : ℕ) → a ≤ x → g x → f x ≡ false
below_first {a} {f} g e s x l h = split (eqb a x) (λ t. rw (← eqb-true a x t) e) (λ t. s x (omega (arith, eqb-false a x t)) h)

later : {a n : ℕ} {f : ℕ → Bool} {r : Found} → f a ≡ false → First (suc a) n f r → First a (suc n) f r
later {a} {n} {f} e (none_is g) = none_is (below_first (λ x. x < a + suc n) e (λ x l h. g x l (omega arith)))
later {a} {n} {f} e (one_is {x = x} l h t g) = one_is {x = x} (omega arith) (omega arith) t (below_first (λ y. y < x) e g)

pub first_is : (a n : ℕ) (f : ℕ → Bool) → First a n f (first a n f)
unfolding first
first_is a zero f = none_is (λ x l h. absurd (omega arith))
first_is a (suc n) f =
    split (f a)
    (λ t. rw t (one_is {x = a} (omega arith) (omega arith) t (λ y l h. absurd (omega arith))))
    (λ t. rw t (later t (first_is (suc a) n f)))

-- and there is only one such answer: what a search in a program is proved by
pub first_unique : (a n : ℕ) (f : ℕ → Bool) (r t : Found) → First a n f r → First a n f t → r ≡ t
first_unique a n f nothing nothing x y = refl
first_unique a n f nothing (found z) (none_is g) (one_is l h e k) = clash e (g z l h)
first_unique a n f (found z) nothing (one_is l h e k) (none_is g) = clash e (g z l h)
first_unique a n f (found y) (found z) (one_is l h e k) (one_is l' h' e' k') =
    split (ltb y z) (λ t. clash e (k' y l (ltb-true y z t))) (λ t.
    split (ltb z y) (λ u. clash e' (k z l' (ltb-true z y u))) (λ u.
    ap found (omega (arith, ltb-false y z t, ltb-false z y u))))

pub digits_in : (x n c : ℕ) → x < n * c → (x / c < n) × (x % c < c)
digits_in x n zero h = absurd (omega arith)
digits_in x n (suc c) h = ((div-lt_iff_lt-mul {k = suc c} {x = x} {y = n} (omega arith)).1 h, mod-lt x (omega arith))

-- The order of places -------------------------------------------------------------------------------------------------------

-- the number of row r, column c of layer i, all pixels counted through
abbrev pub number_of : ℕ → ℕ → ℕ → ℕ → ℕ → ℕ
number_of w h i r c = i * (h * w) + (r * w + c)

pub flat_is : (w h i r c : ℕ) → i * (h * w) + (r * w + c) ≡ (i * h + r) * w + c
flat_is w h i r c =
    let a : (i * h + r) * w ≡ i * h * w + r * w = add-mul (i * h) r w in
    omega (arith, mul_assoc i h w)

module _ (w h : ℕ) where
  -- places in order are numbers in order
  pub earlier_less : (j s d i r c : ℕ) → s < h → d < w → Earlier j s d i r c → number_of w h j s d < number_of w h i r c
  earlier_less j s d i r c ls ld (sooner_layer l) =
      let p : j * (h * w) + (s * w + d) < i * (h * w) = digits_lt l (digits_lt ls ld) in
      omega arith
  earlier_less j s d i r c ls ld (sooner_row e l) =
      let p : s * w + d < r * w = digits_lt l ld in
      rw e (omega arith)
  earlier_less j s d i r c ls ld (sooner_column e g l) = rw (e, g) (omega arith)

  pub less_earlier : (j s d i r c : ℕ) → r < h → c < w → number_of w h j s d < number_of w h i r c → Earlier j s d i r c
  less_earlier j s d i r c lr lc h₁ =
      split (ltb j i) (λ t. sooner_layer (ltb-true j i t)) (λ t.
      split (ltb i j)
      (λ u.
      let p : i * (h * w) + (r * w + c) < j * (h * w) = digits_lt (ltb-true i j u) (digits_lt lr lc) in
      absurd (omega arith))
      (λ u.
      let e : j ≡ i = omega (arith, ltb-false j i t, ltb-false i j u) in
      let m : s * w + d < r * w + c = same_layer (rw e at h₁) in
      split (ltb s r) (λ x. sooner_row e (ltb-true s r x)) (λ x.
      split (ltb r s)
      (λ y.
      let p : r * w + c < s * w = digits_lt (ltb-true r s y) lc in
      absurd (omega arith))
      (λ y.
      let g : s ≡ r = omega (arith, ltb-false s r x, ltb-false r s y) in
      sooner_column e g (same_row (rw g at m))))))
    where
      same_layer : i * (h * w) + (s * w + d) < i * (h * w) + (r * w + c) → s * w + d < r * w + c
      same_layer l = omega arith

      same_row : r * w + d < r * w + c → d < c
      same_row l = omega arith

-- No pixel of n layers passes: as a search from the first, and pixel by pixel
abbrev pub Nowhere : ℕ → ℕ → ℕ → Stack → Type 0
Nowhere w h n f = (i p : ℕ) → i < n → p < h * w → f i p ≡ false

pub nowhere_out : (w h n : ℕ) (f : Stack) → first_in w h n f ≡ nothing → Nowhere w h n f
unfolding first_in
nowhere_out w h n f e i p li lp = go (rw e at (first_is 0 (n * (h * w)) (λ x. f (x / (h * w)) (x % (h * w)))))
  where
    go : First 0 (n * (h * w)) (λ x. f (x / (h * w)) (x % (h * w))) nothing → f i p ≡ false
    go (none_is g) =
        let r : f ((i * (h * w) + p) / (h * w)) ((i * (h * w) + p) % (h * w)) ≡ false = g (i * (h * w) + p) (omega arith) (omega (arith, digits_lt li lp)) in
        rw (digits_div i lp, digits_mod i lp) at r

pub nowhere_in : (w h n : ℕ) (f : Stack) → Nowhere w h n f → first_in w h n f ≡ nothing
unfolding first_in
nowhere_in w h n f s = go (first 0 (n * (h * w)) (λ x. f (x / (h * w)) (x % (h * w)))) (first_is 0 (n * (h * w)) (λ x. f (x / (h * w)) (x % (h * w))))
  where
    go : (r : Found) → First 0 (n * (h * w)) (λ x. f (x / (h * w)) (x % (h * w))) r → r ≡ nothing
    go nothing g = refl
    go (found x) (one_is l b t g) =
        let (u, v) = digits_in x n (h * w) (omega arith) in
        clash t (s (x / (h * w)) (x % (h * w)) u v)

-- accepted: no overlap, no bad ring, nothing unheld
pub record Passed (w h n : ℕ) (q : ℕ → ℕ) (part sup : Stack) (ring : ℕ → ℕ → ℕ) : Type 0 where
  pub no_overlap : Nowhere w h n (overlap part sup)
  pub no_bad_ring : Nowhere w h (n - 1) (bad_ring w h q part ring)
  pub none_unheld : Nowhere w h (n - 1) (unheld part sup ring)

told : (w h up : ℕ) (number : ℕ → ℕ → ℕ) (r : Found) (v : Judged) → tell w h number up r v ≡ Accepted → (r ≡ nothing) × (v ≡ Accepted)
unfolding tell
told w h up number nothing v e = (refl, e)
told w h up number (found x) v e = (cc, cc)

pub accepted_out : (w h n : ℕ) (q : ℕ → ℕ) (part sup : Stack) (ring : ℕ → ℕ → ℕ) → verdict w h n q part sup ring ≡ Accepted → Passed w h n q part sup ring
unfolding verdict
accepted_out w h n q part sup ring e =
    let (o, e₁) = told w h 0 (λ i p. 9) (first_in w h n (overlap part sup)) _ e in
    let (b, e₂) = told w h 1 (λ i p. 10) (first_in w h (n - 1) (bad_ring w h q part ring)) _ e₁ in
    let (u, e₃) = told w h 1 (unheld_number part) (first_in w h (n - 1) (unheld part sup ring)) _ e₂ in
    record { no_overlap = nowhere_out w h n _ o; no_bad_ring = nowhere_out w h (n - 1) _ b; none_unheld = nowhere_out w h (n - 1) _ u }

pub accepted_in : (w h n : ℕ) (q : ℕ → ℕ) (part sup : Stack) (ring : ℕ → ℕ → ℕ) → Passed w h n q part sup ring → verdict w h n q part sup ring ≡ Accepted
unfolding verdict tell
accepted_in w h n q part sup ring c =
    rw (nowhere_in w h n (overlap part sup) c.no_overlap, nowhere_in w h (n - 1) (bad_ring w h q part ring) c.no_bad_ring, nowhere_in w h (n - 1) (unheld part sup ring) c.none_unheld)
