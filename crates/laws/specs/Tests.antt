-- Laws of tests: how a Boolean test and the statement that it tests are turned into each other.
use Rattle.std.specs.Prelude.{◌≡◌, refl, ◌⊎◌, Bool, true, false, not, ◌&&◌, ◌||◌, ℕ, zero, suc, ◌+◌, ◌≤◌, ◌<◌, eqb, get_or, length}
use Rattle.std.proofs.Common.{sym, ap, ◌∙◌, inl, inr, true≢false, not-suc-le-zero, arith, eqb-true}
use Rattle.std.proofs.lemmas.Bool.{false≢true, eqb-false}
use Rattle.rules.specs.Tools.{bit, some, each, count}

-- both cases of a test, with the equation
pub split : {C : Type 0} (b : Bool) → (b ≡ true → C) → (b ≡ false → C) → C
split true f g = f refl
split false f g = g refl

pub bool_eq : (a b : Bool) → (a ≡ true → b ≡ true) → (b ≡ true → a ≡ true) → a ≡ b
bool_eq true b f g = sym (f refl)
bool_eq false true f g = g refl
bool_eq false false f g = refl

pub clash : {C : Type 0} {b : Bool} → b ≡ true → b ≡ false → C
clash p q = absurd (true≢false (sym p ∙ q))

pub and_l : (a b : Bool) → (a && b) ≡ true → a ≡ true
and_l true b e = refl
and_l false b e = e

pub and_r : (a b : Bool) → (a && b) ≡ true → b ≡ true
and_r true b e = e
and_r false b e = clash e refl

pub and_in : (a b : Bool) → a ≡ true → b ≡ true → (a && b) ≡ true
and_in a b p q = rw (p, q)

pub or_l : (a b : Bool) → a ≡ true → (a || b) ≡ true
or_l a b p = rw p

pub or_r : (a b : Bool) → b ≡ true → (a || b) ≡ true
or_r true b p = refl
or_r false b p = p

pub or_out : (a b : Bool) → (a || b) ≡ true → (a ≡ true) ⊎ (b ≡ true)
or_out true b e = inl refl
or_out false b e = inr e

pub or_cases : {C : Type 0} (a b c : Bool) → (a || b || c) ≡ true → (a ≡ true → C) → (b ≡ true → C) → (c ≡ true → C) → C
or_cases true b c e f g k = f refl
or_cases false true c e f g k = g refl
or_cases false false c e f g k = k e

pub or_none : (a b : Bool) → (a || b) ≡ false → b ≡ false
or_none true b e = clash refl e
or_none false b e = e

pub none_of : (a b : Bool) → (a || b) ≡ false → (a ≡ false) × (b ≡ false)
none_of true b e = clash refl e
none_of false b e = (refl, e)

pub or_false : (a : Bool) → (a || false) ≡ a
or_false true = refl
or_false false = refl

pub and_true : (a : Bool) → (a && true) ≡ a
and_true true = refl
and_true false = refl

pub and_false : (a : Bool) → (a && false) ≡ false
and_false true = refl
and_false false = refl

pub not_in : (a : Bool) → a ≡ false → not a ≡ true
not_in a p = rw p

pub not_out : (a : Bool) → not a ≡ true → a ≡ false
not_out true e = sym e
not_out false e = refl

-- `some`
pub some_in : (n : ℕ) (f : ℕ → Bool) (x : ℕ) → x < n → f x ≡ true → some n f ≡ true
unfolding some
some_in zero f x h e = absurd (not-suc-le-zero h)
some_in (suc n) f x h e =
    split (eqb x n) (λ t. or_l (f n) _ (rw (eqb-true x n t) at e)) (λ t. or_r (f n) _ (some_in n f x (omega (arith, eqb-false x n t)) e))

pub some_out : (n : ℕ) (f : ℕ → Bool) → some n f ≡ true → (x : ℕ) × (x < n) × (f x ≡ true)
unfolding some
some_out zero f e = absurd (false≢true e)
some_out (suc n) f e =
    split (f n) (λ t. (n, omega arith, t)) (λ t. let (x, h, y) = some_out n f (rw t at e) in (x, omega arith, y))

pub length_each : {A : Type 0} (a n : ℕ) (f : ℕ → A) → length (each a n f) ≡ n
unfolding each
length_each a zero f = refl
length_each a (suc n) f = ap suc (length_each (suc a) n f)

pub get_d_each : {A : Type 0} (a n : ℕ) (f : ℕ → A) (i : ℕ) (d : A) → i < n → get_or (each a n f) i d ≡ f (a + i)
unfolding each
get_d_each a zero f i d h = absurd (not-suc-le-zero h)
get_d_each a (suc n) f zero d h = ap f (omega arith)
get_d_each a (suc n) f (suc i) d h = get_d_each (suc a) n f i d (omega arith) ∙ ap f (omega arith)

pub count_le : (n : ℕ) (f : ℕ → Bool) → count n f ≤ n
unfolding count bit
count_le zero f = omega arith
count_le (suc n) f = split (f n) (λ t. rw t (omega (arith, count_le n f))) (λ t. rw t (omega (arith, count_le n f)))

-- a test that passes more often
pub count_mono : (n : ℕ) (f g : ℕ → Bool) → ((x : ℕ) → x < n → f x ≡ true → g x ≡ true) → count n f ≤ count n g
unfolding count bit
count_mono zero f g s = omega arith
count_mono (suc n) f g s =
    let r : count n f ≤ count n g = count_mono n f g (λ x h. s x (omega arith)) in
    split (f n) (λ t. rw (t, s n (omega arith) t) (omega arith)) (λ t. rw t (omega arith))

pub count_more : (n : ℕ) (f g : ℕ → Bool) → ((x : ℕ) → x < n → f x ≡ true → g x ≡ true) → (x : ℕ) → x < n → f x ≡ false → g x ≡ true → count n f < count n g
unfolding count bit
count_more zero f g s x h p q = absurd (not-suc-le-zero h)
count_more (suc n) f g s x h p q =
    split (eqb x n)
    (λ t. let e : x ≡ n = eqb-true x n t in rw (rw e at p, rw e at q) (omega (arith, count_mono n f g (λ y l. s y (omega arith)))))
    (λ t.
    let r : count n f < count n g = count_more n f g (λ y l. s y (omega arith)) x (omega (arith, eqb-false x n t)) p q in
    split (f n) (λ u. rw (u, s n (omega arith) u) (omega arith)) (λ u. rw u (omega arith)))

pub some_none : (n : ℕ) (f : ℕ → Bool) → ((x : ℕ) → x < n → f x ≡ false) → some n f ≡ false
some_none n f all = split (some n f) (λ t. let (x, h, y) = some_out n f t in clash y (all x h)) (λ t. t)

pub each_same : {A : Type 0} (a n : ℕ) (f g : ℕ → A) → ((i : ℕ) → i < n → f (a + i) ≡ g (a + i)) → each a n f ≡ each a n g
unfolding each
each_same a zero f g s = refl
each_same a (suc n) f g s =
    let z : a + 0 ≡ a = omega arith in
    let e : f a ≡ g a = rw z at (s 0 (omega arith)) in
    rw (e, each_same (suc a) n f g (λ i h. let y : a + suc i ≡ suc a + i = omega arith in rw y at (s (suc i) (omega arith))))
