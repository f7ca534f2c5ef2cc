-- Laws of rings joined, of eight rings at once, of the neighbours and of a good ring.
use Rattle.std.specs.Prelude.{◌≡◌, refl, Bool, true, false, not, ◌&&◌, ◌||◌, cond, List, [], ◌∷◌, ℕ, zero, suc, ◌+◌, ◌-◌, ◌*◌, ◌/◌, ◌^◌, ◌<◌, ◌≤◌, ltb, eqb, length, get_or, set, Option, IfSome}
use Rattle.std.proofs.Common.{sym, ap, subst, ◌∙◌, arith, below_more, ltb-true, ltb-false, lt-ltb, le-ltb, eq-eqb, ne_eqb, get_or-set_same, get_or-set_other}
use Rattle.std.proofs.Math.Decide.{dec_lt}
use Rattle.std.specs.Bool.{then_some}
use Rattle.std.specs.Int.{w64, to_be_bytes}
use Rattle.std.specs.Int.Bits.{bit_and, bit_or, bit_xor, or_add_and, xor_add_and}
use Rattle.std.proofs.lemmas.Nat.{and_le_l, and_le_r}
use Rattle.rules.specs.Tools.{bit}
use Rattle.rules.specs.Images.{bit_at}
use Rattle.laws.specs.Tests.{split, or_false, and_true, and_false}
use Rattle.image.specs.Bits.{or_none}
use Rattle.places.specs.Planes.{in_plane}
use Rattle.words.specs.Words.{bit_of_word, word_bit}
use Rattle.leans.specs.Leaning.{About, Alike, Good, Got, Tells}
use Rattle.leans.specs.declared.Told.{Told}
use Rattle.leans.specs.BitLaws.{bit_zero, bit_or_lem, bit_at_lem, word_bit_lem, covered_bit, byte_of_word}

-- Rings joined -----------------------------------------------------------------------------------------------------------

pub or_left : (a b : ℕ) → a ≤ bit_or a b
or_left a b = omega (arith, or_add_and a b, and_le_r a b)

pub or_right : (a b : ℕ) → b ≤ bit_or a b
or_right a b = omega (arith, or_add_and a b, and_le_l a b)

pub gathered_more : (f : ℕ → ℕ) (j all : ℕ) → ((k : ℕ) → k < j → f k ≤ all) → (k : ℕ) → k < j + 1 → f k ≤ bit_or all (f j)
gathered_more f j all h = below_more (λ k. f k ≤ bit_or all (f j)) j (λ k l. omega (arith, h k l, or_left all (f j))) (or_right all (f j))

-- one more stretch of 256 pixels, or the rest
pub quiet_more : (rings : List ℕ) (x j n all m : ℕ) → (all ≡ 0 → (k : ℕ) → k < j → get_or rings (x + k) 0 ≡ 0) → ((k : ℕ) → k < n → get_or rings (x + j + k) 0 ≤ m) → bit_or all m ≡ 0 →
    (k : ℕ) → k < j + n → get_or rings (x + k) 0 ≡ 0
quiet_more rings x j n all m old new e k l =
    let (a, b) = or_none all m e in
    split (ltb k j) (λ t. old a k (ltb-true k j t)) (λ t.
    let z : x + j + (k - j) ≡ x + k = omega (arith, ltb-false k j t) in
    let u : get_or rings (x + k) 0 ≤ m = rw z at (new (k - j) (omega (arith, ltb-false k j t))) in
    omega arith)

-- Eight rings at once ----------------------------------------------------------------------------------------------------

bit_one : (b : Bool) → bit b ≡ 1 → b ≡ true
unfolding bit
bit_one true e = refl
bit_one false e = absurd (omega arith)

bit_some : (b : Bool) → ltb 0 (bit b) ≡ b
unfolding bit
bit_some true = refl
bit_some false = refl

bit_small : (b : Bool) → bit b ≤ 1
unfolding bit
bit_small true = omega arith
bit_small false = omega arith

pub xor_same : (a b : ℕ) → bit_xor a b ≡ 0 → a ≡ b
xor_same a b e = omega (arith, xor_add_and a b, and_le_l a b, and_le_r a b)

-- The neighbours -----------------------------------------------------------------------------------------------------------

about_inside : (x n : ℕ) → 0 < x → x + 1 < n → About x n ((x - 1) ∷ x ∷ (x + 1) ∷ [])
about_inside x n lo hi = (refl, among)
  where
    among : (i : ℕ) → i < 3 → (get_or ((x - 1) ∷ x ∷ (x + 1) ∷ []) i 0 < n) × ((x ≤ get_or ((x - 1) ∷ x ∷ (x + 1) ∷ []) i 0 + 1) × (get_or ((x - 1) ∷ x ∷ (x + 1) ∷ []) i 0 ≤ x + 1))
    among zero l = (omega arith, (omega arith, omega arith))
    among (suc zero) l = (omega arith, (omega arith, omega arith))
    among (suc (suc zero)) l = (omega arith, (omega arith, omega arith))
    among (suc (suc (suc i))) l = absurd (omega arith)

-- the nine about a pixel that has all eight neighbours lie in the plane
pub nine_in : (w h r c : ℕ) → 0 < r → r + 1 < h → 0 < c → c + 1 < w → (i j : ℕ) → i < 3 → j < 3 →
    get_or ((r - 1) ∷ r ∷ (r + 1) ∷ []) i 0 * w + get_or ((c - 1) ∷ c ∷ (c + 1) ∷ []) j 0 < h * w
nine_in w h r c a b d e i j l k = in_plane w h _ _ ((about_inside r h a b).1 i l).0 ((about_inside c w d e).1 j k).0

-- A good ring --------------------------------------------------------------------------------------------------------------

module _ (w h : ℕ) (free first : Bool) (rings : List ℕ) (r c : ℕ) where
  pub good_none : get_or rings (r * w + c) 0 ≡ 0 → Good w h free first rings r c
  good_none e = record { first_inside = λ o. absurd (omega arith); free_inside = λ l. absurd (omega arith); leans = λ l. absurd (omega arith) }

  -- a ring that is 1 at a first pixel, and else 0
  pub good_bit : get_or rings (r * w + c) 0 ≡ bit first → Good w h free first rings r c
  good_bit e = record {
    first_inside = λ o. bit_one first (sym e ∙ o);
    free_inside = λ b. absurd (omega (arith, bit_small first));
    leans = λ b. absurd (omega (arith, bit_small first));
  }

pub all_more : (P : ℕ → Type 0) (a k : ℕ) → ((y : ℕ) → a ≤ y → y < k → P y) → P k → (y : ℕ) → a ≤ y → y < k + 1 → P y
all_more P a k all here y l h = split (ltb y k) (λ t. all y l (ltb-true y k t)) (λ t. let z : k ≡ y = omega (arith, ltb-false y k t) in subst P z here)

-- What a word tells ---------------------------------------------------------------------------------------------------------

or_yes : (a : Bool) → (a || true) ≡ true
or_yes true = refl
or_yes false = refl

module _ (w : ℕ) (rings : List ℕ) (at x a k got : ℕ) where
  pub got_none : get_or rings (at + (x + k)) 0 ≡ 0 → k < 64 → Got w rings at x a k got → Got w rings at x a (k + 1) got
  got_none e lk g = record {
    has = λ j lo hi lw. split (ltb j k) (λ t. g.has j lo (ltb-true j k t) lw) (λ t.
        let z : j ≡ k = omega (arith, ltb-false j k t) in rw (z, e) (g.only k lk (λ u v. omega arith)));
    only = λ j l out. g.only j l (λ u v. out u (omega arith));
  }

  -- one more pixel that has a ring: b is its bit
  pub got_some : (b : ℕ) → ((j : ℕ) → j < 64 → bit_of_word b j ≡ eqb j k) → 0 < get_or rings (at + (x + k)) 0 → a ≤ k → k < 64 → Got w rings at x a k got → Got w rings at x a (k + 1) (bit_or got b)
  got_some b is pos la lk g = record {
    has = λ j lo hi lw. bit_or_lem got b j ∙ split (ltb j k)
        (λ t. let l : j < k = ltb-true j k t in rw (is j (omega arith), ne_eqb j k (λ z. omega arith), or_false (bit_of_word got j)) (g.has j lo l lw))
        (λ t. let z : j ≡ k = omega (arith, ltb-false j k t) in rw (z, is k lk, eq-eqb k k refl, or_yes (bit_of_word got k), lt-ltb 0 (get_or rings (at + (x + k)) 0) pos));
    only = λ j l out. bit_or_lem got b j ∙ rw (is j l, ne_eqb j k (λ z. out (omega arith) (omega arith)), or_false (bit_of_word got j)) (g.only j l (λ u v. out u (omega arith)));
  }

-- no pixel tells yet, and one more pixel tells
pub tells_start : (w h : ℕ) (rings : List ℕ) (r x a free first : ℕ) → Tells w h rings r x a a free first (record { got = 0; most = 0 })
tells_start w h rings r x a free first = record {
  fine = λ k lo hi lw. absurd (omega arith);
  gets = record { has = λ k lo hi lw. absurd (omega arith); only = λ k l out. bit_zero k };
  most = λ k lo hi lw. absurd (omega arith);
}

module _ (w h : ℕ) (rings : List ℕ) (r x a k free first got most : ℕ) (lk : k < 64) (T : Tells w h rings r x a k free first (record { got = got; most = most })) where
  -- the pixels up to k may carry their rings
  fine_more : Good w h (bit_of_word free k) (bit_of_word first k) rings r (x + k) → (j : ℕ) → a ≤ j → j < k + 1 → x + j < w → Good w h (bit_of_word free j) (bit_of_word first j) rings r (x + j)
  fine_more g = all_more (λ j. x + j < w → Good w h (bit_of_word free j) (bit_of_word first j) rings r (x + j)) a k T.fine (λ _. g)

  pub tells_none : get_or rings (r * w + (x + k)) 0 ≡ 0 → Tells w h rings r x a (k + 1) free first (record { got = got; most = most })
  tells_none e = record {
    fine = fine_more (good_none w h (bit_of_word free k) (bit_of_word first k) rings r (x + k) e);
    gets = got_none w rings (r * w) x a k got e lk T.gets;
    most = all_more (λ j. x + j < w → get_or rings (r * w + (x + j)) 0 ≤ most) a k T.most (λ _. omega arith);
  }

  pub tells_some : (b v : ℕ) → ((j : ℕ) → j < 64 → bit_of_word b j ≡ eqb j k) → v ≡ get_or rings (r * w + (x + k)) 0 → 0 < v → a ≤ k → Good w h (bit_of_word free k) (bit_of_word first k) rings r (x + k)
      → Tells w h rings r x a (k + 1) free first (record { got = bit_or got b; most = bit_or most v })
  tells_some b v is e pos la g = record {
    fine = fine_more g;
    gets = got_some w rings (r * w) x a k got b is (omega arith) la lk T.gets;
    most = all_more (λ j. x + j < w → get_or rings (r * w + (x + j)) 0 ≤ bit_or most v) a k
        (λ j lo hi lw. omega (arith, T.most j lo hi lw, or_left most v)) (λ _. omega (arith, or_right most v));
  }

module _ (w h : ℕ) (rings : List ℕ) (r x free first b : ℕ) where
  -- the pixels before byte b are good
  abbrev pub Before : ℕ → Type 0
  Before n = (k : ℕ) → 0 ≤ k → k < n → x + k < w → Good w h (bit_of_word free k) (bit_of_word first k) rings r (x + k)

  -- the bits of `got`: before byte b those of the pixels that have a ring, then the first pixels
  abbrev pub GotTo : ℕ → ℕ → Type 0
  GotTo n got = (k : ℕ) → k < 64 → x + k < w → bit_of_word got k ≡ cond (ltb k (8 * n)) (ltb 0 (get_or rings (r * w + (x + k)) 0)) (bit_of_word first k)

  -- no ring before byte b is larger
  abbrev pub AtMost : ℕ → ℕ → Type 0
  AtMost n most = (1 ≤ most) × ((k : ℕ) → k < 8 * n → x + k < w → get_or rings (r * w + (x + k)) 0 ≤ most)

  before_next : Before (8 * b) → ((k : ℕ) → 8 * b ≤ k → k < 8 * b + 8 → x + k < w → Good w h (bit_of_word free k) (bit_of_word first k) rings r (x + k)) → Before (8 * (b + 1))
  before_next old new k z l lw = split (ltb k (8 * b)) (λ t. old k z (ltb-true k (8 * b) t) lw) (λ t. new k (ltb-false k (8 * b) t) (omega arith) lw)

  least_next : (m n : ℕ) → m ≤ n → AtMost b m → ((k : ℕ) → 8 * b ≤ k → k < 8 * b + 8 → x + k < w → get_or rings (r * w + (x + k)) 0 ≤ n) → AtMost (b + 1) n
  least_next m n le (o, old) new = (omega arith, λ k l lw. split (ltb k (8 * b)) (λ t. omega (arith, old k (ltb-true k (8 * b) t) lw)) (λ t. new k (ltb-false k (8 * b) t) (omega arith) lw))

  -- k lies before byte b, in it or behind
  got_next : (was now : ℕ) → GotTo b was → ((k : ℕ) → k < 64 → (8 * b ≤ k → k < 8 * b + 8 → ⊥) → bit_of_word now k ≡ bit_of_word was k) →
      ((k : ℕ) → 8 * b ≤ k → k < 8 * b + 8 → x + k < w → bit_of_word now k ≡ ltb 0 (get_or rings (r * w + (x + k)) 0)) → GotTo (b + 1) now
  got_next was now old same new k l lw = elim (dec_lt k (8 * b)) [
    | yes u ↦ same k l (λ lo hi. omega arith) ∙ old k l lw ∙ rw (lt-ltb k (8 * b) u, lt-ltb k (8 * (b + 1)) (omega arith))
    | no u ↦ elim (dec_lt k (8 * b + 8)) [
      | yes v ↦ new k (omega arith) v lw ∙ rw (lt-ltb k (8 * (b + 1)) (omega arith))
      | no v ↦ same k l (λ lo hi. v hi) ∙ old k l lw ∙ rw (le-ltb k (8 * b) (omega arith), le-ltb k (8 * (b + 1)) (omega arith))
    ]
  ]

  module _ (like : Alike rings (r * w + x) first b) where
    alike_ring : (k : ℕ) → 8 * b ≤ k → k < 8 * b + 8 → get_or rings (r * w + (x + k)) 0 ≡ bit (bit_of_word first k)
    alike_ring k lo hi =
        let z : r * w + x + 8 * b + (k - 8 * b) ≡ r * w + (x + k) = omega arith in
        let y : 8 * b + (k - 8 * b) ≡ k = omega arith in
        rw (z, y) at (like (k - 8 * b) (omega arith))

    alike_before : Before (8 * b) → Before (8 * (b + 1))
    alike_before old = before_next old (λ k lo hi lw. good_bit w h (bit_of_word free k) (bit_of_word first k) rings r (x + k) (alike_ring k lo hi))

    alike_least : (most : ℕ) → AtMost b most → AtMost (b + 1) most
    alike_least most old = least_next most most (omega arith) old (λ k lo hi lw. omega (arith, alike_ring k lo hi, bit_small (bit_of_word first k), old.0))

    alike_got : (got : ℕ) → b < 8 → GotTo b got → GotTo (b + 1) got
    alike_got got lb old = got_next got got old (λ k l out. refl) (λ k lo hi lw.
        old k (omega arith) lw ∙ rw (le-ltb k (8 * b) lo, alike_ring k lo hi) (sym (bit_some (bit_of_word first k))))

  -- byte b, of which the image may have some columns, up to column e of the word
  module _ (e : ℕ) (t : Told) (T : Tells w h rings r x (8 * b) e free first t) (le : e ≤ 8 * b + 8) (ge : (k : ℕ) → k < 8 * b + 8 → x + k < w → k < e) (lb : b < 8) where
    told_before : Before (8 * b) → Before (8 * (b + 1))
    told_before old = before_next old (λ k lo hi lw. T.fine k lo (ge k hi lw) lw)

    told_least : (most : ℕ) → AtMost b most → AtMost (b + 1) (bit_or most t.most)
    told_least most old = least_next most (bit_or most t.most) (or_left most t.most) old (λ k lo hi lw. omega (arith, T.most k lo (ge k hi lw) lw, or_right most t.most))

    told_got : (got p : ℕ) → ((k : ℕ) → k < 64 → bit_of_word p k ≡ ((bit_of_word got k && not (eqb (k / 8) b)) || bit_of_word t.got k)) → GotTo b got → GotTo (b + 1) p
    told_got got p patch old = got_next got p old
        (λ k l out. patch k l ∙ rw (
          ne_eqb (k / 8) b (λ z. out (omega arith) (omega arith)),
          T.gets.only k l (λ lo hi. out lo (omega arith)),
          and_true (bit_of_word got k),
          or_false
              (bit_of_word got k),
        ))
        (λ k lo hi lw. patch k (omega arith) ∙ rw (eq-eqb (k / 8) b (omega arith), and_false (bit_of_word got k)) (T.gets.has k lo (ge k hi lw) lw))

-- what the bytes before byte b tell
pub record Upto (w h : ℕ) (rings : List ℕ) (r x free first b got most : ℕ) : Type 0 where
  pub good : Before w h rings r x free first b (8 * b)
  pub gets : GotTo w h rings r x free first b b got
  pub least : AtMost w h rings r x free first b b most

-- byte b too, by what its pixels tell
pub upto_told : (w h : ℕ) (rings : List ℕ) (r x free first b e : ℕ) (t : Told) → Tells w h rings r x (8 * b) e free first t → e ≤ 8 * b + 8 → ((k : ℕ) → k < 8 * b + 8 → x + k < w → k < e) →
    b < 8 → (got most p : ℕ) → ((k : ℕ) → k < 64 → bit_of_word p k ≡ ((bit_of_word got k && not (eqb (k / 8) b)) || bit_of_word t.got k)) →
    Upto w h rings r x free first b got most → Upto w h rings r x free first (b + 1) p (bit_or most t.most)
upto_told w h rings r x free first b e t T le ge lb got most p patch u = record {
  good = told_before w h rings r x free first b e t T le ge lb u.good;
  gets = told_got w h rings r x free first b e t T le ge lb got p patch u.gets;
  least = told_least w h rings r x free first b e t T le ge lb most u.least;
}

-- byte b too, where its rings are alike: v is that byte
pub upto_alike : (w h : ℕ) (rings : List ℕ) (r x free first got most b v : ℕ) → b < 8 → v ≡ get_or (to_be_bytes w64 first) b 0 →
    ((k : ℕ) → k < 8 → get_or rings (r * w + x + 8 * b + k) 0 ≡ bit (bit_at v k)) → Upto w h rings r x free first b got most → Upto w h rings r x free first (b + 1) got most
upto_alike w h rings r x free first got most b v lb e like u =
    let a : Alike rings (r * w + x) first b = λ k l. like k l ∙ rw e (ap bit (byte_of_word first b k lb l)) in record {
      good = alike_before w h rings r x free first b a u.good;
      gets = alike_got w h rings r x free first b a got lb u.gets;
      least = alike_least w h rings r x free first b a most u.least;
    }

-- a word without rings
pub quiet_told : (w h : ℕ) (rings : List ℕ) (r x free first : ℕ) → ((k : ℕ) → k < 64 → x + k < w → get_or rings (r * w + (x + k)) 0 ≡ 0) →
    Tells w h rings r x 0 64 free first (record { got = 0; most = 0 })
quiet_told w h rings r x free first none = record {
  fine = λ k lo hi lw. good_none w h (bit_of_word free k) (bit_of_word first k) rings r (x + k) (none k hi lw);
  gets = record { has = λ k lo hi lw. bit_zero k ∙ rw (none k hi lw); only = λ k l out. bit_zero k };
  most = λ k lo hi lw. omega (arith, none k hi lw);
}

-- what `then_some` gives
pub if_then_some : {A : Type 0} (b : Bool) (v : A) (o : Option A) (P : A → Type 0) → o ≡ then_some b v → (b ≡ true → P v) → IfSome o P
if_then_some true v o P e h = rw e (h refl)
if_then_some false v o P e h = rw e tt

-- a whole word, after the last byte of which the image has columns
pub word_told : (w h : ℕ) (rings : List ℕ) (r x free first n got most : ℕ) → ((k : ℕ) → k < 64 → x + k < w → k < 8 * n) → Upto w h rings r x free first n got most →
    Tells w h rings r x 0 64 free first (record { got = got; most = most })
word_told w h rings r x free first n got most ln u = record {
  fine = λ k lo hi lw. u.good k lo (ln k hi lw) lw;
  gets = record { has = λ k lo hi lw. u.gets k hi lw ∙ rw (lt-ltb k (8 * n) (ln k hi lw)); only = λ k l out. absurd (out (omega arith) l) };
  most = λ k lo hi lw. u.least.1 k (ln k hi lw) lw;
}

-- The words of a row ----------------------------------------------------------------------------------------------------------

-- the words before word i tell: their rings are good and at most `most`, and `got` has those that have one
pub record Lined (w h : ℕ) (rings : List ℕ) (r i : ℕ) (free first got : List ℕ) (most : ℕ) : Type 0 where
  pub fine : (c : ℕ) → c < i * 64 → c < w → Good w h (word_bit free c) (word_bit first c) rings r c
  pub gets : (c : ℕ) → c < i * 64 → c < w → 0 < get_or rings (r * w + c) 0 → word_bit got c ≡ true
  pub least : (c : ℕ) → c < i * 64 → c < w → get_or rings (r * w + c) 0 ≤ most

module _ (w h : ℕ) (rings : List ℕ) (r i : ℕ) where
  -- what holds of a column of word i holds of its bit
  in_word : (P : ℕ → Type 0) → ((c : ℕ) → c < i * 64 → c < w → P c) → ((k : ℕ) → k < 64 → i * 64 + k < w → P (i * 64 + k)) → (c : ℕ) → c < (i + 1) * 64 → c < w → P c
  in_word P old new c l lc = split (ltb c (i * 64)) (λ b. old c (ltb-true c (i * 64) b) lc) (λ b.
      let z : i * 64 + (c - i * 64) ≡ c = omega (arith, ltb-false c (i * 64) b) in
      subst P z (new (c - i * 64) (omega (arith, ltb-false c (i * 64) b)) (omega arith)))

  pub lined_more : (free first got : List ℕ) (most : ℕ) (t : Told) → Tells w h rings r (i * 64) 0 64 (get_or free i 0) (get_or first i 0) t → i < length got →
      Lined w h rings r i free first got most → Lined w h rings r (i + 1) free first (set got i t.got) (bit_or most t.most)
  lined_more free first got most t T lg L = record {
    fine = in_word (λ c. Good w h (word_bit free c) (word_bit first c) rings r c) L.fine (λ k lk lw. rw (word_bit_lem free i k lk, word_bit_lem first i k lk) (T.fine k (omega arith) lk lw));
    gets = in_word (λ c. 0 < get_or rings (r * w + c) 0 → word_bit (set got i t.got) c ≡ true)
        (λ c l lc pos. bit_at_lem (set got i t.got) c ∙ rw (get_or-set_other got i (c / 64) t.got 0 (λ z. omega arith)) (sym (bit_at_lem got c)) ∙ L.gets c l lc pos)
        (λ k lk lw pos. word_bit_lem (set got i t.got) i k lk ∙ rw (get_or-set_same got i t.got 0 lg) (T.gets.has k (omega arith) lk lw) ∙ lt-ltb 0 _ pos);
    least = in_word (λ c. get_or rings (r * w + c) 0 ≤ bit_or most t.most)
        (λ c l lc. omega (arith, L.least c l lc, or_left most t.most)) (λ k lk lw. omega (arith, T.most k (omega arith) lk lw, or_right most t.most));
  }

  pub row_held : (hang : List ℕ) (free first bare : ℕ) (t : Told) → Tells w h rings r (i * 64) 0 64 free first t → t.got < 2 ^ 64 →
      (bare ≡ 0 → (c : ℕ) → c < i * 64 → c < w → word_bit hang c ≡ true → 0 < get_or rings (r * w + c) 0) →
      bit_or bare (bit_and (get_or hang i 0) (2 ^ 64 - 1 - t.got)) ≡ 0 → (c : ℕ) → c < (i + 1) * 64 → c < w → word_bit hang c ≡ true → 0 < get_or rings (r * w + c) 0
  row_held hang free first bare t T lg old e =
      let (x, y) = or_none bare (bit_and (get_or hang i 0) (2 ^ 64 - 1 - t.got)) e in
      in_word (λ c. word_bit hang c ≡ true → 0 < get_or rings (r * w + c) 0) (old x) (λ k lk lw u.
      let m : bit_of_word (get_or hang i 0) k ≡ true = sym (word_bit_lem hang i k lk) ∙ u in
      ltb-true 0 _ (sym (T.gets.has k (omega arith) lk lw) ∙ covered_bit (get_or hang i 0) t.got k lg lk y m))
