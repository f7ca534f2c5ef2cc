-- From good rows to a pair without a bad ring and without an unheld pixel.
use Rattle.std.specs.Prelude.{◌≡◌, refl, Bool, not, ◌&&◌, ◌||◌, List, ℕ, ◌+◌, ◌-◌, ◌*◌, ◌/◌, ◌%◌, ◌<◌, ◌≤◌, min, ltb, eqb, leb, get_or}
use Rattle.std.proofs.Common.{sym, ap, subst, ◌∙◌, div-add-mod', arith}
use Rattle.std.proofs.Math.Bool.{true}
use borrow.Author.Tests.{ltb-true, ltb-false, lt-ltb, eqb-true, eqb-false, leb-true}
use Rattle.std.proofs.Math.Arith.{digits_div, digits_mod}
use Rattle.rules.specs.Images.{Plane, row_bytes}
use Rattle.rules.specs.Planning.{shadow, seeds}
use Rattle.laws.specs.Tests.{split, clash, and_l, and_r, not_out, or_cases}
use Rattle.laws.specs.Places.{digits_in}
use Rattle.laws.specs.Neighbours.{touch_in}
use Rattle.image.specs.Rows.{packed, Clean}
use Rattle.image.specs.Scratch.{bit_of}
use Rattle.words.specs.Words.{row_part, beside, Within, Digits, column}
use Rattle.words.specs.RowLaws.{columns, part_end_lem}
use Rattle.words.specs.WordLaws.{whole_row, first_word}
use Rattle.places.specs.Planes.{in_plane}
use Rattle.places.specs.Rows.{bytes_in}
use Rattle.leans.specs.Leaning.{Good, Bare}
use Rattle.quick.specs.Sureness.{Beside, SoundRing, seed_part, shadow_part, Long, Shadeless, RowSound, RowHeld}

-- a row's bytes lie in its plane
pub row_room : (w h y rb len : ℕ) → y < h → rb ≡ row_bytes w → h * row_bytes w ≤ len → y * rb + rb ≤ len
row_room w h y rb len ly er el = omega (arith, bytes_in w h y (y * rb) rb (h * row_bytes w) refl er ly refl)

-- a row of 32 bytes by its four words
pub four_words : (s : List ℕ) (at a b c d : ℕ) → Digits 64 a (at * 8) (bit_of s) → Digits 64 b ((at + 8) * 8) (bit_of s) → Digits 64 c ((at + 16) * 8) (bit_of s) →
    Digits 64 d ((at + 24) * 8) (bit_of s)
    → (k : ℕ) → column (record { a = a; b = b; c = c; d = d }) k ≡ row_part s at 32 k
unfolding column
four_words s at a b c d A B C D =
    columns a b c d (row_part s at 32) (first_word s at 32 a (omega arith) A) (whole_row s at 32 1 b (omega arith) B) (whole_row s at 32 2 c (omega arith) C) (whole_row s at 32 3 d (omega arith) D)
    (λ k h. part_end_lem s at 32 k (omega arith) h)

part_out : (s : List ℕ) (at n c : ℕ) → row_part s at n c ≡ true → (c < n * 8) × (bit_of s (at * 8 + c) ≡ true)
unfolding row_part
part_out s at n c e = (ltb-true c (n * 8) (and_l (ltb c (n * 8)) _ e), and_r (ltb c (n * 8)) _ e)

seed_not_shadow : (low up : Plane) (p : ℕ) → seeds low up p ≡ true → shadow low up p ≡ true → ⊥
unfolding seeds shadow
seed_not_shadow low up p s sh = clash (and_l (low p) (up p) s) (not_out (low p) (and_r (up p) _ sh))

-- a layer has no pixel behind its columns
pub part_in_lem : (w h rb : ℕ) → rb ≡ row_bytes w → (s : List ℕ) → Clean w h s → (y c : ℕ) → y < h → row_part s (y * rb) rb c ≡ true → c < w
part_in_lem w h rb er s cl y c ly e =
    let (l, b) = part_out s (y * rb) rb c e in
    split (ltb c w) (ltb-true c w) (λ t. clash b (rw er (cl.clear y c ly (ltb-false c w t) (omega (arith, er)))))

-- Row r of a pair: the rows about it have their bytes at above * rb and below * rb
module _ (w h rb r : ℕ) (er : rb ≡ row_bytes w) where
  row_wide : w ≤ rb * 8
  unfolding row_bytes
  row_wide = omega (arith, er)

  pub packed_part : (s : List ℕ) (y c : ℕ) → c < w → packed w s (y * w + c) ≡ row_part s (y * rb) rb c
  unfolding packed row_part
  packed_part s y c l = rw (digits_div y l, digits_mod y l, ← er, lt-ltb c (rb * 8) (omega (arith, row_wide)))

  pub shadow_part_lem : (low up : List ℕ) (c : ℕ) → c < w → shadow (packed w low) (packed w up) (r * w + c) ≡ shadow_part low up (r * rb) rb c
  unfolding shadow shadow_part
  shadow_part_lem low up c l = rw (packed_part up r c l, packed_part low r c l)

  -- a shadow pixel without support below hangs
  pub hung_held : (low up below rings : List ℕ) (sh be ha : ℕ → Bool) → ((c : ℕ) → sh c ≡ shadow_part low up (r * rb) rb c) → ((c : ℕ) → be c ≡ row_part below (r * rb) rb c) →
      ((c : ℕ) → c < 256 → ha c ≡ (sh c && not (be c))) → w ≤ 256 → ((c : ℕ) → c < w → ha c ≡ true → 0 < get_or rings (r * w + c) 0) → RowHeld w low up below rings r
  hung_held low up below rings sh be ha Sh Be Ha lw held c l s b =
      held c l (Ha c (omega arith) ∙ rw (Sh c, ← shadow_part_lem low up c l, s, Be c, ← packed_part below r c l, b))

  module _ (low up : List ℕ) (cl : Clean w h low) where
    seed_in_row : (y c : ℕ) → y < h → seed_part low up (y * rb) rb c ≡ true → (c < w) × (seeds (packed w low) (packed w up) (y * w + c) ≡ true)
    unfolding seed_part seeds
    seed_in_row y c ly e =
        let d : c < w = part_in_lem w h rb er low cl y c ly (and_l (row_part low (y * rb) rb c) _ e) in
        (d, rw (packed_part low y c d, packed_part up y c d) e)

    module _ (above below : ℕ) (lr : r < h) (ea : above ≡ r - 1) (eb : below ≡ min (r + 1) (h - 1)) (se fr fi : ℕ → Bool)
        (Se : (c : ℕ) → se c ≡ ((seed_part low up (above * rb) rb c || seed_part low up (r * rb) rb c) || seed_part low up (below * rb) rb c))
        (Fr : (c : ℕ) → fr c ≡ shadow_part low up (r * rb) rb c)
        (Fi : (c : ℕ) → fi c ≡ true → (fr c ≡ true) × (beside 1 se c ≡ true)) where
      free_pixel : (c : ℕ) → c < w → fr c ≡ true → shadow (packed w low) (packed w up) (r * w + c) ≡ true
      free_pixel c l e = shadow_part_lem low up c l ∙ sym (Fr c) ∙ e

      -- a shadow pixel beside a seed
      seed_beside : (c d : ℕ) → c < w → d ≤ c + 1 → c ≤ d + 1 → shadow (packed w low) (packed w up) (r * w + c) ≡ true → se d ≡ true → Beside w h (seeds (packed w low) (packed w up)) (r * w + c)
      seed_beside c d lc hi lo sh e =
          or_cases (seed_part low up (above * rb) rb d) (seed_part low up (r * rb) rb d) (seed_part low up (below * rb) rb d) (sym (Se d) ∙ e)
          (there above (omega arith) (omega arith) (omega arith)) (there r lr (omega arith) (omega arith)) (there below (omega arith) (omega arith) (omega arith))
        where
          other : (y : ℕ) → seeds (packed w low) (packed w up) (y * w + d) ≡ true → r ≡ y → c ≡ d → ⊥
          other y s q z = seed_not_shadow (packed w low) (packed w up) (y * w + d) s (rw (q, z) at sh)

          there : (y : ℕ) → y < h → r ≤ y + 1 → y ≤ r + 1 → seed_part low up (y * rb) rb d ≡ true → Beside w h (seeds (packed w low) (packed w up)) (r * w + c)
          there y ly a b s =
              let (ld, is) = seed_in_row y d ly s in
              record {
                other = y * w + d;
                inside = in_plane w h y d ly ld;
                touches = touch_in w r c y d lc ld (record { up = a; down = b; left = lo; right = hi; other = other y is });
                is = is;
              }

      first_pixel : (c : ℕ) → c < w → fi c ≡ true → Beside w h (seeds (packed w low) (packed w up)) (r * w + c)
      unfolding beside
      first_pixel c lc e =
          let (f, b) = Fi c e in
          let sh : shadow (packed w low) (packed w up) (r * w + c) ≡ true = free_pixel c lc f in
          or_cases (se c) (se (c + 1)) (leb 1 c && se (c - 1)) b
          (seed_beside c c lc (omega arith) (omega arith) sh)
          (seed_beside c (c + 1) lc (omega arith) (omega arith) sh)
          (λ u. let p : 1 ≤ c = leb-true 1 c (and_l (leb 1 c) _ u) in seed_beside c (c - 1) lc (omega arith) (omega arith) sh (and_r (leb 1 c) _ u))

      -- a good ring is sound, and lies in `far` where it is larger than t
      pub good_sound : (t most : ℕ) (rings : List ℕ) (got far : ℕ → Bool) → ((c : ℕ) → c < w → Good w h (fr c) (fi c) rings r c) →
          ((c : ℕ) → c < w → (get_or rings (r * w + c) 0 ≤ most) × (0 < get_or rings (r * w + c) 0 → got c ≡ true)) → (t < most → (c : ℕ) → c < w → got c ≡ true → far c ≡ true) →
          RowSound w h t far low up rings r
      good_sound t most rings got far good gets fars c lc = (sound (good c lc), λ l. fars (omega (arith, (gets c lc).0)) c lc ((gets c lc).1 (omega arith)))
        where
          is_free : Good w h (fr c) (fi c) rings r c → 0 < get_or rings (r * w + c) 0 → fr c ≡ true
          is_free g l = split (eqb (get_or rings (r * w + c) 0) 1)
              (λ t. (Fi c (g.first_inside (eqb-true (get_or rings (r * w + c) 0) 1 t))).0) (λ t. g.free_inside (omega (arith, eqb-false (get_or rings (r * w + c) 0) 1 t)))

          same_ring : (p o : ℕ) → 1 < get_or rings p 0 → get_or rings o 0 ≡ get_or rings p 0 - 1 → p ≡ o → ⊥
          same_ring p o l e q = omega (arith, ap (λ (x : ℕ). get_or rings x 0) q)

          sound : Good w h (fr c) (fi c) rings r c → SoundRing w h (packed w low) (packed w up) (λ o. get_or rings o 0) (r * w + c)
          sound g = record {
            free = λ l. free_pixel c lc (is_free g l);
            first = λ e. first_pixel c lc (g.first_inside e);
            leans = λ l.
                let s = g.leans l in (
                  s.row * w + s.column,
                  in_plane w h s.row s.column s.row_in s.column_in,
                  touch_in w r c s.row s.column lc s.column_in (record {
                    up = s.up;
                    down = s.down;
                    left = s.left;
                    right = s.right;
                    other = λ q z. same_ring (r * w + c) (s.row * w + s.column) l s.is (ap (λ (x : ℕ). x * w + c) q ∙ ap (λ (x : ℕ). s.row * w + x) z);
                  }),
                  omega (arith, s.is),
                );
          }

-- a row without rings is sound, and one without shadow held
pub bare_sound : (w h t r : ℕ) (f : Plane) (low up rings : List ℕ) → Bare w rings r → RowSound w h t f low up rings r
bare_sound w h t r f low up rings none c l =
    let e = none c l in
    (record { free = λ p. absurd (omega arith); first = λ p. absurd (omega arith); leans = λ p. absurd (omega arith) }, λ p. absurd (omega arith))

pub bare_held : (w r : ℕ) (low up below rings : List ℕ) → Shadeless w low up r → RowHeld w low up below rings r
bare_held w r low up below rings none c l s b = clash s (none c l)

-- rows from a up to b, and rows before a
pub rows_more : (P : ℕ → Type 0) (a b : ℕ) → ((y : ℕ) → y < a → P y) → ((y : ℕ) → a ≤ y → y < b → P y) → (y : ℕ) → y < b → P y
rows_more P a b old new y l = split (ltb y a) (λ t. old y (ltb-true y a t)) (λ t. new y (ltb-false y a t) l)

-- a row that was put into four words
pub put_four : (g was out : ℕ → Bool) → Within (0 * 64) ((0 + 4) * 64) (λ j. g (j - 0 * 64)) was out → (c : ℕ) → c < 256 → out c ≡ g c
put_four g was out W c l = W.inner c (omega arith) (omega arith) ∙ ap g (omega arith)

pub good_same : (w h : ℕ) (a b a' b' : Bool) (rings : List ℕ) (r c : ℕ) → a ≡ a' → b ≡ b' → Good w h a b rings r c → Good w h a' b' rings r c
good_same w h a b a' b' rings r c e f g = rw (← e, ← f) g

-- all pixels of all rows
pub all_rows : (w h : ℕ) (P : ℕ → Type 0) → ((y : ℕ) → y < h → (c : ℕ) → c < w → P (y * w + c)) → (p : ℕ) → p < h * w → P p
all_rows w h P all p l = let (lr, lc) = digits_in p h w l in subst P (div-add-mod' p w) (all (p / w) lr (p % w) lc)

-- the two layers of the part
pub low_long : {n : ℕ} {low up below above : List ℕ} → Long n low up below above → Long n low up low low
low_long l = record { low_long = l.low_long; up_long = l.up_long; below_long = l.low_long; above_long = l.low_long }
