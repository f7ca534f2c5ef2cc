-- Laws of sweeps: visits of a row, rows of a sweep and sweeps put together.
use Rattle.std.specs.Prelude.{◌≡◌, ℕ, zero, suc, ◌+◌, ◌-◌, ◌*◌, ◌/◌, ◌%◌, ◌^◌, ◌<◌, ◌≤◌, Bool, true, false, ◌⊎◌, List, length, nat_lt, slice_index, slice_set}
use Rattle.std.proofs.Common.{sym, ap, subst, ◌∙◌, true≢false, inl, inr, ⊎_elim, pow-suc, arith, eq-eqb, eqb-true, get_or-set_same, get_or-set_other}
use Rattle.std.proofs.lemmas.Bool.{false≢true}
use Rattle.std.proofs.Math.Decide.{ℕ_discrete, dec_lt}
use Rattle.rules.specs.Images.{Plane}
use Rattle.rules.specs.Planning.{grown, touch}
use Rattle.laws.specs.Tests.{split, clash}
use Rattle.words.specs.Words.{word_bit, bit_of_word, place}
use Rattle.words.specs.Digits.{place_zero, place_shr}
use Rattle.words.specs.WordLaws.{flat_here}
use Rattle.planes.specs.PlaneLaws.{framed_row, row_bit_lem}
use Rattle.planes.specs.Scratch.{spot, Sizes, Framed, seen, row_bit}
use Rattle.sweeps.specs.Marks.{Grows, Onward}
use Rattle.sweeps.specs.Relaxing.{at_rest}
use Rattle.sweeps.specs.Rings.{level, sum_by}
use Rattle.sweeps.specs.Telling.{Falls, Beside, Around, Unmarked, Nearby, turned, behind_row, Gone}

abbrev Fewer : List ℕ → List ℕ → Type 0
Fewer out was = (j : ℕ) → word_bit out j ≡ true → word_bit was j ≡ true

-- one after the other -----------------------------------------------------------------------------------------------

pub onward_none : (w h : ℕ) (ring marks got cand : List ℕ) → Onward w h ring ring marks marks got got cand
onward_none w h ring marks got cand = record { grows = λ f s n G. G; adds = λ j u. inl u }

pub onward_then : {w h : ℕ} {r0 r1 r2 m0 m1 m2 g0 g1 g2 cand : List ℕ} → Onward w h r1 r0 m1 m0 g1 g0 cand → Onward w h r2 r1 m2 m1 g2 g1 cand → Onward w h r2 r0 m2 m0 g2 g0 cand
onward_then A B = record { grows = λ f s n G. B.grows f s n (A.grows f s n G); adds = λ j u. ⊎_elim (A.adds j) (λ v. inr v) (B.adds j u) }

falls_le : (l1 l0 : List ℕ) (P : Type 0) → Falls l1 l0 P → sum_by level l1 ≤ sum_by level l0
falls_le l1 l0 P F = ⊎_elim (λ (a : sum_by level l1 < sum_by level l0). omega arith) (λ a. omega (arith, ap (sum_by level) a.0)) F

pub falls_then : (l2 l1 l0 m2 m1 m0 : List ℕ) (i : ℕ) → Falls l1 l0 (Fewer m1 m0) → Falls l2 l1 (Fewer m2 m1 × (slice_index m2 i < slice_index m1 i)) → Falls l2 l0 (Fewer m2 m0)
falls_then l2 l1 l0 m2 m1 m0 i F G =
    ⊎_elim (λ (b : sum_by level l2 < sum_by level l1). inl (omega (arith, falls_le l1 l0 (Fewer m1 m0) F)))
    (λ b. ⊎_elim (λ (a : sum_by level l1 < sum_by level l0). inl (omega (arith, ap (sum_by level) b.0))) (λ a. inr (b.0 ∙ a.0, λ j u. a.1 j (b.1.0 j u))) F) G

-- words of marks ----------------------------------------------------------------------------------------------------

-- a number is at most one that has all its digits
digits_le : (n x y : ℕ) → x < 2 ^ n → ((e : ℕ) → e < n → place x e ≡ true → place y e ≡ true) → x ≤ y
unfolding place
digits_le zero x y h f = omega arith
digits_le (suc n) x y h f =
    let a : x / 2 ≤ y / 2 = digits_le n (x / 2) (y / 2) (omega (arith, pow-suc 2 n)) (λ e l u. place_shr y 1 e ∙ f (1 + e) (omega arith) (sym (place_shr x 1 e) ∙ u)) in
    let b : x % 2 ≤ y % 2 = elim (ℕ_discrete (x % 2) 1) [
      | yes u ↦ let v = eqb-true (y / 1 % 2) 1 (f 0 (omega arith) (eq-eqb (x / 1 % 2) 1 (omega arith))) in omega arith
      | no u ↦ omega arith
    ] in
    omega arith

word_le : (out was : List ℕ) (i : ℕ) → slice_index out i < 2 ^ 64 → Fewer out was → slice_index out i ≤ slice_index was i
word_le out was i s f = digits_le 64 _ _ s (λ e l u.
    let z : e + suc (63 - e) ≡ 64 = omega arith in
    sym (flat_here 64 was i e (63 - e) z) ∙ f (i * 64 + (63 - e)) (flat_here 64 out i e (63 - e) z ∙ u))

-- the words of the row at word i, added up
abbrev row_sum : List ℕ → ℕ → ℕ
row_sum l i = slice_index l (i + 0) + slice_index l (i + 1) + slice_index l (i + 2) + slice_index l (i + 3)

row_less : (out was : List ℕ) (i q : ℕ) → q < 4 → ((k : ℕ) → slice_index out k ≤ slice_index was k) → slice_index out (i + q) < slice_index was (i + q) → row_sum out i < row_sum was i
row_less out was i zero l f g = omega (arith, f (i + 1), f (i + 2), f (i + 3))
row_less out was i (suc zero) l f g = omega (arith, f (i + 0), f (i + 2), f (i + 3))
row_less out was i (suc (suc zero)) l f g = omega (arith, f (i + 0), f (i + 1), f (i + 3))
row_less out was i (suc (suc (suc zero))) l f g = omega (arith, f (i + 0), f (i + 1), f (i + 2))
row_less out was i (suc (suc (suc (suc q)))) l f g = absurd (omega arith)

-- what is left to do at word q of the row at word i: rings fall, or marks go, which weigh more than the one word that a visit steps back; the factor is 2^68
abbrev pub work : List ℕ → List ℕ → ℕ → ℕ → ℕ
work ring marks i q = sum_by level ring * 295147905179352825856 + row_sum marks i * 2 + (4 - q)

pub visit_less : (ring' ring marks' marks : List ℕ) (i q q' : ℕ) → q < 4 → q' ≡ q - 1 → ((k : ℕ) → slice_index marks' k < 2 ^ 64)
    → Falls ring' ring (Fewer marks' marks × (slice_index marks' (i + q) < slice_index marks (i + q))) → work ring' marks' i q' < work ring marks i q
visit_less ring' ring marks' marks i q q' l e s F =
    ⊎_elim (λ (a : sum_by level ring' < sum_by level ring). omega (arith, s (i + 0), s (i + 1), s (i + 2), s (i + 3)))
    (λ a. omega (arith, ap (sum_by level) a.0, row_less marks' marks i q l (λ k. word_le marks' marks k (s k) a.1.0) a.1.1)) F

pub mark_on : (l : List ℕ) (r q k : ℕ) → k < 64 → bit_of_word (slice_index l ((r + 33) * 5 + q)) k ≡ true → word_bit l (spot r (q * 64 + k)) ≡ true
unfolding bit_of_word
mark_on l r q k lk u =
    let e : ((r + 33) * 5 + q) * 64 + k ≡ spot r (q * 64 + k) = omega arith in
    ap (word_bit l) (sym e) ∙ flat_here 64 l ((r + 33) * 5 + q) (63 - k) k (omega arith) ∙ u

-- one more word that is 0
pub clean_more : (a i : ℕ) (l : List ℕ) → slice_index l i ≡ 0 → ((j : ℕ) → a ≤ j → j < i * 64 → word_bit l j ≡ false) → (j : ℕ) → a ≤ j → j < (i + 1) * 64 → word_bit l j ≡ false
clean_more a i l e g j x y = elim (dec_lt j (i * 64)) [
  | yes p ↦ g j x p
  | no p ↦
      let k : ℕ = j - i * 64 in
      let q : i * 64 + k ≡ j = omega arith in
      subst (λ (n : ℕ). word_bit l n ≡ false) q (flat_here 64 l i (63 - k) k (omega arith) ∙ ap (λ (n : ℕ). place n (63 - k)) e ∙ place_zero (63 - k))
]

-- rows --------------------------------------------------------------------------------------------------------------

module _ (r q k : ℕ) (lq : q < 4) (lk : k < 64) (out was : List ℕ) (A : Around (spot r (q * 64 + k)) out was) where
  -- words before the one that is stepped back to stay clean
  pub around_clean : (q' : ℕ) → q' ≡ q - 1 → ((j : ℕ) → (r + 33) * 320 ≤ j → j < ((r + 33) * 5 + q) * 64 → word_bit was j ≡ false)
      → (j : ℕ) → (r + 33) * 320 ≤ j → j < ((r + 33) * 5 + q') * 64 → word_bit out j ≡ false
  around_clean q' d g j x y = split (word_bit out j) (λ u. ⊎_elim (λ a. clash a (g j x (omega arith))) (λ b. absurd (far b)) (A j u)) (λ u. u)
    where
      far : Beside (spot r (q * 64 + k)) j → ⊥
      far b =
          ⊎_elim (λ (e : b.middle ≡ spot r (q * 64 + k)). omega arith)
          (λ o. ⊎_elim (λ (e : b.middle ≡ spot r (q * 64 + k) + 320). omega arith) (λ (e : b.middle + 320 ≡ spot r (q * 64 + k)). omega arith) o) b.row

  -- the bit before the first column of the row above is none of the image's
  pub around_near : (w h : ℕ) → Sizes w h → Framed w h out → Nearby (r + 33) out was
  around_near w h z fr j u = ⊎_elim (λ a. inl a) (λ b. inr (near b)) (A j u)
    where
      near : Beside (spot r (q * 64 + k)) j → ((r + 33) * 320 ≤ j + 320) × (j < (r + 33 + 2) * 320)
      near b =
          let P = fr j u in
          ⊎_elim (λ (e : b.middle ≡ spot r (q * 64 + k)). (omega arith, omega arith))
          (λ o. ⊎_elim (λ (e : b.middle ≡ spot r (q * 64 + k) + 320). (omega arith, omega arith)) (λ (e : b.middle + 320 ≡ spot r (q * 64 + k)). (omega arith, omega arith)) o) b.row

pub near_then : (k : ℕ) (m2 m1 m0 : List ℕ) → Nearby k m1 m0 → Nearby k m2 m1 → Nearby k m2 m0
near_then k m2 m1 m0 A B j u = ⊎_elim (A j) (λ v. inr v) (B j u)

-- only columns of the image are marked
pub framed_clean : (w h : ℕ) → Sizes w h → (l : List ℕ) → Framed w h l → (k : ℕ) → ((c : ℕ) → c < 256 → word_bit l (k * 320 + c) ≡ false) → Unmarked l k
framed_clean w h z l fr k e j lo hi =
    let c : ℕ = j - k * 320 in
    let q : k * 320 + c ≡ j = omega arith in
    subst (λ (n : ℕ). word_bit l n ≡ false) q (elim (dec_lt c 256) [
      | yes a ↦ e c a
      | no a ↦ split (word_bit l (k * 320 + c)) (λ u. absurd (omega (arith, framed_row w h z l k c fr (omega arith) u, z.w_max))) (λ u. u)
    ])

-- a row without a pixel is clean
pub none_clean : (w h : ℕ) → Sizes w h → (l : List ℕ) → Framed w h l → (k : ℕ) (f : ℕ → Bool) → ((c : ℕ) → f c ≡ row_bit l k c) → ((c : ℕ) → f c ≡ false) → Unmarked l k
none_clean w h z l fr k f F e = framed_clean w h z l fr k (λ c lc. sym (row_bit_lem l k c lc) ∙ sym (F c) ∙ e c)

-- one sweep ---------------------------------------------------------------------------------------------------------

gone_none : (up : Bool) (h y : ℕ) → Gone up h 0 y → ⊥
unfolding Gone
gone_none false h y g = omega arith
gone_none true h y g = omega (arith, g.0, g.1)

gone_all : (up : Bool) (h r y : ℕ) → h ≤ r → y < h → Gone up h r y
unfolding Gone
gone_all false h r y lr ly = omega arith
gone_all true h r y lr ly = (omega arith, ly)

pub turned_in : (up : Bool) (h r y : ℕ) → r < h → y ≡ turned up h r → y < h
unfolding turned
turned_in false h r y l e = omega arith
turned_in true h r y l e = omega arith

pub behind_in : (up : Bool) (y b : ℕ) → y < 256 → b ≡ behind_row up y → b < 322
unfolding behind_row
behind_in false y b l e = omega arith
behind_in true y b l e = omega arith

-- the rows gone through with row y: it, the one behind it, and those that it does not touch
gone_next : (up : Bool) (h r y k : ℕ) → r < h → y ≡ turned up h r → Gone up h (r + 1) k → (k ≡ y) ⊎ (Gone up h r k × ((k + 33 ≡ behind_row up y) ⊎ ((k + 2 ≤ y) ⊎ (y + 2 ≤ k))))
unfolding Gone turned behind_row
gone_next false h r y k l e g = elim (ℕ_discrete k y) [
  | yes a ↦ inl a
  | no a ↦ inr (omega arith, elim (ℕ_discrete (k + 1) y) [ yes b ↦ inl (omega arith) | no b ↦ inr (inl (omega arith)) ])
]
gone_next true h r y k l e g =
    let (a, b) = g in
    elim (ℕ_discrete k y) [
      | yes d ↦ inl d
      | no d ↦ inr ((omega arith, b), elim (ℕ_discrete k (y + 1)) [ yes f ↦ inl (omega arith) | no f ↦ inr (inr (omega arith)) ])
    ]

-- the row behind row y, where it is one of the image, was gone through
behind_gone : (up : Bool) (h r y k : ℕ) → r < h → y ≡ turned up h r → k + 33 ≡ behind_row up y → k < h → Gone up h r k
unfolding Gone turned behind_row
behind_gone false h r y k l e b lk = omega arith
behind_gone true h r y k l e b lk = (omega arith, lk)

-- the first r rows: clean where nothing is left behind; where something is, rings fell
pub record Swept (up : Bool) (h r : ℕ) (behind : Bool) (ring ring₀ marks : List ℕ) : Type 0 where
  pub clean : behind ≡ false → (y : ℕ) → Gone up h r y → Unmarked marks (y + 33)
  pub fell : behind ≡ true → sum_by level ring < sum_by level ring₀
  pub most : sum_by level ring ≤ sum_by level ring₀

pub swept_none : (up : Bool) (h : ℕ) (ring marks : List ℕ) → Swept up h 0 false ring ring marks
swept_none up h ring marks = record { clean = λ e y g. absurd (gone_none up h y g); fell = λ e. absurd (false≢true e); most = omega arith }

clean_far : (y k : ℕ) (out was : List ℕ) → Nearby (y + 33) out was → (k + 2 ≤ y) ⊎ (y + 2 ≤ k) → Unmarked was (k + 33) → Unmarked out (k + 33)
clean_far y k out was N far e j lo hi =
    split (word_bit out j) (λ u. ⊎_elim (λ a. clash a (e j lo hi)) (λ a. let (x, z) = a in absurd (⊎_elim (λ (d : k + 2 ≤ y). omega arith) (λ (d : y + 2 ≤ k). omega arith) far)) (N j u))
    (λ u. u)

module _ (up : Bool) (h r : ℕ) (behind : Bool) (ring ring₀ marks : List ℕ) (S : Swept up h r behind ring ring₀ marks) (lr : r < h) (y : ℕ) (ey : y ≡ turned up h r) where
  -- row y was clean already
  pub swept_still : Unmarked marks (y + 33) → Swept up h (r + 1) behind ring ring₀ marks
  swept_still here = record {
    clean = λ e k g. ⊎_elim (λ (a : k ≡ y). subst (λ (x : ℕ). Unmarked marks (x + 33)) (sym a) here) (λ b. S.clean e k b.0) (gone_next up h r y k lr ey g);
    fell = S.fell;
    most = S.most;
  }

  module _ (b : ℕ) (eb : b ≡ behind_row up y) (ring' marks' : List ℕ) (F : Falls ring' ring (Fewer marks' marks)) where
    le : sum_by level ring' ≤ sum_by level ring
    le = falls_le ring' ring (Fewer marks' marks) F

    -- row y settled, with nothing behind it
    pub swept_on : Nearby (y + 33) marks' marks → Unmarked marks' (y + 33) → Unmarked marks' b → Swept up h (r + 1) behind ring' ring₀ marks'
    swept_on N here back = record {
      clean = λ e k g. ⊎_elim (λ (a : k ≡ y). subst (λ (x : ℕ). Unmarked marks' (x + 33)) (sym a) here)
          (λ o. ⊎_elim (λ (a : k + 33 ≡ behind_row up y). subst (Unmarked marks') (eb ∙ sym a) back) (λ far. clean_far y k marks' marks N far (S.clean e k o.0)) o.1) (gone_next up h r y k lr ey g);
      fell = λ e. omega (arith, S.fell e, le);
      most = omega (arith, S.most, le);
    }

    -- a mark behind row y: rings fell before, or that row was clean, the mark is new and they fell now
    pub swept_back : (w : ℕ) → Sizes w h → Framed w h marks' → (f : ℕ → Bool) → ((c : ℕ) → f c ≡ row_bit marks' b c) → (c : ℕ) × (c < 256) × (f c ≡ true) → Swept up h (r + 1) true ring' ring₀ marks'
    swept_back w z fr f R some =
        let (c, lc, u) = some in
        let on : word_bit marks' (b * 320 + c) ≡ true = sym (row_bit_lem marks' b c lc) ∙ sym (R c) ∙ u in
        let (low, high, _) = framed_row w h z marks' b c fr (omega arith) on in
        let k : ℕ = b - 33 in
        record {
          clean = λ e. absurd (true≢false e);
          fell = λ e. split behind (λ d. omega (arith, S.fell d, le))
              (λ d. ⊎_elim (λ (a : sum_by level ring' < sum_by level ring). omega (arith, S.most))
              (λ a. clash (a.1 (b * 320 + c) on) (S.clean d k (behind_gone up h r y k lr ey (omega arith) (omega arith)) (b * 320 + c) (omega arith) (omega arith))) F);
          most = omega (arith, S.most, le);
        }

-- all rows are gone through, and nothing is behind
pub swept_all : (w : ℕ) (up : Bool) (h r : ℕ) (behind : Bool) (ring ring₀ marks : List ℕ) → Framed w h marks → Sizes w h → h ≤ r → Swept up h r behind ring ring₀ marks → behind ≡ false
    → (j : ℕ) → word_bit marks j ≡ false
swept_all w up h r behind ring ring₀ marks fr z lr S e j = split (word_bit marks j) (λ u.
    let P = fr j u in
    S.clean e P.row (gone_all up h r P.row lr P.row_in) j (omega arith) (omega arith)) (λ u. u)

-- all sweeps --------------------------------------------------------------------------------------------------------

pub copy_more : (p out : List ℕ) (i : ℕ) → i < length out → ((k : ℕ) → k < i → slice_index out k ≡ slice_index p k) → (k : ℕ) → k < i + 1 → slice_index (slice_set out i (slice_index p i)) k ≡ slice_index p k
copy_more p out i l g k lk = elim (ℕ_discrete k i) [
  | yes a ↦ rw a (get_or-set_same out i (slice_index p i) 0 l)
  | no a ↦ get_or-set_other out i k (slice_index p i) 0 a ∙ g k (omega arith)
]

-- where no mark is left, every pixel has its ring, and got has those with one
pub settled : {w h : ℕ} {ring' ring marks' marks got' got cand : List ℕ} → Onward w h ring' ring marks' marks got' got cand → ((j : ℕ) → word_bit marks' j ≡ false)
    → (free seed known : Plane) → Grows w h free seed known ring marks got cand
    → (ring' ≡ grown (h * w) (touch w) free seed (h * w)) × ((p : ℕ) → p < h * w → seen w got' p ≡ nat_lt 0 (slice_index ring' p))
unfolding seen
settled {w = w} {h = h} {ring' = ring'} {marks' = marks'} O none f s n G =
    let E = O.grows f s n G in
    (at_rest w h f s n E.frame ring' (seen w marks') E.sweeping (λ p l. none (spot (p / w) (p % w))), E.gots)
