-- Laws of waves: one more of them, over planes and over pixels.
use Rattle.std.specs.Prelude.{◌≡◌, refl, Bool, true, false, not, ◌&&◌, ◌||◌, cond, List, ℕ, ◌+◌, ◌-◌, ◌*◌, ◌/◌, ◌%◌, ◌<◌, ◌≤◌, ltb, eqb, length}
use Rattle.std.proofs.Common.{sym, ap₂, subst, ◌∙◌, ⊎_elim, add-one, arith, eq-eqb, ne_eqb, lt-ltb}
use Rattle.std.proofs.Math.Path.{ap}
use Rattle.std.proofs.Math.Decide.{dec_lt}
use Rattle.std.proofs.Math.ListN.{get_or}
use Rattle.rules.specs.Images.{Plane}
use Rattle.rules.specs.Planning.{touch, touching, source, grown}
use Rattle.laws.specs.Growing.{bounded}
use Rattle.laws.specs.Tests.{split, clash, and_l, and_r, and_in, and_false, and_true, or_l, or_out, or_false, not_out}
use Rattle.laws.specs.Waves.{grown_next}
use Rattle.words.specs.Words.{word_bit}
use Rattle.planes.specs.Scratch.{Sizes, seen, spot, fresh}
use Rattle.planes.specs.PlaneLaws.{fresh_in, fresh_none, seen_is}
use Rattle.planes.specs.TouchLaws.{touching_same, fresh_seen}
use Rattle.waves.specs.Rows.{Room, Upto, RowWave, Waving, Still}
use Rattle.waves.specs.RowLaws.{gap_none, none_behind, fresh_same}
use Rattle.waves.specs.Fronts.{WavePlanes, Waved}

-- a plane within others is room where they are
pub room_within : (w h : ℕ) (ahead l m : List ℕ) → length m ≡ length l → Room w h ahead l → ((j : ℕ) → word_bit m j ≡ true → word_bit l j ≡ true) → Room w h ahead m
room_within w h ahead l m e R sub = record {
  ready = record { long = e ∙ R.ready.long; framed = λ j u. R.ready.framed j (sub j u) };
  sparse = λ k j a b d. split (word_bit m j) (λ u. clash (sub j u) (R.sparse k j a b d)) (λ u. u);
}

pub room_same : (w h : ℕ) (ahead l m : List ℕ) → length m ≡ 1610 → Room w h ahead l → ((j : ℕ) → word_bit m j ≡ word_bit l j) → Room w h ahead m
room_same w h ahead l m e R same = room_within w h ahead l m (e ∙ sym R.ready.long) R (λ j u. sym (same j) ∙ u)

-- One wave more --------------------------------------------------------------------------------------------------------

module _ (w h v : ℕ) (ahead from to' left left' got got' ring ring' : List ℕ) (A : WavePlanes w h ahead from left got ring)
    (S : Waving w h v from to' left left' got got' ring ring') where
  pub to_room : length to' ≡ 1610 → Room w h ahead to'
  to_room e = room_within w h ahead left to' (e ∙ sym A.left_room.ready.long) A.left_room (λ j u. fresh_in from left j (sym (S.to_is j) ∙ u))

  pub afloat_next : length to' ≡ 1610 → length left' ≡ length left → length got' ≡ length got → length ring' ≡ length ring → WavePlanes w h ahead to' left' got' ring'
  afloat_next et el eg er = record {
    sizes = A.sizes;
    aheads = A.aheads;
    front_ready = (to_room et).ready;
    left_room = room_within w h ahead left left' el A.left_room (λ j u. and_l (word_bit left j) _ (sym (S.left_is j) ∙ u));
    got_room = record {
      ready = record {
        long = eg ∙ A.got_room.ready.long;
        framed = λ j u. ⊎_elim (A.got_room.ready.framed j) (λ x. A.left_room.ready.framed j (fresh_in from left j x))
            (or_out (word_bit got j) _ (sym (S.got_is j) ∙ u));
      };
      sparse = λ k j a b d. S.got_is j ∙ ap₂ ◌||◌ (A.got_room.sparse k j a b d) (fresh_none from left j (A.left_room.sparse k j a b d));
    };
    ring_long = er ∙ A.ring_long;
    apart = λ j a b. clash (sym (S.to_is j) ∙ b) (not_out (fresh from left j) (and_r (word_bit left j) _ (sym (S.left_is j) ∙ a)));
  }

  -- the old front has nothing of what is left either
  pub afloat_old : length left' ≡ length left → length got' ≡ length got → length ring' ≡ length ring → length to' ≡ 1610 → WavePlanes w h ahead from left' got' ring'
  afloat_old el eg er et =
      let B = afloat_next et el eg er in
      record {
        sizes = A.sizes;
        aheads = A.aheads;
        front_ready = A.front_ready;
        left_room = B.left_room;
        got_room = B.got_room;
        ring_long = B.ring_long;
        apart = λ j a b. A.apart j (and_l (word_bit left j) _ (sym (S.left_is j) ∙ a)) b;
      }

module _ (w h k : ℕ) (ahead from to' left left' got got' ring ring' : List ℕ) (A : WavePlanes w h ahead from left got ring)
    (S : Waving w h (k + 1) from to' left left' got got' ring ring') (long : length ring' ≡ length ring) (over seed : Plane) (W : Waved w h k over seed from left got ring) where
  at : ℕ → ℕ
  at p = spot (p / w) (p % w)

  new_is : (p : ℕ) → p < h * w → fresh from left (spot (p / w) (p % w)) ≡ (over p && eqb (get_or ring p 0) 0 && touching (h * w) (touch w) (source seed (λ o. get_or ring o 0) k) p)
  new_is p lp =
      sym (fresh_seen w h A.sizes from left A.front_ready.framed A.left_room.ready.framed A.apart p lp)
      ∙ ap₂ ◌&&◌ (sym (seen_is w h A.sizes left p) ∙ W.lefts p lp) (touching_same w h (seen w from) (source seed (λ o. get_or ring o 0) k) W.fronts p)

  ring_yes : (p : ℕ) → p < h * w → fresh from left (spot (p / w) (p % w)) ≡ true → get_or ring' p 0 ≡ k + 1
  ring_yes p lp e = S.ring_is p lp ∙ ap (λ (b : Bool). cond b (k + 1) (get_or ring p 0)) e

  ring_no : (p : ℕ) → p < h * w → fresh from left (spot (p / w) (p % w)) ≡ false → get_or ring' p 0 ≡ get_or ring p 0
  ring_no p lp e = S.ring_is p lp ∙ ap (λ (b : Bool). cond b (k + 1) (get_or ring p 0)) e

  small : (p : ℕ) → p < h * w → get_or ring p 0 ≤ k
  small p lp = subst (λ (l : List ℕ). get_or l p 0 ≤ k) (sym W.rings) (bounded (h * w) (touch w) over seed k p lp)

  source_new : (p : ℕ) → get_or ring' p 0 ≡ k + 1 → source seed (λ o. get_or ring' o 0) (k + 1) p ≡ true
  unfolding source
  source_new p e = and_in _ _ (eq-eqb (get_or ring' p 0) (k + 1) e) (or_l (ltb 0 (k + 1)) _ (lt-ltb 0 (k + 1) (omega arith)))

  source_old : (p : ℕ) → get_or ring' p 0 ≤ k → source seed (λ o. get_or ring' o 0) (k + 1) p ≡ false
  unfolding source
  source_old p e = ap (λ (b : Bool). b && (ltb 0 (k + 1) || seed p)) (ne_eqb (get_or ring' p 0) (k + 1) (λ (x : get_or ring' p 0 ≡ k + 1). omega arith))

  pub waved_next : Waved w h (k + 1) over seed to' left' got' ring'
  waved_next = record {
    rings = subst (λ (n : ℕ). ring' ≡ grown (h * w) (touch w) over seed n) (sym (add-one k))
        (grown_next (h * w) (touch w) over seed k ring ring' W.rings (long ∙ A.ring_long)
        (λ p lp. S.ring_is p lp ∙ ap₂ (λ (b : Bool) (n : ℕ). cond b n (get_or ring p 0)) (new_is p lp) (add-one k)));
    fronts = λ p lp. seen_is w h A.sizes to' p ∙ S.to_is (spot (p / w) (p % w)) ∙ split (fresh from left (spot (p / w) (p % w)))
        (λ e. e ∙ sym (source_new p (ring_yes p lp e)))
        (λ e. e ∙ sym (source_old p (omega (arith, ring_no p lp e, small p lp))));
    lefts = λ p lp. seen_is w h A.sizes left' p ∙ S.left_is (spot (p / w) (p % w)) ∙ ap (λ (b : Bool). b && not (fresh from left (spot (p / w) (p % w)))) (sym (seen_is w h A.sizes left p))
        ∙ split (fresh from left (spot (p / w) (p % w)))
        (λ e. ap (λ (b : Bool). seen w left p && not b) e ∙ and_false (seen w left p)
        ∙ sym (ap (λ (b : Bool). over p && b) (ne_eqb (get_or ring' p 0) 0 (λ (x : get_or ring' p 0 ≡ 0). omega (arith, ring_yes p lp e))) ∙ and_false (over p)))
        (λ e. ap (λ (b : Bool). seen w left p && not b) e ∙ and_true (seen w left p) ∙ W.lefts p lp ∙ ap (λ (n : ℕ). over p && eqb n 0) (sym (ring_no p lp e)));
    gots = λ p lp. seen_is w h A.sizes got' p ∙ S.got_is (spot (p / w) (p % w))
        ∙ ap (λ (b : Bool). b || fresh from left (spot (p / w) (p % w))) (sym (seen_is w h A.sizes got p) ∙ W.gots p lp) ∙ split (fresh from left (spot (p / w) (p % w)))
        (λ e. ap (λ (b : Bool). ltb 0 (get_or ring p 0) || b) e ∙ Rattle.laws.specs.Tests.or_r (ltb 0 (get_or ring p 0)) true refl ∙ sym (lt-ltb 0 (get_or ring' p 0) (omega (arith, ring_yes p lp e))))
        (λ e. ap (λ (b : Bool). ltb 0 (get_or ring p 0) || b) e ∙ or_false (ltb 0 (get_or ring p 0)) ∙ ap (ltb 0) (sym (ring_no p lp e)));
  }

-- the same pixels in another plane
pub waved_same : (w h k : ℕ) → Sizes w h → (over seed : Plane) (front front' left got ring : List ℕ) → ((j : ℕ) → word_bit front' j ≡ word_bit front j) → Waved w h k over seed front left got ring →
    Waved w h k over seed front' left got ring
waved_same w h k z over seed front front' left got ring e W = record {
  rings = W.rings;
  fronts = λ p lp. seen_is w h z front' p ∙ e (spot (p / w) (p % w)) ∙ sym (seen_is w h z front p) ∙ W.fronts p lp;
  lefts = W.lefts;
  gots = W.gots;
}

-- the rows so far have nothing new, or nothing more
module _ (w h v y y' : ℕ) (new more : Bool) (ahead from to1 to2 left left1 left2 got1 got2 ring1 ring2 : List ℕ) (z : Sizes w h) (Rl : Room w h ahead left) (ly : y < h)
    (e : y' ≡ get_or ahead (y + 1) 0)
    (U : Upto y (λ j. word_bit left j && not (fresh from left j)) left left1)
    (S : RowWave w y v new more from to1 to2 left1 left2 got1 got2 ring1 ring2) where
  in_row : (g : ℕ → Bool) → ((c : ℕ) → c < 256 → g ((y + 33) * 320 + c) ≡ false) → (j : ℕ) → (y + 33) * 320 ≤ j → j < (y + 33) * 320 + 256 → g j ≡ false
  in_row g f j a b = let q : (y + 33) * 320 + (j - (y + 33) * 320) ≡ j = omega arith in subst (λ (i : ℕ). g i ≡ false) q (f (j - (y + 33) * 320) (omega arith))

  pub none_so_far : new ≡ false → ((j : ℕ) → j < (y + 33) * 320 → fresh from left j ≡ false) → (j : ℕ) → j < (y' + 33) * 320 → fresh from left j ≡ false
  none_so_far n f j l = elim (dec_lt j ((y + 33) * 320)) [
    | yes a ↦ f j a
    | no a ↦ elim (dec_lt j ((y + 33) * 320 + 256)) [
      | yes b ↦ sym (fresh_same from left1 left j (U.outer j (omega arith))) ∙ in_row (fresh from left1) (S.none_new n) j (omega arith) b
      | no b ↦ fresh_none from left j (gap_none w h y y' j ahead left z Rl ly e (omega arith) l)
    ]
  ]

  pub done_so_far : more ≡ false → ((j : ℕ) → j < (y + 33) * 320 → (word_bit left j && not (fresh from left j)) ≡ false) → (j : ℕ) → j < (y' + 33) * 320 →
      (word_bit left j && not (fresh from left j)) ≡ false
  done_so_far m f j l = elim (dec_lt j ((y + 33) * 320)) [
    | yes a ↦ f j a
    | no a ↦ elim (dec_lt j ((y + 33) * 320 + 256)) [
      | yes b ↦
          ap₂ (λ (s t : Bool). s && not t) (sym (U.outer j (omega arith))) (sym (fresh_same from left1 left j (U.outer j (omega arith))))
          ∙ sym (S.left_row.inner j (omega arith) b) ∙ in_row (word_bit left2) (S.no_more m) j (omega arith) b
      | no b ↦ ap (λ (s : Bool). s && not (fresh from left j)) (gap_none w h y y' j ahead left z Rl ly e (omega arith) l)
    ]
  ]

-- nothing is new, or nothing is left: no wave goes on
pub still_new : (w h y v : ℕ) (ahead from to' left left' got got' ring ring' : List ℕ) → WavePlanes w h ahead from left got ring → Waving w h v from to' left left' got got' ring ring' → h ≤ y
    → ((j : ℕ) → j < (y + 33) * 320 → fresh from left j ≡ false) → Still to' left'
still_new w h y v ahead from to' left left' got got' ring ring' A S hy f i j a b = clash (sym (S.to_is i) ∙ a) (elim (dec_lt i ((y + 33) * 320)) [
  | yes l ↦ f i l
  | no l ↦ fresh_none from left i (none_behind w h i left A.sizes A.left_room.ready (omega arith))
])

pub still_left : (w h y v : ℕ) (ahead from to' left left' got got' ring ring' : List ℕ) → WavePlanes w h ahead from left got ring → Waving w h v from to' left left' got got' ring ring' → h ≤ y
    → ((j : ℕ) → j < (y + 33) * 320 → (word_bit left j && not (fresh from left j)) ≡ false) → Still to' left'
still_left w h y v ahead from to' left left' got got' ring ring' A S hy f i j a b = clash (sym (S.left_is j) ∙ b) (elim (dec_lt j ((y + 33) * 320)) [
  | yes l ↦ f j l
  | no l ↦ ap (λ (s : Bool). s && not (fresh from left j)) (none_behind w h j left A.sizes A.left_room.ready (omega arith))
])

-- one wave more, in numbers
pub waved_on : (w h k m v : ℕ) (ahead from to' left left' got got' ring ring' : List ℕ) → v ≡ k + 1 → m ≡ k + 1 → WavePlanes w h ahead from left got ring →
    Waving w h v from to' left left' got got' ring ring'
    → WavePlanes w h ahead to' left' got' ring' → (over seed : Plane) → Waved w h k over seed from left got ring → Waved w h m over seed to' left' got' ring'
waved_on w h k m v ahead from to' left left' got got' ring ring' ev em A S B over seed W =
    rw em (waved_next w h k ahead from to' left left' got got' ring ring' A (rw ev at S) (B.ring_long ∙ sym A.ring_long) over seed W)

pub afloat_same : (w h : ℕ) (ahead front front' left got ring : List ℕ) → length front' ≡ 1610 → ((j : ℕ) → word_bit front' j ≡ word_bit front j) → WavePlanes w h ahead front left got ring →
    WavePlanes w h ahead front' left got ring
afloat_same w h ahead front front' left got ring e same A = record {
  sizes = A.sizes;
  aheads = A.aheads;
  front_ready = record { long = e; framed = λ j u. A.front_ready.framed j (sym (same j) ∙ u) };
  left_room = A.left_room;
  got_room = A.got_room;
  ring_long = A.ring_long;
  apart = λ j a b. A.apart j a (sym (same j) ∙ b);
}
