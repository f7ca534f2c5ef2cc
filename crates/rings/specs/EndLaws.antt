-- Laws of the last wave: the rings are those over the near pixels, and either nothing more is reached, or sweeps go on.
use Rattle.std.specs.Prelude.{◌≡◌, List, Bool, true, false, ◌&&◌, ◌||◌, ◌⊎◌, ltb, leb, length}
use Rattle.std.proofs.Math.Path.{refl, sym, ap}
use Rattle.std.proofs.Common.{◌∙◌, ⊎_elim, ext_get_or}
use Rattle.std.proofs.Math.Bool.{not}
use Rattle.std.proofs.lemmas.Bool.{false≢true}
use Prim.Native.Nat.{ℕ, zero, suc, ◌*◌, ◌≤◌, ◌<◌, ◌/◌, ◌%◌}
use native.Mathlib.Omega.{arith}
use borrow.Author.Tests.{eq-eqb, ne_eqb, eqb-true, lt-ltb, le-ltb}
use Rattle.std.proofs.Math.Dec.{eqb}
use Rattle.std.proofs.Math.ListN.{get_or}
use Rattle.rules.specs.Images.{Plane}
use Rattle.rules.specs.Reach.{distance², square, root, most_bound}
use Rattle.laws.specs.Discs.{root_low, root_most, root_small}
use Rattle.rules.specs.Planning.{touch, source, near, grown}
use Rattle.laws.specs.Growing.{bounded, born, path, grown_same, after_zero, length_grown}
use Rattle.laws.specs.Tests.{split, clash, bool_eq, and_l, and_r, and_in, and_false, and_true, some_in, some_out}
use Rattle.laws.specs.Waves.{joined_free, grown_within, near_itself}
use Rattle.words.specs.Words.{word_bit}
use Rattle.planes.specs.PlaneLaws.{plane_max, seen_is}
use Rattle.planes.specs.Scratch.{spot, Sizes, Ready, Drawn, seen}
use Rattle.waves.specs.Fronts.{WavePlanes, Waved}
use Rattle.waves.specs.Rows.{Room, Still}
use Rattle.waves.specs.WaveLaws.{room_within}
use Rattle.sweeps.specs.Marks.{Grows, SweepPlanes}
use Rattle.sweeps.specs.Relaxing.{at_rest}
use Rattle.sweeps.specs.Rings.{later, Frame}
use Rattle.rings.specs.NearRings.{near_in, near_bits, Apart, NearBy, NearWaves, Rooms, Whole}
use Rattle.rings.specs.FarLaws.{near_seen}
use Rattle.rings.specs.SweepingLaws.{waves_sweeping}

-- a pixel with a ring is one of the plane, and joined by as many steps as its ring says
module _ (w h k : ℕ) (over seed : Plane) (p : ℕ) (lp : p < h * w) (a : 0 < get_or (grown (h * w) (touch w) over seed k) p 0) where
  pub ring_over : over p ≡ true
  ring_over = go (get_or (grown (h * w) (touch w) over seed k) p 0) refl
    where
      go : (r : ℕ) → get_or (grown (h * w) (touch w) over seed k) p 0 ≡ r → over p ≡ true
      go zero e = absurd (omega arith)
      go (suc j) e = joined_free (h * w) (touch w) over seed (path (h * w) (touch w) over seed j p lp (born (h * w) (touch w) over seed k p j lp e))

  ring_near : (q : ℕ) (low : Plane) → NearBy w h q k low over seed → near w h q low p ≡ true
  ring_near q low near_by = go (get_or (grown (h * w) (touch w) over seed k) p 0) refl
    where
      go : (r : ℕ) → get_or (grown (h * w) (touch w) over seed k) p 0 ≡ r → near w h q low p ≡ true
      go zero e = absurd (omega arith)
      go (suc j) e = near_by (suc j) p lp (omega (arith, bounded (h * w) (touch w) over seed k p lp)) (path (h * w) (touch w) over seed j p lp (born (h * w) (touch w) over seed k p j lp e))

-- the waves that are in were waves over the near pixels, once the far ones are dropped from what is left
pub near_waved : (w h q k : ℕ) (low over seed : Plane) (front left left' got ring : List ℕ) → NearWaves w h q k low over seed front left got ring
    → ((p : ℕ) → p < h * w → seen w left' p ≡ (seen w left p && near w h q low p)) → Waved w h k (near_in w h q low over) seed front left' got ring
unfolding near_in
near_waved w h q k low over seed front left left' got ring D near-left = record {
  rings = D.waved.rings
      ∙ grown_within (h * w) (touch w) over (near_in w h q low over) seed (λ p lp a. and_l (over p) _ a) k
      (λ p lp a. and_in (over p) _ (ring_over w h k over seed p lp a) (ring_near w h k over seed p lp a q low D.near_by)) k (omega arith);
  fronts = D.waved.fronts;
  lefts = λ p lp. near-left p lp ∙ ap (λ (b : Bool). b && near w h q low p) (D.waved.lefts p lp) ∙ turn (over p) (eqb (get_or ring p 0) 0) (near w h q low p);
  gots = D.waved.gots;
}
  where
    turn : (a b c : Bool) → (a && b && c) ≡ (a && c && b)
    turn false b c = refl
    turn true false c = sym (and_false c)
    turn true true c = sym (and_true c)

-- a plane after k waves
module _ (w h k : ℕ) (over seed : Plane) (front left ring : List ℕ) (z : Sizes w h) (pos : 0 < k) (ap' : Apart w h over seed)
    (rings : ring ≡ grown (h * w) (touch w) over seed k) (fronts : (p : ℕ) → p < h * w → seen w front p ≡ source seed (λ o. get_or ring o 0) k p)
    (still_left : (p : ℕ) → p < h * w → over p ≡ true → get_or ring p 0 ≡ 0 → seen w left p ≡ true) where
  frame : Frame w h over seed
  frame = record { apart = ap'; room = plane_max w h z }

  -- no pixel that is left touches the front: these are the rings
  closed : ((p q : ℕ) → p < h * w → q < h * w → seen w left p ≡ true → touch w p q ≡ true → seen w front q ≡ true → ⊥) → ring ≡ grown (h * w) (touch w) over seed (h * w)
  closed none =
      at_rest w h over seed (λ p. ltb 0 (get_or ring p 0)) frame ring (λ p. false)
      (waves_sweeping w h over seed frame k pos ring rings (λ p. false)
      (λ p q lp lq f e t s. absurd (none p q lp lq (still_left p lp f e) t (fronts q lq ∙ s))) (λ p lp e. absurd (false≢true e)))
      (λ p lp. refl)

  closed_still : Still front left → ring ≡ grown (h * w) (touch w) over seed (h * w)
  closed_still s = closed (λ p q lp lq a t b. s (spot (q / w) (q % w)) (spot (p / w) (p % w)) (sym (seen_is w h z front q) ∙ b) (sym (seen_is w h z left p) ∙ a))

-- no wave goes on, before the far pixels are dropped
pub landed_whole : (w h q k : ℕ) (low over seed : Plane) (front left got ring : List ℕ) → Sizes w h → NearWaves w h q k low over seed front left got ring → Still front left
    → Whole w h (near_in w h q low over) seed got ring
unfolding near_in
landed_whole w h q k low over seed front left got ring z D s = record {
  rings = closed_still w h k (near_in w h q low over) seed front left ring z D.some_wave (λ p lp a b. D.apart p lp (and_l (over p) _ a) b)
      (D.waved.rings
      ∙ grown_within (h * w) (touch w) over (near_in w h q low over) seed (λ p lp a. and_l (over p) _ a) k
      (λ p lp a. and_in (over p) _ (ring_over w h k over seed p lp a) (ring_near w h k over seed p lp a q low D.near_by)) k (omega arith))
      D.waved.fronts (λ p lp a e. D.waved.lefts p lp ∙ and_in (over p) _ (and_l (over p) _ a) (eq-eqb (get_or ring p 0) 0 e)) s;
  gots = D.waved.gots;
}

-- nor after that
pub whole_still : (w h k : ℕ) (over seed : Plane) (front left got ring : List ℕ) → Sizes w h → 0 < k → Apart w h over seed → Waved w h k over seed front left got ring → Still front left →
    Whole w h over seed got ring
whole_still w h k over seed front left got ring z pos ap' W s = record {
  rings = closed_still w h k over seed front left ring z pos ap' W.rings W.fronts (λ p lp a e. W.lefts p lp ∙ and_in (over p) _ a (eq-eqb (get_or ring p 0) 0 e)) s;
  gots = W.gots;
}

-- sweeps go on from the front
module _ (w h k : ℕ) (over seed : Plane) (ahead front left got ring : List ℕ) (A : WavePlanes w h ahead front left got ring) (pos : 0 < k) (ap' : Apart w h over seed)
    (W : Waved w h k over seed front left got ring) where
  left_later : (p : ℕ) → p < h * w → seen w left p ≡ later over (λ p. ltb 0 (get_or ring p 0)) p
  unfolding later
  left_later p lp = W.lefts p lp ∙ ap (λ (b : Bool). over p && b) (turn (get_or ring p 0))
    where
      turn : (v : ℕ) → eqb v 0 ≡ not (ltb 0 v)
      turn zero = eq-eqb 0 0 refl ∙ sym (ap not (le-ltb 0 0 (omega arith)))
      turn (suc v) = ne_eqb (suc v) 0 (λ (x : suc v ≡ 0). omega arith) ∙ sym (ap not (lt-ltb 0 (suc v) (omega arith)))

  front_ring : (q : ℕ) → q < h * w → seen w front q ≡ true → 0 < get_or ring q 0
  unfolding source
  front_ring q lq e = let x : get_or ring q 0 ≡ k = eqb-true (get_or ring q 0) k (and_l (eqb (get_or ring q 0) k) _ (sym (W.fronts q lq) ∙ e)) in omega arith

  pub sweeps_on : Grows w h over seed (λ p. ltb 0 (get_or ring p 0)) ring front got left
  sweeps_on = record {
    frame = record { apart = ap'; room = plane_max w h A.sizes };
    sweeping = waves_sweeping w h over seed (record { apart = ap'; room = plane_max w h A.sizes }) k pos ring W.rings (seen w front)
        (λ p q lp lq f e t s. W.fronts q lq ∙ s) front_ring;
    cands = left_later;
    gots = W.gots;
  }

pub kit_of : (w h : ℕ) (ahead front left got ring : List ℕ) → WavePlanes w h ahead front left got ring → SweepPlanes w h ring front got left
kit_of w h ahead front left got ring A = record {
  sizes = A.sizes;
  ring_long = A.ring_long;
  marks_long = A.front_ready.long;
  got_long = A.got_room.ready.long;
  cand_long = A.left_room.ready.long;
  cand_framed = A.left_room.ready.framed;
  marks_framed = A.front_ready.framed;
}

-- a plane without a bit is room for any rows
pub room_none : (w h : ℕ) (ahead l : List ℕ) → length l ≡ 1610 → ((j : ℕ) → word_bit l j ≡ false) → Room w h ahead l
room_none w h ahead l e none = record { ready = record { long = e; framed = λ j u. clash u (none j) }; sparse = λ k j x y z. none j }

-- got stays room for pixels of the rows that are gone to
pub room_joined : (w h : ℕ) (ahead a b l : List ℕ) → length l ≡ 1610 → Room w h ahead a → Room w h ahead b → ((j : ℕ) → word_bit l j ≡ true → (word_bit a j ≡ true) ⊎ (word_bit b j ≡ true)) →
    Room w h ahead l
room_joined w h ahead a b l e A B f = record {
  ready = record { long = e; framed = λ j u. ⊎_elim (A.ready.framed j) (B.ready.framed j) (f j u) };
  sparse = λ k j x y z. split (word_bit l j) (λ u. ⊎_elim (λ v. clash v (A.sparse k j x y z)) (λ v. clash v (B.sparse k j x y z)) (f j u)) (λ u. u);
}

-- what is grown over near pixels, near to another plane that has the same pixels
pub whole_same : (w h : ℕ) (over over' seed seed' : Plane) (got ring : List ℕ) → ((p : ℕ) → p < h * w → over p ≡ over' p) → ((p : ℕ) → p < h * w → seed p ≡ seed' p) →
    Whole w h over seed got ring → Whole w h over' seed' got ring
whole_same w h over over' seed seed' got ring eo es W = record { rings = W.rings ∙ grown_same (h * w) (touch w) over over' seed seed' eo es; gots = W.gots }

-- No wave yet: no pixel has a ring, and the seeds are what the first wave leans on
pub waved_none : (w h : ℕ) → Sizes w h → (over seed : Plane) (seeds left got ring : List ℕ) → length ring ≡ h * w → ((p : ℕ) → p < h * w → get_or ring p 0 ≡ 0) → ((j : ℕ) → word_bit got j ≡ false)
    → ((p : ℕ) → p < h * w → seen w seeds p ≡ seed p) → ((p : ℕ) → p < h * w → seen w left p ≡ over p) → Waved w h 0 over seed seeds left got ring
unfolding source
waved_none w h z over seed seeds left got ring long zeros none es eo = record {
  rings = ext_get_or 0 ring (grown (h * w) (touch w) over seed 0) (long ∙ sym (length_grown (h * w) (touch w) over seed 0))
      (λ p lp. let l : p < h * w = omega arith in zeros p l ∙ sym (after_zero (h * w) (touch w) over seed p l));
  fronts = λ p lp. es p lp ∙ sym (ap (λ (b : Bool). b && (ltb 0 0 || seed p)) (eq-eqb (get_or ring p 0) 0 (zeros p lp)));
  lefts = λ p lp. eo p lp ∙ sym (ap (λ (b : Bool). over p && b) (eq-eqb (get_or ring p 0) 0 (zeros p lp)) ∙ and_true (over p));
  gots = λ p lp. seen_is w h z got p ∙ none (spot (p / w) (p % w)) ∙ sym (ap (ltb 0) (zeros p lp) ∙ le-ltb 0 0 (omega arith));
}

-- near looks only at the pixels that exist
pub near_equal : (w h q : ℕ) (low low' : Plane) → ((p : ℕ) → p < h * w → low p ≡ low' p) → (p : ℕ) → near w h q low p ≡ near w h q low' p
unfolding near
near_equal w h q low low' e p = bool_eq _ _
    (λ u. let (o, lo, t) = some_out (h * w) (λ o. low o && leb (distance² w p o) q) u in
    some_in (h * w) (λ o. low' o && leb (distance² w p o) q) o lo (and_in (low' o) _ (sym (e o lo) ∙ and_l (low o) _ t) (and_r (low o) _ t)))
    (λ u. let (o, lo, t) = some_out (h * w) (λ o. low' o && leb (distance² w p o) q) u in
    some_in (h * w) (λ o. low o && leb (distance² w p o) q) o lo (and_in (low o) _ (e o lo ∙ and_l (low' o) _ t) (and_r (low' o) _ t)))

-- the far pixels dropped from a plane that waves go over
pub dropped_afloat : (w h : ℕ) (ahead front left left' got ring : List ℕ) → length left' ≡ length left → ((j : ℕ) → word_bit left' j ≡ true → word_bit left j ≡ true) →
    WavePlanes w h ahead front left got ring → WavePlanes w h ahead front left' got ring
dropped_afloat w h ahead front left left' got ring e sub A = record {
  sizes = A.sizes;
  aheads = A.aheads;
  front_ready = A.front_ready;
  left_room = room_within w h ahead left left' e A.left_room sub;
  got_room = A.got_room;
  ring_long = A.ring_long;
  apart = λ j a b. A.apart j (sub j a) b;
}

-- over near pixels any number of steps stays near
pub near_free : (w h q t : ℕ) (low over seed : Plane) → NearBy w h q t low (near_in w h q low over) seed
unfolding near_in
near_free w h q t low over seed k p lp lk j = and_r (over p) _ (joined_free (h * w) (touch w) (near_in w h q low over) seed j)

-- near twice is near
pub near_twice : (w h q : ℕ) (low over : Plane) (p : ℕ) → near_in w h q low (near_in w h q low over) p ≡ near_in w h q low over p
unfolding near_in
near_twice w h q low over p = again (over p) (near w h q low p)
  where
    again : (a b : Bool) → (a && b && b) ≡ (a && b)
    again true true = refl
    again true false = refl
    again false b = refl

pub near_apart : (w h q : ℕ) (low over seed : Plane) → Apart w h over seed → Apart w h (near_in w h q low over) seed
unfolding near_in
near_apart w h q low over seed a p lp x y = a p lp (and_l (over p) _ x) y

-- what is left when the far pixels are dropped
pub near_dropped : (w h q : ℕ) → Sizes w h → (low : Plane) (lower left left' : List ℕ) → Drawn w h low lower → ((j : ℕ) → word_bit left' j ≡ near_bits w h q lower left j)
    → (p : ℕ) → p < h * w → seen w left' p ≡ (seen w left p && near w h q low p)
near_dropped w h q z low lower left left' D e p lp = near_seen w h q z lower left left' e p lp ∙ ap (λ (b : Bool). seen w left p && b) (near_equal w h q (seen w lower) low D.is p)

-- a seed has rings near by itself: 2 t t is at most the bound
pub near_by_itself : (w h q t : ℕ) (low over seed : Plane) → square t ≤ q / 2 → ((p : ℕ) → p < h * w → seed p ≡ true → low p ≡ true) → NearBy w h q t low over seed
unfolding square
near_by_itself w h q t low over seed l below k p lp lk j = near_itself w h over seed q t low (omega arith) below lk j

pub waves_few : (q : ℕ) → 2 ≤ q → q ≤ most_bound → (0 < root (q / 2)) × (root (q / 2) ≤ 32)
unfolding square
waves_few q a b = (omega (arith, root_most (q / 2) 1 (omega arith)), root_small (q / 2) (omega arith))

pub near_by_root : (w h q t : ℕ) (low over seed : Plane) → t ≡ root (q / 2) → ((p : ℕ) → p < h * w → seed p ≡ true → low p ≡ true) → NearBy w h q t low over seed
near_by_root w h q t low over seed e = near_by_itself w h q t low over seed (rw e (root_low (q / 2)))

pub dropped_rooms : (w h : ℕ) (ahead left left' got front next lower lower' : List ℕ) → length left' ≡ length left → ((j : ℕ) → word_bit left' j ≡ true → word_bit left j ≡ true) → Ready w h lower'
    → Rooms w h ahead left got front next lower → Rooms w h ahead left' got front next lower'
dropped_rooms w h ahead left left' got front next lower lower' e sub l R = record {
  left_room = room_within w h ahead left left' e R.left_room sub;
  got_room = R.got_room;
  front_room = R.front_room;
  next_room = R.next_room;
  lower_ready = l;
}

-- no wave is made yet, over the near pixels
pub dropped_waved : (w h q : ℕ) (low over seed : Plane) (front left left' got ring : List ℕ) → Waved w h 0 over seed front left got ring
    → ((p : ℕ) → p < h * w → seen w left' p ≡ (seen w left p && near w h q low p)) → Waved w h 0 (near_in w h q low over) seed front left' got ring
unfolding near_in grown
dropped_waved w h q low over seed front left left' got ring W e = record {
  rings = W.rings;
  fronts = W.fronts;
  lefts = λ p lp. e p lp ∙ ap (λ (b : Bool). b && near w h q low p) (W.lefts p lp) ∙ turn (over p) (eqb (get_or ring p 0) 0) (near w h q low p);
  gots = W.gots;
}
  where
    turn : (a b c : Bool) → (a && b && c) ≡ (a && c && b)
    turn false b c = refl
    turn true false c = sym (and_false c)
    turn true true c = sym (and_true c)
