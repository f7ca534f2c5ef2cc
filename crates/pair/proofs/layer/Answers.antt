use mathlib.Core.Path.{◌∙◌, refl}
use Rattle.pair.specs.PairLaws.{support_packs, own_packs, bare_rings, no_shadow}
use Rattle.pair.specs.HangLaws.{hang_packs, calm_packs}
use native.Mathlib.Omega.{arith}
use Rattle.pair.proofs.layer.Goals as goal

pub begin-requires : goal.begin-requires
begin-requires c = λ e p l. c.requires.unasked e p (omega (arith, c.requires.clean.4))

pub returns-then-not-support : goal.returns-then-not-support
returns-then-not-support c = let C = c.requires.clean in
    let z = c.requires.sizes.0 in
    let none = c.support.ensures.none c.if-not-support.true in
    let P = support_packs _ _ z.w_min _ _ _ _ _ _ (own_packs _ _ _ C.1) C.2 (c.support.auto.out ∙ C.3) C.3 c.support.ensures.bits in record {
      rings = (
        (λ e. bare_rings _ _ _ z.w_min _ _ C.0 none _ (c.begin.auto.ring ∙ C.4) (λ p l. c.begin.ensures p (omega (arith, C.4)))),
        (λ e p l. c.begin.ensures p (omega (arith, C.4))),
      );
      packs = calm_packs _ _ _ _ _ _ _ (no_shadow _ _ c.args.q.0 z.w_min _ _ C.0 none) P;
      spare = c.requires.spare;
    }

pub hanging-requires : goal.hanging-requires
hanging-requires c = let C = c.requires.clean in record {
  sizes = c.requires.sizes;
  clean = (C.0, C.1, c.support.auto.out ∙ C.3, c.begin.auto.ring ∙ C.4, λ p l. c.begin.ensures p (omega (arith, C.4)));
  spare = c.requires.spare;
}

pub shape_of-ring : goal.shape_of-ring
shape_of-ring c = c.hanging.auto.ring ∙ c.begin.auto.ring

pub returns : goal.returns
returns c = let C = c.requires.clean in
    let z = c.requires.sizes.0 in
    let P = support_packs _ _ z.w_min _ _ _ _ _ _ (own_packs _ _ _ C.1) C.2 (c.support.auto.out ∙ C.3) C.3 c.support.ensures.bits in record {
      rings = c.hanging.ensures.rings;
      packs = hang_packs _ _ _ z _ _ _ _ _ _ refl c.requires.apart P c.hanging.ensures.excused c.hanging.auto.out;
      spare = c.hanging.ensures.spare;
    }
