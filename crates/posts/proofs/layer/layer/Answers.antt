use mathlib.Core.Path.{sym, ◌∙◌}
use Rattle.posts.specs.LayerLaws.{empty_packs, none_packs, down_packs}
use native.Mathlib.Omega.{arith}
use Rattle.posts.proofs.layer.layer.Goals as goal

pub returns-then-not-any : goal.returns-then-not-any
returns-then-not-any c = let A = c.args in
    let C = c.requires.clean in
    let none = c.any.ensures c.if-not-any.true in record {
      packs = empty_packs A.w A.h c.requires.sized.0.sizes.w_min A.low.now A.up.now A.above.now A.out.now C.2 A.r.0 c.requires.gone_down_in C.3
          (λ j lj. none j (omega (arith, C.3.long, lj)));
      scratch = c.requires.scratch;
    }

pub meet-requires : goal.meet-requires
meet-requires c = let C = c.requires.clean in C.1.long ∙ sym C.3.long

pub carry-requires : goal.carry-requires
carry-requires c = let C = c.requires.clean in (C.2.long ∙ sym C.3.long, C.0.long ∙ sym C.3.long)

pub shape_of-out-then-not-meet : goal.shape_of-out-then-not-meet
shape_of-out-then-not-meet c = c.carry.auto.out

pub returns-then-not-meet : goal.returns-then-not-meet
returns-then-not-meet c = let A = c.args in
    let C = c.requires.clean in
    let none = c.meet.ensures c.if-not-meet.true in
    let lw = c.requires.sized.0.sizes.w_min in record {
      packs = none_packs A.w A.h lw A.low.now A.up.now A.above.now A.out.now C.2 A.r.0 (λ j lj. none j (omega (arith, C.3.long, lj))) _
          (down_packs A.w A.h lw A.low.now A.up.now A.above.now A.out.now C.2 _ _ (c.carry.auto.out ∙ C.3.long) C.3.long c.carry.ensures);
      scratch = c.requires.scratch;
    }

pub thin-requires : goal.thin-requires
thin-requires c = record {
  sized = c.requires.sized;
  clean = c.requires.clean;
  apart = c.requires.apart;
  scratch = c.requires.scratch;
}

pub shape_of-out : goal.shape_of-out
shape_of-out c = c.thin.auto.out

pub shape_of-two : goal.shape_of-two
shape_of-two c = c.thin.auto.two

pub shape_of-held : goal.shape_of-held
shape_of-held c = c.thin.auto.held

pub shape_of-ring : goal.shape_of-ring
shape_of-ring c = c.thin.auto.ring

pub shape_of-got : goal.shape_of-got
shape_of-got c = c.thin.auto.got

pub shape_of-plane : goal.shape_of-plane
shape_of-plane c = c.thin.auto.plane

pub returns : goal.returns
returns c = record { packs = c.thin.ensures.packs; scratch = c.thin.ensures.scratch }
