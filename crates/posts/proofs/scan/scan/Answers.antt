use mathlib.Core.Path.{◌≡◌, refl, ◌∙◌}
use Rattle.planes.specs.PlaneLaws.{row_next}
use Rattle.posts.specs.ScanLaws.{scanning_none, scanning_then, scanning_all}
use native.Mathlib.Omega.{arith}
use Rattle.posts.proofs.scan.scan.Goals as goal

pub loop-y-init : goal.loop-y-init
loop-y-init c = (
  refl,
  refl,
  refl,
  omega arith,
  record { sizes = c.requires.sizes.0; bytes = c.requires.sizes.1; rest_ready = c.requires.sizes.2; got_empty = c.requires.sizes.3; out_clean = c.requires.sizes.4 },
  (λ p l. absurd (omega arith)),
  scanning_none _ _ _ _ _,
)

pub scan_row-requires : goal.scan_row-requires
scan_row-requires c = record {
  planes = (c.loop-y.invariant.4, c.loop-y-test.true, c.requires.disc.0, c.requires.disc.1);
  done = c.loop-y.invariant.5;
}

pub loop-y-preserved : goal.loop-y-preserved
loop-y-preserved c = (
  c.scan_row.auto.rest ∙ c.loop-y.invariant.0,
  c.scan_row.auto.got ∙ c.loop-y.invariant.1,
  c.scan_row.auto.out ∙ c.loop-y.invariant.2,
  omega (arith, c.loop-y-test.true),
  c.scan_row.ensures.planes,
  (λ p l. c.scan_row.ensures.done p (omega (arith, row_next c.loop-y.y c.args.w))),
  scanning_then _ _ _ _ _ _ _ _ _ c.loop-y.invariant.6 c.scan_row.ensures.scanning,
)

pub shape_of-rest : goal.shape_of-rest
shape_of-rest c = c.loop-y.invariant.0

pub shape_of-got : goal.shape_of-got
shape_of-got c = c.loop-y.invariant.1

pub shape_of-out : goal.shape_of-out
shape_of-out c = c.loop-y.invariant.2

pub returns : goal.returns
returns c = let S = c.loop-y.invariant.4 in
    let e : c.loop-y.y ≡ c.args.h = omega (arith, c.loop-y-test.false, c.loop-y.invariant.3) in record {
      packs = record { clean = S.out_clean; pixels = scanning_all _ _ _ _ _ _ _ c.loop-y.invariant.6 (λ p l. c.loop-y.invariant.5 p (rw e l)) };
      ready = (S.rest_ready, S.got_empty);
    }
