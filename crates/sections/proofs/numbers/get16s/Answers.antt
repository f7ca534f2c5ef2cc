use mathlib.Core.Path.{◌≡◌, refl, ap, ap₂, ◌∙◌}
use mathlib.Core.List.{List, append-nil}
use Prim.Native.Nat.{ℕ, ◌<◌}
use lib.ListN.{length, set, length-set}
use lib.Seq.{drop-length}
use Rattle.rules.specs.Jobs.{be16}
use Rattle.sections.specs.Runs.{copy_more}
use native.Mathlib.Omega.{arith}
use Rattle.sections.proofs.numbers.get16s.Goals as goal

pub loop-i-init : goal.loop-i-init
loop-i-init c = (refl, omega arith, omega arith, refl)

pub get16-requires : goal.get16-requires
get16-requires c = omega arith

pub offset_bounds-out-i : goal.offset_bounds-out-i
offset_bounds-out-i c = omega arith

pub bounds-out-i : goal.bounds-out-i
bounds-out-i c = omega arith

pub overflow_add-i : goal.overflow_add-i
overflow_add-i c = omega arith

pub overflow_add-j : goal.overflow_add-j
overflow_add-j c = omega arith

pub loop-i-smaller : goal.loop-i-smaller
loop-i-smaller c = omega arith

pub loop-i-preserved : goal.loop-i-preserved
loop-i-preserved c = let h : c.loop-i.i < length c.args.out.now = omega arith in (
  ap₂ (λ (l : List ℕ) (v : ℕ). set l c.loop-i.i v) c.loop-i.invariant.0 (c.get16.ensures.0 ∙ ap (be16 c.args.f.now) c.loop-i.invariant.1)
      ∙ copy_more _ _ _ _ h,
  omega arith,
  omega arith,
  simp length-set c.loop-i.invariant.3,
)

pub shape_of-out : goal.shape_of-out
shape_of-out c = c.loop-i.invariant.3

pub returns : goal.returns
returns c = let e : c.loop-i.i ≡ length c.args.out.now = omega arith in
    c.loop-i.invariant.0 ∙ rw (e, drop-length, append-nil)
