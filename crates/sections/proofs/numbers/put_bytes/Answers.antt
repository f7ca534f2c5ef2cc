use mathlib.Core.Path.{refl, ap, ◌∙◌}
use mathlib.Core.List.{List}
use Prim.Native.Nat.{ℕ}
use lib.ListN.{get_or, set, length-set}
use Rattle.sections.specs.Runs.{bytes_more, bytes_all}
use native.Mathlib.Omega.{arith}
use Rattle.sections.proofs.numbers.put_bytes.Goals as goal

pub loop-i-init : goal.loop-i-init
loop-i-init c = (refl, omega arith, refl)

pub bounds-src-i : goal.bounds-src-i
bounds-src-i c = omega arith

pub bounds-d-i : goal.bounds-d-i
bounds-d-i c = omega arith

pub overflow_add-i : goal.overflow_add-i
overflow_add-i c = omega arith

pub loop-i-smaller : goal.loop-i-smaller
loop-i-smaller c = omega arith

pub loop-i-preserved : goal.loop-i-preserved
loop-i-preserved c = (
  ap (λ (l : List ℕ). set l c.loop-i.i (get_or c.args.src.now c.loop-i.i 0)) c.loop-i.invariant.0
      ∙ bytes_more c.args.d.now c.args.src.now c.loop-i.i c.loop-i-test.true c.requires,
  omega arith,
  simp length-set c.loop-i.invariant.2,
)

pub shape_of-d : goal.shape_of-d
shape_of-d c = c.loop-i.invariant.2

pub returns : goal.returns
returns c = c.loop-i.invariant.0 ∙ bytes_all c.args.d.now c.args.src.now c.loop-i.i (omega arith) c.requires
