use mathlib.Core.Path.{◌≡◌, refl, sym, ap₂, ◌∙◌}
use mathlib.Core.List.{List}
use Prim.Native.Nat.{ℕ, ◌+◌, ◌/◌, ◌%◌}
use lib.ListN.{length, get_or, set, length-set}
use lib.Seq.{take-length}
use Rattle.rules.specs.Jobs as jobs
use Rattle.rules.specs.Jobs.{over}
use Rattle.laws.specs.Numbers.{length_put16s}
use Rattle.laws.specs.Runs.{over_none}
use Rattle.sections.specs.Runs.{words_more, over_all}
use native.Mathlib.Omega.{arith}
use Rattle.sections.proofs.numbers.put16s.Goals as goal

pub loop-i-init : goal.loop-i-init
loop-i-init c = (over_none c.args.d.now 0, omega arith, omega arith, refl)

pub offset_bounds-src-i : goal.offset_bounds-src-i
offset_bounds-src-i c = omega arith

pub bounds-src-i : goal.bounds-src-i
bounds-src-i c = omega arith

pub overflow_cast-d : goal.overflow_cast-d
overflow_cast-d c = omega arith

pub bounds-d-j : goal.bounds-d-j
bounds-d-j c = omega arith

pub overflow_cast-d-in-loop-i : goal.overflow_cast-d-in-loop-i
overflow_cast-d-in-loop-i c = omega arith

pub overflow_add-d : goal.overflow_add-d
overflow_add-d c = omega arith

pub bounds-d-j-in-loop-i : goal.bounds-d-j-in-loop-i
bounds-d-j-in-loop-i c = simp length-set (omega arith)

pub overflow_add-i : goal.overflow_add-i
overflow_add-i c = omega arith

pub overflow_add-j : goal.overflow_add-j
overflow_add-j c = omega arith

pub loop-i-smaller : goal.loop-i-smaller
loop-i-smaller c = omega arith

pub loop-i-preserved : goal.loop-i-preserved
loop-i-preserved c = let v : ℕ = get_or c.args.src.now c.loop-i.i 0 in (
  ap₂ (λ (l : List ℕ) (k : ℕ). set (set l k (v / 256 % 256)) (k + 1) (v % 256)) c.loop-i.invariant.0 c.loop-i.invariant.1
      ∙ words_more c.args.d.now c.args.src.now c.loop-i.i c.loop-i-test.true c.requires,
  omega arith,
  omega arith,
  simp (length-set, length-set) c.loop-i.invariant.3,
)

pub shape_of-d : goal.shape_of-d
shape_of-d c = c.loop-i.invariant.3

pub returns : goal.returns
returns c = let args = c.args in
    let e : c.loop-i.i ≡ length args.src.now = omega arith in
    let n : length args.d.now ≡ length (jobs.put16s args.src.now) = c.requires ∙ sym (length_put16s args.src.now) in
    c.loop-i.invariant.0 ∙ rw (e, take-length) (over_all args.d.now (jobs.put16s args.src.now) n)
