use mathlib.Core.Path.{◌≡◌, subst}
use Prim.Native.Nat.{ℕ}
use Rattle.clean.specs.Far.{Ahead}
use Rattle.clean.specs.FarLaws.{ahead_start}
use native.Mathlib.Omega.{arith}
use Rattle.clean.proofs.far.begin.Goals as goal

pub loop-k-init : goal.loop-k-init
loop-k-init c = (omega arith, λ w a. ahead_start w _ _)

pub look-t-requires : goal.look-t-requires
look-t-requires c = (c.requires.0, omega (arith, c.requires.1, c.loop-k-test.true), c.requires.1)

pub overflow_add-k : goal.overflow_add-k
overflow_add-k c = omega (arith, c.requires.1, c.loop-k-test.true)

pub loop-k-smaller : goal.loop-k-smaller
loop-k-smaller c = omega (arith, c.loop-k-test.true)

pub loop-k-preserved : goal.loop-k-preserved
loop-k-preserved c = (omega (arith, c.loop-k-test.true), λ w a. c.look-t.ensures w a (c.loop-k.invariant.1 w a))

pub returns : goal.returns
returns c = λ w a.
    let z : c.loop-k.k ≡ c.args.c.0 = omega (arith, c.loop-k.invariant.0, c.loop-k-test.false) in
    subst (λ (k : ℕ). Ahead w c.args.c.0 k c.args.from.now c.loop-k.t) z (c.loop-k.invariant.1 w a)
