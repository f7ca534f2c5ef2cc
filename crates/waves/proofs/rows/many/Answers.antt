use Rattle.laws.specs.Tests.{clash}
use borrow.Author.Tests.{leb-true}
use Prim.Native.Nat.{◌-◌}
use mathlib.Core.Path.{refl}
use native.Mathlib.Omega.{arith}
use Rattle.waves.proofs.rows.many.Goals as goal

pub returns-then-not-quarters : goal.returns-then-not-quarters
returns-then-not-quarters c = λ e. clash e refl

pub returns-then-not-quarters-2 : goal.returns-then-not-quarters-2
returns-then-not-quarters-2 c = λ e. clash e refl

pub returns-then-n-lt256 : goal.returns-then-n-lt256
returns-then-n-lt256 c = λ e. clash e refl

pub returns : goal.returns
returns c = λ e. omega (arith, leb-true c.args.at (c.args.n - 256) e)
