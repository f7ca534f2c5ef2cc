use mathlib.Core.Path.{ap, sym}
use Prim.Native.Nat.{ℕ, ◌+◌}
use Rattle.laws.specs.Numbers.{length_put16s}
use Rattle.sections.specs.Runs.{counted}
use Rattle.job.proofs.writing.put_rings.Goals as goal

pub returns : goal.returns
returns c = counted _ _ _ _ c.args.at _ _ c.put32.ensures c.put16s.ensures (ap (λ (k : ℕ). c.args.at + 4 + k) (sym (length_put16s c.args.src.now))) c.requires
