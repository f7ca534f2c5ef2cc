use mathlib.Core.Path.{sym, ap}
use Prim.Native.Nat.{ℕ}
use Rattle.rules.specs.Reach.{bound_of}
use Rattle.rules.specs.declared.Bound.{Bound}
use Rattle.laws.specs.Limits.{settable_in}
use Rattle.limits.proofs.bound_of.Goals as goal

pub bound_by-requires : goal.bound_by-requires
bound_by-requires c = settable_in c.args.s c.requires

pub returns : goal.returns
unfolding bound_of
returns c = (ap (λ (q : Bound). λ (i : ℕ). q.0) (sym c.bound_by.ensures.0), c.bound_by.ensures.1)
