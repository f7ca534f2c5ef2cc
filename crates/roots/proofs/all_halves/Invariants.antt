use Prim.Native.Nat.{◌-◌, ◌≤◌}
use Rattle.laws.specs.Discs.{HalvesTo}
use Rattle.roots.proofs.all_halves.Given as goal

abbrev pub invariant-loop-d : goal.invariant-loop-d
invariant-loop-d l = HalvesTo l.q l.d l.out × (l.d ≤ 33)

abbrev pub decreases-loop-d : goal.decreases-loop-d
decreases-loop-d l = 33 - l.d
