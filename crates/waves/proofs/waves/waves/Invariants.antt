use Prim.Native.Nat.{◌-◌, ◌<◌, ◌≤◌}
use Rattle.rules.specs.Images.{Plane}
use Rattle.waves.specs.Rows.{Room}
use Rattle.waves.specs.Fronts.{WavePlanes, Waved}
use Rattle.waves.proofs.waves.waves.Given as goal

abbrev pub invariant-loop-n : goal.invariant-loop-n
invariant-loop-n l = (0 < l.n) × (l.n ≤ l.t) × WavePlanes l.w l.h l.ahead l.front l.left l.got l.ring × Room l.w l.h l.ahead l.front
    × Room l.w l.h l.ahead l.next × ((over seed : Plane) → Waved l.w l.h l.k over seed l.initial.front l.initial.left l.initial.got l.initial.ring → Waved l.w l.h l.n over seed l.front l.left l.got l.ring)

abbrev pub decreases-loop-n : goal.decreases-loop-n
decreases-loop-n l = l.t - l.n
