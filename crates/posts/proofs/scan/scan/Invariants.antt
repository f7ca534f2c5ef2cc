use mathlib.Core.Path.{◌≡◌}
use Prim.Native.Nat.{ℕ, ◌-◌, ◌*◌, ◌<◌, ◌≤◌}
use mathlib.Core.Bool.{false}
use lib.ListN.{length}
use Rattle.planes.specs.Scratch.{seen}
use Rattle.posts.specs.Scanning.{ScanPlanes, Scanning}
use Rattle.posts.proofs.scan.scan.Given as goal

abbrev pub invariant-loop-y : goal.invariant-loop-y
invariant-loop-y l = (length l.rest ≡ length l.initial.rest) × (length l.got ≡ length l.initial.got) × (length l.out ≡ length l.initial.out) × (l.y ≤ l.h) × ScanPlanes l.w l.h l.n l.rest l.got l.out
    × ((p : ℕ) → p < l.y * l.w → seen l.w l.rest p ≡ false) × Scanning l.w l.h l.q.0 l.initial.rest l.initial.out l.rest l.out

abbrev pub decreases-loop-y : goal.decreases-loop-y
decreases-loop-y l = l.h - l.y
