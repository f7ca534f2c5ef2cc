use mathlib.Core.Path.{◌≡◌}
use Prim.Native.Nat.{◌+◌, ◌-◌, ◌*◌, ◌≤◌}
use lib.ListN.{length}
use Rattle.rules.specs.Tools.{count}
use Rattle.planes.specs.Scratch.{seen}
use Rattle.posts.specs.Scanning.{ScanPlanes, Scanning}
use Rattle.posts.specs.ScanLaws.{Before}
use Rattle.posts.proofs.scan.scan_row.Given as goal

abbrev pub invariant-loop-k : goal.invariant-loop-k
invariant-loop-k l = (length l.rest ≡ length l.initial.rest) × (length l.got ≡ length l.initial.got) × (length l.out ≡ length l.initial.out) × (l.k ≤ 4) × ScanPlanes l.w l.h l.n l.rest l.got l.out × Before l.w l.y l.k l.rest × Scanning l.w l.h l.q.0 l.initial.rest l.initial.out l.rest l.out

abbrev pub decreases-loop-k : goal.decreases-loop-k
decreases-loop-k l = count (l.h * l.w) (seen l.w l.rest) * 8 + (4 - l.k)
