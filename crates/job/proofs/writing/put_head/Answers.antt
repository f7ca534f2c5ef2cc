use mathlib.Core.Path.{refl}
use mathlib.Core.List.{List, ◌++◌}
use Prim.Native.Nat.{ℕ, ◌≤◌}
use lib.ListN.{length}
use Rattle.rules.specs.Jobs.{put16, put32}
use Rattle.laws.specs.Runs.{after}
use native.Mathlib.Omega.{arith}
use Rattle.job.proofs.writing.put_head.Goals as goal

pub returns : goal.returns
returns c = let d : List ℕ = c.args.d.now in
    let s = c.args.s in
    let h : 14 ≤ length d = c.requires in
    let e1 = after d _ _ (put32 5) (put16 s.w) 0 4 c.put32.ensures refl (omega arith) c.put16.ensures in
    let e2 = after d _ _ (put32 5 ++ put16 s.w) (put16 s.h) 0 6 e1 refl (omega arith) c.put16-2.ensures in
    let e3 = after d _ _ (put32 5 ++ put16 s.w ++ put16 s.h) (put16 s.n) 0 8 e2 refl (omega arith) c.put16-3.ensures in
    let e4 = after d _ _ (put32 5 ++ put16 s.w ++ put16 s.h ++ put16 s.n) (put16 s.pitch.0) 0 10 e3 refl (omega arith) c.put16-4.ensures in
    after d _ _ (put32 5 ++ put16 s.w ++ put16 s.h ++ put16 s.n ++ put16 s.pitch.0) (put16 s.overhang.0) 0 12 e4 refl (omega arith) c.put16-5.ensures
