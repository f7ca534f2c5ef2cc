use mathlib.Core.Path.{◌≡◌}
use Prim.Native.Nat.{min, ◌+◌, ◌-◌, ◌*◌}
use Rattle.words.specs.RowLaws.{within_none}
use native.Mathlib.Omega.{arith}
use Rattle.words.proofs.rows.write_word.Goals as goal

pub returns-then-b-n : goal.returns-then-b-n
returns-then-b-n c = let a = c.args in
    let s : min a.n (a.q * 8) ≡ a.q * 8 = omega arith in
    let e : a.at + min a.n (a.q * 8 + 8) ≡ a.at + a.q * 8 + 8 = omega arith in
    rw (s, e) c.put.ensures

pub returns-then-n-b : goal.returns-then-n-b
returns-then-n-b c = within_none _ _ _ _ (omega arith)

pub returns : goal.returns
returns c = let a = c.args in
    let s : min a.n (a.q * 8) ≡ a.q * 8 = omega arith in
    let e : a.at + min a.n (a.q * 8 + 8) ≡ a.at + a.q * 8 + (a.n - a.q * 8) = omega arith in
    rw (s, e) c.put-2.ensures
