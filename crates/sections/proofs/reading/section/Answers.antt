use mathlib.Core.Path.{sym, ◌∙◌}
use Prim.Native.Nat.{◌≤◌}
use native.Mathlib.Nat.{mul-le-mul}
use Rattle.laws.specs.JobFiles.{section_in}
use Rattle.sections.specs.Reading.{count_cut, count_wrong, contents_cut}
use native.Mathlib.Omega.{arith}
use Rattle.sections.proofs.reading.section.Goals as goal

pub returns-then-f-at : goal.returns-then-f-at
returns-then-f-at c = count_cut _ _ _ _ c.if-f-at.true

pub returns-then-not-allowed : goal.returns-then-not-allowed
returns-then-not-allowed c = count_wrong _ _ _ _ c.if-f-at.false (rw c.get32-c.ensures.0 at (sym c.allowed.ensures ∙ c.if-not-allowed.true))

pub overflow_mul-c : goal.overflow_mul-c
overflow_mul-c c = let h : c.get32-c.result ≤ 4294967295 = omega (arith, c.get32-c.ensures.1) in omega (arith, mul-le-mul h c.requires.1)

pub overflow_add-at-3 : goal.overflow_add-at-3
overflow_add-at-3 c = let h : c.get32-c.result ≤ 4294967295 = omega (arith, c.get32-c.ensures.1) in omega (arith, mul-le-mul h c.requires.1)

pub returns-then-f-at-2 : goal.returns-then-f-at-2
returns-then-f-at-2 c = contents_cut _ _ _ _ c.if-f-at.false (rw c.get32-c.ensures.0 at (sym c.allowed.ensures ∙ c.if-not-allowed.false))
    (rw c.get32-c.ensures.0 at c.if-f-at-2.true)

pub returns : goal.returns
returns c = sym (section_in _ _ _ _ (record {
  room = c.if-f-at.false;
  right = rw c.get32-c.ensures.0 at (sym c.allowed.ensures ∙ c.if-not-allowed.false);
  fits = rw c.get32-c.ensures.0 at c.if-f-at-2.false;
}))
