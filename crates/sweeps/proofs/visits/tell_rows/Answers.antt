use Rattle.std.proofs.Common.{arith}
use Rattle.sweeps.specs.Telling.{none}
use Rattle.sweeps.specs.TellLaws.{lowers_then, told_still, meant_none}
use Rattle.sweeps.proofs.visits.tell_rows.Goals as goal

pub returns-then-mask-eq0 : goal.returns-then-mask-eq0
returns-then-mask-eq0 c = λ at B X Y Z. (none, (λ k M. absurd (meant_none c.if-mask-eq0.true M)), (λ k M. absurd (meant_none (c.requires.5 c.if-mask-eq0.true) M)), (λ k M. absurd (meant_none c.if-mask-eq0.true M)))

pub tell-requires : goal.tell-requires
tell-requires c = (omega (arith, c.requires.0), omega (arith, c.requires.1), omega (arith, c.requires.2), omega (arith, c.requires.3), c.requires.6)

pub tell-requires-2 : goal.tell-requires-2
tell-requires-2 c = (
  omega (arith, c.requires.0, c.tell.auto.marks),
  omega (arith, c.requires.1, c.tell.auto.got),
  omega (arith, c.requires.2),
  omega (arith, c.requires.3),
  (λ k M. omega (arith, c.requires.7 k M, c.tell.auto.ring)),
)

pub tell-requires-3 : goal.tell-requires-3
tell-requires-3 c = (
  omega (arith, c.requires.0, c.tell.auto.marks, c.tell-2.auto.marks),
  omega (arith, c.requires.1, c.tell.auto.got, c.tell-2.auto.got),
  omega (arith, c.requires.2),
  omega (arith, c.requires.3, c.requires.4),
  (λ k M. omega (arith, c.requires.8 k M, c.tell.auto.ring, c.tell-2.auto.ring)),
)

pub returns : goal.returns
returns c = λ at B X Y Z.
    let (a, a') = c.tell.ensures at B X in
    let (b, b') = c.tell-2.ensures at B Y in
    let (d, d') = c.tell-3.ensures at B Z in
    (lowers_then (lowers_then a b) d, told_still _ _ _ d (told_still _ _ _ b a'), told_still _ _ _ d b', d')
