use Rattle.std.proofs.Common.{arith}
use Rattle.judge.specs.Verdicts.{first_bad, first_unheld, plane_sized, stack_length, told_10, told_9, told_unheld, told_accepted, told_sure, whole_of}
use Rattle.rules.specs.Reach.{bound_of}
use Rattle.judge.proofs.verdict.Goals as goal

pub overlap_at-requires : goal.overlap_at-requires
overlap_at-requires c = let pre = c.requires in
    ((plane_sized c.args.s pre.0, pre.0.n_high), (stack_length c.args.s _ pre.1.0, stack_length c.args.s _ pre.1.1.0))

pub returns-in-Some : goal.returns-in-Some
returns-in-Some c = let args = c.args in
    told_9 args.s.w args.s.h args.s.n (bound_of args.s) args.part.now args.support.now args.rings.now c.in-Some.p c.in-Some.ensures.first
    c.in-Some.ensures.inside c.place_of.result c.place_of.ensures

pub sure-requires : goal.sure-requires
sure-requires c = let args = c.args in
    (whole_of args.s args.part.now args.support.now args.rings.now c.requires, c.bound_of-q.ensures.1)

pub returns-then-sure : goal.returns-then-sure
returns-then-sure c = let args = c.args in
    told_sure args.s c.bound_of-q.result.0 args.part.now args.support.now args.rings.now _ c.bound_of-q.ensures.0 c.in_default.ensures.first (omega arith)
    (c.sure.ensures c.if-sure.true)

pub first-requires : goal.first-requires
first-requires c = let args = c.args in
    (whole_of args.s args.part.now args.support.now args.rings.now c.requires, c.bound_of-q.ensures.1)

pub returns-in-Some-first : goal.returns-in-Some-first
returns-in-Some-first c = let args = c.args in
    told_10 args.s.w args.s.h args.s.n (bound_of args.s) args.part.now args.support.now args.rings.now _ c.in_default.ensures.first (omega arith)
    c.in-Some-first.p (first_bad args.s c.bound_of-q.result.0 args.part.now args.support.now args.rings.now c.bound_of-q.ensures.0 _
    c.in-Some-first.ensures.first) c.in-Some-first.ensures.inside c.place_of-in-Some-first.result c.place_of-in-Some-first.ensures

pub first-requires-2 : goal.first-requires-2
first-requires-2 c = let args = c.args in
    (whole_of args.s args.part.now args.support.now args.rings.now c.requires, c.bound_of-q.ensures.1)

pub returns-in-Some-first-2 : goal.returns-in-Some-first-2
returns-in-Some-first-2 c = let args = c.args in
    told_unheld args.s.w args.s.h args.s.n (bound_of args.s) args.part.now args.support.now args.rings.now _ c.in_default.ensures.first (omega arith)
    _ (first_bad args.s c.bound_of-q.result.0 args.part.now args.support.now args.rings.now c.bound_of-q.ensures.0 _ c.in_default-first.ensures.first) (omega arith)
    c.in-Some-first-2.p (first_unheld args.s c.bound_of-q.result.0 args.part.now args.support.now args.rings.now c.bound_of-q.ensures.0 _
    c.in-Some-first-2.ensures.first) c.in-Some-first-2.ensures.inside c.unheld_number-k.result c.unheld_number-k.ensures
    c.place_of-in-Some-first-2.result c.place_of-in-Some-first-2.ensures

pub returns : goal.returns
returns c = let args = c.args in
    told_accepted args.s.w args.s.h args.s.n (bound_of args.s) args.part.now args.support.now args.rings.now _ c.in_default.ensures.first (omega arith)
    _ (first_bad args.s c.bound_of-q.result.0 args.part.now args.support.now args.rings.now c.bound_of-q.ensures.0 _ c.in_default-first.ensures.first) (omega arith)
    _ (first_unheld args.s c.bound_of-q.result.0 args.part.now args.support.now args.rings.now c.bound_of-q.ensures.0 _ c.in_default-first-2.ensures.first) (omega arith)
