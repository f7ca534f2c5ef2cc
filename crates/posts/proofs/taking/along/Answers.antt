use Rattle.words.specs.Words.{column}
use Rattle.planes.specs.PlaneLaws.{column_in}
use Rattle.posts.specs.AlongLaws.{joining_start, more_is, joining_more, joining_less, joining_end}
use Rattle.posts.proofs.taking.along.Goals as goal

pub loop-free-init : goal.loop-free-init
loop-free-init c = (joining_start _ _ c.requires, more_is _ _ _ (column c.wide.result) (column c.both.result) _ c.wide.ensures c.both.ensures c.but_not-more.ensures)

pub loop-free-smaller : goal.loop-free-smaller
loop-free-smaller c = joining_less _ _ _ _ (column_in c.loop-free.more) c.loop-free.invariant.0 c.loop-free.invariant.1 _ c.either-s.ensures (c.any.ensures.some c.loop-free-test.true)

pub loop-free-preserved : goal.loop-free-preserved
loop-free-preserved c = (
  joining_more _ _ _ _ (column_in c.loop-free.more) c.loop-free.invariant.0 c.loop-free.invariant.1 _ c.either-s.ensures,
  more_is _ _ _ (column c.wide-in-loop-free.result) (column c.both-in-loop-free.result) _ c.wide-in-loop-free.ensures c.both-in-loop-free.ensures c.but_not-more-in-loop-free.ensures,
)

pub returns : goal.returns
returns c = joining_end _ _ _ _ (column_in c.loop-free.more) c.loop-free.invariant.0 c.loop-free.invariant.1 (column_in c.args.free) (c.any.ensures.none c.loop-free-test.false)
