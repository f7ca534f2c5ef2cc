use borrow.Author.Tests.{lt-ltb, le-ltb}
use Rattle.laws.specs.JobFiles.{write_room}
use Rattle.job.proofs.writing.room_refusal.Goals as goal

pub returns-then-length-gt4294967295 : goal.returns-then-length-gt4294967295
unfolding write_room
returns-then-length-gt4294967295 c = simp (lt-ltb _ _ c.if-length-gt4294967295.true)

pub returns-then-room-length : goal.returns-then-room-length
unfolding write_room
returns-then-room-length c = simp (le-ltb _ _ c.if-length-gt4294967295.false, lt-ltb _ _ c.if-room-length.true)

pub returns : goal.returns
unfolding write_room
returns c = simp (le-ltb _ _ c.if-length-gt4294967295.false, le-ltb _ _ c.if-room-length.false)
