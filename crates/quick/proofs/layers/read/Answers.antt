use Rattle.std.proofs.Common.{arith}
use Rattle.quick.specs.Layers.{framed_more, reading_more, read_all}
use Rattle.quick.proofs.layers.read.Goals as goal

pub loop-r-preserved : goal.loop-r-preserved
loop-r-preserved c = let a = c.args in let l = c.loop-r in let p = c.requires in let rb = c.row_bytes-rb in (
  omega (arith, c.put.auto.l),
  framed_more a.w a.h rb.result l.r a.s.now l.out _ _ p.0 p.1.0 (omega arith) rb.ensures.0 c.read.ensures c.put.ensures l.invariant.1,
  reading_more a.w a.h rb.result l.r a.s.now l.out _ _ p.0 p.1.0 (omega arith) rb.ensures.0 c.read.ensures c.put.ensures l.invariant.2,
)

pub returns : goal.returns
returns c = let a = c.args in let l = c.loop-r in read_all a.w a.h l.r a.s.now l.out c.requires.0 (omega arith) l.invariant.0 l.invariant.1 l.invariant.2
