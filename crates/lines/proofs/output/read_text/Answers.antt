use Prim.Native.Nat.{ℕ}
use lib.ListN.{length-replicate}
use Rattle.lines.proofs.output.read_text.Goals as goal

pub job_text-requires : goal.job_text-requires
job_text-requires c = (c.requires.0, record { support = length-replicate {A = ℕ} 65536 0; rings = length-replicate {A = ℕ} 32768 0; text = c.requires.1 })
