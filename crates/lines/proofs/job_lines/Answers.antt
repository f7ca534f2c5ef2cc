use mathlib.Core.Path.{◌∙◌}
use Rattle.lines.specs.Whole.{in_range, job_short, job_room, job_whole}
use native.Mathlib.Omega.{arith}
use Rattle.lines.proofs.job_lines.Goals as goal

pub job_line-at-requires : goal.job_line-at-requires
job_line-at-requires c = let r = in_range c.requires.0 in let hp = r.pitch_low in (omega arith, omega (arith, job_short c.args.s r, c.requires.1))

pub layer_lines-requires : goal.layer_lines-requires
layer_lines-requires c = (c.requires.0, job_room (in_range c.requires.0) _ c.job_line-at.new.out c.job_line-at.ensures.0 (c.job_line-at.auto.out ∙ c.requires.1))

pub returns : goal.returns
returns c = job_whole (in_range c.requires.0) c.requires.1 c.job_line-at.ensures c.layer_lines.ensures
