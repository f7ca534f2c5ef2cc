use mathlib.Core.Path.{ap₂, ◌∙◌}
use Prim.Native.Nat.{ℕ}
use Rattle.rules.specs.Tools.{refusal}
use Rattle.rules.specs.Jobs.{head_end}
use Rattle.rules.specs.Calls.{section_cases}
use Rattle.laws.specs.Limits.{ranged}
use Rattle.sections.specs.Reading.{one_of, only}
use Rattle.sections.proofs.reading.part_section.Goals as goal

pub row_bytes-requires : goal.row_bytes-requires
row_bytes-requires c = (ranged c.args.s c.requires).w_high

pub returns : goal.returns
unfolding head_end
returns c = c.section.ensures ∙ ap₂ (λ (a u : ℕ). refusal (section_cases c.args.f.now 14 (one_of a a) u)) c.rows_of-rows.ensures.0 c.row_bytes.ensures.0
    ∙ only c.args.f.now 14 _ _
