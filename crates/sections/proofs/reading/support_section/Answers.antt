use mathlib.Core.Path.{ap, ap₂, ◌∙◌}
use Prim.Native.Nat.{ℕ}
use Rattle.rules.specs.Tools.{refusal}
use Rattle.rules.specs.Jobs.{part_end}
use Rattle.rules.specs.Calls.{section_cases}
use Rattle.laws.specs.Limits.{ranged}
use Rattle.sections.specs.Reading.{one_of, none_or_all}
use Rattle.sections.proofs.reading.support_section.Goals as goal

pub row_bytes-requires : goal.row_bytes-requires
row_bytes-requires c = (ranged c.args.s c.requires).w_high

pub returns : goal.returns
returns c = let args = c.args in
    c.section.ensures
    ∙ ap (λ (at : ℕ). refusal (section_cases args.f.now at (one_of 0 c.rows_of.result) c.row_bytes.result)) c.part_end.ensures.0
    ∙ ap₂ (λ (a u : ℕ). refusal (section_cases args.f.now (part_end args.s) (one_of 0 a) u)) c.rows_of.ensures.0 c.row_bytes.ensures.0
    ∙ none_or_all args.f.now args.s _ _
