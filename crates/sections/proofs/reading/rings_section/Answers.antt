use mathlib.Core.Path.{ap₂, ◌∙◌}
use Prim.Native.Nat.{ℕ}
use Rattle.rules.specs.Tools.{refusal}
use Rattle.rules.specs.Calls.{section_cases}
use Rattle.sections.specs.Reading.{one_of, only}
use Rattle.sections.proofs.reading.rings_section.Goals as goal

pub returns : goal.returns
returns c = c.section.ensures ∙ ap₂ (λ (at a : ℕ). refusal (section_cases c.args.f.now at (one_of a a) 2)) c.support_end.ensures.0 c.ring_count-rings.ensures.0
    ∙ only c.args.f.now _ _ 2
