use mathlib.Core.Path.{sym, ◌∙◌}
use Rattle.clean.specs.CallLaws.{early_settings, early_gap, early_part, early_clean, early_none}
use native.Mathlib.Omega.{arith}
use Rattle.clean.proofs.refusal.Goals as goal

pub returns-then-a-ne0 : goal.returns-then-a-ne0
returns-then-a-ne0 c = early_settings _ _ _ _ _ c.settings_refusal-a.ensures c.if-a-ne0.true

pub returns-then-c-gt32 : goal.returns-then-c-gt32
returns-then-c-gt32 c = early_gap _ _ _ _ (sym c.settings_refusal-a.ensures ∙ c.if-a-ne0.false) c.if-c-gt32.true

pub stack_bytes-bytes-requires : goal.stack_bytes-bytes-requires
stack_bytes-bytes-requires c = sym c.settings_refusal-a.ensures ∙ c.if-a-ne0.false

pub returns-then-part-bytes : goal.returns-then-part-bytes
returns-then-part-bytes c = early_part _ _ _ _ (sym c.settings_refusal-a.ensures ∙ c.if-a-ne0.false) (omega (arith, c.if-c-gt32.false)) (λ e. c.if-part-bytes.true (e ∙ sym c.stack_bytes-bytes.ensures.0))

pub returns-then-clean-bytes : goal.returns-then-clean-bytes
returns-then-clean-bytes c = early_clean _ _ _ _ (sym c.settings_refusal-a.ensures ∙ c.if-a-ne0.false) (omega (arith, c.if-c-gt32.false)) (c.if-part-bytes.false ∙ c.stack_bytes-bytes.ensures.0)
    (λ e. c.if-clean-bytes.true (e ∙ sym c.stack_bytes-bytes.ensures.0))

pub returns : goal.returns
returns c = early_none _ _ _ _ (sym c.settings_refusal-a.ensures ∙ c.if-a-ne0.false) (omega (arith, c.if-c-gt32.false)) (c.if-clean-bytes.false ∙ c.stack_bytes-bytes.ensures.0)
