use mathlib.Core.Path.{refl, sym, ap, ◌∙◌}
use lib.ListN.{length}
use Rattle.rules.specs.Jobs.{rings_stored, get16s}
use Rattle.rules.specs.Calls.{copy_answer, copy_rings, refused_in}
use Rattle.rules.specs.declared.Layout.{Layout}
use Rattle.rules.specs.declared.CopiedRings.TheVariants.{Copied, Refused}
use Rattle.sections.specs.Reading.{copying}
use Rattle.laws.specs.Refusals.{says_no, says_yes}
use Rattle.laws.specs.Demand1.{copied_as_read}
use native.Mathlib.Omega.{arith}
use Rattle.job.proofs.copy_rings.Goals as goal

pub with_rows_in-requires : goal.with_rows_in-requires
with_rows_in-requires c = (
  (λ e. copied_as_read _ _ 6 (λ z. omega arith) (sym c.copy_refusal-k.ensures ∙ e)),
  (λ e. copied_as_read _ _ 7 (λ z. omega arith) (sym c.copy_refusal-k.ensures ∙ e)),
)

pub returns-then-k-ne0 : goal.returns-then-k-ne0
unfolding copy_answer copy_rings
returns-then-k-ne0 c = record {
  answer = ap Refused c.with_rows_in.ensures ∙ says_no Copied (λ k. Refused (refused_in c.args.file.now k)) c.copy_refusal-k.ensures c.if-k-ne0.true;
  rings = says_no (rings_stored c.args.file.now) (λ k. c.args.rings.now) c.copy_refusal-k.ensures c.if-k-ne0.true;
}

pub layout-l-requires : goal.layout-l-requires
layout-l-requires c = (copying _ _ (sym c.copy_refusal-k.ensures ∙ c.if-k-ne0.false)).accepted

pub get16s-requires : goal.get16s-requires
get16s-requires c = let v = copying _ _ (sym c.copy_refusal-k.ensures ∙ c.if-k-ne0.false) in rw (← c.layout-l.ensures) at v.fits

pub returns : goal.returns
unfolding copy_answer copy_rings
returns c = let args = c.args in
    let v = copying _ _ (sym c.copy_refusal-k.ensures ∙ c.if-k-ne0.false) in record {
      answer = says_yes Copied (λ k. Refused (refused_in args.file.now k)) c.copy_refusal-k.ensures c.if-k-ne0.false refl;
      rings = says_yes (rings_stored args.file.now) (λ k. args.rings.now) c.copy_refusal-k.ensures c.if-k-ne0.false
          (c.get16s.ensures ∙ ap (λ (l : Layout). get16s args.file.now l.rings (length args.rings.now)) c.layout-l.ensures ∙ v.all);
    }
