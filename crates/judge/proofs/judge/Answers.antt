use mathlib.Core.Path.{◌∙◌, sym}
use Rattle.judge.specs.Verdicts.{judged_by, judged_refused, padding_told, verdict_ready}
use Rattle.judge.proofs.judge.Goals as goal

pub with_rows-requires : goal.with_rows-requires
with_rows-requires c = let args = c.args in
    padding_told args.s args.part.now args.support.now args.rings.now _ c.both_refusal-a.ensures

pub returns-then-a-ne0 : goal.returns-then-a-ne0
returns-then-a-ne0 c = let args = c.args in
    judged_refused args.s args.part.now args.support.now args.rings.now _ c.both_refusal-a.ensures c.if-a-ne0.true _ c.with_rows.ensures

pub verdict-requires : goal.verdict-requires
verdict-requires c = let args = c.args in
    verdict_ready args.s args.part.now args.support.now args.rings.now (sym c.both_refusal-a.ensures ∙ c.if-a-ne0.false)

pub returns : goal.returns
returns c = let args = c.args in
    judged_by args.s args.part.now args.support.now args.rings.now _ c.both_refusal-a.ensures c.if-a-ne0.false _ c.verdict.ensures
