use Rattle.limits.proofs.Settings.{reach_no, reach_yes, pitch_good}
use Rattle.limits.proofs.reach.Goals as goal

pub returns-then-k-ne0 : goal.returns-then-k-ne0
returns-then-k-ne0 c = record { answer = reach_no c.args.pitch c.args.overhang c.reach_refusal-k.result c.reach_refusal-k.ensures c.if-k-ne0.true }

pub reach_of-requires : goal.reach_of-requires
reach_of-requires c = pitch_good c.args.pitch c.args.overhang c.reach_refusal-k.result c.reach_refusal-k.ensures c.if-k-ne0.false

pub returns : goal.returns
returns c = record {
  answer = reach_yes c.args.pitch c.args.overhang c.reach_refusal-k.result c.reach_of.result c.reach_refusal-k.ensures
      c.if-k-ne0.false c.reach_of.ensures;
}
