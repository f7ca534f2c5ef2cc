use mathlib.Core.Bool.{Bool, not, ◌&&◌, ◌||◌}
use Rattle.words.specs.Words.{column}
use Rattle.posts.specs.LookLaws.{put_back}
use Rattle.posts.proofs.taking.get.Goals as goal

pub returns : goal.returns
returns c = record {
  rest_within = put_back (λ (a b : Bool). a && not b) _ _ _ (column c.two.result) (column c.args.s) (column c.but_not.result) c.two.ensures c.but_not.ensures c.put_two.ensures;
  got_within = put_back ◌||◌ _ _ _ (column c.two-2.result) (column c.args.s) (column c.either.result) c.two-2.ensures c.either.ensures c.put_two-2.ensures;
}
