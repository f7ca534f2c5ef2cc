use Rattle.words.specs.Words.{column}
use Rattle.planes.specs.PlaneLaws.{put_words_lem}
use Rattle.planes.proofs.rows.put.Goals as goal

pub returns : goal.returns
returns c = put_words_lem _ (column c.args.x) _ _ c.put.ensures
