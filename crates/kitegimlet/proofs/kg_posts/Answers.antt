use Rattle.kitegimlet.specs.Outcomes.{posts_packed}
use borrow.Author.Rules.{rules}
use Rattle.kitegimlet.proofs.kg_posts.Goals as goal

pub returns : goal.returns
returns c = posts_packed _ _ _ _ _ _ _ _ c.settings-s.ensures c.posts.ensures c.pack_planned.ensures
