use mathlib.Core.Path.{refl, ◌∙◌}
use Rattle.posts.specs.StackLaws.{no_radius}
use Rattle.posts.proofs.stack.planned.Goals as goal

pub stack-requires : goal.stack-requires
stack-requires c = let L = c.requires.lent.0 in record {
  sized = (c.requires.sized.0, c.requires.sized.1, c.requires.sized.3);
  buffers = record { part_long = L.part_long; clean = L.clean; support_long = L.posts_long; rings_long = c.requires.lent.1; bare = λ e. c.requires.lent.2 };
}

pub shape_of-posts-then-r-eq0 : goal.shape_of-posts-then-r-eq0
shape_of-posts-then-r-eq0 c = c.stack.auto.support

pub shape_of-ring-then-r-eq0 : goal.shape_of-ring-then-r-eq0
shape_of-ring-then-r-eq0 c = c.stack.auto.rings

pub returns-then-r-eq0 : goal.returns-then-r-eq0
returns-then-r-eq0 c = let A = c.args in
    no_radius A.w A.h A.n A.q.0 A.r.0 A.part.now _ c.requires.sized.0.sizes.h_min c.if-r-eq0.true c.stack.ensures.support_planned

pub thinned-requires : goal.thinned-requires
thinned-requires c = let L = c.requires.lent.0 in record {
  sized = (c.requires.sized.0, c.requires.sized.2, c.requires.sized.3);
  lent = (record { part_long = L.part_long; clean = L.clean; posts_long = c.stack.auto.support ∙ L.posts_long }, c.stack.auto.rings ∙ c.requires.lent.1, c.stack.ensures.rings_planned.1 refl);
  planned = c.stack.ensures.support_planned;
}

pub shape_of-posts : goal.shape_of-posts
shape_of-posts c = c.thinned.auto.posts ∙ c.stack.auto.support

pub shape_of-ring : goal.shape_of-ring
shape_of-ring c = c.thinned.auto.ring ∙ c.stack.auto.rings

pub returns : goal.returns
returns c = c.thinned.ensures
