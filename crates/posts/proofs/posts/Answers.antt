use native.Mathlib.Omega.{arith}
use Rattle.posts.specs.CallLaws.{range, radius_fine, lent, posts_done, seven, refuses}
use Rattle.posts.proofs.posts.Goals as goal

pub with_part_row-requires : goal.with_part_row-requires
with_part_row-requires c = seven _ _ _ c.args.posts.now _ c.refusal-k.ensures

pub returns-then-k-ne0 : goal.returns-then-k-ne0
returns-then-k-ne0 c = refuses _ _ _ _ _ c.refusal-k.ensures c.if-k-ne0.true _ c.with_part_row.ensures

pub bound_of-q-requires : goal.bound_of-q-requires
bound_of-q-requires c = range _ _ _ c.args.posts.now _ c.refusal-k.ensures c.if-k-ne0.false

pub bound_by-r-requires : goal.bound_by-r-requires
bound_by-r-requires c = radius_fine _ _ _ c.args.posts.now _ c.refusal-k.ensures c.if-k-ne0.false

pub row_bytes-rb-requires : goal.row_bytes-rb-requires
row_bytes-rb-requires c = (range _ _ _ c.args.posts.now _ c.refusal-k.ensures c.if-k-ne0.false).w_high

pub stack-requires : goal.stack-requires
stack-requires c = let R = range _ _ _ c.args.posts.now _ c.refusal-k.ensures c.if-k-ne0.false in record {
  sized = (
    record { sizes = record { w_min = omega (arith, R.w_low); w_max = R.w_high; h_min = omega (arith, R.h_low); h_max = R.h_high }; bytes = c.row_bytes-rb.ensures.0 },
    c.bound_of-q.ensures.1,
    c.bound_by-r.ensures.1,
    omega (arith, R.n_low),
  );
  lent = lent _ _ _ _ _ c.refusal-k.ensures c.if-k-ne0.false;
}

pub returns : goal.returns
returns c = posts_done _ _ _ _ _ c.refusal-k.ensures c.if-k-ne0.false _ c.bound_of-q.ensures.0 _ c.bound_by-r.ensures.0 c.stack.new.posts c.stack.ensures
