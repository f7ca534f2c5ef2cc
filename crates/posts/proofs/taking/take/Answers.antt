use mathlib.Core.Path.{◌∙◌}
use Prim.Native.Nat.{◌<◌}
use Rattle.posts.specs.GrowLaws.{wiped}
use Rattle.posts.specs.TakeLaws.{own_bit, taking_start, ahead, spares, still_ready}
use native.Mathlib.Omega.{arith}
use Rattle.posts.proofs.taking.take.Goals as goal

pub overflow_add-i : goal.overflow_add-i
overflow_add-i c = omega (arith, c.requires.sizes.3, c.requires.sizes.0.h_max)

pub overflow_mul-i : goal.overflow_mul-i
overflow_mul-i c = omega (arith, c.requires.sizes.3, c.requires.sizes.0.h_max)

pub overflow_add-i-2 : goal.overflow_add-i-2
overflow_add-i-2 c = omega (arith, c.requires.sizes.3, c.requires.sizes.0.h_max, c.requires.sizes.4, c.requires.sizes.0.w_max)

pub clear_bit-requires : goal.clear_bit-requires
clear_bit-requires c = (omega (arith, c.requires.sizes.3, c.requires.sizes.0.h_max, c.requires.sizes.4, c.requires.sizes.0.w_max, c.requires.sizes.1.long), omega arith)

pub set_bit-requires : goal.set_bit-requires
set_bit-requires c = (omega (arith, c.requires.sizes.3, c.requires.sizes.0.h_max, c.requires.sizes.4, c.requires.sizes.0.w_max, c.requires.sizes.2.long), omega arith)

pub grow-rows-requires : goal.grow-rows-requires
grow-rows-requires c = (
  c.clear_bit.auto.l ∙ c.requires.sizes.1.long,
  c.set_bit.auto.l ∙ c.requires.sizes.2.long,
  omega (arith, c.requires.sizes.3, c.requires.sizes.0.h_max),
  omega (arith, c.requires.sizes.4, c.requires.sizes.0.w_max),
  c.requires.sizes.5,
  c.requires.sizes.6,
)

pub overflow_add-y : goal.overflow_add-y
overflow_add-y c = omega (arith, c.requires.sizes.3, c.requires.sizes.0.h_max)

pub overflow_mul-y : goal.overflow_mul-y
overflow_mul-y c = omega (arith, c.requires.sizes.3, c.requires.sizes.0.h_max)

pub word_of-requires : goal.word_of-requires
word_of-requires c = omega (arith, c.requires.sizes.4, c.requires.sizes.0.w_max)

pub overflow_add-y-2 : goal.overflow_add-y-2
overflow_add-y-2 c = omega (arith, c.requires.sizes.3, c.requires.sizes.0.h_max, c.word_of.ensures.0)

pub wipe-requires : goal.wipe-requires
wipe-requires c = (
  c.grow-rows.auto.got ∙ c.set_bit.auto.l ∙ c.requires.sizes.2.long,
  c.grow-rows.ensures.1,
  omega (arith, c.grow-rows.ensures.1, c.requires.sizes.3, c.requires.sizes.0.h_max, c.word_of.ensures.0),
)

pub shape_of-rest : goal.shape_of-rest
shape_of-rest c = c.grow-rows.auto.rest ∙ c.clear_bit.auto.l

pub shape_of-got : goal.shape_of-got
shape_of-got c = c.wipe.auto.got ∙ c.grow-rows.auto.got ∙ c.set_bit.auto.l

pub returns : goal.returns
returns c = let was = c.args.rest.now in
    let y = c.args.y in
    let x = c.args.c in
    let lx : x < 256 = omega (arith, c.requires.sizes.4, c.requires.sizes.0.w_max) in
    let lq = c.requires.sizes.5 in
    let A = ahead c.args.w c.args.h c.requires.sizes.0 was c.requires.sizes.1.framed y x c.requires.sizes.3 c.requires.sizes.4 c.requires.first.1 in
    let S =
    taking_start _ y x was _ _ c.args.got.now lx (c.clear_bit.auto.l ∙ c.requires.sizes.1.long) (c.set_bit.auto.l ∙ c.requires.sizes.2.long) c.requires.sizes.2 c.requires.first.0
    (rw (own_bit y x) at c.clear_bit.ensures.cleared) (rw (own_bit y x) at c.set_bit.ensures) in
    let (T, C) = c.grow-rows.ensures.0 was A S in
    let W = c.word_of.ensures in record {
      ready = (
        still_ready c.args.w c.args.h c.requires.sizes.0 was c.requires.sizes.1.framed y x c.requires.sizes.3 c.requires.sizes.4 _ _ _ _ T C,
        wiped _ y x c.word_of.result lq (W.1 x lx (omega arith) (omega arith)).0 W.1 W.0 was A _ _ _ T _ (c.wipe.auto.got ∙ c.grow-rows.auto.got ∙ c.set_bit.auto.l ∙ c.requires.sizes.2.long) c.wipe.ensures,
      );
      spared = spares c.args.w c.args.h c.requires.sizes.0 was c.requires.sizes.1.framed y x c.requires.sizes.3 c.requires.sizes.4 _ _ _ _ T C;
    }
