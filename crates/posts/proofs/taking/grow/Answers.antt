use mathlib.Core.Path.{◌≡◌, sym, ◌∙◌}
use Prim.Native.Nat.{◌+◌, ◌*◌}
use Rattle.laws.specs.Tests.{clash}
use Rattle.posts.specs.GrowLaws.{closed_start, closed_end, taking_more, closed_next, closed_back, beyond, stepped, ended, half_at, looked_same, count_same, count_less}
use native.Mathlib.Omega.{arith}
use Rattle.posts.proofs.taking.grow.Goals as goal

pub word_of-b-requires : goal.word_of-b-requires
word_of-b-requires c = c.requires.3

pub overflow_mul-x : goal.overflow_mul-x
overflow_mul-x c = omega (arith, c.word_of-b.ensures.0)

pub overflow_sub-x : goal.overflow_sub-x
overflow_sub-x c = (c.word_of-b.ensures.1 c.args.c c.requires.3 (omega arith) (omega arith)).0

pub overflow_add-i : goal.overflow_add-i
overflow_add-i c = omega (arith, c.requires.2)

pub overflow_mul-i : goal.overflow_mul-i
overflow_mul-i c = omega (arith, c.requires.2)

pub overflow_add-i-2 : goal.overflow_add-i-2
overflow_add-i-2 c = omega (arith, c.requires.2, c.word_of-b.ensures.0)

pub bounds-half-0 : goal.bounds-half-0
bounds-half-0 c = omega (arith, c.requires.5.long)

pub loop-d-init : goal.loop-d-init
loop-d-init c = (
  c.requires.0,
  c.requires.1,
  omega arith,
  omega arith,
  (omega arith, omega arith, λ l. absurd (omega arith)),
  λ q lq H was A S. (S, closed_start q c.args.y c.args.c c.word_of-b.result lq (c.word_of-b.ensures.1 c.args.c c.requires.3 (omega arith) (omega arith)).0 c.word_of-b.ensures.1 c.word_of-b.ensures.0 was A 1 _ _ S),
)

pub overflow_mul-d : goal.overflow_mul-d
overflow_mul-d c = omega (arith, (half_at _ c.loop-d.d _ c.requires.4 c.requires.5 (omega (arith, c.loop-d-test.true, c.lesser.ensures))).2)

pub overflow_add-i-in-loop-d : goal.overflow_add-i-in-loop-d
overflow_add-i-in-loop-d c = omega (arith, c.requires.2, c.word_of-b.ensures.0, (half_at _ c.loop-d.d _ c.requires.4 c.requires.5 (omega (arith, c.loop-d-test.true, c.lesser.ensures))).2)

pub offset_bounds-half-d : goal.offset_bounds-half-d
offset_bounds-half-d c = omega (arith, (half_at _ c.loop-d.d _ c.requires.4 c.requires.5 (omega (arith, c.loop-d-test.true, c.lesser.ensures))).2)

pub bounds-half-d : goal.bounds-half-d
bounds-half-d c = omega (arith, c.requires.5.long, (half_at _ c.loop-d.d _ c.requires.4 c.requires.5 (omega (arith, c.loop-d-test.true, c.lesser.ensures))).2)

pub about-requires : goal.about-requires
about-requires c = (
  omega (arith, (c.word_of-b.ensures.1 c.args.c c.requires.3 (omega arith) (omega arith)).1),
  (half_at _ c.loop-d.d _ c.requires.4 c.requires.5 (omega (arith, c.loop-d-test.true, c.lesser.ensures))).1,
)

pub look-requires : goal.look-requires
look-requires c = (
  c.loop-d.invariant.0,
  c.loop-d.invariant.1,
  omega arith,
  omega (arith, c.requires.2, c.word_of-b.ensures.0, (half_at _ c.loop-d.d _ c.requires.4 c.requires.5 (omega (arith, c.loop-d-test.true, c.lesser.ensures))).2),
)

pub overflow_add-d : goal.overflow_add-d
overflow_add-d c = omega (arith, (half_at _ c.loop-d.d _ c.requires.4 c.requires.5 (omega (arith, c.loop-d-test.true, c.lesser.ensures))).2)

pub overflow_add-sure : goal.overflow_add-sure
overflow_add-sure c = omega (arith, (half_at _ c.loop-d.d _ c.requires.4 c.requires.5 (omega (arith, c.loop-d-test.true, c.lesser.ensures))).2)

pub loop-d-smaller-then-look : goal.loop-d-smaller-then-look
loop-d-smaller-then-look c = let k = c.args.y + 33 + c.loop-d.d in
    let e : (c.args.y + 33) * 5 + c.word_of-b.result + 5 * c.loop-d.d ≡ (c.args.y + 33 + c.loop-d.d) * 5 + c.word_of-b.result = omega arith in
    let L = looked_same k c.word_of-b.result _ _ _ _ _ _ _ c.about.ensures (c.look.ensures k c.word_of-b.result e c.word_of-b.ensures.0) in
    omega (arith, count_less k _ _ _ _ _ _ _ L c.if-look.true (omega (arith, c.requires.2, (half_at _ c.loop-d.d _ c.requires.4 c.requires.5 (omega (arith, c.loop-d-test.true, c.lesser.ensures))).2)) c.word_of-b.ensures.0, c.loop-d.invariant.4, (half_at _ c.loop-d.d _ c.requires.4 c.requires.5 (omega (arith, c.loop-d-test.true, c.lesser.ensures))).2)

pub loop-d-preserved-then-look : goal.loop-d-preserved-then-look
loop-d-preserved-then-look c = let k = c.args.y + 33 + c.loop-d.d in
    let e : (c.args.y + 33) * 5 + c.word_of-b.result + 5 * c.loop-d.d ≡ (c.args.y + 33 + c.loop-d.d) * 5 + c.word_of-b.result = omega arith in
    let L = looked_same k c.word_of-b.result _ _ _ _ _ _ _ c.about.ensures (c.look.ensures k c.word_of-b.result e c.word_of-b.ensures.0) in
    let lb = (c.word_of-b.ensures.1 c.args.c c.requires.3 (omega arith) (omega arith)).0 in (
      c.look.auto.rest ∙ c.loop-d.invariant.0,
      c.look.auto.got ∙ c.loop-d.invariant.1,
      omega (arith, c.greater-rows.ensures, c.loop-d.invariant.2),
      omega (arith, c.greater-rows.ensures, c.loop-d.invariant.3, c.loop-d-test.true, c.lesser.ensures),
      (
        omega (arith, stepped c.loop-d.d _ c.back-d.ensures),
        omega (arith, c.loop-d-test.true, c.lesser.ensures),
        λ l. (omega (arith, stepped c.loop-d.d _ c.back-d.ensures, c.greater-rows.ensures), omega (arith, stepped c.loop-d.d _ c.back-d.ensures, c.loop-d-test.true, c.lesser.ensures)),
      ),
      λ q lq H was A S.
          let (T, C) = c.loop-d.invariant.5 q lq H was A S in
          let D = half_at q c.loop-d.d _ lq H (omega (arith, c.loop-d-test.true, c.lesser.ensures)) in (
            taking_more q c.args.y c.args.c c.word_of-b.result lq lb c.word_of-b.ensures.1 c.word_of-b.ensures.0 was A c.loop-d.rows _ _ T c.loop-d.d _ D.0 _ _ _ L c.greater-rows.result
                (c.look.auto.rest ∙ c.loop-d.invariant.0) (c.look.auto.got ∙ c.loop-d.invariant.1) (omega (arith, c.greater-rows.ensures)) (λ t. omega (arith, c.greater-rows.ensures)),
            closed_back q c.args.y c.args.c c.word_of-b.result lq lb c.word_of-b.ensures.1 c.word_of-b.ensures.0 was A c.loop-d.rows _ _ T c.loop-d.d _ D.0 _ _ _ L _ _ c.loop-d.invariant.4.0 c.back-d.ensures C,
          ),
    )

pub overflow_add-d-else-look : goal.overflow_add-d-else-look
overflow_add-d-else-look c = omega (arith, (half_at _ c.loop-d.d _ c.requires.4 c.requires.5 (omega (arith, c.loop-d-test.true, c.lesser.ensures))).2)

pub loop-d-smaller : goal.loop-d-smaller
loop-d-smaller c = let k = c.args.y + 33 + c.loop-d.d in
    let e : (c.args.y + 33) * 5 + c.word_of-b.result + 5 * c.loop-d.d ≡ (c.args.y + 33 + c.loop-d.d) * 5 + c.word_of-b.result = omega arith in
    let L = looked_same k c.word_of-b.result _ _ _ _ _ _ _ c.about.ensures (c.look.ensures k c.word_of-b.result e c.word_of-b.ensures.0) in
    omega (arith, count_same k _ _ _ _ _ _ _ L, c.greater-d.ensures, (half_at _ c.loop-d.d _ c.requires.4 c.requires.5 (omega (arith, c.loop-d-test.true, c.lesser.ensures))).2)

pub loop-d-preserved : goal.loop-d-preserved
loop-d-preserved c = let k = c.args.y + 33 + c.loop-d.d in
    let e : (c.args.y + 33) * 5 + c.word_of-b.result + 5 * c.loop-d.d ≡ (c.args.y + 33 + c.loop-d.d) * 5 + c.word_of-b.result = omega arith in
    let L = looked_same k c.word_of-b.result _ _ _ _ _ _ _ c.about.ensures (c.look.ensures k c.word_of-b.result e c.word_of-b.ensures.0) in
    let lb = (c.word_of-b.ensures.1 c.args.c c.requires.3 (omega arith) (omega arith)).0 in (
      c.look.auto.rest ∙ c.loop-d.invariant.0,
      c.look.auto.got ∙ c.loop-d.invariant.1,
      c.loop-d.invariant.2,
      c.loop-d.invariant.3,
      (omega arith, omega (arith, c.greater-d.ensures, c.loop-d.invariant.4, c.loop-d-test.true, c.lesser.ensures), λ l. absurd (omega arith)),
      λ q lq H was A S.
          let (T, C) = c.loop-d.invariant.5 q lq H was A S in
          let D = half_at q c.loop-d.d _ lq H (omega (arith, c.loop-d-test.true, c.lesser.ensures)) in (
            taking_more q c.args.y c.args.c c.word_of-b.result lq lb c.word_of-b.ensures.1 c.word_of-b.ensures.0 was A c.loop-d.rows _ _ T c.loop-d.d _ D.0 _ _ _ L c.loop-d.rows
                (c.look.auto.rest ∙ c.loop-d.invariant.0) (c.look.auto.got ∙ c.loop-d.invariant.1) (omega arith) (λ t. clash t c.if-look.false),
            closed_next q c.args.y c.args.c c.word_of-b.result lq lb c.word_of-b.ensures.1 c.word_of-b.ensures.0 was A c.loop-d.rows _ _ T c.loop-d.d _ D.0 _ _ _ L c.if-look.false _ _ c.loop-d.invariant.4.0 c.greater-d.ensures C,
          ),
    )

pub shape_of-rest : goal.shape_of-rest
shape_of-rest c = c.loop-d.invariant.0 ∙ sym c.requires.0

pub shape_of-got : goal.shape_of-got
shape_of-got c = c.loop-d.invariant.1 ∙ sym c.requires.1

pub returns : goal.returns
returns c = (
  (λ was A S.
      let (T, C) = c.loop-d.invariant.5 _ c.requires.4 c.requires.5 was A S in
      let e : c.loop-d.sure ≡ c.loop-d.d = ended _ _ _ _ _ c.loop-d.invariant.4.0 c.loop-d.invariant.4.2 c.lesser.ensures c.loop-d-test.false in (
        T,
        closed_end _ c.args.y c.args.c c.word_of-b.result c.requires.4 (c.word_of-b.ensures.1 c.args.c c.requires.3 (omega arith) (omega arith)).0 c.word_of-b.ensures.1 c.word_of-b.ensures.0 was A c.loop-d.rows _ _ T
            c.loop-d.d _ (c.requires.5.half 0 (omega arith)) (beyond _ _ _ _ c.lesser.ensures c.loop-d-test.false) (rw e at C),
      )),
  omega (arith, c.loop-d.invariant.3, c.requires.5.last),
)
