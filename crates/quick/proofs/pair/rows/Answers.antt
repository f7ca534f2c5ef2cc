use Rattle.std.proofs.Common.{◌≡◌, true, ℕ, sym, ◌∙◌, arith, below_more}
use Rattle.laws.specs.Tests.{clash}
use Rattle.quick.specs.Sureness.{RowGood, RowHeld}
use Rattle.quick.specs.RowsOfPair.{bare_sound, bare_held, rows_more}
use Rattle.quick.proofs.pair.rows.Goals as goal
use Rattle.quick.proofs.pair.rows.Goals.{then-held, else-held}

pub loop-r-preserved : goal.loop-r-preserved
loop-r-preserved c = let a = c.args in let l = c.loop-r in let r = c.in-Some.r in let s = c.in-Some-row in let n = c.in-Some-near_all in
    let G : ℕ → Type 0 = RowGood a.w a.h a.q.0 a.t a.low.now a.up.now a.rings.now in
    let H : ℕ → Type 0 = RowHeld a.w a.low.now a.up.now a.below.now a.rings.now in
    let both : c.if-held.held ≡ true → (l.held ≡ true) × (s.s.held ≡ true)
    = elim c.if-held.branch [ then-held w ↦ λ e. (w.if-held.true, sym w.held-is ∙ e) | else-held w ↦ λ e. clash e (w.held-is ∙ w.if-held.false) ] in (
      omega (arith, c.in-Some.ensures),
      n.ensures.ready,
      below_more G r (rows_more G l.from r l.invariant.2 (λ y lo hi. bare_sound a.w a.h a.t y _ a.low.now a.up.now a.rings.now (s.ensures.bare y lo hi)))
          (λ k lk. let u = s.ensures.row_sound k lk in (u.0, λ v. n.ensures.nearby k lk (u.1 v))),
      λ e.
          let (was, now) = both e in
          below_more H r (rows_more H l.from r (l.invariant.3 was) (λ y lo hi. bare_held a.w y a.low.now a.up.now a.below.now a.rings.now (c.in-Some.ensures.2 y lo hi)))
          (s.ensures.row_held now),
    )
