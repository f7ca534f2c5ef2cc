-- The text ends within its buffer, since the report of any input is short.
use Rattle.std.proofs.Common.{ℕ, sym, length-take-le}
use Rattle.std.proofs.lemmas.List.{length-replicate}
use Rattle.lines.specs.Printed.{report_fits}
use Rattle.report.proofs.main.Goals as goal

pub slice_bounds-out-end : goal.slice_bounds-out-end
slice_bounds-out-end c = report_fits _ _ _ _ _ c.report-end.ensures (length-replicate {A = ℕ} 16384 0)

pub slice_bounds-write_all-end : goal.slice_bounds-write_all-end
slice_bounds-write_all-end c = sym (length-take-le _ _ (report_fits _ _ _ _ _ c.report-end.ensures (length-replicate {A = ℕ} 16384 0)))
