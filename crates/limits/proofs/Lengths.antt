-- What the tests of lengths find, 4, 5 or 6, and what is known of the rows behind them.
use mathlib.Core.Path.{◌≡◌, sym, ap, ◌∙◌}
use mathlib.Core.Bool.{Bool, true, false, cond}
use Prim.Native.Nat.{ℕ, ◌*◌, ◌≤◌}
use native.Mathlib.Omega.{arith}
use borrow.Author.Tests.{eq-eqb, ne_eqb}
use Rattle.rules.specs.Tools.{refusal}
use Rattle.rules.specs.Images.{row_bytes, rows_of, stack_bytes, rings_in}
use Rattle.rules.specs.Calls.{length_cases}
use Rattle.rules.specs.declared.Settings.{Settings}

module _ (s : Settings) (stored : Bool) (part sup k : ℕ) where
  pub refused_4 : (part ≡ stack_bytes s → ⊥) → 4 ≡ refusal (length_cases s stored part sup k)
  unfolding length_cases
  refused_4 ne = sym (rw (ne_eqb part (stack_bytes s) ne))

  pub refused_5 : part ≡ stack_bytes s → (sup ≡ cond stored (stack_bytes s) 0 → ⊥) → 5 ≡ refusal (length_cases s stored part sup k)
  unfolding length_cases
  refused_5 e ne = sym (rw (eq-eqb part (stack_bytes s) e, ne_eqb sup (cond stored (stack_bytes s) 0) ne))

  pub refused_6 : part ≡ stack_bytes s → sup ≡ cond stored (stack_bytes s) 0 → (k ≡ cond stored (rings_in s) 0 → ⊥) → 6 ≡ refusal (length_cases s stored part sup k)
  unfolding length_cases
  refused_6 e f ne = sym (rw (eq-eqb part (stack_bytes s) e, eq-eqb sup (cond stored (stack_bytes s) 0) f, ne_eqb k (cond stored (rings_in s) 0) ne))

-- a length that is what it should be where support is stored
pub same_stored : (stored : Bool) {x a b : ℕ} → x ≡ cond stored a 0 → a ≡ b → x ≡ cond stored b 0
same_stored stored e h = e ∙ ap (λ (y : ℕ). cond stored y 0) h

-- rows that were counted stand in the bytes that were counted
pub rows_fit : (s : Settings) (stored : Bool) (len rows k : ℕ) → len ≡ cond stored (stack_bytes s) 0 → k ≡ cond stored rows 0 → rows ≡ rows_of s → k * row_bytes s.w ≤ len
unfolding stack_bytes
rows_fit s true len rows k e h r = rw (h ∙ r) (omega arith)
rows_fit s false len rows k e h r = rw h (omega arith)
