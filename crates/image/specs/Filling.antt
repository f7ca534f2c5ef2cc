-- Laws of loops over a range of bytes: what each store adds, and what the whole loop leaves.
use Rattle.std.specs.Prelude.{◌≡◌, refl, Bool, List, ℕ, ◌+◌, ◌*◌, ◌/◌, ◌%◌, ◌<◌, ◌≤◌, length, get_or, set}
use Rattle.std.proofs.Common.{ap, ◌∙◌, arith, length-set, get_or-set_same, get_or-set_other}
use Rattle.std.proofs.Math.Decide.{ℕ_discrete}
use Rattle.rules.specs.Images.{bit_at}
use Rattle.image.specs.Loops.{Within}
use Rattle.image.specs.Scratch.{bit_of}

-- the bytes from a up to i are done
pub record Filling (a i : ℕ) (g : ℕ → Bool) (out was : List ℕ) : Type 0 where
  pub long : length out ≡ length was
  pub done : (k : ℕ) → a ≤ k → k < i → (m : ℕ) → m < 8 → bit_at (get_or out k 0) m ≡ g (k * 8 + m)
  pub low : (k : ℕ) → k < a → get_or out k 0 ≡ get_or was k 0
  pub left : (k : ℕ) → i ≤ k → get_or out k 0 ≡ get_or was k 0

pub filling_none : (a : ℕ) (g : ℕ → Bool) (was : List ℕ) → Filling a a g was was
filling_none a g was = record { long = refl; done = λ k x y. absurd (omega arith); low = λ k x. refl; left = λ k x. refl }

pub filling_more : (a i v : ℕ) (g : ℕ → Bool) (out was : List ℕ) → a ≤ i → i < length out → Filling a i g out was
    → ((m : ℕ) → m < 8 → bit_at v m ≡ g (i * 8 + m)) → Filling a (i + 1) g (set out i v) was
filling_more a i v g out was ai il F here = record {
  long = length-set out i v ∙ F.long;
  done = λ k x y m z. elim (ℕ_discrete k i) [
    | yes e ↦ rw (e, get_or-set_same out i v 0 il) (here m z)
    | no e ↦ rw (get_or-set_other out i k v 0 e) (F.done k x (omega arith) m z)
  ];
  low = λ k x. get_or-set_other out i k v 0 (λ e. omega arith) ∙ F.low k x;
  left = λ k x. get_or-set_other out i k v 0 (λ e. omega arith) ∙ F.left k (omega arith);
}

pub filling_all : (a b : ℕ) (g : ℕ → Bool) (out was : List ℕ) → Filling a b g out was → Within a b g out was
unfolding bit_of
filling_all a b g out was F =
    record {
      inner = λ j x y. F.done (j / 8) (omega arith) (omega arith) (j % 8) (omega arith) ∙ ap g (omega arith);
      before = λ j x. ap (λ (n : ℕ). bit_at n (j % 8)) (F.low (j / 8) (omega arith));
      behind = λ j x. ap (λ (n : ℕ). bit_at n (j % 8)) (F.left (j / 8) (omega arith));
    }

-- bits of single bytes
pub bit_here : (l : List ℕ) (i m : ℕ) → m < 8 → bit_of l (i * 8 + m) ≡ bit_at (get_or l i 0) m
unfolding bit_of
bit_here l i m h = let a : (i * 8 + m) / 8 ≡ i = omega arith in let b : (i * 8 + m) % 8 ≡ m = omega arith in rw (a, b)
