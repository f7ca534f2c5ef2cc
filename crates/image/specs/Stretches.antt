-- A plane of a stack that was lent, written and given back.
use Rattle.std.specs.Prelude.{◌≡◌, List, ◌++◌, ℕ, ◌+◌, ◌-◌, ◌*◌, ◌≤◌, length, take, drop}
use Rattle.std.proofs.Common.{sym, ap, ◌∙◌, arith, length-take, length-drop, length-take-le, take_at, drop_at}
use borrow.Rule.Slice.PartMut.{put_mid, post_of, mid_of, same_len_mid, take_put, drop_put}
use Rattle.image.specs.Rows.{plane, OnlyPlane}

-- what stands in the middle afterwards
pub mid_put : (a k : ℕ) (xs ys : List ℕ) → a ≤ length xs → length ys ≡ k → take k (drop a (put_mid a k xs ys)) ≡ ys
mid_put a k xs ys h l =
    ap (take k) (drop_at (take a xs) (ys ++ post_of a k xs) a (length-take-le a xs h)) ∙ take_at ys (post_of a k xs) k l

-- layer i, lent from its first byte to its last
module _ (size i : ℕ) (xs ys : List ℕ) (room : (i + 1) * size ≤ length xs)
    (long : length ys ≡ length (mid_of (i * size) (i * size + size - i * size) xs)) where
  size_is : i * size + size - i * size ≡ size
  size_is = omega arith

  size_of : length ys ≡ size
  size_of = long ∙ simp (length-take, length-drop) (omega arith)

  pub put_plane : plane size i (put_mid (i * size) (i * size + size - i * size) xs ys) ≡ ys
  put_plane = ap (λ (k : ℕ). plane size i (put_mid (i * size) k xs ys)) size_is ∙ mid_put (i * size) size xs ys (omega arith) size_of

  pub put_only : OnlyPlane size i (put_mid (i * size) (i * size + size - i * size) xs ys) xs
  put_only =
      let e : (i + 1) * size ≡ i * size + size = omega arith in
      record {
        long = same_len_mid (i * size) (i * size + size - i * size) xs ys long;
        below = take_put (i * size) (i * size + size - i * size) xs ys (omega arith);
        above = rw e (drop_put (i * size) (i * size + size) xs ys (omega arith) (omega arith) (size_of ∙ sym size_is));
      }
