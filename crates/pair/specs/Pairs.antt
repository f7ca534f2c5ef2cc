-- One pair of layers: its rings, and the support of its lower layer.
use Rattle.std.specs.Prelude.{not, ◌&&◌, ◌||◌, List, ℕ, ◌*◌, ltb, get_or}
use Rattle.rules.specs.Images.{Plane}
use Rattle.rules.specs.Planning.{shadow, seeds, reached, touch, grown}

-- the rings of the layers `low` and `up`
unfoldable pub pair_rings : ℕ → ℕ → ℕ → Plane → Plane → List ℕ
pair_rings w h q low up = grown (h * w) (touch w) (reached w h q low up) (seeds low up) (h * w)

-- "shadow pixels not excused"
unfoldable pub unexcused : ℕ → ℕ → ℕ → Plane → Plane → Plane
unexcused w h q low up p = shadow low up p && not (ltb 0 (get_or (pair_rings w h q low up) p 0))

-- "S(i) = shadow pixels not excused, with S(i+1), without P(i)": the support of `low`, where that of `up` is `above`
unfoldable pub pair_support : ℕ → ℕ → ℕ → Plane → Plane → Plane → Plane
pair_support w h q low up above p = (unexcused w h q low up p || above p) && not (low p)
