-- Rules 4: judging a stack.
use Rattle.std.specs.Prelude.{not, ◌&&◌, ◌||◌, cond, List, ℕ, suc, ◌+◌, ◌-◌, ◌*◌, ◌/◌, ◌%◌, ltb, eqb}
use Rattle.rules.specs.Tools.{Found, nothing, found, first}
use Rattle.rules.specs.Images.{Stack, Rings, pixel, ring_at}
use Rattle.rules.specs.Planning.{seeds, reached, touch, fits}
use Rattle.rules.specs.declared.Place.{Place}
use Rattle.rules.specs.declared.Refusal.TheVariants.{AtPixel}
use Rattle.rules.specs.declared.Judged.{Judged}
use Rattle.rules.specs.declared.Judged.TheVariants.{Accepted, Refused}

-- Rule 4.1: support inside the part
unfoldable pub overlap : Stack → Stack → Stack
overlap part sup i p = sup i p && part i p

-- Rule 4.2: a ring on a pixel that may not carry it: no near shadow pixel, or none beside it with the ring before
unfoldable pub bad_ring : ℕ → ℕ → (ℕ → ℕ) → Stack → Rings → Stack
bad_ring w h q part ring i p =
    ltb 0 (ring i p)
    && not (fits (h * w) (touch w) (reached w h (q i) (part i) (part (suc i))) (seeds (part i) (part (suc i))) (ring i) (ring i p - 1) p)

-- Rule 4.3: part or support above neither, without a ring
unfoldable pub unheld : Stack → Stack → Rings → Stack
unheld part sup ring i p = (part (suc i) p || sup (suc i) p) && not (part i p || sup i p) && eqb (ring i p) 0

-- Rule 4.5, "11 only for a part pixel and 19 for a support pixel": the number of an unheld pixel p of layer i + 1
unfoldable pub unheld_number : Stack → ℕ → ℕ → ℕ
unheld_number part i p = cond (part (suc i) p) 11 19

-- Rule 4.4: the first pixel of n layers by layer, row and column, all counted through
unfoldable pub first_in : ℕ → ℕ → ℕ → Stack → Found
first_in w h n f = first 0 (n * (h * w)) λ x. f (x / (h * w)) (x % (h * w))

-- Rule 4.4: its place; the layer told is `up` layers higher, 1 for a bad ring and an unheld pixel
unfoldable pub place_of : ℕ → ℕ → ℕ → ℕ → Place
place_of w h up x = record { layer = x / (h * w) + up; row = x / w % h; column = x % w }

-- the refusal at the place found, with the number that its pixel has, or else what comes after
unfoldable pub tell : ℕ → ℕ → (ℕ → ℕ → ℕ) → ℕ → Found → Judged → Judged
tell w h number up nothing after = after
tell w h number up (found x) after = Refused (AtPixel (number (x / (h * w)) (x % (h * w))) (place_of w h up x))

-- Rule 4.4: an overlap anywhere first, then any bad ring, then any unheld pixel; "the first place still decides" between 11 and 19
unfoldable pub verdict : ℕ → ℕ → ℕ → (ℕ → ℕ) → Stack → Stack → Rings → Judged
verdict w h n q part sup ring =
    tell w h (λ i p. 9) 0 (first_in w h n (overlap part sup)) (
    tell w h (λ i p. 10) 1 (first_in w h (n - 1) (bad_ring w h q part ring)) (
    tell w h (unheld_number part) 1 (first_in w h (n - 1) (unheld part sup ring)) Accepted))

-- the same of bytes and ring numbers
unfoldable pub verdict_of : ℕ → ℕ → ℕ → (ℕ → ℕ) → List ℕ → List ℕ → List ℕ → Judged
verdict_of w h n q part sup l = verdict w h n q (pixel w h part) (pixel w h sup) (ring_at w h l)
