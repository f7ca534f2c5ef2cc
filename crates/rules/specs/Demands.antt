-- Rules 8, as statements: given exactly when; the first place; joined, excused and sound.
use Rattle.std.specs.Prelude.{◌≡◌, ◌⊎◌, ◌↔◌, Bool, true, false, ◌||◌, List, [], ◌∷◌, ℕ, suc, ◌+◌, ◌*◌, ◌<◌, length, get_or}
use Rattle.rules.specs.Tools.{Case, ◌when◌}
use Rattle.rules.specs.Images.{Plane, Stack, padded}
use Rattle.rules.specs.Planning.{touch, seeds, reached}
use Rattle.rules.specs.declared.Settings.{Settings}
use Rattle.rules.specs.declared.Place.{Place}

-- Rule 8.1: the number k is that of a case whose condition holds, and no earlier one of the table does
pub data Given (k : ℕ) : List Case → Type 0 where
  here : {b : Bool} {cs : List Case} → b ≡ true → Given k ((k when b) ∷ cs)
  later : {j : ℕ} {b : Bool} {cs : List Case} → b ≡ false → Given k cs → Given k ((j when b) ∷ cs)

-- the number k is that of some case of the table whose condition holds, be it the first or not
pub data Applies (k : ℕ) : List Case → Type 0 where
  this : {b : Bool} {cs : List Case} → b ≡ true → Applies k ((k when b) ∷ cs)
  further : {c : Case} {cs : List Case} → Applies k cs → Applies k (c ∷ cs)

-- no condition of the table holds
pub data NoneGiven : List Case → Type 0 where
  end : NoneGiven []
  next : {j : ℕ} {b : Bool} {cs : List Case} → b ≡ false → NoneGiven cs → NoneGiven ((j when b) ∷ cs)

-- Rule 8.2: the place j, s, d comes before the place i, r, c
pub data Earlier (j s d i r c : ℕ) : Type 0 where
  sooner_layer : j < i → Earlier j s d i r c
  sooner_row : j ≡ i → s < r → Earlier j s d i r c
  sooner_column : j ≡ i → s ≡ r → d < c → Earlier j s d i r c

-- row r, column c of layer i is the first pixel of n layers that passes; the layer told is i + up
pub record FirstAt (w h n up : ℕ) (f : Stack) (at : Place) : Type 0 where
  pub i : ℕ
  pub r : ℕ
  pub c : ℕ
  pub inside : (i < n) × (r < h) × (c < w)
  pub told : at ≡ record { layer = i + up; row = r; column = c }
  pub passes : f i (r * w + c) ≡ true
  pub none_earlier : (j s d : ℕ) → j < n → s < h → d < w → Earlier j s d i r c → f j (s * w + d) ≡ false

-- Rule 8.2, "the first bad padding": row r of layer i has padding set, and no row of n layers that comes before it
pub record FirstRow (w h n : ℕ) (l : List ℕ) (i r : ℕ) : Type 0 where
  pub inside : (i < n) × (r < h)
  pub bad : padded w l (i * h + r) ≡ true
  pub none_earlier : (j s : ℕ) → j < n → s < h → Earlier j s 0 i r 0 → padded w l (j * h + s) ≡ false

-- Rule 8.6, "a refusal carries its number, its place where the table says so, and nothing else": what a call says where its table refuses is the
-- number alone, but for 7 and 8, which always come with layer and row of the first bad padding, of the part and of the support
pub record Tells (said : List ℕ) (cs : List Case) (s : Settings) (part sup : List ℕ) : Type 0 where
  pub alone : (k : ℕ) → Given (suc k) cs → (suc k ≡ 7 → ⊥) → (suc k ≡ 8 → ⊥) → said ≡ suc k ∷ []
  pub part_row : (i r : ℕ) → (said ≡ 7 ∷ i ∷ r ∷ []) ↔ (Given 7 cs × FirstRow s.w s.h s.n part i r)
  pub support_row : (i r : ℕ) → (said ≡ 8 ∷ i ∷ r ∷ []) ↔ (Given 8 cs × FirstRow s.w s.h s.n sup i r)
  pub with_row : Given 7 cs ⊎ Given 8 cs → length said ≡ 3

-- Rule 8.3: the pixel p is joined to a seed by k steps over free pixels, itself the first
pub data Joined (m : ℕ) (touch : ℕ → ℕ → Bool) (free seed : Plane) : ℕ → ℕ → Type 0 where
  start : {p o : ℕ} → free p ≡ true → o < m → touch p o ≡ true → seed o ≡ true → Joined m touch free seed 1 p
  onward : {k p o : ℕ} → free p ≡ true → o < m → touch p o ≡ true → Joined m touch free seed k o → Joined m touch free seed (suc k) p

module _ (w h : ℕ) (q : ℕ → ℕ) (part : Stack) where
  -- free are the near shadow pixels of pair i (rule 3.4)
  abbrev pub free_in : ℕ → Plane
  free_in i = reached w h (q i) (part i) (part (suc i))

  -- and seeds those that are part in both layers (rule 3.3)
  abbrev pub seed_in : ℕ → Plane
  seed_in i = seeds (part i) (part (suc i))

  abbrev pub JoinedBy : ℕ → ℕ → ℕ → Type 0
  JoinedBy i k p = Joined (h * w) (touch w) (free_in i) (seed_in i) k p

  -- Rule 8.4: the pixel p of layer i + 1 is excused from support in layer i
  abbrev pub Excused : ℕ → ℕ → Type 0
  Excused i p = (k : ℕ) × JoinedBy i k p

-- Rule 8.5: no support inside the part, and nothing above layer 0 that hangs and is not excused
pub record Sound (w h n : ℕ) (q : ℕ → ℕ) (part sup : Stack) : Type 0 where
  pub clear : (i p : ℕ) → i < n → p < h * w → sup i p ≡ true → part i p ≡ false
  pub holds : (i p : ℕ) → suc i < n → p < h * w → (part (suc i) p || sup (suc i) p) ≡ true → ((part i p || sup i p) ≡ true) ⊎ Excused w h q part i p

-- every element is a byte; every element is a number of 16 bits
abbrev pub Bytes : List ℕ → Type 0
Bytes l = (i : ℕ) → get_or l i 0 < 256

abbrev pub Words : List ℕ → Type 0
Words l = (i : ℕ) → get_or l i 0 < 65536
