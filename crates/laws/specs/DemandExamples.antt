-- The words of the demands on small cases, mostly the bench pieces: what each lets pass, and what it does not.
use Rattle.std.specs.Prelude.{◌≡◌, refl, ◌⊎◌, Bool, true, false, ◌&&◌, ◌||◌, List, [], ◌∷◌, ℕ, zero, suc, ◌+◌, ◌*◌, ◌<◌, eqb, length, get_or}
use Rattle.std.proofs.Common.{sym, ap, inl, inr, arith}
use Rattle.rules.specs.Tools.{Case, ◌when◌, some}
use Rattle.rules.specs.Images.{Stack, row_bytes, bit_at, pixel, padded}
use Rattle.rules.specs.Reach.{square, apart, distance²}
use Rattle.rules.specs.Planning.{shadow, near, seeds, reached, touch}
use Rattle.rules.specs.Demands.{Given, here, later, Applies, this, further, NoneGiven, next, Earlier, sooner_layer, sooner_row, sooner_column, FirstAt, FirstRow, Tells, Joined}
use Rattle.rules.specs.Demands.{start, onward, Excused, Sound, Bytes, Words}
use Rattle.rules.specs.declared.Settings.{Settings}
use Rattle.laws.specs.Tests.{split, clash, and_in, some_in}

-- Given exactly when --------------------------------------------------------------------------------------------------------

abbrev table : List Case
table = (1 when false) ∷ (4 when true) ∷ (5 when true) ∷ []

pub first_given : Given 4 table
first_given = later refl (here refl)

pub later_not_given : Given 5 table → ⊥
later_not_given (later e (later f g)) = clash refl f

pub false_not_given : Given 1 table → ⊥
false_not_given (here e) = clash e refl
false_not_given (later e (later f g)) = clash refl f

pub later_applies : Applies 5 table
later_applies = further (further (this refl))

pub some_given : NoneGiven table → ⊥
some_given (next e (next f g)) = clash refl f

-- The first place -------------------------------------------------------------------------------------------------------------

pub row_comes_first : Earlier 0 1 7 0 2 0
row_comes_first = sooner_row refl (omega arith)

pub later_row : Earlier 0 2 0 0 1 7 → ⊥
later_row (sooner_layer l) = omega arith
later_row (sooner_row e l) = omega arith
later_row (sooner_column e f l) = omega arith

-- the pixels at row 0, column 1 and at row 1, column 0 pass
abbrev two : Stack
two i p = eqb p 1 || eqb p 2

pub second_not_first : FirstAt 2 2 1 0 two (record { layer = 0; row = 1; column = 0 }) → ⊥
second_not_first a =
    let i : a.i ≡ 0 = omega (arith, a.inside.0) in
    let r : a.r ≡ 1 = sym (ap (λ x. x.row) a.told) in
    clash refl (a.none_earlier 0 0 1 (omega arith) (omega arith) (omega arith) (sooner_row (sym i) (omega arith)))

pub empty_not_first : FirstAt 2 2 1 0 two (record { layer = 0; row = 0; column = 0 }) → ⊥
empty_not_first a =
    let r : a.r ≡ 0 = sym (ap (λ x. x.row) a.told) in
    let c : a.c ≡ 0 = sym (ap (λ x. x.column) a.told) in
    clash (rw (r, c) at a.passes) refl

-- The first row whose padding is set, of five columns ------------------------------------------------------------------------------

pub last_row_first : FirstRow 5 2 2 (0 ∷ 8 ∷ 0 ∷ 1 ∷ []) 1 1
unfolding padded row_bytes
last_row_first = record { inside = (omega arith, omega arith); bad = refl; none_earlier = λ j s lj ls e. go j s lj ls e }
  where
    go : (j s : ℕ) → j < 2 → s < 2 → Earlier j s 0 1 1 0 → padded 5 (0 ∷ 8 ∷ 0 ∷ 1 ∷ []) (j * 2 + s) ≡ false
    go zero zero lj ls e = refl
    go zero (suc zero) lj ls e = refl
    go (suc zero) zero lj ls e = refl
    go (suc zero) (suc zero) lj ls (sooner_layer l) = absurd (omega arith)
    go (suc zero) (suc zero) lj ls (sooner_row i l) = absurd (omega arith)
    go (suc zero) (suc zero) lj ls (sooner_column i k l) = absurd (omega arith)
    go zero (suc (suc s)) lj ls e = absurd (omega arith)
    go (suc zero) (suc (suc s)) lj ls e = absurd (omega arith)
    go (suc (suc j)) s lj ls e = absurd (omega arith)

pub second_row_not_first : FirstRow 5 2 1 (1 ∷ 1 ∷ []) 0 1 → ⊥
unfolding padded row_bytes
second_row_not_first a = clash refl (a.none_earlier 0 0 (omega arith) (omega arith) (sooner_row refl (omega arith)))

pub clear_row_not_first : FirstRow 5 1 1 (8 ∷ []) 0 0 → ⊥
unfolding padded row_bytes
clear_row_not_first a = clash a.bad refl

-- What a refusal tells: its row where it is 7, the first, and nothing where it has no place
abbrev narrow : Settings
narrow = record { w = 5; h = 2; n = 1; pitch = record { 0 = 100 }; overhang = record { 0 = 0 } }

pub no_row_told : Tells (7 ∷ []) ((7 when true) ∷ []) narrow (1 ∷ 1 ∷ []) [] → ⊥
no_row_told t = let e : ◌≡◌ {A = ℕ} 1 3 = t.with_row (inl (here refl)) in omega arith

pub second_row_told : Tells (7 ∷ 0 ∷ 1 ∷ []) ((7 when true) ∷ []) narrow (1 ∷ 1 ∷ []) [] → ⊥
second_row_told t = second_row_not_first ((t.part_row 0 1).0 refl).1

pub part_row_told : Tells (8 ∷ 0 ∷ 0 ∷ []) ((8 when true) ∷ []) narrow (1 ∷ 1 ∷ []) (0 ∷ 1 ∷ []) → ⊥
unfolding padded row_bytes
part_row_told t = clash ((t.support_row 0 0).0 refl).1.bad refl

pub more_told : Tells (12 ∷ 5 ∷ []) ((12 when true) ∷ []) narrow [] [] → ⊥
more_told t = let e : ◌≡◌ {A = ℕ} 2 1 = ap length (t.alone 11 (here refl) (λ z. omega arith) (λ z. omega arith)) in omega arith

-- Joined and excused ------------------------------------------------------------------------------------------------------------

-- layers of one row of eight pixels
abbrev layers : List ℕ → Stack
layers = pixel 8 1

none_of : (n : ℕ) (f : ℕ → Bool) → some n f ≡ false → (x : ℕ) → x < n → f x ≡ true → ⊥
none_of n f e x l t = clash (some_in n f x l t) e

-- piece d, reach 3: column 3 is joined to the seed beside it, column 5 is near but not joined
abbrev piece_d : Stack
piece_d = layers (0xE0 ∷ 0xF7 ∷ [])

pub d_joined : Excused 8 1 (λ i. 9) piece_d 0 3
unfolding some row_bytes bit_at pixel square apart distance² shadow near seeds reached touch
d_joined = (1, start {p = 3} {o = 2} refl (omega arith) refl refl)

pub d_not_joined : Excused 8 1 (λ i. 9) piece_d 0 5 → ⊥
unfolding some row_bytes bit_at pixel square apart distance² shadow near seeds reached touch
d_not_joined (k, start {o = o} f l t s) = none_of 8 (λ o. touch 8 5 o && seeds (piece_d 0) (piece_d 1) o) refl o l (and_in _ _ t s)
d_not_joined (k, onward {o = o} f l t (start g l' t' s)) = none_of 8 (λ o. touch 8 5 o && reached 8 1 9 (piece_d 0) (piece_d 1) o) refl o l (and_in _ _ t g)
d_not_joined (k, onward {o = o} f l t (onward g l' t' j)) = none_of 8 (λ o. touch 8 5 o && reached 8 1 9 (piece_d 0) (piece_d 1) o) refl o l (and_in _ _ t g)

-- piece e, reach 0: column 3 lies beside a seed and is not near; so it is neither the end of a path nor on one
pub e_not_joined : Excused 8 1 (λ i. 0) (layers (0xE0 ∷ 0xFF ∷ [])) 0 3 → ⊥
unfolding some row_bytes bit_at pixel square apart distance² shadow near seeds reached touch
e_not_joined (k, start f l t s) = clash f refl
e_not_joined (k, onward f l t j) = clash f refl

-- piece c: all is near, and there is no seed
pub c_not_joined : (k p : ℕ) → Joined 8 (touch 8) (reached 8 1 4 (layers (0xE0 ∷ 0x1F ∷ []) 0) (layers (0xE0 ∷ 0x1F ∷ []) 1)) (seeds (layers (0xE0 ∷ 0x1F ∷ []) 0) (layers (0xE0 ∷ 0x1F ∷ []) 1)) k
    p → ⊥
unfolding some row_bytes bit_at pixel seeds
c_not_joined k p (start {o = o} f l t s) = none_of 8 (λ o. seeds (layers (0xE0 ∷ 0x1F ∷ []) 0) (layers (0xE0 ∷ 0x1F ∷ []) 1) o) refl o l s
c_not_joined k p (onward {k = j} {o = o} f l t r) = c_not_joined j o r

-- piece f: column 3 is excused in the upper pair, where there is part below, and not in the lower
pub f_excused : Excused 8 1 (λ i. 4) (layers (0x00 ∷ 0xE0 ∷ 0xFF ∷ [])) 1 3
unfolding some row_bytes bit_at pixel square apart distance² shadow near seeds reached touch
f_excused = (1, start {p = 3} {o = 2} refl (omega arith) refl refl)

pub f_not_excused : Excused 8 1 (λ i. 4) (layers (0x00 ∷ 0xE0 ∷ 0xFF ∷ [])) 0 3 → ⊥
unfolding some row_bytes bit_at pixel square apart distance² shadow near seeds reached touch
f_not_excused (k, start f l t s) = clash f refl
f_not_excused (k, onward f l t j) = clash f refl

-- Sound ---------------------------------------------------------------------------------------------------------------------------

-- piece b, reach 2, with any support
abbrev SoundB : List ℕ → Type 0
SoundB sup = Sound 8 1 2 (λ i. 4) (layers (0xE0 ∷ 0xFF ∷ [])) (layers sup)

-- piece m: support inside the part
pub m_unsound : SoundB (0x27 ∷ 0x00 ∷ []) → ⊥
unfolding row_bytes bit_at pixel
m_unsound s = clash refl (s.clear 0 2 (omega arith) (omega arith) refl)

-- piece l: column 5 hangs
pub l_unsound : SoundB (0x03 ∷ 0x00 ∷ []) → ⊥
unfolding some row_bytes bit_at pixel square apart distance² shadow near seeds reached touch
l_unsound s = go (s.holds 0 5 (omega arith) (omega arith) refl)
  where
    go : ((layers (0xE0 ∷ 0xFF ∷ []) 0 5 || layers (0x03 ∷ 0x00 ∷ []) 0 5) ≡ true) ⊎ Excused 8 1 (λ i. 4) (layers (0xE0 ∷ 0xFF ∷ [])) 0 5 → ⊥
    go (inl e) = clash e refl
    go (inr (k, start f l t s)) = clash f refl
    go (inr (k, onward f l t j)) = clash f refl

-- support over nothing
pub floating_unsound : Sound 8 1 2 (λ i. 4) (layers (0x80 ∷ 0x80 ∷ [])) (layers (0x00 ∷ 0x08 ∷ [])) → ⊥
unfolding some row_bytes bit_at pixel square apart distance² shadow near seeds reached touch
floating_unsound s = go (s.holds 0 4 (omega arith) (omega arith) refl)
  where
    go : ((layers (0x80 ∷ 0x80 ∷ []) 0 4 || layers (0x00 ∷ 0x08 ∷ []) 0 4) ≡ true) ⊎ Excused 8 1 (λ i. 4) (layers (0x80 ∷ 0x80 ∷ [])) 0 4 → ⊥
    go (inl e) = clash e refl
    go (inr (k, start f l t s)) = clash f refl
    go (inr (k, onward f l t j)) = clash f refl

-- the planned support of piece b: columns 0 to 2 stand on part, 3 and 4 are excused, 5 to 7 stand on support
pub b_sound : SoundB (0x07 ∷ 0x00 ∷ [])
unfolding some row_bytes bit_at pixel square apart distance² shadow near seeds reached touch
b_sound = record {
  clear = λ i p li lp e. split (part i p) (λ t. absurd (none_of 2 (λ i. some 8 (λ p. sup i p && part i p)) refl i li (some_in 8 (λ p. sup i p && part i p) p lp (and_in _ _ e t)))) (λ t. t);
  holds = λ i p li lp e. held i p li lp;
}
  where
    part : Stack
    part = layers (0xE0 ∷ 0xFF ∷ [])

    sup : Stack
    sup = layers (0x07 ∷ 0x00 ∷ [])

    excused_3 : Excused 8 1 (λ i. 4) (layers (0xE0 ∷ 0xFF ∷ [])) 0 3
    excused_3 = (1, start {p = 3} {o = 2} refl (omega arith) refl refl)

    held : (i p : ℕ) → suc i < 2 → p < 8 → ((layers (0xE0 ∷ 0xFF ∷ []) i p || layers (0x07 ∷ 0x00 ∷ []) i p) ≡ true) ⊎ Excused 8 1 (λ i. 4) (layers (0xE0 ∷ 0xFF ∷ [])) i p
    held zero zero li lp = inl refl
    held zero (suc zero) li lp = inl refl
    held zero (suc (suc zero)) li lp = inl refl
    held zero (suc (suc (suc zero))) li lp = inr excused_3
    held zero (suc (suc (suc (suc zero)))) li lp = inr (2, onward {p = 4} {o = 3} refl (omega arith) refl excused_3.1)
    held zero (suc (suc (suc (suc (suc zero))))) li lp = inl refl
    held zero (suc (suc (suc (suc (suc (suc zero)))))) li lp = inl refl
    held zero (suc (suc (suc (suc (suc (suc (suc zero))))))) li lp = inl refl
    held zero (suc (suc (suc (suc (suc (suc (suc (suc p)))))))) li lp = absurd (omega arith)
    held (suc i) p li lp = absurd (omega arith)

-- Bytes and numbers of 16 bits ------------------------------------------------------------------------------------------------------

pub bytes_most : Bytes (255 ∷ []) × (Bytes (256 ∷ []) → ⊥)
bytes_most = ((λ i. at i), λ b. omega (arith, b 0))
  where
    at : (i : ℕ) → get_or (255 ∷ []) i 0 < 256
    at zero = omega arith
    at (suc i) = omega arith

pub words_most : Words (65535 ∷ []) × (Words (65536 ∷ []) → ⊥)
words_most = ((λ i. at i), λ b. omega (arith, b 0))
  where
    at : (i : ℕ) → get_or (65535 ∷ []) i 0 < 65536
    at zero = omega arith
    at (suc i) = omega arith
