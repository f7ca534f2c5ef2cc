-- What reading tells, written over the front of a buffer, element by element, as far as there is room.
use Rattle.std.specs.Prelude.{◌≡◌, List, [], ◌∷◌, ◌++◌, ℕ, suc, ◌+◌, ◌≤◌, ◌<◌, length, get_or, take, drop, set}
use Rattle.std.proofs.Common.{sym, ap, ◌∙◌, add-one, arith, length-append, length-drop, drop_of_length-le, take-suc, take_all, length-take-le, drop-cons}
use Rattle.rules.specs.Tools.{bit}
use Rattle.rules.specs.declared.Layout.{Layout}
use Rattle.answers.specs.Packed.{told}
use Rattle.std.proofs.lemmas.List.{set_at}
use Rattle.std.proofs.Math.Seq.{append_snoc}

pub filled_more : (room vs : List ℕ) (i : ℕ) → i < length vs → i < length room → set (take i vs ++ drop i room) i (get_or vs i 0) ≡ take (i + 1) vs ++ drop (i + 1) room
filled_more room vs i h k =
    ap (λ (r : List ℕ). set (take i vs ++ r) i (get_or vs i 0)) (drop-cons room i 0 k)
    ∙ set_at (take i vs) (get_or room i 0) (drop (suc i) room) (get_or vs i 0) i (length-take-le i vs (omega arith))
    ∙ sym (append_snoc (take i vs) (get_or vs i 0) (drop (suc i) room))
    ∙ rw (add-one i, take-suc vs i 0 h)

pub filled_length : (room vs : List ℕ) (i : ℕ) → i ≤ length vs → i ≤ length room → length (take i vs ++ drop i room) ≡ length room
filled_length room vs i h k = simp (length-append, length-take-le i vs h, length-drop) (omega arith)

-- no room is left
pub filled_short : (room vs : List ℕ) (i : ℕ) → i ≤ length vs → i ≤ length room → length room ≤ i → take i vs ++ drop i room ≡ take (length room) vs ++ drop (length vs) room
filled_short room vs i h k l =
    let e : length room ≡ i = omega arith in
    let a : length room ≤ i = l in
    let b : length room ≤ length vs = omega arith in
    rw (e, drop_of_length-le room a, drop_of_length-le room b)

-- all is written
pub filled_all : (room vs : List ℕ) (i : ℕ) → length vs ≡ i → i ≤ length room → take i vs ++ drop i room ≡ take (length room) vs ++ drop (length vs) room
filled_all room vs i e k = rw (e, take_all i vs (omega arith), take_all (length room) vs (omega arith))

-- the numbers as the code has them, with its flag for stored support
abbrev pub told_with : Layout → ℕ → List ℕ
told_with l x =
    l.settings.w ∷ l.settings.h ∷ l.settings.n ∷ l.settings.pitch.0 ∷ l.settings.overhang.0 ∷ x
    ∷ l.head ∷ l.part ∷ l.support ∷ l.rings ∷ []

pub told_with_lem : (l : Layout) (x : ℕ) → x ≡ bit l.stored → told_with l x ≡ told l
told_with_lem l x e = rw e

-- the room is full, or all is told
pub told_short : (l : Layout) (x : ℕ) (room now : List ℕ) (i : ℕ) → x ≡ bit l.stored → i ≤ 10 → i ≤ length room → length now ≤ i → now ≡ take i (told_with l x) ++ drop i room →
    now ≡ take (length room) (told l) ++ drop 10 room
told_short l x room now i e h k s is =
    let n : length now ≡ length room = ap length is ∙ filled_length room (told_with l x) i h k in
    is ∙ filled_short room (told_with l x) i h k (omega arith) ∙ ap (λ (v : List ℕ). take (length room) v ++ drop 10 room) (told_with_lem l x e)

pub told_all : (l : Layout) (x : ℕ) (room now : List ℕ) (i : ℕ) → x ≡ bit l.stored → 10 ≤ i → i ≤ 10 → i ≤ length room → now ≡ take i (told_with l x) ++ drop i room →
    now ≡ take (length room) (told l) ++ drop 10 room
told_all l x room now i e t h k is =
    is ∙ filled_all room (told_with l x) i (omega arith) k ∙ ap (λ (v : List ℕ). take (length room) v ++ drop 10 room) (told_with_lem l x e)
