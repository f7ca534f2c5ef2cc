-- Laws of what a post takes away: a row that is looked at, and where no row can change any more.
use Rattle.std.specs.Prelude.{◌≡◌, Bool, true, false, not, ◌&&◌, ◌||◌, List, ◌⊎◌, ℕ, min, max, ◌+◌, ◌-◌, ◌*◌, ◌/◌, ◌%◌, ◌<◌, ◌≤◌, leb, ltb, length, get_or}
use Rattle.std.proofs.Math.Path.{refl, ap}
use Rattle.std.proofs.Common.{sym, subst, ◌∙◌, inl, inr, ⊎_elim, div-add-mod'}
use native.Mathlib.Omega.{arith}
use Rattle.std.proofs.Math.Decide.{dec_lt, dec_le, ℕ_discrete}
use borrow.Author.Tests.{lt-ltb, le-ltb, ltb-true, ltb-false, le-leb, leb-true}
use Rattle.std.proofs.Math.Arith.{digits_div, digits_mod}
use Rattle.rules.specs.Reach.{square, apart, most_bound}
use Rattle.rules.specs.Tools.{count}
use Rattle.laws.specs.Discs.{HalfWidth, Halves, square_small}
use Rattle.laws.specs.Tests.{split, clash, bool_eq, and_l, and_r, and_in, or_l, or_out, not_in, not_out, count_mono, count_more}
use Rattle.words.specs.Words.{word_bit}
use Rattle.planes.specs.Scratch.{spot}
use Rattle.pair.specs.Found.{Empty}
use Rattle.posts.specs.TwoLaws.{WipedTo}
use Rattle.posts.specs.Taking.{Beside, Columns, Looked, disc_bit, Taking, Ahead, ClosedBut, Closed}

-- the disc ---------------------------------------------------------------------------------------------------------------

-- the columns within `by` of column x
abbrev pub about_of : ℕ → ℕ → ℕ → Bool
about_of x by c = ltb c (x + by + 1) && not (ltb c (x - by))

down : (y d : ℕ) → apart (y + 33 + d) (y + 33) ≡ d
unfolding apart
down y d = omega arith

module _ (q y c b : ℕ) (lb : b * 64 ≤ c) where
  -- the distance from the post of column x of two words, in row d from its own on
  disc_is : (d x : ℕ) → b * 64 + x < 320 → disc_bit q y c ((y + 33 + d) * 320 + b * 64 + x) ≡ leb (d * d + square (apart (b * 64 + x) c)) q
  unfolding disc_bit square
  disc_is d x l =
      let z : (y + 33 + d) * 320 + b * 64 + x ≡ (y + 33 + d) * 320 + (b * 64 + x) = omega arith in
      let er : ((y + 33 + d) * 320 + b * 64 + x) / 320 ≡ y + 33 + d = ap (λ (n : ℕ). n / 320) z ∙ digits_div (y + 33 + d) {m = 320} {r = b * 64 + x} l in
      let ec : ((y + 33 + d) * 320 + b * 64 + x) % 320 ≡ b * 64 + x = ap (λ (n : ℕ). n % 320) z ∙ digits_mod (y + 33 + d) {m = 320} {r = b * 64 + x} l in
      rw (er, ec, down y d) refl

  pub disc_row : (d by x : ℕ) → HalfWidth q d by → b * 64 + x < 320 → about_of (c - b * 64) by x ≡ disc_bit q y c ((y + 33 + d) * 320 + b * 64 + x)
  unfolding square apart
  disc_row d by x H l = bool_eq _ _
      (λ e.
      let hi : x < c - b * 64 + by + 1 = ltb-true x _ (and_l (ltb x (c - b * 64 + by + 1)) _ e) in
      let lo : c - b * 64 - by ≤ x = ltb-false x _ (not_out _ (and_r (ltb x (c - b * 64 + by + 1)) _ e)) in
      disc_is d x l ∙ le-leb _ q (H.inside (apart (b * 64 + x) c) (omega arith)))
      (λ e.
      let s : d * d + apart (b * 64 + x) c * apart (b * 64 + x) c ≤ q = leb-true _ q (sym (disc_is d x l) ∙ e) in
      let n : apart (b * 64 + x) c ≤ by = elim (dec_le (apart (b * 64 + x) c) by) [ yes p ↦ p | no p ↦ absurd (omega (arith, H.outside (apart (b * 64 + x) c) (omega arith))) ] in
      and_in (ltb x (c - b * 64 + by + 1)) _ (lt-ltb x _ (omega arith)) (not_in _ (le-ltb x _ (omega arith))))

-- a bit of the disc is within 32 columns of the post
pub disc_columns : (q y c j : ℕ) → q ≤ most_bound → disc_bit q y c j ≡ true → (c ≤ j % 320 + 32) × (j % 320 ≤ c + 32)
unfolding disc_bit square apart
disc_columns q y c j m e =
    let s : apart (j / 320) (y + 33) * apart (j / 320) (y + 33) + apart (j % 320) c * apart (j % 320) c ≤ q = leb-true _ q e in
    let l : apart (j % 320) c < 33 = square_small q (apart (j % 320) c) m (omega arith) in
    (omega arith, omega arith)

-- and no further down than the disc reaches
pub disc_rows : (q y c reach j : ℕ) → HalfWidth q 0 reach → disc_bit q y c j ≡ true → j / 320 ≤ y + 33 + reach
unfolding disc_bit square apart
disc_rows q y c reach j H e =
    let s : apart (j / 320) (y + 33) * apart (j / 320) (y + 33) + apart (j % 320) c * apart (j % 320) c ≤ q = leb-true _ q e in
    elim (dec_le (apart (j / 320) (y + 33)) reach) [
      | yes p ↦ omega arith
      | no p ↦ absurd (omega (arith, H.outside (apart (j / 320) (y + 33)) (omega arith)))
    ]

-- the half-width of a row of the disc that is no further away than the disc reaches
pub half_at : (q d : ℕ) (half : List ℕ) → q ≤ most_bound → Halves q half → d ≤ get_or half 0 0 → HalfWidth q d (get_or half d 0) × (get_or half d 0 ≤ 32) × (d < 33)
half_at q d half lq H l =
    let s : 0 * 0 + d * d ≤ q = (H.half 0 (omega arith)).inside d l in
    let D : HalfWidth q d (get_or half d 0) = H.half d (omega arith) in
    (D, omega (arith, square_small q (get_or half d 0) lq (omega (arith, D.inside (get_or half d 0) (omega arith)))), square_small q d lq (omega arith))

-- two words that were looked at -------------------------------------------------------------------------------------------

-- the same columns by another name
pub looked_same : (k b : ℕ) (disc disc' : ℕ → Bool) (told : Bool) (rest got rest' got' : List ℕ) → ((x : ℕ) → disc x ≡ disc' x) → Looked k b disc told rest got rest' got' → Looked k b disc' told rest got rest' got'
looked_same k b disc disc' told rest got rest' got' e L = record {
  new = L.new;
  there = λ x u. let (l, r, t) = L.there x u in (l, r, sym (e x) ∙ t);
  rest_put = L.rest_put;
  got_put = L.got_put;
  led = λ T t g. L.led T t (λ x o l r a. g x o l r (sym (e x) ∙ a));
  whole = λ C x o l r a. L.whole C x o l r (e x ∙ a);
  none = L.none;
  some = L.some;
}

module _ (k b : ℕ) (disc : ℕ → Bool) (told : Bool) (rest got rest' got' : List ℕ) (L : Looked k b disc told rest got rest' got') where
  rest_less : (j : ℕ) → word_bit rest' j ≡ true → word_bit rest j ≡ true
  rest_less j e = elim (dec_lt j (k * 320 + b * 64)) [
    | yes l ↦ sym (L.rest_put.before j l) ∙ e
    | no l ↦ elim (dec_lt j (k * 320 + b * 64 + 128)) [
      | yes h ↦ and_l (word_bit rest j) _ (sym (L.rest_put.inner j (omega arith) h) ∙ e)
      | no h ↦ sym (L.rest_put.behind j (omega arith)) ∙ e
    ]
  ]

  -- no bit remains that did not before, and one fewer where something is got
  pub count_same : count 103040 (word_bit rest') ≤ count 103040 (word_bit rest)
  count_same = count_mono 103040 (word_bit rest') (word_bit rest) (λ j l. rest_less j)

  pub count_less : told ≡ true → k < 322 → b ≤ 2 → count 103040 (word_bit rest') < count 103040 (word_bit rest)
  count_less t lk lb =
      let (x, u) = L.some t in
      let (l, r, a) = L.there x u in
      let at : k * 320 + b * 64 + x - (k * 320 + b * 64) ≡ x = omega arith in
      let z : word_bit rest' (k * 320 + b * 64 + x) ≡ false =
      L.rest_put.inner (k * 320 + b * 64 + x) (omega arith) (omega arith) ∙ ap (λ (i : ℕ). word_bit rest (k * 320 + b * 64 + x) && not (L.new i)) at ∙ rw (u, r) refl in
      count_more 103040 (word_bit rest') (word_bit rest) (λ j l. rest_less j) (k * 320 + b * 64 + x) (omega arith) z r

-- beyond the lesser of two is beyond one of them
pub beyond : (d rows reach m : ℕ) → m ≡ min rows reach → m < d → (rows < d) ⊎ (reach < d)
beyond d rows reach m e l = elim (dec_lt rows d) [ yes p ↦ inl p | no p ↦ inr (omega arith) ]

-- one row back is no further than the row, but for row 0
pub stepped : (d b : ℕ) → (0 < d → b + 1 ≡ d) × (d ≡ 0 → b ≡ 1) → (b ≤ d + 1) × (b < d + 1 → b + 1 ≡ d)
stepped d b (pos, nul) = elim (dec_lt 0 d) [
  | yes p ↦ let e = pos p in (omega arith, λ l. omega arith)
  | no p ↦ let z : d ≡ 0 = omega arith in let e : b ≡ 1 = nul z in (omega arith, λ l. absurd (omega arith))
]

-- the last row that was looked at leaves none open
pub ended : (d s rows reach m : ℕ) → d ≤ s → (d < s → (d < rows) × (d ≤ reach)) → m ≡ min rows reach → m < d → s ≡ d
ended d s rows reach m ds f e l = elim (dec_lt d s) [
  | yes p ↦ let (a, b) = f p in absurd (omega arith)
  | no p ↦ omega arith
]

-- growing ----------------------------------------------------------------------------------------------------------------

module _ (q y c b : ℕ) (lq : q ≤ most_bound) (lb : b * 64 ≤ c) (W : (j : ℕ) → j < 256 → c ≤ j + 32 → j ≤ c + 32 → (b * 64 ≤ j) × (j < b * 64 + 128)) (b2 : b ≤ 2)
    (was : List ℕ) (A : Ahead y c was) where
  module _ (rows : ℕ) (rest got : List ℕ) (S : Taking q y c rows was rest got) where
    remains : (j : ℕ) → word_bit rest j ≡ true → word_bit was j ≡ true
    remains j e = and_l (word_bit was j) _ (sym (S.rest_is j) ∙ e)

    columns : (j : ℕ) → word_bit was j ≡ true → disc_bit q y c j ≡ true → Columns b j
    columns j w e = let (x, z) = disc_columns q y c j lq e in W (j % 320) (A j w).1 x z

    got_columns : (j : ℕ) → word_bit got j ≡ true → Columns b j
    got_columns j e = columns j (S.owned j e) (S.round j e)

    -- nothing remains in the rows before the post's own
    none_before : (j : ℕ) → word_bit rest j ≡ true → y + 33 ≤ j / 320
    none_before j e = omega (arith, (A j (remains j e)).0)

    pub closed_start : ClosedBut q y c 0 0 rest got
    closed_start j o l m r e g n = omega (arith, none_before j r)

    -- at the end nothing remains that could still be got
    pub closed_end : (d reach : ℕ) → HalfWidth q 0 reach → (rows < d) ⊎ (reach < d) → ClosedBut q y c d d rest got → Closed q y c rest got
    closed_end d reach H e C j o r x g n = elim (dec_lt (j / 320) (y + 33 + d)) [
      | yes l ↦ C j o l (λ z. omega arith) r x g n
      | no l ↦ ⊎_elim (λ z. omega (arith, S.deep o g, n.0)) (λ z. omega (arith, disc_rows q y c reach j H x)) e
    ]

    -- what is got is gone once the two words are empty in its rows
    pub wiped : (got' : List ℕ) → length got' ≡ 1610 → WipedTo ((y + 33) * 5 + b) rows got got' → Empty got'
    wiped got' l E = record {
      long = l;
      none = λ j. split (word_bit got' j)
          (λ e.
          let (g, n) = E j e in
          let (lo, hi) = got_columns j g in
          let (u, v) = S.deep j g in
          absurd (n (j / 320 - (y + 33)) (omega arith) (omega (arith, div-add-mod' j 320)) (omega (arith, div-add-mod' j 320))))
          (λ e. e);
    }

    module _ (d by : ℕ) (H : HalfWidth q d by) (rest' got' : List ℕ) (told : Bool) (L : Looked (y + 33 + d) b (about_of (c - b * 64) by) told rest got rest' got') where
      abbrev base : ℕ
      base = (y + 33 + d) * 320 + b * 64

      about : (x : ℕ) → x < 128 → about_of (c - b * 64) by x ≡ disc_bit q y c (base + x)
      about x l = disc_row q y c b lb d by x H (omega arith)

      -- a bit of the row in the disc is in the two words
      in_row : (j : ℕ) → j / 320 ≡ y + 33 + d → word_bit rest j ≡ true → disc_bit q y c j ≡ true → (x : ℕ) × (x < 128) × (base + x ≡ j)
      in_row j e r x =
          let (lo, hi) = columns j (remains j r) x in
          (j % 320 - b * 64, omega arith, omega (arith, div-add-mod' j 320))

      less : (j : ℕ) → word_bit rest' j ≡ true → word_bit rest j ≡ true
      less = rest_less (y + 33 + d) b (about_of (c - b * 64) by) told rest got rest' got' L

      -- what is got now was got or is new
      got_more : (j : ℕ) → word_bit got' j ≡ true → (word_bit got j ≡ true) ⊎ ((x : ℕ) × (base + x ≡ j) × (L.new x ≡ true))
      got_more j e = elim (dec_lt j base) [
        | yes l ↦ inl (sym (L.got_put.before j l) ∙ e)
        | no l ↦ elim (dec_lt j (base + 128)) [
          | yes h ↦ ⊎_elim inl (λ u. inr (j - base, omega arith, u)) (or_out (word_bit got j) _ (sym (L.got_put.inner j (omega arith) h) ∙ e))
          | no h ↦ inl (sym (L.got_put.behind j (omega arith)) ∙ e)
        ]
      ]

      got_kept : (j : ℕ) → word_bit got j ≡ true → word_bit got' j ≡ true
      got_kept j e = elim (dec_lt j base) [
        | yes l ↦ L.got_put.before j l ∙ e
        | no l ↦ elim (dec_lt j (base + 128)) [
          | yes h ↦ L.got_put.inner j (omega arith) h ∙ or_l (word_bit got j) _ e
          | no h ↦ L.got_put.behind j (omega arith) ∙ e
        ]
      ]

      rest_now : (j : ℕ) → word_bit rest' j ≡ (word_bit was j && not (word_bit got' j))
      rest_now j = elim (dec_lt j base) [
        | yes l ↦ L.rest_put.before j l ∙ S.rest_is j ∙ ap (λ (t : Bool). word_bit was j && not t) (sym (L.got_put.before j l))
        | no l ↦ elim (dec_lt j (base + 128)) [
          | yes h ↦
              L.rest_put.inner j (omega arith) h
              ∙ ap (λ (t : Bool). t && not (L.new (j - base))) (S.rest_is j)
              ∙ both (word_bit was j) (word_bit got j) (L.new (j - base))
              ∙ ap (λ (t : Bool). word_bit was j && not t) (sym (L.got_put.inner j (omega arith) h))
          | no h ↦ L.rest_put.behind j (omega arith) ∙ S.rest_is j ∙ ap (λ (t : Bool). word_bit was j && not t) (sym (L.got_put.behind j (omega arith)))
        ]
      ]
        where
          both : (a g n : Bool) → ((a && not g) && not n) ≡ (a && not (g || n))
          both true true n = refl
          both true false n = refl
          both false g n = refl

      new_was : (x : ℕ) → L.new x ≡ true → (word_bit was (base + x) ≡ true) × (disc_bit q y c (base + x) ≡ true)
      new_was x e = let (l, r, t) = L.there x e in (remains (base + x) r, sym (about x l) ∙ t)

      row_of : (x : ℕ) → x < 128 → (base + x) / 320 ≡ y + 33 + d
      row_of x l =
          let z : base + x ≡ (y + 33 + d) * 320 + (b * 64 + x) = omega arith in
          ap (λ (n : ℕ). n / 320) z ∙ digits_div (y + 33 + d) {m = 320} {r = b * 64 + x} (omega arith)

      pub taking_more : (rows' : ℕ) → length rest' ≡ 1610 → length got' ≡ 1610 → rows ≤ rows' → (told ≡ true → d < rows') → Taking q y c rows' was rest' got'
      taking_more rows' lr lg m deep = record {
        rest_long = lr;
        got_long = lg;
        rest_is = rest_now;
        owned = λ j e. ⊎_elim (S.owned j) (λ (x, z, u). subst (λ (n : ℕ). word_bit was n ≡ true) z (new_was x u).0) (got_more j e);
        round = λ j e. ⊎_elim (S.round j) (λ (x, z, u). subst (λ (n : ℕ). disc_bit q y c n ≡ true) z (new_was x u).1) (got_more j e);
        post = got_kept (spot y c) S.post;
        led = λ T t g j e. ⊎_elim (S.led T t g j)
            (λ (x, z, u). subst (λ (n : ℕ). T n ≡ true) z (L.led T (S.led T t g)
            (λ x o l r a n v. g (base + x) o (and_in (word_bit was (base + x)) _ (remains (base + x) r) (sym (about x l) ∙ a)) n v) x u))
            (got_more j e);
        deep = λ j e. ⊎_elim (λ u. let (lo, hi) = S.deep j u in (lo, omega arith))
            (λ (x, z, u).
            let l : x < 128 = (L.there x u).0 in
            let r : j / 320 ≡ y + 33 + d = ap (λ (n : ℕ). n / 320) (sym z) ∙ row_of x l in
            let k : d < rows' = deep (split told (λ t. t) (λ t. clash u (L.none t x))) in
            (omega arith, omega arith)) (got_more j e);
      }

      -- the row that was looked at is closed
      row_closed : (j o : ℕ) → j / 320 ≡ y + 33 + d → word_bit rest' j ≡ true → disc_bit q y c j ≡ true → word_bit got' o ≡ true → Beside j o → ⊥
      row_closed j o k r e g n =
          let (x, lx, z) = in_row j k (less j r) e in
          L.whole got_columns x o lx (subst (λ (i : ℕ). word_bit rest' i ≡ true) (sym z) r) (about x lx ∙ subst (λ (i : ℕ). disc_bit q y c i ≡ true) (sym z) e) g (subst (λ (i : ℕ). Beside i o) (sym z) n)

      -- nothing changed: the rows before s are closed all of them, and this one
      pub closed_next : told ≡ false → (s m : ℕ) → d ≤ s → m ≡ max s (d + 1) → ClosedBut q y c s d rest got → ClosedBut q y c m m rest' got'
      closed_next t s m ds em C j o l k r e g n = elim (ℕ_discrete (j / 320) (y + 33 + d)) [
        | yes u ↦ row_closed j o u r e g n
        | no u ↦ C j o (omega arith) u (less j r) e (⊎_elim (λ v. v) (λ (x, z, v). clash v (L.none t x)) (got_more o g)) n
      ]

      -- the row changed: the one before it may be open, those before that one are not
      pub closed_back : (s b' : ℕ) → d ≤ s → (0 < d → b' + 1 ≡ d) × (d ≡ 0 → b' ≡ 1) → ClosedBut q y c s d rest got → ClosedBut q y c (d + 1) b' rest' got'
      closed_back s b' ds (pos, nul) C j o l k r e g n = elim (ℕ_discrete (j / 320) (y + 33 + d)) [
        | yes u ↦ row_closed j o u r e g n
        | no u ↦ elim (dec_lt 0 d) [
          | yes p ↦ let eb : b' + 1 ≡ d = pos p in
              ⊎_elim (λ v. C j o (omega arith) u (less j r) e v n)
              (λ (x, z, v).
              let ro : o / 320 ≡ y + 33 + d = ap (λ (i : ℕ). i / 320) (sym z) ∙ row_of x (L.there x v).0 in
              omega (arith, n.0))
              (got_more o g)
          | no p ↦ omega (arith, none_before j (less j r))
        ]
      ]
