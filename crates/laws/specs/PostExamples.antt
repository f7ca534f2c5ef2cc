-- Posts, computed by the definitions of the call: one input for each number that it can give, and for each other meaning of the request's words an input
-- where it would leave other posts. Layers are listed from 0 upward.
use Rattle.std.specs.Prelude.{◌≡◌, refl, List, [], ◌∷◌, ℕ}
use Rattle.rules.specs.Tools.{bit, some, each, joined_up, first}
use Rattle.rules.specs.Images.{within, sized, row_bytes, bit_at, pixel, rows_of, stack_bytes, padded, padding_set, first_padded, byte_of, bytes_of, ring_at}
use Rattle.rules.specs.Reach.{settable, reach_of, square, bound_by, bound_of, apart, distance²}
use Rattle.rules.specs.Planning.{shadow, near, seeds, reached, touch, source, touching, fits, grow, grown, ring_plane, rings, excused, planned_rings}
use Rattle.rules.specs.Posts.{left_by, gone_down, listed, spared, scanned, posts_below, posts_from, posts_bytes}
use Rattle.rules.specs.Calls.{says_planned, reach_cases, setting_cases, tell_row, refused, posts_cases, posts_refusal, posts_answer, posts_posts}
use Rattle.rules.specs.declared.Settings.{Settings}
use Rattle.laws.specs.Examples.{settings}

-- what the call leaves in memory that held AA in every byte, by the radius in micrometres
pub posts_of : Settings → ℕ → List ℕ → List ℕ
posts_of s r part = posts_posts s (record { 0 = r }) part (each 0 (stack_bytes s) (λ x. 0xAA))

-- a bar of eight pixels: the first pixel becomes a post and holds two beside it, then the next that remains. With a radius below the pitch each pixel is a post, and one
-- layer has none. Other meanings: the scan from the right, posts in the top layer, the overhang in place of the radius
pub posts_pieces :
    posts_of (settings 8 1 2 100 100) 200 (0x00 ∷ 0xFF ∷ [])
    ∷ posts_of (settings 8 1 2 100 100) 0 (0x00 ∷ 0xFF ∷ [])
    ∷ posts_of (settings 8 1 2 100 100) 99 (0x00 ∷ 0xFF ∷ [])
    ∷ posts_of (settings 8 1 1 100 100) 200 (0xFF ∷ [])
    ∷ []
    ≡ (0x92 ∷ 0x00 ∷ []) ∷ (0xFF ∷ 0x00 ∷ []) ∷ (0xFF ∷ 0x00 ∷ []) ∷ (0x00 ∷ []) ∷ []
unfolding bit some each joined_up first within sized row_bytes bit_at pixel rows_of stack_bytes padded padding_set byte_of bytes_of ring_at settable reach_of square bound_by bound_of apart
    distance² shadow near seeds reached touch source touching fits grow grown ring_plane rings excused planned_rings left_by gone_down listed spared scanned posts_below
    posts_from posts_bytes reach_cases setting_cases posts_cases posts_refusal posts_posts settings posts_of
posts_pieces = refl

-- a plate of five by five pixels: with the bound 1 a post holds the four beside it and no corner; with the bound 4 its disc. The fifth row by hand: the column 1 that
-- a post two rows above took stands between columns 0 and 2, so that 2 becomes a post. Other meanings: squares for discs, growing through pixels that are taken or
-- through none at all, the scan by columns
pub posts_planes :
    posts_of (settings 5 5 2 100 100) 100 (0x00 ∷ 0x00 ∷ 0x00 ∷ 0x00 ∷ 0x00 ∷ 0xF8 ∷ 0xF8 ∷ 0xF8 ∷ 0xF8 ∷ 0xF8 ∷ [])
    ∷ posts_of (settings 5 5 2 100 100) 200 (0x00 ∷ 0x00 ∷ 0x00 ∷ 0x00 ∷ 0x00 ∷ 0xF8 ∷ 0xF8 ∷ 0xF8 ∷ 0xF8 ∷ 0xF8 ∷ [])
    ∷ []
    ≡ (0xA8 ∷ 0x50 ∷ 0xA8 ∷ 0x50 ∷ 0xA8 ∷ 0x00 ∷ 0x00 ∷ 0x00 ∷ 0x00 ∷ 0x00 ∷ [])
    ∷ (0x90 ∷ 0x00 ∷ 0x48 ∷ 0x00 ∷ 0xA0 ∷ 0x00 ∷ 0x00 ∷ 0x00 ∷ 0x00 ∷ 0x00 ∷ [])
    ∷ []
unfolding bit some each joined_up first within sized row_bytes bit_at pixel rows_of stack_bytes padded padding_set byte_of bytes_of ring_at settable reach_of square bound_by bound_of apart
    distance² shadow near seeds reached touch source touching fits grow grown ring_plane rings excused planned_rings left_by gone_down listed spared scanned posts_below
    posts_from posts_bytes reach_cases setting_cases posts_cases posts_refusal posts_posts settings posts_of
posts_planes = refl

-- "the overhang's own .. reach rule": at pitch 100 the radius 150 has the bound 2, by the squares divided, and holds corners; 141 has the bound 1. Another meaning: the
-- whole pixels squared
pub posts_corners :
    posts_of (settings 3 3 2 100 0) 150 (0x00 ∷ 0x00 ∷ 0x00 ∷ 0xE0 ∷ 0xE0 ∷ 0xE0 ∷ [])
    ∷ posts_of (settings 3 3 2 100 0) 141 (0x00 ∷ 0x00 ∷ 0x00 ∷ 0xE0 ∷ 0xE0 ∷ 0xE0 ∷ [])
    ∷ []
    ≡ (0xA0 ∷ 0x00 ∷ 0xA0 ∷ 0x00 ∷ 0x00 ∷ 0x00 ∷ [])
    ∷ (0xA0 ∷ 0x40 ∷ 0xA0 ∷ 0x00 ∷ 0x00 ∷ 0x00 ∷ [])
    ∷ []
unfolding bit some each joined_up first within sized row_bytes bit_at pixel rows_of stack_bytes padded padding_set byte_of bytes_of ring_at settable reach_of square bound_by bound_of apart
    distance² shadow near seeds reached touch source touching fits grow grown ring_plane rings excused planned_rings left_by gone_down listed spared scanned posts_below
    posts_from posts_bytes reach_cases setting_cases posts_cases posts_refusal posts_posts settings posts_of
posts_corners = refl

-- "The posts from above grow together in one go": column 3 is two from the post of column 5, and joined to that of column 0 alone, over columns 1 and 2 that are near
-- it. Another meaning: each by itself, which leaves column 3. And nearness alone holds nothing: column 2 is near the post of column 0, and not joined
pub posts_together :
    posts_of (settings 8 1 3 100 100) 200 (0x00 ∷ 0x70 ∷ 0x84 ∷ [])
    ∷ posts_of (settings 8 1 3 100 100) 200 (0x00 ∷ 0x20 ∷ 0x80 ∷ [])
    ∷ []
    ≡ (0x84 ∷ 0x84 ∷ 0x00 ∷ [])
    ∷ (0xA0 ∷ 0x80 ∷ 0x00 ∷ [])
    ∷ []
unfolding bit some each joined_up first within sized row_bytes bit_at pixel rows_of stack_bytes padded padding_set byte_of bytes_of ring_at settable reach_of square bound_by bound_of apart
    distance² shadow near seeds reached touch source touching fits grow grown ring_plane rings excused planned_rings left_by gone_down listed spared scanned posts_below
    posts_from posts_bytes reach_cases setting_cases posts_cases posts_refusal posts_posts settings posts_of
posts_together = refl

-- "each new post by itself": row 2, column 0 is near the post of row 0, and joined only to that of row 1, two columns and a row away. Other meanings: near any post
-- that is there already
pub posts_by_themselves :
    posts_of (settings 3 3 2 100 0) 200 (0x00 ∷ 0x00 ∷ 0x00 ∷ 0x80 ∷ 0x20 ∷ 0xC0 ∷ [])
    ∷ []
    ≡ (0x80 ∷ 0x20 ∷ 0x80 ∷ 0x00 ∷ 0x00 ∷ 0x00 ∷ [])
    ∷ []
unfolding bit some each joined_up first within sized row_bytes bit_at pixel rows_of stack_bytes padded padding_set byte_of bytes_of ring_at settable reach_of square bound_by bound_of apart
    distance² shadow near seeds reached touch source touching fits grow grown ring_plane rings excused planned_rings left_by gone_down listed spared scanned posts_below
    posts_from posts_bytes reach_cases setting_cases posts_cases posts_refusal posts_posts settings posts_of
posts_by_themselves = refl

-- "Posts go down .. except where they meet part": a post that meets part does not go on below it, is not inside it, and holds nothing there, so that column 1 becomes a
-- post; and what it held above does not hang anew below it. Other meanings: posts that come out of the part again, that hold from inside it; support in place of shadow
pub posts_stop :
    posts_of (settings 8 1 4 100 100) 200 (0x40 ∷ 0xC0 ∷ 0x00 ∷ 0x80 ∷ [])
    ∷ posts_of (settings 8 1 4 100 100) 200 (0x80 ∷ 0x80 ∷ 0x40 ∷ 0x80 ∷ [])
    ∷ posts_of (settings 8 1 4 100 100) 200 (0x80 ∷ 0x80 ∷ 0x00 ∷ 0xE0 ∷ [])
    ∷ []
    ≡ (0x00 ∷ 0x00 ∷ 0x80 ∷ 0x00 ∷ [])
    ∷ (0x40 ∷ 0x40 ∷ 0x80 ∷ 0x00 ∷ [])
    ∷ (0x00 ∷ 0x00 ∷ 0x80 ∷ 0x00 ∷ [])
    ∷ []
unfolding bit some each joined_up first within sized row_bytes bit_at pixel rows_of stack_bytes padded padding_set byte_of bytes_of ring_at settable reach_of square bound_by bound_of apart
    distance² shadow near seeds reached touch source touching fits grow grown ring_plane rings excused planned_rings left_by gone_down listed spared scanned posts_below
    posts_from posts_bytes reach_cases setting_cases posts_cases posts_refusal posts_posts settings posts_of
posts_stop = refl

-- a post from above that holds nothing goes down all the same. Another meaning: only where it holds something
pub posts_go_down :
    posts_of (settings 8 1 3 100 100) 200 (0x00 ∷ 0x00 ∷ 0x80 ∷ [])
    ∷ []
    ≡ (0x80 ∷ 0x80 ∷ 0x00 ∷ [])
    ∷ []
unfolding bit some each joined_up first within sized row_bytes bit_at pixel rows_of stack_bytes padded padding_set byte_of bytes_of ring_at settable reach_of square bound_by bound_of apart
    distance² shadow near seeds reached touch source touching fits grow grown ring_plane rings excused planned_rings left_by gone_down listed spared scanned posts_below
    posts_from posts_bytes reach_cases setting_cases posts_cases posts_refusal posts_posts settings posts_of
posts_go_down = refl

-- "through remaining pixels": row 0, column 3 is excused and parts the bar; so does a pixel of the part; so do gaps; and so does what a post from above took, row 0,
-- column 3 of the fourth, with the pixel below it. Nor do posts from above grow through an excused pixel, row 0, column 1 of the last. Other meanings: growing through
-- what is excused, part, empty or taken
pub posts_through :
    posts_of (settings 8 2 2 100 100) 700 (0x00 ∷ 0x10 ∷ 0xFF ∷ 0x10 ∷ [])
    ∷ posts_of (settings 8 1 2 100 0) 700 (0x10 ∷ 0xFF ∷ [])
    ∷ posts_of (settings 8 1 2 100 0) 300 (0x00 ∷ 0xDB ∷ [])
    ∷ posts_of (settings 8 3 3 100 0) 200 (0x00 ∷ 0x00 ∷ 0x00 ∷ 0x3E ∷ 0x10 ∷ 0x00 ∷ 0x00 ∷ 0x00 ∷ 0x10 ∷ [])
    ∷ posts_of (settings 8 2 3 100 100) 200 (0x00 ∷ 0x40 ∷ 0x60 ∷ 0x40 ∷ 0x80 ∷ 0x00 ∷ [])
    ∷ []
    ≡ (0x88 ∷ 0x00 ∷ 0x00 ∷ 0x00 ∷ [])
    ∷ (0x88 ∷ 0x00 ∷ [])
    ∷ (0x92 ∷ 0x00 ∷ [])
    ∷ (0x28 ∷ 0x00 ∷ 0x10 ∷ 0x00 ∷ 0x00 ∷ 0x10 ∷ 0x00 ∷ 0x00 ∷ 0x00 ∷ [])
    ∷ (0xA0 ∷ 0x00 ∷ 0x80 ∷ 0x00 ∷ 0x00 ∷ 0x00 ∷ [])
    ∷ []
unfolding bit some each joined_up first within sized row_bytes bit_at pixel rows_of stack_bytes padded padding_set byte_of bytes_of ring_at settable reach_of square bound_by bound_of apart
    distance² shadow near seeds reached touch source touching fits grow grown ring_plane rings excused planned_rings left_by gone_down listed spared scanned posts_below
    posts_from posts_bytes reach_cases setting_cases posts_cases posts_refusal posts_posts settings posts_of
posts_through = refl

-- the end of a row and the start of the next do not touch, and pixels at their corners do: a way of four steps, two of them over corners, is gone with a radius of three
-- pixels, for no steps are counted. Other meanings: neighbours by number, four neighbours, the radius along the way
pub posts_touching :
    posts_of (settings 8 2 2 100 0) 800 (0x00 ∷ 0x00 ∷ 0x01 ∷ 0x80 ∷ [])
    ∷ posts_of (settings 3 3 2 100 0) 300 (0x00 ∷ 0x00 ∷ 0x00 ∷ 0xA0 ∷ 0xA0 ∷ 0x40 ∷ [])
    ∷ []
    ≡ (0x01 ∷ 0x80 ∷ 0x00 ∷ 0x00 ∷ [])
    ∷ (0x80 ∷ 0x00 ∷ 0x00 ∷ 0x00 ∷ 0x00 ∷ 0x00 ∷ [])
    ∷ []
unfolding bit some each joined_up first within sized row_bytes bit_at pixel rows_of stack_bytes padded padding_set byte_of bytes_of ring_at settable reach_of square bound_by bound_of apart
    distance² shadow near seeds reached touch source touching fits grow grown ring_plane rings excused planned_rings left_by gone_down listed spared scanned posts_below
    posts_from posts_bytes reach_cases setting_cases posts_cases posts_refusal posts_posts settings posts_of
posts_touching = refl

-- what is left is left by the overhang, whatever the radius: column 1 alone is excused. And rows of two bytes
pub posts_rows :
    posts_of (settings 8 1 2 100 100) 300 (0x80 ∷ 0xFF ∷ [])
    ∷ posts_of (settings 9 2 2 100 0) 300 (0x00 ∷ 0x00 ∷ 0x00 ∷ 0x00 ∷ 0xFF ∷ 0x80 ∷ 0x00 ∷ 0x80 ∷ [])
    ∷ []
    ≡ (0x22 ∷ 0x00 ∷ [])
    ∷ (0x88 ∷ 0x80 ∷ 0x00 ∷ 0x00 ∷ 0x00 ∷ 0x00 ∷ 0x00 ∷ 0x00 ∷ [])
    ∷ []
unfolding bit some each joined_up first within sized row_bytes bit_at pixel rows_of stack_bytes padded padding_set byte_of bytes_of ring_at settable reach_of square bound_by bound_of apart
    distance² shadow near seeds reached touch source touching fits grow grown ring_plane rings excused planned_rings left_by gone_down listed spared scanned posts_below
    posts_from posts_bytes reach_cases setting_cases posts_cases posts_refusal posts_posts settings posts_of
posts_rows = refl

pub posts_says : Settings → ℕ → List ℕ → ℕ → List ℕ
posts_says s r part room = says_planned (posts_answer s (record { 0 = r }) part room)

-- each number with all that comes after it wrong as well where that can be, 20 by the radius and by its reach alone, and 0 with the largest radius and the largest reach
pub posts_numbers :
    posts_says (settings 257 0 0 9 10001) 10001 (1 ∷ []) 9
    ∷ posts_says (settings 7 1 2 9 10001) 10001 (1 ∷ []) 9
    ∷ posts_says (settings 7 1 2 10 330) 10001 (1 ∷ []) 9
    ∷ posts_says (settings 7 1 2 1000 0) 10001 (1 ∷ []) 9
    ∷ posts_says (settings 7 1 2 10 320) 330 (1 ∷ []) 9
    ∷ posts_says (settings 7 1 2 10 320) 329 (1 ∷ []) 9
    ∷ posts_says (settings 7 1 2 10 320) 329 (1 ∷ 1 ∷ []) 3
    ∷ posts_says (settings 7 1 2 10 320) 329 (0 ∷ 1 ∷ []) 2
    ∷ posts_says (settings 7 1 2 10 320) 329 (2 ∷ 2 ∷ []) 2
    ∷ posts_says (settings 7 1 2 1000 0) 10000 (2 ∷ 2 ∷ []) 2
    ∷ []
    ≡ (1 ∷ []) ∷ (2 ∷ []) ∷ (3 ∷ []) ∷ (20 ∷ []) ∷ (20 ∷ []) ∷ (4 ∷ []) ∷ (5 ∷ []) ∷ (7 ∷ 1 ∷ 0 ∷ []) ∷ (0 ∷ []) ∷ (0 ∷ []) ∷ []
unfolding some first within sized row_bytes rows_of stack_bytes padded padding_set first_padded settable reach_of reach_cases setting_cases posts_cases posts_refusal tell_row refused
    posts_answer settings posts_says
posts_numbers = refl

-- a refusal leaves the lent memory as it was
pub posts_kept : posts_of (settings 8 1 2 10 320) 330 (0x00 ∷ 0xFF ∷ []) ≡ 0xAA ∷ 0xAA ∷ []
unfolding some each within sized row_bytes rows_of stack_bytes padded padding_set settable reach_of reach_cases setting_cases posts_cases posts_refusal posts_posts settings posts_of
posts_kept = refl
