-- The answers of the library for C: the number in the lowest 16 bits, 0 for none, and the values above it.
use Rattle.std.specs.Prelude.{cond, List, [], ◌∷◌, ◌++◌, ℕ, ◌+◌, ◌*◌, ◌%◌, length, take, drop}
use Rattle.rules.specs.Tools.{bit, answer}
use Rattle.rules.specs.Images.{row_bytes, stack_bytes}
use Rattle.rules.specs.Jobs.{Job, settings_in, stored_in, layout_of}
use Rattle.rules.specs.Calls.{read_refusal}
use Rattle.rules.specs.declared.Micrometres.{Micrometres}
use Rattle.rules.specs.declared.Pixels.{Pixels}
use Rattle.rules.specs.declared.Settings.{Settings}
use Rattle.rules.specs.declared.Layout.{Layout}
use Rattle.rules.specs.declared.Refusal.{Refusal}
use Rattle.rules.specs.declared.Refusal.TheVariants.{Number, InRow, AtPixel}
use Rattle.rules.specs.declared.Reached.{Reached}
use Rattle.rules.specs.declared.Reached.TheVariants.{By, Refused as NotReached}
use Rattle.rules.specs.declared.Planned.{Planned}
use Rattle.rules.specs.declared.Planned.TheVariants.{Done, Refused as NotPlanned}
use Rattle.rules.specs.declared.Judged.{Judged}
use Rattle.rules.specs.declared.Judged.TheVariants.{Accepted, Refused as NotJudged}
use Rattle.rules.specs.declared.ReadJob.{ReadJob}
use Rattle.rules.specs.declared.ReadJob.TheVariants.{Job as IsJob, Refused as NotRead}
use Rattle.rules.specs.declared.CopiedRings.{CopiedRings}
use Rattle.rules.specs.declared.CopiedRings.TheVariants.{Copied, Refused as NotCopied}
use Rattle.rules.specs.declared.WrittenJob.{WrittenJob}
use Rattle.rules.specs.declared.WrittenJob.TheVariants.{Length, Refused as NotWritten}

-- the arguments of a call, as the calls of the rules take them
abbrev pub um : ℕ → Micrometres
um x = record { 0 = x }

abbrev pub px : ℕ → Pixels
px x = record { 0 = x }

abbrev pub settings_of : ℕ → ℕ → ℕ → ℕ → ℕ → Settings
settings_of w h n pitch overhang = record { w = w; h = h; n = n; pitch = um pitch; overhang = um overhang }

abbrev pub job_of : Settings → List ℕ → List ℕ → List ℕ → Job
job_of s part support rings = record { settings = s; part = part; support = support; rings = rings }

-- a value above the number, as far as it has room: 48 bits
abbrev pub above : ℕ → ℕ
above v = v % 281474976710656 * 65536

-- a refusal: the number, and above it layer, row and column in 16 bits each, as many as its place has
abbrev pub pack_refusal : Refusal → ℕ
pack_refusal (Number k) = k
pack_refusal (InRow k at) = k + at.layer % 65536 * 65536 + at.row % 65536 * 4294967296
pack_refusal (AtPixel k at) = k + at.layer % 65536 * 65536 + at.row % 65536 * 4294967296 + at.column % 65536 * 281474976710656

abbrev pub pack_reached : Reached → ℕ
pack_reached (By r) = above r.0
pack_reached (NotReached k) = k

abbrev pub pack_planned : Planned → ℕ
pack_planned Done = 0
pack_planned (NotPlanned r) = pack_refusal r

abbrev pub pack_judged : Judged → ℕ
pack_judged Accepted = 0
pack_judged (NotJudged r) = pack_refusal r

abbrev pub pack_copied : CopiedRings → ℕ
pack_copied Copied = 0
pack_copied (NotCopied r) = pack_refusal r

abbrev pub pack_written : WrittenJob → ℕ
pack_written (Length n) = above n
pack_written (NotWritten r) = pack_refusal r

-- of reading only a refusal is packed: what it tells goes to the room that is lent
abbrev pub pack_read : ReadJob → ℕ
pack_read (IsJob l) = 0
pack_read (NotRead r) = pack_refusal r

-- what reading tells, as numbers
abbrev pub told : Layout → List ℕ
told l =
    l.settings.w ∷ l.settings.h ∷ l.settings.n ∷ l.settings.pitch.0 ∷ l.settings.overhang.0 ∷ bit l.stored
    ∷ l.head ∷ l.part ∷ l.support ∷ l.rings ∷ []

-- as many of them as there is room for, and all else as it was
unfoldable pub told_in : List ℕ → List ℕ → List ℕ
told_in f room = answer (read_refusal f) (take (length room) (told (layout_of f)) ++ drop (length (told (layout_of f))) room) (λ k. room)

-- a stretch of a file: its offset in the upper half, its length in the lower
abbrev pub stretch : ℕ → ℕ → ℕ
stretch at n = at % 4294967296 * 4294967296 + n % 4294967296

unfoldable pub part_stretch : List ℕ → ℕ
part_stretch f = answer (read_refusal f) (stretch (layout_of f).part (stack_bytes (settings_in f))) (λ k. 0)

unfoldable pub support_stretch : List ℕ → ℕ
support_stretch f =
    answer (read_refusal f) (cond (layout_of f).stored (stretch (layout_of f).support (stored_in f * row_bytes (settings_in f).w)) 0) (λ k. 0)
