-- For each exported call one record of its outcome, the number that it answers and the later contents of all lent memory. A call's contract is its
-- record, and no record allows two outcomes for one input. Each follows from the record of the call that is exported.
use Rattle.std.specs.Prelude.{◌≡◌, List, ℕ, length}
use Rattle.std.proofs.Common.{sym, ap, ◌∙◌}
use Rattle.rules.specs.Jobs.{Job}
use Rattle.rules.specs.Calls.{reach_answer, plan_answer, plan_support, plan_rings, clean_answer, clean_support, clean_rings, clean_cleaned, posts_answer, posts_posts, judge_answer, read_answer}
use Rattle.rules.specs.Calls.{copy_answer, copy_rings, write_answer, write_to}
use Rattle.rules.specs.Outcomes.{Reaches, Plans, Cleans, Posts, Judges, Copies, Writes}
use Rattle.rules.specs.declared.Micrometres.{Micrometres}
use Rattle.rules.specs.declared.Pixels.{Pixels}
use Rattle.rules.specs.declared.Settings.{Settings}
use Rattle.rules.specs.declared.Reached.{Reached}
use Rattle.rules.specs.declared.Planned.{Planned}
use Rattle.rules.specs.declared.Judged.{Judged}
use Rattle.rules.specs.declared.CopiedRings.{CopiedRings}
use Rattle.rules.specs.declared.WrittenJob.{WrittenJob}
use Rattle.answers.specs.Packed.{um, job_of, pack_reached, pack_planned, pack_judged, pack_read, pack_copied, pack_written, told_in, part_stretch, support_stretch}

-- kg_reach, kg_check, kg_part, kg_support: only a number comes back -----------------------------------------------------------

pub record KgReaches (pitch overhang r : ℕ) : Type 0 where
  pub answer : r ≡ pack_reached (reach_answer (um pitch) (um overhang))

pub kg_reach_settled : (pitch overhang r q : ℕ) → KgReaches pitch overhang r → KgReaches pitch overhang q → r ≡ q
kg_reach_settled pitch overhang r q x y = x.answer ∙ sym y.answer

pub reach_packed : (pitch overhang r : ℕ) (a : Reached) → Reaches (um pitch) (um overhang) a → r ≡ pack_reached a → KgReaches pitch overhang r
reach_packed pitch overhang r a x e = record { answer = e ∙ ap pack_reached x.answer }

pub record KgJudges (s : Settings) (part sup ring : List ℕ) (r : ℕ) : Type 0 where
  pub answer : r ≡ pack_judged (judge_answer s part sup ring)

pub kg_check_settled : (s : Settings) (part sup ring : List ℕ) (r q : ℕ) → KgJudges s part sup ring r → KgJudges s part sup ring q → r ≡ q
kg_check_settled s part sup ring r q x y = x.answer ∙ sym y.answer

pub check_packed : (s t : Settings) (part sup ring : List ℕ) (r : ℕ) (a : Judged) → s ≡ t → Judges s part sup ring a → r ≡ pack_judged a → KgJudges t part sup ring r
check_packed s t part sup ring r a same x e = let k : KgJudges s part sup ring r = record { answer = e ∙ ap pack_judged x.answer } in rw same at k

pub record KgHandsPart (f : List ℕ) (r : ℕ) : Type 0 where
  pub answer : r ≡ part_stretch f

pub kg_part_settled : (f : List ℕ) (r q : ℕ) → KgHandsPart f r → KgHandsPart f q → r ≡ q
kg_part_settled f r q x y = x.answer ∙ sym y.answer

pub record KgHandsSupport (f : List ℕ) (r : ℕ) : Type 0 where
  pub answer : r ≡ support_stretch f

pub kg_support_settled : (f : List ℕ) (r q : ℕ) → KgHandsSupport f r → KgHandsSupport f q → r ≡ q
kg_support_settled f r q x y = x.answer ∙ sym y.answer

-- kg_plan: support and rings are lent -----------------------------------------------------------------------------------------

pub record KgPlans (s : Settings) (part sup ring : List ℕ) (r : ℕ) (sup' ring' : List ℕ) : Type 0 where
  pub answer : r ≡ pack_planned (plan_answer s part (length sup) (length ring))
  pub support : sup' ≡ plan_support s part sup ring
  pub rings : ring' ≡ plan_rings s part sup ring

pub kg_plan_settled : (s : Settings) (part sup ring : List ℕ) (r q : ℕ) (a b c d : List ℕ) → KgPlans s part sup ring r a b → KgPlans s part sup ring q c d → (r ≡ q) × (a ≡ c) × (b ≡ d)
kg_plan_settled s part sup ring r q a b c d x y = (x.answer ∙ sym y.answer, x.support ∙ sym y.support, x.rings ∙ sym y.rings)

pub plan_packed : (s t : Settings) (part sup ring : List ℕ) (r : ℕ) (a : Planned) (sup' ring' : List ℕ) → s ≡ t → Plans s part sup ring a sup' ring' → r ≡ pack_planned a →
    KgPlans t part sup ring r sup' ring'
plan_packed s t part sup ring r a sup' ring' same x e =
    let k : KgPlans s part sup ring r sup' ring' = record { answer = e ∙ ap pack_planned x.answer; support = x.support; rings = x.rings } in
    rw same at k

-- kg_clean: support, rings and cleaned support are lent ------------------------------------------------------------------------

pub record KgCleans (s : Settings) (c : Pixels) (part sup ring clean : List ℕ) (r : ℕ) (sup' ring' clean' : List ℕ) : Type 0 where
  pub answer : r ≡ pack_planned (clean_answer s c part (length sup) (length ring) (length clean))
  pub support : sup' ≡ clean_support s c part sup ring clean
  pub rings : ring' ≡ clean_rings s c part sup ring clean
  pub cleaned : clean' ≡ clean_cleaned s c part sup ring clean

pub kg_clean_settled : (s : Settings) (c : Pixels) (part sup ring clean : List ℕ) (r q : ℕ) (a b d a' b' d' : List ℕ) → KgCleans s c part sup ring clean r a b d → KgCleans s c part sup ring clean q a' b' d' → (r ≡ q) × (a ≡ a') × (b ≡ b') × (d ≡ d')
kg_clean_settled s c part sup ring clean r q a b d a' b' d' x y =
    (x.answer ∙ sym y.answer, x.support ∙ sym y.support, x.rings ∙ sym y.rings, x.cleaned ∙ sym y.cleaned)

pub clean_packed : (s t : Settings) (c : Pixels) (part sup ring clean : List ℕ) (r : ℕ) (a : Planned) (sup' ring' clean' : List ℕ) → s ≡ t → Cleans s c part sup ring clean a sup' ring' clean' →
    r ≡ pack_planned a → KgCleans t c part sup ring clean r sup' ring' clean'
clean_packed s t c part sup ring clean r a sup' ring' clean' same x e =
    let k : KgCleans s c part sup ring clean r sup' ring' clean' = record { answer = e ∙ ap pack_planned x.answer; support = x.support; rings = x.rings; cleaned = x.cleaned } in
    rw same at k

-- kg_posts: the posts are lent ----------------------------------------------------------------------------------------------------

pub record KgPosts (s : Settings) (radius : Micrometres) (part old : List ℕ) (r : ℕ) (new : List ℕ) : Type 0 where
  pub answer : r ≡ pack_planned (posts_answer s radius part (length old))
  pub posts : new ≡ posts_posts s radius part old

pub kg_posts_settled : (s : Settings) (radius : Micrometres) (part old : List ℕ) (r q : ℕ) (a b : List ℕ) → KgPosts s radius part old r a → KgPosts s radius part old q b → (r ≡ q) × (a ≡ b)
kg_posts_settled s radius part old r q a b x y = (x.answer ∙ sym y.answer, x.posts ∙ sym y.posts)

pub posts_packed : (s t : Settings) (radius : Micrometres) (part old : List ℕ) (r : ℕ) (a : Planned) (new : List ℕ) → s ≡ t → Posts s radius part old a new → r ≡ pack_planned a → KgPosts t radius part old r new
posts_packed s t radius part old r a new same x e =
    let k : KgPosts s radius part old r new = record { answer = e ∙ ap pack_planned x.answer; posts = x.posts } in
    rw same at k

-- kg_read: room for what is told is lent ----------------------------------------------------------------------------------------

pub record KgReads (f room : List ℕ) (r : ℕ) (room' : List ℕ) : Type 0 where
  pub answer : r ≡ pack_read (read_answer f)
  pub told : room' ≡ told_in f room

pub kg_read_settled : (f room : List ℕ) (r q : ℕ) (a b : List ℕ) → KgReads f room r a → KgReads f room q b → (r ≡ q) × (a ≡ b)
kg_read_settled f room r q a b x y = (x.answer ∙ sym y.answer, x.told ∙ sym y.told)

-- kg_copy_rings: the rings are lent ----------------------------------------------------------------------------------------------

pub record KgCopies (f ring : List ℕ) (r : ℕ) (ring' : List ℕ) : Type 0 where
  pub answer : r ≡ pack_copied (copy_answer f (length ring))
  pub rings : ring' ≡ copy_rings f ring

pub kg_copy_settled : (f ring : List ℕ) (r q : ℕ) (a b : List ℕ) → KgCopies f ring r a → KgCopies f ring q b → (r ≡ q) × (a ≡ b)
kg_copy_settled f ring r q a b x y = (x.answer ∙ sym y.answer, x.rings ∙ sym y.rings)

pub copy_packed : (f ring : List ℕ) (r : ℕ) (a : CopiedRings) (ring' : List ℕ) → Copies f ring a ring' → r ≡ pack_copied a → KgCopies f ring r ring'
copy_packed f ring r a ring' x e = record { answer = e ∙ ap pack_copied x.answer; rings = x.rings }

-- kg_write: the destination is lent ------------------------------------------------------------------------------------------------

pub record KgWrites (j : Job) (out : List ℕ) (r : ℕ) (out' : List ℕ) : Type 0 where
  pub answer : r ≡ pack_written (write_answer j (length out))
  pub destination : out' ≡ write_to j out

pub kg_write_settled : (j : Job) (out : List ℕ) (r q : ℕ) (a b : List ℕ) → KgWrites j out r a → KgWrites j out q b → (r ≡ q) × (a ≡ b)
kg_write_settled j out r q a b x y = (x.answer ∙ sym y.answer, x.destination ∙ sym y.destination)

pub write_packed : (s t : Settings) (part sup ring out : List ℕ) (r : ℕ) (a : WrittenJob) (out' : List ℕ) → s ≡ t → Writes (job_of s part sup ring) out a out' → r ≡ pack_written a →
    KgWrites (job_of t part sup ring) out r out'
write_packed s t part sup ring out r a out' same x e =
    let k : KgWrites (job_of s part sup ring) out r out' = record { answer = e ∙ ap pack_written x.answer; destination = x.destination } in
    rw same at k
