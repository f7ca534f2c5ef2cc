-- Rule 6.8: for each call one record of its outcome, the answer and the later contents of all lent memory. A call's
-- contract is its record, for accepted and refused input alike, and the laws show that no record allows two outcomes (Outcomes of crate laws).
use Rattle.std.specs.Prelude.{◌≡◌, Bool, List, ℕ, length}
use Rattle.rules.specs.Jobs.{Job, over}
use Rattle.rules.specs.Calls.{reach_answer, plan_answer, plan_support, plan_rings, judge_answer, read_answer, part_answer, support_answer, copy_answer, copy_rings}
use Rattle.rules.specs.Calls.{clean_answer, clean_support, clean_rings, clean_cleaned, posts_answer, posts_posts, write_answer, write_to}
use Rattle.rules.specs.Report.{text_of}
use Rattle.rules.specs.declared.Micrometres.{Micrometres}
use Rattle.rules.specs.declared.Pixels.{Pixels}
use Rattle.rules.specs.declared.Settings.{Settings}
use Rattle.rules.specs.declared.Reached.{Reached}
use Rattle.rules.specs.declared.Planned.{Planned}
use Rattle.rules.specs.declared.Judged.{Judged}
use Rattle.rules.specs.declared.ReadJob.{ReadJob}
use Rattle.rules.specs.declared.CopiedRings.{CopiedRings}
use Rattle.rules.specs.declared.WrittenJob.{WrittenJob}

-- reach: nothing is lent
pub record Reaches (p t : Micrometres) (r : Reached) : Type 0 where
  pub answer : r ≡ reach_answer p t

-- plan: sup and ring are what the lent support and rings held, sup' and ring' what they hold afterwards
pub record Plans (s : Settings) (part sup ring : List ℕ) (r : Planned) (sup' ring' : List ℕ) : Type 0 where
  pub answer : r ≡ plan_answer s part (length sup) (length ring)
  pub support : sup' ≡ plan_support s part sup ring
  pub rings : ring' ≡ plan_rings s part sup ring

-- clean: the same of support and rings, and with clean and clean' of the cleaned support
pub record Cleans (s : Settings) (c : Pixels) (part sup ring clean : List ℕ) (r : Planned) (sup' ring' clean' : List ℕ) : Type 0 where
  pub answer : r ≡ clean_answer s c part (length sup) (length ring) (length clean)
  pub support : sup' ≡ clean_support s c part sup ring clean
  pub rings : ring' ≡ clean_rings s c part sup ring clean
  pub cleaned : clean' ≡ clean_cleaned s c part sup ring clean

-- posts: old and new are what the lent memory held and holds afterwards
pub record Posts (s : Settings) (r : Micrometres) (part old : List ℕ) (a : Planned) (new : List ℕ) : Type 0 where
  pub answer : a ≡ posts_answer s r part (length old)
  pub posts : new ≡ posts_posts s r part old

-- check: what is lent is only read
pub record Judges (s : Settings) (part sup ring : List ℕ) (r : Judged) : Type 0 where
  pub answer : r ≡ judge_answer s part sup ring

-- read, part and support: the file is only read; a stretch of it is handed back
pub record Reads (f : List ℕ) (r : ReadJob) : Type 0 where
  pub answer : r ≡ read_answer f

pub record HandsPart (f part : List ℕ) : Type 0 where
  pub stretch : part ≡ part_answer f

pub record HandsSupport (f sup : List ℕ) : Type 0 where
  pub stretch : sup ≡ support_answer f

-- copy rings: the rings are lent
pub record Copies (f ring : List ℕ) (r : CopiedRings) (ring' : List ℕ) : Type 0 where
  pub answer : r ≡ copy_answer f (length ring)
  pub rings : ring' ≡ copy_rings f ring

-- write: the destination is lent
pub record Writes (j : Job) (out : List ℕ) (r : WrittenJob) (out' : List ℕ) : Type 0 where
  pub answer : r ≡ write_answer j (length out)
  pub destination : out' ≡ write_to j out

-- report: a buffer for the text is lent; `more` says that the input goes on after f
pub record Reports (f : List ℕ) (more : Bool) (out : List ℕ) (r : ℕ) (out' : List ℕ) : Type 0 where
  pub answer : r ≡ length (text_of f more)
  pub destination : out' ≡ over out 0 (text_of f more)
