-- "Any two outcomes it allows are proved equal": no record of Outcomes of crate rules, which the calls' contracts are, allows two outcomes for one input.
use Rattle.std.specs.Prelude.{◌≡◌, Bool, List, ℕ}
use Rattle.std.proofs.Common.{sym, ◌∙◌}
use Rattle.rules.specs.Jobs.{Job}
use Rattle.rules.specs.Outcomes.{Reaches, Plans, Cleans, Posts, Judges, Reads, HandsPart, HandsSupport, Copies, Writes, Reports}
use Rattle.rules.specs.declared.Micrometres.{Micrometres}
use Rattle.rules.specs.declared.Pixels.{Pixels}
use Rattle.rules.specs.declared.Settings.{Settings}
use Rattle.rules.specs.declared.Reached.{Reached}
use Rattle.rules.specs.declared.Planned.{Planned}
use Rattle.rules.specs.declared.Judged.{Judged}
use Rattle.rules.specs.declared.ReadJob.{ReadJob}
use Rattle.rules.specs.declared.CopiedRings.{CopiedRings}
use Rattle.rules.specs.declared.WrittenJob.{WrittenJob}

both : {A : Type 0} {x y z : A} → x ≡ z → y ≡ z → x ≡ y
both p q = p ∙ sym q

pub reach_settled : (p t : Micrometres) (r r' : Reached) → Reaches p t r → Reaches p t r' → r ≡ r'
reach_settled p t r r' a b = both a.answer b.answer

pub plan_settled : (s : Settings) (part sup ring : List ℕ) (r q : Planned) (a b c d : List ℕ) → Plans s part sup ring r a b → Plans s part sup ring q c d → (r ≡ q) × (a ≡ c) × (b ≡ d)
plan_settled s part sup ring r q a b c d x y = (both x.answer y.answer, both x.support y.support, both x.rings y.rings)

pub clean_settled : (s : Settings) (c : Pixels) (part sup ring clean : List ℕ) (r q : Planned) (a b d a' b' d' : List ℕ) → Cleans s c part sup ring clean r a b d → Cleans s c part sup ring clean q a' b' d' → (r ≡ q) × (a ≡ a') × (b ≡ b') × (d ≡ d')
clean_settled s c part sup ring clean r q a b d a' b' d' x y =
    (both x.answer y.answer, both x.support y.support, both x.rings y.rings, both x.cleaned y.cleaned)

pub posts_settled : (s : Settings) (r : Micrometres) (part old : List ℕ) (a b : Planned) (c d : List ℕ) → Posts s r part old a c → Posts s r part old b d → (a ≡ b) × (c ≡ d)
posts_settled s r part old a b c d x y = (both x.answer y.answer, both x.posts y.posts)

pub judge_settled : (s : Settings) (part sup ring : List ℕ) (r q : Judged) → Judges s part sup ring r → Judges s part sup ring q → r ≡ q
judge_settled s part sup ring r q x y = both x.answer y.answer

pub read_settled : (f : List ℕ) (r q : ReadJob) → Reads f r → Reads f q → r ≡ q
read_settled f r q x y = both x.answer y.answer

-- what the two stretches hold; where they stand is told by reading (part_stands and support_stands of Offsets)
pub part_settled : (f a b : List ℕ) → HandsPart f a → HandsPart f b → a ≡ b
part_settled f a b x y = both x.stretch y.stretch

pub support_settled : (f a b : List ℕ) → HandsSupport f a → HandsSupport f b → a ≡ b
support_settled f a b x y = both x.stretch y.stretch

pub copy_settled : (f ring : List ℕ) (r q : CopiedRings) (a b : List ℕ) → Copies f ring r a → Copies f ring q b → (r ≡ q) × (a ≡ b)
copy_settled f ring r q a b x y = (both x.answer y.answer, both x.rings y.rings)

pub write_settled : (j : Job) (out : List ℕ) (r q : WrittenJob) (a b : List ℕ) → Writes j out r a → Writes j out q b → (r ≡ q) × (a ≡ b)
write_settled j out r q a b x y = (both x.answer y.answer, both x.destination y.destination)

pub report_settled : (f : List ℕ) (more : Bool) (out : List ℕ) (r q : ℕ) (a b : List ℕ) → Reports f more out r a → Reports f more out q b → (r ≡ q) × (a ≡ b)
report_settled f more out r q a b x y = (both x.answer y.answer, both x.destination y.destination)
