use mathlib.Core.Path.{refl}
use Rattle.rules.specs.Calls.{says_refusal}
use Rattle.rules.specs.Report.{refused_line}
use Rattle.lines.specs.Lines.{◌then◌, wrote_front, wrote_long, refused_long}
use native.Mathlib.Omega.{arith}
use Rattle.lines.proofs.refused_line.Goals as goal

pub put_word-word-requires : goal.put_word-word-requires
put_word-word-requires c = omega (arith, c.requires, refused_long (says_refusal c.args.refusal))

pub put_refusal-said-requires : goal.put_refusal-said-requires
put_refusal-said-requires c = omega (arith, c.requires, c.put_word-word.ensures.ends, c.put_word-word.auto.out, refused_long (says_refusal c.args.refusal))

pub put_byte-requires : goal.put_byte-requires
put_byte-requires c = let w = c.put_word-word.ensures in
    let u = c.put_refusal-said.ensures in
    omega (arith, c.requires, w.ends, wrote_long w, u.ends, wrote_long u, refused_long (says_refusal c.args.refusal))

pub returns : goal.returns
unfolding refused_line
returns c = wrote_front (c.put_word-word.ensures then c.put_refusal-said.ensures then c.put_byte.ensures) refl
