use Rattle.kitegimlet.specs.Reading.{support_room, support_yes, support_no}
use Rattle.kitegimlet.proofs.kg_support.Goals as goal

pub support_stretch-requires : goal.support_stretch-requires
support_stretch-requires c = support_room c.args.file.now c.read.result c.read.ensures c.in-Job.l c.in-Job.is

pub returns-in-Job : goal.returns-in-Job
returns-in-Job c = support_yes c.args.file.now c.read.result c.read.ensures c.in-Job.l c.support_stretch.result c.in-Job.is
    c.support_stretch.ensures

pub returns-in-Refused : goal.returns-in-Refused
returns-in-Refused c = support_no c.args.file.now c.read.result c.read.ensures c.in-Refused.field-0 c.in-Refused.is
