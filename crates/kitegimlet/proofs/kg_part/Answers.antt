use Rattle.kitegimlet.specs.Reading.{part_room, part_yes, part_no}
use Rattle.kitegimlet.proofs.kg_part.Goals as goal

pub part_stretch-requires : goal.part_stretch-requires
part_stretch-requires c = part_room c.args.file.now c.read.result c.read.ensures c.in-Job.l c.in-Job.is

pub returns-in-Job : goal.returns-in-Job
returns-in-Job c = part_yes c.args.file.now c.read.result c.read.ensures c.in-Job.l c.part_stretch.result c.in-Job.is c.part_stretch.ensures

pub returns-in-Refused : goal.returns-in-Refused
returns-in-Refused c = part_no c.args.file.now c.read.result c.read.ensures c.in-Refused.field-0 c.in-Refused.is
