use Rattle.kitegimlet.specs.Reading.{read_told, read_kept}
use Rattle.kitegimlet.proofs.kg_read.Goals as goal

pub returns-in-Job : goal.returns-in-Job
returns-in-Job c = read_told c.args.file.now c.read.result c.read.ensures c.in-Job.l c.args.room.now c.write_layout.new.room c.in-Job.is
    c.write_layout.ensures

pub returns-in-Refused : goal.returns-in-Refused
returns-in-Refused c = read_kept c.args.file.now c.read.result c.read.ensures c.in-Refused.r c.pack_refusal.result c.args.room.now
    c.in-Refused.is c.pack_refusal.ensures
