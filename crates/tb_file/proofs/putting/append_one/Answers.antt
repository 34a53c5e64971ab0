use Rattle.tb_file.proofs.Taking.{puts_append, waits_more}
use Rattle.tb_file.proofs.putting.append_one.Goals as goal

pub returns-clause-puts : goal.returns-clause-puts
returns-clause-puts g c =
    puts_append g.N.Device.disk g.N.Device.tells c.args.journal.now c.append.new.self c.args.bytes.now c.requires.short c.requires.room (λ t. g.met.N.Device.only_now c.args.journal.now.device) c.requires.ready
    c.append.result c.requires.usable c.append.ensures.ok c.append.ensures.err c.append.ensures.long c.append.ensures.full c.append.ensures.failed c.append.ensures.not_empty c.append.ensures.synced

pub returns-clause-waits : goal.returns-clause-waits
returns-clause-waits g c = waits_more c.args.journal.now c.append.new.self c.args.bytes.now c.append.result c.append.ensures.ok
