use Rattle.tb_file.proofs.Taking.{puts_none}
use Rattle.tb_file.proofs.putting.make_room.Goals as goal

pub returns-then-waiting_bytes-clause-puts : goal.returns-then-waiting_bytes-clause-puts
returns-then-waiting_bytes-clause-puts g c =
    puts_none g.N.Device.disk g.N.Device.tells c.args.journal.now (λ t. g.met.N.Device.only_now c.args.journal.now.device) c.requires.usable c.requires.ready
