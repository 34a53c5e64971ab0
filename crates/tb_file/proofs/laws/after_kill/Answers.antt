use Rattle.tb_file.proofs.Crashes.{after_kill}
use Rattle.tb_file.proofs.laws.after_kill.Goals as goal

pub returns : goal.returns
returns g c = after_kill g.D.Device.tells g.D.Device.disk g.met.D.Device.only_now g.met.D.Device.counts_now g.met.D.Device.stays
