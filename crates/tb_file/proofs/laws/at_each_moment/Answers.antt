use Rattle.tb_file.proofs.AtMoments.{at_each_moment, at_the_end, all_served}
use Rattle.tb_file.proofs.Moments.{replied_behind}
use Rattle.tb_file.proofs.laws.at_each_moment.Goals as goal

pub returns-clause-moments : goal.returns-clause-moments
returns-clause-moments g c = at_each_moment g.D.Device.tells g.D.Device.disk g.met.D.Device.only_now

pub returns-clause-ended : goal.returns-clause-ended
returns-clause-ended g c = at_the_end g.D.Device.tells g.D.Device.disk g.met.D.Device.only_now g.met.D.Device.counts_now

pub returns-clause-replied : goal.returns-clause-replied
returns-clause-replied g c = replied_behind g.D.Device.tells g.D.Device.disk

pub returns-clause-served : goal.returns-clause-served
returns-clause-served g c = all_served g.D.Device.tells g.D.Device.disk
