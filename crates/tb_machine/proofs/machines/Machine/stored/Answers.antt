use Rattle.tb_machine.proofs.machines.Machine.stored.Goals as goal

pub returns : goal.returns
returns g c = rw (← c.self.view_is) c.stored.ensures
