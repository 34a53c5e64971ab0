use Rattle.std.proofs.Common.{Ok, Err, refl}
use Rattle.tb_edge_file.proofs.commands.dump_over.Goals as goal

pub returns-in-Ok : goal.returns-in-Ok
returns-in-Ok g c = (
  c.open-opened.new.self,
  record {
    answer = Ok c.in-Ok.device;
    answered = c.in-Ok.ensures;
    done = record {
      after = c.dump_part-dumped.new.device;
      followed = c.dump_part-dumped.result;
      outcome_is = c.ended_by.ensures;
      ends = c.dump_part-dumped.ensures.ends;
      dumps = c.dump_part-dumped.ensures.dumps;
    };
  },
)

pub returns-in-Err : goal.returns-in-Err
returns-in-Err g c = (c.open-opened.new.self, record { answer = Err c.in-Err.fault; answered = c.in-Err.ensures; done = (refl, (refl, refl)) })
