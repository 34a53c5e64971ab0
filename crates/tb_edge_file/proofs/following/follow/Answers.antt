use Rattle.std.proofs.Common.{Ok, Err, refl}
use Rattle.tb_edge_file.proofs.Waitings.{unwaited}
use Rattle.tb_edge_file.proofs.following.follow.Goals as goal

pub returns-in-Ok : goal.returns-in-Ok
returns-in-Ok g c = record {
  dumps = record {
    found = Ok c.in-Ok.found;
    between = c.read_whole.new.device;
    whole = record { found_is = c.in-Ok.ensures.found; same = c.in-Ok.ensures.same; cause = c.in-Ok.ensures.cause };
    writes = record { writes = c.part_found.ensures.writes; cause = c.part_found.ensures.cause };
  };
  ends = c.part_found.ensures.ends;
}

pub returns-in-Err : goal.returns-in-Err
returns-in-Err g c = record {
  dumps = record {
    found = Err c.in-Err.fault;
    between = c.read_whole.new.device;
    whole = record { found_is = c.in-Err.ensures.found; same = c.in-Err.ensures.same; cause = c.in-Err.ensures.cause };
    writes = (record { named = c.named.result; outcome_is = refl; names = c.named.ensures }, refl);
  };
  ends = unwaited (λ at. g.O.Opener.pauses at c.args.name.now) c.args.part.follows c.named.result c.args.opener.now;
}
