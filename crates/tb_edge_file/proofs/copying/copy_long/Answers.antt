use Rattle.std.proofs.Common.{Ok, Err, refl}
use Rattle.tb_edge_file.proofs.CopiedFiles.{copy_is}
use Rattle.tb_edge_file.proofs.copying.copy_long.Goals as goal

pub returns-in-Ok : goal.returns-in-Ok
returns-in-Ok g c = record {
  result = Ok c.in-Ok.salvaged;
  between = c.salvage.new.from;
  copying = record {
    unsalvaged = c.in-Ok.ensures.unsalvaged;
    any_moment = c.in-Ok.ensures.any_moment;
    cause_new = c.in-Ok.ensures.cause_new;
    same = c.in-Ok.ensures.same;
    untouched = c.in-Ok.ensures.untouched;
    cause_old = c.in-Ok.ensures.cause_old;
  };
  copies = (
    copy_is g.N.Device (g.D.Device.holds c.args.from.now) c.args.len c.in-Ok.salvaged c.in-Ok.ensures.salvaged,
    c.end_by.ensures,
  );
}

pub returns-in-Err : goal.returns-in-Err
returns-in-Err g c = record {
  result = Err c.in-Err.failed;
  between = c.salvage.new.from;
  copying = record {
    unsalvaged = c.in-Err.ensures.unsalvaged;
    any_moment = c.in-Err.ensures.any_moment;
    cause_new = c.in-Err.ensures.cause_new;
    same = c.in-Err.ensures.same;
    untouched = c.in-Err.ensures.untouched;
    cause_old = c.in-Err.ensures.cause_old;
  };
  copies = (c.uncopied.result, refl, c.uncopied.ensures);
}

pub end_by-requires-clause-usable : goal.end_by-requires-clause-usable
end_by-requires-clause-usable g c = c.in-Ok.ensures.salvaged.keeper.usable

pub end_by-requires-clause-fresh : goal.end_by-requires-clause-fresh
end_by-requires-clause-fresh g c t = (c.in-Ok.ensures.salvaged.keeper.kept t).fresh
