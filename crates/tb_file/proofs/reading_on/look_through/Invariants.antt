use Rattle.std.proofs.Common.{ℕ, List, ◌≡◌, ◌-◌, ◌^◌, true}
use Rattle.tb_file_journal.specs.Ready.{IsReady}
use Rattle.tb_file.specs.RecordSteps.{StaysKept}
use Rattle.tb_file.specs.private.Behind.{TakenOn}
use Rattle.tb_file.specs.private.Taking.{StaysUsed}
use Rattle.tb_file.proofs.reading_on.look_through.Given as goal

-- the records so far were copied
abbrev pub invariant-loop-on : goal.invariant-loop-on
invariant-loop-on g l = record {
  same : (file : List ℕ) → g.D.Device.holds l.fn.from file → g.D.Device.holds l.from file;
  stays : g.D.Device.tells → StaysKept (g.D.Device.disk l.fn.from) (g.D.Device.disk l.from);
  usable : l.keeper.journal.usable ≡ true;
  used : StaysUsed l.fn.keeper l.keeper;
  ready : g.N.Device.tells → IsReady g.N.Device.disk l.keeper.journal;
  taken : (records : List (List ℕ)) × TakenOn g.N.Device.disk g.N.Device.tells (g.D.Device.holds l.fn.from) records l.fn.seek l.seek l.fn.keeper l.keeper;
}

abbrev pub decreases-loop-on : goal.decreases-loop-on
decreases-loop-on g l = 2 ^ 62 - l.seek.at
