use Rattle.std.proofs.Common.{refl}
use Rattle.tb_edge_file.proofs.executing.perform.Goals as goal

pub returns-in-Run : goal.returns-in-Run
returns-in-Run g c =
    rw c.in-Run.is (rw (c.file_start-file.ensures.path, c.file_start-file.ensures.rules, c.file_start-file.ensures.reports, c.file_start-file.ensures.existing, c.rules_of-rules.ensures) at c.run_over.ensures)

pub returns-in-Follow : goal.returns-in-Follow
returns-in-Follow g c = rw c.in-Follow.is (refl, refl, rw c.rules_of-rules-in-Follow.ensures at c.follow_log.ensures)

pub returns-in-Dump : goal.returns-in-Dump
returns-in-Dump g c = rw c.in-Dump.is (refl, refl, c.dump_over.ensures)

pub returns-in-Check : goal.returns-in-Check
returns-in-Check g c = rw c.in-Check.is (refl, refl, c.check_over.ensures)

pub returns-in-Salvage : goal.returns-in-Salvage
returns-in-Salvage g c = rw c.in-Salvage.is (refl, refl, c.copy_over.ensures)

pub returns-in-Backup : goal.returns-in-Backup
returns-in-Backup g c = rw c.in-Backup.is (refl, refl, c.copy_over-in-Backup.ensures)

pub returns-in-Help : goal.returns-in-Help
returns-in-Help g c = rw (c.in-Help.is, ← c.page.ensures) (refl, refl, refl, c.print.ensures)

pub returns-in-Version : goal.returns-in-Version
returns-in-Version g c = rw c.in-Version.is (refl, refl, refl, c.print-in-Version.ensures)
