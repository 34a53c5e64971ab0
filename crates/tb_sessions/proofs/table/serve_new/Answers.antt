use Rattle.std.proofs.Common.{rules}
use Rattle.tb_sessions.proofs.table.serve_new.Goals as goal

pub serve-requires : goal.serve-requires
serve-requires g c = search rules

pub returns-in-New-clause-new : goal.returns-in-New-clause-new
returns-in-New-clause-new g c = search rules
