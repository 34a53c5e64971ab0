use Rattle.tb_ledger.proofs.Common.{sym, arith, entries}
use Rattle.tb_ledger.proofs.Entries.{first-found, first-later}
use Rattle.tb_ledger.proofs.tables.timeouts.first_due.Goals as goal

pub returns-then-at-time : goal.returns-then-at-time
returns-then-at-time g c = (c.if-at-time.true, first-found (c.in_ok-key.key.now, c.in_ok-key.field-0-1.now) (entries c.args.keys.now) (sym c.in_ok-key.ensures.pair))

pub returns-else-at-time : goal.returns-else-at-time
returns-else-at-time g c = first-later c.args.time (c.in_ok-key.key.now, c.in_ok-key.field-0-1.now) (entries c.args.keys.now) c.requires (sym c.in_ok-key.ensures.pair) (omega (arith, c.if-at-time.false))
