use Rattle.std.proofs.Common.{◌<◌}
use Rattle.tb_records.proofs.ByKey.{each-taken_out}
use Rattle.tb_sessions.specs.declared.rows.Row.{Row}
use Rattle.tb_sessions.specs.Judged.{client_of}
use Rattle.tb_sessions.proofs.LaterRows.{absent_without}
use Rattle.tb_sessions.proofs.table.Sessions.record.Goals as goal
use Rattle.tb_sessions.proofs.table.Sessions.record.Goals.{then-len-self, else-len-self}

pub put_in-requires-clause-absent : goal.put_in-requires-clause-absent
put_in-requires-clause-absent c =
    let unchanged = c.renew.ensures.absent c.if-renew.false in
    let row = unchanged.0 in
    let same = unchanged.2 in
    elim c.if-len-self.branch [
      | then-len-self w ↦ rw (w.self-is, row, same) unchanged.1
      | else-len-self w ↦ rw (w.self-is, w.drive_out.ensures.table, row, same) (absent_without c.args.self.now.rows c.args.row.client _ unchanged.1)
    ]

pub put_in-requires-clause-later : goal.put_in-requires-clause-later
put_in-requires-clause-later c =
    let unchanged = c.renew.ensures.absent c.if-renew.false in
    let row = unchanged.0 in
    let same = unchanged.2 in
    elim c.if-len-self.branch [
      | then-len-self w ↦ rw (w.self-is, row, same) c.requires.later
      | else-len-self w ↦ rw (w.self-is, w.drive_out.ensures.table, row, same) (each-taken_out client_of (λ (other : Row). other.commit < c.args.row.commit) _ c.args.self.now.rows c.requires.later)
    ]
