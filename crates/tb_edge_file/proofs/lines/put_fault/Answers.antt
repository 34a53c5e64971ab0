use Rattle.tb_edge_file.proofs.lines.put_fault.Goals as goal

pub returns-in-Usage : goal.returns-in-Usage
returns-in-Usage g c = rw c.in-Usage.is c.put_all.ensures

pub returns-in-NotAJournal : goal.returns-in-NotAJournal
returns-in-NotAJournal g c = rw c.in-NotAJournal.is c.put_kind.ensures

pub returns-in-NoHead : goal.returns-in-NoHead
returns-in-NoHead g c = rw c.in-NoHead.is c.put_named.ensures

pub returns-in-OtherRules : goal.returns-in-OtherRules
returns-in-OtherRules g c = rw c.in-OtherRules.is c.put_mismatch.ensures

pub returns-in-Full : goal.returns-in-Full
returns-in-Full g c = rw c.in-Full.is c.put_named-in-Full.ensures

pub returns-in-SyncFailed : goal.returns-in-SyncFailed
returns-in-SyncFailed g c = rw c.in-SyncFailed.is c.put_named-in-SyncFailed.ensures

pub returns-in-Gone : goal.returns-in-Gone
returns-in-Gone g c = rw c.in-Gone.is c.put_named-in-Gone.ensures

pub returns-in-Request : goal.returns-in-Request
returns-in-Request g c = rw c.in-Request.is (rw c.name.ensures at c.put_both.ensures)

pub returns-in-Damaged : goal.returns-in-Damaged
returns-in-Damaged g c = rw c.in-Damaged.is (rw c.next_of.ensures at c.put_damaged.ensures)
