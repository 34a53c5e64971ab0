use Rattle.tb_edge_file.proofs.lines.put_opening.Goals as goal

pub returns-in-Locked : goal.returns-in-Locked
returns-in-Locked g c = rw c.in-Locked.is c.put_named.ensures

pub returns-in-Missing : goal.returns-in-Missing
returns-in-Missing g c = rw c.in-Missing.is c.put_named-in-Missing.ensures

pub returns-in-Unopened : goal.returns-in-Unopened
returns-in-Unopened g c = rw c.in-Unopened.is c.put_named-in-Unopened.ensures

pub returns-in-SyncFailed : goal.returns-in-SyncFailed
returns-in-SyncFailed g c = rw c.in-SyncFailed.is c.put_named-in-SyncFailed.ensures

pub returns-in-Exists : goal.returns-in-Exists
returns-in-Exists g c = rw c.in-Exists.is c.put_named-in-Exists.ensures

pub returns-in-NotAFile : goal.returns-in-NotAFile
returns-in-NotAFile g c = rw c.in-NotAFile.is c.put_named-in-NotAFile.ensures

pub returns-in-Dangling : goal.returns-in-Dangling
returns-in-Dangling g c = rw c.in-Dangling.is c.put_named-in-Dangling.ensures

pub returns-in-Unread : goal.returns-in-Unread
returns-in-Unread g c = rw c.in-Unread.is c.put_named-in-Unread.ensures

pub returns-in-Empty : goal.returns-in-Empty
returns-in-Empty g c = rw c.in-Empty.is c.put_named-in-Empty.ensures

pub returns-in-Full : goal.returns-in-Full
returns-in-Full g c = rw c.in-Full.is c.put_named-in-Full.ensures

pub returns-in-ReadOnly : goal.returns-in-ReadOnly
returns-in-ReadOnly g c = rw c.in-ReadOnly.is c.put_named-in-ReadOnly.ensures

pub returns-in-TooMany : goal.returns-in-TooMany
returns-in-TooMany g c = rw c.in-TooMany.is c.put_named-in-TooMany.ensures

pub returns-in-Forbidden : goal.returns-in-Forbidden
returns-in-Forbidden g c = rw c.in-Forbidden.is c.put_named-in-Forbidden.ensures
