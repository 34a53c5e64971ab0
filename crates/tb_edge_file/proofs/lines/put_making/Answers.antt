use Rattle.tb_edge_file.proofs.lines.put_making.Goals as goal

pub returns-in-SyncFailed : goal.returns-in-SyncFailed
returns-in-SyncFailed g c = rw c.in-SyncFailed.is c.put_named.ensures

pub returns-in-Unread : goal.returns-in-Unread
returns-in-Unread g c = rw c.in-Unread.is c.put_named-in-Unread.ensures

pub returns-in-Full : goal.returns-in-Full
returns-in-Full g c = rw c.in-Full.is c.put_named-in-Full.ensures

pub returns-in-Locked : goal.returns-in-Locked
returns-in-Locked g c = rw c.in-Locked.is c.put_named-in-Locked.ensures

pub returns-in-NotAFile : goal.returns-in-NotAFile
returns-in-NotAFile g c = rw c.in-NotAFile.is c.put_named-in-NotAFile.ensures
