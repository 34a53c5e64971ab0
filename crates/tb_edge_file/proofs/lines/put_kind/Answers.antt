use Rattle.tb_edge_file.proofs.lines.put_kind.Goals as goal

pub returns-in-Unread : goal.returns-in-Unread
returns-in-Unread g c = rw c.in-Unread.is c.put_all.ensures

pub returns-in-Empty : goal.returns-in-Empty
returns-in-Empty g c = rw c.in-Empty.is c.put_named.ensures

pub returns-in-Dump : goal.returns-in-Dump
returns-in-Dump g c = rw c.in-Dump.is c.put_named-in-Dump.ensures

pub returns-in-NoRecord : goal.returns-in-NoRecord
returns-in-NoRecord g c = rw c.in-NoRecord.is c.put_named-in-NoRecord.ensures

pub returns-in-Closed : goal.returns-in-Closed
returns-in-Closed g c = rw c.in-Closed.is c.put_named-in-Closed.ensures

pub returns-in-Begun : goal.returns-in-Begun
returns-in-Begun g c = rw c.in-Begun.is c.put_named-in-Begun.ensures

pub returns-in-Ledger : goal.returns-in-Ledger
returns-in-Ledger g c = rw c.in-Ledger.is c.put_named-in-Ledger.ensures

pub returns-in-Script : goal.returns-in-Script
returns-in-Script g c = rw c.in-Script.is c.put_named-in-Script.ensures

pub returns-in-Text : goal.returns-in-Text
returns-in-Text g c = rw c.in-Text.is c.put_named-in-Text.ensures

pub returns-in-Other : goal.returns-in-Other
returns-in-Other g c = rw c.in-Other.is c.put_named-in-Other.ensures
