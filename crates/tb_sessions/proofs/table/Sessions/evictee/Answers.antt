use Rattle.std.proofs.Common.{arith, ◌≤◌, length}
use Rattle.avl_tree.specs.Map.{entries}
use Rattle.std.proofs.Common.{sym}
use Rattle.tb_sessions.proofs.Index.{evictee_is, none_first}
use Rattle.tb_sessions.proofs.table.Sessions.evictee.Goals as goal

pub returns-in-Some : goal.returns-in-Some
returns-in-Some c =
    let full : c.self.inside.clients_max ≤ length (entries c.self.inside.rows) = omega (arith, c.if-len-self.false, c.len.ensures.length) in
    rw (← c.self.view_is) (evictee_is c.self.invariant full c.in-Some.field-0-0.now c.in-Some.client.now (sym c.in-Some.ensures.pair))

pub returns-in-None : goal.returns-in-None
returns-in-None c =
    let full : c.self.inside.clients_max ≤ length (entries c.self.inside.rows) = omega (arith, c.if-len-self.false, c.len.ensures.length) in
    absurd (none_first c.self.invariant.indexed full (sym c.in-None.ensures.pair))
