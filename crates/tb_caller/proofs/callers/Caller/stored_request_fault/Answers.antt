use Rattle.std.proofs.Common.{rules}
use Rattle.tb_caller.proofs.callers.Caller.stored_request_fault.Goals as goal

pub returns-then-session-self : goal.returns-then-session-self
returns-then-session-self c = search rules

pub returns-then-request-self : goal.returns-then-request-self
returns-then-request-self c = search rules

pub returns : goal.returns
returns c = search rules
