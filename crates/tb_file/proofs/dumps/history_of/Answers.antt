use Rattle.std.proofs.Common.{◌≤◌, ◌^◌, ℕ, subst}
use Rattle.tb_file.proofs.TornBytes.{has_torn_start, history_torn}
use Rattle.tb_file.proofs.dumps.history_of.Goals as goal

pub returns-in-Err-clause-found : goal.returns-in-Err-clause-found
returns-in-Err-clause-found g c file holds found has history =
    history_torn c.in-Err.fault c.from.result c.from.ensures c.args.rules file has (c.in-Err.ensures.torn file holds found)

pub returns-in-Err-clause-cause : goal.returns-in-Err-clause-cause
returns-in-Err-clause-cause g c t = has_torn_start _ _ c.in-Err.fault c.from.result c.from.ensures (c.in-Err.ensures.cause t).cause

pub returns-in-Ok-clause-found : goal.returns-in-Ok-clause-found
returns-in-Ok-clause-found g c file holds found has history =
    let torn = c.in-Ok.ensures.torn file holds found in (history, found, subst (λ (n : ℕ). n ≤ 2 ^ 22) torn.0 torn.1)
