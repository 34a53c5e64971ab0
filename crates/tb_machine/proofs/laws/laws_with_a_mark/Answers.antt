use Rattle.tb_machine.proofs.LawProofs.{one_key_with, first_reply_with, stays_out_with}
use Rattle.tb_machine.proofs.RepeatLaws.{new_again_with}
use Rattle.tb_machine.proofs.SoundBooks.{limits_hold_with, ledgers_balance_with}
use Rattle.tb_machine.proofs.laws.laws_with_a_mark.Goals as goal

pub returns-clause-keys : goal.returns-clause-keys
returns-clause-keys c = one_key_with

pub returns-clause-first_reply : goal.returns-clause-first_reply
returns-clause-first_reply c = first_reply_with

pub returns-clause-not_new_again : goal.returns-clause-not_new_again
returns-clause-not_new_again c = new_again_with

pub returns-clause-stays_out : goal.returns-clause-stays_out
returns-clause-stays_out c = stays_out_with

pub returns-clause-limits : goal.returns-clause-limits
returns-clause-limits c = limits_hold_with

pub returns-clause-ledgers : goal.returns-clause-ledgers
returns-clause-ledgers c = ledgers_balance_with
