use Rattle.std.proofs.Common.{ℕ, ◌+◌, ◌*◌, sym, ap, ◌∙◌}
use Rattle.tb_embed.proofs.Lengths.{frame_is}
use Rattle.tb_embed.proofs.replies.frame_length.Goals as goal

pub returns-in-Empty-clause-length : goal.returns-in-Empty-clause-length
returns-in-Empty-clause-length c = frame_is c.args.reply.now _ (sym c.body.ensures.value ∙ c.in-Empty.is)

pub returns-in-Results-clause-length : goal.returns-in-Results-clause-length
returns-in-Results-clause-length c = ap (λ (n : ℕ). 48 + 8 * n) c.len.ensures ∙ frame_is c.args.reply.now _ (sym c.body.ensures.value ∙ c.in-Results.is)

pub returns-in-Accounts-clause-length : goal.returns-in-Accounts-clause-length
returns-in-Accounts-clause-length c = ap (λ (n : ℕ). 48 + 128 * n) c.len-in-Accounts.ensures ∙ frame_is c.args.reply.now _ (sym c.body.ensures.value ∙ c.in-Accounts.is)

pub returns-in-Transfers-clause-length : goal.returns-in-Transfers-clause-length
returns-in-Transfers-clause-length c = ap (λ (n : ℕ). 48 + 128 * n) c.len-in-Transfers.ensures ∙ frame_is c.args.reply.now _ (sym c.body.ensures.value ∙ c.in-Transfers.is)
