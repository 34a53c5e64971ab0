use Rattle.std.proofs.Common.{◌∙◌}
use Rattle.std.proofs.KnownBytes.{Consumes-trans}
use Rattle.tb_oracle.proofs.answering.read_step.Goals as goal

pub returns-clause-read : goal.returns-clause-read
returns-clause-read g c = (
  Consumes-trans _ _ _ _ _ (rw c.if-not-branch.false at c.in_ok-read_head.ensures.read) c.in_ok-rest.ensures.read.0,
  record { head_is = c.in_ok-read_head.ensures.long; rest_is = c.in_ok-rest.ensures.read.1 ∙ c.length_at-length.ensures },
)
