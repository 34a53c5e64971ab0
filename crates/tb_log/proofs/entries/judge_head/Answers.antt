use Rattle.std.proofs.Common.{rules}
use Rattle.tb_log.proofs.entries.judge_head.Goals as goal

pub returns-then-head-gt-CONTENT_BYTES_MAX : goal.returns-then-head-gt-CONTENT_BYTES_MAX
returns-then-head-gt-CONTENT_BYTES_MAX c = search rules

pub returns : goal.returns
returns c = search rules
