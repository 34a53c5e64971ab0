use Rattle.std.proofs.Common.{◌≡◌, ℕ, refl, arith}
use Rattle.tb_records.specs.Frames.{header_bytes}
use Rattle.tb_records.specs.Numbers.{le_bytes}
use Rattle.tb_records.specs.ReplyFrames.{reply_header_bytes}
use Rattle.tb_records.proofs.writing.request_header.Goals as goal

-- a request's header is that of a reply with status and commit number 0
zero_status : (client session request operation len : ℕ) → reply_header_bytes client session request operation 0 len 0 ≡ header_bytes client session request operation len
unfolding reply_header_bytes header_bytes le_bytes
zero_status client session request operation len = refl

pub returns-clause-header : goal.returns-clause-header
returns-clause-header c = grind (arith, zero_status)
