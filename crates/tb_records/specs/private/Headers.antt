-- The headers that are written before a body of a length.
use Rattle.std.specs.Prelude.{ℕ, List}
use Rattle.tb_records.specs.Messages.{Message, Answer, operation, status_code}
use Rattle.tb_records.specs.Frames.{header_bytes}
use Rattle.tb_records.specs.ReplyFrames.{reply_header_bytes}

-- the header of a request
abbrev pub header_of_request : Message → ℕ → List ℕ
header_of_request r len = header_bytes r.client r.session r.request (operation r.body) len

-- the header of a reply
abbrev pub header_of_reply : Answer → ℕ → List ℕ
header_of_reply r len = reply_header_bytes r.client r.session r.request r.operation (status_code r.status) len r.commit
