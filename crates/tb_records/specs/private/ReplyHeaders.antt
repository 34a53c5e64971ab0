-- What the header and the body of a reply contain once they were read.
use Rattle.std.specs.Prelude.{ℕ, ◌≡◌, ◌==◌, List, flat_map, All, None, if◌then◌else◌}
use Rattle.tb_records.specs.declared.bodies.ReplyBody.{ReplyBody}
use Rattle.tb_records.specs.declared.reply_reading.ReplyHeader.{ReplyHeader}
use Rattle.tb_records.specs.Messages.{status_code, first_fault, kind_of, kind_for}
use Rattle.tb_records.specs.Frames.{client_at, session_at, request_at, operation_at, length_at}
use Rattle.tb_records.specs.ReplyFrames.{status_at, commit_at, reply_header_fault, reply_body_bytes, ReplyBodyFits}
use Rattle.tb_records.specs.ReplyTests.{reply_field_tests}

-- the bytes begin with these fields, none of which has a fault by itself
pub record HasReplyFields (b : List ℕ) (h : ReplyHeader) : Type 0 where
  pub none : first_fault (reply_field_tests b) ≡ None
  pub client : h.numbers.client ≡ client_at b
  pub session : h.numbers.session ≡ session_at b
  pub request : h.numbers.request ≡ request_at b
  pub operation : h.numbers.operation ≡ operation_at b
  pub status : status_code h.numbers.status ≡ status_at b
  pub commit : h.numbers.commit ≡ commit_at b
  pub len : h.len ≡ length_at b

-- the bytes begin with a header that has no fault and these fields
pub record IsReplyHeader (b : List ℕ) (h : ReplyHeader) : Type 0 where
  pub none : reply_header_fault b ≡ None
  pub fields : HasReplyFields b h

-- the bytes are those of the items, whose numbers fit their fields
pub record SpelledItems {X : Type 0} (spelling : X → List ℕ) (Fits : X → Type 0) (items : List X) (bytes : List ℕ) : Type 0 where
  pub spelled : flat_map spelling items ≡ bytes
  pub fit : All Fits items

-- the bytes are those of the body, which is of the kind that the operation and the status require
pub record IsReplyBody (operation status : ℕ) (body : ReplyBody) (bytes : List ℕ) : Type 0 where
  pub kind : kind_of body ≡ (if status == 0 then kind_for operation else 0)
  pub spelled : reply_body_bytes body ≡ bytes
  pub fits : ReplyBodyFits body
