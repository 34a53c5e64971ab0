-- Replies that are read one after another from bytes.
use Rattle.std.specs.Prelude.{ℕ, ◌≡◌, List, ◌++◌}
use Rattle.std.specs.List.{flat_map}
use Rattle.tb_records.specs.Messages.{Answer}
use Rattle.tb_records.specs.Ordered.{Each}
use Rattle.tb_records.specs.ReplyFrames.{reply_bytes, IsReply}
use Rattle.tb_caller.specs.Endpoints.{IsAmong}

-- the reply is read from the bytes, after others
pub record IsReadIn (bytes : List ℕ) (a : Answer) : Type 0 where
  pub earlier : List Answer
  pub rest : List ℕ
  pub bytes_are : bytes ≡ flat_map reply_bytes earlier ++ (reply_bytes a ++ rest)
  pub spelled : Each IsReply earlier
  pub is : IsReply a

-- a server sent the frames of some replies, or a prefix of their bytes: no other reply is read
abbrev pub ReadsWhatWasSent : Type 0
ReadsWhatWasSent = (answers : List Answer) (bytes unsent : List ℕ) (a : Answer)
    → Each IsReply answers
    → flat_map reply_bytes answers ≡ bytes ++ unsent
    → IsReadIn bytes a
    → IsAmong a answers
