-- Replies that are read one after another are those that were sent.
use Rattle.std.proofs.Common.{◌≡◌, ℕ, inl, inr, List, [], ◌∷◌, ◌++◌, length, sym, ap, ◌∙◌, arith, length-append, append_assoc}
use Rattle.std.specs.List.{flat_map}
use Rattle.tb_records.specs.Messages.{Answer, status_code}
use Rattle.tb_records.specs.Ordered.{Each}
use Rattle.tb_records.specs.ReplyFrames.{reply_body_bytes, reply_bytes, IsReply, reply_header_bytes}
use Rattle.tb_records.proofs.ReplyLaws.{one_reading}
use Rattle.tb_records.proofs.ReplyPlaces.{length-reply_header}
use Rattle.tb_caller.specs.Endpoints.{IsAmong}
use Rattle.tb_caller.specs.Streams.{ReadsWhatWasSent}

-- a reply that is read after others from the frames of replies is one of them
among_frames : (answers earlier : List Answer) (a : Answer) (rest : List ℕ) → Each IsReply answers → Each IsReply earlier → IsReply a
    → flat_map reply_bytes answers ≡ flat_map reply_bytes earlier ++ (reply_bytes a ++ rest) → IsAmong a answers
among_frames [] earlier a rest all others is same =
    absurd (omega (
      arith,
      ap length same,
      length-append (flat_map reply_bytes earlier) (reply_bytes a ++ rest),
      length-append (reply_bytes a) rest,
      length-append (reply_header_bytes a.client a.session a.request a.operation (status_code a.status) (length (reply_body_bytes a.body)) a.commit) (reply_body_bytes a.body),
      length-reply_header a.client a.session a.request a.operation (status_code a.status) (length (reply_body_bytes a.body)) a.commit,
    ))
among_frames (y ∷ ys) [] a rest all others is same = inl (sym (one_reading y a (flat_map reply_bytes ys) rest all.0 is same).0)
among_frames (y ∷ ys) (x ∷ xs) a rest all others is same =
    inr (among_frames ys xs a rest all.1 others.1 is (one_reading y x (flat_map reply_bytes ys) (flat_map reply_bytes xs ++ (reply_bytes a ++ rest)) all.0 others.0
    (same ∙ append_assoc (reply_bytes x) (flat_map reply_bytes xs) (reply_bytes a ++ rest))).1)

pub reads_what_was_sent : ReadsWhatWasSent
reads_what_was_sent answers bytes unsent a all are read =
    among_frames answers read.earlier a (read.rest ++ unsent) all read.spelled read.is
    (are ∙ ap (λ l. l ++ unsent) read.bytes_are ∙ append_assoc (flat_map reply_bytes read.earlier) (reply_bytes a ++ read.rest) unsent
    ∙ ap (λ l. flat_map reply_bytes read.earlier ++ l) (append_assoc (reply_bytes a) read.rest unsent))
