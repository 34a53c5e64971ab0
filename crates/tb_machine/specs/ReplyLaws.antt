-- The replies of the definitions have frames: their numbers fit and go together, so that their bytes encode no other replies.
use Rattle.std.specs.Prelude.{ℕ, ◌≡◌, List, [], Option}
use Rattle.std.specs.List.{flat_map}
use Rattle.tb_records.specs.declared.limits.Profile.{Profile}
use Rattle.tb_records.specs.Frames.{IsRequest}
use Rattle.tb_records.specs.Messages.{Message, Answer}
use Rattle.tb_records.specs.Ordered.{Each}
use Rattle.tb_records.specs.ReplyFrames.{reply_bytes, IsReply}
use Rattle.tb_machine.specs.declared.entries.Entry.{Entry}
use Rattle.tb_machine.specs.Histories.{answer_to}
use Rattle.tb_machine.specs.Scripts.{Pair, accepted, replies_to}
use Rattle.tb_machine.specs.Dumps.{after_with, IsLegalWith, replies_with, accepted_at}

-- each request has a frame: its numbers fit their fields and keep the rules that those of every `Request` keep
abbrev pub AreRequests : List Pair → Type 0
AreRequests ps = Each (λ (p : Pair). IsRequest p.1) ps

abbrev pub HoldRequests : List Entry → Type 0
HoldRequests h = Each (λ (e : Entry). IsRequest e.request) h

-- each reply to a script of requests has a frame, whatever their moments are
abbrev pub RepliesFit : Type 0
RepliesFit = (profile : Profile) (clients_max : ℕ) (ps : List Pair) → AreRequests ps → Each IsReply (replies_to profile clients_max ps)

-- what encodes the replies to a script encodes no other replies
abbrev pub RepliesReadBack : Type 0
RepliesReadBack = (profile : Profile) (clients_max : ℕ) (ps : List Pair) (replies : List Answer) → AreRequests ps → Each IsReply replies
    → flat_map reply_bytes replies ≡ flat_map reply_bytes (replies_to profile clients_max ps) → replies ≡ replies_to profile clients_max ps

-- after a legal history of requests, with or without a mark, the answer to a request has a frame, whether it is a reply or a refusal
abbrev pub AnswersFit : Type 0
AnswersFit = (profile : Profile) (clients_max : ℕ) (mark : Option ℕ) (h : List Entry) (r : Message) → IsLegalWith profile clients_max mark h → HoldRequests h → IsRequest r
    → IsReply (answer_to (after_with profile clients_max mark h) r)

-- and so has the reply to each of its entries
abbrev pub GivenFit : Type 0
GivenFit = (profile : Profile) (clients_max : ℕ) (mark : Option ℕ) (h : List Entry) → IsLegalWith profile clients_max mark h → HoldRequests h
    → Each IsReply (replies_with profile clients_max mark h)

-- a history that is made from requests consists of requests, also with the mark directly before the first entry above `at`
abbrev pub AcceptedAreRequests : Type 0
AcceptedAreRequests = (profile : Profile) (clients_max : ℕ) (at : Option ℕ) (ps : List Pair) → AreRequests ps
    → HoldRequests (accepted profile clients_max [] ps) × HoldRequests (accepted_at profile clients_max at [] ps)
