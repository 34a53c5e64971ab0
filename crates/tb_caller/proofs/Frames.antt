-- What is read from frames is what was written as them; and each answer after a prefix of a legal history has a frame.
use Rattle.std.proofs.Common.{◌≡◌, ◌≤◌, ℕ, Bool, true, false, cond, List, [], ◌++◌, map, length, take, drop, Option, Some, None, refl, sym, ap, ◌∙◌, subst, arith, leb, leb-true, take-append-drop}
use Rattle.std.proofs.lemmas.List.{take-append-le, drop-append-le, take-take, take_all}
use Rattle.std.proofs.lemmas.Bool.Decides.{nat_tests}
use mathlib.Core.List.{IsPrefix}
use Rattle.tb_records.specs.declared.limits.Profile.{Profile}
use Rattle.tb_records.specs.Frames.{request_bytes, IsRequest}
use Rattle.tb_records.specs.Messages.{Message, Answer}
use Rattle.tb_records.specs.Ordered.{Each}
use Rattle.tb_records.specs.ReplyFrames.{SpellsReply, IsReply}
use Rattle.tb_records.proofs.ReplyLaws.{one_reading}
use Rattle.tb_records.proofs.Spellings.{spelled_once}
use Rattle.tb_machine.specs.declared.entries.Entry.{Entry}
use Rattle.tb_machine.specs.Histories.{answer_to, LegalFrom, IsLegal}
use Rattle.tb_machine.specs.Dumps.{marked_after, IsLegalWith}
use Rattle.tb_machine.specs.MarkedLaws.{met, next_in}
use Rattle.tb_machine.specs.ReplyLaws.{HoldRequests}
use Rattle.tb_machine.proofs.Legal.{legal_split, legal_front}
use Rattle.tb_machine.proofs.RepliesFit.{answers_fit}
use Rattle.tb_caller.specs.Endpoints.{IsAmong}
use Rattle.tb_caller.proofs.Lists.{each_among, each_before, among_map}

-- one frame is that of one reply
pub one_reply : (bytes : List ℕ) (a b : Answer) → SpellsReply bytes a → SpellsReply bytes b → a ≡ b
one_reply bytes a b x y = (one_reading a b [] [] x.is y.is (ap (λ l. l ++ []) (sym x.bytes_are ∙ y.bytes_are))).0

-- a request whose frame was sent was sent
pub sent_by_frame : (r : Message) (sent : List Message) → IsRequest r → Each IsRequest sent → IsAmong (request_bytes r) (map request_bytes sent) → IsAmong r sent
sent_by_frame r sent is are among =
    let found = among_map request_bytes (request_bytes r) sent among in
    let same : r ≡ found.0 = (spelled_once r found.0 [] [] is (each_among IsRequest found.0 sent are found.1) (ap (λ l. l ++ []) found.2)).0 in
    subst (λ m. IsAmong m sent) (sym same) found.1

module _ (profile : Profile) (clients_max : ℕ) where
  legal_take : (k : ℕ) (h : List Entry) → IsLegal profile clients_max h → IsLegal profile clients_max (take k h)
  legal_take k h legal = legal_front profile clients_max (take k h) (drop k h) (subst (IsLegal profile clients_max) (sym (take-append-drop k h)) legal)

  -- a prefix of a history that is legal with a mark is legal with it, if it is met by then
  prefix_legal : (mark : Option ℕ) (seen more : List Entry) → IsLegalWith profile clients_max mark (seen ++ more) → IsLegalWith profile clients_max (met mark seen) seen
  prefix_legal None seen more legal = legal_front profile clients_max seen more legal
  prefix_legal (Some n) seen more legal = by (leb n (length seen)) refl
    where
      by : (b : Bool) → leb n (length seen) ≡ b → IsLegalWith profile clients_max (cond b (Some n) None) seen
      by true e =
          let within : n ≤ length seen = leb-true n (length seen) e in
          let taken : take n (seen ++ more) ≡ take n seen = take-append-le n seen more within in
          let dropped : drop n (seen ++ more) ≡ drop n seen ++ more = drop-append-le n seen more within in (
            subst (IsLegal profile clients_max) taken legal.0,
            (legal_split (marked_after profile clients_max (take n seen)) (drop n seen) more
                (subst (LegalFrom (marked_after profile clients_max (take n seen))) dropped (subst (λ l. LegalFrom (marked_after profile clients_max l) (drop n (seen ++ more))) taken legal.1))).0,
          )
      by false e = subst (IsLegal profile clients_max) early (legal_take (length seen) (take n (seen ++ more)) legal.0)
        where
          within : length seen ≤ n
          within = grind (arith, nat_tests, e)

          early : take (length seen) (take n (seen ++ more)) ≡ seen
          early = take-take (length seen) n (seen ++ more) within ∙ take-append-le (length seen) seen more (omega arith) ∙ take_all (length seen) seen (omega arith)

  pub answer_has_frame : (mark : Option ℕ) (seen h : List Entry) (r : Message) → IsLegalWith profile clients_max mark h → HoldRequests h → IsPrefix seen h → IsRequest r
      → IsReply (answer_to (next_in profile clients_max mark seen) r)
  answer_has_frame mark seen h r legal requests prefix is =
      answers_fit profile clients_max (met mark seen) seen r
      (prefix_legal mark seen prefix.0 (subst (IsLegalWith profile clients_max mark) (sym prefix.1) legal))
      (each_before (λ (e : Entry). IsRequest e.request) seen prefix.0 (subst HoldRequests (sym prefix.1) requests)) is
