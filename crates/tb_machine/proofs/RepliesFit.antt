-- The replies after a legal history of requests have frames, and their bytes are those of no other replies.
use Rattle.std.proofs.Common.{◌≡◌, ◌≢◌, ℕ, ◌^◌, ◌<◌, ◌≤◌, Bool, true, false, cond, eqb, eq-eqb, ne_eqb, List, [], ◌∷◌, ◌++◌, length, flat_map, take, drop, fold, is_none, Option, Some, None, inl, inr, refl, sym, ap, ◌∙◌, subst, IsTrue, arith, length-append, take-append-drop}
use Rattle.tb_records.specs.declared.bodies.Body.{Body}
use Rattle.tb_records.specs.declared.bodies.Body.TheVariants.{Register}
use Rattle.tb_records.specs.declared.bodies.ReplyBody.TheVariants.{Empty}
use Rattle.tb_records.specs.declared.limits.Profile.{Profile}
use Rattle.tb_records.specs.declared.limits.Profile.TheVariants.{One, Two}
use Rattle.tb_records.specs.declared.replies.Status.{Status}
use Rattle.tb_records.specs.Frames.{IsRequest}
use Rattle.tb_records.specs.Messages.{Message, Answer, operation, is_register, answered, status_code, IsRight}
use Rattle.tb_records.specs.Ordered.{Each}
use Rattle.tb_records.specs.ReplyFrames.{reply_bytes, reply_body_bytes, IsReply, reply_header_bytes}
use Rattle.tb_records.proofs.ReplyLaws.{one_reading}
use Rattle.tb_records.proofs.ReplyPlaces.{length-reply_header}
use Rattle.tb_ledger.specs.Sound.{Sound}
use Rattle.tb_ledger.proofs.SoundLaws.{sound_empty, sound_failed}
use Rattle.tb_sessions.specs.declared.rows.Row.{Row}
use Rattle.tb_sessions.specs.declared.classes.Class.{Class}
use Rattle.tb_sessions.specs.declared.classes.Class.TheVariants.{Repeat}
use Rattle.tb_sessions.specs.Judged.{row_of, class_of}
use Rattle.tb_sessions.proofs.LaterRows.{each_admitted}
use Rattle.tb_machine.specs.declared.entries.Entry.{Entry}
use Rattle.tb_machine.specs.Histories.{State, start, fits, row_at, reply_at, step, to_two, LegalFrom, IsLegal, after, status_of, refusal, answer_by, answer_to}
use Rattle.tb_machine.specs.Dumps.{replies_along, marked_after, after_with, IsLegalWith, after_at, accepted_at}
use Rattle.tb_machine.specs.Scripts.{Pair, entry_of, is_entered, grown, replies_from, replies_to}
use Rattle.tb_machine.specs.private.Sound.{IsSound}
use Rattle.tb_machine.specs.ReplyLaws.{AreRequests, HoldRequests, RepliesFit, RepliesReadBack, AnswersFit, GivenFit, AcceptedAreRequests}
use Rattle.tb_machine.proofs.Rows.{each_snoc, row_found}
use Rattle.tb_machine.proofs.Judging.{MayCome, may_come, repeat_by}
use Rattle.tb_machine.proofs.Lawful.{LawfulNumbers, lawful_numbers}
use Rattle.tb_machine.proofs.SoundBooks.{sound_executed}
use Rattle.tb_machine.proofs.SoundSteps.{right_reply, sound_step}
use Rattle.tb_machine.proofs.PairAnswers.{answer_refused, repeated_or_not}
use Rattle.tb_machine.proofs.Accepted.{legal_with}
use Rattle.tb_machine.proofs.DumpLaws.{each_split}
use Rattle.tb_machine.proofs.CodesFit.{each_append}
use Rattle.tb_machine.proofs.BooksFit.{RecordsFit, fit_empty, fit_executed, found_fits}

-- the state: its numbers are in range, its books are sound and their records fit, and each stored reply has a frame
record Fitting (S : State) : Type 0 where
  sound : IsSound S
  books : Sound S.books
  records : RecordsFit S.books
  replies : Each (λ (row : Row). IsReply row.reply) S.rows

begun : (profile : Profile) (clients_max : ℕ) → Fitting (start profile clients_max)
begun One clients_max = record {
  sound = record { rows = tt; commits = omega arith; in_range = omega arith };
  books = sound_empty One;
  records = fit_empty One;
  replies = tt;
}
begun Two clients_max = record {
  sound = record { rows = tt; commits = omega arith; in_range = omega arith };
  books = sound_empty Two;
  records = fit_empty Two;
  replies = tt;
}

-- a mark leaves all but the failed ids
marked : (S : State) → Fitting S → Fitting (to_two S)
marked S all = record {
  sound = record { rows = all.sound.rows; commits = all.sound.commits; in_range = all.sound.in_range };
  books = sound_failed S.books (Some []) all.books;
  records = record { accounts = all.records.accounts; transfers = all.records.transfers };
  replies = all.replies;
}

-- one entry of a request
module _ (S : State) (e : Entry) (all : Fitting S) (comes : IsTrue (fits S e)) (is : IsRequest e.request) where
  may : MayCome S e
  may = may_come S e comes

  later : S.books.time ≤ e.time
  later = omega (arith, may.late_enough)

  commit_fits : e.commit < 2 ^ 64
  commit_fits = omega (arith, may.commit, may.late_enough, may.in_range, all.sound.commits)

  session_fits : (b : Bool) → cond b e.commit e.request.session < 2 ^ 64
  session_fits true = commit_fits
  session_fits false = is.session

  entry_reply : IsReply (reply_at S e)
  entry_reply = record {
    client = is.client;
    session = session_fits (is_register e.request.body);
    request = is.request;
    commit = commit_fits;
    body = found_fits S.books e.request.body e.time (lawful_numbers e.request is.lawful).few later all.books all.records;
    right = right_reply S e all.sound comes;
  }

  fitting_step : Fitting (step S e)
  fitting_step = record {
    sound = sound_step S e all.sound comes (row_at S e) refl refl (step S e) refl refl refl;
    books = sound_executed S.books e.request.body e.time later all.books;
    records = fit_executed S.books e.request.body e.time is.items (omega (arith, may.late_enough)) may.in_range all.records;
    replies = each_admitted (λ (row : Row). IsReply row.reply) S.clients_max S.rows (row_at S e) entry_reply all.replies;
  }

fitting_after : (S : State) (h : List Entry) → Fitting S → LegalFrom S h → HoldRequests h → Fitting (fold step S h)
fitting_after S [] all legal are = all
fitting_after S (e ∷ es) all legal are = fitting_after (step S e) es (fitting_step S e all legal.0 are.0) legal.1 are.1

given_along : (S : State) (h : List Entry) → Fitting S → LegalFrom S h → HoldRequests h → Each IsReply (replies_along S h)
given_along S [] all legal are = tt
given_along S (e ∷ es) all legal are = (entry_reply S e all legal.0 are.0, given_along (step S e) es (fitting_step S e all legal.0 are.0) legal.1 are.1)

-- with or without a mark

held : (n : ℕ) (h : List Entry) → HoldRequests h → HoldRequests (take n h) × HoldRequests (drop n h)
held n h are = each_split (λ (e : Entry). IsRequest e.request) (take n h) (drop n h) (subst HoldRequests (sym (take-append-drop n h)) are)

module _ (profile : Profile) (clients_max : ℕ) where
  fitting_plain : (h : List Entry) → IsLegal profile clients_max h → HoldRequests h → Fitting (after profile clients_max h)
  fitting_plain h legal are = fitting_after (start profile clients_max) h (begun profile clients_max) legal are

  fitting_marked : (h : List Entry) → IsLegal profile clients_max h → HoldRequests h → Fitting (marked_after profile clients_max h)
  fitting_marked h legal are = marked (after profile clients_max h) (fitting_plain h legal are)

  fitting_with : (mark : Option ℕ) (h : List Entry) → IsLegalWith profile clients_max mark h → HoldRequests h → Fitting (after_with profile clients_max mark h)
  fitting_with None h legal are = fitting_plain h legal are
  fitting_with (Some n) h legal are =
      let parts = held n h are in
      fitting_after (marked_after profile clients_max (take n h)) (drop n h) (fitting_marked (take n h) legal.0 parts.0) legal.1 parts.1

pub given_fit : GivenFit
given_fit profile clients_max None h legal are = given_along (start profile clients_max) h (begun profile clients_max) legal are
given_fit profile clients_max (Some n) h legal are =
    let parts = held n h are in
    each_append IsReply (replies_along (start profile clients_max) (take n h)) (replies_along (marked_after profile clients_max (take n h)) (drop n h))
    (given_along (start profile clients_max) (take n h) (begun profile clients_max) legal.0 parts.0)
    (given_along (marked_after profile clients_max (take n h)) (drop n h) (fitting_marked profile clients_max (take n h) legal.0 parts.0) legal.1 parts.1)

-- a refusal

pub refusal_right : (s : Status) (r : Message) → eqb (status_code s) 0 ≡ false → LawfulNumbers r → IsRight (refusal s r)
refusal_right s r refused lawful = by r.body lawful.register lawful.session lawful.numbered
  where
    some_client : eqb r.client 0 ≡ false
    some_client = ne_eqb r.client 0 lawful.client

    by : (body : Body) → (is_register body ≡ true → r.request ≡ 0) → (is_register body ≡ true → r.session ≡ 0) → (is_register body ≡ false → r.request ≢ 0)
        → IsRight (answered r.client r.session r.request (operation body) s 0 Empty)
    by Register number session other = rw (some_client, refused, eq-eqb r.request 0 (number refl), eq-eqb r.session 0 (session refl)) refl
    by body number session other = rw (some_client, refused, ne_eqb r.request 0 (other refl)) refl

refusal_fits : (s : Status) (r : Message) → eqb (status_code s) 0 ≡ false → IsRequest r → IsReply (refusal s r)
refusal_fits s r refused is = record {
  client = is.client;
  session = is.session;
  request = is.request;
  commit = omega arith;
  body = tt;
  right = refusal_right s r refused (lawful_numbers r is.lawful);
}

-- an answer

module _ (S : State) (r : Message) (all : Fitting S) (is : IsRequest r) where
  repeated : class_of S.rows r ≡ Repeat → IsReply (answer_to S r)
  repeated class =
      let by = repeat_by (row_of S.rows r.client) r class in
      subst IsReply (sym (ap (λ (k : Class). answer_by k (row_of S.rows r.client) r) class ∙ ap (λ (o : Option Row). answer_by Repeat o r) by.1))
      (row_found (λ (row : Row). IsReply row.reply) S.rows r.client by.0 all.replies by.1).0

  answer_fits : IsReply (answer_to S r)
  answer_fits = elim (repeated_or_not (class_of S.rows r)) [
    | inl class ↦ repeated class
    | inr other ↦ subst IsReply (sym (answer_refused (class_of S.rows r) (row_of S.rows r.client) r other.0)) (refusal_fits (status_of (class_of S.rows r)) r other.1 is)
  ]

pub answers_fit : AnswersFit
answers_fit profile clients_max mark h r legal are is = answer_fits (after_with profile clients_max mark h) r (fitting_with profile clients_max mark h legal are) is

-- a script

held_by : (b : Bool) (h : List Entry) (e : Entry) → HoldRequests h → IsRequest e.request → HoldRequests (cond b (h ++ e ∷ []) h)
held_by true h e are is = each_snoc (λ (e : Entry). IsRequest e.request) h e are is
held_by false h e are is = are

module _ (profile : Profile) (clients_max : ℕ) where
  held_at : (at : Option ℕ) (h : List Entry) (ps : List Pair) → HoldRequests h → AreRequests ps → HoldRequests (accepted_at profile clients_max at h ps)
  held_at at h [] are requests = are
  held_at at h (p ∷ ps) are requests =
      let S = after_at profile clients_max at h in
      held_at at (grown (after_at profile clients_max at) h p) ps (held_by (is_entered S p) h (entry_of S p) are requests.0) requests.1

  from_fit : (h : List Entry) (ps : List Pair) → IsLegal profile clients_max h → HoldRequests h → AreRequests ps → Each IsReply (replies_from profile clients_max h ps)
  from_fit h [] legal are requests = tt
  from_fit h (p ∷ ps) legal are requests =
      let m = grown (after profile clients_max) h p in
      let more = legal_with profile clients_max h p legal (ap is_none requests.0.lawful) in
      let holds = held_by (is_entered (after profile clients_max h) p) h (entry_of (after profile clients_max h) p) are requests.0 in (
        answer_fits (after profile clients_max m) p.1 (fitting_plain profile clients_max m more holds) requests.0,
        from_fit m ps more holds requests.1,
      )

pub accepted_are_requests : AcceptedAreRequests
accepted_are_requests profile clients_max at ps requests = (held_at profile clients_max None [] ps tt requests, held_at profile clients_max at [] ps tt requests)

pub replies_fit : RepliesFit
replies_fit profile clients_max ps requests = from_fit profile clients_max [] ps tt tt requests

-- frames one after another are those of one list of replies

frame_long : (a : Answer) (bytes : List ℕ) → length (reply_bytes a ++ bytes) ≢ 0
frame_long a bytes none =
    omega (arith, none, length-append (reply_bytes a) bytes, length-append (reply_header_bytes a.client a.session a.request a.operation (status_code a.status) (length (reply_body_bytes a.body)) a.commit) (reply_body_bytes a.body), length-reply_header a.client a.session a.request a.operation (status_code a.status) (length (reply_body_bytes a.body)) a.commit)

one_list : (xs ys : List Answer) → Each IsReply xs → Each IsReply ys → flat_map reply_bytes xs ≡ flat_map reply_bytes ys → xs ≡ ys
one_list [] [] mine yours same = refl
one_list [] (y ∷ ys) mine yours same = absurd (frame_long y (flat_map reply_bytes ys) (sym (ap length same)))
one_list (x ∷ xs) [] mine yours same = absurd (frame_long x (flat_map reply_bytes xs) (ap length same))
one_list (x ∷ xs) (y ∷ ys) mine yours same =
    let first = one_reading x y (flat_map reply_bytes xs) (flat_map reply_bytes ys) mine.0 yours.0 same in
    let rest = one_list xs ys mine.1 yours.1 first.1 in
    λ i. first.0 i ∷ rest i

pub replies_read_back : RepliesReadBack
replies_read_back profile clients_max ps replies requests are same = one_list replies (replies_to profile clients_max ps) are (replies_fit profile clients_max ps requests) same
