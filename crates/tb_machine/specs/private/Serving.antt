-- What the steps of the server do with one pair. Only private functions use it.
use Rattle.std.specs.Prelude.{false, ◌≡◌, ◌+◌, ◌++◌, ◌≤◌, max, ℕ, List, Option, Result, Ok, Err, IfOk, MatchResult}
use Rattle.std.specs.declared.alloc.AllocError.{AllocError}
use Rattle.tb_records.specs.declared.faults.FrameFault.TheVariants.{Device}
use Rattle.tb_records.specs.AtHand.{holds_pair, holds_item}
use Rattle.tb_records.specs.Transport.{Input, Output, Sent, CutOff}
use Rattle.tb_machine.specs.declared.serving.RunFault.{RunFault}
use Rattle.tb_machine.specs.declared.serving.RunFault.TheVariants as fault
use Rattle.tb_records.specs.Messages.{Message, Answer, count, item_count, IsRight, operation, answered}
use Rattle.tb_records.specs.ReplyFrames.{reply_bytes, IsReply}
use Rattle.tb_ledger.specs.Books.{Books}
use Rattle.tb_sessions.specs.declared.rows.Row.{Row}
use Rattle.tb_sessions.specs.Judged.{class_of}
use Rattle.tb_machine.specs.declared.executing.Delivery.{Delivery}
use Rattle.tb_machine.specs.declared.executing.Delivery.TheVariants as delivery
use Rattle.tb_machine.specs.declared.executing.Served.{Served}
use Rattle.tb_machine.specs.declared.executing.Served.TheVariants as served
use Rattle.tb_machine.specs.Runs.{AnswersPair}
use Rattle.tb_machine.specs.declared.entries.Entry.{Entry}
use Rattle.tb_machine.specs.Histories.{State, found, step, executed, session_of}
use Rattle.tb_machine.specs.DumpRuns.{marks_at, mark_before, changed_profile}
use Rattle.tb_machine.specs.Dumps.{dumped}
use Rattle.tb_machine.specs.Scripts.{Pair}
use Rattle.tb_machine.specs.Judging.{IsDelivered, IfWhole}
use Rattle.tb_records.specs.declared.bodies.Body.{Body}
use Rattle.tb_records.specs.declared.replies.Status.TheVariants as status
use Rattle.tb_records.specs.declared.bodies.ReplyBody.{ReplyBody}
use Rattle.tb_records.specs.declared.limits.TheConstants.{ITEMS_MAX, LAST_MOMENT}

-- no output is held back unless the next pair, or the next item of a dump, is buffered
abbrev pub IsPromptForPair : Input → Output → Type 0
IsPromptForPair input output = holds_pair input.at_hand ≡ false → output.held ≡ false

abbrev pub IsPromptForItem : Input → Output → Type 0
IsPromptForItem input output = holds_item input.at_hand ≡ false → output.held ≡ false

-- the bytes were written, or the writer's fault left a prefix of them
abbrev pub Delivers : Result (Unit {0}) RunFault → List ℕ → Output → Output → Type 0
Delivers result bytes before after = MatchResult result (λ _. Sent bytes before after) (λ f. (f ≡ fault.Frame Device) × CutOff bytes before after)

-- an entry of a commit number and a time
abbrev pub made_entry : ℕ → ℕ → Message → Entry
made_entry commit time r = record { commit = commit; time = time; request = r }

-- the reply to an entry, with a body
abbrev pub reply_with : Entry → ReplyBody → Answer
reply_with e body = answered e.request.client (session_of e) e.request.request (operation e.request.body) status.Reply e.commit body

-- the row of an entry's client after the entry, if these are the books before it
abbrev pub row_in : Books → Entry → Row
row_in B e = record {
  client = e.request.client;
  session = session_of e;
  request = e.request;
  reply = reply_with e (found B e.request.body e.time);
  commit = e.commit;
}

-- what an entry requires of the ledger before it, and of its reply
abbrev pub MayBeExecuted : Books → Entry → Type 0
MayBeExecuted B e =
    (item_count e.request.body ≤ ITEMS_MAX)
    × (B.time + max (count e.request.body) 1 ≤ e.time)
    × (e.time ≤ LAST_MOMENT)
    × IsRight (row_in B e).reply

-- a body was executed at a time, and the body of its reply was returned; if there was no memory nothing happened
abbrev pub ExecutesBody : Result ReplyBody AllocError → Books → Body → ℕ → Books → Type 0
ExecutesBody result B body time later = MatchResult result (λ answer. (later ≡ executed B body time) × (answer ≡ found B body time)) (λ _. later ≡ B)

-- an entry's request was executed, and its client's row made; if there was no memory the entry is returned
abbrev pub MakesRow : Result Row Entry → Books → Entry → Books → Type 0
MakesRow result B e later = MatchResult result (λ row. (later ≡ executed B e.request.body e.time) × (row ≡ row_in B e)) (λ back. (back ≡ e) × (later ≡ B))

-- if an entry was executed, its reply was written, or a prefix of it
pub record DeliversReply (served : Result Delivery AllocError) (reply : Answer) (before after : Output) : Type 0 where
  pub delivery : IfOk served (λ delivery. IsDelivered delivery (reply_bytes reply) before after × IfWhole delivery (IsReply reply))

-- the server's result for a pair that was served by its client's row; for any other pair its class is reported, and nothing changes
abbrev pub ServesPair : Served → State → State → Pair → Output → Output → Type 0
ServesPair (served.Executed delivery.Whole) S T p before after = AnswersPair (Ok tt) S T p before after
ServesPair (served.Executed (delivery.Cut f)) S T p before after = AnswersPair (Err (fault.Frame f)) S T p before after
ServesPair served.NoMemory S T p before after = AnswersPair (Err fault.NoMemory) S T p before after
ServesPair (served.Unserved class) S T p before after = (class ≡ class_of S.rows p.1) × (T ≡ S) × (after ≡ before)

abbrev pub IfUnserved : Served → Type 0 → Type 0
IfUnserved (served.Unserved class) P = P
IfUnserved other P = Unit {0}

-- an entry was entered and written, after a mark if one is due; a failed writer leaves a prefix of this, and without memory nothing was written
abbrev pub DumpsEntry : Option ℕ → Result (Unit {0}) RunFault → State → State → Entry → Output → Output → Type 0
DumpsEntry at (Ok done) S T e before after = (T ≡ step (changed_profile (marks_at at S.commit) S) e) × Sent (mark_before (marks_at at S.commit) ++ dumped e) before after
DumpsEntry at (Err (fault.Frame f)) S T e before after = (f ≡ Device) × CutOff (mark_before (marks_at at S.commit) ++ dumped e) before after
DumpsEntry at (Err fault.NoMemory) S T e before after = after ≡ before
DumpsEntry at (Err f) S T e before after = ⊥
