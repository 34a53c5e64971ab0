-- How a request that comes at a moment is judged, and what happens to the entry of a new one.
use Rattle.std.specs.Prelude.{ℕ, true, false, ◌≡◌, ◌≢◌, IsTrue, List, Result, MatchResult}
use Rattle.tb_records.specs.declared.faults.FrameFault.TheVariants.{Device}
use Rattle.tb_records.specs.ReplyFrames.{reply_bytes, IsReply}
use Rattle.tb_records.specs.Transport.{Output, Sent, CutOff}
use Rattle.tb_sessions.specs.declared.classes.Class.TheVariants.{New}
use Rattle.tb_sessions.specs.Judged.{class_of}
use Rattle.tb_machine.specs.declared.entries.Entry.{Entry}
use Rattle.tb_machine.specs.declared.executing.Delivery.{Delivery}
use Rattle.tb_machine.specs.declared.executing.Delivery.TheVariants as delivery
use Rattle.tb_machine.specs.declared.judgements.Judged.{Judged}
use Rattle.tb_machine.specs.declared.judgements.Judged.TheVariants as judged
use Rattle.tb_machine.specs.Histories.{State, fits, reply_at, step}
use Rattle.tb_machine.specs.Scripts.{Pair, entry_of, has_time}

-- a new request, with the entry that it makes, which may come next; a new request without a time; or a request that is not new, with its class
abbrev pub IsJudged : Judged → State → Pair → Type 0
IsJudged (judged.New e) S p = (class_of S.rows p.1 ≡ New) × (has_time S p ≡ true) × (e ≡ entry_of S p) × IsTrue (fits S e)
IsJudged judged.NoTime S p = (class_of S.rows p.1 ≡ New) × (has_time S p ≡ false)
IsJudged (judged.Known class r) S p = (class ≡ class_of S.rows p.1) × (class ≢ New) × (r ≡ p.1)

-- a reply was written, or the device failed and left a prefix of it
abbrev pub IsDelivered : Delivery → List ℕ → Output → Output → Type 0
IsDelivered delivery.Whole bytes before after = Sent bytes before after
IsDelivered (delivery.Cut f) bytes before after = (f ≡ Device) × CutOff bytes before after

abbrev pub IfWhole : Delivery → Type 0 → Type 0
IfWhole delivery.Whole P = P
IfWhole (delivery.Cut f) P = Unit {0}

-- an entry was entered, and its reply was written, or a prefix of it; if there was no memory the entry is returned, and nothing changed
abbrev pub EntersAndReplies : {W : Type 0} → (W → Output) → Result Delivery Entry → State → State → Entry → W → W → Type 0
EntersAndReplies output result S T e writer later =
    MatchResult result
    (λ delivery. (T ≡ step S e) × IsDelivered delivery (reply_bytes (reply_at S e)) (output writer) (output later) × IfWhole delivery (IsReply (reply_at S e)))
    (λ back. (back ≡ e) × (T ≡ S) × (later ≡ writer))
