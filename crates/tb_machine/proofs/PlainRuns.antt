-- A run without faults: its input is read one way, so that what was served are its pairs.
use Rattle.std.proofs.Common.{◌≡◌, ◌≢◌, ℕ, ◌-◌, ◌^◌, ◌<◌, ◌⊎◌, inl, inr, List, [], ◌∷◌, ◌++◌, length, drop, fold, flat_map, Option, Some, None, Result, Ok, Err, refl, sym, ap, ◌∙◌, subst, arith, append_assoc, append-nil, length-append}
use Rattle.std.proofs.lemmas.List.{drop_at}
use Rattle.std.specs.Io.KnownBytes.{Appends}
use Rattle.tb_records.specs.declared.faults.FrameFault.{FrameFault}
use Rattle.tb_records.specs.declared.faults.FrameFault.TheVariants.{Short, Device, NoMemory}
use Rattle.tb_records.specs.declared.limits.Profile.{Profile}
use Rattle.tb_records.specs.declared.bodies.Body.TheVariants.{Register}
use Rattle.tb_records.specs.Frames.{request_bytes, request_fault, header_bytes, body_bytes}
use Rattle.tb_records.specs.Inputs.{timed_bytes, IsTimed, TimedFaulted, TimedAnswers}
use Rattle.tb_records.specs.Messages.{Message, asked}
use Rattle.tb_records.specs.Numbers.{le_bytes}
use Rattle.tb_records.specs.Ordered.{Each}
use Rattle.tb_records.specs.ReplyFrames.{reply_bytes, reply_header_bytes, reply_body_bytes}
use Rattle.tb_records.proofs.Sizes.{length-le_bytes}
use Rattle.tb_records.specs.Transport.{Input, Output, risen, FaultCounts, Refuses}
use Rattle.tb_records.proofs.NumberBytes.{le_bytes-one, split_at}
use Rattle.tb_records.proofs.Spellings.{spelled_once, spelled_sound}
use Rattle.tb_machine.specs.declared.entries.Entry.{Entry}
use Rattle.tb_machine.specs.declared.serving.RunFault.{RunFault}
use Rattle.tb_machine.specs.declared.serving.RunFault.TheVariants as fault
use Rattle.tb_machine.specs.Histories.{State, after}
use Rattle.tb_machine.specs.Scripts.{Pair, grown, replies_to}
use Rattle.tb_machine.specs.Worked.{GoesOn}
use Rattle.tb_machine.specs.Runs.{Spell, IsTimely, AnswersPair, PairAnswered, HasTimes, state_after, RunHalts, Ran}
use Rattle.tb_machine.specs.PlainRuns.{NothingFails, IsWhole, AnsweredAll, RanPlain}
use Rattle.tb_machine.specs.WorkedRows.{RegisterRun}
use Rattle.tb_machine.proofs.Rows.{some_one}

abbrev content : List Pair → List ℕ
content ps = flat_map timed_bytes ps

-- the bytes of a pair begin no other pair's, and each pair has one encoding
pub timed_once : (p q : Pair) (x y : List ℕ) → IsTimed p → IsTimed q → timed_bytes p ++ x ≡ timed_bytes q ++ y → (p ≡ q) × (x ≡ y)
timed_once (m, r) (n, s) x y hp hq e =
    let whole : le_bytes 8 m ++ (request_bytes r ++ x) ≡ le_bytes 8 n ++ (request_bytes s ++ y) =
    sym (append_assoc (le_bytes 8 m) (request_bytes r) x) ∙ e ∙ append_assoc (le_bytes 8 n) (request_bytes s) y in
    let parts = split_at (le_bytes 8 m) (le_bytes 8 n) (request_bytes r ++ x) (request_bytes s ++ y) (length-le_bytes 8 m ∙ sym (length-le_bytes 8 n)) whole in
    let moments : m ≡ n = le_bytes-one 8 m n hp.0 hq.0 parts.0 in
    let requests = spelled_once r s x y hp.1 hq.1 parts.1 in
    (ap (λ (k : ℕ). (k, r)) moments ∙ ap (λ (t : Message). (n, t)) requests.0, requests.1)

pub timed_is_some : (p : Pair) (x : List ℕ) → timed_bytes p ++ x ≡ [] → ⊥
timed_is_some (m, r) x e = absurd (omega (arith, ap length e, length-append (timed_bytes (m, r)) x, length-append (le_bytes 8 m) (request_bytes r), length-le_bytes 8 m))

-- what is left of pairs after some that were read
record Left (ps qs : List Pair) (left : List ℕ) : Type 0 where
  pub rest : List Pair
  pub whole : ps ≡ qs ++ rest
  pub bytes_are : left ≡ content rest
  pub pairs : Each IsTimed rest

left_of : (ps qs : List Pair) (left : List ℕ) → Each IsTimed ps → Each IsTimed qs → content ps ≡ content qs ++ left → Left ps qs left
left_of ps [] left mine yours e = record { rest = ps; whole = refl; bytes_are = sym e; pairs = mine }
left_of [] (q ∷ qs) left mine yours e = absurd (timed_is_some q (content qs ++ left) (sym (e ∙ append_assoc (timed_bytes q) (content qs) left)))
left_of (p ∷ ps) (q ∷ qs) left mine yours e =
    let one = timed_once p q (content ps) (content qs ++ left) mine.0 yours.0 (e ∙ append_assoc (timed_bytes q) (content qs) left) in
    let more = left_of ps qs left mine.1 yours.1 one.1 in
    record {
      rest = more.rest;
      whole = ap (λ (x : Pair). x ∷ ps) one.0 ∙ ap (λ (l : List Pair). q ∷ l) more.whole;
      bytes_are = more.bytes_are;
      pairs = more.pairs;
    }

-- the same of a reader
record Remaining (ps qs : List Pair) (middle : Option (List ℕ)) : Type 0 where
  pub left : List ℕ
  pub is : middle ≡ Some left
  pub of : Left ps qs left

remaining : (ps qs : List Pair) (before middle : Option (List ℕ)) → Each IsTimed ps → before ≡ Some (content ps) → Spell qs before middle → Remaining ps qs middle
remaining ps qs None middle pairs is spelled = absurd cc
remaining ps qs (Some b) None pairs is spelled = absurd spelled
remaining ps qs (Some b) (Some m) pairs is spelled = record { left = m; is = refl; of = left_of ps qs m pairs spelled.1 (sym (some_one is) ∙ spelled.0) }

-- at the end of the input no pair is left

none_left : (rest : List Pair) → content rest ≡ [] → rest ≡ []
none_left [] e = refl
none_left (p ∷ rest) e = absurd (timed_is_some p (content rest) e)

at_end : (ps qs : List Pair) (middle last : Option (List ℕ)) → Remaining ps qs middle → TimedAnswers (Ok None) middle last → (ps ≡ qs) × (last ≡ Some [])
at_end ps qs None last b answer = absurd (let is = b.is in cc)
at_end ps qs (Some m) None b answer = absurd answer
at_end ps qs (Some m) (Some l) b answer = (
  b.of.whole ∙ ap (λ (l : List Pair). qs ++ l) (none_left b.of.rest (sym b.of.bytes_are ∙ sym (some_one b.is) ∙ answer.0)) ∙ append-nil qs,
  ap Some answer.1,
)

-- what is left has no frame's fault

sound : (rest : List Pair) → Each IsTimed rest → (request_fault (drop 8 (content rest)) ≡ None) ⊎ ((content rest ≡ []) × (request_fault (drop 8 (content rest)) ≡ Some Short))
unfolding request_fault
sound [] pairs = inr (refl, refl)
sound ((m, r) ∷ rest) pairs =
    inl (ap (λ (l : List ℕ). request_fault (drop 8 l)) (append_assoc (le_bytes 8 m) (request_bytes r) (content rest))
    ∙ ap request_fault (drop_at (le_bytes 8 m) (request_bytes r ++ content rest) 8 (length-le_bytes 8 m))
    ∙ spelled_sound r (content rest) pairs.0.1)

no_fault : (f : FrameFault) (rest : List Pair) (last : List ℕ) → Each IsTimed rest → f ≢ Device → f ≢ NoMemory → TimedFaulted f (content rest) last → ⊥
no_fault Device rest last pairs device memory faulted = device refl
no_fault NoMemory rest last pairs device memory faulted = memory refl
no_fault Short rest last pairs device memory faulted = elim (sound rest pairs) [
  | inl none ↦ absurd (let e : None ≡ Some Short = sym none ∙ faulted.1 in cc)
  | inr cut ↦ absurd (omega (arith, faulted.0, ap length cut.0))
]
no_fault f rest last pairs device memory faulted = elim (sound rest pairs) [
  | inl none ↦ absurd (let e = sym none ∙ faulted.0 in cc)
  | inr cut ↦ absurd (let e = sym cut.1 ∙ faulted.0 in cc)
]

fault_left : (f : FrameFault) (ps qs : List Pair) (middle last : Option (List ℕ)) → Remaining ps qs middle → f ≢ Device → f ≢ NoMemory → TimedAnswers (Err f) middle last → ⊥
fault_left f ps qs None last b device memory answer = absurd (let is = b.is in cc)
fault_left f ps qs (Some m) None b device memory answer = answer
fault_left f ps qs (Some m) (Some l) b device memory answer =
    no_fault f b.of.rest l b.of.pairs device memory (subst (λ (bytes : List ℕ). TimedFaulted f bytes l) (some_one b.is ∙ b.of.bytes_are) answer)

-- no failure is counted if the count is 0

rises : (n : ℕ) → risen n ≡ 0 → ⊥
rises n e = grind arith

no_refusal : (before after : Output) → Refuses before after → after.failed ≡ 0 → after.stalled ≡ 0 → ⊥
no_refusal before after refuses failed stalled = elim refuses.rose [
  | inl failure ↦ rises before.failed (sym failure.0 ∙ failed)
  | inr stall ↦ rises before.stalled (sym stall.1 ∙ stalled)
]

not_device : (f : FrameFault) (before after : Input) → FaultCounts f before after → after.failed ≡ 0 → f ≢ Device
not_device f before after counts none is = rises before.failed (sym (subst (λ (g : FrameFault). FaultCounts g before after) is counts).rose ∙ none)

-- the next pair is one of those that are left, and has a time

times_at : (state : List Entry → State) (h : List Entry) (qs : List Pair) (p : Pair) (rest : List Pair) → HasTimes state h (qs ++ p ∷ rest) → IsTimely (state (fold (grown state) h qs)) p
times_at state h [] p rest times = times.0
times_at state h (q ∷ qs) p rest times = times_at state (grown state h q) qs p rest times.1

module _ (profile : Profile) (clients_max : ℕ) where
  next_of : (qs : List Pair) (p : Pair) (rest : List Pair) (l : List ℕ) → Each IsTimed rest → IsTimed p → content rest ≡ timed_bytes p ++ l
      → HasTimes (after profile clients_max) [] (qs ++ rest) → IsTimely (state_after profile clients_max qs) p
  next_of qs p [] l pairs pair e times = absurd (timed_is_some p l (sym e))
  next_of qs p (q ∷ rest) l pairs pair e times =
      subst (IsTimely (state_after profile clients_max qs)) (timed_once q p (content rest) l pairs.0 pair e).0 (times_at (after profile clients_max) [] qs q rest times)

  next_timely : (ps qs : List Pair) (p : Pair) (middle last : Option (List ℕ)) → Remaining ps qs middle → TimedAnswers (Ok (Some p)) middle last
      → HasTimes (after profile clients_max) [] ps → IsTimely (state_after profile clients_max qs) p
  next_timely ps qs p None last b answer times = absurd (let is = b.is in cc)
  next_timely ps qs p (Some m) None b answer times = absurd answer
  next_timely ps qs p (Some m) (Some l) b answer times =
      next_of qs p b.of.rest l b.of.pairs (answer.1, answer.2) (sym b.of.bytes_are ∙ sym (some_one b.is) ∙ answer.0) (subst (HasTimes (after profile clients_max) []) b.of.whole times)

  -- no fault ends it

  module _ (ps qs : List Pair) (middle last : Input) (made written : Output) (b : Remaining ps qs middle.left) (times : HasTimes (after profile clients_max) [] ps)
      (reader : last.failed ≡ 0) (failed : written.failed ≡ 0) (stalled : written.stalled ≡ 0) where
    abbrev S : State
    S = state_after profile clients_max qs

    no_stop : (f : RunFault) (T : State) → f ≢ fault.NoMemory → f ≢ fault.Frame NoMemory → GoesOn PairAnswered AnswersPair (Err f) S T middle last made written → ⊥
    no_stop (fault.Frame f) T memory frame (inl unread) =
        fault_left f ps qs middle.left last.left b (not_device f middle last unread.read.1 reader) (λ is. frame (ap fault.Frame is)) unread.read.0
    no_stop (fault.Frame f) T memory frame (inr next) = no_refusal made written next.act.3.refused failed stalled
    no_stop fault.NoMemory T memory frame goes = memory refl
    no_stop fault.TimeExhausted T memory frame (inl unread) = unread.read
    no_stop fault.TimeExhausted T memory frame (inr next) =
        let timely = next_timely ps qs next.item middle.left last.left b next.read.1 times next.act.0 in
        absurd (let none = next.act.1 in cc)
    no_stop fault.TooLong T memory frame (inl unread) = unread.read
    no_stop fault.TooLong T memory frame (inr next) = next.act

    no_halt : (f : RunFault) → f ≢ fault.NoMemory → length ps < 2 ^ 64 - 1 → RunHalts profile clients_max f qs → ⊥
    no_halt (fault.Frame f) memory few halts = halts
    no_halt fault.NoMemory memory few halts = memory refl
    no_halt fault.TimeExhausted memory few halts = halts
    no_halt fault.TooLong memory few halts = absurd (omega (arith, few, halts, ap length b.of.whole, length-append qs b.of.rest))

  -- each pair of a run got its reply

  module _ (first last : Input) (start written : Output) (ps : List Pair) where
    answered : (result : Result ℕ RunFault) → Ran profile clients_max result first last start written → IsWhole profile clients_max ps first → NothingFails result last written
        → AnsweredAll profile clients_max ps result last start written
    answered (Ok n) ran whole sound =
        let b = remaining ps ran.items first.left ran.middle.left whole.pairs whole.bytes_are ran.done.read.spelled in
        let all = at_end ps ran.items ran.middle.left last.left b ran.ended.1.read.1 in
        record {
          counted = ap Ok (sym ran.ended.0 ∙ ap length (sym all.0));
          read = all.1;
          wrote = subst (λ (o : Output). Appends start.written o.written (flat_map reply_bytes (replies_to profile clients_max ps))) (sym ran.ended.1.silent)
              (subst (Appends start.written ran.made.written) (ran.done.gives.bytes_are ∙ ap (λ (l : List Pair). flat_map reply_bytes (replies_to profile clients_max l)) (sym all.0)) ran.done.sent.grown);
        }
    answered (Err f) ran whole sound =
        let b = remaining ps ran.items first.left ran.middle.left whole.pairs whole.bytes_are ran.done.read.spelled in
        let memory : f ≢ fault.NoMemory = λ is. sound.memory.0 (ap Err is) in
        let frame : f ≢ fault.Frame NoMemory = λ is. sound.memory.1 (ap Err is) in
        absurd (elim ran.ended [
          | inl stops ↦ no_stop ps ran.items ran.middle last ran.made written b whole.times sound.reader sound.writer.0 sound.writer.1 f stops.0 memory frame stops.1
          | inr halts ↦ no_halt ps ran.items ran.middle last ran.made written b whole.times sound.reader sound.writer.0 sound.writer.1 f memory whole.few halts.0
        ])

  pub ran_plain : (result : Result ℕ RunFault) (first last : Input) (start written : Output) → Ran profile clients_max result first last start written
      → RanPlain profile clients_max result first last start written
  ran_plain result first last start written ran ps whole sound = answered first last start written ps result ran whole sound

-- the run of one register

pub register_run : RegisterRun
unfolding le_bytes header_bytes body_bytes reply_header_bytes reply_body_bytes
register_run result first last start written ran input sound =
    let all = ran ((10, asked 7 0 0 Register) ∷ []) (record {
      bytes_are = input;
      pairs = ((omega arith, record { client = omega arith; session = omega arith; request = omega arith; items = tt; lawful = refl }), tt);
      times = (λ _. refl, tt);
      few = omega arith;
    }) sound in
    (all.counted, all.read, all.wrote)
