-- A run, a dump and a replay: what was read and written so far, and one item more. The pairs of a run.
use Rattle.std.proofs.Common.{◌≡◌, ℕ, ◌+◌, Bool, true, false, cond, List, [], ◌∷◌, ◌++◌, length, fold, flat_map, Option, Some, None, Result, Ok, Err, inl, inr, refl, sym, ap, ◌∙◌, subst, arith, append_assoc, append-nil, length-append}
use Rattle.std.proofs.lemmas.Grind.{flat_map-append}
use Rattle.std.specs.Io.KnownBytes.{Appends}
use Rattle.tb_records.specs.declared.limits.Profile.{Profile}
use Rattle.tb_records.specs.Ordered.{Each}
use Rattle.tb_records.specs.ReplyFrames.{reply_bytes, IsReply}
use Rattle.tb_records.specs.Inputs.{timed_bytes, IsTimed, TimedAnswers}
use Rattle.tb_records.specs.Transport.{Input, Output, Sent}
use Rattle.tb_machine.specs.declared.entries.Entry.{Entry}
use Rattle.tb_machine.specs.declared.serving.RunFault.TheVariants as fault
use Rattle.tb_machine.specs.Histories.{State, start, step, after, answer_to}
use Rattle.tb_machine.specs.Scripts.{Pair, entry_of, is_entered, after_pair, grown, accepted, replies_from, replies_to}
use Rattle.tb_machine.specs.Worked.{Next, GoesOn, EndsBy, Done, Worked, items_taken}
use Rattle.tb_machine.specs.Runs.{Spell, Reads, IsTimely, answer_bytes, AnswersPair, PairAnswered, HasTimes, state_after, Replies, Ran}
use Rattle.tb_machine.proofs.Rows.{each_snoc}
use Rattle.tb_machine.proofs.Legal.{fold_snoc, after_snoc}

-- what is read and written

spell_snoc : (ps : List Pair) (p : Pair) (before middle after : Option (List ℕ)) → Spell ps before middle → Spell (p ∷ []) middle after → Spell (ps ++ p ∷ []) before after
spell_snoc ps p None middle after all one = tt
spell_snoc ps p (Some b) None after all one = absurd all
spell_snoc ps p (Some b) (Some m) None all one = absurd one
spell_snoc ps p (Some b) (Some m) (Some a) all one = (
  all.0 ∙ ap (λ l. flat_map timed_bytes ps ++ l) one.0 ∙ sym (append_assoc (flat_map timed_bytes ps) (flat_map timed_bytes (p ∷ [])) a) ∙ ap (λ l. l ++ a) (sym (flat_map-append timed_bytes ps (p ∷ []))),
  each_snoc IsTimed ps p all.1 one.1.0,
)

pub reads_snoc : (ps : List Pair) (p : Pair) (before middle after : Input) → Reads ps before middle → Reads (p ∷ []) middle after → Reads (ps ++ p ∷ []) before after
reads_snoc ps p before middle after all one = record { spelled = spell_snoc ps p before.left middle.left after.left all.spelled one.spelled; counted = one.counted ∙ all.counted }

spell_one : (p : Pair) (before after : Option (List ℕ)) → TimedAnswers (Ok (Some p)) before after → Spell (p ∷ []) before after
spell_one p None after answer = tt
spell_one p (Some b) None answer = absurd answer
spell_one p (Some b) (Some a) answer = (answer.0 ∙ ap (λ l. l ++ a) (sym (append-nil (timed_bytes p))), ((answer.1, answer.2), tt))

pub reads_one : (p : Pair) (before after : Input) → TimedAnswers (Ok (Some p)) before.left after.left → after.failed ≡ before.failed → Reads (p ∷ []) before after
reads_one p before after answer counted = record { spelled = spell_one p before.left after.left answer; counted = counted }

pub reads_none : (i : Input) → Reads [] i i
reads_none i = record { spelled = none i.left; counted = refl }
  where
    none : (left : Option (List ℕ)) → Spell [] left left
    none None = tt
    none (Some b) = (refl, tt)

appends_none : (o : Option (List ℕ)) → Appends o o []
appends_none None = tt
appends_none (Some xs) = sym (append-nil xs)

pub sends_none : (o : Output) → Sent [] o o
sends_none o = record { grown = appends_none o.written; counted = refl; flowed = refl }

appends_then : (o p q : Option (List ℕ)) (xs ys : List ℕ) → Appends o p xs → Appends p q ys → Appends o q (xs ++ ys)
appends_then None p q xs ys first then_it = tt
appends_then (Some a) None q xs ys first then_it = absurd first
appends_then (Some a) (Some b) None xs ys first then_it = absurd then_it
appends_then (Some a) (Some b) (Some d) xs ys first then_it = then_it ∙ ap (λ l. l ++ ys) first ∙ append_assoc a xs ys

pub sends_then : (xs ys : List ℕ) (a b d : Output) → Sent xs a b → Sent ys b d → Sent (xs ++ ys) a d
sends_then xs ys a b d first then_it = record {
  grown = appends_then a.written b.written d.written xs ys first.grown then_it.grown;
  counted = then_it.counted ∙ first.counted;
  flowed = then_it.flowed ∙ first.flowed;
}

-- the items so far

module _ {Items : Type 0} (Read : Items → Input → Input → Type 0) (Gives : Items → List ℕ → Type 0) (state : Items → State) (Stands : ℕ → Items → Type 0) where
  -- a loop's invariant: items were taken, as many as `Stands` says, and the machine is in the state after them
  pub record Working (k : ℕ) (S : State) (before middle : Input) (start written : Output) : Type 0 where
    pub items : Items
    pub state_is : S ≡ state items
    pub stands : Stands k items
    pub done : Done Read Gives items before middle start written

  -- items that are one more, and what the last one adds to the bytes
  pub record Joined (k : ℕ) (T : State) (bytes : List ℕ) (before after : Input) (written next : Output) : Type 0 where
    pub items : Items
    pub state_is : T ≡ state items
    pub stands : Stands k items
    pub read : Read items before after
    pub added : List ℕ
    pub gives : Gives items (bytes ++ added)
    pub sent : Sent added written next

  -- the next item joins those before
  abbrev pub Joins : {Item Fault : Type 0} → (Result (Option Item) Fault → Input → Input → Type 0) → (Result (Unit {0}) Fault → State → State → Item → Output → Output → Type 0) → Type 0
  Joins Answered Acts =
      (k : ℕ) (items : Items) (T : State) (bytes : List ℕ) (before middle after : Input) (written next : Output) → Stands k items → Read items before middle → Gives items bytes
      → Next Answered Acts (Ok tt) (state items) T middle after written next → Joined (k + 1) T bytes before after written next

module _ {Items : Type 0} {Read : Items → Input → Input → Type 0} {Gives : Items → List ℕ → Type 0} {state : Items → State} {Stands : ℕ → Items → Type 0}
    {k : ℕ} {S : State} {before middle : Input} {start written : Output} (w : Working Read Gives state Stands k S before middle start written) where
  -- nothing more was written, however far it moved on
  pub working_passed : {next : Output} → Sent [] written next → Working Read Gives state Stands k S before middle start next
  working_passed {next} on = record {
    items = w.items;
    state_is = w.state_is;
    stands = w.stands;
    done = record {
      bytes = w.done.bytes;
      read = w.done.read;
      gives = w.done.gives;
      sent = subst (λ bytes. Sent bytes start next) (append-nil w.done.bytes) (sends_then w.done.bytes [] start written next w.done.sent on);
    };
  }

  module _ {Item Fault : Type 0} {Answered : Result (Option Item) Fault → Input → Input → Type 0} {Acts : Result (Unit {0}) Fault → State → State → Item → Output → Output → Type 0} where
    pub working_on : {T : State} {after : Input} {next : Output} → Joins Read Gives state Stands Answered Acts → Next Answered Acts (Ok tt) S T middle after written next
        → Working Read Gives state Stands (k + 1) T before after start next
    working_on {T} {after} {next} joins taken =
        let one = joins k w.items T w.done.bytes before middle after written next w.stands w.done.read w.done.gives (subst (λ (U : State). Next Answered Acts (Ok tt) U T middle after written next) w.state_is taken) in
        record {
          items = one.items;
          state_is = one.state_is;
          stands = one.stands;
          done = record {
            bytes = w.done.bytes ++ one.added;
            read = one.read;
            gives = one.gives;
            sent = sends_then w.done.bytes one.added start written next w.done.sent one.sent;
          };
        }

    module _ {count : Items → ℕ} {Halts : Fault → Items → Type 0} where
      -- at the end nothing more was written, and what was written was passed on
      pub worked_out : {n : ℕ} {T : State} {after : Input} {next passed : Output} → count w.items ≡ n → GoesOn Answered Acts (Ok false) S T middle after written next → Sent [] next passed
          → Worked Read Gives (EndsBy Answered Acts (items_taken count state Halts)) (Ok n) before after start passed
      unfolding working_passed
      worked_out {passed = passed} counted ends on =
          let all = working_passed (subst (λ (o : Output). Sent [] o passed) ends.1.silent on) in
          record { items = all.items; middle = middle; made = passed; done = all.done; ended = (counted, record { read = ends.1.read; silent = refl }) }

      -- if the machine's commit number is their number
      pub worked_commits : {n : ℕ} {T : State} {after : Input} {next passed : Output} → (state w.items).commit ≡ count w.items → n ≡ T.commit
          → GoesOn Answered Acts (Ok false) S T middle after written next → Sent [] next passed → Worked Read Gives (EndsBy Answered Acts (items_taken count state Halts)) (Ok n) before after start passed
      worked_commits counted is ends on = worked_out (sym counted ∙ ap (λ (U : State). U.commit) (sym w.state_is ∙ sym ends.0) ∙ sym is) ends on

      -- a fault of the next item
      pub worked_into : {f : Fault} {T : State} {after : Input} {next : Output} → GoesOn Answered Acts (Err f) S T middle after written next
          → Worked Read Gives (EndsBy Answered Acts (items_taken count state Halts)) (Err f) before after start next
      worked_into {f} {T} {after} {next} stops = record {
        items = w.items;
        middle = middle;
        made = written;
        done = w.done;
        ended = inl (T, subst (λ (U : State). GoesOn Answered Acts (Err f) U T middle after written next) w.state_is stops);
      }

      -- a fault that comes of no item
      pub worked_halted : {f : Fault} → Halts f w.items → Worked Read Gives (EndsBy Answered Acts (items_taken count state Halts)) (Err f) before middle start written
      worked_halted halts = record { items = w.items; middle = middle; made = written; done = w.done; ended = inr (halts, refl, refl) }

-- pairs that make a history

module _ (state : List Entry → State) where
  pub history_snoc : (ps : List Pair) (p : Pair) → fold (grown state) [] (ps ++ p ∷ []) ≡ grown state (fold (grown state) [] ps) p
  history_snoc ps p = fold_snoc (grown state) [] ps p

  pub times_snoc : (h : List Entry) (ps : List Pair) (p : Pair) → HasTimes state h ps → IsTimely (state (fold (grown state) h ps)) p → HasTimes state h (ps ++ p ∷ [])
  times_snoc h [] p times timely = (timely, tt)
  times_snoc h (q ∷ qs) p times timely = (times.0, times_snoc (grown state h q) qs p times.1 timely)

module _ (profile : Profile) (clients_max : ℕ) where
  pub after_with_pair : (h : List Entry) (p : Pair) → after profile clients_max (grown (after profile clients_max) h p) ≡ after_pair (after profile clients_max h) p
  after_with_pair h p = parts (is_entered (after profile clients_max h) p)
    where
      parts : (b : Bool) → after profile clients_max (cond b (h ++ entry_of (after profile clients_max h) p ∷ []) h) ≡ cond b (step (after profile clients_max h) (entry_of (after profile clients_max h) p)) (after profile clients_max h)
      parts true = after_snoc profile clients_max h (entry_of (after profile clients_max h) p)
      parts false = refl

  state_snoc : (ps : List Pair) (p : Pair) → state_after profile clients_max (ps ++ p ∷ []) ≡ after_pair (state_after profile clients_max ps) p
  state_snoc ps p = ap (after profile clients_max) (history_snoc (after profile clients_max) ps p) ∙ after_with_pair (accepted profile clients_max [] ps) p

  replies_snoc : (h : List Entry) (ps : List Pair) (p : Pair)
      → replies_from profile clients_max h (ps ++ p ∷ []) ≡ replies_from profile clients_max h ps ++ answer_to (after_pair (after profile clients_max (accepted profile clients_max h ps)) p) p.1 ∷ []
  replies_snoc h [] p = ap (λ (S : State). answer_to S p.1 ∷ []) (after_with_pair h p)
  replies_snoc h (q ∷ qs) p = ap (λ l. answer_to (after profile clients_max (grown (after profile clients_max) h q)) q.1 ∷ l) (replies_snoc (grown (after profile clients_max) h q) qs p)

  -- a run's loop: k pairs were served
  abbrev pub Serving : ℕ → State → Input → Input → Output → Output → Type 0
  Serving = Working Reads (Replies profile clients_max) (state_after profile clients_max) (λ k ps. length ps ≡ k)

  pub serving_none : (S : State) (i : Input) (o : Output) → S ≡ start profile clients_max → Serving 0 S i i o o
  serving_none S i o is = record {
    items = [];
    state_is = is;
    stands = refl;
    done = record { bytes = []; read = reads_none i; gives = record { times = tt; bytes_are = refl; spelled = tt }; sent = sends_none o };
  }

  pub serving_joins : Joins Reads (Replies profile clients_max) (state_after profile clients_max) (λ k ps. length ps ≡ k) PairAnswered AnswersPair
  serving_joins k ps T bytes before middle later written next long read gives n =
      let p = n.item in
      let reply = answer_to (after_pair (state_after profile clients_max ps) p) p.1 in
      record {
        items = ps ++ p ∷ [];
        state_is = n.act.1 ∙ sym (state_snoc ps p);
        stands = omega (arith, long, length-append ps (p ∷ []));
        read = reads_snoc ps p before middle later read (reads_one p middle later n.read.1 n.read.2);
        added = answer_bytes (state_after profile clients_max ps) p;
        gives = record {
          times = times_snoc (after profile clients_max) [] ps p gives.times n.act.0;
          bytes_are = ap (λ l. l ++ reply_bytes reply) gives.bytes_are
              ∙ sym (ap (flat_map reply_bytes) (replies_snoc [] ps p) ∙ flat_map-append reply_bytes (replies_to profile clients_max ps) (reply ∷ []) ∙ ap (λ l. flat_map reply_bytes (replies_to profile clients_max ps) ++ l) (append-nil (reply_bytes reply)));
          spelled = subst (Each IsReply) (sym (replies_snoc [] ps p)) (each_snoc IsReply (replies_to profile clients_max ps) reply gives.spelled n.act.3);
        };
        sent = n.act.2;
      }

  pub ran_nowhere : (i : Input) (o : Output) → Ran profile clients_max (Err fault.NoMemory) i i o o
  unfolding serving_none
  ran_nowhere i o = worked_halted (serving_none (start profile clients_max) i o refl) refl
