-- Serving in rounds: those so far, and what comes next.
use Rattle.std.proofs.Common.{◌≡◌, ◌⊎◌, ℕ, Bool, false, ◌+◌, ◌-◌, ◌^◌, ◌≤◌, arith, true, List, [], ◌∷◌, ◌++◌, length, None, Result, Ok, Err, inl, inr, refl, sym, ap, ◌∙◌, subst, append_assoc, length-append}
use Rattle.tb_records.specs.Transport.{Input, Output, Sent, CutOff}
use Rattle.tb_file_journal.specs.declared.faults.JournalFault.{JournalFault}
use Rattle.tb_file_journal.specs.Device.{Disk, LeavesOnly, HasFailed}
use Rattle.tb_file_journal.specs.Contents.{at_rest, blocks_length, recorded}
use Rattle.tb_file_journal.specs.Steps.{IsBeforeOrAfter}
use Rattle.tb_file_journal.specs.Ready.{Kept, IsReady}
use Rattle.tb_machine.specs.declared.serving.RunFault.TheVariants as run
use Rattle.tb_machine.specs.Histories.{State}
use Rattle.tb_machine.specs.Runs.{Reads, is_new_in}
use Rattle.tb_machine.specs.Scripts.{Pair, entry_of, has_time, after_pair}
use Rattle.tb_machine.specs.Dumps.{dumped}
use Rattle.tb_machine.proofs.Running.{reads_none, reads_snoc}
use Rattle.tb_file.specs.declared.faults.KeepFault.{KeepFault}
use Rattle.tb_file.specs.declared.faults.KeepFault.TheVariants as keep
use Rattle.tb_file.specs.Keeping.{Keeping, IsFresh}
use Rattle.tb_file.specs.Rounds.{state_from, records_from, reply_bytes_from, IsServed, AreServed, pairs_of, Commits, Standing, standing_of, IsPrompt, ReadsPromptly, is_held, RefusesRecord, Round, Rounds, IsStop, Pauses, FailsCommit, Served, EndsServing, block_bytes_max, IsDue}
use Rattle.tb_file.specs.private.Steps.{IsSudden, ServesNextPair, Ceases, IsCommitted, IsUncommitted, CommitsAndReplies, MayReply, EndsNext, replies_at, round_at}
use Rattle.tb_file.proofs.Batches.{block_short, grows, some_byte}
use Rattle.tb_file.proofs.Pairs.{state_snoc, records_join, replies_join, served_snoc, pairs_snoc}

abbrev is_ok : {T F : Type 0} → Result T F → Type 0
is_ok (Ok x) = Unit {0}
is_ok (Err f) = ⊥

-- one pair more is read promptly
promptly_snoc : (held : Bool) (ps : List Pair) (p : Pair) (a b c : Input) → ReadsPromptly held ps a b → IsPrompt (is_held held ps) b → Reads (p ∷ []) b c → ReadsPromptly held (ps ++ p ∷ []) a c
promptly_snoc held [] p a b c same asked read =
    subst (λ (i : Input). ReadsPromptly held (p ∷ []) i c) same (asked, (c, read, refl))
promptly_snoc held (q ∷ qs) p a b c all asked read =
    (all.0, (all.1.0, all.1.1, promptly_snoc true qs p all.1.0 b c all.1.2 (still qs asked) read))
  where
    still : (rest : List Pair) → IsPrompt true b → IsPrompt (is_held true rest) b
    still [] asked = asked
    still (r ∷ rest) asked = asked

module _ (tells : Type 0) {D : Type 0} (disk : D → Disk) where
  rounds_snoc : (rounds : List (List Pair)) (ps : List Pair) (a b c : Standing D) → Rounds tells disk rounds a b → Round tells disk ps b c
      → (tells → IsDue c.input.at_hand (reply_bytes_from b.state ps) (records_from b.state ps)) → Rounds tells disk (rounds ++ ps ∷ []) a c
  rounds_snoc [] ps a b c all one due = (
    c,
    subst (λ (s : Standing D). Round tells disk ps s c) all one,
    refl,
    λ t. subst (λ (S : State). IsDue c.input.at_hand (reply_bytes_from S ps) (records_from S ps)) (ap (λ (s : Standing D). s.state) all) (due t),
  )
  rounds_snoc (qs ∷ rounds) ps a b c all one due = (all.0, all.1, rounds_snoc rounds ps all.0 b c all.2 one due, all.3)

  -- the loop's invariant: k pairs were read, of which those of the rounds were acknowledged, and the records and replies of the others wait
  pub record Going (k : ℕ) (before keeper : Keeping D) (first input : Input) (start written : Output) (held : List ℕ) : Type 0 where
    pub rounds : List (List Pair)
    pub more : List Pair
    pub standing : Standing D
    pub long : length (pairs_of rounds ++ more) ≡ k
    pub kept : Rounds tells disk rounds (standing_of before first start) standing
    pub served : AreServed standing.state more
    pub read : Reads (pairs_of rounds ++ more) first input
    pub prompt : ReadsPromptly standing.output.held more standing.input input
    pub state : keeper.state ≡ state_from standing.state more
    pub device : keeper.journal.device ≡ standing.device
    pub waits : tells → keeper.journal.waiting ≡ records_from standing.state more
    pub holds : held ≡ reply_bytes_from standing.state more
    pub output : written ≡ standing.output
    pub ready : tells → IsReady disk keeper.journal
    pub fewer : length (at_rest (records_from standing.state more)) ≤ length (at_rest keeper.journal.waiting)
    pub short : length (at_rest (records_from standing.state more)) ≤ 2 ^ 22
    pub usable : keeper.usable ≡ before.usable
    pub journal : keeper.journal.usable ≡ true

  -- the same, and the next pair may be asked for
  pub record Asking (k : ℕ) (before keeper : Keeping D) (first input : Input) (start written : Output) (held : List ℕ) : Type 0 where
    pub going : Going k before keeper first input start written held
    pub prompt : IsPrompt (is_held going.standing.output.held going.more) input
    pub room : length (at_rest (records_from going.standing.state going.more)) + block_bytes_max ≤ 2 ^ 22

  pub going_none : (keeper : Keeping D) (i : Input) (o : Output) → keeper.journal.usable ≡ true → (tells → IsFresh disk keeper) → Going 0 keeper keeper i i o o []
  going_none keeper i o journal fresh = record {
    rounds = [];
    more = [];
    standing = standing_of keeper i o;
    long = refl;
    kept = refl;
    served = tt;
    read = reads_none i;
    prompt = refl;
    state = refl;
    device = refl;
    waits = λ t. (fresh t).none_waits;
    holds = refl;
    output = refl;
    ready = λ t. (fresh t).ready;
    fewer = some_byte keeper.journal.waiting;
    short = omega arith;
    usable = refl;
    journal = journal;
  }

  still_ready : (j k : Kept D) (waiting : List (List ℕ)) → k ≡ record j { waiting = waiting } → IsReady disk j → IsReady disk k
  still_ready j k waiting is ready = subst (λ (k : Kept D). IsReady disk k) (sym is) (record { at_rest = ready.at_rest; ends = ready.ends; counts = ready.counts })

module _ {tells : Type 0} {D : Type 0} {disk : D → Disk} {k : ℕ} {before keeper : Keeping D} {first input : Input} {start written : Output} {held : List ℕ} (g : Going tells disk k before keeper first input start written held) where
  -- one more pair
  more_going : {after : Keeping D} {last : Input} {grown : List ℕ} → IsPrompt (is_held g.standing.output.held g.more) input
      → length (at_rest (records_from g.standing.state g.more)) + block_bytes_max ≤ 2 ^ 22
      → ServesNextPair (Ok tt) keeper after input last held grown
      → Going tells disk (k + 1) before after first last start written grown
  more_going {after} {last} {grown} asked room n =
      let S = g.standing.state in
      let one = records_from keeper.state (n.pair ∷ []) in
      let records : records_from S (g.more ++ n.pair ∷ []) ≡ records_from S g.more ++ one =
      records_join S g.more (n.pair ∷ []) ∙ ap (λ (U : State). records_from S g.more ++ records_from U (n.pair ∷ [])) (sym g.state) in
      let bytes : length (at_rest (records_from S (g.more ++ n.pair ∷ []))) ≡ length (at_rest (records_from S g.more)) + blocks_length one =
      ap (λ (l : List (List ℕ)). length (at_rest l)) records ∙ grows (records_from S g.more) one in
      let waiting : length (at_rest after.journal.waiting) ≡ length (at_rest keeper.journal.waiting) + blocks_length one =
      ap (λ (j : Kept D). length (at_rest j.waiting)) n.turn.waits ∙ grows keeper.journal.waiting one in
      record {
        rounds = g.rounds;
        more = g.more ++ n.pair ∷ [];
        standing = g.standing;
        long = ap length (sym (append_assoc (pairs_of g.rounds) g.more (n.pair ∷ []))) ∙ length-append (pairs_of g.rounds ++ g.more) (n.pair ∷ []) ∙ ap (λ n. n + 1) g.long;
        kept = g.kept;
        served = served_snoc S g.more n.pair g.served (subst (λ (U : State). IsServed U n.pair) g.state n.turn.served);
        read = subst (λ ps. Reads ps first last) (append_assoc (pairs_of g.rounds) g.more (n.pair ∷ [])) (reads_snoc (pairs_of g.rounds ++ g.more) n.pair first input last g.read n.read);
        prompt = promptly_snoc g.standing.output.held g.more n.pair g.standing.input input last g.prompt asked n.read;
        state = n.turn.state ∙ ap (λ (U : State). after_pair U n.pair) g.state ∙ sym (state_snoc S g.more n.pair);
        device = ap (λ (j : Kept D). j.device) n.turn.waits ∙ g.device;
        waits = λ t. ap (λ (j : Kept D). j.waiting) n.turn.waits
            ∙ ap (λ records. records ++ records_from keeper.state (n.pair ∷ [])) (g.waits t)
            ∙ ap (λ (U : State). records_from S g.more ++ records_from U (n.pair ∷ [])) g.state
            ∙ sym (records_join S g.more (n.pair ∷ []));
        holds = n.turn.holds
            ∙ ap (λ bytes. bytes ++ reply_bytes_from keeper.state (n.pair ∷ [])) g.holds
            ∙ ap (λ (U : State). reply_bytes_from S g.more ++ reply_bytes_from U (n.pair ∷ [])) g.state
            ∙ sym (replies_join S g.more (n.pair ∷ []));
        output = g.output;
        ready = λ t. still_ready tells disk keeper.journal after.journal (keeper.journal.waiting ++ records_from keeper.state (n.pair ∷ [])) n.turn.waits (g.ready t);
        fewer = omega (arith, bytes, waiting, g.fewer);
        short = omega (arith, bytes, room, block_short keeper.state n.pair n.turn.served);
        usable = n.turn.usable ∙ g.usable;
        journal = ap (λ (j : Kept D). j.usable) n.turn.waits ∙ g.journal;
      }

  -- pairs were served, and what ended serving
  serves : {result : Result ℕ KeepFault} {after : Keeping D} {last : Input} {next : Output}
      → ((last ≡ input) ⊎ IsPrompt (is_held g.standing.output.held g.more) input)
      → EndsServing tells disk result (length (pairs_of g.rounds ++ g.more)) g.more g.standing after input last next
      → Served tells disk result before after first last start next
  serves asked ended = record {
    rounds = g.rounds;
    more = g.more;
    standing = g.standing;
    input = input;
    kept = g.kept;
    served = g.served;
    read = g.read;
    prompt = g.prompt;
    asked = asked;
    ended = ended;
  }

  pub served_too_long : k ≡ 2 ^ 64 - 1 → Served tells disk (Err (keep.Serving run.TooLong)) before keeper first input start written
  served_too_long all = serves (inl refl) (g.long ∙ all, refl, record { same = g.device; silent = g.output })

  commits_more : {after : Keeping D} → IsCommitted tells disk keeper after → tells → Commits (records_from g.standing.state g.more) (disk g.standing.device) (disk after.journal.device)
  commits_more {after} c t =
      subst (λ (d : D). Commits (records_from g.standing.state g.more) (disk d) (disk after.journal.device)) g.device
      (subst (λ records. Commits records (disk keeper.journal.device) (disk after.journal.device)) (g.waits t) (c.commits t))

  -- the pairs that wait are a round when their replies are sent
  round_replied : {after : Keeping D} {next : Output} {left : List ℕ} → CommitsAndReplies tells disk (Ok tt) (replies_at keeper held written) (replies_at after left next)
      → Round tells disk g.more g.standing (standing_of after input next)
  round_replied {after} {next} {left} t = record {
    prompt = g.prompt;
    served = g.served;
    state = t.0.state ∙ g.state;
    commits = commits_more t.0;
    short = g.short;
    told = subst (λ (o : Output). Sent (reply_bytes_from g.standing.state g.more) o next) g.output (subst (λ bytes. Sent bytes written next) g.holds t.1.0);
    passed = t.1.1;
  }

  -- they are due, by what is held and what waits
  due_by : IsDue input.at_hand held keeper.journal.waiting → tells → IsDue input.at_hand (reply_bytes_from g.standing.state g.more) (records_from g.standing.state g.more)
  due_by due t =
      subst (λ (w : List (List ℕ)). IsDue input.at_hand (reply_bytes_from g.standing.state g.more) w) (g.waits t)
      (subst (λ (b : List ℕ). IsDue input.at_hand b keeper.journal.waiting) g.holds due)

  going_replied : {after : Keeping D} {next : Output} {left : List ℕ} → IsDue input.at_hand held keeper.journal.waiting → CommitsAndReplies tells disk (Ok tt) (replies_at keeper held written) (replies_at after left next)
      → Going tells disk k before after first input start next left
  going_replied {after} {next} {left} due t = record {
    rounds = g.rounds ++ g.more ∷ [];
    more = [];
    standing = standing_of after input next;
    long = ap length (pairs_snoc g.rounds g.more) ∙ g.long;
    kept = rounds_snoc tells disk g.rounds g.more (standing_of before first start) g.standing (standing_of after input next) g.kept (round_replied t) (due_by due);
    served = tt;
    read = subst (λ ps. Reads ps first input) (sym (pairs_snoc g.rounds g.more)) g.read;
    prompt = refl;
    state = refl;
    device = refl;
    waits = λ _. t.0.none_waits;
    holds = t.1.2;
    output = refl;
    ready = t.0.ready;
    fewer = some_byte after.journal.waiting;
    short = omega arith;
    usable = t.0.usable ∙ g.usable;
    journal = t.0.journal;
  }

  replied_prompt : {after : Keeping D} {next : Output} {left : List ℕ} (due : IsDue input.at_hand held keeper.journal.waiting) (t : CommitsAndReplies tells disk (Ok tt) (replies_at keeper held written) (replies_at after left next))
      → IsPrompt (is_held (going_replied due t).standing.output.held (going_replied due t).more) input
  unfolding going_replied
  replied_prompt due t holds = let clash : true ≡ false = sym holds ∙ t.1.1 in absurd (cc)

  replied_room : {after : Keeping D} {next : Output} {left : List ℕ} (due : IsDue input.at_hand held keeper.journal.waiting) (t : CommitsAndReplies tells disk (Ok tt) (replies_at keeper held written) (replies_at after left next))
      → length (at_rest (records_from (going_replied due t).standing.state (going_replied due t).more)) + block_bytes_max ≤ 2 ^ 22
  unfolding going_replied
  replied_room due t = omega arith

  -- the replies are sent, or need not be yet
  pub going_may : {after : Keeping D} {next : Output} {left : List ℕ} → MayReply tells disk (Ok tt) (round_at keeper input held written) (round_at after input left next)
      → Asking tells disk k before after first input start next left
  going_may (inl (whole, few, room, is, stays, none, silent)) =
      rw (stays, none, silent) (record { going = g; prompt = λ _. whole; room = omega (arith, room, g.fewer) })
  going_may (inr (due, told)) = record { going = going_replied due told; prompt = replied_prompt due told; room = replied_room due told }

  -- a commit that failed
  fails : {after : Keeping D} {next : Output} (fault : JournalFault) → IsUncommitted tells disk fault keeper after → next ≡ written
      → FailsCommit tells disk fault g.more g.standing after.journal.device next
  fails {after} {next} fault un silent = record {
    some = λ t none. un.some (g.waits t ∙ none);
    cause = λ t. subst (λ (d : D). HasFailed (disk d) (disk after.journal.device) fault) g.device (un.cause t);
    any_moment = λ known.
        subst (λ (d : D). LeavesOnly (disk d) (disk after.journal.device) (IsBeforeOrAfter (recorded (disk d).seen) (records_from g.standing.state g.more))) g.device
        (subst (λ records. LeavesOnly (disk keeper.journal.device) (disk after.journal.device) (IsBeforeOrAfter (recorded (disk keeper.journal.device).seen) records)) (g.waits known) (un.any_moment known));
    short = g.short;
    silent = silent ∙ g.output;
  }

  -- a fault in sending, with nothing more read, or the end
  served_silent : (f : KeepFault) (left : List ℕ) {after : Keeping D} {last : Input} {next : Output}
      → ((last ≡ input) ⊎ IsPrompt (is_held g.standing.output.held g.more) input) → Pauses (state_from g.standing.state g.more) input last
      → CommitsAndReplies tells disk (Err f) (replies_at keeper held written) (replies_at after left next)
      → Served tells disk (Err f) before after first last start next
  served_silent (keep.Journal fault) left {after} {last} {next} asked pauses t = serves asked (inr (pauses, fails fault t.0 t.1))
  served_silent (keep.Serving (run.Frame fault)) left {after} {last} {next} asked pauses t = serves asked (inr (
    t.1.0,
    pauses,
    record {
      commits = commits_more t.0;
      short = g.short;
      cut = subst (λ (o : Output). CutOff (reply_bytes_from g.standing.state g.more) o next) g.output (subst (λ bytes. CutOff bytes written next) g.holds t.1.1);
    },
  ))
  served_silent (keep.Serving run.NoMemory) left asked pauses t = absurd t.1
  served_silent (keep.Serving run.TimeExhausted) left asked pauses t = absurd t.1
  served_silent (keep.Serving run.TooLong) left asked pauses t = absurd t.1

  pub served_before : (f : KeepFault) (left : List ℕ) {after : Keeping D} {next : Output} → MayReply tells disk (Err f) (round_at keeper input held written) (round_at after input left next)
      → Served tells disk (Err f) before after first input start next
  served_before f left (inl same) = absurd (subst is_ok (sym same.3) tt)
  served_before f left (inr (due, told)) = served_silent f left (inl refl) (inl refl) told

module _ {tells : Type 0} {D : Type 0} {disk : D → Disk} {k : ℕ} {before keeper : Keeping D} {first input : Input} {start written : Output} {held : List ℕ} (a : Asking tells disk k before keeper first input start written held) where
  -- nothing was written meanwhile
  pub asking_silent : {next : Output} → next ≡ written → Asking tells disk k before keeper first input start next held
  asking_silent same = subst (λ (o : Output). Asking tells disk k before keeper first input start o held) (sym same) a

  -- one more pair
  pub going_on : {after : Keeping D} {last : Input} {grown : List ℕ} → ServesNextPair (Ok tt) keeper after input last held grown → Going tells disk (k + 1) before after first last start written grown
  going_on n = more_going a.going a.prompt a.room n

  -- a fault in serving a pair, after which nothing is sent
  served_into : (f : KeepFault) {after : Keeping D} {last : Input} {left : List ℕ} → IsSudden f → ServesNextPair (Err f) keeper after input last held left → Served tells disk (Err f) before after first last start written
  served_into (keep.Serving run.NoMemory) is n = serves a.going (inr a.prompt) ((n.pair, n.read), record { same = n.turn ∙ a.going.device; silent = a.going.output })
  served_into (keep.Journal fault) {after} is n = serves a.going (inr a.prompt) (inl (
    record {
      pair = n.pair;
      read = n.read;
      new = subst (λ (U : State). is_new_in U n.pair ≡ true) a.going.state n.turn.0;
      time = subst (λ (U : State). has_time U n.pair ≡ true) a.going.state n.turn.1;
      refused = subst (λ (U : State). RefusesRecord fault after.journal (dumped (entry_of U n.pair))) a.going.state
          (subst (λ (j : Kept D). RefusesRecord fault j (dumped (entry_of keeper.state n.pair))) (sym n.turn.3) n.turn.2);
    },
    record { same = ap (λ (j : Kept D). j.device) n.turn.3 ∙ a.going.device; silent = a.going.output },
  ))
  served_into (keep.Serving (run.Frame fault)) is n = absurd is
  served_into (keep.Serving run.TimeExhausted) is n = absurd is
  served_into (keep.Serving run.TooLong) is n = absurd is

  -- what ends serving

  pub served_out : {again after : Keeping D} {last : Input} {next : Output} {same : List ℕ} (left : List ℕ)
      → Ceases (Ok None) keeper again input last held same → CommitsAndReplies tells disk (Ok tt) (replies_at again same written) (replies_at after left next) → Served tells disk (Ok k) before after first last start next
  served_out {again} {after} {last} {next} {same} left c t =
      serves a.going (inr a.prompt) (sym a.going.long, c.read, round_replied a.going (rw (c.same, c.holds) at t))

  -- a fault at the end of the input
  pub served_end : (f : KeepFault) {again after : Keeping D} {last : Input} {next : Output} {same : List ℕ} (left : List ℕ)
      → Ceases (Ok None) keeper again input last held same → CommitsAndReplies tells disk (Err f) (replies_at again same written) (replies_at after left next) → Served tells disk (Err f) before after first last start next
  served_end f {again} {after} {last} {next} {same} left c t =
      served_silent a.going f left (inr a.prompt) (inr (inl c.read))
      (subst (λ (x : Keeping D). CommitsAndReplies tells disk (Err f) (replies_at x held written) (replies_at after left next)) c.same
      (subst (λ bytes. CommitsAndReplies tells disk (Err f) (replies_at again bytes written) (replies_at after left next)) c.holds t))

  -- the replies were sent before what ends serving
  served_stopped : (stop : KeepFault) {after : Keeping D} {last : Input} {next : Output} (left : List ℕ)
      → IsStop stop keeper.state input last → CommitsAndReplies tells disk (Ok tt) (replies_at keeper held written) (replies_at after left next) → Served tells disk (Err stop) before after first last start next
  served_stopped (keep.Serving (run.Frame fault)) {after} {last} {next} left is t =
      serves a.going (inr a.prompt) (inl (is, round_replied a.going {after = after} {next = next} {left = left} t))
  served_stopped (keep.Serving run.TimeExhausted) {after} {last} {next} left is t =
      serves a.going (inr a.prompt) (
        subst (λ (U : State). IsStop (keep.Serving run.TimeExhausted) U input last) a.going.state is,
        round_replied a.going {after = after} {next = next} {left = left} t,
      )
  served_stopped (keep.Serving run.NoMemory) left is t = absurd is
  served_stopped (keep.Serving run.TooLong) left is t = absurd is
  served_stopped (keep.Journal fault) left is t = absurd is

  -- a fault in reading or serving a pair
  pub served_ends : (f : KeepFault) {after : Keeping D} {last : Input} {next : Output} (left : List ℕ)
      → EndsNext tells disk f (round_at keeper input held written) (round_at after last left next) → Served tells disk (Err f) before after first last start next
  served_ends f left (inl (is, n, silent)) = rw silent (served_into f is n)
  served_ends f left (inr (stop, is, inl (same, t))) = rw same (served_stopped stop left is t)
  served_ends f {after} {last} left (inr (stop, is, inr t)) =
      served_silent a.going f left (inr a.prompt) (inr (inr (stop, subst (λ (U : State). IsStop stop U input last) a.going.state is))) t

-- a keeper that is not used any more: what was served stays
module _ (tells : Type 0) {D : Type 0} (disk : D → Disk) (cut : ℕ) (usable : Bool) where
  abbrev left_as : Keeping D → Keeping D
  left_as keeper = record { journal = keeper.journal; state = keeper.state; cut = cut; usable = usable }

  ends_left : (f : KeepFault) (count : ℕ) (ps : List Pair) (middle : Standing D) (keeper : Keeping D) (input last : Input) (output : Output)
      → EndsServing tells disk (Err f) count ps middle keeper input last output → EndsServing tells disk (Err f) count ps middle (left_as keeper) input last output
  ends_left (keep.Journal fault) count ps middle keeper input last output ends = ends
  ends_left (keep.Serving (run.Frame fault)) count ps middle keeper input last output ends = ends
  ends_left (keep.Serving run.NoMemory) count ps middle keeper input last output ends = ends
  ends_left (keep.Serving run.TimeExhausted) count ps middle keeper input last output ends = ends
  ends_left (keep.Serving run.TooLong) count ps middle keeper input last output ends = ends

  pub served_left : (f : KeepFault) (before after : Keeping D) (first last : Input) (start written : Output)
      → Served tells disk (Err f) before after first last start written → Served tells disk (Err f) before (left_as after) first last start written
  served_left f before after first last start written s = record {
    rounds = s.rounds;
    more = s.more;
    standing = s.standing;
    input = s.input;
    kept = s.kept;
    served = s.served;
    read = s.read;
    prompt = s.prompt;
    asked = s.asked;
    ended = ends_left f (length (pairs_of s.rounds ++ s.more)) s.more s.standing after s.input last written s.ended;
  }
