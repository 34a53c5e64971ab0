-- At each moment of serving the file has the entries of first pairs, and the bytes are of their replies: by induction over rounds.
use Rattle.std.proofs.Common.{◌≡◌, inl, inr, ℕ, ◌≤◌, List, [], ◌∷◌, ◌++◌, take, drop, Result, Ok, Err, sym, ap, ◌∙◌, subst, append_assoc, append-nil, take-append-drop}
use Rattle.std.proofs.KnownBytes.{Appends-nil, Appends-trans}
use Rattle.std.specs.Io.KnownBytes.{Appends}
use Rattle.tb_records.specs.Transport.{Input, Output}
use Rattle.tb_file_journal.specs.Device.{Disk, LeavesOnly}
use Rattle.tb_file_journal.specs.Contents.{Records, contents, recorded}
use Rattle.tb_file_journal.specs.Steps.{IsAtRest, IsBeforeOrAfter}
use Rattle.tb_file_journal.proofs.Moments.{weaker}
use Rattle.tb_machine.specs.declared.serving.RunFault.TheVariants as run
use Rattle.tb_machine.specs.Histories.{State}
use Rattle.tb_machine.specs.Scripts.{Pair}
use Rattle.tb_file.specs.declared.faults.KeepFault.{KeepFault}
use Rattle.tb_file.specs.declared.faults.KeepFault.TheVariants as keep
use Rattle.tb_file.specs.Keeping.{Keeping, History, Keeps}
use Rattle.tb_file.specs.Rounds.{state_from, records_from, reply_bytes_from, AreServed, pairs_of, Commits, Standing, standing_of, Rounds, Quits, EndsServing, Served}
use Rattle.tb_file.specs.Moments.{Moment, sent_by, all_pairs, MayLeave, InRounds, AmidServing, AtEachMoment, AtTheEnd, AllServed}
use Rattle.tb_file.specs.Moments.Moment.{Committing, Replying}
use Rattle.tb_file.proofs.Pairs.{replies_join}
use Rattle.tb_file.proofs.Moments.{state_behind, records_behind, rest_behind, replied_behind}
use Rattle.tb_file.proofs.Lasting.{served_join, rounds_are_served}
use Rattle.tb_file.proofs.Crashes.{Only, Front, Stands, none_sent, none_of, of_batch, behind_batch, ends_leave, finish}

-- with more pairs after these
wider : (base : List (List ℕ)) (S : State) (ps qs : List Pair) (file bytes : List ℕ) → Stands base S ps file bytes → Stands base S (ps ++ qs) file bytes
wider base S ps qs file bytes is = record {
  front = record {
    pairs = is.front.pairs;
    others = is.front.others ++ qs;
    all_are = ap (λ rest. rest ++ qs) is.front.all_are ∙ append_assoc is.front.pairs is.front.others qs;
    reads = is.front.reads;
  };
  unsent = is.unsent;
  replies = is.replies;
}

-- with pairs before these, which have their entries and replies
later : (base grown : List (List ℕ)) (S T : State) (ps qs : List Pair) (file bytes : List ℕ) → grown ≡ base ++ records_from S ps → T ≡ state_from S ps
    → Stands grown T qs file bytes → Stands base S (ps ++ qs) file (reply_bytes_from S ps ++ bytes)
unfolding behind_batch
later base grown S T ps qs file bytes grows to is = record {
  front = behind_batch base grown S T ps qs file grows to is.front;
  unsent = is.unsent;
  replies = replies_join S ps is.front.pairs
      ∙ ap (λ (U : State). reply_bytes_from S ps ++ reply_bytes_from U is.front.pairs) (sym to)
      ∙ ap (λ rest. reply_bytes_from S ps ++ rest) is.replies
      ∙ sym (append_assoc (reply_bytes_from S ps) bytes is.unsent);
}

module _ {D : Type 0} (disk : D → Disk) where
  -- after a commit, while its replies are sent
  while_replying : (ps : List Pair) (before : Standing D) (after : D) (file bytes unsent : List ℕ) → Commits (records_from before.state ps) (disk before.device) (disk after) → (disk after).may_leave file
      → reply_bytes_from before.state ps ≡ bytes ++ unsent → Stands (recorded (disk before.device).seen) before.state ps file bytes
  while_replying ps before after file bytes unsent commits left begins = record {
    front = record {
      pairs = ps;
      others = [];
      all_are = sym (append-nil ps);
      reads = ap contents (commits.at_rest.kept file left) ∙ commits.at_rest.reads ∙ ap Records commits.grown;
    };
    unsent = unsent;
    replies = begins;
  }

module _ (tells : Type 0) {D : Type 0} (disk : D → Disk) where
  in_round : (ps : List Pair) (before : Standing D) (after : D) (file : List ℕ) (moment : Moment)
      → LeavesOnly (disk before.device) (disk after) (Front (recorded (disk before.device).seen) before.state ps)
      → MayLeave tells disk moment ps before after file → Stands (recorded (disk before.device).seen) before.state ps file (sent_by moment)
  in_round ps before after file Committing leaves may = none_sent (recorded (disk before.device).seen) before.state ps file (leaves.each file may)
  in_round ps before after file (Replying sent) leaves may = while_replying disk ps before after file sent may.2.0 may.0 may.1 may.2.1

  -- in rounds: what was sent in them, after what was sent earlier
  record Within (done : List (List Pair)) (first : Standing D) (earlier file bytes : List ℕ) : Type 0 where
    own : List ℕ
    bytes_are : bytes ≡ earlier ++ own
    stands : Stands (recorded (disk first.device).seen) first.state (pairs_of done) file own

  batch_front : (ps : List Pair) (before : Standing D) (after : D) → Commits (records_from before.state ps) (disk before.device) (disk after)
      → LeavesOnly (disk before.device) (disk after) (Front (recorded (disk before.device).seen) before.state ps)
  batch_front ps before after commits =
      weaker (disk before.device) (disk after) (IsBeforeOrAfter (recorded (disk before.device).seen) (records_from before.state ps)) (Front (recorded (disk before.device).seen) before.state ps)
      (λ file is. subst (λ all. Front (recorded (disk before.device).seen) before.state all file) (append-nil ps) (of_batch (recorded (disk before.device).seen) before.state ps [] file is)) commits.any_moment

  within_rounds : tells → (done : List (List Pair)) (first before : Standing D) (kept : Rounds tells disk done first before) (earlier file bytes : List ℕ)
      → InRounds tells disk done first before kept earlier file bytes → Within done first earlier file bytes
  within_rounds t [] first before kept earlier file bytes is = absurd is
  within_rounds t (ps ∷ done) first before kept earlier file bytes (inl is) = record {
    own = sent_by is.moment;
    bytes_are = is.bytes_are;
    stands = wider (recorded (disk first.device).seen) first.state ps (pairs_of done) file (sent_by is.moment)
        (in_round ps first kept.0.device file is.moment (batch_front ps first kept.0.device (kept.1.commits t)) is.may_leave);
  }
  within_rounds t (ps ∷ done) first before kept earlier file bytes (inr is) =
      let middle = kept.0 in
      let rest = within_rounds t done middle before kept.2 (earlier ++ reply_bytes_from first.state ps) file bytes is in
      record {
        own = reply_bytes_from first.state ps ++ rest.own;
        bytes_are = rest.bytes_are ∙ append_assoc earlier (reply_bytes_from first.state ps) rest.own;
        stands = later (recorded (disk first.device).seen) (recorded (disk middle.device).seen) first.state middle.state ps (pairs_of done) file rest.own (kept.1.commits t).grown kept.1.state rest.stands;
      }

module _ (tells : Type 0) {D : Type 0} (disk : D → Disk) (only : (d : D) → Only (disk d)) where
  module _ (h : History) (result : Result ℕ KeepFault) (before after : Keeping D) (first last : Input) (start written : Output) (t : tells) (keeps : Keeps disk h before)
      (served : Served tells disk result before after first last start written) where
    abbrev begin : Standing D
    begin = standing_of before first start

    abbrev base : List (List ℕ)
    base = recorded (disk before.journal.device).seen

    abbrev standing : Standing D
    standing = served.standing

    abbrev done : List Pair
    done = pairs_of served.rounds

    rest : IsAtRest (disk standing.device)
    rest = rest_behind tells disk t served.rounds begin standing served.kept keeps.fresh.ready.at_rest

    -- after the rounds
    since : (file own : List ℕ) → Stands (recorded (disk standing.device).seen) standing.state served.more file own → Stands base before.state (all_pairs served) file (reply_bytes_from before.state done ++ own)
    since file own is = later base (recorded (disk standing.device).seen) before.state standing.state done served.more file own
        (records_behind tells disk t served.rounds begin standing served.kept) (state_behind tells disk served.rounds begin standing served.kept) is

    amid : (file bytes : List ℕ) → AmidServing tells disk served file bytes → Stands base before.state (all_pairs served) file bytes
    amid file bytes (inl is) =
        let within = within_rounds tells disk t served.rounds begin standing served.kept [] file bytes is in
        subst (Stands base before.state (all_pairs served) file) (sym within.bytes_are) (wider base before.state done served.more file within.own within.stands)
    amid file bytes (inr is) =
        subst (Stands base before.state (all_pairs served) file) (sym is.bytes_are)
        (since file (sent_by is.moment)
        (in_round tells disk served.more standing after.journal.device file is.moment
        (ends_leave tells disk only t result _ served.more standing after served.input last written rest served.ended) is.may_leave))

    -- what the end leaves, with what was written since the rounds
    record AtEnd (file : List ℕ) : Type 0 where
      own : List ℕ
      grown : Appends standing.output.written written.written own
      stands : Stands (recorded (disk standing.device).seen) standing.state served.more file own

    module _ (counts : (d : D) (t : ℕ) (c : List ℕ) → t ≤ (disk d).moment → (disk d).may_leave c → (disk d).left_since t c) (file : List ℕ) (left : (disk after.journal.device).may_leave file) where
      quits : Quits tells disk standing after.journal.device written → AtEnd file
      quits same = record {
        own = [];
        grown = subst (λ (o : Output). Appends standing.output.written o.written []) (sym same.silent) (Appends-nil standing.output.written);
        stands = none_sent (recorded (disk standing.device).seen) standing.state served.more file
            (none_of (recorded (disk standing.device).seen) standing.state served.more file
            (ap contents (rest.kept file (subst (λ (d : D). (disk d).may_leave file) same.same left)) ∙ rest.reads));
      }

      replies : (own unsent : List ℕ) → Commits (records_from standing.state served.more) (disk standing.device) (disk after.journal.device)
          → Appends standing.output.written written.written own → reply_bytes_from standing.state served.more ≡ own ++ unsent → AtEnd file
      replies own unsent commits grown begins = record { own = own; grown = grown; stands = while_replying disk served.more standing after.journal.device file own unsent commits left begins }

      at_end : (r : Result ℕ KeepFault) (count : ℕ) → EndsServing tells disk r count served.more standing after served.input last written → AtEnd file
      at_end (Ok k) count e = replies (reply_bytes_from standing.state served.more) [] (e.2.commits t) e.2.told.grown (sym (append-nil _))
      at_end (Err (keep.Journal fault)) count (inl e) = quits e.1
      at_end (Err (keep.Journal fault)) count (inr e) = record {
        own = [];
        grown = subst (λ (o : Output). Appends standing.output.written o.written []) (sym e.1.silent) (Appends-nil standing.output.written);
        stands = none_sent (recorded (disk standing.device).seen) standing.state served.more file
            (subst (λ all. Front (recorded (disk standing.device).seen) standing.state all file) (append-nil served.more)
            (of_batch (recorded (disk standing.device).seen) standing.state served.more [] file
            ((e.1.any_moment t).each file (counts after.journal.device (disk standing.device).moment file (e.1.any_moment t).later left))));
      }
      at_end (Err (keep.Serving (run.Frame fault))) count (inl e) = replies (reply_bytes_from standing.state served.more) [] (e.1.commits t) e.1.told.grown (sym (append-nil _))
      at_end (Err (keep.Serving (run.Frame fault))) count (inr e) =
          replies (take e.2.cut.count (reply_bytes_from standing.state served.more)) (drop e.2.cut.count (reply_bytes_from standing.state served.more)) (e.2.commits t) e.2.cut.grown
          (sym (take-append-drop e.2.cut.count (reply_bytes_from standing.state served.more)))
      at_end (Err (keep.Serving run.NoMemory)) count e = quits e.1
      at_end (Err (keep.Serving run.TimeExhausted)) count e = replies (reply_bytes_from standing.state served.more) [] (e.1.commits t) e.1.told.grown (sym (append-nil _))
      at_end (Err (keep.Serving run.TooLong)) count e = quits e.2

  pub at_each_moment : AtEachMoment tells disk
  at_each_moment h result before after first last start written file bytes t keeps served is =
      finish tells disk only h result before after first last start written t keeps served file bytes (amid h result before after first last start written t keeps served file bytes is)

  pub at_the_end : ((d : D) (t : ℕ) (c : List ℕ) → t ≤ (disk d).moment → (disk d).may_leave c → (disk d).left_since t c) → AtTheEnd tells disk
  at_the_end counts h result before after first last start written file t keeps served left =
      let end = at_end h result before after first last start written t keeps served counts file left result _ served.ended in
      let first_bytes = reply_bytes_from before.state (pairs_of served.rounds) in
      let before_end = replied_behind tells disk served.rounds (standing_of before first start) served.standing served.kept in (
        first_bytes ++ end.own,
        Appends-trans start.written served.standing.output.written written.written first_bytes end.own before_end.grown end.grown,
        finish tells disk only h result before after first last start written t keeps served file (first_bytes ++ end.own)
            (since h result before after first last start written t keeps served file end.own end.stands),
      )

module _ (tells : Type 0) {D : Type 0} (disk : D → Disk) where
  pub all_served : AllServed tells disk
  all_served result before after first last start written served =
      let begin = standing_of before first start in
      served_join before.state (pairs_of served.rounds) served.more (rounds_are_served tells disk served.rounds begin served.standing served.kept)
      (subst (λ (S : State). AreServed S served.more) (state_behind tells disk served.rounds begin served.standing served.kept) served.served)
