-- A crash at any moment of serving leaves the entries of some first pairs: by induction over rounds.
use Rattle.std.proofs.Common.{arith, ℕ, ◌≡◌, ◌⊎◌, ◌≤◌, inl, inr, List, [], ◌∷◌, ◌++◌, length, Result, Ok, Err, refl, sym, ap, ◌∙◌, subst, append_assoc, append-nil}
use Rattle.std.proofs.lemmas.Grind.{common_steps}
use Rattle.tb_records.specs.Transport.{Input, Output}
use Rattle.tb_file_journal.specs.Device.{Disk, LeavesOnly}
use Rattle.tb_file_journal.specs.Contents.{Records, contents, recorded}
use Rattle.tb_file_journal.specs.Steps.{IsAtRest, IsBeforeOrAfter}
use Rattle.tb_file_journal.proofs.Moments.{started, then, weaker}
use Rattle.tb_machine.specs.declared.serving.RunFault.TheVariants as run
use Rattle.tb_machine.specs.Histories.{State}
use Rattle.tb_machine.specs.Scripts.{Pair}
use Rattle.tb_file.specs.declared.faults.KeepFault.{KeepFault}
use Rattle.tb_file.specs.declared.faults.KeepFault.TheVariants as keep
use Rattle.tb_file.specs.Keeping.{History, history_state, records_of, IsKeepable, Keeping, Keeps}
use Rattle.tb_file.specs.Rounds.{state_from, entries_from, records_from, reply_bytes_from, AreServed, pairs_of, Standing, standing_of, Rounds, Quits, EndsServing, Served}
use Rattle.tb_file.specs.Moments.{AtAMoment, all_pairs}
use Rattle.tb_file.specs.Again.{AnyCrash, IsAmid, AfterKill}
use Rattle.tb_file.proofs.Pairs.{records_join}
use Rattle.tb_file.proofs.Moments.{state_behind}
use Rattle.tb_file.proofs.Lasting.{keepable_longer, records_longer, served_join, served_front, rounds_are_served}

abbrev pub Only : Disk → Type 0
Only disk = (c : List ℕ) → disk.left_since disk.moment c → disk.may_leave c

-- a file of these records and those of some first pairs
pub record Front (base : List (List ℕ)) (S : State) (all : List Pair) (file : List ℕ) : Type 0 where
  pub pairs : List Pair
  pub others : List Pair
  pub all_are : all ≡ pairs ++ others
  pub reads : contents file ≡ Records (base ++ records_from S pairs)

-- and bytes that are a prefix of the replies to these pairs
pub record Stands (base : List (List ℕ)) (S : State) (all : List Pair) (file bytes : List ℕ) : Type 0 where
  pub front : Front base S all file
  pub unsent : List ℕ
  pub replies : reply_bytes_from S front.pairs ≡ bytes ++ unsent

pub none_sent : (base : List (List ℕ)) (S : State) (all : List Pair) (file : List ℕ) → Front base S all file → Stands base S all file []
none_sent base S all file front = record { front = front; unsent = reply_bytes_from S front.pairs; replies = refl }

pub none_of : (base : List (List ℕ)) (S : State) (all : List Pair) (file : List ℕ) → contents file ≡ Records base → Front base S all file
none_of base S all file is = record { pairs = []; others = all; all_are = refl; reads = is ∙ ap Records (sym (append-nil base)) }

pub of_batch : (base : List (List ℕ)) (S : State) (ps qs : List Pair) (file : List ℕ) → IsBeforeOrAfter base (records_from S ps) file → Front base S (ps ++ qs) file
of_batch base S ps qs file (inl is) = none_of base S (ps ++ qs) file is
of_batch base S ps qs file (inr is) = record { pairs = ps; others = qs; all_are = refl; reads = is }

unfoldable pub behind_batch : (base grown : List (List ℕ)) (S T : State) (ps qs : List Pair) (file : List ℕ)
    → grown ≡ base ++ records_from S ps → T ≡ state_from S ps → Front grown T qs file → Front base S (ps ++ qs) file
behind_batch base grown S T ps qs file grows to front = record {
  pairs = ps ++ front.pairs;
  others = front.others;
  all_are = ap (λ rest. ps ++ rest) front.all_are ∙ sym (append_assoc ps front.pairs front.others);
  reads = front.reads
      ∙ ap (λ records. Records (records ++ records_from T front.pairs)) grows
      ∙ ap Records (append_assoc base (records_from S ps) (records_from T front.pairs))
      ∙ ap (λ (U : State). Records (base ++ (records_from S ps ++ records_from U front.pairs))) to
      ∙ ap (λ records. Records (base ++ records)) (sym (records_join S ps front.pairs));
}

module _ (tells : Type 0) {D : Type 0} (disk : D → Disk) (only : (d : D) → Only (disk d)) where
  -- if nothing is done
  rest_leaves : (d : D) (S : State) (all : List Pair) → IsAtRest (disk d) → LeavesOnly (disk d) (disk d) (Front (recorded (disk d).seen) S all)
  rest_leaves d S all rest = grind (arith, common_steps, started, none_of)

  -- what ends the serving after rounds
  pub ends_leave : tells → (result : Result ℕ KeepFault) (count : ℕ) (more : List Pair) (standing : Standing D) (after : Keeping D) (input last : Input) (written : Output)
      → IsAtRest (disk standing.device) → EndsServing tells disk result count more standing after input last written
      → LeavesOnly (disk standing.device) (disk after.journal.device) (Front (recorded (disk standing.device).seen) standing.state more)
  ends_leave t result count more standing after input last written rest ended = by result ended
    where
      Goal : Type 0
      Goal = LeavesOnly (disk standing.device) (disk after.journal.device) (Front (recorded (disk standing.device).seen) standing.state more)

      quits : Quits tells disk standing after.journal.device written → Goal
      quits same = subst (λ (d : D). LeavesOnly (disk standing.device) (disk d) (Front (recorded (disk standing.device).seen) standing.state more)) (sym same.same) (rest_leaves standing.device standing.state more rest)

      batch : LeavesOnly (disk standing.device) (disk after.journal.device) (IsBeforeOrAfter (recorded (disk standing.device).seen) (records_from standing.state more)) → Goal
      batch leaves = weaker (disk standing.device) (disk after.journal.device) (IsBeforeOrAfter (recorded (disk standing.device).seen) (records_from standing.state more)) (Front (recorded (disk standing.device).seen) standing.state more)
          (λ c is. subst (λ qs. Front (recorded (disk standing.device).seen) standing.state qs c) (append-nil more) (of_batch (recorded (disk standing.device).seen) standing.state more [] c is)) leaves

      by : (r : Result ℕ KeepFault) → EndsServing tells disk r count more standing after input last written → Goal
      by (Ok k) e = batch ((e.2.commits t).any_moment)
      by (Err (keep.Journal fault)) (inl e) = quits e.1
      by (Err (keep.Journal fault)) (inr e) = batch (e.1.any_moment t)
      by (Err (keep.Serving (run.Frame fault))) (inl e) = batch ((e.1.commits t).any_moment)
      by (Err (keep.Serving (run.Frame fault))) (inr e) = batch ((e.2.commits t).any_moment)
      by (Err (keep.Serving run.NoMemory)) e = quits e.1
      by (Err (keep.Serving run.TimeExhausted)) e = batch ((e.1.commits t).any_moment)
      by (Err (keep.Serving run.TooLong)) e = quits e.2

  all_leave : tells → (done : List (List Pair)) (more : List Pair) (first standing : Standing D) (result : Result ℕ KeepFault) (count : ℕ) (after : Keeping D) (input last : Input) (written : Output)
      → IsAtRest (disk first.device) → Rounds tells disk done first standing → EndsServing tells disk result count more standing after input last written
      → LeavesOnly (disk first.device) (disk after.journal.device) (Front (recorded (disk first.device).seen) first.state (pairs_of done ++ more))
  all_leave t [] more first standing result count after input last written rest kept ended =
      subst (λ (s : Standing D). LeavesOnly (disk s.device) (disk after.journal.device) (Front (recorded (disk s.device).seen) s.state more)) kept
      (ends_leave t result count more standing after input last written (subst (λ (s : Standing D). IsAtRest (disk s.device)) (sym kept) rest) ended)
  all_leave t (ps ∷ done) more first standing result count after input last written rest kept ended =
      let middle = kept.0 in
      let commits = kept.1.commits t in
      let base = recorded (disk first.device).seen in
      let qs = pairs_of done ++ more in
      let P = Front base first.state (ps ++ qs) in
      let leaves = then (disk first.device) (disk middle.device) (disk after.journal.device) P
      (weaker (disk first.device) (disk middle.device) (IsBeforeOrAfter base (records_from first.state ps)) P (λ c is. of_batch base first.state ps qs c is) commits.any_moment)
      (weaker (disk middle.device) (disk after.journal.device) (Front (recorded (disk middle.device).seen) middle.state qs) P
      (λ c is. behind_batch base (recorded (disk middle.device).seen) first.state middle.state ps qs c commits.grown kept.1.state is)
      (all_leave t done more middle standing result count after input last written commits.at_rest kept.2 ended)) in
      subst (λ (all : List Pair). LeavesOnly (disk first.device) (disk after.journal.device) (Front base first.state all)) (sym (append_assoc ps (pairs_of done) more)) leaves

  pub at_a_moment : (h : History) (S : State) (base : List (List ℕ)) (all : List Pair) (file bytes : List ℕ) → IsKeepable h → base ≡ records_of h → S ≡ history_state h → AreServed S all
      → Stands base S all file bytes → AtAMoment h all file bytes
  at_a_moment h S base all file bytes keepable stands state served is = record {
    pairs = is.front.pairs;
    others = is.front.others;
    all_are = is.front.all_are;
    file_is = record {
      reads = is.front.reads
          ∙ ap (λ records. Records (records ++ records_from S is.front.pairs)) stands
          ∙ ap (λ (T : State). Records (records_of h ++ records_from T is.front.pairs)) state
          ∙ ap Records (records_longer h (entries_from (history_state h) is.front.pairs));
      keepable = keepable_longer h is.front.pairs keepable
          (served_front (history_state h) is.front.pairs is.front.others (subst (λ ps. AreServed (history_state h) ps) is.front.all_are (subst (λ (T : State). AreServed T all) state served)));
    };
    unsent = is.unsent;
    replies = ap (λ (T : State). reply_bytes_from T is.front.pairs) (sym state) ∙ is.replies;
  }

  module _ (h : History) (result : Result ℕ KeepFault) (before after : Keeping D) (first last : Input) (start written : Output) (t : tells) (keeps : Keeps disk h before) (served : Served tells disk result before after first last start written) where
    leaves : LeavesOnly (disk before.journal.device) (disk after.journal.device) (Front (recorded (disk before.journal.device).seen) before.state (all_pairs served))
    leaves = all_leave t served.rounds served.more (standing_of before first start) served.standing result (length (all_pairs served)) after served.input last written keeps.fresh.ready.at_rest served.kept served.ended

    are : AreServed before.state (all_pairs served)
    are =
        let begin = standing_of before first start in
        served_join before.state (pairs_of served.rounds) served.more (rounds_are_served tells disk served.rounds begin served.standing served.kept)
        (subst (λ (S : State). AreServed S served.more) (state_behind tells disk served.rounds begin served.standing served.kept) served.served)

    pub finish : (file bytes : List ℕ) → Stands (recorded (disk before.journal.device).seen) before.state (all_pairs served) file bytes → AtAMoment h (all_pairs served) file bytes
    finish file bytes is = at_a_moment h before.state (recorded (disk before.journal.device).seen) (all_pairs served) file bytes keeps.keepable keeps.file keeps.state are is

    left_first : (file : List ℕ) → (disk after.journal.device).left_since (disk before.journal.device).moment file → AtAMoment h (all_pairs served) file []
    left_first file left = finish file [] (none_sent (recorded (disk before.journal.device).seen) before.state (all_pairs served) file (leaves.each file left))

  pub any_crash : AnyCrash tells disk
  any_crash h result before after first last start written file t keeps served left = left_first h result before after first last start written t keeps served file left

  module _ (counts : (d : D) (t : ℕ) (c : List ℕ) → t ≤ (disk d).moment → (disk d).may_leave c → (disk d).left_since t c) (stays : (d : D) → tells → (disk d).may_leave (disk d).seen) where
    pub after_kill : AfterKill tells disk
    after_kill h result before after first last start written amid t keeps served where_amid =
        left_first h result before after first last start written t keeps served (disk amid).seen (by where_amid)
      where
        by : (amid ≡ after.journal.device) ⊎ IsAmid tells disk (disk before.journal.device) (disk after.journal.device) (disk amid)
            → (disk after.journal.device).left_since (disk before.journal.device).moment (disk amid).seen
        by (inl same) = subst (λ (d : D). (disk after.journal.device).left_since (disk before.journal.device).moment (disk d).seen) (sym same)
            (counts after.journal.device (disk before.journal.device).moment (disk after.journal.device).seen
            (leaves h result before after first last start written t keeps served).later (stays after.journal.device t))
        by (inr during) = during (disk amid).seen (stays amid t)
