-- What rounds that are done have left: the state, the records, and the replies that were written.
use Rattle.std.proofs.Common.{arith, ◌≡◌, List, [], ◌∷◌, ◌++◌, refl, sym, ap, ◌∙◌, subst, append_assoc, append-nil}
use Rattle.std.proofs.lemmas.Grind.{common_steps}
use Rattle.tb_records.specs.Transport.{Sent}
use Rattle.tb_file_journal.specs.Device.{Disk}
use Rattle.tb_file_journal.specs.Contents.{recorded}
use Rattle.tb_file_journal.specs.Steps.{IsAtRest}
use Rattle.tb_machine.specs.Histories.{State}
use Rattle.tb_machine.specs.Scripts.{Pair, after_pair}
use Rattle.tb_machine.proofs.Running.{sends_none, sends_then}
use Rattle.tb_file.specs.Rounds.{state_from, records_from, reply_bytes_from, pairs_of, Standing, Rounds}
use Rattle.tb_file.specs.Moments.{RepliesToTheDone}
use Rattle.tb_file.proofs.Pairs.{records_join, replies_join}

pub state_join : (S : State) (ps qs : List Pair) → state_from S (ps ++ qs) ≡ state_from (state_from S ps) qs
state_join S [] qs = refl
state_join S (p ∷ ps) qs = state_join (after_pair S p) ps qs

module _ (tells : Type 0) {D : Type 0} (disk : D → Disk) where
  pub state_behind : (done : List (List Pair)) (first before : Standing D) → Rounds tells disk done first before → before.state ≡ state_from first.state (pairs_of done)
  state_behind [] first before kept = ap (λ (s : Standing D). s.state) kept
  state_behind (ps ∷ done) first before kept =
      grind (arith, common_steps, state_behind done kept.0 before kept.2, state_join first.state ps (pairs_of done))

  -- the file has the entries of all acknowledged pairs
  pub records_behind : tells → (done : List (List Pair)) (first before : Standing D) → Rounds tells disk done first before
      → recorded (disk before.device).seen ≡ recorded (disk first.device).seen ++ records_from first.state (pairs_of done)
  records_behind t [] first before kept = ap (λ (s : Standing D). recorded (disk s.device).seen) kept ∙ sym (append-nil (recorded (disk first.device).seen))
  records_behind t (ps ∷ done) first before kept =
      let base = recorded (disk first.device).seen in
      records_behind t done kept.0 before kept.2
      ∙ ap (λ records. records ++ records_from kept.0.state (pairs_of done)) ((kept.1.commits t).grown)
      ∙ append_assoc base (records_from first.state ps) (records_from kept.0.state (pairs_of done))
      ∙ ap (λ (S : State). base ++ (records_from first.state ps ++ records_from S (pairs_of done))) kept.1.state
      ∙ ap (λ records. base ++ records) (sym (records_join first.state ps (pairs_of done)))

  pub rest_behind : tells → (done : List (List Pair)) (first before : Standing D) → Rounds tells disk done first before → IsAtRest (disk first.device) → IsAtRest (disk before.device)
  rest_behind t [] first before kept rest = subst (λ (s : Standing D). IsAtRest (disk s.device)) (sym kept) rest
  rest_behind t (ps ∷ done) first before kept rest = rest_behind t done kept.0 before kept.2 (kept.1.commits t).at_rest

  pub replied_behind : RepliesToTheDone tells disk
  replied_behind [] first before kept = subst (λ (s : Standing D). Sent [] first.output s.output) (sym kept) (sends_none first.output)
  replied_behind (ps ∷ done) first before kept =
      subst (λ bytes. Sent bytes first.output before.output)
      (ap (λ (S : State). reply_bytes_from first.state ps ++ reply_bytes_from S (pairs_of done)) kept.1.state ∙ sym (replies_join first.state ps (pairs_of done)))
      (sends_then (reply_bytes_from first.state ps) (reply_bytes_from kept.0.state (pairs_of done)) first.output kept.0.output before.output kept.1.told (replied_behind done kept.0 before kept.2))
