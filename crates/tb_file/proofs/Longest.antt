-- No legal history with whose records a file begins has more of them than the one that is taken.
use Rattle.std.proofs.Common.{arith, ℕ, zero, suc, ◌≡◌, ◌⊎◌, ◌+◌, ◌≤◌, inl, inr, ⊎_elim, List, [], ◌∷◌, ◌++◌, length, take, drop, Option, None, Some, sym, ap, ◌∙◌, subst, append_assoc, append-nil}
use Rattle.std.proofs.lemmas.List.{take_at, take-take, length-take-le}
use Rattle.tb_file_journal.specs.declared.opening.OpenFault.TheVariants as open_faults
use Rattle.tb_file_journal.specs.declared.reading.Refusal.TheVariants as refusals
use Rattle.tb_file_journal.specs.Contents.{latch_closed, Front, Ends, Spoiled, Whole, front, joined_contents, skipped, Contents, NotAJournal, Damaged, Records, with_record, with_records, walk, contents, records_end}
use Rattle.tb_file_journal.specs.Scans.{BeginsWith}
use Rattle.tb_file_journal.proofs.BlockWalks.{begins_long, begins_shorter}
use Rattle.tb_file_journal.proofs.ScanSteps.{all}
use Rattle.tb_records.specs.declared.faults.FrameFault.{FrameFault}
use Rattle.tb_machine.specs.declared.restoring.RestoreFault.{RestoreFault}
use Rattle.tb_file.specs.declared.faults.StartFault.{StartFault}
use Rattle.tb_file.specs.declared.faults.StartFault.TheVariants as start
use Rattle.tb_file.specs.Keeping.{History, records_of, history_state, IsKeepable}
use Rattle.tb_file.specs.Recovering.{StopsAt, StopsFile}
use Rattle.tb_file.specs.Salvaging.{IsLongest, StopsBehind}
use Rattle.tb_file.proofs.OneHistory.{one_head}
use Rattle.tb_file.proofs.Salvages.{stops_longer_history}
use Rattle.tb_file.proofs.Unrefused.{only_memory}
use Rattle.tb_file.proofs.WholeFiles.{begins_rest}

-- damage is reported after the records that a file begins with

inner : (bytes : List ℕ) (c : Contents) (place : ℕ) → with_record bytes c ≡ Damaged place → c ≡ Damaged place
inner bytes NotAJournal place is = absurd (cc)
inner bytes (Damaged at) place is = is
inner bytes (Records records) place is = absurd (cc)

inner_all : (records : List (List ℕ)) (c : Contents) (place : ℕ) → with_records records c ≡ Damaged place → c ≡ Damaged place
inner_all [] c place is = is
inner_all (bytes ∷ records) c place is = inner_all records c place (inner bytes (with_records records c) place is)

behind_block : (f : Front) (at place : ℕ) (behind : List ℕ) → ((skip from : ℕ) → walk skip from behind ≡ Damaged place → from ≤ place)
    → joined_contents f at (walk (skipped f) (at + 1) behind) ≡ Damaged place → at ≤ place
behind_block Ends at place behind later is = absurd (cc)
behind_block Spoiled at place behind later is = let same : at ≡ place = cc (is) in omega (arith, same)
behind_block (Whole bytes) at place behind later is = omega (arith, later (10 + length bytes) (at + 1) (inner bytes (walk (10 + length bytes) (at + 1) behind) place is))

place_after : (skip at : ℕ) (bytes : List ℕ) (place : ℕ) → walk skip at bytes ≡ Damaged place → at ≤ place
place_after zero at [] place is = let same : at ≡ place = cc (is) in omega (arith, same)
place_after (suc skip) at [] place is = let same : at + suc skip ≡ place = cc (is) in omega (arith, same)
place_after (suc skip) at (b ∷ bytes) place is = omega (arith, place_after skip (at + 1) bytes place is)
place_after zero at (latch ∷ behind) place is = behind_block (front (latch ∷ behind)) at place behind (λ skip from walks. place_after skip from behind place walks) is

damage_behind : (records : List (List ℕ)) (file : List ℕ) (at : ℕ) → BeginsWith records file → contents file ≡ Damaged at → records_end records ≤ at
damage_behind records file at begins is =
    let end = records_end records in
    place_after 0 end (drop end file) at (inner_all records (walk 0 end (drop end file)) at (sym (all records file begins) ∙ is))

-- one of two lists of records that a file begins with begins with the other

shorter_first : (a b : List (List ℕ)) (file : List ℕ) → BeginsWith a file → BeginsWith b file → records_end a ≤ records_end b → (rest : List (List ℕ)) × (b ≡ a ++ rest)
shorter_first a b file begins also less =
    let m = records_end a in
    let n = records_end b in
    let cut = take n file ++ latch_closed in
    let long : length (take n file) ≡ n = length-take-le n file (begins_long b file also) in
    let same : take m cut ≡ take m file = sym (take-take m n cut less) ∙ ap (take m) (take_at (take n file) latch_closed n long) ∙ take-take m n file less in
    begins_rest a b cut (ap (λ (l : List ℕ). contents (l ++ latch_closed)) same ∙ begins) also

not_memory_record : (place : ℕ) (f : FrameFault) → start.Record place f ≡ start.NoMemory → ⊥
not_memory_record place f is = absurd (cc)

not_memory_entry : (f : RestoreFault) → start.Entry f ≡ start.NoMemory → ⊥
not_memory_entry f is = absurd (cc)

one_or_other : (m n : ℕ) → (m ≤ n) ⊎ (n ≤ m)
one_or_other zero n = inl (omega arith)
one_or_other (suc m) zero = inr (omega arith)
one_or_other (suc m) (suc n) = ⊎_elim (λ less. inl (omega (arith, less))) (λ more. inr (omega (arith, more))) (one_or_other m n)

abbrev first_of : List (List ℕ) → List ℕ
first_of [] = []
first_of (bytes ∷ records) = bytes

cancel : (xs ys zs : List (List ℕ)) → xs ++ ys ≡ xs ++ zs → ys ≡ zs
cancel [] ys zs is = is
cancel (x ∷ xs) ys zs is = let more : xs ++ ys ≡ xs ++ zs = cc in cancel xs ys zs more

module _ (h k : History) (file : List ℕ) (mine : IsKeepable h) (yours : IsKeepable k) (begins : BeginsWith (records_of h) file) (also : BeginsWith (records_of k) file) where
  -- one record more, of two that a file has there, is the same
  one_more : (b bytes : List ℕ) → BeginsWith (records_of h ++ b ∷ []) file → BeginsWith (records_of h ++ bytes ∷ []) file → b ≡ bytes
  one_more b bytes one two = ⊎_elim
      (λ less. by b bytes (shorter_first (records_of h ++ b ∷ []) (records_of h ++ bytes ∷ []) file one two less))
      (λ less. sym (by bytes b (shorter_first (records_of h ++ bytes ∷ []) (records_of h ++ b ∷ []) file two one less)))
      (one_or_other (records_end (records_of h ++ b ∷ [])) (records_end (records_of h ++ bytes ∷ [])))
    where
      by : (x y : List ℕ) → (rest : List (List ℕ)) × (records_of h ++ y ∷ [] ≡ (records_of h ++ x ∷ []) ++ rest) → x ≡ y
      by x y (rest, is) = sym (ap first_of (cancel (records_of h) (y ∷ []) (x ∷ rest) (is ∙ append_assoc (records_of h) (x ∷ []) rest)))

  -- so a longer history is not refused there
  not_refused : (fault : StartFault) (bytes b : List ℕ) (more : List (List ℕ)) → records_of k ≡ records_of h ++ b ∷ more → BeginsWith (records_of h ++ bytes ∷ []) file
      → StopsAt fault (history_state h) bytes → fault ≡ start.NoMemory
  not_refused fault bytes b more longer two stops =
      let parts : records_of k ≡ (records_of h ++ b ∷ []) ++ more = longer ∙ sym (append_assoc (records_of h) (b ∷ []) more) in
      let one : BeginsWith (records_of h ++ b ∷ []) file = begins_shorter (records_of h ++ b ∷ []) more file (subst (λ (r : List (List ℕ)). BeginsWith r file) parts also) in
      let same : bytes ≡ b = sym (one_more b bytes one two) in
      let heads = one_head h.profile k.profile h.clients_max k.clients_max (ap first_of (sym longer)) in
      only_memory fault k yours
      (subst (λ (r : List (List ℕ)). StopsFile fault k.profile k.clients_max r) (sym longer)
      (subst (λ (n : ℕ). StopsFile fault k.profile n (records_of h ++ b ∷ more)) heads.1
      (subst (λ p. StopsFile fault p h.clients_max (records_of h ++ b ∷ more)) heads.0
      (stops_longer_history h mine 0 file fault b more (subst (λ (x : List ℕ). StopsAt fault (history_state h) x) same stops)))))

  -- so if the fault is not out of memory, the other is no longer
  no_longer : (fault : StartFault) → (fault ≡ start.NoMemory → ⊥) → (bytes : List ℕ) → BeginsWith (records_of h ++ bytes ∷ []) file → StopsAt fault (history_state h) bytes
      → (rest : List (List ℕ)) × (records_of k ≡ records_of h ++ rest) → (rest : List (List ℕ)) × (records_of h ≡ records_of k ++ rest)
  no_longer fault other bytes two stops ([], is) = ([], sym (append-nil (records_of h)) ∙ sym is ∙ sym (append-nil (records_of k)))
  no_longer fault other bytes two stops (b ∷ more, is) = absurd (other (not_refused fault bytes b more is two stops))

  near : records_end (records_of k) ≤ records_end (records_of h) → (rest : List (List ℕ)) × (records_of h ≡ records_of k ++ rest)
  near less = shorter_first (records_of k) (records_of h) file also begins less

  refused_there : (fault : StartFault) → (fault ≡ start.NoMemory → ⊥) → (bytes : List ℕ) → BeginsWith (records_of h ++ bytes ∷ []) file → StopsAt fault (history_state h) bytes
      → (rest : List (List ℕ)) × (records_of h ≡ records_of k ++ rest)
  refused_there fault other bytes two stops =
      ⊎_elim near (λ less. no_longer fault other bytes two stops (shorter_first (records_of h) (records_of k) file begins also less))
      (one_or_other (records_end (records_of k)) (records_end (records_of h)))

  by_stop : (stop : Option StartFault) → StopsBehind stop (records_of h) (history_state h) file → (rest : List (List ℕ)) × (records_of h ≡ records_of k ++ rest)
  by_stop None stops = begins_rest (records_of k) (records_of h) file also stops.0
  by_stop (Some (start.TornTooLong at n)) stops = begins_rest (records_of k) (records_of h) file also stops.0
  by_stop (Some (start.Journal (open_faults.Refused (refusals.Damaged at)))) stops = near (omega (arith, damage_behind (records_of k) file at also stops.0, stops.1))
  by_stop (Some (start.Journal (open_faults.Refused refusals.NotAJournal))) stops = absurd stops
  by_stop (Some (start.Journal (open_faults.Device f))) stops = absurd stops
  by_stop (Some (start.Record place f)) (bytes, two, stops) = refused_there (start.Record place f) (λ is. not_memory_record place f is) bytes two stops
  by_stop (Some (start.Entry f)) (bytes, two, stops) = refused_there (start.Entry f) (λ is. not_memory_entry f is) bytes two stops
  by_stop (Some start.Head) stops = absurd stops
  by_stop (Some start.OtherRules) stops = absurd stops
  by_stop (Some start.NoMemory) stops = absurd stops

pub longest : IsLongest
longest h k end stop file mine yours taken also = by_stop h k file mine yours taken.begins also stop taken.stops
