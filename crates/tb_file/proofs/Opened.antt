-- Why a file is not opened.
use Rattle.std.proofs.Common.{arith, ◌≡◌, inl, inr, ℕ, ◌+◌, ◌≤◌, ◌^◌, true, false, List, [], Result, Ok, Err, IfOk, IfErr, MatchResult, sym, ap, ◌∙◌, subst}
use Rattle.std.proofs.lemmas.Grind.{common_steps}
use Rattle.tb_records.specs.declared.limits.Profile.{Profile}
use Rattle.std.specs.Prelude.{drop}
use Rattle.tb_file_journal.specs.Device.{Disk, LeavesOnly, SetsAside}
use Rattle.tb_file_journal.specs.Reading.{extent_of}
use Rattle.tb_file_journal.specs.Contents.{Records, contents, recorded}
use Rattle.tb_file_journal.specs.Creating.{is_blank, FindsContent}
use Rattle.tb_file_journal.specs.declared.opening.FileContent.{FileContent}
use Rattle.tb_file_journal.specs.declared.faults.JournalFault.{JournalFault}
use Rattle.tb_file_journal.specs.Opening.{IsAsBefore}
use Rattle.tb_file_journal.specs.declared.reading.Extent.{Extent}
use Rattle.tb_file_journal.proofs.Moments.{then, weaker}
use Rattle.tb_file_journal.proofs.Opened.{is_told}
use Rattle.tb_file_journal.proofs.BlockWalks.{whole_begins}
use Rattle.tb_machine.specs.Histories.{State, start as start_state}
use Rattle.tb_file_journal.specs.declared.opening.OpenFault.TheVariants as open_faults
use Rattle.tb_file.specs.declared.faults.StartFault.{StartFault}
use Rattle.tb_file.specs.declared.faults.StartFault.TheVariants as start
use Rattle.tb_file.specs.declared.creating.NotKept.{NotKept}
use Rattle.tb_file.specs.Keeping.{Keeping, Keeps}
use Rattle.tb_file.specs.Recovering.{IsRestored, IsRestoredFrom, IsNotOfFile, StopsOpening, AreAside, torn_bytes}
use Rattle.tb_file.specs.Creating.{OpensFile, StartsFile, CreatesLedgerIn, IsOpenedLedger, IsStarted, IsDiskUntouched, MayBeOpened, LedgerMayBeCreated, MayBeStarted, IsOpenRefused, IsCreateRefused, IsStartRefused, history_of}

abbrev pub Counts : Disk → Type 0
Counts disk = (t : ℕ) (c : List ℕ) → t ≤ disk.moment → disk.may_leave c → disk.left_since t c

still_before : (before mid : Disk) → Counts mid → IsDiskUntouched before mid → (c : List ℕ) → IsAsBefore mid c → IsAsBefore before c
still_before before mid counts first c was = grind (arith, common_steps)

pub untouched_then : (before mid after : Disk) → Counts mid → IsDiskUntouched before mid → IsDiskUntouched mid after → IsDiskUntouched before after
untouched_then before mid after counts first second = record {
  seen = second.seen ∙ first.seen;
  any_moment = then before mid after (IsAsBefore before) first.any_moment (weaker mid after (IsAsBefore mid) (IsAsBefore before) (still_before before mid counts first) second.any_moment);
}

module _ (profile : Profile) (clients_max : ℕ) (before mid after : Disk) (counts : Counts mid) (first : IsDiskUntouched before mid) where
  for_before : (fault : StartFault) → StopsOpening fault profile clients_max mid.seen × IsDiskUntouched mid after
      → StopsOpening fault profile clients_max before.seen × IsDiskUntouched before after
  for_before fault is = (subst (λ (file : List ℕ). StopsOpening fault profile clients_max file) first.seen is.0, untouched_then before mid after counts first is.1)

  still_refused : (fault : StartFault) → IsOpenRefused profile clients_max fault mid after → IsOpenRefused profile clients_max fault before after
  still_refused (start.Journal (open_faults.Device fault)) is = tt
  still_refused (start.Journal (open_faults.Refused why)) is = for_before (start.Journal (open_faults.Refused why)) is
  still_refused start.Head is = for_before start.Head is
  still_refused start.OtherRules is = for_before start.OtherRules is
  still_refused (start.Record place fault) is = for_before (start.Record place fault) is
  still_refused (start.Entry fault) is = for_before (start.Entry fault) is
  still_refused start.NoMemory is = for_before start.NoMemory is
  still_refused (start.TornTooLong at bytes) is = for_before (start.TornTooLong at bytes) is

  refused_then : is_blank before.seen ≡ false → (fault : StartFault) → IsOpenRefused profile clients_max fault mid after → IsStartRefused profile clients_max fault before after
  refused_then some (start.Journal (open_faults.Device fault)) is = tt
  refused_then some (start.Journal (open_faults.Refused why)) is = (for_before (start.Journal (open_faults.Refused why)) is, some)
  refused_then some start.Head is = (for_before start.Head is, some)
  refused_then some start.OtherRules is = (for_before start.OtherRules is, some)
  refused_then some (start.Record place fault) is = (for_before (start.Record place fault) is, some)
  refused_then some (start.Entry fault) is = (for_before (start.Entry fault) is, some)
  refused_then some start.NoMemory is = untouched_then before mid after counts first is.1
  refused_then some (start.TornTooLong at bytes) is = (for_before (start.TornTooLong at bytes) is, some)

module _ {D : Type 0} (disk : D → Disk) (profile : Profile) (clients_max : ℕ) (before mid : Disk) where
  pub refused_at_last : (result : Result (Keeping D) (NotKept D)) → Counts mid → IsDiskUntouched before mid → is_blank before.seen ≡ false
      → IfErr result (λ failed. IsOpenRefused profile clients_max failed.fault mid (disk failed.device))
      → IfErr result (λ failed. IsStartRefused profile clients_max failed.fault before (disk failed.device))
  refused_at_last (Ok keeper) counts first some is = tt
  refused_at_last (Err failed) counts first some is = refused_then profile clients_max before mid (disk failed.device) counts first some failed.fault is

  pub refused_still : (result : Result (Keeping D) (NotKept D)) → Counts mid → IsDiskUntouched before mid
      → IfErr result (λ failed. IsOpenRefused profile clients_max failed.fault mid (disk failed.device))
      → IfErr result (λ failed. IsOpenRefused profile clients_max failed.fault before (disk failed.device))
  refused_still (Ok keeper) counts first is = tt
  refused_still (Err failed) counts first is = still_refused profile clients_max before mid (disk failed.device) counts first failed.fault is

may_be : (profile : Profile) (clients_max : ℕ) (before mid : Disk) → Counts mid → IsDiskUntouched before mid → (c : List ℕ) → MayBeOpened profile clients_max mid c → MayBeStarted profile clients_max before c
may_be profile clients_max before mid counts first c (inl was) = inl (inl (still_before before mid counts first c was))
may_be profile clients_max before mid counts first c (inr (inl reads)) = inl (inr (inl (reads ∙ ap (λ (f : List ℕ). Records (recorded f)) first.seen)))
may_be profile clients_max before mid counts first c (inr (inr (none, few))) = inl (inr (inr (ap recorded (sym first.seen) ∙ none, few)))

pub started_at_last : (profile : Profile) (clients_max : ℕ) (before mid after : Disk) → Counts mid → IsDiskUntouched before mid
    → LeavesOnly mid after (MayBeOpened profile clients_max mid) → LeavesOnly before after (MayBeStarted profile clients_max before)
started_at_last profile clients_max before mid after counts first second =
    then before mid after (MayBeStarted profile clients_max before)
    (weaker before mid (IsAsBefore before) (MayBeStarted profile clients_max before) (λ c was. inl (inl was)) first.any_moment)
    (weaker mid after (MayBeOpened profile clients_max mid) (MayBeStarted profile clients_max before) (may_be profile clients_max before mid counts first) second)

-- by the file that the reads are of

module _ (profile : Profile) (clients_max : ℕ) (file : List ℕ) where
  not_of_file : (fault : StartFault) → contents file ≡ Records (recorded file) → IsNotOfFile fault → StopsOpening fault profile clients_max file
  not_of_file fault reads none = grind (arith, common_steps, whole_begins)

  pub opens_file : {D : Type 0} (machine : State) (extent : Extent) (cut : ℕ) → IsRestoredFrom profile clients_max file machine extent → cut ≡ torn_bytes file → cut ≤ 2 ^ 22
      → (result : Result (Keeping D) (NotKept D))
      → MatchResult result (λ keeper. (keeper.state ≡ machine) × (keeper.cut ≡ cut)) (λ failed. IsNotOfFile failed.fault) → OpensFile result profile clients_max file
  opens_file machine extent cut found torn few (Ok keeper) (state, same) = (
    (is_told (contents file) extent found.extent_is).reads,
    subst (λ (S : State). IsRestored profile clients_max (recorded file) S) (sym state) found.restored,
    same ∙ torn,
    subst (λ (n : ℕ). n ≤ 2 ^ 22) torn few,
  )
  opens_file machine extent cut found torn few (Err failed) outside = not_of_file failed.fault (is_told (contents file) extent found.extent_is).reads outside

-- what a start cut off

pub aside_behind : (saved : ℕ → List ℕ → Type 0) (file : List ℕ) (extent : Extent) (cut : ℕ) → extent_of (contents file) ≡ Ok extent → cut ≡ torn_bytes file
    → SetsAside saved (extent.end + 4) file → AreAside saved cut file
aside_behind saved file extent cut read torn aside some =
    let end = (is_told (contents file) extent read).end in
    subst (λ (n : ℕ). saved (n + 4) (drop (n + 4) file)) end (aside (omega (arith, some, torn, end)))

pub were_aside : {D : Type 0} (saved : ℕ → List ℕ → Type 0) (file : List ℕ) (machine : State) (extent : Extent) (cut : ℕ) → extent_of (contents file) ≡ Ok extent → cut ≡ torn_bytes file
    → (result : Result (Keeping D) (NotKept D))
    → MatchResult result (λ keeper. (keeper.state ≡ machine) × (keeper.cut ≡ cut)) (λ failed. IsNotOfFile failed.fault)
    → IfOk result (λ keeper. SetsAside saved (extent.end + 4) file) → IfOk result (λ keeper. AreAside saved keeper.cut file)
were_aside saved file machine extent cut read torn (Ok keeper) (state, same) aside = aside_behind saved file extent keeper.cut read (same ∙ torn) aside
were_aside saved file machine extent cut read torn (Err failed) outside aside = tt

-- a start

pub opened_as_started : {D : Type 0} (disk : D → Disk) (profile : Profile) (clients_max : ℕ) (before mid : List ℕ) (result : Result (Keeping D) (NotKept D)) → mid ≡ before
    → IfOk result (IsOpenedLedger disk profile clients_max mid) → IfOk result (IsStarted disk profile clients_max before)
opened_as_started disk profile clients_max before mid (Ok keeper) same opened = inl (subst (λ (file : List ℕ). IsOpenedLedger disk profile clients_max file keeper) same opened)
opened_as_started disk profile clients_max before mid (Err failed) same opened = tt

pub starts_file : {D : Type 0} (profile : Profile) (clients_max : ℕ) (file : List ℕ) (result : Result (Keeping D) (NotKept D)) → is_blank file ≡ false → OpensFile result profile clients_max file
    → StartsFile result profile clients_max file
starts_file profile clients_max file (Ok keeper) some opens = inl opens
starts_file profile clients_max file (Err failed) some opens = inr (opens, some)

-- one that finds a blank file

module _ {D : Type 0} (disk : D → Disk) (profile : Profile) (clients_max : ℕ) where
  pub created_as_started : (before mid : List ℕ) (result : Result (Keeping D) (NotKept D)) → mid ≡ before → is_blank mid ≡ true
      → IfOk result (Keeps disk (history_of profile clients_max [])) → IfOk result (λ keeper. keeper.cut ≡ 0)
      → IfOk result (IsStarted disk profile clients_max before)
  created_as_started before mid (Ok keeper) same blank keeps uncut = inr (ap is_blank (sym same) ∙ blank, keeps, uncut)
  created_as_started before mid (Err failed) same blank keeps uncut = tt

  not_created : (before mid after : Disk) → Counts mid → IsDiskUntouched before mid → (fault : StartFault) → IsCreateRefused fault mid after
      → IsStartRefused profile clients_max fault before after
  not_created before mid after counts first (start.Journal (open_faults.Device fault)) is = tt
  not_created before mid after counts first start.NoMemory is = untouched_then before mid after counts first is
  not_created before mid after counts first (start.Journal (open_faults.Refused why)) is = absurd is
  not_created before mid after counts first start.Head is = absurd is
  not_created before mid after counts first start.OtherRules is = absurd is
  not_created before mid after counts first (start.Record place fault) is = absurd is
  not_created before mid after counts first (start.Entry fault) is = absurd is
  not_created before mid after counts first (start.TornTooLong at bytes) is = absurd is

  pub not_created_at_last : (before mid : Disk) (result : Result (Keeping D) (NotKept D)) → Counts mid → IsDiskUntouched before mid
      → IfErr result (λ failed. IsCreateRefused failed.fault mid (disk failed.device))
      → IfErr result (λ failed. IsStartRefused profile clients_max failed.fault before (disk failed.device))
  not_created_at_last before mid (Ok keeper) counts first is = tt
  not_created_at_last before mid (Err failed) counts first is = not_created before mid (disk failed.device) counts first failed.fault is

  pub creates_file : (holds : D → List ℕ → Type 0) (file : List ℕ) (result : Result (Keeping D) (NotKept D)) → CreatesLedgerIn holds result file
      → IfOk result (λ keeper. keeper.state ≡ start_state profile clients_max) → IfOk result (λ keeper. keeper.cut ≡ 0)
      → IfErr result (λ failed. IsNotOfFile failed.fault) → StartsFile result profile clients_max file
  creates_file holds file (Ok keeper) blank empty uncut outside = inr (blank, empty, uncut)
  creates_file holds file (Err failed) creates empty uncut outside = inl outside

pub none_aside : {D : Type 0} (saved : ℕ → List ℕ → Type 0) (file : List ℕ) (result : Result (Keeping D) (NotKept D))
    → IfOk result (λ keeper. keeper.cut ≡ 0) → IfOk result (λ keeper. AreAside saved keeper.cut file)
none_aside saved file (Ok keeper) uncut = λ some. absurd (omega (arith, uncut, some))
none_aside saved file (Err failed) uncut = tt

may_be_created : (profile : Profile) (clients_max : ℕ) (before mid : Disk) → Counts mid → IsDiskUntouched before mid → (c : List ℕ)
    → LedgerMayBeCreated profile clients_max mid c → MayBeStarted profile clients_max before c
may_be_created profile clients_max before mid counts first c (inl was) = inl (inl (still_before before mid counts first c was))
may_be_created profile clients_max before mid counts first c (inr (blank, none)) = inr (inr (ap is_blank (sym first.seen) ∙ blank, none))

pub created_at_last : (profile : Profile) (clients_max : ℕ) (before mid after : Disk) → Counts mid → IsDiskUntouched before mid
    → LeavesOnly mid after (LedgerMayBeCreated profile clients_max mid) → LeavesOnly before after (MayBeStarted profile clients_max before)
created_at_last profile clients_max before mid after counts first second =
    then before mid after (MayBeStarted profile clients_max before)
    (weaker before mid (IsAsBefore before) (MayBeStarted profile clients_max before) (λ c was. inl (inl was)) first.any_moment)
    (weaker mid after (LedgerMayBeCreated profile clients_max mid) (MayBeStarted profile clients_max before) (may_be_created profile clients_max before mid counts first) second)

-- what a look at a file leaves

pub looked : (result : Result FileContent JournalFault) (before after : Disk) → FindsContent result before after → IsDiskUntouched before after
looked result before after finds = record { seen = finds.seen; any_moment = finds.any_moment }

pub looked_at_last : (profile : Profile) (clients_max : ℕ) (before after : Disk) → IsDiskUntouched before after → LeavesOnly before after (MayBeStarted profile clients_max before)
looked_at_last profile clients_max before after first = weaker before after (IsAsBefore before) (MayBeStarted profile clients_max before) (λ c was. inl (inl was)) first.any_moment
