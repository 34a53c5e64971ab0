-- What stays of a file that grows while it is read.
use Rattle.std.proofs.Common.{◌≡◌, inl, inr, ⊎_elim, ℕ, ◌≤◌, List, [], ◌∷◌, ◌++◌, length, take, drop, refl, sym, ◌∙◌, ap, subst, arith}
use Rattle.std.proofs.lemmas.List.{append-nil, append_assoc, take-take}
use Rattle.tb_file_journal.specs.Contents.{latch_closed, Contents, NotAJournal, Damaged, Records, with_records, walk, contents, records_end}
use Rattle.tb_file_journal.specs.Scans.{ScanState, BeginsWith, IsAhead, HasRead}
use Rattle.tb_file_journal.specs.Growing.{Extends, LaterThan, Later, Grown}
use Rattle.tb_file_journal.specs.Snapshots.{HasDamageBefore, BlocksLeadTo, IsFinal}
use Rattle.tb_file_journal.proofs.BlockWalks.{unjoined}
use Rattle.tb_file_journal.proofs.Committing.{blocks_length-append}
use Rattle.tb_file_journal.proofs.ScanSteps.{all, end_within, next_damaged}

-- a file that represents records

pub extends_later : (records : List (List ℕ)) (file later : List ℕ) → contents file ≡ Records records → Later file later → Extends records file later
extends_later records file later is after = subst (λ (c : Contents). LaterThan c file later) is after

pub later_extends : (records : List (List ℕ)) (file later : List ℕ) → contents file ≡ Records records → Extends records file later → Later file later
later_extends records file later is after = subst (λ (c : Contents). LaterThan c file later) (sym is) after

-- and one that does not

pub final_later : (file later : List ℕ) → IsFinal (contents file) → Later file later → later ≡ file
final_later file later final after = by (contents file) final after
  where
    by : (c : Contents) → IsFinal c → LaterThan c file later → later ≡ file
    by NotAJournal final after = after
    by (Damaged at) final after = after
    by (Records records) final after = absurd final

pub damaged_final : (file : List ℕ) (at : ℕ) → contents file ≡ Damaged at → IsFinal (contents file)
damaged_final file at is = subst IsFinal (sym is) tt

-- moments follow one another

pub later_same : (file : List ℕ) → Later file file
later_same file = by (contents file) refl
  where
    by : (c : Contents) → contents file ≡ c → LaterThan c file file
    by NotAJournal is = refl
    by (Damaged at) is = refl
    by (Records records) is = record { more = []; reads = is ∙ ap Records (sym (append-nil records)); same = refl }

ends_further : (records more : List (List ℕ)) → records_end records ≤ records_end (records ++ more)
ends_further records more = omega (arith, blocks_length-append records more)

shorter_same : (m n : ℕ) (a b : List ℕ) → m ≤ n → take n a ≡ take n b → take m a ≡ take m b
shorter_same m n a b le same = sym (take-take m n a le) ∙ ap (take m) same ∙ take-take m n b le

extends_then : (records : List (List ℕ)) (a b c : List ℕ) → Extends records a b → Later b c → Extends records a c
extends_then records a b c first second =
    let next = extends_later (records ++ first.more) b c first.reads second in
    record {
      more = first.more ++ next.more;
      reads = next.reads ∙ ap Records (append_assoc records first.more next.more);
      same = shorter_same (records_end records) (records_end (records ++ first.more)) c b (ends_further records first.more) next.same ∙ first.same;
    }

pub later_then : (a b c : List ℕ) → Later a b → Later b c → Later a c
later_then a b c first second = by (contents a) refl first
  where
    as_same : b ≡ a → Later a c
    as_same is = subst (λ (x : List ℕ). Later x c) is second

    by : (x : Contents) → contents a ≡ x → LaterThan x a b → Later a c
    by NotAJournal is first = as_same first
    by (Damaged at) is first = as_same first
    by (Records records) is first = later_extends records a c is (extends_then records a b c first second)

-- a call at which nothing is appended
pub same_grown : {grows : List ℕ → Type 0} {file : List ℕ} {P : List ℕ → Type 0} → grows file → P file → Grown grows file P
same_grown {grows} {file} {P} now has = record { later = file; after = later_same file; now = now; has = has }

-- records that a file begins with begin what it represents

parted : (records all : List (List ℕ)) (others : Contents) → with_records records others ≡ Records all → (more : List (List ℕ)) × (all ≡ records ++ more)
parted [] all others is = (all, refl)
parted (r ∷ records) all others is =
    let first = unjoined r (with_records records others) all is in
    let behind = parted records first.0 others first.1 in
    (behind.0, first.2 ∙ ap (λ (x : List (List ℕ)). r ∷ x) behind.1)

pub begins_part : (records whole : List (List ℕ)) (file : List ℕ) → BeginsWith records file → contents file ≡ Records whole → (more : List (List ℕ)) × (whole ≡ records ++ more)
begins_part records whole file begins is = parted records whole (walk 0 (records_end records) (drop (records_end records) file)) (sym (all records file begins) ∙ is)

-- the bytes of records that a file begins with stay

pub begins_kept : (records : List (List ℕ)) (file later : List ℕ) → BeginsWith records file → Later file later → take (records_end records) later ≡ take (records_end records) file
begins_kept records file later begins after = by (contents file) refl after
  where
    by : (c : Contents) → contents file ≡ c → LaterThan c file later → take (records_end records) later ≡ take (records_end records) file
    by NotAJournal is after = ap (take (records_end records)) after
    by (Damaged at) is after = ap (take (records_end records)) after
    by (Records whole) is after =
        let part = begins_part records whole file begins is in
        let le : records_end records ≤ records_end whole = subst (λ (x : List (List ℕ)). records_end records ≤ records_end x) (sym part.1) (ends_further records part.0) in
        shorter_same (records_end records) (records_end whole) later file le after.same

pub begins_later : (records : List (List ℕ)) (file later : List ℕ) → BeginsWith records file → Later file later → BeginsWith records later
begins_later records file later begins after = ap (λ (l : List ℕ). contents (l ++ latch_closed)) (begins_kept records file later begins after) ∙ begins

-- blocks that lead to an offset stay

damage : (end : ℕ) (file : List ℕ) (past : HasDamageBefore end file) → contents file ≡ Damaged (records_end past.records)
damage end file past = next_damaged past.records file past.begins past.damaged

pub damage_final : (end : ℕ) (file : List ℕ) → HasDamageBefore end file → IsFinal (contents file)
damage_final end file past = damaged_final file (records_end past.records) (damage end file past)

pub leads_within : (end : ℕ) (file : List ℕ) → BlocksLeadTo end file → end ≤ length file
leads_within end file leads = ⊎_elim
    (λ ends. omega (arith, ends.is, end_within ends.records file ends.begins))
    (λ past. past.within) leads

pub leads_kept : (end : ℕ) (file later : List ℕ) → BlocksLeadTo end file → Later file later → take end later ≡ take end file
leads_kept end file later leads after = ⊎_elim
    (λ ends. subst (λ (k : ℕ). take k later ≡ take k file) (sym ends.is) (begins_kept ends.records file later ends.begins after))
    (λ past. ap (take end) (final_later file later (damage_final end file past) after)) leads

pub leads_later : (end : ℕ) (file later : List ℕ) → BlocksLeadTo end file → Later file later → BlocksLeadTo end later
leads_later end file later leads after = ⊎_elim
    (λ ends. inl (record { records = ends.records; begins = begins_later ends.records file later ends.begins after; is = ends.is }))
    (λ past. inr (subst (HasDamageBefore end) (sym (final_later file later (damage_final end file past) after)) past)) leads

-- a scan that has read records goes on in a later file, with nothing ahead
pub read_on : (records : List (List ℕ)) (file later : List ℕ) (old : ScanState) (last ahead : List ℕ) → Later file later → ahead ≡ [] → HasRead records file old
    → HasRead records later (record { end = old.end; count = old.count; last = last; ahead = ahead })
read_on records file later old last ahead after none read = record {
  begins = begins_later records file later read.begins after;
  end = read.end;
  count = read.count;
  ahead = subst (IsAhead old.end later) (sym none) refl;
}
