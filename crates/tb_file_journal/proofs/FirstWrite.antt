-- The first bytes are written over a blank file.
use Rattle.std.proofs.Common.{◌≡◌, ◌⊎◌, inl, inr, ⊎_elim, ℕ, ◌≤◌, ◌==◌, ◌&&◌, ◌||◌, Bool, true, false, List, [], ◌∷◌, ◌++◌, length, take, drop, refl, sym, ◌∙◌, ap, subst, arith, nat_eq, length-drop, if◌then◌else◌, Result, Ok, Err, OnOk}
use Rattle.std.proofs.lemmas.Grind.{common_steps}
use Rattle.std.proofs.lemmas.List.{append-nil, drop_all}
use Rattle.std.specs.List.{starts_with}
use Rattle.tb_file_journal.specs.declared.faults.JournalFault.{JournalFault}
use Rattle.tb_file_journal.specs.Device.{Disk, IsSettled, Torn, LeavesOnly, overwritten}
use Rattle.tb_file_journal.specs.Contents.{magic, latch_closed, is_closed, Ends, Spoiled, front, NotAJournal, Damaged, Records, walk, contents, recorded, journal_of}
use Rattle.tb_file_journal.specs.Steps.{IsWholeFile, Overwrites}
use Rattle.tb_file_journal.specs.Creating.{is_torn_from, is_blank, IsUnborn, WritesFirst}
use Rattle.tb_file_journal.proofs.BlockWalks.{walk-ends, walk-spoiled}
use Rattle.tb_file_journal.proofs.Moments.{started, weaker}
use Rattle.tb_file_journal.proofs.Publishing.{wholly}

both_right : (a b : Bool) → (a && b) ≡ true → b ≡ true
both_right a b is = grind (arith, common_steps)

no_longer : (bytes first : List ℕ) → is_torn_from bytes first ≡ true → length bytes ≤ length first
no_longer [] first is = omega arith
no_longer (b ∷ bytes) [] is = absurd (cc)
no_longer (b ∷ bytes) (o ∷ first) is = omega (arith, no_longer bytes first (both_right (b == 0 || b == o) (is_torn_from bytes first) is))

pub blank_short : (file : List ℕ) → is_blank file ≡ true → length file ≤ 12
blank_short file is = no_longer file (journal_of []) is

latch_either : (b : Bool) → ((if b then Ends else Spoiled) ≡ Ends) ⊎ ((if b then Ends else Spoiled) ≡ Spoiled)
latch_either true = inl refl
latch_either false = inr refl

short_front : (others : List ℕ) → length others ≤ 4 → (front others ≡ Ends) ⊎ (front others ≡ Spoiled)
short_front [] h = inr refl
short_front (w ∷ []) h = inr refl
short_front (w ∷ x ∷ []) h = inr refl
short_front (w ∷ x ∷ y ∷ []) h = inr refl
short_front (w ∷ x ∷ y ∷ z ∷ []) h = latch_either (is_closed w x y z)
short_front (w ∷ x ∷ y ∷ z ∷ a ∷ rest) h = absurd (omega (arith, h))

by_magic : (b : Bool) (others : List ℕ) → length others ≤ 4
    → ((if b then walk 0 8 others else NotAJournal) ≡ NotAJournal) ⊎ (((if b then walk 0 8 others else NotAJournal) ≡ Damaged 8) ⊎ ((if b then walk 0 8 others else NotAJournal) ≡ Records []))
by_magic false others h = inl refl
by_magic true others h = ⊎_elim (λ ends. inr (inr (walk-ends others 8 ends))) (λ bad. inr (inl (walk-spoiled others 8 bad))) (short_front others h)

-- so short a file has no record
pub unborn : (file : List ℕ) → length file ≤ 12 → IsUnborn file
unborn file short = record { short = short; none = by_magic (starts_with nat_eq file magic) (drop 8 file) (omega (arith, short, length-drop 8 file)) }

torn_short : (file c : List ℕ) → length file ≤ 12 → Torn 0 12 file c → length c ≤ 12
torn_short file c short torn = omega (arith, short, torn.no_longer)

whole : (file : List ℕ) → length file ≤ 12 → overwritten file 0 (journal_of []) ≡ journal_of []
whole file short = ap (λ (l : List ℕ). journal_of [] ++ l) (drop_all 12 file (omega (arith, short))) ∙ append-nil (journal_of [])

pub begun : (before after : Disk) (result : Result (Unit {0}) JournalFault) → is_blank before.seen ≡ true → Overwrites 0 (journal_of []) result before after → WritesFirst result before after
begun before after result blank write = record {
  ok = done result write.ok;
  settled = write.settled;
  any_moment = λ settled. weaker before after (Torn 0 12 before.seen) IsUnborn (λ c torn. unborn c (torn_short before.seen c (blank_short before.seen blank) torn)) (write.any_moment settled);
  cause = write.cause;
}
  where
    done : (r : Result (Unit {0}) JournalFault) → OnOk r (after.seen ≡ overwritten before.seen 0 (journal_of []))
        → OnOk r (IsWholeFile after × (recorded after.seen ≡ []))
    done (Err f) shown = tt
    done (Ok x) shown =
        let first : after.seen ≡ journal_of [] = shown ∙ whole before.seen (blank_short before.seen blank) in
        wholly after [] (ap contents first) (subst (λ (f : List ℕ). f ≡ take 8 f ++ latch_closed) (sym first) refl)

-- before anything is written
pub still_blank : (disk : Disk) → IsSettled disk → is_blank disk.seen ≡ true → ((c : List ℕ) → disk.left_since disk.moment c → disk.may_leave c) → LeavesOnly disk disk IsUnborn
still_blank disk settled blank now = started disk IsUnborn (λ c left. subst IsUnborn (sym (settled.kept c (now c left))) (unborn disk.seen (blank_short disk.seen blank)))
