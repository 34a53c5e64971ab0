-- A write and a sync.
use Rattle.std.proofs.Common.{◌≡◌, inl, inr, ⊎_elim, ℕ, zero, suc, ◌+◌, ◌-◌, ◌*◌, ◌≤◌, ap, true, List, [], ◌∷◌, ◌++◌, length, take, drop, replicate, length-append, false, refl, sym, ◌∙◌, subst, arith, Result, Ok, Err, OnOk}
use Rattle.std.proofs.lemmas.List.{append-nil, take_all, append_assoc, length-take-le}
use Rattle.std.proofs.Math.ListN.{drop_of_length-le}
use Rattle.tb_sectors.specs.declared.devices.SectorFault.{SectorFault}
use Rattle.tb_sectors.specs.Ranges.{IsTorn}
use Rattle.tb_sectors.specs.Sectors.{Disk, IsSettled, IsMixed, Only, Elapses, LeavesOnly, WritesBy, Syncs, overwritten, sector}
use Rattle.tb_sectors.specs.Stamped.{Batch, stamped, file_sectors, after_batches}
use Rattle.tb_sectors.specs.StampedLaws.{HasSectors}
use Rattle.tb_sectors.specs.Encoding.{latch_bytes}
use Rattle.tb_sectors.specs.Latches.{IsClosedAfter, end_after, latch_after}
use Rattle.tb_sectors.specs.Steps.{OverwritesBy, Overwrites, OverwritesRange, WritesBatch, opened_before, CommitsClosed, WritesClosedBatch, ClosesLatch, IsBeforeOrAfter, ClearsTorn, HasSameSectors, Reserves}
use Rattle.tb_sectors.proofs.Journals.{crash_leaves_all_or_none, file_is_all_or_none, file_sector}
use Rattle.tb_sectors.specs.private.Outcomes.{torn_whole}
use Rattle.tb_sectors.proofs.Closings.{latch_is_closed}
use Rattle.tb_sectors.proofs.Latches.{behind_latch_nothing_counts, latch_is_all_or_none}

-- how a run of calls goes on

started : (disk : Disk) (P : List ℕ → Type 0) → ((c : List ℕ) → disk.left_since disk.moment c → P c) → LeavesOnly disk disk P
started disk P here = record { later = omega arith; each = here; earlier = λ t c le left. inl left }

one_more : (old mid new : Disk) (P : List ℕ → Type 0) → LeavesOnly old mid P → Elapses mid new → ((c : List ℕ) → new.may_leave c → P c) → LeavesOnly old new P
one_more old mid new P so_far time here = record {
  later = omega (arith, so_far.later, time.later);
  each = λ c left. ⊎_elim (so_far.each c) (here c) (time.nothing_else old.moment c so_far.later left);
  earlier = λ t c le left. ⊎_elim (so_far.earlier t c le) (λ now. inr (here c now)) (time.nothing_else t c (omega (arith, le, so_far.later)) left);
}

weaker : (old new : Disk) (P Q : List ℕ → Type 0) → ((c : List ℕ) → P c → Q c) → LeavesOnly old new P → LeavesOnly old new Q
weaker old new P Q f so = record {
  later = so.later;
  each = λ c left. f c (so.each c left);
  earlier = λ t c le left. ⊎_elim (λ was. inl was) (λ p. inr (f c p)) (so.earlier t c le left);
}

on_ok : (result : Result (Unit {0}) SectorFault) (F : Type 0) → result ≡ Ok tt → OnOk result F → F
on_ok result F is so = subst (λ (r : Result (Unit {0}) SectorFault). OnOk r F) is so

both : (result : Result (Unit {0}) SectorFault) (A B : Type 0) → OnOk result A → OnOk result B → OnOk result (A × B)
both (Ok x) A B a b = (a, b)
both (Err e) A B a b = tt

through : (result : Result (Unit {0}) SectorFault) (A B : Type 0) → (A → B) → OnOk result A → OnOk result B
through (Ok x) A B f a = f a
through (Err e) A B f a = tt

-- one run of calls, and another
pub one_after : (old mid new : Disk) (P : List ℕ → Type 0) → LeavesOnly old mid P → LeavesOnly mid new P → LeavesOnly old new P
one_after old mid new P so then_so = record {
  later = omega (arith, so.later, then_so.later);
  each = λ c left. ⊎_elim (so.each c) (λ p. p) (then_so.earlier old.moment c so.later left);
  earlier = λ t c le left. ⊎_elim (so.earlier t c le) (λ p. inr p) (then_so.earlier t c (omega (arith, le, so.later)) left);
}

-- a write and a sync

abbrev pub sector_step : Disk → ℕ → List ℕ → List ℕ → List ℕ → Type 0
sector_step before at bytes d c = IsMixed d (overwritten before.seen at bytes) c

module _ (step : List ℕ → List ℕ → Type 0) (at : ℕ) (bytes : List ℕ) (before mid : Disk) (only_now : (c : List ℕ) → before.left_since before.moment c → before.may_leave c) (none : step before.seen before.seen) (all : step before.seen (overwritten before.seen at bytes)) (wrote : Result (Unit {0}) SectorFault) (writes : WritesBy step at bytes wrote before mid) where
  abbrev new : List ℕ
  new = overwritten before.seen at bytes

  stepped : IsSettled before → (c : List ℕ) → mid.may_leave c → step before.seen c
  stepped settled c now =
      let from = writes.crash c now in
      subst (λ (d : List ℕ). step d c) (settled.kept from.0 from.1) from.2

  during : IsSettled before → LeavesOnly before mid (step before.seen)
  during settled =
      one_more before before mid (step before.seen)
      (started before (step before.seen) (λ c left. subst (step before.seen) (sym (settled.kept c (only_now c left))) none))
      writes.time (stepped settled)

  pub failed : (fault : SectorFault) → OverwritesBy step at bytes (Err fault) before mid
  failed fault = record { ok = tt; settled = λ settled. tt; any_moment = during }

  pub synced : wrote ≡ Ok tt → (after : Disk) (result : Result (Unit {0}) SectorFault) → Syncs result mid after → OverwritesBy step at bytes result before after
  synced is after result syncs =
      let seen : mid.seen ≡ new = on_ok wrote (mid.seen ≡ new) is writes.written in
      record {
        ok = always result (syncs.seen ∙ seen);
        settled = λ settled. through result _ (IsSettled after)
            (λ (facts : (mid.sound ≡ true → Only mid.seen after.may_leave) × (after.sound ≡ mid.sound)). record {
              kept = λ c left. facts.0 (writes.sound ∙ settled.sound) c left ∙ sym syncs.seen;
              sound = facts.1 ∙ writes.sound ∙ settled.sound;
            })
            (both result (mid.sound ≡ true → Only mid.seen after.may_leave) (after.sound ≡ mid.sound) syncs.durable syncs.sound);
        any_moment = λ settled. one_more before mid after (step before.seen) (during settled) syncs.time
            (λ c left. ⊎_elim (stepped settled c) (λ same. subst (step before.seen) (sym (same ∙ seen)) all) (syncs.crash c left));
      }
    where
      always : (r : Result (Unit {0}) SectorFault) {P : Type 0} → P → OnOk r P
      always (Ok x) p = p
      always (Err e) p = tt

-- a commit
pub commits : (at : ℕ) (bytes : List ℕ) (result : Result (Unit {0}) SectorFault) (before after : Disk) → Overwrites at bytes result before after → WritesBatch at bytes result before after
commits at bytes result before after writes first batches batch settled has will =
    let new = overwritten before.seen at bytes in
    record {
      acknowledged = both result (IsSettled after) (HasSectors after.seen (after_batches first (batch ∷ batches))) (writes.settled settled)
          (through result (after.seen ≡ new) (HasSectors after.seen (after_batches first (batch ∷ batches)))
          (λ e. subst (λ (f : List ℕ). HasSectors f (after_batches first (batch ∷ batches))) (sym e) will) writes.ok);
      any_moment = weaker before after (IsMixed before.seen new) (IsBeforeOrAfter first batches batch)
          (λ c mixed. file_is_all_or_none first batches batch before.seen new c has will mixed) (writes.any_moment settled);
    }

-- zeros after the end

zero_fill : (n : ℕ) (bytes : List ℕ) (a b : ℕ) → n ≤ a → n ≤ b → take n (bytes ++ replicate a 0) ≡ take n (bytes ++ replicate b 0)
zero_fill zero bytes a b h k = refl
zero_fill (suc n) (x ∷ bytes) a b h k = ap (λ (l : List ℕ). x ∷ l) (zero_fill n bytes a b (omega arith) (omega arith))
zero_fill (suc n) [] zero b h k = absurd (omega arith)
zero_fill (suc n) [] (suc a) zero h k = absurd (omega arith)
zero_fill (suc n) [] (suc a) (suc b) h k = ap (λ (l : List ℕ). 0 ∷ l) (zero_fill n [] a b (omega arith) (omega arith))

record Rest (n m : ℕ) (file : List ℕ) : Type 0 where
  left : ℕ
  is : drop n (file ++ replicate m 0) ≡ drop n file ++ replicate left 0

rest_zeros : (n m : ℕ) (file : List ℕ) → Rest n m file
rest_zeros zero m file = record { left = m; is = refl }
rest_zeros (suc n) zero [] = record { left = 0; is = refl }
rest_zeros (suc n) (suc m) [] = let more = rest_zeros n m [] in record { left = more.left; is = more.is ∙ ap (λ (l : List ℕ). l ++ replicate more.left 0) (nothing n) }
  where
    nothing : (n : ℕ) → drop n [] ≡ drop {A = ℕ} (suc n) []
    nothing zero = refl
    nothing (suc n) = refl
rest_zeros (suc n) m (x ∷ file) = let more = rest_zeros n m file in record { left = more.left; is = more.is }

zeros_joined : (a b : ℕ) → replicate a 0 ++ replicate b 0 ≡ replicate {A = ℕ} (a + b) 0
zeros_joined zero b = ap (λ (n : ℕ). replicate {A = ℕ} n 0) (omega arith)
zeros_joined (suc a) b = ap (λ (l : List ℕ). 0 ∷ l) (zeros_joined a b) ∙ ap (λ (n : ℕ). replicate {A = ℕ} n 0) (let e : suc (a + b) ≡ suc a + b = omega arith in e)

pub same_with_zeros : (file : List ℕ) (m k : ℕ) → sector k (file ++ replicate m 0) ≡ sector k file
same_with_zeros file m k =
    let rest = rest_zeros (512 * k) m file in
    ap (λ (l : List ℕ). take 512 (l ++ replicate 512 0)) rest.is
    ∙ ap (λ (l : List ℕ). take 512 l) (append_assoc (drop (512 * k) file) (replicate rest.left 0) (replicate 512 0) ∙ ap (λ (l : List ℕ). drop (512 * k) file ++ l) (zeros_joined rest.left 512))
    ∙ zero_fill 512 (drop (512 * k) file) (rest.left + 512) 512 (omega arith) (omega arith)

at_the_end : (file zeros : List ℕ) → overwritten file (length file) zeros ≡ file ++ zeros
at_the_end file zeros =
    ap (λ (l : List ℕ). l ++ (zeros ++ drop (length file + length zeros) file)) (take_all (length file) file (omega arith))
    ∙ ap (λ (l : List ℕ). file ++ (zeros ++ l)) (drop_of_length-le file (omega arith)) ∙ ap (λ (l : List ℕ). file ++ l) (append-nil zeros)

pub reserves : (end : ℕ) (zeros : List ℕ) (result : Result (Unit {0}) SectorFault) (before after : Disk) → end ≡ length before.seen → zeros ≡ replicate (length zeros) 0
    → IsSettled before → Overwrites end zeros result before after → Reserves zeros result before after
reserves end zeros result before after ends are settled writes =
    let grown : overwritten before.seen end zeros ≡ before.seen ++ zeros = ap (λ (n : ℕ). overwritten before.seen n zeros) ends ∙ at_the_end before.seen zeros in
    let same : HasSameSectors before.seen (before.seen ++ zeros) = λ k. ap (λ (l : List ℕ). sector k (before.seen ++ l)) are ∙ same_with_zeros before.seen (length zeros) k in
    record {
      ok = kept result grown same (writes.settled settled) writes.ok;
      any_moment = weaker before after (IsMixed before.seen (overwritten before.seen end zeros)) (HasSameSectors before.seen)
          (λ c mixed k. ⊎_elim (λ e. e) (λ e. e ∙ ap (sector k) grown ∙ same k) (mixed.each k)) (writes.any_moment settled);
    }
  where
    kept : (r : Result (Unit {0}) SectorFault) → overwritten before.seen end zeros ≡ before.seen ++ zeros → HasSameSectors before.seen (before.seen ++ zeros)
        → OnOk r (IsSettled after) → OnOk r (after.seen ≡ overwritten before.seen end zeros)
        → OnOk r (IsSettled after × (after.seen ≡ before.seen ++ zeros) × HasSameSectors before.seen after.seen)
    kept (Ok x) grown same settles seen = (settles, seen ∙ grown, λ k. ap (sector k) (seen ∙ grown) ∙ same k)
    kept (Err e) grown same settles seen = tt

-- a clear
pub clears : (at : ℕ) (bytes : List ℕ) (result : Result (Unit {0}) SectorFault) (before after : Disk) → Overwrites at bytes result before after → ClearsTorn at bytes result before after
clears at bytes result before after writes first batches batch old will_be settled has will torn done =
    let cleared = overwritten before.seen at bytes in
    record {
      cleared = both result (IsSettled after) (HasSectors after.seen (after_batches first batches)) (writes.settled settled)
          (through result (after.seen ≡ cleared) (HasSectors after.seen (after_batches first batches)) (λ e. subst (λ (f : List ℕ). HasSectors f (after_batches first batches)) (sym e) done) writes.ok);
      any_moment = weaker before after (IsMixed before.seen cleared) (IsBeforeOrAfter first batches batch)
          (λ c mixed. crash_leaves_all_or_none first batches batch (file_sectors c) (λ k.
          ⊎_elim
          (λ e. ⊎_elim (λ was. inl (file_sector k c ∙ ap stamped (e ∙ was) ∙ has k)) (λ was. inr (file_sector k c ∙ ap stamped (e ∙ was) ∙ will k)) (torn.each k))
          (λ e. inl (file_sector k c ∙ ap stamped e ∙ done k))
          (mixed.each k)))
          (writes.any_moment settled);
    }

-- a commit with two syncs

long_still : (at : ℕ) (bytes file : List ℕ) → at ≤ length file → at ≤ length (overwritten file at bytes)
long_still at bytes file within = omega (arith, length-take-le at file within, length-append (take at file) (bytes ++ drop (at + length bytes) file))

pub stays_long : (end : ℕ) (sectors file seen : List ℕ) → seen ≡ overwritten file end sectors → end ≤ length file → end - 498 ≤ length seen
stays_long end sectors file seen is within = omega (arith, ap (λ (l : List ℕ). length l) is, long_still end sectors file within)

behind : (end : ℕ) (sectors file : List ℕ) (first : List ℕ) (batches : List Batch) → end ≤ length file → IsClosedAfter first batches file → end ≡ end_after first batches
    → (c : List ℕ) → IsTorn end (length sectors) file c → IsClosedAfter first batches c
behind end sectors file first batches within closed ends c torn =
    behind_latch_nothing_counts first batches file c (length sectors) closed (omega (arith, within, ends)) (subst (λ (n : ℕ). IsTorn n (length sectors) file c) ends torn)

-- the first write failed, or its sync did
pub closed_failed : (end : ℕ) (sectors : List ℕ) (fault : SectorFault) (before after : Disk) → end ≤ length before.seen
    → OverwritesRange end sectors (Err fault) before after → WritesClosedBatch end sectors (Err fault) before after
closed_failed end sectors fault before after within writes first batches batch settled closed ends will = record {
  acknowledged = tt;
  any_moment = weaker before after _ _ (λ c torn. inl (behind end sectors before.seen first batches within closed ends c torn)) (writes.any_moment settled);
}

-- the latch is opened
pub closed_commits : (end : ℕ) (sectors : List ℕ) (before mid after : Disk) (wrote result : Result (Unit {0}) SectorFault) → end ≤ length before.seen → wrote ≡ Ok tt
    → OverwritesRange end sectors wrote before mid → OverwritesRange (end - 498) (latch_bytes false) result mid after → WritesClosedBatch end sectors result before after
closed_commits end sectors before mid after wrote result within is writes opens first batches batch settled closed ends will =
    let seen : mid.seen ≡ overwritten before.seen end sectors = on_ok wrote _ is writes.ok in
    let mid_settled : IsSettled mid = on_ok wrote _ is (writes.settled settled) in
    let latch : end - 498 ≡ latch_after first batches = ap (λ (n : ℕ). n - 498) ends in
    let front = behind end sectors before.seen first batches within closed ends in
    let still : IsClosedAfter first batches mid.seen
    = subst (IsClosedAfter first batches) (sym seen) (front (overwritten before.seen end sectors) (torn_whole end sectors before.seen within)) in
    let long : end_after first batches ≤ length mid.seen
    = omega (arith, ends, ap (λ (l : List ℕ). length l) seen, long_still end sectors before.seen within) in
    let opened : IsClosedAfter first (batch ∷ batches) (overwritten mid.seen (end - 498) (latch_bytes false))
    = subst (λ (f : List ℕ). IsClosedAfter first (batch ∷ batches) (overwritten f (end - 498) (latch_bytes false))) (sym seen) will in
    record {
      acknowledged = both result (IsSettled after) (IsClosedAfter first (batch ∷ batches) after.seen) (opens.settled mid_settled)
          (through result _ (IsClosedAfter first (batch ∷ batches) after.seen) (λ e. subst (IsClosedAfter first (batch ∷ batches)) (sym e) opened) opens.ok);
      any_moment = one_after before mid after _
          (weaker before mid _ _ (λ c torn. inl (front c torn)) (writes.any_moment settled))
          (weaker mid after _ _ (λ c torn. latch_is_all_or_none first batches batch mid.seen c still long
          (subst (λ (n : ℕ). IsClosedAfter first (batch ∷ batches) (overwritten mid.seen n (latch_bytes false))) latch opened)
          (subst (λ (n : ℕ). IsTorn n 2 mid.seen c) latch torn)) (opens.any_moment mid_settled));
    }

pub opened_seen : (end : ℕ) (sectors : List ℕ) (before mid after : Disk) (wrote result : Result (Unit {0}) SectorFault) → wrote ≡ Ok tt
    → OverwritesRange end sectors wrote before mid → OverwritesRange (end - 498) (latch_bytes false) result mid after → OnOk result (after.seen ≡ opened_before end sectors before.seen)
opened_seen end sectors before mid after wrote result is writes opens =
    through result (after.seen ≡ overwritten mid.seen (end - 498) (latch_bytes false)) (after.seen ≡ opened_before end sectors before.seen)
    (λ e. e ∙ ap (λ (f : List ℕ). overwritten f (end - 498) (latch_bytes false)) (on_ok wrote (mid.seen ≡ overwritten before.seen end sectors) is writes.ok)) opens.ok

-- the last latch is closed
pub closes_latch : (end : ℕ) (before after : Disk) (result : Result (Unit {0}) SectorFault) → end ≤ length before.seen
    → OverwritesRange (end - 498) (latch_bytes true) result before after → ClosesLatch end result before after
closes_latch end before after result within writes first batches settled has ends =
    let latch : end - 498 ≡ latch_after first batches = ap (λ (n : ℕ). n - 498) ends in
    let law = latch_is_closed first batches before.seen has (omega (arith, within, ends)) in
    record {
      closed = both result (IsSettled after) (IsClosedAfter first batches after.seen) (writes.settled settled)
          (through result _ (IsClosedAfter first batches after.seen)
          (λ e. subst (IsClosedAfter first batches) (sym (e ∙ ap (λ (n : ℕ). overwritten before.seen n (latch_bytes true)) latch)) law.0) writes.ok);
      any_moment = weaker before after _ _ (λ c torn. law.1 c (subst (λ (n : ℕ). IsTorn n 2 before.seen c) latch torn)) (writes.any_moment settled);
    }
