-- One more call joins those that a file in memory has had.
use Rattle.std.proofs.lemmas.Grind.{common_steps}
use Rattle.std.proofs.Common.{◌≡◌, ◌⊎◌, inl, inr, ⊎_elim, ℕ, ◌+◌, ◌-◌, ◌^◌, ◌≤◌, ◌<◌, min, ap, Bool, List, [], ◌∷◌, ◌++◌, length, take, refl, sym, ◌∙◌, subst, arith, reverse, length-append, Result, Ok, Err, OnOk}
use Rattle.std.proofs.lemmas.List.{take_all, take_min, take-append-le, reverse-append}
use Rattle.std.proofs.lemmas.Bool.{cases_lt}
use Rattle.tb_file_journal.specs.Device.{Elapses, Torn, Rises, IsOfCall, IsOfSync, HasCause, HasFailed, Writes, Cuts, Syncs, overwritten}
use Rattle.tb_file_journal.specs.Memory.{LeftBy, disk_after}
use Rattle.tb_file_journal.specs.Torn.{torn_at}
use Rattle.std.proofs.lemmas.Bool.Decides.{nat_tests}
use Rattle.tb_file_journal.specs.Failures.{counted}
use Rattle.std.specs.Prelude.{Vec}
use Rattle.std.specs.declared.alloc.Global.{Global}
use Rattle.tb_file_journal.specs.declared.faults.JournalFault.{JournalFault}
use Rattle.tb_file_journal.specs.declared.memory.Call.{Call}
use Rattle.tb_file_journal.specs.declared.memory.Call.TheVariants as variants
use Rattle.tb_file_journal.specs.declared.memory.Failures.{Failures}

cases_le : (k n : ℕ) → (k ≤ n) ⊎ (n + 1 ≤ k)
cases_le k n = ⊎_elim (λ less. inr (omega (arith, less))) (λ le. inl le) (cases_lt n k)

-- the newest call comes first
pub newest : (calls : List Call) (call : Call) → reverse (calls ++ call ∷ []) ≡ call ∷ reverse calls
newest calls call = reverse-append calls (call ∷ [])

earlier_same : (first : List ℕ) (calls : List Call) (call : Call) (k : ℕ) (c : List ℕ) → k ≤ length calls
    → LeftBy first (reverse (take k (calls ++ call ∷ []))) c → LeftBy first (reverse (take k calls)) c
earlier_same first calls call k c le left = subst (λ (l : List Call). LeftBy first (reverse l) c) (take-append-le k calls (call ∷ []) le) left

later_same : (first : List ℕ) (calls : List Call) (call : Call) (k : ℕ) (c : List ℕ) → k ≤ length calls
    → LeftBy first (reverse (take k calls)) c → LeftBy first (reverse (take k (calls ++ call ∷ []))) c
later_same first calls call k c le left = subst (λ (l : List Call). LeftBy first (reverse l) c) (sym (take-append-le k calls (call ∷ []) le)) left

pub more_elapses : (first : List ℕ) (calls : List Call) (call : Call) (old new : List ℕ) (f g : Failures) (s t : Bool)
    → Elapses (disk_after first calls old f s) (disk_after first (calls ++ call ∷ []) new g t)
more_elapses first calls call old new f g s t = record {
  later = omega (arith, length-append calls (call ∷ []));
  nothing_else = λ t c le since. by_moment t c since (cases_le since.0 (length calls));
  keeps = λ t c le since. (since.0, since.1, omega (arith, since.2, length-append calls (call ∷ [])), later_same first calls call since.0 c since.2 since.3);
}
  where
    by_moment : (m : ℕ) (c : List ℕ) (since : (disk_after first (calls ++ call ∷ []) new g t).left_since m c)
        → (since.0 ≤ length calls) ⊎ (length calls + 1 ≤ since.0)
        → (disk_after first calls old f s).left_since m c ⊎ LeftBy first (reverse (calls ++ call ∷ [])) c
    by_moment m c since either = grind (arith, common_steps, earlier_same, take_all, length-append)

-- what a crash leaves after it
pub more_left : (first : List ℕ) (calls : List Call) (call : Call) (c : List ℕ)
    → LeftBy first (reverse (calls ++ call ∷ [])) c → LeftBy first (call ∷ reverse calls) c
more_left first calls call c left = subst (λ (l : List Call). LeftBy first l c) (newest calls call) left

left_to : (first : List ℕ) (calls later : List Call) (call : Call) → later ≡ calls ++ call ∷ [] → (c : List ℕ)
    → LeftBy first (reverse later) c → LeftBy first (call ∷ reverse calls) c
left_to first calls later call is c now = more_left first calls call c (subst (λ (l : List Call). LeftBy first (reverse l) c) is now)

-- a failure is counted
pub failed_by : (first : List ℕ) (calls later : List Call) (old new : List ℕ) (f g : Failures) (s t : Bool) (fault told : JournalFault) → told ≡ fault
    → IsOfCall fault ⊎ IsOfSync fault → Rises (counted f fault) (counted g fault)
    → ((other : JournalFault) → (other ≡ fault) ⊎ (counted g other ≡ counted f other))
    → HasFailed (disk_after first calls old f s) (disk_after first later new g t) told
failed_by first calls later old new f g s t fault told is named rises others =
    subst (HasFailed (disk_after first calls old f s) (disk_after first later new g t)) (sym is)
    (record { named = named; counted = rises; others = others })

pub on_ok_too : {E : Type 0} (result : Result (Unit {0}) E) (P Q : Type 0) → (P → Q) → OnOk result P → OnOk result Q
on_ok_too (Ok x) P Q so p = so p
on_ok_too (Err e) P Q so p = tt

-- a write or a cut

module _ (first : List ℕ) (calls later : List Call) (old new : List ℕ) (f g : Failures) (s t : Bool) where
  elapses_to : (call : Call) → later ≡ calls ++ call ∷ [] → Elapses (disk_after first calls old f s) (disk_after first later new g t)
  elapses_to call is = subst (λ (l : List Call). Elapses (disk_after first calls old f s) (disk_after first l new g t)) (sym is) (more_elapses first calls call old new f g s t)

module _ (first : List ℕ) (calls later : List Call) (old new : List ℕ) (f g : Failures) (s : Bool) (result : Result (Unit {0}) JournalFault) (cause : HasCause result (disk_after first calls old f s) (disk_after first later new g s)) where
  -- a write
  module _ (at : ℕ) (bytes : List ℕ) (done : OnOk result (new ≡ overwritten old at bytes)) where
    pub wrote : (v : Vec ℕ Global) (shown : Bool) → v.items ≡ bytes → later ≡ calls ++ variants.Write at v shown ∷ []
        → Writes at bytes result (disk_after first calls old f s) (disk_after first later new g s)
    wrote v shown same is = record {
      written = done;
      crash = λ c now. let from = left_to first calls later (variants.Write at v shown) is c now in (from.0, from.1, subst (λ (l : List ℕ). Torn at (length l) from.0 c) same from.2);
      time = elapses_to first calls later old new f g s s (variants.Write at v shown) is;
      sound = refl;
      cause = cause;
    }

  -- a cut
  module _ (len : ℕ) (done : OnOk result (new ≡ take len old)) where
    pub has_cut : (shown : Bool) → later ≡ calls ++ variants.Cut len shown ∷ []
        → Cuts len result (disk_after first calls old f s) (disk_after first later new g s)
    has_cut shown is = record {
      cut = done;
      crash = left_to first calls later (variants.Cut len shown) is;
      time = elapses_to first calls later old new f g s s (variants.Cut len shown) is;
      sound = refl;
      cause = cause;
    }

-- a sync

module _ (first : List ℕ) (calls later : List Call) (old : List ℕ) (f : Failures) (s : Bool) where
  pub synced : (v : Vec ℕ Global) → v.items ≡ old → later ≡ calls ++ variants.Sync v ∷ []
      → Syncs (Ok tt) (disk_after first calls old f s) (disk_after first later old f s)
  synced v same is = record {
    durable = λ sound c now. (left_to first calls later (variants.Sync v) is c now).2 ∙ same;
    sound = refl;
    unsound = tt;
    seen = refl;
    crash = λ c now. inr ((left_to first calls later (variants.Sync v) is c now).2 ∙ same);
    time = elapses_to first calls later old old f f s s (variants.Sync v) is;
    cause = record { ok = λ fault. refl; cause = tt };
  }

-- the bytes that a crash lets through

pub torn_within : (torn : List ℕ) (at n : ℕ) (old : List ℕ) → at ≤ length old → overwritten old at (take n torn) ≡ torn_at torn at n old
torn_within torn at n old within = grind (arith, nat_tests)

pub torn_beyond : (torn : List ℕ) (at n : ℕ) (old : List ℕ) → length old < at → old ≡ torn_at torn at n old
torn_beyond torn at n old beyond = grind (arith, nat_tests)

pub let_through : (n k : ℕ) (torn : List ℕ) → k ≡ min (length torn) n → take k torn ≡ take n torn
let_through n k torn is = ap (λ (j : ℕ). take j torn) (omega (arith, is)) ∙ take_min n torn

pub cut_through : (n k : ℕ) (file : List ℕ) → k ≡ min n (2 ^ 64 - 1) → length file ≤ 2 ^ 64 - 1 → take k file ≡ take n file
cut_through n k file is short = sym (take_min k file) ∙ ap (λ (j : ℕ). take j file) (omega (arith, is, short)) ∙ take_min n file
