-- One more call joins those that a file in memory has had.
use Rattle.std.proofs.lemmas.Grind.{common_steps}
use Rattle.std.proofs.Common.{◌≡◌, ◌⊎◌, inl, inr, ⊎_elim, ℕ, ◌+◌, ◌≤◌, Bool, true, false, List, [], ◌∷◌, ◌++◌, length, take, refl, sym, ◌∙◌, subst, arith, reverse, length-append, Result, Ok, Err, OnOk}
use Rattle.std.proofs.lemmas.List.{take_all, take-append-le, reverse-append}
use Rattle.std.proofs.lemmas.Bool.{cases_lt}
use Rattle.std.specs.Prelude.{Vec}
use Rattle.std.specs.declared.alloc.Global.{Global}
use Rattle.tb_sectors.specs.Sectors.{Elapses, IsMixed, Writes, Syncs, overwritten}
use Rattle.tb_sectors.specs.Ranges.{IsTorn, WritesRange}
use Rattle.tb_sectors.specs.Calls.{Leaves, shown_after}
use Rattle.tb_sectors.specs.declared.devices.SectorFault.{SectorFault}
use Rattle.tb_sectors.specs.Memory.{LeftBy, disk_after}
use Rattle.tb_sectors.specs.declared.memory.Call.{Call}
use Rattle.tb_sectors.specs.declared.memory.Call.TheVariants as variants

cases_le : (k n : ℕ) → (k ≤ n) ⊎ (n + 1 ≤ k)
cases_le k n = ⊎_elim (λ less. inr (omega (arith, less))) (λ le. inl le) (cases_lt n k)

-- the newest call comes first
pub newest : (calls : List Call) (call : Call) → reverse (calls ++ call ∷ []) ≡ call ∷ reverse calls
newest calls call = reverse-append calls (call ∷ [])

module _ (sectors : Bool) (first : List ℕ) where
  earlier_same : (calls : List Call) (call : Call) (k : ℕ) (c : List ℕ) → k ≤ length calls
      → LeftBy sectors first (reverse (take k (calls ++ call ∷ []))) c → LeftBy sectors first (reverse (take k calls)) c
  earlier_same calls call k c le left = subst (λ (l : List Call). LeftBy sectors first (reverse l) c) (take-append-le k calls (call ∷ []) le) left

  later_same : (calls : List Call) (call : Call) (k : ℕ) (c : List ℕ) → k ≤ length calls
      → LeftBy sectors first (reverse (take k calls)) c → LeftBy sectors first (reverse (take k (calls ++ call ∷ []))) c
  later_same calls call k c le left = subst (λ (l : List Call). LeftBy sectors first (reverse l) c) (sym (take-append-le k calls (call ∷ []) le)) left

  left_now : (calls : List Call) (call : Call) (c : List ℕ) → LeftBy sectors first (reverse (calls ++ call ∷ [])) c → LeftBy sectors first (call ∷ reverse calls) c
  left_now calls call c now = subst (λ (l : List Call). LeftBy sectors first l c) (newest calls call) now

  more_elapses : (calls : List Call) (call : Call) (old new : List ℕ) (s t : Bool)
      → Elapses (disk_after sectors first calls old s) (disk_after sectors first (calls ++ call ∷ []) new t)
  more_elapses calls call old new s t = record {
    later = omega (arith, length-append calls (call ∷ []));
    nothing_else = λ t c le since. by_moment t c since (cases_le since.0 (length calls));
    keeps = λ t c le since. (since.0, since.1, omega (arith, since.2, length-append calls (call ∷ [])), later_same calls call since.0 c since.2 since.3);
  }
    where
      by_moment : (m : ℕ) (c : List ℕ) (since : (disk_after sectors first (calls ++ call ∷ []) new t).left_since m c)
          → (since.0 ≤ length calls) ⊎ (length calls + 1 ≤ since.0)
          → (disk_after sectors first calls old s).left_since m c ⊎ LeftBy sectors first (reverse (calls ++ call ∷ [])) c
      by_moment m c since either = ⊎_elim
          (λ le. inl (since.0, since.1, le, earlier_same calls call since.0 c le since.3))
          (λ more. inr (subst (λ (l : List Call). LeftBy sectors first (reverse l) c) (take_all since.0 (calls ++ call ∷ []) (omega (arith, more, length-append calls (call ∷ [])))) since.3))
          either

  left_to : (calls later : List Call) (call : Call) → later ≡ calls ++ call ∷ [] → (c : List ℕ)
      → LeftBy sectors first (reverse later) c → LeftBy sectors first (call ∷ reverse calls) c
  left_to calls later call is c now = left_now calls call c (subst (λ (l : List Call). LeftBy sectors first (reverse l) c) is now)

pub on_ok_too : {E : Type 0} (result : Result (Unit {0}) E) (P Q : Type 0) → (P → Q) → OnOk result P → OnOk result Q
on_ok_too (Ok x) P Q so p = so p
on_ok_too (Err e) P Q so p = tt

module _ (sectors : Bool) (first : List ℕ) (calls later : List Call) (old new : List ℕ) (s : Bool) where
  elapses_to : (call : Call) → later ≡ calls ++ call ∷ [] → Elapses (disk_after sectors first calls old s) (disk_after sectors first later new s)
  elapses_to call is = subst (λ (l : List Call). Elapses (disk_after sectors first calls old s) (disk_after sectors first l new s)) (sym is) (more_elapses sectors first calls call old new s s)

module _ (first : List ℕ) (calls later : List Call) (old new : List ℕ) (s : Bool) (is_shown : old ≡ shown_after first (reverse calls)) where
  -- a write, of which a crash leaves each sector old or new
  pub wrote : (at : ℕ) (bytes : List ℕ) (result : Result (Unit {0}) SectorFault) → OnOk result (new ≡ overwritten old at bytes) → (v : Vec ℕ Global) (shown : Bool) → v.items ≡ bytes
      → later ≡ calls ++ variants.Write at v shown ∷ [] → Writes at bytes result (disk_after true first calls old s) (disk_after true first later new s)
  wrote at bytes result done v shown same is = record {
    written = done;
    crash = λ c now.
        let from = left_to true first calls later (variants.Write at v shown) is c now in
        (from.0, from.1, subst (λ (l : List ℕ). IsMixed from.0 (overwritten l at bytes) c) (sym is_shown) (subst (λ (l : List ℕ). IsMixed from.0 (overwritten (shown_after first (reverse calls)) at l) c) same from.2));
    time = elapses_to true first calls later old new s (variants.Write at v shown) is;
    sound = refl;
  }

  -- or any bytes in its range
  pub wrote_range : (at : ℕ) (bytes : List ℕ) (result : Result (Unit {0}) SectorFault) → OnOk result (new ≡ overwritten old at bytes) → (v : Vec ℕ Global) (shown : Bool) → v.items ≡ bytes
      → later ≡ calls ++ variants.Write at v shown ∷ [] → WritesRange at bytes result (disk_after false first calls old s) (disk_after false first later new s)
  wrote_range at bytes result done v shown same is = record {
    written = done;
    crash = λ c now.
        let from = left_to false first calls later (variants.Write at v shown) is c now in
        (from.0, from.1, subst (λ (l : List ℕ). IsTorn at (length l) from.0 c) same from.2);
    time = elapses_to false first calls later old new s (variants.Write at v shown) is;
    sound = refl;
  }

-- a sync
module _ (first : List ℕ) (calls later : List Call) (old : List ℕ) (s : Bool) (is_shown : old ≡ shown_after first (reverse calls)) where
  kept_only : (sectors : Bool) (c : List ℕ) (d : List ℕ) → Leaves sectors (shown_after first (reverse calls)) variants.Sync d c → c ≡ old
  kept_only true c d is = is ∙ sym is_shown
  kept_only false c d is = is ∙ sym is_shown

  pub synced : (sectors : Bool) → later ≡ calls ++ variants.Sync ∷ [] → Syncs (Ok tt) (disk_after sectors first calls old s) (disk_after sectors first later old s)
  synced sectors is = record {
    durable = λ sound c now. let from = left_to sectors first calls later variants.Sync is c now in kept_only sectors c from.0 from.2;
    sound = refl;
    unsound = tt;
    seen = refl;
    crash = λ c now. let from = left_to sectors first calls later variants.Sync is c now in inr (kept_only sectors c from.0 from.2);
    time = elapses_to sectors first calls later old old s variants.Sync is;
  }
