-- A file that is read on after others appended to it.
use Rattle.std.proofs.Common.{◌≡◌, ℕ, Bool, false, List, length, Result, Ok, Err, IfOk, OnOk, OnErr, inl, refl, sym, ap, ◌∙◌, subst, arith}
use Rattle.tb_file_journal.specs.declared.faults.JournalFault.{JournalFault}
use Rattle.tb_file_journal.specs.Contents.{Contents, NotAJournal, Damaged, Records, contents}
use Rattle.tb_file_journal.specs.Device.{Disk, Looks}
use Rattle.tb_file_journal.specs.Growing.{Later, Grown}
use Rattle.tb_file_journal.specs.Snapshots.{Snapped, IsFinal, ShowsOf, HoldsBytes, Refreshes}
use Rattle.tb_file_journal.proofs.Growths.{extends_later, final_later, later_same, later_then}
use Rattle.tb_file_journal.proofs.Showing.{shown_contents, shown_prefix}
use Rattle.tb_edge_file.specs.Live as live
use Rattle.tb_edge_file.specs.Live.{LooksAgain, WholeOf, IsWholeLength}

module _ {G : Type 0} (grows : G → List ℕ → Type 0) (before after : Snapped G) where
  pub refreshed : (result : Result (Unit {0}) JournalFault) → ((shown : List ℕ) (held : HoldsBytes grows before shown) → OnOk result (Refreshes grows held.file shown after))
      → ((shown : List ℕ) → HoldsBytes grows before shown → OnErr result (HoldsBytes grows after shown))
      → (shown : List ℕ) → HoldsBytes grows before shown → live.RefreshesFile (λ (s : Snapped G). grows s.file) (HoldsBytes grows) before after shown result
  refreshed (Ok done) ok err shown held =
      let r = ok shown held in
      record {
        later = r.takes.shown;
        since = r.goes_on;
        held = r.takes.held;
        first = held.file;
        was = held.now;
        moment = r.takes.later;
        grown = r.takes.after;
        all = r.takes.same;
      }
  refreshed (Err fault) ok err shown held = err shown held

-- one that is shown whole holds the file as it is
module _ {G : Type 0} (grows : G → List ℕ → Type 0) (snapshot : Snapped G) (whole : snapshot.closed ≡ false) where
  pub looked_whole : (shown : List ℕ) → HoldsBytes grows snapshot shown → grows snapshot.file shown
  looked_whole shown held =
      let met = held.shows.met in
      let all = subst (λ (b : Bool). ShowsOf b snapshot.end snapshot.len met shown) whole held.shows.shows in
      subst (grows snapshot.file) (final_later met held.file all.final held.shows.since ∙ sym all.is) held.now

-- nobody appended
pub stays : {D : Type 0} → (holds : D → List ℕ → Type 0) → (device : D) → (file : List ℕ) → holds device file → LooksAgain holds holds device device file
stays holds device file held =
    record { later = file; since = later_same file; held = held; first = file; was = held; moment = file; grown = later_same file; all = refl }

-- it still holds that after a call at which its file stays
pub looked_still : {D T E : Type 0} (whole holds : D → List ℕ → Type 0) (before mid after : D) (file : List ℕ) (result : Result T E)
    → LooksAgain whole holds before mid file → ((shown : List ℕ) → holds mid shown → holds after shown) → OnOk result (LooksAgain whole holds before after file)
looked_still whole holds before mid after file (Ok done) looked same = record {
  later = looked.later;
  since = looked.since;
  held = same looked.later looked.held;
  first = looked.first;
  was = looked.was;
  moment = looked.moment;
  grown = looked.grown;
  all = looked.all;
}
looked_still whole holds before mid after file (Err fault) looked same = tt

-- a file that stays as it is goes on with what it represents
pub whole_same : (file : List ℕ) → WholeOf (contents file) file file
whole_same file = by (contents file) refl
  where
    by : (c : Contents) → contents file ≡ c → WholeOf c file file
    by NotAJournal is = is
    by (Damaged at) is = is
    by (Records records) is = extends_later records file file is (later_same file)

pub whole_length : (file : List ℕ) (result : Result ℕ JournalFault) → IfOk result (λ len. len ≡ length file) → IfOk result (IsWholeLength file)
whole_length file (Ok len) long = record { whole = file; goes_on = whole_same file; long = long }
whole_length file (Err fault) long = tt

-- and so does a file of which a snapshot shows a part
pub whole_shown : (closed : Bool) (end len : ℕ) (met shown last : List ℕ) → ShowsOf closed end len met shown → Later met last → WholeOf (contents shown) shown last
whole_shown closed end len met shown last shows after = by (contents shown) refl
  where
    final : (c : Contents) → IsFinal c → contents shown ≡ c → contents last ≡ c
    final c end_of is =
        let was : contents met ≡ c = sym (shown_contents closed end len met shown shows) ∙ is in
        ap contents (final_later met last (subst IsFinal (sym was) end_of) after) ∙ was

    by : (c : Contents) → contents shown ≡ c → WholeOf c shown last
    by NotAJournal is = final NotAJournal tt is
    by (Damaged at) is = final (Damaged at) tt is
    by (Records records) is = shown_prefix closed end len met shown last records shows after is

module _ {G : Type 0} (grows : G → List ℕ → Type 0) (before : Snapped G) (now : G) where
  pub shown_length : (result : Result ℕ JournalFault)
      → ((file : List ℕ) → grows before.file file → Grown (grows now) file (λ later. IfOk result (λ len. len ≡ length later)))
      → (shown : List ℕ) → HoldsBytes grows before shown → IfOk result (IsWholeLength shown)
  shown_length (Ok len) long shown held =
      let grown = long held.file held.now in
      let met = held.shows.met in
      record {
        whole = grown.later;
        goes_on = whole_shown before.closed before.end before.len met shown grown.later held.shows.shows (later_then met held.file grown.later held.shows.since grown.after);
        long = grown.has;
      }
  shown_length (Err fault) long shown held = tt

-- and the device was not asked
pub looks_not : (disk : Disk) → Looks {T = Unit {0}} (Ok tt) disk disk
looks_not disk = record {
  looks = record {
    seen = refl;
    crash = λ file may. may;
    time = record { later = omega arith; nothing_else = λ t file early left. inl left; keeps = λ t file early left. left };
    sound = refl;
  };
  cause = record { ok = λ fault. refl; cause = tt };
}
