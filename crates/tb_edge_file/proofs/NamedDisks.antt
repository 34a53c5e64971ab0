-- A look at a disk, and then a call.
use Rattle.std.proofs.Common.{◌≡◌, inl, ℕ, ◌≤◌, List, [], length, take, drop, sym, ◌∙◌, ap, subst, arith, Result, Ok, Err, OnOk}
use Rattle.std.proofs.lemmas.List.{length-drop, take_all}
use Rattle.tb_file_journal.specs.declared.faults.JournalFault.{JournalFault}
use Rattle.tb_file_journal.specs.Device.{Disk, Cut, Cuts, Looks, Writes, overwritten}
use Rattle.tb_file_journal.proofs.SystemCalls.{CountsNow, cause_then, elapses_then}

written_then : (at : ℕ) (bytes : List ℕ) (result : Result (Unit {0}) JournalFault) (a b c : Disk) → b.seen ≡ a.seen → Writes at bytes result b c
    → OnOk result (c.seen ≡ overwritten a.seen at bytes)
written_then at bytes (Ok done) a b c same writes = subst (λ (seen : List ℕ). c.seen ≡ overwritten seen at bytes) same writes.written
written_then at bytes (Err fault) a b c same writes = tt

pub writes_then : {T : Type 0} (at : ℕ) (bytes : List ℕ) (result : Result (Unit {0}) JournalFault) (x : T) (a b c : Disk) → CountsNow a → Looks (Ok x) a b
    → Writes at bytes result b c → Writes at bytes result a c
writes_then at bytes result x a b c now looks writes = record {
  written = written_then at bytes result a b c looks.looks.seen writes;
  crash = λ x left. let mid = writes.crash x left in (mid.0, looks.looks.crash mid.0 mid.1, mid.2);
  time = elapses_then a b c (λ t x le mid. inl (now t x le (looks.looks.crash x mid))) looks.looks.time writes.time;
  sound = writes.sound ∙ looks.looks.sound;
  cause = cause_then result a b c looks.cause.ok writes.cause;
}

cut_then : (n : ℕ) (result : Result (Unit {0}) JournalFault) (a b c : Disk) → b.seen ≡ a.seen → Cuts n result b c
    → OnOk result (c.seen ≡ take n a.seen)
cut_then n (Ok done) a b c same cuts = subst (λ (seen : List ℕ). c.seen ≡ take n seen) same cuts.cut
cut_then n (Err fault) a b c same cuts = tt

pub cuts_then : {T : Type 0} (n : ℕ) (result : Result (Unit {0}) JournalFault) (x : T) (a b c : Disk) → CountsNow a → Looks (Ok x) a b
    → Cuts n result b c → Cuts n result a c
cuts_then n result x a b c now looks cuts = record {
  cut = cut_then n result a b c looks.looks.seen cuts;
  crash = λ x left. let mid = cuts.crash x left in (mid.0, looks.looks.crash mid.0 mid.1, mid.2);
  time = elapses_then a b c (λ t x le mid. inl (now t x le (looks.looks.crash x mid))) looks.looks.time cuts.time;
  sound = cuts.sound ∙ looks.looks.sound;
  cause = cause_then result a b c looks.cause.ok cuts.cause;
}

-- a cut where nothing is

all_taken : (n : ℕ) (x : List ℕ) → drop n x ≡ [] → take n x ≡ x
all_taken n x none = take_all n x (omega (arith, ap length none, length-drop n x))

cut_same : (n : ℕ) (x : List ℕ) → Cut n x x
cut_same n x = record { no_shorter = omega arith; front = take_all (length x) x (omega arith) }

pub cuts_nothing : {T : Type 0} (n : ℕ) (x : T) (a b : Disk) → drop n a.seen ≡ [] → Looks (Ok x) a b → Cuts n (Ok tt) a b
cuts_nothing n x a b none looks = record {
  cut = looks.looks.seen ∙ sym (all_taken n a.seen none);
  crash = λ x left. (x, looks.looks.crash x left, cut_same n x);
  time = looks.looks.time;
  sound = looks.looks.sound;
  cause = record { ok = looks.cause.ok; cause = tt };
}
