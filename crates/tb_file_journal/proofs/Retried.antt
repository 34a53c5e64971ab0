-- A call that is retried as long as a signal interrupts it.
use Rattle.std.proofs.Common.{◌≡◌, ◌≢◌, ◌⊎◌, inl, inr, ⊎_elim, ℕ, ◌+◌, ◌<◌, ◌≤◌, List, length, take, drop, sym, ◌∙◌, ap, subst, arith, Result, Ok, Err}
use Rattle.std.specs.Prelude.{IsErrOf}
use Rattle.std.specs.declared.io.ErrorKind.{ErrorKind}
use Rattle.std.specs.declared.io.ErrorKind.TheVariants as kinds
use Rattle.tb_file_journal.specs.declared.faults.JournalFault.{JournalFault}
use Rattle.tb_file_journal.specs.Device.{Disk, Only, Torn, Cut, Elapses, FailsNone, HasFailed, HasCause, IsLookedAt, Cuts, Syncs, overwritten}
use Rattle.tb_file_journal.specs.System.{CountsFailure, ChangesDisk, Preads, Pwrites, Ftruncates, Fdatasyncs, fault_of, sync_fault_of}
use Rattle.tb_file_journal.specs.private.Posix.{ReadsSome, WritesSomeBytes}
use Rattle.tb_file_journal.proofs.SystemCalls.{CountsNow, none_then, failed_then, elapses_then, looked_then, changes_then, torn_then, cut_then}

pub interrupted_is : {T : Type 0} (kind : ErrorKind) → kind ≡ kinds.Interrupted → IsErrOf {T = T} (Err kind) kinds.Interrupted
interrupted_is kind is = ap (λ (k : ErrorKind). Err k) is

ok_same : {E : Type 0} (a b : ℕ) → ◌≡◌ {A = Result ℕ E} (Ok a) (Ok b) → a ≡ b
ok_same a b is = cc

same_ok : {E : Type 0} (a b : ℕ) → a ≡ b → ◌≡◌ {A = Result ℕ E} (Ok a) (Ok b)
same_ok a b is = ap (λ (n : ℕ). Ok n) is

-- no call has failed so far, and each interruption leaves one less
pub record Waits (before now : Disk) (first left tries : ℕ) : Type 0 where
  pub none : FailsNone before now
  pub fewer : left + tries ≤ first

pub waits_again : {T : Type 0} (fault : ErrorKind → JournalFault) (kind : ErrorKind) (a b c : Disk) (first left later tries : ℕ)
    → kind ≡ kinds.Interrupted → CountsFailure {T = T} fault (Err kind) b c → later < left → Waits a b first left tries
    → Waits a c first later (tries + 1)
waits_again fault kind a b c first left later tries is counts less waits = record {
  none = none_then a b c waits.none (counts.interrupted (interrupted_is kind is));
  fewer = omega (arith, less, waits.fewer);
}

ok_cause : {T U : Type 0} (fault : ErrorKind → JournalFault) (x : T) (y : U) (a b c : Disk) → FailsNone a b
    → CountsFailure {T = T} fault (Ok x) b c → HasCause {T = U} (Ok y) a c
ok_cause fault x y a b c none counts = record { ok = none_then a b c none counts.ok; cause = tt }

err_cause : {T U : Type 0} (fault : ErrorKind → JournalFault) (kind : ErrorKind) (why : JournalFault) (a b c : Disk) → FailsNone a b
    → kind ≢ kinds.Interrupted → why ≡ fault kind → CountsFailure {T = T} fault (Err kind) b c → HasCause {T = U} (Err why) a c
err_cause fault kind why a b c none other is counts = record {
  ok = tt;
  cause = subst (HasFailed a c) (sym is) (failed_then a b c (fault kind) none (counts.failed other));
}

-- reads

module _ (at : ℕ) (into : List ℕ) (a b c : Disk) (now : CountsNow a) (looked : IsLookedAt a b) (none : FailsNone a b) where
  pub read_done : (count : ℕ) → Preads at into (Ok count) b c → ReadsSome at into (Ok count) a c
  read_done count reads = record {
    bytes = subst (λ (file : List ℕ). take count into ≡ take count (drop at file)) looked.seen reads.bytes;
    end = λ none_came. subst (λ (file : List ℕ). (length into ≡ 0) ⊎ (length file ≤ at)) looked.seen (reads.end (same_ok count 0 (ok_same {E = JournalFault} count 0 none_came)));
    looks = record { looks = looked_then a b c now looked reads.looks; cause = ok_cause fault_of count count a b c none reads.counts };
  }

  pub read_failed : (kind : ErrorKind) (why : JournalFault) → kind ≢ kinds.Interrupted → why ≡ fault_of kind
      → Preads at into (Err kind) b c → ReadsSome at into (Err why) a c
  read_failed kind why other is reads = record {
    bytes = tt;
    end = λ same. absurd (cc);
    looks = record { looks = looked_then a b c now looked reads.looks; cause = err_cause fault_of kind why a b c none other is reads.counts };
  }

-- writes

module _ (at : ℕ) (bytes : List ℕ) (a b c : Disk) (seen : b.seen ≡ a.seen) (changed : ChangesDisk (Torn at (length bytes)) a b) (none : FailsNone a b) where
  abbrev joins : (x y z : List ℕ) → Torn at (length bytes) x y → Torn at (length bytes) y z → Torn at (length bytes) x z
  joins = torn_then at (length bytes)

  pub write_done : (count : ℕ) → Pwrites at bytes (Ok count) b c → WritesSomeBytes at bytes (Ok count) a c
  write_done count writes = record {
    written = subst (λ (file : List ℕ). c.seen ≡ overwritten file at (take count bytes)) seen writes.written;
    changes = changes_then (Torn at (length bytes)) a b c joins changed writes.changes;
    cause = ok_cause fault_of count count a b c none writes.counts;
  }

  pub write_failed : (kind : ErrorKind) (why : JournalFault) → kind ≢ kinds.Interrupted → why ≡ fault_of kind
      → Pwrites at bytes (Err kind) b c → WritesSomeBytes at bytes (Err why) a c
  write_failed kind why other is writes = record {
    written = tt;
    changes = changes_then (Torn at (length bytes)) a b c joins changed writes.changes;
    cause = err_cause fault_of kind why a b c none other is writes.counts;
  }

-- cuts

module _ (len : ℕ) (a b c : Disk) (seen : b.seen ≡ a.seen) (changed : ChangesDisk (Cut len) a b) (none : FailsNone a b) where
  pub cut_done : Ftruncates len (Ok tt) b c → Cuts len (Ok tt) a c
  cut_done cuts =
      let all = changes_then (Cut len) a b c (cut_then len) changed cuts.changes in
      record {
        cut = subst (λ (file : List ℕ). c.seen ≡ take len file) seen cuts.cut;
        crash = all.crash;
        time = all.time;
        sound = all.sound;
        cause = ok_cause fault_of tt tt a b c none cuts.counts;
      }

  pub cut_failed : (kind : ErrorKind) (why : JournalFault) → kind ≢ kinds.Interrupted → why ≡ fault_of kind
      → Ftruncates len (Err kind) b c → Cuts len (Err why) a c
  cut_failed kind why other is cuts =
      let all = changes_then (Cut len) a b c (cut_then len) changed cuts.changes in
      record {
        cut = tt;
        crash = all.crash;
        time = all.time;
        sound = all.sound;
        cause = err_cause fault_of kind why a b c none other is cuts.counts;
      }

-- syncs

-- syncs that were interrupted: each may have kept a part
pub record IsPartlySynced (before now : Disk) : Type 0 where
  pub seen : now.seen ≡ before.seen
  pub crash : (c : List ℕ) → now.may_leave c → before.may_leave c ⊎ (c ≡ before.seen)
  pub time : Elapses before now
  pub sound : now.sound ≡ before.sound

module _ (a b c : Disk) (now : CountsNow a) (stays : a.may_leave a.seen) (partly : IsPartlySynced a b) where
  leaves : (later : (x : List ℕ) → c.may_leave x → b.may_leave x ⊎ (x ≡ b.seen)) (x : List ℕ) → c.may_leave x
      → a.may_leave x ⊎ (x ≡ a.seen)
  leaves later x left = ⊎_elim (partly.crash x) (λ all. inr (all ∙ partly.seen)) (later x left)

  between : (t : ℕ) (x : List ℕ) → t ≤ a.moment → b.may_leave x → a.left_since t x ⊎ c.may_leave x
  between t x le mid = inl (now t x le (⊎_elim (λ left. left) (λ all. subst a.may_leave (sym all) stays) (partly.crash x mid)))

  pub partly_again : (kind : ErrorKind) → kind ≡ kinds.Interrupted → Fdatasyncs (Err kind) b c → IsPartlySynced a c
  partly_again kind is syncs = record {
    seen = syncs.seen ∙ partly.seen;
    crash = leaves syncs.crash;
    time = elapses_then a b c between partly.time syncs.time;
    sound = syncs.interrupted (interrupted_is kind is) ∙ partly.sound;
  }

  pub sync_done : FailsNone a b → Fdatasyncs (Ok tt) b c → Syncs (Ok tt) a c
  sync_done none syncs = record {
    durable = λ sound. subst (λ (file : List ℕ). Only file c.may_leave) partly.seen (syncs.durable (partly.sound ∙ sound));
    sound = syncs.sound ∙ partly.sound;
    unsound = tt;
    seen = syncs.seen ∙ partly.seen;
    crash = leaves syncs.crash;
    time = elapses_then a b c between partly.time syncs.time;
    cause = ok_cause sync_fault_of tt tt a b c none syncs.counts;
  }

  pub sync_failed : FailsNone a b → (kind : ErrorKind) (why : JournalFault) → kind ≢ kinds.Interrupted → why ≡ sync_fault_of kind
      → Fdatasyncs (Err kind) b c → Syncs (Err why) a c
  sync_failed none kind why other is syncs = record {
    durable = tt;
    sound = tt;
    unsound = syncs.unsound other;
    seen = syncs.seen ∙ partly.seen;
    crash = leaves syncs.crash;
    time = elapses_then a b c between partly.time syncs.time;
    cause = err_cause sync_fault_of kind why a b c none other is syncs.counts;
  }
