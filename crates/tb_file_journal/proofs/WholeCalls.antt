-- Whole reads and writes, of calls that take a part.
use Rattle.std.proofs.Common.{◌≡◌, ℕ, ◌+◌, ◌-◌, ◌^◌, ◌<◌, ◌≤◌, List, ◌++◌, length, take, drop, sym, ◌∙◌, ap, subst, arith, append_assoc, length-append, length-take, length-drop, Result, Ok, Err}
use Rattle.std.proofs.lemmas.List.{take-append-le, take_all, length-take-le, drop-drop}
use Rattle.std.proofs.Math.Seq.{take-add, take-append-add, take-append_seam, drop-append-add}
use Rattle.tb_file_journal.specs.declared.faults.JournalFault.{JournalFault}
use Rattle.tb_file_journal.specs.Device.{Disk, Torn, FailsNone, IsLookedAt, Looks, Writes, overwritten}
use Rattle.tb_file_journal.specs.System.{ChangesDisk}
use Rattle.tb_file_journal.specs.private.Posix.{ReadsSome, WritesSomeBytes}
use Rattle.tb_file_journal.proofs.SystemCalls.{CountsNow, none_then, cause_then, looked_then, changes_then, changes_as, torn_then, torn_wider}

-- reads

-- so many bytes from an offset on were read
pub record HasReadSome (at count : ℕ) (into : List ℕ) (before now : Disk) : Type 0 where
  pub looks : IsLookedAt before now
  pub none : FailsNone before now
  pub same : take count into ≡ take count (drop at before.seen)

-- those that were read are there
pub within_file : (at count : ℕ) (into file : List ℕ) → count ≤ length into → take count into ≡ take count (drop at file)
    → count ≤ length file - at
within_file at count into file fits same =
    omega (arith, fits, ap length same, length-take count into, length-take count (drop at file), length-drop at file)

-- the next offset has 64 bits
pub next_fits : (at count : ℕ) (into file : List ℕ) → at < 2 ^ 64 → length file < 2 ^ 63 → count ≤ length into
    → take count into ≡ take count (drop at file) → at + count < 2 ^ 64
next_fits at count into file small short fits same = omega (arith, small, short, within_file at count into file fits same)

pub room_for : (count k : ℕ) (into part post : List ℕ) → count ≤ length into → k ≤ length part
    → count + k ≤ length (take count into ++ (part ++ post))
room_for count k into part post fits within =
    omega (arith, within, length-append (take count into) (part ++ post), length-append part post, length-take-le count into fits)

-- bytes after those that were read or written already
pub more_same : (at count k : ℕ) (into part post file : List ℕ) → count ≤ length into → k ≤ length part
    → take count into ≡ take count (drop at file) → take k part ≡ take k (drop (at + count) file)
    → take (count + k) (take count into ++ (part ++ post)) ≡ take (count + k) (drop at file)
more_same at count k into part post file fits within same more =
    let long : length (take count into) ≡ count = length-take-le count into fits in
    ap (λ (n : ℕ). take (n + k) (take count into ++ (part ++ post))) (sym long)
    ∙ take-append-add (take count into) (part ++ post) k
    ∙ ap (λ (l : List ℕ). take count into ++ l) (take-append-le k part post within ∙ more ∙ ap (take k) (sym (drop-drop count at file)))
    ∙ ap (λ (l : List ℕ). l ++ take k (drop count (drop at file))) same
    ∙ sym (take-add count k (drop at file))

module _ (at count : ℕ) (into : List ℕ) (a b c : Disk) (now : CountsNow a) (fits : count ≤ length into) (so_far : HasReadSome at count into a b) where
  pub read_more : (k : ℕ) (part post : List ℕ) → k ≤ length part → ReadsSome (at + count) part (Ok k) b c
      → HasReadSome at (count + k) (take count into ++ (part ++ post)) a c
  read_more k part post within reads = record {
    looks = looked_then a b c now so_far.looks reads.looks.looks;
    none = none_then a b c so_far.none reads.looks.cause.ok;
    same = more_same at count k into part post a.seen fits within so_far.same
        (subst (λ (file : List ℕ). take k part ≡ take k (drop (at + count) file)) so_far.looks.seen reads.bytes);
  }

  pub read_fails : (why : JournalFault) (part : List ℕ) → ReadsSome (at + count) part (Err why) b c → Looks {T = ℕ} (Err why) a c
  read_fails why part reads = record {
    looks = looked_then a b c now so_far.looks reads.looks.looks;
    cause = cause_then (Err why) a b c so_far.none reads.looks.cause;
  }

-- writes

pub rest_is : (count : ℕ) (bytes : List ℕ) → take (length bytes - count) (drop count bytes) ≡ drop count bytes
rest_is count bytes = take_all (length bytes - count) (drop count bytes) (omega (arith, length-drop count bytes))

-- as `&bytes[count..]` is called: a write of the rest at the next offset
pub as_rest : (at count offset : ℕ) (bytes : List ℕ) (result : Result ℕ JournalFault) (b c : Disk) → offset ≡ at + count
    → WritesSomeBytes offset (take (length bytes - count) (drop count bytes)) result b c
    → WritesSomeBytes (at + count) (drop count bytes) result b c
as_rest at count offset bytes result b c here writes =
    subst (λ (o : ℕ). WritesSomeBytes o (drop count bytes) result b c) here
    (subst (λ (l : List ℕ). WritesSomeBytes offset l result b c) (rest_is count bytes) writes)

over_over : (at : ℕ) (p q file : List ℕ) → at ≤ length file
    → overwritten (overwritten file at p) (at + length p) q ≡ overwritten file at (p ++ q)
over_over at p q file within =
    let front = take at file in
    let rest = drop (at + length p) file in
    let begins : length front ≡ at = length-take-le at file within in
    let head : take (at + length p) (front ++ (p ++ rest)) ≡ front ++ p =
    ap (λ (n : ℕ). take (n + length p) (front ++ (p ++ rest))) (sym begins) ∙ take-append-add front (p ++ rest) (length p) ∙ ap (λ (l : List ℕ). front ++ l) (take-append_seam p rest) in
    let far : at + length p + length q ≡ length front + (length p + length q) = omega (arith, begins) in
    let tail : drop (at + length p + length q) (front ++ (p ++ rest)) ≡ drop (at + length (p ++ q)) file =
    ap (λ (n : ℕ). drop n (front ++ (p ++ rest))) far ∙ drop-append-add front (p ++ rest) (length p + length q) ∙ drop-append-add p rest (length q)
    ∙ drop-drop (length q) (at + length p) file ∙ ap (λ (n : ℕ). drop n file) (omega (arith, length-append p q)) in
    ap (λ (l : List ℕ). l ++ (q ++ drop (at + length p + length q) (front ++ (p ++ rest)))) head
    ∙ ap (λ (l : List ℕ). (front ++ p) ++ (q ++ l)) tail
    ∙ append_assoc front p (q ++ drop (at + length (p ++ q)) file)
    ∙ ap (λ (l : List ℕ). front ++ l) (sym (append_assoc p q (drop (at + length (p ++ q)) file)))

-- so many bytes were written
pub record HasWrittenSome (at count : ℕ) (bytes : List ℕ) (before now : Disk) : Type 0 where
  pub seen : now.seen ≡ overwritten before.seen at (take count bytes)
  pub changes : ChangesDisk (Torn at (length bytes)) before now
  pub none : FailsNone before now

module _ (at count : ℕ) (bytes : List ℕ) (a b : Disk) (within : at ≤ length a.seen) (some : count ≤ length bytes) (so_far : HasWrittenSome at count bytes a b) where
  long : length (take count bytes) ≡ count
  long = length-take-le count bytes some

  -- the next bytes do not reach past the end
  pub goes_on_within : at + count ≤ length b.seen
  goes_on_within =
      let front = take at a.seen in
      let rest = drop (at + length (take count bytes)) a.seen in
      omega (arith, ap length so_far.seen, length-append front (take count bytes ++ rest), length-append (take count bytes) rest, long, length-take-le at a.seen within)

  module _ (c : Disk) where
    wider : (x y : List ℕ) → Torn (at + count) (length (drop count bytes)) x y → Torn at (length bytes) x y
    wider = torn_wider at count (length (drop count bytes)) (length bytes) (omega (arith, some, length-drop count bytes))

    all : ChangesDisk (Torn (at + count) (length (drop count bytes))) b c → ChangesDisk (Torn at (length bytes)) a c
    all changed = changes_then (Torn at (length bytes)) a b c (torn_then at (length bytes)) so_far.changes
        (changes_as (Torn (at + count) (length (drop count bytes))) (Torn at (length bytes)) b c wider changed)

    pub write_more : (k : ℕ) → WritesSomeBytes (at + count) (drop count bytes) (Ok k) b c → HasWrittenSome at (count + k) bytes a c
    write_more k writes =
        let part = take k (drop count bytes) in
        record {
          seen = writes.written ∙ ap (λ (file : List ℕ). overwritten file (at + count) part) so_far.seen
              ∙ ap (λ (n : ℕ). overwritten (overwritten a.seen at (take count bytes)) (at + n) part) (sym long)
              ∙ over_over at (take count bytes) part a.seen within
              ∙ ap (overwritten a.seen at) (sym (take-add count k bytes));
          changes = all writes.changes;
          none = none_then a b c so_far.none writes.cause.ok;
        }

    pub write_fails : (why : JournalFault) → WritesSomeBytes (at + count) (drop count bytes) (Err why) b c → Writes at bytes (Err why) a c
    write_fails why writes =
        let changed = all writes.changes in
        record {
          written = tt;
          crash = changed.crash;
          time = changed.time;
          sound = changed.sound;
          cause = record { ok = tt; cause = (cause_then (Err why) a b c so_far.none writes.cause).cause };
        }

  pub write_all : length bytes ≤ count → Writes at bytes (Ok tt) a b
  write_all whole = record {
    written = so_far.seen ∙ ap (overwritten a.seen at) (take_all count bytes whole);
    crash = so_far.changes.crash;
    time = so_far.changes.time;
    sound = so_far.changes.sound;
    cause = record { ok = so_far.none; cause = tt };
  }
