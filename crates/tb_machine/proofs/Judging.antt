-- What a class says of a client's row and a request, and what it says of an entry that it may come next.
use Rattle.std.proofs.Common.{◌≡◌, ◌+◌, ◌<◌, ◌≤◌, ◌⊎◌, inl, inr, Bool, true, false, ◌&&◌, cond, Option, Some, None, refl, ap, IsTrue, arith, eqb, ltb, leb, eqb-true, ltb-false, lt-ltb, leb-true, eq-eqb, le-leb, ⊎_elim}
use Rattle.tb_records.specs.Messages.{Message, is_register}
use Rattle.tb_records.specs.Same.{same_body}
use Rattle.tb_records.specs.declared.limits.TheConstants.{LAST_MOMENT}
use Rattle.tb_sessions.specs.declared.rows.Row.{Row}
use Rattle.tb_sessions.specs.declared.classes.Class.{Class}
use Rattle.tb_sessions.specs.declared.classes.Class.TheVariants.{New, Repeat, NoSession, SessionTooLow, NewerSession, Older, Collision, NewerRequest}
use Rattle.tb_sessions.specs.Judged.{class_of}
use Rattle.tb_sessions.proofs.ByRow.{class_by}
use Rattle.tb_machine.specs.declared.entries.Entry.{Entry}
use Rattle.tb_machine.specs.Histories.{State, least_time, is_new, is_lawful, fits}

pub both_of : (x y : Bool) → (x && y) ≡ true → (x ≡ true) × (y ≡ true)
both_of true y e = (refl, e)
both_of false y e = absurd cc

pub new_of : (class : Class) → is_new class ≡ true → class ≡ New
new_of New e = refl
new_of class e = absurd cc

abbrev by_lines : (low newer older same other next : Bool) → Class
by_lines low newer older same other next = cond low SessionTooLow (cond newer NewerSession (cond older Older (cond same Repeat (cond other Collision (cond next New NewerRequest)))))

new_line : (low newer older same other next : Bool) → by_lines low newer older same other next ≡ New → (low ≡ false) × (newer ≡ false) × (next ≡ true)
new_line false false false false false true e = (refl, refl, refl)
new_line low newer older same other next e = absurd cc

repeat_line : (low newer older same other next : Bool) → by_lines low newer older same other next ≡ Repeat → (low ≡ false) × (newer ≡ false) × (same ≡ true)
repeat_line false false false true other next e = (refl, refl, refl)
repeat_line false false false false false true e = absurd cc
repeat_line low newer older same other next e = absurd cc

-- the class of a request whose client has a row: it is a register or not, and the row's last request is a register or not
abbrev by_row : (register first low newer older same other next : Bool) → Class
by_row register first low newer older same other next = cond register (cond first Repeat Older) (by_lines low newer older same other next)

new_row : (register first low newer older same other next : Bool) → by_row register first low newer older same other next ≡ New → (register ≡ false) × (low ≡ false) × (newer ≡ false) × (next ≡ true)
new_row true true low newer older same other next e = absurd cc
new_row true false low newer older same other next e = absurd cc
new_row false first low newer older same other next e = let line = new_line low newer older same other next e in (refl, line.0, line.1, line.2)

repeat_row : (register first low newer older same other next : Bool) → by_row register first low newer older same other next ≡ Repeat
    → ((register ≡ true) × (first ≡ true)) ⊎ ((register ≡ false) × (low ≡ false) × (newer ≡ false) × (same ≡ true))
repeat_row true true low newer older same other next e = inl (refl, refl)
repeat_row true false low newer older same other next e = absurd cc
repeat_row false first low newer older same other next e = let line = repeat_line low newer older same other next e in inr (refl, line.0, line.1, line.2)

low_row : (register first low newer older same other next : Bool) → register ≡ false → low ≡ true → by_row register first low newer older same other next ≡ SessionTooLow
low_row true first low newer older same other next is less = absurd cc
low_row false first true newer older same other next is less = refl
low_row false first false newer older same other next is less = absurd cc

module _ (row : Row) (r : Message) where
  abbrev first : Bool
  first = eqb row.request.request 0

  abbrev low : Bool
  low = ltb r.session row.session

  abbrev newer : Bool
  newer = ltb row.session r.session

  abbrev older : Bool
  older = ltb r.request row.request.request

  abbrev same : Bool
  same = eqb r.request row.request.request && same_body r.body row.request.body

  abbrev other : Bool
  other = eqb r.request row.request.request

  abbrev next : Bool
  next = eqb r.request (row.request.request + 1)

-- the request that follows the last of its client's session
pub record Follows (row : Row) (r : Message) : Type 0 where
  pub numbered : is_register r.body ≡ false
  pub session : r.session ≡ row.session
  pub number : r.request ≡ row.request.request + 1

-- the last request of its client's session
pub record Repeats (row : Row) (r : Message) : Type 0 where
  pub numbered : is_register r.body ≡ false
  pub session : r.session ≡ row.session
  pub number : r.request ≡ row.request.request
  pub body : same_body r.body row.request.body ≡ true

-- new is a register of a client without a row, and the request that follows the client's last
pub new_by : (o : Option Row) (r : Message) → class_by o r ≡ New → ((o ≡ None) × (is_register r.body ≡ true)) ⊎ ((row : Row) × (o ≡ Some row) × Follows row r)
new_by None r e = inl (refl, registers (is_register r.body) e)
  where
    registers : (b : Bool) → cond b New NoSession ≡ New → b ≡ true
    registers true e = refl
    registers false e = absurd cc
new_by (Some row) r e =
    let line = new_row (is_register r.body) (first row r) (low row r) (newer row r) (older row r) (same row r) (other row r) (next row r) e in
    inr (
      row,
      refl,
      record {
        numbered = line.0;
        session = omega (arith, ltb-false r.session row.session line.1, ltb-false row.session r.session line.2);
        number = eqb-true r.request (row.request.request + 1) line.3;
      },
    )

-- a repeat is a register of a client whose last request is one, and the client's last request
pub repeat_by : (o : Option Row) (r : Message) → class_by o r ≡ Repeat → (row : Row) × (o ≡ Some row) × (((is_register r.body ≡ true) × (row.request.request ≡ 0)) ⊎ Repeats row r)
repeat_by None r e = absurd (never (is_register r.body) e)
  where
    never : (b : Bool) → cond b New NoSession ≡ Repeat → ⊥
    never true e = cc
    never false e = cc
repeat_by (Some row) r e = (
  row,
  refl,
  ⊎_elim (λ both. inl (both.0, eqb-true row.request.request 0 both.1)) (λ line. inr (repeats line))
      (repeat_row (is_register r.body) (first row r) (low row r) (newer row r) (older row r) (same row r) (other row r) (next row r) e),
)
  where
    repeats : (is_register r.body ≡ false) × (low row r ≡ false) × (newer row r ≡ false) × (same row r ≡ true) → Repeats row r
    repeats line =
        let both = both_of (eqb r.request row.request.request) (same_body r.body row.request.body) line.3 in
        record {
          numbered = line.0;
          session = omega (arith, ltb-false r.session row.session line.1, ltb-false row.session r.session line.2);
          number = eqb-true r.request row.request.request both.0;
          body = both.1;
        }

-- a client without a row, or with a later session, has a request refused that is no register
pub out_by : (o : Option Row) (r : Message) → is_register r.body ≡ false → ((row : Row) → o ≡ Some row → r.session < row.session) → (class_by o r ≡ NoSession) ⊎ (class_by o r ≡ SessionTooLow)
out_by None r numbered later = inl (ap (λ b. cond b New NoSession) numbered)
out_by (Some row) r numbered later = inr (low_row (is_register r.body) (first row r) (low row r) (newer row r) (older row r) (same row r) (other row r) (next row r) numbered (lt-ltb r.session row.session (later row refl)))

-- an entry that may come next
pub record MayCome (S : State) (e : Entry) : Type 0 where
  pub commit : e.commit ≡ S.commit + 1
  pub late_enough : least_time S e.request ≤ e.time
  pub in_range : e.time ≤ LAST_MOMENT
  pub lawful : IsTrue (is_lawful e.request)
  pub new : class_of S.rows e.request ≡ New

pub may_come : (S : State) (e : Entry) → IsTrue (fits S e) → MayCome S e
may_come S e legal =
    let a = both_of _ (is_new (class_of S.rows e.request)) legal in
    let b = both_of _ (is_lawful e.request) a.0 in
    let d = both_of _ (leb e.time LAST_MOMENT) b.0 in
    let f = both_of (eqb e.commit (S.commit + 1)) (leb (least_time S e.request) e.time) d.0 in
    record {
      commit = eqb-true e.commit (S.commit + 1) f.0;
      late_enough = leb-true (least_time S e.request) e.time f.1;
      in_range = leb-true e.time LAST_MOMENT d.1;
      lawful = b.1;
      new = new_of (class_of S.rows e.request) a.1;
    }

-- a new request may come next if there is a time for it
pub comes : (S : State) (e : Entry) → MayCome S e → IsTrue (fits S e)
comes S e may = rw (eq-eqb e.commit (S.commit + 1) may.commit, le-leb (least_time S e.request) e.time may.late_enough, le-leb e.time LAST_MOMENT may.in_range, may.lawful, may.new) refl
