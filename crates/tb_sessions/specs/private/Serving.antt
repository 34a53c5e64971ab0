-- What the row of a request's client is lent to, and what is then among the rows.
use Rattle.std.specs.Prelude.{ℕ, ◌≡◌, ◌≢◌, Some, None, Result, OnOk, OnErr, IfOk, IfErr}
use Rattle.std.specs.Ordering.{nat_cmp}
use Rattle.std.specs.Map.{set_value}
use Rattle.std.specs.BTreeMap.{is_at}
use Rattle.avl_tree.specs.Map.{Map, entries}
use Rattle.tb_records.specs.Messages.{Message}
use Rattle.tb_sessions.specs.declared.rows.Row.{Row}
use Rattle.tb_sessions.specs.declared.classes.Class.{Class}
use Rattle.tb_sessions.specs.declared.classes.Class.TheVariants.{New}
use Rattle.tb_sessions.specs.Judged.{class_beside}
use Rattle.tb_sessions.specs.Renewal.{Serving, TakesBoth, CalledBeside}
use Rattle.tb_sessions.specs.private.Indexed.{kept_row}

module _ {F A : Type 0} (c : Serving F A) where
  -- f may be called on the request and the row of its client, if the request is New compared with it
  abbrev pub TakesKept : F → Map ℕ Row → Message → Type 0
  TakesKept f rows r = (row : Row) → kept_row rows r.client ≡ Some row → class_beside row r ≡ New → TakesBoth c f r row

  -- a call on the request and the row returned Ok, or the class was returned, and nothing was called or changed
  pub record ServedBeside (answer : Result A Class) (row left : Row) (f : F) (r : Message) (f' : F) (r' : Message) : Type 0 where
    pub new : OnOk answer (class_beside row r ≡ New)
    pub served : IfOk answer (λ a. CalledBeside c f r row a f' r' left)
    pub told : IfErr answer (λ class. (class ≡ class_beside row r) × (class ≢ New))
    pub same_row : OnErr answer (left ≡ row)
    pub unchanged : OnErr answer ((r' ≡ r) × (f' ≡ f))

  -- the same, with the row of the client, in whose place is what was left
  pub record ServedKept (rows : Map ℕ Row) (f : F) (r : Message) (answer : Result A Class) (rows' : Map ℕ Row) (f' : F) (r' : Message) : Type 0 where
    pub row : Row
    pub left : Row
    pub found : kept_row rows r.client ≡ Some row
    pub written : entries rows' ≡ set_value (is_at (nat_cmp r.client)) (entries rows) left
    pub beside : ServedBeside answer row left f r f' r'

  -- the client has no row, and nothing was called or changed
  pub record Unserved (rows : Map ℕ Row) (f : F) (r : Message) (rows' : Map ℕ Row) (f' : F) (r' : Message) : Type 0 where
    pub absent : kept_row rows r.client ≡ None
    pub rows_same : rows' ≡ rows
    pub request_same : r' ≡ r
    pub call_same : f' ≡ f
