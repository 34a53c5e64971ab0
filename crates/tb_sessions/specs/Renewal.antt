-- How the table serves a request that is New compared with its client's row: by a call on the request and the row, which may put a later row there.
use Rattle.std.specs.Prelude.{◌≡◌, ◌<◌, ◌⊎◌, List, Some}
use Rattle.std.specs.Fn.{Mut, Called}
use Rattle.tb_records.specs.Messages.{Message}
use Rattle.tb_records.specs.Ordered.{Each, replaced}
use Rattle.tb_sessions.specs.declared.rows.Row.{Row}
use Rattle.tb_sessions.specs.declared.classes.Class.TheVariants.{New}
use Rattle.tb_sessions.specs.Judged.{client_of, row_of, class_beside}
use denote.Ref.{MutBor}

-- a closure that takes a request and a row, and returns an A
abbrev pub Serving : Type 0 → Type 0 → Type 1
Serving F A = Mut F (MutBor Message × (MutBor Row × Unit {0})) (A × (MutBor Message × (MutBor Row × Unit {0})))

-- the client's row, compared with which the request is New
pub record IsNewBeside (rows : List Row) (r : Message) (row : Row) : Type 0 where
  pub here : row_of rows r.client ≡ Some row
  pub new : class_beside row r ≡ New

-- the row as it was, or a row of the same client with a later commit than any row
pub record IsLater (rows : List Row) (row left : Row) : Type 0 where
  pub own : client_of left ≡ client_of row
  pub later : Each (λ (other : Row). other.commit < left.commit) rows

abbrev pub IsRenewal : List Row → Row → Row → Type 0
IsRenewal rows row left = (left ≡ row) ⊎ IsLater rows row left

module _ {F A : Type 0} (c : Serving F A) where
  -- f may be called on the request and the row
  abbrev pub TakesBoth : F → Message → Row → Type 0
  TakesBoth f r row = (x : MutBor Message) (y : MutBor Row) → x.now ≡ r → y.now ≡ row → c.pre f (x, (y, tt))

  -- such a call returned an answer, and left f', the request r' and the row left
  pub record CalledBeside (f : F) (r : Message) (row : Row) (answer : A) (f' : F) (r' : Message) (left : Row) : Type 0 where
    pub request : MutBor Message
    pub shown : MutBor Row
    pub shows : (request.now ≡ r) × (shown.now ≡ row)
    pub ends : MutBor Message × (MutBor Row × Unit {0})
    pub called : Called c f (request, (shown, tt)) (answer, ends) f'
    pub leaves : (ends.0.now ≡ r') × (ends.1.0.now ≡ left)

  -- f may be called if the request is New compared with its client's row
  abbrev pub MayServe : F → List Row → Message → Type 0
  MayServe f rows r = (row : Row) → IsNewBeside rows r row → TakesBoth f r row

  -- and leaves that row, or a later one of the client
  abbrev pub Renews : F → List Row → Message → Type 0
  Renews f rows r = (row : Row) (answer : A) (f' : F) (r' : Message) (left : Row) → IsNewBeside rows r row → CalledBeside f r row answer f' r' left → IsRenewal rows row left

  -- it was called there, and what it left is among the rows
  pub record ServedBy (f : F) (rows : List Row) (r : Message) (answer : A) (f' : F) (r' : Message) (rows' : List Row) : Type 0 where
    pub row : Row
    pub left : Row
    pub new : IsNewBeside rows r row
    pub served : CalledBeside f r row answer f' r' left
    pub put : rows' ≡ replaced client_of left rows
