-- What holds of the rows and the entries after a history, by the states in which its entries are executed.
use Rattle.std.proofs.Common.{◌≡◌, ◌≢◌, ℕ, ◌+◌, ◌<◌, ◌≤◌, ⊎_elim, true, false, cond, List, [], ◌∷◌, ◌++◌, length, Some, None, refl, sym, ap, ◌∙◌, subst, IsTrue, arith, append_assoc, append-nil, length-append}
use Rattle.tb_records.specs.Messages.{is_register}
use Rattle.tb_records.specs.Ordered.{Each, Rising}
use Rattle.tb_sessions.specs.declared.rows.Row.{Row}
use Rattle.tb_sessions.specs.Judged.{client_of, row_of}
use Rattle.tb_machine.specs.declared.entries.Entry.{Entry}
use Rattle.tb_machine.specs.Histories.{State, is_lawful, session_of, row_at, step, key_of}
use Rattle.tb_machine.specs.HistoryLaws.{KeysDiffer}
use Rattle.tb_records.proofs.ByKey.{each-map}
use Rattle.tb_sessions.proofs.LaterRows.{each_admitted}
use Rattle.tb_machine.proofs.Rows.{each_snoc, each_admitted_apart, rising_admitted, row_found}
use Rattle.tb_machine.proofs.Judging.{Follows, new_by, MayCome}

-- an entry of a row's client is of its session or an older one, and in its session it has its number or a smaller one
pub record IsWithin (row : Row) (e : Entry) : Type 0 where
  pub session : session_of e ≤ row.session
  pub number : session_of e ≡ row.session → e.request.request ≤ row.request.request

abbrev pub Before : Row → Entry → Type 0
Before row e = e.request.client ≡ row.client → IsWithin row e

-- an entry that comes after another of its client has a newer session, or in the same a greater number
pub record IsPast (later e : Entry) : Type 0 where
  pub session : session_of e ≤ session_of later
  pub number : session_of e ≡ session_of later → e.request.request < later.request.request

abbrev pub Earlier : Entry → Entry → Type 0
Earlier later e = e.request.client ≡ later.request.client → IsPast later e

-- the session of an entry

pub session_register : (e : Entry) → is_register e.request.body ≡ true → session_of e ≡ e.commit
session_register e is = ap (λ b. cond b e.commit e.request.session) is

pub session_numbered : (e : Entry) → is_register e.request.body ≡ false → session_of e ≡ e.request.session
session_numbered e is = ap (λ b. cond b e.commit e.request.session) is

keys_snoc : (p : List Entry) (e : Entry) → KeysDiffer p → Each (λ (other : Entry). key_of e ≢ key_of other) p → KeysDiffer (p ++ e ∷ [])
keys_snoc [] e differ each = (tt, tt)
keys_snoc (x ∷ xs) e differ each = (each_snoc (λ (later : Entry). key_of later ≢ key_of x) xs e differ.0 each.0, keys_snoc xs e differ.1 each.1)

-- the states in which the entries after a prefix are executed
module _ (state : List Entry → State) where
  -- the row was made by an entry of the history, which it names
  pub record StandsBy (p : List Entry) (row : Row) : Type 0 where
    pub front : List Entry
    pub entry : Entry
    pub rest : List Entry
    pub whole : p ≡ front ++ entry ∷ rest
    pub is : row ≡ row_at (state front) entry
    pub lawful : IsTrue (is_lawful entry.request)
    pub numbered : entry.commit ≡ length front + 1

  pub record ReachedBy (p : List Entry) : Type 0 where
    pub count : (state p).commit ≡ length p
    pub issued : Each (λ (e : Entry). session_of e ≤ (state p).commit) p
    pub sessions : Each (λ (row : Row). row.session ≤ (state p).commit) (state p).rows
    pub before : Each (λ (row : Row). Each (Before row) p) (state p).rows
    pub stands : Each (StandsBy p) (state p).rows
    pub rising : Rising client_of (state p).rows
    pub differ : KeysDiffer p

  -- the entry may come next, and the state after it has its rows and its commit number
  pub record Behind (p : List Entry) (e : Entry) : Type 0 where
    pub may : MayCome (state p) e
    pub rows : (state (p ++ e ∷ [])).rows ≡ (step (state p) e).rows
    pub commit : (state (p ++ e ∷ [])).commit ≡ e.commit

  -- each of the entries after p
  abbrev pub LeadsTo : List Entry → List Entry → Type 0
  LeadsTo p [] = Unit {0}
  LeadsTo p (e ∷ es) = Behind p e × LeadsTo (p ++ e ∷ []) es

  pub leads_split : (p a b : List Entry) → LeadsTo p (a ++ b) → LeadsTo p a × LeadsTo (p ++ a) b
  leads_split p [] b leads = (tt, subst (λ l. LeadsTo l b) (sym (append-nil p)) leads)
  leads_split p (e ∷ es) b leads =
      let rest = leads_split (p ++ e ∷ []) es b leads.1 in
      ((leads.0, rest.0), subst (λ l. LeadsTo l b) (append_assoc p (e ∷ []) es) rest.1)

  pub started : (state []).rows ≡ [] → (state []).commit ≡ 0 → ReachedBy []
  started rows commit = record {
    count = commit;
    issued = tt;
    sessions = subst (Each (λ (row : Row). row.session ≤ (state []).commit)) (sym rows) tt;
    before = subst (Each (λ (row : Row). Each (Before row) [])) (sym rows) tt;
    stands = subst (Each (StandsBy [])) (sym rows) tt;
    rising = subst (Rising client_of) (sym rows) tt;
    differ = tt;
  }

  module _ (p : List Entry) (e : Entry) (reached : ReachedBy p) (behind : Behind p e) where
    abbrev S : State
    S = state p

    may : MayCome S e
    may = behind.may

    -- the entry is later than each one of its client
    all_earlier : Each (Earlier e) p
    all_earlier = ⊎_elim registers follows (new_by (row_of S.rows e.request.client) e.request may.new)
      where
        registers : (row_of S.rows e.request.client ≡ None) × (is_register e.request.body ≡ true) → Each (Earlier e) p
        registers both =
            let mine = session_register e both.1 in
            let commit = may.commit in
            each-map (λ (x : Entry). session_of x ≤ S.commit) (Earlier e) p (λ x issued same. record { session = omega (arith, mine, commit, issued); number = λ equal. absurd (omega (arith, mine, commit, issued, equal)) }) reached.issued

        follows : (row : Row) × (row_of S.rows e.request.client ≡ Some row) × Follows row e.request → Each (Earlier e) p
        follows found =
            let its = row_found (λ (row : Row). Each (Before row) p) S.rows e.request.client found.0 reached.before found.1 in
            let mine = session_numbered e found.2.numbered ∙ found.2.session in
            let number = found.2.number in
            each-map (Before found.0) (Earlier e) p (λ x before same.
            let within = before (same ∙ sym its.1) in
            record { session = omega (arith, mine, within.session); number = λ equal. omega (arith, number, within.number (equal ∙ mine)) }) its.0

    session_low : session_of e ≤ e.commit
    session_low = ⊎_elim registers follows (new_by (row_of S.rows e.request.client) e.request may.new)
      where
        registers : (row_of S.rows e.request.client ≡ None) × (is_register e.request.body ≡ true) → session_of e ≤ e.commit
        registers both = omega (arith, session_register e both.1)

        follows : (row : Row) × (row_of S.rows e.request.client ≡ Some row) × Follows row e.request → session_of e ≤ e.commit
        follows found =
            let its = row_found (λ (row : Row). row.session ≤ S.commit) S.rows e.request.client found.0 reached.sessions found.1 in
            omega (arith, session_numbered e found.2.numbered, found.2.session, its.0, may.commit)

    here : StandsBy (p ++ e ∷ []) (row_at S e)
    here = record {
      front = p;
      entry = e;
      rest = [];
      whole = refl;
      is = refl;
      lawful = may.lawful;
      numbered = omega (arith, may.commit, reached.count);
    }

    still : (row : Row) → StandsBy p row → StandsBy (p ++ e ∷ []) row
    still row stands = record {
      front = stands.front;
      entry = stands.entry;
      rest = stands.rest ++ e ∷ [];
      whole = ap (λ l. l ++ e ∷ []) stands.whole ∙ append_assoc stands.front (stands.entry ∷ stands.rest) (e ∷ []);
      is = stands.is;
      lawful = stands.lawful;
      numbered = stands.numbered;
    }

    -- a row of another client, or the entry's own
    before_row : Each (Before (row_at S e)) (p ++ e ∷ [])
    before_row = each_snoc (Before (row_at S e)) p e
        (each-map (Earlier e) (Before (row_at S e)) p (λ x earlier same. let past = earlier same in record { session = past.session; number = λ equal. omega (arith, past.number equal) }) all_earlier)
        (λ same. record { session = omega arith; number = λ equal. omega arith })

    before_other : (other : Row) → Each (Before other) p → client_of other ≢ client_of (row_at S e) → Each (Before other) (p ++ e ∷ [])
    before_other other before apart = each_snoc (Before other) p e before (λ same. absurd (apart (sym same)))

    -- as the rows are
    of_rows : (P : List Row → Type 0) → P (step S e).rows → P (state (p ++ e ∷ [])).rows
    of_rows P kept = subst P (sym behind.rows) kept

    pub reached_on : ReachedBy (p ++ e ∷ [])
    reached_on = record {
      count = omega (arith, behind.commit, may.commit, reached.count, length-append p (e ∷ []));
      issued = each_snoc (λ (x : Entry). session_of x ≤ (state (p ++ e ∷ [])).commit) p e
          (each-map (λ (x : Entry). session_of x ≤ S.commit) (λ (x : Entry). session_of x ≤ (state (p ++ e ∷ [])).commit) p (λ x low. omega (arith, behind.commit, may.commit, low)) reached.issued)
          (omega (arith, behind.commit, session_low));
      sessions = of_rows (Each (λ (row : Row). row.session ≤ (state (p ++ e ∷ [])).commit))
          (each_admitted (λ (row : Row). row.session ≤ (state (p ++ e ∷ [])).commit) S.clients_max S.rows (row_at S e) (omega (arith, behind.commit, session_low))
          (each-map (λ (row : Row). row.session ≤ S.commit) (λ (row : Row). row.session ≤ (state (p ++ e ∷ [])).commit) S.rows (λ row low. omega (arith, behind.commit, may.commit, low)) reached.sessions));
      before = of_rows (Each (λ (row : Row). Each (Before row) (p ++ e ∷ [])))
          (each_admitted_apart S.clients_max S.rows (row_at S e) (λ (row : Row). Each (Before row) (p ++ e ∷ [])) reached.rising before_row
          (each-map (λ (row : Row). Each (Before row) p) (λ (row : Row). client_of row ≢ client_of (row_at S e) → Each (Before row) (p ++ e ∷ [])) S.rows before_other reached.before));
      stands = of_rows (Each (StandsBy (p ++ e ∷ [])))
          (each_admitted (StandsBy (p ++ e ∷ [])) S.clients_max S.rows (row_at S e) here
          (each-map (StandsBy p) (StandsBy (p ++ e ∷ [])) S.rows still reached.stands));
      rising = of_rows (Rising client_of) (rising_admitted S.clients_max S.rows (row_at S e) reached.rising);
      differ = keys_snoc p e reached.differ
          (each-map (Earlier e) (λ (other : Entry). key_of e ≢ key_of other) p (λ x earlier same.
          let past = earlier (ap (λ (k : ℕ × ℕ × ℕ). k.0) (sym same)) in
          omega (arith, past.number (ap (λ (k : ℕ × ℕ × ℕ). k.1) (sym same)), ap (λ (k : ℕ × ℕ × ℕ). k.2) same)) all_earlier);
    }

  -- what each entry keeps, the entries keep
  pub reached_after : (p h : List Entry) → ReachedBy p → LeadsTo p h → ReachedBy (p ++ h)
  reached_after p [] reached leads = subst ReachedBy (sym (append-nil p)) reached
  reached_after p (e ∷ es) reached leads = subst ReachedBy (append_assoc p (e ∷ []) es) (reached_after (p ++ e ∷ []) es (reached_on p e reached leads.0) leads.1)
