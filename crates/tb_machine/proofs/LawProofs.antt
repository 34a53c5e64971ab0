-- The laws of legal histories, with or without a mark, proved.
use Rattle.std.proofs.Common.{◌≡◌, ◌≢◌, ℕ, ◌+◌, ◌<◌, ◌≤◌, ◌⊎◌, inl, inr, ⊎_elim, Bool, true, false, List, [], ◌∷◌, ◌++◌, Option, Some, None, length-append, append_assoc, append-nil, refl, sym, ap, ◌∙◌, subst, IsTrue, arith}
use Rattle.tb_records.specs.declared.bodies.Body.{Body}
use Rattle.tb_records.specs.declared.bodies.Body.TheVariants.{Register}
use Rattle.tb_records.specs.declared.limits.Profile.{Profile}
use Rattle.tb_records.specs.Messages.{Message, is_register}
use Rattle.tb_records.specs.Ordered.{Each}
use Rattle.tb_records.proofs.OneBody.{one_body}
use Rattle.tb_sessions.specs.declared.rows.Row.{Row}
use Rattle.tb_sessions.specs.Judged.{client_of, row_of}
use Rattle.tb_machine.specs.declared.entries.Entry.{Entry}
use Rattle.tb_machine.specs.Histories.{State, is_lawful, session_of, row_at, key_of}
use Rattle.tb_machine.specs.Dumps.{after_with}
use Rattle.tb_machine.specs.HistoryLaws.{KeysDiffer, OneKey, FirstReply, HasSession, StaysOut}
use Rattle.tb_machine.specs.MarkedLaws.{next_in, IsStoredWith, OneKeyWith, FirstReplyWith, StaysOutWith}
use Rattle.tb_records.proofs.ByKey.{each-map, each-both}
use Rattle.tb_sessions.proofs.LaterRows.{each_admitted}
use Rattle.tb_machine.proofs.Rows.{some_one, row_found, each_found}
use Rattle.tb_machine.proofs.Lawful.{LawfulNumbers, lawful_numbers}
use Rattle.tb_machine.proofs.SoundSteps.{lawful_of}
use Rattle.tb_machine.proofs.Judging.{Follows, new_by, Repeats, repeat_by, out_by}
use Rattle.tb_machine.proofs.ReachedBy.{StandsBy, ReachedBy, Behind, LeadsTo, leads_split, reached_after, session_register, session_numbered}
use Rattle.tb_machine.proofs.MarkLeads.{whole_alike, legal_leads, begun, reached_with}

pub one_key_with : OneKeyWith
one_key_with profile clients_max mark h legal = (reached_with profile clients_max mark h legal).differ

pub one_key : OneKey
one_key profile clients_max h legal = one_key_with profile clients_max None h legal

-- a repeat is the request that its client's row keeps

register_is : (b : Body) → is_register b ≡ true → b ≡ Register
register_is Register is = refl
register_is body is = absurd cc

-- the numbers of a lawful register, and that a lawful request with number 0 is one
pub record IsRegister (r : Message) : Type 0 where
  pub body : r.body ≡ Register
  pub session : r.session ≡ 0
  pub number : r.request ≡ 0

module _ (r : Message) (lawful : IsTrue (is_lawful r)) where
  numbers : LawfulNumbers r
  numbers = lawful_numbers r (lawful_of r lawful)

  register_of : is_register r.body ≡ true → IsRegister r
  register_of is = record { body = register_is r.body is; session = numbers.session is; number = numbers.register is }

  register_by_number : r.request ≡ 0 → IsRegister r
  register_by_number number = by (is_register r.body) refl
    where
      by : (b : Bool) → is_register r.body ≡ b → IsRegister r
      by true is = register_of is
      by false is = absurd (numbers.numbered is number)

message_is : (r s : Message) → r.client ≡ s.client → r.session ≡ s.session → r.request ≡ s.request → r.body ≡ s.body → r ≡ s
message_is r s client session number body = λ i. record { client = client i; session = session i; request = number i; body = body i }

registers_are : (r s : Message) → r.client ≡ s.client → IsRegister r → IsRegister s → r ≡ s
registers_are r s client a b = message_is r s client (a.session ∙ sym b.session) (a.number ∙ sym b.number) (a.body ∙ sym b.body)

pub each_mid : {X : Type 0} (P : X → Type 0) (xs : List X) (x : X) (ys : List X) → Each P (xs ++ x ∷ ys) → P x
each_mid P [] x ys each = each.0
each_mid P (z ∷ zs) x ys each = each_mid P zs x ys each.1

others_differ : (front : List Entry) (e : Entry) (rest : List Entry) → KeysDiffer (front ++ e ∷ rest) → Each (λ (other : Entry). key_of other ≢ key_of e) (front ++ rest)
others_differ [] e rest differ = differ.0
others_differ (x ∷ xs) e rest differ = (λ same. each_mid (λ (later : Entry). key_of later ≢ key_of x) xs e rest differ.0 (sym same), others_differ xs e rest differ.1)

-- the entry that made the row of a repeat
module _ (profile : Profile) (clients_max : ℕ) (mark : Option ℕ) (h : List Entry) (r : Message) (lawful : IsTrue (is_lawful r)) (row : Row)
    (stands : StandsBy (next_in profile clients_max mark) h row) (client : client_of row ≡ r.client) where
  request_is : ((is_register r.body ≡ true) × (row.request.request ≡ 0)) ⊎ Repeats row r → stands.entry.request ≡ r
  request_is (inl both) = registers_are stands.entry.request r (sym (ap (λ (w : Row). w.client) stands.is) ∙ client)
      (register_by_number stands.entry.request stands.lawful (sym (ap (λ (w : Row). w.request.request) stands.is) ∙ both.1))
      (register_of r lawful both.0)
  request_is (inr repeats) =
      let body : r.body ≡ stands.entry.request.body = one_body r.body row.request.body repeats.body ∙ ap (λ (w : Row). w.request.body) stands.is in
      let numbered : is_register stands.entry.request.body ≡ false = sym (ap is_register body) ∙ repeats.numbered in
      message_is stands.entry.request r
      (sym (ap (λ (w : Row). w.client) stands.is) ∙ client)
      (sym (session_numbered stands.entry numbered) ∙ sym (ap (λ (w : Row). w.session) stands.is) ∙ sym repeats.session)
      (sym (ap (λ (w : Row). w.request.request) stands.is) ∙ sym repeats.number)
      (sym body)

  is_stored : row_of (after_with profile clients_max mark h).rows r.client ≡ Some row → ((is_register r.body ≡ true) × (row.request.request ≡ 0)) ⊎ Repeats row r → KeysDiffer h → IsStoredWith profile clients_max mark h r
  is_stored found by differ = record {
    row = row;
    front = stands.front;
    entry = stands.entry;
    rest = stands.rest;
    stored = found;
    whole = stands.whole;
    numbered = ap (λ (w : Row). w.commit) stands.is ∙ stands.numbered;
    request = request_is by;
    reply = ap (λ (w : Row). w.reply) stands.is;
    alone = others_differ stands.front stands.entry stands.rest (subst KeysDiffer stands.whole differ);
  }

pub first_reply_with : FirstReplyWith
first_reply_with profile clients_max mark h r legal lawful class =
    let all = reached_with profile clients_max mark h legal in
    let same = whole_alike profile clients_max mark h in
    let by = repeat_by (row_of (after_with profile clients_max mark h).rows r.client) r class in
    let found = row_found (StandsBy (next_in profile clients_max mark) h) (next_in profile clients_max mark h).rows r.client by.0 all.stands (ap (λ (rows : List Row). row_of rows r.client) (sym same.rows) ∙ by.1) in
    is_stored profile clients_max mark h r lawful by.0 found.0 found.1 by.1 by.2 all.differ

pub first_reply : FirstReply
first_reply profile clients_max h r legal lawful class = first_reply_with profile clients_max None h r legal lawful class

-- a session that was taken out

-- each session of the client is at least so high, and so is each that is still to come
abbrev pub Floor : State → ℕ → ℕ → Type 0
Floor S client least = Each (λ (row : Row). row.client ≡ client → least ≤ row.session) S.rows × (least ≤ S.commit + 1)

module _ (state : List Entry → State) where
  floor_on : (p : List Entry) (e : Entry) (client least : ℕ) → Behind state p e → Floor (state p) client least → Floor (state (p ++ e ∷ [])) client least
  floor_on p e client least behind floor = (
    subst (Each (λ (row : Row). row.client ≡ client → least ≤ row.session)) (sym behind.rows)
        (each_admitted (λ (row : Row). row.client ≡ client → least ≤ row.session) (state p).clients_max (state p).rows (row_at (state p) e)
        (⊎_elim registers follows (new_by (row_of (state p).rows e.request.client) e.request behind.may.new)) floor.0),
    omega (arith, behind.may.commit, behind.commit, floor.1),
  )
    where
      registers : (row_of (state p).rows e.request.client ≡ None) × (is_register e.request.body ≡ true) → e.request.client ≡ client → least ≤ session_of e
      registers both same = omega (arith, session_register e both.1, behind.may.commit, floor.1)

      follows : (row : Row) × (row_of (state p).rows e.request.client ≡ Some row) × Follows row e.request → e.request.client ≡ client → least ≤ session_of e
      follows found same =
          let its = row_found (λ (row : Row). row.client ≡ client → least ≤ row.session) (state p).rows e.request.client found.0 floor.0 found.1 in
          omega (arith, session_numbered e found.2.numbered, found.2.session, its.0 (its.1 ∙ same))

  floor_after : (p h : List Entry) (client least : ℕ) → LeadsTo state p h → Floor (state p) client least → Floor (state (p ++ h)) client least
  floor_after p [] client least leads floor = subst (λ l. Floor (state l) client least) (sym (append-nil p)) floor
  floor_after p (e ∷ es) client least leads floor =
      subst (λ l. Floor (state l) client least) (append_assoc p (e ∷ []) es)
      (floor_after (p ++ e ∷ []) es client least leads.1 (floor_on p e client least leads.0 floor))

  -- it exists after h, and no longer after the entries m that follow, whatever entries k follow
  module _ (h m k : List Entry) (r : Message) (first : ReachedBy state h) (second : ReachedBy state (h ++ m)) (leads : LeadsTo state h m) (later : LeadsTo state (h ++ m) k)
      (there : HasSession (state h) r.client r.session) (gone : HasSession (state (h ++ m)) r.client r.session → ⊥) where
    issued : r.session ≤ (state h).commit
    issued = let its = row_found (λ (row : Row). row.session ≤ (state h).commit) (state h).rows r.client there.0 first.sessions there.1 in omega (arith, its.0, there.2)

    floor1 : Floor (state h) r.client r.session
    floor1 = (
      each-map (λ (row : Row). row_of (state h).rows row.client ≡ Some row) (λ (row : Row). row.client ≡ r.client → r.session ≤ row.session) (state h).rows (λ row found same. let one : row ≡ there.0 = some_one (sym found ∙ ap (row_of (state h).rows) same ∙ there.1) in omega (arith, ap (λ (w : Row). w.session) one, there.2)) (each_found client_of (state h).rows first.rising),
      omega (arith, issued),
    )

    floor2 : Floor (state (h ++ m)) r.client r.session
    floor2 = floor_after h m r.client r.session leads floor1

    above : Floor (state (h ++ m)) r.client (r.session + 1)
    above = (
      each-both (λ (row : Row). row_of (state (h ++ m)).rows row.client ≡ Some row) (λ (row : Row). row.client ≡ r.client → r.session ≤ row.session) (λ (row : Row). row.client ≡ r.client → r.session + 1 ≤ row.session) (state (h ++ m)).rows (λ row found low same. apart row.session (low same) (λ equal. gone (row, sym (ap (row_of (state (h ++ m)).rows) same) ∙ found, equal))) (each_found client_of (state (h ++ m)).rows second.rising) floor2.0,
      omega (arith, issued, first.count, second.count, length-append h m),
    )
      where
        apart : (session : ℕ) → r.session ≤ session → (session ≡ r.session → ⊥) → r.session + 1 ≤ session
        apart session low differ = omega (arith, low, differ)

    pub later_session : (row : Row) → row_of (state ((h ++ m) ++ k)).rows r.client ≡ Some row → r.session < row.session
    later_session row found =
        let floor3 = floor_after (h ++ m) k r.client (r.session + 1) later above in
        let its = row_found (λ (row : Row). row.client ≡ r.client → r.session + 1 ≤ row.session) (state ((h ++ m) ++ k)).rows r.client row floor3.0 found in
        omega (arith, its.0 its.1)

pub stays_out_with : StaysOutWith
stays_out_with profile clients_max mark h m k r legal there gone numbered =
    out_by (row_of (after_with profile clients_max mark (h ++ (m ++ k))).rows r.client) r numbered later
  where
    whole : LeadsTo (next_in profile clients_max mark) [] (h ++ (m ++ k))
    whole = legal_leads profile clients_max mark (h ++ (m ++ k)) legal

    parts : LeadsTo (next_in profile clients_max mark) [] h × LeadsTo (next_in profile clients_max mark) h (m ++ k)
    parts = leads_split (next_in profile clients_max mark) [] h (m ++ k) whole

    rest : LeadsTo (next_in profile clients_max mark) h m × LeadsTo (next_in profile clients_max mark) (h ++ m) k
    rest = leads_split (next_in profile clients_max mark) h m k parts.1

    reached_h : ReachedBy (next_in profile clients_max mark) h
    reached_h = reached_after (next_in profile clients_max mark) [] h (begun profile clients_max mark) parts.0

    reached_m : ReachedBy (next_in profile clients_max mark) (h ++ m)
    reached_m = reached_after (next_in profile clients_max mark) h m reached_h rest.0

    rows_are : (after_with profile clients_max mark (h ++ (m ++ k))).rows ≡ (next_in profile clients_max mark ((h ++ m) ++ k)).rows
    rows_are = (whole_alike profile clients_max mark (h ++ (m ++ k))).rows ∙ ap (λ (l : List Entry). (next_in profile clients_max mark l).rows) (sym (append_assoc h m k))

    later : (row : Row) → row_of (after_with profile clients_max mark (h ++ (m ++ k))).rows r.client ≡ Some row → r.session < row.session
    later row found =
        later_session (next_in profile clients_max mark) h m k r reached_h reached_m rest.0 rest.1 there gone row
        (ap (λ (rows : List Row). row_of rows r.client) (sym rows_are) ∙ found)

pub stays_out : StaysOut
stays_out profile clients_max h m k r legal there gone numbered = stays_out_with profile clients_max None h m k r legal there gone numbered
