-- While the session lives, the request that waits is entered next, or has its reply.
use Rattle.std.proofs.Common.{◌≡◌, ◌≢◌, ℕ, zero, suc, ◌+◌, ◌≤◌, ◌<◌, ◌⊎◌, inl, inr, ⊎_elim, Bool, true, false, List, Option, Some, IfSome, refl, sym, ap, ◌∙◌, subst, arith, eqb, eqb-true, eq-eqb, ne_eqb, ltb}
use Rattle.std.proofs.lemmas.Bool.Decides.{nat_tests}
use Rattle.tb_records.specs.declared.limits.Profile.{Profile}
use Rattle.tb_records.specs.Messages.{Message, Answer, is_register}
use Rattle.tb_records.specs.Ordered.{Each}
use Rattle.tb_records.specs.Same.{same_body}
use Rattle.tb_records.proofs.OneBody.{body_same}
use Rattle.tb_sessions.specs.declared.rows.Row.{Row}
use Rattle.tb_sessions.specs.declared.classes.Class.TheVariants.{New, Repeat}
use Rattle.tb_sessions.specs.Judged.{row_of, class_of, client_of}
use Rattle.tb_sessions.proofs.ByRow.{class_by}
use Rattle.tb_machine.specs.declared.entries.Entry.{Entry}
use Rattle.tb_machine.specs.Histories.{State, session_of}
use Rattle.tb_machine.specs.HistoryLaws.{HasSession}
use Rattle.tb_machine.specs.Dumps.{IsLegalWith}
use Rattle.tb_machine.specs.MarkedLaws.{next_in}
use Rattle.tb_machine.proofs.Rows.{row_found}
use Rattle.tb_machine.proofs.Lawful.{lawful_numbers}
use Rattle.tb_machine.proofs.SoundSteps.{lawful_of}
use Rattle.tb_machine.proofs.LawProofs.{each_mid}
use Rattle.tb_machine.proofs.MarkLeads.{reached_with}
use Rattle.tb_machine.proofs.ReachedBy.{Before, StandsBy, ReachedBy, session_numbered}
use Rattle.tb_caller.specs.Clients.{open_request}
use Rattle.tb_caller.specs.Endpoints.{Endpoint, IsAmong}
use Rattle.tb_caller.specs.Calls.{IsCall, IsTaken, NoneInvented, IsOnce}
use Rattle.tb_caller.proofs.Own.{IsOf, IsWithin, open_of}
use Rattle.tb_caller.proofs.Lists.{each_among}
use Rattle.tb_caller.proofs.Filled.{HasReturned, filled_open}
use Rattle.tb_caller.proofs.Alone.{IsKept}

no_less : (a b : ℕ) → b ≤ a → ltb a b ≡ false
no_less a b le = grind (arith, nat_tests)

new_is : (row : Row) (r : Message) → IsCall r → row.session ≡ r.session → r.request ≡ row.request.request + 1 → class_by (Some row) r ≡ New
new_is row r call session number =
    let low : ltb r.session row.session ≡ false = no_less r.session row.session (omega (arith, session)) in
    let newer : ltb row.session r.session ≡ false = no_less row.session r.session (omega (arith, session)) in
    let older : ltb r.request row.request.request ≡ false = no_less r.request row.request.request (omega (arith, number)) in
    let other : eqb r.request row.request.request ≡ false = ne_eqb r.request row.request.request (λ same. absurd (omega (arith, number, same))) in
    let next : eqb r.request (row.request.request + 1) ≡ true = eq-eqb r.request (row.request.request + 1) number in
    rw (call, low, newer, older, other, next) refl

repeat_is : (row : Row) (r : Message) → IsCall r → row.session ≡ r.session → row.request ≡ r → class_by (Some row) r ≡ Repeat
repeat_is row r call session is =
    let number : r.request ≡ row.request.request = sym (ap (λ (m : Message). m.request) is) in
    let low : ltb r.session row.session ≡ false = no_less r.session row.session (omega (arith, session)) in
    let newer : ltb row.session r.session ≡ false = no_less row.session r.session (omega (arith, session)) in
    let older : ltb r.request row.request.request ≡ false = no_less r.request row.request.request (omega (arith, number)) in
    let same : eqb r.request row.request.request ≡ true = eq-eqb r.request row.request.request number in
    let body : same_body r.body row.request.body ≡ true = subst (λ (m : Message). same_body r.body m.body ≡ true) (sym is) (body_same r.body) in
    rw (call, low, newer, older, same, body) refl

two_or_less : (k : ℕ) → (k ≤ 1) ⊎ ((n : ℕ) × (k ≡ n + 2))
two_or_less zero = inl (omega arith)
two_or_less (suc zero) = inl (omega arith)
two_or_less (suc (suc n)) = inr (n, omega arith)

module _ (profile : Profile) (clients_max : ℕ) (mark : Option ℕ) (id : ℕ) (h : List Entry) (d : Endpoint) (kept : IsKept id d) (legal : IsLegalWith profile clients_max mark h)
    (held : NoneInvented id d.sent h) (once : Each (λ (p : Message × Answer). IsOnce (next_in profile clients_max mark) h p.0 p.1) d.returned)
    (r : Message) (waits : open_request d.live.phase ≡ Some r) (call : IsCall r) (has : HasSession (next_in profile clients_max mark h) id r.session) where
  abbrev N : List Entry → State
  N = next_in profile clients_max mark

  abbrev row : Row
  row = has.0

  abbrev last : ℕ
  last = d.live.last

  its : IsOf id d.live.session d.live.last r
  its = open_of id d.sent d.live r kept.live waits

  reached : ReachedBy N h
  reached = reached_with profile clients_max mark h legal

  found : StandsBy N h row × (client_of row ≡ id)
  found = row_found (StandsBy N h) (N h).rows id row reached.stands has.1

  stands : StandsBy N h row
  stands = found.0

  before : Each (Before row) h
  before = (row_found (λ (row : Row). Each (Before row) h) (N h).rows id row reached.before has.1).0

  request_is : row.request ≡ stands.entry.request
  request_is = ap (λ (w : Row). w.request) stands.is

  client_is : stands.entry.request.client ≡ id
  client_is = sym (ap (λ (w : Row). w.client) stands.is) ∙ found.1

  among : IsAmong stands.entry.request d.sent
  among = each_mid (λ (e : Entry). e.request.client ≡ id → IsAmong e.request d.sent) stands.front stands.entry stands.rest
      (subst (Each (λ (e : Entry). e.request.client ≡ id → IsAmong e.request d.sent)) stands.whole held) client_is

  within : IsWithin d.live.session last (open_request d.live.phase) stands.entry.request
  within = each_among (IsWithin d.live.session last (open_request d.live.phase)) stands.entry.request d.sent kept.live.within among

  number : r.request ≡ last
  number = (its.call call).1

  above : 1 ≤ last
  above = at_least (lawful_numbers r (lawful_of r its.lawful)).numbered
    where
      at_least : (IsCall r → r.request ≢ 0) → 1 ≤ last
      at_least f = let no : r.request ≢ 0 = f call in omega (arith, number, no)

  number_in_row : row.request.request ≡ stands.entry.request.request
  number_in_row = ap (λ (m : Message). m.request) request_is

  -- the row's request is a register, or a call that was sent
  register_zero : is_register stands.entry.request.body ≡ true → stands.entry.request.request ≡ 0
  register_zero is = (lawful_numbers stands.entry.request (lawful_of stands.entry.request stands.lawful)).register is

  at_most : row.request.request ≤ last
  at_most = by (is_register stands.entry.request.body) refl
    where
      by : (b : Bool) → is_register stands.entry.request.body ≡ b → row.request.request ≤ last
      by true is = omega (arith, number_in_row, register_zero is)
      by false is = let w = within is in omega (arith, number_in_row, w.2)

  -- the call before has returned, so its entry is there
  earlier : (n : ℕ) → last ≡ n + 2 → HasReturned d.returned d.live.session (n + 1) → last ≤ row.request.request + 1
  earlier n is back =
      let entered = each_among (λ (p : Message × Answer). IsOnce (next_in profile clients_max mark) h p.0 p.1) (back.request, back.answer) d.returned once back.taken in
      let taken = each_among (IsTaken d.sent) (back.request, back.answer) d.returned kept.sends.returned back.taken in
      let own : back.request.client ≡ id = each_among (λ (m : Message). m.client ≡ id) back.request d.sent kept.sends.sent.client taken.sent_it in
      let mine = each_mid (Before row) entered.front entered.entry entered.rest (subst (Each (Before row)) entered.whole before) (ap (λ (m : Message). m.client) entered.request ∙ own ∙ sym found.1) in
      let numbered : is_register entered.entry.request.body ≡ false = ap (λ (m : Message). is_register m.body) entered.request ∙ back.call in
      let session : session_of entered.entry ≡ row.session =
      session_numbered entered.entry numbered ∙ ap (λ (m : Message). m.session) entered.request ∙ back.session_is ∙ sym (its.call call).0 ∙ sym has.2 in
      omega (arith, is, mine.number session, ap (λ (m : Message). m.request) entered.request, back.number_is)

  at_least : last ≤ row.request.request + 1
  at_least = ⊎_elim (λ few. omega (arith, few)) (λ two. earlier two.0 two.1 (filled_open d.returned d.live.session last d.live.phase r kept.filled waits call two.0 two.1)) (two_or_less last)

  of_row : (class_by (Some row) r ≡ New) ⊎ (class_by (Some row) r ≡ Repeat)
  of_row = by (eqb row.request.request last) refl
    where
      by : (b : Bool) → eqb row.request.request last ≡ b → (class_by (Some row) r ≡ New) ⊎ (class_by (Some row) r ≡ Repeat)
      by true e =
          let same : row.request.request ≡ last = eqb-true row.request.request last e in
          inr (repeat_is row r call has.2 (request_is ∙ one (is_register stands.entry.request.body) refl same))
        where
          one : (b : Bool) → is_register stands.entry.request.body ≡ b → row.request.request ≡ last → stands.entry.request ≡ r
          one true is same = absurd (omega (arith, above, same, number_in_row, register_zero is))
          one false is same = subst (λ (o : Option Message). IfSome o (λ s. stands.entry.request.request ≡ last → stands.entry.request ≡ s)) waits (within is).3 (sym number_in_row ∙ same)
      by false e =
          let other : row.request.request < last = grind (arith, nat_tests, e, at_most) in
          inl (new_is row r call has.2 (omega (arith, number, other, at_least)))

  pub settled : (class_of (N h).rows r ≡ New) ⊎ (class_of (N h).rows r ≡ Repeat)
  settled =
      let is : class_of (N h).rows r ≡ class_by (Some row) r = ap (λ (o : Option Row). class_by o r) (ap (row_of (N h).rows) its.client ∙ has.1) in
      ⊎_elim (λ e. inl (is ∙ e)) (λ e. inr (is ∙ e)) of_row
