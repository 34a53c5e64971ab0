-- The premises of the laws over lists, by the worked schedule.
use Rattle.std.proofs.Common.{◌≡◌, ℕ, inl, inr, true, List, [], ◌∷◌, refl, arith}
use Rattle.std.specs.List.{All, Contains}
use Rattle.std.proofs.lemmas.List.Elements.{All-cons, All-nil}
use Rattle.logbook.specs.Pages.{Book}
use Rattle.tb_records.specs.declared.limits.Profile.TheVariants.{One}
use Rattle.tb_records.specs.Messages.{Message, Answer}
use Rattle.tb_machine.specs.declared.entries.Entry.{Entry}
use Rattle.tb_machine.specs.Scripts.{entry_of}
use Rattle.tb_machine.proofs.RepeatLaws.{answers}
use Rattle.tb_file.specs.Rounds.{entries_from, reply_bytes_from}
use Rattle.tb_service.specs.OfferedLaws.{HasOwner}
use Rattle.tb_caller.specs.Endpoints.{IsAmong}
use Rattle.tb_caller.specs.CallLaws.{Sends}
use Rattle.tb_caller_laws.specs.ExactlyOnce.Server.{Down}
use Rattle.tb_caller_laws.specs.SeatCalls.{IsFromSeat}
use Rattle.tb_caller_laws.specs.Worked.{register, lookup, file_of, empty, kept, reads, then, reply_of, worked_events, worked, last}
use Rattle.tb_caller_laws.specs.Others.{sent, returned, script, offered_by, opening_of, MeetsOthers}
use Rattle.tb_caller_laws.proofs.Worlds.{each_call_once}
use Rattle.tb_caller_laws.proofs.Worked.{S0, K, after, register_served, lost_served, served_one, served_reads, keepable_kept, keepable_after, moment, file_kept, file_five, power_loss, heard_first, is_worked}

sends : Sends 7 (worked.clients 7)
sends = (each_call_once (λ (id : ℕ). true) empty last (Down (file_of empty [])) worked_events is_worked.begins is_worked.runs refl 7 refl).0

abbrev first_answer : Answer
first_answer = reply_of S0 (10, register 7)

abbrev second_answer : Answer
second_answer = reply_of (then 0) (30, lookup 7 1 1)

-- what came after the entries that the second answer has seen
abbrev rest : List Entry
rest = entry_of (then 2) (50, register 8) ∷ entry_of (then 4) (70, lookup 8 3 1) ∷ []

register_sent : IsAmong (register 7) sent
register_sent = inr (inr (inr (inr (inl refl))))

lookup_sent : IsAmong (lookup 7 1 1) sent
lookup_sent = inr (inl refl)

first_seat : (book : Book) → IsFromSeat (opening_of book) last.entries first_answer
first_seat book = record {
  seen = kept.entries;
  request = register 7;
  prefix = (entries_from K (reads 5), refl);
  answers = (keepable_kept.legal, answers One 1 kept.entries (register 7) first_answer keepable_kept.legal refl refl);
}

second_seat : (book : Book) → IsFromSeat (opening_of book) last.entries second_answer
second_seat book =
    let legal = (keepable_after 1 (served_one, tt)).legal in
    record { seen = (after 1).entries; request = lookup 7 1 1; prefix = (rest, refl); answers = (legal, answers One 1 (after 1).entries (lookup 7 1 1) second_answer legal refl refl) }

owned : (e : Entry) → Contains (offered_by 0) e.request → HasOwner 1 offered_by e.request
owned e is = record { port = 0; made = omega arith; offers = is }

abbrev IsOwned : Entry → Type 0
IsOwned e = HasOwner 1 offered_by e.request

abbrev IsSent : Message → Type 0
IsSent r = r.client ≡ 7 → IsAmong r sent

abbrev e0 : Entry
e0 = entry_of S0 (10, register 7)

abbrev e1 : Entry
e1 = entry_of (then 0) (30, lookup 7 1 1)

abbrev e2 : Entry
e2 = entry_of (then 2) (50, register 8)

abbrev e3 : Entry
e3 = entry_of (then 4) (70, lookup 8 3 1)

all_owned : All IsOwned last.entries
all_owned =
    All-cons IsOwned e0 (e1 ∷ e2 ∷ e3 ∷ []) (owned e0 (0, omega arith, refl))
    (All-cons IsOwned e1 (e2 ∷ e3 ∷ []) (owned e1 (1, omega arith, refl))
    (All-cons IsOwned e2 (e3 ∷ []) (owned e2 (2, omega arith, refl))
    (All-cons IsOwned e3 [] (owned e3 (3, omega arith, refl)) (All-nil IsOwned))))

all_sent : All IsSent (offered_by 0)
all_sent =
    All-cons IsSent (register 7) (lookup 7 1 1 ∷ register 8 ∷ lookup 8 3 1 ∷ []) (λ _. register_sent)
    (All-cons IsSent (lookup 7 1 1) (register 8 ∷ lookup 8 3 1 ∷ []) (λ _. lookup_sent)
    (All-cons IsSent (register 8) (lookup 8 3 1 ∷ []) (λ same. absurd (omega (arith, same)))
    (All-cons IsSent (lookup 8 3 1) [] (λ same. absurd (omega (arith, same))) (All-nil IsSent))))

pub meets_others : MeetsOthers
meets_others = record {
  legal = (keepable_after 5 served_reads).legal;
  own = sends.sent;
  none = (λ _. register_sent, (λ _. lookup_sent, (λ same. absurd (omega (arith, same)), (λ same. absurd (omega (arith, same)), tt))));
  taken = sends.returned;
  answered = (
    record { seen = (after 1).entries; request = lookup 7 1 1; prefix = (rest, refl); answer = refl },
    (record { seen = kept.entries; request = register 7; prefix = (entries_from K (reads 5), refl); answer = refl }, tt),
  );
  lawful = (refl, (refl, (refl, (refl, (refl, (refl, tt))))));
  was_sent = (
    λ _. register_sent,
    (λ _. lookup_sent, (λ _. lookup_sent, (λ same. absurd (omega (arith, same)), (λ _. inl refl, (λ same. absurd (omega (arith, same)), tt))))),
  );
  replied = (inr (inl refl), (inl refl, tt));
  logged = (
    record { read = script; prefix = ([], refl); among = inr (inl refl) },
    (record { read = (10, register 7) ∷ []; prefix = (reads 5, refl); among = inl refl }, tt),
  );
  runs = (
    kept,
    record { served = (register_served, (lost_served, tt)); left = power_loss },
    file_kept _ refl,
    (last, record { served = served_reads; left = moment 5 (reply_bytes_from K (reads 5)) refl file_five }, file_five, refl),
  );
  runs_sent = (
    (λ _. register_sent, (λ _. lookup_sent, tt)),
    ((λ _. lookup_sent, (λ _. lookup_sent, (λ same. absurd (omega (arith, same)), (λ _. inl refl, (λ same. absurd (omega (arith, same)), tt))))), tt),
  );
  read = (
    inr (inl (record { earlier = []; rest = reply_bytes_from (then 1) ((40, lookup 7 1 1) ∷ (50, register 8) ∷ (60, lookup 7 1 2) ∷ (70, lookup 8 3 1) ∷ []); bytes_are = refl; spelled = tt; is = served_one.reply })),
    (inl heard_first, tt),
  );
  seats = λ book. (second_seat book, (first_seat book, tt));
  ports = record {
    more = last.entries;
    grown = refl;
    owned = all_owned;
  };
  offered = λ p within. all_sent;
  over = refl;
}
