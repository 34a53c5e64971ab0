-- The client of a step's fields.
use Rattle.std.proofs.Common.{◌≡◌, ℕ, List, ◌++◌, drop, Option, Some, None, Result, Ok, Err, MatchOption, refl, sym, ap, ◌∙◌, subst, take-append-drop}
use Rattle.tb_caller.specs.declared.callers.Phase.{Phase}
use Rattle.tb_caller.specs.declared.faults.FieldFault.{FieldFault}
use Rattle.tb_caller.specs.Clients.{Client, client_with, field_fault}
use Rattle.tb_oracle.specs.Steps.{id_at, step_session, last_at, phase_at, HasFields, ReadsPhaseFields}

-- what fields are read as: the client, or their fault
abbrev IsOf : Option FieldFault → Result Client FieldFault → Client → Type 0
IsOf fault result c = MatchOption fault (result ≡ Ok c) (λ f. result ≡ Err f)

module _ (id session last : ℕ) (p : Phase) (n : ℕ) (head rest : List ℕ) (id_is : id ≡ id_at head) (session_is : session ≡ step_session head) (last_is : last ≡ last_at head) (phase : ReadsPhaseFields (Ok (p, n)) (phase_at head) rest) where
  pub fields_read : HasFields (client_with id session last p) (drop n rest) head rest
  fields_read = record {
    id = id_is;
    session = session_is;
    last = last_is;
    phase = phase.0;
    rest_is = sym (take-append-drop n rest) ∙ ap (λ (l : List ℕ). l ++ drop n rest) phase.2;
    request = phase.3;
  }

  read_by : (o : Option FieldFault) (c : Client) → field_fault (client_with id session last p) ≡ o
      → IsOf o (Ok c) (client_with id session last p)
      → HasFields c (drop n rest) head rest × (field_fault c ≡ None)
  read_by None c right e = subst (λ (d : Client). HasFields d (drop n rest) head rest × (field_fault d ≡ None)) (sym cc) (fields_read, right)
  read_by (Some f) c right e = absurd cc

  pub client_read : (c : Client) → IsOf (field_fault (client_with id session last p)) (Ok c) (client_with id session last p) → HasFields c (drop n rest) head rest × (field_fault c ≡ None)
  client_read c is = read_by (field_fault (client_with id session last p)) c refl is

  refused_by : (o : Option FieldFault) (f : FieldFault) → field_fault (client_with id session last p) ≡ o
      → IsOf o (Err f) (client_with id session last p)
      → field_fault (client_with id session last p) ≡ Some f
  refused_by None f is e = absurd cc
  refused_by (Some g) f is e = is ∙ ap Some (sym cc)

  pub client_refused : (f : FieldFault) → IsOf (field_fault (client_with id session last p)) (Err f) (client_with id session last p)
      → (c : Client) × (given : List ℕ) × HasFields c given head rest × (field_fault c ≡ Some f)
  client_refused f is = (client_with id session last p, drop n rest, fields_read, refused_by (field_fault (client_with id session last p)) f refl is)
