-- What a seat finds is what is found after the whole history, if it has seen as many entries.
use Rattle.std.proofs.Common.{ℕ, ◌≡◌, ◌+◌, ◌≤◌, ◌*◌, List, length, subst, arith}
use Rattle.std.proofs.lemmas.Nat.{mul-le}
use mathlib.Core.List.{IsPrefix}
use Rattle.tb_records.specs.declared.limits.Profile.TheVariants as profile
use Rattle.tb_records.specs.declared.limits.TheConstants.{CLIENTS_MAX}
use Rattle.tb_machine.specs.declared.entries.Entry.{Entry}
use Rattle.tb_published.specs.Openings.{Opening, LegalIn}
use Rattle.tb_published.proofs.Prefixes.{prefix_trans, prefix_whole, prefix_length}
use Rattle.tb_edge_storm.specs.declared.totals.Totals.{Totals}
use Rattle.tb_edge_storm.specs.Totals.{ids_of, AreTotals}
use Rattle.tb_edge_storm.specs.private.Found.{transfers_after, credited_after, Totaled, TotaledIn}

-- no storm is larger
pub few : (clients transfers : ℕ) → clients ≤ 16 → transfers ≤ 1000 → clients * (transfers + 1) ≤ 16016
few clients transfers p q = mul-le clients (transfers + 1) 16 1001 p (omega (arith, q))

pub learnt : (shown first counted : List Entry) → IsPrefix shown first → IsPrefix first counted → IsPrefix shown counted
learnt shown first counted p q = prefix_trans shown first counted p q

pub totaled : (o : Opening) (clients transfers : ℕ) (counted summed history : List Entry) (totals : Totals)
    → LegalIn o counted → IsPrefix counted summed → IsPrefix summed history → length counted ≡ length history
    → totals.commits ≡ length history
    → totals.transfers ≡ transfers_after o counted (ids_of clients transfers) → totals.credited ≡ credited_after o summed
    → Totaled o clients transfers history totals
totaled o clients transfers counted summed history totals legal p q same commits found credited =
    let all : counted ≡ history = prefix_whole counted history (prefix_trans counted summed history p q) (omega (arith, same)) in
    let rest : summed ≡ history = prefix_whole summed history q (omega (arith, same, prefix_length counted summed p)) in
    record {
      legal = subst (λ (h : List Entry). LegalIn o h) all legal;
      commits = commits;
      found = subst (λ (h : List Entry). totals.transfers ≡ transfers_after o h (ids_of clients transfers)) all found;
      credited = subst (λ (h : List Entry). totals.credited ≡ credited_after o h) rest credited;
    }

pub are_totals : (o : Opening) (clients transfers : ℕ) (totals : Totals) → o.profile ≡ profile.One → o.clients_max ≡ CLIENTS_MAX
    → TotaledIn o clients transfers totals → AreTotals clients transfers totals
are_totals o clients transfers totals first most t = record {
  opening = o;
  profile_is = first;
  clients_max_is = most;
  history = t.history;
  legal = t.whole.legal;
  served = t.served;
  played = t.played;
  commits = t.whole.commits;
  enough = t.enough;
  found = t.whole.found;
  credited = t.whole.credited;
}
