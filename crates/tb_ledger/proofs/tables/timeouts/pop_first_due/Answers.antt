use Rattle.tb_ledger.proofs.Common.{◌≤◌, ◌+◌, refl, is_some, if◌then◌else◌, sym, ap, subst, ◌∙◌, rising-taken_out, each-taken_out, entries, timeout_key, timeouts_of, AreTimeouts, AMOUNT_MAX}
use Rattle.tb_ledger.proofs.Entries.{popped-found, popped-rest, popped-some}
use Rattle.tb_ledger.proofs.tables.timeouts.pop_first_due.Goals as goal

pub returns : goal.returns
returns g c =
    let d = c.in_ok-due.due in
    let es = entries c.args.keys.now in
    let later = entries c.pop_first.new.self in
    let due = c.in_ok-due.ensures in
    let rest = popped-rest d c.pop_first.result es later due.1 c.pop_first.ensures.pair c.pop_first.ensures.rest in
    let found = popped-found d c.pop_first.result es due.1 in
    let some = popped-some d c.pop_first.result es due.1 c.pop_first.ensures.pair in
    let one = c.pop_first.ensures.spare ∙ ap (λ b. c.args.keys.now.spare + (if b then 1 else 0)) (some ∙ sym (ap is_some found)) in
    record {
      ordered = subst AreTimeouts (sym rest) (record {
        rising = rising-taken_out timeout_key (timeout_key d) (timeouts_of es) c.requires.rising;
        fit = each-taken_out timeout_key (λ d. d.id ≤ AMOUNT_MAX) (timeout_key d) (timeouts_of es) c.requires.fit;
      });
      taken = (due.0, found, rw (rest, one) refl);
    }
