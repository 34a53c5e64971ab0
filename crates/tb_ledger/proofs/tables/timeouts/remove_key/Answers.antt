use Rattle.tb_ledger.proofs.Common.{◌≤◌, ◌+◌, is_some, if◌then◌else◌, sym, ap, subst, ◌∙◌, arith, nat_cmp, ordering_then, rising-taken_out, each-taken_out, rows-removed, seen, entries, timeout_key, timeout_at, timeouts_of, AreTimeouts, AMOUNT_MAX}
use Rattle.tb_ledger.proofs.Entries.{timeouts-agree}
use Rattle.tb_ledger.proofs.tables.timeouts.remove_key.Goals as goal

pub returns-clause-timeouts : goal.returns-clause-timeouts
returns-clause-timeouts g c =
    let d = c.args.timeout in
    let es = entries c.args.keys.now in
    ap timeouts_of c.remove.ensures.entries
    ∙ rows-removed (λ x y. ordering_then (nat_cmp x.0 y.0) (nat_cmp x.1 y.1)) timeout_at timeout_key (d.at, d.id) (timeout_key d) es (timeouts-agree (d.at, d.id) es (omega arith) c.requires.ordered.fit)

pub returns-clause-ordered : goal.returns-clause-ordered
returns-clause-ordered g c =
    let d = c.args.timeout in
    let es = entries c.args.keys.now in
    let taken = ap timeouts_of c.remove.ensures.entries
    ∙ rows-removed (λ x y. ordering_then (nat_cmp x.0 y.0) (nat_cmp x.1 y.1)) timeout_at timeout_key (d.at, d.id) (timeout_key d) es (timeouts-agree (d.at, d.id) es (omega arith) c.requires.ordered.fit) in
    subst AreTimeouts (sym taken) (record {
      rising = rising-taken_out timeout_key (timeout_key d) (timeouts_of es) c.requires.ordered.rising;
      fit = each-taken_out timeout_key (λ d. d.id ≤ AMOUNT_MAX) (timeout_key d) (timeouts_of es) c.requires.ordered.fit;
    })

pub returns-clause-capacity : goal.returns-clause-capacity
returns-clause-capacity g c =
    let d = c.args.timeout in
    let es = entries c.args.keys.now in
    let same = ap is_some c.remove.ensures.value ∙ seen (λ x y. ordering_then (nat_cmp x.0 y.0) (nat_cmp x.1 y.1)) timeout_at timeout_key (d.at, d.id) (timeout_key d) es (timeouts-agree (d.at, d.id) es (omega arith) c.requires.ordered.fit) in
    c.remove.ensures.spare ∙ ap (λ b. c.args.keys.now.spare + (if b then 1 else 0)) same
