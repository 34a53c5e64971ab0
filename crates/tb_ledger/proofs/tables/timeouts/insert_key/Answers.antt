use Rattle.tb_ledger.proofs.Common.{◌≤◌, refl, sym, ap, subst, ◌∙◌, arith, nat_cmp, ordering_then, rising-put, each-put, rows-inserted, unseen, entries, timeout_key, timeout_at, timeouts_of, AreTimeouts, AMOUNT_MAX}
use Rattle.tb_ledger.proofs.Entries.{timeouts-agree}
use Rattle.tb_ledger.proofs.tables.timeouts.insert_key.Goals as goal

pub insert_reserved-requires-clause-absent : goal.insert_reserved-requires-clause-absent
insert_reserved-requires-clause-absent g c =
    let d = c.args.timeout in
    let es = entries c.args.keys.now in
    unseen (λ x y. ordering_then (nat_cmp x.0 y.0) (nat_cmp x.1 y.1)) timeout_at timeout_key (d.at, d.id) (timeout_key d) es (timeouts-agree (d.at, d.id) es (omega arith) c.requires.ordered.fit) c.requires.absent

pub returns-clause-timeouts : goal.returns-clause-timeouts
returns-clause-timeouts g c =
    let d = c.args.timeout in
    let es = entries c.args.keys.now in
    ap timeouts_of c.insert_reserved.ensures.entries
    ∙ rows-inserted (λ x y. ordering_then (nat_cmp x.0 y.0) (nat_cmp x.1 y.1)) timeout_at timeout_key (d.at, d.id) (timeout_key d) tt es refl (timeouts-agree (d.at, d.id) es (omega arith) c.requires.ordered.fit) c.requires.absent

pub returns-clause-ordered : goal.returns-clause-ordered
returns-clause-ordered g c =
    let d = c.args.timeout in
    let es = entries c.args.keys.now in
    let wrote = ap timeouts_of c.insert_reserved.ensures.entries
    ∙ rows-inserted (λ x y. ordering_then (nat_cmp x.0 y.0) (nat_cmp x.1 y.1)) timeout_at timeout_key (d.at, d.id) (timeout_key d) tt es refl (timeouts-agree (d.at, d.id) es (omega arith) c.requires.ordered.fit) c.requires.absent in
    subst AreTimeouts (sym wrote) (record {
      rising = rising-put timeout_key d (timeouts_of es) c.requires.absent c.requires.ordered.rising;
      fit = each-put timeout_key (λ d. d.id ≤ AMOUNT_MAX) d (timeouts_of es) (omega arith) c.requires.ordered.fit;
    })
