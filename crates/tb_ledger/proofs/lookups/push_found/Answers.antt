use Rattle.tb_ledger.proofs.Common.{Some, sym, ap, ◌∙◌, option_copied, option_map, vec_len, vec_capacity, arith}
use Rattle.tb_ledger.proofs.Pushed.{one_fewer, pushed_all, pushed_one, passed_one}
use Rattle.tb_ledger.proofs.lookups.push_found.Goals as goal
use Rattle.tb_ledger.proofs.lookups.push_found.Goals.{in-Some, in_default}

pub loop-row-preserved : goal.loop-row-preserved
loop-row-preserved g c =
    let rows = c.args.rows.now in
    let i = c.loop-row.row-index in
    let so_far = c.loop-row.invariant in
    let within = c.loop-row-test.true in
    let fewer = one_fewer rows i within in
    elim c.match-row.branch [
      | in-Some w ↦
          let pushed = w.push_reserved.ensures in
          let len = ap vec_len w.out-is in
          record {
            items = pushed_one (λ r. option_map g.V.Found.record_now (option_copied r)) rows i c.loop-row.out.items _ so_far.items c.row-item.result c.row-item.result within c.row-item.is c.match-row.out.items w.found.result (ap (λ v. v.items) w.out-is ∙ pushed.items) (ap (λ r. option_map g.V.Found.record_now (option_copied r)) w.in-Some.is ∙ ap Some (sym w.found.ensures));
            len = omega (arith, len, pushed.len, fewer, so_far.len);
            capacity = ap vec_capacity w.out-is ∙ pushed.capacity ∙ so_far.capacity;
          }
      | in_default w ↦
          let len = ap vec_len w.out-is in
          record {
            items = passed_one (λ r. option_map g.V.Found.record_now (option_copied r)) rows i c.loop-row.out.items _ so_far.items c.row-item.result c.row-item.result within c.row-item.is c.match-row.out.items (ap (λ v. v.items) w.out-is) (ap (λ r. option_map g.V.Found.record_now (option_copied r)) w.in_default.is);
            len = omega (arith, len, fewer, so_far.len);
            capacity = ap vec_capacity w.out-is ∙ so_far.capacity;
          }
    ]

pub returns-clause-items : goal.returns-clause-items
returns-clause-items g c = pushed_all (λ r. option_map g.V.Found.record_now (option_copied r)) c.args.rows.now c.loop-row.row-index c.loop-row.out.items _ c.loop-row.invariant.items c.loop-row-test.false
