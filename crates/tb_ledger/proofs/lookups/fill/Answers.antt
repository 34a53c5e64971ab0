use Rattle.tb_ledger.proofs.Common.{Some, get_or, refl, sym, ap, ◌∙◌, option_copied, option_map, vec_len, vec_capacity, arith, found_in}
use Rattle.tb_ledger.proofs.Pushed.{one_fewer, pushed_all, pushed_one, passed_one}
use Rattle.tb_ledger.proofs.lookups.fill.Goals as goal
use Rattle.tb_ledger.proofs.lookups.fill.Goals.{in-Some, in_default}

pub loop-id-preserved : goal.loop-id-preserved
loop-id-preserved g c =
    let rest = c.fill_eights-rest.result.now in
    let i = c.loop-id.id-index in
    let so_far = c.loop-id.invariant in
    let within = c.loop-id-test.true in
    let fewer = one_fewer rest i within in
    elim c.match-get.branch [
      | in-Some w ↦
          let pushed = w.push_reserved.ensures in
          let len = ap vec_len w.out-is in
          let room = ap vec_capacity w.out-is in
          record {
            items = pushed_one (found_in g.V.Keyed.key g.V.Found.record_now c.args.table.now.items) rest i c.loop-id.out.items _ so_far.items (get_or rest i 0) 0 within refl c.match-get.out.items w.found.result (ap (λ v. v.items) w.out-is ∙ pushed.items) (ap (option_map g.V.Found.record_now) (sym c.get.ensures ∙ ap option_copied w.in-Some.is) ∙ ap Some (sym w.found.ensures));
            rest = omega (arith, len, room, pushed.len, pushed.capacity, fewer, so_far.rest);
            capacity = room ∙ pushed.capacity ∙ so_far.capacity;
          }
      | in_default w ↦
          let len = ap vec_len w.out-is in
          let room = ap vec_capacity w.out-is in
          record {
            items = passed_one (found_in g.V.Keyed.key g.V.Found.record_now c.args.table.now.items) rest i c.loop-id.out.items _ so_far.items (get_or rest i 0) 0 within refl c.match-get.out.items (ap (λ v. v.items) w.out-is) (ap (option_map g.V.Found.record_now) (sym c.get.ensures ∙ ap option_copied w.in_default.is));
            rest = omega (arith, len, room, fewer, so_far.rest);
            capacity = room ∙ so_far.capacity;
          }
    ]

pub returns-clause-items : goal.returns-clause-items
returns-clause-items g c = pushed_all (found_in g.V.Keyed.key g.V.Found.record_now c.args.table.now.items) c.fill_eights-rest.result.now c.loop-id.id-index c.loop-id.out.items _ c.loop-id.invariant.items c.loop-id-test.false
