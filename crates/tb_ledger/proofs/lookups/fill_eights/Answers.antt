use Rattle.tb_ledger.proofs.Common.{◌≡◌, ◌++◌, ◌==◌, find, append_assoc, sym, ap, ◌∙◌, arith, filter_map, filter_map-append, found_in}
use Rattle.tb_ledger.proofs.FoundIds.{found-many, cut, cut-length, same-length}
use Rattle.tb_ledger.proofs.lookups.fill_eights.Goals as goal

pub loop-eight-preserved : goal.loop-eight-preserved
loop-eight-preserved g c =
    let rows = c.args.table.now.items in
    let eight = c.in-Some.eight.now in
    let later = c.in-Some.later.now in
    let cases = c.in-Some.ensures.cases in
    let whole : eight ++ later ≡ c.loop-eight.rest.now = cut 8 c.loop-eight.rest.now eight later cases.0 cases.1 in
    let many = found-many g.V.Found.record_now (λ id. find (λ row. g.V.Keyed.key row == id) rows) c.get_many.result eight c.get_many.ensures in
    let count = same-length (λ id. find (λ row. g.V.Keyed.key row == id) rows) c.get_many.result eight c.get_many.ensures in
    let sum = cut-length 8 c.loop-eight.rest.now eight later cases.0 cases.1 in
    record {
      items =
          ap (λ xs. xs ++ filter_map (found_in g.V.Keyed.key g.V.Found.record_now rows) later) c.push_found.ensures.items
          ∙ append_assoc c.loop-eight.out.items _ (filter_map (found_in g.V.Keyed.key g.V.Found.record_now rows) later)
          ∙ ap (λ xs. c.loop-eight.out.items ++ xs) (ap (λ xs. xs ++ filter_map (found_in g.V.Keyed.key g.V.Found.record_now rows) later) many ∙ sym (filter_map-append (found_in g.V.Keyed.key g.V.Found.record_now rows) eight later) ∙ ap (filter_map (found_in g.V.Keyed.key g.V.Found.record_now rows)) whole)
          ∙ c.loop-eight.invariant.items;
      rest = omega (arith, c.push_found.ensures.len, c.loop-eight.invariant.rest, c.push_found.ensures.capacity, count, sum);
      capacity = c.push_found.ensures.capacity ∙ c.loop-eight.invariant.capacity;
    }
