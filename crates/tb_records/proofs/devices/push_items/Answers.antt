use Rattle.std.proofs.Common.{◌≡◌, ◌+◌, ◌*◌, [], ◌∷◌, ◌++◌, sym, subst, arith}
use Rattle.std.proofs.lemmas.List.Elements.{All-push}
use Rattle.std.specs.List.{All}
use Rattle.tb_records.proofs.ItemBytes.{row_more}
use Rattle.tb_records.proofs.Pieces.{rejoined}
use Rattle.tb_records.proofs.devices.push_items.Goals as goal

pub loop-preserved : goal.loop-preserved
loop-preserved g c =
    let items : c.push_reserved.new.self.items ≡ c.loop.items.items ++ c.read.result ∷ [] = c.push_reserved.ensures.items in
    let cut : c.split_at.result.0.now ++ c.split_at.result.1.now ≡ c.loop.rest.now = rejoined c.SIZE.result _ _ _ c.split_at.ensures.front c.split_at.ensures.back in
    let next : g.T.Item.SIZE * (c.loop.counter + 1) ≡ g.T.Item.SIZE * c.loop.counter + g.T.Item.SIZE = omega arith in
    record {
      long = omega arith;
      capacity = omega arith;
      left = omega (arith, next);
      spelled = simp items (row_more g.T.Item.spelling c.loop.items.items c.read.result _ _ _ _ cut c.read.ensures.spelled c.loop.invariant.spelled);
      fit = λ all. subst (λ xs. All g.T.Item.Fits xs) (sym items) (All-push g.T.Item.Fits c.loop.items.items c.read.result (c.loop.invariant.fit all) c.read.ensures.fits);
    }
