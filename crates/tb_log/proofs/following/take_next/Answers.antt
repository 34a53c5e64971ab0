use Rattle.std.proofs.Common.{◌≡◌, ℕ, [], ◌∷◌, subst, arith}
use Rattle.tb_log.specs.Steps.{ReadsOnly}
use Rattle.tb_log.proofs.Items.{entry_item}
use Rattle.tb_log.proofs.following.take_next.Goals as goal

pub returns-in_ok-take_entry-in-Some-eq1 : goal.returns-in_ok-take_entry-in-Some-eq1
returns-in_ok-take_entry-in-Some-eq1 g c =
    let one : c.in-Some-eq1.field-0 ≡ 1 = omega arith in
    entry_item _ _ _ _ _ _ _
    (subst (λ (kind : ℕ). ReadsOnly (kind ∷ []) (g.R.Source.input c.args.reader.now) (g.R.Source.input c.kind_from.new.source)) one (rw c.in-Some-eq1.is at c.in_ok-kind_from.ensures))
    c.in_ok-take_entry-in-Some-eq1.ensures
