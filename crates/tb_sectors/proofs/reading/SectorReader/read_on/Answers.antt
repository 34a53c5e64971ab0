use Rattle.std.proofs.Common.{◌≡◌, ◌∙◌, sym, ap, arith, false, Some, None}
use Rattle.std.specs.Prelude.{if◌then◌else◌}
use Rattle.tb_sectors.specs.Stamped.{Taken, stamped, begins_in, file_sectors}
use Rattle.tb_sectors.proofs.Readers.{stopped, went_on, one_counted, closed_ends}
use Rattle.tb_sectors.proofs.reading.SectorReader.read_on.Goals as goal

is_open : (t u : Taken) → u ≡ t → u.closed ≡ false → t.closed ≡ false
is_open t u same ready = sym (ap (λ (x : Taken). x.closed) same) ∙ ready

pub returns-then-self : goal.returns-then-self
returns-then-self c = sym c.loop-rest.invariant.read ∙ closed_ends c.loop-rest.self (file_sectors c.loop-rest.rest.now) (sym (ap (λ (x : Taken). x.closed) c.self.view_is) ∙ c.if-self.true)

pub returns-in-Ok-false : goal.returns-in-Ok-false
returns-in-Ok-false c =
    stopped c.loop-rest.self c.take.new.self c.args.self.now c.loop-rest.rest.now c.split_at.result.0.now c.args.file.now _ _ (is_open c.loop-rest.self _ c.self.view_is c.if-self.false) (omega arith) c.split_at.ensures.front c.in-Ok-false.field-0-test
    c.in-Ok-false.ensures.taken
    (c.damage_at.ensures ∙ ap (λ (t : Taken). if begins_in (file_sectors c.loop-rest.rest.now) then Some t.count else None) c.self-in-loop-rest.view_is) c.loop-rest.invariant.read

pub loop-rest-preserved : goal.loop-rest-preserved
loop-rest-preserved c = record {
  read = went_on c.loop-rest.self c.take.new.self c.args.self.now c.loop-rest.rest.now c.split_at.result.0.now c.split_at.result.1.now c.args.file.now _ (omega arith)
      c.split_at.ensures.front c.split_at.ensures.back c.in-Ok-true.field-0-test c.in-Ok-true.ensures.taken c.loop-rest.invariant.read;
  sectors = omega arith;
  near = omega (arith, one_counted c.loop-rest.self c.take.new.self (stamped c.split_at.result.0.now) _ c.in-Ok-true.field-0-test c.in-Ok-true.ensures.taken);
}
