use Rattle.std.proofs.Common.{◌≡◌, Option, Some, None, MatchOption, Bor, sym, ◌∙◌}
use Rattle.std.specs.Option.{option_copied}
use Rattle.avl_tree.specs.Map.{entries}
use Rattle.tb_sessions.specs.Judged.{client_of}
use Rattle.tb_records.proofs.Entries.{found-row}
use Rattle.tb_sessions.proofs.table.Sessions.stored.Goals as goal

by_answer : {X : Type 0} (answer : Option (Bor X)) (found : Option X) → option_copied answer ≡ found → MatchOption answer (found ≡ None) (λ x. found ≡ Some x.now)
by_answer None found is = sym is
by_answer (Some x) found is = sym is

pub returns : goal.returns
returns c = rw (← c.self.view_is) (by_answer c.get.result _ (c.get.ensures ∙ found-row client_of c.args.client (entries c.self.inside.rows) c.self.invariant.indexed.own))
