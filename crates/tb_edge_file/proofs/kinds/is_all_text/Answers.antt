use Rattle.std.proofs.Common.{rules, tests}
use Rattle.std.proofs.lemmas.Iterator.{YieldsList-from_slice}
use Rattle.std.proofs.lemmas.Iterator.Search.{all_from_yields_List}
use Rattle.tb_edge_file.specs.Kinds.{is_text}
use Rattle.tb_edge_file.proofs.kinds.is_all_text.Goals as goal

pub returns : goal.returns
returns c = all_from_yields_List is_text _ _ c.all.result c.all.ensures.ran (YieldsList-from_slice c.args.first.now cc) (λ x b q k. search (rules, tests))
