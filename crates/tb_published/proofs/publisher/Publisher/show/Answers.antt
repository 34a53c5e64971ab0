use Rattle.std.proofs.Common.{rules}
use Rattle.tb_published.proofs.publisher.Publisher.show.Goals as goal

pub returns-else-shows_all-clause-ends : goal.returns-else-shows_all-clause-ends
returns-else-shows_all-clause-ends g c = search rules
