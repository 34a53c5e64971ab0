use Rattle.std.proofs.Common.{refl, sym}
use Rattle.tb_sessions.proofs.eviction.first_behind.Goals as goal

pub returns-else-row-commit-clause-behind : goal.returns-else-row-commit-clause-behind
returns-else-row-commit-clause-behind c = record {
  commit = c.in_ok-commit.commit.now;
  client = c.in_ok-commit.client.now;
  row = c.in_ok-row.row.now;
  first = sym c.in_ok-commit.ensures.pair;
  here = sym c.in_ok-row.ensures;
  is = refl;
  behind = c.if-row-commit.false;
}
