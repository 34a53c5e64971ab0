use Rattle.std.proofs.Common.{◌≡◌, take}
use Rattle.std.specs.Prelude.{reverse}
use Rattle.tb_file_journal.specs.Memory.{LeftBy}
use Rattle.tb_file_journal.specs.Torn.{torn_after}
use Rattle.tb_file_journal.proofs.memory.Memory.after_crash.Given as goal

abbrev pub invariant-loop-call : goal.invariant-loop-call
invariant-loop-call l = record {
  among : LeftBy l.self.first.items (reverse (take l.call-index l.self.calls.items)) l.file.items;
  exact : l.file.items ≡ torn_after l.fn.torn l.self.first.items (reverse (take l.call-index l.self.calls.items));
}
