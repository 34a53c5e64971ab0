-- What is written of a file is a prefix of what is written of it later.
use Rattle.std.proofs.Common.{ℕ, List, [], ◌∷◌, ◌++◌, refl, sym, ◌∙◌, ap, append_assoc}
use Rattle.tb_file_journal.proofs.Growths.{extends_later}
use Rattle.tb_file.specs.Following.{entries_above}
use Rattle.tb_file.proofs.Dumping.{entries_once}
use Rattle.tb_edge_file.specs.Following.{start_of, floor_of}
use Rattle.tb_edge_file.specs.DumpLaws.{PartsGoOn, DumpsAreParts}

pub parts_go_on : PartsGoOn
parts_go_on after rules file later records is since =
    let further = extends_later records file later is since in
    record {
      records = records ++ further.more;
      reads = further.reads;
      rest = entries_above (floor_of after) records further.more;
      begins = ap (λ (l : List ℕ). start_of after rules ++ l) (sym (entries_once (floor_of after) [] records further.more))
          ∙ sym (append_assoc (start_of after rules) (entries_above (floor_of after) [] records) (entries_above (floor_of after) records further.more));
    }

pub dumps_are_parts : DumpsAreParts
dumps_are_parts rules [] = refl
dumps_are_parts rules (head ∷ records) = refl
