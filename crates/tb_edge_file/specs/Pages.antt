-- The pages of usage.
use Rattle.std.specs.Prelude.{ℕ, List}
use Rattle.tb_edge_words.specs.declared.table.FormName.{FormName}
use Rattle.tb_edge_words.specs.declared.table.FormName.TheVariants as name
use Rattle.tb_edge_file.specs.declared.help.TheConstants.{BACKUP, CHECK, DUMP, FOLLOW, RUN, SALVAGE, USAGE}

-- the page of a form; for `--help` and `--version`, the page of the program
abbrev pub page_of : FormName → List ℕ
page_of name.Run = RUN.now
page_of name.Dump = DUMP.now
page_of name.Follow = FOLLOW.now
page_of name.Check = CHECK.now
page_of name.Salvage = SALVAGE.now
page_of name.Backup = BACKUP.now
page_of name.Help = USAGE.now
page_of name.Version = USAGE.now
