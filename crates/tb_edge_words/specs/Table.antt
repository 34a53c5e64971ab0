-- The table of forms: the word of each form, its operands in their order, and its options.
use Rattle.std.specs.Prelude.{ℕ, Bool, true, false, List, [], ◌∷◌, codes}
use Rattle.tb_edge_words.specs.declared.table.FormName.{FormName}
use Rattle.tb_edge_words.specs.declared.table.FormName.TheVariants as form
use Rattle.tb_edge_words.specs.declared.table.Operand.{Operand}
use Rattle.tb_edge_words.specs.declared.table.Operand.TheVariants.{File, New, ClientsMax, Profile}
use Rattle.tb_edge_words.specs.declared.table.OptionName.{OptionName}
use Rattle.tb_edge_words.specs.declared.table.OptionName.TheVariants.{Existing, Progress, DropTorn, After, Follow, Quick}

abbrev pub form_word : FormName → List ℕ
form_word form.Run = codes "run"
form_word form.Dump = codes "dump"
form_word form.Follow = codes "follow"
form_word form.Check = codes "check"
form_word form.Salvage = codes "salvage"
form_word form.Backup = codes "backup"
form_word form.Help = codes "--help"
form_word form.Version = codes "--version"

abbrev pub operands_of : FormName → List Operand
operands_of form.Run = File ∷ ClientsMax ∷ Profile ∷ []
operands_of form.Dump = File ∷ []
operands_of form.Follow = ClientsMax ∷ Profile ∷ []
operands_of form.Check = File ∷ []
operands_of form.Salvage = File ∷ New ∷ []
operands_of form.Backup = File ∷ New ∷ []
operands_of form.Help = []
operands_of form.Version = []

abbrev pub options_of : FormName → List OptionName
options_of form.Run = Existing ∷ Progress ∷ DropTorn ∷ []
options_of form.Dump = After ∷ Follow ∷ []
options_of form.Follow = []
options_of form.Check = Quick ∷ []
options_of form.Salvage = []
options_of form.Backup = []
options_of form.Help = []
options_of form.Version = []

abbrev pub option_word : OptionName → List ℕ
option_word Existing = codes "--existing"
option_word Progress = codes "--progress"
option_word DropTorn = codes "--drop-torn"
option_word After = codes "--after"
option_word Follow = codes "--follow"
option_word Quick = codes "--quick"

-- the option that has its value in the next word
abbrev pub has_value : OptionName → Bool
has_value After = true
has_value other = false

-- the operand that may be omitted
abbrev pub is_optional : Operand → Bool
is_optional Profile = true
is_optional other = false
