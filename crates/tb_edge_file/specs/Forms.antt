-- What the arguments of the command line ask for.
use Rattle.std.specs.Prelude.{ℕ, true, false, ◌≡◌, List, [], ◌∷◌, Option, Some, None, Result, Ok, Err, codes, refl}
use Rattle.tb_edge_words.specs.Words.{asked_of, given_word}
use Rattle.tb_edge_words.specs.declared.faults.Fault.TheVariants as fault
use Rattle.tb_edge_words.specs.declared.faults.Wrong.{Wrong}
use Rattle.tb_edge_words.specs.declared.given.Given.{Given}
use Rattle.tb_edge_words.specs.declared.reading.Asked.{Asked}
use Rattle.tb_edge_words.specs.declared.reading.Asked.TheVariants as asked
use Rattle.tb_edge_words.specs.declared.table.FormName.{FormName}
use Rattle.tb_edge_words.specs.declared.table.FormName.TheVariants as name
use Rattle.tb_edge_words.specs.declared.table.Operand.TheVariants as operand
use Rattle.tb_records.specs.declared.limits.Profile.{Profile}
use Rattle.tb_records.specs.declared.limits.Profile.TheVariants.{One, Two}
use Rattle.tb_edge_file.specs.declared.arguments.Command.{Command}
use Rattle.tb_edge_file.specs.declared.arguments.Form.{Form}
use Rattle.tb_edge_file.specs.declared.arguments.Form.TheVariants as form
use Rattle.tb_edge_file.specs.declared.arguments.Options.{Options}
use Rattle.tb_edge_file.specs.declared.arguments.TheConstants.{FORMS}

-- what arguments ask for by the table of tb_edge_words
unfoldable pub asked_in : List (List ℕ) → Result Asked Wrong
asked_in words = asked_of FORMS.now words

abbrev pub given_options : Given → Options
given_options given = record { reports = given.progress; existing = given.existing; drops = given.drop_torn }

abbrev pub run_form : Option ℕ → Profile → Options → Option Form
run_form None profile options = None
run_form (Some clients_max) profile options = Some (form.Run clients_max profile options)

abbrev pub follow_form : Option ℕ → Profile → Option Form
follow_form None profile = None
follow_form (Some clients_max) profile = Some (form.Follow clients_max profile)

-- the form that is asked for, by what is given for it
abbrev pub form_by : FormName → Given → Option Form
form_by name.Run given = run_form given.clients_max given.profile (given_options given)
form_by name.Dump given = Some (form.Dump given.after given.follow)
form_by name.Follow given = follow_form given.clients_max given.profile
form_by name.Check given = Some (form.Check given.quick)
form_by name.Salvage given = Some form.Salvage
form_by name.Backup given = Some form.Backup
form_by name.Help given = Some (form.Help name.Help)
form_by name.Version given = Some form.Version

-- arguments that are no form: the first one is shown as wrong
abbrev pub form_or_fault : Option Form → Result Form Wrong
form_or_fault (Some form) = Ok form
form_or_fault None = Err (record { shown = 1; fault = fault.NoForm })

abbrev pub form_asked : Result Asked Wrong → Result Form Wrong
form_asked (Ok (asked.Form of given)) = form_or_fault (form_by of given)
form_asked (Ok (asked.Help of)) = Ok (form.Help of)
form_asked (Err wrong) = Err wrong

abbrev pub command_form : List (List ℕ) → Result Form Wrong
command_form words = form_asked (asked_in words)

abbrev pub file_asked : List (List ℕ) → Result Asked Wrong → List ℕ
file_asked words (Ok (asked.Form of given)) = given_word words given.file
file_asked words (Ok (asked.Help of)) = []
file_asked words (Err wrong) = []

-- the argument that names the file
abbrev pub file_word : List (List ℕ) → List ℕ
file_word words = file_asked words (asked_in words)

abbrev pub new_asked : List (List ℕ) → Result Asked Wrong → List ℕ
new_asked words (Ok (asked.Form of given)) = given_word words given.new
new_asked words (Ok (asked.Help of)) = []
new_asked words (Err wrong) = []

-- the argument that names the new file
abbrev pub new_word : List (List ℕ) → List ℕ
new_word words = new_asked words (asked_in words)

-- what was read: a command of a form, with the arguments that name its files; or what is wrong
abbrev pub ReadsForm : Result Command Wrong → Result Form Wrong → List ℕ → List ℕ → Type 0
ReadsForm (Ok command) form file new = (form ≡ Ok command.form) × (command.file.now ≡ file) × (command.new.now ≡ new)
ReadsForm (Err wrong) form file new = form ≡ Err wrong

-- a command was read from arguments, or which of them is wrong, and how
abbrev pub IsRead : Result Command Wrong → List (List ℕ) → Type 0
IsRead read words = ReadsForm read (command_form words) (file_word words) (new_word words)

-- the options of `run`
abbrev pub options_in : Form → Options
options_in (form.Run clients_max profile options) = options
options_in asked = record { reports = false; existing = false; drops = false }

-- rows

pub profile_one_is_the_default : command_form (codes "run" ∷ codes "ledger" ∷ codes "2" ∷ []) ≡ Ok (form.Run 2 One (record { reports = false; existing = false; drops = false }))
unfolding asked_in
profile_one_is_the_default = refl

pub a_start_is_reported : command_form (codes "run" ∷ codes "ledger" ∷ codes "2" ∷ codes "--progress" ∷ []) ≡ Ok (form.Run 2 One (record { reports = true; existing = false; drops = false }))
unfolding asked_in
a_start_is_reported = refl

pub three_options_in_any_order : command_form (codes "run" ∷ codes "--drop-torn" ∷ codes "ledger" ∷ codes "2" ∷ codes "--progress" ∷ codes "2" ∷ codes "--existing" ∷ [])
    ≡ Ok (form.Run 2 Two (record { reports = true; existing = true; drops = true }))
unfolding asked_in
three_options_in_any_order = refl

pub later_entries_are_followed : command_form (codes "dump" ∷ codes "--follow" ∷ codes "ledger" ∷ codes "--after" ∷ codes "40" ∷ []) ≡ Ok (form.Dump (Some 40) true)
unfolding asked_in
later_entries_are_followed = refl

pub the_file_is_behind_its_options : file_word (codes "dump" ∷ codes "--after" ∷ codes "40" ∷ codes "ledger" ∷ []) ≡ codes "ledger"
unfolding asked_in
the_file_is_behind_its_options = refl

pub a_file_is_salvaged : command_form (codes "salvage" ∷ codes "ledger" ∷ codes "./64" ∷ []) ≡ Ok form.Salvage
unfolding asked_in
a_file_is_salvaged = refl

pub the_new_file_is_the_second : new_word (codes "backup" ∷ codes "ledger" ∷ codes "copy" ∷ []) ≡ codes "copy"
unfolding asked_in
the_new_file_is_the_second = refl

pub a_log_is_followed : command_form (codes "follow" ∷ codes "64" ∷ []) ≡ Ok (form.Follow 64 One)
unfolding asked_in
a_log_is_followed = refl

pub a_log_is_followed_by_profile_two : command_form (codes "follow" ∷ codes "64" ∷ codes "2" ∷ []) ≡ Ok (form.Follow 64 Two)
unfolding asked_in
a_log_is_followed_by_profile_two = refl

pub no_log_is_in_a_file : command_form (codes "follow" ∷ codes "log" ∷ codes "64" ∷ []) ≡ Err (record { shown = 2; fault = fault.Wrong operand.ClientsMax })
unfolding asked_in
no_log_is_in_a_file = refl

pub a_log_has_no_options : command_form (codes "follow" ∷ codes "64" ∷ codes "--existing" ∷ []) ≡ Err (record { shown = 3; fault = fault.NoOption name.Follow })
unfolding asked_in
a_log_has_no_options = refl

pub a_check_is_quick : command_form (codes "check" ∷ codes "--quick" ∷ codes "./64" ∷ []) ≡ Ok (form.Check true)
unfolding asked_in
a_check_is_quick = refl

pub a_form_has_a_page : command_form (codes "run" ∷ codes "--help" ∷ []) ≡ Ok (form.Help name.Run)
unfolding asked_in
a_form_has_a_page = refl

pub a_number_names_no_file : command_form (codes "run" ∷ codes "64" ∷ codes "1" ∷ []) ≡ Err (record { shown = 2; fault = fault.Wrong operand.File })
unfolding asked_in
a_number_names_no_file = refl

pub files_are_missing : command_form (codes "run" ∷ []) ≡ Err (record { shown = 1; fault = fault.Missing name.Run operand.File })
unfolding asked_in
files_are_missing = refl

pub profile_is_wrong : command_form (codes "run" ∷ codes "ledger" ∷ codes "2" ∷ codes "3" ∷ codes "--existing" ∷ [])
    ≡ Err (record { shown = 4; fault = fault.Wrong operand.Profile })
unfolding asked_in
profile_is_wrong = refl
