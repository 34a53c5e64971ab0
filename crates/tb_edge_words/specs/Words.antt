-- Which words a form takes, what they give, and what is wrong with words that no form takes.
use Rattle.std.specs.Prelude.{ℕ, Bool, true, false, ◌≡◌, ◌&&◌, ◌==◌, ◌+◌, nat_lt, nat_eq, List, [], ◌∷◌, length, drop, Option, Some, None, Result, Ok, Err, if◌then◌else◌, codes, find, is_some, slice_get, get_or, refl}
use Rattle.std.specs.Char.{is_ascii_digit}
use Rattle.std.specs.List.{list_all, list_any}
use Rattle.std.specs.Option.{option_map}
use Rattle.std.specs.Cmp.Lexicographic.{pointwise}
use Rattle.tb_edge_commands.specs.Forms.{clients_of, profile_word, commit_of}
use Rattle.tb_records.specs.declared.limits.Profile.TheVariants.{One, Two}
use Rattle.tb_edge_words.specs.declared.faults.Fault.{Fault}
use Rattle.tb_edge_words.specs.declared.faults.Fault.TheVariants as fault
use Rattle.tb_edge_words.specs.declared.faults.Wrong.{Wrong}
use Rattle.tb_edge_words.specs.declared.faults.TheConstants.{CLIENTS_MISSING, CLIENTS_WRONG}
use Rattle.tb_edge_words.specs.declared.given.Given.{Given}
use Rattle.tb_edge_words.specs.declared.reading.Asked.{Asked}
use Rattle.tb_edge_words.specs.declared.reading.Asked.TheVariants.{Help, Form}
use Rattle.tb_edge_words.specs.declared.reading.Reader.{Reader}
use Rattle.tb_edge_words.specs.declared.table.FormName.{FormName}
use Rattle.tb_edge_words.specs.declared.table.FormName.TheVariants as form
use Rattle.tb_edge_words.specs.declared.table.Operand.{Operand}
use Rattle.tb_edge_words.specs.declared.table.Operand.TheVariants as operand
use Rattle.tb_edge_words.specs.declared.table.OptionName.{OptionName}
use Rattle.tb_edge_words.specs.declared.table.OptionName.TheVariants as option
use Rattle.tb_edge_words.specs.Table.{form_word, has_value, is_optional, operands_of, option_word, options_of}

-- the first byte is `-`
abbrev pub is_option : List ℕ → Bool
is_option [] = false
is_option (first ∷ rest) = first == 45

-- one or more digits, and nothing else: not the name of a file. `./64` names the file `64`
abbrev pub is_number : List ℕ → Bool
is_number word = nat_lt 0 (length word) && list_all is_ascii_digit word

-- before any word is read: profile 1, and no option
abbrev pub nothing : Given
nothing = record { file = None; new = None; clients_max = None; profile = One; existing = false; progress = false; drop_torn = false; follow = false; quick = false; after = None }

-- with the word at a place for an operand, if it is of its kind
abbrev pub with_operand : Given → Operand → ℕ → List ℕ → Option Given
with_operand given operand.File at word = if is_number word then None else Some (record given { file = Some at })
with_operand given operand.New at word = if is_number word then None else Some (record given { new = Some at })
with_operand given operand.ClientsMax at word = option_map (λ clients. record given { clients_max = Some clients }) (clients_of word)
with_operand given operand.Profile at word = option_map (λ profile. record given { profile = profile }) (profile_word word)

-- with an option, if it was not given before
abbrev pub with_option : Given → OptionName → Option Given
with_option given option.Existing = if given.existing then None else Some (record given { existing = true })
with_option given option.Progress = if given.progress then None else Some (record given { progress = true })
with_option given option.DropTorn = if given.drop_torn then None else Some (record given { drop_torn = true })
with_option given option.Follow = if given.follow then None else Some (record given { follow = true })
with_option given option.Quick = if given.quick then None else Some (record given { quick = true })
with_option given option.After = if is_some given.after then None else Some given

-- with the value of `--after`, a commit number
abbrev pub with_value : Given → List ℕ → Option Given
with_value given word = option_map (λ commit. record given { after = Some commit }) (commit_of word)

-- a word is the value of the option before it
abbrev pub value_read : Reader → Option Given → Result Reader Fault
value_read reader None = Err fault.WrongValue
value_read reader (Some given) = Ok (record reader { given = given; waits = false })

-- or an option of the form
abbrev pub option_read : Reader → OptionName → Option Given → Result Reader Fault
option_read reader name None = Err fault.Twice
option_read reader name (Some given) = Ok (record reader { given = given; waits = has_value name })

abbrev pub option_named : FormName → Reader → Option OptionName → Result Reader Fault
option_named name reader None = Err (fault.NoOption name)
option_named name reader (Some found) = option_read reader found (with_option reader.given found)

-- or the form's next operand
abbrev pub operand_read : Reader → Operand → Option Given → Result Reader Fault
operand_read reader next None = Err (fault.Wrong next)
operand_read reader next (Some given) = Ok (record reader { given = given; operands = reader.operands + 1 })

abbrev pub operand_next : Reader → Option Operand → ℕ → List ℕ → Result Reader Fault
operand_next reader None at word = Err fault.TooMany
operand_next reader (Some next) at word = operand_read reader next (with_operand reader.given next at word)

-- one more word: the value of the option before it, an option, or an operand
abbrev pub with_word : FormName → Reader → ℕ → List ℕ → Result Reader Fault
with_word name reader at word =
    if reader.waits then value_read reader (with_value reader.given word)
    else if is_option word then option_named name reader (find (λ known. pointwise nat_eq (option_word known) word) (options_of name))
    else operand_next reader (slice_get (operands_of name) reader.operands) at word

abbrev pub operands_end : FormName → Reader → ℕ → Option Operand → Result Given Wrong
operands_end name reader at None = Ok reader.given
operands_end name reader at (Some next) = if is_optional next then Ok reader.given else Err (record { shown = at; fault = fault.Missing name next })

-- the words end: no value is missing, and no operand except one that may be omitted
abbrev pub at_end : FormName → Reader → ℕ → Result Given Wrong
at_end name reader at =
    if reader.waits then Err (record { shown = at; fault = fault.NoValue })
    else operands_end name reader at (slice_get (operands_of name) reader.operands)

-- what words give for a form, after what was read; the first of them has this place
abbrev pub reads : FormName → Reader → ℕ → List (List ℕ) → Result Given Wrong
reads name reader at [] = at_end name reader at
reads name reader at (word ∷ rest) =
    elim (with_word name reader at word) [ Ok after ↦ reads name after (at + 1) rest | Err wrong ↦ Err (record { shown = at + 1; fault = wrong }) ]

-- before the first word
abbrev pub first_reader : Reader
first_reader = record { given = nothing; operands = 0; waits = false }

-- `-h` is `--help`
abbrev pub whole_word : List ℕ → List ℕ
whole_word word = if pointwise nat_eq word (codes "-h") then codes "--help" else word

abbrev pub is_help : List ℕ → Bool
is_help word = pointwise nat_eq (whole_word word) (codes "--help")

abbrev pub form_given : FormName → Result Given Wrong → Result Asked Wrong
form_given name (Ok given) = Ok (Form name given)
form_given name (Err wrong) = Err wrong

-- words after that of a form: one of them asks for help, or they are what the form takes
abbrev pub asked_by : Option FormName → List (List ℕ) → Result Asked Wrong
asked_by None rest = Err (record { shown = 1; fault = fault.NoForm })
asked_by (Some name) rest = if list_any is_help rest then Ok (Help name) else form_given name (reads name first_reader 1 rest)

-- the form of a word, among these
abbrev pub form_named : List FormName → List ℕ → Option FormName
form_named forms word = find (λ known. pointwise nat_eq (form_word known) (whole_word word)) forms

-- the word at a place; an empty one if there is no word
abbrev pub word_at : List (List ℕ) → ℕ → List ℕ
word_at words at = get_or words at []

-- the word of a place that is given; an empty one if no place is given
abbrev pub given_word : List (List ℕ) → Option ℕ → List ℕ
given_word words None = []
given_word words (Some at) = word_at words at

-- what words ask for: the first one names the form
abbrev pub asked_of : List FormName → List (List ℕ) → Result Asked Wrong
asked_of forms words =
    if length words == 0 then Err (record { shown = 0; fault = fault.NoForm })
    else asked_by (form_named forms (word_at words 0)) (drop 1 words)

-- what a line shows of a fault
-- no FILE is given, and nothing after it
abbrev pub file_text : FormName → List ℕ
file_text form.Run = codes "FILE and CLIENTS_MAX are missing"
file_text form.Salvage = codes "FILE and NEW are missing"
file_text form.Backup = codes "FILE and NEW are missing"
file_text name = codes "FILE is missing"

abbrev pub missing_text : FormName → Operand → List ℕ
missing_text name operand.File = file_text name
missing_text name operand.New = codes "NEW is missing"
missing_text name operand.ClientsMax = CLIENTS_MISSING.now
missing_text name operand.Profile = codes "PROFILE is missing"

abbrev pub wrong_operand_text : Operand → List ℕ
wrong_operand_text operand.File = codes "FILE is a number; write ./FILE"
wrong_operand_text operand.New = codes "NEW is a number; write ./NEW"
wrong_operand_text operand.ClientsMax = CLIENTS_WRONG.now
wrong_operand_text operand.Profile = codes "PROFILE is 1 or 2"

abbrev pub option_text : FormName → List ℕ
option_text form.Run = codes "unknown option; those of run are --existing, --progress and --drop-torn"
option_text form.Dump = codes "unknown option; those of dump are --after COMMIT and --follow"
option_text form.Check = codes "unknown option; that of check is --quick"
option_text form.Follow = codes "unknown option; follow has none"
option_text name = codes "unknown option; write ./NAME for a file of that name"

abbrev pub word_fault_text : Fault → List ℕ
word_fault_text fault.NoForm = codes "unknown; --help shows the forms"
word_fault_text (fault.NoOption name) = option_text name
word_fault_text fault.Twice = codes "an option is given once"
word_fault_text (fault.Wrong next) = wrong_operand_text next
word_fault_text fault.WrongValue = codes "COMMIT is 0 to 9223372036854775807"
word_fault_text fault.TooMany = codes "too many words"
word_fault_text (fault.Missing name next) = missing_text name next
word_fault_text fault.NoValue = codes "COMMIT is missing, 0 to 9223372036854775807"

-- rows

-- the forms of the rows
abbrev pub two_forms : List FormName
two_forms = form.Run ∷ form.Dump ∷ form.Help ∷ []

pub a_profile_may_be_omitted : asked_of two_forms (codes "run" ∷ codes "ledger" ∷ codes "2" ∷ [])
    ≡ Ok (Form form.Run (record nothing { file = Some 1; clients_max = Some 2 }))
a_profile_may_be_omitted = refl

pub options_go_between_operands : asked_of two_forms (codes "dump" ∷ codes "--after" ∷ codes "7" ∷ codes "ledger" ∷ codes "--follow" ∷ [])
    ≡ Ok (Form form.Dump (record nothing { file = Some 3; follow = true; after = Some 7 }))
options_go_between_operands = refl

pub three_options : asked_of two_forms (codes "run" ∷ codes "ledger" ∷ codes "2" ∷ codes "--drop-torn" ∷ codes "--existing" ∷ codes "2" ∷ codes "--progress" ∷ [])
    ≡ Ok (Form form.Run (record nothing { file = Some 1; clients_max = Some 2; profile = Two; existing = true; progress = true; drop_torn = true }))
three_options = refl

pub an_option_comes_once : asked_of two_forms (codes "run" ∷ codes "--existing" ∷ codes "ledger" ∷ codes "--existing" ∷ codes "0" ∷ [])
    ≡ Err (record { shown = 4; fault = fault.Twice })
an_option_comes_once = refl

pub an_option_is_no_value : asked_of two_forms (codes "dump" ∷ codes "ledger" ∷ codes "--after" ∷ codes "--follow" ∷ codes "1" ∷ [])
    ≡ Err (record { shown = 4; fault = fault.WrongValue })
an_option_is_no_value = refl

pub a_value_is_missing : asked_of two_forms (codes "dump" ∷ codes "ledger" ∷ codes "--after" ∷ []) ≡ Err (record { shown = 3; fault = fault.NoValue })
a_value_is_missing = refl

pub a_number_is_no_file : asked_of two_forms (codes "run" ∷ codes "64" ∷ codes "1" ∷ []) ≡ Err (record { shown = 2; fault = fault.Wrong operand.File })
a_number_is_no_file = refl

pub an_operand_is_missing : asked_of two_forms (codes "run" ∷ codes "./64" ∷ []) ≡ Err (record { shown = 2; fault = fault.Missing form.Run operand.ClientsMax })
an_operand_is_missing = refl

pub a_word_is_too_many : asked_of two_forms (codes "dump" ∷ codes "ledger" ∷ codes "7" ∷ codes "8" ∷ []) ≡ Err (record { shown = 3; fault = fault.TooMany })
a_word_is_too_many = refl

pub help_of_a_form : asked_of two_forms (codes "run" ∷ codes "ledger" ∷ codes "-h" ∷ []) ≡ Ok (Help form.Run)
help_of_a_form = refl

pub help_of_the_program : asked_of two_forms (codes "-h" ∷ []) ≡ Ok (Form form.Help nothing)
help_of_the_program = refl

pub a_log_is_followed : asked_of (form.Follow ∷ []) (codes "follow" ∷ codes "64" ∷ codes "2" ∷ [])
    ≡ Ok (Form form.Follow (record nothing { clients_max = Some 64; profile = Two }))
a_log_is_followed = refl

pub help_of_a_form_without_a_file : asked_of (form.Follow ∷ []) (codes "follow" ∷ codes "64" ∷ codes "--help" ∷ []) ≡ Ok (Help form.Follow)
help_of_a_form_without_a_file = refl

pub a_form_without_options : asked_of (form.Follow ∷ []) (codes "follow" ∷ codes "64" ∷ codes "--existing" ∷ [])
    ≡ Err (record { shown = 3; fault = fault.NoOption form.Follow })
a_form_without_options = refl

pub no_form_of_the_program : asked_of two_forms (codes "check" ∷ codes "ledger" ∷ []) ≡ Err (record { shown = 1; fault = fault.NoForm })
no_form_of_the_program = refl
