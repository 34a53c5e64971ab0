-- What the words of the command line ask for.
use Rattle.std.specs.Prelude.{ℕ, Bool, ◌&&◌, ◌+◌, ◌-◌, ◌*◌, ◌^◌, nat_le, nat_eq, List, [], ◌∷◌, Option, Some, None, if◌then◌else◌, codes}
use Rattle.std.specs.Option.{option_and_then}
use Rattle.std.specs.Cmp.Lexicographic.{pointwise}
use Rattle.tb_records.specs.declared.limits.Profile.{Profile}
use Rattle.tb_records.specs.declared.limits.TheConstants.{CLIENTS_MAX}
use Rattle.tb_records.specs.declared.limits.Profile.TheVariants.{One, Two}
use Rattle.tb_edge_commands.specs.declared.arguments.Form.{Form}
use Rattle.tb_edge_commands.specs.declared.arguments.Form.TheVariants.{Run, Dump, Replay}

-- the value of a digit, 0 to 9
abbrev pub digit_of : ℕ → Option ℕ
digit_of byte = if nat_le 48 byte && nat_le byte 57 then Some (byte - 48) else None

-- the number of the digits, after those whose number is n
abbrev pub number_from : ℕ → List ℕ → Option ℕ
number_from n [] = Some n
number_from n (byte ∷ bytes) = option_and_then (λ digit. number_from (n * 10 + digit) bytes) (digit_of byte)

-- the number of a word: one or more digits, leading zeros allowed
abbrev pub number_of : List ℕ → Option ℕ
number_of [] = None
number_of (byte ∷ bytes) = number_from 0 (byte ∷ bytes)

-- a number with one more digit, if it is at most `high`
abbrev pub with_digit : ℕ → ℕ → ℕ → Option ℕ
with_digit n byte high = option_and_then (λ digit. if nat_le (n * 10 + digit) high then Some (n * 10 + digit) else None) (digit_of byte)

-- the number, if it is in the range
abbrev pub within : ℕ → ℕ → Option ℕ → Option ℕ
within low high None = None
within low high (Some n) = if nat_le low n && nat_le n high then Some n else None

-- a number of clients that can have a session at one time
abbrev pub clients_of : List ℕ → Option ℕ
clients_of word = within 1 CLIENTS_MAX (number_of word)

abbrev pub given_profile : Option ℕ → Option Profile
given_profile None = None
given_profile (Some n) = Some (if nat_le n 1 then One else Two)

-- profile 1 or 2
abbrev pub profile_word : List ℕ → Option Profile
profile_word word = given_profile (within 1 2 (number_of word))

abbrev pub run_by : Option ℕ → Option Profile → Option Form
run_by None profile = None
run_by (Some clients) None = None
run_by (Some clients) (Some profile) = Some (Run clients profile)

abbrev pub dump_by : Option ℕ → Option Form
dump_by None = None
dump_by (Some clients) = Some (Dump clients None)

-- the number of a commit, 0 to 2^63 - 1
abbrev pub commit_of : List ℕ → Option ℕ
commit_of word = within 0 (2 ^ 63 - 1) (number_of word)

abbrev pub dump_at_by : Option ℕ → Option ℕ → Option Form
dump_at_by None at = None
dump_at_by (Some clients) None = None
dump_at_by (Some clients) (Some at) = Some (Dump clients (Some at))

abbrev pub is_run : List ℕ → Bool
is_run word = pointwise nat_eq word (codes "run")

abbrev pub is_dump : List ℕ → Bool
is_dump word = pointwise nat_eq word (codes "dump")

abbrev pub is_replay : List ℕ → Bool
is_replay word = pointwise nat_eq word (codes "replay")

-- `replay`
abbrev pub form_alone : List ℕ → Option Form
form_alone word = if is_replay word then Some Replay else None

-- `run CLIENTS_MAX` or `dump CLIENTS_MAX`
abbrev pub form_with : List ℕ → List ℕ → Option Form
form_with word clients =
    if is_run word then run_by (clients_of clients) (Some One)
    else if is_dump word then dump_by (clients_of clients)
    else None

-- `run CLIENTS_MAX PROFILE` or `dump CLIENTS_MAX AT`
abbrev pub form_with_two : List ℕ → List ℕ → List ℕ → Option Form
form_with_two word clients last =
    if is_run word then run_by (clients_of clients) (profile_word last)
    else if is_dump word then dump_at_by (clients_of clients) (commit_of last)
    else None

abbrev pub form_of : List (List ℕ) → Option Form
form_of [] = None
form_of (word ∷ []) = form_alone word
form_of (word ∷ clients ∷ []) = form_with word clients
form_of (word ∷ clients ∷ last ∷ []) = form_with_two word clients last
form_of (word ∷ clients ∷ last ∷ more ∷ rest) = None
