-- The names of a follower's faults, and their lines.
use Rattle.std.specs.Prelude.{◌≡◌, ℕ, List, ◌++◌, codes, refl}
use Rattle.std.specs.Fmt.{decimal, digits}
use Rattle.tb_records.specs.declared.faults.FrameFault.TheVariants as frame
use Rattle.tb_records.specs.Faults as frames
use Rattle.tb_log.specs.declared.faults.LogFault.{LogFault}
use Rattle.tb_log.specs.declared.faults.LogFault.TheVariants.{Device, NoMemory, Short, UnknownKind, Gap, Repeat, TooLong, Damaged, BadEntry, TimeExhausted, TooMany}

abbrev pub log_fault_name : LogFault → List ℕ
log_fault_name Device = codes "Device"
log_fault_name NoMemory = codes "NoMemory"
log_fault_name Short = codes "Short"
log_fault_name (UnknownKind kind) = codes "UnknownKind"
log_fault_name (Gap position) = codes "Gap"
log_fault_name (Repeat position) = codes "Repeat"
log_fault_name (TooLong position) = codes "TooLong"
log_fault_name (Damaged position) = codes "Damaged"
log_fault_name (BadEntry position fault) = codes "BadEntry"
log_fault_name (TimeExhausted position) = codes "TimeExhausted"
log_fault_name TooMany = codes "TooMany"

-- its line: the name, with the byte that begins no item, or with the position of the entry with the fault
abbrev pub log_fault_text : LogFault → List ℕ
log_fault_text (UnknownKind kind) = codes "UnknownKind " ++ decimal kind
log_fault_text (Gap position) = codes "Gap at " ++ decimal position
log_fault_text (Repeat position) = codes "Repeat at " ++ decimal position
log_fault_text (TooLong position) = codes "TooLong at " ++ decimal position
log_fault_text (Damaged position) = codes "Damaged at " ++ decimal position
log_fault_text (TimeExhausted position) = codes "TimeExhausted at " ++ decimal position
log_fault_text (BadEntry position fault) = codes "BadEntry at " ++ decimal position ++ (codes ": " ++ frames.fault_name fault)
log_fault_text fault = log_fault_name fault

-- examples

pub entry_too_early : log_fault_text (Gap 12) ≡ codes "Gap at 12"
unfolding digits
entry_too_early = refl

pub entry_with_a_cut_pair : log_fault_text (BadEntry 7 frame.Short) ≡ codes "BadEntry at 7: Short"
unfolding digits
entry_with_a_cut_pair = refl
