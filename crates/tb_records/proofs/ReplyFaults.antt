-- The first fault of a reply's frame, by the fault of its header and its length.
use Rattle.std.proofs.Common.{◌≡◌, ℕ, ◌+◌, ◌<◌, ◌≤◌, List, length, Some, None, Err, arith}
use Rattle.std.proofs.lemmas.Bool.Decides.{nat_tests}
use Rattle.tb_records.specs.declared.faults.FrameFault.{FrameFault}
use Rattle.tb_records.specs.declared.faults.FrameFault.TheVariants.{Short, NoMemory}
use Rattle.tb_records.specs.Frames.{length_at}
use Rattle.tb_records.specs.ReplyFrames.{reply_fault, reply_header_fault, FoundReply}

-- a header that is cut
pub cut_reply_header : (b : List ℕ) → length b < 48 → reply_fault b ≡ Some Short
unfolding reply_fault
cut_reply_header b h = grind (arith, nat_tests)

-- a body that is cut
pub cut_reply_body : (b : List ℕ) → 48 ≤ length b → reply_header_fault b ≡ None → length b < 48 + length_at b → reply_fault b ≡ Some Short
unfolding reply_fault reply_header_fault
cut_reply_body b h e short = grind (arith, nat_tests)

-- a whole frame has the fault of its header
pub whole_reply : (b : List ℕ) → 48 ≤ length b → 48 + length_at b ≤ length b → reply_fault b ≡ reply_header_fault b
unfolding reply_fault reply_header_fault
whole_reply b h long = grind (arith, nat_tests)

-- a fault of the header is that of the frame, and never out of memory
header_first : (b : List ℕ) (f : FrameFault) → 48 ≤ length b → reply_header_fault b ≡ Some f → reply_fault b ≡ Some f
unfolding reply_fault reply_header_fault
header_first b f h e = grind (arith, nat_tests)

not_memory : (b : List ℕ) → reply_header_fault b ≡ Some NoMemory → ⊥
unfolding reply_header_fault
not_memory b e = grind arith

-- what a reader returns if the header has a fault
pub found_header_fault : (b : List ℕ) (f : FrameFault) → 48 ≤ length b → reply_header_fault b ≡ Some f → FoundReply (Err f) b
found_header_fault b NoMemory h e = absurd (not_memory b e)
found_header_fault b f h e = header_first b f h e
