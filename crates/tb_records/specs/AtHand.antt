-- What is complete at the beginning of buffered bytes.
use Rattle.std.specs.Prelude.{ℕ, Bool, ◌+◌, ◌&&◌, ◌||◌, ◌==◌, nat_le, List, length, drop}
use Rattle.tb_records.specs.Frames.{length_at}
use Rattle.tb_records.specs.Numbers.{le_at}

-- the frame of a request, with the length that its header gives
abbrev pub holds_frame : List ℕ → Bool
holds_frame bytes = nat_le 48 (length bytes) && nat_le (48 + length_at bytes) (length bytes)

-- a pair: a moment of 8 bytes, and the frame of a request
abbrev pub holds_pair : List ℕ → Bool
holds_pair bytes = nat_le 8 (length bytes) && holds_frame (drop 8 bytes)

-- an item of a dump: two numbers of 8 bytes; for a mark the first number is 0, for an entry the frame of its request follows the numbers
abbrev pub holds_item : List ℕ → Bool
holds_item bytes = nat_le 16 (length bytes) && (le_at 8 0 bytes == 0 || holds_frame (drop 16 bytes))
