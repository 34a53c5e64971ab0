-- The bytes of a log's items, and of a follower's answers.
use Rattle.std.specs.Prelude.{ℕ, List, [], ◌∷◌, ◌++◌, length, flat_map, replicate}
use Rattle.tb_records.specs.Messages.{Answer}
use Rattle.byteorder.specs.Endian.{little_bytes}
use Rattle.tb_records.specs.ReplyFrames.{reply_bytes}
use Rattle.tb_records.specs.Inputs.{timed_bytes}
use Rattle.tb_file_journal.specs.Checksum.{checksum}
use Rattle.tb_machine.specs.Scripts.{Pair}
use Rattle.sha2.specs.Sha256.{sha256}

-- the lowest n bytes of a number, the lowest first
unfoldable pub number_bytes : ℕ → ℕ → List ℕ
number_bytes n x = little_bytes n x

-- what is read

-- an entry has less than 16 MiB of pairs
abbrev pub content_max : ℕ
content_max = 16777215

-- the content of an entry: its pairs, each a moment and the frame of a request
abbrev pub content_of : List Pair → List ℕ
content_of ps = flat_map timed_bytes ps

-- the numbers of an entry: its position, and the length of its content
abbrev pub numbers : ℕ → ℕ → List ℕ
numbers position long = number_bytes 8 position ++ number_bytes 4 long

-- the checksum of an entry: of its numbers and its content
abbrev pub checksum_of : ℕ → List ℕ → ℕ
checksum_of position content = checksum (numbers position (length content) ++ content)

-- an entry after its kind, with any checksum
abbrev pub summed : ℕ → ℕ → List ℕ → List ℕ
summed position sum content = numbers position (length content) ++ number_bytes 4 sum ++ content

abbrev pub log_entry_bytes : ℕ → List ℕ → List ℕ
log_entry_bytes position content = 1 ∷ summed position (checksum_of position content) content

abbrev pub question_bytes : List ℕ
question_bytes = 2 ∷ []

-- what is written

-- a frame with its place: the position of its entry, and its index there
abbrev pub placed : ℕ → ℕ → List ℕ → List ℕ
placed position index frame = 1 ∷ number_bytes 8 position ++ number_bytes 4 index ++ frame

abbrev pub reply_item : ℕ → ℕ → Answer → List ℕ
reply_item position index answer = placed position index (reply_bytes answer)

-- the answer to a question: the position of the last entry, the hash of the log up to it, the hash of the replies up to it
abbrev pub standing_item : ℕ → List ℕ → List ℕ → List ℕ
standing_item position log replies = 2 ∷ number_bytes 8 position ++ log ++ replies

-- chained hashes

abbrev pub no_hash : List ℕ
no_hash = replicate 32 0

-- the hash of the earlier parts and one more part
abbrev pub chained_hash : List ℕ → List ℕ → List ℕ
chained_hash hash bytes = sha256 (hash ++ bytes)
