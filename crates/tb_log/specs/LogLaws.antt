-- A follower writes the replies that a server gives to the script that the entries encode.
use Rattle.std.specs.Prelude.{ℕ, ◌≡◌, List, [], map, fold}
use Rattle.tb_records.specs.declared.limits.Profile.{Profile}
use Rattle.tb_records.specs.ReplyFrames.{reply_bytes}
use Rattle.tb_machine.specs.Scripts.{accepted, replies_to}
use Rattle.tb_machine.specs.Histories.{after}
use Rattle.tb_log.specs.Format.{no_hash, chained_hash}
use Rattle.tb_log.specs.Following.{begun_following, Item, after_items, script_of, answers_to}

-- the replies are those to the script that the entries encode, in its order, and the state is the one after it
abbrev pub AnswersTheScript : Type 0
AnswersTheScript = (profile : Profile) (clients_max : ℕ) (items : List Item)
    → (answers_to (begun_following profile clients_max) items ≡ replies_to profile clients_max (script_of items))
    × ((after_items (begun_following profile clients_max) items).state ≡ after profile clients_max (accepted profile clients_max [] (script_of items)))

-- the hash of the replies is of those replies, frame by frame, however the log is cut into entries
abbrev pub HashesTheReplies : Type 0
HashesTheReplies = (profile : Profile) (clients_max : ℕ) (items : List Item)
    → (after_items (begun_following profile clients_max) items).replies ≡ fold chained_hash no_hash (map reply_bytes (replies_to profile clients_max (script_of items)))
