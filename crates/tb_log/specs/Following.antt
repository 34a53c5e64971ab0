-- How a follower processes a log, item by item.
use Rattle.std.specs.Prelude.{ℕ, ◌+◌, List, [], ◌∷◌, ◌++◌, fold}
use Rattle.tb_records.specs.declared.limits.Profile.{Profile}
use Rattle.tb_records.specs.Messages.{Answer}
use Rattle.tb_records.specs.ReplyFrames.{reply_bytes, IsReply}
use Rattle.tb_machine.specs.Histories.{State, start, answer_to}
use Rattle.tb_machine.specs.Scripts.{Pair, after_pair}
use Rattle.tb_machine.specs.Runs.{IsTimely}
use Rattle.tb_log.specs.Format.{content_of, log_entry_bytes, question_bytes, reply_item, standing_item, no_hash, chained_hash}

-- a follower: the state after all pairs, the position of the last entry, the hashes of the log and of the replies
pub record Following : Type 0 where
  pub state : State
  pub position : ℕ
  pub log : List ℕ
  pub replies : List ℕ

abbrev pub begun_following : Profile → ℕ → Following
begun_following profile clients_max = record { state = start profile clients_max; position = 0; log = no_hash; replies = no_hash }

-- one pair

abbrev pub pair_answer : Following → Pair → Answer
pair_answer F p = answer_to (after_pair F.state p) p.1

abbrev pub with_logged_pair : Following → Pair → Following
with_logged_pair F p = record F { state = after_pair F.state p; replies = chained_hash F.replies (reply_bytes (pair_answer F p)) }

-- the pairs of an entry

-- the entry is taken, before its pairs are
abbrev pub with_content : Following → List ℕ → Following
with_content F content = record F { position = F.position + 1; log = chained_hash F.log content }

-- each pair that is new has a time, and each reply is read as no other
abbrev pub AreAnswered : Following → List Pair → Type 0
AreAnswered F [] = Unit {0}
AreAnswered F (p ∷ ps) = IsTimely F.state p × IsReply (pair_answer F p) × AreAnswered (with_logged_pair F p) ps

-- the replies, numbered from an index on
abbrev pub numbered_replies : Following → ℕ → List Pair → List ℕ
numbered_replies F index [] = []
numbered_replies F index (p ∷ ps) = reply_item F.position index (pair_answer F p) ++ numbered_replies (with_logged_pair F p) (index + 1) ps

-- items

pub data Item : Type 0 where
  Entry : List Pair → Item
  Question : Item

abbrev pub with_item : Following → Item → Following
with_item F (Entry ps) = fold with_logged_pair (with_content F (content_of ps)) ps
with_item F Question = F

-- the bytes of an item at its turn: an entry has the position after the last
abbrev pub item_bytes : Following → Item → List ℕ
item_bytes F (Entry ps) = log_entry_bytes (F.position + 1) (content_of ps)
item_bytes F Question = question_bytes

-- what is written for it
abbrev pub given_to : Following → Item → List ℕ
given_to F (Entry ps) = numbered_replies (with_content F (content_of ps)) 0 ps
given_to F Question = standing_item F.position F.log F.replies

abbrev pub IsItemAnswered : Following → Item → Type 0
IsItemAnswered F (Entry ps) = AreAnswered (with_content F (content_of ps)) ps
IsItemAnswered F Question = Unit {0}

-- all items, one after another

abbrev pub after_items : Following → List Item → Following
after_items F items = fold with_item F items

abbrev pub bytes_of : Following → List Item → List ℕ
bytes_of F [] = []
bytes_of F (item ∷ items) = item_bytes F item ++ bytes_of (with_item F item) items

abbrev pub given : Following → List Item → List ℕ
given F [] = []
given F (item ∷ items) = given_to F item ++ given (with_item F item) items

abbrev pub AllAnswered : Following → List Item → Type 0
AllAnswered F [] = Unit {0}
AllAnswered F (item ∷ items) = IsItemAnswered F item × AllAnswered (with_item F item) items

-- the script that the items encode: the pairs of all entries
abbrev pub script_of : List Item → List Pair
script_of [] = []
script_of (Entry ps ∷ items) = ps ++ script_of items
script_of (Question ∷ items) = script_of items

-- the replies to all pairs, in their order
abbrev pub pair_answers : Following → List Pair → List Answer
pair_answers F [] = []
pair_answers F (p ∷ ps) = pair_answer F p ∷ pair_answers (with_logged_pair F p) ps

abbrev pub answers_to : Following → List Item → List Answer
answers_to F [] = []
answers_to F (Entry ps ∷ items) = let at = with_content F (content_of ps) in pair_answers at ps ++ answers_to (fold with_logged_pair at ps) items
answers_to F (Question ∷ items) = answers_to F items
