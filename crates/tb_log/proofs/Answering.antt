-- A follower writes the replies that a server gives to the script that the entries encode.
use Rattle.std.proofs.Common.{◌≡◌, ℕ, List, [], ◌∷◌, ◌++◌, map, fold, refl, sym, ap, ◌∙◌}
use Rattle.std.proofs.lemmas.List.{map-append}
use Rattle.tb_records.specs.declared.limits.Profile.{Profile}
use Rattle.tb_records.specs.Messages.{Answer}
use Rattle.tb_records.specs.ReplyFrames.{reply_bytes}
use Rattle.tb_machine.specs.declared.entries.Entry.{Entry}
use Rattle.tb_machine.specs.Histories.{State, after, answer_to}
use Rattle.tb_machine.specs.Scripts as script
use Rattle.tb_machine.specs.Scripts.{Pair, after_pair, accepted, replies_to}
use Rattle.tb_machine.proofs.Legal.{fold_append}
use Rattle.tb_machine.proofs.Running.{after_with_pair}
use Rattle.tb_log.specs.Format.{content_of, chained_hash}
use Rattle.tb_log.specs.Following as following
use Rattle.tb_log.specs.Following.{Following, begun_following, pair_answer, with_logged_pair, with_content, Item, Question, with_item, after_items, script_of, pair_answers, answers_to}
use Rattle.tb_log.specs.LogLaws.{AnswersTheScript, HashesTheReplies}

module _ (profile : Profile) (clients_max : ℕ) where
  script_parts : (h : List Entry) (ps qs : List Pair)
      → script.replies_from profile clients_max h (ps ++ qs) ≡ script.replies_from profile clients_max h ps ++ script.replies_from profile clients_max (accepted profile clients_max h ps) qs
  script_parts h [] qs = refl
  script_parts h (p ∷ ps) qs =
      let m = script.grown (after profile clients_max) h p in
      ap (λ (l : List Answer). answer_to (after profile clients_max m) p.1 ∷ l) (script_parts m ps qs)

  -- one pair leads from the state after a history to that after the grown one
  one_on : (h : List Entry) (F : Following) (p : Pair) → F.state ≡ after profile clients_max h → (with_logged_pair F p).state ≡ after profile clients_max (script.grown (after profile clients_max) h p)
  one_on h F p is = ap (λ (S : State). after_pair S p) is ∙ sym (after_with_pair profile clients_max h p)

  pairs_answered : (h : List Entry) (F : Following) (ps : List Pair) → F.state ≡ after profile clients_max h → pair_answers F ps ≡ script.replies_from profile clients_max h ps
  pairs_answered h F [] is = refl
  pairs_answered h F (p ∷ ps) is =
      ap (λ (S : State). answer_to S p.1 ∷ pair_answers (with_logged_pair F p) ps) (one_on h F p is)
      ∙ ap (λ (l : List Answer). answer_to (after profile clients_max (script.grown (after profile clients_max) h p)) p.1 ∷ l)
      (pairs_answered (script.grown (after profile clients_max) h p) (with_logged_pair F p) ps (one_on h F p is))

  pairs_on : (h : List Entry) (F : Following) (ps : List Pair) → F.state ≡ after profile clients_max h → (fold with_logged_pair F ps).state ≡ after profile clients_max (accepted profile clients_max h ps)
  pairs_on h F [] is = is
  pairs_on h F (p ∷ ps) is = pairs_on (script.grown (after profile clients_max) h p) (with_logged_pair F p) ps (one_on h F p is)

  accepted_parts : (h : List Entry) (ps qs : List Pair) → accepted profile clients_max h (ps ++ qs) ≡ accepted profile clients_max (accepted profile clients_max h ps) qs
  accepted_parts h ps qs = fold_append (script.grown (after profile clients_max)) h ps qs

  items_answered : (h : List Entry) (F : Following) (items : List Item) → F.state ≡ after profile clients_max h
      → (answers_to F items ≡ script.replies_from profile clients_max h (script_of items)) × ((after_items F items).state ≡ after profile clients_max (accepted profile clients_max h (script_of items)))
  items_answered h F [] is = (refl, is)
  items_answered h F (following.Entry ps ∷ items) is =
      let at : Following = with_content F (content_of ps) in
      let m : List Entry = accepted profile clients_max h ps in
      let later = items_answered m (fold with_logged_pair at ps) items (pairs_on h at ps is) in (
        ap (λ (l : List Answer). l ++ answers_to (fold with_logged_pair at ps) items) (pairs_answered h at ps is)
            ∙ ap (λ (l : List Answer). script.replies_from profile clients_max h ps ++ l) later.0
            ∙ sym (script_parts h ps (script_of items)),
        later.1 ∙ ap (after profile clients_max) (sym (accepted_parts h ps (script_of items))),
      )
  items_answered h F (Question ∷ items) is = items_answered h F items is

pub answers_the_script : AnswersTheScript
answers_the_script profile clients_max items = items_answered profile clients_max [] (begun_following profile clients_max) items refl

-- the hash of the replies

pairs_hashed : (F : Following) (ps : List Pair) → (fold with_logged_pair F ps).replies ≡ fold chained_hash F.replies (map reply_bytes (pair_answers F ps))
pairs_hashed F [] = refl
pairs_hashed F (p ∷ ps) = pairs_hashed (with_logged_pair F p) ps

items_hashed : (F : Following) (items : List Item) → (after_items F items).replies ≡ fold chained_hash F.replies (map reply_bytes (answers_to F items))
items_hashed F [] = refl
items_hashed F (following.Entry ps ∷ items) =
    let at : Following = with_content F (content_of ps) in
    let front : List Answer = pair_answers at ps in
    let rest : List Answer = answers_to (fold with_logged_pair at ps) items in
    items_hashed (fold with_logged_pair at ps) items
    ∙ ap (λ (hash : List ℕ). fold chained_hash hash (map reply_bytes rest)) (pairs_hashed at ps)
    ∙ sym (ap (fold chained_hash F.replies) (map-append reply_bytes front rest) ∙ fold_append chained_hash F.replies (map reply_bytes front) (map reply_bytes rest))
items_hashed F (Question ∷ items) = items_hashed F items

pub hashes_the_replies : HashesTheReplies
hashes_the_replies profile clients_max items =
    items_hashed (begun_following profile clients_max) items
    ∙ ap (λ (l : List Answer). fold chained_hash (begun_following profile clients_max).replies (map reply_bytes l)) (answers_the_script profile clients_max items).0
