-- The items of a log, one more at a time.
use Rattle.std.proofs.Common.{◌≡◌, ℕ, ◌+◌, inl, inr, List, [], ◌∷◌, ◌++◌, length, Option, Some, None, Result, Ok, Err, refl, sym, ap, subst, ◌∙◌, arith, append_assoc, append-nil, length-append}
use Rattle.std.specs.Io.KnownBytes.{Consumes}
use Rattle.tb_records.specs.declared.limits.Profile.{Profile}
use Rattle.tb_records.specs.Ordered.{Each}
use Rattle.tb_records.specs.Transport.{Input, Output, Sent}
use Rattle.tb_machine.proofs.Legal.{fold_snoc}
use Rattle.tb_machine.proofs.Rows.{each_snoc}
use Rattle.tb_machine.proofs.Running.{sends_none, sends_then}
use Rattle.tb_log.specs.declared.faults.LogFault.{LogFault}
use Rattle.tb_log.specs.declared.faults.LogFault.TheVariants.{NoMemory}
use Rattle.tb_log.specs.Format.{content_of, checksum_of, summed}
use Rattle.tb_log.specs.Following.{Following, begun_following, Item, Entry, with_item, item_bytes, given_to, IsItemAnswered, after_items, bytes_of, given, AllAnswered}
use Rattle.tb_log.specs.Follows.{ItemFits, RefusesNextItem, Halts, Ended, Followed}
use Rattle.tb_log.specs.Steps.{ReadsOnly, ServesEntry, TakesItem, TakesNone}
use Rattle.tb_log.proofs.Taking.{takes_then}

-- an item by its first byte

pub entry_item : (F G : Following) (a b c : Input) (start written : Output) → ReadsOnly (1 ∷ []) a b → ServesEntry F G b c start written → TakesItem F G a c start written
entry_item F G a b c start written kind serves = record {
  item = Entry serves.pairs;
  fit = (serves.read.few, serves.fit);
  read = takes_then (1 ∷ []) (summed (F.position + 1) (checksum_of (F.position + 1) (content_of serves.pairs)) (content_of serves.pairs)) a b c kind
      (record { consumed = serves.read.bytes; counted = serves.read.counted });
  answered = serves.answered;
  state = serves.state;
  sent = serves.sent;
}

-- all items

bytes_snoc : (F : Following) (items : List Item) (item : Item) → bytes_of F (items ++ item ∷ []) ≡ bytes_of F items ++ item_bytes (after_items F items) item
bytes_snoc F [] item = append-nil (item_bytes F item)
bytes_snoc F (i ∷ is) item =
    ap (λ (bs : List ℕ). item_bytes F i ++ bs) (bytes_snoc (with_item F i) is item)
    ∙ sym (append_assoc (item_bytes F i) (bytes_of (with_item F i) is) (item_bytes (after_items (with_item F i) is) item))

given_snoc : (F : Following) (items : List Item) (item : Item) → given F (items ++ item ∷ []) ≡ given F items ++ given_to (after_items F items) item
given_snoc F [] item = append-nil (given_to F item)
given_snoc F (i ∷ is) item =
    ap (λ (bs : List ℕ). given_to F i ++ bs) (given_snoc (with_item F i) is item)
    ∙ sym (append_assoc (given_to F i) (given (with_item F i) is) (given_to (after_items (with_item F i) is) item))

all_answered_snoc : (F : Following) (items : List Item) (item : Item) → AllAnswered F items → IsItemAnswered (after_items F items) item → AllAnswered F (items ++ item ∷ [])
all_answered_snoc F [] item all one = (one, tt)
all_answered_snoc F (i ∷ is) item all one = (all.0, all_answered_snoc (with_item F i) is item all.1 one)

-- k items were taken
pub record Working (profile : Profile) (clients_max : ℕ) (k : ℕ) (F : Following) (before middle : Input) (start made : Output) : Type 0 where
  pub items : List Item
  pub count : length items ≡ k
  pub state : F ≡ after_items (begun_following profile clients_max) items
  pub fit : Each ItemFits items
  pub read : ReadsOnly (bytes_of (begun_following profile clients_max) items) before middle
  pub answered : AllAnswered (begun_following profile clients_max) items
  pub sent : Sent (given (begun_following profile clients_max) items) start made

takes_none : (i : Input) → ReadsOnly [] i i
takes_none i = record { consumed = none i.left; counted = refl }
  where
    none : (left : Option (List ℕ)) → Consumes left left []
    none None = tt
    none (Some bytes) = refl

module _ (profile : Profile) (clients_max : ℕ) where
  abbrev F0 : Following
  F0 = begun_following profile clients_max

  pub working_none : (F : Following) (i : Input) (o : Output) → F ≡ F0 → Working profile clients_max 0 F i i o o
  working_none F i o is = record { items = []; count = refl; state = is; fit = tt; read = takes_none i; answered = tt; sent = sends_none o }

  module _ (k : ℕ) (F : Following) (before middle : Input) (start made : Output) (w : Working profile clients_max k F before middle start made) where
    pub working_passed : (next : Output) → Sent [] made next → Working profile clients_max k F before middle start next
    working_passed next on = record {
      items = w.items;
      count = w.count;
      state = w.state;
      fit = w.fit;
      read = w.read;
      answered = w.answered;
      sent = subst (λ (bytes : List ℕ). Sent bytes start next) (append-nil (given F0 w.items)) (sends_then (given F0 w.items) [] start made next w.sent on);
    }

    pub working_on : (G : Following) (after : Input) (next : Output) → TakesItem F G middle after made next → Working profile clients_max (k + 1) G before after start next
    working_on G after next taken =
        let at : Following = after_items F0 w.items in
        record {
          items = w.items ++ taken.item ∷ [];
          count = omega (arith, w.count, length-append w.items (taken.item ∷ []));
          state = taken.state ∙ ap (λ (K : Following). with_item K taken.item) w.state ∙ sym (fold_snoc with_item F0 w.items taken.item);
          fit = each_snoc ItemFits w.items taken.item w.fit taken.fit;
          read = subst (λ (bs : List ℕ). ReadsOnly bs before after) (sym (bytes_snoc F0 w.items taken.item))
              (takes_then (bytes_of F0 w.items) (item_bytes at taken.item) before middle after w.read
              (subst (λ (K : Following). ReadsOnly (item_bytes K taken.item) middle after) w.state taken.read));
          answered = all_answered_snoc F0 w.items taken.item w.answered (subst (λ (K : Following). IsItemAnswered K taken.item) w.state taken.answered);
          sent = subst (λ (bs : List ℕ). Sent bs start next) (sym (given_snoc F0 w.items taken.item))
              (sends_then (given F0 w.items) (given_to at taken.item) start made next w.sent
              (subst (λ (K : Following). Sent (given_to K taken.item) made next) w.state taken.sent));
        }

    ended : (result : Result ℕ LogFault) (after : Input) (written : Output) → Ended result w.items (after_items F0 w.items) middle after made written → Followed profile clients_max result before after start written
    ended result after written end = record {
      items = w.items;
      middle = middle;
      made = made;
      fit = w.fit;
      read = w.read.consumed;
      counted = w.read.counted;
      answered = w.answered;
      sent = w.sent;
      ended = end;
    }

    pub worked_into : (fault : LogFault) (after : Input) (written : Output) → RefusesNextItem fault F middle after made written → Followed profile clients_max (Err fault) before after start written
    worked_into fault after written refuses = ended (Err fault) after written (inl (subst (λ (K : Following). RefusesNextItem fault K middle after made written) w.state refuses))

    pub worked_halted : (fault : LogFault) → Halts fault w.items → Followed profile clients_max (Err fault) before middle start made
    worked_halted fault halts = ended (Err fault) middle made (inr (halts, refl, refl))

  -- at the end nothing more was written, and what was written was passed on
  pub worked_out : (k : ℕ) (F G : Following) (before middle after : Input) (start made next passed : Output) (position : ℕ) → Working profile clients_max k F before middle start made
      → TakesNone F G middle after made next
      → position ≡ G.position
      → Sent [] next passed
      → Followed profile clients_max (Ok position) before after start passed
  worked_out k F G before middle after start made next passed position w none is on =
      let all = working_passed k F before middle start made w passed (subst (λ (o : Output). Sent [] o passed) none.silent on) in
      record {
        items = all.items;
        middle = middle;
        made = passed;
        fit = all.fit;
        read = all.read.consumed;
        counted = all.read.counted;
        answered = all.answered;
        sent = all.sent;
        ended = (is ∙ ap (λ (K : Following). K.position) (none.state ∙ all.state), none.read.consumed, none.end, none.read.counted, refl);
      }

  pub followed_nowhere : (i : Input) (o : Output) → Followed profile clients_max (Err NoMemory) i i o o
  unfolding working_none
  followed_nowhere i o = worked_halted 0 F0 i i o o (working_none F0 i o refl) NoMemory refl
