-- A whole replay: the entries so far, and what comes next.
use Rattle.std.proofs.Common.{◌≡◌, ℕ, ◌+◌, ◌≤◌, List, [], ◌∷◌, ◌++◌, length, flat_map, Option, Some, None, Ok, Err, refl, sym, ap, subst, ◌∙◌, arith, append_assoc, append-nil, length-append}
use Rattle.std.proofs.lemmas.Grind.{flat_map-append}
use Rattle.std.specs.Option.{option_map}
use Rattle.tb_records.specs.declared.dumps.DumpFault.TheVariants as fault
use Rattle.tb_records.specs.declared.dumps.DumpHead.{DumpHead}
use Rattle.tb_records.specs.declared.dumps.DumpItem.{DumpItem}
use Rattle.tb_records.specs.declared.dumps.DumpItem.TheVariants as item
use Rattle.tb_records.specs.declared.limits.Profile.{Profile}
use Rattle.tb_records.specs.declared.limits.Profile.TheVariants.{One, Two}
use Rattle.tb_records.specs.DumpBytes.{head_bytes, mark_bytes, HeadAnswers, ItemAnswers, ItemAnswered}
use Rattle.tb_records.specs.Messages.{Answer}
use Rattle.tb_records.specs.Ordered.{Each}
use Rattle.tb_records.specs.ReplyFrames.{reply_bytes, IsReply}
use Rattle.tb_records.specs.Transport.{Input, Output, Sent}
use Rattle.tb_records.specs.declared.limits.TheConstants.{LAST_MOMENT}
use Rattle.tb_ledger.specs.Books.{profile_of}
use Rattle.tb_sessions.specs.declared.rows.Row.{Row}
use Rattle.tb_sessions.specs.Judged.{row_of}
use Rattle.tb_machine.specs.declared.entries.Entry.{Entry}
use Rattle.tb_machine.specs.Histories.{State, start, row_at, reply_at, step, to_two}
use Rattle.tb_machine.specs.Dumps.{dumped, IsDumpedEntry, IsPlace}
use Rattle.tb_machine.specs.Replays.{ReadsNext, item_of, ReplaysEntry, ReplaysItem, Dump, Spelling, SpellsDump, ReadsDump, headed, state_behind, replies_in, RepliesTo, Replayed}
use Rattle.tb_machine.proofs.Rows.{some_one, each_snoc}
use Rattle.tb_machine.proofs.Judging.{may_come}
use Rattle.tb_machine.proofs.PairAnswers.{row_after}
use Rattle.tb_machine.proofs.Running.{sends_none, Working, Joined, Joins, worked_halted}
use Rattle.tb_machine.proofs.Marked.{profile_step, profile_start, bytes_snoc, spells_more, place_snoc, with_snoc, legal_with_snoc, replies_with_snoc, bytes_marked, with_marked, legal_marked, replies_marked}

-- the row of an entry that was entered
pub entry_stored : (S T : State) (e : Entry) (client : ℕ) → T ≡ step S e → client ≡ e.request.client → row_of T.rows client ≡ Some (row_at S e)
entry_stored S T e client stepped is = (λ i. row_of (stepped i).rows (is i)) ∙ row_after S e

-- the reply that it keeps
pub entry_reply : (S T : State) (e : Entry) (client : ℕ) (a : Answer) → T ≡ step S e → client ≡ e.request.client → option_map (λ (row : Row). row.reply) (row_of T.rows client) ≡ Some a → a ≡ reply_at S e
entry_reply S T e client a stepped is told = some_one (sym told ∙ ap (option_map (λ (row : Row). row.reply)) (entry_stored S T e client stepped is))

-- what is read

-- one more item, which so many bytes encode
spells_on : (d e : Dump) (next : DumpItem) (more : List ℕ) (before middle after : Option (List ℕ)) → SpellsDump d before middle → ItemAnswers (Ok (Some next)) middle after
    → ((left rest : List ℕ) → ItemAnswered (Ok (Some next)) left rest → (left ≡ more ++ rest) × ((bytes : List ℕ) → Spelling d bytes → Spelling e (bytes ++ more))) → SpellsDump e before after
spells_on d e next more None middle after all one grows = tt
spells_on d e next more (Some b) None after all one grows = absurd all
spells_on d e next more (Some b) (Some m) None all one grows = absurd one
spells_on d e next more (Some b) (Some m) (Some a) (bytes, spells, is) one grows =
    let grown = grows m a one in
    (bytes ++ more, grown.1 bytes spells, is ∙ ap (λ l. bytes ++ l) grown.0 ∙ sym (append_assoc bytes more a))

read_head : (head : DumpHead) (before after : Option (List ℕ)) → HeadAnswers (Ok head) before after → SpellsDump (headed head) before after
read_head head None after answer = tt
read_head head (Some b) None answer = absurd answer
read_head head (Some b) (Some a) answer = (
  head_bytes head.profile head.clients_max,
  record { bytes_are = sym (append-nil (head_bytes head.profile head.clients_max)); clients = answer.1; entries = tt; marked = tt },
  answer.0,
)

-- one item more

-- the profile after a place
abbrev profile_behind : Profile → Option ℕ → Profile
profile_behind profile None = profile
profile_behind profile (Some n) = Two

abbrev marks : Option ℕ → ℕ
marks None = 0
marks (Some n) = 1

no_mark : (profile : Profile) (place : Option ℕ) → profile_behind profile place ≡ One → (place ≡ None) × (profile ≡ One)
no_mark profile None is = (refl, is)
no_mark profile (Some n) is = absurd cc

-- what holds of so many entries and marks
pub record Stands (k : ℕ) (d : Dump) : Type 0 where
  pub count : (state_behind d).commit ≡ length d.history
  pub few : k ≤ length d.history + marks d.place
  pub profile_is : profile_of (state_behind d).books ≡ profile_behind d.profile d.place
  pub marked : IsPlace d.profile d.place d.history

-- a replay's loop: k entries and marks were replayed
abbrev pub Replaying : ℕ → State → Input → Input → Output → Output → Type 0
Replaying = Working ReadsDump RepliesTo state_behind Stands

pub replaying_none : (head : DumpHead) (S : State) (before middle : Input) (o : Output) → S ≡ start head.profile head.clients_max → HeadAnswers (Ok head) before.left middle.left → middle.failed ≡ before.failed → Replaying 0 S before middle o o
replaying_none head S before middle o is answer counted = record {
  items = headed head;
  state_is = is;
  stands = record { count = refl; few = omega arith; profile_is = profile_start head.profile head.clients_max; marked = tt };
  done = record {
    bytes = [];
    read = record { read = read_head head before.left middle.left answer; counted = counted };
    gives = record { legal = tt; bytes_are = refl; spelled = tt };
    sent = sends_none o;
  };
}

abbrev Goal : ℕ → State → List ℕ → Input → Input → Output → Output → Type 0
Goal = Joined ReadsDump RepliesTo state_behind Stands

module _ (k : ℕ) (d : Dump) (T : State) (bytes : List ℕ) (before middle after : Input) (written next : Output) (stands : Stands k d) (read : ReadsDump d before middle) (gives : RepliesTo d bytes) where
  abbrev h : List Entry
  h = d.history

  abbrev S : State
  S = state_behind d

  joins_entry : (e : Entry) → ReadsNext (Ok (Some (item_of e))) middle after → ReplaysEntry (Ok tt) S T e written next → Goal (k + 1) T bytes before after written next
  joins_entry e one act =
      let is = with_snoc d.profile d.clients_max d.place h e stands.marked in
      let replies = replies_with_snoc d.profile d.clients_max d.place h e stands.marked in
      let longer : length (h ++ e ∷ []) ≡ length h + 1 = length-append h (e ∷ []) in
      record {
        items = record d { history = h ++ e ∷ [] };
        state_is = act.1 ∙ sym is;
        stands = record {
          count = omega (arith, ap (λ (U : State). U.commit) is, (may_come S e act.0).commit, stands.count, longer);
          few = omega (arith, stands.few, longer);
          profile_is = ap (λ (U : State). profile_of U.books) is ∙ profile_step S e ∙ stands.profile_is;
          marked = place_snoc d.profile d.place h e stands.marked;
        };
        read = record {
          read = spells_on d (record d { history = h ++ e ∷ [] }) (item_of e) (dumped e) before.left middle.left after.left read.read one.answers
              (λ left rest answered. (
                answered.0,
                λ l spells. spells_more d.profile d.clients_max h (h ++ e ∷ []) d.place d.place l (dumped e) spells (bytes_snoc d.profile d.place h e stands.marked)
                    (each_snoc IsDumpedEntry h e spells.entries answered.1) (place_snoc d.profile d.place h e stands.marked),
              ));
          counted = one.counted ∙ read.counted;
        };
        added = reply_bytes (reply_at S e);
        gives = record {
          legal = legal_with_snoc d.profile d.clients_max d.place h e stands.marked gives.legal act.0;
          bytes_are = ap (λ l. l ++ reply_bytes (reply_at S e)) gives.bytes_are
              ∙ sym (ap (flat_map reply_bytes) replies ∙ flat_map-append reply_bytes (replies_in d) (reply_at S e ∷ []) ∙ ap (λ l. flat_map reply_bytes (replies_in d) ++ l) (append-nil (reply_bytes (reply_at S e))));
          spelled = subst (Each IsReply) (sym replies) (each_snoc IsReply (replies_in d) (reply_at S e) gives.spelled act.3);
        };
        sent = act.2;
      }

-- a mark after entries without a mark
module _ (profile : Profile) (clients_max : ℕ) (h : List Entry) where
  abbrev plain : Dump
  plain = record { profile = profile; clients_max = clients_max; history = h; place = None }

  abbrev marked : Dump
  marked = record { profile = profile; clients_max = clients_max; history = h; place = Some (length h) }

  joins_mark : (k : ℕ) (T : State) (bytes : List ℕ) (before middle after : Input) (written next : Output) → Stands k plain → ReadsDump plain before middle → RepliesTo plain bytes → profile ≡ One
      → ReadsNext (Ok (Some item.Mark)) middle after → T ≡ to_two (state_behind plain) → next ≡ written → Goal (k + 1) T bytes before after written next
  joins_mark k T bytes before middle after written next stands read gives by_one one moved silent =
      let is = with_marked profile clients_max h in
      let replies = replies_marked profile clients_max h in
      record {
        items = marked;
        state_is = moved ∙ sym is;
        stands = record {
          count = ap (λ (U : State). U.commit) is ∙ stands.count;
          few = omega (arith, stands.few);
          profile_is = ap (λ (U : State). profile_of U.books) is;
          marked = (by_one, omega arith);
        };
        read = record {
          read = spells_on plain marked item.Mark mark_bytes before.left middle.left after.left read.read one.answers
              (λ left rest answered. (answered, λ l spells. spells_more profile clients_max h h None (Some (length h)) l mark_bytes spells (bytes_marked profile clients_max h) spells.entries (by_one, omega arith)));
          counted = one.counted ∙ read.counted;
        };
        added = [];
        gives = record {
          legal = legal_marked profile clients_max h gives.legal;
          bytes_are = append-nil bytes ∙ gives.bytes_are ∙ ap (flat_map reply_bytes) (sym replies);
          spelled = subst (Each IsReply) (sym replies) gives.spelled;
        };
        sent = subst (λ (o : Output). Sent [] written o) (sym silent) (sends_none written);
      }

pub replaying_joins : Joins ReadsDump RepliesTo state_behind Stands ReadsNext ReplaysItem
replaying_joins k d T bytes before middle after written next stands read gives n = by n.item n.read n.act
  where
    by : (x : DumpItem) → ReadsNext (Ok (Some x)) middle after → ReplaysItem (Ok tt) (state_behind d) T x written next → Goal (k + 1) T bytes before after written next
    by (item.Entry commit time request) one act = joins_entry k d T bytes before middle after written next stands read gives (record { commit = commit; time = time; request = request }) one act
    by item.Mark one act =
        let none = no_mark d.profile d.place (sym stands.profile_is ∙ act.0) in
        let same : d ≡ plain d.profile d.clients_max d.history = ap (λ place. record d { place = place }) none.0 in
        joins_mark d.profile d.clients_max d.history k T bytes before middle after written next (subst (Stands k) same stands) (subst (λ (e : Dump). ReadsDump e before middle) same read)
        (subst (λ (e : Dump). RepliesTo e bytes) same gives) none.1 one (act.1 ∙ ap (λ (e : Dump). to_two (state_behind e)) same) act.2

-- there is no memory for the machine
pub replay_nowhere : (head : DumpHead) (before middle : Input) (o : Output) → HeadAnswers (Ok head) before.left middle.left → middle.failed ≡ before.failed → Replayed (Err fault.NoMemory) before middle o o
unfolding replaying_none
replay_nowhere head before middle o answer counted = worked_halted (replaying_none head (start head.profile head.clients_max) before middle o refl answer counted) (refl, refl)

-- a history has fewer entries than can be counted
pub replay_bounded : (k n : ℕ) (S : State) (before middle : Input) (first written : Output) → Replaying k S before middle first written → n ≡ S.commit → n ≤ LAST_MOMENT → k ≤ 9223372036854775808
replay_bounded k n S before middle first written r is at_most = by r.items.place r.stands.few
  where
    commit : S.commit ≡ length r.items.history
    commit = ap (λ (U : State). U.commit) r.state_is ∙ r.stands.count

    by : (place : Option ℕ) → k ≤ length r.items.history + marks place → k ≤ 9223372036854775808
    by None few = omega (arith, few, commit, is, at_most)
    by (Some n) few = omega (arith, few, commit, is, at_most)
