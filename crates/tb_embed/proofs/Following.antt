-- Calls one after another, and the history that they make.
use Rattle.std.proofs.Common.{◌≡◌, ℕ, ◌≤◌, ◌<◌, true, false, List, [], ◌∷◌, ◌++◌, length, take, is_none, Some, refl, sym, ap, ◌∙◌, subst, arith, length-take}
use Rattle.tb_records.specs.declared.limits.Profile.{Profile}
use Rattle.tb_records.specs.Messages.{Message}
use Rattle.tb_records.specs.Frames.{Spells}
use Rattle.tb_records.specs.ReplyFrames.{reply_bytes, IsReply, SpellsReply}
use Rattle.tb_records.proofs.Spellings.{spelled_once}
use Rattle.tb_machine.specs.declared.entries.Entry.{Entry}
use Rattle.tb_machine.specs.Histories.{State, after, answer_to}
use Rattle.tb_machine.specs.Scripts.{Pair, after_pair, has_time, accepted, replies_from, grown}
use Rattle.tb_machine.specs.Runs.{is_new_in, answer_bytes}
use Rattle.tb_machine.specs.ScriptLaws.{AreLawful}
use Rattle.tb_machine.proofs.Accepted.{accepted_is_legal}
use Rattle.tb_machine.proofs.Running.{after_with_pair}
use Rattle.tb_embed.specs.declared.outcomes.Outcome.{Outcome}
use Rattle.tb_embed.specs.declared.outcomes.Outcome.TheVariants.{Done, Closed, Usage, NoMemory, Unread, Malformed, TimeExhausted, Absent, TooSmall}
use Rattle.tb_embed.specs.Calls.{ServesFrame}
use Rattle.tb_embed.specs.CallRuns.{Call, Follow, answered_calls, AreAsked, CallsMakeHistory, OneStatus}
use Rattle.tb_embed.specs.Outcomes.{outcome_status}
use Rattle.tb_embed.proofs.Frames.{whole_frame}

module _ (profile : Profile) (clients_max : ℕ) where
  -- from a history on
  record Goes (h : List Entry) (cs : List Call) (T : State) : Type 0 where
    pairs : List Pair
    lawful : AreLawful pairs
    asked : AreAsked (answered_calls cs) pairs (replies_from profile clients_max h pairs)
    stands : T ≡ after profile clients_max (accepted profile clients_max h pairs)

  goes : (h : List Entry) (cs : List Call) (S T : State) → S ≡ after profile clients_max h → Follow S cs T → Goes h cs T
  goes h [] S T is follow = record { pairs = []; lawful = tt; asked = tt; stands = follow ∙ is }
  goes h (c ∷ cs) S T is follow = by c.outcome c.moment c.bytes c.room follow.0 follow.1 (λ m V here. goes m cs follow.0 T here follow.2)
    where
      by : (outcome : Outcome) (moment : ℕ) (bytes room : List ℕ) (U : State) → ServesFrame (Some S) (Some U) moment bytes room outcome
          → ((m : List Entry) → State → U ≡ after profile clients_max m → Goes m cs T)
          → Goes h (record { moment = moment; bytes = bytes; outcome = outcome; room = room } ∷ cs) T
      by (Done n) moment bytes room U (r, spells, right) rest =
          let p : Pair = (moment, r) in
          let m = grown (after profile clients_max) h p in
          let there : U ≡ after profile clients_max m = right.1 ∙ ap (λ (S : State). after_pair S p) is ∙ sym (after_with_pair profile clients_max h p) in
          let more = rest m U there in
          record {
            pairs = p ∷ more.pairs;
            lawful = (ap is_none spells.is.lawful, more.lawful);
            asked = (record { moment = refl; spelled = spells; told = subst (λ (V : State). SpellsReply (take n room) (answer_to V p.1)) (sym right.1 ∙ there) right.3 }, more.asked);
            stands = more.stands;
          }
      by (TooSmall n) moment bytes room U (r, spells, right) rest =
          let p : Pair = (moment, r) in
          let m = grown (after profile clients_max) h p in
          let there : U ≡ after profile clients_max m = right.1 ∙ ap (λ (S : State). after_pair S p) is ∙ sym (after_with_pair profile clients_max h p) in
          let more = rest m U there in
          record {
            pairs = p ∷ more.pairs;
            lawful = (ap is_none spells.is.lawful, more.lawful);
            asked = (record { moment = refl; spelled = spells; told = subst (λ (V : State). (n ≡ length (reply_bytes (answer_to V p.1))) × IsReply (answer_to V p.1)) (sym right.1 ∙ there) (right.3, right.4) }, more.asked);
            stands = more.stands;
          }
      by Malformed moment bytes room U right rest = let more = rest h U (right.1 ∙ is) in record { pairs = more.pairs; lawful = more.lawful; asked = more.asked; stands = more.stands }
      by Unread moment bytes room U right rest = let more = rest h U (right.1 ∙ is) in record { pairs = more.pairs; lawful = more.lawful; asked = more.asked; stands = more.stands }
      by TimeExhausted moment bytes room U (r, spells, right) rest = let more = rest h U (right.2 ∙ is) in record { pairs = more.pairs; lawful = more.lawful; asked = more.asked; stands = more.stands }
      by NoMemory moment bytes room U (r, spells, right) rest = let more = rest h U (right.2 ∙ is) in record { pairs = more.pairs; lawful = more.lawful; asked = more.asked; stands = more.stands }
      by other moment bytes room U (r, spells, right) rest = absurd right

pub calls_make_history : CallsMakeHistory
calls_make_history profile clients_max cs T follow =
    let all = goes profile clients_max [] cs (after profile clients_max []) T refl follow in
    record {
      pairs = all.pairs;
      lawful = all.lawful;
      asked = all.asked;
      legal = accepted_is_legal profile clients_max all.pairs all.lawful;
      stands = all.stands;
    }

-- two frames of the same bytes are of one request
one_request : (bytes : List ℕ) (r s : Message) → Spells bytes r → Spells bytes s → r ≡ s
one_request bytes r s mine yours = (spelled_once r s [] [] mine.is yours.is (ap (λ l. l ++ []) (sym mine.bytes_are ∙ yours.bytes_are))).0

-- a whole answer fits its room
fits_room : (n : ℕ) (room answer : List ℕ) → n ≤ length room → take n room ≡ answer → length answer ≤ length room
fits_room n room answer within is = omega (arith, ap length is, length-take n room, within)

-- a new request has a time, or it has no time
no_time : (S : State) (p : Pair) → (is_new_in S p ≡ true → has_time S p ≡ true) → is_new_in S p ≡ true → has_time S p ≡ false → ⊥
no_time S p timely new none = let e : true ≡ false = sym (timely new) ∙ none in cc

pub one_status : OneStatus
one_status S T U moment bytes room other a b mine yours same a_memory b_memory = by a b mine yours a_memory b_memory
  where
    too_small : (r s : Message) (n k : ℕ) (given short : List ℕ) → length given ≡ length short → Spells bytes r → Spells bytes s
        → n ≤ length given → take n given ≡ answer_bytes S (moment, r) → length short < k → k ≡ length (answer_bytes S (moment, s)) → ⊥
    too_small r s n k given short lengths first second within is less needs =
        let answers : answer_bytes S (moment, r) ≡ answer_bytes S (moment, s) = ap (λ (x : Message). answer_bytes S (moment, x)) (one_request bytes r s first second) in
        omega (arith, fits_room n given (answer_bytes S (moment, r)) within is, less, needs, lengths, ap length answers)

    late : (r s : Message) → Spells bytes r → Spells bytes s → (is_new_in S (moment, r) ≡ true → has_time S (moment, r) ≡ true) → is_new_in S (moment, s) ≡ true → has_time S (moment, s) ≡ false → ⊥
    late r s first second timely new none =
        no_time S (moment, s) (subst (λ (x : Message). is_new_in S (moment, x) ≡ true → has_time S (moment, x) ≡ true) (one_request bytes r s first second) timely) new none

    by : (a b : Outcome) → ServesFrame (Some S) (Some T) moment bytes room a → ServesFrame (Some S) (Some U) moment bytes other b → (outcome_status a ≡ 3 → ⊥) → (outcome_status b ≡ 3 → ⊥) → outcome_status a ≡ outcome_status b
    by NoMemory b mine yours c d = absurd (c refl)
    by Unread b mine yours c d = absurd (c refl)
    by Closed b (r, spells, right) yours c d = absurd right
    by Usage b (r, spells, right) yours c d = absurd right
    by Absent b (r, spells, right) yours c d = absurd right
    by a NoMemory mine yours c d = absurd (d refl)
    by a Unread mine yours c d = absurd (d refl)
    by a Closed mine (r, spells, right) c d = absurd right
    by a Usage mine (r, spells, right) c d = absurd right
    by a Absent mine (r, spells, right) c d = absurd right
    by (Done n) (Done k) mine yours c d = refl
    by (Done n) (TooSmall k) (r, first, x) (s, second, y) c d = absurd (too_small r s n k room other same first second x.2 x.3.bytes_are y.2 y.3)
    by (Done n) Malformed (r, first, x) (bad, _) c d = absurd (whole_frame bytes r first bad)
    by (Done n) TimeExhausted (r, first, x) (s, second, y) c d = absurd (late r s first second x.0 y.0 y.1)
    by (TooSmall n) (Done k) (r, first, x) (s, second, y) c d = absurd (too_small s r k n other room (sym same) second first y.2 y.3.bytes_are x.2 x.3)
    by (TooSmall n) (TooSmall k) mine yours c d = refl
    by (TooSmall n) Malformed (r, first, x) (bad, _) c d = absurd (whole_frame bytes r first bad)
    by (TooSmall n) TimeExhausted (r, first, x) (s, second, y) c d = absurd (late r s first second x.0 y.0 y.1)
    by Malformed (Done k) (bad, _) (s, second, y) c d = absurd (whole_frame bytes s second bad)
    by Malformed (TooSmall k) (bad, _) (s, second, y) c d = absurd (whole_frame bytes s second bad)
    by Malformed Malformed mine yours c d = refl
    by Malformed TimeExhausted (bad, _) (s, second, y) c d = absurd (whole_frame bytes s second bad)
    by TimeExhausted (Done k) (r, first, x) (s, second, y) c d = absurd (late s r second first y.0 x.0 x.1)
    by TimeExhausted (TooSmall k) (r, first, x) (s, second, y) c d = absurd (late s r second first y.0 x.0 x.1)
    by TimeExhausted Malformed (r, first, x) (bad, _) c d = absurd (whole_frame bytes r first bad)
    by TimeExhausted TimeExhausted mine yours c d = refl
