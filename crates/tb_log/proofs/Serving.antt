-- The pairs of an entry, one more at a time.
use Rattle.std.proofs.Common.{◌≡◌, ℕ, ◌+◌, ◌≤◌, inl, inr, List, [], ◌∷◌, ◌++◌, length, fold, Some, None, Result, Ok, Err, refl, sym, ap, subst, ◌∙◌, arith, append_assoc, append-nil, length-append}
use Rattle.tb_records.specs.ReplyFrames.{IsReply}
use Rattle.tb_records.specs.Inputs.{TimedAnswered}
use Rattle.tb_records.specs.Transport.{Output, Sent, CutOff}
use Rattle.tb_machine.specs.Scripts.{Pair}
use Rattle.tb_machine.specs.Runs.{IsTimely}
use Rattle.tb_machine.proofs.Legal.{fold_snoc}
use Rattle.tb_machine.proofs.Running.{sends_none, sends_then}
use Rattle.tb_log.specs.declared.faults.LogFault.{LogFault}
use Rattle.tb_log.specs.declared.faults.LogFault.TheVariants.{Device, NoMemory}
use Rattle.tb_log.specs.Format.{reply_item, chained_hash, number_bytes}
use Rattle.tb_log.specs.Following.{Following, pair_answer, with_logged_pair, AreAnswered, numbered_replies}
use Rattle.tb_log.specs.Entries.{BeginsWithPairs}
use Rattle.tb_log.specs.Steps.{Frames, WritesBytes}
use Rattle.tb_log.proofs.Pairs.{begins_on, begins_few}
use Rattle.tb_log.specs.Follows.{AnswersIndexed, ServesItems, Stops}

answered_snoc : (F : Following) (ps : List Pair) (p : Pair) → AreAnswered F ps → IsTimely (fold with_logged_pair F ps).state p → IsReply (pair_answer (fold with_logged_pair F ps) p) → AreAnswered F (ps ++ p ∷ [])
answered_snoc F [] p all timely reply = (timely, reply, tt)
answered_snoc F (q ∷ qs) p all timely reply = (all.0, all.1, answered_snoc (with_logged_pair F q) qs p all.2 timely reply)

replies_snoc : (F : Following) (index : ℕ) (ps : List Pair) (p : Pair)
    → numbered_replies F index (ps ++ p ∷ []) ≡ numbered_replies F index ps ++ reply_item (fold with_logged_pair F ps).position (index + length ps) (pair_answer (fold with_logged_pair F ps) p)
replies_snoc F index [] p =
    append-nil (reply_item F.position index (pair_answer F p))
    ∙ ap (λ (i : ℕ). reply_item F.position i (pair_answer F p)) (omega arith)
replies_snoc F index (q ∷ qs) p =
    let first : List ℕ = reply_item F.position index (pair_answer F q) in
    let G : Following = with_logged_pair F q in
    ap (λ (bs : List ℕ). first ++ bs) (replies_snoc G (index + 1) qs p)
    ∙ sym (append_assoc first (numbered_replies G (index + 1) qs) (reply_item (fold with_logged_pair G qs).position (index + 1 + length qs) (pair_answer (fold with_logged_pair G qs) p)))
    ∙ ap (λ (i : ℕ). (first ++ numbered_replies G (index + 1) qs) ++ reply_item (fold with_logged_pair G qs).position i (pair_answer (fold with_logged_pair G qs) p)) (omega arith)

-- one pair

-- what was hashed and written is the frame, and the line with it
module _ (index : ℕ) (F G : Following) (p : Pair) (frame hashed shown line sent : List ℕ) (frames : Frames frame p F.state G.state) (position : G.position ≡ F.position) (log : G.log ≡ F.log)
    (replies : G.replies ≡ chained_hash F.replies hashed) (hashed_is : hashed ≡ frame) (line_is : line ≡ 1 ∷ number_bytes 8 F.position ++ number_bytes 4 index ++ shown) (shown_is : shown ≡ frame) (sent_is : sent ≡ line) where
  moved : G ≡ with_logged_pair F p
  moved = λ i. record { state = frames.1 i; position = position i; log = log i; replies = (replies ∙ ap (chained_hash F.replies) (hashed_is ∙ frames.2)) i }

  whole_line : sent ≡ reply_item F.position index (pair_answer F p)
  whole_line = sent_is ∙ line_is ∙ ap (λ (bs : List ℕ). 1 ∷ number_bytes 8 F.position ++ number_bytes 4 index ++ bs) (shown_is ∙ frames.2)

  pub answered : (r : Result (Unit {0}) LogFault) (start written : Output) → WritesBytes r sent start written → AnswersIndexed index r F G p start written
  answered (Ok done) start written writes = (frames.0, frames.3, moved, subst (λ (bs : List ℕ). Sent bs start written) whole_line writes)
  answered (Err Device) start written writes = subst (λ (bs : List ℕ). CutOff bs start written) whole_line writes
  answered (Err fault) start written writes = absurd writes

-- so many pairs were served
pub record Serving (index : ℕ) (F G : Following) (content left : List ℕ) (before after : Output) : Type 0 where
  pub pairs : List Pair
  pub count : length pairs ≡ index
  pub served : ServesItems pairs F G content left before after

pub serving_none : (F : Following) (content : List ℕ) (o : Output) → Serving 0 F F content content o o
serving_none F content o = record {
  pairs = [];
  count = refl;
  served = record { spelled = refl; fit = tt; state = refl; answered = tt; sent = sends_none o };
}

-- the pair is read, and answered
module _ (index : ℕ) (F G H : Following) (p : Pair) (content left rest : List ℕ) (before middle after : Output) (so_far : Serving index F G content left before middle)
    (read : TimedAnswered (Ok (Some p)) left rest) (answer : AnswersIndexed index (Ok tt) G H p middle after) where
  abbrev ps : List Pair
  ps = so_far.pairs

  abbrev behind : Following
  behind = fold with_logged_pair F ps

  whole : numbered_replies F 0 ps ++ reply_item G.position index (pair_answer G p) ≡ numbered_replies F 0 (ps ++ p ∷ [])
  whole =
      ap (λ (K : Following). numbered_replies F 0 ps ++ reply_item K.position index (pair_answer K p)) so_far.served.state
      ∙ ap (λ (i : ℕ). numbered_replies F 0 ps ++ reply_item behind.position i (pair_answer behind p)) (omega (arith, so_far.count))
      ∙ sym (replies_snoc F 0 ps p)

  front : BeginsWithPairs (ps ++ p ∷ []) content rest
  front = begins_on ps p content left rest (record { spelled = so_far.served.spelled; fit = so_far.served.fit }) read

  pub serving_on : Serving (index + 1) F H content rest before after
  serving_on = record {
    pairs = ps ++ p ∷ [];
    count = omega (arith, length-append ps (p ∷ []), so_far.count);
    served = record {
      spelled = front.spelled;
      fit = front.fit;
      state = answer.2 ∙ ap (λ (K : Following). with_logged_pair K p) so_far.served.state ∙ sym (fold_snoc with_logged_pair F ps p);
      answered = answered_snoc F ps p so_far.served.answered
          (subst (λ (K : Following). IsTimely K.state p) so_far.served.state answer.0)
          (subst (λ (K : Following). IsReply (pair_answer K p)) so_far.served.state answer.1);
      sent = subst (λ (bs : List ℕ). Sent bs before after) whole
          (sends_then (numbered_replies F 0 ps) (reply_item G.position index (pair_answer G p)) before middle after so_far.served.sent answer.3);
    };
  }

pub serving_few : (index : ℕ) (F G : Following) (content left : List ℕ) (before after : Output) → Serving index F G content left before after → index ≤ length content
serving_few index F G content left before after so_far =
    omega (arith, so_far.count, begins_few so_far.pairs content left (record { spelled = so_far.served.spelled; fit = so_far.served.fit }))

-- how it ends

pub serving_done : (index : ℕ) (F G : Following) (content left rest : List ℕ) (before after : Output) → Serving index F G content left before after → TimedAnswered (Ok None) left rest
    → (ps : List Pair) × ServesItems ps F G content [] before after
serving_done index F G content left rest before after so_far end = (so_far.pairs, subst (λ (bs : List ℕ). ServesItems so_far.pairs F G content bs before after) end.0 so_far.served)

pub serving_lost : (index : ℕ) (F G : Following) (content left : List ℕ) (before after : Output) → Serving index F G content left before after → Stops NoMemory F content before after
serving_lost index F G content left before after so_far = record {
  pairs = so_far.pairs;
  now = G;
  left = left;
  middle = after;
  served = so_far.served;
  stop = inl (refl, refl);
}

pub serving_unanswered : (index : ℕ) (F G H : Following) (p : Pair) (content left rest : List ℕ) (before middle after : Output) (fault : LogFault) → Serving index F G content left before middle
    → TimedAnswered (Ok (Some p)) left rest
    → AnswersIndexed index (Err fault) G H p middle after
    → Stops fault F content before after
serving_unanswered index F G H p content left rest before middle after fault so_far read answer = record {
  pairs = so_far.pairs;
  now = G;
  left = left;
  middle = middle;
  served = so_far.served;
  stop = inr (record {
    pair = p;
    rest = rest;
    spelled = read.0;
    later = H;
    stop = subst (λ (i : ℕ). AnswersIndexed i (Err fault) G H p middle after) (sym so_far.count) answer;
  });
}
