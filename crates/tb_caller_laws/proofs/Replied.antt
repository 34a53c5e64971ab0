-- Which pairs the bytes of replies belong to: each reply that is read from them is that to one pair, and they have those to no other pairs.
use Rattle.std.proofs.Common.{◌≡◌, ℕ, List, [], ◌∷◌, ◌++◌, length, refl, sym, ap, ◌∙◌, subst, arith, length-append, append_assoc, append-nil}
use Rattle.std.proofs.lemmas.List.{append_cancel_left}
use Rattle.std.specs.List.{flat_map}
use Rattle.tb_records.specs.Messages.{Answer, status_code}
use Rattle.tb_records.specs.Ordered.{Each}
use Rattle.tb_records.specs.ReplyFrames.{reply_body_bytes, reply_bytes, IsReply, reply_header_bytes}
use Rattle.tb_records.proofs.ReplyLaws.{one_reading}
use Rattle.tb_records.proofs.ReplyPlaces.{length-reply_header}
use Rattle.tb_machine.specs.Histories.{State, answer_to}
use Rattle.tb_machine.specs.Scripts.{Pair, after_pair}
use Rattle.tb_file.specs.Rounds.{state_from, answers_from, reply_bytes_from}
use Rattle.tb_caller.specs.Streams.{IsReadIn}

-- a reply has bytes
no_reply : (a : Answer) (more : List ℕ) → [] ≡ reply_bytes a ++ more → ⊥
no_reply a more same = omega (
  arith,
  ap length same,
  length-append (reply_bytes a) more,
  length-append (reply_header_bytes a.client a.session a.request a.operation (status_code a.status) (length (reply_body_bytes a.body)) a.commit) (reply_body_bytes a.body),
  length-reply_header a.client a.session a.request a.operation (status_code a.status) (length (reply_body_bytes a.body)) a.commit,
)

no_reply_after : (xs : List ℕ) (a : Answer) (more : List ℕ) → [] ≡ xs ++ (reply_bytes a ++ more) → ⊥
no_reply_after xs a more same = omega (
  arith,
  ap length same,
  length-append xs (reply_bytes a ++ more),
  length-append (reply_bytes a) more,
  length-append (reply_header_bytes a.client a.session a.request a.operation (status_code a.status) (length (reply_body_bytes a.body)) a.commit) (reply_body_bytes a.body),
  length-reply_header a.client a.session a.request a.operation (status_code a.status) (length (reply_body_bytes a.body)) a.commit,
)

pub none_read : (a : Answer) → IsReadIn [] a → ⊥
none_read a reads = no_reply_after (flat_map reply_bytes reads.earlier) a reads.rest reads.bytes_are

-- of two parts of the same pairs, one has the other, if it has the replies to it
pub pairs_within : (S : State) (ps qs xs ys : List Pair) (z : List ℕ) → ps ++ qs ≡ xs ++ ys → reply_bytes_from S xs ≡ reply_bytes_from S ps ++ z → (more : List Pair) × (ps ++ more ≡ xs)
pairs_within S [] qs xs ys z same replies = (xs, refl)
pairs_within S (p ∷ ps) qs [] ys z same replies =
    absurd (no_reply (answer_to (after_pair S p) p.1) (reply_bytes_from (after_pair S p) ps ++ z) (replies ∙ append_assoc (reply_bytes (answer_to (after_pair S p) p.1)) (reply_bytes_from (after_pair S p) ps) z))
pairs_within S (p ∷ ps) qs (x ∷ xs) ys z same replies =
    let first : x ≡ p = cc (same) in
    let rest : ps ++ qs ≡ xs ++ ys = cc (same) in
    let told : reply_bytes_from S (p ∷ xs) ≡ reply_bytes_from S (p ∷ ps) ++ z = subst (λ (x : Pair). reply_bytes_from S (x ∷ xs) ≡ reply_bytes_from S (p ∷ ps) ++ z) first replies in
    let found = pairs_within (after_pair S p) ps qs xs ys z rest
    (append_cancel_left (reply_bytes (answer_to (after_pair S p) p.1)) (reply_bytes_from (after_pair S p) xs) (reply_bytes_from (after_pair S p) ps ++ z)
    (told ∙ append_assoc (reply_bytes (answer_to (after_pair S p) p.1)) (reply_bytes_from (after_pair S p) ps) z)) in
    (found.0, ap (λ l. p ∷ l) found.1 ∙ ap (λ (x : Pair). x ∷ xs) (sym first))

-- the pair that a reply is to, after other replies
pub record IsReplyTo (S : State) (pairs : List Pair) (earlier : List Answer) (a : Answer) : Type 0 where
  pub before : List Pair
  pub pair : Pair
  pub later : List Pair
  pub whole : pairs ≡ before ++ pair ∷ later
  pub answer : a ≡ answer_to (after_pair (state_from S before) pair) pair.1
  pub bytes : reply_bytes_from S (before ++ pair ∷ []) ≡ flat_map reply_bytes earlier ++ reply_bytes a

pub reply_to : (S : State) (pairs : List Pair) (earlier : List Answer) (a : Answer) (rest : List ℕ) → Each IsReply (answers_from S pairs) → Each IsReply earlier → IsReply a
    → reply_bytes_from S pairs ≡ flat_map reply_bytes earlier ++ (reply_bytes a ++ rest) → IsReplyTo S pairs earlier a
reply_to S [] earlier a rest all others is same = absurd (no_reply_after (flat_map reply_bytes earlier) a rest same)
reply_to S (p ∷ ps) [] a rest all others is same =
    let one = one_reading (answer_to (after_pair S p) p.1) a (reply_bytes_from (after_pair S p) ps) rest all.0 is same in
    record { before = []; pair = p; later = ps; whole = refl; answer = sym one.0; bytes = append-nil (reply_bytes (answer_to (after_pair S p) p.1)) ∙ ap reply_bytes one.0 }
reply_to S (p ∷ ps) (x ∷ xs) a rest all others is same =
    let one = one_reading (answer_to (after_pair S p) p.1) x (reply_bytes_from (after_pair S p) ps) (flat_map reply_bytes xs ++ (reply_bytes a ++ rest)) all.0 others.0
    (same ∙ append_assoc (reply_bytes x) (flat_map reply_bytes xs) (reply_bytes a ++ rest)) in
    let found = reply_to (after_pair S p) ps xs a rest all.1 others.1 is one.1 in
    record {
      before = p ∷ found.before;
      pair = found.pair;
      later = found.later;
      whole = ap (λ l. p ∷ l) found.whole;
      answer = found.answer;
      bytes = ap (λ l. reply_bytes (answer_to (after_pair S p) p.1) ++ l) found.bytes
          ∙ ap (λ (b : Answer). reply_bytes b ++ (flat_map reply_bytes xs ++ reply_bytes a)) one.0
          ∙ sym (append_assoc (reply_bytes x) (flat_map reply_bytes xs) (reply_bytes a));
    }
