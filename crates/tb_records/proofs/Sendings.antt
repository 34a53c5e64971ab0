-- Bytes that are sent in two parts.
use Rattle.std.proofs.Common.{◌≡◌, ℕ, ◌+◌, min, List, ◌++◌, length, take, Result, Ok, Err, MatchResult, OnOk, ◌<◌, ◌^◌, sym, subst, ◌∙◌, arith}
use Rattle.std.proofs.lemmas.List.{take-append-le}
use Rattle.std.proofs.lemmas.Grind.{common_steps}
use Rattle.std.proofs.Math.Seq.{take-append-add, take-append_seam}
use Rattle.std.proofs.KnownBytes.{Appends-trans}
use Rattle.std.specs.Io.KnownBytes.{Appends}
use Rattle.tb_records.specs.declared.bodies.ReplyBody.{ReplyBody}
use Rattle.tb_records.specs.declared.faults.FrameFault.{FrameFault}
use Rattle.tb_records.specs.declared.faults.FrameFault.TheVariants.{Device}
use Rattle.tb_records.specs.declared.bodies.Body.{Body}
use Rattle.tb_records.specs.Frames.{header_bytes, body_bytes, request_bytes, BodyFits, IsRequest}
use Rattle.tb_records.specs.Messages.{Message, Answer, operation, IsLawful, IsRight}
use Rattle.tb_records.specs.ReplyFrames.{reply_body_bytes, reply_bytes, ReplyBodyFits, IsReply}
use Rattle.tb_records.specs.Transport.{Output, Sent, CutOff}
use Rattle.tb_records.specs.private.Headers.{header_of_reply}
use Rattle.tb_records.proofs.Pieces.{refuses_since}

module _ (xs ys : List ℕ) (old mid new : Output) where
  -- both parts were sent
  sent_both : Sent xs old mid → Sent ys mid new → Sent (xs ++ ys) old new
  sent_both one two = record {
    grown = Appends-trans old.written mid.written new.written xs ys one.grown two.grown;
    counted = two.counted ∙ one.counted;
    flowed = two.flowed ∙ one.flowed;
  }

  -- the first part was sent, and a prefix of the second
  sent_some : Sent xs old mid → CutOff ys mid new → CutOff (xs ++ ys) old new
  sent_some one two = record {
    count = length xs + two.count;
    grown = subst (Appends old.written new.written) (sym (take-append-add xs ys two.count)) (Appends-trans old.written mid.written new.written xs (take two.count ys) one.grown two.grown);
    refused = refuses_since old mid new one.counted one.flowed two.refused;
  }

  -- the first part was sent, and the second as the result says
  pub sent_rest : (whole : List ℕ) → xs ++ ys ≡ whole → Sent xs old mid
      → (r : Result (Unit {0}) FrameFault)
      → MatchResult r (λ _. Sent ys mid new) (λ e. (e ≡ Device) × CutOff ys mid new)
      → MatchResult r (λ _. Sent whole old new) (λ e. (e ≡ Device) × CutOff whole old new)
  sent_rest whole e one (Ok x) two = subst (λ (l : List ℕ). Sent l old new) e (sent_both one two)
  sent_rest whole e one (Err fault) two = (two.0, subst (λ (l : List ℕ). CutOff l old new) e (sent_some one two.1))

beginning : (n : ℕ) (xs ys : List ℕ) → take (min n (length xs)) (xs ++ ys) ≡ take n xs
beginning n xs ys = grind (arith, common_steps, take-append-le, take-append_seam)

-- a prefix of the first part was sent
pub sent_few : (xs ys whole : List ℕ) (old new : Output) → xs ++ ys ≡ whole → CutOff xs old new → CutOff whole old new
sent_few xs ys whole old new e one = subst (λ (l : List ℕ). CutOff l old new) e (record {
  count = min one.count (length xs);
  grown = subst (Appends old.written new.written) (sym (beginning one.count xs ys)) one.grown;
  refused = one.refused;
})

-- the header before the length of the body, and the body
pub reply_frame : (r : Answer) (header : List ℕ) (len : ℕ) (body : ReplyBody) → header ≡ header_of_reply r len → len ≡ length (reply_body_bytes body) → body ≡ r.body
    → header ++ reply_body_bytes body ≡ reply_bytes r
reply_frame r header len body eh el eb = cc

pub request_frame : (r : Message) (header : List ℕ) (len : ℕ) (body : Body) → header ≡ header_bytes r.client r.session r.request (operation r.body) len → len ≡ length (body_bytes body) → body ≡ r.body
    → header ++ body_bytes body ≡ request_bytes r
request_frame r header len body eh el eb = cc

-- the numbers of a frame that was sent fit their fields
pub reply_fits : (r : Answer) (body : ReplyBody) (result : Result (Unit {0}) FrameFault) → body ≡ r.body → (r.client < 2 ^ 128) × (r.session < 2 ^ 64) × (r.request < 2 ^ 32) × (r.commit < 2 ^ 64)
    → IsRight r → OnOk result (ReplyBodyFits body) → OnOk result (IsReply r)
reply_fits r body (Ok x) e fits right all = record {
  client = fits.0;
  session = fits.1;
  request = fits.2;
  commit = fits.3;
  body = subst ReplyBodyFits e all;
  right = right;
}
reply_fits r body (Err fault) e fits right all = tt

pub request_fits : (r : Message) (body : Body) (result : Result (Unit {0}) FrameFault) → body ≡ r.body → (r.client < 2 ^ 128) × (r.session < 2 ^ 64) × (r.request < 2 ^ 32)
    → IsLawful r → OnOk result (BodyFits body) → OnOk result (IsRequest r)
request_fits r body (Ok x) e fits lawful all = record {
  client = fits.0;
  session = fits.1;
  request = fits.2;
  items = subst BodyFits e all;
  lawful = lawful;
}
request_fits r body (Err fault) e fits lawful all = tt
