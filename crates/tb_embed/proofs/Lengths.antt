-- How long the frame of a reply is, and of the one that a request gets, and that its numbers fit.
use Rattle.std.proofs.Common.{true≢false, ◌≡◌, ◌≢◌, ℕ, ◌+◌, ◌*◌, ◌^◌, ◌<◌, Bool, true, false, cond, List, length, Option, Some, None, refl, sym, ap, ◌∙◌, subst, arith, eqb, length-append}
use Rattle.tb_records.specs.declared.bodies.ReplyBody.{ReplyBody}
use Rattle.tb_records.specs.declared.bodies.ReplyBody.TheVariants.{Empty, Results, Accounts, Transfers}
use Rattle.tb_records.specs.declared.replies.Status.{Status}
use Rattle.tb_records.specs.declared.replies.Status.TheVariants as status
use Rattle.tb_records.specs.declared.bodies.Body.TheVariants as body
use Rattle.tb_records.specs.Messages.{Message, Answer, IsLawful, status_code, is_register}
use Rattle.tb_records.specs.RecordBytes.{account_bytes, transfer_bytes, result_bytes}
use Rattle.tb_records.specs.ReplyFrames.{reply_body_bytes, reply_bytes, IsReply, reply_header_bytes}
use Rattle.tb_records.proofs.Sizes.{length-account, length-transfer, length-result}
use Rattle.tb_records.proofs.ItemBytes.{length_items}
use Rattle.tb_records.proofs.ReplyPlaces.{length-reply_header}
use Rattle.tb_sessions.specs.declared.rows.Row.{Row}
use Rattle.tb_sessions.specs.declared.classes.Class.{Class}
use Rattle.tb_sessions.specs.declared.classes.Class.TheVariants.{New, Repeat, NoSession}
use Rattle.tb_sessions.specs.Judged.{row_of, class_of}
use Rattle.tb_sessions.proofs.ByRow.{class_by}
use Rattle.tb_machine.specs.Histories.{State, is_new, step, status_of, refusal, answer_by, answer_to}
use Rattle.tb_machine.specs.Scripts.{Pair, entry_of, after_pair}
use Rattle.tb_machine.specs.Runs.{is_new_in, IsTimely, answer_bytes}
use Rattle.tb_machine.proofs.Lawful.{lawful_numbers}
use Rattle.tb_machine.proofs.RepliesFit.{refusal_right}
use Rattle.tb_machine.proofs.PairAnswers.{row_after, answer_after, after_new, after_known}
use Rattle.std.specs.Option.{option_map}
use Rattle.tb_embed.specs.private.Filling.{length_by, FitsBy}

length_frame : (r : Answer) → length (reply_bytes r) ≡ 48 + length (reply_body_bytes r.body)
length_frame r =
    let len = length (reply_body_bytes r.body) in
    length-append (reply_header_bytes r.client r.session r.request r.operation (status_code r.status) len r.commit) (reply_body_bytes r.body)
    ∙ ap (λ (n : ℕ). n + len) (length-reply_header r.client r.session r.request r.operation (status_code r.status) len r.commit)

abbrev pub length_body : (b : ReplyBody) → ℕ
length_body Empty = 0
length_body (Results results) = 8 * length results
length_body (Accounts accounts) = 128 * length accounts
length_body (Transfers transfers) = 128 * length transfers

body_is : (b : ReplyBody) → length (reply_body_bytes b) ≡ length_body b
unfolding reply_body_bytes
body_is Empty = refl
body_is (Results results) = length_items result_bytes 8 length-result results
body_is (Accounts accounts) = length_items account_bytes 128 length-account accounts
body_is (Transfers transfers) = length_items transfer_bytes 128 length-transfer transfers

-- the frame of a reply with this body
pub frame_is : (r : Answer) (b : ReplyBody) → r.body ≡ b → 48 + length_body b ≡ length (reply_bytes r)
frame_is r b e = sym (length_frame r ∙ ap (λ (n : ℕ). 48 + n) (ap (λ (d : ReplyBody). length (reply_body_bytes d)) e ∙ body_is b))

refusal_is : (s : Status) (r : Message) → 48 ≡ length (reply_bytes (refusal s r))
refusal_is s r = frame_is (refusal s r) Empty refl

known_length : (c : Class) (o : Option Row) (r : Message) → is_new c ≡ false → length_by c o ≡ length (reply_bytes (answer_by c o r))
known_length New o r known = absurd (true≢false known)
known_length Repeat (Some row) r known = refl
known_length c o r known = refusal_is (status_of c) r

module _ (S : State) (p : Pair) (lawful : IsLawful p.1) (timely : IsTimely S p) where
  abbrev Right : State → Class → Type 0
  Right T c = length_by c (row_of T.rows p.1.client) ≡ length (reply_bytes (answer_to T p.1))

  new_length : is_new_in S p ≡ true → Right (after_pair S p) New
  new_length new =
      let e = entry_of S p in
      subst (λ (T : State). Right T New) (sym (after_new S p new (timely new)))
      (ap (length_by New) (row_after S e) ∙ sym (ap (λ (a : Answer). length (reply_bytes a)) (answer_after S e lawful)))

  old_length : is_new_in S p ≡ false → Right (after_pair S p) (class_of S.rows p.1)
  old_length known = subst (λ (T : State). Right T (class_of S.rows p.1)) (sym (after_known S p known)) (known_length (class_of S.rows p.1) (row_of S.rows p.1.client) p.1 known)

  by_class : (c : Class) → c ≡ class_of S.rows p.1 → Right (after_pair S p) c
  by_class New e = new_length (ap is_new (sym e))
  by_class c e = subst (Right (after_pair S p)) (sym e) (old_length (ap is_new (sym e)))

  -- the reply to a request that was served is as long as its class and its client's row say
  pub answered_length : (T : State) (c : Class) (client : ℕ) → c ≡ class_of S.rows p.1 → client ≡ p.1.client → T ≡ after_pair S p → length_by c (row_of T.rows client) ≡ length (answer_bytes S p)
  answered_length T c client e own is =
      ap (λ (k : ℕ). length_by c (row_of T.rows k)) own
      ∙ subst (λ (U : State). length_by c (row_of U.rows p.1.client) ≡ length (answer_bytes S p)) (sym is) (by_class c e)

-- a request's numbers fit the fields of a frame
pub record HasFields (r : Message) : Type 0 where
  pub client : r.client < 2 ^ 128
  pub session : r.session < 2 ^ 64
  pub request : r.request < 2 ^ 32

pub fields_of : (r : Message) (client session request : ℕ) → client ≡ r.client → session ≡ r.session → request ≡ r.request → client < 2 ^ 128 → session < 2 ^ 64 → request < 2 ^ 32 → HasFields r
fields_of r client session request e f g a b c = record { client = subst (λ (k : ℕ). k < 2 ^ 128) e a; session = subst (λ (k : ℕ). k < 2 ^ 64) f b; request = subst (λ (k : ℕ). k < 2 ^ 32) g c }

-- a refusal names the request's numbers, and is right, as its status is not that of a reply
refusal_fits : (s : Status) (r : Message) → eqb (status_code s) 0 ≡ false → IsLawful r → HasFields r → IsReply (refusal s r)
refusal_fits s r other lawful fields = record { client = fields.client; session = fields.session; request = fields.request; commit = omega arith; body = tt; right = refusal_right s r other (lawful_numbers r lawful) }

-- a client without a row has no repeat
no_repeat : (r : Message) → Repeat ≡ class_by None r → ⊥
no_repeat r e = by (is_register r.body) e
  where
    by : (b : Bool) → Repeat ≡ cond b New NoSession → ⊥
    by true e = cc
    by false e = cc

known_fits : (c : Class) (o : Option Row) (r : Message) → is_new c ≡ false → c ≡ class_by o r → IsLawful r → HasFields r → FitsBy c o → IsReply (answer_by c o r)
known_fits New o r known is lawful fields fits = absurd (true≢false known)
known_fits Repeat (Some row) r known is lawful fields fits = fits
known_fits Repeat None r known is lawful fields fits = absurd (no_repeat r is)
known_fits c o r known is lawful fields fits = refusal_fits (status_of c) r refl lawful fields

module _ (S : State) (p : Pair) (lawful : IsLawful p.1) (timely : IsTimely S p) (fields : HasFields p.1) where
  new_fits : is_new_in S p ≡ true → FitsBy New (row_of (after_pair S p).rows p.1.client) → IsReply (answer_to (after_pair S p) p.1)
  new_fits new fits =
      let e = entry_of S p in
      let T = step S e in
      let there = after_new S p new (timely new) in
      let stored = subst (FitsBy New) (row_after S e) (subst (λ (U : State). FitsBy New (row_of U.rows p.1.client)) there fits) in
      subst (λ (U : State). IsReply (answer_to U p.1)) (sym there) (subst IsReply (sym (answer_after S e lawful)) stored)

  old_fits : (c : Class) → c ≡ class_of S.rows p.1 → is_new c ≡ false → FitsBy c (row_of (after_pair S p).rows p.1.client) → IsReply (answer_to (after_pair S p) p.1)
  old_fits c is known fits =
      let there : after_pair S p ≡ S = after_known S p (sym (ap is_new is) ∙ known) in
      let here = subst (λ (U : State). FitsBy c (row_of U.rows p.1.client)) there fits in
      let one = known_fits c (row_of S.rows p.1.client) p.1 known is lawful fields here in
      subst (λ (U : State). IsReply (answer_to U p.1)) (sym there) (subst (λ (d : Class). IsReply (answer_by d (row_of S.rows p.1.client) p.1)) is one)

  fits_by_class : (c : Class) → c ≡ class_of S.rows p.1 → FitsBy c (row_of (after_pair S p).rows p.1.client) → IsReply (answer_to (after_pair S p) p.1)
  fits_by_class New is fits = new_fits (ap is_new (sym is)) fits
  fits_by_class c is fits = old_fits c is refl fits

  -- the numbers of the reply to a request that was served fit, as its class and its client's row say
  pub answered_fits : (T : State) (c : Class) (client : ℕ) → c ≡ class_of S.rows p.1 → client ≡ p.1.client → T ≡ after_pair S p → FitsBy c (row_of T.rows client) → IsReply (answer_to (after_pair S p) p.1)
  answered_fits T c client is own there fits = fits_by_class c is (subst (λ (k : ℕ). FitsBy c (row_of (after_pair S p).rows k)) own (subst (λ (U : State). FitsBy c (row_of U.rows client)) there fits))

-- the numbers of a client's stored reply fit
pub stored_fits : (c : Class) (o : Option Row) (a : Answer) → option_map (λ (row : Row). row.reply) o ≡ Some a → IsReply a → FitsBy c o
stored_fits c None a is fits = absurd cc
stored_fits c (Some row) a is fits = by c
  where
    same : a ≡ row.reply
    same = cc

    by : (c : Class) → FitsBy c (Some row)
    by New = subst IsReply same fits
    by Repeat = subst IsReply same fits
    by c = tt
