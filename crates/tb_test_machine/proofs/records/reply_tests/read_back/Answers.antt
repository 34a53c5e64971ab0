use Rattle.std.proofs.Common.{ℕ, ◌≡◌, [], ◌++◌, List, length, Err, ◌∙◌, refl, sym, ap, append-nil}
use Rattle.std.proofs.lemmas.Result.{err_from_is_err_and}
use Rattle.tb_records.specs.declared.faults.FrameFault.{FrameFault}
use Rattle.tb_records.specs.declared.faults.FrameFault.TheVariants.{NoMemory}
use Rattle.tb_records.specs.Messages.{Answer}
use Rattle.tb_records.specs.ReplyFrames.{reply_bytes, IsReply, SpellsReply, OnlyThisReply}
use Rattle.tb_test_machine.proofs.records.reply_tests.read_back.Goals as goal

-- what was appended to nothing spells the reply
spelled : (bytes out front : List ℕ) (r : Answer) → bytes ≡ out → out ≡ front ++ reply_bytes r → front ≡ [] → IsReply r → SpellsReply bytes r
spelled bytes out front r same appended none is = record { bytes_are = same ∙ appended ∙ ap (λ l. l ++ reply_bytes r) none; is = is }

-- a fault other than out of memory would contradict what was written
only_memory : (fault : FrameFault) (r : Answer) (n : ℕ) → OnlyThisReply (Err fault) r n → fault ≡ NoMemory
only_memory NoMemory r n only = refl
only_memory fault r n only = absurd only

pub returns : goal.returns
returns c =
    let is = spelled c.as_slice.result.now _ _ c.args.reply.now c.as_slice.ensures.value c.in_ok-write_reply.ensures.ok c.new-bytes.ensures.items c.in_ok-write_reply.ensures.fits in
    (c.in_ok-read.ensures.only c.args.reply.now c.as_slice.result.now [] is (sym (append-nil c.as_slice.result.now))).0

pub returns-in_err-read : goal.returns-in_err-read
returns-in_err-read c =
    let is = spelled c.as_slice.result.now _ _ c.args.reply.now c.as_slice.ensures.value c.in_ok-write_reply.ensures.ok c.new-bytes.ensures.items c.in_ok-write_reply.ensures.fits in
    let p = err_from_is_err_and c.from_residual-in_err-read.result c.from_residual-in_err-read.ensures.1 in
    rw (p.1, p.2) (only_memory c.in_err-read.field-0.0 c.args.reply.now (length c.as_slice.result.now)
    (c.in_err-read.ensures.only c.args.reply.now c.as_slice.result.now [] is (sym (append-nil c.as_slice.result.now))))
