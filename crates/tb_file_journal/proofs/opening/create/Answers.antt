use Rattle.std.proofs.Common.{arith, inl, inr, ◌≡◌}
use Rattle.std.proofs.lemmas.Grind.{common_steps}
use Rattle.tb_file_journal.specs.declared.opening.FileContent.TheVariants as content
use Rattle.tb_file_journal.specs.Opening.{IsAsBefore, device_left}
use Rattle.tb_file_journal.specs.Creating.{IsUnborn, MayBeCreated, file_content}
use Rattle.tb_file_journal.proofs.Blanks.{content_blank}
use Rattle.tb_file_journal.proofs.Moments.{then, weaker}
use Rattle.tb_file_journal.proofs.Named.{creates_in}
use Rattle.tb_file_journal.proofs.opening.create.Goals as goal

pub returns-else-ne-clause-any_moment : goal.returns-else-ne-clause-any_moment
returns-else-ne-clause-any_moment g c t sound =
    let before = g.D.Device.disk c.args.device in
    let mid = g.D.Device.disk c.look.new.device in
    let after = g.D.Device.disk (device_left c.begin.result) in
    let finds = c.in-Ok.ensures.finds t in
    let is : c.in-Ok.found ≡ content.Blank = grind (arith, common_steps) in
    let blank : file_content before.seen ≡ content.Blank = cc (is, finds.ok) in
    then before mid after (MayBeCreated before)
    (weaker before mid (IsAsBefore before) (MayBeCreated before) (λ c was. inl was) finds.any_moment)
    (weaker mid after IsUnborn (MayBeCreated before) (λ c unborn. inr (content_blank before.seen blank, unborn)) (c.begin.ensures.any_moment t (finds.settled sound)))

pub returns-else-ne-clause-handed : goal.returns-else-ne-clause-handed
returns-else-ne-clause-handed g c file held =
    let is : c.in-Ok.found ≡ content.Blank = grind (arith, common_steps) in
    let found = c.in-Ok.ensures.found file held in
    let blank : file_content file ≡ content.Blank = cc (is, found) in
    creates_in g.D.Device.holds c.begin.result file (content_blank file blank) c.begin.ensures.other
