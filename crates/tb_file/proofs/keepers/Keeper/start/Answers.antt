use Rattle.std.proofs.Common.{inl, inr, sym, ap, ◌∙◌, ◌≡◌}
use Rattle.tb_file_journal.specs.Creating.{is_blank}
use Rattle.tb_file_journal.proofs.Blanks.{content_blank, content_journal, content_other}
use Rattle.tb_file_journal.specs.declared.faults.JournalFault.TheVariants as faults
use Rattle.tb_file_journal.specs.declared.opening.OpenFault.TheVariants as open_faults
use Rattle.tb_file.specs.declared.faults.StartFault.TheVariants as start
use Rattle.tb_file.specs.Creating.{why_left}
use Rattle.tb_file.proofs.Causes.{has_start_then, has_either_of_start, has_either_of_create, has_either_of_created}
use Rattle.tb_file.proofs.Opened.{refused_at_last, started_at_last, opened_as_started, starts_file, created_as_started, created_at_last, not_created_at_last, creates_file, none_aside, looked, looked_at_last}
use Rattle.tb_file.proofs.keepers.Keeper.start.Goals as goal

-- a file that begins as a journal is opened

pub returns-in-Ok-Journal-clause-refused : goal.returns-in-Ok-Journal-clause-refused
returns-in-Ok-Journal-clause-refused g c t =
    let disk = g.D.Device.disk in
    let mid = c.look.new.device in
    let finds = c.in-Ok-Journal.ensures.finds t in
    refused_at_last disk c.args.rules.profile c.args.rules.clients_max (disk c.args.device) (disk mid) c.open.result
    (g.met.D.Device.counts_now mid) (looked _ _ _ finds) (content_journal (disk c.args.device).seen (sym finds.ok ∙ c.in-Ok-Journal.field-0-is)) (c.open.ensures.refused t)

pub returns-in-Ok-Journal-clause-cause : goal.returns-in-Ok-Journal-clause-cause
returns-in-Ok-Journal-clause-cause g c t =
    let disk = g.D.Device.disk in
    let finds = c.in-Ok-Journal.ensures.finds t in
    has_either_of_start (disk c.args.device) _ _ (has_start_then (disk c.args.device) (disk c.look.new.device) _ finds.cause.ok finds.seen _ (c.open.ensures.cause t))

pub returns-in-Ok-Journal-clause-any_moment : goal.returns-in-Ok-Journal-clause-any_moment
returns-in-Ok-Journal-clause-any_moment g c t sound =
    let disk = g.D.Device.disk in
    let mid = c.look.new.device in
    let finds = c.in-Ok-Journal.ensures.finds t in
    started_at_last c.args.rules.profile c.args.rules.clients_max (disk c.args.device) (disk mid) _ (g.met.D.Device.counts_now mid) (looked _ _ _ finds)
    (c.open.ensures.any_moment t (finds.sound ∙ sound))

pub returns-in-Ok-Journal-clause-started : goal.returns-in-Ok-Journal-clause-started
returns-in-Ok-Journal-clause-started g c t sound =
    let disk = g.D.Device.disk in
    let finds = c.in-Ok-Journal.ensures.finds t in
    opened_as_started disk c.args.rules.profile c.args.rules.clients_max (disk c.args.device).seen (disk c.look.new.device).seen c.open.result finds.seen
    (c.open.ensures.opened t (finds.sound ∙ sound))

pub returns-in-Ok-Journal-clause-fresh : goal.returns-in-Ok-Journal-clause-fresh
returns-in-Ok-Journal-clause-fresh g c t sound = c.open.ensures.fresh t ((c.in-Ok-Journal.ensures.finds t).sound ∙ sound)

pub returns-in-Ok-Journal-clause-handed : goal.returns-in-Ok-Journal-clause-handed
returns-in-Ok-Journal-clause-handed g c file held =
    starts_file c.args.rules.profile c.args.rules.clients_max file c.open.result (content_journal file (sym (c.in-Ok-Journal.ensures.found file held) ∙ c.in-Ok-Journal.field-0-is)) (c.open.ensures.handed file (c.in-Ok-Journal.ensures.same file held))

-- in a blank one a ledger is created

pub returns-in-Ok-Blank-clause-refused : goal.returns-in-Ok-Blank-clause-refused
returns-in-Ok-Blank-clause-refused g c t =
    let disk = g.D.Device.disk in
    let mid = c.look.new.device in
    not_created_at_last disk c.args.rules.profile c.args.rules.clients_max (disk c.args.device) (disk mid) c.create.result
    (g.met.D.Device.counts_now mid) (looked _ _ _ (c.in-Ok-Blank.ensures.finds t)) (c.create.ensures.refused t)

pub returns-in-Ok-Blank-clause-cause : goal.returns-in-Ok-Blank-clause-cause
returns-in-Ok-Blank-clause-cause g c t =
    let disk = g.D.Device.disk in
    let finds = c.in-Ok-Blank.ensures.finds t in
    has_either_of_created (disk c.args.device) (disk c.look.new.device) _ finds.cause.ok finds.seen (ap is_blank finds.seen ∙ content_blank (disk c.args.device).seen (sym finds.ok ∙ c.in-Ok-Blank.field-0-is))
    (why_left c.create.result) (c.create.ensures.cause t)

pub returns-in-Ok-Blank-clause-any_moment : goal.returns-in-Ok-Blank-clause-any_moment
returns-in-Ok-Blank-clause-any_moment g c t sound =
    let disk = g.D.Device.disk in
    let mid = c.look.new.device in
    let finds = c.in-Ok-Blank.ensures.finds t in
    created_at_last c.args.rules.profile c.args.rules.clients_max (disk c.args.device) (disk mid) _ (g.met.D.Device.counts_now mid) (looked _ _ _ finds)
    (c.create.ensures.any_moment t (finds.sound ∙ sound))

pub returns-in-Ok-Blank-clause-started : goal.returns-in-Ok-Blank-clause-started
returns-in-Ok-Blank-clause-started g c t sound =
    let disk = g.D.Device.disk in
    let finds = c.in-Ok-Blank.ensures.finds t in
    created_as_started disk c.args.rules.profile c.args.rules.clients_max (disk c.args.device).seen (disk c.look.new.device).seen c.create.result finds.seen
    (ap is_blank finds.seen ∙ content_blank (disk c.args.device).seen (sym finds.ok ∙ c.in-Ok-Blank.field-0-is)) (c.create.ensures.kept t (finds.sound ∙ sound)) c.create.ensures.uncut

pub returns-in-Ok-Blank-clause-fresh : goal.returns-in-Ok-Blank-clause-fresh
returns-in-Ok-Blank-clause-fresh g c t sound = c.create.ensures.fresh t ((c.in-Ok-Blank.ensures.finds t).sound ∙ sound)

pub returns-in-Ok-Blank-clause-handed : goal.returns-in-Ok-Blank-clause-handed
returns-in-Ok-Blank-clause-handed g c file held =
    creates_file g.D.Device.disk c.args.rules.profile c.args.rules.clients_max g.D.Device.holds file c.create.result
    (c.create.ensures.handed file (c.in-Ok-Blank.ensures.same file held)) c.create.ensures.empty c.create.ensures.uncut c.create.ensures.outside

pub returns-in-Ok-Blank-clause-aside : goal.returns-in-Ok-Blank-clause-aside
returns-in-Ok-Blank-clause-aside g c file held = none_aside g.D.Device.aside file c.create.result c.create.ensures.uncut

-- one that begins otherwise is refused

pub returns-in-Ok-Other-clause-refused : goal.returns-in-Ok-Other-clause-refused
returns-in-Ok-Other-clause-refused g c t =
    let finds = c.in-Ok-Other.ensures.finds t in
    let other = content_other (g.D.Device.disk c.args.device).seen (sym finds.ok ∙ c.in-Ok-Other.field-0-is) in
    ((other.1, looked _ _ _ finds), other.0)

pub returns-in-Ok-Other-clause-cause : goal.returns-in-Ok-Other-clause-cause
returns-in-Ok-Other-clause-cause g c t =
    let finds = c.in-Ok-Other.ensures.finds t in
    let other = content_other (g.D.Device.disk c.args.device).seen (sym finds.ok ∙ c.in-Ok-Other.field-0-is) in
    record { ok = tt; cause = inr (other.1, finds.cause.ok) }

pub returns-in-Ok-Other-clause-any_moment : goal.returns-in-Ok-Other-clause-any_moment
returns-in-Ok-Other-clause-any_moment g c t sound =
    let disk = g.D.Device.disk in
    looked_at_last c.args.rules.profile c.args.rules.clients_max (disk c.args.device) (disk c.look.new.device) (looked _ _ _ (c.in-Ok-Other.ensures.finds t))

pub returns-in-Ok-Other-clause-handed : goal.returns-in-Ok-Other-clause-handed
returns-in-Ok-Other-clause-handed g c file held =
    let other = content_other file (sym (c.in-Ok-Other.ensures.found file held) ∙ c.in-Ok-Other.field-0-is) in
    inr (other.1, other.0)

-- the look failed

pub returns-in-Err-clause-any_moment : goal.returns-in-Err-clause-any_moment
returns-in-Err-clause-any_moment g c t sound =
    let disk = g.D.Device.disk in
    looked_at_last c.args.rules.profile c.args.rules.clients_max (disk c.args.device) (disk c.look.new.device) (looked _ _ _ (c.in-Err.ensures.finds t))

pub returns-in-Err-clause-cause : goal.returns-in-Err-clause-cause
returns-in-Err-clause-cause g c t =
    let disk = g.D.Device.disk in
    has_either_of_create (disk c.args.device) (disk c.look.new.device) (start.Journal (open_faults.Device c.in-Err.fault))
    (λ is. let named : c.in-Err.fault ≡ faults.NotEmpty = cc in c.in-Err.ensures.other named) (inl (c.in-Err.ensures.finds t).cause.cause)

pub returns-in-Err-clause-handed : goal.returns-in-Err-clause-handed
returns-in-Err-clause-handed g c file held = inl tt
