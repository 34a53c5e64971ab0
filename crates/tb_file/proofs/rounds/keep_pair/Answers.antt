use Rattle.std.proofs.Common.{IsTrue, refl, ap, subst}
use Rattle.tb_machine.specs.declared.entries.Entry.{Entry}
use Rattle.tb_machine.specs.declared.judgements.Judged.TheVariants as judged
use Rattle.tb_machine.specs.Histories.{State, fits, is_new, answer_to}
use Rattle.tb_machine.specs.Judging.{IsJudged}
use Rattle.tb_file.specs.Keeping.{Keeping}
use Rattle.tb_file.specs.private.Steps.{HoldsReply, KeepsEntry}
use Rattle.tb_file.proofs.KeptPairs.{keeps_new, keeps_known}
use Rattle.tb_file.proofs.rounds.keep_pair.Goals as goal

pub returns-in-New-clause-keeps : goal.returns-in-New-clause-keeps
returns-in-New-clause-keeps g c =
    let before = c.args.keeper.now in
    let after = c.keep_new.new.keeper in
    let held = c.args.replies.now.bytes.items in
    let grown = c.keep_new.new.replies.bytes.items in
    let new = subst (λ (S : State). IsJudged (judged.New c.in-New.entry) S (c.args.moment, c.args.request)) (ap (λ (k : Keeping g.row.D.Denot). k.state) c.keeper.view_is) c.in-New.ensures.judged in
    keeps_new (c.args.moment, c.args.request) before after held grown c.keep_new.result new.0 new.1
    (subst (λ (e : Entry). IsTrue (fits before.state e)) new.2 new.3) c.in-New.ensures.lawful
    (subst (λ (e : Entry). KeepsEntry c.keep_new.result e before after held grown) new.2 c.keep_new.ensures.keeps)

pub returns-in-NoTime-clause-keeps : goal.returns-in-NoTime-clause-keeps
returns-in-NoTime-clause-keeps g c =
    let none = subst (λ (S : State). IsJudged judged.NoTime S (c.args.moment, c.args.request)) (ap (λ (k : Keeping g.row.D.Denot). k.state) c.keeper.view_is) c.in-NoTime.ensures.judged in
    ((ap is_new none.0, none.1), refl, refl)

pub returns-in-Known-clause-keeps : goal.returns-in-Known-clause-keeps
returns-in-Known-clause-keeps g c =
    let held = c.args.replies.now.bytes.items in
    let grown = c.hold_known-held.new.replies.bytes.items in
    let same = ap (λ (k : Keeping g.row.D.Denot). k.state) c.keeper.view_is in
    let known = subst (λ (S : State). IsJudged (judged.Known c.in-Known.class c.in-Known.request) S (c.args.moment, c.args.request)) same c.in-Known.ensures.judged in
    keeps_known (c.args.moment, c.args.request) c.args.keeper.now held grown c.hold_known-held.result c.in-Known.class c.in-Known.request known.0 known.1 known.2
    (subst (λ (S : State). HoldsReply c.hold_known-held.result (answer_to S c.in-Known.request) held grown) same c.hold_known-held.ensures)
