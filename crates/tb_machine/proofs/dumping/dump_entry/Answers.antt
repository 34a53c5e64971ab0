use Rattle.std.proofs.Common.{ℕ, List, is_some, ap, ◌∙◌, subst}
use Rattle.std.proofs.lemmas.Result.{err_from_is_err_and}
use Rattle.tb_records.specs.Transport.{Sent, CutOff}
use Rattle.tb_machine.specs.DumpRuns.{marks_at}
use Rattle.tb_machine.proofs.DumpWriting.{entry_made, row_made, bytes_made}
use Rattle.tb_machine.proofs.dumping.dump_entry.Goals as goal

pub stored_row-row-requires : goal.stored_row-row-requires
stored_row-row-requires g c = ap is_some (row_made c.args.at c.args.machine.now c.change_profile.new.machine c.enter.new.self c.args.entry c.marks_at-due.result (c.marks_at-due.ensures ∙ ap (marks_at c.args.at) c.commit.ensures.value) c.change_profile.ensures c.in-Ok.ensures c.client-client.result c.client-client.ensures)

pub returns : goal.returns
returns g c =
    let bytes_are = bytes_made c.args.at c.args.machine.now c.change_profile.new.machine c.enter.new.self c.args.entry c.marks_at-due.result (c.marks_at-due.ensures ∙ ap (marks_at c.args.at) c.commit.ensures.value) c.change_profile.ensures c.in-Ok.ensures c.client-client.result c.stored_row-row.result.now c.client-client.ensures c.stored_row-row.ensures in (
      entry_made c.args.at c.args.machine.now c.change_profile.new.machine c.enter.new.self c.args.entry c.marks_at-due.result (c.marks_at-due.ensures ∙ ap (marks_at c.args.at) c.commit.ensures.value) c.change_profile.ensures c.in-Ok.ensures,
      subst (λ (bytes : List ℕ). Sent bytes (g.W.Sink.output c.args.writer.now) (g.W.Sink.output c.write_entry.new.writer)) bytes_are c.in_ok-write_entry.ensures,
    )

pub returns-in_err-write_entry : goal.returns-in_err-write_entry
returns-in_err-write_entry g c =
    let bytes_are = bytes_made c.args.at c.args.machine.now c.change_profile.new.machine c.enter.new.self c.args.entry c.marks_at-due.result (c.marks_at-due.ensures ∙ ap (marks_at c.args.at) c.commit.ensures.value) c.change_profile.ensures c.in-Ok.ensures c.client-client.result c.stored_row-row.result.now c.client-client.ensures c.stored_row-row.ensures in
    let p = err_from_is_err_and c.from_residual.result c.from_residual.ensures.1 in
    rw (p.1, p.2) (c.in_err-write_entry.ensures.0, subst (λ (bytes : List ℕ). CutOff bytes (g.W.Sink.output c.args.writer.now) (g.W.Sink.output c.write_entry.new.writer)) bytes_are c.in_err-write_entry.ensures.1)
