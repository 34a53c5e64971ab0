use Rattle.tb_ledger.proofs.Common.{◌≡◌, ◌==◌, find, refl, sym, ap, ◌∙◌, arith, put, replaced, transfer_result_code, closing_debit, closing_credit, account_row_at, on_debits, on_credits, released_and_gained, accounts_released_and_gained, settled, listed, IsIndex, transfer_row_key, new_transfer_row, chained, IsMarked}
use Rattle.tb_ledger.proofs.Capacities.{listed_spare, unlisted_spare}
use Rattle.tb_ledger.proofs.NotedPairs.{two_left}
use Rattle.tb_ledger.proofs.Passing.{noted_two}
use Rattle.tb_ledger.proofs.Refusals.{decides_none, left_alone}
use Rattle.tb_ledger.proofs.UndoLogs.{grows_both, leads_both}
use Rattle.tb_ledger.proofs.Settled.{by_key, same_debit, same_credit, apart, debit_there, credit_there, can_debit, can_credit, fresh_still, listed_before, not_timed, index_with_resolver, books_with_resolver, ledger_with_resolver}
use Rattle.tb_ledger.proofs.VerdictLaws.{closed_by_rows}
use Rattle.tb_ledger.proofs.kinds.resolving.settle.Goals as goal

pub settle_accounts-requires : goal.settle_accounts-requires
settle_accounts-requires g c =
    let rows = c.args.work.now.rows in
    let kept = c.requires.ready.kept in
    let p = c.args.p.now in
    let r = c.args.r.now in
    let its = c.requires.resolution in
    record {
      apart = apart rows kept p r its;
      debit = debit_there rows kept p r its;
      credit = credit_there rows kept p r its;
      can_debit = λ a there. rw c.recorded.ensures (can_debit rows kept p r its a there);
      can_credit = λ a there. rw c.recorded.ensures (can_credit rows kept p r its a there);
    }

pub close_row-requires-clause-found : goal.close_row-requires-clause-found
close_row-requires-clause-found g c = by_key c.args.work.now.rows c.requires.ready.kept c.args.p.now c.args.r.now c.requires.resolution

pub close_row-requires-clause-is_listed : goal.close_row-requires-clause-is_listed
close_row-requires-clause-is_listed g c = listed_before c.args.work.now.rows c.requires.ready.kept c.args.p.now c.args.r.now c.requires.resolution

pub close_row-requires-clause-log : goal.close_row-requires-clause-log
close_row-requires-clause-log g c =
    let at = c.in_ok-settle_accounts.ensures.settled in
    omega (arith, two_left at.debit at.credit c.args.work.now.undo_log c.settle_accounts.new.undo_log c.requires.ready.log at.leaves.1)

pub add_row-requires-clause-log : goal.add_row-requires-clause-log
add_row-requires-clause-log g c =
    let at = c.in_ok-settle_accounts.ensures.settled in
    let marked = c.close_row.ensures.marked in
    omega (arith, two_left at.debit at.credit c.args.work.now.undo_log c.settle_accounts.new.undo_log c.requires.ready.log at.leaves.1, marked.length, marked.capacity)

pub add_row-requires-clause-capacity : goal.add_row-requires-clause-capacity
add_row-requires-clause-capacity g c = omega (arith, c.requires.ready.capacity.transfers, ap (λ v. v.spare) c.close_row.ensures.transfers)

pub add_row-requires-clause-fresh : goal.add_row-requires-clause-fresh
add_row-requires-clause-fresh g c =
    let rows = c.args.work.now.rows in
    let p = c.args.p.now in
    let r = c.args.r.now in
    let closed = ap (λ v. v.items) c.close_row.ensures.transfers ∙ ap (λ s. replaced transfer_row_key (settled s p) rows.transfers.items) c.state_given-state.ensures in
    rw c.new_transfer_row-row.ensures.row (ap (find (λ row. row.recorded.id == r.id)) closed ∙ fresh_still rows c.requires.ready.kept p r c.requires.resolution)

pub add_row-requires-clause-can_list : goal.add_row-requires-clause-can_list
add_row-requires-clause-can_list g c is =
    let never = not_timed c.args.work.now.rows c.requires.ready.kept c.args.p.now c.args.r.now c.requires.resolution in
    let dates = rw c.new_transfer_row-row.ensures.row at is in
    absurd (cc)

pub returns : goal.returns
returns g c =
    let work = c.args.work.now in
    let rows = work.rows in
    let kept = c.requires.ready.kept in
    let p = c.args.p.now in
    let r = c.args.r.now in
    let its = c.requires.resolution in
    let at = c.in_ok-settle_accounts.ensures.settled in
    let later = c.settle_accounts.new.accounts.items in
    let more = c.add_row.new.transfers.items in
    let debit = ap (account_row_at rows.accounts.items) (sym (same_debit rows kept p r its)) ∙ at.debit_there in
    let credit = ap (account_row_at rows.accounts.items) (sym (same_credit rows kept p r its)) ∙ at.credit_there in
    let moved_on : later ≡ accounts_released_and_gained p.recorded r rows.accounts.items = at.leaves.0 ∙ ap (λ q. accounts_released_and_gained q r rows.accounts.items) c.recorded.ensures in
    let closed = ap (λ v. v.items) c.close_row.ensures.transfers ∙ ap (λ s. replaced transfer_row_key (settled s p) rows.transfers.items) c.state_given-state.ensures in
    let added = ap (λ v. v.items) c.add_row.ensures.transfers ∙ ap (λ row. put transfer_row_key row c.close_row.new.transfers.items) c.new_transfer_row-row.ensures.row ∙ ap (put transfer_row_key (new_transfer_row r)) closed in
    let moved = c.add_row.ensures.timeouts ∙ ap (λ row. listed row c.close_row.new.timeouts) c.new_transfer_row-row.ensures.row ∙ ap (listed (new_transfer_row r)) c.close_row.ensures.timeouts in
    let index : IsIndex more c.add_row.new.timeouts.items = rw (moved, added) (index_with_resolver rows kept p r its) in
    let noted = noted_two r.debit_account_id r.credit_account_id (on_debits (released_and_gained closing_debit p.recorded r)) (on_credits (released_and_gained closing_credit p.recorded r)) at.debit at.credit rows.accounts.items later work.undo_log c.settle_accounts.new.undo_log (λ y. refl) (λ y. refl) (at.leaves.1 (omega (arith, c.requires.ready.log))) (apart rows kept p r its) at.debit_there at.credit_there moved_on in
    let marked : IsMarked 2 rows.transfers.items more rows.timeouts c.add_row.new.timeouts c.settle_accounts.new.undo_log c.add_row.new.undo_log =
    grows_both 1 1 2 c.settle_accounts.new.undo_log c.close_row.new.undo_log c.add_row.new.undo_log c.close_row.ensures.marked c.add_row.ensures.marked (omega arith) (λ us vs ws first second accounts. leads_both _ _ _ us vs ws (first accounts) (second accounts)) in
    record {
      judged = sym (closed_by_rows rows kept r p.recorded at.debit at.credit debit credit 0 (sym at.judged));
      done = books_with_resolver rows kept p r its later more moved_on added;
      refused = tt;
      leaves = record {
        kept = ledger_with_resolver rows kept p r its later more moved_on added c.add_row.new.timeouts.items index;
        failed = refl;
        time = refl;
        grows = grows_both 2 2 4 work.undo_log c.settle_accounts.new.undo_log c.add_row.new.undo_log noted marked (omega arith) (λ us vs ws first second. leads_both _ _ _ us vs ws (first (chained rows)) (second later));
        capacity = record {
          accounts = omega (arith, c.settle_accounts.ensures.capacity);
          transfers = omega (arith, ap (λ v. v.spare) c.close_row.ensures.transfers, ap (λ v. v.spare) c.add_row.ensures.transfers);
          timeouts = omega (arith, ap (λ v. v.spare) c.close_row.ensures.timeouts, unlisted_spare p rows.timeouts, ap (λ v. v.spare) c.add_row.ensures.timeouts, listed_spare c.new_transfer_row-row.result c.close_row.new.timeouts);
          failed = omega arith;
          keeps_failed = refl;
        };
        results = refl;
      };
    }

pub returns-in_err-settle_accounts : goal.returns-in_err-settle_accounts
returns-in_err-settle_accounts g c =
    let work = c.args.work.now in
    let rows = work.rows in
    let kept = c.requires.ready.kept in
    let p = c.args.p.now in
    let r = c.args.r.now in
    let its = c.requires.resolution in
    let at = c.in_err-settle_accounts.ensures.settled in
    let debit = ap (account_row_at rows.accounts.items) (sym (same_debit rows kept p r its)) ∙ at.debit_there in
    let credit = ap (account_row_at rows.accounts.items) (sym (same_credit rows kept p r its)) ∙ at.credit_there in
    let refusal = c.in_err-settle_accounts.field-0.0 in
    let code = sym (closed_by_rows rows kept r p.recorded at.debit at.credit debit credit (transfer_result_code refusal) (sym at.judged.0)) in
    decides_none transfer_result_code _ _ work _ c.from_residual.result refusal kept c.from_residual.ensures.1 (code, at.judged.1) (left_alone work c.settle_accounts.new.accounts c.settle_accounts.new.undo_log at.leaves c.settle_accounts.ensures.capacity)
