use Rattle.tb_ledger.proofs.Common.{◌≡◌, refl, sym, ap, ◌∙◌, arith, put, transfer_result_code, as_recorded, closing_debit, closing_credit, chained, books_in, gained, on_debits, on_credits, transfer_row_key, listed, new_transfer_row, IsIndex, transfer_key, first_of, two_party_own_tests}
use Rattle.tb_ledger.proofs.Accepted.{accounts_apart}
use Rattle.tb_ledger.proofs.Capacities.{listed_spare}
use Rattle.tb_ledger.proofs.Index.{index_added}
use Rattle.tb_ledger.proofs.NotedPairs.{two_left}
use Rattle.tb_ledger.proofs.Passing.{noted_two}
use Rattle.tb_ledger.proofs.Refusals.{decides_none, left_alone}
use Rattle.tb_ledger.proofs.UndoLogs.{grows_both, leads_both}
use Rattle.tb_ledger.proofs.Settled.{books_with_single, ledger_with_single}
use Rattle.tb_ledger.proofs.TwoParties.{finds_pair}
use Rattle.tb_ledger.proofs.VerdictLaws.{single_verdict, verdict_by_rows, own_refused}
use Rattle.tb_ledger.proofs.kinds.two_party.take_two_party.Goals as goal

pub returns-in_err-two_party_own : goal.returns-in_err-two_party_own
returns-in_err-two_party_own g c =
    let B = books_in c.args.work.now.rows in
    let t = c.args.t.now in
    let judged = c.in_err-two_party_own.ensures in
    let refusal = c.in_err-two_party_own.field-0.0 in
    let code = single_verdict B t c.args.time c.requires.free c.requires.single ∙ own_refused B t c.args.time (transfer_result_code refusal) (sym judged.0) judged.1 in
    decides_none transfer_result_code _ _ c.args.work.now _ c.from_residual.result refusal c.requires.ready.kept c.from_residual.ensures.1 (code, judged.1) refl

pub add_row-requires-clause-fresh : goal.add_row-requires-clause-fresh
add_row-requires-clause-fresh g c =
    let its = finds_pair c.args.work.now.rows c.args.t.now c.args.time c.in_ok-amount.amount c.args.work.now.undo_log c.exchange.new.undo_log c.exchange.new.accounts.items c.requires.ready.kept c.requires.ready.capacity.timeouts c.new_transfer_row-row.ensures.fits c.requires.free c.requires.single c.in_ok-two_party_own.ensures c.in_ok-amount.ensures.exchanged.0 c.in_ok-amount.ensures.exchanged.1 in
    rw c.new_transfer_row-row.ensures.row its.fresh

pub add_row-requires-clause-can_list : goal.add_row-requires-clause-can_list
add_row-requires-clause-can_list g c =
    let its = finds_pair c.args.work.now.rows c.args.t.now c.args.time c.in_ok-amount.amount c.args.work.now.undo_log c.exchange.new.undo_log c.exchange.new.accounts.items c.requires.ready.kept c.requires.ready.capacity.timeouts c.new_transfer_row-row.ensures.fits c.requires.free c.requires.single c.in_ok-two_party_own.ensures c.in_ok-amount.ensures.exchanged.0 c.in_ok-amount.ensures.exchanged.1 in
    rw c.new_transfer_row-row.ensures.row its.can_list

pub returns : goal.returns
returns g c =
    let rows = c.args.work.now.rows in
    let B = books_in rows in
    let t = c.args.t.now in
    let ex = c.in_ok-amount.ensures.exchanged.1 in
    let recorded = as_recorded t c.in_ok-amount.amount c.args.time in
    let its = finds_pair c.args.work.now.rows c.args.t.now c.args.time c.in_ok-amount.amount c.args.work.now.undo_log c.exchange.new.undo_log c.exchange.new.accounts.items c.requires.ready.kept c.requires.ready.capacity.timeouts c.new_transfer_row-row.ensures.fits c.requires.free c.requires.single c.in_ok-two_party_own.ensures c.in_ok-amount.ensures.exchanged.0 c.in_ok-amount.ensures.exchanged.1 in
    let added : c.add_row.new.transfers.items ≡ put transfer_row_key (new_transfer_row recorded) rows.transfers.items = ap (λ v. v.items) c.add_row.ensures.transfers ∙ ap (λ row. put transfer_row_key row rows.transfers.items) c.new_transfer_row-row.ensures.row in
    let listed_is = c.add_row.ensures.timeouts ∙ ap (λ row. listed row rows.timeouts) c.new_transfer_row-row.ensures.row in
    let index : IsIndex c.add_row.new.transfers.items c.add_row.new.timeouts.items = rw (listed_is, added) (index_added rows.transfers.items rows.timeouts c.requires.ready.kept.index (new_transfer_row recorded) its.fresh (λ _. c.new_transfer_row-row.ensures.fits) its.can_list) in
    let apart = accounts_apart t c.in_ok-two_party_own.ensures in
    let noted = noted_two t.debit_account_id t.credit_account_id (on_debits (gained closing_debit recorded)) (on_credits (gained closing_credit recorded)) ex.debit ex.credit rows.accounts.items c.exchange.new.accounts.items c.args.work.now.undo_log c.exchange.new.undo_log (λ y. refl) (λ y. refl) (ex.notes (omega (arith, c.requires.ready.log))) apart ex.debit_there ex.credit_there ex.written in
    record {
      judged = its.verdict;
      done =
          books_with_single rows c.requires.ready.kept recorded c.exchange.new.accounts.items c.add_row.new.transfers.items ex.written added
          ∙ ap (λ r. record B { transfers = put transfer_key r B.transfers }) (sym its.recorded);
      refused = tt;
      leaves = record {
        kept = ledger_with_single rows c.requires.ready.kept recorded c.exchange.new.accounts.items c.add_row.new.transfers.items ex.written added c.add_row.new.timeouts.items its.new c.requires.single c.requires.ready.stamped its.pair index;
        failed = refl;
        time = refl;
        grows = grows_both 2 1 4 c.args.work.now.undo_log c.exchange.new.undo_log c.add_row.new.undo_log noted c.add_row.ensures.marked (omega arith) (λ us vs ws first second. leads_both _ _ _ us vs ws (first (chained rows)) (second c.exchange.new.accounts.items));
        capacity = record {
          accounts = omega (arith, c.exchange.ensures.capacity);
          transfers = omega (arith, ap (λ v. v.spare) c.add_row.ensures.transfers);
          timeouts = omega (arith, ap (λ v. v.spare) c.add_row.ensures.timeouts, listed_spare c.new_transfer_row-row.result rows.timeouts);
          failed = omega arith;
          keeps_failed = refl;
        };
        results = refl;
      };
    }

pub returns-in_err-amount : goal.returns-in_err-amount
returns-in_err-amount g c =
    let work = c.args.work.now in
    let t = c.args.t.now in
    let own : first_of (two_party_own_tests t) ≡ 0 = c.in_ok-two_party_own.ensures in
    let exchanged = c.in_err-amount.ensures.exchanged in
    let code = verdict_by_rows work.rows c.requires.ready.kept t c.args.time c.requires.free c.requires.single own ∙ exchanged.0.0 in
    decides_none transfer_result_code _ _ work _ c.from_residual-in_err-amount.result c.in_err-amount.field-0.0 c.requires.ready.kept c.from_residual-in_err-amount.ensures.1 (code, exchanged.0.1) (left_alone work c.exchange.new.accounts c.exchange.new.undo_log exchanged.1 c.exchange.ensures.capacity)

pub add_row-requires-clause-capacity : goal.add_row-requires-clause-capacity
add_row-requires-clause-capacity g c = omega (arith, c.requires.ready.capacity.transfers)

pub add_row-requires-clause-log : goal.add_row-requires-clause-log
add_row-requires-clause-log g c =
    let ex = c.in_ok-amount.ensures.exchanged.1 in
    omega (arith, two_left ex.debit ex.credit c.args.work.now.undo_log c.exchange.new.undo_log c.requires.ready.log ex.notes)
