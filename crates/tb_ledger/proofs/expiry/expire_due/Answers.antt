use Rattle.tb_ledger.proofs.Common.{◌≡◌, ◌<◌, ◌==◌, not, map, length, sym, ap, subst, refl, ◌∙◌, arith, Expired, Rising, transfer_key, accounts_released, books_in, transfer_row_key, row_holds, unlisted, IsIndex, IsTimeout, KeepsRecords, timeout_key, TakesDue, each-find}
use Rattle.tb_ledger.proofs.RowSums.{both_hold}
use Rattle.tb_ledger.proofs.Settled.{rising_rows, rising_transfers, refound}
use Rattle.tb_ledger.proofs.Index.{of_due, due_lapses, unlisted_due, index_closed, none_lapses, length-taken_out}
use Rattle.tb_ledger.proofs.Expiries.{will_be, accounts_apart, debit_party, credit_party, rising_released, sums_after, accounts_stay, transfers_stay, ahead_marked, arrived, none_of, books_then, ledger_then}
use Rattle.tb_ledger.proofs.expiry.expire_due.Goals as goal

pub loop-due-init : goal.loop-due-init
loop-due-init g c =
    let rows = c.args.rows.now in record {
      rising = rising_rows rows.accounts.items c.requires.kept.sound.rising;
      sums = c.requires.kept.kept.sums;
      ahead = will_be rows.transfers.items rows.time c.args.time c.requires.later c.requires.kept.kept.states;
      index = c.requires.kept.index;
      accounts = refl;
      transfers = refl;
      accounts_capacity = refl;
      transfers_capacity = refl;
      timeouts_capacity = omega arith;
      failed = refl;
      keeps_failed = refl;
    }

pub mark_expired-p-requires : goal.mark_expired-p-requires
mark_expired-p-requires g c =
    let due = c.in-Some.due in
    each-find (IsTimeout c.loop-due.rows.transfers.items) (λ e. timeout_key e == timeout_key due) due c.loop-due.rows.timeouts.items c.loop-due.invariant.index.all_timed c.in-Some.ensures.1

pub release-requires : goal.release-requires
release-requires g c =
    let B = books_in c.args.rows.now in
    let sound = c.requires.kept.sound in
    let rows = c.loop-due.rows in
    let inv = c.loop-due.invariant in
    let p = c.mark_expired-p.result in
    let found = c.mark_expired-p.ensures.found in
    rw c.recorded.ensures (record {
      apart = accounts_apart B sound rows.accounts.items rows.transfers.items c.in-Some.due.id p inv.accounts inv.transfers found;
      debit = debit_party B sound rows.accounts.items rows.transfers.items c.in-Some.due.id p inv.accounts inv.transfers found;
      credit = credit_party B sound rows.accounts.items rows.transfers.items c.in-Some.due.id p inv.accounts inv.transfers found;
    })

pub loop-due-smaller : goal.loop-due-smaller
loop-due-smaller g c =
    let due = c.in-Some.due in
    let old = c.loop-due.rows.timeouts.items in
    let left = ap (λ v. v.items) c.in-Some.ensures.2 in
    rw c.look_ahead.ensures (subst (λ l. length l < length old) (sym left) (length-taken_out timeout_key (timeout_key due) due old c.in-Some.ensures.1))

pub loop-due-preserved : goal.loop-due-preserved
loop-due-preserved g c =
    let rows = c.loop-due.rows in
    let inv = c.loop-due.invariant in
    let due = c.in-Some.due in
    let p = c.mark_expired-p.result in
    let its = each-find (IsTimeout rows.transfers.items) (λ e. timeout_key e == timeout_key due) due rows.timeouts.items inv.index.all_timed c.in-Some.ensures.1 in
    let of = of_due rows.transfers.items due p its c.mark_expired-p.ensures.found in
    let there = refound transfer_row_key due.id p rows.transfers.items c.mark_expired-p.ensures.found in
    let lapsed = due_lapses c.args.time p due of.0 of.1 c.in-Some.ensures.0 in
    let holds = (both_hold (row_holds p) (not (p.recorded.timeout == 0)) of.0).0 in
    let later = c.release.new.accounts in
    let left = c.mark_expired-p.new.transfers in
    let marked = ap (λ v. v.items) c.mark_expired-p.ensures.transfers in
    let changed : later.items ≡ accounts_released p.recorded rows.accounts.items = ap (λ v. v.items) c.release.ensures ∙ ap (λ q. accounts_released q rows.accounts.items) c.recorded.ensures in
    let rising = rising_transfers rows.transfers.items (subst (Rising transfer_key) (sym inv.transfers) c.requires.kept.rising.transfers) in
    let taken = c.in-Some.ensures.2 in
    let unlisted_is : c.pop_due.new.self ≡ unlisted p rows.timeouts = taken ∙ sym (unlisted_due p due rows.timeouts of.0 of.1) in
    rw c.look_ahead.ensures (record {
      rising = rising_released rows.accounts.items rows.transfers.items p inv.rising inv.sums there holds later.items changed;
      sums = sums_after rows.accounts.items rows.transfers.items p inv.rising inv.sums there holds later.items left.items changed marked;
      ahead = ahead_marked c.args.time (map (λ t. t.recorded) c.args.rows.now.transfers.items) p rows.transfers.items left.items there lapsed marked inv.ahead;
      index = rw (marked, unlisted_is) (index_closed rows.transfers.items rows.timeouts inv.index p Expired there refl rising);
      accounts = accounts_stay p.recorded rows.accounts.items later.items changed ∙ inv.accounts;
      transfers = transfers_stay p rows.transfers.items left.items there marked ∙ inv.transfers;
      accounts_capacity = ap (λ v. v.spare) c.release.ensures ∙ inv.accounts_capacity;
      transfers_capacity = ap (λ v. v.spare) c.mark_expired-p.ensures.transfers ∙ inv.transfers_capacity;
      timeouts_capacity = omega (arith, ap (λ v. v.spare) taken, inv.timeouts_capacity);
      failed = inv.failed;
      keeps_failed = inv.keeps_failed;
    })

pub returns : goal.returns
returns g c =
    let start = c.args.rows.now in
    let T = c.args.time in
    let rows = c.loop-due.rows in
    let inv = c.loop-due.invariant in
    let left = c.pop_due.new.self in
    let waits = subst (λ o. TakesDue T rows.timeouts o left) (none_of c.pop_due.result c.in_default.not-Some) c.pop_due.ensures in
    let later = record rows { timeouts = left; time = T } in
    let records : KeepsRecords start later = record {
      accounts = inv.accounts;
      transfers = inv.transfers;
      accounts_capacity = inv.accounts_capacity;
      transfers_capacity = inv.transfers_capacity;
      timeouts_capacity = omega (arith, inv.timeouts_capacity, ap (λ v. v.spare) waits.0);
      failed = inv.failed;
      keeps_failed = inv.keeps_failed;
    } in
    let index = subst (λ ts. IsIndex rows.transfers.items ts.items) (sym waits.0) inv.index in
    record {
      kept = ledger_then start later c.requires.kept c.requires.later records (record {
        sums = inv.sums;
        states = arrived rows.transfers.items T (map (λ t. t.recorded) start.transfers.items) inv.transfers (none_lapses rows.transfers.items rows.timeouts inv.index T waits.1) inv.ahead;
      }) index;
      books = books_then start later records;
      records = records;
      time = refl;
    }
