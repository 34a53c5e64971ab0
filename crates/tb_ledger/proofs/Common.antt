-- The names that most proofs of this crate cite, passed on from one place. Declares nothing.
pub use Rattle.std.proofs.Common.{Bool, Bor, Err, IfErr, IfNone, IfOk, IfSome, IsSome, List, None, Ok, Option, Result, Some, [], ap, append-nil, append_assoc, ap₂, arith, bit_and, bit_or, cond, drop, eqb, false, filter, find, get_or, if◌then◌else◌, inl, inr, is_some, leb, length, length-append, ltb, ltb-false, map, not, option_copied, option_map, refl, replicate, rules, subst, suc, sum_by, sym, take, true, vec_capacity, vec_len, zero, ℕ, ◌&&◌, ◌*◌, ◌++◌, ◌+◌, ◌-◌, ◌<◌, ◌==◌, ◌^◌, ◌||◌, ◌∙◌, ◌∷◌, ◌≡◌, ◌≢◌, ◌≤◌, ◌⊎◌}
pub use Rattle.std.proofs.Math.Seq.{take-length}
pub use Rattle.std.proofs.lemmas.Bool.{and_from, and_parts, false≢true}
pub use Rattle.std.proofs.lemmas.Bool.Decides.{nat_tests}
pub use Rattle.std.proofs.lemmas.Grind.{common_steps}
pub use Rattle.std.proofs.lemmas.List.{at_drop_all, at_drop_more, length-drop, length-map, length-replicate, take-append-drop}
pub use Rattle.std.proofs.lemmas.List.Elements.{filter_map-append}
pub use Rattle.std.proofs.lemmas.List.Sums.{sum_by-cons, sum_by-le-sum_by}
pub use Rattle.std.proofs.lemmas.Map.Entries.{length-values_of}
pub use Rattle.std.proofs.lemmas.Nat.{and_or_apart, and_or_self}
pub use Rattle.std.specs.BTreeMap.{insert_entry, is_at}
pub use Rattle.std.specs.Fn.{Mut}
pub use Rattle.std.specs.List.{enumerate_from, filter_map, list_any, slice_get}
pub use Rattle.std.specs.Map.{lookup, remove_entry, set_value, values_of}
pub use Rattle.std.specs.Option.{option_map_or}
pub use Rattle.std.specs.Ordering.{nat_cmp, ordering_then}
pub use Rattle.std.specs.Result.{IsErrAnd}
pub use Rattle.std.specs.declared.cmp.Ordering.{Ordering}
pub use Rattle.std.specs.declared.cmp.Ordering.TheVariants.{Equal, Greater, Less}
pub use denote.Ref.{MutBor}
pub use Rattle.avl_tree.specs.Changes.{Changed, ChangedTwo}
pub use Rattle.avl_tree.specs.Map.{Map, entries, get}
pub use Rattle.avl_tree.specs.Nodes.{with_first}
pub use Rattle.avl_tree.specs.Search.{Search, entries_of, fork, leaf, least, path_length}
pub use Rattle.tb_records.proofs.ByKey.{changed_found, each-all, each-back, each-both, each-changed, each-find, each-map, each-put, each-replaced, each-replaced_all, each-taken_out, each-through, find-changed, find-map, find-put_here, find-put_none, find-put_other, find-replaced_other, found_key, map-changed, map-put, map-replaced, none-fails, none-found, replaced-changed, replaced-replaced, rising-changed, rising-put, rising-replaced, rising-taken_out, sum_by-put, sum_by-replaced, sum_by-same, sum_by-through, taken_out-put}
pub use Rattle.tb_records.proofs.Entries.{Agrees, Own, eq-number, found-row, own-agrees, own-inserted, own-removed, own-replaced, rows-inserted, rows-removed, rows-replaced, seen, unseen}
pub use Rattle.tb_records.specs.AccountResults.{account_result_code}
pub use Rattle.tb_records.specs.Ordered.{Each, Rising, changed, put, replaced, taken_out}
pub use Rattle.tb_records.specs.TransferResults.{transfer_result_code}
pub use Rattle.tb_records.specs.declared.account_results.CreateAccountResult.{CreateAccountResult}
pub use Rattle.tb_records.specs.declared.limits.Profile.{Profile}
pub use Rattle.tb_records.specs.declared.limits.Profile.TheVariants.{One, Two}
pub use Rattle.tb_records.specs.declared.records.Account.{Account}
pub use Rattle.tb_records.specs.declared.records.EventResult.{EventResult}
pub use Rattle.tb_records.specs.declared.records.Transfer.{Transfer}
pub use Rattle.tb_records.specs.declared.transfer_results.CreateTransferResult.{CreateTransferResult}
pub use Rattle.tb_records.specs.declared.transfer_results.CreateTransferResult.TheVariants.{PendingTransferNotFound}
pub use Rattle.tb_records.specs.declared.limits.TheConstants.{AMOUNT_MAX, LAST_MOMENT}
pub use Rattle.tb_records.specs.Flags.{has_flag}
pub use Rattle.tb_ledger.specs.Batches.{Failure, Kind, Timed, account_events, all_recorded, batch_after, chain_after, chain_length, chains, chains_after, chain_outcome, code_in_chain, failure_from, is_final, joined, results, timed, timed_from, transfer_events, undone, undone_code}
pub use Rattle.tb_ledger.specs.Books.{Books, account_at, account_now, as_it_stands, closed, closing_credit, closing_debit, credits_limited, credits_pending, credits_posted, debits_limited, debits_pending, debits_posted, empty_books, expires_at, holds, is_due, is_expired, is_open, is_posted, is_voided, moves, pending, posts, profile_by, profile_of, resolver, resolves, stands_closed, state_by, state_of, transfer_at, voids}
pub use Rattle.tb_ledger.specs.private.Capacity.{Capacity, Uses, capacity_of}
pub use Rattle.tb_ledger.specs.Cuttings.{AreEnded, CutsOneWay, IsChain, IsCutting, ends_linked, in_turn}
pub use Rattle.tb_ledger.specs.private.Exchanges.{ExchangesRows, ExchangesIn, PassesIn, account_row_at, as_recorded}
pub use Rattle.tb_ledger.specs.private.Found.{FoundPending, Judges}
pub use Rattle.tb_ledger.specs.Kept.{AreKept, CanList, CanTake, HasBoth, HasSide, HasState, HasSums, IsIndex, AreRowsKept, AreLedgerRows, IsListed, IsTimeout, account_row_key, accounts_gained, accounts_released, accounts_released_and_gained, bit, blank, books_at, books_in, books_of, closing_share, gained, lapses, listed, new_row, new_side, new_transfer_row, on_credits, on_debits, pending_share, posted_share, released, released_and_gained, row_closed, row_holds, row_now, settled, state_given_by, timeout_of, times_out, transfer_row_key, unlisted}
pub use Rattle.tb_ledger.specs.Limits.{Balances, KeepsLimits}
pub use Rattle.tb_ledger.specs.private.Lookups.{found_in}
pub use Rattle.tb_ledger.specs.Meanings.{HeldWhileOpen, IsHeld, SettlesBoth, SettlesSide}
pub use Rattle.tb_ledger.specs.private.Noted.{Noted, with_noted}
pub use Rattle.tb_ledger.specs.private.Settlings.{CanSettle, Settles, SettlesIn, closed_code}
pub use Rattle.tb_ledger.specs.Sound.{IdsRise, SideKept, Sound, account_key, ledger_at, transfer_key}
pub use Rattle.tb_ledger.specs.private.Steps.{Decides, IsPreparedFor, IsResolution, KeepsRecords, Leaves}
pub use Rattle.tb_ledger.specs.Tables.{ChangedRow, ChangedRows, IsTable, KeepsKey, KeepsKeys, KnowsAbsent, MayBeKey, Stored, freed, pairs_in, rows_in, spare_in, unfound, without_id}
pub use Rattle.tb_ledger.specs.private.Timeouts.{AreTimeouts, TakesDue, timeout_at, timeout_key, timeouts_of, with_timeout, without_timeout}
pub use Rattle.tb_ledger.specs.private.UndoLog.{CanUndo, CanUnwind, Chained, GrowsUndoLog, IsMarked, IsNoted, IsUndoneTo, LeadsBack, chained, undone_by, unwound}
pub use Rattle.tb_ledger.specs.Verdicts.{Test, account_exists_tests, account_new_tests, account_own_tests, account_verdict, amount_tests, balanced_amount, balanced_between, closed_at, closed_tests, differs, failed_tests, filled, filled_amount, filled_from, first_code, first_of, given_or, id_code, is_not, named_code, named_tests, pair_code, pair_tests, recorded_account, recorded_transfer, resolve_code, resolve_own_tests, single_code, two_party_own_tests, transfer_exists_tests, transfer_own_tests, transfer_verdict}
pub use Rattle.tb_ledger.specs.declared.tables.absent_ids.AbsentIds.{AbsentIds}
pub use Rattle.tb_ledger.specs.declared.tables.accounts.AccountRow.{AccountRow}
pub use Rattle.tb_ledger.specs.declared.tables.accounts.Side.{Side}
pub use Rattle.tb_ledger.specs.declared.tables.rows.Rows.{Rows}
pub use Rattle.tb_ledger.specs.declared.tables.timeouts.Timeout.{Timeout}
pub use Rattle.tb_ledger.specs.declared.tables.transfers.State.{State}
pub use Rattle.tb_ledger.specs.declared.tables.transfers.State.TheVariants.{Expired, Open, Posted, Voided}
pub use Rattle.tb_ledger.specs.declared.tables.transfers.TransferRow.{TransferRow}
pub use Rattle.tb_ledger.specs.declared.tables.work.TheConstants.{UNDOS_PER_EVENT}
pub use Rattle.tb_ledger.specs.declared.tables.work.Undo.{Undo}
pub use Rattle.tb_ledger.specs.declared.tables.work.Work.{Work}
pub use Rattle.tb_ledger.specs.Sides.{credit, debit, pending_on, posted_on}
pub use Rattle.tb_ledger.specs.private.Gathered.{results_from}
