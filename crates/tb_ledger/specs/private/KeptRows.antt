-- What the rows of an account and of a transfer represent.
use Rattle.tb_records.specs.declared.records.Account.{Account}
use Rattle.tb_records.specs.declared.records.Transfer.{Transfer}
use Rattle.tb_ledger.specs.declared.tables.accounts.Side.{Side}
use Rattle.tb_ledger.specs.declared.tables.accounts.AccountRow.TheInside as account_row
use Rattle.tb_ledger.specs.declared.tables.transfers.TransferRow.TheInside as transfer_row
use Rattle.tb_ledger.specs.declared.tables.transfers.State.{State}

-- an account as it was created, and its two sides as they are now
pub record KeptAccount : Type 0 where
  pub created : Account
  pub debits : Side
  pub credits : Side

-- a transfer as it was recorded, and the state of a pending one
pub record KeptTransfer : Type 0 where
  pub recorded : Transfer
  pub state : State

-- the account that a row has, and its two sides
abbrev pub account_kept : account_row.Inside → KeptAccount
account_kept a = record {
  created = record {
    id = a.id;
    debits_pending = 0;
    debits_posted = 0;
    credits_pending = 0;
    credits_posted = 0;
    user_data_128 = a.user_data_128;
    user_data_64 = a.user_data_64;
    user_data_32 = a.user_data_32;
    reserved = 0;
    ledger = a.ledger;
    code = a.code;
    flags = a.flags;
    timestamp = a.timestamp;
  };
  debits = record { pending = a.debits_pending; posted = a.debits_posted; held_closed = a.debits_held };
  credits = record { pending = a.credits_pending; posted = a.credits_posted; held_closed = a.credits_held };
}

-- the row of an account and its two sides
abbrev pub account_row_of : KeptAccount → account_row.Inside
account_row_of row = record {
  id = row.created.id;
  debits_pending = row.debits.pending;
  debits_posted = row.debits.posted;
  credits_pending = row.credits.pending;
  credits_posted = row.credits.posted;
  user_data_128 = row.created.user_data_128;
  user_data_64 = row.created.user_data_64;
  user_data_32 = row.created.user_data_32;
  debits_held = row.debits.held_closed;
  credits_held = row.credits.held_closed;
  ledger = row.created.ledger;
  code = row.created.code;
  flags = row.created.flags;
  timestamp = row.created.timestamp;
}

-- the transfer that a row has, and its state
abbrev pub transfer_kept : transfer_row.Inside → KeptTransfer
transfer_kept t = record {
  recorded = record {
    id = t.id;
    debit_account_id = t.debit_account_id;
    credit_account_id = t.credit_account_id;
    amount = t.amount;
    pending_id = t.pending_id;
    user_data_128 = t.user_data_128;
    user_data_64 = t.user_data_64;
    user_data_32 = t.user_data_32;
    timeout = t.timeout;
    ledger = t.ledger;
    code = t.code;
    flags = t.flags;
    timestamp = t.timestamp;
  };
  state = t.state;
}

-- the row of a transfer and its state
abbrev pub transfer_row_of : KeptTransfer → transfer_row.Inside
transfer_row_of row = record {
  id = row.recorded.id;
  debit_account_id = row.recorded.debit_account_id;
  credit_account_id = row.recorded.credit_account_id;
  amount = row.recorded.amount;
  pending_id = row.recorded.pending_id;
  user_data_128 = row.recorded.user_data_128;
  user_data_64 = row.recorded.user_data_64;
  user_data_32 = row.recorded.user_data_32;
  timeout = row.recorded.timeout;
  ledger = row.recorded.ledger;
  code = row.recorded.code;
  flags = row.recorded.flags;
  state = row.state;
  timestamp = row.recorded.timestamp;
}
