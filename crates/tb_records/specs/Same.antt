-- The same operation and the same body.
use Rattle.std.specs.Prelude.{Bool, true, false, ◌&&◌, nat_eq}
use Rattle.std.specs.Cmp.Lexicographic.{pointwise}
use Rattle.tb_records.specs.declared.records.Account.{Account}
use Rattle.tb_records.specs.declared.records.Transfer.{Transfer}
use Rattle.tb_records.specs.declared.bodies.Body.{Body}
use Rattle.tb_records.specs.declared.bodies.Body.TheVariants.{Register, CreateAccounts, CreateTransfers, LookupAccounts, LookupTransfers}

abbrev pub same_account : Account → Account → Bool
same_account a b =
    nat_eq a.id b.id && nat_eq a.debits_pending b.debits_pending && nat_eq a.debits_posted b.debits_posted
    && nat_eq a.credits_pending b.credits_pending && nat_eq a.credits_posted b.credits_posted
    && nat_eq a.user_data_128 b.user_data_128 && nat_eq a.user_data_64 b.user_data_64 && nat_eq a.user_data_32 b.user_data_32
    && nat_eq a.reserved b.reserved && nat_eq a.ledger b.ledger && nat_eq a.code b.code && nat_eq a.flags b.flags
    && nat_eq a.timestamp b.timestamp

abbrev pub same_transfer : Transfer → Transfer → Bool
same_transfer a b =
    nat_eq a.id b.id && nat_eq a.debit_account_id b.debit_account_id && nat_eq a.credit_account_id b.credit_account_id
    && nat_eq a.amount b.amount && nat_eq a.pending_id b.pending_id
    && nat_eq a.user_data_128 b.user_data_128 && nat_eq a.user_data_64 b.user_data_64 && nat_eq a.user_data_32 b.user_data_32
    && nat_eq a.timeout b.timeout && nat_eq a.ledger b.ledger && nat_eq a.code b.code && nat_eq a.flags b.flags
    && nat_eq a.timestamp b.timestamp

-- the same operation over the same items
abbrev pub same_body : Body → Body → Bool
same_body Register Register = true
same_body (CreateAccounts xs) (CreateAccounts ys) = pointwise same_account xs ys
same_body (CreateTransfers xs) (CreateTransfers ys) = pointwise same_transfer xs ys
same_body (LookupAccounts xs) (LookupAccounts ys) = pointwise nat_eq xs ys
same_body (LookupTransfers xs) (LookupTransfers ys) = pointwise nat_eq xs ys
same_body b d = false
