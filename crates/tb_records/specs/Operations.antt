-- The operations of requests: their numbers and their names.
use Rattle.std.specs.Prelude.{ℕ, List, [], ◌∷◌, codes}
use Rattle.tb_records.specs.declared.operations.Operation.{Operation}
use Rattle.tb_records.specs.declared.operations.Operation.TheVariants.{Register, CreateAccounts, CreateTransfers, LookupAccounts, LookupTransfers}

-- by rising number
unfoldable pub operations : List Operation
operations =
    Register
    ∷ CreateAccounts
    ∷ CreateTransfers
    ∷ LookupAccounts
    ∷ LookupTransfers
    ∷ []

abbrev pub operation_code : Operation → ℕ
operation_code Register = 2
operation_code CreateAccounts = 129
operation_code CreateTransfers = 130
operation_code LookupAccounts = 131
operation_code LookupTransfers = 132

abbrev pub operation_name : Operation → List ℕ
operation_name Register = codes "register"
operation_name CreateAccounts = codes "create_accounts"
operation_name CreateTransfers = codes "create_transfers"
operation_name LookupAccounts = codes "lookup_accounts"
operation_name LookupTransfers = codes "lookup_transfers"
