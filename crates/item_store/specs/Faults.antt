-- The names of the errors that a caller of the API is told.
use Rattle.std.specs.Prelude.{ℕ, List, Option, Some, None, codes}
use Rattle.item_store.specs.declared.fault.CallFault.{CallFault}
use Rattle.item_store.specs.declared.fault.CallFault.TheVariants.{Malformed, WrongTable, BadKey, Memory}

abbrev pub validation : List ℕ
validation = codes "DynamoDB.ValidationException"

abbrev pub no_such_table : List ℕ
no_such_table = codes "DynamoDB.ResourceNotFoundException"

abbrev pub check_failed : List ℕ
check_failed = codes "DynamoDB.ConditionalCheckFailedException"

-- want of memory is no answer of the table
abbrev pub error_of : CallFault → Option (List ℕ)
error_of Malformed = Some validation
error_of WrongTable = Some no_such_table
error_of BadKey = Some validation
error_of Memory = None
