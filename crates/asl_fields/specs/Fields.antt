-- Which fields an object of a definition may have ("State Machine Structure", "State Types").
use Rattle.std.specs.List.{list_any}
use Rattle.std.specs.Prelude.{ℕ, List, [], ◌∷◌, Bool, true, false, ◌&&◌, ◌||◌, if◌then◌else◌, Option, Some, None, codes}
pub use Rattle.json_tree.specs.Fields.{is_text}
use Rattle.serde_json.specs.Data.{Data, Members, no_members, member}
use Rattle.serde_json.specs.Find.{get, as_str, as_object}
use Rattle.asl_fields.specs.declared.fields.FieldStatus.{FieldStatus}
use Rattle.asl_fields.specs.declared.fields.FieldStatus.TheVariants.{Known, Unsupported, Unknown}
use Rattle.asl_fields.specs.declared.fields.Place.{Place}
use Rattle.asl_fields.specs.declared.fields.Place.TheVariants.{Top, Branch, Processor, Pass, Task, Choice, Wait, Succeed, Fail, Parallel, Map, Retrier, Catcher, Rule, Test}

-- the names of the fields that are read, or are stepped over unread
abbrev pub names_at : Place → List (List ℕ)
names_at Top = codes "StartAt" ∷ codes "States" ∷ codes "Comment" ∷ codes "Version" ∷ codes "TimeoutSeconds" ∷ codes "QueryLanguage" ∷ []
names_at Branch = codes "StartAt" ∷ codes "States" ∷ codes "Comment" ∷ codes "QueryLanguage" ∷ []
names_at Processor = codes "StartAt" ∷ codes "States" ∷ codes "Comment" ∷ codes "QueryLanguage" ∷ codes "ProcessorConfig" ∷ []
names_at Pass =
    codes "Type" ∷ codes "Comment" ∷ codes "QueryLanguage" ∷ codes "InputPath" ∷ codes "Parameters" ∷ codes "Result" ∷ codes "ResultPath" ∷ codes "OutputPath" ∷ codes "Next" ∷ codes "End" ∷ []
names_at Task =
    codes "Type" ∷ codes "Comment" ∷ codes "QueryLanguage" ∷ codes "Resource" ∷ codes "InputPath" ∷ codes "Parameters" ∷ codes "ResultSelector" ∷ codes "ResultPath" ∷ codes "OutputPath" ∷ codes "Retry"
    ∷ codes "Catch" ∷ codes "TimeoutSeconds" ∷ codes "TimeoutSecondsPath" ∷ codes "HeartbeatSeconds" ∷ codes "HeartbeatSecondsPath" ∷ codes "Next" ∷ codes "End" ∷ []
names_at Choice = codes "Type" ∷ codes "Comment" ∷ codes "QueryLanguage" ∷ codes "Choices" ∷ codes "Default" ∷ codes "InputPath" ∷ codes "OutputPath" ∷ []
names_at Wait =
    codes "Type" ∷ codes "Comment" ∷ codes "QueryLanguage" ∷ codes "InputPath" ∷ codes "OutputPath" ∷ codes "Seconds" ∷ codes "Timestamp" ∷ codes "SecondsPath" ∷ codes "TimestampPath" ∷ codes "Next"
    ∷ codes "End" ∷ []
names_at Succeed = codes "Type" ∷ codes "Comment" ∷ codes "QueryLanguage" ∷ codes "InputPath" ∷ codes "OutputPath" ∷ []
names_at Fail = codes "Type" ∷ codes "Comment" ∷ codes "QueryLanguage" ∷ codes "Error" ∷ codes "Cause" ∷ []
names_at Parallel =
    codes "Type" ∷ codes "Comment" ∷ codes "QueryLanguage" ∷ codes "Branches" ∷ codes "InputPath" ∷ codes "Parameters" ∷ codes "ResultSelector" ∷ codes "ResultPath" ∷ codes "OutputPath" ∷ codes "Retry"
    ∷ codes "Catch" ∷ codes "Next" ∷ codes "End" ∷ []
names_at Map =
    codes "Type" ∷ codes "Comment" ∷ codes "QueryLanguage" ∷ codes "ItemProcessor" ∷ codes "Iterator" ∷ codes "ItemsPath" ∷ codes "ItemSelector" ∷ codes "Parameters" ∷ codes "MaxConcurrency"
    ∷ codes "InputPath" ∷ codes "ResultSelector" ∷ codes "ResultPath" ∷ codes "OutputPath" ∷ codes "Retry" ∷ codes "Catch" ∷ codes "Next" ∷ codes "End" ∷ []
names_at Retrier =
    codes "ErrorEquals" ∷ codes "MaxAttempts" ∷ codes "Comment" ∷ codes "IntervalSeconds" ∷ codes "BackoffRate" ∷ codes "MaxDelaySeconds" ∷ codes "JitterStrategy" ∷ []
names_at Catcher = codes "ErrorEquals" ∷ codes "Next" ∷ codes "ResultPath" ∷ codes "Comment" ∷ []
names_at Rule =
    codes "Next" ∷ codes "Comment" ∷ codes "And" ∷ codes "Or" ∷ codes "Not" ∷ codes "Variable" ∷ codes "StringEquals" ∷ codes "StringLessThan" ∷ codes "StringGreaterThan" ∷ codes "StringLessThanEquals" ∷ codes "StringGreaterThanEquals" ∷ codes "NumericEquals" ∷ codes "NumericLessThan" ∷ codes "NumericGreaterThan" ∷ codes "NumericLessThanEquals" ∷ codes "NumericGreaterThanEquals" ∷ codes "BooleanEquals" ∷ codes "IsNull" ∷ codes "IsPresent" ∷ codes "IsNumeric" ∷ codes "IsString" ∷ codes "IsBoolean" ∷ []
names_at Test =
    codes "And" ∷ codes "Or" ∷ codes "Not" ∷ codes "Variable" ∷ codes "StringEquals" ∷ codes "StringLessThan" ∷ codes "StringGreaterThan" ∷ codes "StringLessThanEquals" ∷ codes "StringGreaterThanEquals" ∷ codes "NumericEquals" ∷ codes "NumericLessThan" ∷ codes "NumericGreaterThan" ∷ codes "NumericLessThanEquals" ∷ codes "NumericGreaterThanEquals" ∷ codes "BooleanEquals" ∷ codes "IsNull" ∷ codes "IsPresent" ∷ codes "IsNumeric" ∷ codes "IsString" ∷ codes "IsBoolean" ∷ []

abbrev pub is_known : Place → List ℕ → Bool
is_known place name = list_any (λ known. is_text known name) (names_at place)

-- fields of the language that are left out wherever they stand
abbrev pub names_left_out_anywhere : List (List ℕ)
names_left_out_anywhere =
    codes "Assign" ∷ codes "Output" ∷ codes "Arguments" ∷ codes "Items" ∷ codes "Condition" ∷ codes "ItemReader" ∷ codes "ItemBatcher" ∷ codes "ResultWriter" ∷ codes "Label" ∷ codes "MaxConcurrencyPath" ∷ codes "ToleratedFailureCount" ∷ codes "ToleratedFailureCountPath" ∷ codes "ToleratedFailurePercentage" ∷ codes "ToleratedFailurePercentagePath" ∷ codes "ErrorPath" ∷ codes "CausePath" ∷ codes "Credentials" ∷ []

-- comparisons of a Choice rule that are left out ("Data-Test Expression")
abbrev pub comparisons_left_out : List (List ℕ)
comparisons_left_out =
    codes "StringEqualsPath" ∷ codes "StringLessThanPath" ∷ codes "StringGreaterThanPath" ∷ codes "StringLessThanEqualsPath" ∷ codes "StringGreaterThanEqualsPath" ∷ codes "NumericEqualsPath" ∷ codes "NumericLessThanPath" ∷ codes "NumericGreaterThanPath" ∷ codes "NumericLessThanEqualsPath" ∷ codes "NumericGreaterThanEqualsPath" ∷ codes "BooleanEqualsPath" ∷ codes "TimestampEquals" ∷ codes "TimestampLessThan" ∷ codes "TimestampGreaterThan" ∷ codes "TimestampLessThanEquals" ∷ codes "TimestampGreaterThanEquals" ∷ codes "TimestampEqualsPath" ∷ codes "TimestampLessThanPath" ∷ codes "TimestampGreaterThanPath" ∷ codes "TimestampLessThanEqualsPath" ∷ codes "TimestampGreaterThanEqualsPath" ∷ codes "IsTimestamp" ∷ codes "StringMatches" ∷ []

-- the language has a field of this name, or a comparison of a Choice rule, that is left out wherever it stands
abbrev pub is_left_out : List ℕ → Bool
is_left_out name =
    list_any (λ left_out. is_text left_out name) names_left_out_anywhere || list_any (λ left_out. is_text left_out name) comparisons_left_out

abbrev pub field_status : Place → List ℕ → FieldStatus
field_status place name = if is_known place name then Known else (if is_left_out name then Unsupported else Unknown)

-- each member has a name that may stand here
abbrev pub all_known : Place → Members → Bool
all_known place no_members = true
all_known place (member name d ms) = is_known place name && all_known place ms

abbrev pub known_in : Place → Option Members → Bool
known_in place None = false
known_in place (Some ms) = all_known place ms

-- an object each of whose members has a name that may stand here
abbrev pub has_known_fields : Place → Data → Bool
has_known_fields place d = known_in place (as_object d)

abbrev pub names_json_path : Option (List ℕ) → Bool
names_json_path None = false
names_json_path (Some language) = is_text language (codes "JSONPath")

-- a query language that is named is JSONPath
abbrev pub is_json_path : Option Data → Bool
is_json_path None = true
is_json_path (Some d) = names_json_path (as_str d)

abbrev pub speaks_json_path : Data → Bool
speaks_json_path d = is_json_path (get (codes "QueryLanguage") d)
