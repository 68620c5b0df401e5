-- The one line of each command, and what the parts of a command keep.
use Rattle.std.specs.Fmt.{decimal}
use Rattle.std.specs.Prelude.{◌≡◌, ℕ, ◌≤◌, ◌==◌, Bool, false, not, ◌&&◌, List, [], ◌∷◌, ◌++◌, Option, Some, None, IsTrue, codes}
use Rattle.std.specs.List.{list_all}
use Rattle.step_names.specs.Thread.{Thread, IsThread, IsStep, is_name}
use Rattle.step_names.specs.Written.{thread_text, step_text}
use Rattle.attr_values.specs.declared.key.KeyAttribute.{KeyAttribute}
use Rattle.attr_values.specs.declared.key.KeyType.{KeyType}
use Rattle.attr_values.specs.declared.key.KeyType.TheVariants.{S, N}
use Rattle.asl_fields.specs.Fields.{is_text}
use Rattle.command_lines.specs.Grammar.{CommandView, table, define, start, step, undo, plan, rollback, settle, hold, drive, work, show, items, history, held, is_table_name, first_word, key_attribute_in, most_driven, most_workers}

abbrev pub type_text : KeyType → List ℕ
type_text S = codes "S"
type_text N = codes "N"

-- K:TYPE
abbrev pub key_text : KeyAttribute → List ℕ
key_text key = key.name ++ 58 ∷ type_text key.kind

-- a second key, where there is one, and J
abbrev pub items_text : Option KeyAttribute → List ℕ → List ℕ
items_text None json = json
items_text (Some sort) json = key_text sort ++ 32 ∷ json

abbrev pub line_of : CommandView → List ℕ
line_of (table name schema json) = codes "table " ++ (name ++ 32 ∷ (key_text schema.partition ++ 32 ∷ items_text schema.sort json))
line_of (define name json) = codes "define " ++ (name ++ 32 ∷ json)
line_of (start exec machine json) = codes "start " ++ (thread_text exec ++ 32 ∷ (machine ++ 32 ∷ json))
line_of (step thread) = codes "step " ++ thread_text thread
line_of (undo named) = codes "undo " ++ step_text named
line_of (plan named) = codes "plan " ++ step_text named
line_of (rollback named) = codes "rollback " ++ step_text named
line_of settle = codes "settle"
line_of (hold named) = codes "hold " ++ step_text named
line_of (drive count) = codes "drive " ++ decimal count
line_of (work workers moves) = codes "work " ++ (decimal workers ++ 32 ∷ decimal moves)
line_of (show thread) = codes "show " ++ thread_text thread
line_of items = codes "items"
line_of history = codes "history"
line_of held = codes "held"

-- an execution's own thread
abbrev pub IsExecution : Thread → Type 0
IsExecution thread = IsTrue (is_name thread.exec) × (thread.path ≡ [])

-- K: there is neither a space nor a colon in it, it isn't empty, and has no `[` in front
abbrev pub is_key_name : List ℕ → Bool
is_key_name [] = false
is_key_name (b ∷ name) = not (b == 91) && (list_all (λ c. not (c == 32)) (b ∷ name) && list_all (λ c. not (c == 58)) (b ∷ name))

-- a second key has another name; where there is none, J begins with no word that is a key
abbrev pub IsSort : KeyAttribute → Option KeyAttribute → List ℕ → Type 0
IsSort partition None json = key_attribute_in (first_word json) ≡ None
IsSort partition (Some sort) json = IsTrue (is_key_name sort.name) × IsTrue (not (is_text sort.name partition.name))

abbrev pub IsProperCommand : CommandView → Type 0
IsProperCommand (table name schema json) = IsTrue (is_table_name name) × IsTrue (is_key_name schema.partition.name) × IsSort schema.partition schema.sort json
IsProperCommand (define name json) = IsTrue (is_name name)
IsProperCommand (start exec machine json) = IsExecution exec × IsTrue (is_name machine)
IsProperCommand (step thread) = IsThread thread
IsProperCommand (undo named) = IsStep named.thread named.no
IsProperCommand (plan named) = IsStep named.thread named.no
IsProperCommand (rollback named) = IsStep named.thread named.no
IsProperCommand settle = Unit {0}
IsProperCommand (hold named) = IsStep named.thread named.no
IsProperCommand (drive count) = (1 ≤ count) × (count ≤ most_driven)
IsProperCommand (work workers moves) = ((1 ≤ workers) × (workers ≤ most_workers)) × ((1 ≤ moves) × (moves ≤ most_driven))
IsProperCommand (show thread) = IsThread thread
IsProperCommand items = Unit {0}
IsProperCommand history = Unit {0}
IsProperCommand held = Unit {0}
