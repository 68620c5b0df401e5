-- The grammar of lines: which command a line is, if it is one.
--
--     table TABLE_NAME K:TYPE [K:TYPE] J   step T        plan S          items         settle
--     define NAME J                        show T        rollback S      history       hold S
--     start NAME NAME J                    undo S        drive K         work W K      held
--
-- Between two words stands one space and no more, and J is all that is left. A line has at most 1,048,576 bytes, and no line feed in it. NAME is the name of an execution or a machine.
-- T is a thread and S a step, written as these names are; K is a number from 1 to 65,536, and W one from 1 to 8.
use Rattle.std.specs.Prelude.{◌≡◌, ℕ, ◌==◌, Bool, not, ◌&&◌, ◌||◌, List, [], ◌∷◌, length, nat_le, if◌then◌else◌, Option, Some, None, option_and_then, option_map, codes}
use Rattle.std.specs.List.{list_all}
use Rattle.std.specs.Option.{option_map_or}
use Rattle.std.specs.Str.{is_utf8}
use Rattle.asl_fields.specs.Fields.{is_text}
use Rattle.step_names.specs.Thread.{Thread, execution, is_name, is_name_byte}
use Rattle.step_names.specs.Grammar.{read_step_number, read_thread, read_step}
use Rattle.step_names.specs.declared.step.StepName.{StepName}
use Rattle.attr_values.specs.declared.key.KeyAttribute.{KeyAttribute}
use Rattle.attr_values.specs.declared.key.KeySchema.{KeySchema}
use Rattle.attr_values.specs.declared.key.KeyType.{KeyType}
use Rattle.attr_values.specs.declared.key.KeyType.TheVariants.{S, N}
use Rattle.command_lines.specs.declared.words.KeyWord.{KeyWord}
use Rattle.command_lines.specs.declared.command.Command.{Command}
use Rattle.command_lines.specs.declared.command.Command.TheVariants.{Table, Define, Start, Step, Undo, Plan, Rollback, Settle, Hold, Drive, Work, Show, Items, History, Held}

-- A command: of a table its name, its key and its items' JSON; of a definition the machine's name and the definition's
-- JSON; of a start the execution's thread, the machine's name and the input's JSON. Texts are their bytes.
pub data CommandView : Type 0 where
  table : List ℕ → KeySchema → List ℕ → CommandView
  define : List ℕ → List ℕ → CommandView
  start : Thread → List ℕ → List ℕ → CommandView
  step : Thread → CommandView
  undo : StepName → CommandView
  plan : StepName → CommandView
  rollback : StepName → CommandView
  settle : CommandView
  hold : StepName → CommandView
  drive : ℕ → CommandView
  work : ℕ → ℕ → CommandView
  show : Thread → CommandView
  items : CommandView
  history : CommandView
  held : CommandView

-- one part after another: nothing where one of them is nothing
infixl 10 ◌>>=◌
abbrev pub ◌>>=◌ : {A B : Type 0} → Option A → (A → Option B) → Option B
o >>= f = option_and_then f o

-- what stands before the first c, and what after it, where there is one
abbrev pub cut_at : ℕ → List ℕ → Option (List ℕ × List ℕ)
cut_at c [] = None
cut_at c (b ∷ text) = if b == c then Some ([], text) else option_map (λ parts. (b ∷ parts.0, parts.1)) (cut_at c text)

-- the first word, which is all of a text that has no space
abbrev pub first_word : List ℕ → List ℕ
first_word text = option_map_or (λ parts. parts.0) (cut_at 32 text) text

-- NAME
abbrev pub name_in : List ℕ → Option (List ℕ)
name_in word = if is_name word then Some word else None

-- a byte of a NAME, or `.`
abbrev pub is_table_name_byte : ℕ → Bool
is_table_name_byte b = is_name_byte b || b == 46

-- TABLE_NAME: such bytes, at least one and at most 255
abbrev pub is_table_name : List ℕ → Bool
is_table_name word = nat_le 1 (length word) && (nat_le (length word) 255 && list_all is_table_name_byte word)

abbrev pub table_name_in : List ℕ → Option (List ℕ)
table_name_in word = if is_table_name word then Some word else None

-- an execution's own thread: NAME
abbrev pub execution_in : List ℕ → Option Thread
execution_in word = if is_name word then Some (execution word) else None

-- a drive or a round takes at most so many steps
abbrev pub most_driven : ℕ
most_driven = 65536

-- K: a number from 1 to 65,536
abbrev pub within_drive : ℕ → Option ℕ
within_drive number = if nat_le 1 number && nat_le number most_driven then Some number else None

abbrev pub count_in : List ℕ → Option ℕ
count_in word = read_step_number word >>= within_drive

-- a round has at most so many workers
abbrev pub most_workers : ℕ
most_workers = 8

-- W: a number from 1 to 8
abbrev pub within_workers : ℕ → Option ℕ
within_workers number = if nat_le 1 number && nat_le number most_workers then Some number else None

abbrev pub workers_in : List ℕ → Option ℕ
workers_in word = read_step_number word >>= within_workers

-- K: it isn't empty, and has no `[` in front
abbrev pub key_name_in : List ℕ → Option (List ℕ)
key_name_in [] = None
key_name_in (b ∷ name) = if b == 91 then None else Some (b ∷ name)

-- TYPE: `S` or `N`
abbrev pub type_in : List ℕ → Option KeyType
type_in text = if is_text text (codes "S") then Some S else (if is_text text (codes "N") then Some N else None)

-- K `:` TYPE
abbrev pub key_attribute_in : List ℕ → Option KeyAttribute
key_attribute_in word = do
  (text, letter) ← cut_at 58 word
  name ← key_name_in text
  kind ← type_in letter
  Some (record { name = name; kind = kind })

-- Where the next word is a key too, it is the sort key, which needs another name, and J comes after it. Where it is none, J
-- comes at once.
abbrev pub table_by : List ℕ → KeyAttribute → Option KeyAttribute → List ℕ → Option CommandView
table_by name partition None text = Some (table name (record { partition = partition; sort = None }) text)
table_by name partition (Some sort) text = do
  (word, json) ← cut_at 32 text
  if is_text sort.name partition.name then None else Some (table name (record { partition = partition; sort = Some sort }) json)

-- TABLE_NAME K:TYPE [K:TYPE] J
abbrev pub table_of : List ℕ → Option CommandView
table_of text = do
  (first, after_name) ← cut_at 32 text
  name ← table_name_in first
  (second, after_key) ← cut_at 32 after_name
  partition ← key_attribute_in second
  table_by name partition (key_attribute_in (first_word after_key)) after_key

-- NAME J
abbrev pub define_of : List ℕ → Option CommandView
define_of text = do
  (word, json) ← cut_at 32 text
  name ← name_in word
  Some (define name json)

-- NAME NAME J
abbrev pub start_of : List ℕ → Option CommandView
start_of text = do
  (first, after_exec) ← cut_at 32 text
  thread ← execution_in first
  (second, json) ← cut_at 32 after_exec
  machine ← name_in second
  Some (start thread machine json)

-- W K
abbrev pub work_of : List ℕ → Option CommandView
work_of text = do
  (first, second) ← cut_at 32 text
  workers ← workers_in first
  moves ← count_in second
  Some (work workers moves)

-- by the first word, from what stands after it
abbrev pub command_by : List ℕ → List ℕ → Option CommandView
command_by keyword text =
    if is_text keyword (codes "table") then table_of text
    else (if is_text keyword (codes "define") then define_of text
    else (if is_text keyword (codes "start") then start_of text
    else (if is_text keyword (codes "step") then option_map step (read_thread text)
    else (if is_text keyword (codes "undo") then option_map undo (read_step text)
    else (if is_text keyword (codes "plan") then option_map plan (read_step text)
    else (if is_text keyword (codes "rollback") then option_map rollback (read_step text)
    else (if is_text keyword (codes "hold") then option_map hold (read_step text)
    else (if is_text keyword (codes "drive") then option_map drive (count_in text)
    else (if is_text keyword (codes "work") then work_of text
    else (if is_text keyword (codes "show") then option_map show (read_thread text)
    else None))))))))))

-- of a text whose words are these
abbrev pub words_command : List ℕ → Option CommandView
words_command text =
    if is_text text (codes "items") then Some items
    else (if is_text text (codes "history") then Some history
    else (if is_text text (codes "settle") then Some settle
    else (if is_text text (codes "held") then Some held
    else (do
      (keyword, rest) ← cut_at 32 text
      command_by keyword rest))))

-- a line has at most so many bytes, without its end
abbrev pub longest_line : ℕ
longest_line = 1048576

-- the text is short enough for a line, and no line feed ends one in it
abbrev pub is_one_line : List ℕ → Bool
is_one_line text = nat_le (length text) longest_line && list_all (λ b. not (b == 10)) text

-- of a text
abbrev pub text_command : List ℕ → Option CommandView
text_command text = if is_one_line text then words_command text else None

-- the command that a line is, without its end
abbrev pub command_of : List ℕ → Option CommandView
command_of line = if is_utf8 line then text_command line else None

-- this line is this command
abbrev pub Says : CommandView → List ℕ → Type 0
Says command line = command_of line ≡ Some command

-- a key of the program, as the grammar speaks of it
abbrev pub attribute_of : KeyWord → KeyAttribute
attribute_of key = record { name = key.name.now; kind = key.kind }

-- a command of the program, as the grammar speaks of it
abbrev pub command_view : Command → CommandView
command_view (Table name schema json) = table name schema json.now
command_view (Define name json) = define name json.now
command_view (Start exec machine json) = start exec.thread machine json.now
command_view (Step thread) = step thread
command_view (Undo named) = undo named
command_view (Plan named) = plan named
command_view (Rollback named) = rollback named
command_view Settle = settle
command_view (Hold named) = hold named
command_view (Drive count) = drive count
command_view (Work workers moves) = work workers moves
command_view (Show thread) = show thread
command_view Items = items
command_view History = history
command_view Held = held
