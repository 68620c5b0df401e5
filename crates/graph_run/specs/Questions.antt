-- Which question the values of a line ask.
use Rattle.std.specs.Prelude.{◌≡◌, ◌⊎◌, Bool, true, false, List, [], ◌∷◌, Option, None, Some, Result, Ok, Err, map, option_map, option_and_then, is_some, ◌||◌, codes, string_bytes}
use Rattle.std.specs.Borrow.{Bor}
use Rattle.clap.specs.Words.{Row, Text, all_of, first_of, one_of}
use Rattle.step_names.specs.Grammar.{read_step}
use Rattle.step_names.specs.declared.step.StepName.{StepName}
use Rattle.graph_text.specs.declared.asking.Question.TheVariants as lines
use Rattle.graph_run.specs.declared.asked.Question.{Question}
use Rattle.graph_run.specs.declared.asked.Question.TheVariants.{Lines, Html}
use Rattle.graph_run.specs.declared.asked.Asked.{Asked}
use Rattle.graph_run.specs.declared.asked.Asked.TheVariants.{Question as Ask, Serve}
use Rattle.graph_run.specs.declared.asked.AskRefusal.{AskRefusal}
use Rattle.graph_run.specs.declared.asked.AskRefusal.TheVariants.{Shown, Usage, Memory}

-- ---- which question the values ask

-- a step that is named, or none
abbrev pub from_of : Option Text → Option (Option StepName)
from_of None = Some None
from_of (Some text) = option_map Some (read_step text)

abbrev pub plan_of : Text → Option Question
plan_of text = option_map (λ step. Lines (lines.Plan step)) (read_step text)

abbrev pub why_of : Text → Text → Option Question
why_of first last = option_and_then (λ from. option_map (λ to. Lines (lines.Why from to)) (read_step last)) (read_step first)

abbrev pub pair_of : List Text → Option Question
pair_of (first ∷ last ∷ []) = why_of first last
pair_of _ = None

-- the values of a question about steps: of --plan, of --why, and of --from
abbrev pub steps_of : Option Text → Option (List Text) → Option Text → Option Question
steps_of (Some step) None None = plan_of step
steps_of None (Some steps) None = pair_of steps
steps_of _ _ _ = None

abbrev pub list_question : Option Text → Option (List Text) → Option Text → Option Question
list_question None None None = Some (Lines lines.List)
list_question _ _ _ = None

abbrev pub dot_of : Option Text → Option (List Text) → Option Text → Option Question
dot_of None None from = option_map (λ step. Lines (lines.Dot step)) (from_of from)
dot_of _ _ _ = None

abbrev pub html_of : Option Text → Option (List Text) → Option Text → Option Question
html_of None None from = option_map Html (from_of from)
html_of _ _ _ = None

-- the one question that these values ask: of --list, --dot, --html, --plan, --why, and --from
abbrev pub question_of : Bool → Bool → Bool → Option Text → Option (List Text) → Option Text → Option Question
question_of true false false plan why from = list_question plan why from
question_of false true false plan why from = dot_of plan why from
question_of false false true plan why from = html_of plan why from
question_of false false false plan why from = steps_of plan why from
question_of _ _ _ _ _ _ = None

-- What is answered to that: the question, or that there is none. Want of memory says nothing.
abbrev pub GivesQuestion : {T : Type 0} → Result T AskRefusal → Option T → Type 0
GivesQuestion (Ok given) asked = asked ≡ Some given
GivesQuestion (Err Usage) asked = asked ≡ None
GivesQuestion (Err Memory) asked = Unit {0}
GivesQuestion (Err (Shown text)) asked = ⊥

-- ---- the values of a line

abbrev pub text_in : Option (Bor Text) → Option Text
text_in text = option_map (λ t. t.now) text

abbrev pub texts_in : Option (Bor (List (Bor Text))) → Option (List Text)
texts_in texts = option_map (λ ts. map (λ t. t.now) ts.now) texts

-- a flag's value, of the text that it has: false where it has none
pub record IsFlag (text : Option Text) (value : Bool) : Type 0 where
  pub absent : text ≡ None → value ≡ false
  pub given : text ≡ Some (codes "true") → value ≡ true
  pub withheld : text ≡ Some (codes "false") → value ≡ false

-- these flags and the other values of the rows ask just for this, if for anything
pub record Asks (rows : List Row) (question : Option Question) : Type 0 where
  pub list : Bool
  pub dot : Bool
  pub html : Bool
  pub is_list : IsFlag (one_of (codes "list") rows) list
  pub is_dot : IsFlag (one_of (codes "dot") rows) dot
  pub is_html : IsFlag (one_of (codes "html") rows) html
  pub asked : question ≡ question_of list dot html (first_of (codes "plan") rows) (all_of (codes "why") rows) (first_of (codes "from") rows)

-- the answer to what they ask
pub record IsAnsweredIn (rows : List Row) (result : Result Question AskRefusal) : Type 0 where
  pub question : Option Question
  pub asks : Asks rows question
  pub gives : GivesQuestion result question

-- one of these values is there: of --list, --dot, --html, --plan, --why, and --from
abbrev pub has_any : Bool → Bool → Bool → Option Text → Option (List Text) → Option Text → Bool
has_any list dot html plan why from = list || (dot || (html || (is_some plan || (is_some why || is_some from))))

-- these flags and the other values of the rows ask for something beside the following of lines, or for nothing
pub record AsksBeside (rows : List Row) (more : Bool) : Type 0 where
  pub list : Bool
  pub dot : Bool
  pub html : Bool
  pub is_list : IsFlag (one_of (codes "list") rows) list
  pub is_dot : IsFlag (one_of (codes "dot") rows) dot
  pub is_html : IsFlag (one_of (codes "html") rows) html
  pub beside : more ≡ has_any list dot html (first_of (codes "plan") rows) (all_of (codes "why") rows) (first_of (codes "from") rows)

-- whether a line asks for the following of lines
abbrev pub AsksToServe : List Row → Bool → Type 0
AsksToServe rows value = IsFlag (one_of (codes "serve") rows) value

-- why a line asks for no question: it names no file, or asks not just one
abbrev pub AsksNoQuestion : List Row → Type 0
AsksNoQuestion rows = (first_of (codes "file") rows ≡ None) ⊎ Asks rows None

-- why a line asks for nothing: it asks for lines to be followed and for something beside that, or for neither that nor a question
abbrev pub AsksNothing : List Row → Type 0
AsksNothing rows = (AsksToServe rows true × AsksBeside rows true) ⊎ (AsksToServe rows false × AsksNoQuestion rows)

-- this question of the book of this file
abbrev pub IsQuestionOf : Text → Question → Asked → Type 0
IsQuestionOf file question (Ask own asked) = (string_bytes own ≡ file) × (asked ≡ question)
IsQuestionOf file question (Serve own) = ⊥

-- the following of lines, behind those of this file, if one is named
abbrev pub IsServeOf : Option Text → Asked → Type 0
IsServeOf file (Ask own asked) = ⊥
IsServeOf file (Serve own) = option_map string_bytes own ≡ file

-- the file and the question of a line
pub record NamesQuestion (rows : List Row) (file : Text) (question : Question) : Type 0 where
  pub named : first_of (codes "file") rows ≡ Some file
  pub asks : Asks rows (Some question)

pub record NamesServe (rows : List Row) (file : Option Text) : Type 0 where
  pub named : file ≡ first_of (codes "file") rows
  pub alone : AsksBeside rows false

abbrev pub NamesIn : List Row → Asked → Type 0
NamesIn rows (Ask file question) = AsksToServe rows false × NamesQuestion rows (string_bytes file) question
NamesIn rows (Serve file) = AsksToServe rows true × NamesServe rows (option_map string_bytes file)

-- what is asked of a file's book
abbrev pub IsQuestionIn : List Row → Result Asked AskRefusal → Type 0
IsQuestionIn rows (Ok (Ask file question)) = NamesQuestion rows (string_bytes file) question
IsQuestionIn rows (Ok (Serve file)) = ⊥
IsQuestionIn rows (Err Usage) = AsksNoQuestion rows
IsQuestionIn rows (Err Memory) = Unit {0}
IsQuestionIn rows (Err (Shown text)) = ⊥

abbrev pub IsServedIn : List Row → Result Asked AskRefusal → Type 0
IsServedIn rows (Ok (Ask file question)) = ⊥
IsServedIn rows (Ok (Serve file)) = NamesServe rows (option_map string_bytes file)
IsServedIn rows (Err Usage) = AsksBeside rows true
IsServedIn rows (Err Memory) = Unit {0}
IsServedIn rows (Err (Shown text)) = ⊥

abbrev pub IsAskedIn : List Row → Result Asked AskRefusal → Type 0
IsAskedIn rows (Ok asked) = NamesIn rows asked
IsAskedIn rows (Err Usage) = AsksNothing rows
IsAskedIn rows (Err Memory) = Unit {0}
IsAskedIn rows (Err (Shown text)) = ⊥
