-- The words of the command line: what they ask for, and why they ask for nothing.
use Rattle.std.specs.Prelude.{◌≡◌, ◌≢◌, ◌⊎◌, true, List, [], ◌∷◌, Some, codes}
use Rattle.clap.specs.Words.{App, Rule, Text, new_app, new_rule, with_rule, matches_of, fault_of, IsAmong}
use Rattle.clap.specs.declared.builder.action.ArgAction.TheVariants.{SetTrue}
use Rattle.clap.specs.declared.error.kind.ErrorKind.{ErrorKind}
use Rattle.clap.specs.declared.error.kind.ErrorKind.TheVariants as kind
use Rattle.std.specs.declared.io.ErrorKind.{ErrorKind as IoKind}
use Rattle.std.specs.declared.io.ErrorKind.TheVariants.{OutOfMemory}
use Rattle.graph_run.specs.Questions.{AsksNothing, NamesIn}
use Rattle.graph_run.specs.declared.asked.Asked.{Asked}
use Rattle.graph_run.specs.declared.asked.AskRefusal.{AskRefusal}
use Rattle.graph_run.specs.declared.asked.AskRefusal.TheVariants.{Shown, Usage, Memory}

-- how it is told that the words can't be had, for an error of this kind
abbrev pub graph_unread_refusal : IoKind → AskRefusal
graph_unread_refusal OutOfMemory = Memory
graph_unread_refusal kind = Usage

-- ---- the program's command

-- an argument by its place, which may be left out
abbrev pub file_rule : Rule
file_rule = record (new_rule (codes "file")) { value_names = 1 }

abbrev pub flag_rule : Text → Rule
flag_rule name = record (new_rule name) { long = Some name; action = Some SetTrue }

-- an option with one value
abbrev pub graph_option_rule : Text → Rule
graph_option_rule name = record (new_rule name) { long = Some name; value_names = 1 }

-- an option with two values
abbrev pub why_rule : Rule
why_rule = record (new_rule (codes "why")) { long = Some (codes "why"); range = Some (record { start_inclusive = 2; end_inclusive = 2 }); value_names = 2 }

abbrev pub graph_named_program : App
graph_named_program = record { top = record (new_app (codes "rollback_graph")).top { has_version = true }; subs = [] }

abbrev pub with_lines : App → App
with_lines app = with_rule (with_rule (with_rule (with_rule app (flag_rule (codes "list"))) (graph_option_rule (codes "plan"))) why_rule) (flag_rule (codes "serve"))

abbrev pub with_pictures : App → App
with_pictures app = with_rule (with_rule (with_rule app (flag_rule (codes "dot"))) (flag_rule (codes "html"))) (graph_option_rule (codes "from"))

-- the program's command
abbrev pub graph_program : App
graph_program = with_pictures (with_lines (with_rule graph_named_program file_rule))

-- how an error of this kind is told: a text that was asked for is shown
abbrev pub IsAskRefusedBy : ErrorKind → AskRefusal → Type 0
IsAskRefusedBy k (Shown text) = (k ≡ kind.DisplayHelp) ⊎ (k ≡ kind.DisplayVersion)
IsAskRefusedBy k Usage = (k ≢ kind.DisplayHelp) × (k ≢ kind.DisplayVersion) × (k ≢ kind.OutOfMemory)
IsAskRefusedBy k Memory = Unit {0}

-- the words are refused with an error that is told so
pub record IsAskRefused (words : List Text) (refusal : AskRefusal) : Type 0 where
  pub kind : ErrorKind
  pub among : IsAmong kind (fault_of graph_program words)
  pub told : IsAskRefusedBy kind refusal

-- clap takes the words, and their values ask for this
pub record NamesAsked (words : List Text) (asked : Asked) : Type 0 where
  pub taken : fault_of graph_program words ≡ []
  pub names : NamesIn (matches_of graph_program words) asked

-- The values ask for nothing, or the words are refused for another cause than memory. Want of memory says nothing of them.
abbrev pub RefusesAsked : List Text → AskRefusal → Type 0
RefusesAsked words Memory = Unit {0}
RefusesAsked words (Shown text) = IsAskRefused words (Shown text)
RefusesAsked words Usage = AsksNothing (matches_of graph_program words) ⊎ IsAskRefused words Usage
