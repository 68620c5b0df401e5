-- The words of the command line: which mode they name, and why they name none.
use Rattle.std.specs.Prelude.{◌≡◌, ◌≢◌, ◌⊎◌, true, List, [], Option, None, Some, IsSome, codes, string_bytes}
use Rattle.clap.specs.Words.{App, Rule, Text, new_app, new_rule, with_rule, first_of, matches_of, fault_of, IsAmong}
use Rattle.clap.specs.declared.error.kind.ErrorKind.{ErrorKind}
use Rattle.clap.specs.declared.error.kind.ErrorKind.TheVariants as kind
use Rattle.std.specs.declared.io.ErrorKind.{ErrorKind as IoKind}
use Rattle.std.specs.declared.io.ErrorKind.TheVariants.{OutOfMemory}
use Rattle.rollback_run.specs.declared.mode.Mode.{Mode}
use Rattle.rollback_run.specs.declared.mode.Mode.TheVariants.{InMemory, Journal, Check}
use Rattle.rollback_run.specs.declared.mode.ModeRefusal.{ModeRefusal}
use Rattle.rollback_run.specs.declared.mode.ModeRefusal.TheVariants.{Shown, Usage, Memory}

-- how it is told that the words can't be had, for an error of this kind
abbrev pub unread_refusal : IoKind → ModeRefusal
unread_refusal OutOfMemory = Memory
unread_refusal kind = Usage

-- an option with one value
abbrev pub option_rule : Text → Rule
option_rule name = record (new_rule name) { long = Some name; value_names = 1 }

-- the program's name, with a version
abbrev pub named_program : App
named_program = record { top = record (new_app (codes "rollback")).top { has_version = true }; subs = [] }

-- the program's command
abbrev pub program : App
program = with_rule (with_rule named_program (option_rule (codes "journal"))) (option_rule (codes "check"))

-- the value of an option in the matches that these words have
abbrev pub value_in : List Text → Text → Option Text
value_in words name = first_of name (matches_of program words)

-- the mode of these values of the two options
abbrev pub NamesFile : Option Text → Option Text → Mode → Type 0
NamesFile journal check InMemory = (journal ≡ None) × (check ≡ None)
NamesFile journal check (Journal file) = (journal ≡ Some (string_bytes file)) × (check ≡ None)
NamesFile journal check (Check file) = (journal ≡ None) × (check ≡ Some (string_bytes file))

-- the values name no mode
abbrev pub RefusesNamed : Option Text → Option Text → ModeRefusal → Type 0
RefusesNamed journal check (Shown text) = ⊥
RefusesNamed journal check Usage = IsSome journal × IsSome check
RefusesNamed journal check Memory = Unit {0}

-- how an error of this kind is told: a text that was asked for is shown
abbrev pub IsModeRefusedBy : ErrorKind → ModeRefusal → Type 0
IsModeRefusedBy k (Shown text) = (k ≡ kind.DisplayHelp) ⊎ (k ≡ kind.DisplayVersion)
IsModeRefusedBy k Usage = (k ≢ kind.DisplayHelp) × (k ≢ kind.DisplayVersion) × (k ≢ kind.OutOfMemory)
IsModeRefusedBy k Memory = Unit {0}

-- clap takes the words, and the mode is the one that their matches name
abbrev pub NamesMode : List Text → Mode → Type 0
NamesMode words mode = (fault_of program words ≡ []) × NamesFile (value_in words (codes "journal")) (value_in words (codes "check")) mode

-- the words are refused with an error that is told so
pub record IsModeRefused (words : List Text) (refusal : ModeRefusal) : Type 0 where
  pub kind : ErrorKind
  pub among : IsAmong kind (fault_of program words)
  pub told : IsModeRefusedBy kind refusal

-- Both options are there, or the words are refused for another cause than memory. Want of memory says nothing of them.
abbrev pub RefusesMode : List Text → ModeRefusal → Type 0
RefusesMode words Memory = Unit {0}
RefusesMode words refusal = RefusesNamed (value_in words (codes "journal")) (value_in words (codes "check")) refusal ⊎ IsModeRefused words refusal
