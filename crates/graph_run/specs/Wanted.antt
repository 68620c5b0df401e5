-- What the program takes its words for: what clap reads is what they name.
use Rattle.std.specs.Prelude.{List}
use Rattle.clap.specs.Words.{Text}
use Rattle.graph_run.specs.Words.{NamesAsked}
use Rattle.graph_run.specs.declared.spoken.Wanted.{Wanted}
use Rattle.graph_run.specs.declared.spoken.Wanted.TheVariants as wanted

-- of a question in words, and of the viewer, nothing is said
abbrev pub IsWanted : List Text → Wanted → Type 0
IsWanted words (wanted.Asked asked) = NamesAsked words asked
IsWanted words (wanted.Spoken spoken) = Unit {0}
IsWanted words (wanted.Viewer part) = Unit {0}
