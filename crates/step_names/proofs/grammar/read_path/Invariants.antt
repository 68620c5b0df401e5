use Rattle.std.proofs.Common.{◌≡◌, ◌==◌, length}
use denote.Text.{Utf8}
use denote.Shadow.{shadow}
use Rattle.std.specs.List.{slice_split}
use Rattle.step_names.specs.Grammar.{read_path}
use Rattle.step_names.proofs.Paths.{path_from}
use Rattle.step_names.proofs.grammar.read_path.Given as goal

-- what is read so far, and what the rest gives after it
abbrev pub invariant-loop-branch : goal.invariant-loop-branch
invariant-loop-branch l =
    shadow (Utf8 l.rest)
    × (path_from l.path (slice_split (λ b. b == 47) l.rest) ≡ read_path (slice_split (λ b. b == 47) l.text))

abbrev pub decreases-loop-branch : goal.decreases-loop-branch
decreases-loop-branch l = length l.rest
