use Rattle.std.proofs.Common.{◌≡◌, drop}
use Rattle.std.specs.List.{list_any}
use Rattle.book_rounds.specs.Rounds.{is_refused_stop}
use Rattle.book_rounds.proofs.rounds.is_any_halted.Given as goal

abbrev pub invariant-loop-why : goal.invariant-loop-why
invariant-loop-why l = list_any is_refused_stop (drop l.why-index l.stopped) ≡ list_any is_refused_stop l.stopped
