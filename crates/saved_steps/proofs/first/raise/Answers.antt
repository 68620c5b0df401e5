use Rattle.std.proofs.Common.{ℕ, List, sym, subst}
use Rattle.std.specs.String.{string_bytes}
use Rattle.saved_steps.specs.First.{AreQuiet}
use Rattle.saved_steps.proofs.Earliest.{rewritten}
use Rattle.saved_steps.proofs.first.raise.Goals as goal

pub returns-then-ne : goal.returns-then-ne
returns-then-ne c =
    let m = c.args.trees.now in
    let awake = string_bytes c.args.quiet.now.awake in
    rewritten m c.as_str-then-ne.result.now awake (string_bytes c.rewrite.new.text)
    (subst (λ (x : List ℕ). AreQuiet m x awake) (sym c.as_str-then-ne.ensures.value) c.in-Some.ensures) c.rewrite.ensures
