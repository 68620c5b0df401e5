use Rattle.std.proofs.Common.{Option, Some, subst, sym, ◌∙◌}
use Rattle.std.specs.Prelude.{MatchOption}
use Rattle.std.specs.BTreeSet.{contains}
use Rattle.std.specs.String.{string_bytes}
use Rattle.branch_tree.proofs.FirstOf.{none_of}
use Rattle.step_names.specs.Order.{thread_cmp}
use Rattle.step_names.specs.Thread.{Thread}
use Rattle.saved_steps.specs.First.{IsFirstReady, NoneFreeBefore}
use Rattle.saved_steps.specs.Held.{frames_in}
use Rattle.saved_steps.proofs.Earliest.{before_first}
use Rattle.saved_steps.proofs.first.first_among.Goals as goal

pub first_from-requires : goal.first_from-requires
first_from-requires c =
    let none = subst (λ (o : Option Thread). MatchOption o (NoneFreeBefore (frames_in c.args.trees.now) (contains thread_cmp c.args.passed.now) (string_bytes c.args.quiet.now.name))
    (λ t. IsFirstReady (frames_in c.args.trees.now) (contains thread_cmp c.args.passed.now) (Some t))) (none_of c.in_ok-found.found (sym c.is_some.ensures ∙ c.if-is_some.false)) c.in_ok-found.ensures in
    before_first (frames_in c.args.trees.now) (contains thread_cmp c.args.passed.now) (string_bytes c.args.quiet.now.name) none
