use Rattle.std.proofs.Common.{◌≡◌, ◌+◌, List, ℕ, length, Some, ap, ap₂, subst, sym, ◌∙◌}
use Rattle.linked_classes.specs.Classes.{class_of}
use Rattle.linked_classes.specs.Linked.{updated}
use Rattle.step_names.specs.declared.step.StepName.{StepName}
use Rattle.step_history.specs.SettledNames.{AreClassed}
use Rattle.step_history.proofs.NamesClassed.{one_more}
use Rattle.step_history.proofs.settled_names.SettledNames.push.Goals as goal

pub invariant_of-self : goal.invariant_of-self
invariant_of-self c =
    let ns = c.self.inside.names.items in
    let v = c.self.inside.classes in
    let many : c.len-number.result ≡ length ns = c.len-number.ensures ∙ c.self.inside.names.ok.0 in
    subst (λ (l : List StepName). AreClassed l c.push.new.self) (sym c.push_reserved.ensures.items)
    (one_more ns v c.push.new.self c.args.name c.self.invariant
    (c.push.ensures.classes ∙ ap₂ (λ (i : ℕ) (b : ℕ). updated i (class_of v) (Some b)) many c.bucket.ensures.bucket)
    (c.push.ensures.end ∙ ap (λ (i : ℕ). i + 1) many))
