use Rattle.std.proofs.Common.{◌≡◌, ◌∙◌, sym, ap, refl, Some, Err}
use Rattle.step_names.specs.declared.NameFault.TheVariants.{BadName}
use Rattle.step_names.specs.Grammar.{read_step_number, read_thread}
use Rattle.step_names.proofs.Steps.{step_cut, no_number, step_none}
use Rattle.step_names.proofs.step.StepName.read.Goals as goal

pub returns-in_default-read_number-clause-bad : goal.returns-in_default-read_number-clause-bad
returns-in_default-read_number-clause-bad c =
    let cut = step_cut c.args.text.now c.in-Some.thread.now c.in-Some.number.now c.in-Some.ensures.parts in
    (λ _. cut ∙ no_number c.in-Some.thread.now c.in-Some.number.now (sym c.read_number.ensures ∙ c.in_default-read_number.is), λ _. refl)

pub returns-in-Ok-clause-ok : goal.returns-in-Ok-clause-ok
returns-in-Ok-clause-ok c =
    let cut = step_cut c.args.text.now c.in-Some.thread.now c.in-Some.number.now c.in-Some.ensures.parts in
    let number : read_step_number c.in-Some.number.now ≡ Some c.in-Some-read_number.no = sym c.read_number.ensures ∙ c.in-Some-read_number.is in
    let thread : read_thread c.in-Some.thread.now ≡ Some c.in-Ok.thread = c.in-Ok.ensures.ok in
    cut ∙ rw (thread, number)

pub returns-in-Ok-clause-bad : goal.returns-in-Ok-clause-bad
returns-in-Ok-clause-bad c =
    let cut = step_cut c.args.text.now c.in-Some.thread.now c.in-Some.number.now c.in-Some.ensures.parts in
    let number : read_step_number c.in-Some.number.now ≡ Some c.in-Some-read_number.no = sym c.read_number.ensures ∙ c.in-Some-read_number.is in
    let thread : read_thread c.in-Some.thread.now ≡ Some c.in-Ok.thread = c.in-Ok.ensures.ok in
    (λ e. cc, λ e. let none = (step_none c.in-Some.thread.now c.in-Some.number.now c.in-Some-read_number.no number).1 (sym cut ∙ e) in cc)

pub returns-in-Err-clause-bad : goal.returns-in-Err-clause-bad
returns-in-Err-clause-bad c =
    let cut = step_cut c.args.text.now c.in-Some.thread.now c.in-Some.number.now c.in-Some.ensures.parts in
    let number : read_step_number c.in-Some.number.now ≡ Some c.in-Some-read_number.no = sym c.read_number.ensures ∙ c.in-Some-read_number.is in
    let none = step_none c.in-Some.thread.now c.in-Some.number.now c.in-Some-read_number.no number in (
      λ e. let same : c.in-Err.fault ≡ BadName = cc in cut ∙ none.0 (c.in-Err.ensures.bad.0 (ap (λ f. Err f) same)),
      λ e. let bad = c.in-Err.ensures.bad.1 (none.1 (sym cut ∙ e)) in let same : c.in-Err.fault ≡ BadName = cc in ap (λ f. Err f) same,
    )
