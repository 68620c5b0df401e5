use Rattle.std.proofs.Common.{◌≡◌, false, true, nat_eq, sym, ◌∙◌}
use Rattle.step_index.proofs.Opened.{none_has}
use Rattle.step_index.proofs.due.DuePlaces.new.Goals as goal

pub returns-clause-none : goal.returns-clause-none
returns-clause-none c = c.new.ensures

pub returns-clause-due : goal.returns-clause-due
returns-clause-due c rs from = record {
  within = λ k h. absurd (let x : false ≡ true = sym (c.new.ensures k) ∙ h in cc);
  threaded = λ k class l is o. absurd (none_has _ (nat_eq class) c.new-2.ensures.empty o);
  run = λ k class l is o. absurd (none_has _ (nat_eq class) c.new-3.ensures.empty o);
  gated = λ k class l is o. absurd (none_has _ (nat_eq class) c.new-4.ensures.empty o);
  keyed = λ k class l is o. absurd (none_has _ (nat_eq class) c.new-5.ensures.empty o);
  wrote = λ k class l is o. absurd (none_has _ (nat_eq class) c.new-6.ensures.empty o);
}
