-- A step of a thread that was there already adds no mark of its thread and of the forks above it.
use Rattle.std.proofs.Common.{◌≡◌, ℕ, Bool, true, List, [], ◌∷◌, ◌++◌, ap, sym, ◌∙◌}
use Rattle.std.specs.List.{list_any}
use Rattle.step_names.proofs.OrderLaws.{thread_same}
use Rattle.step_names.specs.Thread.{Thread}
use Rattle.saved_steps.specs.World.{is_same_thread}
use Rattle.saved_steps.specs.declared.fact.Fact.{Fact}
use Rattle.depends.specs.Above.{forks_above, goes_by}
use Rattle.depends.specs.Kinds.{AreThreads, AreUnder, is_of_thread, lies_by}
use Rattle.depends.specs.declared.thread_marks.ThreadMarks.{ThreadMarks}
use Rattle.depends.specs.declared.under.UnderMarks.{UnderMarks}
use Rattle.depends.proofs.Anyone.{any_again, any_more}

module _ (facts : List Fact) (f : Fact) (there : list_any (is_of_thread f.name.thread) facts ≡ true) where
  again : (p : Fact → Bool) → ((g : Fact) → g.name.thread ≡ f.name.thread → p g ≡ p f) → list_any p facts ≡ list_any p (facts ++ f ∷ [])
  again p same = sym (any_again (is_of_thread f.name.thread) p (p f) facts there (λ g e. same g (thread_same g.name.thread f.name.thread e))) ∙ sym (any_more p facts f)

  pub threads_again : (m : ThreadMarks) → AreThreads facts m → AreThreads (facts ++ f ∷ []) m
  threads_again m are t = are t ∙ again (is_of_thread t) (λ g e. ap (λ (u : Thread). is_same_thread u t) e)

  pub under_again : (m : UnderMarks) → AreUnder facts m → AreUnder (facts ++ f ∷ []) m
  under_again m are s test down = are s test down ∙ again (lies_by s test) (λ g e. ap (λ (u : Thread). list_any (goes_by s test) (forks_above u)) e)
