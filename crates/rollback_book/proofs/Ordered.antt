-- What an order of undoings is answered, as the facts of the remaining steps tell it.
use Rattle.std.proofs.Common.{◌≡◌, ◌<◌, arith, ℕ, Bool, true, false, cond, List, [], ◌∷◌, length, zero, suc, refl, ap, sym, subst, ◌∙◌, inl, inr, Option, None, Some, Result, Ok, Err}
use Rattle.std.specs.Prelude.{◌||◌, slice_get}
use Rattle.std.specs.List.{find, list_any}
use Rattle.step_names.specs.declared.step.StepName.{StepName}
use Rattle.trace_theory.specs.Traces.{In, is_among, undone, without}
use Rattle.trace_theory.proofs.Lists.{by_bool}
use Rattle.trace_theory.proofs.Least.{Once}
use Rattle.saved_steps.specs.Held.{world_view}
use Rattle.saved_steps.specs.Steps.{Step, name_of}
use Rattle.saved_steps.specs.World.{Setting, World, is_same_step}
use Rattle.saved_steps.specs.declared.fact.Fact.{Fact}
use Rattle.depends.specs.Dependence.{depends_directly}
use Rattle.depends.specs.Instance.{steps}
use Rattle.depends.specs.Laws.{IsFrom, facts_of}
use Rattle.depends.specs.Plans.{first_dependent}
use Rattle.depends.proofs.Named.{steps_have_names}
use Rattle.depends.proofs.Searching.{facts}
use Rattle.step_history.specs.History.{TakenStep, history_records, history_world}
use Rattle.book_log.specs.Answers.{absent, is_settled, free_answer, from_step, found_answer, once_undone, order_answer, undo_answer}
use Rattle.book_log.specs.Log.{Log, appended, base_of, past_of, setting_of}
use Rattle.book_log.specs.declared.entry.Entry.TheVariants.{Undo}
use Rattle.book_log.specs.declared.refusal.Refusal.{Refusal}
use Rattle.book_log.specs.declared.refusal.Refusal.TheVariants.{NoStep, Settled}
use Rattle.book_log.proofs.Answered.{once, undo_said}
use Rattle.book_log.proofs.Orders.{order_split}
use Rattle.book_log.proofs.Standing.{StandsAt, from_start, past_there, fact_named, settled_next, stands_undone, step_same}
use Rattle.rollback_book.specs.Book.{BookView, IsStepAt, IsMaximalPlace, BookInvariant}
use Rattle.rollback_book.specs.Ordering.{facts_without, order_refusal, refused_or}
use Rattle.rollback_book.proofs.Free.{dependent_answer, dependent_within, free_place}
use Rattle.rollback_book.specs.Settling.{absent_in}
use Rattle.rollback_book.proofs.Settled.{absent_is}
use Rattle.rollback_book.proofs.Tied.{facts_are, stands}

-- ---- what is left

others : (s : Setting) (x : TakenStep) (ts : List TakenStep) → ((y : TakenStep) → In y ts → is_same_step (name_of x.step) (name_of y.step) ≡ false) → without (steps s) (x ∷ []) ts ≡ ts
others s x [] h = refl
others s x (t ∷ ts) h =
    let e : is_among (steps s) (x ∷ []) t ≡ false = ap (λ (b : Bool). b || false) (h t (inl refl)) in
    rw e (ap (λ (l : List TakenStep). t ∷ l) (others s x ts (λ y i. h y (inr i))))

-- the facts without a step are those without its name's
left_facts : (s : Setting) (base : World) (from : IsFrom s base) (ts : List TakenStep) (x : TakenStep) → Once (steps s) base (steps_have_names s base from) ts → ((t : TakenStep) → In t ts → t.fact.name ≡ name_of t.step)
    → facts_of (without (steps s) (x ∷ []) ts) ≡ facts_without (name_of x.step) (facts_of ts)
left_facts s base from [] x once named = refl
left_facts s base from (t ∷ ts) x once named =
    let own : is_same_step (name_of x.step) t.fact.name ≡ is_same_step (name_of x.step) (name_of t.step) = ap (is_same_step (name_of x.step)) (named t (inl refl)) in
    let rest = left_facts s base from ts x (λ y z b. once y z (inr b)) (λ y i. named y (inr i)) in
    by_bool (is_same_step (name_of x.step) (name_of t.step)) _
    (λ k. let out : is_among (steps s) (x ∷ []) t ≡ true = ap (λ (b : Bool). b || false) k in
    let first = own ∙ k in
    let same = step_same (name_of x.step) (name_of t.step) k in
    let all = others s x ts (λ y i. ap (λ (n : StepName). is_same_step n (name_of y.step)) same ∙ once t y (inl (refl, i))) in
    rw (out, first) (ap facts_of all))
    (λ k. let out : is_among (steps s) (x ∷ []) t ≡ false = ap (λ (b : Bool). b || false) k in
    let first = own ∙ k in
    rw (out, first) (ap (λ (fs : List Fact). t.fact ∷ fs) rest))

-- ---- orders

-- an order comes to its end, or to this refusal
abbrev pub IsAnswered : Log → List StepName → Option Refusal → Type 0
IsAnswered log names None = (after : Log) × (order_answer log names ≡ Ok after)
IsAnswered log names (Some e) = order_answer log names ≡ Err e

one_more : (log : Log) (name n : StepName) (names : List StepName) (o : Option Refusal) → undo_answer log name ≡ Ok n → IsAnswered (appended log (Undo name)) names o → IsAnswered log (name ∷ names) o
one_more log name n names None a k = (k.0, ap (λ (r : Result StepName Refusal). once_undone r (order_answer (appended log (Undo name)) names)) a ∙ k.1)
one_more log name n names (Some e) a k = ap (λ (r : Result StepName Refusal). once_undone r (order_answer (appended log (Undo name)) names)) a ∙ k

told_by : (gone : StepName → Refusal) (log : Log) (s : Setting) (w : World) (ts : List TakenStep) (h : StandsAt log s w ts) (name : StepName) (names : List StepName) (r : Result StepName Refusal)
    → ((v : World) (us : List TakenStep) → StandsAt (appended log (Undo name)) s v us → IsAnswered (appended log (Undo name)) names (order_refusal gone (facts_of us) names))
    → undo_answer log name ≡ r → IsAnswered log (name ∷ names) (refused_or r (order_refusal gone (facts_without name (facts_of ts)) names))
told_by gone log s w ts h name names (Ok n) rest a =
    let x = (undo_said log s w ts h name n a).0 in
    let left = without (steps s) (x.step ∷ []) ts in
    let told = rest (undone (steps s) w x.step) left (stands_undone log s w ts name x.step h x.free x.named) in
    let same : facts_of left ≡ facts_without name (facts_of ts) = left_facts s (base_of log) (from_start log s w ts h) ts x.step (once log s w ts h) (fact_named log s w ts h) ∙ ap (λ (m : StepName). facts_without m (facts_of ts)) x.named in
    one_more log name n names (order_refusal gone (facts_without name (facts_of ts)) names) a
    (subst (λ (fs : List Fact). IsAnswered (appended log (Undo name)) names (order_refusal gone fs names)) same told)
told_by gone log s w ts h name names (Err e) rest a = ap (λ (r : Result StepName Refusal). once_undone r (order_answer (appended log (Undo name)) names)) a

undo_there : (log : Log) (s : Setting) (w : World) (ts : List TakenStep) → StandsAt log s w ts → (name : StepName) → undo_answer log name ≡ found_answer (absent log name) name (from_step name (facts_of ts))
unfolding undo_answer
undo_there log s w ts h name = ap (λ (l : List TakenStep). found_answer (absent log name) name (from_step name (facts_of l))) (past_there log s w ts h)

-- why steps of names that don't remain can't be taken back is as it was, where an undoing is accepted
still_absent : (log : Log) (name n : StepName) → absent (appended log (Undo name)) n ≡ absent log n
unfolding is_settled
still_absent log name n = ap (λ (ss : List Step). cond (list_any (λ (x : Step). is_same_step n (name_of x)) ss) Settled NoStep) (settled_next log (Undo name))

order_told : (gone : StepName → Refusal) (names : List StepName) (log : Log) (s : Setting) (w : World) (ts : List TakenStep) → StandsAt log s w ts → ((n : StepName) → gone n ≡ absent log n) → IsAnswered log names (order_refusal gone (facts_of ts) names)
order_told gone [] log s w ts h same = (log, refl)
order_told gone (name ∷ names) log s w ts h same =
    told_by gone log s w ts h name names (found_answer (gone name) name (from_step name (facts_of ts)))
    (λ v us k. order_told gone names (appended log (Undo name)) s v us k (λ n. same n ∙ sym (still_absent log name n)))
    (undo_there log s w ts h name ∙ ap (λ (e : Refusal). found_answer e name (from_step name (facts_of ts))) (sym (same name)))

-- ---- of a book

module _ (b : BookView) (tied : BookInvariant b) where
  pub order_answered : (names : List StepName) (o : Option Refusal) → order_refusal (absent_in b.settled.items) (facts (history_records b.history)) names ≡ o → IsAnswered b.log names o
  order_answered names o h =
      subst (IsAnswered b.log names) (ap (λ (fs : List Fact). order_refusal (absent_in b.settled.items) fs names) (sym (facts_are b tied)) ∙ h)
      (order_told (absent_in b.settled.items) names b.log (setting_of b.log) (world_view (history_world b.history)) (past_of b.log) (stands b tied) (absent_is b tied))

  element_there : {A : Type 0} (xs : List A) (i : ℕ) → i < length xs → (x : A) × (slice_get xs i ≡ Some x)
  element_there [] i h = absurd (omega (arith, h))
  element_there (x ∷ xs) zero h = (x, refl)
  element_there (x ∷ xs) (suc i) h = element_there xs i (omega (arith, h))

  module _ (name n : StepName) (a : undo_answer b.log name ≡ Ok n) where
    free_by : (at : ℕ) → IsStepAt b name at → (o : Option ℕ) → first_dependent (facts (history_records b.history)) at ≡ o → IsMaximalPlace b name at
    free_by at is_at None h = free_place b tied name at is_at h
    free_by at is_at (Some dependent) h =
        let r = element_there (history_records b.history) dependent (dependent_within b tied name at is_at dependent h) in
        let refused = dependent_answer b tied name at is_at dependent r.0 h r.1 in
        let clash = sym a ∙ refused in
        cc

    -- and it is free
    pub undone_free : (at : ℕ) → IsStepAt b name at → IsMaximalPlace b name at
    undone_free at is_at = free_by at is_at (first_dependent (facts (history_records b.history)) at) refl

-- ---- one after another

free_named : (name n : StepName) (o : Option Fact) → free_answer name o ≡ Ok n → name ≡ n
free_named name n None h = cc
free_named name n (Some f) h = cc

found_named : (gone : Refusal) (name n : StepName) (o : Option (Fact × List Fact)) → found_answer gone name o ≡ Ok n → name ≡ n
found_named gone name n None h = cc
found_named gone name n (Some p) h = free_named name n (find (depends_directly p.0) p.1) h

undo_named : (log : Log) (name n : StepName) → undo_answer log name ≡ Ok n → name ≡ n
unfolding undo_answer
undo_named log name n h = found_named (absent log name) name n (from_step name (facts_of (past_of log))) h

-- the first of an order is undone
pub first_undone : (log : Log) (name : StepName) (names : List StepName) (left : Log) → order_answer log (name ∷ names) ≡ Ok left → undo_answer log name ≡ Ok name
first_undone log name names left h =
    let k = order_split (undo_answer log name) (order_answer (appended log (Undo name)) names) left h in
    k.1 ∙ ap Ok (sym (undo_named log name k.0 k.1))
