-- Orders of undoings, and rollbacks.
use Rattle.std.proofs.Common.{◌≡◌, List, [], ◌∷◌, map, refl, ap, sym, subst, ◌∙◌, inl, inr, Result, Ok, Err}
use Rattle.std.specs.Prelude.{reverse}
use Rattle.step_names.specs.declared.step.StepName.{StepName}
use Rattle.trace_theory.specs.Traces.{In, consequences, without, undo_each, IsLeast, IsBackwardOrder}
use Rattle.trace_theory.proofs.Least.{one_step, least_of}
use Rattle.trace_theory.proofs.Lists.{In-reverse, reverse-In}
use Rattle.trace_theory.proofs.Orders.{without_none, without_more, without_alike, allowed_in, after_allowed, orders_agree, orders_hold_after}
use Rattle.depends.specs.Steps.{moved, name_of}
use Rattle.depends.specs.World.{Setting, World, is_same_step}
use Rattle.depends.specs.Instance.{TakenStep, steps}
use Rattle.depends.proofs.Reversible as lawful
use Rattle.depends.proofs.Named.{steps_have_names}
use Rattle.book_log.specs.Answers.{undo_answer, once_undone, order_answer, names_of_facts}
use Rattle.book_log.specs.Laws as laws
use Rattle.book_log.specs.Legal.{IsLegal}
use Rattle.book_log.specs.Log.{Log, appended, base_of, settled, setting_of, world_of, past_of, consequences_of}
use Rattle.book_log.specs.declared.entry.Entry.TheVariants.{Undo, Rollback}
use Rattle.book_log.specs.declared.refusal.Refusal.{Refusal}
use Rattle.book_log.proofs.Standing.{StandsAt, step_itself, after_same, from_start, past_there, is_run, fact_named, consequences_there, settled_next, stands_undone, stands_rolled}
use Rattle.book_log.proofs.Answered.{once, undo_said, free_undone}
use Rattle.book_log.proofs.LegalRuns.{plan_said, accepted_is_legal, legal_stands}
use Rattle.book_log.proofs.TakenBack.{leaves_same}

In-map : {A B : Type 0} (f : A → B) (x : A) (xs : List A) → In x xs → In (f x) (map f xs)
In-map f x [] i = absurd i
In-map f x (y ∷ xs) (inl e) = inl (ap f e)
In-map f x (y ∷ xs) (inr i) = inr (In-map f x xs i)

map-In : {A B : Type 0} (f : A → B) (y : B) (xs : List A) → In y (map f xs) → (x : A) × In x xs × (f x ≡ y)
map-In f y [] i = absurd i
map-In f y (x ∷ xs) (inl e) = (x, inl refl, sym e)
map-In f y (x ∷ xs) (inr i) = let k = map-In f y xs i in (k.0, inr k.1, k.2)

-- ---- orders that are allowed

-- an order that is accepted to its end, and what is left then
pub record IsTaken (log : Log) (s : Setting) (w : World) (ts xs : List TakenStep) : Type 0 where
  pub after : Log
  pub taken : order_answer log (names_of_facts xs) ≡ Ok after
  pub legal : IsLegal after
  pub there : StandsAt after s (undo_each (steps s) w xs) (without (steps s) xs ts)

pub allowed_is_taken : (xs : List TakenStep) (log : Log) (s : Setting) (w : World) (ts : List TakenStep) → IsLegal log → StandsAt log s w ts → IsBackwardOrder (steps s) ts xs → IsTaken log s w ts xs
allowed_is_taken [] log s w ts legal h a = record {
  after = log;
  taken = refl;
  legal = legal;
  there = subst (StandsAt log s w) (sym (without_none (steps s) (base_of log) (steps_have_names s (base_of log) (from_start log s w ts h)) ts)) h;
}
allowed_is_taken (x ∷ xs) log s w ts legal h a =
    let named = sym (fact_named log s w ts h x a.0.0) in
    let said = free_undone log s w ts h x x.fact.name a.0 named in
    let next = stands_undone log s w ts x.fact.name x h a.0 named in
    let k = allowed_is_taken xs (appended log (Undo x.fact.name)) s _ (without (steps s) (x ∷ []) ts) (accepted_is_legal log (Undo x.fact.name) legal said) next a.1 in
    record {
      after = k.after;
      taken = ap (λ (r : Result StepName Refusal). once_undone r (order_answer (appended log (Undo x.fact.name)) (names_of_facts xs))) said ∙ k.taken;
      legal = k.legal;
      there = subst (StandsAt k.after s _) (without_more (steps s) (base_of log) (steps_have_names s (base_of log) (from_start log s w ts h)) x xs ts) k.there;
    }

pub backward_orders_are_accepted : laws.BackwardOrdersAreAccepted
backward_orders_are_accepted log xs legal a =
    let h = legal_stands log legal in
    let k = allowed_is_taken xs log (setting_of log) (world_of log) (past_of log) legal h a in
    (k.after, k.taken, k.legal, past_there k.after (setting_of log) _ _ k.there)

-- ---- orders that are accepted

-- the steps of an order that is accepted, and what is left
pub record IsUnwound (left : Log) (s : Setting) (w : World) (ts : List TakenStep) (names : List StepName) : Type 0 where
  pub order : List TakenStep
  pub named : names_of_facts order ≡ names
  pub allowed : IsBackwardOrder (steps s) ts order
  pub there : StandsAt left s (undo_each (steps s) w order) (without (steps s) order ts)

pub order_split : (r : Result StepName Refusal) (rest : Result Log Refusal) (left : Log) → once_undone r rest ≡ Ok left → (n : StepName) × (r ≡ Ok n) × (rest ≡ Ok left)
order_split (Ok n) rest left h = (n, refl, h)
order_split (Err e) rest left h = cc

-- undoings settle nothing
pub order_settles : (names : List StepName) (log left : Log) → order_answer log names ≡ Ok left → settled left ≡ settled log
order_settles [] log left h = let same : log ≡ left = cc in ap settled (sym same)
order_settles (name ∷ names) log left h =
    order_settles names (appended log (Undo name)) left (order_split (undo_answer log name) (order_answer (appended log (Undo name)) names) left h).2 ∙ settled_next log (Undo name)

pub accepted_is_unwound : (names : List StepName) (log left : Log) (s : Setting) (w : World) (ts : List TakenStep) → StandsAt log s w ts → order_answer log names ≡ Ok left → IsUnwound left s w ts names
accepted_is_unwound [] log left s w ts h a =
    let same : log ≡ left = cc in
    record {
      order = [];
      named = refl;
      allowed = tt;
      there = subst (λ x. StandsAt x s w (without (steps s) [] ts)) same (subst (StandsAt log s w) (sym (without_none (steps s) (base_of log) (steps_have_names s (base_of log) (from_start log s w ts h)) ts)) h);
    }
accepted_is_unwound (name ∷ names) log left s w ts h a =
    let p = order_split (undo_answer log name) (order_answer (appended log (Undo name)) names) left a in
    let x = (undo_said log s w ts h name p.0 p.1).0 in
    let next = stands_undone log s w ts name x.step h x.free x.named in
    let k = accepted_is_unwound names (appended log (Undo name)) left s _ (without (steps s) (x.step ∷ []) ts) next p.2 in
    record {
      order = x.step ∷ k.order;
      named = ap (λ (n : StepName). n ∷ names_of_facts k.order) x.fact ∙ ap (λ (l : List StepName). name ∷ l) k.named;
      allowed = (x.free, k.allowed);
      there = subst (StandsAt left s _) (without_more (steps s) (base_of log) (steps_have_names s (base_of log) (from_start log s w ts h)) x.step k.order ts) k.there;
    }

pub accepted_orders_are_closed : laws.AcceptedOrdersAreClosed
accepted_orders_are_closed log left names name y legal a i j =
    let s = setting_of log in
    let w = world_of log in
    let ts = past_of log in
    let h = legal_stands log legal in
    let k = accepted_is_unwound names log left s w ts h a in
    let x = map-In (λ (t : TakenStep). t.fact.name) name k.order (subst (In name) (sym k.named) i) in
    let there = allowed_in (steps s) (base_of log) (steps_have_names s (base_of log) (from_start log s w ts h)) ts k.order k.allowed x.0 x.1 in
    let named : name ≡ name_of x.0.step = sym x.2 ∙ fact_named log s w ts h x.0 there in
    let behind : In y (consequences (steps s) ts x.0.step) = subst (In y) (consequences_there log s w ts h name ∙ after_same s (moved name) x.0.step ts named) j in
    subst (In y.fact.name) k.named
    (In-map (λ (t : TakenStep). t.fact.name) y k.order (orders_hold_after (steps s) (base_of log) (steps_have_names s (base_of log) (from_start log s w ts h)) w ts k.order x.0 y (is_run log s w ts h) k.allowed x.1 behind))

-- a step of one order stands in each of the same names
same_steps : (log : Log) (s : Setting) (w : World) (ts xs ys : List TakenStep) → StandsAt log s w ts → IsBackwardOrder (steps s) ts xs → IsBackwardOrder (steps s) ts ys
    → ((name : StepName) → In name (names_of_facts xs) → In name (names_of_facts ys)) → (x : TakenStep) → In x xs → In x ys
same_steps log s w ts xs ys h a b names x i =
    let base = base_of log in
    let have = steps_have_names s base (from_start log s w ts h) in
    let y = map-In (λ (t : TakenStep). t.fact.name) x.fact.name ys (names x.fact.name (In-map (λ (t : TakenStep). t.fact.name) x xs i)) in
    let x_there = allowed_in (steps s) base have ts xs a x i in
    let y_there = allowed_in (steps s) base have ts ys b y.0 y.1 in
    let e : name_of x.step ≡ name_of y.0.step = sym (fact_named log s w ts h x x_there) ∙ sym y.2 ∙ fact_named log s w ts h y.0 y_there in
    let same = one_step (steps s) base have ts (once log s w ts h) x y.0 x_there y_there (ap (is_same_step (name_of x.step)) (sym e) ∙ step_itself (name_of x.step)) in
    subst (λ (z : TakenStep). In z ys) (sym same) y.1

pub orders_agree_all : laws.OrdersAgree
orders_agree_all log a b names others legal one other same =
    let s = setting_of log in
    let w = world_of log in
    let ts = past_of log in
    let h = legal_stands log legal in
    let base = base_of log in
    let have = steps_have_names s base (from_start log s w ts h) in
    let k = accepted_is_unwound names log a s w ts h one in
    let l = accepted_is_unwound others log b s w ts h other in
    let forth = same_steps log s w ts k.order l.order h k.allowed l.allowed (λ n i. subst (In n) (sym l.named) ((same n).0 (subst (In n) k.named i))) in
    let back = same_steps log s w ts l.order k.order h l.allowed k.allowed (λ n i. subst (In n) (sym k.named) ((same n).1 (subst (In n) l.named i))) in
    leaves_same a b s (undo_each (steps s) w k.order) (undo_each (steps s) w l.order) (without (steps s) k.order ts) (without (steps s) l.order ts) k.there l.there
    (orders_agree (steps s) base have (lawful.steps_are_reversible s base (from_start log s w ts h)) w ts k.order l.order (is_run log s w ts h) k.allowed l.allowed (λ x. (forth x, back x)))
    (without_alike (steps s) base have k.order l.order ts forth back)

-- ---- rollbacks

pub rollback_is_exact : laws.RollbackIsExact
rollback_is_exact log name undone legal a =
    let s = setting_of log in
    let w = world_of log in
    let ts = past_of log in
    let h = legal_stands log legal in
    let base = base_of log in
    let have = steps_have_names s base (from_start log s w ts h) in
    let k = plan_said log s w ts h name undone a in
    let all = consequences (steps s) ts k.step.step in
    let own = once log s w ts h in
    let same_consequences : all ≡ consequences_of log name = sym (consequences_there log s w ts h name ∙ after_same s (moved name) k.step.step ts (sym k.named)) in
    let rolled = stands_rolled log s w ts name undone k.step h k.stood k.named in
    let one = allowed_is_taken (reverse all) log s w ts legal h (after_allowed (steps s) base have ts k.step own k.stood) in
    record {
      taken = k.step;
      named = k.fact;
      stood = k.stood;
      least = subst (IsLeast (steps s) ts k.step) same_consequences (least_of (steps s) base have ts k.step own k.stood);
      rest = past_there (appended log (Rollback name undone)) s _ _ rolled ∙ ap (λ (l : List TakenStep). without (steps s) l ts) same_consequences;
      after = one.after;
      one_by_one = ap (order_answer log) k.names ∙ one.taken;
      same = leaves_same one.after (appended log (Rollback name undone)) s _ _ (without (steps s) (reverse all) ts) (without (steps s) all ts) one.there rolled refl
          (without_alike (steps s) base have (reverse all) all ts (λ x i. reverse-In x all i) (λ x i. In-reverse x all i));
    }
