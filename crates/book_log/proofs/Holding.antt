-- What is left of a hold, and what becomes of it with each entry.
use Rattle.std.proofs.Common.{◌≡◌, ◌+◌, arith, Bool, true, false, cond, List, [], ◌∷◌, ◌++◌, append_assoc, length, refl, ap, ap₂, sym, subst, ◌∙◌, inl, inr, Option, None, Some}
use Rattle.std.specs.Prelude.{◌||◌, ℕ, IsSome, not, filter, reverse, is_some}
use Rattle.std.specs.List.{list_any}
use Rattle.std.proofs.lemmas.List.{append-nil}
use Rattle.std.proofs.lemmas.Option.{same_Some}
use Rattle.step_names.specs.declared.step.StepName.{StepName}
use Rattle.trace_theory.specs.Traces.{In, names_of, consequences, consequences_from, without, is_among, IsMaximal, IsBackwardOrder}
use Rattle.trace_theory.proofs.Arranged.{named_place, In-names}
use Rattle.trace_theory.proofs.Least.{Once, Once-filter, consequences-in, consequences-more, after_at, one_step}
use Rattle.trace_theory.proofs.Lists.{by_bool, place, here, In-front, In-filter, In-kept, In-reverse, reverse-In, any_none, none_any, any_one, one_any, filter-same}
use Rattle.trace_theory.proofs.Orders.{without_none, without_more, without_alike, orders_hold_after, consequences-without, last_is_free, only_itself, after_allowed}
use Rattle.depends.specs.Steps.{Step, started, moved, name_of, start_name}
use Rattle.depends.specs.World.{Setting, World, is_same_step}
use Rattle.depends.specs.Fact.{Fact}
use Rattle.depends.specs.Dependence.{depends_directly}
use Rattle.depends.specs.Instance.{TakenStep, steps, taken_in}
use Rattle.depends.specs.Laws.{facts_of}
use Rattle.depends.proofs.Named.{steps_have_names}
use Rattle.book_log.specs.Answers.{from_step, remains, needed_left}
use Rattle.book_log.specs.Laws.{LeftIsAfter, HoldsStand, lowered_by, entries_lowered, IsHeldThroughout, HoldsAreShared}
use Rattle.book_log.specs.Legal.{IsAccepted, GoesOnLegally, IsLegal}
use Rattle.book_log.specs.Log.{Log, appended, base_of, remaining, step_on_hold, while_in, left_by, left_in, left_of, steps_but, rolled_back, consequences_of, remainder, setting_of, world_of, past_of, after_entry}
use Rattle.book_log.specs.declared.begin.Begin.{Begin}
use Rattle.book_log.specs.declared.entry.Entry.{Entry}
use Rattle.book_log.specs.declared.entry.Entry.TheVariants.{Define, Start, Step as Stepped, Undo, Rollback, Settle, Hold}
use Rattle.book_log.proofs.Standing.{StandsAt, step_same, step_itself, after_same, from_start, past_there, names_there, is_run, fact_named, consequences_there, steps_next, knowing, stands_defined, stands_started, stands_moved, stands_undone, stands_rolled, stands_held, rolled_there}
use Rattle.book_log.proofs.Answered.{found_by, none_found, once, undo_said, free_undone}
use Rattle.book_log.proofs.HoldSaid.{held_next, hold_said, nothing_left}
use Rattle.book_log.proofs.LegalRuns.{of_log, of_legal, accepted_is_legal, legal_stands, plan_said}
use Rattle.book_log.proofs.Settling.{settle_free}
use Rattle.book_log.proofs.StartsNeedNone.{start_needs}
use Rattle.book_log.proofs.Taking.{start_said, step_said}

-- ---- the held step remains

-- some step has this name
abbrev pub HasName : StepName → List Step → Type 0
HasName name ss = (step : Step) × In step ss × (name_of step ≡ name)

pub has_name : (name : StepName) (ss : List Step) → list_any (λ s. is_same_step name (name_of s)) ss ≡ true → HasName name ss
has_name name ss k = let r = one_any (λ (s : Step). is_same_step name (name_of s)) ss k in (r.0, r.1, sym (step_same name (name_of r.0) r.2))

pub name_there : (name : StepName) (ss : List Step) → HasName name ss → list_any (λ s. is_same_step name (name_of s)) ss ≡ true
name_there name ss h = any_one (λ (s : Step). is_same_step name (name_of s)) ss h.0 h.1 (ap (is_same_step name) h.2 ∙ step_itself name)

while_split : (b : Bool) (name other : StepName) → cond b (Some name) None ≡ Some other → (b ≡ true) × (name ≡ other)
while_split true name other h = (refl, same_Some name other h)
while_split false name other h = cc

pub while_said : (ss : List Step) (o : Option StepName) (name : StepName) → while_in ss o ≡ Some name → (o ≡ Some name) × HasName name ss
while_said ss None name h = cc
while_said ss (Some n) name h =
    let k = while_split (list_any (λ (s : Step). is_same_step n (name_of s)) ss) n name h in
    (ap Some k.1, subst (λ (x : StepName). HasName x ss) k.1 (has_name n ss k.0))

abbrev pub HoldRemains : Log → Type 0
HoldRemains log = (name : StepName) → step_on_hold log ≡ Some name → HasName name (remaining log)

still : (log : Log) (e : Entry) → (after_entry log.begin (remainder log) e).held ≡ step_on_hold log → ((x : Step) → In x (remaining log) → In x (remaining (appended log e))) → HoldRemains log → HoldRemains (appended log e)
still log e same kept p name h = let r = p name (sym same ∙ sym (held_next log e) ∙ h) in (r.0, kept r.0 r.1, r.2)

same_steps : (log : Log) (e : Entry) → remaining (appended log e) ≡ remaining log → (x : Step) → In x (remaining log) → In x (remaining (appended log e))
same_steps log e same x i = subst (In x) (sym same) i

one_step_more : (log : Log) (e : Entry) (step : Step) → remaining (appended log e) ≡ remaining log ++ step ∷ [] → (x : Step) → In x (remaining log) → In x (remaining (appended log e))
one_step_more log e step same x i = subst (In x) (sym same) (In-front x (remaining log) (step ∷ []) i)

fewer : (log : Log) (e : Entry) (ss : List Step) → (after_entry log.begin (remainder log) e).held ≡ while_in ss (step_on_hold log) → remaining (appended log e) ≡ ss → HoldRemains (appended log e)
fewer log e ss while same name h = subst (HasName name) (sym same) (while_said ss (step_on_hold log) name (sym while ∙ sym (held_next log e) ∙ h)).1

-- ---- a step that remains

found_there : (o : Option (Fact × List Fact)) → is_some o ≡ true → (p : Fact × List Fact) × (o ≡ Some p)
found_there None h = cc
found_there (Some p) h = (p, refl)

-- a step that remains under a name
remains_named : (log : Log) (s : Setting) (w : World) (ts : List TakenStep) (h : StandsAt log s w ts) (name : StepName) → remains log name ≡ true → (t : TakenStep) × In t ts × (name_of t.step ≡ name)
remains_named log s w ts h name r =
    let p = found_there (from_step name (facts_of (past_of log))) r in
    let g = found_by name ts p.0.0 p.0.1 (ap (λ (l : List TakenStep). from_step name (facts_of l)) (sym (past_there log s w ts h)) ∙ p.1) in
    let there : In g.step ts = subst (In g.step) (sym g.whole) (here g.step g.front g.back) in
    (g.step, there, sym (fact_named log s w ts h g.step there) ∙ ap (λ (x : Fact). x.name) g.fact ∙ sym g.named)

hold_next : (log : Log) (e : Entry) → IsLegal log → HoldRemains log → IsAccepted log e → HoldRemains (appended log e)
hold_next log (Define name machine) legal p a = still log (Define name machine) refl (same_steps log (Define name machine) (steps_next log (Define name machine))) p
hold_next log (Start exec machine input) legal p a = still log (Start exec machine input) refl (one_step_more log (Start exec machine input) (started exec.exec machine input) (steps_next log (Start exec machine input))) p
hold_next log (Stepped name kind) legal p a = still log (Stepped name kind) refl (one_step_more log (Stepped name kind) (moved name) (steps_next log (Stepped name kind))) p
hold_next log (Undo name) legal p a = fewer log (Undo name) (steps_but name (remaining log)) refl (steps_next log (Undo name))
hold_next log (Rollback name undone) legal p a = fewer log (Rollback name undone) (rolled_back log.begin (remainder log) name) refl (steps_next log (Rollback name undone))
hold_next log Settle legal p a = λ name h. let e : None ≡ Some name = sym (held_next log Settle) ∙ h in cc
hold_next log (Hold name count) legal p a = λ n h.
    let k = remains_named log (setting_of log) (world_of log) (past_of log) (legal_stands log legal) name (hold_said log name count a).0 in
    let same : name ≡ n = same_Some name n (sym (held_next log (Hold name count)) ∙ h) in
    let inside : In k.0.step (remaining log) = subst (In k.0.step) (names_there log (setting_of log) (world_of log) (past_of log) (legal_stands log legal))
    (In-names (steps (setting_of log)) (base_of log) (steps_have_names (setting_of log) (base_of log) (from_start log (setting_of log) (world_of log) (past_of log) (legal_stands log legal))) k.0 (past_of log) k.1) in
    (k.0.step, subst (In k.0.step) (sym (steps_next log (Hold name count))) inside, k.2 ∙ same)

none_held : (begin : Begin) → HoldRemains (of_log begin [])
unfolding remainder
none_held begin name h = cc

pub hold_remains : (log : Log) → IsLegal log → HoldRemains log
hold_remains log legal = of_legal HoldRemains (λ begin fine. none_held begin) hold_next log legal

-- ---- what is left, where a log stands

pub left_there : (log : Log) (s : Setting) (w : World) (ts : List TakenStep) → StandsAt log s w ts → left_of log ≡ left_by s ts (step_on_hold log)
unfolding left_in
left_there log s w ts h = ap₂ (λ (x : Setting) (l : List TakenStep). left_by x l (step_on_hold log)) h.setting (past_there log s w ts h)

-- consequences don't hang on the machines
following_set : (s u : Setting) (marked ts : List TakenStep) → consequences_from (steps s) marked ts ≡ consequences_from (steps u) marked ts
following_set s u marked [] = refl
following_set s u marked (t ∷ ts) =
    by_bool (list_any (λ (x : TakenStep). depends_directly x.fact t.fact) marked) _
    (λ k. rw k (ap (λ (l : List TakenStep). t ∷ l) (following_set s u (marked ++ t ∷ []) ts)))
    (λ k. rw k (following_set s u marked ts))

after_set : (s u : Setting) (ts : List TakenStep) (n : Step) → consequences (steps s) ts n ≡ consequences (steps u) ts n
after_set s u [] n = refl
after_set s u (t ∷ ts) n =
    by_bool (is_same_step (name_of n) (name_of t.step)) _
    (λ k. rw k (ap (λ (l : List TakenStep). t ∷ l) (following_set s u (t ∷ []) ts)))
    (λ k. rw k (after_set s u ts n))

left_set : (s u : Setting) (ts : List TakenStep) (o : Option StepName) → left_by s ts o ≡ left_by u ts o
left_set s u ts None = refl
left_set s u ts (Some name) = after_set s u ts (moved name)

-- the steps of such a list that are of these names stand among them
abbrev IsIn : List TakenStep → Option StepName → Type 0
IsIn ts o = (name : StepName) → o ≡ Some name → (t : TakenStep) × In t ts × (name_of t.step ≡ name)

module _ (log : Log) (s : Setting) (w : World) (ts : List TakenStep) (h : StandsAt log s w ts) where
  -- the held step stands in the past
  pub held_in : HoldRemains log → IsIn ts (step_on_hold log)
  held_in p name e =
      let r = p name e in
      let have = steps_have_names s (base_of log) (from_start log s w ts h) in
      let q = named_place (steps s) (base_of log) have r.0 ts (subst (In r.0) (sym (names_there log s w ts h)) r.1) in
      (q.step, subst (In q.step) (sym q.whole) (here q.step q.front q.back), ap name_of q.named ∙ r.2)

  one_more_left : (t : TakenStep) (o : Option StepName) → IsIn ts o → ((x : TakenStep) → In x (left_by s ts o) → depends_directly x.fact t.fact ≡ false) → left_by s (ts ++ t ∷ []) o ≡ left_by s ts o
  one_more_left t None p none = refl
  one_more_left t (Some name) p none =
      let r = p name refl in
      let have = steps_have_names s (base_of log) (from_start log s w ts h) in
      let own = after_same s (moved name) r.0.step ts (sym r.2) in
      after_same s (moved name) r.0.step (ts ++ t ∷ []) (sym r.2)
      ∙ consequences-more (steps s) (base_of log) have ts r.0 t (once log s w ts h) r.1 (λ x i. none x (subst (In x) (sym own) i))
      ∙ sym own

  -- ---- a step is undone

  not_itself : (t : TakenStep) → without (steps s) (t ∷ []) (t ∷ []) ≡ []
  not_itself t = let k = step_itself (name_of t.step) in rw k refl

  while_gone : (name : StepName) (ss : List Step) → while_in (steps_but name ss) (Some name) ≡ None
  while_gone name ss =
      let k = none_any (λ (x : Step). is_same_step name (name_of x)) (steps_but name ss) (λ x i. by_bool (is_same_step name (name_of x)) _ (λ j. let r = (In-filter (λ (y : Step). not (is_same_step name (name_of y))) ss x i).1 in let e = rw j at r in cc) (λ j. j)) in
      rw k refl

  while_stays : (name n : StepName) (ss : List Step) → HasName n ss → is_same_step name n ≡ false → while_in (steps_but name ss) (Some n) ≡ Some n
  while_stays name n ss p other =
      let k = name_there n (steps_but name ss) (p.0, In-kept (λ (y : Step). not (is_same_step name (name_of y))) ss p.0 p.1 (ap not (ap (is_same_step name) p.2 ∙ other)), p.2) in
      rw k refl

  undone_left : (t : TakenStep) (name : StepName) (o : Option StepName) → IsMaximal (steps s) ts t → name_of t.step ≡ name → IsIn ts o → ((n : StepName) → o ≡ Some n → HasName n (remaining log))
      → left_by s (without (steps s) (t ∷ []) ts) (while_in (steps_but name (remaining log)) o) ≡ without (steps s) (t ∷ []) (left_by s ts o)
  undone_left t name None free named p q = refl
  undone_left t name (Some n) free named p q =
      let have = steps_have_names s (base_of log) (from_start log s w ts h) in
      by_bool (is_same_step name n) _
      (λ k.
      let same : name ≡ n = step_same name n k in
      let gone : while_in (steps_but name (remaining log)) (Some n) ≡ None = ap (λ (x : StepName). while_in (steps_but name (remaining log)) (Some x)) (sym same) ∙ while_gone name (remaining log) in
      let own : consequences (steps s) ts (moved n) ≡ t ∷ [] = after_same s (moved n) t.step ts (sym same ∙ sym named) ∙ only_itself (steps s) (base_of log) have ts t (once log s w ts h) free in
      ap (left_by s (without (steps s) (t ∷ []) ts)) gone ∙ sym (ap (without (steps s) (t ∷ [])) own ∙ not_itself t))
      (λ k.
      let stay = while_stays name n (remaining log) (q n refl) k in
      let other : is_same_step n (name_of t.step) ≡ false = by_bool (is_same_step n (name_of t.step)) _ (λ j. let e : n ≡ name = step_same n (name_of t.step) j ∙ named in let f = ap (is_same_step name) e ∙ step_itself name in let g = sym k ∙ f in cc) (λ j. j) in
      ap (left_by s (without (steps s) (t ∷ []) ts)) stay ∙ consequences-without (steps s) (base_of log) have ts t (moved n) (once log s w ts h) free other)

  -- ---- a step is rolled back

  after_order : (n : Step) (xs us : List TakenStep) → Once (steps s) (base_of log) (steps_have_names s (base_of log) (from_start log s w ts h)) us → IsBackwardOrder (steps s) us xs → ((x : TakenStep) → In x xs → is_same_step (name_of n) (name_of x.step) ≡ false)
      → consequences (steps s) (without (steps s) xs us) n ≡ without (steps s) xs (consequences (steps s) us n)
  after_order n [] us one a none =
      let have = steps_have_names s (base_of log) (from_start log s w ts h) in
      ap (λ (l : List TakenStep). consequences (steps s) l n) (without_none (steps s) (base_of log) have us) ∙ sym (without_none (steps s) (base_of log) have (consequences (steps s) us n))
  after_order n (x ∷ xs) us one a none =
      let have = steps_have_names s (base_of log) (from_start log s w ts h) in
      ap (λ (l : List TakenStep). consequences (steps s) l n) (sym (without_more (steps s) (base_of log) have x xs us))
      ∙ after_order n xs (without (steps s) (x ∷ []) us) (Once-filter (steps s) (base_of log) have _ us one) a.1 (λ y i. none y (inr i))
      ∙ ap (without (steps s) xs) (consequences-without (steps s) (base_of log) have us x n one a.0 (none x (inl refl)))
      ∙ without_more (steps s) (base_of log) have x xs (consequences (steps s) us n)

  none_without : (xs ys : List TakenStep) → ((y : TakenStep) → In y ys → In y xs) → without (steps s) xs ys ≡ []
  none_without xs [] inside = refl
  none_without xs (y ∷ ys) inside =
      let k = any_one (λ (x : TakenStep). is_same_step (name_of x.step) (name_of y.step)) xs y (inside y (inl refl)) (step_itself (name_of y.step)) in
      rw k (none_without xs ys (λ z i. inside z (inr i)))

  -- where the held step is not taken back, it stays
  rolled_stays : (t x : TakenStep) (n : StepName) → In t ts → In x ts → name_of x.step ≡ n → list_any (λ (y : Step). is_same_step n (name_of y)) (names_of (steps s) (without (steps s) (consequences (steps s) ts t.step) ts)) ≡ true
      → left_by s (without (steps s) (consequences (steps s) ts t.step) ts) (Some n) ≡ without (steps s) (consequences (steps s) ts t.step) (consequences (steps s) ts (moved n))
  rolled_stays t x n i j named there =
      let all = consequences (steps s) ts t.step in
      let have = steps_have_names s (base_of log) (from_start log s w ts h) in
      let one = once log s w ts h in
      let allowed = after_allowed (steps s) (base_of log) have ts t one i in
      let same = without_alike (steps s) (base_of log) have (reverse all) all in
      let forth : (y : TakenStep) → In y (reverse all) → In y all = λ y k. reverse-In y all k in
      let back : (y : TakenStep) → In y all → In y (reverse all) = λ y k. In-reverse y all k in
      let r = has_name n (names_of (steps s) (without (steps s) all ts)) there in
      let q = named_place (steps s) (base_of log) have r.0 (without (steps s) all ts) r.1 in
      let inside : In q.step (without (steps s) all ts) = subst (In q.step) (sym q.whole) (here q.step q.front q.back) in
      let kept = In-filter (λ (y : TakenStep). not (is_among (steps s) all y)) ts q.step inside in
      let own : name_of q.step.step ≡ n = ap name_of q.named ∙ r.2 in
      let none : (y : TakenStep) → In y (reverse all) → is_same_step n (name_of y.step) ≡ false = λ y k.
      by_bool (is_same_step n (name_of y.step)) _
      (λ e.
      let f : is_same_step (name_of y.step) (name_of q.step.step) ≡ true = ap₂ (λ (a b : StepName). is_same_step a b) (sym (step_same n (name_of y.step) e)) own ∙ step_itself n in
      let g = any_one (λ (z : TakenStep). is_same_step (name_of z.step) (name_of q.step.step)) all y (forth y k) f in
      let m = kept.1 in
      let c = rw g at m in
      cc)
      (λ e. e) in
      ap (λ (l : List TakenStep). consequences (steps s) l (moved n)) (sym (same ts forth back))
      ∙ after_order (moved n) (reverse all) ts one allowed none
      ∙ same (consequences (steps s) ts (moved n)) forth back

  -- and where it is taken back, so is all that is left
  rolled_gone : (t x : TakenStep) (n : StepName) → In t ts → In x ts → name_of x.step ≡ n → list_any (λ (y : Step). is_same_step n (name_of y)) (names_of (steps s) (without (steps s) (consequences (steps s) ts t.step) ts)) ≡ false
      → [] ≡ without (steps s) (consequences (steps s) ts t.step) (consequences (steps s) ts (moved n))
  rolled_gone t x n i j named none =
      let all = consequences (steps s) ts t.step in
      let have = steps_have_names s (base_of log) (from_start log s w ts h) in
      let one = once log s w ts h in
      let allowed = after_allowed (steps s) (base_of log) have ts t one i in
      let among : is_among (steps s) all x ≡ true = by_bool (is_among (steps s) all x) _ (λ k. k) (λ k.
      let kept = In-kept (λ (y : TakenStep). not (is_among (steps s) all y)) ts x j (ap not k) in
      let f = name_there n (names_of (steps s) (without (steps s) all ts)) (x.step, In-names (steps s) (base_of log) have x (without (steps s) all ts) kept, named) in
      let g = sym none ∙ f in
      cc) in
      let y = one_any (λ (z : TakenStep). is_same_step (name_of z.step) (name_of x.step)) all among in
      let there : In y.0 ts = consequences-in (steps s) (base_of log) have ts t.step y.0 y.1 in
      let is : y.0 ≡ x = one_step (steps s) (base_of log) have ts one y.0 x there j y.2 in
      let inside : In x all = subst (λ (z : TakenStep). In z all) is y.1 in
      sym (ap (without (steps s) all) (after_same s (moved n) x.step ts (sym named))
      ∙ none_without all (consequences (steps s) ts x.step) (λ z k. reverse-In z all (orders_hold_after (steps s) (base_of log) have w ts (reverse all) x z (is_run log s w ts h) allowed (In-reverse x all inside) k)))

  rolled_left : (t : TakenStep) (o : Option StepName) → In t ts → IsIn ts o
      → left_by s (without (steps s) (consequences (steps s) ts t.step) ts) (while_in (names_of (steps s) (without (steps s) (consequences (steps s) ts t.step) ts)) o) ≡ without (steps s) (consequences (steps s) ts t.step) (left_by s ts o)
  rolled_left t None i p = refl
  rolled_left t (Some n) i p =
      let x = p n refl in
      let all = consequences (steps s) ts t.step in
      by_bool (list_any (λ (y : Step). is_same_step n (name_of y)) (names_of (steps s) (without (steps s) all ts))) _
      (λ k. rw k (rolled_stays t x.0 n i x.1 x.2 k))
      (λ k. rw k (rolled_gone t x.0 n i x.1 x.2 k))

  -- ---- all that is left remains

  pub left_inside : (o : Option StepName) (x : TakenStep) → In x (left_by s ts o) → In x ts
  left_inside None x i = absurd i
  left_inside (Some name) x i = consequences-in (steps s) (base_of log) (steps_have_names s (base_of log) (from_start log s w ts h)) ts (moved name) x i

  -- a step that needs nothing that is left
  unneeded : (f : Fact) → needed_left log f ≡ None → (x : TakenStep) → In x (left_by s ts (step_on_hold log)) → depends_directly x.fact f ≡ false
  unneeded f none x i =
      let own = left_there log s w ts h in
      any_none (λ (y : TakenStep). depends_directly y.fact f) (left_of log) (none_found (λ (y : Fact). depends_directly y f) (left_of log) none) x (subst (In x) (sym own) i)

  -- the same as far as the name says it
  or_same : (b : Bool) → (b || false) ≡ b
  or_same true = refl
  or_same false = refl

  pub without_named : (t : TakenStep) (name : StepName) (xs : List TakenStep) → name_of t.step ≡ name → without (steps s) (t ∷ []) xs ≡ filter (λ x. not (is_same_step name (name_of x.step))) xs
  without_named t name xs e =
      filter-same (λ (x : TakenStep). not (is_same_step (name_of t.step) (name_of x.step) || false)) (λ (x : TakenStep). not (is_same_step name (name_of x.step))) xs
      (λ x i. ap not (or_same (is_same_step (name_of t.step) (name_of x.step)) ∙ ap (λ (n : StepName). is_same_step n (name_of x.step)) e))

-- ---- after one more entry

pub left_is_after : LeftIsAfter
left_is_after log (Define name machine) legal a =
    let s = setting_of log in
    let w = world_of log in
    let ts = past_of log in
    let h = legal_stands log legal in
    let u = knowing s name machine in
    left_there (appended log (Define name machine)) u w ts (stands_defined log s w ts name machine h a.0)
    ∙ ap (left_by u ts) (held_next log (Define name machine)) ∙ left_set u s ts (step_on_hold log) ∙ sym (left_there log s w ts h)
left_is_after log (Start exec machine input) legal a =
    let s = setting_of log in
    let w = world_of log in
    let ts = past_of log in
    let h = legal_stands log legal in
    let can = start_said log s w ts h exec machine input (start_name exec.exec) a.0 a.1 in
    let t = taken_in w (started exec.exec machine input) can.fact in
    left_there (appended log (Start exec machine input)) s can.after (ts ++ t ∷ []) (stands_started log s w can.after ts exec machine input can.fact h can.takes)
    ∙ ap (left_by s (ts ++ t ∷ [])) (held_next log (Start exec machine input))
    ∙ one_more_left log s w ts h t (step_on_hold log) (held_in log s w ts h (hold_remains log legal)) (λ x i. start_needs log s w can.after ts h exec.exec machine input can.fact can.takes x (left_inside log s w ts h (step_on_hold log) x i))
    ∙ sym (left_there log s w ts h)
left_is_after log (Stepped name kind) legal a =
    let s = setting_of log in
    let w = world_of log in
    let ts = past_of log in
    let h = legal_stands log legal in
    let said = step_said log s w ts h name.thread (record { name = name; kind = kind }) a refl in
    let can = said.0 in
    let t = taken_in w (moved name) can.fact in
    left_there (appended log (Stepped name kind)) s can.after (ts ++ t ∷ []) (stands_moved log s w can.after ts name kind can.fact h can.takes)
    ∙ ap (left_by s (ts ++ t ∷ [])) (held_next log (Stepped name kind))
    ∙ one_more_left log s w ts h t (step_on_hold log) (held_in log s w ts h (hold_remains log legal)) (unneeded log s w ts h can.fact said.2)
    ∙ sym (left_there log s w ts h)
left_is_after log (Undo name) legal a =
    let s = setting_of log in
    let w = world_of log in
    let ts = past_of log in
    let h = legal_stands log legal in
    let k = (undo_said log s w ts h name name a).0 in
    left_there (appended log (Undo name)) s _ (without (steps s) (k.step ∷ []) ts) (stands_undone log s w ts name k.step h k.free k.named)
    ∙ ap (left_by s (without (steps s) (k.step ∷ []) ts)) (held_next log (Undo name))
    ∙ undone_left log s w ts h k.step name (step_on_hold log) k.free k.named (held_in log s w ts h (hold_remains log legal)) (hold_remains log legal)
    ∙ without_named log s w ts h k.step name (left_by s ts (step_on_hold log)) k.named
    ∙ ap (filter (λ (x : TakenStep). not (is_same_step name (name_of x.step)))) (sym (left_there log s w ts h))
left_is_after log (Rollback name undone) legal a =
    let s = setting_of log in
    let w = world_of log in
    let ts = past_of log in
    let h = legal_stands log legal in
    let k = plan_said log s w ts h name undone a in
    let all = consequences (steps s) ts k.step.step in
    let own : consequences (steps s) ts (moved name) ≡ all = after_same s (moved name) k.step.step ts (sym k.named) in
    let gone : rolled_back log.begin (remainder log) name ≡ names_of (steps s) (without (steps s) all ts) =
    rolled_there log s w ts name h ∙ ap (λ (l : List TakenStep). names_of (steps s) (without (steps s) l ts)) own in
    left_there (appended log (Rollback name undone)) s _ (without (steps s) all ts) (stands_rolled log s w ts name undone k.step h k.stood k.named)
    ∙ ap (left_by s (without (steps s) all ts)) (held_next log (Rollback name undone) ∙ ap (λ (l : List Step). while_in l (step_on_hold log)) gone)
    ∙ rolled_left log s w ts h k.step (step_on_hold log) k.stood (held_in log s w ts h (hold_remains log legal))
    ∙ ap₂ (λ (x y : List TakenStep). without (steps s) x y) (sym (consequences_there log s w ts h name ∙ own)) (sym (left_there log s w ts h))
left_is_after log Settle legal a = nothing_left (appended log Settle) (held_next log Settle)
left_is_after log (Hold name count) legal a =
    let s = setting_of log in
    let w = world_of log in
    let ts = past_of log in
    let h = legal_stands log legal in
    left_there (appended log (Hold name count)) s w ts (stands_held log s w ts name count h) ∙ ap (left_by s ts) (held_next log (Hold name count)) ∙ sym (consequences_there log s w ts h name)

-- ---- a hold that stands

pub holds_stand : HoldsStand
holds_stand log name legal e =
    let s = setting_of log in
    let w = world_of log in
    let ts = past_of log in
    let h = legal_stands log legal in
    let have = steps_have_names s (base_of log) (from_start log s w ts h) in
    let one = once log s w ts h in
    let x = held_in log s w ts h (hold_remains log legal) name e in
    let t = x.0 in
    let p = place t ts x.1 in
    let left : left_of log ≡ consequences (steps s) ts (moved name) = left_there log s w ts h ∙ ap (left_by s ts) e in
    record {
      step = t;
      named = fact_named log s w ts h t x.1 ∙ x.2;
      later = consequences_from (steps s) (t ∷ []) p.back;
      left = left ∙ after_same s (moved name) t.step ts (sym x.2) ∙ ap (λ (l : List TakenStep). consequences (steps s) l t.step) p.whole
          ∙ after_at (steps s) (base_of log) have p.front p.back t (subst (Once (steps s) (base_of log) have) p.whole one);
      inside = λ y i. consequences-in (steps s) (base_of log) have ts (moved name) y (subst (In y) left i);
      latest = λ front y is.
          let free = last_is_free (steps s) (base_of log) have ts front (moved name) y one (sym left ∙ is) in
          free_undone log s w ts h y y.fact.name free (sym (fact_named log s w ts h y free.0));
    }

-- ---- a hold is over after so many undoings

filter_parts : {A : Type 0} (p : A → Bool) (xs : List A) → length (filter (λ x. not (p x)) xs) + length (filter p xs) ≡ length xs
filter_parts p [] = refl
filter_parts p (x ∷ xs) =
    let rest = filter_parts p xs in
    by_bool (p x) _ (λ k. rw k (omega (arith, rest))) (λ k. rw k (omega (arith, rest)))

abbrev Shrinks : Log → Entry → Type 0
Shrinks log e = (length (left_of (appended log e)) + lowered_by log e ≡ length (left_of log)) × ((x : TakenStep) → In x (left_of (appended log e)) → In x (left_of log))

as_it_was : (log : Log) (e : Entry) → left_of (appended log e) ≡ left_of log → lowered_by log e ≡ 0 → Shrinks log e
as_it_was log e same zero =
    let l = ap length same in
    (omega (arith, l, zero), λ x i. subst (In x) same i)

but_these : (log : Log) (e : Entry) (p : TakenStep → Bool) → left_of (appended log e) ≡ filter (λ x. not (p x)) (left_of log) → lowered_by log e ≡ length (filter p (left_of log)) → Shrinks log e
but_these log e p same many =
    let l = ap length same in
    let k = filter_parts p (left_of log) in
    (omega (arith, l, many, k), λ x i. (In-filter (λ (y : TakenStep). not (p y)) (left_of log) x (subst (In x) same i)).0)

never : (o : Option StepName) → o ≡ None → IsSome o → ⊥
never None e h = cc
never (Some name) e h = cc

shrinks : (log : Log) (e : Entry) → IsLegal log → IsAccepted log e → IsSome (step_on_hold log) → Shrinks log e
shrinks log (Define name machine) legal a h = as_it_was log (Define name machine) (left_is_after log (Define name machine) legal a) refl
shrinks log (Start exec machine input) legal a h = as_it_was log (Start exec machine input) (left_is_after log (Start exec machine input) legal a) refl
shrinks log (Stepped name kind) legal a h = as_it_was log (Stepped name kind) (left_is_after log (Stepped name kind) legal a) refl
shrinks log (Undo name) legal a h = but_these log (Undo name) (λ x. is_same_step name (name_of x.step)) (left_is_after log (Undo name) legal a) refl
shrinks log (Rollback name undone) legal a h =
    but_these log (Rollback name undone) (is_among (steps (setting_of log)) (consequences_of log name)) (left_is_after log (Rollback name undone) legal a) refl
shrinks log Settle legal a h = absurd (never (step_on_hold log) (settle_free log a) h)
shrinks log (Hold name count) legal a h = absurd (never (step_on_hold log) (hold_said log name count a).1 h)

abbrev more : Log → List Entry → Log
more log entries = record { begin = log.begin; entries = log.entries ++ entries }

shared_along : (entries : List Entry) (log : Log) → IsLegal log → GoesOnLegally log entries → IsHeldThroughout log entries
    → (length (left_of (more log entries)) + entries_lowered log entries ≡ length (left_of log)) × ((x : TakenStep) → In x (left_of (more log entries)) → In x (left_of log))
shared_along [] log legal goes holds =
    let same = ap (λ (l : List Entry). left_of (record { begin = log.begin; entries = l })) (append-nil log.entries) in
    let l = ap length same in
    (omega (arith, l), λ x i. subst (In x) same i)
shared_along (e ∷ entries) log legal goes holds =
    let one = shrinks log e legal goes.0 holds.0 in
    let rest = shared_along entries (appended log e) (accepted_is_legal log e legal goes.0) goes.1 holds.1 in
    let same = ap (λ (l : List Entry). left_of (record { begin = log.begin; entries = l })) (append_assoc log.entries (e ∷ []) entries) in
    let l = ap length same in
    let a = one.0 in
    let b = rest.0 in
    (omega (arith, l, a, b), λ x i. one.1 x (rest.1 x (subst (In x) (sym same) i)))

pub holds_are_shared : HoldsAreShared
holds_are_shared log name count entries legal a goes holds =
    let start = appended log (Hold name count) in
    let k = shared_along entries start (accepted_is_legal log (Hold name count) legal a) goes holds in
    let l = ap length (left_is_after log (Hold name count) legal a) in
    let n = (hold_said log name count a).3 in
    let b = k.0 in
    record { counted = omega (arith, l, n, b); inside = k.1 }
