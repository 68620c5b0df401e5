-- Steps taken again, one after another, are what a rerun answers.
use Rattle.std.proofs.Common.{◌≡◌, ◌<◌, ◌+◌, arith, ℕ, List, [], ◌∷◌, ◌++◌, drop, get_or, length, map, take, zero, suc, append_assoc, refl, ap, ap₂, sym, subst, ◌∙◌, inl, inr, Option, None, Some, Result, Ok, Err}
use Rattle.std.specs.Prelude.{◌⊎◌, option_map, option_and_then}
use Rattle.std.proofs.lemmas.List.{append-nil, map-append}
use Rattle.std.proofs.lemmas.Option.{same_Some}
use Rattle.asl_tree.specs.Definition.{Definition}
use Rattle.step_names.specs.Thread.{execution}
use Rattle.step_names.specs.declared.step.StepName.{StepName}
use Rattle.trace_theory.specs.Traces.{run}
use Rattle.trace_theory.proofs.Records.{run_then}
use Rattle.trace_theory.proofs.Runs.{and_then_some, map_some}
use Rattle.saved_steps.specs.Run.{take_step}
use Rattle.saved_steps.specs.Steps.{Step, started, moved, start_name}
use Rattle.saved_steps.specs.World.{Setting, World}
use Rattle.saved_steps.specs.declared.fact.Fact.{Fact}
use Rattle.saved_steps.specs.declared.fact.Kind.{Kind}
use Rattle.depends.specs.Instance.{steps}
use Rattle.step_history.specs.History.{TakenStep, taken_in}
use Rattle.book_log.specs.Answers.{outline, entry_for, entry_of, or_no_step, rerun_answer, replayed, step_named, steps_named}
use Rattle.book_log.specs.Legal.{GoesOnLegally, IsAccepted, IsLegal}
use Rattle.book_log.specs.Log.{Log, appended, base_of, remaining, setting_of, past_of, world_of}
use Rattle.book_log.specs.declared.begin.Begin.{Begin}
use Rattle.book_log.specs.declared.entry.Entry.{Entry}
use Rattle.book_log.specs.declared.entry.Entry.TheVariants.{Define, Start, Step as Stepped, Undo, Rollback, Settle, Hold}
use Rattle.book_log.specs.declared.refusal.Refusal.{Refusal}
use Rattle.book_log.specs.declared.refusal.Refusal.TheVariants.{NoStep, Memory}
use Rattle.book_log.proofs.LegalRuns.{of_log, legal_logs_run, legal_stands}
use Rattle.book_log.proofs.Outlines.{outline_more}
use Rattle.book_log.proofs.Reruns.{legal_defines, named_chosen, rerun_split, reruns_are_exact, reruns_are_legal}
use Rattle.book_log.proofs.Standing.{StandsAt, stands_in}
use Rattle.book_log.proofs.Taking.{start_said, step_said}
use Rattle.rollback_book.specs.Rerunning.{CanRetake, IsRetaken, MayDefine, Retakes}

-- ---- legal logs, entry by entry

accepted_in : (entries rest : List Entry) (e : Entry) (before : Log) → GoesOnLegally before (entries ++ e ∷ rest) → IsAccepted (of_log before.begin (before.entries ++ entries)) e
accepted_in [] rest e before h = subst (λ (l : List Entry). IsAccepted (of_log before.begin l) e) (sym (append-nil before.entries)) h.0
accepted_in (x ∷ entries) rest e before h = subst (λ (l : List Entry). IsAccepted (of_log before.begin l) e) (append_assoc before.entries (x ∷ []) entries) (accepted_in entries rest e (appended before x) h.1)

-- an entry of a legal log was accepted at its place
pub legal_entry : (log : Log) (front back : List Entry) (e : Entry) → IsLegal log → log.entries ≡ front ++ e ∷ back → IsAccepted (of_log log.begin front) e
unfolding IsLegal
legal_entry log front back e legal parts = accepted_in front back e (of_log log.begin []) (subst (GoesOnLegally (of_log log.begin [])) parts legal.1)

-- ---- places

-- a list around one of its elements
pub parts_at : {A : Type 0} (xs : List A) (i : ℕ) (x : A) → i < length xs → x ≡ get_or xs i x → xs ≡ take i xs ++ x ∷ drop (suc i) xs
parts_at [] i x h e = absurd (omega (arith, h))
parts_at (y ∷ xs) zero x h e = ap (λ z. z ∷ xs) (sym e)
parts_at (y ∷ xs) (suc i) x h e = ap (λ l. y ∷ l) (parts_at xs i x (omega (arith, h)) e)

-- with one element more
pub take_next : {A : Type 0} (xs : List A) (i : ℕ) (x : A) → i < length xs → x ≡ get_or xs i x → take (i + 1) xs ≡ take i xs ++ x ∷ []
take_next [] i x h e = absurd (omega (arith, h))
take_next (y ∷ xs) zero x h e = ap (λ z. z ∷ []) (sym e)
take_next (y ∷ xs) (suc i) x h e =
    let n : suc i + 1 ≡ suc (i + 1) = omega arith in
    ap (λ k. take k (y ∷ xs)) n ∙ ap (λ l. y ∷ l) (take_next xs i x (omega (arith, h)) e)

-- ---- names

none_after : (o : Option Step) → option_and_then (λ (s : Step). option_map (λ (more : List Step). s ∷ more) None) o ≡ None
none_after None = refl
none_after (Some s) = refl

named_cons : (ss : List Step) (n : StepName) (names : List StepName) (s : Step) (more : List Step) → step_named n ss ≡ Some s → steps_named ss names ≡ Some more → steps_named ss (n ∷ names) ≡ Some (s ∷ more)
named_cons ss n names s more h k = rw (h, k) refl

module _ (ss : List Step) (name : StepName) where
  named_then : (front : List StepName) (chosen : List Step) (s : Step) → steps_named ss front ≡ Some chosen → step_named name ss ≡ Some s → steps_named ss (front ++ name ∷ []) ≡ Some (chosen ++ s ∷ [])
  named_then [] chosen s h k =
      let e : [] ≡ chosen = same_Some _ _ h in
      subst (λ (l : List Step). steps_named ss (name ∷ []) ≡ Some (l ++ s ∷ [])) e (rw k refl)
  named_then (n ∷ front) chosen s h k =
      let a = and_then_some (λ (x : Step). option_map (λ (more : List Step). x ∷ more) (steps_named ss front)) (step_named n ss) chosen h in
      let m = map_some (λ (more : List Step). a.0 ∷ more) (steps_named ss front) chosen a.2 in
      subst (λ (l : List Step). steps_named ss (n ∷ (front ++ name ∷ [])) ≡ Some (l ++ s ∷ [])) m.2
      (named_cons ss n (front ++ name ∷ []) a.0 (m.0 ++ s ∷ []) a.1 (named_then front m.0 s m.1 k))

  named_not : (front : List StepName) → step_named name ss ≡ None → steps_named ss (front ++ name ∷ []) ≡ None
  named_not [] k = rw k refl
  named_not (n ∷ front) k = let rest = named_not front k in rw rest (none_after (step_named n ss))

-- ---- runs

module _ (s : Setting) where
  run_stops : (ns : List Step) (base w : World) (ts : List TakenStep) (n : Step) → run (steps s) base ns ≡ Some (w, ts) → take_step s w n ≡ None → run (steps s) base (ns ++ n ∷ []) ≡ None
  run_stops [] base w ts n h k =
      let e : base ≡ w = ap (λ (p : World × List TakenStep). p.0) (same_Some _ _ h) in
      let here : take_step s base n ≡ None = ap (λ (x : World). take_step s x n) e ∙ k in
      rw here refl
  run_stops (m ∷ ns) base w ts n h k =
      let a = and_then_some _ (take_step s base m) (w, ts) h in
      let b = map_some (λ (q : World × List TakenStep). (q.0, taken_in base m a.0.1 ∷ q.1)) (run (steps s) a.0.0 ns) (w, ts) a.2 in
      let same : b.0.0 ≡ w = ap (λ (p : World × List TakenStep). p.0) b.2 in
      let first = a.1 in
      let rest = run_stops ns a.0.0 b.0.0 b.0.1 n b.1 (ap (λ (x : World). take_step s x n) same ∙ k) in
      rw (first, rest) refl

-- ---- reruns

-- some remaining steps, run from their base
pub record IsTried (log : Log) (names : List StepName) (again : Log) : Type 0 where
  pub chosen : List Step
  pub world : World
  pub past : List TakenStep
  pub named : steps_named (remaining log) names ≡ Some chosen
  pub runs : run (steps (setting_of log)) (base_of log) chosen ≡ Some (world, past)
  pub is : replayed log past ≡ again

pub tried : (log : Log) (names : List StepName) (again : Log) → rerun_answer log names ≡ Ok again → IsTried log names again
unfolding rerun_answer
tried log names again h =
    let o = rerun_split _ again h in
    let p = map_some (λ (q : World × List TakenStep). replayed log q.1) (option_and_then (run (steps (setting_of log)) (base_of log)) (steps_named (remaining log) names)) again o in
    let c = and_then_some (run (steps (setting_of log)) (base_of log)) (steps_named (remaining log) names) p.0 p.1 in
    record { chosen = c.0; world = p.0.0; past = p.0.1; named = c.1; runs = c.2; is = p.2 }

answer_by : (log : Log) (names : List StepName) (chosen : List Step) (o : Option (World × List TakenStep)) → steps_named (remaining log) names ≡ Some chosen → run (steps (setting_of log)) (base_of log) chosen ≡ o
    → rerun_answer log names ≡ or_no_step (option_map (λ (p : World × List TakenStep). replayed log p.1) o)
unfolding rerun_answer
answer_by log names chosen o named runs =
    ap (λ (x : Option (List Step)). or_no_step (option_map (λ (p : World × List TakenStep). replayed log p.1) (option_and_then (run (steps (setting_of log)) (base_of log)) x))) named
    ∙ ap (λ (x : Option (World × List TakenStep)). or_no_step (option_map (λ (p : World × List TakenStep). replayed log p.1) x)) runs

no_answer : (log : Log) (names : List StepName) → steps_named (remaining log) names ≡ None → rerun_answer log names ≡ Err NoStep
unfolding rerun_answer
no_answer log names h = ap (λ (x : Option (List Step)). or_no_step (option_map (λ (p : World × List TakenStep). replayed log p.1) (option_and_then (run (steps (setting_of log)) (base_of log)) x))) h

-- no steps are taken at first
none_replayed : (log : Log) → rerun_answer log [] ≡ Ok (replayed log [])
none_replayed log = answer_by log [] [] (Some (base_of log, [])) refl refl

pub begins : (log : Log) → rerun_answer log [] ≡ Ok (of_log log.begin (outline log.entries))
begins log = none_replayed log ∙ ap (λ (l : List Entry). Ok (of_log log.begin l)) (append-nil (outline log.entries))

one_replayed : (log : Log) (ts : List TakenStep) (t : TakenStep) → replayed log (ts ++ t ∷ []) ≡ appended (replayed log ts) (entry_of t)
one_replayed log ts t =
    ap (λ (l : List Entry). of_log log.begin l)
    (ap (λ (l : List Entry). outline log.entries ++ l) (map-append entry_of ts (t ∷ [])) ∙ sym (append_assoc (outline log.entries) (map entry_of ts) (entry_of t ∷ [])))

-- what an answered rerun has stands in the world of its run
pub tried_stands : (log : Log) (names : List StepName) (again : Log) → IsLegal log → (a : rerun_answer log names ≡ Ok again) (t : IsTried log names again) → StandsAt again (setting_of log) t.world t.past
tried_stands log names again legal a t =
    let exact = reruns_are_exact log names legal in
    let own = named_chosen (remaining log) names t.chosen t.named in
    let r = exact.runnable t.chosen t.world t.past own.1 own.0 t.runs in
    let ok : Ok r.0 ≡ Ok again = sym r.1 ∙ a in
    let same : r.0 ≡ again = cc in
    let world : world_of again ≡ t.world = ap world_of (sym same) ∙ r.3 in
    let past : past_of again ≡ t.past = ap past_of (sym same) ∙ r.4 in
    let lawful = (reruns_are_legal log again names legal a).0 in
    let begin = ap (λ (x : Log). x.begin) (sym t.is) in
    stands_in again (setting_of again) (setting_of log) (world_of again) t.world (past_of again) t.past (legal_stands again lawful)
    (ap₂ (λ (b : Begin) (m : List ℕ → Option Definition). let x : Setting = record { machines = m; table = b.table; schema = b.schema } in x) begin (exact.in_this_log again a).1)
    (legal_logs_run again lawful ∙ ap₂ (λ (x : World) (l : List TakenStep). Some (x, l)) world past)

-- what may be entered can be taken
can_retake : (log : Log) (step : Step) (t : TakenStep) → IsAccepted log (entry_for t step) → CanRetake log step
can_retake log (started exec machine input) t a = a.0
can_retake log (moved name) t a = (t.fact.kind, a)

module _ (log : Log) (legal : IsLegal log) (front : List StepName) (again : Log) (a : rerun_answer log front ≡ Ok again) (name : StepName) where
  at_all : IsTried log front again
  at_all = tried log front again a

  there : StandsAt again (setting_of log) at_all.world at_all.past
  there = tried_stands log front again legal a at_all

  -- with one more step that can be taken
  one_more : (step : Step) (v : World) (f : Fact) → step_named name (remaining log) ≡ Some step → take_step (setting_of log) at_all.world step ≡ Some (v, f)
      → rerun_answer log (front ++ name ∷ []) ≡ Ok (appended again (entry_of (taken_in at_all.world step f)))
  one_more step v f named takes =
      answer_by log (front ++ name ∷ []) (at_all.chosen ++ step ∷ []) (Some (v, at_all.past ++ taken_in at_all.world step f ∷ []))
      (named_then (remaining log) name front at_all.chosen step at_all.named named)
      (run_then (steps (setting_of log)) at_all.chosen (base_of log) at_all.world v at_all.past step f at_all.runs takes)
      ∙ ap (λ (x : Log). Ok x) (one_replayed log at_all.past (taken_in at_all.world step f) ∙ ap (λ (x : Log). appended x (entry_of (taken_in at_all.world step f))) at_all.is)

  pub none_named : step_named name (remaining log) ≡ None → rerun_answer log (front ++ name ∷ []) ≡ Err NoStep
  none_named h = no_answer log (front ++ name ∷ []) (named_not (remaining log) name front h)

  pub retaken : (step : Step) (later : Log) → step_named name (remaining log) ≡ Some step → IsRetaken again step later → rerun_answer log (front ++ name ∷ []) ≡ Ok later
  retaken (started exec machine input) later named r =
      let can = start_said again (setting_of log) at_all.world at_all.past there (execution exec) machine input (start_name exec) r.0 refl in
      one_more (started exec machine input) can.after can.fact named can.takes ∙ ap (λ (x : Log). Ok x) (sym r.1)
  retaken (moved n) later named r =
      let can = step_said again (setting_of log) at_all.world at_all.past there n.thread (record { name = n; kind = r.0 }) r.1 refl in
      one_more (moved n) can.0.after can.0.fact named can.0.takes ∙ ap (λ (k : Kind). Ok (appended again (Stepped n k))) can.1 ∙ ap (λ (x : Log). Ok x) (sym r.2)

  -- the last entry of a rerun was accepted
  last_accepted : (e : Entry) → rerun_answer log (front ++ name ∷ []) ≡ Ok (appended again e) → IsAccepted again e
  last_accepted e h = legal_entry (appended again e) again.entries [] e (reruns_are_legal log (appended again e) (front ++ name ∷ []) legal h).0 refl

  not_by : (step : Step) (o : Option (World × Fact)) → step_named name (remaining log) ≡ Some step → (CanRetake again step → ⊥) → take_step (setting_of log) at_all.world step ≡ o → rerun_answer log (front ++ name ∷ []) ≡ Err NoStep
  not_by step None named cannot h =
      answer_by log (front ++ name ∷ []) (at_all.chosen ++ step ∷ []) None (named_then (remaining log) name front at_all.chosen step at_all.named named)
      (run_stops (setting_of log) at_all.chosen (base_of log) at_all.world at_all.past step at_all.runs h)
  not_by step (Some (v, f)) named cannot h =
      let t = taken_in at_all.world step f in
      absurd (cannot (can_retake again step t (last_accepted (entry_of t) (one_more step v f named h))))

  pub not_retaken : (step : Step) → step_named name (remaining log) ≡ Some step → (CanRetake again step → ⊥) → rerun_answer log (front ++ name ∷ []) ≡ Err NoStep
  not_retaken step named cannot = not_by step (take_step (setting_of log) at_all.world step) named cannot refl

-- ---- a front that is refused

named_split : (ss : List Step) (front back : List StepName) (chosen : List Step) → steps_named ss (front ++ back) ≡ Some chosen → (first : List Step) × (rest : List Step) × (steps_named ss front ≡ Some first) × (chosen ≡ first ++ rest)
named_split ss [] back chosen h = ([], chosen, refl, refl)
named_split ss (n ∷ front) back chosen h =
    let a = and_then_some (λ (x : Step). option_map (λ (more : List Step). x ∷ more) (steps_named ss (front ++ back))) (step_named n ss) chosen h in
    let m = map_some (λ (more : List Step). a.0 ∷ more) (steps_named ss (front ++ back)) chosen a.2 in
    let r = named_split ss front back m.0 m.1 in
    (a.0 ∷ r.0, r.1, named_cons ss n front a.0 r.0 a.1 r.2, sym m.2 ∙ ap (λ (l : List Step). a.0 ∷ l) r.3)

run_cons : (s : Setting) (x : Step) (xs : List Step) (base u w : World) (f : Fact) (us : List TakenStep) → take_step s base x ≡ Some (u, f) → run (steps s) u xs ≡ Some (w, us) → run (steps s) base (x ∷ xs) ≡ Some (w, taken_in base x f ∷ us)
run_cons s x xs base u w f us h k = rw (h, k) refl

run_split : (s : Setting) (xs ys : List Step) (base v : World) (ts : List TakenStep) → run (steps s) base (xs ++ ys) ≡ Some (v, ts) → (w : World) × (us : List TakenStep) × (run (steps s) base xs ≡ Some (w, us))
run_split s [] ys base v ts h = (base, [], refl)
run_split s (x ∷ xs) ys base v ts h =
    let a = and_then_some _ (take_step s base x) (v, ts) h in
    let b = map_some (λ (q : World × List TakenStep). (q.0, taken_in base x a.0.1 ∷ q.1)) (run (steps s) a.0.0 (xs ++ ys)) (v, ts) a.2 in
    let r = run_split s xs ys a.0.0 b.0.0 b.0.1 b.1 in
    (r.0, taken_in base x a.0.1 ∷ r.1, run_cons s x xs base a.0.0 r.0 a.0.1 r.1 a.1 r.2)

-- the front of an order that is answered is answered
front_answered : (log : Log) (front back : List StepName) (again : Log) → rerun_answer log (front ++ back) ≡ Ok again → (first : Log) × (rerun_answer log front ≡ Ok first)
front_answered log front back again a =
    let t = tried log (front ++ back) again a in
    let n = named_split (remaining log) front back t.chosen t.named in
    let r = run_split (setting_of log) n.0 n.1 (base_of log) t.world t.past (ap (run (steps (setting_of log)) (base_of log)) (sym n.3) ∙ t.runs) in
    (replayed log r.1, answer_by log front n.0 (Some (r.0, r.1)) n.2 r.2)

-- where a front is refused, so is the whole
pub refused_front : (log : Log) (front back : List StepName) → IsLegal log → rerun_answer log front ≡ Err NoStep → rerun_answer log (front ++ back) ≡ Err NoStep
refused_front log front back legal h = by_answer (rerun_answer log (front ++ back)) refl
  where
    by_answer : (r : Result Log Refusal) → rerun_answer log (front ++ back) ≡ r → rerun_answer log (front ++ back) ≡ Err NoStep
    by_answer (Ok again) e =
        let k = front_answered log front back again e in
        let clash = sym h ∙ k.1 in
        cc
    by_answer (Err f) e = e ∙ ap Err ((reruns_are_exact log (front ++ back) legal).refused f e)

-- ---- one name more

module _ (log : Log) (legal : IsLegal log) (front : List StepName) (again : Log) (a : rerun_answer log front ≡ Ok again) (name : StepName) where
  pub goes_on : {T : Type 0} (x : T) (o : Option Step) (later : Log) → step_named name (remaining log) ≡ o → Retakes again o (Ok x) later → rerun_answer log (front ++ name ∷ []) ≡ Ok later
  goes_on x None later named r = absurd r
  goes_on x (Some step) later named r = retaken log legal front again a name step later named r

  refused_here : (back : List StepName) (e : Refusal) → e ≡ NoStep → rerun_answer log (front ++ name ∷ []) ≡ Err NoStep → rerun_answer log (front ++ name ∷ back) ≡ Err e
  refused_here back e same h =
      ap (rerun_answer log) (sym (append_assoc front (name ∷ []) back)) ∙ refused_front log (front ++ name ∷ []) back legal h ∙ ap Err (sym same)

  pub ends_here : (T : Type 0) (back : List StepName) (e : Refusal) (o : Option Step) (later : Log) → step_named name (remaining log) ≡ o → Retakes {T = T} again o (Err e) later → (e ≡ Memory) ⊎ (rerun_answer log (front ++ name ∷ back) ≡ Err e)
  ends_here T back e None later named (inl m) = inl m
  ends_here T back e None later named (inr n) = inr (refused_here back e n (none_named log legal front again a name named))
  ends_here T back e (Some step) later named (inl m) = inl m
  ends_here T back e (Some step) later named (inr n) = inr (refused_here back e n.0 (not_retaken log legal front again a name step named n.1))

-- ---- outlines

-- a beginning of a legal log is legal
front_legal : (front back : List Entry) (before : Log) → GoesOnLegally before (front ++ back) → GoesOnLegally before front
front_legal [] back before h = tt
front_legal (e ∷ front) back before h = (h.0, front_legal front back (appended before e) h.1)

pub legal_front : (begin : Begin) (front back : List Entry) → IsLegal (of_log begin (front ++ back)) → IsLegal (of_log begin front)
unfolding IsLegal
legal_front begin front back h = (h.0, front_legal front back (of_log begin []) h.1)

-- a definition of a legal log is accepted after the outline of those before it
pub may_define : (begin : Begin) (front back : List Entry) (e : Entry) → IsLegal (of_log begin (front ++ e ∷ back)) → MayDefine (of_log begin (outline front)) e
may_define begin front back (Define name machine) legal =
    let e = Define name machine in
    let parts = append_assoc front (e ∷ []) back in
    let here = legal_front begin (front ++ e ∷ []) back (subst (λ (l : List Entry). IsLegal (of_log begin l)) (sym parts) legal) in
    let d = (legal_defines (of_log begin (front ++ e ∷ [])) here).legal in
    legal_entry (of_log begin (outline (front ++ e ∷ []))) (outline front) [] e d (outline_more front e refl)
may_define begin front back (Start exec machine input) legal = tt
may_define begin front back (Stepped name kind) legal = tt
may_define begin front back (Undo name) legal = tt
may_define begin front back (Rollback name undone) legal = tt
may_define begin front back Settle legal = tt
may_define begin front back (Hold name count) legal = tt
