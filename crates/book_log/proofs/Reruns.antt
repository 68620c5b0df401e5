-- What a rerun answers: the outline of the log, and then the steps, one after another.
use Rattle.std.proofs.Common.{◌≡◌, ◌≤◌, ◌+◌, false, List, [], ◌∷◌, ◌++◌, length, length-append, map, append_assoc, arith, refl, ap, ap₂, sym, subst, ◌∙◌, inl, inr, Option, None, Some, Ok, Err}
use Rattle.std.specs.Prelude.{option_map, option_and_then}
use Rattle.std.proofs.lemmas.List.{append-nil}
use Rattle.std.proofs.lemmas.Option.{same_Some}
use Rattle.step_names.specs.declared.step.StepName.{StepName}
use Rattle.trace_theory.specs.Traces.{In, Before, run, names_of}
use Rattle.trace_theory.proofs.Arranged.{linearizations_agree, named_place, In-names}
use Rattle.trace_theory.proofs.Least.{Once, not_backward}
use Rattle.trace_theory.proofs.Lists.{by_bool, place, In-middle, here}
use Rattle.trace_theory.proofs.Records.{run_names, run_is}
use Rattle.trace_theory.proofs.Runs.{Runs, from_run, and_then_some, map_some}
use Rattle.depends.specs.Steps.{Step, started, moved, name_of}
use Rattle.depends.specs.World.{Setting, World, is_same_step}
use Rattle.depends.specs.Instance.{TakenStep, steps}
use Rattle.depends.specs.Laws.{IsFrom}
use Rattle.depends.proofs.Reversible as lawful
use Rattle.depends.proofs.Named.{steps_have_names}
use Rattle.book_log.specs.Answers.{step_named, steps_named, defines, is_settlement, outline, entry_for, entry_of, replayed, or_no_step, rerun_answer}
use Rattle.book_log.specs.Laws as laws
use Rattle.book_log.specs.Legal.{IsAccepted, IsLegal}
use Rattle.book_log.specs.Log.{Log, appended, after_entry, base_in, base_of, settled, step_on_hold, world_after, remaining, machine_of, setting_of, setting_in, remainder, world_of, past_of}
use Rattle.book_log.specs.declared.begin.Begin.{Begin}
use Rattle.book_log.specs.declared.entry.Entry.{Entry}
use Rattle.book_log.specs.declared.entry.Entry.TheVariants.{Define, Start, Step as Stepped, Undo, Rollback, Settle, Hold}
use Rattle.book_log.specs.declared.refusal.Refusal.{Refusal}
use Rattle.book_log.specs.declared.refusal.Refusal.TheVariants.{NoStep}
use Rattle.book_log.proofs.Standing.{StandsAt, step_same, step_itself, from_start, world_there, past_there, names_there, is_run, remainder_next, settled_next, base_kept, knowing, stands_defined, base_defined, stands_settled, base_settled}
use Rattle.book_log.proofs.Answered.{once}
use Rattle.book_log.proofs.LegalRuns.{of_log, of_legal, accepted_is_legal, legal_stands, first_stands_there}
use Rattle.book_log.proofs.Counts.{IsShallow, room_for_define, has_room_for_define, has_room_for_step, steps_there, legal_counts}
use Rattle.book_log.proofs.Outlines.{outline_settled, outline_more, outline_same}
use Rattle.book_log.proofs.HoldSaid.{held_next, needs_none}
use Rattle.book_log.proofs.TakenBack.{entry_accepted, stands_again}

-- ---- the outline alone

-- the outline of a log is a legal one, and leaves no steps; what was settled is as it was, and so is the base
pub record IsDefined (log : Log) : Type 0 where
  pub legal : IsLegal (of_log log.begin (outline log.entries))
  pub there : StandsAt (of_log log.begin (outline log.entries)) (setting_of log) (base_of log) []
  pub settles : settled (of_log log.begin (outline log.entries)) ≡ settled log
  pub free : step_on_hold (of_log log.begin (outline log.entries)) ≡ None

-- a log of the same beginning whose log is the outline of another's
outlined : (log : Log) (entries : List Entry) → outline log.entries ≡ entries → IsLegal (of_log log.begin entries) → StandsAt (of_log log.begin entries) (setting_of log) (base_of log) [] → settled (of_log log.begin entries) ≡ settled log → step_on_hold (of_log log.begin entries) ≡ None → IsDefined log
outlined log entries is legal there settles free = record {
  legal = subst (λ l. IsLegal (of_log log.begin l)) (sym is) legal;
  there = subst (λ l. StandsAt (of_log log.begin l) (setting_of log) (base_of log) []) (sym is) there;
  settles = subst (λ l. settled (of_log log.begin l) ≡ settled log) (sym is) settles;
  free = subst (λ l. step_on_hold (of_log log.begin l) ≡ None) (sym is) free;
}

-- an entry that is no definition and settles nothing
defined_still : (log : Log) (e : Entry) → is_settlement e ≡ false → defines (e ∷ []) ≡ [] → setting_of (appended log e) ≡ setting_of log → base_of (appended log e) ≡ base_of log → settled (appended log e) ≡ settled log → IsDefined log → IsDefined (appended log e)
defined_still log e other none setting base before p =
    outlined (appended log e) (outline log.entries) (outline_same log.entries e other none) p.legal
    (subst (λ s. StandsAt (of_log log.begin (outline log.entries)) s (base_of (appended log e)) []) (sym setting)
    (subst (λ w. StandsAt (of_log log.begin (outline log.entries)) (setting_of log) w []) (sym base) p.there))
    (p.settles ∙ sym before) p.free

setting_next : (log : Log) (e : Entry) → setting_of (appended log e) ≡ setting_in log.begin (after_entry log.begin (remainder log) e)
setting_next log e = ap (setting_in log.begin) (remainder_next log e)

defined_next : (log : Log) (e : Entry) → IsLegal log → IsDefined log → IsAccepted log e → IsDefined (appended log e)
defined_next log (Define name machine) legal p a =
    let e = Define name machine in
    let s = setting_of log in
    let h = legal_stands log legal in
    let alone = of_log log.begin (outline log.entries) in
    let room = room_for_define log a.1 in
    let count = (legal_counts log legal).outlined in
    let none = steps_there alone s (base_of log) [] p.there in
    let new : IsAccepted alone e = (ap (λ (x : Setting). x.machines name) p.there.setting ∙ a.0, has_room_for_define alone (omega (arith, room, count, none)), a.2) in
    let there = stands_defined alone s (base_of log) [] name machine p.there a.0 in
    let same : setting_of (appended log e) ≡ knowing s name machine = setting_next log e in
    let base = base_defined log s (world_of log) (past_of log) name machine h a.0 in
    outlined (appended log e) (outline log.entries ++ e ∷ []) (outline_more log.entries e refl) (accepted_is_legal alone e p.legal new)
    (subst (λ w. StandsAt (appended alone e) (setting_of (appended log e)) w []) (sym base) (subst (λ x. StandsAt (appended alone e) x (base_of log) []) (sym same) there))
    (settled_next alone e ∙ p.settles ∙ sym (settled_next log e)) (held_next alone e ∙ p.free)
defined_next log (Start exec machine input) legal p a = let e = Start exec machine input in defined_still log e refl refl (setting_next log e) (base_kept log e refl refl) (settled_next log e) p
defined_next log (Stepped name kind) legal p a = let e = Stepped name kind in defined_still log e refl refl (setting_next log e) (base_kept log e refl refl) (settled_next log e) p
defined_next log (Undo name) legal p a = let e = Undo name in defined_still log e refl refl (setting_next log e) (base_kept log e refl refl) (settled_next log e) p
defined_next log (Rollback name undone) legal p a = let e = Rollback name undone in defined_still log e refl refl (setting_next log e) (base_kept log e refl refl) (settled_next log e) p
defined_next log Settle legal p a =
    let s = setting_of log in
    let w = world_of log in
    let h = legal_stands log legal in
    let next = appended log Settle in
    let there = stands_settled log s w (past_of log) h in
    outlined next next.entries (outline_settled log.entries) (accepted_is_legal log Settle legal a)
    (subst (λ x. StandsAt next (setting_of next) x []) (sym (base_settled log s w (past_of log) h)) (subst (λ x. StandsAt next x w []) (sym there.setting) there))
    refl (held_next log Settle)
defined_next log (Hold name count) legal p a = let e = Hold name count in defined_still log e refl refl (setting_next log e) (base_kept log e refl refl) (settled_next log e) p

first_defined : (begin : Begin) → IsLegal (of_log begin []) → IsDefined (of_log begin [])
unfolding remainder base_in world_after
first_defined begin legal = record { legal = legal; there = first_stands_there begin; settles = refl; free = refl }

pub legal_defines : (log : Log) → IsLegal log → IsDefined log
legal_defines log legal = of_legal IsDefined first_defined defined_next log legal

-- ---- the steps after them

pub record IsReplayed (begin : Begin) (entries : List Entry) (s : Setting) (before : List Step) (v : World) (ts : List TakenStep) : Type 0 where
  pub legal : IsLegal (of_log begin entries)
  pub there : StandsAt (of_log begin entries) s v ts
  pub settles : settled (of_log begin entries) ≡ before

-- the entry of a step settles nothing
settled_again : (log : Log) (t : TakenStep) (step : Step) → settled (appended log (entry_for t step)) ≡ settled log
settled_again log t (started exec machine input) = settled_next log (entry_for t (started exec machine input))
settled_again log t (moved name) = settled_next log (entry_for t (moved name))

held_again : (log : Log) (t : TakenStep) (step : Step) → step_on_hold (appended log (entry_for t step)) ≡ step_on_hold log
held_again log t (started exec machine input) = held_next log (entry_for t (started exec machine input))
held_again log t (moved name) = held_next log (entry_for t (moved name))

pub retell : (ts : List TakenStep) (log : Log) (s : Setting) (w v : World) (us : List TakenStep) → IsLegal log → step_on_hold log ≡ None → StandsAt log s w us → Runs (steps s) w ts v → ((t : TakenStep) → In t ts → IsShallow t.step)
    → length us + length ts ≤ 65536 → length log.entries + length us + (length ts + length ts) ≤ 1000000 → IsReplayed log.begin (log.entries ++ map entry_of ts) s (settled log) v (us ++ ts)
retell [] log s w v us legal free h runs low few many = record {
  legal = subst (λ l. IsLegal (of_log log.begin l)) (sym (append-nil log.entries)) legal;
  there = subst (λ l. StandsAt (of_log log.begin l) s v (us ++ [])) (sym (append-nil log.entries)) (subst (StandsAt log s v) (sym (append-nil us)) (subst (λ x. StandsAt log s x us) runs h));
  settles = subst (λ l. settled (of_log log.begin l) ≡ settled log) (sym (append-nil log.entries)) refl;
}
retell (t ∷ ts) log s w v us legal free h runs low few many =
    let there = steps_there log s w us h in
    let room = has_room_for_step log (omega (arith, few, there)) (omega (arith, many, there)) in
    let new = entry_accepted log s w runs.0 us h t t.step runs.1.0 (low t (inl refl)) room (needs_none log free t.fact) in
    let next = appended log (entry_of t) in
    let l = length-append log.entries (entry_of t ∷ []) in
    let m = length-append us (t ∷ []) in
    let k = retell ts next s runs.0 v (us ++ t ∷ []) (accepted_is_legal log (entry_of t) legal new) (held_again log t t.step ∙ free) (stands_again log s w runs.0 us t h runs.1) runs.2 (λ x i. low x (inr i)) (omega (arith, few, m)) (omega (arith, many, l, m)) in
    let entries = append_assoc log.entries (entry_of t ∷ []) (map entry_of ts) in
    let past = append_assoc us (t ∷ []) ts in
    let before = settled_again log t t.step in
    subst (λ l. IsReplayed log.begin (log.entries ++ entry_of t ∷ map entry_of ts) s l v (us ++ t ∷ ts)) before
    (subst (λ x. IsReplayed log.begin x s (settled next) v (us ++ t ∷ ts)) entries (subst (λ x. IsReplayed log.begin ((log.entries ++ entry_of t ∷ []) ++ map entry_of ts) s (settled next) v x) past k))

-- ---- as many

no_more_than : {A B : Type 0} (f : A → B) (xs : List A) (ys : List B) → ((x y : A) → Before x y xs → f x ≡ f y → ⊥) → ((x : A) → In x xs → In (f x) ys) → length xs ≤ length ys
no_more_than f [] ys once inside = omega arith
no_more_than {A} {B} f (x ∷ xs) ys once inside =
    let p = place (f x) ys (inside x (inl refl)) in
    let rest = no_more_than f xs (p.front ++ p.back) (λ y z b. once y z (inr b))
    (λ y i. elim (In-middle (f y) (f x) p.front p.back (subst (In (f y)) p.whole (inside y (inr i)))) [ inl e ↦ absurd (once x y (inl (refl, i)) (sym e)) | inr j ↦ j ]) in
    let l = length-append p.front (f x ∷ p.back) in
    let m = length-append p.front p.back in
    let w = ap length p.whole in
    omega (arith, rest, l, m, w)

-- ---- steps by their names

-- the step of a name is among the others, and has the name
pub named_is : (name : StepName) (ss : List Step) (s : Step) → step_named name ss ≡ Some s → (name_of s ≡ name) × In s ss
named_is name [] s h = cc
named_is name (x ∷ ss) s h =
    by_bool (is_same_step name (name_of x)) _
    (λ k. let e : x ≡ s = same_Some _ _ (rw k at h) in (ap name_of (sym e) ∙ sym (step_same name (name_of x) k), inl (sym e)))
    (λ k. let r = named_is name ss s (rw k at h) in (r.0, inr r.1))

-- the chosen steps have the names, and are among the others
pub named_chosen : (ss : List Step) (names : List StepName) (chosen : List Step) → steps_named ss names ≡ Some chosen → (map name_of chosen ≡ names) × ((x : Step) → In x chosen → In x ss)
named_chosen ss [] chosen h =
    let e : [] ≡ chosen = same_Some _ _ h in
    (ap (map name_of) (sym e), λ x i. absurd (subst (In x) (sym e) i))
named_chosen ss (name ∷ names) chosen h =
    let k = and_then_some (λ (s : Step). option_map (λ (more : List Step). s ∷ more) (steps_named ss names)) (step_named name ss) chosen h in
    let m = map_some (λ (more : List Step). k.0 ∷ more) (steps_named ss names) chosen k.2 in
    let f = named_is name ss k.0 k.1 in
    let rest = named_chosen ss names m.0 m.1 in (
      ap (map name_of) (sym m.2) ∙ ap₂ (λ (n : StepName) (l : List StepName). n ∷ l) f.0 rest.0,
      λ x i. elim (subst (In x) (sym m.2) i) as (λ _. In x ss) [ inl e ↦ subst (λ (z : Step). In z ss) (sym e) f.1 | inr j ↦ rest.1 x j ],
    )

module _ (s : Setting) (base : World) (from : IsFrom s base) where
  -- a step of a run is the first of its name
  named_there : (ts : List TakenStep) (a : Step) → Once (steps s) base (steps_have_names s base from) ts → In a (names_of (steps s) ts) → step_named (name_of a) (names_of (steps s) ts) ≡ Some a
  named_there [] a once i = absurd i
  named_there (t ∷ ts) a once (inl e) = let k = ap (λ (x : Step). is_same_step (name_of a) (name_of x)) (sym e) ∙ step_itself (name_of a) in rw k (ap Some (sym e))
  named_there (t ∷ ts) a once (inr i) =
      let have = steps_have_names s base from in
      let p = named_place (steps s) base have a ts i in
      let there = subst (In p.step) (sym p.whole) (here p.step p.front p.back) in
      let apart = once t p.step (inl (refl, there)) in
      let k = ap (λ (x : Step). is_same_step (name_of x) (name_of t.step)) (sym p.named) ∙ not_backward (steps s) base have t.step p.step.step apart in
      rw k (named_there ts a (λ x y b. once x y (inr b)) i)

  all_named : (ts : List TakenStep) (chosen : List Step) → Once (steps s) base (steps_have_names s base from) ts → ((a : Step) → In a chosen → In a (names_of (steps s) ts)) → steps_named (names_of (steps s) ts) (map name_of chosen) ≡ Some chosen
  all_named ts [] once inside = refl
  all_named ts (a ∷ chosen) once inside = let k = named_there ts a once (inside a (inl refl)) in let rest = all_named ts chosen once (λ x i. inside x (inr i)) in rw (k, rest) refl

-- ---- reruns

-- a run of some of the remaining steps is replayed
replayed_run : (log : Log) (ss : List Step) (v : World) (us : List TakenStep) → IsLegal log → ((x : Step) → In x ss → In x (remaining log)) → run (steps (setting_of log)) (base_of log) ss ≡ Some (v, us)
    → IsReplayed log.begin (replayed log us).entries (setting_of log) (settled log) v us
replayed_run log ss v us legal inside runs =
    let s = setting_of log in
    let base = base_of log in
    let have = steps_have_names s base (from_start log s (world_of log) (past_of log) (legal_stands log legal)) in
    let is = run_is (steps s) ss base v us runs in
    let named = run_names (steps s) ss base v us runs in
    let own : (t : TakenStep) → In t us → In t.step (remaining log) = λ t i. inside t.step (subst (In t.step) named (In-names (steps s) base have t us i)) in
    let counts = legal_counts log legal in
    let few = no_more_than (λ (t : TakenStep). t.step) us (remaining log) (λ x y b e. let k = have.once us v x y is b in let l = ap ((steps s).is_same x.step) (sym e) ∙ have.itself x.step in absurd (cc)) own in
    let some = counts.some in
    let all = counts.all in
    let defined = counts.outlined in
    let d = legal_defines log legal in
    subst (λ l. IsReplayed log.begin (replayed log us).entries s l v us) d.settles
    (retell us (of_log log.begin (outline log.entries)) s base v [] d.legal d.free d.there (from_run (steps s) us base v is) (λ t i. counts.shallow t.step (own t i)) (omega (arith, few, some)) (omega (arith, few, all, defined)))

pub rerun_split : (o : Option Log) (again : Log) → or_no_step o ≡ Ok again → o ≡ Some again
rerun_split None again h = cc
rerun_split (Some log) again h = cc

pub reruns_are_legal : laws.RerunsAreLegal
unfolding rerun_answer
reruns_are_legal log again names legal h =
    let s = setting_of log in
    let o = rerun_split _ again h in
    let p = map_some (λ (q : World × List TakenStep). replayed log q.1) (option_and_then (run (steps s) (base_of log)) (steps_named (remaining log) names)) again o in
    let c = and_then_some (run (steps s) (base_of log)) (steps_named (remaining log) names) p.0 p.1 in
    let n = named_chosen (remaining log) names c.0 c.1 in
    let k = replayed_run log c.0 p.0.0 p.0.1 legal n.1 c.2 in
    subst (λ x. IsLegal x × (map name_of (remaining x) ≡ names)) p.2
    (k.legal, ap (map name_of) (sym (names_there (replayed log p.0.1) s p.0.0 p.0.1 k.there) ∙ run_names (steps s) c.0 (base_of log) p.0.0 p.0.1 c.2) ∙ n.0)

-- and what was settled stays so
pub reruns_settle : (log again : Log) (names : List StepName) → IsLegal log → rerun_answer log names ≡ Ok again → settled again ≡ settled log
unfolding rerun_answer
reruns_settle log again names legal h =
    let s = setting_of log in
    let o = rerun_split _ again h in
    let p = map_some (λ (q : World × List TakenStep). replayed log q.1) (option_and_then (run (steps s) (base_of log)) (steps_named (remaining log) names)) again o in
    let c = and_then_some (run (steps s) (base_of log)) (steps_named (remaining log) names) p.0 p.1 in
    let n = named_chosen (remaining log) names c.0 c.1 in
    subst (λ x. settled x ≡ settled log) p.2 (replayed_run log c.0 p.0.0 p.0.1 legal n.1 c.2).settles

rerun_refused : (o : Option Log) (e : Refusal) → or_no_step o ≡ Err e → e ≡ NoStep
rerun_refused None e h = cc
rerun_refused (Some log) e h = cc

pub reruns_are_exact : laws.RerunsAreExact
unfolding rerun_answer
reruns_are_exact log names legal =
    let s = setting_of log in
    let w = world_of log in
    let ts = past_of log in
    let h = legal_stands log legal in
    let base = base_of log in
    let there = names_there log s w ts h in
    record {
      in_this_log = λ again a.
          let o = rerun_split _ again a in
          let p = map_some (λ (q : World × List TakenStep). replayed log q.1) (option_and_then (run (steps s) base) (steps_named (remaining log) names)) again o in
          let c = and_then_some (run (steps s) base) (steps_named (remaining log) names) p.0 p.1 in
          let n = named_chosen (remaining log) names c.0 c.1 in
          let k = replayed_run log c.0 p.0.0 p.0.1 legal n.1 c.2 in
          let own : remaining (replayed log p.0.1) ≡ c.0 = sym (names_there (replayed log p.0.1) s p.0.0 p.0.1 k.there) ∙ run_names (steps s) c.0 base p.0.0 p.0.1 c.2 in
          subst (λ x. ((step : Step) → In step (remaining x) → In step (remaining log)) × (machine_of x ≡ machine_of log) × (settled x ≡ settled log)) p.2
          (λ step i. n.1 step (subst (In step) own i), ap (λ (x : Setting). x.machines) k.there.setting, k.settles);
      runnable = λ chosen v us inside e runs.
          let named : steps_named (remaining log) (map name_of chosen) ≡ Some chosen = ap (λ (l : List Step). steps_named l (map name_of chosen)) (sym there) ∙ all_named s base (from_start log s w ts h) ts chosen (once log s w ts h) (λ x i. subst (In x) (sym there) (inside x i)) in
          let k = replayed_run log chosen v us legal inside runs in
          let again = replayed log us in (
            again,
            ap (λ (l : List StepName). or_no_step (option_map (λ (p : World × List TakenStep). replayed log p.1) (option_and_then (run (steps s) base) (steps_named (remaining log) l)))) (sym e)
                ∙ ap (λ (o : Option (List Step)). or_no_step (option_map (λ (p : World × List TakenStep). replayed log p.1) (option_and_then (run (steps s) base) o))) named
                ∙ ap (λ (o : Option (World × List TakenStep)). or_no_step (option_map (λ (p : World × List TakenStep). replayed log p.1) o)) runs,
            sym (names_there again s v us k.there) ∙ run_names (steps s) chosen base v us runs,
            world_there again s v us k.there,
            past_there again s v us k.there,
          );
      refused = λ e a. rerun_refused _ e a;
    }

pub linearizations_agree_all : laws.StepOrdersAgree
unfolding rerun_answer
linearizations_agree_all log arranged legal a =
    let s = setting_of log in
    let w = world_of log in
    let ts = past_of log in
    let h = legal_stands log legal in
    let base = base_of log in
    let have = steps_have_names s base (from_start log s w ts h) in
    let names = names_there log s w ts h in
    let r = linearizations_agree (steps s) base have (lawful.steps_are_reversible s base (from_start log s w ts h)) w ts arranged (is_run log s w ts h) a in
    let inside : (x : Step) → In x arranged → In x (remaining log) = λ x i. subst (In x) names (a.the_same x i) in
    let chosen : steps_named (remaining log) (map name_of arranged) ≡ Some arranged = ap (λ (l : List Step). steps_named l (map name_of arranged)) (sym names) ∙ all_named s base (from_start log s w ts h) ts arranged (once log s w ts h) (λ x i. a.the_same x i) in
    let k = replayed_run log arranged w r.0 legal inside r.1 in
    let again = replayed log r.0 in
    let past = past_there again s w r.0 k.there in (
      again,
      ap (λ (o : Option (List Step)). or_no_step (option_map (λ (p : World × List TakenStep). replayed log p.1) (option_and_then (run (steps s) base) o))) chosen
          ∙ ap (λ (o : Option (World × List TakenStep)). or_no_step (option_map (λ (p : World × List TakenStep). replayed log p.1) o)) r.1,
      world_there again s w r.0 k.there,
      λ t. (λ i. (r.2 t).0 (subst (In t) past i), λ i. subst (In t) (sym past) ((r.2 t).1 i)),
    )
