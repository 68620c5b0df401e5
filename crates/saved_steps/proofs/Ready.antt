-- Everything is made for the effect of a step's next.
use Rattle.std.proofs.Common.{Global, ◌≡◌, ℕ, List, map, length, false, refl, sym, ap, ◌∙◌, subst, Option, Some, None, Result, Ok, Err}
use Rattle.std.specs.Prelude.{is_some, is_err, option_map, OnOk}
use Rattle.std.specs.declared.vec.Vec.{Vec}
use Rattle.std.specs.BTreeMap.{get_by_text}
use Rattle.std.specs.List.{All}
use Rattle.std.proofs.lemmas.List.{length-map}
use Rattle.attr_values.specs.declared.key.Key.{Key}
use Rattle.item_store.specs.Deciding.{reply_of}
use Rattle.item_store.specs.Store.{stored_items}
use Rattle.item_store.specs.Table as table
use Rattle.item_store.specs.declared.access.AccessMode.{AccessMode}
use Rattle.item_store.specs.declared.call.Call as calls
use Rattle.asl_forward.specs.Results.{Work, state_work, after_answer}
use Rattle.branch_tree.specs.Turn.{Location, located}
use Rattle.branch_tree.specs.Frame.{Frame}
use Rattle.asl_forward.specs.declared.prepared.Outcome.{Outcome}
use Rattle.asl_forward.specs.declared.prepared.Outcome.TheVariants as outcome
use Rattle.asl_forward.specs.declared.prepared.Prepared.{Prepared}
use Rattle.branch_tree.specs.FlatMap.{IsTree, is_parked, branch_count}
use Rattle.branch_tree.specs.Tree.{Rows, leaf, frame_at, IsNode}
use Rattle.step_names.specs.declared.step.StepName.{StepName}
use Rattle.saved_steps.specs.Answering.{IsTouch, IsAnswered, change_from}
use Rattle.saved_steps.specs.Effects.{Effect, own_effect, fork_effect, called, call_effect, effect_with_bound}
use Rattle.saved_steps.specs.Held.{frames_of}
use Rattle.saved_steps.specs.Made.{is_unparked, IsThreadOpen, CanMake, CanApply, IsMadeFor, IsMadeBy, IsMadeOf, effect_of_work}
use Rattle.saved_steps.specs.declared.answering.Answered.{Answered}
use Rattle.saved_steps.specs.declared.answering.Touch.{Touch}
use Rattle.saved_steps.specs.declared.fact.Kind.TheVariants as kind
use Rattle.saved_steps.specs.declared.made.Change.TheVariants as change
use Rattle.saved_steps.specs.declared.next.Next.{Next}
use Rattle.saved_steps.specs.declared.next.Next.TheVariants as next
use Rattle.saved_steps.specs.declared.world.World.{World}
use Rattle.saved_steps.proofs.Turned.{Yields, yields, answer_open}

pub on_ok : {A E : Type 0} (r : Result A E) (P : Type 0) → is_err r ≡ false → OnOk r P → P
on_ok (Ok x) P h k = k
on_ok (Err e) P h k = cc

pub none_where : {A : Type 0} (o : Option A) → is_some o ≡ false → o ≡ None
none_where None h = refl
none_where (Some x) h = cc

-- ---- a start, a join, a terminate

pub begin : (w v : World) (name : StepName) (f : Frame) → get_by_text v.executions.trees name.thread.exec ≡ Some None → CanMake w name (next.Begin f) → IsMadeOf w v name (next.Begin f) (record { name = name; bound = 0; change = change.Begin f })
begin w v name f place s = record { named = refl; ready = (place, s.1, s.2); effect_of = own_effect kind.Start name f; is = refl; made = record { fact = refl; change = refl } }

pub join : (w : World) (name copy : StepName) (n : Next) (f : Frame) → copy ≡ name → n ≡ next.Join f → CanMake w name n → IsMadeOf w w name n (record { name = copy; bound = 0; change = change.Join f })
join w name copy n f e h s =
    let is : CanMake w name (next.Join f) = subst (CanMake w name) h s in
    let it : IsMadeOf w w name (next.Join f) (record { name = name; bound = 0; change = change.Join f }) =
    record { named = refl; ready = is; effect_of = own_effect kind.Join name f; is = refl; made = record { fact = refl; change = refl } } in
    subst (λ (x : StepName). IsMadeOf w w name n (record { name = x; bound = 0; change = change.Join f })) (sym e) (subst (λ (x : Next). IsMadeOf w w name x (record { name = name; bound = 0; change = change.Join f })) (sym h) it)

pub terminate : (w : World) (name copy : StepName) (n : Next) (f : Frame) → copy ≡ name → n ≡ next.Terminate f → CanMake w name n → IsMadeOf w w name n (record { name = copy; bound = 0; change = change.Terminate f })
terminate w name copy n f e h s =
    let is : CanMake w name (next.Terminate f) = subst (CanMake w name) h s in
    let it : IsMadeOf w w name (next.Terminate f) (record { name = name; bound = 0; change = change.Terminate f }) =
    record { named = refl; ready = is; effect_of = own_effect kind.Terminate name f; is = refl; made = record { fact = refl; change = refl } } in
    subst (λ (x : StepName). IsMadeOf w w name n (record { name = x; bound = 0; change = change.Terminate f })) (sym e) (subst (λ (x : Next). IsMadeOf w w name x (record { name = name; bound = 0; change = change.Terminate f })) (sym h) it)

-- ---- the work of a thread that is ready

pub turned : (p : Prepared) (o : Outcome) → p.outcome ≡ o → Yields p.frame o
turned p o e = subst (Yields p.frame) e (yields p.machine p.frame p.outcome p.turns)

-- what a turn does, told with a bound
abbrev pub does : World → StepName → ℕ → Prepared → Option Effect
does w name bound p = option_map (effect_with_bound bound) (effect_of_work w.items name p p.outcome)

pub plain : (w : World) (name : StepName) (bound : ℕ) (p : Prepared) (g : Frame) → p.outcome ≡ outcome.Next g → CanMake w name (next.Work p) → IsMadeBy w name (does w name bound p) (record { name = name; bound = bound; change = change.Plain g })
plain w name bound p g e s = record {
  named = refl;
  ready = (s.0, turned p (outcome.Next g) e);
  effect_of = effect_with_bound bound (own_effect kind.Plain name g);
  is = ap (λ (o : Outcome). option_map (effect_with_bound bound) (effect_of_work w.items name p o)) e;
  made = record { fact = refl; change = refl };
}

pub fork : (w : World) (name : StepName) (bound : ℕ) (p : Prepared) (g : Frame) (branches : List Frame) (kids : Vec Rows Global) → p.outcome ≡ outcome.Fork g branches → kids.items ≡ map leaf branches
    → All (λ kid. IsTree (frame_at kid)) kids.items → CanMake w name (next.Work p) → IsMadeBy w name (does w name bound p) (record { name = name; bound = bound; change = change.Fork g kids })
fork w name bound p g branches kids e rows trees s =
    let y : Yields p.frame (outcome.Fork g branches) = turned p (outcome.Fork g branches) e in
    let node : IsNode g kids.items = record { counted = ap length rows ∙ length-map branches leaf ∙ sym (ap branch_count y.1); trees = trees } in
    record {
      named = refl;
      ready = (s.0, node, ap is_parked y.1, y.2 ∙ sym s.1, (branches, rows));
      effect_of = effect_with_bound bound (fork_effect name g branches);
      is = ap (λ (o : Outcome). option_map (effect_with_bound bound) (effect_of_work w.items name p o)) e;
      made = record { fact = refl; change = (refl, rows) };
    }

made_touch : (v : World) (name : StepName) (bound : ℕ) (g h : Frame) (o : table.Outcome) (t : Option Touch) → g ≡ h → IsTouch v.items o t → IsMadeFor (record { name = name; bound = bound; change = change_from g t }) (effect_with_bound bound (called name h o.items o.access))
made_touch v name bound g h o None e k = subst (λ (x : Option (Key × AccessMode)). IsMadeFor (record { name = name; bound = bound; change = change_from g None }) (effect_with_bound bound (called name h o.items x))) (sym k) (record { fact = refl; change = e })
made_touch v name bound g h o (Some t) e k = subst (λ (x : Option (Key × AccessMode)). IsMadeFor (record { name = name; bound = bound; change = change_from g (Some t) }) (effect_with_bound bound (called name h o.items x))) (sym k.0) (record { fact = refl; change = (e, k.2) })

ready_touch : (v : World) (name : StepName) (bound : ℕ) (g : Frame) (o : table.Outcome) (t : Option Touch) → IsThreadOpen (frames_of v) name.thread → is_unparked g → IsTouch v.items o t → CanApply v (record { name = name; bound = bound; change = change_from g t })
ready_touch v name bound g o None free f k = (free, f)
ready_touch v name bound g o (Some t) free f k = (free, f, k.1)

pub call : (w v : World) (name : StepName) (bound : ℕ) (p : Prepared) (c : calls.Call) (a : Answered) (g : Frame) (at : Location) (work : Work) → p.outcome ≡ outcome.Call c
    → located p.machine p.frame ≡ Some at → state_work at.1 ≡ Some work → g ≡ after_answer at.0 work p.frame (reply_of a.answer)
    → IsAnswered v.items (table.in_form w.items.table w.items.schema (stored_items w.items) c) a → IsThreadOpen (frames_of v) name.thread
    → IsMadeBy v name (does w name bound p) (record { name = name; bound = bound; change = change_from g a.touch })
call w v name bound p c a g at work e stands works gives answered free =
    let o = table.in_form w.items.table w.items.schema (stored_items w.items) c in
    let is : g ≡ after_answer at.0 work p.frame o.answer = gives ∙ ap (after_answer at.0 work p.frame) answered.answer in
    record {
      named = refl;
      ready = ready_touch v name bound g o a.touch free (subst (λ (x : Frame). is_unparked x) (sym is) (answer_open at.0 work p.frame o.answer)) answered.touch;
      effect_of = effect_with_bound bound (call_effect name at.0 work p.frame o);
      is = ap (λ (x : Outcome). option_map (effect_with_bound bound) (effect_of_work w.items name p x)) e ∙ rw (stands, works) refl;
      made = made_touch v name bound g (after_answer at.0 work p.frame o.answer) o a.touch is answered.touch;
    }
