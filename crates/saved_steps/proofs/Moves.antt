-- The laws of steps taken back, and of what a step's next does.
use Rattle.std.proofs.Common.{◌≡◌, ℕ, ◌+◌, ◌==◌, Bool, true, false, ◌&&◌, ◌||◌, cond, refl, sym, ap, ◌∙◌, Option, Some, None}
use Rattle.std.specs.Option.{option_map, option_and_then}
use Rattle.std.proofs.lemmas.Bool.{eq-eqb}
use Rattle.std.proofs.lemmas.Option.{same_Some}
use Rattle.attr_values.specs.declared.key.Key.{Key}
use Rattle.item_store.specs.Deciding.{ItemAttributes}
use Rattle.item_store.specs.Store.{stored_items}
use Rattle.item_store.specs.Table as table
use Rattle.item_store.specs.Table.{Table, is_same_key}
use Rattle.item_store.specs.declared.access.AccessMode.{AccessMode}
use Rattle.item_store.proofs.Slots.{same_key}
use Rattle.asl_forward.specs.Outcomes.{turn}
use Rattle.asl_forward.specs.Results.{Work, state_work, after_answer}
use Rattle.branch_tree.specs.Turn.{Location, located}
use Rattle.branch_tree.specs.Frame.{Frame}
use Rattle.branch_tree.specs.Phase.TheVariants.{Ready}
use Rattle.asl_forward.specs.declared.prepared.Outcome.{Outcome}
use Rattle.asl_forward.specs.declared.prepared.Outcome.TheVariants as outcome
use Rattle.asl_forward.specs.declared.prepared.Prepared.{Prepared}
use Rattle.step_names.specs.Thread.{Thread}
use Rattle.step_names.specs.declared.step.StepName.{StepName}
use Rattle.step_names.proofs.OrderLaws.{thread_same}
use Rattle.saved_steps.specs.Effects.{Effect, effect_of, effect_of_turn, turn_effect, first_bound, effect_with_bound, if_numbered, called, stands, next_step}
use Rattle.saved_steps.specs.Held.{frames_of, world_view}
use Rattle.saved_steps.specs.Saving.{kept, undo, item_written}
use Rattle.saved_steps.specs.Laws.{changes, with_places, UndoneAtOnce, UndoneLater, TakenAgain, IsOver, StartIsEffect, WorkIsEffect, JoinIsEffect, TerminateIsEffect}
use Rattle.saved_steps.specs.Made.{effect_of_work}
use Rattle.saved_steps.specs.Run.{after_effect, begun_frame}
use Rattle.saved_steps.specs.Steps.{makes, closes, moved, is_write, is_write_of}
use Rattle.saved_steps.specs.World.{Setting, is_same_thread}
use Rattle.saved_steps.specs.declared.fact.Access.{Access}
use Rattle.saved_steps.specs.declared.world.World as held
use Rattle.saved_steps.proofs.Begun.{turn_goes}
use Rattle.saved_steps.proofs.Undone.{same_world, undone}

-- ---- taken back, and taken again

pub undone_at_once : UndoneAtOnce
undone_at_once = undone

frame_later : (same made closed : Bool) (own was now : Option Frame) → (same ≡ true → own ≡ was) → (made ≡ true → was ≡ None)
    → cond same own (cond made None (cond closed (cond closed was None) now)) ≡ cond (same || (made || closed)) was now
frame_later true made closed own was now s m = s refl
frame_later false true closed own was now s m = sym (m refl)
frame_later false false true own was now s m = refl
frame_later false false false own was now s m = refl

item_later : (w k : Bool) (own was now : Option ItemAttributes) → (k ≡ true → own ≡ was) → cond (w && k) (cond w own None) now ≡ cond (w && k) was now
item_later true true own was now h = h refl
item_later true false own was now h = refl
item_later false k own was now h = refl

item_there : (items now : Table) (access : Option Access) (key : Key) → cond (is_write_of access key) (item_written items access) (now key) ≡ cond (is_write_of access key) (items key) (now key)
item_there items now None key = refl
item_there items now (Some a) key = item_later (is_write a.mode) (is_same_key a.key key) (items a.key) (items key) (now key) (λ e. ap items (same_key a.key key e))

pub undone_later : UndoneLater
undone_later w x s nothing = same_world (undo x s (kept w s)) (with_places s x w)
    (λ t. frame_later (is_same_thread s.name.thread t) (makes s t) (closes s t) (w.frames s.name.thread) (w.frames t) (x.frames t) (λ e. ap w.frames (thread_same s.name.thread t e)) (nothing t))
    (λ key. item_there w.items x.items s.access key)

frame_again : (same made closed : Bool) (f b own was now : Option Frame) → ((same || (made || closed)) ≡ true → now ≡ cond same f (cond made b (cond closed None was)))
    → cond same f (cond made b (cond closed None (cond same own (cond made None (cond closed (cond closed was None) now))))) ≡ now
frame_again true made closed f b own was now h = sym (h refl)
frame_again false true closed f b own was now h = sym (h refl)
frame_again false false true f b own was now h = sym (h refl)
frame_again false false false f b own was now h = refl

item_again : (w : Bool) (new own was now : Option ItemAttributes) → (w ≡ true → now ≡ cond w new was) → cond w new (cond w own now) ≡ now
item_again true new own was now h = sym (h refl)
item_again false new own was now h = refl

pub taken_again : TakenAgain
taken_again w x d agree = same_world (after_effect (undo x d.fact (kept w d.fact)) d) x
    (λ t. let s = d.fact in
    frame_again (is_same_thread s.name.thread t) (makes s t) (closes s t) (Some d.frame) (begun_frame d t) (w.frames s.name.thread) (w.frames t) (x.frames t) (again t))
    (λ key. item_again (is_write_of d.fact.access key) d.item (item_written w.items d.fact.access) (w.items key) (x.items key) (agree.items key))
  where
    again : (t : Thread) → (changes d.fact t) ≡ true → x.frames t ≡ (after_effect w d).frames t
    again t h = agree.frames t h

-- ---- a step's next

pub start_is_effect : StartIsEffect
start_is_effect s w exec machine input d absent known = rw (absent, known) refl

-- an effect is of its step's name
called_name : (name : StepName) (g : Frame) (items : Table) (access : Option (Key × AccessMode)) → (called name g items access).fact.name ≡ name
called_name name g items None = refl
called_name name g items (Some x) = refl

numbered : (number : ℕ) (d : Effect) → d.fact.name.no ≡ number → if_numbered number d ≡ Some d
numbered number d e = rw (eq-eqb d.fact.name.no number e) refl

turned_as : (s : Setting) (w : held.World) (name : StepName) (p : Prepared) (at : Location) (o : Outcome) → IsOver s w → located p.machine p.frame ≡ Some at
    → option_and_then (if_numbered name.no) (effect_of_turn s (world_view w) name at p.frame o) ≡ effect_of_work w.items name p o
turned_as s w name p at (outcome.Next g) over h = numbered name.no _ refl
turned_as s w name p at (outcome.Fork g branches) over h = numbered name.no _ refl
turned_as s w name p at (outcome.Call c) over h = rw (h, ← over.table, ← over.schema) (by (state_work at.1))
  where
    by : (work : Option Work) → option_and_then (if_numbered name.no) (option_map (λ x. let o = table.in_form w.items.table w.items.schema (stored_items w.items) c in called name (after_answer at.0 x p.frame o.answer) o.items o.access) work)
        ≡ option_map (λ x. let o = table.in_form w.items.table w.items.schema (stored_items w.items) c in called name (after_answer at.0 x p.frame o.answer) o.items o.access) work
    by None = refl
    by (Some x) =
        let o = table.in_form w.items.table w.items.schema (stored_items w.items) c in
        numbered name.no (called name (after_answer at.0 x p.frame o.answer) o.items o.access) (ap (λ (n : StepName). n.no) (called_name name (after_answer at.0 x p.frame o.answer) o.items o.access))

there : (d : Option Location) (f : Frame) (o : Outcome) → option_map (λ at. turn at f) d ≡ Some o → (at : Location) × (d ≡ Some at) × (turn at f ≡ o)
there None f o h = cc
there (Some at) f o h = (at, refl, same_Some (turn at f) o h)

named : (name : StepName) (f : Frame) → name.no ≡ f.count + 1 → next_step name.thread f ≡ name
named name f e = ap (λ (n : ℕ). let x : StepName = record { thread = name.thread; no = n } in x) (sym e)

-- the turn of a thread that may begin, told with a bound and by its number
bounded_as : (n number : ℕ) (o p : Option Effect) → option_and_then (if_numbered number) o ≡ p → option_and_then (if_numbered number) (option_map (effect_with_bound n) o) ≡ option_map (effect_with_bound n) p
bounded_as n number None p h = ap (option_map (effect_with_bound n)) h
bounded_as n number (Some d) p h = by (d.fact.name.no == number) ∙ ap (option_map (effect_with_bound n)) h
  where
    by : (b : Bool) → cond b (Some (effect_with_bound n d)) None ≡ option_map (effect_with_bound n) (cond b (Some d) None)
    by true = refl
    by false = refl

ready_effect : (s : Setting) (w : held.World) (name : StepName) (f : Frame) (at : Location) → frames_of w name.thread ≡ Some f → stands s f ≡ Some at → f.phase ≡ Ready → name.no ≡ f.count + 1
    → effect_of s (world_view w) (moved name) ≡ option_and_then (if_numbered name.no) (turn_effect (frames_of w) name.thread f (effect_of_turn s (world_view w) name at f (turn at f)))
ready_effect s w name f at frame stand phase number = rw (frame, stand, phase, named name f number) refl

pub work_is_effect : WorkIsEffect
work_is_effect s w name p over frame known number begins =
    let at = there (located p.machine p.frame) p.frame p.outcome p.turns in
    let stands_there : stands s p.frame ≡ Some at.0 = ap (option_and_then (λ d. located d p.frame)) known ∙ at.1 in
    let n = first_bound (frames_of w) name.thread p.frame in
    ready_effect s w name p.frame at.0 frame stands_there p.ready number
    ∙ ap (option_and_then (if_numbered name.no)) (turn_goes (frames_of w) name.thread p.frame (effect_of_turn s (world_view w) name at.0 p.frame (turn at.0 p.frame)) begins)
    ∙ ap (λ (o : Outcome). option_and_then (if_numbered name.no) (option_map (effect_with_bound n) (effect_of_turn s (world_view w) name at.0 p.frame o))) at.2
    ∙ bounded_as n name.no (effect_of_turn s (world_view w) name at.0 p.frame p.outcome) (effect_of_work w.items name p p.outcome) (turned_as s w name p at.0 p.outcome over at.1)

pub join_is_effect : JoinIsEffect
join_is_effect s w name f n bound at work ds frame phase stand works fault done number = rw (frame, stand, phase, named name f number, fault, done, works) (numbered name.no _ refl)

pub terminate_is_effect : TerminateIsEffect
terminate_is_effect s w name f n bound at fault frame phase stand failed number = rw (frame, stand, phase, named name f number, failed) (numbered name.no _ refl)
