-- A step that is taken can be undone at once, and one that is undone can be taken again.
use Rattle.std.proofs.Common.{◌≡◌, None, false, List, [], ◌∷◌, ◌++◌, refl, ap, sym, subst, ◌∙◌, Some, Ok}
use Rattle.std.proofs.lemmas.List.{append-nil}
use Rattle.step_names.specs.Thread.{execution}
use Rattle.trace_theory.specs.Traces.{In, Takes, names_of, without, undone, IsRun, IsMaximal}
use Rattle.trace_theory.proofs.Arranged.{In-names}
use Rattle.trace_theory.proofs.Commuting.{free_steps_undo}
use Rattle.trace_theory.proofs.Least.{without_one}
use Rattle.trace_theory.proofs.Lists.{place}
use Rattle.trace_theory.proofs.Orders.{unneeded_behind}
use Rattle.trace_theory.proofs.Records.{free_record}
use Rattle.depends.specs.Saving.{SavedState}
use Rattle.depends.specs.Run.{take_step}
use Rattle.depends.specs.Steps.{Step, started, moved, name_of, start_name}
use Rattle.depends.specs.World.{Setting, World}
use Rattle.depends.specs.Fact.{Fact}
use Rattle.depends.specs.Instance.{TakenStep, steps, taken_in}
use Rattle.depends.specs.Laws.{IsFrom}
use Rattle.depends.proofs.Reversible.{steps_are_reversible}
use Rattle.depends.proofs.Named.{steps_have_names}
use Rattle.book_log.specs.Answers.{undo_answer, is_full_for_step, needed_left, entry_for, entry_of}
use Rattle.book_log.specs.Laws.{LeavesTheSame, UndoTakesBack, UndoTakesBackStart, AgainGivesBack}
use Rattle.book_log.specs.Legal.{IsAccepted}
use Rattle.book_log.specs.Log.{Log, appended, base_of, setting_of, world_of, past_of}
use Rattle.book_log.specs.declared.entry.Entry.TheVariants.{Start, Step as Stepped, Undo}
use Rattle.book_log.proofs.Standing.{StandsAt, from_start, world_there, past_there, names_there, is_run, stands_started, stands_moved, stands_undone}
use Rattle.book_log.proofs.Answered.{once, undo_said, free_undone}
use Rattle.book_log.proofs.Taking.{start_said, start_accepted, step_said, step_accepted}
use Rattle.book_log.proofs.LegalRuns.{legal_stands}
use Rattle.book_log.proofs.Counts.{IsShallow, legal_counts}

-- where two logs stand alike, the same is left of them
pub leaves_same : (a b : Log) (s : Setting) (w v : World) (ts us : List TakenStep) → StandsAt a s w ts → StandsAt b s v us → w ≡ v → ts ≡ us → LeavesTheSame a b
leaves_same a b s w v ts us h k world past = record {
  steps = sym (names_there a s w ts h) ∙ ap (names_of (steps s)) past ∙ names_there b s v us k;
  world = world_there a s w ts h ∙ world ∙ sym (world_there b s v us k);
  past = past_there a s w ts h ∙ past ∙ sym (past_there b s v us k);
}

-- ---- undone at once

-- a log that stands after one more step of another
taken_back : (log after : Log) (s : Setting) (w v : World) (ts : List TakenStep) (step : Step) (f : Fact) → StandsAt log s w ts → take_step s w step ≡ Some (v, f) → StandsAt after s v (ts ++ taken_in w step f ∷ [])
    → (undo_answer after (name_of step) ≡ Ok (name_of step)) × LeavesTheSame (appended after (Undo (name_of step))) log
taken_back log after s w v ts step f h takes k =
    let base = base_of log in
    let from = from_start log s w ts h in
    let names = steps_have_names s base from in
    let t = taken_in w step f in
    let one = once after s v (ts ++ t ∷ []) k in
    let free = free_record (steps s) base names ts [] t one refl in
    let gone = without_one (steps s) base names ts [] t one ∙ append-nil ts in
    let world = (steps_are_reversible s base from).taken_back ts w v t (is_run log s w ts h) (takes, refl) in (
      free_undone after s v (ts ++ t ∷ []) k t (name_of step) free refl,
      leaves_same (appended after (Undo (name_of step))) log s (undone (steps s) v t) w (without (steps s) (t ∷ []) (ts ++ t ∷ [])) ts (stands_undone after s v (ts ++ t ∷ []) (name_of step) t k free refl) h world gone,
    )

pub undo_takes_back : UndoTakesBack
undo_takes_back log name kind legal a =
    let s = setting_of log in
    let w = world_of log in
    let ts = past_of log in
    let h = legal_stands log legal in
    let can = (step_said log s w ts h name.thread (record { name = name; kind = kind }) a refl).0 in
    taken_back log (appended log (Stepped name kind)) s w can.after ts (moved name) can.fact h can.takes (stands_moved log s w can.after ts name kind can.fact h can.takes)

pub undo_takes_back_start : UndoTakesBackStart
undo_takes_back_start log exec machine input legal a =
    let s = setting_of log in
    let w = world_of log in
    let ts = past_of log in
    let h = legal_stands log legal in
    let can = start_said log s w ts h exec machine input (start_name exec.exec) a.0 a.1 in
    taken_back log (appended log (Start exec machine input)) s w can.after ts (started exec.exec machine input) can.fact h can.takes (stands_started log s w can.after ts exec machine input can.fact h can.takes)

-- ---- taken again

-- a step that can be taken is accepted where there is room
pub entry_accepted : (log : Log) (s : Setting) (w v : World) (ts : List TakenStep) → StandsAt log s w ts → (t : TakenStep) (step : Step) → take_step s w step ≡ Some (v, t.fact) → IsShallow step → is_full_for_step log ≡ false → needed_left log t.fact ≡ None → IsAccepted log (entry_for t step)
entry_accepted log s w v ts h t (started exec machine input) takes low room free = (start_accepted log s w ts h exec machine input (record { after = v; fact = t.fact; takes = takes }) room, refl, low)
entry_accepted log s w v ts h t (moved name) takes low room free = step_accepted log s w ts h name (record { after = v; fact = t.fact; takes = takes }) room free

entry_stands : (log : Log) (s : Setting) (w v : World) (ts : List TakenStep) → StandsAt log s w ts → (t : TakenStep) (step : Step) → take_step s w step ≡ Some (v, t.fact) → StandsAt (appended log (entry_for t step)) s v (ts ++ taken_in w step t.fact ∷ [])
entry_stands log s w v ts h t (started exec machine input) takes = stands_started log s w v ts (execution exec) machine input t.fact h takes
entry_stands log s w v ts h t (moved name) takes = stands_moved log s w v ts name t.fact.kind t.fact h takes

pub stands_again : (log : Log) (s : Setting) (w v : World) (ts : List TakenStep) (t : TakenStep) → StandsAt log s w ts → Takes (steps s) w t v → StandsAt (appended log (entry_of t)) s v (ts ++ t ∷ [])
stands_again log s w v ts t h takes =
    let own : taken_in w t.step t.fact ≡ t = ap (λ (k : SavedState). let x : TakenStep = record { step = t.step; fact = t.fact; saved = k } in x) (sym takes.1) in
    subst (λ (x : TakenStep). StandsAt (appended log (entry_of t)) s v (ts ++ x ∷ [])) own (entry_stands log s w v ts h t t.step takes.0)

-- a free step that is undone can be taken again
free_again : (s : Setting) (base w : World) (ts : List TakenStep) (t : TakenStep) → IsFrom s base → IsRun (steps s) base ts w → IsMaximal (steps s) ts t → Takes (steps s) (undone (steps s) w t) t w
free_again s base w ts t from run free =
    let p = place t ts free.0 in
    let behind = unneeded_behind (steps s) base (steps_have_names s base from) p.front p.back t (subst (λ (l : List TakenStep). IsMaximal (steps s) l t) p.whole free) in
    (free_steps_undo (steps s) base (steps_are_reversible s base from) w p.front p.back t (subst (λ (l : List TakenStep). IsRun (steps s) base l w) p.whole run) behind).1

pub again_gives_back : AgainGivesBack
again_gives_back log name legal a =
    let s = setting_of log in
    let w = world_of log in
    let ts = past_of log in
    let h = legal_stands log legal in
    let k = (undo_said log s w ts h name name a).0 in
    let t = k.step in
    let less = stands_undone log s w ts name t h k.free k.named in
    let takes = free_again s (base_of log) w ts t (from_start log s w ts h) (is_run log s w ts h) k.free in
    let back = stands_again (appended log (Undo name)) s (undone (steps s) w t) w (without (steps s) (t ∷ []) ts) t less takes in
    let low = (legal_counts log legal).shallow t.step (subst (In t.step) (names_there log s w ts h) (In-names (steps s) (base_of log) (steps_have_names s (base_of log) (from_start log s w ts h)) t ts k.free.0)) in
    record {
      taken = t;
      named = k.fact;
      again = λ room free. entry_accepted (appended log (Undo name)) s (undone (steps s) w t) w (without (steps s) (t ∷ []) ts) less t t.step takes.0 low room free;
      world = world_there (appended (appended log (Undo name)) (entry_of t)) s w (without (steps s) (t ∷ []) ts ++ t ∷ []) back;
      past = past_there (appended (appended log (Undo name)) (entry_of t)) s w (without (steps s) (t ∷ []) ts ++ t ∷ []) back;
    }
