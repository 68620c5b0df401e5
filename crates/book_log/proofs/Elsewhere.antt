-- A start and a step change threads of their own execution alone.
use Rattle.std.proofs.Common.{◌≡◌, ℕ, true, false, List, refl, ap, sym, subst, ◌∙◌, Some}
use Rattle.std.specs.Str.{bytes_eq}
use Rattle.std.proofs.lemmas.Slice.Eq.{bytes_eq-Decides}
use Rattle.json_tree.specs.declared.tree.Json.{Json}
use Rattle.step_names.specs.Thread.{Thread}
use Rattle.step_names.specs.declared.step.StepName.{StepName}
use Rattle.step_names.proofs.OrderLaws.{thread_same}
use Rattle.step_names.proofs.UnderLaws.{under_Decides}
use Rattle.trace_theory.proofs.Lists.{by_bool}
use Rattle.depends.specs.Effects.{Effect, effect_of}
use Rattle.depends.specs.Fact.{Fact}
use Rattle.depends.specs.Instance.{TakenStep, reaches}
use Rattle.depends.specs.Kind.{Kind}
use Rattle.depends.specs.Run.{after_effect, take_step}
use Rattle.depends.specs.Steps.{Step, started, moved, name_of, start_name}
use Rattle.depends.specs.World.{Setting, World, is_same_thread}
use Rattle.depends.proofs.Planned.{planned}
use Rattle.depends.proofs.Worlds.{effect_taken, frame_other, reached}
use Rattle.book_log.specs.Laws.{LeavesOthers, StartsLeaveOthers, StepsLeaveOthers}
use Rattle.book_log.specs.Legal.{IsAccepted, IsLegal}
use Rattle.book_log.specs.Log.{Log, appended, past_of, setting_of, world_of}
use Rattle.book_log.specs.declared.entry.Entry.TheVariants.{Start, Step as Stepped}
use Rattle.book_log.proofs.LegalRuns.{legal_stands}
use Rattle.book_log.proofs.Standing.{StandsAt, stands_moved, stands_started, world_there}
use Rattle.book_log.proofs.Taking.{start_said, step_said}

not_one : (a b : List ℕ) → bytes_eq a b ≡ false → a ≡ b → ⊥
not_one a b apart same = let clash : false ≡ true = sym apart ∙ (bytes_eq-Decides a b).1 same in cc

others_there : (w : World) (d : Effect) (t : Thread) → bytes_eq d.fact.name.thread.exec t.exec ≡ false → (after_effect w d).frames t ≡ w.frames t
others_there w d t apart = frame_other w d t own under
  where
    own : is_same_thread d.fact.name.thread t ≡ false
    own = by_bool (is_same_thread d.fact.name.thread t) (is_same_thread d.fact.name.thread t ≡ false)
        (λ h. absurd (not_one d.fact.name.thread.exec t.exec apart (ap (λ (x : Thread). x.exec) (thread_same d.fact.name.thread t h))))
        (λ h. h)

    under : reaches d.fact t ≡ false
    under = by_bool (reaches d.fact t) (reaches d.fact t ≡ false)
        (λ h. let k = reached d.fact t h in
        absurd (not_one d.fact.name.thread.exec t.exec apart (sym ((under_Decides t d.fact.name.thread k.fork).0 k.under).0)))
        (λ h. h)

taken_elsewhere : (s : Setting) (w v : World) (step : Step) (f : Fact) (exec : List ℕ) → take_step s w step ≡ Some (v, f) → (name_of step).thread.exec ≡ exec
    → (t : Thread) → bytes_eq exec t.exec ≡ false → v.frames t ≡ w.frames t
taken_elsewhere s w v step f exec takes named t apart =
    let k = effect_taken s w v step f takes in
    let own : k.0.fact.name.thread.exec ≡ exec = ap (λ (n : StepName). n.thread.exec) (planned s w step k.0 k.1).0 ∙ named in
    ap (λ (x : World). x.frames t) (sym k.2) ∙ others_there w k.0 t (subst (λ (e : List ℕ). bytes_eq e t.exec ≡ false) (sym own) apart)

pub starts_leave_others : StartsLeaveOthers
starts_leave_others log exec machine input legal a t apart =
    let s = setting_of log in
    let w = world_of log in
    let ts = past_of log in
    let h = legal_stands log legal in
    let can = start_said log s w ts h exec machine input (start_name exec.exec) a.0 a.1 in
    let now = stands_started log s w can.after ts exec machine input can.fact h can.takes in
    ap (λ (x : World). x.frames t) (world_there _ _ _ _ now) ∙ taken_elsewhere s w can.after (started exec.exec machine input) can.fact exec.exec can.takes refl t apart

pub steps_leave_others : StepsLeaveOthers
steps_leave_others log name kind legal a t apart =
    let s = setting_of log in
    let w = world_of log in
    let ts = past_of log in
    let h = legal_stands log legal in
    let can = (step_said log s w ts h name.thread (record { name = name; kind = kind }) a refl).0 in
    let now = stands_moved log s w can.after ts name kind can.fact h can.takes in
    ap (λ (x : World). x.frames t) (world_there _ _ _ _ now) ∙ taken_elsewhere s w can.after (moved name) can.fact name.thread.exec can.takes refl t apart
