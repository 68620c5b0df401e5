-- The steps that the tests take and undo.
use Rattle.std.proofs.Common.{◌≡◌, ℕ, ◌<◌, List, [], ◌∷◌, length, arith, refl, ap, sym, subst, ◌∙◌, Option, None, Some}
use Rattle.std.specs.Prelude.{IfSome, slice_get, map}
use Rattle.std.proofs.lemmas.Option.{same_Some}
use Rattle.json_tree.specs.declared.tree.Json.{Json}
use Rattle.asl_tree.specs.Definition.{Definition}
use Rattle.asl_tree.specs.Levels.{IsWellFormedThroughout}
use Rattle.asl_frames.specs.Turn.{first_frame}
use Rattle.asl_frames.specs.declared.frame.Frame.{Frame}
use Rattle.depends.specs.Instance.{steps}
use Rattle.depends.specs.Laws.{facts_of}
use Rattle.depends.specs.Plans as plans
use Rattle.step_names.specs.Thread.{Thread, execution}
use Rattle.step_names.specs.declared.step.StepName.{StepName}
use Rattle.trace_theory.specs.Traces.{without, consequences}
use Rattle.saved_steps.specs.Effects.{effect_of, next_step}
use Rattle.saved_steps.specs.Held.{frames_of, world_view, store_of}
use Rattle.saved_steps.specs.Laws.{StartIsEffect}
use Rattle.saved_steps.specs.Made.{effect_of_next}
use Rattle.saved_steps.specs.Steps.{started, moved, start_name}
use Rattle.saved_steps.specs.World as model
use Rattle.saved_steps.specs.World.{Setting}
use Rattle.saved_steps.specs.declared.next.Next.{Next}
use Rattle.saved_steps.specs.declared.next.Next.TheVariants as next
use Rattle.step_history.specs.History.{TakenStep, IsHistory, IsSomeHistory}
use Rattle.step_history.specs.Levels.{FramesStand, HasNamesBelow, HasWellFormedMachines}
use Rattle.step_history.specs.Moves.{IsMachineOf, IsMoveOf}
use Rattle.step_history.specs.OneMachine.{only, IsOfMachine, GoesOn}
use Rattle.step_history.specs.declared.history.History.{History}
use Rattle.step_history.proofs.Left.{step_there, as_many, facts_alike}

pub some_history : (d : Definition) (h : History) → IsOfMachine d h → IsSomeHistory h
some_history d h is = (only d is.0 is.1, is.2, is.3, is.4)

machine_known : (d : Definition) (table : List ℕ) (o : Option Frame) → IfSome o (λ f. Some d ≡ Some d)
machine_known d table (Some f) = refl
machine_known d table None = tt

-- ---- starts and moves

pub starts : (d m : Definition) (h g : History) (thread : Thread) (text : List ℕ) (input : Json) (f : Frame) → StartIsEffect → thread.path ≡ [] → frames_of h.world thread ≡ None → f ≡ first_frame text m input → m ≡ d
    → GoesOn h (record { thread = thread; no = 0 }) (next.Begin f) g → IsOfMachine d h → IsOfMachine d g
starts d m h g thread text input f law path none first same goes is =
    let s = only d is.0 is.1 in
    let own : thread ≡ execution thread.exec = ap (λ (p : List (ℕ × ℕ)). let t : Thread = record { exec = thread.exec; path = p } in t) path in
    let free : frames_of h.world (execution thread.exec) ≡ None = subst (λ (t : Thread). frames_of h.world t ≡ None) own none in
    let does = law s h.world thread.exec text input d free refl in
    let named : start_name thread.exec ≡ record { thread = thread; no = 0 } = ap (λ (t : Thread). let x : StepName = record { thread = t; no = 0 } in x) (sym own) in
    let nexts : next.Begin (first_frame text d input) ≡ next.Begin f = ap next.Begin (sym (first ∙ ap (λ (x : Definition). first_frame text x input) same)) in
    let all = goes s is.2 is.3 (started thread.exec text input) is.4
    (does ∙ ap (λ (x : StepName). effect_of_next h.world x (next.Begin (first_frame text d input))) named ∙ ap (effect_of_next h.world (record { thread = thread; no = 0 })) nexts) in
    (is.0, is.1, is.2, all.0, all.1)

module _ (d : Definition) (h : History) (is : IsOfMachine d h) (t : Thread) (f : Frame) (there : frames_of h.world t ≡ Some f) where
  whole_all : IsWellFormedThroughout d → HasWellFormedMachines (only d is.0 is.1)
  whole_all whole name = whole

  pub names_below : FramesStand → IsWellFormedThroughout d → IfSome (frames_of h.world t) (HasNamesBelow t)
  names_below stand whole = subst (λ (o : Option Frame). IfSome o (HasNamesBelow t)) (sym there) ((stand (only d is.0 is.1) is.2 is.3 h t f (whole_all whole) is.4 there).below)

  module _ (n : Next)
      (moves : (s : Setting) (base : model.World) (ts : List TakenStep) → IsHistory s base ts h → IsMachineOf s (frames_of h.world t) d → IsMoveOf s h.world t (Some n)) where
    move : IsMoveOf (only d is.0 is.1) h.world t (Some n)
    move = moves (only d is.0 is.1) is.2 is.3 is.4 (machine_known d is.0 (frames_of h.world t))

    same_name : next_step t move.0 ≡ next_step t f
    same_name = ap (next_step t) (same_Some move.0 f (sym move.1 ∙ there))

    pub moved_on : (g : History) → GoesOn h (next_step t f) n g → IsOfMachine d g
    moved_on g goes =
        let does = subst (λ (x : StepName). effect_of (only d is.0 is.1) (world_view h.world) (moved x) ≡ effect_of_next h.world x n) same_name move.3 in
        let all = goes (only d is.0 is.1) is.2 is.3 (moved (next_step t f)) is.4 does in
        (is.0, is.1, is.2, all.0, all.1)

-- ---- steps that are taken back

there_is : (s : Setting) (base : model.World) (ts : List TakenStep) (h : History) (at : ℕ) → IsHistory s base ts h → at < length h.records.items → (t : TakenStep) × (slice_get ts at ≡ Some t)
there_is s base ts h at is within = let many = as_many (store_of h.world) h.records.items ts is.records in step_there ts at (omega (arith, within, many))

pub undone_so : (d : Definition) (h g : History) (at : ℕ) → at < length h.records.items
    → ((s : Setting) (base : model.World) (ts : List TakenStep) (t : TakenStep) → IsHistory s base ts h → slice_get ts at ≡ Some t → IsHistory s base (without (steps s) (t ∷ []) ts) g) → IsOfMachine d h → IsOfMachine d g
undone_so d h g at within goes is =
    let s = only d is.0 is.1 in
    let t = there_is s is.2 is.3 h at is.4 within in
    (is.0, is.1, is.2, without (steps s) (t.0 ∷ []) is.3, goes s is.2 is.3 t.0 is.4 t.1)

pub rolled_so : (d : Definition) (h g : History) (at : ℕ) (places : List ℕ) → at < length h.records.items → places ≡ plans.plan (map (λ r. r.fact) h.records.items) at
    → ((s : Setting) (base : model.World) (ts : List TakenStep) (place : ℕ) (t : TakenStep) → IsHistory s base ts h → slice_get ts place ≡ Some t → places ≡ plans.plan (facts_of ts) place
    → IsHistory s base (without (steps s) (consequences (steps s) ts t.step) ts) g)
    → IsOfMachine d h → IsOfMachine d g
rolled_so d h g at places within plan goes is =
    let s = only d is.0 is.1 in
    let t = there_is s is.2 is.3 h at is.4 within in
    let planned = plan ∙ ap (λ fs. plans.plan fs at) (facts_alike (store_of h.world) h.records.items is.3 is.4.records) in
    (is.0, is.1, is.2, without (steps s) (consequences (steps s) is.3 t.0.step) is.3, goes s is.2 is.3 at t.0 is.4 t.1 planned)
