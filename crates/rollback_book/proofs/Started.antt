-- In a legal log the last start of an execution that remains is the start that remains; and moves are numbered from 1.
use Rattle.std.proofs.Common.{◌≡◌, ◌≤◌, arith, ℕ, Bool, true, false, cond, List, [], ◌∷◌, ◌++◌, ◌-◌, drop, zero, suc, refl, ap, ap₂, sym, subst, ◌∙◌, inl, inr, Option, None, Some}
use Rattle.std.specs.Prelude.{slice_get}
use Rattle.std.proofs.Math.Seq.{drop-cons}
use Rattle.std.proofs.lemmas.Option.{slice_get_within, get_or_from_slice_get}
use Rattle.json_tree.specs.declared.tree.Json.{Json}
use Rattle.step_names.specs.Thread.{Thread, execution}
use Rattle.step_names.specs.declared.step.StepName.{StepName}
use Rattle.step_names.proofs.OrderLaws.{thread_itself}
use Rattle.trace_theory.specs.Traces.{In, names_of}
use Rattle.trace_theory.proofs.Arranged.{named_place}
use Rattle.trace_theory.proofs.Lists.{by_bool, Before-across, In-filter, In-split, here}
use Rattle.trace_theory.proofs.Records.{names-without}
use Rattle.trace_theory.proofs.Runs.{Runs, and_then_some, from_run}
use Rattle.saved_steps.specs.Effects.{frame_effect, if_numbered, move_effect}
use Rattle.saved_steps.specs.Run.{take_step}
use Rattle.saved_steps.specs.Steps.{Step, started, moved, name_of, start_name}
use Rattle.saved_steps.specs.World.{Setting, World, is_same_thread, is_same_step}
use Rattle.saved_steps.specs.declared.fact.Fact.{Fact}
use Rattle.depends.specs.Instance.{steps}
use Rattle.depends.proofs.Named.{steps_have_names}
use Rattle.depends.proofs.Planned.{numbered}
use Rattle.depends.proofs.Turned.{frame_move}
use Rattle.depends.proofs.Worlds.{effect_taken}
use Rattle.step_history.specs.History.{TakenStep, taken_in}
use Rattle.book_log.specs.Legal.{IsAccepted, IsLegal}
use Rattle.book_log.specs.Log.{Log, Remainder, appended, after_entry, base_of, consequences_in, past_of, remainder, remaining, rolled_back, setting_of, world_of}
use Rattle.book_log.specs.declared.begin.Begin.{Begin}
use Rattle.book_log.specs.declared.entry.Entry.{Entry}
use Rattle.book_log.specs.declared.entry.Entry.TheVariants.{Define, Start, Step as Stepped, Undo, Rollback, Settle, Hold}
use Rattle.book_log.proofs.Answered.{once}
use Rattle.book_log.proofs.LegalRuns.{of_log, of_legal, legal_stands}
use Rattle.book_log.proofs.Standing.{is_run, names_there, from_start, remainder_next, stands_started}
use Rattle.book_log.proofs.Taking.{start_said}
use Rattle.rollback_book.specs.Rerunning.{Origin, last_start, or_earlier, start_in}

-- ---- the last start

or_none : (o : Option Origin) → or_earlier o None ≡ o
or_none None = refl
or_none (Some x) = refl

or_three : (a b c : Option Origin) → or_earlier (or_earlier a b) c ≡ or_earlier a (or_earlier b c)
or_three None b c = refl
or_three (Some x) b c = refl

-- with one more entry
last_of_more : (t : Thread) (entries : List Entry) (e : Entry) → last_start t (entries ++ e ∷ []) ≡ or_earlier (start_in t e) (last_start t entries)
last_of_more t [] e = sym (or_none (start_in t e))
last_of_more t (x ∷ entries) e = ap (λ (o : Option Origin). or_earlier o (start_in t x)) (last_of_more t entries e) ∙ or_three (start_in t e) (last_start t entries) (start_in t x)

last_drop : (t : Thread) (k : ℕ) (entries : List Entry) (o : Origin) → last_start t (drop k entries) ≡ Some o → last_start t entries ≡ Some o
last_drop t zero entries o h = h
last_drop t (suc k) [] o h = cc
last_drop t (suc k) (x ∷ entries) o h = ap (λ (e : Option Origin). or_earlier e (start_in t x)) (last_drop t k entries o h)

-- an entry after which the execution isn't started again
pub last_found : (t : Thread) (entries : List Entry) (later : ℕ) (e : Entry) (o : Origin) → last_start t (drop later entries) ≡ None → 1 ≤ later → slice_get entries (later - 1) ≡ Some e → start_in t e ≡ Some o → last_start t entries ≡ Some o
last_found t entries later e o none some there starts =
    let within = slice_get_within entries (later - 1) e there in
    let n : suc (later - 1) ≡ later = omega (arith, some) in
    let here : drop (later - 1) entries ≡ e ∷ drop later entries =
    drop-cons entries (later - 1) e within ∙ ap₂ (λ (x : Entry) (k : ℕ). x ∷ drop k entries) (get_or_from_slice_get entries (later - 1) e e there) n in
    last_drop t (later - 1) entries o
    (ap (last_start t) here ∙ ap (λ (x : Option Origin). or_earlier x (start_in t e)) none ∙ starts)

-- each start that remains is the last of its execution
abbrev AreLast : Log → Type 0
AreLast log = (exec machine : List ℕ) (input : Json) → In (started exec machine input) (remaining log) → last_start (execution exec) log.entries ≡ Some (machine, input)

-- an entry that starts nothing, after which no other step remains
kept_last : (log : Log) (e : Entry) → ((t : Thread) → start_in t e ≡ None) → ((exec machine : List ℕ) (input : Json) → In (started exec machine input) (remaining (appended log e)) → In (started exec machine input) (remaining log)) → AreLast log → AreLast (appended log e)
kept_last log e none inside h exec machine input i =
    last_of_more (execution exec) log.entries e ∙ ap (λ (o : Option Origin). or_earlier o (last_start (execution exec) log.entries)) (none (execution exec)) ∙ h exec machine input (inside exec machine input i)

steps_next : (log : Log) (e : Entry) → remaining (appended log e) ≡ (after_entry log.begin (remainder log) e).steps
steps_next log e = ap (λ (r : Remainder). r.steps) (remainder_next log e)

no_other : (exec machine : List ℕ) (input : Json) (name : StepName) (ss : List Step) → In (started exec machine input) (ss ++ moved name ∷ []) → In (started exec machine input) ss
no_other exec machine input name ss i = elim (In-split (started exec machine input) ss (moved name ∷ []) i) [ inl j ↦ j | inr j ↦ elim j [ inl e ↦ absurd (apart e) | inr n ↦ absurd n ] ]
  where
    apart : started exec machine input ≡ moved name → ⊥
    apart e = cc

rolled_inside : (log : Log) (name : StepName) (step : Step) → IsLegal log → In step (rolled_back log.begin (remainder log) name) → In step (remaining log)
unfolding rolled_back
rolled_inside log name step legal i =
    let s = setting_of log in
    let ts = past_of log in
    let all = consequences_in log.begin (remainder log) name in
    subst (In step) (names_there log s (world_of log) ts (legal_stands log legal))
    (In-filter _ (names_of (steps s) ts) step (subst (In step) (names-without (steps s) all ts) i)).0

-- a new start is of another execution than those that remain
started_anew : (log : Log) (x : Thread) (machine exec given : List ℕ) (input origin : Json) → IsLegal log → IsAccepted log (Start x machine input) → In (started exec given origin) (remaining log) → is_same_thread (execution exec) x ≡ false
started_anew log x machine exec given input origin legal a i =
    let s = setting_of log in
    let w = world_of log in
    let ts = past_of log in
    let h = legal_stands log legal in
    let can = start_said log s w ts h x machine input (start_name x.exec) a.0 a.1 in
    let t = taken_in w (started x.exec machine input) can.fact in
    let there = stands_started log s w can.after ts x machine input can.fact h can.takes in
    let p = named_place (steps s) (base_of log) (steps_have_names s (base_of log) (from_start log s w ts h)) (started exec given origin) ts (subst (In (started exec given origin)) (sym (names_there log s w ts h)) i) in
    let stood : In p.step ts = subst (In p.step) (sym p.whole) (here p.step p.front p.back) in
    let apart = once (appended log (Start x machine input)) s can.after (ts ++ t ∷ []) there p.step t (Before-across p.step t ts (t ∷ []) stood (inl refl)) in
    let names : is_same_step (start_name exec) (start_name x.exec) ≡ false = ap (λ (n : StepName). is_same_step n (start_name x.exec)) (ap name_of (sym p.named)) ∙ apart in
    let own : x ≡ execution x.exec = ap (λ (q : List (ℕ × ℕ)). let y : Thread = record { exec = x.exec; path = q } in y) a.1 in
    by_bool (is_same_thread (execution exec) x) _
    (λ k. let same : is_same_thread (execution exec) (execution x.exec) ≡ true = ap (is_same_thread (execution exec)) (sym own) ∙ k in
    let both : is_same_step (start_name exec) (start_name x.exec) ≡ true = rw same refl in
    let clash = sym names ∙ both in
    absurd (cc))
    (λ k. k)

last_next : (log : Log) (e : Entry) → IsLegal log → AreLast log → IsAccepted log e → AreLast (appended log e)
last_next log (Define name machine) legal h a =
    kept_last log (Define name machine) (λ t. refl) (λ exec given input i. subst (In (started exec given input)) (steps_next log (Define name machine)) i) h
last_next log (Start x machine input) legal h a = λ exec given origin i.
    elim (In-split (started exec given origin) (remaining log) (started x.exec machine input ∷ []) (subst (In (started exec given origin)) (steps_next log (Start x machine input)) i)) as (λ _. last_start (execution exec) (log.entries ++ Start x machine input ∷ []) ≡ Some (given, origin)) [
      | inl j ↦ last_of_more (execution exec) log.entries (Start x machine input)
          ∙ ap (λ (b : Bool). or_earlier (cond b (Some (machine, input)) None) (last_start (execution exec) log.entries)) (started_anew log x machine exec given input origin legal a j)
          ∙ h exec given origin j
      | inr j ↦ elim j as (λ _. last_start (execution exec) (log.entries ++ Start x machine input ∷ []) ≡ Some (given, origin)) [
        | inl e ↦ last_of_more (execution exec) log.entries (Start x machine input) ∙ ap (λ (b : Bool). or_earlier (cond b (Some (machine, input)) None) (last_start (execution exec) log.entries)) (own exec given origin e) ∙ ap (λ (o : Origin). Some o) (same exec given origin e)
        | inr n ↦ absurd n
      ]
    ]
  where
    execs : (exec given : List ℕ) (origin : Json) → started exec given origin ≡ started x.exec machine input → exec ≡ x.exec
    execs exec given origin e = cc

    same : (exec given : List ℕ) (origin : Json) → started exec given origin ≡ started x.exec machine input → ◌≡◌ {A = Origin} (machine, input) (given, origin)
    same exec given origin e = let m : machine ≡ given = cc in let j : input ≡ origin = cc in ap₂ (λ (y : List ℕ) (z : Json). let o : Origin = (y, z) in o) m j

    own : (exec given : List ℕ) (origin : Json) → started exec given origin ≡ started x.exec machine input → is_same_thread (execution exec) x ≡ true
    own exec given origin e =
        let root : execution x.exec ≡ x = ap (λ (q : List (ℕ × ℕ)). let y : Thread = record { exec = x.exec; path = q } in y) (sym a.1) in
        ap₂ (λ (y z : Thread). is_same_thread y z) (ap execution (execs exec given origin e)) (sym root) ∙ thread_itself (execution x.exec)
last_next log (Stepped name kind) legal h a =
    kept_last log (Stepped name kind) (λ t. refl) (λ exec given input i. no_other exec given input name (remaining log) (subst (In (started exec given input)) (steps_next log (Stepped name kind)) i)) h
last_next log (Undo name) legal h a =
    kept_last log (Undo name) (λ t. refl) (λ exec given input i. (In-filter _ (remaining log) (started exec given input) (subst (In (started exec given input)) (steps_next log (Undo name)) i)).0) h
last_next log (Rollback name undone) legal h a =
    kept_last log (Rollback name undone) (λ t. refl) (λ exec given input i. rolled_inside log name (started exec given input) legal (subst (In (started exec given input)) (steps_next log (Rollback name undone)) i)) h
last_next log (Hold name count) legal h a = kept_last log (Hold name count) (λ t. refl) (λ exec given input i. subst (In (started exec given input)) (steps_next log (Hold name count)) i) h
last_next log Settle legal h a = kept_last log Settle (λ t. refl) (λ exec given input i. absurd (subst (In (started exec given input)) (steps_next log Settle) i)) h

last_first : (begin : Begin) → IsLegal (of_log begin []) → AreLast (of_log begin [])
unfolding remainder
last_first begin legal exec machine input i = absurd i

pub legal_last : (log : Log) → IsLegal log → (exec machine : List ℕ) (input : Json) → In (started exec machine input) (remaining log) → last_start (execution exec) log.entries ≡ Some (machine, input)
legal_last log legal = of_legal AreLast last_first last_next log legal

-- ---- numbers

move_numbered : (s : Setting) (w v : World) (name : StepName) (fact : Fact) → take_step s w (moved name) ≡ Some (v, fact) → 1 ≤ name.no
move_numbered s w v name fact h =
    let d = effect_taken s w v (moved name) fact h in
    let k = and_then_some (if_numbered name.no) (move_effect s w name.thread) d.0 d.1 in
    let n = (numbered k.0 d.0 name.no k.2).0 in
    let f = and_then_some (frame_effect s w name.thread) (w.frames name.thread) k.0 k.1 in
    let m = ap (λ (x : StepName). x.no) (frame_move s w name.thread f.0 k.0 f.2).named in
    omega (arith, n, m)

numbered_along : (s : Setting) (ts : List TakenStep) (w v : World) → Runs (steps s) w ts v → (name : StepName) → In (moved name) (names_of (steps s) ts) → 1 ≤ name.no
numbered_along s [] w v h name i = absurd i
numbered_along s (t ∷ ts) w v h name (inl e) = move_numbered s w h.0 name t.fact (ap (take_step s w) e ∙ h.1.0)
numbered_along s (t ∷ ts) w v h name (inr i) = numbered_along s ts h.0 v h.2 name i

pub legal_numbered : (log : Log) → IsLegal log → (name : StepName) → In (moved name) (remaining log) → 1 ≤ name.no
legal_numbered log legal name i =
    let s = setting_of log in
    let h = legal_stands log legal in
    numbered_along s (past_of log) (base_of log) (world_of log) (from_run (steps s) (past_of log) (base_of log) (world_of log) (is_run log s (world_of log) (past_of log) h)) name
    (subst (In (moved name)) (sym (names_there log s (world_of log) (past_of log) h)) i)
