-- The steps of executions are reversible: independent neighbours swap, and what a step kept undoes it.
use Rattle.std.proofs.Common.{◌≡◌, ℕ, ◌+◌, ◌-◌, ◌<◌, ◌≤◌, ◌==◌, Bool, true, false, cond, List, [], ◌∷◌, ◌++◌, arith, map, refl, ap, ap₂, sym, subst, ◌∙◌, inl, inr, Option, None, Some, Result, Ok, Err}
use Rattle.std.specs.Prelude.{◌&&◌, ◌||◌, ◌⊎◌, not, nat_le, is_some, option_map}
use Rattle.std.specs.List.{range_with_len}
use Rattle.std.proofs.Math.Path.{fun_ext}
use Rattle.std.proofs.lemmas.Bool.{and_parts, or_parts, eqb-true, eq-eqb}
use Rattle.std.proofs.lemmas.List.{append-nil}
use Rattle.attr_values.specs.declared.key.Key.{Key}
use Rattle.attr_values.proofs.Same.{key_eq_both}
use Rattle.item_store.specs.Deciding.{ItemAttributes, Decision, decision}
use Rattle.item_store.specs.Table as table
use Rattle.item_store.specs.Table.{Table, is_same_key}
use Rattle.item_store.specs.declared.access.AccessMode.{AccessMode}
use Rattle.item_store.specs.declared.access.AccessMode.TheVariants.{Read, Write}
use Rattle.item_store.specs.declared.call.Request.{Request}
use Rattle.item_store.specs.declared.fault.CallFault.{CallFault}
use Rattle.saved_steps.specs.Definition.{Definition}
use Rattle.saved_steps.specs.Outcomes.{turn}
use Rattle.saved_steps.specs.Results.{Work, state_work, after_answer}
use Rattle.saved_steps.specs.Turn.{Location, first_frame}
use Rattle.saved_steps.specs.Frame.{Frame}
use Rattle.saved_steps.specs.Phase.{Phase}
use Rattle.saved_steps.specs.Phase.TheVariants.{Ready, Parked, Done, Failed}
use Rattle.saved_steps.specs.Outcome.{Outcome}
use Rattle.saved_steps.specs.Outcome.TheVariants as outcome
use Rattle.step_names.specs.Thread.{Thread, execution, child_of}
use Rattle.step_names.specs.Under.{is_under}
use Rattle.step_names.specs.declared.step.StepName.{StepName}
use Rattle.step_names.proofs.OrderLaws.{thread_same, thread_itself}
use Rattle.saved_steps.specs.Effects.{Effect, next_step, own_effect, call_effect, effect_of_turn, kids, first_fault, outputs, effect_over, effect_in, stands, frame_effect, move_effect, if_numbered, effect_of, waits, first_bound, effect_with_bound}
use Rattle.saved_steps.specs.Bounds.{BranchPlace, place_of, sibling, bound_in, in_window}
use Rattle.saved_steps.specs.Held.{paths_of}
use Rattle.saved_steps.specs.Paths.{Path}
use Rattle.saved_steps.specs.Ready.{frame_is, is_done, may_begin}
use Rattle.saved_steps.proofs.Begun.{turn_told, turn_goes}
use Rattle.saved_steps.proofs.Window.{any_same, le_true, not_zero}
use Rattle.saved_steps.specs.Saving.{SavedState, kept, undo, item_written}
use Rattle.saved_steps.specs.Run.{after_effect}
use Rattle.saved_steps.specs.Steps.{Step, started, moved, start_name, name_of, is_fork, is_close, makes, closes, is_write, is_of_key, touches_key, is_write_of, writes_key}
use Rattle.saved_steps.specs.World.{Setting, World, is_same_thread}
use Rattle.saved_steps.specs.declared.fact.Access.{Access}
use Rattle.saved_steps.specs.declared.fact.Fact.{Fact}
use Rattle.saved_steps.specs.declared.fact.Kind.TheVariants.{Start, Call}
use Rattle.trace_theory.specs.Traces.{}
use Rattle.trace_theory.specs.Footprints.{IsReached, HasFootprints}
use Rattle.trace_theory.proofs.Base.{reversible_from}
use Rattle.trace_theory.proofs.Lists.{by_bool}
use Rattle.trace_theory.proofs.Planned.{plans_are_reversible}
use Rattle.trace_theory.proofs.Runs.{and_then_some, map_some, reached_good, reached_here}
use Rattle.depends.specs.Dependence.{conflicts, begins, awaited_by, awaits, depends_directly}
use Rattle.depends.specs.Instance.{Cell, frame_at, item_at, a_frame, an_item, at, steps, plans, reaches, forked_by, is_thread, is_path_end, looks, touches, writes, leaves}
use Rattle.depends.proofs.Awaited.{sibling_awaited, is_awaited, place_whole, other_branch, awaited_parts, awaited_whole}
use Rattle.depends.specs.Laws.{HasNoFrames, IsFrom, StepsAreReversible}
use Rattle.depends.proofs.Planned.{IsPlanned, numbered, planned}
use Rattle.depends.proofs.Threads.{either, or_left, or_right, over_one, nothing_over, child_is_under, above_child, never_under_itself, under_under}
use Rattle.depends.proofs.Turned.{close_move, frame_move, is_parked}
use Rattle.depends.proofs.Worlds.{Good, ParkedAt, base_good, good_after, good_kept, frame_own, frame_reached, frame_other, same_frame, reached, born, none_yet, over_own, closes_it}

pub good : (s : Setting) (base w : World) → HasNoFrames base → IsReached (steps s) base w → Good w
good s base w none r = reached_good (steps s) Good base (base_good base none) (λ w v step fact. good_kept s w v step fact) w r

key_is : (a b : Key) → is_same_key a b ≡ true → a ≡ b
key_is a b h = (key_eq_both a b).0 h

key_itself : (a : Key) → is_same_key a a ≡ true
key_itself a = (key_eq_both a a).1 refl

-- ---- footprints

effect : (w : World) (d : Effect) (c : Cell) → at (after_effect w d) c ≡ cond (writes d c) (leaves d c) (at w c)
effect w d (frame_at t) =
    by_bool (is_same_thread d.fact.name.thread t) _
    (λ k. rw k refl)
    (λ k. by_bool (makes d.fact t) _
    (λ j. rw (k, j) refl)
    (λ j. by_bool (closes d.fact t) _ (λ i. rw (k, j, i) refl) (λ i. rw (k, j, i) refl)))
effect w d (item_at key) = by_bool (writes_key d.fact key) _ (λ j. rw j refl) (λ j. rw j refl)

writes_touches : (a : Option Access) (key : Key) → is_write_of a key ≡ true → is_of_key a key ≡ true
writes_touches None key h = cc
writes_touches (Some a) key h = (and_parts (is_write a.mode) (is_same_key a.key key) h).1

within : (d : Effect) (c : Cell) → writes d c ≡ true → touches d c ≡ true
within d (frame_at t) h = or_left (is_same_thread d.fact.name.thread t || reaches d.fact t) (looks d.fact t) h
within d (item_at key) h = writes_touches d.fact.access key h

a_frame_is : (f g : Option Frame) → a_frame f ≡ a_frame g → f ≡ g
a_frame_is f g h = cc

an_item_is : (a b : Option ItemAttributes) → an_item a ≡ an_item b → a ≡ b
an_item_is a b h = cc

same : (w x : World) → ((c : Cell) → at w c ≡ at x c) → w ≡ x
same w x h =
    ap₂ (λ (f : Thread → Option Frame) (i : Key → Option ItemAttributes). let v : World = record { frames = f; items = i } in v)
    (fun_ext (λ t. a_frame_is (w.frames t) (x.frames t) (h (frame_at t))))
    (fun_ext (λ key. an_item_is (w.items key) (x.items key) (h (item_at key))))

-- ---- an effect, and what it keeps, are a function of what it touches

-- the worlds w and x agree on what an effect touches
record Agree (w x : World) (d : Effect) : Type 0 where
  own : x.frames d.fact.name.thread ≡ w.frames d.fact.name.thread
  closed : (t : Thread) → closes d.fact t ≡ true → x.frames t ≡ w.frames t
  item : (key : Key) → touches_key d.fact key ≡ true → x.items key ≡ w.items key
  looked : (t : Thread) → looks d.fact t ≡ true → x.frames t ≡ w.frames t

agree_at : (w x : World) (d : Effect) → ((c : Cell) → touches d c ≡ true → at x c ≡ at w c) → Agree w x d
agree_at w x d a = record {
  own = own d.fact.name.thread (or_left (is_same_thread d.fact.name.thread d.fact.name.thread) (reaches d.fact d.fact.name.thread) (thread_itself d.fact.name.thread));
  closed = λ t h. own t (or_right (is_same_thread d.fact.name.thread t) (reaches d.fact t) (or_right (makes d.fact t) (closes d.fact t) h));
  item = λ key h. an_item_is (x.items key) (w.items key) (a (item_at key) h);
  looked = λ t h. a_frame_is (x.frames t) (w.frames t) (a (frame_at t) (or_right (is_same_thread d.fact.name.thread t || reaches d.fact t) (looks d.fact t) h));
}
  where
    own : (t : Thread) → (is_same_thread d.fact.name.thread t || reaches d.fact t) ≡ true → x.frames t ≡ w.frames t
    own t h = a_frame_is (x.frames t) (w.frames t) (a (frame_at t) (or_left (is_same_thread d.fact.name.thread t || reaches d.fact t) (looks d.fact t) h))

-- the item of a key after a call of it
abbrev item_then : Key → AccessMode → Option ItemAttributes → Option ItemAttributes → Option ItemAttributes
item_then key Read new old = old
item_then key Write new old = cond (is_same_key key key) new old

-- what a call of a key does, by the item that is there
abbrev key_effect : StepName → Definition → Work → Frame → Request → Key → Option ItemAttributes → Effect
key_effect name level work f request key old =
    let d = decision request old in
    record { fact = record { name = name; kind = Call; access = Some record { key = key; mode = d.access }; bound = 0 }; frame = after_answer level work f d.answer; branches = []; item = item_then key d.access d.new old }

module _ (name : StepName) (level : Definition) (work : Work) (f : Frame) (w x : World) (d : Effect) (agree : (key : Key) → touches_key d.fact key ≡ true → x.items key ≡ w.items key) where
  by_key : (items : Table) (request : Request) (key : Key) → call_effect name level work f (table.at_key items key (decision request (items key))) ≡ key_effect name level work f request key (items key)
  by_key items request key = by_mode (decision request (items key))
    where
      by_mode : (e : Decision) → call_effect name level work f (table.at_key items key e) ≡ (let k : Effect = record { fact = record { name = name; kind = Call; access = Some record { key = key; mode = e.access }; bound = 0 }; frame = after_answer level work f e.answer; branches = []; item = item_then key e.access e.new (items key) } in k)
      by_mode e = ap (λ (o : Option ItemAttributes). let k : Effect = record { fact = record { name = name; kind = Call; access = Some record { key = key; mode = e.access }; bound = 0 }; frame = after_answer level work f e.answer; branches = []; item = o } in k) (then_is e.access e.new)
        where
          then_is : (mode : AccessMode) (new : Option ItemAttributes) → table.table_after items key mode new key ≡ item_then key mode new (items key)
          then_is Read new = refl
          then_is Write new = refl

  key_touched : (request : Request) (key : Key) (old : Option ItemAttributes) → key_effect name level work f request key old ≡ d → touches_key d.fact key ≡ true
  key_touched request key old e = ap (λ (k : Effect). touches_key k.fact key) (sym e) ∙ key_itself key

  call_alike : (request : Request) (asked : Result Key CallFault) → call_effect name level work f (table.on_key w.items request asked) ≡ d → call_effect name level work f (table.on_key x.items request asked) ≡ d
  call_alike request (Err fault) h = h
  call_alike request (Ok key) h =
      let k = sym (by_key w.items request key) ∙ h in
      by_key x.items request key ∙ ap (key_effect name level work f request key) (agree key (key_touched request key (w.items key) k)) ∙ k

turn_alike : (s : Setting) (w x : World) (name : StepName) (at : Location) (f : Frame) (o : Outcome) (d : Effect) → ((key : Key) → touches_key d.fact key ≡ true → x.items key ≡ w.items key) → effect_of_turn s w name at f o ≡ Some d → effect_of_turn s x name at f o ≡ Some d
turn_alike s w x name at f (outcome.Next g) d a h = h
turn_alike s w x name at f (outcome.Fork g branches) d a h = h
turn_alike s w x name at f (outcome.Call c) d a h =
    let m = map_some (λ (work : Work). call_effect name at.0 work f (table.in_form s.table s.schema w.items c)) (state_work at.1) d h in
    let e = m.1 in
    rw e (ap Some (call_alike name at.0 m.0 f w x d a c.request (table.key_asked s.table s.schema c) m.2))

kids_alike : (w x : World) (t : Thread) (f : Frame) (n : ℕ) (d : Effect) → Agree w x d → d.fact.name ≡ next_step t f → is_close d.fact.kind ≡ true → kids x t f n ≡ kids w t f n
kids_alike w x t f n d a named close = ap (λ (g : ℕ → Option Frame). map g (range_with_len 0 n)) (fun_ext (λ i. a.closed (child_of t f.count i) (closed i)))
  where
    no : d.fact.name.no - 1 ≡ f.count
    no = let e = ap (λ (k : StepName). k.no) named in omega (arith, e)

    closed : (i : ℕ) → closes d.fact (child_of t f.count i) ≡ true
    closed i =
        let u : is_under (child_of t f.count i) d.fact.name.thread (d.fact.name.no - 1) ≡ true = subst (λ k. is_under (child_of t f.count i) d.fact.name.thread k ≡ true) (sym no) (subst (λ p. is_under (child_of t f.count i) p f.count ≡ true) (sym (ap (λ (k : StepName). k.thread) named)) (child_is_under t f.count i)) in
        rw (close, u) refl

-- a thread that has made no move waits in both worlds or in none, under one bound
module _ (w x : World) (t : Thread) (f : Frame) (d : Effect) (a : Agree w x d) (named : d.fact.name ≡ next_step t f) (bound : d.fact.bound ≡ first_bound w.frames t f) where
  own_thread : d.fact.name.thread ≡ t
  own_thread = ap (λ (n : StepName). n.thread) named

  at_thread : (p : Path) → paths_of w.frames d.fact.name.thread.exec p ≡ paths_of w.frames t.exec p
  at_thread p = ap (λ (u : Thread). paths_of w.frames u.exec p) own_thread

  -- the thread that forked it
  over_alike : (b : BranchPlace) → place_of t.path ≡ Some b → (f.count == 0) ≡ true → paths_of x.frames t.exec b.0 ≡ paths_of w.frames t.exec b.0
  over_alike b place k =
      let u : Thread = record { exec = d.fact.name.thread.exec; path = b.0 } in
      let no : (d.fact.name.no == 1) ≡ true = eq-eqb d.fact.name.no 1 (ap (λ (n : StepName). n.no) named ∙ ap (λ n. n + 1) (eqb-true f.count 0 k)) in
      let there : place_of d.fact.name.thread.path ≡ Some b = ap (λ (v : Thread). place_of v.path) own_thread ∙ place in
      let forked : forked_by d.fact ≡ Some u = rw (no, there) refl in
      let seen_there : looks d.fact u ≡ true = or_left (is_thread (forked_by d.fact) u) (is_path_end (awaited_by d.fact u)) (ap (λ o. is_thread o u) forked ∙ thread_itself u) in
      let e : x.frames u ≡ w.frames u = a.looked u seen_there in
      subst (λ (v : Thread). paths_of x.frames v.exec b.0 ≡ paths_of w.frames v.exec b.0) own_thread e

  -- the branches for which it waits
  window_alike : (b : BranchPlace) (j : ℕ) → place_of t.path ≡ Some b → 0 < d.fact.bound → j + d.fact.bound ≤ b.1.1 → paths_of x.frames t.exec (sibling b j) ≡ paths_of w.frames t.exec (sibling b j)
  window_alike b j place some l =
      let u : Thread = record { exec = d.fact.name.thread.exec; path = sibling b j } in
      let there : place_of d.fact.name.thread.path ≡ Some b = ap (λ (v : Thread). place_of v.path) own_thread ∙ place in
      let awaited_there : awaited_by d.fact u ≡ Some [] = awaited_whole d.fact u [] (record { some = some; exec = refl; goes = sibling_awaited d.fact.bound d.fact.name.thread.path b j there l }) in
      let seen_there : looks d.fact u ≡ true = or_right (is_thread (forked_by d.fact) u) (is_path_end (awaited_by d.fact u)) (ap is_path_end awaited_there) in
      subst (λ (v : Thread). paths_of x.frames v.exec (sibling b j) ≡ paths_of w.frames v.exec (sibling b j)) own_thread (a.looked u seen_there)

  bound_alike : first_bound x.frames t f ≡ first_bound w.frames t f
  bound_alike = by_bool (f.count == 0) _ (λ k. by (place_of t.path) refl k) (λ k. rw k refl)
    where
      by : (o : Option BranchPlace) → place_of t.path ≡ o → (f.count == 0) ≡ true → first_bound x.frames t f ≡ first_bound w.frames t f
      by None e k = rw (k, e) refl
      by (Some b) e k = rw (k, e) (ap bound_in (over_alike b e k))

  waits_alike : waits x.frames t f ≡ waits w.frames t f
  waits_alike = by_bool (f.count == 0) _ (λ k. by (place_of t.path) refl k) (λ k. rw k refl)
    where
      begin_alike : (b : BranchPlace) → place_of t.path ≡ Some b → (f.count == 0) ≡ true → may_begin (paths_of x.frames t.exec) b ≡ may_begin (paths_of w.frames t.exec) b
      begin_alike b e k =
          let m = bound_in (paths_of w.frames t.exec b.0) in
          let told : d.fact.bound ≡ m = bound ∙ rw (k, e) refl in
          ap (λ n. not (in_window n b.1.1 (λ j. not (frame_is is_done (paths_of x.frames t.exec (sibling b j)))))) (ap bound_in (over_alike b e k))
          ∙ by_bool (m == 0) _ (λ z. rw z refl) (λ z. ap (λ c. not (not (m == 0) && c)) (any_same b.1.1 _ _ (λ j l. one told z j)))
        where
          one : d.fact.bound ≡ bound_in (paths_of w.frames t.exec b.0) → (bound_in (paths_of w.frames t.exec b.0) == 0) ≡ false → (j : ℕ)
              → (nat_le (j + bound_in (paths_of w.frames t.exec b.0)) b.1.1 && not (frame_is is_done (paths_of x.frames t.exec (sibling b j))))
              ≡ (nat_le (j + bound_in (paths_of w.frames t.exec b.0)) b.1.1 && not (frame_is is_done (paths_of w.frames t.exec (sibling b j))))
          one told z j =
              let m = bound_in (paths_of w.frames t.exec b.0) in
              by_bool (nat_le (j + m) b.1.1) _
              (λ l. let some : 0 < d.fact.bound = subst (λ n. 0 < n) (sym told) (not_zero m z) in
              let before : j + d.fact.bound ≤ b.1.1 = subst (λ n. j + n ≤ b.1.1) (sym told) (le_true (j + m) b.1.1 l) in
              rw l (ap (λ o. not (frame_is is_done o)) (window_alike b j e some before)))
              (λ l. rw l refl)

      by : (o : Option BranchPlace) → place_of t.path ≡ o → (f.count == 0) ≡ true → waits x.frames t f ≡ waits w.frames t f
      by None e k = rw (k, e) refl
      by (Some b) e k = let g = begin_alike b e k in rw (k, e) (ap not g)

phase_alike : (s : Setting) (w x : World) (t : Thread) (at : Location) (f : Frame) (p : Phase) (d : Effect) → Agree w x d → d.fact.name ≡ next_step t f → effect_in s w t at f p ≡ Some d → effect_in s x t at f p ≡ Some d
phase_alike s w x t at f Ready d a named h =
    let k = turn_told w.frames t f (effect_of_turn s w (next_step t f) at f (turn at f)) d h in
    let bound : d.fact.bound ≡ first_bound w.frames t f = subst (λ (e : Effect). e.fact.bound ≡ first_bound w.frames t f) k.told refl in
    let items : (key : Key) → touches_key k.effect_of.fact key ≡ true → x.items key ≡ w.items key = λ key j. a.item key (subst (λ (e : Effect). touches_key e.fact key ≡ true) k.told j) in
    let again = turn_alike s w x (next_step t f) at f (turn at f) k.effect_of items k.is in
    let begun : waits x.frames t f ≡ false = waits_alike w x t f d a named bound ∙ k.begins in
    turn_goes x.frames t f (effect_of_turn s x (next_step t f) at f (turn at f)) begun
    ∙ ap₂ (λ (n : ℕ) (o : Option Effect). option_map (effect_with_bound n) o) (bound_alike w x t f d a named bound) again
    ∙ ap Some k.told
phase_alike s w x t at f (Parked n m) d a named h =
    let c = close_move (next_step t f) at f (first_fault (kids w t f n)) (outputs (kids w t f n)) d h in
    ap (effect_over (next_step t f) at f) (kids_alike w x t f n d a c.0.named c.1) ∙ h
phase_alike s w x t at f (Done output) d a named h = cc
phase_alike s w x t at f (Failed fault) d a named h = cc

frame_alike : (s : Setting) (w x : World) (t : Thread) (f : Frame) (d : Effect) → Agree w x d → frame_effect s w t f ≡ Some d → frame_effect s x t f ≡ Some d
frame_alike s w x t f d a h =
    let k = and_then_some (λ at. effect_in s w t at f f.phase) (stands s f) d h in
    let e = k.1 in
    rw e (phase_alike s w x t k.0 f f.phase d a (frame_move s w t f d h).named k.2)

effect_alike : (s : Setting) (w x : World) (step : Step) (d : Effect) → Agree w x d → d.fact.name ≡ name_of step → effect_of s w step ≡ Some d → effect_of s x step ≡ Some d
effect_alike s w x (started exec machine input) d a named h =
    let own : x.frames (execution exec) ≡ w.frames (execution exec) = subst (λ (n : StepName). x.frames n.thread ≡ w.frames n.thread) named a.own in
    ap (λ (o : Option Frame). cond (is_some o) None (option_map (λ m. own_effect Start (start_name exec) (first_frame machine m input)) (s.machines machine))) own ∙ h
effect_alike s w x (moved name) d a named h =
    let k = and_then_some (if_numbered name.no) (move_effect s w name.thread) d h in
    let n = numbered k.0 d name.no k.2 in
    let f = and_then_some (frame_effect s w name.thread) (w.frames name.thread) k.0 k.1 in
    let own : x.frames name.thread ≡ Some f.0 = subst (λ (n : StepName). x.frames n.thread ≡ w.frames n.thread) named a.own ∙ f.1 in
    let again : frame_effect s x name.thread f.0 ≡ Some d = frame_alike s w x name.thread f.0 d a (f.2 ∙ ap Some n.1) in
    rw (own, again) (subst (λ (e : Effect). if_numbered name.no e ≡ Some d) n.1 k.2)

kept_alike : (w x : World) (d : Effect) → Agree w x d → kept x d.fact ≡ kept w d.fact
kept_alike w x d a =
    let below : (λ t. cond (closes d.fact t) (x.frames t) None) ≡ (λ t. cond (closes d.fact t) (w.frames t) None) =
    fun_ext (λ t. by_bool (closes d.fact t) (cond (closes d.fact t) (x.frames t) None ≡ cond (closes d.fact t) (w.frames t) None) (λ k. rw k (a.closed t k)) (λ k. rw k refl)) in
    ap₂ (λ (f : Option Frame) (i : Option ItemAttributes). let k : SavedState = record { frame = f; item = i; below = λ t. cond (closes d.fact t) (x.frames t) None } in k) a.own (by_access d.fact.access (λ key h. a.item key h))
    ∙ ap (λ (g : Thread → Option Frame). let k : SavedState = record { frame = w.frames d.fact.name.thread; item = item_written w.items d.fact.access; below = g } in k) below
  where
    by_access : (access : Option Access) → ((key : Key) → is_of_key access key ≡ true → x.items key ≡ w.items key) → item_written x.items access ≡ item_written w.items access
    by_access None h = refl
    by_access (Some b) h = by_bool (is_write b.mode) _ (λ k. rw k (h b.key (key_itself b.key))) (λ k. rw k refl)

module _ (s : Setting) (base : World) (none : HasNoFrames base) where
  local : (w x : World) (step : Step) (d : Effect) → IsReached (steps s) base w → effect_of s w step ≡ Some d → ((c : Cell) → touches d c ≡ true → at x c ≡ at w c) → (effect_of s x step ≡ Some d) × (kept x d.fact ≡ kept w d.fact)
  local w x step d r h a =
      let agree = agree_at w x d a in
      (effect_alike s w x step d agree (planned s w step d h).0 h, kept_alike w x d agree)

  restores : (w u : World) (step : Step) (d : Effect) (c : Cell) → IsReached (steps s) base w → effect_of s w step ≡ Some d → at (undo u d.fact (kept w d.fact)) c ≡ cond (writes d c) (at w c) (at u c)
  restores w u step d (frame_at t) r h =
      by_bool (is_same_thread d.fact.name.thread t) _
      (λ k. rw k (ap (λ (x : Thread). a_frame (w.frames x)) (thread_same d.fact.name.thread t k)))
      (λ k. by_bool (makes d.fact t) _
      (λ j. rw (k, j) (ap a_frame (sym (nothing j (w.frames t) refl))))
      (λ j. by_bool (closes d.fact t) _ (λ i. rw (k, j, i) refl) (λ i. rw (k, j, i) refl)))
    where
      nothing : makes d.fact t ≡ true → (o : Option Frame) → w.frames t ≡ o → w.frames t ≡ None
      nothing j None e = e
      nothing j (Some f) e = absurd (none_yet w d t f (good s base w none r) (planned s w step d h).1 j e)
  restores w u step d (item_at key) r h = by_bool (writes_key d.fact key) _ (λ j. rw j (ap an_item (was d.fact.access j))) (λ j. rw j refl)
    where
      was : (access : Option Access) → is_write_of access key ≡ true → item_written w.items access ≡ w.items key
      was None e = cc
      was (Some a) e =
          let k = and_parts (is_write a.mode) (is_same_key a.key key) e in
          let mode = k.0 in
          rw mode (ap w.items (key_is a.key key k.1))

-- ---- of independent neighbours neither writes what the other touches

no_conflict : (a b : Option Access) (key : Key) → conflicts a b ≡ false → (is_write_of a key ≡ true → is_of_key b key ≡ true → ⊥) × (is_write_of b key ≡ true → is_of_key a key ≡ true → ⊥)
no_conflict None b key h = (λ i j. cc, λ i j. cc)
no_conflict (Some a) None key h = (λ i j. cc, λ i j. cc)
no_conflict (Some a) (Some b) key h = (
  λ i j. let k = and_parts (is_write a.mode) (is_same_key a.key key) i in clash (key_is a.key key k.1) (key_is b.key key j) (or_left (is_write a.mode) (is_write b.mode) k.0),
  λ i j. let k = and_parts (is_write b.mode) (is_same_key b.key key) i in clash (key_is a.key key j) (key_is b.key key k.1) (or_right (is_write a.mode) (is_write b.mode) k.0),
)
  where
    clash : a.key ≡ key → b.key ≡ key → (is_write a.mode || is_write b.mode) ≡ true → ⊥
    clash e f g =
        let one : is_same_key a.key b.key ≡ true = subst (λ (k : Key). is_same_key a.key k ≡ true) (e ∙ sym f) (key_itself a.key) in
        let both : (is_same_key a.key b.key && (is_write a.mode || is_write b.mode)) ≡ true = rw (one, g) refl in
        let k = sym both ∙ h in
        cc

module _ (w : World) (d e : Effect) (first : IsPlanned w d) (second : IsPlanned (after_effect w d) e) (fine : Good (after_effect w d)) (free : depends_directly d.fact e.fact ≡ false) where
  no_thread : is_same_thread d.fact.name.thread e.fact.name.thread ≡ false
  no_thread = (or_parts (is_same_thread d.fact.name.thread e.fact.name.thread) _ free).0

  others : (makes d.fact e.fact.name.thread || (closes e.fact d.fact.name.thread || (conflicts d.fact.access e.fact.access || awaits e.fact d.fact.name.thread))) ≡ false
  others = (or_parts (begins d.fact e.fact.name.thread) _ (or_parts (is_same_thread d.fact.name.thread e.fact.name.thread) _ free).1).1

  no_made : makes d.fact e.fact.name.thread ≡ false
  no_made = (or_parts (makes d.fact e.fact.name.thread) _ others).0

  no_closed : closes e.fact d.fact.name.thread ≡ false
  no_closed = (or_parts (closes e.fact d.fact.name.thread) _ (or_parts (makes d.fact e.fact.name.thread) _ others).1).0

  last_two : (conflicts d.fact.access e.fact.access || awaits e.fact d.fact.name.thread) ≡ false
  last_two = (or_parts (closes e.fact d.fact.name.thread) _ (or_parts (makes d.fact e.fact.name.thread) _ others).1).1

  no_item : conflicts d.fact.access e.fact.access ≡ false
  no_item = (or_parts (conflicts d.fact.access e.fact.access) _ last_two).0

  no_awaited : awaits e.fact d.fact.name.thread ≡ false
  no_awaited = (or_parts (conflicts d.fact.access e.fact.access) _ last_two).1

  -- the earlier doesn't reach the later one's thread: a fork by independence; after a join nothing stands there, and a start is of
  -- no thread that lies under another
  not_forward : reaches d.fact e.fact.name.thread ≡ true → ⊥
  not_forward h = elim second.stands [
    | inl k ↦ (let b = born d e.fact.name.thread k.0 (sym (frame_reached w d e.fact.name.thread no_thread h) ∙ k.1) in let clash = sym b.made ∙ no_made in cc)
    | inr k ↦ (let r = reached d.fact e.fact.name.thread h in nothing_over e.fact.name.thread d.fact.name.thread r.fork k.0 r.under)
  ]

  -- the later doesn't reach the earlier one's thread: a join by independence, and a fork is of no thread that is parked there
  not_backward : reaches e.fact d.fact.name.thread ≡ true → ⊥
  not_backward h = elim (either (makes e.fact d.fact.name.thread) (closes e.fact d.fact.name.thread) h) [
    | inl k ↦ none_yet (after_effect w d) e d.fact.name.thread d.frame fine second k (frame_own w d d.fact.name.thread (thread_itself d.fact.name.thread))
    | inr k ↦ (let clash = sym k ∙ no_closed in cc)
  ]

  same_one : d.fact.name.thread ≡ e.fact.name.thread → ⊥
  same_one f = let clash = sym (ap (is_same_thread d.fact.name.thread) (sym f) ∙ thread_itself d.fact.name.thread) ∙ no_thread in cc

  apart_at : (t : Thread) → (is_same_thread d.fact.name.thread t || reaches d.fact t) ≡ true → (is_same_thread e.fact.name.thread t || reaches e.fact t) ≡ true → ⊥
  apart_at t h k = elim (either (is_same_thread d.fact.name.thread t) (reaches d.fact t) h) [
    | inl a ↦ elim (either (is_same_thread e.fact.name.thread t) (reaches e.fact t) k) [
      | inl b ↦ same_one (thread_same d.fact.name.thread t a ∙ sym (thread_same e.fact.name.thread t b))
      | inr b ↦ not_backward (subst (λ x. reaches e.fact x ≡ true) (sym (thread_same d.fact.name.thread t a)) b)
    ]
    | inr a ↦ elim (either (is_same_thread e.fact.name.thread t) (reaches e.fact t) k) [
      | inl b ↦ not_forward (subst (λ x. reaches d.fact x ≡ true) (sym (thread_same e.fact.name.thread t b)) a)
      | inr b ↦ both_over a b
    ]
  ]
    where
      both_over : reaches d.fact t ≡ true → reaches e.fact t ≡ true → ⊥
      both_over a b =
          let r = reached d.fact t a in
          let s = reached e.fact t b in
          elim (over_one t d.fact.name.thread e.fact.name.thread r.fork s.fork r.under s.under) [
            | inl f ↦ same_one f
            | inr o ↦ elim o [ inl u ↦ not_forward (r.all e.fact.name.thread u) | inr u ↦ not_backward (s.all d.fact.name.thread u) ]
          ]

-- ---- of what a first move looks at

-- the thread that forked its own, or a branch for which it waited
record Looked (s : Fact) (t : Thread) : Type 0 where
  place : BranchPlace
  is : place_of s.name.thread.path ≡ Some place
  over : Thread
  over_is : over ≡ record { exec = s.name.thread.exec; path = place.0 }
  child : s.name.thread ≡ child_of over place.1.0 place.1.1
  what : (over ≡ t) ⊎ ((index : ℕ) × (0 < s.bound) × (index + s.bound ≤ place.1.1) × (t ≡ child_of over place.1.0 index) × (awaited_by s t ≡ Some []))

child_there : (t : Thread) (b : BranchPlace) → place_of t.path ≡ Some b → t ≡ child_of (record { exec = t.exec; path = b.0 }) b.1.0 b.1.1
child_there t b h = ap (λ (p : Path). let u : Thread = record { exec = t.exec; path = p } in u) (place_whole t.path b h)

looked : (s : Fact) (t : Thread) → looks s t ≡ true → Looked s t
looked s t h = elim (either (is_thread (forked_by s) t) (is_path_end (awaited_by s t)) h) [ inl k ↦ by_fork k | inr k ↦ by_window (awaited_by s t) refl k ]
  where
    by_fork : is_thread (forked_by s) t ≡ true → Looked s t
    by_fork k = by_bool (s.name.no == 1) _ (λ j. by_place (place_of s.name.thread.path) refl (rw j at k)) (λ j. let e = rw j at k in cc)
      where
        by_place : (o : Option BranchPlace) → place_of s.name.thread.path ≡ o → is_thread (option_map (λ b. let u : Thread = record { exec = s.name.thread.exec; path = b.0 } in u) o) t ≡ true → Looked s t
        by_place None e j = cc
        by_place (Some b) e j = record {
          place = b;
          is = e;
          over = record { exec = s.name.thread.exec; path = b.0 };
          over_is = refl;
          child = child_there s.name.thread b e;
          what = inl (thread_same (record { exec = s.name.thread.exec; path = b.0 }) t j);
        }

    by_window : (o : Option Path) → awaited_by s t ≡ o → is_path_end o ≡ true → Looked s t
    by_window None e k = cc
    by_window (Some (b ∷ p)) e k = cc
    by_window (Some []) e k =
        let a = awaited_parts s t [] e in
        let i = is_awaited s.bound s.name.thread.path t.path [] a.goes in
        let over : Thread = record { exec = s.name.thread.exec; path = i.place.0 } in
        record {
          place = i.place;
          is = i.is;
          over = over;
          over_is = refl;
          child = child_there s.name.thread i.place i.is;
          what = inr (
            i.index,
            a.some,
            i.before,
            ap₂ (λ (x : List ℕ) (p : Path). let u : Thread = record { exec = x; path = p } in u) (sym a.exec) (i.goes ∙ append-nil (sibling i.place i.index)),
            e,
          );
        }

-- a branch of the window is another, and lies not under the one that waits
not_under_sibling : (over t : Thread) (n i j k : ℕ) → t ≡ child_of over n i → is_under (child_of over n j) t k ≡ true → ⊥
not_under_sibling over t n i j k e h =
    let under : is_under t over n ≡ true = subst (λ u. is_under u over n ≡ true) (sym e) (child_is_under over n i) in
    elim (above_child t over k n j h) [
      | inl x ↦ never_under_itself over n (subst (λ u. is_under u over n ≡ true) x.0 under)
      | inr x ↦ never_under_itself t k (under_under t over t n k under x)
    ]

module _ (w : World) (d e : Effect) (first : IsPlanned w d) (second : IsPlanned (after_effect w d) e) (fine : Good (after_effect w d)) (free : depends_directly d.fact e.fact ≡ false) where
  abbrev forward : reaches d.fact e.fact.name.thread ≡ true → ⊥
  forward = not_forward w d e first second fine free

  abbrev backward : reaches e.fact d.fact.name.thread ≡ true → ⊥
  backward = not_backward w d e first second fine free

  -- what reaches the thread that forked another's, or a branch beside it, reaches that other
  reaches_too : (s : Fact) (over t : Thread) (n i : ℕ) → t ≡ child_of over n i → reaches s over ≡ true → reaches s t ≡ true
  reaches_too s over t n i c h =
      let r = reached s over h in
      r.all t (under_under t over s.name.thread n r.fork (subst (λ u. is_under u over n ≡ true) (sym c) (child_is_under over n i)) r.under)

  reaches_beside : (s : Fact) (over t : Thread) (n i j : ℕ) → t ≡ child_of over n i → reaches s (child_of over n j) ≡ true → reaches s t ≡ true
  reaches_beside s over t n i j c h =
      let r = reached s (child_of over n j) h in
      let under : is_under t over n ≡ true = subst (λ u. is_under u over n ≡ true) (sym c) (child_is_under over n i) in
      elim (above_child s.name.thread over r.fork n j r.under) [
        | inl x ↦ r.all t (subst (λ u. is_under t u r.fork ≡ true) (sym x.0) (subst (λ m. is_under t over m ≡ true) (sym x.1) under))
        | inr x ↦ r.all t (under_under t over s.name.thread n r.fork under x)
      ]

  -- the thread that forked the later one's is parked since then
  parked_over : (over : Thread) (n i : ℕ) → e.fact.name.thread ≡ child_of over n i → ParkedAt (after_effect w d) over n
  parked_over over n i c = over_own (after_effect w d) e over n fine second (subst (λ u. is_under u over n ≡ true) (sym c) (child_is_under over n i))

  -- the earlier wrote neither that thread's frame nor a branch for which the later waited
  later_looks : (t : Thread) → (is_same_thread d.fact.name.thread t || reaches d.fact t) ≡ true → looks e.fact t ≡ true → ⊥
  later_looks t h k = let l = looked e.fact t k in elim l.what [
    | inl o ↦ at_fork l.over l.place.1.0 l.place.1.1 l.child (subst (λ u. (is_same_thread d.fact.name.thread u || reaches d.fact u) ≡ true) (sym o) h)
    | inr o ↦ at_branch l.over l.place.1.0 l.place.1.1 o.0 l.child o.3 o.4
  ]
    where
      at_fork : (over : Thread) (n i : ℕ) → e.fact.name.thread ≡ child_of over n i → (is_same_thread d.fact.name.thread over || reaches d.fact over) ≡ true → ⊥
      at_fork over n i c j = elim (either (is_same_thread d.fact.name.thread over) (reaches d.fact over) j) [
        | inl a ↦ made (thread_same d.fact.name.thread over a)
        | inr a ↦ forward (reaches_too d.fact over e.fact.name.thread n i c a)
      ]
        where
          made : d.fact.name.thread ≡ over → ⊥
          made own =
              let p = parked_over over n i c in
              let same : d.frame ≡ p.frame = same_frame (after_effect w d) over d.frame p.frame (subst (λ u. (after_effect w d).frames u ≡ Some d.frame) own (frame_own w d d.fact.name.thread (thread_itself d.fact.name.thread))) p.stands in
              let fork : is_fork d.fact.kind ≡ true = first.forks (subst (λ (f : Frame). is_parked f.phase ≡ true) (sym same) p.waits) in
              let no : d.fact.name.no ≡ n = sym first.count ∙ ap (λ (f : Frame). f.count) same ∙ p.count in
              let under : is_under e.fact.name.thread d.fact.name.thread d.fact.name.no ≡ true =
              subst (λ u. is_under e.fact.name.thread u d.fact.name.no ≡ true) (sym own) (subst (λ m. is_under e.fact.name.thread over m ≡ true) (sym no) (subst (λ u. is_under u over n ≡ true) (sym c) (child_is_under over n i))) in
              let makes_it : makes d.fact e.fact.name.thread ≡ true = rw (fork, under) refl in
              let clash = sym makes_it ∙ no_made w d e first second fine free in
              cc

      at_branch : (over : Thread) (n i j : ℕ) → e.fact.name.thread ≡ child_of over n i → t ≡ child_of over n j → awaited_by e.fact t ≡ Some [] → ⊥
      at_branch over n i j c is await = elim (either (is_same_thread d.fact.name.thread t) (reaches d.fact t) h) [
        | inl a ↦ (let own = thread_same d.fact.name.thread t a in let depends : awaits e.fact d.fact.name.thread ≡ true = ap (λ u. awaits e.fact u) own ∙ ap is_some await in let clash = sym depends ∙ no_awaited w d e first second fine free in cc)
        | inr a ↦ forward (reaches_beside d.fact over e.fact.name.thread n i j c (subst (λ u. reaches d.fact u ≡ true) is a))
      ]

  -- and the later writes neither what the earlier looked at: the fork's thread is parked, and those branches are done
  earlier_looks : (t : Thread) → (is_same_thread e.fact.name.thread t || reaches e.fact t) ≡ true → looks d.fact t ≡ true → ⊥
  earlier_looks t h k = let l = looked d.fact t k in elim l.what [
    | inl o ↦ at_fork l.over l.place.1.0 l.place.1.1 l.child (subst (λ u. (is_same_thread e.fact.name.thread u || reaches e.fact u) ≡ true) (sym o) h)
    | inr o ↦ at_branch l.over l.place.1.0 l.place.1.1 o.0 l.child o.1 o.2 o.3 o.4
  ]
    where
      at_fork : (over : Thread) (n i : ℕ) → d.fact.name.thread ≡ child_of over n i → (is_same_thread e.fact.name.thread over || reaches e.fact over) ≡ true → ⊥
      at_fork over n i c j = elim (either (is_same_thread e.fact.name.thread over) (reaches e.fact over) j) [
        | inl a ↦ backward (closes_it (after_effect w d) e over d.fact.name.thread n second (thread_same e.fact.name.thread over a) parked under)
        | inr a ↦ backward (reaches_too e.fact over d.fact.name.thread n i c a)
      ]
        where
          under : is_under d.fact.name.thread over n ≡ true
          under = subst (λ u. is_under u over n ≡ true) (sym c) (child_is_under over n i)

          parked : ParkedAt (after_effect w d) over n
          parked = fine.over over d.fact.name.thread n d.frame under (frame_own w d d.fact.name.thread (thread_itself d.fact.name.thread))

      at_branch : (over : Thread) (n i j : ℕ) → d.fact.name.thread ≡ child_of over n i → 0 < d.fact.bound → j + d.fact.bound ≤ i → t ≡ child_of over n j → awaited_by d.fact t ≡ Some [] → ⊥
      at_branch over n i j c some before is await = elim (either (is_same_thread e.fact.name.thread t) (reaches e.fact t) h) [
        | inl a ↦ ended (thread_same e.fact.name.thread t a)
        | inr a ↦ backward (reaches_beside e.fact over d.fact.name.thread n i j c (subst (λ u. reaches e.fact u ≡ true) is a))
      ]
        where
          apart_own : is_same_thread d.fact.name.thread t ≡ false
          apart_own = by_bool (is_same_thread d.fact.name.thread t) _ (λ q. absurd (other (sym is ∙ sym (thread_same d.fact.name.thread t q) ∙ c))) (λ q. q)
            where
              other : child_of over n j ≡ child_of over n i → ⊥
              other q = let p : over.path ++ (n, j) ∷ [] ≡ over.path ++ (n, i) ∷ [] = ap (λ (u : Thread). u.path) q in other_branch (over.path, (n, i)) j d.fact.bound before some p

          unreached : reaches d.fact t ≡ false
          unreached = by_bool (reaches d.fact t) _ (λ q. let r = reached d.fact t q in absurd (not_under_sibling over d.fact.name.thread n i j r.fork c (subst (λ u. is_under u d.fact.name.thread r.fork ≡ true) is r.under))) (λ q. q)

          ended : e.fact.name.thread ≡ t → ⊥
          ended own =
              let there : (after_effect w d).frames t ≡ w.frames t = frame_other w d t apart_own unreached in
              let done : frame_is is_done ((after_effect w d).frames e.fact.name.thread) ≡ true = ap (λ u. frame_is is_done ((after_effect w d).frames u)) own ∙ ap (frame_is is_done) there ∙ first.awaits t await in
              by ((after_effect w d).frames e.fact.name.thread) refl done
            where
              by : (o : Option Frame) → (after_effect w d).frames e.fact.name.thread ≡ o → frame_is is_done o ≡ true → ⊥
              by None q y = cc
              by (Some f) q y = let n = second.goes f q in let clash = sym y ∙ n in cc

apart : (s : Setting) (base : World) → HasNoFrames base → (w : World) (a b : Step) (d e : Effect) (c : Cell) → IsReached (steps s) base w → effect_of s w a ≡ Some d → effect_of s (after_effect w d) b ≡ Some e → depends_directly d.fact e.fact ≡ false
    → (writes d c ≡ true → touches e c ≡ true → ⊥) × (writes e c ≡ true → touches d c ≡ true → ⊥)
apart s base none w a b d e (frame_at t) r h k free =
    let p = (planned s w a d h).1 in
    let q = (planned s (after_effect w d) b e k).1 in
    let fine = good_after w d (good s base w none r) p in
    let clash = apart_at w d e p q fine free t in (
      λ i j. elim (either (is_same_thread e.fact.name.thread t || reaches e.fact t) (looks e.fact t) j) [ inl x ↦ clash i x | inr x ↦ later_looks w d e p q fine free t i x ],
      λ i j. elim (either (is_same_thread d.fact.name.thread t || reaches d.fact t) (looks d.fact t) j) [ inl x ↦ clash x i | inr x ↦ earlier_looks w d e p q fine free t i x ],
    )
apart s base none w a b d e (item_at key) r h k free =
    let p = (planned s w a d h).1 in
    no_conflict d.fact.access e.fact.access key (no_item w d e p (planned s (after_effect w d) b e k).1 (good_after w d (good s base w none r) p) free)

pub footprints : (s : Setting) (base : World) → HasNoFrames base → HasFootprints (steps s) (plans s) base
footprints s base none = record { planned = λ w n. refl; effect = effect; within = within; local = local s base none; restores = restores s base none; apart = apart s base none; same = same }

pub steps_are_reversible : StepsAreReversible
steps_are_reversible s base from = reversible_from (steps s) from.0 base from.2 (plans_are_reversible (steps s) (plans s) from.0 (footprints s from.0 from.1))

-- a world without executions is reached from itself
pub from_none : (s : Setting) (base : World) → HasNoFrames base → IsFrom s base
from_none s base none = (base, none, reached_here (steps s) base)
