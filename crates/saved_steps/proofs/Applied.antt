-- What each kind of step makes of the world as it is held.
use Rattle.std.proofs.Common.{Global, zero, suc, ◌≡◌, ℕ, ◌-◌, ◌==◌, Bool, true, false, ◌&&◌, cond, List, [], ◌∷◌, ◌++◌, map, refl, sym, ap, ap₂, ◌∙◌, subst, Option, Some, None, IsSomeAnd}
use Rattle.std.specs.declared.vec.Vec.{Vec}
use Rattle.std.specs.List.{slice_get}
use Rattle.std.specs.Option.{option_and_then, option_map}
use Rattle.std.specs.Str.{bytes_eq}
use Rattle.std.proofs.lemmas.Bool.{and_parts, eqb-true, eq-eqb}
use Rattle.std.proofs.lemmas.List.{append-nil}
use Rattle.std.proofs.lemmas.Slice.Eq.{bytes_eq-Decides}
use Rattle.std.proofs.Math.Path.{fun_ext}
use Rattle.attr_values.specs.declared.key.Key.{Key}
use Rattle.item_store.specs.Store.{Store, stored_items, slot_key}
use Rattle.item_store.specs.Deciding.{ItemAttributes}
use Rattle.item_store.specs.Table.{is_same_key}
use Rattle.item_store.specs.declared.slot.SlotNo.{SlotNo}
use Rattle.branch_tree.specs.Frame.{Frame}
use Rattle.branch_tree.specs.FlatMap.{FrameMap, IsTree, is_parked, alone}
use Rattle.branch_tree.specs.Paths.{Path, same_path, rest_after}
use Rattle.branch_tree.specs.Tree.{Rows, leaf, frame_at, node_at, IsNode}
use Rattle.step_names.specs.Thread.{Thread}
use Rattle.step_names.specs.Under.{is_under}
use Rattle.step_names.specs.declared.step.StepName.{StepName}
use Rattle.step_names.proofs.OrderLaws.{thread_itself}
use Rattle.step_names.proofs.UnderLaws.{under_Decides}
use Rattle.saved_steps.specs.Effects.{Effect, own_effect, fork_effect, effect_with_bound}
use Rattle.saved_steps.specs.Held.{placed, tree_in, rows_at, frames_of, paths_of, put_at, with_thread, world_view}
use Rattle.saved_steps.specs.Saving.{SavedState, kept, item_written, undo}
use Rattle.saved_steps.specs.Made.{is_unparked, IsThreadOpen, IsParkedSince, plain_fact, fact_made, Makes, IsMadeFor, CanApplyChange, KeepsStore}
use Rattle.saved_steps.specs.Records.{keeps, saved_by, was_below}
use Rattle.saved_steps.specs.Run.{after_effect, begun_at}
use Rattle.saved_steps.specs.Steps.{makes, closes, is_fork, is_close, is_write, is_write_of}
use Rattle.saved_steps.specs.Undoing.{CanUndo, IsApplied}
use Rattle.saved_steps.specs.World.{is_same_thread}
use Rattle.saved_steps.specs.declared.fact.Access.{Access}
use Rattle.saved_steps.specs.declared.fact.Fact.{Fact}
use Rattle.saved_steps.specs.declared.fact.Kind.{Kind}
use Rattle.saved_steps.specs.declared.fact.Kind.TheVariants as kind
use Rattle.saved_steps.specs.declared.made.Made.{Made}
use Rattle.saved_steps.specs.declared.made.Change.TheVariants as change
use Rattle.saved_steps.specs.declared.record.Saved.TheVariants.{Started, Framed, Called, Forked, Closed}
use Rattle.saved_steps.specs.declared.record.StepRecord.{StepRecord}
use Rattle.saved_steps.specs.declared.world.World.{World}
use Rattle.saved_steps.proofs.Threads.{same_by_parts}
use Rattle.saved_steps.proofs.Under.{rest_is, rest_itself, first_is, under_is, nothing_at_open, nothing_at_other, no_other_branch, told}
use Rattle.saved_steps.proofs.Undone.{same_world, undone}

effect_is : (d : Effect) (s : Fact) (f : Frame) → s ≡ d.fact → f ≡ d.frame → record { fact = s; frame = f; branches = d.branches; item = d.item } ≡ d
effect_is d s f e h = ap₂ (λ (x : Fact) (y : Frame). let z : Effect = record { fact = x; frame = y; branches = d.branches; item = d.item } in z) e h

pub same_store : (a b : Store) → b ≡ a → KeepsStore a b
same_store a b e = record {
  slots = λ n key h. ap (λ (s : Store). slot_key s n) e ∙ h;
  table = ap (λ (s : Store). s.table) e;
  schema = ap (λ (s : Store). s.schema) e;
}

-- what comes back is by the model's own law
applied : (w v : World) (m : Made) (r : StepRecord) → r.fact ≡ fact_made m → ((d : Effect) → IsMadeFor m d → world_view v ≡ after_effect (world_view w) d) → saved_by r ≡ kept (world_view w) r.fact → CanUndo v r → KeepsStore w.items v.items
    → (d : Effect) → IsMadeFor m d → ((t : Thread) → makes d.fact t ≡ true → frames_of w t ≡ None) → IsApplied w m v r
applied w v m r fact world saved undoable store d made nothing = record {
  fact = fact;
  world = world;
  saved = saved;
  undoable = undoable;
  back =
      let same : r.fact ≡ d.fact = fact ∙ made.fact in
      ap (λ x. undo x r.fact (saved_by r)) (world d made) ∙ ap (λ k. undo (after_effect (world_view w) d) r.fact k) saved
      ∙ ap (λ s. undo (after_effect (world_view w) d) s (kept (world_view w) s)) same ∙ undone (world_view w) d nothing;
  store = store;
}

pub cond_under : {A : Type 0} (u : Bool) (x y z : A) → (u ≡ true → x ≡ y) → cond u x z ≡ cond u y z
cond_under true x y z h = h refl
cond_under false x y z h = refl

-- ---- a step that touches its own thread alone

with_here : (frames : Thread → Option Frame) (a : Thread) (f : Frame) → with_thread frames a f a ≡ Some f
with_here frames a f = rw (thread_itself a) refl

pub plain : (w v : World) (name : StepName) (bound : ℕ) (f g : Frame) → v.items ≡ w.items → CanApplyChange w name (change.Plain f) → frames_of w name.thread ≡ Some g
    → ((t : Thread) → frames_of v t ≡ with_thread (frames_of w) name.thread f t)
    → IsApplied w (record { name = name; bound = bound; change = change.Plain f }) v (record { fact = plain_fact name bound kind.Plain; saved = Framed g })
plain w v name bound f g items stands was now =
    applied w v (record { name = name; bound = bound; change = change.Plain f }) (record { fact = plain_fact name bound kind.Plain; saved = Framed g }) refl
    (λ d x. subst (λ (e : Effect). world_view v ≡ after_effect (world_view w) e) (effect_is d (plain_fact name bound kind.Plain) f x.fact x.change)
    (same_world (world_view v) (after_effect (world_view w) (record { fact = plain_fact name bound kind.Plain; frame = f; branches = d.branches; item = d.item })) now (λ key. ap (λ (s : Store). stored_items s key) items)))
    (ap (λ (o : Option Frame). keeps o None) (sym was))
    (record {
      record_fits = (refl, refl, subst (λ (o : Option Frame). IsSomeAnd o is_unparked) was stands.0);
      slot = tt;
      thread = subst (λ (o : Option Frame). IsSomeAnd o is_unparked) (sym (now name.thread ∙ with_here (frames_of w) name.thread f)) stands.1;
    })
    (same_store w.items v.items items) (effect_with_bound bound (own_effect kind.Plain name f)) (record { fact = refl; change = refl }) (λ t h. cc)

-- ---- a call

item_is : (w k : Bool) (item x now : Option ItemAttributes) → (w ≡ true → x ≡ item) → cond (w && k) x now ≡ cond (w && k) item now
item_is true k item x now h = rw (h refl) refl
item_is false k item x now h = refl

pub call : (w v : World) (name : StepName) (bound : ℕ) (f g : Frame) (a : Access) (slot : SlotNo) (new old : Option ItemAttributes) → CanApplyChange w name (change.Call f a slot new) → frames_of w name.thread ≡ Some g
    → ((t : Thread) → frames_of v t ≡ with_thread (frames_of w) name.thread f t)
    → old ≡ item_written (stored_items w.items) (Some a) → ((key : Key) → stored_items v.items key ≡ cond (is_write_of (Some a) key) new (stored_items w.items key)) → KeepsStore w.items v.items
    → IsApplied w (record { name = name; bound = bound; change = change.Call f a slot new }) v (record { fact = record { name = name; kind = kind.Call; access = Some a; bound = bound }; saved = Called g slot old })
call w v name bound f g a slot new old stands was now was_item items store =
    let s : Fact = record { name = name; kind = kind.Call; access = Some a; bound = bound } in
    let d0 : Effect = record { fact = s; frame = f; branches = []; item = new } in
    applied w v (record { name = name; bound = bound; change = change.Call f a slot new }) (record { fact = s; saved = Called g slot old }) refl
    (λ d x. subst (λ (e : Effect). world_view v ≡ after_effect (world_view w) e) (effect_is d s f x.fact x.change.0)
    (same_world (world_view v) (after_effect (world_view w) (record { fact = s; frame = f; branches = d.branches; item = d.item })) now
    (λ key. items key ∙ item_is (is_write a.mode) (is_same_key a.key key) d.item new (stored_items w.items key) x.change.1)))
    (ap₂ (λ (o : Option Frame) (i : Option ItemAttributes). keeps o i) (sym was) was_item)
    (record {
      record_fits = (refl, subst (λ (o : Option Frame). IsSomeAnd o is_unparked) was stands.0);
      slot = (a, refl, store.slots slot a.key stands.2);
      thread = subst (λ (o : Option Frame). IsSomeAnd o is_unparked) (sym (now name.thread ∙ with_here (frames_of w) name.thread f)) stands.1;
    })
    store d0 (record { fact = refl; change = (refl, λ e. refl) }) (λ t h. cc)

-- ---- a start

begun_frames : (s : Bool) (rows o : Option Rows) (f : Frame) (path q : Path) → path ≡ [] → ((p : Path) → rows_at rows p ≡ alone f p) → (s ≡ true → o ≡ None)
    → rows_at (cond s rows o) q ≡ cond (s && same_path path q) (Some f) (rows_at o q)
begun_frames false rows o f path q e h k = refl
begun_frames true rows o f path q e h k = rw (e, k refl) (h q ∙ by q)
  where
    by : (p : Path) → alone f p ≡ cond (same_path [] p) (Some f) None
    by [] = refl
    by (b ∷ p) = refl

pub begin : (w v : World) (name : StepName) (bound : ℕ) (f : Frame) (rows : Rows) → v.items ≡ w.items → CanApplyChange w name (change.Begin f)
    → ((e : List ℕ) → tree_in v.executions.trees e ≡ cond (bytes_eq name.thread.exec e) (Some rows) (tree_in w.executions.trees e))
    → ((q : Path) → frame_at rows q ≡ alone f q)
    → IsApplied w (record { name = name; bound = bound; change = change.Begin f }) v (record { fact = plain_fact name bound kind.Start; saved = Started })
begin w v name bound f rows items stands trees tree =
    let a = name.thread in
    let none : tree_in w.executions.trees a.exec ≡ None = ap placed stands.0 in
    let now : (t : Thread) → frames_of v t ≡ with_thread (frames_of w) a f t =
    λ t. ap (λ (o : Option Rows). rows_at o t.path) (trees t.exec)
    ∙ begun_frames (bytes_eq a.exec t.exec) (Some rows) (tree_in w.executions.trees t.exec) f a.path t.path stands.1 tree
    (λ e. ap (λ (x : List ℕ). tree_in w.executions.trees x) (sym ((bytes_eq-Decides a.exec t.exec).0 e)) ∙ none)
    ∙ ap (λ (s : Bool). cond s (Some f) (frames_of w t)) (sym (same_by_parts a t)) in
    applied w v (record { name = name; bound = bound; change = change.Begin f }) (record { fact = plain_fact name bound kind.Start; saved = Started }) refl
    (λ d x. subst (λ (e : Effect). world_view v ≡ after_effect (world_view w) e) (effect_is d (plain_fact name bound kind.Start) f x.fact x.change)
    (same_world (world_view v) (after_effect (world_view w) (record { fact = plain_fact name bound kind.Start; frame = f; branches = d.branches; item = d.item })) now (λ key. ap (λ (s : Store). stored_items s key) items)))
    (ap (λ (o : Option Frame). keeps o None) (sym (ap (λ (o : Option Rows). rows_at o a.path) none)))
    (record {
      record_fits = (refl, refl, stands.1);
      slot = tt;
      thread = subst (λ (o : Option Frame). IsSomeAnd o is_unparked) (sym (now a ∙ with_here (frames_of w) a f)) stands.2;
    })
    (same_store w.items v.items items) (effect_with_bound bound (own_effect kind.Start name f)) (record { fact = refl; change = refl }) (λ t h. cc)

-- ---- what is put at a thread and under it

pub put_here : (frames : Thread → Option Frame) (a : Thread) (part : FrameMap) → put_at frames a part a ≡ part []
put_here frames a part = rw ((bytes_eq-Decides a.exec a.exec).1 refl, rest_itself a.path) refl

-- a thread under a fork, by its path
pub below_at : (frames : Thread → Option Frame) (a t : Thread) (n : ℕ) → is_under t a n ≡ true
    → (b : ℕ × ℕ) × (r : Path) × (rest_after a.path t.path ≡ Some (b ∷ r)) × (frames t ≡ paths_of frames a.exec (a.path ++ b ∷ r))
below_at frames a t n h =
    let u = (under_Decides t a n).0 h in
    let b : ℕ × ℕ = (n, u.1.0) in
    (b, u.1.1, ap (rest_after a.path) u.1.2 ∙ rest_is a.path (b ∷ u.1.1), ap₂ (λ (x : List ℕ) (p : Path). frames (record { exec = x; path = p })) u.0 u.1.2)

get_leaf : (frames : List Frame) (i : ℕ) → slice_get (map leaf frames) i ≡ option_map leaf (slice_get frames i)
get_leaf [] zero = refl
get_leaf [] (suc i) = refl
get_leaf (f ∷ fs) zero = refl
get_leaf (f ∷ fs) (suc i) = get_leaf fs i

leaf_top : (o : Option Frame) → option_and_then (λ kid. frame_at kid []) (option_map leaf o) ≡ o
leaf_top None = refl
leaf_top (Some f) = refl

leaf_below : (o : Option Frame) (b : ℕ × ℕ) (r : Path) → option_and_then (λ kid. frame_at kid (b ∷ r)) (option_map leaf o) ≡ None
leaf_below None b r = refl
leaf_below (Some f) b r = refl

-- the branches of a fork begin where its node has them
begun_is : (f : Frame) (kids : List Rows) (frames : List Frame) (n : ℕ) → f.count ≡ n → kids ≡ map leaf frames → (o : Option Path) → first_is n o ≡ true
    → option_and_then (node_at f kids) o ≡ begun_at frames o
begun_is f kids frames n e k None h = refl
begun_is f kids frames n e k (Some []) h = cc
begun_is f kids frames n e k (Some (b ∷ [])) h = rw (k, e, eq-eqb n b.0 (sym (eqb-true b.0 n h)), get_leaf frames b.1) (leaf_top (slice_get frames b.1))
begun_is f kids frames n e k (Some (b ∷ (c ∷ r))) h = rw (k, e, eq-eqb n b.0 (sym (eqb-true b.0 n h)), get_leaf frames b.1) (leaf_below (slice_get frames b.1) c r)

pub first_under : (a t : Thread) (n : ℕ) → is_under t a n ≡ true → first_is n (rest_after a.path t.path) ≡ true
first_under a t n h = (and_parts (bytes_eq a.exec t.exec) (first_is n (rest_after a.path t.path)) (sym (under_is a t n) ∙ h)).1

-- ---- a fork

module _ (w v : World) (m : Made) (r : StepRecord) (name : StepName) (bound : ℕ) (f g : Frame) (kids : List Rows) (branches : List Frame) (items : v.items ≡ w.items) where
  pub fork : IsThreadOpen (frames_of w) name.thread → IsNode f kids → is_parked f.phase ≡ true → f.count ≡ name.no → kids ≡ map leaf branches
      → frames_of w name.thread ≡ Some g → IsTree (paths_of (frames_of w) name.thread.exec)
      → ((t : Thread) → frames_of v t ≡ put_at (frames_of w) name.thread (node_at f kids) t)
      → fact_made m ≡ plain_fact name bound kind.Fork → ((d : Effect) → IsMadeFor m d → (f ≡ d.frame) × (kids ≡ map leaf d.branches)) → Makes m.change (effect_with_bound bound (fork_effect name f branches))
      → r ≡ record { fact = plain_fact name bound kind.Fork; saved = Forked g }
      → IsApplied w m v r
  fork free node parked count leaves was tree now is_fact is_made makes_it is_record =
      let a = name.thread in
      let s : Fact = plain_fact name bound kind.Fork in
      let free_g : is_unparked g = subst (λ (o : Option Frame). IsSomeAnd o is_unparked) was free in
      let nothing : (b : ℕ × ℕ) (q : Path) → paths_of (frames_of w) a.exec (a.path ++ b ∷ q) ≡ None = nothing_at_open (paths_of (frames_of w) a.exec) tree a.path g was free_g in
      let all : (t : Thread) → frames_of v t ≡ cond (is_same_thread a t) (Some f) (cond (is_under t a name.no) (option_and_then (node_at f kids) (rest_after a.path t.path)) (frames_of w t)) =
      λ t. now t ∙ told (frames_of w) a (node_at f kids) f name.no refl (no_other_branch f kids name.no count) (λ b q apart. nothing b q) t in
      applied w v m r (ap (λ (x : StepRecord). x.fact) is_record ∙ sym is_fact)
      (λ d x. let y = is_made d x in
      subst (λ (e : Effect). world_view v ≡ after_effect (world_view w) e) (effect_is d s f (sym is_fact ∙ x.fact) y.0)
      (same_world (world_view v) (after_effect (world_view w) (record { fact = s; frame = f; branches = d.branches; item = d.item }))
      (λ t. all t ∙ ap (cond (is_same_thread a t) (Some f)) (cond_under (is_under t a name.no) (option_and_then (node_at f kids) (rest_after a.path t.path)) (begun_at d.branches (rest_after a.path t.path)) (frames_of w t)
      (λ u. begun_is f kids d.branches name.no count y.1 (rest_after a.path t.path) (first_under a t name.no u))))
      (λ key. ap (λ (x : Store). stored_items x key) items)))
      (rw is_record (ap (λ (o : Option Frame). keeps o None) (sym was)))
      (rw is_record (record {
        record_fits = (refl, refl, free_g);
        slot = tt;
        thread = subst (λ (o : Option Frame). IsSomeAnd o (λ x. (is_parked x.phase ≡ true) × (x.count ≡ name.no))) (sym (now a ∙ put_here (frames_of w) a (node_at f kids))) (parked, count);
      }))
      (same_store w.items v.items items) (effect_with_bound bound (fork_effect name f branches)) (record { fact = is_fact; change = makes_it })
      (λ t h. let k = below_at (frames_of w) a t name.no h in k.3 ∙ nothing k.0 k.1)

-- ---- a join, and a terminate

pub alone_below : (f : Frame) (n : ℕ) (o : Option Path) → first_is n o ≡ true → option_and_then (alone f) o ≡ None
alone_below f n None h = refl
alone_below f n (Some []) h = cc
alone_below f n (Some (b ∷ q)) h = refl

module _ (w v : World) (m : Made) (r : StepRecord) (name : StepName) (bound : ℕ) (k : Kind) (f g : Frame) (kids : Vec Rows Global) (items : v.items ≡ w.items) where
  pub close : is_fork k ≡ false → is_close k ≡ true → IsParkedSince (frames_of w) name.thread (name.no - 1) → is_unparked f
      → ((q : Path) → paths_of (frames_of w) name.thread.exec (name.thread.path ++ q) ≡ node_at g kids.items q) → IsNode g kids.items → IsTree (paths_of (frames_of w) name.thread.exec)
      → ((t : Thread) → frames_of v t ≡ put_at (frames_of w) name.thread (alone f) t)
      → fact_made m ≡ plain_fact name bound k → ((d : Effect) → IsMadeFor m d → f ≡ d.frame) → Makes m.change (effect_with_bound bound (own_effect k name f))
      → r ≡ record { fact = plain_fact name bound k; saved = Closed g kids }
      → IsApplied w m v r
  close unforked closing since free was node tree now is_fact is_made makes_it is_record =
      let a = name.thread in
      let s : Fact = plain_fact name bound k in
      let n : ℕ = name.no - 1 in
      let was_g : frames_of w a ≡ Some g = ap (paths_of (frames_of w) a.exec) (sym (append-nil a.path)) ∙ was [] in
      let g_is : (is_parked g.phase ≡ true) × (g.count ≡ n) = subst (λ (o : Option Frame). IsSomeAnd o (λ x. (is_parked x.phase ≡ true) × (x.count ≡ n))) was_g since in
      let nothing : (b : ℕ × ℕ) (q : Path) → (b.0 == n) ≡ false → paths_of (frames_of w) a.exec (a.path ++ b ∷ q) ≡ None = nothing_at_other (paths_of (frames_of w) a.exec) tree a.path g n was_g g_is.1 in
      let all : (t : Thread) → frames_of v t ≡ cond (is_same_thread a t) (Some f) (cond (is_under t a n) (option_and_then (alone f) (rest_after a.path t.path)) (frames_of w t)) =
      λ t. now t ∙ told (frames_of w) a (alone f) f n refl (λ b q apart. refl) nothing t in
      let alone_is : (o : Option Path) → first_is n o ≡ true → option_and_then (alone f) o ≡ None = alone_below f n in
      let below : (t : Thread) → was_below s g kids.items t ≡ cond (closes s t) (frames_of w t) None =
      λ t. cond_under (closes s t) (option_and_then (node_at g kids.items) (rest_after a.path t.path)) (frames_of w t) None
      (λ h. let x = below_at (frames_of w) a t n (and_parts (is_close k) (is_under t a n) h).1 in ap (option_and_then (node_at g kids.items)) x.2 ∙ sym (x.3 ∙ was (x.0 ∷ x.1))) in
      let kept_is : record { frame = Some g; item = None; below = was_below s g kids.items } ≡ kept (world_view w) s =
      ap₂ (λ (o : Option Frame) (b : Thread → Option Frame). let x : SavedState = record { frame = o; item = None; below = b } in x) (sym was_g) (fun_ext below) in
      let thread : IsThreadOpen (frames_of v) a = subst (λ (o : Option Frame). IsSomeAnd o is_unparked) (sym (now a ∙ put_here (frames_of w) a (alone f))) free in
      applied w v m r (ap (λ (x : StepRecord). x.fact) is_record ∙ sym is_fact)
      (λ d x. subst (λ (e : Effect). world_view v ≡ after_effect (world_view w) e) (effect_is d s f (sym is_fact ∙ x.fact) (is_made d x))
      (same_world (world_view v) (after_effect (world_view w) (record { fact = s; frame = f; branches = d.branches; item = d.item }))
      (λ t. rw (unforked, closing) (all t ∙ ap (cond (is_same_thread a t) (Some f)) (cond_under (is_under t a n) (option_and_then (alone f) (rest_after a.path t.path)) None (frames_of w t) (λ u. alone_is (rest_after a.path t.path) (first_under a t n u)))))
      (λ key. ap (λ (x : Store). stored_items x key) items)))
      (subst (λ (x : StepRecord). saved_by x ≡ kept (world_view w) x.fact) (sym is_record) kept_is)
      (subst (λ (x : StepRecord). CanUndo v x) (sym is_record) (record { record_fits = (closing, refl, node, g_is.0, g_is.1); slot = tt; thread = thread }))
      (same_store w.items v.items items) (effect_with_bound bound (own_effect k name f)) (record { fact = is_fact; change = makes_it })
      (λ t h. let e : (is_fork k && is_under t a name.no) ≡ true = h in let yes = (and_parts (is_fork k) (is_under t a name.no) e).0 in cc)
