-- What each kind of record makes of the world as it is held, once it is undone.
use Rattle.std.proofs.Common.{Global, ◌≡◌, ℕ, ◌-◌, ◌==◌, Bool, true, false, ◌&&◌, cond, List, [], ◌∷◌, ◌++◌, refl, sym, ap, ◌∙◌, subst, Option, Some, None, IsSomeAnd}
use Rattle.std.specs.declared.vec.Vec.{Vec}
use Rattle.std.specs.Option.{option_and_then}
use Rattle.std.specs.Str.{bytes_eq}
use Rattle.std.proofs.lemmas.List.{append-nil}
use Rattle.std.proofs.lemmas.Option.{same_Some}
use Rattle.std.specs.Prelude.{is_some, IfSome}
use Rattle.std.proofs.lemmas.Slice.Eq.{bytes_eq-Decides}
use Rattle.attr_values.specs.declared.key.Key.{Key}
use Rattle.item_store.specs.Deciding.{ItemAttributes}
use Rattle.item_store.specs.Store.{Store, stored_items}
use Rattle.item_store.specs.Table.{Table, with_item}
use Rattle.item_store.specs.declared.access.AccessMode.TheVariants.{Write}
use Rattle.item_store.specs.declared.slot.SlotNo.{SlotNo}
use Rattle.branch_tree.specs.Frame.{Frame}
use Rattle.branch_tree.specs.FlatMap.{IsTree, is_parked, alone}
use Rattle.branch_tree.specs.Paths.{Path, same_path, rest_after}
use Rattle.branch_tree.specs.Tree.{Rows, node_at}
use Rattle.step_names.specs.Thread.{Thread}
use Rattle.step_names.specs.Under.{is_under}
use Rattle.saved_steps.specs.Held.{tree_in, rows_at, frames_of, paths_of, put_at, with_thread, world_view}
use Rattle.saved_steps.specs.Saving.{undo}
use Rattle.saved_steps.specs.Made.{is_unparked, KeepsStore}
use Rattle.saved_steps.specs.Records.{saved_by}
use Rattle.saved_steps.specs.Steps.{is_fork, is_close, is_write_of}
use Rattle.saved_steps.specs.Undoing.{CanUndo, IsUndone}
use Rattle.saved_steps.specs.World.{is_same_thread}
use Rattle.saved_steps.specs.declared.fact.Access.{Access}
use Rattle.saved_steps.specs.declared.fact.Fact.{Fact}
use Rattle.saved_steps.specs.declared.fact.Kind.{Kind}
use Rattle.saved_steps.specs.declared.fact.Kind.TheVariants as kind
use Rattle.saved_steps.specs.declared.record.Saved.TheVariants.{Started, Framed, Called, Forked, Closed}
use Rattle.saved_steps.specs.declared.world.World.{World}
use Rattle.saved_steps.proofs.Applied.{cond_under, same_store, first_under, alone_below}
use Rattle.saved_steps.proofs.Threads.{same_by_parts}
use Rattle.saved_steps.proofs.Under.{nothing_at_open, nothing_at_other, no_other_branch, told}
use Rattle.saved_steps.proofs.Undone.{same_world}

alike : {A : Type 0} (b : Bool) (x : A) → x ≡ cond b x x
alike true x = refl
alike false x = refl

unwritten : (access : Option Access) → access ≡ None → (key : Key) (new now : Option ItemAttributes) → now ≡ cond (is_write_of access key) new now
unwritten access e key new now = rw e refl

-- ---- items

pub swapped_back : (old new : Table) (access : Option Access) (a b : Access) (item : Option ItemAttributes) → access ≡ Some a → access ≡ Some b → b.mode ≡ Write → new ≡ with_item old a.key item
    → (key : Key) → new key ≡ cond (is_write_of access key) item (old key)
swapped_back old new access a b item e f m h key =
    let same : a ≡ b = same_Some a b (sym e ∙ f) in
    let writes : a.mode ≡ Write = ap (λ (x : Access). x.mode) same ∙ m in
    rw (h, e, writes) refl

pub if_there : {A : Type 0} (o : Option A) (P : Type 0) → is_some o ≡ true → IfSome o (λ x. P) → P
if_there None P h k = cc
if_there (Some x) P h k = k

-- ---- a plain step, and a call

framed_back : (s : Fact) (k : Kind) (x : Option Frame) (b y now : Option Frame) (same under over : Bool) → s.kind ≡ k → is_fork k ≡ false → is_close k ≡ false
    → cond same x now ≡ cond same x (cond (is_fork s.kind && under) b (cond (is_close s.kind && over) y now))
framed_back s k x b y now same under over e f g = rw (e, f, g) refl

pub plain : (w v : World) (s : Fact) (f : Frame) → v.items ≡ w.items → CanUndo w (record { fact = s; saved = Framed f })
    → ((t : Thread) → frames_of v t ≡ with_thread (frames_of w) s.name.thread f t)
    → IsUndone w (record { fact = s; saved = Framed f }) v
plain w v s f items can now = record {
  world = same_world (world_view v) (undo (world_view w) s (saved_by (record { fact = s; saved = Framed f })))
      (λ t. now t ∙ framed_back s kind.Plain (Some f) None None (frames_of w t) (is_same_thread s.name.thread t) (is_under t s.name.thread s.name.no) (is_under t s.name.thread (s.name.no - 1)) can.record_fits.0 refl refl)
      (λ key. ap (λ (x : Store). stored_items x key) items ∙ unwritten s.access can.record_fits.1 key None (stored_items w.items key));
  store = same_store w.items v.items items;
}

pub call : (w v : World) (s : Fact) (f : Frame) (slot : SlotNo) (old : Option ItemAttributes) → CanUndo w (record { fact = s; saved = Called f slot old })
    → ((t : Thread) → frames_of v t ≡ with_thread (frames_of w) s.name.thread f t)
    → ((key : Key) → stored_items v.items key ≡ cond (is_write_of s.access key) old (stored_items w.items key))
    → KeepsStore w.items v.items
    → IsUndone w (record { fact = s; saved = Called f slot old }) v
call w v s f slot old can now items store = record {
  world = same_world (world_view v) (undo (world_view w) s (saved_by (record { fact = s; saved = Called f slot old })))
      (λ t. now t ∙ framed_back s kind.Call (Some f) None None (frames_of w t) (is_same_thread s.name.thread t) (is_under t s.name.thread s.name.no) (is_under t s.name.thread (s.name.no - 1)) can.record_fits.0 refl refl)
      items;
  store = store;
}

-- ---- a start

removed : (s : Bool) (o : Option Rows) (path q : Path) → path ≡ [] → (s ≡ true → (b : ℕ × ℕ) (r : Path) → rows_at o (b ∷ r) ≡ None)
    → rows_at (cond s None o) q ≡ cond (s && same_path path q) None (rows_at o q)
removed false o path q e h = refl
removed true o path [] e h = rw e refl
removed true o path (b ∷ r) e h = rw e (sym (h refl b r))

pub start : (w v : World) (s : Fact) → v.items ≡ w.items → CanUndo w (record { fact = s; saved = Started })
    → IsTree (paths_of (frames_of w) s.name.thread.exec)
    → ((e : List ℕ) → tree_in v.executions.trees e ≡ cond (bytes_eq s.name.thread.exec e) None (tree_in w.executions.trees e))
    → IsUndone w (record { fact = s; saved = Started }) v
start w v s items can tree trees =
    let a = s.name.thread in
    let below : (g : Frame) → frames_of w a ≡ Some g → is_unparked g → (b : ℕ × ℕ) (r : Path) → paths_of (frames_of w) a.exec (b ∷ r) ≡ None =
    λ g was free b r. subst (λ (p : Path). paths_of (frames_of w) a.exec (p ++ b ∷ r) ≡ None) can.record_fits.2 (nothing_at_open (paths_of (frames_of w) a.exec) tree a.path g was free b r) in
    let nothing : (b : ℕ × ℕ) (r : Path) → paths_of (frames_of w) a.exec (b ∷ r) ≡ None = opened (frames_of w a) (λ g was free. below g was free) can.thread in
    record {
      world = same_world (world_view v) (undo (world_view w) s (saved_by (record { fact = s; saved = Started })))
          (λ t. ap (λ (o : Option Rows). rows_at o t.path) (trees t.exec)
          ∙ removed (bytes_eq a.exec t.exec) (tree_in w.executions.trees t.exec) a.path t.path can.record_fits.2
          (λ e b r. ap (λ (x : List ℕ). rows_at (tree_in w.executions.trees x) (b ∷ r)) (sym ((bytes_eq-Decides a.exec t.exec).0 e)) ∙ nothing b r)
          ∙ ap (λ (x : Bool). cond x None (frames_of w t)) (sym (same_by_parts a t))
          ∙ framed_back s kind.Start None None None (frames_of w t) (is_same_thread a t) (is_under t a s.name.no) (is_under t a (s.name.no - 1)) can.record_fits.0 refl refl)
          (λ key. ap (λ (x : Store). stored_items x key) items ∙ unwritten s.access can.record_fits.1 key None (stored_items w.items key));
      store = same_store w.items v.items items;
    }
  where
    opened : {P : Type 0} (o : Option Frame) → ((g : Frame) → o ≡ Some g → is_unparked g → P) → IsSomeAnd o is_unparked → P
    opened None k h = absurd h
    opened (Some g) k h = k g refl h

-- ---- a fork

fork_back : (s : Fact) (x : Option Frame) (y now : Option Frame) (same under over : Bool) → s.kind ≡ kind.Fork
    → cond same x (cond under None now) ≡ cond same x (cond (is_fork s.kind && under) None (cond (is_close s.kind && over) y now))
fork_back s x y now same under over e = rw e refl

pub fork : (w v : World) (s : Fact) (f g : Frame) (kids : List Rows) → v.items ≡ w.items → CanUndo w (record { fact = s; saved = Forked f })
    → ((q : Path) → paths_of (frames_of w) s.name.thread.exec (s.name.thread.path ++ q) ≡ node_at g kids q)
    → IsTree (paths_of (frames_of w) s.name.thread.exec)
    → ((t : Thread) → frames_of v t ≡ put_at (frames_of w) s.name.thread (alone f) t)
    → IsUndone w (record { fact = s; saved = Forked f }) v
fork w v s f g kids items can was tree now =
    let a = s.name.thread in
    let n = s.name.no in
    let was_g : frames_of w a ≡ Some g = ap (paths_of (frames_of w) a.exec) (sym (append-nil a.path)) ∙ was [] in
    let g_is : (is_parked g.phase ≡ true) × (g.count ≡ n) = subst (λ (o : Option Frame). IsSomeAnd o (λ x. (is_parked x.phase ≡ true) × (x.count ≡ n))) was_g can.thread in
    let nothing : (b : ℕ × ℕ) (q : Path) → (b.0 == n) ≡ false → paths_of (frames_of w) a.exec (a.path ++ b ∷ q) ≡ None = nothing_at_other (paths_of (frames_of w) a.exec) tree a.path g n was_g g_is.1 in
    record {
      world = same_world (world_view v) (undo (world_view w) s (saved_by (record { fact = s; saved = Forked f })))
          (λ t. now t ∙ told (frames_of w) a (alone f) f n refl (λ b q apart. refl) nothing t
          ∙ ap (cond (is_same_thread a t) (Some f)) (cond_under (is_under t a n) (option_and_then (alone f) (rest_after a.path t.path)) None (frames_of w t) (λ u. alone_below f n (rest_after a.path t.path) (first_under a t n u)))
          ∙ fork_back s (Some f) None (frames_of w t) (is_same_thread a t) (is_under t a n) (is_under t a (n - 1)) can.record_fits.0)
          (λ key. ap (λ (x : Store). stored_items x key) items ∙ unwritten s.access can.record_fits.1 key None (stored_items w.items key));
      store = same_store w.items v.items items;
    }

-- ---- a join, and a terminate

no_fork : (k : Kind) → is_close k ≡ true → is_fork k ≡ false
no_fork kind.Start h = refl
no_fork kind.Plain h = refl
no_fork kind.Call h = refl
no_fork kind.Fork h = cc
no_fork kind.Join h = refl
no_fork kind.Terminate h = refl

close_back : (fork closing : Bool) (x y now : Option Frame) (same under over : Bool) → fork ≡ false → closing ≡ true
    → cond same x (cond over y now) ≡ cond same x (cond (fork && under) None (cond (closing && over) (cond (closing && over) y None) now))
close_back fork closing x y now true under over e f = refl
close_back fork closing x y now false under true e f = rw (e, f) refl
close_back fork closing x y now false under false e f = rw (e, f) refl

pub close : (w v : World) (s : Fact) (f g : Frame) (kids : Vec Rows Global) → v.items ≡ w.items → CanUndo w (record { fact = s; saved = Closed f kids })
    → frames_of w s.name.thread ≡ Some g → IsTree (paths_of (frames_of w) s.name.thread.exec)
    → ((t : Thread) → frames_of v t ≡ put_at (frames_of w) s.name.thread (node_at f kids.items) t)
    → IsUndone w (record { fact = s; saved = Closed f kids }) v
close w v s f g kids items can was tree now =
    let a = s.name.thread in
    let n : ℕ = s.name.no - 1 in
    let free : is_unparked g = subst (λ (o : Option Frame). IsSomeAnd o is_unparked) was can.thread in
    let nothing : (b : ℕ × ℕ) (q : Path) → paths_of (frames_of w) a.exec (a.path ++ b ∷ q) ≡ None = nothing_at_open (paths_of (frames_of w) a.exec) tree a.path g was free in
    record {
      world = same_world (world_view v) (undo (world_view w) s (saved_by (record { fact = s; saved = Closed f kids })))
          (λ t. now t ∙ told (frames_of w) a (node_at f kids.items) f n refl (no_other_branch f kids.items n can.record_fits.4) (λ b q apart. nothing b q) t
          ∙ close_back (is_fork s.kind) (is_close s.kind) (Some f) (option_and_then (node_at f kids.items) (rest_after a.path t.path)) (frames_of w t) (is_same_thread a t) (is_under t a s.name.no) (is_under t a n) (no_fork s.kind can.record_fits.0) can.record_fits.0)
          (λ key. ap (λ (x : Store). stored_items x key) items ∙ unwritten s.access can.record_fits.1 key None (stored_items w.items key));
      store = same_store w.items v.items items;
    }
