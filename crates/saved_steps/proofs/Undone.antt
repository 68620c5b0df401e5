-- A step that is undone from what it kept, over the model's worlds.
use Rattle.std.proofs.Common.{◌≡◌, Bool, true, false, ◌&&◌, cond, refl, sym, ap, ap₂, Option, Some, None}
use Rattle.std.proofs.Math.Path.{fun_ext}
use Rattle.attr_values.specs.declared.key.Key.{Key}
use Rattle.item_store.specs.Deciding.{ItemAttributes}
use Rattle.item_store.specs.Table.{Table, is_same_key}
use Rattle.item_store.proofs.Slots.{same_key}
use Rattle.branch_tree.specs.Frame.{Frame}
use Rattle.step_names.specs.Thread.{Thread}
use Rattle.step_names.proofs.OrderLaws.{thread_same}
use Rattle.saved_steps.specs.Effects.{Effect}
use Rattle.saved_steps.specs.Saving.{kept, item_written, undo}
use Rattle.saved_steps.specs.Run.{begun_frame, after_effect}
use Rattle.saved_steps.specs.Steps.{makes, closes, is_write, is_write_of}
use Rattle.saved_steps.specs.World.{World, is_same_thread}
use Rattle.saved_steps.specs.declared.fact.Access.{Access}

pub same_world : (x y : World) → ((t : Thread) → x.frames t ≡ y.frames t) → ((key : Key) → x.items key ≡ y.items key) → x ≡ y
same_world x y f i = ap₂ (λ (a : Thread → Option Frame) (b : Table). let w : World = record { frames = a; items = b } in w) (fun_ext f) (fun_ext i)

frame_back : (same made closed : Bool) (was f b now : Option Frame) → (same ≡ true → was ≡ now) → (made ≡ true → now ≡ None)
    → cond same was (cond made None (cond closed (cond closed now None) (cond same f (cond made b (cond closed None now))))) ≡ now
frame_back true made closed was f b now s m = s refl
frame_back false true closed was f b now s m = sym (m refl)
frame_back false false true was f b now s m = refl
frame_back false false false was f b now s m = refl

item_back : (w k : Bool) (new was now : Option ItemAttributes) → (k ≡ true → was ≡ now) → cond (w && k) (cond w was None) (cond (w && k) new now) ≡ now
item_back true true new was now h = h refl
item_back true false new was now h = refl
item_back false k new was now h = refl

item_undone : (items : Table) (access : Option Access) (new : Option ItemAttributes) (key : Key)
    → cond (is_write_of access key) (item_written items access) (cond (is_write_of access key) new (items key)) ≡ items key
item_undone items None new key = refl
item_undone items (Some a) new key = item_back (is_write a.mode) (is_same_key a.key key) new (items a.key) (items key) (λ e. ap items (same_key a.key key e))

-- where nothing stood under the fork that the step makes, its undoing gives the world before it
pub undone : (w : World) (d : Effect) → ((t : Thread) → makes d.fact t ≡ true → w.frames t ≡ None) → undo (after_effect w d) d.fact (kept w d.fact) ≡ w
undone w d nothing = same_world (undo (after_effect w d) d.fact (kept w d.fact)) w
    (λ t. frame_back (is_same_thread d.fact.name.thread t) (makes d.fact t) (closes d.fact t) (w.frames d.fact.name.thread) (Some d.frame) (begun_frame d t) (w.frames t)
    (λ e. ap w.frames (thread_same d.fact.name.thread t e)) (nothing t))
    (λ key. item_undone w.items d.fact.access d.item key)
