-- What a step is to do as it was worked out before, and as it is made ready to be applied.
use Rattle.std.specs.Prelude.{◌≡◌, ℕ, ◌+◌, ◌-◌, true, false, List, [], map, Option, Some, None, IsSomeAnd, option_map, option_and_then}
use Rattle.std.specs.BTreeMap.{get_by_text}
use Rattle.attr_values.specs.declared.key.Key.{Key}
use Rattle.item_store.specs.Store.{Store, stored_items, slot_key}
use Rattle.item_store.specs.Table.{in_form}
use Rattle.item_store.specs.declared.slot.SlotNo.{SlotNo}
use Rattle.branch_tree.specs.Frame.{Frame}
use Rattle.asl_forward.specs.Results.{state_work}
use Rattle.branch_tree.specs.Turn.{located}
use Rattle.asl_forward.specs.declared.prepared.Outcome.{Outcome}
use Rattle.asl_forward.specs.declared.prepared.Outcome.TheVariants as outcome
use Rattle.asl_forward.specs.declared.prepared.Prepared.{Prepared}
use Rattle.branch_tree.specs.FlatMap.{is_parked}
use Rattle.branch_tree.specs.Tree.{leaf, IsNode}
use Rattle.step_names.specs.Thread.{Thread}
use Rattle.step_names.specs.declared.step.StepName.{StepName}
use Rattle.saved_steps.specs.Effects.{Effect, own_effect, fork_effect, call_effect, effect_with_bound, first_bound}
use Rattle.saved_steps.specs.Held.{frames_of}
use Rattle.saved_steps.specs.Steps.{is_write}
use Rattle.saved_steps.specs.declared.fact.Fact.{Fact}
use Rattle.saved_steps.specs.declared.fact.Kind.{Kind}
use Rattle.saved_steps.specs.declared.fact.Kind.TheVariants as kind
use Rattle.saved_steps.specs.declared.made.Change.{Change}
use Rattle.saved_steps.specs.declared.made.Change.TheVariants as change
use Rattle.saved_steps.specs.declared.made.Made.{Made}
use Rattle.saved_steps.specs.declared.next.Next.{Next}
use Rattle.saved_steps.specs.declared.next.Next.TheVariants.{Begin, Work, Join, Terminate}
use Rattle.saved_steps.specs.declared.world.World.{World}

-- ---- a step's next

-- a call's access, answer and item are decided by the items that are there
abbrev pub effect_of_work : Store → StepName → Prepared → Outcome → Option Effect
effect_of_work items name p (outcome.Next g) = Some (own_effect kind.Plain name g)
effect_of_work items name p (outcome.Fork g branches) = Some (fork_effect name g branches)
effect_of_work items name p (outcome.Call c) =
    option_and_then (λ at. option_map (λ work. call_effect name at.0 work p.frame (in_form items.table items.schema (stored_items items) c)) (state_work at.1)) (located p.machine p.frame)

-- what the step of this name does, with this next
abbrev pub effect_of_next : World → StepName → Next → Option Effect
effect_of_next w name (Begin f) = Some (own_effect kind.Start name f)
effect_of_next w name (Work p) = option_map (effect_with_bound (first_bound (frames_of w) name.thread p.frame)) (effect_of_work w.items name p p.outcome)
effect_of_next w name (Join f) = Some (own_effect kind.Join name f)
effect_of_next w name (Terminate f) = Some (own_effect kind.Terminate name f)

-- ---- where a thread is

abbrev pub is_unparked : Frame → Type 0
is_unparked f = is_parked f.phase ≡ false

-- the thread has a frame that isn't parked
abbrev pub IsThreadOpen : (Thread → Option Frame) → Thread → Type 0
IsThreadOpen frames t = IsSomeAnd (frames t) is_unparked

-- the thread is parked, since its step of this number
abbrev pub IsParkedSince : (Thread → Option Frame) → Thread → ℕ → Type 0
IsParkedSince frames t step = IsSomeAnd (frames t) (λ f. (is_parked f.phase ≡ true) × (f.count ≡ step))

-- ---- when a step can be made

-- The execution isn't there, or the thread stands as the step finds it: open before its work, or parked since its step before
-- this one. A step's number is one more than its thread's count.
abbrev pub CanMake : World → StepName → Next → Type 0
CanMake w name (Begin f) = (frames_of w name.thread ≡ None) × (name.thread.path ≡ []) × is_unparked f
CanMake w name (Work p) = IsThreadOpen (frames_of w) name.thread × (name.no ≡ p.frame.count + 1)
CanMake w name (Join f) = IsParkedSince (frames_of w) name.thread (name.no - 1) × is_unparked f
CanMake w name (Terminate f) = IsParkedSince (frames_of w) name.thread (name.no - 1) × is_unparked f

-- ---- a step that is made

abbrev pub plain_fact : StepName → ℕ → Kind → Fact
plain_fact name bound k = record { name = name; kind = k; access = None; bound = bound }

abbrev pub fact_of_change : StepName → ℕ → Change → Fact
fact_of_change name bound (change.Begin f) = plain_fact name bound kind.Start
fact_of_change name bound (change.Plain f) = plain_fact name bound kind.Plain
fact_of_change name bound (change.Call f access slot new) = record { name = name; kind = kind.Call; access = Some access; bound = bound }
fact_of_change name bound (change.Fork f kids) = plain_fact name bound kind.Fork
fact_of_change name bound (change.Join f) = plain_fact name bound kind.Join
fact_of_change name bound (change.Terminate f) = plain_fact name bound kind.Terminate

abbrev pub fact_made : Made → Fact
fact_made m = fact_of_change m.name m.bound m.change

abbrev pub Makes : Change → Effect → Type 0
Makes (change.Begin f) d = f ≡ d.frame
Makes (change.Plain f) d = f ≡ d.frame
Makes (change.Call f access slot new) d = (f ≡ d.frame) × (is_write access.mode ≡ true → new ≡ d.item)
Makes (change.Fork f kids) d = (f ≡ d.frame) × (kids.items ≡ map leaf d.branches)
Makes (change.Join f) d = f ≡ d.frame
Makes (change.Terminate f) d = f ≡ d.frame

-- everything is made for this effect
pub record IsMadeFor (m : Made) (d : Effect) : Type 0 where
  pub fact : fact_made m ≡ d.fact
  pub change : Makes m.change d

abbrev pub CanApplyChange : World → StepName → Change → Type 0
CanApplyChange w name (change.Begin f) = (get_by_text w.executions.trees name.thread.exec ≡ Some None) × (name.thread.path ≡ []) × is_unparked f
CanApplyChange w name (change.Plain f) = IsThreadOpen (frames_of w) name.thread × is_unparked f
CanApplyChange w name (change.Call f access slot new) = IsThreadOpen (frames_of w) name.thread × is_unparked f × (slot_key w.items slot ≡ Some access.key)
CanApplyChange w name (change.Fork f kids) =
    IsThreadOpen (frames_of w) name.thread × IsNode f kids.items × (is_parked f.phase ≡ true) × (f.count ≡ name.no) × ((branches : List Frame) × (kids.items ≡ map leaf branches))
CanApplyChange w name (change.Join f) = IsParkedSince (frames_of w) name.thread (name.no - 1) × is_unparked f
CanApplyChange w name (change.Terminate f) = IsParkedSince (frames_of w) name.thread (name.no - 1) × is_unparked f

-- the world has the places of a step that is made, as it was when they were made
abbrev pub CanApply : World → Made → Type 0
CanApply w m = CanApplyChange w m.name m.change

-- a slot of the first store is the same key's in the second, of the same table
pub record KeepsStore (a b : Store) : Type 0 where
  pub slots : (n : SlotNo) (key : Key) → slot_key a n ≡ Some key → slot_key b n ≡ Some key
  pub table : b.table ≡ a.table
  pub schema : b.schema ≡ a.schema

-- in a world everything is made for a step that is to do what `does` says
pub record IsMadeBy (v : World) (name : StepName) (does : Option Effect) (m : Made) : Type 0 where
  pub named : m.name ≡ name
  pub ready : CanApply v m
  pub effect_of : Effect
  pub is : does ≡ Some effect_of
  pub made : IsMadeFor m effect_of

-- in the second world everything is made for a step that is to be taken in the first
abbrev pub IsMadeOf : World → World → StepName → Next → Made → Type 0
IsMadeOf w v name next m = IsMadeBy v name (effect_of_next w name next) m
