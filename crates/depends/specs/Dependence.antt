-- On which earlier steps a step depends directly (Danos and Krivine, "Reversible Communicating Systems", 2004: causality; the
-- items that steps share are added).
use Rattle.std.specs.Prelude.{ℕ, ◌+◌, ◌==◌, nat_le, Bool, true, false, ◌&&◌, ◌||◌, [], ◌∷◌, Option, None, Some, is_some, if◌then◌else◌}
use Rattle.std.specs.Str.{bytes_eq}
use Rattle.item_store.specs.Condition.{is_text}
use Rattle.item_store.specs.Table.{is_same_key}
use Rattle.step_names.specs.Thread.{Thread}
use Rattle.saved_steps.specs.Paths.{Path, same_branch}
use Rattle.saved_steps.specs.Steps.{makes, closes, is_write}
use Rattle.saved_steps.specs.World.{is_same_thread}
use Rattle.saved_steps.specs.declared.fact.Access.{Access}
use Rattle.saved_steps.specs.declared.fact.Fact.{Fact}
use Rattle.saved_steps.specs.declared.fact.Kind.{Kind}
use Rattle.saved_steps.specs.declared.fact.Kind.TheVariants.{Start}

abbrev pub is_start : Kind → Bool
is_start Start = true
is_start _ = false

-- the step is the start of the thread's execution
abbrev pub begins : Fact → Thread → Bool
begins s t = is_start s.kind && is_text s.name.thread.exec t.exec

-- two accesses of one key, not both reads
abbrev pub conflicts : Option Access → Option Access → Bool
conflicts None b = false
conflicts (Some a) None = false
conflicts (Some a) (Some b) = is_same_key a.key b.key && (is_write a.mode || is_write b.mode)

-- ---- a Map's bound: a branch's first move waited for the branches that stand so far before it

-- where a path goes on from one of the branches for which a branch waits under a bound, what it goes on by
abbrev pub awaited : ℕ → Path → Path → Option Path
awaited bound [] q = None
awaited bound (b ∷ []) [] = None
awaited bound (b ∷ []) (c ∷ q) = if c.0 == b.0 && nat_le (c.1 + bound) b.1 then Some q else None
awaited bound (b ∷ (a ∷ p)) [] = None
awaited bound (b ∷ (a ∷ p)) (c ∷ q) = if same_branch b c then awaited bound (a ∷ p) q else None

-- the same of a thread, and of a step: a branch's first move alone has a bound
abbrev pub awaited_by : Fact → Thread → Option Path
awaited_by s t = if s.bound == 0 then None else (if bytes_eq s.name.thread.exec t.exec then awaited s.bound s.name.thread.path t.path else None)

-- the thread is a branch for which the step waited, or lies under one
abbrev pub awaits : Fact → Thread → Bool
awaits s t = is_some (awaited_by s t)

-- A later step b depends directly on an earlier step a: they are of one thread; or a is the start of b's execution, or a fork
-- that b's thread lies under at any depth; or b is a join or a terminate, and a's thread lies under the fork that it closes; or
-- both access one key, and not both read; or b is a branch's first move, and a's thread is a branch for which it waited, or lies
-- under one.
abbrev pub depends_directly : Fact → Fact → Bool
depends_directly a b =
    is_same_thread a.name.thread b.name.thread
    || (begins a b.name.thread || (makes a b.name.thread || (closes b a.name.thread || (conflicts a.access b.access || awaits b a.name.thread))))
