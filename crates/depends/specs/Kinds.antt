-- The marks that steps leave, of each kind by itself: what it tells is told by one of the steps.
use Rattle.std.specs.Prelude.{◌≡◌, ℕ, Bool, false, ◌&&◌, ◌||◌, List, Option, None, Some, nat_eq}
use Rattle.std.specs.BTreeMap.{get}
use Rattle.std.specs.BTreeSet.{contains}
use Rattle.std.specs.HashMap.{get as get_first}
use Rattle.std.specs.HashSet.{contains as has_key}
use Rattle.std.specs.List.{list_any}
use Rattle.std.specs.Ordering.{eq_by_cmp}
use Rattle.json_tree.specs.Fields.{text_cmp}
use Rattle.item_store.specs.Condition.{is_text}
use Rattle.item_store.specs.Table.{is_same_key}
use Rattle.attr_values.specs.declared.key.Key.{Key}
use Rattle.step_names.specs.Order.{step_cmp, thread_cmp}
use Rattle.step_names.specs.Thread.{Thread}
use Rattle.step_names.specs.declared.step.StepName.{StepName}
use Rattle.saved_steps.specs.Steps.{is_fork, touches_key, writes_key}
use Rattle.saved_steps.specs.World.{is_same_thread}
use Rattle.saved_steps.specs.declared.fact.Fact.{Fact}
use Rattle.depends.specs.Dependence.{is_start}
use Rattle.depends.specs.Above.{IsDownward, forks_above, goes_by, passes}
use Rattle.depends.specs.Hashes.{thread_hash}
use Rattle.depends.specs.declared.forks.ForkMarks.{ForkMarks}
use Rattle.depends.specs.declared.keys.KeyMarks.{KeyMarks}
use Rattle.depends.specs.declared.starts.StartMarks.{StartMarks}
use Rattle.depends.specs.declared.thread_marks.ThreadMarks.{ThreadMarks}
use Rattle.depends.specs.declared.under.UnderMarks.{UnderMarks}

-- ---- what a step tells

-- it is of this thread
abbrev pub is_of_thread : Thread → Fact → Bool
is_of_thread t g = is_same_thread g.name.thread t

-- it is the start of this execution
abbrev pub starts : List ℕ → Fact → Bool
starts exec g = is_start g.kind && is_text g.name.thread.exec exec

-- it is this step, and a fork
abbrev pub is_fork_named : StepName → Fact → Bool
is_fork_named s g = is_fork g.kind && eq_by_cmp step_cmp g.name s

-- its thread lies under this fork, by a branch whose index passes a test
abbrev pub lies_by : StepName → (ℕ → Bool) → Fact → Bool
lies_by s test g = list_any (goes_by s test) (forks_above g.name.thread)

-- it accessed this key; it wrote it
abbrev pub fact_touches : Key → Fact → Bool
fact_touches key g = touches_key g key

abbrev pub fact_writes : Key → Fact → Bool
fact_writes key g = writes_key g key

-- ---- of some steps

abbrev pub is_it : Option Thread → Thread → Bool
is_it None t = false
is_it (Some u) t = is_same_thread u t

-- it is the first of its hash, or among the others
abbrev pub has_thread : ThreadMarks → Thread → Bool
has_thread m t = is_it (get_first nat_eq m.first (thread_hash t)) t || contains thread_cmp m.others t

abbrev pub AreThreads : List Fact → ThreadMarks → Type 0
AreThreads facts m = (t : Thread) → has_thread m t ≡ list_any (is_of_thread t) facts

abbrev pub AreStartMarks : List Fact → StartMarks → Type 0
AreStartMarks facts m = (exec : List ℕ) → contains text_cmp m.execs exec ≡ list_any (starts exec) facts

abbrev pub AreForks : List Fact → ForkMarks → Type 0
AreForks facts m = (s : StepName) → contains step_cmp m.names s ≡ list_any (is_fork_named s) facts

abbrev pub AreUnder : List Fact → UnderMarks → Type 0
AreUnder facts m = (s : StepName) (test : ℕ → Bool) → IsDownward test → passes test (get step_cmp m.least s) ≡ list_any (lies_by s test) facts

pub record AreKeyMarks (facts : List Fact) (m : KeyMarks) : Type 0 where
  pub touched : (key : Key) → has_key is_same_key m.touched key ≡ list_any (fact_touches key) facts
  pub wrote : (key : Key) → has_key is_same_key m.written key ≡ list_any (fact_writes key) facts
