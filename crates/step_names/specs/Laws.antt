-- Laws over the definitions, each the contract of a function of the crate.
use Rattle.std.specs.Prelude.{◌≡◌, ℕ, ◌≤◌, ◌⊎◌, List, length, Some}
use Rattle.step_names.specs.declared.thread.TheConstants.{LONGEST_THREAD}
use Rattle.step_names.specs.declared.step.TheConstants.{LONGEST_STEP}
use Rattle.step_names.specs.Thread.{Thread, IsThread, IsStep, child_of}
use Rattle.step_names.specs.Written.{thread_text, step_text}
use Rattle.step_names.specs.Grammar.{read_thread, read_step}
use Rattle.step_names.specs.Under.{IsUnder}
use Rattle.step_names.specs.Order.{thread_cmp, step_cmp}
use Rattle.std.specs.declared.cmp.Ordering.TheVariants.{Less, Equal}
use Rattle.step_names.specs.declared.step.StepName.{StepName}

-- what is written is read as it was
abbrev pub ThreadReadsBack : Type 0
ThreadReadsBack = (thread : Thread) → IsThread thread → read_thread (thread_text thread) ≡ Some thread

-- what is read keeps the bounds, and has that one spelling
abbrev pub ThreadWritesBack : Type 0
ThreadWritesBack = (text : List ℕ) (thread : Thread) → read_thread text ≡ Some thread → IsThread thread × (thread_text thread ≡ text)

-- two names with one text are one
abbrev pub ThreadTextIsOne : Type 0
ThreadTextIsOne = (a b : Thread) → IsThread a → IsThread b → thread_text a ≡ thread_text b → a ≡ b

abbrev pub StepReadsBack : Type 0
StepReadsBack = (step : StepName) → IsStep step.thread step.no → read_step (step_text step) ≡ Some step

abbrev pub StepWritesBack : Type 0
StepWritesBack = (text : List ℕ) (step : StepName) → read_step text ≡ Some step → IsStep step.thread step.no × (step_text step ≡ text)

abbrev pub StepTextIsOne : Type 0
StepTextIsOne = (a b : StepName) → IsStep a.thread a.no → IsStep b.thread b.no → step_text a ≡ step_text b → a ≡ b

-- no name is longer than the constants say
abbrev pub ThreadTextIsBounded : Type 0
ThreadTextIsBounded = (thread : Thread) → IsThread thread → length (thread_text thread) ≤ LONGEST_THREAD

abbrev pub StepTextIsBounded : Type 0
StepTextIsBounded = (step : StepName) → IsStep step.thread step.no → length (step_text step) ≤ LONGEST_STEP

-- and some are as long
abbrev pub LongestThread : Type 0
LongestThread = (thread : Thread) × IsThread thread × (length (thread_text thread) ≡ LONGEST_THREAD)

abbrev pub LongestStep : Type 0
LongestStep = (step : StepName) × IsStep step.thread step.no × (length (step_text step) ≡ LONGEST_STEP)

-- a branch of a fork lies under it
abbrev pub ChildIsUnder : Type 0
ChildIsUnder = (thread : Thread) (fork branch : ℕ) → IsUnder (child_of thread fork branch) thread fork

-- a thread under a fork of one that itself lies under a fork lies under that fork too
abbrev pub UnderIsTransitive : Type 0
UnderIsTransitive =
    (low middle high : Thread) (fork outer : ℕ) → IsUnder low middle fork → IsUnder middle high outer → IsUnder low high outer

-- a name goes through one fork of a thread above it, and so lies under no other
abbrev pub UnderIsOne : Type 0
UnderIsOne = (low high : Thread) (fork other : ℕ) → IsUnder low high fork → IsUnder low high other → fork ≡ other

-- no thread lies under a fork of its own
abbrev pub UnderIsBelow : Type 0
UnderIsBelow = (thread : Thread) (fork : ℕ) → IsUnder thread thread fork → ⊥

-- and of two threads each lies under no fork of the other
abbrev pub UnderIsOneWay : Type 0
UnderIsOneWay = (a b : Thread) (fork other : ℕ) → IsUnder a b fork → IsUnder b a other → ⊥

-- of two threads above a third, one is the other or lies under it
abbrev pub AboveIsInLine : Type 0
AboveIsInLine = (low a b : Thread) (fork other : ℕ) → IsUnder low a fork → IsUnder low b other → (a ≡ b) ⊎ (IsUnder a b other ⊎ IsUnder b a fork)

-- the order tells all names apart
abbrev pub ThreadOrderIsExact : Type 0
ThreadOrderIsExact = (a b : Thread) → thread_cmp a b ≡ Equal → a ≡ b

abbrev pub StepOrderIsExact : Type 0
StepOrderIsExact = (a b : StepName) → step_cmp a b ≡ Equal → a ≡ b

-- a thread comes before all that lie under its forks
abbrev pub UnderComesLater : Type 0
UnderComesLater = (low high : Thread) (fork : ℕ) → IsUnder low high fork → thread_cmp high low ≡ Less
