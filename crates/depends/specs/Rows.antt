-- The definitions at one history: an execution forks two branches. The second forks a branch of its own, which ends; the first
-- fails, and the execution terminates over all of them.
use Rattle.std.specs.Prelude.{◌≡◌, ℕ, true, false, List, [], ◌∷◌, map, reverse, Option, Some, None, option_map, codes, refl}
use Rattle.json_tree.specs.declared.tree.Json.TheVariants.{Null}
use Rattle.attr_values.specs.declared.key.Key.{Key}
use Rattle.attr_values.specs.declared.key.KeyType.TheVariants.{S as TextType}
use Rattle.attr_values.specs.declared.key_part.KeyPart.TheVariants.{S as text_part}
use Rattle.item_store.specs.declared.access.AccessMode.{AccessMode}
use Rattle.item_store.specs.declared.access.AccessMode.TheVariants.{Read, Write}
use Rattle.saved_steps.specs.ErrorHandling.{ErrorHandling}
use Rattle.saved_steps.specs.Definition.{Definition, pass, fail, parallel, machine_trees}
use Rattle.saved_steps.specs.StateProcessing.{Processing}
use Rattle.saved_steps.specs.Transition.TheVariants.{End}
use Rattle.saved_steps.specs.Frame.{Frame}
use Rattle.saved_steps.specs.Phase.{Phase}
use Rattle.saved_steps.specs.Phase.TheVariants.{Ready, Parked, Done, Failed}
use Rattle.step_names.specs.Thread.{Thread}
use Rattle.trace_theory.specs.Traces.{run, names_of, consequences, undo_each}
use Rattle.saved_steps.specs.Steps.{Step, started, moved}
use Rattle.saved_steps.specs.World.{Setting, World}
use Rattle.saved_steps.specs.declared.fact.Fact.{Fact}
use Rattle.saved_steps.specs.declared.fact.Kind.{Kind}
use Rattle.saved_steps.specs.declared.fact.Kind.TheVariants.{Start, Plain, Call, Fork, Terminate}
use Rattle.depends.specs.Dependence.{depends_directly}
use Rattle.depends.specs.Instance.{steps}
use Rattle.depends.specs.Plans as plans

abbrev processing : Processing
processing = record { input_path = Some []; parameters = None; result_selector = None; result_path = Some []; output_path = Some [] }

abbrev no_errors : ErrorHandling
no_errors = record { retriers = []; catchers = [] }

abbrev going_on : Definition
going_on = record { start = codes "W"; states = (codes "W", pass record { processing = processing; result = None; transition = End }) ∷ [] }

abbrev failing : Definition
failing = record { start = codes "F"; states = (codes "F", fail record { error = codes "X"; cause = [] }) ∷ [] }

abbrev inner : Definition
inner = record { start = codes "Q"; states = (codes "Q", parallel (machine_trees (going_on ∷ [])) processing no_errors End) ∷ [] }

abbrev outer : Definition
outer = record { start = codes "P"; states = (codes "P", parallel (machine_trees (failing ∷ inner ∷ [])) processing no_errors End) ∷ [] }

abbrev setting : Setting
setting = record { machines = λ _. Some outer; table = codes "t"; schema = record { partition = record { name = codes "id"; kind = TextType }; sort = None } }

abbrev base : World
base = record { frames = λ _. None; items = λ _. None }

abbrev thread : List (ℕ × ℕ) → Thread
thread path = record { exec = codes "e"; path = path }

abbrev step : List (ℕ × ℕ) → ℕ → Step
step path number = moved record { thread = thread path; no = number }

abbrev start : Step
start = started (codes "e") (codes "m") Null

abbrev fork : Step
fork = step [] 1

abbrev inner_fork : Step
inner_fork = step ((1, 1) ∷ []) 1

abbrev grandchild : Step
grandchild = step ((1, 1) ∷ (1, 0) ∷ []) 1

abbrev failure : Step
failure = step ((1, 0) ∷ []) 1

abbrev terminate : Step
terminate = step [] 2

abbrev history : List Step
history = start ∷ fork ∷ inner_fork ∷ grandchild ∷ failure ∷ terminate ∷ []

-- what a row looks at: where the execution and its three threads are
data Look : Type 0 where
  none : Look
  ready : ℕ → Look
  parked : ℕ → Look
  done : Look
  failed : Look

abbrev phase_look : ℕ → Phase → Look
phase_look count Ready = ready count
phase_look count (Parked n bound) = parked count
phase_look count (Done output) = done
phase_look count (Failed fault) = failed

abbrev look : Option Frame → Look
look None = none
look (Some f) = phase_look f.count f.phase

abbrev seen : World → List Look
seen w = map (λ path. look (w.frames (thread path))) ([] ∷ ((1, 0) ∷ []) ∷ ((1, 1) ∷ []) ∷ ((1, 1) ∷ (1, 0) ∷ []) ∷ [])

abbrev gives : List Step → Option (List Look)
gives names = option_map (λ p. seen p.0) (run (steps setting) base names)

abbrev kinds : List Step → Option (List Kind)
kinds names = option_map (λ p. map (λ t. t.fact.kind) p.1) (run (steps setting) base names)

abbrev after_of : List Step → Step → Option (List Step)
after_of names s = option_map (λ p. names_of (steps setting) (consequences (steps setting) p.1 s)) (run (steps setting) base names)

abbrev rolled_back : List Step → Step → Option (List Look)
rolled_back names s = option_map (λ p. seen (undo_each (steps setting) p.0 (reverse (consequences (steps setting) p.1 s)))) (run (steps setting) base names)

row_kinds : kinds history ≡ Some (Start ∷ Fork ∷ Fork ∷ Plain ∷ Plain ∷ Terminate ∷ [])
row_kinds = refl

row_ran : gives history ≡ Some (failed ∷ none ∷ none ∷ none ∷ [])
row_ran = refl

row_before : gives (start ∷ fork ∷ inner_fork ∷ grandchild ∷ failure ∷ []) ≡ Some (parked 1 ∷ failed ∷ parked 1 ∷ done ∷ [])
row_before = refl

-- the terminate depends on the step of a branch's branch, which depends on both forks
row_after_grandchild : after_of history grandchild ≡ Some (grandchild ∷ terminate ∷ [])
row_after_grandchild = refl

row_after_inner_fork : after_of history inner_fork ≡ Some (inner_fork ∷ grandchild ∷ terminate ∷ [])
row_after_inner_fork = refl

row_after_failure : after_of history failure ≡ Some (failure ∷ terminate ∷ [])
row_after_failure = refl

row_after_fork : after_of history fork ≡ Some (fork ∷ inner_fork ∷ grandchild ∷ failure ∷ terminate ∷ [])
row_after_fork = refl

-- the branches come back with the terminate's undoing
row_rolled_back : rolled_back history grandchild ≡ Some (parked 1 ∷ failed ∷ parked 1 ∷ ready 0 ∷ [])
row_rolled_back = refl

row_rest : rolled_back history grandchild ≡ gives (start ∷ fork ∷ inner_fork ∷ failure ∷ [])
row_rest = refl

-- a branch can't go on where its fork is not there, and no step is taken twice
row_no_fork : gives (start ∷ failure ∷ []) ≡ None
row_no_fork = refl

row_twice : gives (start ∷ fork ∷ failure ∷ failure ∷ []) ≡ None
row_twice = refl

-- ---- one key

abbrev key : List ℕ → Key
key text = record { partition = text_part text; sort = None }

abbrev call : List ℕ → ℕ → AccessMode → List ℕ → Fact
call exec number mode k = record { name = record { thread = record { exec = exec; path = [] }; no = number }; kind = Call; access = Some record { key = key k; mode = mode }; bound = 0 }

-- two reads of one key are independent, as are writes of two keys
row_reads : depends_directly (call (codes "a") 1 Read (codes "k")) (call (codes "b") 1 Read (codes "k")) ≡ false
row_reads = refl

row_write_read : depends_directly (call (codes "a") 1 Write (codes "k")) (call (codes "b") 1 Read (codes "k")) ≡ true
row_write_read = refl

row_read_write : depends_directly (call (codes "a") 1 Read (codes "k")) (call (codes "b") 1 Write (codes "k")) ≡ true
row_read_write = refl

row_two_keys : depends_directly (call (codes "a") 1 Write (codes "k")) (call (codes "b") 1 Write (codes "l")) ≡ false
row_two_keys = refl

-- a writes, b reads it and then writes another key, which a reads: the last depends on the first by its thread and by b's steps
abbrev calls : List Fact
calls = call (codes "a") 1 Write (codes "k") ∷ call (codes "b") 1 Read (codes "k") ∷ call (codes "c") 1 Read (codes "k") ∷ call (codes "b") 2 Write (codes "l") ∷ call (codes "c") 2 Read (codes "l") ∷ []

row_plan : plans.plan calls 1 ≡ 4 ∷ 3 ∷ 1 ∷ []
row_plan = refl

row_plan_of_all : plans.plan calls 0 ≡ 4 ∷ 3 ∷ 2 ∷ 1 ∷ 0 ∷ []
row_plan_of_all = refl

row_first : plans.first_dependent calls 0 ≡ Some 1
row_first = refl

row_first_later : plans.first_dependent calls 1 ≡ Some 3
row_first_later = refl

row_no_first : plans.first_dependent calls 4 ≡ None
row_no_first = refl

-- ---- a bound

-- the first move of a branch of the fork e#1, with the bound 2
abbrev first_move : ℕ → Fact
first_move index = record { name = record { thread = thread ((1, index) ∷ []); no = 1 }; kind = Plain; access = None; bound = 2 }

abbrev later_move : ℕ → List (ℕ × ℕ) → Fact
later_move index under = record { name = record { thread = thread ((1, index) ∷ under); no = 2 }; kind = Plain; access = None; bound = 0 }

-- that of branch 3 depends on the steps of branches 0 and 1, and of what lies under them, and on none of branch 2 or of another fork
row_bound_before : map (λ i. depends_directly (later_move i []) (first_move 3)) (0 ∷ 1 ∷ 2 ∷ 4 ∷ []) ≡ true ∷ true ∷ false ∷ false ∷ []
row_bound_before = refl

row_bound_under : depends_directly (later_move 1 ((5, 7) ∷ [])) (first_move 3) ≡ true
row_bound_under = refl

row_bound_other : depends_directly (later_move 0 []) (record { name = record { thread = thread ((2, 3) ∷ []); no = 1 }; kind = Plain; access = None; bound = 2 }) ≡ false
row_bound_other = refl

row_no_bound : depends_directly (later_move 0 []) (later_move 3 []) ≡ false
row_no_bound = refl
