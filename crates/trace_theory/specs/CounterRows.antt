-- The definitions at one history of the small machine: the root forks, a writes counter 0, b writes counter 5, reads counter 0 and
-- writes counter 1, both end, and the root joins them.
use Rattle.std.specs.Prelude.{◌≡◌, ℕ, false, List, [], ◌∷◌, reverse, Option, Some, None, option_map, refl}
use Rattle.trace_theory.specs.Traces.{run, names_of, consequences, undo_each}
use Rattle.trace_theory.specs.Counters.{Frame, CounterWorld, ready, reads, writes, forks, joins, ends, CounterStep, counters, start, depends}

abbrev fork : CounterStep
fork = record { thread = []; no = 1; act = forks }

abbrev a_writes : CounterStep
a_writes = record { thread = (1, 0) ∷ []; no = 1; act = writes 0 }

abbrev b_writes : CounterStep
b_writes = record { thread = (1, 1) ∷ []; no = 1; act = writes 5 }

abbrev b_reads : CounterStep
b_reads = record { thread = (1, 1) ∷ []; no = 2; act = reads 0 }

abbrev b_writes_more : CounterStep
b_writes_more = record { thread = (1, 1) ∷ []; no = 3; act = writes 1 }

abbrev a_ends : CounterStep
a_ends = record { thread = (1, 0) ∷ []; no = 2; act = ends }

abbrev b_ends : CounterStep
b_ends = record { thread = (1, 1) ∷ []; no = 4; act = ends }

abbrev join : CounterStep
join = record { thread = []; no = 2; act = joins }

abbrev history : List CounterStep
history = fork ∷ a_writes ∷ b_writes ∷ b_reads ∷ b_writes_more ∷ a_ends ∷ b_ends ∷ join ∷ []

-- what a row looks at: the counters 0, 1 and 5, and the frames of the root, a and b
abbrev seen : CounterWorld → List ℕ × List (Option Frame)
seen w = (w.counters 0 ∷ w.counters 1 ∷ w.counters 5 ∷ [], w.frames [] ∷ w.frames ((1, 0) ∷ []) ∷ w.frames ((1, 1) ∷ []) ∷ [])

abbrev after_of : List CounterStep → CounterStep → Option (List CounterStep)
after_of steps s = option_map (λ p. names_of counters (consequences counters p.1 s)) (run counters start steps)

-- the world once the consequences of s are undone from the last to the first
abbrev rolled_back : List CounterStep → CounterStep → Option (List ℕ × List (Option Frame))
rolled_back steps s = option_map (λ p. seen (undo_each counters p.0 (reverse (consequences counters p.1 s)))) (run counters start steps)

abbrev gives : List CounterStep → Option (List ℕ × List (Option Frame))
gives steps = option_map (λ p. seen p.0) (run counters start steps)

row_run : gives history ≡ Some (1 ∷ 2 ∷ 1 ∷ [], Some (record { count = 2; value = 0; phase = ready }) ∷ None ∷ None ∷ [])
row_run = refl

-- b's read depends on a's write, b's later steps on its read, and the join on all; b's first step on none of these
row_after_write : after_of history a_writes ≡ Some (a_writes ∷ b_reads ∷ b_writes_more ∷ a_ends ∷ b_ends ∷ join ∷ [])
row_after_write = refl

-- not directly
row_indirect : depends a_writes b_writes_more ≡ false
row_indirect = refl

row_after_fork : after_of history fork ≡ Some history
row_after_fork = refl

row_after_last_write : after_of history b_writes_more ≡ Some (b_writes_more ∷ b_ends ∷ join ∷ [])
row_after_last_write = refl

-- a write depends on a read before it
row_after_read : after_of (fork ∷ b_writes ∷ b_reads ∷ a_writes ∷ []) b_reads ≡ Some (b_reads ∷ a_writes ∷ [])
row_after_read = refl

row_after_join : after_of history join ≡ Some (join ∷ [])
row_after_join = refl

-- the branches come back with the join's undoing, and the counters are those of the steps that remain
row_rolled_back : rolled_back history a_writes ≡ gives (fork ∷ b_writes ∷ [])
row_rolled_back = refl

row_rolled_back_late : rolled_back history b_writes_more ≡ gives (fork ∷ a_writes ∷ b_writes ∷ b_reads ∷ a_ends ∷ [])
row_rolled_back_late = refl

-- a linearization: a ends before b begins
row_arranged : gives (fork ∷ a_writes ∷ a_ends ∷ b_writes ∷ b_reads ∷ b_writes_more ∷ b_ends ∷ join ∷ []) ≡ gives history
row_arranged = refl

-- and none: b reads before a writes, which can be run, and gives another world, where counter 1 is 1
row_not_arranged : gives (fork ∷ b_writes ∷ b_reads ∷ a_writes ∷ b_writes_more ∷ a_ends ∷ b_ends ∷ join ∷ [])
    ≡ Some (1 ∷ 1 ∷ 1 ∷ [], Some (record { count = 2; value = 0; phase = ready }) ∷ None ∷ None ∷ [])
row_not_arranged = refl
