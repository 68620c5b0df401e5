-- A small machine that is reversible: threads that fork and join, over shared counters. That one thread lies under another is no
-- dependence here, so that steps which don't depend on each other commute only in worlds that runs reach.
use Rattle.std.specs.Prelude.{◌≡◌, ℕ, ◌+◌, ◌-◌, ◌==◌, Bool, true, false, ◌&&◌, ◌||◌, List, [], ◌∷◌, ◌++◌, Option, None, Some, option_map, option_and_then, if◌then◌else◌}
use Rattle.trace_theory.specs.Traces.{Machine, IsReversible, HasNames}
use Rattle.trace_theory.specs.Footprints.{Plans}

-- A thread is named by the branches that lead to it: step number n of thread t, a fork, makes the threads t/(n, 0) and t/(n, 1).
abbrev pub counter_same_branch : ℕ × ℕ → ℕ × ℕ → Bool
counter_same_branch a b = (a.0 == b.0) && (a.1 == b.1)

abbrev pub counter_same_thread : List (ℕ × ℕ) → List (ℕ × ℕ) → Bool
counter_same_thread [] [] = true
counter_same_thread [] (b ∷ q) = false
counter_same_thread (a ∷ p) [] = false
counter_same_thread (a ∷ p) (b ∷ q) = counter_same_branch a b && counter_same_thread p q

-- q lies under the fork that is step n of p
abbrev pub counter_is_under : List (ℕ × ℕ) → ℕ → List (ℕ × ℕ) → Bool
counter_is_under [] n [] = false
counter_is_under [] n (b ∷ q) = b.0 == n
counter_is_under (a ∷ p) n [] = false
counter_is_under (a ∷ p) n (b ∷ q) = counter_same_branch a b && counter_is_under p n q

pub data Phase : Type 0 where
  ready : Phase
  parked : Phase
  done : Phase

pub record Frame : Type 0 where
  pub count : ℕ
  pub value : ℕ
  pub phase : Phase

pub record CounterWorld : Type 0 where
  pub frames : List (ℕ × ℕ) → Option Frame
  pub counters : ℕ → ℕ

-- take a counter's value, write one more than the own value to a counter, fork two threads, join them, or end
pub data Act : Type 0 where
  reads : ℕ → Act
  writes : ℕ → Act
  forks : Act
  joins : Act
  ends : Act

-- the name of a step, with what it carries
pub record CounterStep : Type 0 where
  pub thread : List (ℕ × ℕ)
  pub no : ℕ
  pub act : Act

abbrev pub counter_is_fork : Act → Bool
counter_is_fork forks = true
counter_is_fork (reads k) = false
counter_is_fork (writes k) = false
counter_is_fork joins = false
counter_is_fork ends = false

abbrev pub is_join : Act → Bool
is_join joins = true
is_join (reads k) = false
is_join (writes k) = false
is_join forks = false
is_join ends = false

abbrev pub writes_counter : Act → ℕ → Bool
writes_counter (writes j) k = j == k
writes_counter (reads j) k = false
writes_counter forks k = false
writes_counter joins k = false
writes_counter ends k = false

abbrev pub touches_counter : Act → ℕ → Bool
touches_counter (writes j) k = j == k
touches_counter (reads j) k = j == k
touches_counter forks k = false
touches_counter joins k = false
touches_counter ends k = false

-- both are of one counter, and one of them writes it
abbrev pub conflict : Act → Act → Bool
conflict (writes j) b = touches_counter b j
conflict (reads j) b = writes_counter b j
conflict forks b = false
conflict joins b = false
conflict ends b = false

-- the thread lies under the fork that the step is, or under the fork before it, which it joins
abbrev pub counter_makes : CounterStep → List (ℕ × ℕ) → Bool
counter_makes s q = counter_is_fork s.act && counter_is_under s.thread s.no q

abbrev pub counter_closes : CounterStep → List (ℕ × ℕ) → Bool
counter_closes s q = is_join s.act && counter_is_under s.thread (s.no - 1) q

abbrev pub depends : CounterStep → CounterStep → Bool
depends a b = counter_same_thread a.thread b.thread || (counter_makes a b.thread || (counter_closes b a.thread || conflict a.act b.act))

-- ---- plans

pub data CounterCell : Type 0 where
  frame_at : List (ℕ × ℕ) → CounterCell
  counter_at : ℕ → CounterCell

pub data CounterContent : Type 0 where
  a_frame : Option Frame → CounterContent
  a_number : ℕ → CounterContent

abbrev pub content_at : CounterWorld → CounterCell → CounterContent
content_at w (frame_at q) = a_frame (w.frames q)
content_at w (counter_at k) = a_number (w.counters k)

-- a step, its thread's frame afterwards, and what a counter that it writes holds afterwards
pub record Plan : Type 0 where
  pub step : CounterStep
  pub frame : Frame
  pub number : ℕ

abbrev pub counter_is_ready : Phase → Bool
counter_is_ready ready = true
counter_is_ready parked = false
counter_is_ready done = false

abbrev pub counter_is_parked : Phase → Bool
counter_is_parked parked = true
counter_is_parked ready = false
counter_is_parked done = false

abbrev pub counter_is_done : Option Frame → Bool
counter_is_done None = false
counter_is_done (Some f) = is_end f.phase
  where
    is_end : Phase → Bool
    is_end done = true
    is_end ready = false
    is_end parked = false

-- a step of a frame can be taken: it is ready, or it is parked and both branches are done
abbrev pub can : Act → Frame → Option Frame → Option Frame → Bool
can joins f a b = counter_is_parked f.phase && (counter_is_done a && counter_is_done b)
can (reads k) f a b = counter_is_ready f.phase
can (writes k) f a b = counter_is_ready f.phase
can forks f a b = counter_is_ready f.phase
can ends f a b = counter_is_ready f.phase

abbrev pub phase_after : Act → Phase
phase_after forks = parked
phase_after ends = done
phase_after (reads k) = ready
phase_after (writes k) = ready
phase_after joins = ready

abbrev pub value_after : Act → Frame → ℕ → ℕ
value_after (reads k) f seen = seen
value_after (writes k) f seen = f.value
value_after forks f seen = f.value
value_after joins f seen = f.value
value_after ends f seen = f.value

-- what a step looks up besides its thread's frame: the counter that it reads, and the branches that it joins
abbrev pub seen : CounterWorld → Act → ℕ
seen w (reads k) = w.counters k
seen w (writes k) = 0
seen w forks = 0
seen w joins = 0
seen w ends = 0

abbrev pub branch : CounterWorld → Act → List (ℕ × ℕ) → ℕ → ℕ → Option Frame
branch w joins t n i = w.frames (t ++ (n - 1, i) ∷ [])
branch w (reads k) t n i = None
branch w (writes k) t n i = None
branch w forks t n i = None
branch w ends t n i = None

abbrev pub plan_by : CounterStep → ℕ → Option Frame → Option Frame → Frame → Option Plan
plan_by s value a b f =
    if (s.no == f.count + 1) && can s.act f a b
    then Some record { step = s; frame = record { count = f.count + 1; value = value_after s.act f value; phase = phase_after s.act }; number = f.value + 1 }
    else None

abbrev pub counter_plan : CounterWorld → CounterStep → Option Plan
counter_plan w s = option_and_then (plan_by s (seen w s.act) (branch w s.act s.thread s.no 0) (branch w s.act s.thread s.no 1)) (w.frames s.thread)

abbrev pub counter_first_frame : Frame
counter_first_frame = record { count = 0; value = 0; phase = ready }

-- what stands under a fork once the step is taken: the two branches of a fork, and nothing after a join
abbrev pub below : CounterStep → List (ℕ × ℕ) → Option Frame
below s q = if counter_is_fork s.act && (counter_same_thread (s.thread ++ (s.no, 0) ∷ []) q || counter_same_thread (s.thread ++ (s.no, 1) ∷ []) q) then Some counter_first_frame else None

abbrev pub counter_reaches : CounterStep → List (ℕ × ℕ) → Bool
counter_reaches s q = counter_makes s q || counter_closes s q

abbrev pub counter_after_effect : CounterWorld → Plan → CounterWorld
counter_after_effect w p = record {
  frames = λ q. if counter_same_thread p.step.thread q then Some p.frame else (if counter_reaches p.step q then below p.step q else w.frames q);
  counters = λ k. if writes_counter p.step.act k then p.number else w.counters k;
}

abbrev pub touched : Plan → CounterCell → Bool
touched p (frame_at q) = counter_same_thread p.step.thread q || counter_reaches p.step q
touched p (counter_at k) = touches_counter p.step.act k

abbrev pub counter_written : Plan → CounterCell → Bool
counter_written p (frame_at q) = counter_same_thread p.step.thread q || counter_reaches p.step q
counter_written p (counter_at k) = writes_counter p.step.act k

abbrev pub counter_held_after : Plan → CounterCell → CounterContent
counter_held_after p (frame_at q) = a_frame (if counter_same_thread p.step.thread q then Some p.frame else below p.step q)
counter_held_after p (counter_at k) = a_number p.number

abbrev pub counter_plans : Plans CounterWorld CounterStep CounterStep CounterCell CounterContent Plan
counter_plans = record { at = content_at; plan = counter_plan; after_effect = counter_after_effect; fact = λ p. p.step; touches = touched; writes = counter_written; holds = counter_held_after }

-- ---- the machine

-- the thread's frame, the counter that is written, and what stands under the fork that is joined
pub record Saved : Type 0 where
  pub frame : Option Frame
  pub counter : ℕ
  pub joined : List (ℕ × ℕ) → Option Frame

abbrev pub counter_before : CounterWorld → Act → ℕ
counter_before w (writes k) = w.counters k
counter_before w (reads k) = 0
counter_before w forks = 0
counter_before w joins = 0
counter_before w ends = 0

abbrev pub saved : CounterWorld → CounterStep → Saved
saved w s = record { frame = w.frames s.thread; counter = counter_before w s.act; joined = λ q. if counter_closes s q then w.frames q else None }

abbrev pub counter_undo : CounterWorld → CounterStep → Saved → CounterWorld
counter_undo v s kept = record {
  frames = λ q. if counter_same_thread s.thread q then kept.frame else (if counter_reaches s q then kept.joined q else v.frames q);
  counters = λ k. if writes_counter s.act k then kept.counter else v.counters k;
}

abbrev pub counters : Machine CounterWorld CounterStep CounterStep Saved
counters = record {
  take = λ w s. option_map (λ p. (counter_after_effect w p, p.step)) (counter_plan w s);
  is_same = λ a b. counter_same_thread a.thread b.thread && (a.no == b.no);
  depends = depends;
  saved = saved;
  undo = counter_undo;
}

-- one thread that is ready, and each counter 0
abbrev pub start : CounterWorld
start = record { frames = λ q. if counter_same_thread [] q then Some counter_first_frame else None; counters = λ _. 0 }

abbrev pub CountersAreReversible : Type 0
CountersAreReversible = IsReversible counters start

abbrev pub CountersHaveNames : Type 0
CountersHaveNames = HasNames counters start

-- In a world that no run reaches, where a thread stands under one that isn't parked, two steps that don't depend on each other
-- can be taken in one order, and in the other give another world.
pub record SwapFails (w : CounterWorld) (a b : CounterStep) : Type 0 where
  pub independent : depends a b ≡ false
  pub first : CounterWorld
  pub second : CounterWorld
  pub other_first : CounterWorld
  pub other_second : CounterWorld
  pub takes_first : counters.take w a ≡ Some (first, a)
  pub takes_second : counters.take first b ≡ Some (second, b)
  pub takes_other : counters.take w b ≡ Some (other_first, b)
  pub takes_last : counters.take other_first a ≡ Some (other_second, a)
  pub differ : second ≡ other_second → ⊥

abbrev pub PremiseIsNeeded : Type 0
PremiseIsNeeded = (w : CounterWorld) × (a : CounterStep) × (b : CounterStep) × SwapFails w a b
