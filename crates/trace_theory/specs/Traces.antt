-- Steps that commute, and what follows for taking them back, over any machine: what is spoken of, then what a machine owes,
-- then the theorems. The words are those of traces (Mazurkiewicz, "Concurrent Program Schemes and their Interpretations",
-- 1977) and of causally consistent reversing (Danos and Krivine, "Reversible Communicating Systems", 2004).
use Rattle.std.specs.Prelude.{◌≡◌, ◌↔◌, ◌⊎◌, ℕ, ◌+◌, Bool, true, false, ◌&&◌, not, List, [], ◌∷◌, ◌++◌, length, map, filter, fold, reverse, Option, Some, option_map, option_and_then, if◌then◌else◌}
use Rattle.std.specs.List.{list_any}

-- x stands in the list
abbrev pub In : {A : Type 0} → A → List A → Type 0
In x [] = ⊥
In x (y ∷ ys) = (x ≡ y) ⊎ In x ys

-- x stands in the list at a place before one of y
abbrev pub Before : {A : Type 0} → A → A → List A → Type 0
Before x y [] = ⊥
Before x y (z ∷ zs) = ((x ≡ z) × In y zs) ⊎ Before x y zs

-- A machine takes steps, of W worlds, N names of steps with what they carry, F facts of steps taken, S what steps save.
pub record Machine (W N F S : Type 0) : Type 0 where
  -- the world after a step and the step's fact, where it can be taken
  pub take : W → N → Option (W × F)
  -- both are one name
  pub is_same : N → N → Bool
  -- dependence (Mazurkiewicz): a step of the second fact, if it is the later one, depends directly on one of the first
  pub depends : F → F → Bool
  -- what a step of this fact saves of the world in which it is taken
  pub saved : W → F → S
  -- the world once a step of this fact, which saved this, is undone
  pub undo : W → F → S → W

-- a step that was taken: its name, its fact, and what it saved
pub record Occurrence (N F S : Type 0) : Type 0 where
  pub step : N
  pub fact : F
  pub saved : S

-- what happens to the steps that remain: one is taken, or one of them is undone
pub data Event (N F S : Type 0) : Type 0 where
  takes : Occurrence N F S → Event N F S
  undoes : Occurrence N F S → Event N F S

-- a moment while the consequences of a step are held: the steps that remain, and whether that step was not undone since
pub record Moment (N F S : Type 0) : Type 0 where
  pub steps : List (Occurrence N F S)
  pub is_held : Bool

module _ {W N F S : Type 0} (m : Machine W N F S) where
  -- the steps of these names, one after another: the world that they give, and each with its fact and what it saved
  abbrev pub run : W → List N → Option (W × List (Occurrence N F S))
  run w [] = Some (w, [])
  run w (n ∷ ns) = option_and_then (λ p. option_map (λ q. (q.0, record { step = n; fact = p.1; saved = m.saved w p.1 } ∷ q.1)) (run p.0 ns)) (m.take w n)

  abbrev pub names_of : List (Occurrence N F S) → List N
  names_of ts = map (λ t. t.step) ts

  -- the run of these names from w: they have these facts, save this, and give v
  abbrev pub IsRun : W → List (Occurrence N F S) → W → Type 0
  IsRun w ts v = run w (names_of ts) ≡ Some (v, ts)

  -- one step, taken in w
  abbrev pub Takes : W → Occurrence N F S → W → Type 0
  Takes w t v = (m.take w t.step ≡ Some (v, t.fact)) × (t.saved ≡ m.saved w t.fact)

  -- the later step y depends directly on x
  abbrev pub needs : Occurrence N F S → Occurrence N F S → Bool
  needs x y = m.depends x.fact y.fact

  abbrev pub undone : W → Occurrence N F S → W
  undone v t = m.undo v t.fact t.saved

  -- some steps undone one after another, each from the world that it meets
  abbrev pub undo_each : W → List (Occurrence N F S) → W
  undo_each v xs = fold undone v xs

  abbrev pub is_among : List (Occurrence N F S) → Occurrence N F S → Bool
  is_among xs t = list_any (λ x. m.is_same x.step t.step) xs

  -- the steps but those of the names of some others, in their order
  abbrev pub without : List (Occurrence N F S) → List (Occurrence N F S) → List (Occurrence N F S)
  without xs ts = filter (λ t. not (is_among xs t)) ts

  -- one pass forward: a step that depends directly on a marked one is marked too
  abbrev pub consequences_from : List (Occurrence N F S) → List (Occurrence N F S) → List (Occurrence N F S)
  consequences_from marked [] = []
  consequences_from marked (t ∷ ts) = if list_any (λ x. needs x t) marked then t ∷ consequences_from (marked ++ t ∷ []) ts else consequences_from marked ts

  -- the step of a name and what one pass forward from it marks: its consequences (Danos and Krivine)
  abbrev pub consequences : List (Occurrence N F S) → N → List (Occurrence N F S)
  consequences [] s = []
  consequences (t ∷ ts) s = if m.is_same s t.step then t ∷ consequences_from (t ∷ []) ts else consequences ts s

  -- a set of steps holds s and each later step that depends directly on a member
  pub record HoldsConsequences (ts : List (Occurrence N F S)) (s : Occurrence N F S) (set : List (Occurrence N F S)) : Type 0 where
    pub itself : In s set
    pub closed : (x y : Occurrence N F S) → Before x y ts → In x set → needs x y ≡ true → In y set

  -- a set of these steps is the least that does
  pub record IsLeast (ts : List (Occurrence N F S)) (s : Occurrence N F S) (set : List (Occurrence N F S)) : Type 0 where
    pub of_them : (x : Occurrence N F S) → In x set → In x ts
    pub holds : HoldsConsequences ts s set
    pub least : (other : List (Occurrence N F S)) → HoldsConsequences ts s other → (x : Occurrence N F S) → In x set → In x other

  -- a step remains, and no later one depends directly on it
  abbrev pub IsMaximal : List (Occurrence N F S) → Occurrence N F S → Type 0
  IsMaximal ts t = In t ts × ((y : Occurrence N F S) → Before t y ts → needs t y ≡ false)

  -- an order in which steps may be undone (Danos and Krivine: it keeps to causes): each is free at its turn
  abbrev pub IsBackwardOrder : List (Occurrence N F S) → List (Occurrence N F S) → Type 0
  IsBackwardOrder ts [] = Unit {0}
  IsBackwardOrder ts (x ∷ xs) = IsMaximal ts x × IsBackwardOrder (without (x ∷ []) ts) xs

  -- a linearization of a run (Mazurkiewicz: of its trace): the same names once each, each directly dependent pair in its order
  pub record IsLinearization (ts : List (Occurrence N F S)) (names : List N) : Type 0 where
    pub once : (a b : N) → Before a b names → m.is_same a b ≡ false
    pub as_many : length names ≡ length ts
    pub the_same : (a : N) → In a names → In a (names_of ts)
    pub in_order : (x y : Occurrence N F S) → Before x y ts → needs x y ≡ true → Before x.step y.step names

  -- what is left at a moment of the held consequences of s: those that there are now, and none once s was undone
  abbrev pub left : N → Moment N F S → List (Occurrence N F S)
  left s now = if now.is_held then consequences now.steps s else []

  abbrev pub next : N → Moment N F S → Event N F S → Moment N F S
  next s now (takes t) = record { steps = now.steps ++ t ∷ []; is_held = now.is_held }
  next s now (undoes t) = record { steps = without (t ∷ []) now.steps; is_held = now.is_held && not (m.is_same s t.step) }

  abbrev pub later : N → Moment N F S → List (Event N F S) → Moment N F S
  later s now es = fold (next s) now es

  -- a step can be taken that depends directly on none that is left, and a free step can be undone
  abbrev pub MayHappen : W → N → Moment N F S → Event N F S → Type 0
  MayHappen base s now (takes t) = ((v : W) × IsRun base (now.steps ++ t ∷ []) v) × ((x : Occurrence N F S) → In x (left s now) → needs x t ≡ false)
  MayHappen base s now (undoes t) = IsMaximal now.steps t

  abbrev pub MayFollow : W → N → Moment N F S → List (Event N F S) → Type 0
  MayFollow base s now [] = Unit {0}
  MayFollow base s now (e ∷ es) = MayHappen base s now e × MayFollow base s (next s now e) es

  -- how many of some events undo a step that is left then
  abbrev pub lowered : N → Moment N F S → List (Event N F S) → ℕ
  lowered s now [] = 0
  lowered s now (takes t ∷ es) = lowered s (next s now (takes t)) es
  lowered s now (undoes t ∷ es) = (if is_among (left s now) t then 1 else 0) + lowered s (next s now (undoes t)) es

  -- What a machine owes after each run from a base: neighbours of which the later doesn't depend directly on the earlier swap, facts
  -- and saved contents included, and a step just taken is undone by what it saved.
  pub record IsReversible (base : W) : Type 0 where
    pub swapped : (ts : List (Occurrence N F S)) (w u v : W) (a b : Occurrence N F S) → IsRun base ts w → Takes w a u → Takes u b v → needs a b ≡ false → (x : W) × Takes w b x × Takes x a v
    pub taken_back : (ts : List (Occurrence N F S)) (w v : W) (t : Occurrence N F S) → IsRun base ts w → Takes w t v → undone v t ≡ w

  -- and a run has each name once
  pub record HasNames (base : W) : Type 0 where
    pub itself : (n : N) → m.is_same n n ≡ true
    pub alike : (a b : N) → m.is_same a b ≡ true → m.is_same b a ≡ true
    pub once : (ts : List (Occurrence N F S)) (v : W) (x y : Occurrence N F S) → IsRun base ts v → Before x y ts → m.is_same x.step y.step ≡ false

  -- Neighbours that don't depend on each other swap (Mazurkiewicz: they are independent): one world, the same facts and saved contents.
  abbrev pub Square : W → Type 0
  Square base = (v : W) (front back : List (Occurrence N F S)) (a b : Occurrence N F S) → IsRun base (front ++ a ∷ b ∷ back) v → needs a b ≡ false
      → IsRun base (front ++ b ∷ a ∷ back) v

  -- A step on which no later one depends directly is undone from the present world by what it saved: what is left is the run of the
  -- others, as they were; and taken again it stands last, with all as before (Danos and Krivine: the loop lemma, in the middle).
  abbrev pub Loop : W → Type 0
  Loop base = (v : W) (front back : List (Occurrence N F S)) (t : Occurrence N F S) → IsRun base (front ++ t ∷ back) v → ((y : Occurrence N F S) → In y back → needs t y ≡ false)
      → IsRun base (front ++ back) (undone v t) × Takes (undone v t) t v × IsRun base (front ++ back ++ t ∷ []) v

  -- What one pass forward marks is the least set that holds the step and all later steps that depend directly on a member.
  abbrev pub LeastConsequences : W → Type 0
  LeastConsequences base = (v : W) (ts : List (Occurrence N F S)) (s : Occurrence N F S) → IsRun base ts v → In s ts → IsLeast ts s (consequences ts s.step)

  -- Danos and Krivine's causal consistency.
  pub record OrdersUndo (base : W) : Type 0 where
    -- Every backward order gives the run of the rest, in its order, with its facts and saved contents.
    pub each : (v : W) (ts xs : List (Occurrence N F S)) → IsRun base ts v → IsBackwardOrder ts xs → IsRun base (without xs ts) (undo_each v xs)
    -- Orders of one set give one world.
    pub agree : (v : W) (ts xs ys : List (Occurrence N F S)) → IsRun base ts v → IsBackwardOrder ts xs → IsBackwardOrder ts ys → ((x : Occurrence N F S) → In x xs ↔ In x ys) → undo_each v xs ≡ undo_each v ys
    -- The consequences of a step may be undone from the last to the first, which gives the run of the rest.
    pub backward : (v : W) (ts : List (Occurrence N F S)) (s : Occurrence N F S) → IsRun base ts v → In s ts → IsBackwardOrder ts (reverse (consequences ts s.step)) × IsRun base (without (consequences ts s.step) ts) (undo_each v (reverse (consequences ts s.step)))
    -- Every backward order that holds a step holds all its consequences.
    pub whole : (v : W) (ts xs : List (Occurrence N F S)) (s x : Occurrence N F S) → IsRun base ts v → IsBackwardOrder ts xs → In s xs → In x (consequences ts s.step) → In x xs

  -- Every linearization can be run, to the same world, and name by name with the same facts and saved contents (Mazurkiewicz).
  abbrev pub LinearizationsAgree : W → Type 0
  LinearizationsAgree base = (v : W) (ts : List (Occurrence N F S)) (names : List N) → IsRun base ts v → IsLinearization ts names
      → (us : List (Occurrence N F S)) × (run base names ≡ Some (v, us)) × ((t : Occurrence N F S) → In t us ↔ In t ts)

  -- What is left, after undoings of so many that were left, is inside all that was held and smaller by so many; a free member's undoing
  -- lowers its number by one, no other event changes it, and where s doesn't remain nothing is left.
  pub record IsLeft (base : W) (all : List (Occurrence N F S)) (s : N) (now : Moment N F S) (undoings : ℕ) : Type 0 where
    pub inside : (x : Occurrence N F S) → In x (left s now) → In x all
    pub counted : length (left s now) + undoings ≡ length all
    pub by_member : (t : Occurrence N F S) → IsMaximal now.steps t → In t (left s now) → length (left s (next s now (undoes t))) + 1 ≡ length (left s now)
    pub by_other : (t : Occurrence N F S) → IsMaximal now.steps t → (In t (left s now) → ⊥) → left s (next s now (undoes t)) ≡ left s now
    pub by_step : (t : Occurrence N F S) → MayHappen base s now (takes t) → left s (next s now (takes t)) ≡ left s now
    pub gone : (In s (names_of now.steps) → ⊥) → left s now ≡ []

  -- So it is of the consequences of a step that are held at one moment, whatever may follow (a reservation of what is to be undone).
  abbrev pub HoldIsWhatIsLeft : W → Type 0
  HoldIsWhatIsLeft base = (v : W) (s : Occurrence N F S) (now : Moment N F S) (es : List (Event N F S)) → IsRun base now.steps v → In s now.steps → now.is_held ≡ true
      → MayFollow base s.step now es → IsLeft base (consequences now.steps s.step) s.step (later s.step now es) (lowered s.step now es)
