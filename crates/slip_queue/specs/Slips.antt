-- The rule of a queue of numbered slips: each number was put as often as it was taken or lies there still.
use Rattle.std.specs.Prelude.{◌≡◌, ℕ, ◌+◌, ◌==◌, ◌<◌, nat_lt, List, [], ◌∷◌, if◌then◌else◌}
use mathlib.Core.Option.{some}
use lib.ListN.{get_elem?}
use Rattle.crossbeam_queue.specs.Passes.{IsPassOf, view}
use Rattle.slip_queue.specs.declared.hand.Hand.{Hand}
use Rattle.slip_queue.specs.declared.slips.Slip.{Slip}
use Rattle.slip_queue.specs.declared.slips.Slips.{Slips}
use Rattle.slip_queue.specs.declared.giver.Giver.{Giver}
use Rattle.slip_queue.specs.declared.taker.Taker.{Taker}

abbrev pub all_parts : ℕ
all_parts = 1024

abbrev pub hand : ℕ → List ℕ → List ℕ → Hand
hand parts put taken = record { parts = parts; put = put; taken = taken }

-- how often x stands in the list
abbrev pub times : ℕ → List ℕ → ℕ
times x [] = 0
times x (y ∷ ys) = (if y == x then 1 else 0) + times x ys

-- 1 from 1 to n, and else 0
abbrev pub is_given : ℕ → ℕ → ℕ
is_given x n = if nat_lt 0 x then (if nat_lt x (n + 1) then 1 else 0) else 0

abbrev pub total : (Hand → ℕ) → List Hand → ℕ
total f [] = 0
total f (v ∷ vs) = f v + total f vs

-- a hand with no part has put and taken nothing
abbrev pub IdleIsEmpty : List Hand → Type 0
IdleIsEmpty views = (port : ℕ) (v : Hand) → get_elem? views port ≡ some v → v.parts ≡ 0 → (v.put ≡ []) × (v.taken ≡ [])

module _ {T : Type 0} where
  abbrev pub numbers : List (Slip T) → List ℕ
  numbers [] = []
  numbers (s ∷ ss) = s.number ∷ numbers ss

  abbrev pub Balanced : List (Slip T) → List Hand → Type 0
  Balanced slips views =
      (total (λ v. v.parts) views ≡ all_parts)
      × ((x : ℕ) → total (λ v. times x v.put) views ≡ total (λ v. times x v.taken) views + times x (numbers slips))
      × IdleIsEmpty views

  -- the greatest number that was given
  abbrev pub given_of : Giver T → ℕ
  given_of g = g.last

  abbrev pub parts_of : Giver T → ℕ
  parts_of g = (view g.pass).parts

  -- what those took that were taken in
  abbrev pub taken_of : Giver T → List ℕ
  taken_of g = (view g.pass).taken

  abbrev pub taker_numbers : Taker T → List ℕ
  taker_numbers t = (view t.pass).taken

  abbrev pub is_same : Giver T → Giver T → Type 0
  is_same g h = (given_of h ≡ given_of g) × (parts_of h ≡ parts_of g) × (taken_of h ≡ taken_of g)

  -- it gives into this queue, and what it put is each number up to the last once
  pub record IsGiver (q : Slips T) (g : Giver T) : Type 0 where
    pub of : IsPassOf q.queue g.pass
    pub put : (x : ℕ) → times x (view g.pass).put ≡ is_given x g.last
    pub some_part : 0 < (view g.pass).parts

  pub record IsTaker (q : Slips T) (t : Taker T) : Type 0 where
    pub of : IsPassOf q.queue t.pass
    pub knows : view t.pass ≡ hand 1 [] (taker_numbers t)
