-- What contracts see of values in a list, whose places are in classes of six sets.
use Rattle.std.specs.Prelude.{◌≡◌, ◌<◌, ◌≤◌, ◌+◌, ◌*◌, ◌/◌, ℕ, Bool, ◌&&◌, nat_lt, nat_le, List, Option, None, Some, length, map, slice_get, refl}
use Rattle.std.specs.Coded.{Coded, code_by, coded×, coded_bool, coded_list, coded_option, coded_ℕ}
use Rattle.linked_classes.specs.Cells.{cell_at}
use Rattle.linked_classes.specs.Classes.{Classes}
use Rattle.linked_classes.specs.Places.{IsRising}

-- the values in their order, and the number of each; the classes of slots, of which each number has six; how many classes each set
-- has; and whether there is room for one more value
pub record Classed (T : Type 0) : Type 0 where
  pub items : List T
  pub numbers : List ℕ
  pub slots : List (Option ℕ)
  pub width : ℕ
  pub has_room : Bool

abbrev pub classed_code : {T : Type 0} → Coded T → Coded (Classed T)
classed_code {T} code =
    code_by
    (List T × (List ℕ × (List (Option ℕ) × (ℕ × Bool))))
    (coded× (coded_list code) (coded× (coded_list coded_ℕ) (coded× (coded_list (coded_option coded_ℕ)) (coded× coded_ℕ coded_bool))))
    (λ s. (s.items, (s.numbers, (s.slots, (s.width, s.has_room)))))
    (λ p. record { items = p.0; numbers = p.1.0; slots = p.1.1.0; width = p.1.1.1.0; has_room = p.1.1.1.1 })
    (λ _. refl)

-- ---- a slot has a number and a set, and its class a class there and the same set

abbrev pub in_slot : ℕ → Option ℕ → Option ℕ
in_slot set None = None
in_slot set (Some c) = Some (6 * c + set)

abbrev pub out_of_slot : Option ℕ → Option ℕ
out_of_slot None = None
out_of_slot (Some d) = Some (d / 6)

-- the class of a number in a set
abbrev pub set_class : (ℕ → Option ℕ) → ℕ → ℕ → Option ℕ
set_class f set n = out_of_slot (f (6 * n + set))

-- the class of each place in a set
abbrev pub set_of : {T : Type 0} → Classed T → ℕ → List (Option ℕ)
set_of v set = map (set_class (cell_at v.slots) set) v.numbers

-- a slot that is in a class
pub record IsInClass (ns : List ℕ) (s d : ℕ) : Type 0 where
  pub place : ℕ
  pub number : ℕ
  pub set : ℕ
  pub class : ℕ
  pub at : slice_get ns place ≡ Some number
  pub few : set < 6
  pub slot : s ≡ 6 * number + set
  pub known : d ≡ 6 * class + set

-- f gives the class of each slot, and reaches so far: those that are in a class are of numbers that are there
pub record AreSets (ns : List ℕ) (f : ℕ → Option ℕ) (end count reached : ℕ) : Type 0 where
  pub rising : IsRising ns
  pub below : (i n : ℕ) → slice_get ns i ≡ Some n → n < end
  pub many : length ns ≡ count
  pub stand : (s d : ℕ) → f s ≡ Some d → IsInClass ns s d
  pub reaches : reached ≤ 6 * end
  pub small : end ≤ 715827882

-- there is room for the next value, of this number, and for its classes
abbrev pub has_classed_room : Bool → ℕ → Classes → Bool
has_classed_room ready end c = ready && (nat_lt end 715827882 && (nat_le (6 * end + 6) c.room && nat_le 6 c.spare))

-- classes came to the slots of a number, as far as some of its sets
pub record IsPut (old now : ℕ → Option ℕ) (n sets : ℕ) (classes : List (Option ℕ)) : Type 0 where
  pub done : (set : ℕ) → set < sets → now (6 * n + set) ≡ in_slot set (cell_at classes set)
  pub before : (s : ℕ) → s < 6 * n → now s ≡ old s
  pub behind : (s : ℕ) → 6 * n + sets ≤ s → now s ≡ old s
