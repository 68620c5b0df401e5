-- What a condition's text spells is what is read of it.
use Rattle.std.specs.Prelude.{◌≡◌, ◌↔◌, ℕ, zero, suc, List, [], ◌∷◌, ◌++◌, true, Some, codes}
use Rattle.item_store.specs.Condition.{is_attribute_name, condition_of}
use Rattle.item_store.specs.declared.call.Condition.{Condition}
use Rattle.item_store.specs.declared.call.ConditionKind.{ConditionKind}
use Rattle.item_store.specs.declared.call.ConditionKind.TheVariants.{Exists, NotExists}

-- so many spaces
abbrev pub spaces : ℕ → List ℕ
spaces zero = []
spaces (suc n) = 32 ∷ spaces n

abbrev pub function_name : ConditionKind → List ℕ
function_name Exists = codes "attribute_exists"
function_name NotExists = codes "attribute_not_exists"

-- the function's name, and in brackets the attribute's, with spaces round that and round the whole
pub record SpellsCondition (s : List ℕ) (c : Condition) : Type 0 where
  pub before : ℕ
  pub in_front : ℕ
  pub behind : ℕ
  pub after : ℕ
  pub is : s ≡ spaces before ++ (function_name c.kind ++ 40 ∷ (spaces in_front ++ (c.attribute ++ (spaces behind ++ 41 ∷ spaces after))))
  pub named : is_attribute_name c.attribute ≡ true

-- a text is read to the condition that it spells, and to no other
abbrev pub ConditionsAreSpelled : Type 0
ConditionsAreSpelled = (s : List ℕ) (c : Condition) → (condition_of s ≡ Some c) ↔ SpellsCondition s c
