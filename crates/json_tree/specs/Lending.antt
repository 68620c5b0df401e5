-- What a list and some fields end as, once the borrow of a value inside is over.
use Rattle.std.specs.Prelude.{◌≡◌, ℕ, List, Result, slice_set}
use Rattle.std.specs.Borrow.{LendsSoOk, MutBor, Fml}
use Rattle.json_tree.specs.Data.{Data}
use Rattle.json_tree.specs.Fields.{with_field}
use Rattle.json_tree.specs.View.{data_of}
use Rattle.json_tree.specs.declared.tree.ChangeFault.{ChangeFault}
use Rattle.json_tree.specs.declared.tree.Json.{Json}
use Rattle.json_tree.specs.contracts.tree.Json as json
use Rattle.json_tree.specs.contracts.tree.JsonFields as json_fields
use Rattle.json_tree.specs.contracts.tree.JsonList as json_list

-- the list with the last value behind r at this index, or as it was
abbrev pub LendsItem : MutBor (List Data) → ℕ → Result (MutBor Json) ChangeFault → Fml
LendsItem s index r = LendsSoOk json_list.the_row json.the_row s r (λ n w. n ≡ slice_set s.now index (data_of w)) (λ n. n ≡ s.now)

-- the fields with the last value behind r at this name, or as they were
abbrev pub LendsField : MutBor (List (List ℕ × Data)) → List ℕ → Result (MutBor Json) ChangeFault → Fml
LendsField s name r = LendsSoOk json_fields.the_row json.the_row s r (λ n w. n ≡ with_field name (data_of w) s.now) (λ n. n ≡ s.now)
