-- Objects of one field each, one inside the other.
use Rattle.std.proofs.Common.{◌≡◌, ℕ, zero, suc, Bool, true, List, [], ◌∷◌, drop, Some, Equal, refl, sym, ap, ◌∙◌}
use Rattle.std.proofs.lemmas.Bool.{and_parts}
use Rattle.std.proofs.lemmas.Cmp.{nat_list_cmp_total}
use Rattle.std.specs.Cmp.{tied_itself}
use Rattle.std.specs.List.{list_all}
use Rattle.json_tree.specs.Data.{Data, fields, no_members, member, members_of}
use Rattle.json_tree.specs.Fields.{text_cmp, get_field}
use Rattle.json_tree.specs.View.{data_of}
use Rattle.json_tree.proofs.Same.{data_of-injective}
use Rattle.json_tree.specs.declared.tree.Json.{Json}
use Rattle.ref_paths.specs.Nesting.{nested}
use Rattle.ref_paths.specs.Picking.{pairs_of}
use Rattle.ref_paths.specs.declared.path.PathStep.{PathStep}
use Rattle.ref_paths.specs.declared.path.PathStep.TheVariants.{Name, Index}
use Rattle.ref_paths.proofs.Shapes.{pairs_again}

pub same_text : (name : List ℕ) → text_cmp name name ≡ Equal
same_text name = tied_itself nat_list_cmp_total name

-- the first step's object, and in it those of the other steps
pub nested_more : (step : PathStep) (rest : List PathStep) (d : Data) → nested (step ∷ rest) d ≡ nested (step ∷ []) (nested rest d)
nested_more (Name name) rest d = refl
nested_more (Index n) rest d = refl

pub all_dropped : {X : Type 0} (p : X → Bool) (i : ℕ) (xs : List X) → list_all p xs ≡ true → list_all p (drop i xs) ≡ true
all_dropped p zero xs h = h
all_dropped p (suc i) [] h = h
all_dropped p (suc i) (x ∷ xs) h = all_dropped p i xs (and_parts (p x) (list_all p xs) h).1
