-- Placing and then picking, step by step.
use Rattle.std.proofs.Common.{◌≡◌, true, false, List, [], ◌∷◌, Option, Some, None, option_map, is_some, refl, sym, ap, ◌∙◌}
use Rattle.std.specs.Option.{option_and_then}
use Rattle.json_tree.specs.Data.{Data, fields, no_members}
use Rattle.ref_paths.specs.Composition.{pick_placed_at}
use Rattle.ref_paths.specs.Laws.{Part}
use Rattle.ref_paths.specs.Picking.{pick_at}
use Rattle.ref_paths.specs.Placing.{opened_at, put_value_at, place_at}
use Rattle.ref_paths.specs.declared.path.PathStep.{PathStep}
use Rattle.ref_paths.specs.declared.path.PathStep.TheVariants.{Name, Index}
use Rattle.ref_paths.proofs.PickedAgain.{child_put, elsewhere_stays}

same_new : (o : Option Data) (s : PathStep) (placing picking : List PathStep) (v d c : Data) → opened_at s d ≡ Some c → place_at placing v c ≡ o
    → option_map (pick_at (s ∷ picking)) (option_map (λ new. put_value_at s new d) o) ≡ option_map (pick_at picking) o
same_new None s placing picking v d c opened is = refl
same_new (Some new) s placing picking v d c opened is = ap (λ x. Some (option_and_then (pick_at picking) x)) (child_put s d c new opened)

same_open : (o : Option Data) (s : PathStep) (placing picking : List PathStep) (v d : Data) → opened_at s d ≡ o
    → option_map (pick_at (s ∷ picking)) (option_and_then (λ child. option_map (λ new. put_value_at s new d) (place_at placing v child)) o) ≡ option_and_then (λ c. pick_placed_at placing picking v c) o
same_open None s placing picking v d is = refl
same_open (Some c) s placing picking v d is = same_new (place_at placing v c) s placing picking v d c is refl

-- both paths go the same way
pub same_way : (s : PathStep) (placing picking : List PathStep) (v d : Data) → pick_placed_at (s ∷ placing) (s ∷ picking) v d ≡ option_and_then (λ c. pick_placed_at placing picking v c) (opened_at s d)
same_way s placing picking v d = same_open (opened_at s d) s placing picking v d refl

-- whether a value can be placed goes by the rest of the path
step_open : (o : Option Data) (s : PathStep) (placing : List PathStep) (v d : Data)
    → is_some (option_and_then (λ child. option_map (λ new. put_value_at s new d) (place_at placing v child)) o) ≡ is_some (option_and_then (place_at placing v) o)
step_open None s placing v d = refl
step_open (Some c) s placing v d = some_mapped (place_at placing v c)
  where
    some_mapped : (o : Option Data) → is_some (option_map (λ new. put_value_at s new d) o) ≡ is_some o
    some_mapped None = refl
    some_mapped (Some new) = refl

pub can_step : (s : PathStep) (placing : List PathStep) (v d : Data) → is_some (place_at (s ∷ placing) v d) ≡ is_some (option_and_then (place_at placing v) (opened_at s d))
can_step s placing v d = step_open (opened_at s d) s placing v d

pub none_from : {X : Type 0} (o : Option X) → is_some o ≡ false → o ≡ None
none_from None h = refl
none_from (Some x) h = cc

pub picks_none : (d : Data) (placing picking : List PathStep) (v : Data) → place_at placing v d ≡ None → pick_placed_at placing picking v d ≡ None
picks_none d placing picking v h = ap (option_map (pick_at picking)) h

-- what is picked elsewhere
apart_at : (o : Option Data) (placing picking : List PathStep) (v d : Data) → Part placing picking → place_at placing v d ≡ o → is_some o ≡ true → option_map (pick_at picking) o ≡ Some (pick_at picking d)
apart_at None placing picking v d part is some = cc
apart_at (Some after) placing picking v d part is some = ap Some (elsewhere_stays placing picking v d after part is)

pub picks_apart : (placing picking : List PathStep) (v d : Data) → Part placing picking → is_some (place_at placing v d) ≡ true → pick_placed_at placing picking v d ≡ Some (pick_at picking d)
picks_apart placing picking v d part some = apart_at (place_at placing v d) placing picking v d part refl some

-- a made object has nothing that is picked
pub picks_no_made : (placing picking : List PathStep) → Part placing picking → pick_at picking (fields no_members) ≡ None
picks_no_made [] picking part = absurd part
picks_no_made (s ∷ placing) [] part = absurd part
picks_no_made (s ∷ placing) (t ∷ picking) part = none_at t picking
  where
    none_at : (t : PathStep) (picking : List PathStep) → pick_at (t ∷ picking) (fields no_members) ≡ None
    none_at (Name n) picking = refl
    none_at (Index n) picking = refl

pub way_on : (s t : PathStep) (placing picking to_place to_pick : List PathStep) (v d c : Data) → to_place ≡ s ∷ placing → to_pick ≡ t ∷ picking → s ≡ t → Some c ≡ opened_at s d
    → pick_placed_at placing picking v c ≡ pick_placed_at to_place to_pick v d
way_on s t placing picking to_place to_pick v d c place_is pick_is same opened =
    sym
    (ap (λ x. pick_placed_at x to_pick v d) place_is ∙ ap (λ x. pick_placed_at (s ∷ placing) x v d) (pick_is ∙ ap (λ x. x ∷ picking) (sym same)) ∙ same_way s placing picking v d
    ∙ ap (option_and_then (λ x. pick_placed_at placing picking v x)) (sym opened))
