-- What is picked lies inside, a level for each step.
use Rattle.std.proofs.Common.{◌≡◌, ℕ, zero, suc, ◌+◌, ◌-◌, ◌^◌, ◌<◌, ◌≤◌, min, List, [], ◌∷◌, length, Option, Some, None, slice_get, is_some, true, refl, sym, ap, ◌∙◌, subst, arith}
use Rattle.std.specs.Option.{option_and_then}
use Rattle.json_tree.specs.Data.{Data, null, boolean, whole, text, list, fields, depth, items_depth, members_depth}
use Rattle.json_tree.specs.Fields.{get_field}
use Rattle.ref_paths.specs.Composition.{PicksDeeper, told_depth, pick_placed_at}
use Rattle.ref_paths.specs.Picking.{values_of, pairs_of, child_at, pick_at}
use Rattle.ref_paths.specs.Placing.{place_at}
use Rattle.ref_paths.specs.declared.path.PathStep.{PathStep}
use Rattle.ref_paths.specs.declared.path.PathStep.TheVariants.{Name, Index}
use Rattle.ref_paths.proofs.PickedAgain.{placed_is_picked}
use Rattle.ref_paths.proofs.PlacedDepth.{field_low, item_low}
use Rattle.ref_paths.proofs.Shapes.{items_again, members_again}

child_inside : (s : PathStep) (d c : Data) → child_at s d ≡ Some c → suc (depth c) ≤ depth d
child_inside (Name n) (fields ms) c is =
    let low : depth c ≤ members_depth ms = field_low n (pairs_of ms) c (members_depth ms) (subst (λ xs. members_depth xs ≤ members_depth ms) (sym (members_again ms)) (omega arith)) is in
    omega (arith, low)
child_inside (Index n) (list ds) c is =
    let low : depth c ≤ items_depth ds = item_low n (values_of ds) c (items_depth ds) (subst (λ xs. items_depth xs ≤ items_depth ds) (sym (items_again ds)) (omega arith)) is in
    omega (arith, low)
child_inside (Name n) null c is = cc is
child_inside (Name n) (boolean b) c is = cc is
child_inside (Name n) (whole z) c is = cc is
child_inside (Name n) (text s) c is = cc is
child_inside (Name n) (list ds) c is = cc is
child_inside (Index n) null c is = cc is
child_inside (Index n) (boolean b) c is = cc is
child_inside (Index n) (whole z) c is = cc is
child_inside (Index n) (text s) c is = cc is
child_inside (Index n) (fields ms) c is = cc is

on_child : (s : PathStep) (path : List PathStep) (d e : Data) → ((c f : Data) → pick_at path c ≡ Some f → length path + depth f ≤ depth c) → (o : Option Data) → child_at s d ≡ o → option_and_then (pick_at path) o ≡ Some e
    → length (s ∷ path) + depth e ≤ depth d
on_child s path d e rest None h k = cc k
on_child s path d e rest (Some c) h k =
    let below : length path + depth e ≤ depth c = rest c e k in
    let step : suc (depth c) ≤ depth d = child_inside s d c h in
    omega (arith, below, step)

pub inside : (path : List PathStep) (d e : Data) → pick_at path d ≡ Some e → length path + depth e ≤ depth d
inside [] d e is =
    let one : d ≡ e = cc is in
    rw one (omega arith)
inside (s ∷ path) d e is = on_child s path d e (inside path) (child_at s d) refl is

-- what is placed deep makes deep what it is placed in
deep_at : (o : Option Data) (path : List PathStep) (value root : Data) (levels : ℕ) → place_at path value root ≡ o → is_some o ≡ true → levels < told_depth path value → PicksDeeper levels (pick_placed_at path [] value root)
deep_at None path value root levels is some deep = cc some
deep_at (Some after) path value root levels is some deep =
    let within : length path + depth value ≤ depth after = inside path after value (placed_is_picked path value root after is) in
    (after, rw is refl, omega (arith, within, deep))

pub placed_deep : (path : List PathStep) (value root : Data) (levels : ℕ) → is_some (place_at path value root) ≡ true → levels < told_depth path value → PicksDeeper levels (pick_placed_at path [] value root)
placed_deep path value root levels some deep = deep_at (place_at path value root) path value root levels refl some deep

pub deeper_so : (levels : ℕ) (picked other : Option (Option Data)) → picked ≡ other → PicksDeeper levels picked → PicksDeeper levels other
deeper_so levels picked other is deep = (deep.0, sym is ∙ deep.1, deep.2)
