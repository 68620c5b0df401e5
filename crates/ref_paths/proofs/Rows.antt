-- Rows of templates, checked by computing.
use Rattle.std.proofs.Common.{◌≡◌, pos, List, [], ◌∷◌, true, false, Some, None, codes, refl, inl}
use Rattle.json_tree.specs.Data.{Data, null, whole, text, list as list_data, fields as fields_data, no_items, item, no_members, member}
use Rattle.ref_paths.specs.Filling.{filled}
use Rattle.ref_paths.specs.Grammar.{SpellsPath}
use Rattle.ref_paths.specs.TemplateFaults.{is_intrinsic_or_context}
use Rattle.ref_paths.specs.Templates.{constant, from_input, item_index, from_item, list, fields, payload, no_payloads, named, no_named, IsTemplate, unmarked}
use Rattle.ref_paths.specs.declared.path.PathStep.{PathStep}
use Rattle.ref_paths.specs.declared.path.PathStep.TheVariants.{Name}

abbrev a : List PathStep
a = Name (codes "a") ∷ []

-- {"a":[7]}
abbrev input : Data
input = fields_data (member (codes "a") (list_data (item (whole (pos 7)) no_items)) no_members)

marked : unmarked (codes "x.$") ≡ Some (codes "x")
marked = refl

mark_alone : unmarked (codes ".$") ≡ Some []
mark_alone = refl

marked_twice : unmarked (codes "x.$.$") ≡ Some (codes "x.$")
marked_twice = refl

not_marked : unmarked (codes "x.$ ") ≡ None
not_marked = refl

spelled : SpellsPath a (codes "$.a")
spelled = (codes ".a", (codes ".a", [], inl (λ e. cc, refl, refl), refl, refl), refl)

-- {"x.$":"$.a"}
read : IsTemplate false (fields_data (member (codes "x.$") (text (codes "$.a")) no_members)) (fields (named (codes "x") (from_input a) no_named))
read = (((codes "x", from_input a) ∷ []), ((codes "x", from_input a), [], (refl, refl, spelled), refl, refl), refl)

given : filled input None (fields (named (codes "x") (from_input a) no_named)) ≡ Some (fields_data (member (codes "x") (list_data (item (whole (pos 7)) no_items)) no_members))
given = refl

-- `a` comes before `a!`, which comes before `a.$`
sorted : filled input None (fields (named (codes "a!") (constant null) (named (codes "a") (from_input a) no_named)))
    ≡ Some (fields_data (member (codes "a") (list_data (item (whole (pos 7)) no_items)) (member (codes "a!") null no_members)))
sorted = refl

not_there : filled input None (list (payload (from_input (Name (codes "b") ∷ [])) no_payloads)) ≡ None
not_there = refl

of_an_item : filled input (Some (3, null)) (list (payload item_index (payload (from_item []) no_payloads))) ≡ Some (list_data (item (whole (pos 3)) (item null no_items)))
of_an_item = refl

without_item : filled input None item_index ≡ None
without_item = refl

intrinsic : is_intrinsic_or_context (codes "States.Format('a')") ≡ true
intrinsic = refl

context : is_intrinsic_or_context (codes "$$.Execution.Id") ≡ true
context = refl
