use Rattle.std.proofs.Common.{◌≡◌, [], drop, Result, Ok, Err, OnOk, sym, ap, ◌∙◌, subst}
use Rattle.std.proofs.lemmas.List.{drop_all}
use Rattle.std.specs.List.Sorted.{IsStrictlySortedBy}
use Rattle.json_tree.specs.Data.{members_of}
use Rattle.json_tree.specs.Fields.{text_cmp, IsInNameOrder}
use Rattle.json_tree.specs.Proper.{MembersAreProper}
use Rattle.json_tree.specs.View.{fields_of, held}
use Rattle.json_tree.proofs.Views.{names-members_of}
use Rattle.json_tree.proofs.writing.+write.Goals as goal

always : {T E P : Type 0} (r : Result T E) → P → OnOk r P
always (Ok x) p = p
always (Err e) p = tt

pub write_fields-returns-clause-proper : goal.write_fields-returns-clause-proper
write_fields-returns-clause-proper t c =
    let l = c.loop-field in
    let items = c.deref-field-items.result.now in
    let view : fields_of items ≡ c.args.fields.now = ap fields_of (c.deref-field-items.ensures.value ∙ ap (λ v. v.items) c.deref-fields.ensures) ∙ ap (λ n. fields_of (held n)) (sym c.in-Some.is) ∙ c.fields.view_is in
    let none : drop l.field-index items ≡ [] = drop_all l.field-index items c.loop-field-test.false in
    let proper = l.invariant.2 (subst (λ fs. MembersAreProper (members_of (fields_of fs))) (sym none) tt) in
    let sorted = subst IsInNameOrder c.fields.view_is c.fields.invariant.0 in
    always c.end_object-2.result (subst (IsStrictlySortedBy text_cmp) (sym (names-members_of c.args.fields.now)) sorted, subst (λ ms. MembersAreProper (members_of ms)) view proper)
