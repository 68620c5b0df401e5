-- Where no name is missing, a machine is whole.
use Rattle.std.proofs.Common.{◌≡◌, ℕ, List, [], ◌∷◌, Option, Some, None, true, false, cond, not, is_some, option_map, is_eq, refl, sym}
use Rattle.std.specs.Prelude.{IsSome, IfSome}
use Rattle.std.specs.BTreeMap.{is_at}
use Rattle.std.specs.Cmp.Lexicographic.{slice_cmp}
use Rattle.std.specs.List.{AllByRecursion}
use Rattle.std.specs.Map.{lookup}
use Rattle.std.specs.Ordering.{nat_cmp}
use Rattle.asl_tree.specs.Complete.{state_of, IsStateName, LeadsInto, StaysInside, IsWellFormed}
use Rattle.asl_tree.specs.Definition.{StateTree, Definition}
use Rattle.asl_tree.specs.Targets.{if_missing, name_or_else, missing_next, missing_catcher, missing_rule, missing_default, missing_target, first_missing}
use Rattle.asl_tree.specs.TreeView.{state_in}
use Rattle.asl_states.specs.declared.choice.Rule.{Rule}
use Rattle.asl_states.specs.Catcher.{Catcher}
use Rattle.asl_tree.specs.declared.state.State.{State}
use Rattle.asl_tree.specs.declared.state.State.TheVariants.{Pass, Task, Choice, Wait, Succeed, Fail, Parallel, Map}
use Rattle.asl_states.specs.declared.state.Transition.{Transition}
use Rattle.asl_states.specs.declared.state.Transition.TheVariants.{Next, End}

abbrev States : Type 0
States = List (List ℕ × StateTree)

neither : (a b : Option (List ℕ)) → name_or_else a b ≡ None → (a ≡ None) × (b ≡ None)
neither (Some name) b h = cc h
neither None b h = (refl, h)

present : (states : States) (name : List ℕ) → if_missing states name ≡ None → IsStateName states name
present states name =
    elim (state_of name states) as (λ (o : Option State). cond (not (is_some o)) (Some name) None ≡ None → IsSome o) [ Some s ↦ λ h. refl | None ↦ λ h. cc h ]

next_inside : (states : States) (t : Transition) → missing_next states t ≡ None → LeadsInto states t
next_inside states (Next name) h = present states name h
next_inside states End h = tt

catchers_inside : (states : States) (cs : List Catcher) → missing_catcher states cs ≡ None → AllByRecursion (λ (c : Catcher). IsStateName states c.next) cs
catchers_inside states [] h = tt
catchers_inside states (c ∷ cs) h =
    let p = neither (if_missing states c.next) (missing_catcher states cs) h in
    (present states c.next p.0, catchers_inside states cs p.1)

rules_inside : (states : States) (rs : List Rule) → missing_rule states rs ≡ None → AllByRecursion (λ (r : Rule). IsStateName states r.next) rs
rules_inside states [] h = tt
rules_inside states (r ∷ rs) h =
    let p = neither (if_missing states r.next) (missing_rule states rs) h in
    (present states r.next p.0, rules_inside states rs p.1)

default_inside : (states : States) (o : Option (List ℕ)) → missing_default states o ≡ None → IfSome o (IsStateName states)
default_inside states (Some name) h = present states name h
default_inside states None h = tt

on_error_inside : (states : States) (t : Transition) (cs : List Catcher) → name_or_else (missing_next states t) (missing_catcher states cs) ≡ None
    → LeadsInto states t × AllByRecursion (λ (c : Catcher). IsStateName states c.next) cs
on_error_inside states t cs h =
    let p = neither (missing_next states t) (missing_catcher states cs) h in
    (next_inside states t p.0, catchers_inside states cs p.1)

stays : (states : States) (s : State) → missing_target states s ≡ None → StaysInside states s
stays states (Pass s) h = next_inside states s.transition h
stays states (Task s) h = on_error_inside states s.transition s.errors.catchers h
stays states (Choice s) h =
    let p = neither (missing_rule states s.rules) (missing_default states s.default) h in
    (rules_inside states s.rules p.0, default_inside states s.default p.1)
stays states (Wait s) h = next_inside states s.transition h
stays states (Succeed s) h = tt
stays states (Fail s) h = tt
stays states (Parallel s) h = on_error_inside states s.transition s.errors.catchers h
stays states (Map s) h = on_error_inside states s.transition s.errors.catchers h

all_stay : (states ss : States) (name : List ℕ) → first_missing states ss ≡ None → IfSome (state_of name ss) (StaysInside states)
all_stay states [] name h = tt
all_stay states (e ∷ ss) name h =
    let p = neither (missing_target states (state_in e.1)) (first_missing states ss) h in
    elim (is_eq (slice_cmp nat_cmp name e.0)) as (λ b. IfSome (option_map state_in (cond b (Some e.1) (lookup (is_at (slice_cmp nat_cmp name)) ss))) (StaysInside states)) [
      | true ↦ stays states (state_in e.1) p.0
      | false ↦ all_stay states ss name p.1
    ]

pub complete_by : (start : List ℕ) (states : States) → None ≡ name_or_else (if_missing states start) (first_missing states states) → IsWellFormed (record { start = start; states = states })
complete_by start states h =
    let p = neither (if_missing states start) (first_missing states states) (sym h) in
    record { starts = present states start p.0; stays = λ name. all_stay states states name p.1 }
