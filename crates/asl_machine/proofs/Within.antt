-- What the readers' goals need.
use Rattle.std.proofs.Common.{◌≡◌, ℕ, zero, suc, ◌+◌, ◌-◌, ◌<◌, ◌≤◌, List, [], ◌∷◌, length, get_or, drop, Option, Some, Result, Ok, Err, IfOk, IfErr, option_and_then, codes, ap, inl, inr, arith, sub-one, add-one, drop-cons, refl, subst, sym, ◌∙◌}
use Rattle.serde_json.specs.Data.{Data as Source, Items, Members}
use Rattle.serde_json.specs.Find.{get, as_array, as_object}
use Rattle.serde_json.specs.View.{view, items_view}
use Rattle.serde_json.specs.declared.value.Value.{Value}
use Rattle.asl_fields.specs.Refusal.{RefusesForFault}
use Rattle.asl_fields.specs.declared.fault.MachineFault.{MachineFault}
use Rattle.asl_fields.specs.declared.fault.MachineFault.TheVariants.{Missing, UnknownField, Unsupported, BadField, NoTarget, NextAndEnd, StatesAllPlace, TooDeep, Memory}
use Rattle.asl_fields.specs.declared.fields.Place.{Place}
use Rattle.asl_fields.specs.declared.fields.Place.TheVariants as at
use Rattle.asl_tree.specs.Definition.{StateTree, Definition}
use Rattle.asl_machine.specs.Faults.{StatesFault, LevelFault, StatesFaultWithin, BranchFault, BranchesFault, ListedBranchesFault, BranchesFieldFault, ProcessorObjectFault, ProcessorFault, NamedProcessorFault}
use Rattle.asl_machine.specs.Profile.{StatesAre, IsMachine, StatesWithin, BranchesAre, ListedBranches}
use Rattle.asl_states.specs.Reading.{count_items}

pub refuses_map : (e : MachineFault) (P Q : Type 0) → (P → Q) → RefusesForFault e P → RefusesForFault e Q
refuses_map (Missing field) P Q f h = f h
refuses_map (UnknownField field) P Q f h = f h
refuses_map (Unsupported field) P Q f h = f h
refuses_map (BadField field) P Q f h = f h
refuses_map (NoTarget state) P Q f h = f h
refuses_map (NextAndEnd state) P Q f h = f h
refuses_map StatesAllPlace P Q f h = f h
refuses_map TooDeep P Q f h = f h
refuses_map Memory P Q f h = h

pub err_map : {A : Type 0} (r : Result A MachineFault) (P Q : MachineFault → Type 0) → ((e : MachineFault) → P e → Q e) → IfErr r (λ e. RefusesForFault e (P e)) → IfErr r (λ e. RefusesForFault e (Q e))
err_map (Ok x) P Q f h = h
err_map (Err e) P Q f h = refuses_map e (P e) (Q e) (f e) h

counted : (vs : List Value) → count_items (items_view vs) ≡ length vs
counted [] = refl
counted (v ∷ vs) = ap suc (counted vs)

pub too_many : (F : Place → Source → MachineFault → Type 0) (found : Option Source) (d : Source) (vs : List Value) (field : List ℕ) → found ≡ Some d → Some (items_view vs) ≡ as_array d → field ≡ codes "Branches"
    → 4096 < length vs → BranchesFieldFault F found (BadField field)
too_many F found d vs field is listed named many =
    subst (λ (o : Option Source). BranchesFieldFault F o (BadField field)) (sym is)
    (subst (λ (o : Option Items). ListedBranchesFault F o (BadField field)) listed (inr (ap BadField named, subst (λ (n : ℕ). 4096 < n) (sym (counted vs)) many)))

pub branches_listed : (P : Place → Source → Definition → Type 0) (found : Option Source) (d : Source) (vs : List Value) (r : Result (List Definition) MachineFault) → found ≡ Some d → Some (items_view vs) ≡ as_array d
    → length vs ≤ 4096 → IfOk r (BranchesAre P (items_view vs) []) → IfOk r (ListedBranches P (option_and_then as_array found))
branches_listed P found d vs (Ok ms) is listed few h =
    subst (λ (o : Option Source). ListedBranches P (option_and_then as_array o) ms) (sym is)
    (subst (λ (o : Option Items). ListedBranches P o ms) listed (h, subst (λ (n : ℕ). n ≤ 4096) (sym (counted vs)) few))
branches_listed P found d vs (Err e) is listed few h = h

next_value : (from : List Value) (i : ℕ) (x : Value) → x ≡ get_or from i x → i < length from → drop i from ≡ x ∷ drop (i + 1) from
next_value from i x is within = drop-cons from i x within ∙ rw (← is, add-one)

pub branch_refuses : (F : Place → Source → MachineFault → Type 0) (from : List Value) (i : ℕ) (x : Value) (ms : Members) (e : MachineFault) → x ≡ get_or from i x → i < length from
    → Some ms ≡ as_object (view x) → ((f : MachineFault) → BranchesFault F (items_view (drop i from)) f → BranchesFault F (items_view from) f) → RefusesForFault e (F at.Branch (view x) e) → RefusesForFault e (BranchesFault F (items_view from) e)
branch_refuses F from i x ms e is within object later fault =
    refuses_map e (F at.Branch (view x) e) (BranchesFault F (items_view from) e)
    (λ f. later e (subst (λ (vs : List Value). BranchesFault F (items_view vs) e) (sym (next_value from i x is within)) (inl (subst (λ (o : Option Members). BranchFault F (view x) o e) object f)))) fault

pub processor_refuses : {A : Type 0} (F : Place → Source → MachineFault → Type 0) (d : Source) (chosen : Option (List ℕ)) (name : List ℕ) (p : Source) (ms : Members) (r : Result A MachineFault) → chosen ≡ Some name
    → get name d ≡ Some p → Some ms ≡ as_object p → IfErr r (λ e. RefusesForFault e (F at.Processor p e)) → IfErr r (λ e. RefusesForFault e (NamedProcessorFault F d chosen e))
processor_refuses F d chosen name p ms r is found object fault =
    err_map r (F at.Processor p) (NamedProcessorFault F d chosen)
    (λ e f. subst (λ (o : Option (List ℕ)). NamedProcessorFault F d o e) (sym is)
    (subst (λ (o : Option Source). ProcessorFault F name o e) (sym found) (subst (λ (o : Option Members). ProcessorObjectFault F name p o e) object (inr f)))) fault

within_refuses : (levels : ℕ) (ms : Members) (e : MachineFault) → 0 < levels → StatesFault (LevelFault (levels - 1)) ms e → StatesFaultWithin levels ms e
within_refuses zero ms e some h = absurd (omega (arith, some))
within_refuses (suc n) ms e some h = subst (λ (k : ℕ). StatesFault (LevelFault k) ms e) (sub-one (suc n)) h

pub states_refuse : {A : Type 0} (levels : ℕ) (ms : Members) (r : Result A MachineFault) → 0 < levels → IfErr r (λ e. RefusesForFault e (StatesFault (LevelFault (levels - 1)) ms e)) → IfErr r (λ e. RefusesForFault e (StatesFaultWithin levels ms e))
states_refuse levels ms r some h = err_map r (StatesFault (LevelFault (levels - 1)) ms) (StatesFaultWithin levels ms) (λ e f. within_refuses levels ms e some f) h

within_reads : (levels : ℕ) (ms : Members) (ss : List (List ℕ × StateTree)) → 0 < levels → StatesAre (IsMachine (levels - 1)) ms [] ss → StatesWithin levels ms ss
within_reads zero ms ss some h = absurd (omega (arith, some))
within_reads (suc n) ms ss some h = subst (λ (k : ℕ). StatesAre (IsMachine k) ms [] ss) (sub-one (suc n)) h

pub states_read : (levels : ℕ) (ms : Members) (r : Result (List (List ℕ × StateTree)) MachineFault) → 0 < levels → IfOk r (StatesAre (IsMachine (levels - 1)) ms []) → IfOk r (StatesWithin levels ms)
states_read levels ms (Ok ss) some h = within_reads levels ms ss some h
states_read levels ms (Err e) some h = h
