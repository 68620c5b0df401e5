-- Equality of entries.
use Rattle.std.specs.Prelude.{◌≡◌, ℕ, Bool, true, false, ◌&&◌, List, ◌==◌}
use Rattle.std.proofs.Common.{ap, refl}
use Rattle.std.specs.Cmp.{unsigned_Decides}
use Rattle.std.specs.Cmp.Derive.{both_true}
use Rattle.std.specs.Ordering.{eq_by_cmp}
use lib.Pointwise.{pointwise}
use Rattle.asl_machine.specs.MachineSame.{same_definition, definition_exact}
use Rattle.asl_machine.specs.PathSame.{same_text, IsExact, exact, first_true, second_true, text_exact, list_exact}
use Rattle.asl_machine.specs.StateSame.{same_json, json_exact}
use Rattle.step_names.specs.Order.{step_cmp, thread_cmp}
use Rattle.step_names.specs.Thread.{Thread}
use Rattle.step_names.specs.declared.step.StepName.{StepName}
use Rattle.step_names.proofs.OrderLaws.{step_same, step_itself, thread_Decides}
use Rattle.depends.specs.Kind.{Kind}
use Rattle.depends.specs.Kind.TheVariants.{Start as StartKind, Plain, Call, Fork, Join, Terminate}
use Rattle.book_log.specs.declared.entry.Entry.{Entry}
use Rattle.book_log.specs.declared.entry.Entry.TheVariants.{Define, Start, Step, Undo, Rollback, Settle, Hold}

abbrev pub same_thread : Thread → Thread → Bool
same_thread = eq_by_cmp thread_cmp

abbrev pub same_step : StepName → StepName → Bool
same_step = eq_by_cmp step_cmp

abbrev pub same_steps : List StepName → List StepName → Bool
same_steps = pointwise same_step

abbrev pub kind_number : Kind → ℕ
kind_number StartKind = 0
kind_number Plain = 1
kind_number Call = 2
kind_number Fork = 3
kind_number Join = 4
kind_number Terminate = 5

abbrev pub same_kind : Kind → Kind → Bool
same_kind a b = kind_number a == kind_number b

abbrev pub same_entry : Entry → Entry → Bool
same_entry (Define name machine) (Define other to) = same_text name other && same_definition machine to
same_entry (Start exec machine input) (Start other to given) = same_thread exec other && (same_text machine to && same_json input given)
same_entry (Step name kind) (Step other to) = same_step name other && same_kind kind to
same_entry (Undo step) (Undo other) = same_step step other
same_entry (Rollback step undone) (Rollback other names) = same_step step other && same_steps undone names
same_entry Settle Settle = true
same_entry (Hold step count) (Hold other to) = same_step step other && count == to
same_entry _ _ = false

-- ---- they hold of equal values alone

pub step_exact : IsExact same_step
step_exact = exact same_step step_same step_itself

pub steps_exact : IsExact same_steps
steps_exact = list_exact same_step step_exact

kind_one : (a b : Kind) → same_kind a b ≡ true → a ≡ b
kind_one StartKind StartKind h = refl
kind_one Plain Plain h = refl
kind_one Call Call h = refl
kind_one Fork Fork h = refl
kind_one Join Join h = refl
kind_one Terminate Terminate h = refl
kind_one _ _ h = cc

pub kind_exact : IsExact same_kind
kind_exact = exact same_kind kind_one (λ a. (unsigned_Decides (kind_number a) (kind_number a)).1 refl)

entry_one : (a b : Entry) → same_entry a b ≡ true → a ≡ b
entry_one (Define name machine) (Define other to) h =
    let names : name ≡ other = (text_exact name other).0 (first_true _ _ h) in
    let machines : machine ≡ to = (definition_exact machine to).0 (second_true (same_text name other) _ h) in
    cc
entry_one (Start exec machine input) (Start other to given) h =
    let execs : exec ≡ other = (thread_Decides exec other).0 (first_true _ _ h) in
    let h0 = second_true (same_thread exec other) _ h in
    let machines : machine ≡ to = (text_exact machine to).0 (first_true _ _ h0) in
    let inputs : input ≡ given = (json_exact input given).0 (second_true (same_text machine to) _ h0) in
    cc
entry_one (Step name kind) (Step other to) h =
    let names : name ≡ other = (step_exact name other).0 (first_true _ _ h) in
    let kinds : kind ≡ to = (kind_exact kind to).0 (second_true (same_step name other) _ h) in
    cc
entry_one (Undo step) (Undo other) h = ap Undo ((step_exact step other).0 h)
entry_one (Rollback step undone) (Rollback other names) h =
    let steps : step ≡ other = (step_exact step other).0 (first_true _ _ h) in
    let undoings : undone ≡ names = (steps_exact undone names).0 (second_true (same_step step other) _ h) in
    cc
entry_one Settle Settle h = refl
entry_one (Hold step count) (Hold other to) h =
    let steps : step ≡ other = (step_exact step other).0 (first_true _ _ h) in
    let counts : count ≡ to = (unsigned_Decides count to).0 (second_true (same_step step other) _ h) in
    cc
entry_one _ _ h = cc

entry_itself : (a : Entry) → same_entry a a ≡ true
entry_itself (Define name machine) = both_true ((text_exact name name).1 refl) ((definition_exact machine machine).1 refl)
entry_itself (Start exec machine input) = both_true ((thread_Decides exec exec).1 refl) (both_true ((text_exact machine machine).1 refl) ((json_exact input input).1 refl))
entry_itself (Step name kind) = both_true ((step_exact name name).1 refl) ((kind_exact kind kind).1 refl)
entry_itself (Undo step) = (step_exact step step).1 refl
entry_itself (Rollback step undone) = both_true ((step_exact step step).1 refl) ((steps_exact undone undone).1 refl)
entry_itself Settle = refl
entry_itself (Hold step count) = both_true ((step_exact step step).1 refl) ((unsigned_Decides count count).1 refl)

pub entry_exact : IsExact same_entry
entry_exact = exact same_entry entry_one entry_itself
