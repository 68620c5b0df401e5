use Rattle.std.proofs.Common.{◌≡◌}
use Rattle.serde_json.specs.View.{members_view}
use Rattle.asl_fields.specs.FieldFaults.{NamesFault}
use Rattle.asl_fields.specs.Fields.{all_known}
use Rattle.asl_fields.specs.declared.fault.MachineFault.{MachineFault}
use Rattle.asl_fields.proofs.field_readers.check_names.Given as goal

-- where the names that are left may stand here, all may, and a fault of those is one of all
abbrev pub invariant-loop-name : goal.invariant-loop-name
invariant-loop-name l =
    (all_known l.fn.place (members_view l.name-iterator) ≡ all_known l.fn.place (members_view l.fn.fields.entries))
    × ((e : MachineFault) → NamesFault l.fn.place (members_view l.name-iterator) e → NamesFault l.fn.place (members_view l.fn.fields.entries) e)
