use Rattle.std.proofs.Common.{◌≡◌}
use Rattle.serde_json.specs.View.{members_view}
use Rattle.asl_states.specs.TestFields.{asked_in, first_asked}
use Rattle.asl_states.proofs.test_readers.find_asked.Given as goal

abbrev pub invariant-loop-name : goal.invariant-loop-name
invariant-loop-name l = first_asked (asked_in (members_view l.name-iterator)) ≡ first_asked (asked_in (members_view l.fn.fields.entries))
