use Rattle.std.proofs.Common.{◌≡◌}
use Rattle.serde_json.specs.View.{members_view}
use Rattle.asl_states.proofs.TestReadings.{often_after}
use Rattle.asl_states.specs.TestFields.{asked_in, is_often}
use Rattle.asl_states.proofs.test_readers.asks_often.Given as goal

-- the rest, after what has been seen, are several where all are
abbrev pub invariant-loop-name : goal.invariant-loop-name
invariant-loop-name l = often_after l.asked (asked_in (members_view l.name-iterator)) ≡ is_often (asked_in (members_view l.fn.fields.entries))
