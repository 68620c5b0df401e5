use Rattle.std.proofs.Common.{Some, option_map, sym, ap, ◌∙◌}
use Rattle.serde_json.specs.View.{view}
use Rattle.asl_states.specs.Reading.{result_of}
use Rattle.asl_states.proofs.Whole.{whole_json-whole_of}
use Rattle.asl_states.proofs.state_readers.read_result.Goals as goal

pub returns-in-Ok-clause-ok : goal.returns-in-Ok-clause-ok
returns-in-Ok-clause-ok c = ap result_of (sym c.in-Some.ensures) ∙ ap (option_map Some) (whole_json-whole_of (view c.in-Some.value.now) c.in-Ok.json c.in-Ok.ensures.ok)
