use Rattle.std.proofs.Common.{◌∙◌, sym}
use Rattle.asl_fields.proofs.Names.{names_step, names_unsupported, names_unknown, names_later, unsupported_first, unknown_first}
use Rattle.asl_fields.proofs.field_readers.check_names.Goals as goal

pub loop-name-preserved : goal.loop-name-preserved
loop-name-preserved c = (
  names_step c.args.place c.loop-name.name-iterator c.next.new.self c.in-Some.name.now c.in-Some._value.now c.as_str.result.now _ c.in-Some.ensures.steps c.as_str.ensures.value c.in-Known.ensures
      c.loop-name.invariant.0,
  λ e fault. c.loop-name.invariant.1 e (names_later c.args.place c.loop-name.name-iterator c.next.new.self c.in-Some.name.now c.in-Some._value.now e c.in-Some.ensures.steps fault),
)

pub returns-in-Unsupported-clause-refused : goal.returns-in-Unsupported-clause-refused
returns-in-Unsupported-clause-refused c =
    names_unsupported c.args.place c.loop-name.name-iterator c.next.new.self c.in-Some.name.now c.in-Some._value.now c.as_str.result.now _ c.in-Some.ensures.steps c.as_str.ensures.value
    c.in-Unsupported.ensures c.loop-name.invariant.0

pub returns-in-Unsupported-clause-fault : goal.returns-in-Unsupported-clause-fault
returns-in-Unsupported-clause-fault c =
    c.loop-name.invariant.1 _
    (unsupported_first c.args.place c.loop-name.name-iterator c.next.new.self c.in-Some.name.now c.in-Some._value.now c.as_str.result.now _ c.in-Some.ensures.steps c.as_str.ensures.value
    c.in-Unsupported.ensures (c.in_ok-new-in-Unsupported.ensures ∙ c.as_str-in-Unsupported.ensures.value ∙ sym c.as_str.ensures.value))

pub returns-in-Unknown-clause-refused : goal.returns-in-Unknown-clause-refused
returns-in-Unknown-clause-refused c =
    names_unknown c.args.place c.loop-name.name-iterator c.next.new.self c.in-Some.name.now c.in-Some._value.now c.as_str.result.now _ c.in-Some.ensures.steps c.as_str.ensures.value
    c.in-Unknown.ensures c.loop-name.invariant.0

pub returns-in-Unknown-clause-fault : goal.returns-in-Unknown-clause-fault
returns-in-Unknown-clause-fault c =
    c.loop-name.invariant.1 _
    (unknown_first c.args.place c.loop-name.name-iterator c.next.new.self c.in-Some.name.now c.in-Some._value.now c.as_str.result.now _ c.in-Some.ensures.steps c.as_str.ensures.value
    c.in-Unknown.ensures (c.in_ok-new-in-Unknown.ensures ∙ c.as_str-in-Unknown.ensures.value ∙ sym c.as_str.ensures.value))
