use Rattle.std.proofs.Common.{rules, [], FitsSigned, w64, true, false}
use Rattle.json_tree.specs.Data.{fields, no_members, list, no_items, text}
use Rattle.json_tree.proofs.Commonest.{AreBytesOf, no_fields_read, no_items_read, no_text_read, null_read, boolean_read, whole_read}
use Rattle.json_tree.proofs.common.read_common.Goals as goal

pub returns-in-123-clause-value : goal.returns-in-123-clause-value
returns-in-123-clause-value c = let h : AreBytesOf c.args.bytes.now (fields no_members) = search rules in rw c.new.ensures (no_fields_read c.args.bytes.now h)

pub returns-in-91-clause-value : goal.returns-in-91-clause-value
returns-in-91-clause-value c = let h : AreBytesOf c.args.bytes.now (list no_items) = search rules in rw c.new-in-91.ensures (no_items_read c.args.bytes.now h)

pub returns-in-34-clause-value : goal.returns-in-34-clause-value
returns-in-34-clause-value c = let h : AreBytesOf c.args.bytes.now (text []) = search rules in search (rules, no_text_read c.args.bytes.now h)

pub returns-in-null-clause-value : goal.returns-in-null-clause-value
returns-in-null-clause-value c = null_read c.args.bytes.now (search rules)

pub returns-in-true-clause-value : goal.returns-in-true-clause-value
returns-in-true-clause-value c = boolean_read true c.args.bytes.now (search rules)

pub returns-in-false-clause-value : goal.returns-in-false-clause-value
returns-in-false-clause-value c = boolean_read false c.args.bytes.now (search rules)

pub returns-in-Some-clause-value : goal.returns-in-Some-clause-value
returns-in-Some-clause-value c =
    let fits : FitsSigned w64 c.in-Some.number = search rules in
    let read = whole_read c.in-Some.number c.args.bytes.now c.in-Some.ensures fits in
    search (rules, read)
