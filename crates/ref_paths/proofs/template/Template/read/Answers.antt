use Rattle.json_tree.specs.View.{data_of}
use Rattle.ref_paths.proofs.NoTemplates.{no_template}
use Rattle.ref_paths.proofs.TemplateReadings.{on_named, passed_on}
use Rattle.ref_paths.proofs.template.Template.read.Goals as goal

pub returns-in_err-root-clause-no_template : goal.returns-in_err-root-clause-no_template
returns-in_err-root-clause-no_template c =
    let e = c.in_err-root.field-0.0 in
    passed_on c.from_residual.result e _ c.from_residual.ensures.1 (on_named e (no_template c.args.item_paths (data_of c.args.json.now) e) c.in_err-root.ensures.fault)
