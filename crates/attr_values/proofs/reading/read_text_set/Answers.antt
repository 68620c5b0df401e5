use Rattle.std.proofs.Common.{ap, sym, ◌∙◌, Some}
use Rattle.json_tree.specs.View.{data_of}
use Rattle.attr_values.specs.Datum.{texts}
use Rattle.attr_values.specs.Faults.{result_map}
use Rattle.attr_values.specs.Reading as spec
use Rattle.attr_values.specs.declared.reading.Kind.TheVariants.{Ss}
use Rattle.attr_values.proofs.ReadingLemmas.{read_kind-texts}
use Rattle.attr_values.proofs.reading.read_text_set.Goals as goal

pub returns-in_ok-read_texts-in-List-clause-read : goal.returns-in_ok-read_texts-in-List-clause-read
returns-in_ok-read_texts-in-List-clause-read c =
    ap (λ j. spec.read_kind (Some Ss) 0 (data_of j)) c.in-List.is
    ∙ read_kind-texts 0 c.in-List.list (λ none. let yes = c.is_empty.ensures.1 none in let no = c.if-not-is_empty.true in cc (sym yes ∙ no))
    ∙ ap (result_map texts) c.in_ok-read_texts-in-List.ensures
