use Rattle.std.proofs.Common.{ap, sym, ◌∙◌, Some}
use Rattle.json_tree.specs.View.{data_of}
use Rattle.attr_values.specs.Datum.{numbers}
use Rattle.attr_values.specs.Faults.{result_map}
use Rattle.attr_values.specs.Reading as spec
use Rattle.attr_values.specs.declared.reading.Kind.TheVariants.{Ns}
use Rattle.attr_values.proofs.ReadingLemmas.{read_kind-numbers}
use Rattle.attr_values.proofs.reading.read_number_set.Goals as goal

pub returns-in_ok-read_numbers-in-List-clause-read : goal.returns-in_ok-read_numbers-in-List-clause-read
returns-in_ok-read_numbers-in-List-clause-read c =
    ap (λ j. spec.read_kind (Some Ns) 0 (data_of j)) c.in-List.is
    ∙ read_kind-numbers 0 c.in-List.list (λ none. let yes = c.is_empty.ensures.1 none in let no = c.if-not-is_empty.true in cc (sym yes ∙ no))
    ∙ ap (result_map numbers) c.in_ok-read_numbers-in-List.ensures
