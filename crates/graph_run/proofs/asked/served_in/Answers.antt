use Rattle.std.proofs.Common.{◌∙◌, codes, sym}
use Rattle.clap.proofs.WalkLemmas.{first_value-rows, raw_values-rows}
use Rattle.clap.specs.Words.{found_of, rows_of}
use Rattle.graph_run.specs.Questions.{text_in, texts_in}
use Rattle.graph_run.proofs.Asking.{flag_rows, same_any, served_in}
use Rattle.graph_run.proofs.asked.served_in.Goals as goal

pub returns-then-has_any : goal.returns-then-has_any
returns-then-has_any c =
    let found = found_of c.args.matches.now in
    record {
      list = c.get_flag.result;
      dot = c.get_flag-2.result;
      html = c.get_flag-3.result;
      is_list = flag_rows found (codes "list") _ c.get_flag.ensures.none c.get_flag.ensures.value c.get_flag.ensures.other;
      is_dot = flag_rows found (codes "dot") _ c.get_flag-2.ensures.none c.get_flag-2.ensures.value c.get_flag-2.ensures.other;
      is_html = flag_rows found (codes "html") _ c.get_flag-3.ensures.none c.get_flag-3.ensures.value c.get_flag-3.ensures.other;
      beside = sym c.if-has_any.true ∙ c.has_any.ensures
          ∙ same_any c.get_flag.result c.get_flag-2.result c.get_flag-3.result (text_in c.get_str-plan.result) _ (texts_in c.get_strs-why.result) _ (text_in c.get_str-from.result) _ (c.get_str-plan.ensures ∙ first_value-rows found (codes "plan")) (c.get_strs-why.ensures ∙ raw_values-rows found (codes "why"))
          (c.get_str-from.ensures ∙ first_value-rows found (codes "from"));
    }

pub returns : goal.returns
returns c =
    let found = found_of c.args.matches.now in
    served_in (rows_of found) _ _ (c.get_str.ensures ∙ first_value-rows found (codes "file"))
    (record {
      list = c.get_flag.result;
      dot = c.get_flag-2.result;
      html = c.get_flag-3.result;
      is_list = flag_rows found (codes "list") _ c.get_flag.ensures.none c.get_flag.ensures.value c.get_flag.ensures.other;
      is_dot = flag_rows found (codes "dot") _ c.get_flag-2.ensures.none c.get_flag-2.ensures.value c.get_flag-2.ensures.other;
      is_html = flag_rows found (codes "html") _ c.get_flag-3.ensures.none c.get_flag-3.ensures.value c.get_flag-3.ensures.other;
      beside = sym c.if-has_any.false ∙ c.has_any.ensures
          ∙ same_any c.get_flag.result c.get_flag-2.result c.get_flag-3.result (text_in c.get_str-plan.result) _ (texts_in c.get_strs-why.result) _ (text_in c.get_str-from.result) _ (c.get_str-plan.ensures ∙ first_value-rows found (codes "plan")) (c.get_strs-why.ensures ∙ raw_values-rows found (codes "why"))
          (c.get_str-from.ensures ∙ first_value-rows found (codes "from"));
    })
    c.served_by.ensures.ok c.served_by.ensures.err
