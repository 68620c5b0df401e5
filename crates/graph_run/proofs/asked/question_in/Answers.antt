use Rattle.std.proofs.Common.{◌∙◌, codes}
use Rattle.clap.proofs.WalkLemmas.{first_value-rows, raw_values-rows}
use Rattle.clap.specs.Words.{found_of}
use Rattle.graph_run.specs.Questions.{question_of, text_in, texts_in}
use Rattle.graph_run.proofs.Asking.{flag_rows, same_question}
use Rattle.graph_run.proofs.asked.question_in.Goals as goal

pub returns : goal.returns
returns c =
    let found = found_of c.args.matches.now in
    record {
      question = question_of c.get_flag.result c.get_flag-2.result c.get_flag-3.result (text_in c.get_str-plan.result) (texts_in c.get_strs-why.result) (text_in c.get_str-from.result);
      asks = record {
        list = c.get_flag.result;
        dot = c.get_flag-2.result;
        html = c.get_flag-3.result;
        is_list = flag_rows found (codes "list") _ c.get_flag.ensures.none c.get_flag.ensures.value c.get_flag.ensures.other;
        is_dot = flag_rows found (codes "dot") _ c.get_flag-2.ensures.none c.get_flag-2.ensures.value c.get_flag-2.ensures.other;
        is_html = flag_rows found (codes "html") _ c.get_flag-3.ensures.none c.get_flag-3.ensures.value c.get_flag-3.ensures.other;
        asked = same_question _ _ _ _ _ _ _ _ _ (c.get_str-plan.ensures ∙ first_value-rows found (codes "plan")) (c.get_strs-why.ensures ∙ raw_values-rows found (codes "why"))
            (c.get_str-from.ensures ∙ first_value-rows found (codes "from"));
      };
      gives = c.question_of.ensures;
    }
