use Rattle.std.proofs.Common.{codes, subst}
use Rattle.clap.specs.Words.{found_of, rows_of}
use Rattle.graph_run.specs.Questions.{AsksToServe}
use Rattle.graph_run.proofs.Asking.{flag_rows, of_question, of_serve}
use Rattle.graph_run.proofs.asked.asked_in.Goals as goal

pub returns-then-get_flag : goal.returns-then-get_flag
returns-then-get_flag c =
    let found = found_of c.args.matches.now in
    of_serve (rows_of found) _
    (subst (AsksToServe (rows_of found)) c.if-get_flag.true (flag_rows found (codes "serve") _ c.get_flag.ensures.none c.get_flag.ensures.value c.get_flag.ensures.other))
    c.served_in.ensures

pub returns-else-get_flag : goal.returns-else-get_flag
returns-else-get_flag c =
    let found = found_of c.args.matches.now in
    of_question (rows_of found) _
    (subst (AsksToServe (rows_of found)) c.if-get_flag.false (flag_rows found (codes "serve") _ c.get_flag.ensures.none c.get_flag.ensures.value c.get_flag.ensures.other))
    c.asked_of_file.ensures
