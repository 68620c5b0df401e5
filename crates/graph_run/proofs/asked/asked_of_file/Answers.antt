use Rattle.std.proofs.Common.{◌∙◌, codes, inl, subst, sym}
use Rattle.clap.proofs.WalkLemmas.{first_value-rows}
use Rattle.clap.specs.Words.{found_of, rows_of}
use Rattle.graph_run.specs.Questions.{Asks}
use Rattle.graph_run.proofs.Asking.{asked_in}
use Rattle.graph_run.proofs.asked.asked_of_file.Goals as goal

pub returns-in-Ok : goal.returns-in-Ok
returns-in-Ok c =
    let found = found_of c.args.matches.now in
    asked_in (rows_of found) _ _ _ (sym (c.in-Some.ensures ∙ first_value-rows found (codes "file"))) (subst (Asks (rows_of found)) c.in-Ok.ensures.gives c.in-Ok.ensures.asks)
    c.asked_by.ensures.ok c.asked_by.ensures.err

pub returns-in-None : goal.returns-in-None
returns-in-None c = inl (sym (c.in-None.ensures ∙ first_value-rows (found_of c.args.matches.now) (codes "file")))
