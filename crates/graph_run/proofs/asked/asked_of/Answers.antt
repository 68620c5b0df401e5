use Rattle.std.proofs.Common.{ap, map, string_bytes}
use Rattle.clap.specs.Words.{is_simple_and_free}
use Rattle.graph_run.proofs.Asking.{among_faults, names_by, refuses, refuses_by, rows_are, taken_by}
use Rattle.graph_run.proofs.asked.asked_of.Goals as goal

pub returns-in-Ok-try_get_matches_from-clause-ok : goal.returns-in-Ok-try_get_matches_from-clause-ok
returns-in-Ok-try_get_matches_from-clause-ok c =
    let words = map string_bytes c.args.words.now in
    let parse = c.in-Ok-try_get_matches_from.ensures in
    let taken = taken_by _ words c.in-Ok.ensures (parse.kinds (ap is_simple_and_free c.in-Ok.ensures)) in
    names_by words _ _ (rows_are _ _ words c.in-Ok.ensures parse.matches) taken c.asked_in.ensures

pub returns-in-Ok-try_get_matches_from-clause-err : goal.returns-in-Ok-try_get_matches_from-clause-err
returns-in-Ok-try_get_matches_from-clause-err c =
    let words = map string_bytes c.args.words.now in
    refuses_by words _ _ (rows_are _ _ words c.in-Ok.ensures c.in-Ok-try_get_matches_from.ensures.matches) c.asked_in.ensures

pub returns-in-Err-try_get_matches_from-clause-err : goal.returns-in-Err-try_get_matches_from-clause-err
returns-in-Err-try_get_matches_from-clause-err c =
    let failed = c.in-Err-try_get_matches_from.ensures.kinds (ap is_simple_and_free c.in-Ok.ensures) in
    let among = among_faults _ _ c.in-Err-try_get_matches_from.error c.in-Ok.ensures failed in
    refuses _ _ c.refusal.result among c.refusal.ensures
