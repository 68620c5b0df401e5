use Rattle.std.proofs.Common.{◌∙◌, ap, codes, map, string_bytes}
use Rattle.std.proofs.lemmas.Result.{IfErr-weaker, IfOk-weaker}
use Rattle.clap.specs.Words.{is_simple_and_free}
use Rattle.rollback_run.proofs.Words.{among_faults, names_by, refuses, refuses_by, taken_by, value_is}
use Rattle.rollback_run.proofs.mode.mode_of.Goals as goal

pub returns-in-Ok-try_get_matches_from-clause-ok : goal.returns-in-Ok-try_get_matches_from-clause-ok
returns-in-Ok-try_get_matches_from-clause-ok c =
    let parse = c.in-Ok-try_get_matches_from.ensures in
    let journal = c.get_str.ensures ∙ value_is _ _ _ (codes "journal") c.in-Ok.ensures parse.matches in
    let check = c.get_str-in-Ok-try_get_matches_from.ensures ∙ value_is _ _ _ (codes "check") c.in-Ok.ensures parse.matches in
    let taken = taken_by _ (map string_bytes c.args.words.now) c.in-Ok.ensures (parse.kinds (ap is_simple_and_free c.in-Ok.ensures)) in
    IfOk-weaker c.named.result _ _ (λ mode h. names_by (map string_bytes c.args.words.now) _ _ mode journal check taken h) c.named.ensures.ok

pub returns-in-Ok-try_get_matches_from-clause-err : goal.returns-in-Ok-try_get_matches_from-clause-err
returns-in-Ok-try_get_matches_from-clause-err c =
    let parse = c.in-Ok-try_get_matches_from.ensures in
    let journal = c.get_str.ensures ∙ value_is _ _ _ (codes "journal") c.in-Ok.ensures parse.matches in
    let check = c.get_str-in-Ok-try_get_matches_from.ensures ∙ value_is _ _ _ (codes "check") c.in-Ok.ensures parse.matches in
    IfErr-weaker c.named.result _ _ (λ refusal h. refuses_by (map string_bytes c.args.words.now) _ _ refusal journal check h) c.named.ensures.err

pub returns-in-Err-try_get_matches_from-clause-err : goal.returns-in-Err-try_get_matches_from-clause-err
returns-in-Err-try_get_matches_from-clause-err c =
    let failed = c.in-Err-try_get_matches_from.ensures.kinds (ap is_simple_and_free c.in-Ok.ensures) in
    let among = among_faults _ _ c.in-Err-try_get_matches_from.error c.in-Ok.ensures failed in
    refuses _ _ c.refusal.result among c.refusal.ensures
