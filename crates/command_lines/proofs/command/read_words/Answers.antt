use Rattle.std.proofs.Common.{refl}
use Rattle.command_lines.proofs.Keywords.{no_keyword}
use Rattle.command_lines.proofs.command.read_words.Goals as goal

pub returns-in_default-clause-bad : goal.returns-in_default-clause-bad
returns-in_default-clause-bad c =
    let none = no_keyword c.args.keyword.now c.args.rest.now c.in_default.not-table c.in_default.not-define c.in_default.not-start c.in_default.not-step
    c.in_default.not-undo c.in_default.not-plan c.in_default.not-rollback c.in_default.not-hold c.in_default.not-drive c.in_default.not-work c.in_default.not-show in
    (λ _. none, λ _. refl)
