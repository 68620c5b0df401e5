use Rattle.std.proofs.Common.{sym, ◌∙◌}
use Rattle.depends.proofs.Sought.{closes_none, closed}
use Rattle.depends.proofs.under.UnderMarks.has_closed.Goals as goal

pub returns-then-not-is_close : goal.returns-then-not-is_close
returns-then-not-is_close c facts are = closes_none facts c.args.later.now (sym c.is_close.ensures ∙ c.if-not-is_close.true)

pub returns : goal.returns
returns c facts are = c.contains_key.ensures ∙ closed facts c.args.self.now c.args.later.now _ (sym c.is_close.ensures ∙ c.if-not-is_close.false) c.in_ok-copy.ensures (c.saturating_sub.ensures) are
