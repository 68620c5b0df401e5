use Rattle.std.proofs.Common.{rules, ◌≡◌, ◌<◌, ◌+◌, ℕ, Err, length, string_bytes, sym, ap, ◌∙◌}
use Rattle.journaled_book.specs.Journaled.{log_of}
use Rattle.journaled_book.specs.Reading.{fault_at}
use Rattle.journaled_book.specs.declared.fault.LineFault.{LineFault}
use Rattle.journaled_book.specs.declared.fault.OpenFault.TheVariants.{Damaged}
use Rattle.journaled_book.proofs.Given.{damage_at, given_more, told_at}
use Rattle.journaled_book.proofs.loading.book_of.Goals as goal

pub returns-in-Err-clause-damaged : goal.returns-in-Err-clause-damaged
returns-in-Err-clause-damaged g c place is =
    let lines = c.args.lines.now in
    let at = c.loop-line.line-index in
    let low : at < length lines = search rules in
    let told : fault_at c.loop-line.place c.in-Err.fault ≡ Damaged place = search rules in
    let here = told_at c.loop-line.place place c.in-Err.fault told in
    damage_at string_bytes lines at c.line-item.result c.line-item.result low (sym c.line-item.is) place (log_of g.B.Events.log c.loop-line.book) c.as_str.result.now (here.1 ∙ c.loop-line.invariant.place)
    c.loop-line.invariant.given c.as_str.ensures.value (c.in-Err.ensures.damaged (ap (λ (f : LineFault). Err f) here.0))

pub loop-line-preserved : goal.loop-line-preserved
loop-line-preserved g c =
    let lines = c.args.lines.now in
    let at = c.loop-line.line-index in
    let low : at < length lines = search rules in
    record {
      place = ap (λ (n : ℕ). n + 1) c.loop-line.invariant.place;
      given = given_more string_bytes lines at c.line-item.result c.line-item.result low (sym c.line-item.is) (log_of g.B.Events.log c.loop-line.book) (g.B.Events.log c.in-Ok.after) c.as_str.result.now
          c.loop-line.invariant.given c.as_str.ensures.value c.in-Ok.ensures.ok;
    }
