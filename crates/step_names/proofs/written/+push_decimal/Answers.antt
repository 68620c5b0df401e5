use Rattle.std.proofs.Common.{arith, ap, ◌∙◌, string_bytes}
use Rattle.step_names.proofs.Digits.{after_front, after_none}
use Rattle.step_names.proofs.written.+push_decimal.Goals as goal
use Rattle.step_names.proofs.written.+push_decimal.Goals.{then-number-ge10, else-number-ge10}

pub returns-clause-bytes : goal.returns-clause-bytes
returns-clause-bytes t c =
    elim c.if-number-ge10.branch [
      | then-number-ge10 w ↦ after_front (string_bytes c.args.out.now) (string_bytes c.if-number-ge10.out) (string_bytes c.push_ascii.new.out) c.args.number w.if-number-ge10.true c.ranges.number.fits (ap string_bytes w.out-is ∙ w.push_decimal.ensures.bytes) c.push_ascii.ensures.bytes
      | else-number-ge10 w ↦ after_none (string_bytes c.args.out.now) (string_bytes c.push_ascii.new.out) c.args.number (omega arith) (c.push_ascii.ensures.bytes ∙ rw w.out-is)
    ]
