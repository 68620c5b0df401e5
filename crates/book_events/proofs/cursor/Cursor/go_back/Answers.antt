use Rattle.std.proofs.Common.{◌≡◌, ℕ, Less, Equal, List, is_eq, ap, sym, subst, ◌∙◌}
use Rattle.std.specs.Cmp.Lexicographic.{slice_cmp}
use Rattle.std.specs.Ordering.{nat_cmp}
use Rattle.std.specs.String.{string_bytes}
use Rattle.book_events.specs.Cursors.{GoesBack, cursor_place}
use Rattle.book_events.proofs.Cursors.{back_to, back_within}
use Rattle.book_events.proofs.cursor.Cursor.go_back.Goals as goal

pub returns-in-Less : goal.returns-in-Less
returns-in-Less c =
    let exec = c.args.exec.now in
    let now = string_bytes c.rewrite.new.text in
    let before = subst (λ (x : List ℕ). slice_cmp nat_cmp exec x ≡ Less) c.as_str.ensures.value (sym c.cmp.ensures ∙ c.in-Less.is) in
    subst (λ (p : List (ℕ × ℕ)). GoesBack exec (cursor_place c.args.self.now) (record { exec = now; path = p })) (sym c.clear.ensures.items)
    (back_to exec (cursor_place c.args.self.now) now before c.rewrite.ensures)

pub returns-in-Equal : goal.returns-in-Equal
returns-in-Equal c =
    let exec = c.args.exec.now in
    let same = subst (λ (x : List ℕ). slice_cmp nat_cmp exec x ≡ Equal) c.as_str.ensures.value (sym c.cmp.ensures ∙ c.in-Equal.is) in
    subst (λ (p : List (ℕ × ℕ)). GoesBack exec (cursor_place c.args.self.now) (record { exec = string_bytes c.args.self.now.exec; path = p })) (sym c.clear-in-Equal.ensures.items)
    (back_within exec (cursor_place c.args.self.now) (ap is_eq same))
