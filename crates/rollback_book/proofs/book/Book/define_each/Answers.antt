use Rattle.std.proofs.Common.{◌∷◌, ◌++◌, ◌-◌, [], List, drop, length, take, ap, sym, subst, ◌∙◌}
use Rattle.std.specs.List.{list_any}
use Rattle.std.proofs.lemmas.List.{take-append-drop, take_rest}
use Rattle.book_log.specs.Answers.{defines, is_settlement}
use Rattle.book_log.specs.Log.{Log}
use Rattle.book_log.specs.declared.entry.Entry.{Entry}
use Rattle.book_log.proofs.LegalRuns.{of_log}
use Rattle.rollback_book.specs.Rerunning.{MayDefine}
use Rattle.rollback_book.proofs.Outlined.{define_in, outline_next}
use Rattle.rollback_book.proofs.book.Book.define_each.Goals as goal

pub define_again-requires : goal.define_again-requires
define_again-requires c =
    let entries = c.args.entries.now in
    let front = take c.args.from entries in
    let rest = take (length entries - c.args.from) (drop c.args.from entries) in
    let whole = ap (λ (l : List Entry). front ++ l) (take_rest entries c.args.from) ∙ take-append-drop c.args.from entries in
    let e = c.entry-item.result in
    subst (λ (s : Log). MayDefine s e) (sym c.loop-entry.invariant)
    (define_in c.args.self.now.log.begin entries front rest c.loop-entry.entry-index e c.requires.legal whole c.loop-entry-test.true c.entry-item.is)

pub loop-entry-preserved : goal.loop-entry-preserved
loop-entry-preserved c =
    let entries = c.args.entries.now in
    let front = take c.args.from entries in
    let rest = take (length entries - c.args.from) (drop c.args.from entries) in
    let none = ap (list_any is_settlement) (take_rest entries c.args.from) ∙ c.requires.unsettled in
    let e = c.entry-item.result in
    c.in_ok-define_again.ensures ∙ ap (λ (s : Log). of_log s.begin (s.entries ++ defines (e ∷ []))) c.loop-entry.invariant
    ∙ ap (of_log c.args.self.now.log.begin) (outline_next front rest c.loop-entry.entry-index e none c.loop-entry-test.true c.entry-item.is)
