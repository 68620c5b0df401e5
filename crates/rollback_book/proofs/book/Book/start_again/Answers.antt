use Rattle.std.proofs.Common.{◌≡◌, ◌≤◌, ℕ, List, ap, ap₂, sym, subst, ◌∙◌, Option, None, Some}
use Rattle.std.proofs.lemmas.Option.{same_Some}
use Rattle.json_tree.specs.Data.{depth}
use Rattle.json_tree.specs.View.{data_of}
use Rattle.json_tree.specs.declared.tree.Json.{Json}
use Rattle.saved_steps.specs.Steps.{Step, started}
use Rattle.book_log.specs.Legal.{IsLegal}
use Rattle.rollback_book.specs.Book.{BookView}
use Rattle.rollback_book.specs.Rerunning.{Origin, Retakes, last_start}
use Rattle.rollback_book.proofs.Retaken.{some_start}
use Rattle.rollback_book.proofs.book.Book.start_again.Goals as goal

pub unreachable-requires : goal.unreachable-requires
unreachable-requires c =
    let log = c.args.self.now.log in
    let legal = subst (λ (b : BookView). IsLegal b.log) c.self.view_is c.self.invariant.legal in
    let k = some_start log legal c.args.name.now c.requires.start c.requires.remains in
    let last = ap (last_start c.args.name.now.thread) (c.as_slice.ensures.value ∙ ap (λ (b : BookView). b.log.entries) c.self.view_is) ∙ k.2.last in
    let clash : ◌≡◌ {A = Option Origin} None (Some (k.2.machine, k.2.input)) = c.in_default.ensures ∙ last in
    cc

pub start_with-requires-clause-execution : goal.start_with-requires-clause-execution
start_with-requires-clause-execution c =
    let legal = subst (λ (b : BookView). IsLegal b.log) c.self.view_is c.self.invariant.legal in
    (some_start c.args.self.now.log legal c.args.name.now c.requires.start c.requires.remains).2.root

pub start_with-requires-clause-shallow : goal.start_with-requires-clause-shallow
start_with-requires-clause-shallow c =
    let legal = subst (λ (b : BookView). IsLegal b.log) c.self.view_is c.self.invariant.legal in
    let k = some_start c.args.self.now.log legal c.args.name.now c.requires.start c.requires.remains in
    let last = ap (last_start c.args.name.now.thread) (c.as_slice.ensures.value ∙ ap (λ (b : BookView). b.log.entries) c.self.view_is) ∙ k.2.last in
    let both = same_Some (c.in-Some.machine.now, c.in-Some.input.now) (k.2.machine, k.2.input) (c.in-Some.ensures ∙ last) in
    let input = c.in-Ok.ensures.ok ∙ ap (λ (o : Origin). o.1) both in
    subst (λ (j : Json). depth (data_of j) ≤ 127) (sym input) k.2.shallow

pub returns : goal.returns
returns c =
    let legal = subst (λ (b : BookView). IsLegal b.log) c.self.view_is c.self.invariant.legal in
    let k = some_start c.args.self.now.log legal c.args.name.now c.requires.start c.requires.remains in
    let last = ap (last_start c.args.name.now.thread) (c.as_slice.ensures.value ∙ ap (λ (b : BookView). b.log.entries) c.self.view_is) ∙ k.2.last in
    let both = same_Some (c.in-Some.machine.now, c.in-Some.input.now) (k.2.machine, k.2.input) (c.in-Some.ensures ∙ last) in
    let input = c.in-Ok.ensures.ok ∙ ap (λ (o : Origin). o.1) both in
    let step = k.1 ∙ ap (λ (s : Step). Some s) (k.2.is ∙ sym (ap₂ (λ (m : List ℕ) (j : Json). started c.args.name.now.thread.exec m j) (ap (λ (o : Origin). o.0) both) input)) in
    subst (λ (o : Option Step). Retakes c.args.again.now.log o c.start_with.result c.start_with.new.self.log) (sym step) c.start_with.ensures
