use Rattle.std.proofs.Common.{◌≡◌, sym, ap, ◌∙◌, subst, List, map}
use Rattle.std.specs.List.{All}
use Rattle.branch_tree.specs.Frame.{Frame}
use Rattle.asl_forward.specs.declared.prepared.Outcome.TheVariants as outcome
use Rattle.branch_tree.specs.Tree.{leaf}
use Rattle.saved_steps.specs.Made.{is_unparked}
use Rattle.saved_steps.proofs.Ready.{turned, plain, fork}
use Rattle.saved_steps.proofs.world.World.make_work.Goals as goal

pub leaves-requires : goal.leaves-requires
leaves-requires c =
    let p = c.args.prepared in
    let is : p.outcome ≡ outcome.Fork c.in-Fork.frame c.in-Fork.frames = sym (ap (λ x. x.2) c.into_parts-outcome.ensures) ∙ c.in-Fork.is in
    let y = turned p (outcome.Fork c.in-Fork.frame c.in-Fork.frames) is in
    subst (λ (fs : List Frame). All is_unparked fs) (sym c.into_vec.ensures) y.3

pub returns-in-Next-clause-made : goal.returns-in-Next-clause-made
returns-in-Next-clause-made c =
    let p = c.args.prepared in
    let is : p.outcome ≡ outcome.Next c.in-Next.frame = sym (ap (λ x. x.2) c.into_parts-outcome.ensures) ∙ c.in-Next.is in
    plain c.args.self.now c.args.name c.args.bound p c.in-Next.frame is c.requires

pub returns-in-Ok-clause-made : goal.returns-in-Ok-clause-made
returns-in-Ok-clause-made c =
    let p = c.args.prepared in
    let is : p.outcome ≡ outcome.Fork c.in-Fork.frame c.in-Fork.frames = sym (ap (λ x. x.2) c.into_parts-outcome.ensures) ∙ c.in-Fork.is in
    fork c.args.self.now c.args.name c.args.bound p c.in-Fork.frame c.in-Fork.frames c.in-Ok.kids is (c.in-Ok.ensures.rows ∙ ap (λ (fs : List Frame). map leaf fs) c.into_vec.ensures) c.in-Ok.ensures.trees c.requires
