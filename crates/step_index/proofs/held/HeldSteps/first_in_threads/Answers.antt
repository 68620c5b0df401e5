use Rattle.std.proofs.Common.{◌≡◌, ◌+◌, arith, length, ap, sym, subst, ◌∙◌}
use Rattle.std.specs.Prelude.{IfSome}
use Rattle.linked_classes.specs.Sets.{set_of}
use Rattle.step_index.specs.Buckets.{by_home}
use Rattle.step_index.specs.Held.{IsLeftAt}
use Rattle.step_index.specs.Walks.{IsFirstFrom, needed_by}
use Rattle.step_index.proofs.Needed.{Along, Among, earlier_is, first_above, is_left, more_along, none_along}
use Rattle.step_index.proofs.held.HeldSteps.first_in_threads.Goals as goal

pub loop-depth-init : goal.loop-depth-init
loop-depth-init c = record {
  first = none_along c.args.records.now.items c.args.self.now c.args.fact.now;
  left = tt;
}

pub first_needed_in-here-requires-clause-many : goal.first_needed_in-here-requires-clause-many
first_needed_in-here-requires-clause-many c =
    let l = rw (← c.self.view_is) at c.requires.beside in
    l.many

pub loop-depth-preserved : goal.loop-depth-preserved
loop-depth-preserved c =
    let rs = c.args.records.now.items in
    let h = c.args.self.now in
    let later = c.args.fact.now in
    let class = c.bucket_above-class.result in
    let here = c.first_needed_in-here.result in
    let l = rw (← c.self.view_is) at c.requires.beside in
    let first : IsFirstFrom (Among h.threads class) (needed_by later) rs 0 here = rw (← c.self.view_is) c.first_needed_in-here.ensures.first in
    let left : IfSome here (IsLeftAt h) = rw (← c.self.view_is) (is_left rs _ l by_home (set_of c.self.inside.places 1) l.homed class here c.first_needed_in-here.ensures.member) in
    record {
      first = subst (λ r. IsFirstFrom (Along h later (c.loop-depth.depth + 1)) (needed_by later) rs 0 r) (sym c.earlier-found.ensures)
          (more_along rs h later c.loop-depth.depth class c.loop-depth.found here c.bucket_above-class.ensures.bucket c.loop-depth.invariant.first first);
      left = subst (λ r. IfSome r (IsLeftAt h)) (sym c.earlier-found.ensures) (earlier_is (IsLeftAt h) c.loop-depth.found here c.loop-depth.invariant.left left);
    }

pub returns-clause-first : goal.returns-clause-first
returns-clause-first c =
    let rs = c.args.records.now.items in
    let h = c.args.self.now in
    let later = c.args.fact.now in
    let path = ap length c.path.ensures.path in
    let most = c.loop-depth.auto.depth-end in
    let least = c.loop-depth-test.false in
    let end : c.loop-depth.depth ≡ length later.name.thread.path + 1 = omega (arith, path, most, least) in
    first_above rs h c.requires.beside later c.loop-depth.found c.requires.free (subst (λ d. IsFirstFrom (Along h later d) (needed_by later) rs 0 c.loop-depth.found) end c.loop-depth.invariant.first)
