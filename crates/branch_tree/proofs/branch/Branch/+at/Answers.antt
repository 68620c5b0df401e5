use Rattle.std.proofs.Common.{◌≡◌, ◌++◌, ◌<◌, ◌≤◌, length, get_or, List, subst}
use Rattle.branch_tree.specs.Tree.{Rows, frame_at}
use Rattle.branch_tree.proofs.Descent.{first, rest, goes_by_no_fork, goes_past, goes_on, match_along}
use Rattle.branch_tree.proofs.branch.Branch.+at.Goals as goal

pub returns-then-first-self : goal.returns-then-first-self
returns-then-first-self t c = goes_by_no_fork c.self.inside.frame c.self.inside.kids.items c.args.self.now c.args.path.now c.self.view_is c.in-len1-up.len_at_least c.if-first-self.true

pub returns-in_err-kid-in-len1-up : goal.returns-in_err-kid-in-len1-up
returns-in_err-kid-in-len1-up t c =
    let past : length c.self.inside.kids.items ≤ (first c.args.path.now).1 =
    subst (λ (kids : List Rows). length kids ≤ (first c.args.path.now).1) c.deref.ensures.value c.in_err-kid-in-len1-up.ensures.lookup.3 in
    rw c.from_residual.ensures (goes_past c.self.inside.frame c.self.inside.kids.items c.args.self.now c.args.path.now c.self.view_is c.in-len1-up.len_at_least past)

pub returns-in_ok-kid-in-len1-up : goal.returns-in_ok-kid-in-len1-up
returns-in_ok-kid-in-len1-up t c =
    let within : (first c.args.path.now).1 < length c.self.inside.kids.items =
    subst (λ (kids : List Rows). (first c.args.path.now).1 < length kids) c.deref.ensures.value c.in_ok-kid-in-len1-up.ensures.lookup.3.0 in
    let here : c.in_ok-kid-in-len1-up.kid.now ≡ get_or c.self.inside.kids.items (first c.args.path.now).1 c.in_ok-kid-in-len1-up.kid.now =
    subst (λ (kids : List Rows). c.in_ok-kid-in-len1-up.kid.now ≡ get_or kids (first c.args.path.now).1 c.in_ok-kid-in-len1-up.kid.now) c.deref.ensures.value c.in_ok-kid-in-len1-up.ensures.lookup.1 in
    match_along c.at.result (λ b. b.now) (λ q. frame_at c.args.self.now (c.args.path.now ++ q)) (λ q. frame_at c.in_ok-kid-in-len1-up.kid.now (rest c.args.path.now ++ q))
    (goes_on c.self.inside.frame c.self.inside.kids.items c.args.self.now c.args.path.now c.self.view_is c.in-len1-up.len_at_least c.in_ok-kid-in-len1-up.kid.now c.if-first-self.false within here)
    c.at.ensures
