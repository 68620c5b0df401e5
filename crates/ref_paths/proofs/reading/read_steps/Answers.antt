use Rattle.std.proofs.Common.{◌≡◌, ◌∷◌, ◌++◌, [], List, rules, sym, ap, subst, length, length-append, arith}
use Rattle.ref_paths.proofs.Scans.{ReadSoFar, text_fails, read_more, some_left}
use Rattle.ref_paths.specs.Faults.{StepFaultStands}
use Rattle.ref_paths.specs.declared.reading.PathFault.{PathFault}
use Rattle.ref_paths.specs.declared.path.PathStep.{PathStep}
use Rattle.ref_paths.proofs.reading.read_steps.Goals as goal

pub loop-rest-preserved : goal.loop-rest-preserved
loop-rest-preserved c =
    let more = read_more (36 ∷ c.args.text.now) c.loop-rest.steps.items c.loop-rest.rest.now c.in-Ok.after.now c.in-Ok.step c.loop-rest.invariant.1 c.in-Ok.ensures.ok in
    let pushed : c.push.new.self.items ≡ c.loop-rest.steps.items ++ c.in-Ok.step ∷ [] = search rules in
    (search rules, subst (λ (x : List PathStep). ReadSoFar (36 ∷ c.args.text.now) x c.in-Ok.after.now) (sym pushed) more)

pub returns-in-Err-BadPath-clause-err : goal.returns-in-Err-BadPath-clause-err
returns-in-Err-BadPath-clause-err c =
    let fault = subst (λ (e : PathFault). StepFaultStands c.loop-rest.rest.now e) c.in-Err-BadPath.field-0-is c.in-Err-BadPath.ensures.err in
    let some = some_left (length c.loop-rest.rest.now) c.is_empty.result c.is_empty.ensures c.loop-rest-test.true in
    text_fails (36 ∷ c.args.text.now) c.loop-rest.steps.items c.loop-rest.rest.now _ c.in-Err-BadPath.at c.loop-rest.invariant.1 fault some (omega (arith, ap length c.loop-rest.invariant.1.joined, length-append c.loop-rest.invariant.1.front c.loop-rest.rest.now))
