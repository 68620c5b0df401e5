use Rattle.std.proofs.Common.{◌≡◌, ◌<◌, ◌≤◌, ◌-◌, ◌++◌, ◌∷◌, ◌∙◌, ℕ, suc, false, true, None, All, List, [], ap, map, arith, sym, subst}
use Rattle.std.proofs.lemmas.List.{map-append}
use Rattle.std.proofs.lemmas.List.Elements.{All-push}
use Rattle.saved_steps.specs.declared.record.StepRecord.{StepRecord}
use Rattle.step_graph.specs.Causes.{causes_below, causes_of, is_in, IsNeeded}
use Rattle.step_graph.specs.Edges.{reason_at}
use Rattle.step_graph.specs.Members.{OpensMembers}
use Rattle.step_graph.specs.declared.causing.Cause.{Cause}
use Rattle.step_graph.proofs.Inverted.{is_cause, is_none, passed, places_of, taken}
use Rattle.step_graph.specs.Opened.{and_one}
use Rattle.step_graph.proofs.Opens.{first_member, one_more_member, same_opened}
use Rattle.step_graph.proofs.causing.causes.Goals as goal

pub loop-place-preserved : goal.loop-place-preserved
loop-place-preserved c =
    let rs = c.args.records.now.items in
    let at = c.args.at in
    let old = c.loop-place.found.items in
    let place = c.loop-place.place - 1 in
    let a = c.loop-place-test.true in
    let b = c.loop-place.invariant.before in
    let e : c.loop-place.place ≡ suc place = omega (arith, a) in
    let before : suc place ≤ at = omega (arith, a, b) in
    let all : places_of old ++ causes_below (map (λ (r : StepRecord). r.fact) rs) at (suc place) ≡ causes_of rs at = subst (λ k. places_of old ++ causes_below (map (λ (r : StepRecord). r.fact) rs) at k ≡ causes_of rs at) e c.loop-place.invariant.found in
    record {
      before = omega (arith, a, b);
      found = passed rs at place old before all (is_none rs at place old before all (subst (λ (cs : List Cause). (m : ℕ) → place < m → is_in m (at ∷ places_of cs) ≡ true → reason_at rs place m ≡ None) c.as_slice.ensures.value (λ m l among. c.needed_open.ensures.none c.in_default.is (subst (λ (cs : List Cause). OpensMembers rs at (places_of cs) c.loop-place.near) (sym c.as_slice.ensures.value) c.loop-place.invariant.are_open) m l among)));
      needed = c.loop-place.invariant.needed;
      are_open = c.loop-place.invariant.are_open;
    }

pub loop-place-init : goal.loop-place-init
loop-place-init c =
    let rs = c.args.records.now.items in
    let at = c.args.at in
    let none : c.new-found.result.items ≡ [] = c.new-found.ensures.items in
    record {
      before = omega arith;
      found = ap (λ (cs : List Cause). places_of cs ++ causes_below (map (λ (r : StepRecord). r.fact) rs) at at) none;
      needed = subst (λ (cs : List Cause). All (IsNeeded rs) cs) (sym none) (λ k d l. absurd (omega (arith, l)));
      are_open = same_opened rs (and_one at (λ m. false)) (λ m. is_in m (at ∷ places_of c.new-found.result.items)) c.open.new.self.execs c.open.new.self.keys
          (λ m h. first_member at m (subst (λ (cs : List Cause). is_in m (at ∷ places_of cs) ≡ true) none h)) (c.in_ok-open.ensures (λ m. false) c.in_ok-near.ensures);
    }

pub loop-place-preserved-in-Continue-branch-4 : goal.loop-place-preserved-in-Continue-branch-4
loop-place-preserved-in-Continue-branch-4 c =
    let rs = c.args.records.now.items in
    let at = c.args.at in
    let old = c.loop-place.found.items in
    let place = c.loop-place.place - 1 in
    let a = c.loop-place-test.true in
    let b = c.loop-place.invariant.before in
    let e : c.loop-place.place ≡ suc place = omega (arith, a) in
    let before : suc place ≤ at = omega (arith, a, b) in
    let all : places_of old ++ causes_below (map (λ (r : StepRecord). r.fact) rs) at (suc place) ≡ causes_of rs at = subst (λ k. places_of old ++ causes_below (map (λ (r : StepRecord). r.fact) rs) at k ≡ causes_of rs at) e c.loop-place.invariant.found in
    let h = is_cause rs at place old before all c.in-Some.cause c.in-Some.ensures.place c.in-Some.ensures.reason c.in-Some.ensures.after (subst (λ (cs : List Cause). is_in c.in-Some.cause.needed_for (at ∷ places_of cs) ≡ true) c.as_slice.ensures.value c.in-Some.ensures.among) in
    let grown : places_of c.push.new.self.items ≡ places_of old ++ place ∷ [] =
    ap places_of c.in_ok-push.ensures.items ∙ map-append (λ (x : Cause). x.place) old (c.in-Some.cause ∷ []) ∙ ap (λ (k : ℕ). places_of old ++ k ∷ []) c.in-Some.ensures.place in
    record {
      before = omega (arith, a, b);
      found = taken rs at place old before all c.in-Some.cause c.in-Some.ensures.place h c.push.new.self.items c.in_ok-push.ensures.items;
      are_open = same_opened rs (and_one place (λ k. is_in k (at ∷ places_of old))) (λ m. is_in m (at ∷ places_of c.push.new.self.items)) c.open-in-Some.new.self.execs c.open-in-Some.new.self.keys
          (λ m h. one_more_member at place (places_of old) m (subst (λ (ps : List ℕ). is_in m (at ∷ ps) ≡ true) grown h))
          (c.in_ok-open-2.ensures (λ k. is_in k (at ∷ places_of old)) c.loop-place.invariant.are_open);
      needed = subst (λ (cs : List Cause). All (IsNeeded rs) cs) (sym c.in_ok-push.ensures.items) (All-push (IsNeeded rs) old c.in-Some.cause c.loop-place.invariant.needed c.in-Some.ensures.reason);
    }
