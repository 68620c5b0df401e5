-- Dependences that are told one after another.
use Rattle.std.proofs.Common.{◌≡◌, List, [], ◌∷◌, ◌++◌, All, sym, subst}
use Rattle.std.proofs.lemmas.List.Elements.{All-push}
use Rattle.saved_steps.specs.declared.record.StepRecord.{StepRecord}
use Rattle.step_graph.specs.Edges.{IsEdge}
use Rattle.step_graph.specs.declared.linking.Edge.{Edge}

pub one_more : (rs : List StepRecord) (old new : List Edge) (e : Edge) → IsEdge rs e → new ≡ old ++ e ∷ [] → All (IsEdge rs) old → All (IsEdge rs) new
one_more rs old new e h is before = subst (λ (es : List Edge). All (IsEdge rs) es) (sym is) (All-push (IsEdge rs) old e before h)
