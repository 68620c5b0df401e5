-- One step more leaves its marks.
use Rattle.std.proofs.Common.{◌≡◌, Bool, true, cond, List, [], ◌∷◌, ◌++◌, is_eq, ap, sym, ◌∙◌}
use Rattle.std.specs.List.{list_any}
use Rattle.std.specs.declared.cmp.Ordering.{Ordering}
use Rattle.saved_steps.specs.declared.fact.Fact.{Fact}
use Rattle.depends.proofs.Anyone.{put_more}

-- n is told of a key after another was put to those of which b is told
pub put_named : {K : Type 0} (cmp : K → K → Ordering) (told : K → Fact → Bool) (facts : List Fact) (f : Fact) (key k q : K) (b n : Bool)
    → n ≡ cond (is_eq (cmp key q)) true b → key ≡ k → told q f ≡ is_eq (cmp k q) → b ≡ list_any (told q) facts → n ≡ list_any (told q) (facts ++ f ∷ [])
put_named cmp told facts f key k q b n e same is old = e ∙ ap (λ x. cond (is_eq (cmp x q)) true b) same ∙ ap (λ x. cond x true b) (sym is) ∙ put_more (told q) facts f b old
