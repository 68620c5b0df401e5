use Rattle.std.proofs.Common.{◌++◌, Option, Some, None, ap, ◌∙◌}
use Rattle.std.proofs.lemmas.Bool.Decides.{Decides-eqb}
use Rattle.std.proofs.lemmas.Slice.Eq.{strip_prefix_is}
use Rattle.std.specs.Option.{IfSome, MatchOption}
use Rattle.attr_values.proofs.number.after_whole.Goals as goal

if_some : {T : Type 0} (o : Option T) (N : Type 0) (P Q : T → Type 0) → ((x : T) → P x → Q x) → MatchOption o N P → IfSome o Q
if_some None N P Q f h = tt
if_some (Some x) N P Q f h = f x h

pub returns : goal.returns
returns c =
    let digits = c.as_bytes.result.now in
    let is = strip_prefix_is Decides-eqb c.args.text.now digits c.strip_prefix.result c.strip_prefix.ensures.cases in
    if_some c.strip_prefix.result _ _ _ (λ rest e. e ∙ ap (λ ds. ds ++ rest.now) (c.as_bytes.ensures.value ∙ c.format.ensures.text)) is
