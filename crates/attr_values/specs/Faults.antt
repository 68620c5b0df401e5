-- Results that may be a fault.
use Rattle.std.specs.Prelude.{◌≡◌, ◌⊎◌, Result, Ok, Err, MatchResult}
use Rattle.attr_values.specs.declared.fault.ItemFault.{ItemFault}
use Rattle.attr_values.specs.declared.fault.ItemFault.TheVariants.{Memory}

abbrev pub result_map : {A B : Type 0} → (A → B) → Result A ItemFault → Result B ItemFault
result_map f (Ok x) = Ok (f x)
result_map f (Err e) = Err e

abbrev pub result_and_then : {A B : Type 0} → (A → Result B ItemFault) → Result A ItemFault → Result B ItemFault
result_and_then f (Ok x) = f x
result_and_then f (Err e) = Err e

-- the call's answer is the wanted one, as `view` sees it, or want of memory
abbrev pub AnswersAs : {A B : Type 0} → (A → B) → Result B ItemFault → Result A ItemFault → Type 0
AnswersAs view want r = MatchResult r (λ x. want ≡ Ok (view x)) (λ e. (e ≡ Memory) ⊎ (want ≡ Err e))
