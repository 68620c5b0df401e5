-- Where a Choice state goes (Amazon States Language, "Choice State"): to the state of its first rule whose test holds.
use Rattle.std.specs.Prelude.{ℕ, List, Option, Some, None, Result, Ok, Err, codes}
use Rattle.json_tree.specs.Data.{Data}
use Rattle.asl_states.specs.Holding.{first_rule}
use Rattle.asl_states.specs.declared.choice.Rule.{Rule}

abbrev pub or_default : Option (List ℕ) → Option (List ℕ) → Result (List ℕ) (List ℕ)
or_default (Some name) default = Ok name
or_default None (Some name) = Ok name
or_default None None = Err (codes "States.NoChoiceMatched")

abbrev pub chosen_state : Option (Option (List ℕ)) → Option (List ℕ) → Result (List ℕ) (List ℕ)
chosen_state None default = Err (codes "States.Runtime")
chosen_state (Some rule) default = or_default rule default

-- where a Choice state with these rules and this default goes
abbrev pub chosen : List Rule → Option (List ℕ) → Data → Result (List ℕ) (List ℕ)
chosen rules default d = chosen_state (first_rule rules d) default
