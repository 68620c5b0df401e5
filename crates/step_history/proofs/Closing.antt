-- The branches of a fork, one after another.
use Rattle.std.proofs.Common.{◌≡◌, ◌<◌, ◌≤◌, arith, ℕ, ◌+◌, ◌-◌, suc, List, [], ◌∷◌, ◌++◌, append_assoc, refl, ap, sym, ◌∙◌, Option, None, Some}
use Rattle.std.specs.Prelude.{option_map, option_and_then}
use Rattle.std.proofs.lemmas.List.{append-nil, map-append}
use Rattle.json_tree.specs.Data.{Data}
use Rattle.json_tree.specs.View.{data_of, list_of}
use Rattle.json_tree.specs.declared.tree.Json.{Json}
use Rattle.asl_frames.specs.declared.frame.Fault.{Fault}
use Rattle.asl_frames.specs.declared.frame.Frame.{Frame}
use Rattle.step_names.specs.Thread.{Thread, child_of}
use Rattle.saved_steps.specs.Effects.{first_fault, outputs, or_else}
use Rattle.saved_steps.specs.Held.{frames_of}
use Rattle.saved_steps.specs.declared.world.World.{World}
use Rattle.step_history.specs.Moves.{branches_of, fault_in, output_in}

module _ (w : World) (t : Thread) (fork n : ℕ) where
  -- the branches from one of this number on
  abbrev pub from : ℕ → List (Option Frame)
  from i = branches_of w t fork i (n - i)

  pub from_start : from 0 ≡ branches_of w t fork 0 n
  from_start = let e : n - 0 ≡ n = omega arith in ap (branches_of w t fork 0) e

  pub from_next : (i : ℕ) → i < n → from i ≡ frames_of w (child_of t fork i) ∷ from (i + 1)
  from_next i h = let e : n - i ≡ suc (n - (i + 1)) = omega (arith, h) in ap (branches_of w t fork i) e

  pub from_end : (i : ℕ) → n ≤ i → from i ≡ []
  from_end i h = let e : n - i ≡ 0 = omega (arith, h) in ap (branches_of w t fork i) e

  -- ---- the first fault

  pub no_fault : (i : ℕ) → i < n → fault_in (frames_of w (child_of t fork i)) ≡ None → first_fault (from i) ≡ first_fault (from (i + 1))
  no_fault i h k = ap first_fault (from_next i h) ∙ ap (λ (o : Option Fault). or_else o (first_fault (from (i + 1)))) k

  pub a_fault : (i : ℕ) (fault : Fault) → i < n → fault_in (frames_of w (child_of t fork i)) ≡ Some fault → first_fault (from i) ≡ Some fault
  a_fault i fault h k = ap first_fault (from_next i h) ∙ ap (λ (o : Option Fault). or_else o (first_fault (from (i + 1)))) k

  -- ---- the outputs

  -- these outputs, and then those of the branches from here on
  abbrev pub with_rest : List Json → ℕ → Option (List Data)
  with_rest done i = option_map (λ ds. list_of done ++ ds) (outputs (from i))

  nothing_before : (o : Option (List Data)) → option_map {U = List Data} (λ ds. [] ++ ds) o ≡ o
  nothing_before None = refl
  nothing_before (Some ds) = refl

  pub outputs_start : with_rest [] 0 ≡ outputs (branches_of w t fork 0 n)
  outputs_start = nothing_before (outputs (from 0)) ∙ ap outputs from_start

  one_more : (xs : List Data) (d : Data) (o : Option (List Data)) → option_map {U = List Data} (λ ds. xs ++ ds) (option_map {U = List Data} (λ ds. d ∷ ds) o) ≡ option_map {U = List Data} (λ ds. (xs ++ d ∷ []) ++ ds) o
  one_more xs d None = refl
  one_more xs d (Some ds) = ap Some (sym (append_assoc xs (d ∷ []) ds))

  outputs_next : (i : ℕ) (o : Option Data) → i < n → output_in (frames_of w (child_of t fork i)) ≡ o → outputs (from i) ≡ option_and_then (λ d. option_map (λ ds. d ∷ ds) (outputs (from (i + 1)))) o
  outputs_next i o h k = ap outputs (from_next i h) ∙ ap (option_and_then (λ d. option_map (λ ds. d ∷ ds) (outputs (from (i + 1))))) k

  pub an_output : (done more : List Json) (j : Json) (i : ℕ) → i < n → output_in (frames_of w (child_of t fork i)) ≡ Some (data_of j) → more ≡ done ++ j ∷ [] → with_rest done i ≡ with_rest more (i + 1)
  an_output done more j i h k e =
      ap (option_map (λ ds. list_of done ++ ds)) (outputs_next i (Some (data_of j)) h k)
      ∙ one_more (list_of done) (data_of j) (outputs (from (i + 1)))
      ∙ ap (λ (xs : List Data). option_map {U = List Data} (λ ds. xs ++ ds) (outputs (from (i + 1)))) (sym (map-append data_of done (j ∷ [])) ∙ ap list_of (sym e))

  pub no_output : (done : List Json) (i : ℕ) → i < n → output_in (frames_of w (child_of t fork i)) ≡ None → with_rest done i ≡ None
  no_output done i h k = ap (option_map (λ ds. list_of done ++ ds)) (outputs_next i None h k)

  pub all_outputs : (done : List Json) (i : ℕ) → n ≤ i → with_rest done i ≡ Some (list_of done)
  all_outputs done i h = ap (λ (fs : List (Option Frame)). option_map {U = List Data} (λ ds. list_of done ++ ds) (outputs fs)) (from_end i h) ∙ ap Some (append-nil (list_of done))
