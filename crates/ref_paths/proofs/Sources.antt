-- The texts and the names of marked fields.
use Rattle.std.proofs.Common.{◌≡◌, ℕ, ◌-◌, Bool, true, false, List, [], ◌∷◌, ◌++◌, length, get_or, take, Option, Some, None, option_map, Bor, codes, cond, eqb, ⊎_elim, refl, sym, ap, ◌∙◌, arith}
use Rattle.std.proofs.lemmas.List.{append_cancel_left}
use Rattle.std.proofs.lemmas.Bool.{cases_Bool}
use Rattle.std.proofs.lemmas.Bool.Decides.{Decides-eqb}
use Rattle.std.proofs.lemmas.Slice.Eq.{ends_is}
use Rattle.std.specs.List.{ends_with}
use Rattle.std.specs.Option.{MatchOption}
use Rattle.std.specs.Str.Pattern.{FindsTextSuffix, StripsSuffix}
use Rattle.ref_paths.specs.Grammar.{SpellsPath}
use Rattle.ref_paths.specs.Scanner.{between, scan, is_end}
use Rattle.ref_paths.specs.TemplateFaults.{SpellsNoSource, SpellsNoItemSource}
use Rattle.ref_paths.specs.Templates.{constant, from_input, item_index, from_item, list, fields, unmarked}
use Rattle.ref_paths.specs.declared.path.PathStep.{PathStep}
use Rattle.ref_paths.proofs.Scans.{steps_end}

unmarked_at : (s : List ℕ) (b : Bool) → ends_with eqb s (codes ".$") ≡ b → unmarked s ≡ cond b (Some (take (length s - 2) s)) None
unmarked_at s b is = rw is

pub cut_mark_is : (s : List ℕ) (r : Option (Bor (List ℕ))) → MatchOption r (FindsTextSuffix (codes ".$") s None) (λ x. StripsSuffix (FindsTextSuffix (codes ".$")) s x.now) → option_map (λ t. t.now) r ≡ unmarked s
cut_mark_is s None h = ⊎_elim (λ e. absurd (h _ ((ends_is Decides-eqb s (codes ".$") _ refl).0 e))) (λ e. sym (unmarked_at s false e)) (cases_Bool (ends_with eqb s (codes ".$")))
cut_mark_is s (Some x) h =
    let yes : ends_with eqb s (codes ".$") ≡ true = (ends_is Decides-eqb s (codes ".$") _ refl).1 _ h.1.1 in
    ap Some (h.2 ∙ ap (λ n. take (length s - n) s) h.1.0) ∙ sym (unmarked_at s true yes)

scan_none : (s : List ℕ) → scan s None ≡ None
scan_none [] = refl
scan_none (c ∷ cs) = scan_none cs

-- no path begins with two dollar signs
pub no_path_so : (path : List PathStep) (s rest : List ℕ) → s ≡ 36 ∷ 36 ∷ rest → SpellsPath path s → ⊥
no_path_so path s rest is h =
    let steps : h.0 ≡ 36 ∷ rest = cc (h.2, is) in
    let end : true ≡ false = sym (steps_end path h.0 between refl h.1) ∙ ap (λ x. is_end (scan x (Some between))) steps ∙ ap is_end (scan_none rest) in
    cc end

pub no_source : (item_paths : Bool) (s : List ℕ) → SpellsNoItemSource item_paths s → ((path : List PathStep) → SpellsPath path s → ⊥) → SpellsNoSource item_paths s
no_source item_paths s no_item no_path (constant d) h = h
no_source item_paths s no_item no_path (from_input path) h = no_path path h
no_source item_paths s no_item no_path item_index h = (no_item h.0).0 h.1
no_source item_paths s no_item no_path (from_item path) h = (no_item h.0).1 h.1 h.3
no_source item_paths s no_item no_path (list ps) h = h
no_source item_paths s no_item no_path (fields fs) h = h

pub index_is_no_value : (steps : List ℕ) → codes "$$.Map.Item.Value" ++ steps ≡ codes "$$.Map.Item.Index" → ⊥
index_is_no_value steps e = absurd (omega (arith, ap (λ x. get_or x 12 0) e))

pub no_item_source : (item_paths : Bool) (steps : List ℕ) → ((path : List PathStep) → SpellsPath path (36 ∷ steps) → ⊥) → SpellsNoSource item_paths (codes "$$.Map.Item.Value" ++ steps)
no_item_source item_paths steps no_path (constant d) h = h
no_item_source item_paths steps no_path (from_input path) h = no_path_so path _ _ refl h
no_item_source item_paths steps no_path item_index h = index_is_no_value steps h.1
no_item_source item_paths steps no_path (from_item path) h = no_path path (h.1, h.2, ap (λ x. 36 ∷ x) (append_cancel_left (codes "$$.Map.Item.Value") steps h.1 h.3))
no_item_source item_paths steps no_path (list ps) h = h
no_item_source item_paths steps no_path (fields fs) h = h
