-- A line for each of some steps.
use Rattle.std.proofs.Common.{◌≡◌, ◌+◌, ℕ, List, [], ◌∷◌, ◌++◌, Some, append_assoc, flat_map, map, take, ap, sym, ◌∙◌}
use Rattle.std.specs.Prelude.{slice_get}
use Rattle.std.proofs.lemmas.Grind.{flat_map-append}
use Rattle.std.proofs.lemmas.List.{append-nil, map-append, take_more}
use Rattle.std.proofs.lemmas.Option.{get_or_from_slice_get, slice_get_within}
use Rattle.book_log.specs.StepRecord.{StepRecord}
use Rattle.step_names.specs.Written.{step_text}
use Rattle.reply_lines.specs.Replies.{with_feed}

abbrev pub lines_of : List StepRecord → List ℕ
lines_of rs = flat_map with_feed (map (λ (r : StepRecord). step_text r.fact.name) rs)

taken : (rs : List StepRecord) (i : ℕ) (r : StepRecord) → slice_get rs i ≡ Some r → take (i + 1) rs ≡ take i rs ++ r ∷ []
taken rs i r h = take_more rs i r (slice_get_within rs i r h) ∙ ap (λ (x : StepRecord). take i rs ++ x ∷ []) (get_or_from_slice_get rs i r r h)

-- the lines so far and that of the record at a place are those up to behind it
pub one_line : (base old new : List ℕ) (rs : List StepRecord) (i : ℕ) (r : StepRecord) → slice_get rs i ≡ Some r → old ≡ base ++ lines_of (take i rs) → new ≡ old ++ with_feed (step_text r.fact.name) → new ≡ base ++ lines_of (take (i + 1) rs)
one_line base old new rs i r here before more =
    let lines : List StepRecord → List (List ℕ) = map (λ (r : StepRecord). step_text r.fact.name) in
    let own : List ℕ = with_feed (step_text r.fact.name) in
    let last : flat_map with_feed (step_text r.fact.name ∷ []) ≡ own = append-nil own in
    let all : lines_of (take (i + 1) rs) ≡ lines_of (take i rs) ++ own =
    ap lines_of (taken rs i r here) ∙ ap (flat_map with_feed) (map-append (λ (r : StepRecord). step_text r.fact.name) (take i rs) (r ∷ [])) ∙ flat_map-append with_feed (lines (take i rs)) (step_text r.fact.name ∷ [])
    ∙ ap (λ (l : List ℕ). lines_of (take i rs) ++ l) last in
    more ∙ ap (λ (l : List ℕ). l ++ own) before ∙ append_assoc base (lines_of (take i rs)) own ∙ sym (ap (λ (l : List ℕ). base ++ l) all)
