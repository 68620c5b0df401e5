-- The outline of a log, with one more entry.
use Rattle.std.proofs.Common.{◌≡◌, Bool, false, true, List, [], ◌∷◌, ◌++◌, refl, ap, ◌∙◌, inr}
use Rattle.std.specs.List.{list_any}
use Rattle.std.proofs.lemmas.List.{append-nil}
use Rattle.trace_theory.proofs.Lists.{by_bool, any_one, here}
use Rattle.book_log.specs.Answers.{defines, is_settlement, outline}
use Rattle.book_log.specs.declared.entry.Entry.{Entry}
use Rattle.book_log.specs.declared.entry.Entry.TheVariants.{Define, Start, Step as Stepped, Undo, Rollback, Settle, Hold}

pub defines-append : (xs ys : List Entry) → defines (xs ++ ys) ≡ defines xs ++ defines ys
defines-append [] ys = refl
defines-append (Define name machine ∷ xs) ys = ap (λ (l : List Entry). Define name machine ∷ l) (defines-append xs ys)
defines-append (Start exec machine input ∷ xs) ys = defines-append xs ys
defines-append (Stepped name kind ∷ xs) ys = defines-append xs ys
defines-append (Undo name ∷ xs) ys = defines-append xs ys
defines-append (Rollback name undone ∷ xs) ys = defines-append xs ys
defines-append (Settle ∷ xs) ys = defines-append xs ys
defines-append (Hold name count ∷ xs) ys = defines-append xs ys

-- an entry that passes no test changes nothing of whether some entry does
any_more : (p : Entry → Bool) (entries : List Entry) (e : Entry) → p e ≡ false → list_any p (entries ++ e ∷ []) ≡ list_any p entries
any_more p [] e h = rw h refl
any_more p (x ∷ entries) e h = by_bool (p x) _ (λ k. rw k refl) (λ k. rw k (any_more p entries e h))

-- up to a settlement everything stands
pub outline_settled : (entries : List Entry) → outline (entries ++ Settle ∷ []) ≡ entries ++ Settle ∷ []
outline_settled [] = refl
outline_settled (e ∷ entries) =
    let k : list_any is_settlement (e ∷ (entries ++ Settle ∷ [])) ≡ true = any_one is_settlement (e ∷ (entries ++ Settle ∷ [])) Settle (inr (here Settle entries [])) refl in
    rw k (ap (λ (l : List Entry). e ∷ l) (outline_settled entries))

-- of any other entry it has the definition, if it is one
pub outline_more : (entries : List Entry) (e : Entry) → is_settlement e ≡ false → outline (entries ++ e ∷ []) ≡ outline entries ++ defines (e ∷ [])
outline_more [] e h = rw h refl
outline_more (x ∷ entries) e h =
    let same = any_more is_settlement (x ∷ entries) e h in
    by_bool (list_any is_settlement (x ∷ entries)) _
    (λ k. let all = same ∙ k in rw (k, all) (ap (λ (l : List Entry). x ∷ l) (outline_more entries e h)))
    (λ k. let all = same ∙ k in rw (k, all) (defines-append (x ∷ entries) (e ∷ [])))

-- an entry that adds nothing
pub outline_same : (entries : List Entry) (e : Entry) → is_settlement e ≡ false → defines (e ∷ []) ≡ [] → outline (entries ++ e ∷ []) ≡ outline entries
outline_same entries e h none = outline_more entries e h ∙ ap (λ (l : List Entry). outline entries ++ l) none ∙ append-nil (outline entries)
