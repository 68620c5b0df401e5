-- A line by its words.
use Rattle.std.proofs.Common.{◌≡◌, ℕ, Bool, true, false, List, Some, None, codes, refl}
use Rattle.std.specs.Cmp.Lexicographic.{bytes_decides}
use Rattle.asl_fields.specs.Fields.{is_text}
use Rattle.command_lines.specs.Grammar.{cut_at, words_command, command_by}

pub other_text : (a b : List ℕ) → (a ≡ b → ⊥) → is_text a b ≡ false
other_text a b apart = by_test (is_text a b) refl
  where
    by_test : (test : Bool) → is_text a b ≡ test → test ≡ false
    by_test true e = absurd (apart ((bytes_decides a b).0 e))
    by_test false e = refl

pub by_keyword : (text keyword rest : List ℕ) → (text ≡ codes "items" → ⊥) → (text ≡ codes "history" → ⊥) → (text ≡ codes "settle" → ⊥) → (text ≡ codes "held" → ⊥) → cut_at 32 text ≡ Some (keyword, rest)
    → words_command text ≡ command_by keyword rest
by_keyword text keyword rest not_items not_history not_settle not_held cut =
    rw (other_text text (codes "items") not_items, other_text text (codes "history") not_history, other_text text (codes "settle") not_settle, other_text text (codes "held") not_held, cut)

pub no_keyword : (keyword rest : List ℕ) → (keyword ≡ codes "table" → ⊥) → (keyword ≡ codes "define" → ⊥) → (keyword ≡ codes "start" → ⊥)
    → (keyword ≡ codes "step" → ⊥) → (keyword ≡ codes "undo" → ⊥) → (keyword ≡ codes "plan" → ⊥) → (keyword ≡ codes "rollback" → ⊥) → (keyword ≡ codes "hold" → ⊥) → (keyword ≡ codes "drive" → ⊥) → (keyword ≡ codes "work" → ⊥) → (keyword ≡ codes "show" → ⊥) → command_by keyword rest ≡ None
no_keyword keyword rest table define start step undo plan rollback hold drive work show = rw (
  other_text keyword (codes "table") table,
  other_text keyword (codes "define") define,
  other_text keyword (codes "start") start,
  other_text keyword (codes "step") step,
  other_text keyword (codes "undo") undo,
  other_text keyword (codes "plan") plan,
  other_text keyword (codes "rollback") rollback,
  other_text keyword (codes "hold") hold,
  other_text keyword (codes "drive") drive,
  other_text keyword (codes "work") work,
  other_text keyword (codes "show") show,
)
