use Rattle.std.proofs.Common.{◌≡◌, ◌<◌, ℕ, List, [], ◌∷◌, length, Some, None, Bool, true, false, cond, is_some, refl, sym, ap, ◌∙◌, arith, true≢false}
use Rattle.std.proofs.lemmas.Result.{IfOk-weaker}
use Rattle.std.proofs.lemmas.Str.{IsUtf8-from_is_utf8, is_utf8-from_IsUtf8}
use Rattle.std.specs.Str.{IsUtf8, is_utf8}
use Rattle.std.specs.Prelude.{option_and_then}
use Rattle.serde_json.proofs.OnLiterals.{serde_json_on_literals}
use Rattle.serde_json.specs.Data as source
use Rattle.serde_json.specs.Read as source_text
use Rattle.serde_json.specs.View.{view}
use Rattle.json_tree.proofs.Readings.{depth-whole_of}
use Rattle.json_tree.specs.Reading.{source_of, whole_of}
use Rattle.json_tree.specs.View.{data_of}
use Rattle.json_tree.proofs.reading.read_any.Goals as goal

source_is : (bytes : List ℕ) (d : source.Data) → IsUtf8 bytes × (source_text.read bytes ≡ Some d) → source_of bytes ≡ Some d
source_is bytes d h = let utf8 : is_utf8 bytes ≡ true = is_utf8-from_IsUtf8 bytes h.0 in rw utf8 h.1

nothing_at : (bytes : List ℕ) (b : Bool) → is_utf8 bytes ≡ b → (IsUtf8 bytes → source_text.read bytes ≡ None) → cond b (source_text.read bytes) None ≡ None
nothing_at bytes true is h = h (IsUtf8-from_is_utf8 bytes is)
nothing_at bytes false is h = refl

-- an empty text is no value
empty : (bytes : List ℕ) (d : source.Data) → source_text.read bytes ≡ Some d → 0 < length bytes
unfolding serde_json_on_literals
empty [] d is = let none : source_text.read [] ≡ None = refl in let no : None ≡ Some d = sym none ∙ is in cc no
empty (x ∷ xs) d is = omega arith

pub returns-in-Ok-clause-ok : goal.returns-in-Ok-clause-ok
returns-in-Ok-clause-ok c =
    let source = source_is c.args.bytes.now (view c.in-Ok.value) c.in-Ok.ensures.ok in
    IfOk-weaker c.copy_value.result _ _ (λ j h. ap (option_and_then whole_of) source ∙ h) c.copy_value.ensures.ok

pub returns-in-Ok-clause-nests : goal.returns-in-Ok-clause-nests
returns-in-Ok-clause-nests c = IfOk-weaker c.copy_value.result _ _ (λ j h. omega (arith, depth-whole_of (view c.in-Ok.value) (data_of j) h, c.in-Ok.ensures.nests)) c.copy_value.ensures.ok

pub returns-in-Ok-clause-not_whole : goal.returns-in-Ok-clause-not_whole
returns-in-Ok-clause-not_whole c =
    let source = source_is c.args.bytes.now (view c.in-Ok.value) c.in-Ok.ensures.ok in
    λ e. (ap is_some source, ap (option_and_then whole_of) source ∙ c.copy_value.ensures.not_whole e)

pub returns-in-Ok-clause-memory : goal.returns-in-Ok-clause-memory
returns-in-Ok-clause-memory c = λ e. empty c.args.bytes.now (view c.in-Ok.value) c.in-Ok.ensures.ok.1

pub returns-else-is_memory-clause-not_json : goal.returns-else-is_memory-clause-not_json
returns-else-is_memory-clause-not_json c =
    λ e. nothing_at c.args.bytes.now (is_utf8 c.args.bytes.now) refl (c.in-Err.ensures.err (λ m. true≢false (sym (c.is_memory.ensures.1 m) ∙ c.if-is_memory.false)))
