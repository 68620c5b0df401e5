-- The test of UTF-8.
use Rattle.std.proofs.Common.{◌≡◌, ℕ, Bool, true, false, List, refl}
use Rattle.std.specs.Str.{IsUtf8, is_utf8}
use Rattle.std.proofs.lemmas.Str.{IsUtf8-from_is_utf8, is_utf8-from_IsUtf8}
use Rattle.command_lines.specs.Grammar.{command_of, text_command}

pub not_utf8 : (bytes : List ℕ) → (IsUtf8 bytes → ⊥) → is_utf8 bytes ≡ false
not_utf8 bytes apart = by_test (is_utf8 bytes) refl
  where
    by_test : (test : Bool) → is_utf8 bytes ≡ test → test ≡ false
    by_test true e = absurd (apart (IsUtf8-from_is_utf8 bytes e))
    by_test false e = refl

-- a line that is UTF-8 is the command of its text
pub is_its_text : (bytes : List ℕ) → IsUtf8 bytes → command_of bytes ≡ text_command bytes
is_its_text bytes utf8 = let test : is_utf8 bytes ≡ true = is_utf8-from_IsUtf8 bytes utf8 in rw test refl
