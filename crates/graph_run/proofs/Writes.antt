-- A text that is written and flushed.
use Rattle.std.proofs.Common.{◌≡◌, sym, subst, ℕ, List, [], append-nil, IfErr, Option, Result, Ok, Err}
use Rattle.std.specs.Io.KnownBytes.{Appends, Keeps}
use Rattle.std.proofs.KnownBytes.{Appends-kept}
use Rattle.rollback_run.specs.ServeFault.{ServeFault}
use Rattle.rollback_run.specs.ServeFault.TheVariants.{Write}
use Rattle.rollback_run.specs.Serving.{WritesReply}

-- a text that was written is flushed, or the flush is refused
pub flushed : (text : List ℕ) (result : Result Unit ServeFault) (old between new : Option (List ℕ)) → Appends old between text → Keeps between new → IfErr result (λ e. e ≡ Write)
    → WritesReply result text old new
flushed text (Ok done) old between new wrote kept err = Appends-kept _ _ _ _ wrote kept
flushed text (Err fault) old between new wrote kept err =
    subst (λ (e : ServeFault). WritesReply (Err e) text old new) (sym err) (text, [], sym (append-nil text), Appends-kept _ _ _ _ wrote kept)
