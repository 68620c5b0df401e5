-- Texts that are written one after another.
use Rattle.std.proofs.Common.{◌≡◌, ◌∙◌, ap, sym, subst, ℕ, List, [], ◌++◌, append_assoc, append-nil, codes, decimal, IfErr, Option, Result, Ok, Err}
use Rattle.std.specs.Io.KnownBytes.{Appends, Keeps}
use Rattle.std.proofs.KnownBytes.{Appends-trans, Appends-kept}
use Rattle.operator_line.specs.declared.serving.ServeFault.{ServeFault}
use Rattle.operator_line.specs.declared.serving.ServeFault.TheVariants.{Read, Write, Journal, Memory}
use Rattle.operator_line.specs.Serving.{WritesReply}
use Rattle.rollback_run.specs.Faults.{IsBegun}
use Rattle.rollback_run.specs.Status.{sizes_text}

-- what failed within the first text is a beginning of both
pub stopped : (text more : List ℕ) (fault : ServeFault) (old new : Option (List ℕ)) → WritesReply (Err fault) text old new → WritesReply (Err fault) (text ++ more) old new
stopped text more Write old new (written, unwritten, parted, appended) =
    (written, unwritten ++ more, ap (λ (t : List ℕ). t ++ more) parted ∙ append_assoc written unwritten more, appended)
stopped text more Read old new h = absurd h
stopped text more Journal old new h = absurd h
stopped text more Memory old new h = absurd h

-- the first text is written, and the second as this says
pub written_on : (text more : List ℕ) (result : Result Unit ServeFault) (old between new : Option (List ℕ)) → Appends old between text → WritesReply result more between new
    → WritesReply result (text ++ more) old new
written_on text more (Ok done) old between new first second = Appends-trans _ _ _ _ _ first second
written_on text more (Err Write) old between new first (written, unwritten, parted, appended) =
    (text ++ written, unwritten, ap (λ (t : List ℕ). text ++ t) parted ∙ sym (append_assoc text written unwritten), Appends-trans _ _ _ _ _ first appended)
written_on text more (Err Read) old between new first h = absurd h
written_on text more (Err Journal) old between new first h = absurd h
written_on text more (Err Memory) old between new first h = absurd h

pub begun : (text : List ℕ) (result : Result Unit ServeFault) (old new : Option (List ℕ)) → WritesReply result text old new → IsBegun text old new
begun text (Ok done) old new h = record { written = text; unwritten = []; parted = sym (append-nil text); appended = h }
begun text (Err Write) old new (written, unwritten, parted, appended) = record { written = written; unwritten = unwritten; parted = parted; appended = appended }
begun text (Err Read) old new h = absurd h
begun text (Err Journal) old new h = absurd h
begun text (Err Memory) old new h = absurd h

-- a text that was written is flushed, or the flush is refused
pub flushed : (text : List ℕ) (result : Result Unit ServeFault) (old between new : Option (List ℕ)) → Appends old between text → Keeps between new → IfErr result (λ e. e ≡ Write)
    → WritesReply result text old new
flushed text (Ok done) old between new wrote kept err = Appends-kept _ _ _ _ wrote kept
flushed text (Err fault) old between new wrote kept err =
    subst (λ (e : ServeFault). WritesReply (Err e) text old new) (sym err) (text, [], sym (append-nil text), Appends-kept _ _ _ _ wrote kept)

-- the two parts of a check's answer
pub sizes_parts : (lines steps : ℕ) → (codes "ok " ++ (decimal lines ++ codes " ")) ++ (decimal steps ++ codes "\n") ≡ sizes_text (lines, steps)
sizes_parts lines steps =
    append_assoc (codes "ok ") (decimal lines ++ codes " ") (decimal steps ++ codes "\n")
    ∙ ap (λ (t : List ℕ). codes "ok " ++ t) (append_assoc (decimal lines) (codes " ") (decimal steps ++ codes "\n"))
