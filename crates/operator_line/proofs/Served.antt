-- Serving, one part after another.
use Rattle.std.proofs.Common.{rules, ◌≡◌, ℕ, ◌-◌, ◌≤◌, Bool, true, false, cond, List, [], ◌∷◌, ◌++◌, length, take, drop, Option, None, Some, inl, refl, sym, ap, subst, ◌∙◌, append_assoc, append-nil, arith, length-append}
use Rattle.std.specs.Prelude.{nat_le, ◌==◌, suc, Result, Ok, Err, IfSome, IfErr, OnOk}
use lib.Pointwise.{pointwise}
use lib.ListN.{length-take}
use Rattle.std.specs.Io.KnownBytes.{Appends, Keeps, Consumes}
use Rattle.std.proofs.KnownBytes.{Appends-nil, Appends-trans, Appends-kept}
use Rattle.book_log.specs.Log.{Log}
use Rattle.operator_line.specs.Lines.{grown, kept_front, within_limit, without_return, ended_line, last_line}
use Rattle.operator_line.specs.Texts.{lines_of, lines_after, has_no_feed}
use Rattle.operator_line.specs.Answers.{AnswersLine, AnswersLines}
use Rattle.reply_lines.specs.Replies.{memory_reply}
use Rattle.operator_line.specs.Serving.{AnswersUntil, AnswersBefore, AnswersPart, AnswersUpTo, AnswersFailed, AnswersRead, FailsLine, ends_session, serving_failed, WritesPart, WritesReply, ServesLine, ServesLast, ServesPiece, ServesRead, Serves}
use Rattle.operator_line.specs.declared.serving.ServeFault.{ServeFault}
use Rattle.operator_line.specs.declared.serving.ServeFault.TheVariants.{Read, Write, Journal, Memory}

-- ---- answers

AnswersLines-append : (xs ys : List (Option (List ℕ))) (a b c : Option Log) (o p : List ℕ) → AnswersLines a xs o b → AnswersLines b ys p c → AnswersLines a (xs ++ ys) (o ++ p) c
AnswersLines-append [] ys a b c o p h k =
    subst (λ (x : List ℕ). AnswersLines a ys (x ++ p) c) (sym h.0) (subst (λ (x : Option Log). AnswersLines x ys p c) h.1 k)
AnswersLines-append (x ∷ xs) ys a b c o p h k =
    (h.0, h.1, h.2 ++ p, h.3, AnswersLines-append xs ys h.1 b c h.2 p h.4 k, ap (λ l. l ++ p) h.5 ∙ append_assoc h.0 h.2 p)

pub until-none : (lines : List (Option (List ℕ))) (a : Option Log) (w : Option (List ℕ)) → AnswersUntil lines lines a a w w
until-none lines a w = record { front = []; output = []; parted = refl; answered = (refl, refl); appended = Appends-nil w }

pub until-then : (x y z : List (Option (List ℕ))) (a b c : Option Log) (o p n : Option (List ℕ)) → AnswersUntil x y a b o p → AnswersUntil y z b c p n → AnswersUntil x z a c o n
until-then x y z a b c o p n h k = record {
  front = h.front ++ k.front;
  output = h.output ++ k.output;
  parted = h.parted ∙ ap (λ l. h.front ++ l) k.parted ∙ sym (append_assoc h.front k.front z);
  answered = AnswersLines-append h.front k.front a b c h.output k.output h.answered k.answered;
  appended = Appends-trans o p n h.output k.output h.appended k.appended;
}

pub until-line : (line : Option (List ℕ)) (later : List (Option (List ℕ))) (reply : List ℕ) (a b : Option Log) (o n : Option (List ℕ)) → AnswersLine a line reply b → Appends o n reply → AnswersUntil (line ∷ later) later a b o n
until-line line later reply a b o n h k = record {
  front = line ∷ [];
  output = reply ++ [];
  parted = refl;
  answered = (reply, b, [], h, (refl, refl), refl);
  appended = subst (Appends o n) (sym (append-nil reply)) k;
}

pub until-before : (x y : List (Option (List ℕ))) (a b c : Option Log) (o p n : Option (List ℕ)) → AnswersUntil x y a b o p → AnswersBefore y b c p n → AnswersBefore x a c o n
until-before x y a b c o p n h k = record { later = k.later; until = until-then x y k.later a b c o p n h k.until }

pub until-up_to : (x y : List (Option (List ℕ))) (a b c : Option Log) (o p n : Option (List ℕ)) → AnswersUntil x y a b o p → AnswersUpTo y b c p n → AnswersUpTo x a c o n
until-up_to x y a b c o p n h k = record {
  line = k.line;
  later = k.later;
  between = k.between;
  contents = k.contents;
  until = until-then x y (k.line ∷ k.later) a b k.between o p k.contents h k.until;
  part = k.part;
}

pub until-failed : (x y : List (Option (List ℕ))) (a b c : Option Log) (o p n : Option (List ℕ)) → AnswersUntil x y a b o p → AnswersFailed y b c p n → AnswersFailed x a c o n
until-failed x y a b c o p n h k = record {
  line = k.line;
  later = k.later;
  between = k.between;
  contents = k.contents;
  until = until-then x y (k.line ∷ k.later) a b k.between o p k.contents h k.until;
  fails = k.fails;
}

-- a reply that is written in one go, or a part of it
reply_part : (result : Result Unit ServeFault) (reply : List ℕ) (o n : Option (List ℕ)) → WritesReply result reply o n → WritesPart reply o n
reply_part (Ok u) reply o n w = record { written = reply; unwritten = []; parted = sym (append-nil reply); appended = w }
reply_part (Err Write) reply o n w = record { written = w.0; unwritten = w.1; parted = w.2; appended = w.3 }
reply_part (Err Read) reply o n w = absurd w
reply_part (Err Journal) reply o n w = absurd w
reply_part (Err Memory) reply o n w = absurd w

pub part_kept : (result : Result Unit ServeFault) (reply : List ℕ) (o p n : Option (List ℕ)) → WritesReply result reply o p → Keeps p n → WritesPart reply o n
part_kept result reply o p n w keeps =
    let part = reply_part result reply o p w in
    record { written = part.written; unwritten = part.unwritten; parted = part.parted; appended = Appends-kept o p n part.written part.appended keeps }

-- a reply that is written whole is no less than a part of it
pub part-whole : (line : Option (List ℕ)) (reply : List ℕ) (a b : Option Log) (o n : Option (List ℕ)) → AnswersLine a line reply b → Appends o n reply → AnswersPart line a b o n
part-whole line reply a b o n h k = record {
  written = reply;
  unwritten = [];
  replied = subst (λ (r : List ℕ). AnswersLine a line r b) (sym (append-nil reply)) h;
  appended = k;
}

-- a line that may be told that memory was refused, and is
answers-memory : (line : Option (List ℕ)) (a b : Option Log) → (line ≡ Some [] → ⊥) → b ≡ a → AnswersLine a line memory_reply b
answers-memory None a b some same = inl (refl, same)
answers-memory (Some []) a b some same = absurd (some refl)
answers-memory (Some (x ∷ xs)) a b some same = inl (refl, same)

pub memory-told : (r : Result Unit ServeFault) (line : Option (List ℕ)) (a b : Option Log) (o n : Option (List ℕ)) → (line ≡ Some [] → ⊥) → b ≡ a → WritesReply r memory_reply o n → ServesLine r line a b o n
memory-told (Ok u) line a b o n some same w = (memory_reply, answers-memory line a b some same, w)
memory-told (Err Write) line a b o n some same w =
    record { written = w.0; unwritten = w.1; replied = subst (λ (reply : List ℕ). AnswersLine a line reply b) w.2 (answers-memory line a b some same); appended = w.3 }
memory-told (Err Read) line a b o n some same w = absurd w
memory-told (Err Journal) line a b o n some same w = absurd w
memory-told (Err Memory) line a b o n some same w = absurd w

-- ---- lines

kept-by : (front more : List ℕ) (fits : Bool) → nat_le (length front) 1048577 ≡ fits → grown more (cond fits (Some front) None) ≡ kept_front (front ++ more)
kept-by front more true e = search (rules, length-append front more)
kept-by front more false e = grind (rules, e, length-append front more)

-- what is kept grows with the line
pub kept-grown : (front more : List ℕ) → grown more (kept_front front) ≡ kept_front (front ++ more)
kept-grown front more = kept-by front more (nat_le (length front) 1048577) refl

without_return-length : (front : List ℕ) (ends : Bool) → length front ≤ suc (length (cond ends (take (length front - 1) front) front))
without_return-length front true = omega (arith, length-take (length front - 1) front)
without_return-length front false = omega arith

ended-by : (front : List ℕ) (fits : Bool) → nat_le (length front) 1048577 ≡ fits → ended_line (cond fits (Some front) None) ≡ within_limit (without_return front)
ended-by front true e = refl
ended-by front false e =
    let long : nat_le (length (without_return front)) 1048576 ≡ false = grind (rules, e, without_return-length front (pointwise ◌==◌ (drop (length front - 1) front) (13 ∷ []))) in
    ap (λ (b : Bool). cond b (Some (without_return front)) None) (sym long)

-- the line that is ended is the one that began so, within its limit
pub ended-kept : (front : List ℕ) → ended_line (kept_front front) ≡ within_limit (without_return front)
ended-kept front = ended-by front (nat_le (length front) 1048577) refl

lines-step : (c : ℕ) (bytes front rest : List ℕ) (feeds : Bool) → (c == 10) ≡ feeds → has_no_feed (c ∷ bytes) ≡ true
    → ((f : List ℕ) → has_no_feed bytes ≡ true → lines_after f (bytes ++ rest) ≡ lines_after (f ++ bytes) rest)
    → lines_after front (c ∷ (bytes ++ rest)) ≡ lines_after (front ++ c ∷ bytes) rest
lines-step c bytes front rest true e h go = let no : false ≡ true = rw e at h in cc
lines-step c bytes front rest false e h go =
    let more : has_no_feed bytes ≡ true = rw e at h in
    rw e (go (front ++ c ∷ []) more ∙ ap (λ (l : List ℕ). lines_after l rest) (append_assoc front (c ∷ []) bytes))

-- bytes without a line feed belong to the line at hand
pub lines-more : (bytes front rest : List ℕ) → has_no_feed bytes ≡ true → lines_after front (bytes ++ rest) ≡ lines_after (front ++ bytes) rest
lines-more [] front rest h = ap (λ (l : List ℕ). lines_after l rest) (sym (append-nil front))
lines-more (c ∷ bytes) front rest h = lines-step c bytes front rest (c == 10) refl h (λ f more. lines-more bytes f rest more)

-- and a line feed ends it
pub lines-feed : (bytes front rest : List ℕ) → has_no_feed bytes ≡ true → lines_after front (bytes ++ 10 ∷ rest) ≡ within_limit (without_return (front ++ bytes)) ∷ lines_after [] rest
lines-feed bytes front rest h = lines-more bytes front (10 ∷ rest) h

pub ended-is : (front bytes : List ℕ) → ended_line (grown bytes (kept_front front)) ≡ within_limit (without_return (front ++ bytes))
ended-is front bytes = ap ended_line (kept-grown front bytes) ∙ ended-kept (front ++ bytes)

-- ---- one line

pub none-before : (lines : List (Option (List ℕ))) (a b : Option Log) (o n : Option (List ℕ)) → b ≡ a → Keeps o n → AnswersBefore lines a b o n
none-before lines a b o n same keeps = record {
  later = lines;
  until = record { front = []; output = []; parted = refl; answered = (refl, same); appended = Appends-kept o o n [] (Appends-nil o) keeps };
}

module _ (front bytes rest : List ℕ) (h : has_no_feed bytes ≡ true) (a b : Option Log) (o n : Option (List ℕ)) where
  line_is : lines_after front (bytes ++ 10 ∷ rest) ≡ ended_line (grown bytes (kept_front front)) ∷ lines_after [] rest
  line_is = lines-feed bytes front rest h ∙ ap (λ (l : Option (List ℕ)). l ∷ lines_after [] rest) (sym (ended-is front bytes))

  pub line-served : (reply : List ℕ) → AnswersLine a (ended_line (grown bytes (kept_front front))) reply b → Appends o n reply → AnswersUntil (lines_after front (bytes ++ 10 ∷ rest)) (lines_after [] rest) a b o n
  line-served reply w k = subst (λ (l : List (Option (List ℕ))). AnswersUntil l (lines_after [] rest) a b o n) (sym line_is) (until-line (ended_line (grown bytes (kept_front front))) (lines_after [] rest) reply a b o n w k)

  pub line-part : AnswersPart (ended_line (grown bytes (kept_front front))) a b o n → AnswersUpTo (lines_after front (bytes ++ 10 ∷ rest)) a b o n
  line-part part = record {
    line = ended_line (grown bytes (kept_front front));
    later = lines_after [] rest;
    between = a;
    contents = o;
    until = subst (λ (l : List (Option (List ℕ))). AnswersUntil l (ended_line (grown bytes (kept_front front)) ∷ lines_after [] rest) a a o o) (sym line_is) (until-none (ended_line (grown bytes (kept_front front)) ∷ lines_after [] rest) a o);
    part = part;
  }

  pub line-lost : FailsLine (ended_line (grown bytes (kept_front front))) a b o n → AnswersFailed (lines_after front (bytes ++ 10 ∷ rest)) a b o n
  line-lost ends_session = record {
    line = ended_line (grown bytes (kept_front front));
    later = lines_after [] rest;
    between = a;
    contents = o;
    until = subst (λ (l : List (Option (List ℕ))). AnswersUntil l (ended_line (grown bytes (kept_front front)) ∷ lines_after [] rest) a a o o) (sym line_is) (until-none (ended_line (grown bytes (kept_front front)) ∷ lines_after [] rest) a o);
    fails = ends_session;
  }

pub up_to-kept : (lines : List (Option (List ℕ))) (a b : Option Log) (o p n : Option (List ℕ)) → AnswersUpTo lines a b o p → Keeps p n → AnswersUpTo lines a b o n
up_to-kept lines a b o p n h keeps = record {
  line = h.line;
  later = h.later;
  between = h.between;
  contents = h.contents;
  until = h.until;
  part = record { written = h.part.written; unwritten = h.part.unwritten; replied = h.part.replied; appended = Appends-kept h.contents p n h.part.written h.part.appended keeps };
}

pub until-kept : (lines later : List (Option (List ℕ))) (a b : Option Log) (o p n : Option (List ℕ)) → AnswersUntil lines later a b o p → Keeps p n → AnswersUntil lines later a b o n
until-kept lines later a b o p n h keeps = record {
  front = h.front;
  output = h.output;
  parted = h.parted;
  answered = h.answered;
  appended = Appends-kept o p n h.output h.appended keeps;
}

-- a reply that is written whole, and then flushed
pub line-flushed : (result : Result Unit ServeFault) (line : Option (List ℕ)) (reply : List ℕ) (a b : Option Log) (o p n : Option (List ℕ)) → IfErr result (λ e. e ≡ Write)
    → AnswersLine a line reply b → Appends o p reply → Keeps p n → ServesLine result line a b o n
line-flushed (Ok u) line reply a b o p n is w k keeps = (reply, w, Appends-kept o p n reply k keeps)
line-flushed (Err e) line reply a b o p n is w k keeps =
    subst (λ (x : ServeFault). ServesLine (Err x) line a b o n) (sym is) (part-whole line reply a b o n w (Appends-kept o p n reply k keeps))

-- ---- a piece

-- a line of a piece that is not answered whole
pub line-failed : (e : ServeFault) (front piece tail bytes after : List ℕ) (line : Option (List ℕ)) (s t u : Option Log) (o p n : Option (List ℕ)) → has_no_feed bytes ≡ true
    → ((more : List ℕ) → AnswersUntil (lines_after front (piece ++ more)) (lines_after tail ((bytes ++ 10 ∷ after) ++ more)) s t o p)
    → ServesLine (Err e) (ended_line (grown bytes (kept_front tail))) t u p n → ServesPiece (Err e) front piece line s u o n
line-failed Write front piece tail bytes after line s t u o p n h until w = λ more.
    until-up_to (lines_after front (piece ++ more)) (lines_after tail (bytes ++ 10 ∷ (after ++ more))) s t u o p n
    (subst (λ (l : List ℕ). AnswersUntil (lines_after front (piece ++ more)) (lines_after tail l) s t o p) (append_assoc bytes (10 ∷ after) more) (until more))
    (line-part tail bytes (after ++ more) h t u p n w)
line-failed Read front piece tail bytes after line s t u o p n h until w = absurd w
line-failed Journal front piece tail bytes after line s t u o p n h until w = λ more.
    until-failed (lines_after front (piece ++ more)) (lines_after tail (bytes ++ 10 ∷ (after ++ more))) s t u o p n
    (subst (λ (l : List ℕ). AnswersUntil (lines_after front (piece ++ more)) (lines_after tail l) s t o p) (append_assoc bytes (10 ∷ after) more) (until more))
    (line-lost tail bytes (after ++ more) h t u p n w)
line-failed Memory front piece tail bytes after line s t u o p n h until w = λ more.
    until-before (lines_after front (piece ++ more)) (lines_after tail ((bytes ++ 10 ∷ after) ++ more)) s t u o p n (until more) (none-before _ t u p n w.0 w.1)

-- a line of a piece that is
pub line-goes_on : (front piece tail bytes after reply : List ℕ) (s t u : Option Log) (o p n : Option (List ℕ)) → has_no_feed bytes ≡ true
    → ((more : List ℕ) → AnswersUntil (lines_after front (piece ++ more)) (lines_after tail ((bytes ++ 10 ∷ after) ++ more)) s t o p)
    → AnswersLine t (ended_line (grown bytes (kept_front tail))) reply u → Appends p n reply
    → (more : List ℕ) → AnswersUntil (lines_after front (piece ++ more)) (lines_after [] (after ++ more)) s u o n × AnswersUpTo (lines_after front (piece ++ more)) s u o n
line-goes_on front piece tail bytes after reply s t u o p n h until w k more =
    let here : AnswersUntil (lines_after front (piece ++ more)) (lines_after tail (bytes ++ 10 ∷ (after ++ more))) s t o p =
    subst (λ (l : List ℕ). AnswersUntil (lines_after front (piece ++ more)) (lines_after tail l) s t o p) (append_assoc bytes (10 ∷ after) more) (until more) in (
      until-then (lines_after front (piece ++ more)) (lines_after tail (bytes ++ 10 ∷ (after ++ more))) (lines_after [] (after ++ more)) s t u o p n here (line-served tail bytes (after ++ more) h t u p n reply w k),
      until-up_to (lines_after front (piece ++ more)) (lines_after tail (bytes ++ 10 ∷ (after ++ more))) s t u o p n here (line-part tail bytes (after ++ more) h t u p n (part-whole (ended_line (grown bytes (kept_front tail))) reply t u p n w k)),
    )

-- what is left of a piece belongs to the line at hand
pub rest-kept : (front piece tail rest : List ℕ) (s t : Option Log) (o n : Option (List ℕ)) → has_no_feed rest ≡ true
    → ((more : List ℕ) → AnswersUntil (lines_after front (piece ++ more)) (lines_after tail (rest ++ more)) s t o n)
    → (more : List ℕ) → AnswersUntil (lines_after front (piece ++ more)) (lines_after (tail ++ rest) more) s t o n
rest-kept front piece tail rest s t o n h until more =
    subst (λ (l : List (Option (List ℕ))). AnswersUntil (lines_after front (piece ++ more)) l s t o n) (lines-more rest tail more h) (until more)

-- ---- the last line

pub last-by : (b : ℕ) (bytes : List ℕ) (fits : Bool) → nat_le (length (b ∷ bytes)) 1048577 ≡ fits → last_line (cond fits (Some (b ∷ bytes)) None) ≡ Some (within_limit (b ∷ bytes))
last-by b bytes true e = refl
last-by b bytes false e =
    let long : nat_le (length (b ∷ bytes)) 1048576 ≡ false = grind (rules, e) in
    ap (λ (fits : Bool). Some (cond fits (Some (b ∷ bytes)) None)) (sym long)

last-failed : (e : ServeFault) (line : Option (List ℕ)) (input : List ℕ) (a t b : Option Log) (o p n : Option (List ℕ)) → AnswersUntil (lines_of input) (line ∷ []) a t o p → ServesLine (Err e) line t b p n → Serves (Err e) input a b o n
last-failed Write line input a t b o p n until w =
    until-up_to (lines_of input) (line ∷ []) a t b o p n until (record { line = line; later = []; between = t; contents = p; until = until-none (line ∷ []) t p; part = w })
last-failed Read line input a t b o p n until w = absurd w
last-failed Journal line input a t b o p n until w =
    until-failed (lines_of input) (line ∷ []) a t b o p n until (record { line = line; later = []; between = t; contents = p; until = until-none (line ∷ []) t p; fails = w })
last-failed Memory line input a t b o p n until w = until-before (lines_of input) (line ∷ []) a t b o p n until (none-before (line ∷ []) t b p n w.0 w.1)

last-line : (result : Result Unit ServeFault) (line : Option (List ℕ)) (input : List ℕ) (a t b : Option Log) (o p n : Option (List ℕ)) → AnswersUntil (lines_of input) (line ∷ []) a t o p → ServesLine result line t b p n → Serves result input a b o n
last-line (Ok u) line input a t b o p n until w = until-then (lines_of input) (line ∷ []) [] a t b o p n until (until-line line [] w.0 t b p n w.1 w.2)
last-line (Err e) line input a t b o p n until w = last-failed e line input a t b o p n until w

last-none : (result : Result Unit ServeFault) (input : List ℕ) (a t b : Option Log) (o p n : Option (List ℕ)) → AnswersUntil (lines_of input) [] a t o p → ServesLast result None t b p n → Serves result input a b o n
last-none (Ok u) input a t b o p n until w = until-kept (lines_of input) [] a b o p n (subst (λ (x : Option Log). AnswersUntil (lines_of input) [] a x o p) (sym w.0) until) w.1
last-none (Err e) input a t b o p n until w = absurd w

-- what stands after the last line feed
pub last-served : (result : Result Unit ServeFault) (tail input : List ℕ) (a t b : Option Log) (o p n : Option (List ℕ)) → AnswersUntil (lines_of input) (lines_after tail []) a t o p → ServesLast result (last_line (kept_front tail)) t b p n → Serves result input a b o n
last-served result [] input a t b o p n until w = last-none result input a t b o p n until w
last-served result (c ∷ tail) input a t b o p n until w =
    last-line result (within_limit (c ∷ tail)) input a t b o p n until
    (subst (λ (l : Option (Option (List ℕ))). ServesLast result l t b p n) (last-by c tail (nat_le (length (c ∷ tail)) 1048577) refl) w)

-- ---- what the reader gave

pub consumed : (text : List ℕ) (new : Option (List ℕ)) (bytes : List ℕ) → Consumes (Some text) new bytes → (rest : List ℕ) × (new ≡ Some rest) × (text ≡ bytes ++ rest)
consumed text None bytes h = absurd h
consumed text (Some rest) bytes h = (rest, refl, h)

pub still : (text : List ℕ) (new : Option (List ℕ)) → Keeps (Some text) new → new ≡ Some text
still text None h = absurd h
still text (Some rest) h = ap (λ l. Some l) h

pub read-failed : (e : ServeFault) (front text input : List ℕ) (left line : Option (List ℕ)) (a t b : Option Log) (o p n : Option (List ℕ)) → AnswersUntil (lines_of input) (lines_after front text) a t o p
    → ServesRead (Err e) front text left line t b p n → Serves (Err e) input a b o n
read-failed Write front text input left line a t b o p n until w = until-up_to (lines_of input) (lines_after front text) a t b o p n until w
read-failed Read front text input left line a t b o p n until w = until-before (lines_of input) (lines_after front text) a t b o p n until (none-before (lines_after front text) t b p n w.1 w.2)
read-failed Journal front text input left line a t b o p n until w = until-failed (lines_of input) (lines_after front text) a t b o p n until w
read-failed Memory front text input left line a t b o p n until w = until-before (lines_of input) (lines_after front text) a t b o p n until w

pub if_some : {P : List ℕ → Type 0} → (o : Option (List ℕ)) → ((x : List ℕ) → o ≡ Some x → P x) → IfSome o P
if_some None h = tt
if_some (Some x) h = h x refl

-- ---- a piece, so far

-- of the piece this rest is left; a line ended before it, if has_line says so
pub record IsSoFar (front : List ℕ) (piece : List ℕ) (rest : List ℕ) (has_line : Bool) (line : Option (List ℕ)) (s : Option Log) (t : Option Log) (o : Option (List ℕ)) (n : Option (List ℕ)) : Type 0 where
  pub tail : List ℕ
  pub line_is : line ≡ kept_front tail
  pub until : (more : List ℕ) → AnswersUntil (lines_after front (piece ++ more)) (lines_after tail (rest ++ more)) s t o n
  pub up_to : has_line ≡ true → (more : List ℕ) → AnswersUpTo (lines_after front (piece ++ more)) s t o n

module _ (front piece rest bytes after : List ℕ) (has_line : Bool) (line : Option (List ℕ)) (s t u : Option Log) (o p n : Option (List ℕ)) (h : has_no_feed bytes ≡ true) (parted : rest ≡ bytes ++ 10 ∷ after)
    (soon : IsSoFar front piece rest has_line line s t o p) where
  here : (more : List ℕ) → AnswersUntil (lines_after front (piece ++ more)) (lines_after soon.tail ((bytes ++ 10 ∷ after) ++ more)) s t o p
  here more = subst (λ (l : List ℕ). AnswersUntil (lines_after front (piece ++ more)) (lines_after soon.tail (l ++ more)) s t o p) parted (soon.until more)

  pub so_far-goes_on : (reply : List ℕ) → AnswersLine t (ended_line (grown bytes line)) reply u → Appends p n reply → IsSoFar front piece after true (Some []) s u o n
  so_far-goes_on reply w k =
      let w' : AnswersLine t (ended_line (grown bytes (kept_front soon.tail))) reply u = subst (λ (l : Option (List ℕ)). AnswersLine t (ended_line (grown bytes l)) reply u) soon.line_is w in
      record {
        tail = [];
        line_is = refl;
        until = λ more. (line-goes_on front piece soon.tail bytes after reply s t u o p n h here w' k more).0;
        up_to = λ _ more. (line-goes_on front piece soon.tail bytes after reply s t u o p n h here w' k more).1;
      }

  pub so_far-fails : (e : ServeFault) (line' : Option (List ℕ)) → ServesLine (Err e) (ended_line (grown bytes line)) t u p n → ServesPiece (Err e) front piece line' s u o n
  so_far-fails e line' w =
      line-failed e front piece soon.tail bytes after line' s t u o p n h here (subst (λ (l : Option (List ℕ)). ServesLine (Err e) (ended_line (grown bytes l)) t u p n) soon.line_is w)

module _ (front piece rest : List ℕ) (has_line : Bool) (line line' : Option (List ℕ)) (s t : Option Log) (o p n : Option (List ℕ)) (soon : IsSoFar front piece rest has_line line s t o p) where
  pub so_far-ends : has_no_feed rest ≡ true → line' ≡ grown rest line → Keeps p n → ServesPiece (Ok tt) front piece line' s t o n
  so_far-ends h e keeps = (
    soon.tail ++ rest,
    e ∙ ap (grown rest) soon.line_is ∙ kept-grown soon.tail rest,
    λ more. until-kept (lines_after front (piece ++ more)) (lines_after (soon.tail ++ rest) more) s t o p n (rest-kept front piece soon.tail rest s t o p h soon.until more) keeps,
  )

  pub so_far-unflushed : has_line ≡ true → Keeps p n → ServesPiece (Err Write) front piece line' s t o n
  so_far-unflushed h keeps = λ more. up_to-kept (lines_after front (piece ++ more)) s t o p n (soon.up_to h more) keeps

  pub so_far-flushes : (result : Result Unit ServeFault) → IfErr result (λ e. e ≡ Write) → has_no_feed rest ≡ true → line' ≡ grown rest line → has_line ≡ true → Keeps p n → ServesPiece result front piece line' s t o n
  so_far-flushes (Ok u) is h e has keeps = so_far-ends h e keeps
  so_far-flushes (Err f) is h e has keeps = subst (λ (x : ServeFault). ServesPiece (Err x) front piece line' s t o n) (sym is) (so_far-unflushed has keeps)

-- ---- the whole input, so far

-- of the input this is left to read, and the line at hand has begun; all before it is answered
pub record IsReading (input : List ℕ) (left : Option (List ℕ)) (line : Option (List ℕ)) (s : Option Log) (t : Option Log) (o : Option (List ℕ)) (n : Option (List ℕ)) : Type 0 where
  pub tail : List ℕ
  pub rest : List ℕ
  pub left_is : left ≡ Some rest
  pub line_is : line ≡ kept_front tail
  pub until : AnswersUntil (lines_of input) (lines_after tail rest) s t o n

pub reading-begins : (input : List ℕ) (left line : Option (List ℕ)) (s : Option Log) (o : Option (List ℕ)) → left ≡ Some input → line ≡ Some [] → IsReading input left line s s o o
reading-begins input left line s o e f = record { tail = []; rest = input; left_is = e; line_is = f; until = until-none (lines_of input) s o }

-- what asking the reader once does
abbrev pub Asks : Result Bool ServeFault → Option (List ℕ) → Option (List ℕ) → Option (List ℕ) → Option (List ℕ) → Option Log → Option Log → Option (List ℕ) → Option (List ℕ) → Type 0
Asks result left left' line line' t u p n = (front : List ℕ) (text : List ℕ) → line ≡ kept_front front → left ≡ Some text → ServesRead result front text left' line' t u p n

module _ (input : List ℕ) (left left' line line' : Option (List ℕ)) (s t u : Option Log) (o p n : Option (List ℕ)) (soon : IsReading input left line s t o p) where
  pub reading-goes_on : Asks (Ok true) left left' line line' t u p n → IsReading input left' line' s u o n
  reading-goes_on asks =
      let (tail, rest, left_is, line_is, until) = asks soon.tail soon.rest soon.line_is soon.left_is in
      record {
        tail = tail;
        rest = rest;
        left_is = left_is;
        line_is = line_is;
        until = until-then (lines_of input) (lines_after soon.tail soon.rest) (lines_after tail rest) s t u o p n soon.until until;
      }

  pub reading-fails : (e : ServeFault) → Asks (Err e) left left' line line' t u p n → Serves (Err e) input s u o n
  reading-fails e asks = read-failed e soon.tail soon.rest input left' line' s t u o p n soon.until (asks soon.tail soon.rest soon.line_is soon.left_is)

  pub reading-failed : Asks (Err Read) left left' line line' t u p n → AnswersRead input left' s u o n
  reading-failed asks =
      let (left_is, same, keeps) = asks soon.tail soon.rest soon.line_is soon.left_is in
      record {
        begun = soon.tail;
        rest = soon.rest;
        left_is = left_is;
        until = until-kept (lines_of input) (lines_after soon.tail soon.rest) s u o p n
            (subst (λ (x : Option Log). AnswersUntil (lines_of input) (lines_after soon.tail soon.rest) s x o p) (sym same) soon.until) keeps;
      }

  pub reading-ends : (v : Option Log) (m : Option (List ℕ)) (result : Result Unit ServeFault) → Asks (Ok false) left left' line line' t u p n → ServesLast result (last_line line') u v n m
      → Serves result input s v o m × (left' ≡ Some [])
  reading-ends v m result asks last =
      let (over, gone, line_is, same, keeps) = asks soon.tail soon.rest soon.line_is soon.left_is in
      let until : AnswersUntil (lines_of input) (lines_after soon.tail []) s u o n =
      until-kept (lines_of input) (lines_after soon.tail []) s u o p n
      (subst (λ (x : Option Log). AnswersUntil (lines_of input) (lines_after soon.tail []) s x o p) (sym same)
      (subst (λ (x : List ℕ). AnswersUntil (lines_of input) (lines_after soon.tail x) s t o p) over soon.until)) keeps in (
        last-served result soon.tail input s u v o n m until (subst (λ (l : Option (List ℕ)). ServesLast result (last_line l) u v n m) line_is last),
        gone,
      )

pub reading-stops : (input : List ℕ) (left line : Option (List ℕ)) (s t : Option Log) (o n : Option (List ℕ)) → IsReading input left line s t o n → Serves (Err Read) input s t o n
reading-stops input left line s t o n soon = record { later = lines_after soon.tail soon.rest; until = soon.until }

-- ---- small words

pub on_ok-from : {T E : Type 0} → (r : Result T E) (P : Type 0) → P → OnOk r P
on_ok-from (Ok x) P p = p
on_ok-from (Err e) P p = tt

-- serving that ended by a fault
pub failed-answers : (r : Result Unit ServeFault) (e : ServeFault) → r ≡ Err e → (o : Option (List ℕ)) (s u : Option Log) (w n : Option (List ℕ))
    → ((input : List ℕ) → o ≡ Some input → Serves (Err e) input s u w n) → IfSome o (λ input. Serves r input s u w n)
failed-answers r e is o s u w n h = if_some o (λ input f. subst (λ (x : Result Unit ServeFault). Serves x input s u w n) (sym is) (h input f))

pub failed-whole : (r : Result Unit ServeFault) (e : ServeFault) → r ≡ Err e → (o : Option (List ℕ)) (P : Type 0) → IfSome o (λ _. OnOk r P)
failed-whole r e is o P = if_some o (λ _ _. subst (λ (x : Result Unit ServeFault). OnOk x P) (sym is) tt)

-- ---- ends by which a session doesn't fail

pub flush_keeps : (r : Result Unit ServeFault) → IfErr r (λ e. e ≡ Write) → serving_failed r ≡ false
flush_keeps (Ok u) is = refl
flush_keeps (Err e) is = ap ends_session is

pub add_keeps : (r : Result Unit ServeFault) → IfErr r (λ e. e ≡ Memory) → serving_failed r ≡ false
add_keeps (Ok u) is = refl
add_keeps (Err e) is = ap ends_session is

pub write_keeps : (r : Result Unit ServeFault) (reply : List ℕ) (o n : Option (List ℕ)) → WritesReply r reply o n → serving_failed r ≡ false
write_keeps (Ok u) reply o n w = refl
write_keeps (Err Write) reply o n w = refl
write_keeps (Err Read) reply o n w = absurd w
write_keeps (Err Journal) reply o n w = absurd w
write_keeps (Err Memory) reply o n w = absurd w

-- ---- a reader that failed

pub reading-read : (input : List ℕ) (left line : Option (List ℕ)) (s t : Option Log) (o n : Option (List ℕ)) → IsReading input left line s t o n → AnswersRead input left s t o n
reading-read input left line s t o n soon = record { begun = soon.tail; rest = soon.rest; left_is = soon.left_is; until = soon.until }

pub failed-read : {P : List ℕ → Type 0} → (r : Result Unit ServeFault) (e : ServeFault) → r ≡ Err e → (o : Option (List ℕ)) → ((input : List ℕ) → o ≡ Some input → e ≡ Read → P input) → r ≡ Err Read → IfSome o P
failed-read r e is o h read = let same : e ≡ Read = cc in if_some o (λ input f. h input f same)

by-line : (l : Option (Option (List ℕ))) (a b : Option Log) (o n : Option (List ℕ)) → ServesLast (Err Read) l a b o n → ⊥
by-line None a b o n w = w
by-line (Some line) a b o n w = w

pub last-reads_not : (r : Result Unit ServeFault) (l : Option (Option (List ℕ))) (a b : Option Log) (o n : Option (List ℕ)) → ServesLast r l a b o n → r ≡ Err Read → ⊥
last-reads_not r l a b o n w e = by-line l a b o n (subst (λ (x : Result Unit ServeFault). ServesLast x l a b o n) e w)
