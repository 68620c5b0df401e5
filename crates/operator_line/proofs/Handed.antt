-- The lines that are handed on, one part after another.
use Rattle.std.proofs.Common.{◌≡◌, ◌⊎◌, inl, inr, ℕ, Bool, true, false, List, [], ◌∷◌, ◌++◌, length, Option, Some, refl, sym, ap, subst, ◌∙◌, append_assoc, append-nil}
use Rattle.std.specs.Prelude.{nat_le, Result, Ok, Err}
use Rattle.operator_line.specs.Lines.{grown, kept_front, within_limit, ended_line, last_line}
use Rattle.operator_line.specs.Texts.{lines_of, lines_after, has_no_feed}
use Rattle.operator_line.specs.Handing.{Hands, Runs, RunsUntil, RunsSome, HandsLast, HandsPiece, HandsRead}
use Rattle.operator_line.specs.declared.serving.ServeFault.{ServeFault}
use Rattle.operator_line.proofs.Served.{ended-is, kept-grown, last-by, lines-feed, lines-more}

module _ {X : Type 0} (R : Option (List ℕ) → X → X → Type 0) where
  Runs-append : (xs ys : List (Option (List ℕ))) (a b c : X) → Runs R xs a b → Runs R ys b c → Runs R (xs ++ ys) a c
  Runs-append [] ys a b c h k = subst (λ (x : X). Runs R ys x c) h k
  Runs-append (x ∷ xs) ys a b c h k = (h.0, h.1, Runs-append xs ys h.0 b c h.2 k)

  pub until-none : (lines : List (Option (List ℕ))) (a b : X) → b ≡ a → RunsUntil R lines lines a b
  until-none lines a b same = record { front = []; parted = refl; runs = same }

  pub until-then : (x y z : List (Option (List ℕ))) (a b c : X) → RunsUntil R x y a b → RunsUntil R y z b c → RunsUntil R x z a c
  until-then x y z a b c h k = record {
    front = h.front ++ k.front;
    parted = h.parted ∙ ap (λ l. h.front ++ l) k.parted ∙ sym (append_assoc h.front k.front z);
    runs = Runs-append h.front k.front a b c h.runs k.runs;
  }

  pub until-line : (line : Option (List ℕ)) (later : List (Option (List ℕ))) (a b : X) → R line a b → RunsUntil R (line ∷ later) later a b
  until-line line later a b h = record { front = line ∷ []; parted = refl; runs = (b, h, refl) }

  pub some-none : (lines : List (Option (List ℕ))) (a b : X) → b ≡ a → RunsSome R lines a b
  some-none lines a b same = record { later = lines; until = until-none lines a b same }

  pub until-some : (x y : List (Option (List ℕ))) (a b c : X) → RunsUntil R x y a b → RunsSome R y b c → RunsSome R x a c
  until-some x y a b c h k = record { later = k.later; until = until-then x y k.later a b c h k.until }

  pub some-until : (x y : List (Option (List ℕ))) (a b : X) → RunsUntil R x y a b → RunsSome R x a b
  some-until x y a b h = record { later = y; until = h }

  -- ---- one line

  line-handed : (front bytes rest : List ℕ) (a b : X) → has_no_feed bytes ≡ true → R (ended_line (grown bytes (kept_front front))) a b
      → RunsUntil R (lines_after front (bytes ++ 10 ∷ rest)) (lines_after [] rest) a b
  line-handed front bytes rest a b h w =
      let line_is = lines-feed bytes front rest h ∙ ap (λ (l : Option (List ℕ)). l ∷ lines_after [] rest) (sym (ended-is front bytes)) in
      subst (λ (l : List (Option (List ℕ))). RunsUntil R l (lines_after [] rest) a b) (sym line_is) (until-line (ended_line (grown bytes (kept_front front))) (lines_after [] rest) a b w)

  line-perhaps : (front bytes rest : List ℕ) (a b : X) → has_no_feed bytes ≡ true → (b ≡ a) ⊎ R (ended_line (grown bytes (kept_front front))) a b → RunsSome R (lines_after front (bytes ++ 10 ∷ rest)) a b
  line-perhaps front bytes rest a b h (inl same) = some-none _ a b same
  line-perhaps front bytes rest a b h (inr w) = some-until _ _ a b (line-handed front bytes rest a b h w)

  -- ---- a piece, so far

  -- of the piece this rest is left
  pub record HandsSoFar (front : List ℕ) (piece : List ℕ) (rest : List ℕ) (line : Option (List ℕ)) (s : X) (t : X) : Type 0 where
    pub tail : List ℕ
    pub line_is : line ≡ kept_front tail
    pub until : (more : List ℕ) → RunsUntil R (lines_after front (piece ++ more)) (lines_after tail (rest ++ more)) s t

  module _ (front piece rest bytes after : List ℕ) (line : Option (List ℕ)) (s t u : X) (h : has_no_feed bytes ≡ true) (parted : rest ≡ bytes ++ 10 ∷ after) (soon : HandsSoFar front piece rest line s t) where
    here : (more : List ℕ) → RunsUntil R (lines_after front (piece ++ more)) (lines_after soon.tail (bytes ++ 10 ∷ (after ++ more))) s t
    here more =
        subst (λ (l : List ℕ). RunsUntil R (lines_after front (piece ++ more)) (lines_after soon.tail l) s t) (ap (λ (l : List ℕ). l ++ more) parted ∙ append_assoc bytes (10 ∷ after) more) (soon.until more)

    pub hands-goes_on : R (ended_line (grown bytes line)) t u → HandsSoFar front piece after (Some []) s u
    hands-goes_on w =
        let w' : R (ended_line (grown bytes (kept_front soon.tail))) t u = subst (λ (l : Option (List ℕ)). R (ended_line (grown bytes l)) t u) soon.line_is w in
        record {
          tail = [];
          line_is = refl;
          until = λ more. until-then _ _ _ s t u (here more) (line-handed soon.tail bytes (after ++ more) t u h w');
        }

    pub hands-fails : (e : ServeFault) (line' : Option (List ℕ)) → (u ≡ t) ⊎ R (ended_line (grown bytes line)) t u → HandsPiece R (Err e) front piece line' s u
    hands-fails e line' w =
        let w' : (u ≡ t) ⊎ R (ended_line (grown bytes (kept_front soon.tail))) t u = subst (λ (l : Option (List ℕ)). (u ≡ t) ⊎ R (ended_line (grown bytes l)) t u) soon.line_is w in
        λ more. until-some _ _ s t u (here more) (line-perhaps soon.tail bytes (after ++ more) t u h w')

  module _ (front piece rest : List ℕ) (line line' : Option (List ℕ)) (s t : X) (soon : HandsSoFar front piece rest line s t) where
    pub hands-ends : has_no_feed rest ≡ true → line' ≡ grown rest line → HandsPiece R (Ok tt) front piece line' s t
    hands-ends h e = (
      soon.tail ++ rest,
      e ∙ ap (grown rest) soon.line_is ∙ kept-grown soon.tail rest,
      λ more. subst (λ (l : List (Option (List ℕ))). RunsUntil R (lines_after front (piece ++ more)) l s t) (lines-more rest soon.tail more h) (soon.until more),
    )

    pub hands-unread : (e : ServeFault) → HandsPiece R (Err e) front piece line' s t
    hands-unread e = λ more. some-until _ _ s t (soon.until more)

    pub hands-flushes : (result : Result Unit ServeFault) → has_no_feed rest ≡ true → line' ≡ grown rest line → HandsPiece R result front piece line' s t
    hands-flushes (Ok u) h e = hands-ends h e
    hands-flushes (Err f) h e = hands-unread f

  -- ---- the whole input, so far

  -- of the input this is left to read, and the line at hand has begun
  pub record HandsReading (input : List ℕ) (left : Option (List ℕ)) (line : Option (List ℕ)) (s : X) (t : X) : Type 0 where
    pub tail : List ℕ
    pub rest : List ℕ
    pub left_is : left ≡ Some rest
    pub line_is : line ≡ kept_front tail
    pub until : RunsUntil R (lines_of input) (lines_after tail rest) s t

  pub handing-begins : (input : List ℕ) (left line : Option (List ℕ)) (s : X) → left ≡ Some input → line ≡ Some [] → HandsReading input left line s s
  handing-begins input left line s e f = record { tail = []; rest = input; left_is = e; line_is = f; until = until-none (lines_of input) s s refl }

  -- what asking the reader once does
  abbrev pub HandsAsked : Result Bool ServeFault → Option (List ℕ) → Option (List ℕ) → Option (List ℕ) → Option (List ℕ) → X → X → Type 0
  HandsAsked result left left' line line' t u = (front : List ℕ) (text : List ℕ) → line ≡ kept_front front → left ≡ Some text → HandsRead R result front text left' line' t u

  last-handed : (tail : List ℕ) (t u : X) → HandsLast R (last_line (kept_front tail)) t u → RunsUntil R (lines_after tail []) [] t u
  last-handed [] t u w = until-none [] t u w
  last-handed (c ∷ tail) t u w =
      (until-line (within_limit (c ∷ tail)) [] t u (subst (λ (l : Option (Option (List ℕ))). HandsLast R l t u) (last-by c tail (nat_le (length (c ∷ tail)) 1048577) refl) w))

  ended : (result : Result Unit ServeFault) (lines : List (Option (List ℕ))) (s v : X) → RunsUntil R lines [] s v → Hands R result lines s v
  ended (Ok u) lines s v until = subst (λ (ls : List (Option (List ℕ))). Runs R ls s v) (sym (until.parted ∙ append-nil until.front)) until.runs
  ended (Err e) lines s v until = some-until lines [] s v until

  module _ (input : List ℕ) (left left' line line' : Option (List ℕ)) (s t u : X) (soon : HandsReading input left line s t) where
    pub handing-goes_on : HandsAsked (Ok true) left left' line line' t u → HandsReading input left' line' s u
    handing-goes_on asks =
        let (tail, rest, left_is, line_is, until) = asks soon.tail soon.rest soon.line_is soon.left_is in
        record { tail = tail; rest = rest; left_is = left_is; line_is = line_is; until = until-then _ _ _ s t u soon.until until }

    pub handing-fails : (e : ServeFault) → HandsAsked (Err e) left left' line line' t u → RunsSome R (lines_of input) s u
    handing-fails e asks = until-some _ _ s t u soon.until (asks soon.tail soon.rest soon.line_is soon.left_is)

    pub handing-ends : (v : X) (result : Result Unit ServeFault) → HandsAsked (Ok false) left left' line line' t u → HandsLast R (last_line line') u v → Hands R result (lines_of input) s v
    handing-ends v result asks last =
        let (over, gone, line_is, same) = asks soon.tail soon.rest soon.line_is soon.left_is in
        let until : RunsUntil R (lines_of input) (lines_after soon.tail []) s t = subst (λ (x : List ℕ). RunsUntil R (lines_of input) (lines_after soon.tail x) s t) over soon.until in
        let w : HandsLast R (last_line (kept_front soon.tail)) t v =
        subst (λ (x : X). HandsLast R (last_line (kept_front soon.tail)) x v) same (subst (λ (l : Option (List ℕ)). HandsLast R (last_line l) u v) line_is last) in
        ended result (lines_of input) s v (until-then _ _ _ s t v until (last-handed soon.tail t v w))

  pub handing-stops : (input : List ℕ) (left line : Option (List ℕ)) (s t : X) → HandsReading input left line s t → RunsSome R (lines_of input) s t
  handing-stops input left line s t soon = some-until _ _ s t soon.until
