-- A path's text, byte by byte.
use Rattle.std.proofs.Common.{◌≡◌, ◌≢◌, ◌⊎◌, ℕ, zero, suc, ◌+◌, ◌-◌, ◌*◌, ◌/◌, ◌%◌, ◌^◌, ◌<◌, ◌≤◌, Bool, true, false, if◌then◌else◌, ◌==◌, List, [], ◌∷◌, ◌++◌, length, take, drop, get_or, Option, Some, None, is_some, nat_lt, nat_le, lit<, MatchOption, Bor, append_assoc, length-append, arith, subst, refl, sym, ap, ◌∙◌, inl, inr}
use Rattle.std.proofs.lemmas.Bool.{and_parts, not-true, ne_eqb, lt-ltb, ltb-true, leb-true, cases_lt}
use Rattle.std.proofs.lemmas.Bool.Decides.{nat_tests}
use Rattle.std.proofs.lemmas.Fmt.{decimal_digit, decimal_step}
use Rattle.std.proofs.Math.Seq.{take-length}
use Rattle.std.proofs.lemmas.List.{take-append-drop, length-drop, length-take, get_or-drop, drop_more}
use Rattle.std.proofs.lemmas.Str.{IsCharBoundary-after_ascii}
use Rattle.std.proofs.lemmas.Str.Pattern.{IsSplitOnceResult, split_parts}
use Rattle.std.specs.Char.{is_ascii_digit}
use Rattle.std.specs.Fmt.{decimal}
use Rattle.std.specs.List.{list_all}
use Rattle.std.specs.Option.{option_and_then}
use Rattle.std.specs.Str.{IsCharBoundary, IsUtf8}
use Rattle.ref_paths.specs.Grammar.{is_path_name_byte, is_quotable, SpellsStep, SpellsSteps, SpellsPath, BeginsPath, FailsAt}
use Rattle.ref_paths.specs.Scanner.{ScanPlace, between, dotted, in_name, bracketed, quoted, closing, indexed, with_digit, extended, place_begun_by, after, scan, is_end, ScanGoesOn, ReadsStep, StopsAt, IsIndexSoFar}
use Rattle.ref_paths.specs.declared.path.PathStep.{PathStep}
use Rattle.ref_paths.specs.declared.path.PathStep.TheVariants.{Name, Index}

pub scan-append : (a b : List ℕ) (p : Option ScanPlace) → scan (a ++ b) p ≡ scan b (scan a p)
scan-append [] b p = refl
scan-append (c ∷ a) b p = scan-append a b (option_and_then (after c) p)

pub scan-none : (a : List ℕ) → scan a None ≡ None
scan-none [] = refl
scan-none (c ∷ a) = scan-none a

-- what no path begins with, none begins with more of
pub dead_after : (text : List ℕ) (j k : ℕ) (p : Option ScanPlace) → j ≤ k → scan (take j text) p ≡ None → scan (take k text) p ≡ None
dead_after text zero k p le h = rw h (scan-none (take k text))
dead_after [] (suc j) zero p le h = h
dead_after [] (suc j) (suc k) p le h = h
dead_after (c ∷ cs) (suc j) zero p le h = absurd (omega arith)
dead_after (c ∷ cs) (suc j) (suc k) p le h = dead_after cs j k (option_and_then (after c) p) (omega arith) h

-- bytes of a name
pub names_scan : (name : List ℕ) → list_all is_path_name_byte name ≡ true → scan name (Some in_name) ≡ Some in_name
names_scan [] h = refl
names_scan (c ∷ cs) h =
    let s = and_parts (is_path_name_byte c) (list_all is_path_name_byte cs) h in
    rw s.0 (names_scan cs s.1)

pub dotted_scan : (name : List ℕ) → name ≢ [] → list_all is_path_name_byte name ≡ true → scan name (Some dotted) ≡ Some in_name
dotted_scan [] some h = absurd (some refl)
dotted_scan (c ∷ cs) some h =
    let s = and_parts (is_path_name_byte c) (list_all is_path_name_byte cs) h in
    rw s.0 (names_scan cs s.1)

pub quoted_scan : (name : List ℕ) → list_all is_quotable name ≡ true → scan name (Some quoted) ≡ Some quoted
quoted_scan [] h = refl
quoted_scan (c ∷ cs) h =
    let s = and_parts (is_quotable c) (list_all is_quotable cs) h in
    rw (not-true (c == 39) s.0) (quoted_scan cs s.1)

digit_byte : (d : ℕ) → d < 10 → is_ascii_digit (48 + d) ≡ true
digit_byte d h = grind (arith, nat_tests)

pub extended_digit : (o : Option ℕ) (d : ℕ) → d < 10 → extended o (48 + d) ≡ with_digit o d
extended_digit o d h = rw (digit_byte d h) (ap (with_digit o) (omega arith))

abbrev pub place_of : Option ℕ → ScanPlace
place_of None = bracketed
place_of (Some n) = indexed n

pub record ReadSoFar (text : List ℕ) (steps : List PathStep) (rest : List ℕ) : Type 0 where
  pub front : List ℕ
  pub joined : text ≡ 36 ∷ (front ++ rest)
  pub spelled : SpellsSteps steps front
  pub goes_on : ScanGoesOn front rest

pub take_front : (a b : List ℕ) (k : ℕ) → take (length a + k) (a ++ b) ≡ a ++ take k b
take_front [] b k = ap (λ n. take n b) (omega arith)
take_front (c ∷ a) b k =
    let e : length (c ∷ a) + k ≡ suc (length a + k) = omega arith in
    ap (λ n. take n (c ∷ (a ++ b))) e ∙ ap (λ xs. c ∷ xs) (take_front a b k)

pub take_just : (a b : List ℕ) → take (length a) (a ++ b) ≡ a
take_just [] b = refl
take_just (c ∷ a) b = ap (λ xs. c ∷ xs) (take_just a b)

pub append_none : (a : List ℕ) → a ++ [] ≡ a
append_none [] = refl
append_none (c ∷ a) = ap (λ xs. c ∷ xs) (append_none a)

pub first_of : (t : List ℕ) (b : ℕ) → 0 < length t → get_or t 0 0 ≡ b → t ≡ b ∷ drop 1 t
first_of [] b some h = absurd (omega arith)
first_of (c ∷ cs) b some h = ap (λ x. x ∷ cs) h

-- a step that leaves nothing open
pub goes_on_closed : (front rest : List ℕ) → scan front (Some between) ≡ Some between → ScanGoesOn front rest
goes_on_closed front rest h = λ k low high. scan-append front (take k rest) (Some between) ∙ ap (scan (take k rest)) h

-- what comes after a name is no byte of one, so that it begins a step
same_between : (rest : List ℕ) (k : ℕ) → 0 < k → 0 < length rest → is_path_name_byte (get_or rest 0 0) ≡ false → scan (take k rest) (Some in_name) ≡ scan (take k rest) (Some between)
same_between [] k low some h = absurd (omega arith)
same_between (c ∷ cs) zero low some h = absurd (omega arith)
same_between (c ∷ cs) (suc k) low some h = ap (λ b. scan (take k cs) (if b then Some in_name else place_begun_by c)) h

pub goes_on_after_name : (front rest : List ℕ) → scan front (Some between) ≡ Some in_name → (0 < length rest → is_path_name_byte (get_or rest 0 0) ≡ false) → ScanGoesOn front rest
goes_on_after_name front rest h stops = λ k low high.
    let some : 0 < length rest = omega arith in
    scan-append front (take k rest) (Some between) ∙ ap (scan (take k rest)) h ∙ same_between rest k low some (stops some)

-- where the text of steps stops
pub stops_front : (text front rest : List ℕ) (n : ℕ) (more : List ℕ) (path : List PathStep) (p : ScanPlace) → text ≡ front ++ rest → n ≡ length front
    → SpellsSteps path (front ++ more) → scan front (Some between) ≡ Some p → (length rest ≡ 0 → is_end (Some p) ≡ false)
    → (0 < length rest → after (get_or rest 0 0) p ≡ None) → StopsAt text n
stops_front text front [] n more path p joined is spelled reached unended dead =
    let whole : text ≡ front = joined ∙ append_none front in
    record {
      within = omega (arith, ap length whole);
      more = more;
      path = path;
      begins = let P : List ℕ → Type 0 = λ x. SpellsSteps path (x ++ more) in subst P (sym (ap (λ k. take k text) is ∙ ap (take (length front)) joined ∙ take_just front [])) spelled;
      longest = λ k low high. absurd (omega (arith, ap length whole));
      no_end = ap (λ x. is_end (scan x (Some between))) whole ∙ ap is_end reached ∙ unended refl;
    }
stops_front text front (c ∷ cs) n more path p joined is spelled reached unended dead =
    let one : take (length front + 1) text ≡ front ++ c ∷ [] = ap (take (length front + 1)) joined ∙ take_front front (c ∷ cs) 1 in
    let gone : scan (take (length front + 1) text) (Some between) ≡ None = ap (λ x. scan x (Some between)) one ∙ scan-append front (c ∷ []) (Some between) ∙ ap (scan (c ∷ [])) reached ∙ dead (omega arith) in
    record {
      within = omega (arith, ap length joined, length-append front (c ∷ cs));
      more = more;
      path = path;
      begins = let P : List ℕ → Type 0 = λ x. SpellsSteps path (x ++ more) in subst P (sym (ap (λ k. take k text) is ∙ ap (take (length front)) joined ∙ take_just front (c ∷ cs))) spelled;
      longest = λ k low high. dead_after text (length front + 1) k (Some between) (omega arith) gone;
      no_end = ap (λ x. is_end (scan x (Some between))) joined ∙ ap is_end (scan-append front (c ∷ cs) (Some between) ∙ ap (scan (c ∷ cs)) reached ∙ ap (scan cs) (dead (omega arith)) ∙ scan-none cs);
    }

pub one_step : (step : PathStep) (text : List ℕ) → SpellsStep step text → SpellsSteps (step ∷ []) text
one_step step text h = (text, [], h, refl, sym (append_none text))

-- a name after a point
pub name_reads : (t : List ℕ) (e : ℕ) → 0 < e → e ≤ length t → list_all is_path_name_byte (take e t) ≡ true → (e < length t → is_path_name_byte (get_or t e 0) ≡ false) → ReadsStep (46 ∷ t) (Name (take e t)) (drop e t)
name_reads t e low high names stops =
    let len : length (take e t) ≡ e = length-take e t ∙ omega arith in
    let some : take e t ≢ [] = λ h. omega (arith, ap length h) in
    record {
      front = 46 ∷ take e t;
      joined = ap (λ x. 46 ∷ x) (sym (take-append-drop e t));
      spelled = inl (some, names, refl);
      goes_on = goes_on_after_name (46 ∷ take e t) (drop e t) (dotted_scan (take e t) some names) (λ h. ap is_path_name_byte (get_or-drop e t 0 0 ∙ ap (λ k. get_or t k 0) (omega arith)) ∙ stops (omega (arith, length-drop e t)));
      shorter = omega (arith, length-drop e t);
    }

pub name_stops : (t : List ℕ) → (0 < length t → is_path_name_byte (get_or t 0 0) ≡ false) → StopsAt (46 ∷ t) 1
name_stops t stops =
    stops_front (46 ∷ t) (46 ∷ []) t 1 (97 ∷ []) (Name (97 ∷ []) ∷ []) dotted refl refl
    (one_step (Name (97 ∷ [])) (46 ∷ 97 ∷ []) (inl (λ h. cc, refl, refl))) refl (λ h. refl) (λ h. rw (stops h))

-- a quoted name
quotes_scan : (name more : List ℕ) → list_all is_quotable name ≡ true → scan (91 ∷ 39 ∷ (name ++ more)) (Some between) ≡ scan more (Some quoted)
quotes_scan name more names = scan-append name more (Some quoted) ∙ ap (scan more) (quoted_scan name names)

pub quoted_reads : (t name rest : List ℕ) → t ≡ name ++ 39 ∷ (93 ∷ rest) → list_all is_quotable name ≡ true → ReadsStep (91 ∷ 39 ∷ t) (Name name) rest
quoted_reads t name rest is names =
    let parts : name ++ 39 ∷ (93 ∷ rest) ≡ (name ++ 39 ∷ 93 ∷ []) ++ rest = sym (append_assoc name (39 ∷ 93 ∷ []) rest) in
    record {
      front = 91 ∷ 39 ∷ (name ++ 39 ∷ 93 ∷ []);
      joined = ap (λ x. 91 ∷ 39 ∷ x) (is ∙ parts);
      spelled = inr (names, refl);
      goes_on = goes_on_closed (91 ∷ 39 ∷ (name ++ 39 ∷ 93 ∷ [])) rest (quotes_scan name (39 ∷ 93 ∷ []) names);
      shorter = omega (arith, ap length is, length-append name (39 ∷ (93 ∷ rest)));
    }

pub quoted_stops : (t : List ℕ) → list_all is_quotable t ≡ true → StopsAt (91 ∷ 39 ∷ t) (length t + 2)
quoted_stops t names =
    stops_front (91 ∷ 39 ∷ t) (91 ∷ 39 ∷ t) [] (length t + 2) (39 ∷ 93 ∷ []) (Name t ∷ []) quoted (sym (append_none (91 ∷ 39 ∷ t))) (omega arith)
    (one_step (Name t) (91 ∷ 39 ∷ (t ++ 39 ∷ 93 ∷ [])) (inr (names, refl))) (quoted_scan t names) (λ h. refl) (λ h. absurd (omega arith))

pub quote_end_stops : (t name rest : List ℕ) → t ≡ name ++ 39 ∷ rest → list_all is_quotable name ≡ true → (0 < length rest → get_or rest 0 0 ≢ 93) → StopsAt (91 ∷ 39 ∷ t) (length name + 3)
quote_end_stops t name rest is names stops =
    stops_front (91 ∷ 39 ∷ t) (91 ∷ 39 ∷ (name ++ 39 ∷ [])) rest (length name + 3) (93 ∷ []) (Name name ∷ []) closing
    (ap (λ x. 91 ∷ 39 ∷ x) (is ∙ sym (append_assoc name (39 ∷ []) rest))) (omega (arith, length-append name (39 ∷ [])))
    (one_step (Name name) (91 ∷ 39 ∷ ((name ++ 39 ∷ []) ++ 93 ∷ [])) (inr (names, ap (λ x. 91 ∷ 39 ∷ x) (append_assoc name (39 ∷ []) (93 ∷ [])))))
    (quotes_scan name (39 ∷ []) names) (λ h. refl) (λ h. rw (ne_eqb (get_or rest 0 0) 93 (stops h)))

pub quotable_by_index : (name : List ℕ) → ((i : ℕ) → i < length name → get_or name i 0 ≢ 39) → list_all is_quotable name ≡ true
quotable_by_index [] h = refl
quotable_by_index (c ∷ cs) h = rw (ne_eqb c 39 (h 0 (omega arith)), quotable_by_index cs (λ i l. h (suc i) (omega arith)))

-- an index
digit_of_zero : (d : ℕ) → d < 10 → (48 + d == 39) ≡ false
digit_of_zero d h = ne_eqb (48 + d) 39 (omega arith)

digit_no_end : (d : ℕ) → d < 10 → (48 + d == 93) ≡ false
digit_no_end d h = ne_eqb (48 + d) 93 (omega arith)

with_more : (n d : ℕ) → 0 < n → n * 10 + d < 2 ^ 32 → with_digit (Some n) d ≡ Some (n * 10 + d)
with_more n d low fits = rw (ne_eqb n 0 (omega arith), lt-ltb (n * 10 + d) (2 ^ 32) fits)

-- a numeral leads to its number
decimal_small : (n : ℕ) → n < 10 → scan (decimal n) (Some bracketed) ≡ Some (indexed n)
decimal_small n h = ap (λ x. scan x (Some bracketed)) (decimal_digit n h) ∙ rw (digit_of_zero n h, extended_digit None n h)

decimal_more : (n : ℕ) → 10 ≤ n → n < 2 ^ 32 → scan (decimal (n / 10)) (Some bracketed) ≡ Some (indexed (n / 10)) → scan (decimal n) (Some bracketed) ≡ Some (indexed n)
decimal_more n low high h =
    let d : n % 10 < 10 = omega arith in
    ap (λ x. scan x (Some bracketed)) (decimal_step n low (omega arith)) ∙ scan-append (decimal (n / 10)) ((48 + n % 10) ∷ []) (Some bracketed) ∙ ap (scan ((48 + n % 10) ∷ [])) h
    ∙ rw (digit_no_end (n % 10) d, extended_digit (Some (n / 10)) (n % 10) d, with_more (n / 10) (n % 10) (omega arith) (omega arith)) (ap (λ k. Some (indexed k)) (omega arith))

decimal_by : (fuel n : ℕ) → n ≤ suc fuel → n < 2 ^ 32 → ((m : ℕ) → m ≤ fuel → m < 2 ^ 32 → scan (decimal m) (Some bracketed) ≡ Some (indexed m)) → (n < 10) ⊎ (10 ≤ n) → scan (decimal n) (Some bracketed) ≡ Some (indexed n)
decimal_by fuel n le high more (inl h) = decimal_small n h
decimal_by fuel n le high more (inr h) = decimal_more n h high (more (n / 10) (omega arith) (omega arith))

decimal_fuel : (fuel n : ℕ) → n ≤ fuel → n < 2 ^ 32 → scan (decimal n) (Some bracketed) ≡ Some (indexed n)
decimal_fuel zero n le high = decimal_small n (omega arith)
decimal_fuel (suc fuel) n le high = decimal_by fuel n le high (λ m l h. decimal_fuel fuel m l h) (cases_lt n 10)

pub decimal_scan : (n : ℕ) → n < 2 ^ 32 → scan (decimal n) (Some bracketed) ≡ Some (indexed n)
decimal_scan n high = decimal_fuel n n (omega arith) high

index_scan : (o : Option ℕ) (digits : List ℕ) → IsIndexSoFar o digits → scan digits (Some bracketed) ≡ Some (place_of o)
index_scan None digits h = ap (λ x. scan x (Some bracketed)) h
index_scan (Some n) digits h = ap (λ x. scan x (Some bracketed)) h.0 ∙ decimal_scan n h.1

pub index_reads : (t : List ℕ) (n e : ℕ) → e < length t → IsIndexSoFar (Some n) (take e t) → get_or t e 0 ≡ 93 → ReadsStep (91 ∷ t) (Index n) (drop (e + 1) t)
index_reads t n e high so_far is =
    let tail : drop e t ≡ 93 ∷ drop (e + 1) t = drop_more t e 0 high ∙ ap (λ x. x ∷ drop (e + 1) t) is in
    let parts : t ≡ decimal n ++ 93 ∷ drop (e + 1) t = sym (take-append-drop e t) ∙ ap (λ x. x ++ drop e t) so_far.0 ∙ ap (λ x. decimal n ++ x) tail in
    record {
      front = 91 ∷ (decimal n ++ 93 ∷ []);
      joined = ap (λ x. 91 ∷ x) (parts ∙ sym (append_assoc (decimal n) (93 ∷ []) (drop (e + 1) t)));
      spelled = (so_far.1, refl);
      goes_on = goes_on_closed (91 ∷ (decimal n ++ 93 ∷ [])) (drop (e + 1) t) (scan-append (decimal n) (93 ∷ []) (Some bracketed) ∙ ap (scan (93 ∷ [])) (decimal_scan n so_far.1));
      shorter = omega (arith, length-drop (e + 1) t);
    }

index_ends : (o : Option ℕ) (digits : List ℕ) → IsIndexSoFar o digits → (more : List ℕ) × (path : List PathStep) × SpellsSteps path (91 ∷ (digits ++ more))
index_ends None digits h = (48 ∷ 93 ∷ [], Index 0 ∷ [], one_step (Index 0) (91 ∷ (digits ++ 48 ∷ 93 ∷ [])) (omega arith, ap (λ x. 91 ∷ (x ++ 48 ∷ 93 ∷ [])) h ∙ ap (λ x. 91 ∷ (x ++ 93 ∷ [])) (sym (decimal_digit 0 (omega arith)))))
index_ends (Some n) digits h = (93 ∷ [], Index n ∷ [], one_step (Index n) (91 ∷ (digits ++ 93 ∷ [])) (h.1, ap (λ x. 91 ∷ (x ++ 93 ∷ [])) h.0))

no_index_end : (o : Option ℕ) (c : ℕ) → extended o c ≡ None → (o ≡ None → c ≢ 39) → (is_some o ≡ true → c ≢ 93) → after c (place_of o) ≡ None
no_index_end None c stops quote ends = rw (ne_eqb c 39 (quote refl), stops)
no_index_end (Some n) c stops quote ends = rw (ne_eqb c 93 (ends refl), stops)

index_no_end : (o : Option ℕ) → is_end (Some (place_of o)) ≡ false
index_no_end None = refl
index_no_end (Some n) = refl

pub index_stops : (t : List ℕ) (o : Option ℕ) (e : ℕ) → e ≤ length t → IsIndexSoFar o (take e t) → (e < length t → extended o (get_or t e 0) ≡ None)
    → (0 < length t → get_or t 0 0 ≢ 39) → (e < length t → is_some o ≡ true → get_or t e 0 ≢ 93) → StopsAt (91 ∷ t) (e + 1)
index_stops t o e high so_far stops quote ends =
    let len : length (take e t) ≡ e = length-take e t ∙ omega arith in
    let finish = index_ends o (take e t) so_far in
    let next : get_or (drop e t) 0 0 ≡ get_or t e 0 = get_or-drop e t 0 0 ∙ ap (λ k. get_or t k 0) (omega arith) in
    stops_front (91 ∷ t) (91 ∷ take e t) (drop e t) (e + 1) finish.0 finish.1 (place_of o) (ap (λ x. 91 ∷ x) (sym (take-append-drop e t))) (omega arith) finish.2
    (index_scan o (take e t) so_far) (λ h. index_no_end o)
    (λ h. let l : e < length t = omega (arith, length-drop e t) in ap (λ c. after c (place_of o)) next ∙ no_index_end o (get_or t e 0) (stops l) (λ none. at_start none l) (ends l))
  where
    at_start : o ≡ None → e < length t → get_or t e 0 ≢ 39
    at_start none l =
        let no : take e t ≡ [] = subst (λ (x : Option ℕ). IsIndexSoFar x (take e t)) none so_far in
        let zero_long : e ≡ 0 = omega (arith, ap length no, length-take e t) in
        rw zero_long (quote (omega arith))

-- neither a point nor a bracket
pub begin_stops : (t : List ℕ) → 0 < length t → get_or t 0 0 ≢ 46 → get_or t 0 0 ≢ 91 → StopsAt t 0
begin_stops t some dot bracket =
    stops_front t [] t 0 [] [] between refl refl refl refl (λ h. absurd (omega arith)) (λ h. rw (ne_eqb (get_or t 0 0) 46 dot, ne_eqb (get_or t 0 0) 91 bracket))

-- all that was read so far
passes_on : (front front' rest : List ℕ) → ScanGoesOn front (front' ++ rest) → ScanGoesOn front' rest → ScanGoesOn (front ++ front') rest
passes_on front front' rest h g = λ k low high.
    let whole : take (length front' + k) (front' ++ rest) ≡ front' ++ take k rest = take_front front' rest k in
    ap (λ x. scan x (Some between)) (append_assoc front front' (take k rest) ∙ ap (λ x. front ++ x) (sym whole))
    ∙ h (length front' + k) (omega arith) (omega (arith, length-append front' rest))
    ∙ ap (λ x. scan x (Some between)) whole ∙ g k low high

pub spelled_after : (path path' : List PathStep) (a b : List ℕ) → SpellsSteps path a → SpellsSteps path' b → SpellsSteps (path ++ path') (a ++ b)
spelled_after [] path' a b h g = let P : List ℕ → Type 0 = λ x. SpellsSteps path' (x ++ b) in subst P (sym h) g
spelled_after (step ∷ path) path' a b h g =
    (h.0, h.1 ++ b, h.2, spelled_after path path' h.1 b h.3 g, ap (λ x. x ++ b) h.4 ∙ append_assoc h.0 h.1 b)

pub read_more : (text : List ℕ) (steps : List PathStep) (rest rest' : List ℕ) (step : PathStep) → ReadSoFar text steps rest → ReadsStep rest step rest' → ReadSoFar text (steps ++ step ∷ []) rest'
read_more text steps rest rest' step h r = record {
  front = h.front ++ r.front;
  joined = h.joined ∙ ap (λ x. 36 ∷ (h.front ++ x)) r.joined ∙ ap (λ x. 36 ∷ x) (sym (append_assoc h.front r.front rest'));
  spelled = spelled_after steps (step ∷ []) h.front r.front h.spelled (one_step step r.front r.spelled);
  goes_on = passes_on h.front r.front rest' (let P : List ℕ → Type 0 = λ x. ScanGoesOn h.front x in subst P r.joined h.goes_on) r.goes_on;
}

-- what spells steps leads to where a path may end
step_scan : (step : PathStep) (front : List ℕ) (p : ScanPlace) → is_end (Some p) ≡ true → SpellsStep step front → (q : ScanPlace) × (is_end (Some q) ≡ true) × (scan front (Some p) ≡ Some q)
step_scan (Name name) front between end (inl h) = (in_name, refl, ap (λ x. scan x (Some between)) h.2 ∙ dotted_scan name h.0 h.1)
step_scan (Name name) front in_name end (inl h) = (in_name, refl, ap (λ x. scan x (Some in_name)) h.2 ∙ dotted_scan name h.0 h.1)
step_scan (Name name) front between end (inr h) = (between, refl, ap (λ x. scan x (Some between)) h.1 ∙ quotes_scan name (39 ∷ 93 ∷ []) h.0)
step_scan (Name name) front in_name end (inr h) = (between, refl, ap (λ x. scan x (Some in_name)) h.1 ∙ quotes_scan name (39 ∷ 93 ∷ []) h.0)
step_scan (Index n) front between end h = (between, refl, ap (λ x. scan x (Some between)) h.1 ∙ scan-append (decimal n) (93 ∷ []) (Some bracketed) ∙ ap (scan (93 ∷ [])) (decimal_scan n h.0))
step_scan (Index n) front in_name end h = (between, refl, ap (λ x. scan x (Some in_name)) h.1 ∙ scan-append (decimal n) (93 ∷ []) (Some bracketed) ∙ ap (scan (93 ∷ [])) (decimal_scan n h.0))
step_scan _ front _ end h = cc

pub steps_end : (path : List PathStep) (text : List ℕ) (p : ScanPlace) → is_end (Some p) ≡ true → SpellsSteps path text → is_end (scan text (Some p)) ≡ true
steps_end [] text p end h = ap (λ x. is_end (scan x (Some p))) h ∙ end
steps_end (step ∷ path) text p end h =
    let q = step_scan step h.0 p end h.2 in
    ap (λ x. is_end (scan x (Some p))) h.4 ∙ ap is_end (scan-append h.0 h.1 (Some p) ∙ ap (scan h.1) q.2) ∙ steps_end path h.1 q.0 q.1 h.3

-- where the whole text stops
take_behind : (front rest : List ℕ) (k : ℕ) → length front < k → take k (36 ∷ (front ++ rest)) ≡ 36 ∷ (front ++ take (k - 1 - length front) rest)
take_behind front rest k low =
    let split : k ≡ suc (length front + (k - 1 - length front)) = omega arith in
    ap (λ n. take n (36 ∷ (front ++ rest))) split ∙ ap (λ x. 36 ∷ x) (take_front front rest (k - 1 - length front))

begins_no : (front : List ℕ) → scan front (Some between) ≡ None → BeginsPath (36 ∷ front) → ⊥
begins_no front dead h =
    let more = h.0 in
    let path = h.1 in
    let steps : front ++ more ≡ h.2.0 = cc (h.2.2) in
    let end = steps_end path h.2.0 between refl h.2.1 in
    let no : is_end (scan h.2.0 (Some between)) ≡ false = ap (λ x. is_end (scan x (Some between))) (sym steps) ∙ ap is_end (scan-append front more (Some between) ∙ ap (scan more) dead ∙ scan-none more) in
    let contra : true ≡ false = sym end ∙ no in
    cc contra

pub text_fails : (text : List ℕ) (steps : List PathStep) (rest : List ℕ) (n j : ℕ) → ReadSoFar text steps rest → StopsAt rest j → 0 < length rest → n ≡ length text - length rest + j → FailsAt text n
text_fails text steps rest n j h s some is =
    let front = h.front in
    let len : length text ≡ 1 + length front + length rest = omega (arith, ap length h.joined, length-append front rest) in
    let at : n ≡ 1 + length front + j = omega arith in
    let cut : (k : ℕ) → length front < k → take k text ≡ 36 ∷ (front ++ take (k - 1 - length front) rest) = λ k low. ap (take k) h.joined ∙ take_behind front rest k low in
    record {
      no_path = λ path spelled.
          let steps_text : spelled.0 ≡ front ++ rest = cc (spelled.2, h.joined) in
          let end = steps_end path spelled.0 between refl spelled.1 in
          let same = h.goes_on (length rest) some (omega arith) in
          let all = take-length rest in
          let no : is_end (scan spelled.0 (Some between)) ≡ false = ap (λ x. is_end (scan x (Some between))) (steps_text ∙ ap (λ x. front ++ x) (sym all)) ∙ ap is_end (same ∙ ap (λ x. scan x (Some between)) all) ∙ s.no_end in
          let contra : true ≡ false = sym end ∙ no in
          cc contra;
      within = omega (arith, s.within);
      begins = (
        s.more,
        steps ++ s.path,
        (
          front ++ (take j rest ++ s.more),
          spelled_after steps s.path front (take j rest ++ s.more) h.spelled s.begins,
          ap (λ x. x ++ s.more) (cut n (omega arith) ∙ ap (λ k. 36 ∷ (front ++ take k rest)) (omega arith)) ∙ ap (λ x. 36 ∷ x) (append_assoc front (take j rest) s.more),
        ),
      );
      longest = λ k low high begun_by.
          let m = k - 1 - length front in
          let gone : scan (front ++ take m rest) (Some between) ≡ None = h.goes_on m (omega arith) (omega arith) ∙ s.longest m (omega arith) (omega arith) in
          begins_no (front ++ take m rest) gone (subst BeginsPath (cut k (omega arith)) begun_by);
    }

-- a text that begins with no `$`
pub none_fails : (text : List ℕ) → (0 < length text → get_or text 0 0 ≢ 36) → FailsAt text 0
none_fails text h = record {
  no_path = λ path spelled. absurd (h (omega (arith, ap length spelled.2)) (ap (λ x. get_or x 0 0) spelled.2));
  within = omega arith;
  begins = (36 ∷ [], [], ([], refl, refl));
  longest = λ k low high begun_by. other text k low high h begun_by;
}
  where
    other : (text : List ℕ) (k : ℕ) → 0 < k → k ≤ length text → (0 < length text → get_or text 0 0 ≢ 36) → BeginsPath (take k text) → ⊥
    other [] k low high h b = absurd (omega arith)
    other (c ∷ cs) zero low high h b = absurd (omega arith)
    other (c ∷ cs) (suc k) low high h b = h (omega arith) (ap (λ x. get_or x 0 0) b.2.2)

pub reads_as : (text name name' rest rest' : List ℕ) → name ≡ name' → rest ≡ rest' → ReadsStep text (Name name') rest' → ReadsStep text (Name name) rest
reads_as text name name' rest rest' p q h = subst (λ (x : List ℕ). ReadsStep text (Name x) rest) (sym p) (subst (λ (x : List ℕ). ReadsStep text (Name name') x) (sym q) h)

pub index_reads_as : (text : List ℕ) (n : ℕ) (rest rest' : List ℕ) → rest ≡ rest' → ReadsStep text (Index n) rest' → ReadsStep text (Index n) rest
index_reads_as text n rest rest' q h = subst (λ (x : List ℕ). ReadsStep text (Index n) x) (sym q) h

-- what `split_once` gives
pub quote_parts : (t : List ℕ) (r : Option (Bor (List ℕ) × Bor (List ℕ))) → IsSplitOnceResult 39 t r
    → MatchOption r (list_all is_quotable t ≡ true) (λ x. (t ≡ x.0.now ++ 39 ∷ x.1.now) × (list_all is_quotable x.0.now ≡ true))
quote_parts t None h = quotable_by_index t (split_parts 39 t None h (lit< tt))
quote_parts t (Some x) h =
    let k = split_parts 39 t (Some x) h (lit< tt) in
    (k.0, quotable_by_index x.0.now k.1)

-- one digit more
digit_test : (b : Bool) (o : Option ℕ) (c m : ℕ) → is_ascii_digit c ≡ b → (if b then with_digit o (c - 48) else None) ≡ Some m → (48 ≤ c) × (c ≤ 57) × (with_digit o (c - 48) ≡ Some m)
digit_test true o c m is h =
    let s = and_parts (nat_le 48 c) (nat_le c 57) is in
    (leb-true 48 c s.0, leb-true c 57 s.1, h)
digit_test false o c m is h = cc

longer_test : (a b : Bool) (n d m : ℕ) → (n == 0) ≡ a → nat_lt (n * 10 + d) (2 ^ 32) ≡ b → (if a then None else (if b then Some (n * 10 + d) else None)) ≡ Some m → (0 < n) × (n * 10 + d ≡ m) × (n * 10 + d < 2 ^ 32)
longer_test true b n d m zero_is fits h = cc
longer_test false true n d m zero_is fits h =
    let some : 0 < n = grind (arith, nat_tests) in
    (some, cc, ltb-true (n * 10 + d) (2 ^ 32) fits)
longer_test false false n d m zero_is fits h = cc

pub digit_more : (o : Option ℕ) (digits : List ℕ) (c m : ℕ) → IsIndexSoFar o digits → extended o c ≡ Some m → IsIndexSoFar (Some m) (digits ++ c ∷ [])
digit_more None digits c m so_far h =
    let d = digit_test (is_ascii_digit c) None c m refl h in
    let e : c - 48 ≡ m = cc (d.2) in
    (ap (λ x. x ++ c ∷ []) so_far ∙ ap (λ (x : ℕ). x ∷ []) (omega arith) ∙ sym (decimal_digit m (omega arith)), omega arith)
digit_more (Some n) digits c m so_far h =
    let d = digit_test (is_ascii_digit c) (Some n) c m refl h in
    let l = longer_test (n == 0) (nat_lt (n * 10 + (c - 48)) (2 ^ 32)) n (c - 48) m refl refl d.2 in
    let tens : m / 10 ≡ n = omega arith in
    let ones : 48 + m % 10 ≡ c = omega arith in
    (ap (λ x. x ++ c ∷ []) so_far.0 ∙ ap (λ k. decimal k ++ c ∷ []) (sym tens) ∙ ap (λ (x : ℕ). decimal (m / 10) ++ x ∷ []) (sym ones) ∙ sym (decimal_step m (omega arith) (omega arith)), omega arith)

-- a text may be cut behind an ASCII byte
pub after_first : (bs bytes : List ℕ) (b : ℕ) → bytes ≡ bs → IsUtf8 bs → 0 < length bytes → get_or bytes 0 0 ≡ b → b < 128 → IsCharBoundary bs 1
after_first bs bytes b same utf8 some is low =
    let at : get_or bs 0 0 ≡ b = ap (λ x. get_or x 0 0) (sym same) ∙ is in
    IsCharBoundary-after_ascii bs 0 utf8 (omega (arith, ap length same)) (omega arith)

pub no_some : (o : Option ℕ) → is_some o ≡ true → ((x : ℕ) → o ≡ Some x → ⊥) → ⊥
no_some None h never = cc
no_some (Some x) h never = never x refl

pub some_left : (n : ℕ) (b : Bool) → b ≡ (n == 0) → b ≡ false → 0 < n
some_left zero b h is = cc
some_left (suc n) b h is = omega arith

pub nothing_read : (text : List ℕ) (rest : List ℕ) → text ≡ 36 ∷ rest → ReadSoFar text [] rest
nothing_read text rest h = record { front = []; joined = h; spelled = refl; goes_on = λ k low high. refl }

pub all_read : (text : List ℕ) (steps : List PathStep) (rest : List ℕ) → length rest ≡ 0 → ReadSoFar text steps rest → SpellsPath steps text
all_read text steps [] none h = (h.front, h.spelled, h.joined ∙ ap (λ x. 36 ∷ x) (append_none h.front))
all_read text steps (c ∷ cs) none h = absurd (omega arith)
