-- A text is read to the condition that it spells.
use Rattle.std.proofs.Common.{◌≡◌, ℕ, zero, suc, ◌==◌, Bool, true, false, not, ◌&&◌, ◌||◌, cond, if◌then◌else◌, List, [], ◌∷◌, ◌++◌, Option, Some, None, option_map, option_and_then, append_assoc, refl, sym, ap, ◌∙◌, subst, true≢false}
use Rattle.std.proofs.lemmas.Bool.{eqb-true, eq-eqb}
use Rattle.std.proofs.lemmas.List.{append-nil}
use Rattle.std.specs.Char.{is_ascii_alphabetic}
use Rattle.std.specs.Int.{is_in_range}
use Rattle.std.specs.List.{list_all}
use Rattle.item_store.specs.Condition.{is_text, is_space, is_condition_name_byte, is_attribute_name, after_spaces, cut_at_byte, condition_kind_of, name_before_spaces, condition_attribute, condition_on, condition_from, condition_of}
use Rattle.item_store.specs.Spelling.{spaces, function_name, SpellsCondition, ConditionsAreSpelled}
use Rattle.item_store.specs.declared.call.Condition.{Condition}
use Rattle.item_store.specs.declared.call.ConditionKind.{ConditionKind}
use Rattle.item_store.specs.declared.call.ConditionKind.TheVariants.{Exists, NotExists}

-- ---- options and tests

and_then_some : {A B : Type 0} (x : Option A) (f : A → Option B) (y : B) → option_and_then f x ≡ Some y → (a : A) × (x ≡ Some a) × (f a ≡ Some y)
and_then_some None f y h = cc
and_then_some (Some a) f y h = (a, refl, h)

map_some : {A B : Type 0} (x : Option A) (f : A → B) (y : B) → option_map f x ≡ Some y → (a : A) × (x ≡ Some a) × (f a ≡ y)
map_some None f y h = cc
map_some (Some a) f y h = (a, refl, cc)

if_some : {A : Type 0} (b : Bool) (x : Option A) (y : A) → (if b then x else None) ≡ Some y → (b ≡ true) × (x ≡ Some y)
if_some true x y h = (refl, h)
if_some false x y h = cc

both_true : (a b : Bool) → (a && b) ≡ true → (a ≡ true) × (b ≡ true)
both_true true b h = (refl, h)
both_true false b h = absurd (true≢false (sym h))

and_true : (a b : Bool) → a ≡ true → b ≡ true → (a && b) ≡ true
and_true a b h k = rw (h, k) refl

-- ---- spaces

space_off : (b : Bool) (c : ℕ) (s t : List ℕ) (n : ℕ) → (c == 32) ≡ b → s ≡ spaces n ++ t → (m : ℕ) × (c ∷ s ≡ spaces m ++ cond b t (c ∷ s))
space_off true c s t n h k = (suc n, let first : c ≡ 32 = eqb-true c 32 h in λ j. first j ∷ k j)
space_off false c s t n h k = (zero, refl)

spaces_off : (s : List ℕ) → (n : ℕ) × (s ≡ spaces n ++ after_spaces s)
spaces_off [] = (zero, refl)
spaces_off (c ∷ s) = let k = spaces_off s in space_off (c == 32) c s (after_spaces s) k.0 refl k.1

after_spaces-spaces : (n : ℕ) (s : List ℕ) → after_spaces (spaces n ++ s) ≡ after_spaces s
after_spaces-spaces zero s = refl
after_spaces-spaces (suc n) s = after_spaces-spaces n s

spaces_are : (n : ℕ) → list_all is_space (spaces n) ≡ true
spaces_are zero = refl
spaces_are (suc n) = spaces_are n

are_spaces : (s : List ℕ) → list_all is_space s ≡ true → (n : ℕ) × (s ≡ spaces n)
are_spaces [] h = (zero, refl)
are_spaces (c ∷ s) h =
    let b = both_true (c == 32) (list_all is_space s) h in
    let k = are_spaces s b.1 in
    (suc k.0, let first : c ≡ 32 = eqb-true c 32 b.0 in λ j. first j ∷ k.1 j)

-- ---- cuts

pair : List ℕ → List ℕ → Option (List ℕ × List ℕ)
pair a b = Some (a, b)

-- none of the bytes is p
abbrev lacks : ℕ → List ℕ → Bool
lacks p xs = list_all (λ c. not (c == p)) xs

cut_part : (b : Bool) (p c : ℕ) (s : List ℕ) (rest : Option (List ℕ × List ℕ)) (x : List ℕ × List ℕ) → (c == p) ≡ b
    → cond b (Some ([], s)) (option_map (λ y. (c ∷ y.0, y.1)) rest) ≡ Some x → ((y : List ℕ × List ℕ) → rest ≡ Some y → s ≡ y.0 ++ p ∷ y.1) → c ∷ s ≡ x.0 ++ p ∷ x.1
cut_part true p c s rest x h k again =
    let first : c ≡ p = eqb-true c p h in
    let front : [] ≡ x.0 = cc in
    let back : s ≡ x.1 = cc in
    λ j. front j ++ first j ∷ back j
cut_part false p c s rest x h k again =
    let m = map_some rest (λ y. (c ∷ y.0, y.1)) x k in
    let front : c ∷ m.0.0 ≡ x.0 = ap (λ y. y.0) m.2 in
    let back : m.0.1 ≡ x.1 = ap (λ y. y.1) m.2 in
    ap (λ t. c ∷ t) (again m.0 m.1) ∙ (λ j. front j ++ p ∷ back j)

cut_parts : (p : ℕ) (s : List ℕ) (x : List ℕ × List ℕ) → cut_at_byte p s ≡ Some x → s ≡ x.0 ++ p ∷ x.1
cut_parts p [] x h = cc
cut_parts p (c ∷ s) x h = cut_part (c == p) p c s (cut_at_byte p s) x refl h (cut_parts p s)

not_true : (b : Bool) → not b ≡ true → b ≡ false
not_true true h = absurd (true≢false (sym h))
not_true false h = refl

cut_first : (p : ℕ) (xs ys : List ℕ) → lacks p xs ≡ true → cut_at_byte p (xs ++ p ∷ ys) ≡ Some (xs, ys)
cut_first p [] ys h = rw (eq-eqb p p refl) refl
cut_first p (c ∷ xs) ys h =
    let b = both_true (not (c == p)) (lacks p xs) h in
    rw (not_true (c == p) b.0, cut_first p xs ys b.1) refl

cut_missing : (p : ℕ) (xs : List ℕ) → lacks p xs ≡ true → cut_at_byte p xs ≡ None
cut_missing p [] h = refl
cut_missing p (c ∷ xs) h =
    let b = both_true (not (c == p)) (lacks p xs) h in
    rw (not_true (c == p) b.0, cut_missing p xs b.1) refl

lacks-append : (p : ℕ) (xs ys : List ℕ) → lacks p xs ≡ true → lacks p ys ≡ true → lacks p (xs ++ ys) ≡ true
lacks-append p [] ys h k = k
lacks-append p (c ∷ xs) ys h k =
    let b = both_true (not (c == p)) (lacks p xs) h in
    and_true (not (c == p)) (lacks p (xs ++ ys)) b.0 (lacks-append p xs ys b.1 k)

lacks-spaces : (p : ℕ) (n : ℕ) → (32 == p) ≡ false → lacks p (spaces n) ≡ true
lacks-spaces p zero h = refl
lacks-spaces p (suc n) h = and_true (not (32 == p)) (lacks p (spaces n)) (ap not h) (lacks-spaces p n h)

passes_apart : (test : ℕ → Bool) (b : Bool) (c p : ℕ) → (c == p) ≡ b → test c ≡ true → test p ≡ false → not b ≡ true
passes_apart test true c p h k f = absurd (true≢false (sym k ∙ ap test (eqb-true c p h) ∙ f))
passes_apart test false c p h k f = refl

-- bytes that pass a test lack one that does not
lacks_other : (test : ℕ → Bool) (p : ℕ) (xs : List ℕ) → list_all test xs ≡ true → test p ≡ false → lacks p xs ≡ true
lacks_other test p [] h f = refl
lacks_other test p (c ∷ xs) h f =
    let b = both_true (test c) (list_all test xs) h in
    and_true (not (c == p)) (lacks p xs) (passes_apart test (c == p) c p refl b.0 f) (lacks_other test p xs b.1 f)

-- ---- the function's name

text_same : (s t : List ℕ) → is_text s t ≡ true → s ≡ t
text_same [] [] h = refl
text_same [] (y ∷ t) h = absurd (true≢false (sym h))
text_same (x ∷ s) [] h = absurd (true≢false (sym h))
text_same (x ∷ s) (y ∷ t) h =
    let b = both_true (x == y) (is_text s t) h in
    let first : x ≡ y = eqb-true x y b.0 in
    let rest = text_same s t b.1 in
    λ j. first j ∷ rest j

kind_by : (a b : Bool) (s : List ℕ) (k : ConditionKind) → is_text s (function_name Exists) ≡ a → is_text s (function_name NotExists) ≡ b
    → (if a then Some Exists else if b then Some NotExists else None) ≡ Some k → s ≡ function_name k
kind_by true b s k h g e =
    let same : Exists ≡ k = cc in
    text_same s (function_name Exists) h ∙ ap function_name same
kind_by false true s k h g e =
    let same : NotExists ≡ k = cc in
    text_same s (function_name NotExists) g ∙ ap function_name same
kind_by false false s k h g e = cc

kind_name : (s : List ℕ) (k : ConditionKind) → condition_kind_of s ≡ Some k → s ≡ function_name k
kind_name s k h = kind_by (is_text s (function_name Exists)) (is_text s (function_name NotExists)) s k refl refl h

kind_read : (k : ConditionKind) → condition_kind_of (after_spaces (function_name k)) ≡ Some k
kind_read Exists = refl
kind_read NotExists = refl

name_lacks_bracket : (k : ConditionKind) → lacks 40 (function_name k) ≡ true
name_lacks_bracket Exists = refl
name_lacks_bracket NotExists = refl

-- ---- the attribute's name

letter_by : (d u l x : Bool) → (u || l) ≡ true → (((d || u) || l) || x) ≡ true
letter_by true u l x h = refl
letter_by false u l x h = rw h refl

letter_passes : (c : ℕ) → is_ascii_alphabetic c ≡ true → is_condition_name_byte c ≡ true
letter_passes c h = letter_by (is_in_range 48 57 c) (is_in_range 65 90 c) (is_in_range 97 122 c) (c == 95) h

name_passes : (a : List ℕ) → is_attribute_name a ≡ true → list_all is_condition_name_byte a ≡ true
name_passes [] h = refl
name_passes (c ∷ s) h =
    let b = both_true (is_ascii_alphabetic c) (list_all is_condition_name_byte s) h in
    and_true (is_condition_name_byte c) (list_all is_condition_name_byte s) (letter_passes c b.0) b.1

name_first : (a rest : List ℕ) → is_attribute_name a ≡ true → after_spaces (a ++ rest) ≡ a ++ rest
name_first [] rest h = absurd (true≢false (sym h))
name_first (c ∷ s) rest h =
    let b = both_true (is_ascii_alphabetic c) (list_all is_condition_name_byte s) h in
    rw (not_true (c == 32) (passes_apart is_ascii_alphabetic (c == 32) c 32 refl b.0 refl)) refl

name_by : (t a : List ℕ) (r : Option (List ℕ × List ℕ)) → cut_at_byte 32 t ≡ r → name_before_spaces t r ≡ Some a → (n : ℕ) × (t ≡ a ++ spaces n) × (is_attribute_name a ≡ true)
name_by t a None h k =
    let i = if_some (is_attribute_name t) (Some t) a k in
    let same : t ≡ a = cc in
    (zero, same ∙ sym (append-nil a), subst (λ x. is_attribute_name x ≡ true) same i.0)
name_by t a (Some x) h k =
    let i = if_some (is_attribute_name x.0 && list_all is_space x.1) (Some x.0) a k in
    let same : x.0 ≡ a = cc in
    let b = both_true (is_attribute_name x.0) (list_all is_space x.1) i.0 in
    let n = are_spaces x.1 b.1 in
    (suc n.0, cut_parts 32 t x h ∙ (λ j. same j ++ 32 ∷ n.1 j), subst (λ y. is_attribute_name y ≡ true) same b.0)

attribute_spelled : (s a : List ℕ) → condition_attribute s ≡ Some a → (m : ℕ) × (n : ℕ) × (s ≡ spaces m ++ (a ++ spaces n)) × (is_attribute_name a ≡ true)
attribute_spelled s a h =
    let m = spaces_off s in
    let n = name_by (after_spaces s) a (cut_at_byte 32 (after_spaces s)) refl h in
    (m.0, n.0, m.1 ∙ ap (λ t. spaces m.0 ++ t) n.1, n.2)

name_read : (n : ℕ) (a : List ℕ) → is_attribute_name a ≡ true → name_before_spaces (a ++ spaces n) (cut_at_byte 32 (a ++ spaces n)) ≡ Some a
name_read zero a h = rw (append-nil a, cut_missing 32 a (lacks_other is_condition_name_byte 32 a (name_passes a h) refl), h) refl
name_read (suc n) a h = rw (cut_first 32 a (spaces n) (lacks_other is_condition_name_byte 32 a (name_passes a h) refl), and_true (is_attribute_name a) (list_all is_space (spaces n)) h (spaces_are n)) refl

attribute_read : (m : ℕ) (a : List ℕ) (n : ℕ) → is_attribute_name a ≡ true → condition_attribute (spaces m ++ (a ++ spaces n)) ≡ Some a
attribute_read m a n h = rw (after_spaces-spaces m (a ++ spaces n), name_first a (spaces n) h) (name_read n a h)

-- ---- the whole

regroup : (b f i a n m : List ℕ) → (b ++ f) ++ 40 ∷ ((i ++ (a ++ n)) ++ 41 ∷ m) ≡ b ++ (f ++ 40 ∷ (i ++ (a ++ (n ++ 41 ∷ m))))
regroup b f i a n m = simp append_assoc

spelled : (s : List ℕ) (c : Condition) → condition_of s ≡ Some c → SpellsCondition s c
spelled s c h =
    let x = and_then_some (cut_at_byte 40 s) (λ x. option_and_then (λ y. condition_from (condition_kind_of (after_spaces x.0)) y.0 y.1) (cut_at_byte 41 x.1)) c h in
    let y = and_then_some (cut_at_byte 41 x.0.1) (λ y. condition_from (condition_kind_of (after_spaces x.0.0)) y.0 y.1) c x.2 in
    let k = and_then_some (condition_kind_of (after_spaces x.0.0)) (λ k. option_map (condition_on k) (if list_all is_space y.0.1 then condition_attribute y.0.0 else None)) c y.2 in
    let a = map_some (if list_all is_space y.0.1 then condition_attribute y.0.0 else None) (condition_on k.0) c k.2 in
    let i = if_some (list_all is_space y.0.1) (condition_attribute y.0.0) a.0 a.1 in
    let front = spaces_off x.0.0 in
    let name = kind_name (after_spaces x.0.0) k.0 k.1 in
    let inside = attribute_spelled y.0.0 a.0 i.1 in
    let tail = are_spaces y.0.1 i.0 in
    let outer : x.0.0 ≡ spaces front.0 ++ function_name k.0 = front.1 ∙ ap (λ t. spaces front.0 ++ t) name in
    let rest : x.0.1 ≡ (spaces inside.0 ++ (a.0 ++ spaces inside.1)) ++ 41 ∷ spaces tail.0 = cut_parts 41 x.0.1 y.0 y.1 ∙ (λ j. inside.2 j ++ 41 ∷ tail.1 j) in
    subst (SpellsCondition s) a.2 (record {
      before = front.0;
      in_front = inside.0;
      behind = inside.1;
      after = tail.0;
      is = cut_parts 40 s x.0 x.1 ∙ (λ j. outer j ++ 40 ∷ rest j) ∙ regroup (spaces front.0) (function_name k.0) (spaces inside.0) a.0 (spaces inside.1) (spaces tail.0);
      named = inside.3;
    })

read : (s : List ℕ) (c : Condition) → SpellsCondition s c → condition_of s ≡ Some c
read s c p =
    let f = function_name c.kind in
    let inside = spaces p.in_front ++ (c.attribute ++ spaces p.behind) in
    let grouped : s ≡ (spaces p.before ++ f) ++ 40 ∷ (inside ++ 41 ∷ spaces p.after) = p.is ∙ sym (regroup (spaces p.before) f (spaces p.in_front) c.attribute (spaces p.behind) (spaces p.after)) in
    let first = cut_first 40 (spaces p.before ++ f) (inside ++ 41 ∷ spaces p.after) (lacks-append 40 (spaces p.before) f (lacks-spaces 40 p.before refl) (name_lacks_bracket c.kind)) in
    let lacking = lacks-append 41 (spaces p.in_front) (c.attribute ++ spaces p.behind) (lacks-spaces 41 p.in_front refl)
    (lacks-append 41 c.attribute (spaces p.behind) (lacks_other is_condition_name_byte 41 c.attribute (name_passes c.attribute p.named) refl) (lacks-spaces 41 p.behind refl)) in
    let second = cut_first 41 inside (spaces p.after) lacking in
    rw (grouped, first, second, after_spaces-spaces p.before f, kind_read c.kind, spaces_are p.after, attribute_read p.in_front c.attribute p.behind p.named) refl

pub conditions_spelled : ConditionsAreSpelled
conditions_spelled s c = (spelled s c, read s c)
