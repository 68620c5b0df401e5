-- What is written is read back.
use Rattle.std.proofs.Common.{◌≡◌, ℕ, suc, ◌<◌, ◌≤◌, ◌^◌, max, ℤ, pos, negsuc, List, [], ◌∷◌, ◌++◌, Bool, true, false, Some, Less, Greater, IsUtf8, refl, sym, ap, ap₂, subst, ◌∙◌, arith, append-nil, lt-ltb}
use Rattle.std.proofs.lemmas.Cmp.{nat_list_cmp_total}
use Rattle.std.proofs.lemmas.Fmt.{IsAscii-signed}
use Rattle.std.proofs.lemmas.Str.{IsUtf8-append, IsUtf8-from_ascii, IsUtf8-nil, is_utf8-from_IsUtf8}
use Rattle.std.specs.Fmt.{signed_decimal}
use Rattle.std.specs.Int.{w64}
use Rattle.std.specs.List.{AllByRecursion}
use Rattle.std.specs.List.Sorted.{IsStrictlySortedBy}
use Rattle.std.specs.Ordering.{ordering_reverse}
use Rattle.std.specs.Prelude.{option_and_then, FitsSigned, codes}
use Rattle.std.specs.Str.{is_utf8}
use Rattle.json.specs.Json as json
use Rattle.json.specs.Lex.{tokens}
use Rattle.json.specs.Print.{print}
use Rattle.json.specs.Token.{Token}
use Rattle.json.specs.Tree as tree
use Rattle.json.proofs.Printed.Decimals.{IsNumber-signed_decimal}
use Rattle.json.proofs.Printed.Tokens.{tokens-print}
use Rattle.json.proofs.Printed.Trees.{value-json_tokens, ArePrintable-json_tokens}
use Rattle.json.proofs.Printed.Utf8.{IsUtf8-quoted, IsUtf8-are_ascii}
use Rattle.serde_json.specs.Data as source
use Rattle.serde_json.specs.Find.{as_i64, of_integer}
use Rattle.serde_json.specs.Read.{number_of, of_json, of_items, of_members}
use Rattle.serde_json.specs.Read as source_text
use Rattle.serde_json.proofs.Numbers.{number_of-decimal, number_of-negative}
use Rattle.json_tree.specs.Data.{Data, null, boolean, whole, text, list, fields, Items, no_items, item, Members, no_members, member, depth, items_depth, members_depth}
use Rattle.json_tree.specs.Fields.{text_cmp}
use Rattle.json_tree.specs.Proper.{names, IsProper, ItemsAreProper, MembersAreProper}
use Rattle.json_tree.specs.Reading.{source_of, read_json, whole_of, whole_items, whole_members}
use Rattle.json_tree.specs.Tokens.{tokens_of, items_tokens, members_tokens}
use Rattle.json_tree.specs.Written.{comma_if, quoted, text_of, items_text, members_text}
use Rattle.json_tree.proofs.Texts.{print-tokens_of, quoted_same}

-- ---- the value as the grammar's, and as `serde_json`'s

abbrev mutual
  grammar : Data → json.Json
  grammar null = json.null
  grammar (boolean b) = json.boolean b
  grammar (whole z) = json.number (signed_decimal z)
  grammar (text s) = json.string s
  grammar (list ds) = json.array (grammar_items ds)
  grammar (fields ms) = json.object (grammar_members ms)

  grammar_items : Items → json.Items
  grammar_items no_items = json.no_items
  grammar_items (item d ds) = json.item (grammar d) (grammar_items ds)

  grammar_members : Members → json.Members
  grammar_members no_members = json.no_members
  grammar_members (member k d ms) = json.member k (grammar d) (grammar_members ms)

abbrev mutual
  as_source : Data → source.Data
  as_source null = source.null
  as_source (boolean b) = source.boolean b
  as_source (whole z) = source.number (of_integer z)
  as_source (text s) = source.string s
  as_source (list ds) = source.array (source_items ds)
  as_source (fields ms) = source.object (source_members ms)

  source_items : Items → source.Items
  source_items no_items = source.no_items
  source_items (item d ds) = source.item (as_source d) (source_items ds)

  source_members : Members → source.Members
  source_members no_members = source.no_members
  source_members (member k d ms) = source.member k (as_source d) (source_members ms)

mutual
  tokens_grammar : (d : Data) → tokens_of d ≡ tree.json_tokens (grammar d)
  tokens_grammar null = refl
  tokens_grammar (boolean b) = refl
  tokens_grammar (whole z) = refl
  tokens_grammar (text s) = refl
  tokens_grammar (list ds) = ap (λ ts. Token.begin_array ∷ ts) (items_grammar ds)
  tokens_grammar (fields ms) = ap (λ ts. Token.begin_object ∷ ts) (members_grammar ms)

  items_grammar : (ds : Items) → items_tokens ds ≡ tree.items_tokens (grammar_items ds)
  items_grammar no_items = refl
  items_grammar (item d ds) = ap₂ (λ (ts us : List Token). ts ++ us) (tokens_grammar d) (items_grammar ds)

  members_grammar : (ms : Members) → members_tokens ms ≡ tree.members_tokens (grammar_members ms)
  members_grammar no_members = refl
  members_grammar (member k d ms) = ap₂ (λ (ts us : List Token). Token.key k ∷ (ts ++ us)) (tokens_grammar d) (members_grammar ms)

mutual
  depth_grammar : (d : Data) → tree.depth (grammar d) ≡ depth d
  depth_grammar null = refl
  depth_grammar (boolean b) = refl
  depth_grammar (whole z) = refl
  depth_grammar (text s) = refl
  depth_grammar (list ds) = ap suc (items_depth_grammar ds)
  depth_grammar (fields ms) = ap suc (members_depth_grammar ms)

  items_depth_grammar : (ds : Items) → tree.items_depth (grammar_items ds) ≡ items_depth ds
  items_depth_grammar no_items = refl
  items_depth_grammar (item d ds) = ap₂ max (depth_grammar d) (items_depth_grammar ds)

  members_depth_grammar : (ms : Members) → tree.members_depth (grammar_members ms) ≡ members_depth ms
  members_depth_grammar no_members = refl
  members_depth_grammar (member k d ms) = ap₂ max (depth_grammar d) (members_depth_grammar ms)

mutual
  has_numbers : (d : Data) → IsProper d → tree.HasNumbers (grammar d)
  has_numbers null h = tt
  has_numbers (boolean b) h = tt
  has_numbers (whole z) h = IsNumber-signed_decimal z h.sfits
  has_numbers (text s) h = tt
  has_numbers (list ds) h = items_have_numbers ds h
  has_numbers (fields ms) h = members_have_numbers ms h.1

  items_have_numbers : (ds : Items) → ItemsAreProper ds → tree.ItemsHaveNumbers (grammar_items ds)
  items_have_numbers no_items h = tt
  items_have_numbers (item d ds) h = (has_numbers d h.0, items_have_numbers ds h.1)

  members_have_numbers : (ms : Members) → MembersAreProper ms → tree.MembersHaveNumbers (grammar_members ms)
  members_have_numbers no_members h = tt
  members_have_numbers (member k d ms) h = (has_numbers d h.1, members_have_numbers ms h.2)

-- ---- the grammar's value is read as `serde_json`'s

number_read : (z : ℤ) → FitsSigned w64 z → number_of (signed_decimal z) ≡ Some (of_integer z)
number_read (pos n) h = number_of-decimal n (omega (arith, h.sfits))
number_read (negsuc n) h = number_of-negative n h.sfits

-- members, and then others
abbrev then_members : source.Members → Members → source.Members
then_members source.no_members ms = source_members ms
then_members (source.member k d done) ms = source.member k d (then_members done ms)

abbrev source_names : source.Members → List (List ℕ)
source_names source.no_members = []
source_names (source.member k d ms) = k ∷ source_names ms

abbrev with_last : source.Members → List ℕ → source.Data → source.Members
with_last source.no_members k d = source.member k d source.no_members
with_last (source.member l e ms) k d = source.member l e (with_last ms k d)

below_one : (name : List ℕ) (before : List (List ℕ)) (k : List ℕ) (later : List (List ℕ)) → AllByRecursion (λ y. text_cmp name y ≡ Less) (before ++ k ∷ later) → text_cmp name k ≡ Less
below_one name [] k later h = h.0
below_one name (x ∷ before) k later h = below_one name before k later h.1

put_last : (done : source.Members) (k : List ℕ) (d : source.Data) (later : List (List ℕ)) → IsStrictlySortedBy text_cmp (source_names done ++ k ∷ later) → source.put k d done ≡ with_last done k d
unfolding IsStrictlySortedBy
put_last source.no_members k d later h = refl
put_last (source.member l e done) k d later h =
    let above : text_cmp k l ≡ Greater = nat_list_cmp_total.antisymm k l ∙ ap ordering_reverse (below_one l (source_names done) k later h.0) in
    rw above (ap (source.member l e) (put_last done k d later h.1))

names_last : (done : source.Members) (k : List ℕ) (d : source.Data) (later : List (List ℕ)) → source_names (with_last done k d) ++ later ≡ source_names done ++ k ∷ later
names_last source.no_members k d later = refl
names_last (source.member l e done) k d later = ap (λ ks. l ∷ ks) (names_last done k d later)

then_last : (done : source.Members) (k : List ℕ) (d : Data) (ms : Members) → then_members (with_last done k (as_source d)) ms ≡ then_members done (member k d ms)
then_last source.no_members k d ms = refl
then_last (source.member l e done) k d ms = ap (source.member l e) (then_last done k d ms)

then_none : (done : source.Members) → then_members done no_members ≡ done
then_none source.no_members = refl
then_none (source.member l e done) = ap (source.member l e) (then_none done)

mutual
  grammar_read : (d : Data) → IsProper d → of_json (grammar d) ≡ Some (as_source d)
  grammar_read null h = refl
  grammar_read (boolean b) h = refl
  grammar_read (whole z) h = rw (number_read z h)
  grammar_read (text s) h = refl
  grammar_read (list ds) h = rw (items_read ds h)
  grammar_read (fields ms) h = rw (members_read ms source.no_members h.0 h.1)

  items_read : (ds : Items) → ItemsAreProper ds → of_items (grammar_items ds) ≡ Some (source_items ds)
  items_read no_items h = refl
  items_read (item d ds) h = rw (grammar_read d h.0, items_read ds h.1)

  members_read : (ms : Members) (done : source.Members) → IsStrictlySortedBy text_cmp (source_names done ++ names ms) → MembersAreProper ms → of_members (grammar_members ms) done ≡ Some (then_members done ms)
  members_read no_members done sorted h = ap Some (sym (then_none done))
  members_read (member k d ms) done sorted h =
      let last : source.put k (as_source d) done ≡ with_last done k (as_source d) = put_last done k (as_source d) (names ms) sorted in
      let sorted_then = subst (IsStrictlySortedBy text_cmp) (sym (names_last done k (as_source d) (names ms))) sorted in
      rw (grammar_read d h.1, last) (members_read ms (with_last done k (as_source d)) sorted_then h.2 ∙ ap Some (then_last done k d ms))

-- ---- `serde_json`'s value is whole

whole_again : (z : ℤ) → FitsSigned w64 z → as_i64 (of_integer z) ≡ Some z
whole_again (pos n) h = let small : n < 2 ^ 63 = h.sfits in rw (lt-ltb n (2 ^ 63) small)
whole_again (negsuc n) h = refl

mutual
  source_whole : (d : Data) → IsProper d → whole_of (as_source d) ≡ Some d
  source_whole null h = refl
  source_whole (boolean b) h = refl
  source_whole (whole z) h = rw (whole_again z h)
  source_whole (text s) h = refl
  source_whole (list ds) h = rw (source_items_whole ds h)
  source_whole (fields ms) h = rw (source_members_whole ms h.1)

  source_items_whole : (ds : Items) → ItemsAreProper ds → whole_items (source_items ds) ≡ Some ds
  source_items_whole no_items h = refl
  source_items_whole (item d ds) h = rw (source_whole d h.0, source_items_whole ds h.1)

  source_members_whole : (ms : Members) → MembersAreProper ms → whole_members (source_members ms) ≡ Some ms
  source_members_whole no_members h = refl
  source_members_whole (member k d ms) h = rw (source_whole d h.1, source_members_whole ms h.2)

-- ---- the text is UTF-8

quoted_utf8 : (s : List ℕ) → IsUtf8 s → IsUtf8 (quoted s)
quoted_utf8 s h = subst IsUtf8 (quoted_same s) (IsUtf8-quoted s h)

front : (x : ℕ) (xs : List ℕ) → IsUtf8 (x ∷ []) → IsUtf8 xs → IsUtf8 (x ∷ xs)
front x xs h k = IsUtf8-append (x ∷ []) xs h k

comma_utf8 : (later : Bool) → IsUtf8 (comma_if later)
comma_utf8 true = IsUtf8-are_ascii (44 ∷ []) refl
comma_utf8 false = IsUtf8-nil

mutual
  text_utf8 : (d : Data) → IsProper d → IsUtf8 (text_of d)
  text_utf8 null h = IsUtf8-are_ascii (codes "null") refl
  text_utf8 (boolean true) h = IsUtf8-are_ascii (codes "true") refl
  text_utf8 (boolean false) h = IsUtf8-are_ascii (codes "false") refl
  text_utf8 (whole z) h = IsUtf8-from_ascii (signed_decimal z) (IsAscii-signed z h.sfits)
  text_utf8 (text s) h = quoted_utf8 s h
  text_utf8 (list ds) h = front 91 _ (IsUtf8-are_ascii (91 ∷ []) refl) (items_utf8 false ds h)
  text_utf8 (fields ms) h = front 123 _ (IsUtf8-are_ascii (123 ∷ []) refl) (members_utf8 false ms h.1)

  items_utf8 : (later : Bool) (ds : Items) → ItemsAreProper ds → IsUtf8 (items_text later ds)
  items_utf8 true no_items h = IsUtf8-are_ascii (93 ∷ []) refl
  items_utf8 false no_items h = IsUtf8-are_ascii (93 ∷ []) refl
  items_utf8 later (item d ds) h = IsUtf8-append (comma_if later) _ (comma_utf8 later) (IsUtf8-append (text_of d) _ (text_utf8 d h.0) (items_utf8 true ds h.1))

  members_utf8 : (later : Bool) (ms : Members) → MembersAreProper ms → IsUtf8 (members_text later ms)
  members_utf8 true no_members h = IsUtf8-are_ascii (125 ∷ []) refl
  members_utf8 false no_members h = IsUtf8-are_ascii (125 ∷ []) refl
  members_utf8 later (member k d ms) h =
      let value = IsUtf8-append (text_of d) _ (text_utf8 d h.1) (members_utf8 true ms h.2) in
      IsUtf8-append (comma_if later) _ (comma_utf8 later) (IsUtf8-append (quoted k) _ (quoted_utf8 k h.0) (front 58 _ (IsUtf8-are_ascii (58 ∷ []) refl) value))

-- ---- the round trip

tokens_text : (d : Data) → IsProper d → tokens (text_of d) ≡ tree.json_tokens (grammar d)
tokens_text d h =
    let printed : text_of d ≡ print (tree.json_tokens (grammar d)) = sym (print-tokens_of d) ∙ ap print (tokens_grammar d) in
    ap tokens printed ∙ tokens-print (tree.json_tokens (grammar d)) (ArePrintable-json_tokens (grammar d) (has_numbers d h))

pub reads_back : (d : Data) → IsProper d → depth d ≤ 127 → read_json (text_of d) ≡ Some d
reads_back d h shallow =
    let j = grammar d in
    let parsed : json.value 127 (tokens (text_of d)) ≡ Some (j, []) =
    ap (json.value 127) (tokens_text d h ∙ sym (append-nil _)) ∙ value-json_tokens j 127 [] (omega (arith, depth_grammar d)) in
    let read : source_text.read (text_of d) ≡ Some (as_source d) =
    ap (λ r. option_and_then of_json (option_and_then (λ p. json.if_last p.0 p.1) r)) parsed ∙ grammar_read d h in
    let utf8 : is_utf8 (text_of d) ≡ true = is_utf8-from_IsUtf8 (text_of d) (text_utf8 d h) in
    let source : source_of (text_of d) ≡ Some (as_source d) = rw utf8 read in
    ap (option_and_then whole_of) source ∙ source_whole d h

pub tell_apart : (d e : Data) → IsProper d → IsProper e → depth d ≤ 127 → depth e ≤ 127 → text_of d ≡ text_of e → d ≡ e
tell_apart d e h k p q same =
    let both : Some d ≡ Some e = sym (reads_back d h p) ∙ ap read_json same ∙ reads_back e k q in
    cc both
