-- The executions gone through in the order of their names.
use Rattle.std.proofs.Common.{◌≡◌, ℕ, arith, Bool, true, false, ◌&&◌, not, cond, Ordering, Less, Equal, Greater, is_eq, List, [], ◌∷◌, ◌++◌, refl, ap, sym, subst, ◌∙◌, Option, None, Some, Global, inl, inr}
use Rattle.std.specs.Prelude.{◌⊎◌, IsTrue, IfOk, Result, filter}
use Rattle.std.specs.Bool.{OnTrue}
use Rattle.std.specs.Ordering.{is_le, ordering_reverse}
use Rattle.std.specs.BTreeMap.{BTreeMap, is_at, get_by_text}
use Rattle.std.specs.Cmp.Lexicographic.{slice_cmp}
use Rattle.std.specs.List.{AllByRecursion}
use Rattle.std.specs.List.Sorted.{IsStrictlySortedBy}
use Rattle.std.specs.Map.{lookup, keys_of}
use Rattle.std.specs.Ordering.{nat_cmp}
use Rattle.std.specs.Str.{bytes_eq}
use Rattle.std.specs.String.{string_bytes, string_cmp}
use Rattle.std.specs.declared.string.String.{String}
use Rattle.std.proofs.lemmas.Cmp.{nat_list_cmp_total}
use Rattle.std.proofs.lemmas.Map.Text.{is_eq-slice_cmp}
use Rattle.std.proofs.lemmas.Slice.Eq.{bytes_eq-Decides}
use Rattle.json_tree.specs.declared.tree.Json.{Json}
use Rattle.branch_tree.specs.Fault.{Fault}
use Rattle.branch_tree.specs.Frame.{Frame}
use Rattle.branch_tree.specs.Phase.TheVariants.{Done, Failed}
use Rattle.branch_tree.specs.First.{IsFirstFree, NoneBeforePath, is_free, thread_under, path_cmp, is_free_to_move}
use Rattle.branch_tree.specs.FlatMap.{FrameMap, IsTree, branch_count}
use Rattle.branch_tree.specs.Laws.{BelowIsParked}
use Rattle.branch_tree.specs.Paths.{Path}
use Rattle.branch_tree.specs.Bounds.{place_of}
use Rattle.branch_tree.specs.Ready.{readiness_of, readiness_at, begins_under}
use Rattle.branch_tree.specs.Tree.{Rows, frame_at}
use Rattle.branch_tree.proofs.FirstOf.{none_before as none_before_root}
use Rattle.step_names.specs.Order.{thread_cmp}
use Rattle.step_names.specs.Thread.{Thread, IsThread, execution, is_name}
use Rattle.saved_steps.specs.First.{free, AreQuiet, IsFirstReady, IsGoneBy, NoneBeforeThread, NoneFreeBefore}
use Rattle.saved_steps.specs.Held.{placed, tree_in, rows_at, frames_in}

by_bool : (b : Bool) (P : Type 0) → (b ≡ true → P) → (b ≡ false → P) → P
by_bool true P = λ yes no. yes refl
by_bool false P = λ yes no. no refl

pub when_so : (b : Bool) (P Q : Type 0) → (P → Q) → OnTrue b P → OnTrue b Q
when_so true P Q f h = f h
when_so false P Q f h = h

-- ---- executions that have ended

-- where nothing stands under a root that has no move, no thread is free
pub none_free : (frames : FrameMap) (f : Frame) (base : Thread) (passed : Thread → Bool) → BelowIsParked → IsTree frames → frames [] ≡ Some f → is_free_to_move (readiness_of true frames (Some f)) ≡ false
    → branch_count f.phase ≡ 0 → IsFirstFree true frames base passed None
none_free frames f base passed parked tree root still alone [] named = rw (root, still) refl
none_free frames f base passed parked tree root still alone (b ∷ p) named = by (frames ((b ∷ p) ++ [])) refl
  where
    by : (o : Option Frame) → frames ((b ∷ p) ++ []) ≡ o → (is_free_to_move (readiness_of (begins_under true frames (place_of (b ∷ p))) (λ q. frames ((b ∷ p) ++ q)) o) && not (passed (thread_under base (b ∷ p)))) ≡ false
    by None e = refl
    by (Some g) e =
        let k = parked frames [] (p ++ []) b g tree e in
        let same : Some k.0 ≡ Some f = sym k.1 ∙ root in
        let it : k.0 ≡ f = cc in
        let many = k.3 in
        absurd (omega (arith, many, ap (λ (x : Frame). branch_count x.phase) it ∙ alone))

pub ended_free : (frames : FrameMap) (f : Frame) (base : Thread) (passed : Thread → Bool) → BelowIsParked → IsTree frames → frames [] ≡ Some f
    → ((output : Json) × (f.phase ≡ Done output)) ⊎ ((fault : Fault) × (f.phase ≡ Failed fault)) → IsFirstFree true frames base passed None
ended_free frames f base passed parked tree root (inl d) = let e = d.1 in none_free frames f base passed parked tree root (rw e refl) (ap branch_count e)
ended_free frames f base passed parked tree root (inr d) = let e = d.1 in none_free frames f base passed parked tree root (rw e refl) (ap branch_count e)

pub nameless : (frames : FrameMap) (exec : List ℕ) (passed : Thread → Bool) → (IsTrue (is_name exec) → ⊥) → IsFirstFree true frames (execution exec) passed None
nameless frames exec passed none p named = absurd (none named.named)

pub treeless : (base : Thread) (passed : Thread → Bool) → IsFirstFree true (rows_at None) base passed None
treeless base passed p named = refl

pub in_place : {E : Type 0} (r : Result (Option Thread) E) (place : Option Rows) (rows : Rows) (name base : Thread) (passed : Thread → Bool) → place ≡ Some rows → name ≡ base
    → IfOk r (IsFirstFree true (frame_at rows) name passed) → IfOk r (IsFirstFree true (rows_at place) base passed)
in_place r place rows name base passed there same h =
    subst (λ (o : Option Rows). IfOk r (IsFirstFree true (rows_at o) base passed)) (sym there) (subst (λ (t : Thread). IfOk r (IsFirstFree true (frame_at rows) t passed)) same h)

-- ---- before a thread

equal_names : (a b : List ℕ) → a ≡ b → slice_cmp nat_cmp a b ≡ Equal
equal_names a b e = by (slice_cmp nat_cmp a b) refl (is_eq-slice_cmp a b ∙ (bytes_eq-Decides a b).1 e)
  where
    by : (o : Ordering) → slice_cmp nat_cmp a b ≡ o → is_eq (slice_cmp nat_cmp a b) ≡ true → slice_cmp nat_cmp a b ≡ Equal
    by Less h e = let clash : is_eq Less ≡ true = rw h at e in cc
    by Equal h e = h
    by Greater h e = let clash : is_eq Greater ≡ true = rw h at e in cc

-- no thread of an execution before its own is free
pub before_name : (frames : Thread → Option Frame) (passed : Thread → Bool) (from : List ℕ) (path : Path) → NoneBeforeThread frames passed from path → NoneFreeBefore frames passed from
before_name frames passed from path none t named less = none t named (rw less refl)

-- the first thread of an execution comes after those of executions before it alone
pub before_first : (frames : Thread → Option Frame) (passed : Thread → Bool) (name : List ℕ) → NoneFreeBefore frames passed name → NoneBeforeThread frames passed name []
before_first frames passed name none t named less = by (slice_cmp nat_cmp t.exec name) refl
  where
    by : (o : Ordering) → slice_cmp nat_cmp t.exec name ≡ o → free frames passed t ≡ false
    by Less e = none t named e
    by Equal e = let h : path_cmp t.path [] ≡ Less = rw e at less in absurd (none_before_root t.path h)
    by Greater e = let clash : Greater ≡ Less = rw e at less in cc

-- nor any before its path in its own execution; in another one the search begins with all
pub none_under : (m : BTreeMap (String Global) (Option Rows)) (passed : Thread → Bool) (exec : List ℕ) (v : Option Rows) → tree_in m exec ≡ v → (from : List ℕ) (path left : Path)
    → NoneBeforeThread (frames_in m) passed from path → ((exec ≡ from) × (left ≡ path)) ⊎ (left ≡ []) → NoneBeforePath true (rows_at v) (execution exec) passed left
none_under m passed exec v tree from path left none (inl at) q named less =
    let same : slice_cmp nat_cmp exec from ≡ Equal = equal_names exec from at.0 in
    let before : path_cmp q path ≡ Less = subst (λ (p : Path). path_cmp q p ≡ Less) at.1 less in
    sym (ap (λ (o : Option Rows). is_free_to_move (readiness_at (rows_at o) q) && not (passed (record { exec = exec; path = q }))) tree)
    ∙ none (record { exec = exec; path = q }) named (rw same before)
none_under m passed exec v tree from path left none (inr all) q named less = absurd (none_before_root q (subst (λ (p : Path). path_cmp q p ≡ Less) all less))

pub of_name : (a b c : List ℕ) (P Q : Type 0) → b ≡ c → ((a ≡ b) × P) ⊎ Q → ((a ≡ c) × P) ⊎ Q
of_name a b c P Q e (inl h) = inl (h.0 ∙ e, h.1)
of_name a b c P Q e (inr h) = inr h

-- ---- one execution after another

abbrev Entries : Type 0
Entries = List (String Global × Option Rows)

-- the place that these have for an execution
abbrev among : Entries → List ℕ → Option (Option Rows)
among es exec = lookup (is_at (λ (k : String Global). slice_cmp nat_cmp exec (string_bytes k))) es

-- none of those after a name is at or before it
after_all : (exec : List ℕ) (es : Entries) → AllByRecursion (λ (k : String Global). slice_cmp nat_cmp exec (string_bytes k) ≡ Less) (keys_of es) → among es exec ≡ None
after_all exec [] h = refl
after_all exec (e ∷ es) h = let less = h.0 in rw less (after_all exec es h.1)

all_after : (exec : List ℕ) (k : String Global) (ks : List (String Global)) → (slice_cmp nat_cmp exec (string_bytes k) ≡ Greater → ⊥) → AllByRecursion (λ y. string_cmp k y ≡ Less) ks
    → AllByRecursion (λ (y : String Global). slice_cmp nat_cmp exec (string_bytes y) ≡ Less) ks
all_after exec k [] h all = tt
all_after exec k (y ∷ ks) h all = (by (slice_cmp nat_cmp exec (string_bytes k)) refl, all_after exec k ks h all.1)
  where
    by : (o : Ordering) → slice_cmp nat_cmp exec (string_bytes k) ≡ o → slice_cmp nat_cmp exec (string_bytes y) ≡ Less
    by Less e = nat_list_cmp_total.trans exec (string_bytes k) (string_bytes y) e all.0
    by Equal e = nat_list_cmp_total.congr exec (string_bytes k) (string_bytes y) e ∙ all.0
    by Greater e = absurd (h e)

pub same_exec : (a b : List ℕ) → is_eq (slice_cmp nat_cmp a b) ≡ true → a ≡ b
same_exec a b h = (bytes_eq-Decides a b).0 (sym (is_eq-slice_cmp a b) ∙ h)

-- ---- those from a name on

-- whether a name is not before another
abbrev is_from : List ℕ → List ℕ → Bool
is_from q exec = is_le (slice_cmp nat_cmp q exec)

abbrev from : List ℕ → Entries → Entries
from q es = filter (λ e. is_from q (string_bytes e.0) && true) es

abbrev NoneIs : (A : Type 0) → Option A → Type 0
NoneIs A o = o ≡ None

cond_none : {A : Type 0} (b : Bool) → NoneIs A (cond b None None)
cond_none true = refl
cond_none false = refl

-- of these the place of an execution is among them where its name is not before that one
among_from : (q exec : List ℕ) (es : Entries) → among (from q es) exec ≡ cond (is_from q exec) (among es exec) None
among_from q exec [] = sym (cond_none (is_from q exec))
among_from q exec ((k, v) ∷ es) = by (among_from q exec es) (is_eq (slice_cmp nat_cmp exec (string_bytes k))) refl (is_from q (string_bytes k)) refl
  where
    by : among (from q es) exec ≡ cond (is_from q exec) (among es exec) None
        → (b : Bool) → is_eq (slice_cmp nat_cmp exec (string_bytes k)) ≡ b → (c : Bool) → is_from q (string_bytes k) ≡ c
        → among (from q ((k, v) ∷ es)) exec ≡ cond (is_from q exec) (among ((k, v) ∷ es) exec) None
    by rest true e true l =
        let le : is_from q exec ≡ true = ap (is_from q) (same_exec exec (string_bytes k) e) ∙ l in
        rw (l, e, le) refl
    by rest true e false l =
        let le : is_from q exec ≡ false = ap (is_from q) (same_exec exec (string_bytes k) e) ∙ l in
        let none : among (from q es) exec ≡ None = rest ∙ ap (λ (b : Bool). cond b (among es exec) None) le in
        rw (l, le) none
    by rest false e true l = rw (l, e) rest
    by rest false e false l = rw (l, e) rest

all_from : (P : String Global → Type 0) (q : List ℕ) (es : Entries) → AllByRecursion P (keys_of es) → AllByRecursion P (keys_of (from q es))
all_from P q [] h = tt
all_from P q ((k, v) ∷ es) h = by (all_from P q es h.1) (is_from q (string_bytes k)) refl
  where
    by : AllByRecursion P (keys_of (from q es)) → (b : Bool) → is_from q (string_bytes k) ≡ b → AllByRecursion P (keys_of (from q ((k, v) ∷ es)))
    by rest true e = rw e (h.0, rest)
    by rest false e = rw e rest

sorted_cons : (q : List ℕ) (k : String Global) (v : Option Rows) (es : Entries) → AllByRecursion (λ y. string_cmp k y ≡ Less) (keys_of (from q es)) → IsStrictlySortedBy string_cmp (keys_of (from q es))
    → (b : Bool) → is_from q (string_bytes k) ≡ b → IsStrictlySortedBy string_cmp (keys_of (from q ((k, v) ∷ es)))
unfolding IsStrictlySortedBy
sorted_cons q k v es first rest true e = rw e (first, rest)
sorted_cons q k v es first rest false e = rw e rest

ordered_from : (q : List ℕ) (es : Entries) → IsStrictlySortedBy string_cmp (keys_of es) → IsStrictlySortedBy string_cmp (keys_of (from q es))
unfolding IsStrictlySortedBy
ordered_from q [] h = tt
ordered_from q ((k, v) ∷ es) h = sorted_cons q k v es (all_from (λ y. string_cmp k y ≡ Less) q es h.0) (ordered_from q es h.1) (is_from q (string_bytes k)) refl

not_less : (a b : List ℕ) → (slice_cmp nat_cmp a b ≡ Less → ⊥) → is_from b a ≡ true
not_less a b h = by (slice_cmp nat_cmp a b) refl
  where
    by : (o : Ordering) → slice_cmp nat_cmp a b ≡ o → is_from b a ≡ true
    by Less e = absurd (h e)
    by Equal e = ap is_le (nat_list_cmp_total.antisymm b a ∙ ap ordering_reverse e)
    by Greater e = ap is_le (nat_list_cmp_total.antisymm b a ∙ ap ordering_reverse e)

module _ (m : BTreeMap (String Global) (Option Rows)) (passed : Thread → Bool) where
  -- no thread of an execution that is not among those left is free
  pub record IsGone (rest : Entries) : Type 0 where
    pub ordered : IsStrictlySortedBy string_cmp (keys_of rest)
    pub held : (exec : List ℕ) (place : Option Rows) → among rest exec ≡ Some place → get_by_text m exec ≡ Some place
    pub gone : (t : Thread) → IsThread t → among rest t.exec ≡ None → free (frames_in m) passed t ≡ false

  -- those before a name, none of them being free
  pub gone_before : (q : List ℕ) (es : Entries) → es ≡ from q m.entries → IsStrictlySortedBy string_cmp (keys_of m.entries) → NoneFreeBefore (frames_in m) passed q → IsGone es
  gone_before q es e ordered quiet = subst IsGone (sym e) (record {
    ordered = ordered_from q m.entries ordered;
    held = λ exec place h. there exec place (is_from q exec) refl (sym (among_from q exec m.entries) ∙ h);
    gone = λ t named h. by t named (slice_cmp nat_cmp t.exec q) refl (sym (among_from q t.exec m.entries) ∙ h);
  })
    where
      there : (exec : List ℕ) (place : Option Rows) (b : Bool) → is_from q exec ≡ b → cond (is_from q exec) (among m.entries exec) None ≡ Some place → get_by_text m exec ≡ Some place
      there exec place true l h = rw l at h
      there exec place false l h = let clash : None ≡ Some place = rw l at h in cc

      at : (t : Thread) → is_from q t.exec ≡ true → cond (is_from q t.exec) (among m.entries t.exec) None ≡ None → free (frames_in m) passed t ≡ false
      at t l h = let none : get_by_text m t.exec ≡ None = rw l at h in rw none refl

      by : (t : Thread) → IsThread t → (o : Ordering) → slice_cmp nat_cmp t.exec q ≡ o → cond (is_from q t.exec) (among m.entries t.exec) None ≡ None → free (frames_in m) passed t ≡ false
      by t named Less e h = quiet t named e
      by t named Equal e h = at t (not_less t.exec q (λ l. let clash = sym l ∙ e in cc)) h
      by t named Greater e h = at t (not_less t.exec q (λ l. let clash = sym l ∙ e in cc)) h

  module _ (k : String Global) (v : Option Rows) (rest : Entries) (i : IsGone ((k, v) ∷ rest)) where
    pub after_it : AllByRecursion (λ y. string_cmp k y ≡ Less) (keys_of rest) × IsStrictlySortedBy string_cmp (keys_of rest)
    unfolding IsStrictlySortedBy
    after_it = i.ordered

    later : (exec : List ℕ) → (slice_cmp nat_cmp exec (string_bytes k) ≡ Greater → ⊥) → among rest exec ≡ None
    later exec h = after_all exec rest (all_after exec k (keys_of rest) h after_it.0)

    not_greater : (o : Ordering) → is_eq o ≡ true → o ≡ Greater → ⊥
    not_greater Less h e = cc
    not_greater Equal h e = cc
    not_greater Greater h e = cc

    tree_here : (exec : List ℕ) → is_eq (slice_cmp nat_cmp exec (string_bytes k)) ≡ true → tree_in m exec ≡ v
    tree_here exec h = ap placed (i.held exec v (rw h refl))

    pub tree_next : tree_in m (string_bytes k) ≡ v
    tree_next = tree_here (string_bytes k) (is_eq-slice_cmp (string_bytes k) (string_bytes k) ∙ (bytes_eq-Decides (string_bytes k) (string_bytes k)).1 refl)

    free_here : (t : Thread) → is_eq (slice_cmp nat_cmp t.exec (string_bytes k)) ≡ true → free (frames_in m) passed t ≡ is_free true (rows_at v) (execution (string_bytes k)) passed t.path
    free_here t h =
        let same = same_exec t.exec (string_bytes k) h in
        let tree = tree_here t.exec h in
        ap (λ (o : Option Rows). is_free_to_move (readiness_at (rows_at o) t.path) && not (passed t)) tree
        ∙ ap (λ (exec : List ℕ). is_free_to_move (readiness_at (rows_at v) t.path) && not (passed (record { exec = exec; path = t.path }))) same

    named_here : (t : Thread) → is_eq (slice_cmp nat_cmp t.exec (string_bytes k)) ≡ true → IsThread t → IsThread (thread_under (execution (string_bytes k)) t.path)
    named_here t h named = subst (λ (exec : List ℕ). IsThread (record { exec = exec; path = t.path })) (same_exec t.exec (string_bytes k) h) named

    pub goes_by : IsFirstFree true (rows_at v) (execution (string_bytes k)) passed None → IsGone rest
    goes_by none = record {
      ordered = after_it.1;
      held = λ exec place h.
          by_bool (is_eq (slice_cmp nat_cmp exec (string_bytes k))) (get_by_text m exec ≡ Some place)
          (λ e. let clash = sym (later exec (not_greater (slice_cmp nat_cmp exec (string_bytes k)) e)) ∙ h in cc)
          (λ e. i.held exec place (rw e h));
      gone = λ t named h.
          by_bool (is_eq (slice_cmp nat_cmp t.exec (string_bytes k))) (free (frames_in m) passed t ≡ false)
          (λ e. free_here t e ∙ none t.path (named_here t e named))
          (λ e. i.gone t named (rw e h));
    }

    pub is_found : (t : Thread) → IsThread t → IsFirstFree true (rows_at v) (execution (string_bytes k)) passed (Some t) → IsFirstReady (frames_in m) passed (Some t)
    is_found t named found = (named, free_here t at_it ∙ ap (is_free true (rows_at v) (execution (string_bytes k)) passed) path ∙ found.2, before)
      where
        exec : t.exec ≡ string_bytes k
        exec = ap (λ (x : Thread). x.exec) found.1

        path : t.path ≡ found.0
        path = ap (λ (x : Thread). x.path) found.1

        equal : (a b : List ℕ) → a ≡ b → is_eq (slice_cmp nat_cmp a b) ≡ true
        equal a b e = is_eq-slice_cmp a b ∙ (bytes_eq-Decides a b).1 e

        at_it : is_eq (slice_cmp nat_cmp t.exec (string_bytes k)) ≡ true
        at_it = equal t.exec (string_bytes k) exec

        by : (u : Thread) → IsThread u → (o : Ordering) → slice_cmp nat_cmp u.exec t.exec ≡ o → thread_cmp u t ≡ Less → free (frames_in m) passed u ≡ false
        by u is Less e h =
            let less : slice_cmp nat_cmp u.exec (string_bytes k) ≡ Less = subst (λ (x : List ℕ). slice_cmp nat_cmp u.exec x ≡ Less) exec e in
            i.gone u is (rw less (later u.exec (λ g. let clash = sym less ∙ g in cc)))
        by u is Equal e h =
            let here : is_eq (slice_cmp nat_cmp u.exec (string_bytes k)) ≡ true = ap is_eq (subst (λ (x : List ℕ). slice_cmp nat_cmp u.exec x ≡ Equal) exec e) in
            let less : path_cmp u.path t.path ≡ Less = rw e at h in
            free_here u here ∙ found.3 u.path (named_here u here is) (subst (λ (p : Path). path_cmp u.path p ≡ Less) path less)
        by u is Greater e h = let clash : Greater ≡ Less = rw e at h in cc

        before : (u : Thread) → IsThread u → thread_cmp u t ≡ Less → free (frames_in m) passed u ≡ false
        before u is h = by u is (slice_cmp nat_cmp u.exec t.exec) refl h

  pub all_gone : IsGone [] → IsFirstReady (frames_in m) passed None
  all_gone i t named = i.gone t named refl

-- ---- the execution that is awake

pub apart : (exec e : List ℕ) → slice_cmp nat_cmp e exec ≡ Less → bytes_eq exec e ≡ false
apart exec e less = by (bytes_eq exec e) refl
  where
    by : (b : Bool) → bytes_eq exec e ≡ b → b ≡ false
    by true h =
        let same : e ≡ exec = sym ((bytes_eq-Decides exec e).0 h) in
        let equal : is_eq (slice_cmp nat_cmp e exec) ≡ true = is_eq-slice_cmp e exec ∙ (bytes_eq-Decides e exec).1 same in
        let clash : is_eq Less ≡ true = subst (λ (o : Ordering). is_eq o ≡ true) less equal in
        cc
    by false h = refl

-- an execution has a name
named_so : (exec : List ℕ) → IsTrue (is_name exec) → bytes_eq [] exec ≡ false
named_so [] h = cc
named_so (c ∷ cs) h = refl

module _ (m : BTreeMap (String Global) (Option Rows)) (name awake : List ℕ) where
  -- where the threads of that execution aren't free, none before the name is
  none_before : (passed : Thread → Bool) → AreQuiet m name awake
      → ((t : Thread) → IsThread t → slice_cmp nat_cmp t.exec name ≡ Less → t.exec ≡ awake → free (frames_in m) passed t ≡ false) → NoneFreeBefore (frames_in m) passed name
  none_before passed quiet there t named less =
      by_bool (bytes_eq awake t.exec) (free (frames_in m) passed t ≡ false)
      (λ e. there t named less (sym ((bytes_eq-Decides awake t.exec).0 e)))
      (λ e. quiet passed t named (record { before = less; sleeps = e }))

  pub none_as_late : (passed : Thread → Bool) → AreQuiet m name awake → (slice_cmp nat_cmp awake name ≡ Less → ⊥) → NoneFreeBefore (frames_in m) passed name
  none_as_late passed quiet late =
      none_before passed quiet (λ t named less same. absurd (late (subst (λ (x : List ℕ). slice_cmp nat_cmp x name ≡ Less) same less)))

  pub none_as_early : (passed : Thread → Bool) → AreQuiet m name awake → (from : List ℕ) (path : Path) → NoneBeforeThread (frames_in m) passed from path
      → slice_cmp nat_cmp awake from ≡ Less → NoneFreeBefore (frames_in m) passed name
  none_as_early passed quiet from path none early =
      none_before passed quiet (λ t named less same. before_name (frames_in m) passed from path none t named (subst (λ (x : List ℕ). slice_cmp nat_cmp x from ≡ Less) (sym same) early))

  free_there : (passed : Thread → Bool) (v : Option Rows) → tree_in m awake ≡ v → (t : Thread) → t.exec ≡ awake
      → free (frames_in m) passed t ≡ is_free true (rows_at v) (execution awake) passed t.path
  free_there passed v tree t same =
      ap (λ (o : Option Rows). is_free_to_move (readiness_at (rows_at o) t.path) && not (passed t)) (ap (tree_in m) same ∙ tree)
      ∙ ap (λ (exec : List ℕ). is_free_to_move (readiness_at (rows_at v) t.path) && not (passed (record { exec = exec; path = t.path }))) same

  named_there : (t : Thread) → t.exec ≡ awake → IsThread t → IsThread (thread_under (execution awake) t.path)
  named_there t same named = subst (λ (exec : List ℕ). IsThread (record { exec = exec; path = t.path })) same named

  pub none_there : (passed : Thread → Bool) → AreQuiet m name awake → (v : Option Rows) → tree_in m awake ≡ v → IsFirstFree true (rows_at v) (execution awake) passed None → NoneFreeBefore (frames_in m) passed name
  none_there passed quiet v tree none =
      none_before passed quiet (λ t named less same. free_there passed v tree t same ∙ none t.path (named_there t same named))

  pub none_placed : (passed : Thread → Bool) → AreQuiet m name awake → get_by_text m awake ≡ None → NoneFreeBefore (frames_in m) passed name
  none_placed passed quiet none = none_there passed quiet None (ap placed none) (treeless (execution awake) passed)

  pub awake_found : (passed : Thread → Bool) → AreQuiet m name awake → slice_cmp nat_cmp awake name ≡ Less → (v : Option Rows) → tree_in m awake ≡ v
      → (t : Thread) → IsThread t → IsFirstFree true (rows_at v) (execution awake) passed (Some t) → IsFirstReady (frames_in m) passed (Some t)
  awake_found passed quiet below v tree t named found = (named, free_there passed v tree t exec ∙ ap (is_free true (rows_at v) (execution awake) passed) path ∙ found.2, before)
    where
      exec : t.exec ≡ awake
      exec = ap (λ (x : Thread). x.exec) found.1

      path : t.path ≡ found.0
      path = ap (λ (x : Thread). x.path) found.1

      by : (u : Thread) → IsThread u → (o : Ordering) → slice_cmp nat_cmp u.exec t.exec ≡ o → thread_cmp u t ≡ Less → free (frames_in m) passed u ≡ false
      by u is Less e h =
          let less : slice_cmp nat_cmp u.exec awake ≡ Less = subst (λ (x : List ℕ). slice_cmp nat_cmp u.exec x ≡ Less) exec e in
          quiet passed u is (record { before = nat_list_cmp_total.trans u.exec awake name less below; sleeps = apart awake u.exec less })
      by u is Equal e h =
          let here : u.exec ≡ awake = same_exec u.exec t.exec (ap is_eq e) ∙ exec in
          let less : path_cmp u.path t.path ≡ Less = rw e at h in
          free_there passed v tree u here ∙ found.3 u.path (named_there u here is) (subst (λ (p : Path). path_cmp u.path p ≡ Less) path less)
      by u is Greater e h = let clash : Greater ≡ Less = rw e at h in cc

      before : (u : Thread) → IsThread u → thread_cmp u t ≡ Less → free (frames_in m) passed u ≡ false
      before u is h = by u is (slice_cmp nat_cmp u.exec t.exec) refl h

-- none is awake
pub all_sleep : (m : BTreeMap (String Global) (Option Rows)) (name : List ℕ) → ((passed : Thread → Bool) → NoneFreeBefore (frames_in m) passed name) → AreQuiet m name []
all_sleep m name none passed t named gone = none passed t named gone.before

-- ---- up to which name none has a move

less_not_greater : Less ≡ Greater → ⊥
less_not_greater e = cc

-- the threads of the one that is awake
abbrev pub of : List ℕ → Thread → Bool
of awake t = bytes_eq awake t.exec

-- a thread of another that is not free where these are passed by has no move
still : (m : BTreeMap (String Global) (Option Rows)) (awake : List ℕ) (passed : Thread → Bool) (t : Thread) → of awake t ≡ false → free (frames_in m) (of awake) t ≡ false → free (frames_in m) passed t ≡ false
still m awake passed t sleeps h = by (is_free_to_move (readiness_at (λ p. frames_in m (record { exec = t.exec; path = p })) t.path)) (rw sleeps at h)
  where
    by : (b : Bool) → (b && true) ≡ false → (b && not (passed t)) ≡ false
    by true e = cc
    by false e = refl

pub none_but : (m : BTreeMap (String Global) (Option Rows)) (name awake : List ℕ) → AreQuiet m name awake → NoneFreeBefore (frames_in m) (of awake) name
none_but m name awake quiet = none_before m name awake (of awake) quiet there
  where
    there : (t : Thread) → IsThread t → slice_cmp nat_cmp t.exec name ≡ Less → t.exec ≡ awake → free (frames_in m) (of awake) t ≡ false
    there t named less same = passed_by (is_free_to_move (readiness_at (λ p. frames_in m (record { exec = t.exec; path = p })) t.path)) (of awake t) ((bytes_eq-Decides awake t.exec).1 (sym same))
      where
        passed_by : (b c : Bool) → c ≡ true → (b && not c) ≡ false
        passed_by true true e = refl
        passed_by false true e = refl
        passed_by b false e = cc

pub quiet_up_to : (m : BTreeMap (String Global) (Option Rows)) (awake : List ℕ) (k : String Global) (v : Option Rows) (rest : Entries) → IsGone m (of awake) ((k, v) ∷ rest) → AreQuiet m (string_bytes k) awake
quiet_up_to m awake k v rest gone passed t named by = still m awake passed t by.sleeps (gone.gone t named (before gone))
  where
    before : IsGone m (of awake) ((k, v) ∷ rest) → among ((k, v) ∷ rest) t.exec ≡ None
    before i =
        let after = after_it m (of awake) k v rest i in
        let less = by.before in
        let clash : slice_cmp nat_cmp t.exec (string_bytes k) ≡ Greater → ⊥ = λ g. less_not_greater (sym less ∙ g) in
        rw less (after_all t.exec rest (all_after t.exec k (keys_of rest) clash after.0))

pub quiet_all : (m : BTreeMap (String Global) (Option Rows)) (awake : List ℕ) → IsGone m (of awake) [] → (name : List ℕ) → AreQuiet m name awake
quiet_all m awake gone name passed t named by = still m awake passed t by.sleeps (gone.gone t named refl)

-- what is quiet stays so, but for what has changed
pub kept_quiet : (m n : BTreeMap (String Global) (Option Rows)) (was was_awake is is_awake : List ℕ) → AreQuiet m was was_awake
    → ((e : List ℕ) → bytes_eq [] e ≡ false → IsGoneBy is is_awake e → IsGoneBy was was_awake e × (tree_in n e ≡ tree_in m e)) → AreQuiet n is is_awake
kept_quiet m n was was_awake is is_awake quiet h passed t named gone =
    let same = h t.exec (named_so t.exec named.named) gone in
    ap (λ (o : Option Rows). is_free_to_move (readiness_at (rows_at o) t.path) && not (passed t)) same.1 ∙ quiet passed t named same.0

pub nothing_before : (e : List ℕ) → slice_cmp nat_cmp e [] ≡ Less → ⊥
nothing_before [] h = cc
nothing_before (x ∷ xs) h = cc

-- before an empty name there is nothing
pub none_quiet : (m : BTreeMap (String Global) (Option Rows)) (name awake : List ℕ) → name ≡ [] → AreQuiet m name awake
none_quiet m name awake none passed t named gone = absurd (nothing_before t.exec (subst (λ (x : List ℕ). slice_cmp nat_cmp t.exec x ≡ Less) none gone.before))

pub rewritten : (m : BTreeMap (String Global) (Option Rows)) (name awake is : List ℕ) → AreQuiet m name awake → (is ≡ name) ⊎ (is ≡ []) → AreQuiet m is awake
rewritten m name awake is quiet (inl same) = subst (λ (x : List ℕ). AreQuiet m x awake) (sym same) quiet
rewritten m name awake is quiet (inr none) = none_quiet m is awake none

-- ---- an execution that isn't gone by any more

-- the one that was awake, with what it has become
slept : (awake mid exec e : List ℕ) → (mid ≡ awake) ⊎ ((awake ≡ []) × (mid ≡ exec)) → bytes_eq [] e ≡ false → bytes_eq mid e ≡ false → bytes_eq awake e ≡ false
slept awake mid exec e (inl same) named h = subst (λ (x : List ℕ). bytes_eq x e ≡ false) same h
slept awake mid exec e (inr first) named h = subst (λ (x : List ℕ). bytes_eq x e ≡ false) (sym first.0) named

pub woken : (name awake mid exec : List ℕ) → (mid ≡ awake) ⊎ ((awake ≡ []) × (mid ≡ exec)) → exec ≡ mid
    → (e : List ℕ) → bytes_eq [] e ≡ false → IsGoneBy name mid e → IsGoneBy name awake e × (bytes_eq exec e ≡ false)
woken name awake mid exec was same e named gone =
    (record { before = gone.before; sleeps = slept awake mid exec e was named gone.sleeps }, subst (λ (x : List ℕ). bytes_eq x e ≡ false) (sym same) gone.sleeps)

-- the name is brought back to one that isn't after it
pub lowered : (name awake mid exec at is : List ℕ) → (mid ≡ awake) ⊎ ((awake ≡ []) × (mid ≡ exec)) → slice_cmp nat_cmp exec name ≡ Less → (is ≡ at) ⊎ (is ≡ [])
    → ((e : List ℕ) → slice_cmp nat_cmp e at ≡ Less → slice_cmp nat_cmp e exec ≡ Less)
    → (e : List ℕ) → bytes_eq [] e ≡ false → IsGoneBy is mid e → IsGoneBy name awake e × (bytes_eq exec e ≡ false)
lowered name awake mid exec at is was before (inl same) under e named gone =
    let less : slice_cmp nat_cmp e exec ≡ Less = under e (subst (λ (x : List ℕ). slice_cmp nat_cmp e x ≡ Less) same gone.before) in
    (record { before = nat_list_cmp_total.trans e exec name less before; sleeps = slept awake mid exec e was named gone.sleeps }, apart exec e less)
lowered name awake mid exec at is was before (inr none) under e named gone = absurd (nothing_before e (subst (λ (x : List ℕ). slice_cmp nat_cmp e x ≡ Less) none gone.before))

pub not_after : (exec at e : List ℕ) → slice_cmp nat_cmp exec at ≡ Greater → slice_cmp nat_cmp e at ≡ Less → slice_cmp nat_cmp e exec ≡ Less
not_after exec at e h less = nat_list_cmp_total.trans e at exec less (nat_list_cmp_total.antisymm at exec ∙ ap ordering_reverse h)

pub raised : (name awake exec : List ℕ) → (slice_cmp nat_cmp exec name ≡ Less → ⊥) → (e : List ℕ) → IsGoneBy name awake e → IsGoneBy name awake e × (bytes_eq exec e ≡ false)
raised name awake exec not_before e gone = (gone, by (bytes_eq exec e) refl)
  where
    by : (b : Bool) → bytes_eq exec e ≡ b → b ≡ false
    by true h = absurd (not_before (subst (λ (x : List ℕ). slice_cmp nat_cmp x name ≡ Less) (sym ((bytes_eq-Decides exec e).0 h)) gone.before))
    by false h = refl
