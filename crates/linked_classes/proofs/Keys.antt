-- Keys that come, go and move.
use Rattle.std.proofs.Common.{◌≡◌, ◌≢◌, ◌<◌, ◌≤◌, ◌+◌, ◌-◌, arith, ℕ, zero, suc, List, [], ◌∷◌, ◌++◌, Option, None, Some, length, refl, ap, sym, subst, ◌∙◌, inl, inr, length-append, length-take}
use Rattle.std.specs.Prelude.{option_map, slice_get, slice_index_or, slice_set, swap_remove, IsSome}
use Rattle.std.proofs.lemmas.Bool.{cases_lt}
use Rattle.std.proofs.lemmas.List.{get_or-set_same, get_or-set_other, ext_get_or, length-map, length-set, get_or_default, set-get_or}
use Rattle.std.proofs.lemmas.Option.{slice_get_past, slice_get_within, slice_get_read, get_or_from_slice_get}
use Rattle.std.proofs.Math.ListN.{get_or-append, get_or-eq_default}
use Rattle.std.proofs.Math.Path.{fun_ext}
use Rattle.std.proofs.Math.Seq.{get_or-append_seam}
use Rattle.linked_classes.specs.Cells.{Cells, cell_at, key_at}
use Rattle.linked_classes.specs.Keys.{value_of, cells_of, AreKeys}
use Rattle.linked_classes.specs.declared.sparse.Numbered.{Numbered}
use Rattle.linked_classes.proofs.Gets.{one_or_other, older, newest, set_here, set_elsewhere, taken}

pub key_within : (keys : List ℕ) (i : ℕ) → key_at keys i ≢ 4294967295 → i < length keys
key_within keys i full = elim (cases_lt i (length keys)) [ inl w ↦ w | inr w ↦ absurd (full (get_or-eq_default keys 4294967295 w)) ]

pub key_read : (keys : List ℕ) (i x d : ℕ) → i < length keys → x ≡ slice_index_or keys i d → key_at keys i ≡ x
key_read keys i x d within is = get_or_default keys i 4294967295 d within ∙ sym is

module _ {T : Type 0} where
  -- what a number's cell is
  pub cell_is : (values : List (Numbered T)) (keys : List ℕ) → length values ≤ 4294967295 → (i : ℕ) → cell_at (cells_of values keys) i ≡ value_of values (key_at keys i)
  cell_is values [] few i = ap (option_map (λ v. v.value)) (sym (slice_get_past values 4294967295 few))
  cell_is values (key ∷ keys) few zero = refl
  cell_is values (key ∷ keys) few (suc i) = cell_is values keys few i

  -- a key that is no hole's leads to the value of its number, and to no other's
  pub record LeadsTo (values : List (Numbered T)) (key : ℕ → ℕ) (i : ℕ) : Type 0 where
    pub entry : Numbered T
    pub is : slice_get values (key i) ≡ Some entry
    pub number : entry.number ≡ i
    pub within : key i < length values

  module _ (values : List (Numbered T)) (key : ℕ → ℕ) (h : AreKeys values key) where
    pub leads : (i : ℕ) → key i ≢ 4294967295 → LeadsTo values key i
    leads i full = let f = h.filled i full in record { entry = f.0; is = f.1; number = f.2; within = slice_get_within values (key i) f.0 f.1 }

    pub one_number : (i j : ℕ) → key i ≢ 4294967295 → key i ≡ key j → i ≡ j
    one_number i j full same =
        let a = leads i full in
        let b = leads j (λ e. full (same ∙ e)) in
        let one : a.entry ≡ b.entry = let e : Some a.entry ≡ Some b.entry = sym a.is ∙ ap (slice_get values) same ∙ b.is in cc in
        sym a.number ∙ ap (λ (v : Numbered T). v.number) one ∙ b.number

    pub empty : (i : ℕ) → value_of values (key i) ≡ None → key i ≡ 4294967295
    empty i none = elim (one_or_other (key i) 4294967295) [ inl w ↦ w | inr w ↦ absurd (let a = leads i w in let e : Some a.entry.value ≡ None = sym (ap (option_map (λ v. v.value)) a.is) ∙ none in cc) ]

  pub full_key : (values : List (Numbered T)) (keys : List ℕ) → AreKeys values (key_at keys) → (i : ℕ) → IsSome (cell_at (cells_of values keys) i) → key_at keys i ≢ 4294967295
  full_key values keys h i some e =
      let none : cell_at (cells_of values keys) i ≡ None = cell_is values keys h.few i ∙ ap (value_of values) e ∙ ap (option_map (λ v. v.value)) (slice_get_past values 4294967295 h.few) in
      let no_value = subst IsSome none some in cc

  -- a key before their end is no hole's
  pub low_key : (values : List (Numbered T)) (key : ℕ → ℕ) → AreKeys values key → (i : ℕ) → key i < length values → key i ≢ 4294967295
  low_key values key h i low e = omega (arith, low, e, h.few)

  pub last_is : (values : List (Numbered T)) (n : ℕ) (e : Numbered T) → n ≡ length values → 0 < length values → e ≡ slice_index_or values (n - 1) e → slice_get values (length values - 1) ≡ Some e
  last_is values n e count some read = slice_get_read values (length values) (length values - 1) e refl (omega (arith, some)) (rw count at read)

  -- a key beyond the values is a hole's
  pub no_value : (values : List (Numbered T)) (keys : List ℕ) → AreKeys values (key_at keys) → (i : ℕ) → length values ≤ key_at keys i → cells_of values keys ≡ slice_set (cells_of values keys) i None
  no_value values keys h i beyond =
      let none : cell_at (cells_of values keys) i ≡ None = cell_is values keys h.few i ∙ ap (option_map (λ v. v.value)) (slice_get_past values (key_at keys i) beyond) in
      sym (ap (slice_set (cells_of values keys) i) (sym none) ∙ set-get_or (cells_of values keys) i None)

  -- what is read under a number's key
  pub entry_is : (values : List (Numbered T)) (keys : List ℕ) (h : AreKeys values (key_at keys)) (i : ℕ) (full : key_at keys i ≢ 4294967295) (k : ℕ) (e : Numbered T) → key_at keys i ≡ k → e ≡ slice_index_or values k e
      → (e.number ≡ i) × (cell_at (cells_of values keys) i ≡ Some e.value)
  entry_is values keys h i full k e key read =
      let a = leads values (key_at keys) h i full in
      let is : slice_get values (key_at keys i) ≡ Some e = slice_get_read values (length values) (key_at keys i) e refl a.within (rw key read) in
      let same : a.entry ≡ e = let s : Some a.entry ≡ Some e = sym a.is ∙ is in cc in
      (ap (λ (v : Numbered T). v.number) (sym same) ∙ a.number, cell_is values keys h.few i ∙ ap (option_map (λ v. v.value)) is)

  -- lists of cells that agree at each number are one
  pub same_cells : (values values' : List (Numbered T)) (keys keys' : List ℕ) (cells : List (Option T)) → length values' ≤ 4294967295 → length keys' ≡ length cells
      → ((j : ℕ) → value_of values' (key_at keys' j) ≡ cell_at cells j) → cells_of values' keys' ≡ cells
  same_cells values values' keys keys' cells few long agree =
      ext_get_or None (cells_of values' keys') cells (length-map keys' (value_of values') ∙ long) (λ j within. cell_is values' keys' few j ∙ agree j)

  -- ---- a value is put into a hole

  module _ (values : List (Numbered T)) (keys : List ℕ) (h : AreKeys values (key_at keys)) (i : ℕ) (x : T) (within : i < length keys) (hole : key_at keys i ≡ 4294967295) (more : length values < 4294967295) where
    abbrev pub put_value : Numbered T
    put_value = record { number = i; value = x }

    abbrev pub put_values : List (Numbered T)
    put_values = values ++ put_value ∷ []

    abbrev pub put_key : List ℕ
    put_key = slice_set keys i (length values)

    put_few : length put_values ≤ 4294967295
    put_few = omega (arith, more, length-append values (put_value ∷ []))

    put_here : key_at put_key i ≡ length values
    put_here = get_or-set_same keys i (length values) 4294967295 within

    put_elsewhere : (j : ℕ) → j ≢ i → key_at put_key j ≡ key_at keys j
    put_elsewhere j apart = get_or-set_other keys i j (length values) 4294967295 apart

    -- the new key was no number's
    new_key : (j : ℕ) → key_at keys j ≢ length values
    new_key j e = let a = leads values (key_at keys) h j (λ w. omega (arith, w, e, more)) in let b = a.within in omega (arith, b, e)

    pub put_cells : cells_of put_values put_key ≡ slice_set (cells_of values keys) i (Some x)
    put_cells = same_cells values put_values keys put_key (slice_set (cells_of values keys) i (Some x)) put_few
        (length-set keys i (length values) ∙ sym (length-set (cells_of values keys) i (Some x) ∙ length-map keys (value_of values)))
        (λ j. elim (one_or_other j i) [
          | inl w ↦ ap (λ k. value_of put_values (key_at put_key k)) w ∙ ap (value_of put_values) put_here ∙ ap (option_map (λ v. v.value)) (newest values put_value)
              ∙ sym (ap (cell_at (slice_set (cells_of values keys) i (Some x))) w ∙ get_or-set_same (cells_of values keys) i (Some x) None (omega (arith, within, length-map keys (value_of values))))
          | inr w ↦ ap (value_of put_values) (put_elsewhere j w) ∙ ap (option_map (λ v. v.value)) (older values put_value (key_at keys j) (new_key j))
              ∙ sym (get_or-set_other (cells_of values keys) i j (Some x) None w ∙ cell_is values keys h.few j)
        ])

    pub put_keys : AreKeys put_values (key_at put_key)
    put_keys = record {
      few = put_few;
      numbered = λ k v is. elim (one_or_other k (length values)) [
        | inl w ↦ let e : put_value ≡ v = let s : Some put_value ≡ Some v = sym (newest values put_value) ∙ ap (slice_get put_values) (sym w) ∙ is in cc in
            ap (λ (u : Numbered T). key_at put_key u.number) (sym e) ∙ put_here ∙ sym w
        | inr w ↦
            let old : slice_get values k ≡ Some v = sym (older values put_value k w) ∙ is in
            let key = h.numbered k v old in
            let low = slice_get_within values k v old in
            put_elsewhere v.number (λ e. omega (arith, ap (key_at keys) e ∙ hole, key, low, h.few)) ∙ key
      ];
      filled = λ j full. elim (one_or_other j i) [
        | inl w ↦ (put_value, ap (λ k. slice_get put_values (key_at put_key k)) w ∙ ap (slice_get put_values) put_here ∙ newest values put_value, sym w)
        | inr w ↦
            let a = leads values (key_at keys) h j (λ e. full (put_elsewhere j w ∙ e)) in
            (a.entry, ap (slice_get put_values) (put_elsewhere j w) ∙ older values put_value (key_at keys j) (new_key j) ∙ a.is, a.number)
      ];
    }

  -- ---- a value is replaced

  module _ (values : List (Numbered T)) (keys : List ℕ) (h : AreKeys values (key_at keys)) (i : ℕ) (x : T) (full : key_at keys i ≢ 4294967295) where
    abbrev pub replaced_values : List (Numbered T)
    replaced_values = slice_set values (key_at keys i) (record { number = i; value = x })

    replaced_few : length replaced_values ≤ 4294967295
    replaced_few = omega (arith, length-set values (key_at keys i) (record { number = i; value = x }), h.few)

    replaced_here : slice_get replaced_values (key_at keys i) ≡ Some (record { number = i; value = x })
    replaced_here = let a = leads values (key_at keys) h i full in set_here values (key_at keys i) (record { number = i; value = x }) a.within

    pub replaced_cells : cells_of replaced_values keys ≡ slice_set (cells_of values keys) i (Some x)
    replaced_cells = same_cells values replaced_values keys keys (slice_set (cells_of values keys) i (Some x)) replaced_few
        (sym (length-set (cells_of values keys) i (Some x) ∙ length-map keys (value_of values)))
        (λ j. elim (one_or_other j i) [
          | inl w ↦ ap (λ k. value_of replaced_values (key_at keys k)) w ∙ ap (option_map (λ v. v.value)) replaced_here
              ∙ sym (ap (cell_at (slice_set (cells_of values keys) i (Some x))) w ∙ get_or-set_same (cells_of values keys) i (Some x) None (omega (arith, key_within keys i full, length-map keys (value_of values))))
          | inr w ↦ ap (option_map (λ v. v.value)) (set_elsewhere values (key_at keys i) (record { number = i; value = x }) (key_at keys j) (λ e. w (sym (one_number values (key_at keys) h i j full (sym e)))))
              ∙ sym (get_or-set_other (cells_of values keys) i j (Some x) None w ∙ cell_is values keys h.few j)
        ])

    pub replaced_keys : AreKeys replaced_values (key_at keys)
    replaced_keys = record {
      few = replaced_few;
      numbered = λ k v is. elim (one_or_other k (key_at keys i)) [
        | inl w ↦
            let new : Numbered T = record { number = i; value = x } in
            let e : new ≡ v = let s : Some new ≡ Some v = sym replaced_here ∙ ap (slice_get replaced_values) (sym w) ∙ is in cc in
            ap (λ (u : Numbered T). key_at keys u.number) (sym e) ∙ sym w
        | inr w ↦ h.numbered k v (sym (set_elsewhere values (key_at keys i) (record { number = i; value = x }) k w) ∙ is)
      ];
      filled = λ j full_j. elim (one_or_other j i) [
        | inl w ↦ (record { number = i; value = x }, ap (λ k. slice_get replaced_values (key_at keys k)) w ∙ replaced_here, sym w)
        | inr w ↦
            let a = leads values (key_at keys) h j full_j in
            (a.entry, set_elsewhere values (key_at keys i) (record { number = i; value = x }) (key_at keys j) (λ e. w (sym (one_number values (key_at keys) h i j full (sym e)))) ∙ a.is, a.number)
      ];
    }

  -- ---- a value is taken, and the last one comes to its place

  module _ (values : List (Numbered T)) (keys : List ℕ) (h : AreKeys values (key_at keys)) (i : ℕ) (full : key_at keys i ≢ 4294967295) (last d : Numbered T) (is_last : slice_get values (length values - 1) ≡ Some last) where
    abbrev pub rekeyed : List ℕ
    rekeyed = slice_set (slice_set keys last.number (key_at keys i)) i 4294967295

    abbrev pub left : List (Numbered T)
    left = swap_remove values (key_at keys i) d

    lead : LeadsTo values (key_at keys) i
    lead = leads values (key_at keys) h i full

    some : 0 < length values
    some = let w = lead.within in omega (arith, w)

    pub left_length : length left + 1 ≡ length values
    left_length = let s = length-set values (key_at keys i) (slice_index_or values (length values - 1) d) in omega (arith, length-take (length values - 1) (slice_set values (key_at keys i) (slice_index_or values (length values - 1) d)), s, some)

    left_few : length left ≤ 4294967295
    left_few = omega (arith, left_length, h.few)

    pub last_key : key_at keys last.number ≡ length values - 1
    last_key = h.numbered (length values - 1) last is_last

    pub last_full : key_at keys last.number ≢ 4294967295
    last_full e = omega (arith, e, last_key, h.few, some)

    stays : (k : ℕ) → k ≢ key_at keys i → k < length values - 1 → slice_get left k ≡ slice_get values k
    stays k apart low = taken (length values - 1) _ k low ∙ set_elsewhere values (key_at keys i) _ k apart

    moved : key_at keys i < length values - 1 → slice_get left (key_at keys i) ≡ Some last
    moved low = taken (length values - 1) _ (key_at keys i) low ∙ set_here values (key_at keys i) _ lead.within ∙ ap Some (get_or_from_slice_get values (length values - 1) last d is_last)

    -- where another number's value is the last, it comes to the place
    moves : last.number ≢ i → key_at keys i < length values - 1
    moves apart = elim (cases_lt (key_at keys i) (length values - 1)) [
      | inl w ↦ w
      | inr w ↦ absurd (apart (sym (one_number values (key_at keys) h i last.number full (let b = lead.within in omega (arith, w, b, last_key)))))
    ]

    hole_here : key_at rekeyed i ≡ 4294967295
    hole_here = get_or-set_same (slice_set keys last.number (key_at keys i)) i 4294967295 4294967295 (omega (arith, key_within keys i full, length-set keys last.number (key_at keys i)))

    key_moved : last.number ≢ i → key_at rekeyed last.number ≡ key_at keys i
    key_moved apart = get_or-set_other (slice_set keys last.number (key_at keys i)) i last.number 4294967295 4294967295 apart ∙ get_or-set_same keys last.number (key_at keys i) 4294967295 (key_within keys last.number last_full)

    key_stays : (j : ℕ) → j ≢ i → j ≢ last.number → key_at rekeyed j ≡ key_at keys j
    key_stays j apart other = get_or-set_other (slice_set keys last.number (key_at keys i)) i j 4294967295 4294967295 apart ∙ get_or-set_other keys last.number j (key_at keys i) 4294967295 other

    -- a number that is neither keeps its value
    value_stays : (j : ℕ) → j ≢ i → j ≢ last.number → key_at keys j ≢ 4294967295 → slice_get left (key_at keys j) ≡ slice_get values (key_at keys j)
    value_stays j apart other full_j =
        let a = leads values (key_at keys) h j full_j in
        let not_last : key_at keys j ≢ length values - 1 = λ e. other (one_number values (key_at keys) h j last.number full_j (e ∙ sym last_key)) in
        let low = a.within in
        stays (key_at keys j) (λ e. apart (one_number values (key_at keys) h j i full_j e)) (elim (cases_lt (key_at keys j) (length values - 1)) [ inl w ↦ w | inr w ↦ absurd (not_last (omega (arith, w, low))) ])

    pub taken_cells : cells_of left rekeyed ≡ slice_set (cells_of values keys) i None
    taken_cells = same_cells values left keys rekeyed (slice_set (cells_of values keys) i None) left_few
        (length-set (slice_set keys last.number (key_at keys i)) i 4294967295 ∙ length-set keys last.number (key_at keys i) ∙ sym (length-set (cells_of values keys) i None ∙ length-map keys (value_of values)))
        (λ j. elim (one_or_other j i) [
          | inl w ↦ ap (λ k. value_of left (key_at rekeyed k)) w ∙ ap (value_of left) hole_here ∙ ap (option_map (λ v. v.value)) (slice_get_past left 4294967295 left_few)
              ∙ sym (ap (cell_at (slice_set (cells_of values keys) i None)) w ∙ get_or-set_same (cells_of values keys) i None None (omega (arith, key_within keys i full, length-map keys (value_of values))))
          | inr w ↦ same_value j w ∙ sym (get_or-set_other (cells_of values keys) i j None None w ∙ cell_is values keys h.few j)
        ])
      where
        same_value : (j : ℕ) → j ≢ i → value_of left (key_at rekeyed j) ≡ value_of values (key_at keys j)
        same_value j apart = elim (one_or_other j last.number) [
          | inl w ↦
              let other : last.number ≢ i = λ e. apart (w ∙ e) in
              ap (λ k. value_of left (key_at rekeyed k)) w ∙ ap (value_of left) (key_moved other) ∙ ap (option_map (λ v. v.value)) (moved (moves other) ∙ sym is_last ∙ ap (slice_get values) (sym last_key) ∙ ap (λ k. slice_get values (key_at keys k)) (sym w))
          | inr w ↦ ap (value_of left) (key_stays j apart w) ∙ (elim (one_or_other (key_at keys j) 4294967295) [
            | inl e ↦ ap (value_of left) e ∙ ap (option_map (λ v. v.value)) (slice_get_past left 4294967295 left_few ∙ sym (slice_get_past values 4294967295 h.few)) ∙ ap (value_of values) (sym e)
            | inr e ↦ ap (option_map (λ v. v.value)) (value_stays j apart w e)
          ])
        ]

    pub taken_keys : AreKeys left (key_at rekeyed)
    taken_keys = record {
      few = left_few;
      numbered = λ k v is. let low : k < length values - 1 = omega (arith, slice_get_within left k v is, left_length) in elim (one_or_other k (key_at keys i)) [
        | inl w ↦
            let e : last ≡ v = let s : Some last ≡ Some v = sym (moved (omega (arith, w, low))) ∙ ap (slice_get left) (sym w) ∙ is in cc in
            let other : last.number ≢ i = λ z. omega (arith, ap (key_at keys) z, last_key, w, low) in
            ap (λ (u : Numbered T). key_at rekeyed u.number) (sym e) ∙ key_moved other ∙ sym w
        | inr w ↦
            let key = h.numbered k v (sym (stays k w low) ∙ is) in
            key_stays v.number (λ z. w (sym key ∙ ap (key_at keys) z)) (λ z. omega (arith, ap (key_at keys) z, key, last_key, low)) ∙ key
      ];
      filled = λ j full_j. let apart : j ≢ i = λ z. full_j (ap (key_at rekeyed) z ∙ hole_here) in elim (one_or_other j last.number) [
        | inl w ↦
            let other : last.number ≢ i = λ e. apart (w ∙ e) in
            (last, ap (λ k. slice_get left (key_at rekeyed k)) w ∙ ap (slice_get left) (key_moved other) ∙ moved (moves other), sym w)
        | inr w ↦
            let full_old : key_at keys j ≢ 4294967295 = λ e. full_j (key_stays j apart w ∙ e) in
            let a = leads values (key_at keys) h j full_old in
            (a.entry, ap (slice_get left) (key_stays j apart w) ∙ value_stays j apart w full_old ∙ a.is, a.number)
      ];
    }

  -- keys that lead alike give the same cells
  pub along_keys : (values : List (Numbered T)) (keys keys' : List ℕ) → length values ≤ 4294967295 → key_at keys' ≡ key_at keys → cell_at (cells_of values keys') ≡ cell_at (cells_of values keys)
  along_keys values keys keys' few same = fun_ext (λ i. cell_is values keys' few i ∙ ap (λ key. value_of values (key i)) same ∙ sym (cell_is values keys few i))

  pub same_view : {cells cells' : List (Option T)} {room room' spare spare' : ℕ} → cells ≡ cells' → room ≡ room' → spare ≡ spare'
      → (let a : Cells T = record { cells = cells; room = room; spare = spare } in let b : Cells T = record { cells = cells'; room = room'; spare = spare' } in a ≡ b)
  same_view c r s = cc

-- one more hole
pub more_holes : (keys : List ℕ) → key_at (keys ++ 4294967295 ∷ []) ≡ key_at keys
more_holes keys = fun_ext (λ k. elim (one_or_other k (length keys)) [
  | inl w ↦ ap (key_at (keys ++ 4294967295 ∷ [])) w ∙ get_or-append_seam keys 4294967295 [] 4294967295 ∙ sym (get_or-eq_default keys 4294967295 (omega (arith, w)))
  | inr w ↦ elim (cases_lt k (length keys)) [
    | inl low ↦ get_or-append keys (4294967295 ∷ []) 4294967295 k low
    | inr high ↦ get_or-eq_default (keys ++ 4294967295 ∷ []) 4294967295 (elim (cases_lt (length keys) k) [ inl above ↦ omega (arith, above, length-append keys (4294967295 ∷ [])) | inr below ↦ absurd (w (omega (arith, below, high))) ]) ∙ sym (get_or-eq_default keys 4294967295 high)
  ]
])
