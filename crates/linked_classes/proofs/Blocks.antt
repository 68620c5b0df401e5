-- Blocks of rising numbers: in which block a place is, and what becomes of their numbers.
use Rattle.std.proofs.Common.{◌≡◌, ◌≢◌, ◌<◌, ◌≤◌, ◌+◌, ◌-◌, ◌*◌, ◌/◌, arith, ℕ, zero, suc, List, [], ◌∷◌, ◌++◌, None, Some, length, refl, ap, sym, subst, ◌∙◌, inl, inr, vec_capacity}
use Rattle.std.specs.Prelude.{slice_get, slice_set}
use Rattle.std.specs.List.{remove}
use Rattle.std.proofs.lemmas.Bool.{cases_lt}
use Rattle.std.proofs.lemmas.List.{length-append, length-set, append-nil, append_assoc}
use Rattle.std.proofs.lemmas.List.Edits.{length-remove, remove-append_left, remove-append_right}
use Rattle.std.proofs.lemmas.Option.{same_Some, slice_get_within}
use Rattle.linked_classes.proofs.Gets.{one_or_other, older, newest, set_here, set_elsewhere}
use Rattle.linked_classes.proofs.Numbered.{more_rises, less_rises, was}
use Rattle.linked_classes.specs.Numbers.{AreBlocks, AreStarts, IsOwn, IsNumberTaken, joined, lowered_blocks}
use Rattle.linked_classes.specs.Places.{IsRising}
use Rattle.linked_classes.specs.declared.numbers.Block.{Block}

-- ---- elements of two lists

module _ {A : Type 0} where
  pub in_left : (xs ys : List A) (i : ℕ) → i < length xs → slice_get (xs ++ ys) i ≡ slice_get xs i
  in_left [] ys i h = absurd (omega (arith, h))
  in_left (x ∷ xs) ys zero h = refl
  in_left (x ∷ xs) ys (suc i) h = in_left xs ys i (omega (arith, h))

  pub in_right : (xs ys : List A) (i j : ℕ) → j ≡ length xs + i → slice_get (xs ++ ys) j ≡ slice_get ys i
  in_right [] ys i j e = let same : j ≡ i = omega (arith, e) in ap (slice_get ys) same
  in_right (x ∷ xs) ys i zero e = absurd (omega (arith, e))
  in_right (x ∷ xs) ys i (suc j) e = in_right xs ys i j (omega (arith, e))

  pub none_there : (k : ℕ) (b : A) → slice_get [] k ≡ Some b → ⊥
  none_there k b is = let e : None ≡ Some b = is in cc

-- ---- where blocks start

pub start_after : (s : ℕ) (bs : List Block) → AreStarts s bs → (k : ℕ) (b : Block) → slice_get bs k ≡ Some b → s ≤ b.start
start_after s [] h k b is = absurd (none_there k b is)
start_after s (x ∷ xs) h zero b is = let e = ap (λ (c : Block). c.start) (same_Some x b is) in let f = h.0 in omega (arith, e, f)
start_after s (x ∷ xs) h (suc k) b is = let l = start_after (s + length x.numbers.items) xs h.1 k b is in omega (arith, l)

pub first_start : (s : ℕ) (bs : List Block) → AreStarts s bs → (b : Block) → slice_get bs 0 ≡ Some b → b.start ≡ s
first_start s [] h b is = absurd (none_there 0 b is)
first_start s (x ∷ xs) h b is = sym (ap (λ (c : Block). c.start) (same_Some x b is)) ∙ h.0

-- a block behind one that holds something doesn't start at the first place
pub later_start : (s : ℕ) (bs : List Block) → AreStarts s bs → (k m : ℕ) (b c : Block) → slice_get bs k ≡ Some b → 1 ≤ length b.numbers.items → k < m → slice_get bs m ≡ Some c → 1 ≤ c.start
later_start s [] h k m b c is one l at = absurd (none_there k b is)
later_start s (x ∷ xs) h k zero b c is one l at = absurd (omega (arith, l))
later_start s (x ∷ xs) h zero (suc m) b c is one l at =
    let e = ap (λ (c : Block). length c.numbers.items) (same_Some x b is) in
    let f = start_after (s + length x.numbers.items) xs h.1 m c at in
    let g : length x.numbers.items ≡ length b.numbers.items = e in
    omega (arith, f, g, one)
later_start s (x ∷ xs) h (suc k) (suc m) b c is one l at = later_start (s + length x.numbers.items) xs h.1 k m b c is one (omega (arith, l)) at

-- a place before the start of the next block, if there is one, is before the end of a block
pub located : (s : ℕ) (bs : List Block) → AreStarts s bs → (k at : ℕ) (b : Block) → slice_get bs k ≡ Some b → at < s + length (joined bs) → ((c : Block) → slice_get bs (suc k) ≡ Some c → at < c.start) → at < b.start + length b.numbers.items
located s [] h k at b is low before = absurd (none_there k b is)
located s (x ∷ []) h zero at b is low before =
    let e = ap (λ (c : Block). c.start) (same_Some x b is) in
    let n : length x.numbers.items ≡ length b.numbers.items = ap (λ (c : Block). length c.numbers.items) (same_Some x b is) in
    let f = h.0 in
    let l = length-append x.numbers.items [] in
    omega (arith, e, n, f, l, low)
located s (x ∷ y ∷ ys) h zero at b is low before =
    let e = ap (λ (c : Block). c.start) (same_Some x b is) in
    let n : length x.numbers.items ≡ length b.numbers.items = ap (λ (c : Block). length c.numbers.items) (same_Some x b is) in
    let f = h.0 in
    let g = h.1.0 in
    let l = before y refl in
    omega (arith, e, n, f, g, l)
located s (x ∷ xs) h (suc k) at b is low before =
    let l = length-append x.numbers.items (joined xs) in
    located (s + length x.numbers.items) xs h.1 k at b is (omega (arith, low, l)) before

pub inside : (s : ℕ) (bs : List Block) → AreStarts s bs → (k : ℕ) (b : Block) → slice_get bs k ≡ Some b → (i j : ℕ) → s + j ≡ b.start + i → i < length b.numbers.items → slice_get (joined bs) j ≡ slice_get b.numbers.items i
inside s [] h k b is i j e w = absurd (none_there k b is)
inside s (x ∷ xs) h zero b is i j e w =
    let same = same_Some x b is in
    let at = ap (λ (c : Block). c.start) same in
    let n : length x.numbers.items ≡ length b.numbers.items = ap (λ (c : Block). length c.numbers.items) same in
    let f = h.0 in
    let m : j ≡ i = omega (arith, e, at, f) in
    subst (λ (c : Block). slice_get (x.numbers.items ++ joined xs) j ≡ slice_get c.numbers.items i) same (in_left x.numbers.items (joined xs) j (omega (arith, m, n, w)) ∙ ap (slice_get x.numbers.items) m)
inside s (x ∷ xs) h (suc k) b is i j e w =
    let l = start_after (s + length x.numbers.items) xs h.1 k b is in
    in_right x.numbers.items (joined xs) (j - length x.numbers.items) j (omega (arith, e, l))
    ∙ inside (s + length x.numbers.items) xs h.1 k b is i (j - length x.numbers.items) (omega (arith, e, l)) w

-- the block in which a place's number is
pub record Holder (s : ℕ) (bs : List Block) (at n : ℕ) : Type 0 where
  pub number : ℕ
  pub block : Block
  pub is : slice_get bs number ≡ Some block
  pub inner : ℕ
  pub here : slice_get block.numbers.items inner ≡ Some n
  pub place : s + at ≡ block.start + inner

pub holder : (s : ℕ) (bs : List Block) → AreStarts s bs → (at n : ℕ) → slice_get (joined bs) at ≡ Some n → Holder s bs at n
holder s [] h at n is = absurd (none_there at n is)
holder s (x ∷ xs) h at n is = elim (cases_lt at (length x.numbers.items)) [
  | inl w ↦ record { number = zero; block = x; is = refl; inner = at; here = sym (in_left x.numbers.items (joined xs) at w) ∙ is; place = let f = h.0 in omega (arith, f) }
  | inr w ↦
      let past = at - length x.numbers.items in
      let r = holder (s + length x.numbers.items) xs h.1 past n (sym (in_right x.numbers.items (joined xs) past at (omega (arith, w))) ∙ is) in
      record { number = suc r.number; block = r.block; is = r.is; inner = r.inner; here = r.here; place = let p = r.place in omega (arith, p, w) }
]

pub ending : (s : ℕ) (bs : List Block) → AreStarts s bs → (k : ℕ) (b : Block) → slice_get bs k ≡ Some b → suc k ≡ length bs → s + length (joined bs) ≡ b.start + length b.numbers.items
ending s [] h k b is last = absurd (none_there k b is)
ending s (x ∷ []) h zero b is last =
    let e = ap (λ (c : Block). c.start) (same_Some x b is) in
    let n : length x.numbers.items ≡ length b.numbers.items = ap (λ (c : Block). length c.numbers.items) (same_Some x b is) in
    let f = h.0 in
    let l = length-append x.numbers.items [] in
    omega (arith, e, n, f, l)
ending s (x ∷ y ∷ ys) h zero b is last = absurd (omega (arith, last))
ending s (x ∷ xs) h (suc k) b is last =
    let l = length-append x.numbers.items (joined xs) in
    let r = ending (s + length x.numbers.items) xs h.1 k b is (omega (arith, last)) in
    omega (arith, l, r)

-- ---- of one block

module _ (bs : List Block) (starts : AreStarts 0 bs) (k : ℕ) (b : Block) (is : slice_get bs k ≡ Some b) where
  pub number_in : (i : ℕ) → i < length b.numbers.items → slice_get (joined bs) (b.start + i) ≡ slice_get b.numbers.items i
  number_in i w = inside 0 bs starts k b is i (b.start + i) (omega arith) w

  pub rising_in : IsRising (joined bs) → IsRising b.numbers.items
  rising_in h = record {
    rises = λ i j m n l a c. h.rises (b.start + i) (b.start + j) m n (omega (arith, l)) (number_in i (slice_get_within b.numbers.items i m a) ∙ a) (number_in j (slice_get_within b.numbers.items j n c) ∙ c);
  }

-- ---- a number comes

pub more_in_last : (s : ℕ) (bs : List Block) (k n : ℕ) (b c : Block) → slice_get bs k ≡ Some b → suc k ≡ length bs → c.numbers.items ≡ b.numbers.items ++ n ∷ [] → joined (slice_set bs k c) ≡ joined bs ++ n ∷ []
more_in_last s [] k n b c is last more = absurd (none_there k b is)
more_in_last s (x ∷ []) zero n b c is last more =
    append-nil c.numbers.items ∙ more ∙ ap (λ (d : Block). d.numbers.items ++ n ∷ []) (sym (same_Some x b is)) ∙ ap (λ (ns : List ℕ). ns ++ n ∷ []) (sym (append-nil x.numbers.items))
more_in_last s (x ∷ y ∷ ys) zero n b c is last more = absurd (omega (arith, last))
more_in_last s (x ∷ xs) (suc k) n b c is last more =
    ap (λ (ns : List ℕ). x.numbers.items ++ ns) (more_in_last s xs k n b c is (omega (arith, last)) more) ∙ sym (append_assoc x.numbers.items (joined xs) (n ∷ []))

pub starts_with_last : (s : ℕ) (bs : List Block) → AreStarts s bs → (k : ℕ) (b c : Block) → slice_get bs k ≡ Some b → suc k ≡ length bs → c.start ≡ b.start → AreStarts s (slice_set bs k c)
starts_with_last s [] h k b c is last same = absurd (none_there k b is)
starts_with_last s (x ∷ []) h zero b c is last same = (same ∙ ap (λ (d : Block). d.start) (sym (same_Some x b is)) ∙ h.0, tt)
starts_with_last s (x ∷ y ∷ ys) h zero b c is last same = absurd (omega (arith, last))
starts_with_last s (x ∷ xs) h (suc k) b c is last same = (h.0, starts_with_last (s + length x.numbers.items) xs h.1 k b c is (omega (arith, last)) same)

pub joined_with : (bs : List Block) (c : Block) → joined (bs ++ c ∷ []) ≡ joined bs ++ c.numbers.items
joined_with [] c = append-nil c.numbers.items
joined_with (x ∷ xs) c = ap (λ (ns : List ℕ). x.numbers.items ++ ns) (joined_with xs c) ∙ sym (append_assoc x.numbers.items (joined xs) c.numbers.items)

pub starts_with : (s : ℕ) (bs : List Block) → AreStarts s bs → (c : Block) → c.start ≡ s + length (joined bs) → AreStarts s (bs ++ c ∷ [])
starts_with s [] h c at = (omega (arith, at), tt)
starts_with s (x ∷ xs) h c at = let l = length-append x.numbers.items (joined xs) in (h.0, starts_with (s + length x.numbers.items) xs h.1 c (omega (arith, at, l)))

-- ---- blocks start earlier

pub lowered_joined : (k : ℕ) (bs : List Block) → joined (lowered_blocks k bs) ≡ joined bs
lowered_joined k [] = refl
lowered_joined zero (x ∷ xs) = ap (λ (ns : List ℕ). x.numbers.items ++ ns) (lowered_joined zero xs)
lowered_joined (suc k) (x ∷ xs) = ap (λ (ns : List ℕ). x.numbers.items ++ ns) (lowered_joined k xs)

lowered_starts : (s t : ℕ) (bs : List Block) → t ≡ s + 1 → AreStarts t bs → AreStarts s (lowered_blocks zero bs)
lowered_starts s t [] e h = tt
lowered_starts s t (x ∷ xs) e h = let f = h.0 in (omega (arith, e, f), lowered_starts (s + length x.numbers.items) (t + length x.numbers.items) xs (omega (arith, e)) h.1)

pub lower_one : (bs : List Block) (k : ℕ) (b : Block) → slice_get bs k ≡ Some b → lowered_blocks (suc k) (slice_set bs k (record b { start = b.start - 1 })) ≡ lowered_blocks k bs
lower_one [] k b is = absurd (none_there k b is)
lower_one (x ∷ xs) zero b is = ap (λ (c : Block). record c { start = c.start - 1 } ∷ lowered_blocks zero xs) (sym (same_Some x b is))
lower_one (x ∷ xs) (suc k) b is = ap (λ (cs : List Block). x ∷ cs) (lower_one xs k b is)

pub lowered_past : (bs : List Block) (k : ℕ) → length bs ≤ k → lowered_blocks k bs ≡ bs
lowered_past [] k h = refl
lowered_past (x ∷ xs) zero h = absurd (omega (arith, h))
lowered_past (x ∷ xs) (suc k) h = ap (λ (cs : List Block). x ∷ cs) (lowered_past xs k (omega (arith, h)))

pub lowered_length : (k : ℕ) (bs : List Block) → length (lowered_blocks k bs) ≡ length bs
lowered_length k [] = refl
lowered_length zero (x ∷ xs) = ap suc (lowered_length zero xs)
lowered_length (suc k) (x ∷ xs) = ap suc (lowered_length k xs)

-- the block that one was
pub record Lowered (bs : List Block) (i : ℕ) (c : Block) : Type 0 where
  pub block : Block
  pub is : slice_get bs i ≡ Some block
  pub numbers : c.numbers ≡ block.numbers
  pub start : c.start ≤ block.start

pub lowered_at : (k : ℕ) (bs : List Block) (i : ℕ) (c : Block) → slice_get (lowered_blocks k bs) i ≡ Some c → Lowered bs i c
lowered_at k [] i c is = absurd (none_there i c is)
lowered_at zero (x ∷ xs) zero c is =
    let same = same_Some (record x { start = x.start - 1 }) c is in
    let at = ap (λ (d : Block). d.start) same in
    record { block = x; is = refl; numbers = sym (ap (λ (d : Block). d.numbers) same); start = omega (arith, at) }
lowered_at zero (x ∷ xs) (suc i) c is = let r = lowered_at zero xs i c is in record { block = r.block; is = r.is; numbers = r.numbers; start = r.start }
lowered_at (suc k) (x ∷ xs) zero c is =
    let same = same_Some x c is in
    let at = ap (λ (d : Block). d.start) same in
    record { block = x; is = refl; numbers = sym (ap (λ (d : Block). d.numbers) same); start = omega (arith, at) }
lowered_at (suc k) (x ∷ xs) (suc i) c is = let r = lowered_at k xs i c is in record { block = r.block; is = r.is; numbers = r.numbers; start = r.start }

-- ---- a number goes

pub starts_without : (s : ℕ) (bs : List Block) → AreStarts s bs → (k i : ℕ) (b c : Block) → slice_get bs k ≡ Some b → i < length b.numbers.items → c.start ≡ b.start → c.numbers.items ≡ remove b.numbers.items i → AreStarts s (lowered_blocks (suc k) (slice_set bs k c))
starts_without s [] h k i b c is w start items = absurd (none_there k b is)
starts_without s (x ∷ xs) h zero i b c is w start items =
    let same = same_Some x b is in
    let n : length x.numbers.items ≡ length b.numbers.items = ap (λ (c : Block). length c.numbers.items) same in
    let fewer = length-remove b.numbers.items i w in
    let left = ap length items in
    (start ∙ ap (λ (d : Block). d.start) (sym same) ∙ h.0, lowered_starts (s + length c.numbers.items) (s + length x.numbers.items) xs (omega (arith, n, fewer, left)) h.1)
starts_without s (x ∷ xs) h (suc k) i b c is w start items = (h.0, starts_without (s + length x.numbers.items) xs h.1 k i b c is w start items)

pub joined_without : (s : ℕ) (bs : List Block) → AreStarts s bs → (k i j : ℕ) (b c : Block) → slice_get bs k ≡ Some b → s + j ≡ b.start + i → i < length b.numbers.items → c.numbers.items ≡ remove b.numbers.items i → joined (slice_set bs k c) ≡ remove (joined bs) j
joined_without s [] h k i j b c is e w items = absurd (none_there k b is)
joined_without s (x ∷ xs) h zero i j b c is e w items =
    let same = same_Some x b is in
    let at = ap (λ (d : Block). d.start) same in
    let n : length x.numbers.items ≡ length b.numbers.items = ap (λ (c : Block). length c.numbers.items) same in
    let f = h.0 in
    let m : i ≡ j = omega (arith, e, at, f) in
    ap (λ (ns : List ℕ). ns ++ joined xs) (items ∙ ap (λ (d : Block). remove d.numbers.items i) (sym same) ∙ ap (remove x.numbers.items) m)
    ∙ sym (remove-append_left x.numbers.items (joined xs) j (omega (arith, m, n, w)))
joined_without s (x ∷ xs) h (suc k) i j b c is e w items =
    let l = start_after (s + length x.numbers.items) xs h.1 k b is in
    ap (λ (ns : List ℕ). x.numbers.items ++ ns) (joined_without (s + length x.numbers.items) xs h.1 k i (j - length x.numbers.items) b c is (omega (arith, e, l)) w items)
    ∙ sym (remove-append_right x.numbers.items (joined xs) (length x.numbers.items) j refl (omega (arith, e, l)))

-- ---- whole lists of blocks

pub own_block : (bs : List Block) (end : ℕ) → AreBlocks bs end → (at n : ℕ) → slice_get (joined bs) at ≡ Some n → (b : Block) × (slice_get bs (n / 512) ≡ Some b) × ((i : ℕ) × (slice_get b.numbers.items i ≡ Some n))
own_block bs end h at n is =
    let r = holder 0 bs h.starts at n is in
    let o = (h.blocks r.number r.block r.is).own r.inner n r.here in
    let low = o.0 in
    let high = o.1 in
    let e : r.number ≡ n / 512 = omega (arith, low, high) in
    (r.block, ap (slice_get bs) (sym e) ∙ r.is, (r.inner, r.here))

pub below_end : (bs : List Block) (end : ℕ) → AreBlocks bs end → (at n : ℕ) → slice_get (joined bs) at ≡ Some n → n < end
below_end bs end h at n is =
    let r = holder 0 bs h.starts at n is in
    let o = (h.blocks r.number r.block r.is).own r.inner n r.here in
    o.2

few_joined : (bs : List Block) → ((k : ℕ) (b : Block) → slice_get bs k ≡ Some b → length b.numbers.items ≤ 512) → length (joined bs) ≤ 512 * length bs
few_joined [] few = omega arith
few_joined (x ∷ xs) few =
    let l = length-append x.numbers.items (joined xs) in
    let f = few 0 x refl in
    let r = few_joined xs (λ k b is. few (suc k) b is) in
    omega (arith, l, f, r)

kept_own : (end k : ℕ) (b d : Block) → IsOwn end k b → d.numbers ≡ b.numbers → d.start ≤ b.start → IsOwn end k d
kept_own end k b d h same low =
    let items : d.numbers.items ≡ b.numbers.items = ap (λ v. v.items) same in
    let n = ap length items in
    let room = ap (λ v. vec_capacity v) same in
    let f = h.few in
    let r = h.reached in
    let s = h.low in
    let c = h.roomy in
    record {
      own = λ i m is. h.own i m (ap (λ (ns : List ℕ). slice_get ns i) (sym items) ∙ is);
      few = omega (arith, n, f);
      reached = omega (arith, n, r);
      low = omega (arith, low, s);
      roomy = omega (arith, room, c);
    }

later_own : (end k : ℕ) (b : Block) → IsOwn end k b → IsOwn (end + 1) k b
later_own end k b h =
    let r = h.reached in
    record {
      own = λ i m is. let o = h.own i m is in let x = o.2 in (o.0, o.1, omega (arith, x));
      few = h.few;
      reached = omega (arith, r);
      low = h.low;
      roomy = h.roomy;
    }

only_one : (i m n : ℕ) → slice_get (n ∷ []) i ≡ Some m → n ≡ m
only_one zero m n is = same_Some n m is
only_one (suc i) m n is = absurd (none_there i m is)

module _ (bs : List Block) (end : ℕ) (h : AreBlocks bs end) (small : end < 4294967295) where
  more_own : (k : ℕ) (b c : Block) → slice_get bs k ≡ Some b → suc k ≡ length bs → end < 512 * length bs → c.start ≡ b.start → c.numbers.items ≡ b.numbers.items ++ end ∷ [] → vec_capacity c.numbers ≡ vec_capacity b.numbers → IsOwn (end + 1) k c
  more_own k b c is last room start items capacity =
      let old = h.blocks k b is in
      let needed = h.needed in
      let long = length-append b.numbers.items (end ∷ []) in
      let grown = ap length items in
      let r = old.reached in
      let s = old.low in
      let q = old.roomy in
      record {
        own = λ i m at. elim (one_or_other i (length b.numbers.items)) [
          | inl w ↦
              let e = same_Some end m (sym (newest b.numbers.items end) ∙ ap (slice_get (b.numbers.items ++ end ∷ [])) (sym w) ∙ ap (λ (ns : List ℕ). slice_get ns i) (sym items) ∙ at) in
              (omega (arith, e, needed, last), omega (arith, e, room, last), omega (arith, e))
          | inr w ↦
              let o = old.own i m (sym (older b.numbers.items end i w) ∙ ap (λ (ns : List ℕ). slice_get ns i) (sym items) ∙ at) in
              let x = o.2 in
              (o.0, o.1, omega (arith, x))
        ];
        few = omega (arith, long, grown, r, room, last);
        reached = omega (arith, long, grown, r);
        low = omega (arith, start, s);
        roomy = omega (arith, capacity, q);
      }

  pub more_blocks : (k : ℕ) (b c : Block) → slice_get bs k ≡ Some b → suc k ≡ length bs → end < 512 * length bs → c.start ≡ b.start → c.numbers.items ≡ b.numbers.items ++ end ∷ [] → vec_capacity c.numbers ≡ vec_capacity b.numbers → AreBlocks (slice_set bs k c) (end + 1)
  more_blocks k b c is last room start items capacity =
      let within = slice_get_within bs k b is in
      let needed = h.needed in
      let same = length-set bs k c in
      record {
        starts = starts_with_last 0 bs h.starts k b c is last start;
        blocks = λ m d at. elim (one_or_other m k) [
          | inl w ↦ let e = same_Some c d (sym (set_here bs k c within) ∙ ap (slice_get (slice_set bs k c)) (sym w) ∙ at) in subst (λ (x : Block). IsOwn (end + 1) m x) e (subst (λ (i : ℕ). IsOwn (end + 1) i c) (sym w) (more_own k b c is last room start items capacity))
          | inr w ↦ later_own end m d (h.blocks m d (sym (set_elsewhere bs k c m w) ∙ at))
        ];
        rising = subst IsRising (sym (more_in_last 0 bs k end b c is last items)) (more_rises (joined bs) end h.rising (below_end bs end h));
        covered = omega (arith, same, room);
        needed = omega (arith, same, needed);
        small = omega (arith, small);
      }

  pub new_block : (c : Block) → end ≡ 512 * length bs → c.start ≡ length (joined bs) → c.numbers.items ≡ end ∷ [] → 512 ≤ vec_capacity c.numbers → AreBlocks (bs ++ c ∷ []) (end + 1)
  new_block c full start items capacity =
      let long = length-append bs (c ∷ []) in
      let one = ap length items in
      let most = few_joined bs (λ k b is. (h.blocks k b is).few) in
      record {
        starts = starts_with 0 bs h.starts c (omega (arith, start));
        blocks = λ m d at. elim (one_or_other m (length bs)) [
          | inl w ↦
              let e = same_Some c d (sym (newest bs c) ∙ ap (slice_get (bs ++ c ∷ [])) (sym w) ∙ at) in
              subst (λ (x : Block). IsOwn (end + 1) m x) e (record {
                own = λ i n is. let f = only_one i n end (ap (λ (ns : List ℕ). slice_get ns i) (sym items) ∙ is) in (omega (arith, f, full, w), omega (arith, f, full, w), omega (arith, f));
                few = omega (arith, one);
                reached = omega (arith, one, full, w);
                low = omega (arith, start, most, w);
                roomy = capacity;
              })
          | inr w ↦ later_own end m d (h.blocks m d (sym (older bs c m w) ∙ at))
        ];
        rising = subst IsRising (sym (joined_with bs c ∙ ap (λ (ns : List ℕ). joined bs ++ ns) items)) (more_rises (joined bs) end h.rising (below_end bs end h));
        covered = omega (arith, long, full);
        needed = omega (arith, long, full);
        small = omega (arith, small);
      }

module _ (bs : List Block) (end : ℕ) (h : AreBlocks bs end) (k i : ℕ) (b c : Block) (is : slice_get bs k ≡ Some b) (w : i < length b.numbers.items) (start : c.start ≡ b.start) (items : c.numbers.items ≡ remove b.numbers.items i) (capacity : vec_capacity c.numbers ≡ vec_capacity b.numbers) where
  fewer_own : IsOwn end k c
  fewer_own =
      let old = h.blocks k b is in
      let gone = length-remove b.numbers.items i w in
      let left = ap length items in
      let f = old.few in
      let r = old.reached in
      let s = old.low in
      let q = old.roomy in
      record {
        own = λ j n at. let v = was b.numbers.items i j n (ap (λ (ns : List ℕ). slice_get ns j) (sym items) ∙ at) in old.own v.place n v.is;
        few = omega (arith, gone, left, f);
        reached = omega (arith, gone, left, r);
        low = omega (arith, start, s);
        roomy = omega (arith, capacity, q);
      }

  pub joined_less : joined (lowered_blocks (suc k) (slice_set bs k c)) ≡ remove (joined bs) (b.start + i)
  joined_less = lowered_joined (suc k) (slice_set bs k c) ∙ joined_without 0 bs h.starts k i (b.start + i) b c is (omega arith) w items

  pub fewer_blocks : AreBlocks (lowered_blocks (suc k) (slice_set bs k c)) end
  fewer_blocks =
      let within = slice_get_within bs k b is in
      let set = length-set bs k c in
      let low = lowered_length (suc k) (slice_set bs k c) in
      let covered = h.covered in
      let needed = h.needed in
      record {
        starts = starts_without 0 bs h.starts k i b c is w start items;
        blocks = λ m d at.
            let r = lowered_at (suc k) (slice_set bs k c) m d at in
            elim (one_or_other m k) [
              | inl v ↦
                  let e = same_Some c r.block (sym (set_here bs k c within) ∙ ap (slice_get (slice_set bs k c)) (sym v) ∙ r.is) in
                  kept_own end m r.block d (subst (λ (x : Block). IsOwn end m x) e (subst (λ (j : ℕ). IsOwn end j c) (sym v) fewer_own)) r.numbers r.start
              | inr v ↦ kept_own end m r.block d (h.blocks m r.block (sym (set_elsewhere bs k c m v) ∙ r.is)) r.numbers r.start
            ];
        rising = subst IsRising (sym joined_less) (less_rises (joined bs) (b.start + i) h.rising);
        covered = omega (arith, set, low, covered);
        needed = omega (arith, set, low, needed);
        small = h.small;
      }

  -- the blocks behind it don't start at the first place
  pub later_ones : (m : ℕ) (d : Block) → suc k ≤ m → slice_get (slice_set bs k c) m ≡ Some d → 1 ≤ d.start
  later_ones m d l at =
      let other : m ≢ k = λ e. omega (arith, e, l) in
      later_start 0 bs h.starts k m b d is (omega (arith, w)) (omega (arith, l)) (sym (set_elsewhere bs k c m other) ∙ at)

pub some_block : (bs : List Block) (at : ℕ) → at < length (joined bs) → 0 < length bs
some_block [] at h = absurd (omega (arith, h))
some_block (x ∷ xs) at h = omega arith

there_is : {A : Type 0} → (xs : List A) (i : ℕ) → i < length xs → (x : A) × (slice_get xs i ≡ Some x)
there_is [] i h = absurd (omega (arith, h))
there_is (x ∷ xs) zero h = (x, refl)
there_is (x ∷ xs) (suc i) h = there_is xs i (omega (arith, h))

-- the number at a place has gone
pub record Gone (bs after : List Block) (end at n : ℕ) : Type 0 where
  pub blocks : AreBlocks after end
  pub items : joined after ≡ remove (joined bs) at
  pub gives : slice_get (joined bs) at ≡ Some n

module _ (bs new : List Block) (end k at n : ℕ) (h : AreBlocks bs end) (within : k < length bs)
    (range : (b : Block) → slice_get bs k ≡ Some b → (b.start ≤ at) × (at < b.start + length b.numbers.items))
    (taken : (b : Block) → slice_get bs k ≡ Some b → IsNumberTaken bs new k (at - b.start) b n) where
  pub gone : (after : List Block) → after ≡ lowered_blocks (k + 1) new → Gone bs after end at n
  gone after e =
      let o = there_is bs k within in
      let b = o.0 in
      let is = o.1 in
      let r = range b is in
      let low = r.0 in
      let high = r.1 in
      let t = taken b is in
      let i = at - b.start in
      let w : i < length b.numbers.items = omega (arith, low, high) in
      let same : at ≡ b.start + i = omega (arith, low) in
      let step : k + 1 ≡ suc k = omega arith in
      let now : after ≡ lowered_blocks (suc k) (slice_set bs k t.left) = e ∙ ap (λ m. lowered_blocks m new) step ∙ ap (lowered_blocks (suc k)) t.changed in
      record {
        blocks = subst (λ xs. AreBlocks xs end) (sym now) (fewer_blocks bs end h k i b t.left is w t.start t.items t.capacity);
        items = ap joined now ∙ joined_less bs end h k i b t.left is w t.start t.items t.capacity ∙ ap (remove (joined bs)) (sym same);
        gives = ap (slice_get (joined bs)) same ∙ number_in bs h.starts k b is i w ∙ t.gives;
      }

  pub behind : (m : ℕ) (d : Block) → k + 1 ≤ m → slice_get new m ≡ Some d → 1 ≤ d.start
  behind m d l there =
      let o = there_is bs k within in
      let b = o.0 in
      let is = o.1 in
      let r = range b is in
      let low = r.0 in
      let high = r.1 in
      let t = taken b is in
      let i = at - b.start in
      let w : i < length b.numbers.items = omega (arith, low, high) in
      later_ones bs end h k i b t.left is w t.start t.items t.capacity m d (omega (arith, l)) (subst (λ xs. slice_get xs m ≡ Some d) t.changed there)
