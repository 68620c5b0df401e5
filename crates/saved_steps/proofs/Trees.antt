-- A change in the place of one execution, seen at every thread.
use Rattle.std.proofs.Common.{◌≡◌, ℕ, Bool, true, false, ◌&&◌, cond, List, ◌++◌, refl, sym, ap, ◌∙◌, subst, Option, Some, None}
use Rattle.std.specs.BTreeMap.{BTreeMap, UpdatesBy, get_by_text}
use Rattle.std.specs.Cmp.Lexicographic.{slice_cmp}
use Rattle.std.specs.Ordering.{nat_cmp}
use Rattle.std.specs.Str.{bytes_eq}
use Rattle.std.specs.String.{string_bytes, string_cmp}
use Rattle.std.specs.declared.string.String.{String}
use Rattle.std.proofs.lemmas.Map.Text.{btree_map_updates_text}
use Rattle.std.proofs.lemmas.Slice.Eq.{bytes_eq-Decides}
use Rattle.branch_tree.specs.Frame.{Frame}
use Rattle.branch_tree.specs.FlatMap.{FrameMap, IsTree, with_frame, grafted, grafted_at}
use Rattle.branch_tree.specs.Paths.{Path, same_path, rest_after}
use Rattle.branch_tree.specs.Tree.{Rows}
use Rattle.step_names.specs.Thread.{Thread}
use Rattle.saved_steps.specs.Held.{placed, tree_in, rows_at, frames_in, paths_of, put_at, with_thread}
use Rattle.saved_steps.proofs.Threads.{same_by_parts}

placed_put : (b : Bool) (w : Option Rows) (o : Option (Option Rows)) → placed (cond b (Some w) o) ≡ cond b w (placed o)
placed_put true w o = refl
placed_put false w o = refl

placed_out : (b : Bool) (o : Option (Option Rows)) → placed (cond b None o) ≡ cond b None (placed o)
placed_out true o = refl
placed_out false o = refl

module _ {Y : Type 0} (m n : BTreeMap (String Y) (Option Rows)) where
  -- the place at a name that is looked up
  pub found : (key exec : List ℕ) (place : Option Rows) → key ≡ exec → get_by_text m key ≡ Some place → tree_in m exec ≡ place
  found key exec place e h = ap (λ (k : List ℕ). tree_in m k) (sym e) ∙ ap placed h

  pub put : (key : List ℕ) (w : Option Rows) → UpdatesBy string_cmp (λ k. slice_cmp nat_cmp key (string_bytes k)) m n (Some w) → (e : List ℕ) → tree_in n e ≡ cond (bytes_eq key e) w (tree_in m e)
  put key w u e = ap placed (btree_map_updates_text key m n (Some w) u e) ∙ placed_put (bytes_eq key e) w (get_by_text m e)

  pub out : (key : List ℕ) → UpdatesBy string_cmp (λ k. slice_cmp nat_cmp key (string_bytes k)) m n None → (e : List ℕ) → tree_in n e ≡ cond (bytes_eq key e) None (tree_in m e)
  out key u e = ap placed (btree_map_updates_text key m n None u e) ∙ placed_out (bytes_eq key e) (get_by_text m e)

  -- a change at one execution's place leaves the others
  pub apart_from : (exec key : List ℕ) (w : Option Rows) → key ≡ exec → UpdatesBy string_cmp (λ k. slice_cmp nat_cmp key (string_bytes k)) m n (Some w)
      → (e : List ℕ) → bytes_eq exec e ≡ false → tree_in n e ≡ tree_in m e
  apart_from exec key w same u e other =
      let apart : bytes_eq key e ≡ false = ap (λ (x : List ℕ). bytes_eq x e) same ∙ other in
      put key w u e ∙ ap (λ (b : Bool). cond b w (tree_in m e)) apart

  -- what a change at a thread's place makes of every thread's frame
  changed : (a : Thread) (v w : Option Rows) (change : Path → Option Frame → Option Frame) → tree_in m a.exec ≡ v → ((e : List ℕ) → tree_in n e ≡ cond (bytes_eq a.exec e) w (tree_in m e))
      → ((q : Path) → rows_at w q ≡ change q (rows_at v q))
      → (t : Thread) → frames_in n t ≡ cond (bytes_eq a.exec t.exec) (change t.path (frames_in m t)) (frames_in m t)
  changed a v w change h u c t = ap (λ (o : Option Rows). rows_at o t.path) (u t.exec) ∙ by (bytes_eq a.exec t.exec) refl
    where
      by : (b : Bool) → bytes_eq a.exec t.exec ≡ b → rows_at (cond b w (tree_in m t.exec)) t.path ≡ cond b (change t.path (frames_in m t)) (frames_in m t)
      by false e = refl
      by true e =
          let same : v ≡ tree_in m t.exec = sym h ∙ ap (λ (x : List ℕ). tree_in m x) ((bytes_eq-Decides a.exec t.exec).0 e) in
          c t.path ∙ ap (λ (o : Option Rows). change t.path (rows_at o t.path)) same

  frame_put : (r s : Bool) (f : Frame) (x : Option Frame) → cond r (cond s (Some f) x) x ≡ cond (r && s) (Some f) x
  frame_put true s f x = refl
  frame_put false s f x = refl

  module _ (a : Thread) (key : List ℕ) (path : Path) (v w : Option Rows) (e : key ≡ a.exec) (p : path ≡ a.path) (h : tree_in m a.exec ≡ v)
      (u : UpdatesBy string_cmp (λ k. slice_cmp nat_cmp key (string_bytes k)) m n (Some w)) where
    at_place : (x : List ℕ) → tree_in n x ≡ cond (bytes_eq a.exec x) w (tree_in m x)
    at_place = subst (λ (k : List ℕ). (x : List ℕ) → tree_in n x ≡ cond (bytes_eq k x) w (tree_in m x)) e (put key w u)

    pub framed : (f : Frame) → ((q : Path) → rows_at w q ≡ with_frame (rows_at v) path f q) → (t : Thread) → frames_in n t ≡ with_thread (frames_in m) a f t
    framed f c t =
        changed a v w (λ q x. cond (same_path a.path q) (Some f) x) h at_place (subst (λ (y : Path). (q : Path) → rows_at w q ≡ with_frame (rows_at v) y f q) p c) t
        ∙ frame_put (bytes_eq a.exec t.exec) (same_path a.path t.path) f (frames_in m t)
        ∙ ap (λ (b : Bool). cond b (Some f) (frames_in m t)) (sym (same_by_parts a t))

    pub grafted_in : (part : FrameMap) → ((q : Path) → rows_at w q ≡ grafted (rows_at v) path part q) → (t : Thread) → frames_in n t ≡ put_at (frames_in m) a part t
    grafted_in part c t =
        changed a v w (λ q x. grafted_at (rest_after a.path q) part x) h at_place (subst (λ (y : Path). (q : Path) → rows_at w q ≡ grafted (rows_at v) y part q) p c) t

  pub tree_there : (exec : List ℕ) (v : Option Rows) → tree_in m exec ≡ v → IsTree (rows_at v) → IsTree (paths_of (frames_in m) exec)
  tree_there exec v h tree = subst (λ (o : Option Rows). IsTree (rows_at o)) (sym h) tree

  -- what holds of a thread's frame holds of the frame at its path in its place
  pub in_place : (a : Thread) (path : Path) (v : Option Rows) (P : Option Frame → Type 0) → path ≡ a.path → tree_in m a.exec ≡ v → P (frames_in m a) → P (rows_at v path)
  in_place a path v P p h x =
      let there : frames_in m a ≡ rows_at v path = ap (λ (o : Option Rows). rows_at o a.path) h ∙ ap (rows_at v) (sym p) in
      subst P there x

  pub was_in : (a : Thread) (path : Path) (v : Option Rows) → path ≡ a.path → tree_in m a.exec ≡ v → (q : Path) → paths_of (frames_in m) a.exec (a.path ++ q) ≡ rows_at v (path ++ q)
  was_in a path v p h q = ap (λ (o : Option Rows). rows_at o (a.path ++ q)) h ∙ ap (λ (y : Path). rows_at v (y ++ q)) (sym p)

  -- an empty place in place of none shows no tree
  pub emptied : (key exec : List ℕ) → key ≡ exec → tree_in m exec ≡ None → UpdatesBy string_cmp (λ k. slice_cmp nat_cmp key (string_bytes k)) m n (Some None) → (e : List ℕ) → tree_in n e ≡ tree_in m e
  emptied key exec s h u e = put key None u e ∙ by (bytes_eq key e) refl
    where
      by : (b : Bool) → bytes_eq key e ≡ b → cond b None (tree_in m e) ≡ tree_in m e
      by false x = refl
      by true x = sym (ap (λ (k : List ℕ). tree_in m k) (sym ((bytes_eq-Decides key e).0 x) ∙ s) ∙ h)
