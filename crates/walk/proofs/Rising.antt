-- A walk one step at a time: the values of one node, and the walk below it by the rows of its run of children.
use Rattle.std.proofs.Common.{◌≡◌, ℕ, zero, suc, ◌+◌, ◌-◌, ◌/◌, ◌^◌, ◌<◌, ◌≤◌, Bool, true, false, cond, List, [], ◌∷◌, ◌++◌, length, Some, None, Option, sym, refl, ap, ◌∙◌, inl, inr, arith}
use Rattle.std.proofs.lemmas.List.{append-nil, append_assoc}
use Rattle.std.proofs.lemmas.Bool.{cases_eq, cases_Bool}
use Rattle.bitmap.specs.Ranks.{bit, rank}
use Rattle.bitmap.proofs.Ranks.{cases_bit, rank_strict}
use Rattle.runs.specs.Lists.{nth}
use Rattle.runs.specs.declared.entry.NodeRow.{NodeRow}
use Rattle.runs.specs.declared.index.NodeIndex.{NodeIndex}
use Rattle.table_model.specs.Tree.{Path, Tree, below, listed, rising, falling, walk}
use Rattle.table_model.specs.Table.{is_some, then, child, value, find, tree_of}
use Rattle.table_model.proofs.Nths.{nth_in}
use Rattle.table_model.proofs.Entries.{entry_set, entry_clear}
use Rattle.table_model.proofs.Finds.{find_nil}
use Rattle.table_model.proofs.Whole.{some_of}
use Rattle.trunk.specs.declared.spot.Place.{Place}
use Rattle.walk.specs.Places.{run_places}
use Rattle.walk.proofs.Lowest.{Lowest, none_from}
use Rattle.walk.specs.Coming.{row_at, of_row, of_places, walk_of, own_of}

-- the tree below a row, where f says what a node has at its bits
abbrev pub tree_by : {X : Type 0} → (ℕ → List NodeRow) → (NodeRow → ℕ → Option X) → NodeRow → Tree X
tree_by nodes f r = record { has = λ p. is_some (find nodes r p); val = λ p b. then (find nodes r p) (λ s. f s b) }

module _ {X : Type 0} where
  -- clear bits give nothing
  skip : (n b c : ℕ) (t : Tree X) → b ≤ c → c ≤ b + n → ((i : ℕ) → b ≤ i → i < c → t.val [] i ≡ None) → rising n b t ≡ rising (b + n - c) c t
  unfolding rising
  skip zero b c t l u h =
      let e : b + zero - c ≡ 0 = omega arith in
      sym (ap (λ (k : ℕ). rising k c t) e)
  skip (suc n) b c t l u h = elim (cases_eq b c) [
    | inl e ↦
        let k : b + suc n - c ≡ suc n = omega arith in
        ap (λ (x : ℕ). rising (suc n) x t) e ∙ sym (ap (λ (x : ℕ). rising x c t) k)
    | inr ne ↦
        let k : suc b + n - c ≡ b + suc n - c = omega arith in
        ap (λ (o : Option X). listed b o ++ rising n (suc b) t) (h b (omega arith) (omega arith))
        ∙ skip n (suc b) c t (omega arith) (omega arith) (λ i a z. h i (omega arith) z)
        ∙ ap (λ (x : ℕ). rising x c t) k
  ]

  -- a path that is not there has nothing below it
  falling_same : (v w : Tree X → List (ℕ × X)) (n : ℕ) (t : Tree X) → ((b : ℕ) → t.has (b ∷ []) ≡ true → v (below t b) ≡ w (below t b)) → falling v n t ≡ falling w n t
  unfolding falling
  falling_same v w zero t h = refl
  falling_same v w (suc n) t h = elim (cases_Bool (t.has (n ∷ []))) [
    | inl y ↦
        ap (λ (xs : List (ℕ × X)). cond (t.has (n ∷ [])) xs [] ++ falling v n t) (h n y)
        ∙ ap (λ (xs : List (ℕ × X)). cond (t.has (n ∷ [])) (w (below t n)) [] ++ xs) (falling_same v w n t h)
    | inr z ↦
        ap (λ (x : Bool). cond x (v (below t n)) [] ++ falling v n t) z ∙ falling_same v w n t h
        ∙ sym (ap (λ (x : Bool). cond x (w (below t n)) [] ++ falling w n t) z)
  ]

  falling_none : (w : Tree X → List (ℕ × X)) (n : ℕ) (t : Tree X) → ((b : ℕ) → t.has (b ∷ []) ≡ false) → falling w n t ≡ []
  unfolding falling
  falling_none w zero t h = refl
  falling_none w (suc n) t h = ap (λ (x : Bool). cond x (w (below t n)) [] ++ falling w n t) (h n) ∙ falling_none w n t h

  -- one level more than there is gives nothing
  deeper : (d : ℕ) (t : Tree X) → ((p : Path) → t.has p ≡ true → length p ≤ d) → walk (suc d) t ≡ walk d t
  unfolding walk
  deeper zero t h = ap (λ (xs : List (ℕ × X)). rising 31 0 t ++ xs) (falling_none (walk 0) 32 t none) ∙ append-nil (rising 31 0 t)
    where
      none : (b : ℕ) → t.has (b ∷ []) ≡ false
      none b = elim (cases_Bool (t.has (b ∷ []))) [
        | inl y ↦ absurd (omega (arith, h (b ∷ []) y))
        | inr n ↦ n
      ]
  deeper (suc d) t h = ap (λ (xs : List (ℕ × X)). rising 31 0 t ++ xs) (falling_same (walk (suc d)) (walk d) 32 t (λ b y. deeper d (below t b) (λ p z. omega (arith, h (b ∷ p) z))))

module _ {X : Type 0} (nodes : ℕ → List NodeRow) (f : NodeRow → ℕ → Option X) (r : NodeRow) where
  val_is : (b : ℕ) → (tree_by nodes f r).val [] b ≡ f r b
  val_is b = ap (λ (o : Option NodeRow). then o (λ (s : NodeRow). f s b)) (find_nil nodes r)

  pub own_none : (b : ℕ) → b ≤ 31 → ((i : ℕ) → b ≤ i → i < 31 → f r i ≡ None) → own_of (tree_by nodes f) b r ≡ []
  unfolding own_of rising
  own_none b l h =
      let e : b + (31 - b) - 31 ≡ 0 = omega arith in
      skip (31 - b) b 31 (tree_by nodes f r) l (omega arith) (λ i a z. val_is i ∙ h i a z)
      ∙ ap (λ (k : ℕ). rising k 31 (tree_by nodes f r)) e

  pub own_some : (b c : ℕ) (x : X) → b ≤ c → c < 31 → ((i : ℕ) → b ≤ i → i < c → f r i ≡ None) → f r c ≡ Some x → own_of (tree_by nodes f) b r ≡ (c, x) ∷ own_of (tree_by nodes f) (c + 1) r
  unfolding own_of rising
  own_some b c x l u h e =
      let k : b + (31 - b) - c ≡ suc (30 - c) = omega arith in
      let m : 30 - c ≡ 31 - (c + 1) = omega arith in
      let s : suc c ≡ c + 1 = omega arith in
      skip (31 - b) b c (tree_by nodes f r) l (omega arith) (λ i a z. val_is i ∙ h i a z)
      ∙ ap (λ (j : ℕ). rising j c (tree_by nodes f r)) k
      ∙ ap (λ (o : Option X). listed c o ++ rising (30 - c) (suc c) (tree_by nodes f r)) (val_is c ∙ e)
      ∙ ap (λ (j : ℕ). (c, x) ∷ rising j (suc c) (tree_by nodes f r)) m
      ∙ ap (λ (j : ℕ). (c, x) ∷ rising (31 - (c + 1)) j (tree_by nodes f r)) s

  below_child : (b : ℕ) (s : NodeRow) → child nodes r b ≡ Some s → below (tree_by nodes f r) b ≡ tree_by nodes f s
  unfolding find
  below_child b s e = ap {B = Tree X} (λ (o : Option NodeRow). record { has = λ p. is_some (then o (λ (u : NodeRow). find nodes u p)); val = λ p c. then (then o (λ (u : NodeRow). find nodes u p)) (λ (u : NodeRow). f u c) }) e

  has_child : (b : ℕ) (o : Option NodeRow) → child nodes r b ≡ o → (tree_by nodes f r).has (b ∷ []) ≡ is_some o
  unfolding find
  has_child b o e = ap (λ (x : Option NodeRow). is_some (then {B = NodeRow} x (λ s. Some s))) e ∙ kept o
    where
      kept : (x : Option NodeRow) → is_some (then {B = NodeRow} x (λ s. Some s)) ≡ is_some x
      kept None = refl
      kept (Some s) = refl

pub find_child : (nodes : ℕ → List NodeRow) (r : NodeRow) (b : ℕ) (s : NodeRow) (p : Path) (u : NodeRow) → child nodes r b ≡ Some s → find nodes s p ≡ Some u → find nodes r (b ∷ p) ≡ Some u
unfolding find
find_child nodes r b s p u e q = ap (λ (o : Option NodeRow). then {B = NodeRow} o (λ (x : NodeRow). find nodes x p)) e ∙ q

pub child_of : (nodes : ℕ → List NodeRow) (r : NodeRow) (b : ℕ) → length (nodes r.children_index) ≡ rank r.child_bitmap 32 → b < 32 → bit r.child_bitmap b ≡ 1 → (s : NodeRow) × (child nodes r b ≡ Some s)
child_of nodes r b full l o =
    let x = nth_in (nodes r.children_index) (rank r.child_bitmap b) (omega (arith, full, rank_strict r.child_bitmap b 32 o l)) in
    (x.0, entry_set (nodes r.children_index) r.child_bitmap b o ∙ x.1)

module _ {X : Type 0} (nodes : ℕ → List NodeRow) (f : NodeRow → ℕ → Option X) (r : NodeRow) (full : length (nodes r.children_index) ≡ rank r.child_bitmap 32) (deep : (p : Path) (s : NodeRow) → find nodes r p ≡ Some s → length p ≤ 25) (a : NodeIndex) (same : a.number ≡ r.children_index) where
  -- a child's walk has no need of its last level
  child_walk : (b : ℕ) (s : NodeRow) → child nodes r b ≡ Some s → walk 24 (below (tree_by nodes f r) b) ≡ walk_of (tree_by nodes f) s
  unfolding walk_of
  child_walk b s e = ap (walk 24) (below_child nodes f r b s e) ∙ sym (deeper 24 (tree_by nodes f s) short)
    where
      short : (p : Path) → is_some (find nodes s p) ≡ true → length p ≤ 24
      short p y =
          let u = some_of (find nodes s p) y in
          let l : suc (length p) ≤ 25 = deep (b ∷ p) u.0 (find_child nodes r b s p u.0 e u.1) in
          omega arith

  pub row_here : (b : ℕ) (s : NodeRow) → bit r.child_bitmap b ≡ 1 → child nodes r b ≡ Some s → nth (nodes a.number) (rank r.child_bitmap b) ≡ Some s
  row_here b s o e = ap (λ (i : ℕ). nth (nodes i) (rank r.child_bitmap b)) same ∙ sym (entry_set (nodes r.children_index) r.child_bitmap b o) ∙ e

  falls : (n : ℕ) → n ≤ 32 → falling (walk 24) n (tree_by nodes f r) ≡ of_places nodes (walk_of (tree_by nodes f)) (run_places a (rank r.child_bitmap n))
  unfolding falling rank of_places
  falls zero l = refl
  falls (suc n) l = elim (cases_bit r.child_bitmap n) [
    | inl z ↦
        let k : rank r.child_bitmap n ≡ rank r.child_bitmap n + bit r.child_bitmap n = omega arith in
        ap (λ (h : Bool). cond h (walk 24 (below (tree_by nodes f r) n)) [] ++ falling (walk 24) n (tree_by nodes f r)) (has_child nodes f r n None (entry_clear (nodes r.children_index) r.child_bitmap n z))
        ∙ falls n (omega arith)
        ∙ ap (λ (j : ℕ). of_places nodes (walk_of (tree_by nodes f)) (run_places a j)) k
    | inr o ↦
        let s = child_of nodes r n full (omega arith) o in
        let k : suc (rank r.child_bitmap n) ≡ rank r.child_bitmap n + bit r.child_bitmap n = omega arith in
        ap (λ (h : Bool). cond h (walk 24 (below (tree_by nodes f r) n)) [] ++ falling (walk 24) n (tree_by nodes f r)) (has_child nodes f r n (Some s.0) s.1)
        ∙ ap (λ (xs : List (ℕ × X)). xs ++ falling (walk 24) n (tree_by nodes f r)) (child_walk n s.0 s.1)
        ∙ ap (λ (xs : List (ℕ × X)). walk_of (tree_by nodes f) s.0 ++ xs) (falls n (omega arith))
        ∙ ap (λ (x : Option NodeRow). of_row (walk_of (tree_by nodes f)) x ++ of_places nodes (walk_of (tree_by nodes f)) (run_places a (rank r.child_bitmap n))) (sym (row_here n s.0 o s.1))
        ∙ ap (λ (j : ℕ). of_places nodes (walk_of (tree_by nodes f)) (run_places a j)) k
  ]

  -- a row's walk: its own values, and what the places of its children have
  pub unfolds : walk_of (tree_by nodes f) r ≡ own_of (tree_by nodes f) 0 r ++ of_places nodes (walk_of (tree_by nodes f)) (run_places a (rank r.child_bitmap 32))
  unfolding walk_of own_of walk
  unfolds = ap (λ (xs : List (ℕ × X)). rising 31 0 (tree_by nodes f r) ++ xs) (falls 32 (omega arith))

module _ {X : Type 0} (nodes : ℕ → List NodeRow) (w : NodeRow → List X) where
  pub places_append : (ps qs : List Place) → of_places nodes w (ps ++ qs) ≡ of_places nodes w ps ++ of_places nodes w qs
  unfolding of_places
  places_append [] qs = refl
  places_append (p ∷ ps) qs =
      ap (λ (xs : List X). of_row w (row_at nodes p) ++ xs) (places_append ps qs)
      ∙ sym (append_assoc (of_row w (row_at nodes p)) (of_places nodes w ps) (of_places nodes w qs))

  pub first_place : (p : Place) (ps : List Place) (r : NodeRow) → row_at nodes p ≡ Some r → of_places nodes w (p ∷ ps) ≡ w r ++ of_places nodes w ps
  unfolding of_places
  first_place p ps r e = ap (λ (o : Option NodeRow). of_row w o ++ of_places nodes w ps) e

module _ {V : Type 0} (nodes : ℕ → List NodeRow) (vals : ℕ → List V) (r : NodeRow) where
  -- the values at hand, by the bits that are left of a bitmap
  pub hand_none : (b : ℕ) → b ≤ 31 → r.data_bitmap / 2 ^ b ≡ 0 → own_of (tree_of nodes vals) b r ≡ []
  hand_none b l z = own_none nodes (value vals) r b l (λ i a _. entry_clear (vals r.data_index) r.data_bitmap i (none_from r.data_bitmap b i z a))

  pub hand_some : (b c : ℕ) (x : V) → b ≤ c → c < 31 → Lowest r.data_bitmap b c → nth (vals r.data_index) (rank r.data_bitmap c) ≡ Some x → own_of (tree_of nodes vals) b r ≡ (c, x) ∷ own_of (tree_of nodes vals) (c + 1) r
  hand_some b c x l u low e =
      own_some nodes (value vals) r b c x l u (λ i a z. entry_clear (vals r.data_index) r.data_bitmap i (low.clear i a z))
      (entry_set (vals r.data_index) r.data_bitmap c low.here ∙ e)
