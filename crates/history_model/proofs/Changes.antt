-- One thing exchanged in a tree: the values held, and any number summed over the nodes.
use Rattle.std.proofs.Common.{◌≡◌, ℕ, zero, suc, ◌+◌, ◌<◌, Bool, true, false, cond, eqb, List, [], ◌∷◌, ◌++◌, length, Some, None, sum_by, Option, sym, refl, ap, ◌∙◌, subst, inl, inr, append_assoc, append-nil, arith}
use mathlib.Core.Path.{fun_ext}
use Rattle.std.specs.List.Sorted.{IsPermutation}
use Rattle.std.proofs.lemmas.List.Sums.{sum_by-append}
use Rattle.std.proofs.lemmas.List.{map-append}
use Rattle.std.proofs.lemmas.Bool.{eq-eqb, ne_eqb, cases_eq, and_right}
use Rattle.std.proofs.lemmas.List.Sorted.{IsPermutation-append_right, IsPermutation-append_left, IsPermutation-trans, IsPermutation-sym, sum_by-IsPermutation}
use Rattle.table_model.specs.Tree.{Path, Tree, Plain, with_val, with_path, below, listed, walk}
use Rattle.table_model.specs.Tree as plain
use Rattle.table_model.specs.Table.{is_some}
use Rattle.table_model.specs.Refusals.{passing, value_count, child_count}
use Rattle.history_model.specs.Books.{values, sum_below, in_group, over_nodes}
use Rattle.history_model.proofs.Gathered.{rising, falling, collect, one_of, vals, Local, sub, Exchanged, LeafMore}
use Rattle.history_model.proofs.Shuffles.{shuffled_front}
use Rattle.history_model.proofs.Places as places
use Rattle.history_model.proofs.Places.{without, without_agree, falling_pick, rising_pick, falling_none, rising_none}
use Rattle.history_model.proofs.Paths.{away_val, away_path, sub_val, sub_path, leaf_more, on, depth, room}
use Rattle.history_model.proofs.Plains.{no_child, no_value}

-- ---- one list in place of another

module _ {X : Type 0} where
  -- within the part that is exchanged, another exchange
  pub exchanged_in : {xs m ys n m' n' : List X} → Exchanged xs m ys n → Exchanged m m' n n' → Exchanged xs m' ys n'
  exchanged_in {xs} {m} {ys} {n} {m'} {n'} h k = record {
    rest = k.rest ++ h.rest;
    first = subst (λ (l : List X). IsPermutation xs l) (append_assoc m' k.rest h.rest) (IsPermutation-trans xs (m ++ h.rest) ((m' ++ k.rest) ++ h.rest) h.first (IsPermutation-append_left h.rest m (m' ++ k.rest) k.first));
    second = subst (λ (l : List X). IsPermutation ys l) (append_assoc n' k.rest h.rest) (IsPermutation-trans ys (n ++ h.rest) ((n' ++ k.rest) ++ h.rest) h.second (IsPermutation-append_left h.rest n (n' ++ k.rest) k.second));
  }

  pub exchanged_back : {xs m ys n : List X} → Exchanged xs m ys n → Exchanged ys n xs m
  exchanged_back h = record { rest = h.rest; first = h.second; second = h.first }

  -- the same list exchanged for itself
  pub exchanged_none : {xs m ys : List X} → Exchanged xs m ys m → Exchanged xs [] ys []
  exchanged_none {xs} {m} {ys} h = record { rest = m ++ h.rest; first = h.first; second = h.second }

  -- a rearrangement before or after an exchange
  pub exchanged_after : {xs ys m zs n : List X} → Exchanged xs [] ys [] → Exchanged ys m zs n → Exchanged xs m zs n
  exchanged_after {xs} {ys} {m} {zs} {n} h k = record {
    rest = k.rest;
    first = IsPermutation-trans xs ys (m ++ k.rest) (IsPermutation-trans xs h.rest ys h.first (IsPermutation-sym ys h.rest h.second)) k.first;
    second = k.second;
  }

pub balanced : {X : Type 0} (xs m ys n : List X) → Exchanged xs m ys n → IsPermutation (n ++ xs) (m ++ ys)
balanced xs m ys n h =
    IsPermutation-trans (n ++ xs) (n ++ (m ++ h.rest)) (m ++ ys) (IsPermutation-append_right n xs (m ++ h.rest) h.first)
    (IsPermutation-trans (n ++ (m ++ h.rest)) (m ++ (n ++ h.rest)) (m ++ ys) (shuffled_front n m h.rest)
    (IsPermutation-append_right m (n ++ h.rest) ys (IsPermutation-sym ys (n ++ h.rest) h.second)))

total : List ℕ → ℕ
total xs = sum_by (λ x. x) xs

exchanged_sum : (xs m ys n : List ℕ) → Exchanged xs m ys n → total ys + total m ≡ total xs + total n
unfolding total
exchanged_sum xs m ys n h =
    omega (arith, sum_by-IsPermutation (λ x. x) xs (m ++ h.rest) h.first, sum_by-IsPermutation (λ x. x) ys (n ++ h.rest) h.second, sum_by-append (λ x. x) m h.rest, sum_by-append (λ x. x) n h.rest)

-- ---- one bit of a node

module _ {X : Type 0} where
  pub rising_exchanged : (n b : ℕ) (g h : ℕ → List X) → b < n → ((c : ℕ) → (b ≡ c → ⊥) → g c ≡ h c) → Exchanged (rising n g) (g b) (rising n h) (h b)
  rising_exchanged n b g h l e = record {
    rest = rising n (without b g);
    first = rising_pick n b g l;
    second = subst (λ (k : ℕ → List X). IsPermutation (rising n h) (h b ++ rising n k)) (sym (without_agree b g h e)) (rising_pick n b h l);
  }

-- sums over nodes are those of lists
total_falling : (n : ℕ) (g : ℕ → List ℕ) → total (falling n g) ≡ sum_below (λ b. total (g b)) n
unfolding falling sum_below total
total_falling zero g = refl
total_falling (suc n) g = omega (arith, sum_by-append (λ x. x) (g n) (falling n g), total_falling n g)

total_cond : (x : Bool) (l : List ℕ) → total (cond x l []) ≡ cond x (total l) 0
unfolding total
total_cond true l = refl
total_cond false l = refl

-- ---- the values held are those of the nodes

up : ℕ → ℕ → ℕ
up zero k = k
up (suc n) k = up n (suc k)

values_listed : {V : Type 0} (b : ℕ) (o : Option V) → values (listed b o) ≡ one_of o
values_listed b None = refl
values_listed b (Some v) = refl

module _ {V : Type 0} where
  unfoldable pub held : Tree V → List V
  held t = values (walk 25 t)

  values_append : (xs ys : List (ℕ × V)) → values (xs ++ ys) ≡ values xs ++ values ys
  values_append xs ys = map-append (λ (e : ℕ × V). e.1) xs ys

  rising_from : (t : Tree V) (n k : ℕ) → rising k (λ b. one_of (t.val [] b)) ++ values (plain.rising n k t) ≡ rising (up n k) (λ b. one_of (t.val [] b))
  unfolding rising plain.rising up
  rising_from t zero k = append-nil (rising k (λ b. one_of (t.val [] b)))
  rising_from t (suc n) k =
      ap (λ (l : List V). rising k (λ b. one_of (t.val [] b)) ++ l) (values_append (listed k (t.val [] k)) (plain.rising n (suc k) t) ∙ ap (λ (l : List V). l ++ values (plain.rising n (suc k) t)) (values_listed k (t.val [] k)))
      ∙ sym (append_assoc (rising k (λ b. one_of (t.val [] b))) (one_of (t.val [] k)) (values (plain.rising n (suc k) t)))
      ∙ rising_from t n (suc k)

  own_vals : (t : Tree V) → values (plain.rising 31 0 t) ≡ vals t
  unfolding vals up rising
  own_vals t = rising_from t 31 0

  values_cond : (x : Bool) (l : List (ℕ × V)) → values (cond x l []) ≡ cond x (values l) []
  values_cond true l = refl
  values_cond false l = refl

  children_vals : (w : Tree V → List (ℕ × V)) (n : ℕ) (t : Tree V) → values (plain.falling w n t) ≡ falling n (λ b. cond (t.has (b ∷ [])) (values (w (below t b))) [])
  unfolding plain.falling falling
  children_vals w zero t = refl
  children_vals w (suc n) t =
      values_append (cond (t.has (n ∷ [])) (w (below t n)) []) (plain.falling w n t)
      ∙ ap (λ (l : List V). l ++ values (plain.falling w n t)) (values_cond (t.has (n ∷ [])) (w (below t n)))
      ∙ ap (λ (l : List V). cond (t.has (n ∷ [])) (values (w (below t n))) [] ++ l) (children_vals w n t)

  walk_vals : (d : ℕ) (t : Tree V) → values (walk d t) ≡ collect d vals t
  unfolding walk collect
  walk_vals zero t = own_vals t
  walk_vals (suc d) t =
      values_append (plain.rising 31 0 t) (plain.falling (walk d) 32 t)
      ∙ ap (λ (l : List V). l ++ values (plain.falling (walk d) 32 t)) (own_vals t)
      ∙ ap (λ (l : List V). vals t ++ l)
      (children_vals (walk d) 32 t ∙ ap (λ (g : ℕ → List V). falling 32 g) (fun_ext (λ b. ap (λ (l : List V). cond (t.has (b ∷ [])) l []) (walk_vals d (below t b)))))

  pub held_is : (t : Tree V) → collect 25 vals t ≡ held t
  unfolding held
  held_is t = sym (walk_vals 25 t)

  total_collect : (f : Tree V → ℕ) (d : ℕ) (t : Tree V) → total (collect d (λ s. f s ∷ []) t) ≡ over_nodes f d t
  unfolding collect over_nodes total
  total_collect f zero t = omega arith
  total_collect f (suc d) t =
      let kids : ℕ → List ℕ = λ b. cond (t.has (b ∷ [])) (collect d (λ s. f s ∷ []) (below t b)) [] in
      omega (
        arith,
        sum_by-append (λ x. x) (f t ∷ []) (falling 32 kids),
        total_falling 32 kids,
        ap (λ (h : ℕ → ℕ). sum_below h 32) (fun_ext (λ b. total_cond (t.has (b ∷ [])) (collect d (λ s. f s ∷ []) (below t b)) ∙ ap (λ (k : ℕ). cond (t.has (b ∷ [])) k 0) (total_collect f d (below t b)))),
      )

  -- ---- the readings look at one node only

  near_vals : Local (vals {V = V})
  unfolding vals
  near_vals s t e h = ap (λ (w : ℕ → Option V). rising 31 (λ b. one_of (w b))) e

  pub near_values : (longest z : ℕ) → Local (λ (s : Tree V). in_group longest z (value_count s []))
  near_values longest z s t e h = ap (λ (w : ℕ → Option V). in_group longest z (passing (λ b. is_some (w b)) 31)) e

  pub near_children : (z : ℕ) → Local (λ (s : Tree V). in_group 32 z (child_count s []))
  near_children z s t e h = ap (λ (w : ℕ → Bool). in_group 32 z (passing w 32)) (fun_ext h)

  vals_exchanged : (s : Tree V) (b : ℕ) (o : Option V) → b < 31 → Exchanged (vals s) (one_of (s.val [] b)) (vals (with_val s [] b o)) (one_of o)
  unfolding vals
  vals_exchanged s b o l =
      subst (λ (k : List V). Exchanged (rising 31 (λ c. one_of (s.val [] c))) (one_of (s.val [] b)) (rising 31 (λ c. one_of ((with_val s [] b o).val [] c))) k)
      (ap (λ (x : Bool). one_of (cond x o (s.val [] b))) (eq-eqb b b refl))
      (rising_exchanged 31 b (λ c. one_of (s.val [] c)) (λ c. one_of ((with_val s [] b o).val [] c)) l (λ c n. ap (λ (x : Bool). one_of (cond x o (s.val [] c))) (sym (ne_eqb b c n))))

-- ---- the values at p written at one bit

module _ {V : Type 0} (t : Tree V) (w : Plain t) (p : Path) (here : t.has p ≡ true) where
  module _ (b : ℕ) (o : Option V) where
    abbrev written : Tree V
    written = with_val t p b o

    at_val : {X : Type 0} (f : Tree V → List X) → Local f → Exchanged (collect 25 f t) (f (sub t p)) (collect 25 f written) (f (sub written p))
    at_val f near =
        places.changed f near 25 t written p (on t w p 25 (depth t w p here) here) (away_val p t b o)
        (record { children = λ e. ap (λ (u : Tree V). u.has (e ∷ [])) (sym (sub_val p t b o)); same = λ e. ap (λ (u : Tree V). below u e) (sym (sub_val p t b o)) })

    pub held_val : b < 31 → Exchanged (held t) (one_of (t.val p b)) (held written) (one_of o)
    held_val l =
        let q : (t.val (p ++ []) b) ≡ t.val p b = ap (λ (q : Path). t.val q b) (append-nil p) in
        let x : Exchanged (collect 25 vals t) (vals (sub t p)) (collect 25 vals written) (vals (with_val (sub t p) [] b o)) =
        subst (λ (u : Tree V). Exchanged (collect 25 vals t) (vals (sub t p)) (collect 25 vals written) (vals u)) (sub_val p t b o) (at_val vals near_vals) in
        let y : Exchanged (collect 25 vals t) (one_of (t.val (p ++ []) b)) (collect 25 vals written) (one_of o) = exchanged_in x (vals_exchanged (sub t p) b o l) in
        subst (λ (k : Option V). Exchanged (held t) (one_of k) (held written) (one_of o)) q
        (subst (λ (k : List V). Exchanged (held t) (one_of (t.val (p ++ []) b)) k (one_of o)) (held_is written)
        (subst (λ (k : List V). Exchanged k (one_of (t.val (p ++ []) b)) (collect 25 vals written) (one_of o)) (held_is t) y))

    pub sum_val : (f : Tree V → ℕ) → Local f → over_nodes f 25 written + f (sub t p) ≡ over_nodes f 25 t + f (sub written p)
    unfolding total
    sum_val f near =
        let g : Tree V → List ℕ = λ s. f s ∷ [] in
        omega (
          arith,
          exchanged_sum (collect 25 g t) (f (sub t p) ∷ []) (collect 25 g written) (f (sub written p) ∷ []) (at_val g (λ r s e h. ap (λ (k : ℕ). k ∷ []) (near r s e h))),
          total_collect f 25 t,
          total_collect f 25 written,
        )

-- ---- a bare child more

module _ {V : Type 0} (t : Tree V) (w : Plain t) (p : Path) (here : t.has p ≡ true) (short : length p < 25) (b : ℕ) (low : b < 32) (absent : t.has (p ++ (b ∷ [])) ≡ false) where
  abbrev pub grown : Tree V
  grown = with_path t (p ++ (b ∷ [])) true

  -- the child, which has no value and no child
  abbrev pub leaf : Tree V
  leaf = below (with_path (sub t p) (b ∷ []) true) b

  free_child : (c : ℕ) → t.has (p ++ (b ∷ c ∷ [])) ≡ false
  free_child c = subst (λ (q : Path). t.has q ≡ false) (append_assoc p (b ∷ []) (c ∷ [])) (no_child t w (p ++ (b ∷ [])) c absent)

  at_leaf : {X : Type 0} (f : Tree V → List X) → Local f → Exchanged (collect 25 f t) (f (sub t p)) (collect 25 f grown) (f (sub grown p) ++ f leaf)
  at_leaf {X} f near =
      let r = room p 25 short in
      let e = sub_path p t b true in
      let x : Exchanged (collect 25 f t) (f (sub t p)) (collect 25 f grown) (f (sub grown p) ++ f (below (sub grown p) b)) =
      places.leaf f near 25 r.0 t grown p b (on t w p 25 (omega arith) here) r.1 low (away_path p t b true)
      (subst (λ (u : Tree V). LeafMore b (sub t p) u) (sym e) (leaf_more (sub t p) b absent free_child)) in
      subst (λ (u : Tree V). Exchanged (collect 25 f t) (f (sub t p)) (collect 25 f grown) (f (sub grown p) ++ f (below u b))) e x

  pub leaf_val : (c : ℕ) → leaf.val [] c ≡ None
  leaf_val c = no_value t w (p ++ (b ∷ [])) c absent

  pub leaf_child : (c : ℕ) → leaf.has (c ∷ []) ≡ false
  leaf_child c = ap (λ (x : Bool). cond x true (t.has (p ++ (b ∷ c ∷ [])))) (and_right (eqb b b) false refl) ∙ free_child c

  leaf_vals : vals leaf ≡ []
  unfolding vals
  leaf_vals = rising_none 31 (λ c. one_of (leaf.val [] c)) (λ c l. ap one_of (leaf_val c))

  same_vals : vals (sub grown p) ≡ vals (sub t p)
  unfolding vals
  same_vals = refl

  pub held_add : Exchanged (held t) [] (held grown) []
  held_add =
      let x : Exchanged (collect 25 vals t) (vals (sub t p)) (collect 25 vals grown) (vals (sub t p)) =
      subst (λ (l : List V). Exchanged (collect 25 vals t) (vals (sub t p)) (collect 25 vals grown) l) (ap (λ (l : List V). vals (sub grown p) ++ l) leaf_vals ∙ append-nil (vals (sub grown p)) ∙ same_vals) (at_leaf vals near_vals) in
      subst (λ (k : List V). Exchanged (held t) [] k []) (held_is grown) (subst (λ (k : List V). Exchanged k [] (collect 25 vals grown) []) (held_is t) (exchanged_none x))

  pub sum_add : (f : Tree V → ℕ) → Local f → f leaf ≡ 0 → over_nodes f 25 grown + f (sub t p) ≡ over_nodes f 25 t + f (sub grown p)
  unfolding total
  sum_add f near none =
      let g : Tree V → List ℕ = λ s. f s ∷ [] in
      omega (
        arith,
        exchanged_sum (collect 25 g t) (f (sub t p) ∷ []) (collect 25 g grown) (f (sub grown p) ∷ f leaf ∷ []) (at_leaf g (λ r s e h. ap (λ (k : ℕ). k ∷ []) (near r s e h))),
        total_collect f 25 t,
        total_collect f 25 grown,
      )

-- ---- how many numbers pass a test that changes at one

pub passing_same : (f g : ℕ → Bool) (n : ℕ) → ((b : ℕ) → b < n → g b ≡ f b) → passing g n ≡ passing f n
unfolding passing
passing_same f g zero h = refl
passing_same f g (suc n) h = omega (arith, passing_same f g n (λ b l. h b (omega arith)), ap (λ (x : Bool). cond {A = ℕ} x 1 0) (h n (omega arith)))

pub passing_turn : (f g : ℕ → Bool) (b n : ℕ) → b < n → ((c : ℕ) → (b ≡ c → ⊥) → g c ≡ f c) → passing g n + cond (f b) 1 0 ≡ passing f n + cond (g b) 1 0
unfolding passing
passing_turn f g b zero l h = absurd (omega arith)
passing_turn f g b (suc n) l h = elim (cases_eq b n) [
  | inl e ↦ omega (arith, passing_same f g n (λ c m. h c (λ q. omega arith)), ap (λ (k : ℕ). cond {A = ℕ} (f k) 1 0) e, ap (λ (k : ℕ). cond {A = ℕ} (g k) 1 0) e)
  | inr e ↦ omega (arith, passing_turn f g b n (omega arith) h, ap (λ (x : Bool). cond {A = ℕ} x 1 0) (h n e))
]
