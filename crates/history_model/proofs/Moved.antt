-- What each call that the tree allows does to the values held and to the groups that stand.
use Rattle.std.proofs.Common.{◌≡◌, ℕ, zero, suc, ◌+◌, ◌-◌, ◌<◌, Bool, true, false, cond, ◌&&◌, eqb, List, [], ◌∷◌, ◌++◌, length, Some, None, Option, sym, refl, ap, ◌∙◌, subst, inl, inr, append-nil, arith}
use mathlib.Core.Path.{fun_ext}
use Rattle.std.specs.List.Sorted.{IsPermutation}
use Rattle.std.proofs.lemmas.List.Sorted.{IsPermutation-refl}
use Rattle.std.proofs.lemmas.Bool.{eq-eqb, ne_eqb, eqb-true, false≢true, cases_Bool, cases_eq}
use Rattle.runs.specs.declared.entry.NodeRow.{NodeRow}
use Rattle.table_model.specs.Tree.{Path, Tree, Plain, same_path, with_val, with_path}
use Rattle.table_model.specs.Table.{is_some}
use Rattle.table_model.specs.Refusals.{passing, value_count, child_count, is_bare}
use Rattle.history_model.specs.Calls.{Call, get, put, swap, take, add, plant, drop, show, out, changed, the_value}
use Rattle.history_model.specs.Books.{gives, hands, in_group, value_groups, child_groups}
use Rattle.history_model.proofs.Gathered.{one_of, sub, Exchanged}
use Rattle.table_model.proofs.Paths.{same_refl, same_true, not_nil}
use Rattle.history_model.proofs.Paths.{same_sub, longer_off}
use Rattle.history_model.proofs.Plains.{no_value, none_of, plain_add, plain_drop}
use Rattle.history_model.proofs.Changes.{exchanged_back, exchanged_after, balanced, held, held_val, sum_val, held_add, sum_add, leaf, leaf_val, leaf_child, near_values, near_children, passing_turn}
use Rattle.history_model.proofs.Allowed.{Allowed, Here}

-- ---- counts

passing_none : (f : ℕ → Bool) (n : ℕ) → ((b : ℕ) → f b ≡ false) → passing f n ≡ 0
unfolding passing
passing_none f zero h = refl
passing_none f (suc n) h = omega (arith, passing_none f n h, ap (λ (x : Bool). cond {A = ℕ} x 1 0) (h n))

pub none_passing : (f : ℕ → Bool) (n b : ℕ) → passing f n ≡ 0 → b < n → f b ≡ false
unfolding passing
none_passing f zero b e l = absurd (omega arith)
none_passing f (suc n) b e l = elim (cases_eq b n) [
  | inl q ↦ elim (cases_Bool (f n)) [
    | inl y ↦ absurd (omega (arith, ap (λ (x : Bool). cond {A = ℕ} x 1 0) y))
    | inr z ↦ ap f q ∙ z
  ]
  | inr q ↦ none_passing f n b (omega arith) (omega arith)
]

module _ {V : Type 0} where
  pub count_val : (t : Tree V) (p : Path) (b : ℕ) (o : Option V) → b < 31 → value_count (with_val t p b o) p + cond (is_some (t.val p b)) 1 0 ≡ value_count t p + cond (is_some o) 1 0
  count_val t p b o l =
      let g : ℕ → Bool = λ c. is_some ((with_val t p b o).val p c) in
      let at : (c : ℕ) → g c ≡ is_some (cond (eqb b c) o (t.val p c)) = λ c. ap (λ (x : Bool). is_some (cond (x && eqb b c) o (t.val p c))) (same_refl p) in
      let here : g b ≡ is_some o = at b ∙ ap (λ (x : Bool). is_some (cond x o (t.val p b))) (eq-eqb b b refl) in
      omega (arith, passing_turn (λ c. is_some (t.val p c)) g b 31 l (λ c n. at c ∙ ap (λ (x : Bool). is_some (cond x o (t.val p c))) (ne_eqb b c n)), ap (λ (x : Bool). cond {A = ℕ} x 1 0) here)

  pub count_add : (t : Tree V) (p : Path) (b : ℕ) → b < 32 → t.has (p ++ b ∷ []) ≡ false → child_count (with_path t (p ++ b ∷ []) true) p ≡ child_count t p + 1
  count_add t p b l off =
      let g : ℕ → Bool = λ c. (with_path t (p ++ b ∷ []) true).has (p ++ c ∷ []) in
      let at : (c : ℕ) → g c ≡ cond (eqb b c && true) true (t.has (p ++ c ∷ [])) = λ c. ap (λ (x : Bool). cond x true (t.has (p ++ c ∷ []))) (same_sub p (b ∷ []) (c ∷ [])) in
      let here : g b ≡ true = at b ∙ ap (λ (x : Bool). cond (x && true) true (t.has (p ++ b ∷ []))) (eq-eqb b b refl) in
      omega (
        arith,
        passing_turn (λ c. t.has (p ++ c ∷ [])) g b 32 l (λ c n. at c ∙ ap (λ (x : Bool). cond (x && true) true (t.has (p ++ c ∷ []))) (ne_eqb b c n)),
        ap (λ (x : Bool). cond {A = ℕ} x 1 0) here,
        ap (λ (x : Bool). cond {A = ℕ} x 1 0) off,
      )

-- ---- the groups

module _ {V : Type 0} (t : Tree V) (w : Plain t) (p : Path) (here : t.has p ≡ true) where
  values_at : (u : Tree V) (longest z : ℕ) → in_group longest z (value_count (sub u p) []) ≡ in_group longest z (value_count u p)
  values_at u longest z = ap (λ (q : Path). in_group longest z (passing (λ b. is_some (u.val q b)) 31)) (append-nil p)

  val_turn : (b : ℕ) (o : Option V) (longest z : ℕ) → value_groups longest (with_val t p b o) z + in_group longest z (value_count t p) ≡ value_groups longest t z + in_group longest z (value_count (with_val t p b o) p)
  val_turn b o longest z = omega (arith, sum_val t w p here b o (λ s. in_group longest z (value_count s [])) (near_values longest z), values_at t longest z, values_at (with_val t p b o) longest z)

  val_keeps : (b : ℕ) (o : Option V) (z : ℕ) → child_groups (with_val t p b o) z ≡ child_groups t z
  val_keeps b o z = omega (arith, sum_val t w p here b o (λ s. in_group 32 z (child_count s [])) (near_children z))

  module _ (short : length p < 25) (b : ℕ) (low : b < 32) (absent : t.has (p ++ b ∷ []) ≡ false) where
    no_values : (longest z : ℕ) → in_group longest z (value_count (leaf t w p here short b low absent) []) ≡ 0
    no_values longest z = ap (in_group longest z) (passing_none (λ c. is_some ((leaf t w p here short b low absent).val [] c)) 31 (λ c. ap is_some (leaf_val t w p here short b low absent c)))

    no_children : (z : ℕ) → in_group 32 z (child_count (leaf t w p here short b low absent) []) ≡ 0
    no_children z = ap (in_group 32 z) (passing_none (λ c. (leaf t w p here short b low absent).has (c ∷ [])) 32 (leaf_child t w p here short b low absent))

    add_keeps : (longest z : ℕ) → value_groups longest (with_path t (p ++ b ∷ []) true) z ≡ value_groups longest t z
    add_keeps longest z =
        omega (arith, sum_add t w p here short b low absent (λ s. in_group longest z (value_count s [])) (near_values longest z) (no_values longest z), values_at t longest z, values_at (with_path t (p ++ b ∷ []) true) longest z)

    add_turn : (z : ℕ) → child_groups (with_path t (p ++ b ∷ []) true) z + in_group 32 z (child_count t p) ≡ child_groups t z + in_group 32 z (child_count t p + 1)
    add_turn z =
        omega (arith, sum_add t w p here short b low absent (λ s. in_group 32 z (child_count s [])) (near_children z) (no_children z), ap (in_group 32 z) (count_add t p b low absent))

-- ---- the calls

-- how many values the altered node has, before and after; 0 and 0 where no node's count changes
unfoldable pub value_turn : {V : Type 0} → Tree V → Call V → ℕ × ℕ
value_turn t (get p b) = (0, 0)
value_turn t (put p b v) = (value_count t p, value_count t p + 1)
value_turn t (swap p b v) = (0, 0)
value_turn t (take p b) = (value_count t p, value_count t p - 1)
value_turn t (add p b) = (0, 0)
value_turn t (plant p b v) = (0, 1)
value_turn t (drop p b) = (0, 0)
value_turn t (show p) = (0, 0)

-- the same of the children
unfoldable pub child_turn : {V : Type 0} → Tree V → Call V → ℕ × ℕ
child_turn t (get p b) = (0, 0)
child_turn t (put p b v) = (0, 0)
child_turn t (swap p b v) = (0, 0)
child_turn t (take p b) = (0, 0)
child_turn t (add p b) = (child_count t p, child_count t p + 1)
child_turn t (plant p b v) = (child_count t p, child_count t p + 1)
child_turn t (drop p b) = (child_count t p, child_count t p - 1)
child_turn t (show p) = (0, 0)

pub record Move {V : Type 0} (t : Tree V) (record_at : Path → Option NodeRow) (c : Call V) : Type 0 where
  pub values : IsPermutation (gives c ++ held t) (hands c (out t record_at c) ++ held (changed t c))
  pub value_runs : (longest z : ℕ) → value_groups longest (changed t c) z + in_group longest z (value_turn t c).0 ≡ value_groups longest t z + in_group longest z (value_turn t c).1
  pub child_runs : (z : ℕ) → child_groups (changed t c) z + in_group 32 z (child_turn t c).0 ≡ child_groups t z + in_group 32 z (child_turn t c).1

module _ {V : Type 0} where
  swap_hands : (p : Path) (b : ℕ) (v : V) (o : Option V) → hands (swap p b v) (the_value o) ≡ one_of o
  swap_hands p b v None = refl
  swap_hands p b v (Some x) = refl

  take_hands : (p : Path) (b : ℕ) (o : Option V) → hands (take p b) (the_value o) ≡ one_of o
  take_hands p b None = refl
  take_hands p b (Some x) = refl

  there_one : (o : Option V) → is_some o ≡ true → cond {A = ℕ} (is_some o) 1 0 ≡ 1
  there_one o e = ap (λ (x : Bool). cond {A = ℕ} x 1 0) e

  -- a path taken out and put back
  restored : (t : Tree V) (r : Path) → t.has r ≡ true → with_path (with_path t r false) r true ≡ t
  restored t r h =
      let go : (q : Path) (x : Bool) → same_path r q ≡ x → cond x true (cond x false (t.has q)) ≡ t.has q =
      λ q. elim [ true ↦ λ e. sym (ap (λ (s : Path). t.has s) (sym (same_true r q e)) ∙ h) | false ↦ λ e. refl ] in
      ap (λ (m : Path → Bool). record { has = m; val = t.val }) (fun_ext (λ q. go q (same_path r q) refl))

module _ {V : Type 0} (t : Tree V) (w : Plain t) (record_at : Path → Option NodeRow) where
  move_none : (c : Call V) → gives c ≡ [] → hands c (out t record_at c) ≡ [] → changed t c ≡ t → value_turn t c ≡ (0, 0) → child_turn t c ≡ (0, 0) → Move t record_at c
  move_none c g h e v k = record {
    values = rw (g, h, e) (IsPermutation-refl (held t));
    value_runs = λ longest z. rw (e, v) refl;
    child_runs = λ z. rw (e, k) refl;
  }

  move_put : (p : Path) (b : ℕ) (v : V) → Here t p b 31 → t.val p b ≡ None → Move t record_at (put p b v)
  unfolding value_turn child_turn
  move_put p b v a e =
      let o : cond {A = ℕ} (is_some (t.val p b)) 1 0 ≡ 0 = ap (λ (k : Option V). cond {A = ℕ} (is_some k) 1 0) e in
      let n : value_count (with_val t p b (Some v)) p ≡ value_count t p + 1 = omega (arith, count_val t p b (Some v) a.low) in
      record {
        values = balanced (held t) [] (held (with_val t p b (Some v))) (v ∷ []) (subst (λ (k : Option V). Exchanged (held t) (one_of k) (held (with_val t p b (Some v))) (v ∷ [])) e (held_val t w p a.has b (Some v) a.low));
        value_runs = λ longest z. val_turn t w p a.has b (Some v) longest z ∙ ap (λ (k : ℕ). value_groups longest t z + in_group longest z k) n;
        child_runs = λ z. ap (λ (k : ℕ). k + 0) (val_keeps t w p a.has b (Some v) z);
      }

  move_swap : (p : Path) (b : ℕ) (v : V) → Here t p b 31 → is_some (t.val p b) ≡ true → Move t record_at (swap p b v)
  unfolding value_turn child_turn
  move_swap p b v a e =
      let n : value_count (with_val t p b (Some v)) p ≡ value_count t p = omega (arith, count_val t p b (Some v) a.low, there_one (t.val p b) e) in
      record {
        values = subst (λ (l : List V). IsPermutation (v ∷ held t) (l ++ held (with_val t p b (Some v)))) (sym (swap_hands p b v (t.val p b))) (balanced (held t) (one_of (t.val p b)) (held (with_val t p b (Some v))) (v ∷ []) (held_val t w p a.has b (Some v) a.low));
        value_runs = λ longest z. omega (arith, val_turn t w p a.has b (Some v) longest z, ap (in_group longest z) n);
        child_runs = λ z. ap (λ (k : ℕ). k + 0) (val_keeps t w p a.has b (Some v) z);
      }

  move_take : (p : Path) (b : ℕ) → Here t p b 31 → is_some (t.val p b) ≡ true → Move t record_at (take p b)
  unfolding value_turn child_turn
  move_take p b a e =
      let n : value_count (with_val t p b None) p ≡ value_count t p - 1 = omega (arith, count_val t p b None a.low, there_one (t.val p b) e) in
      record {
        values = subst (λ (l : List V). IsPermutation (held t) (l ++ held (with_val t p b None))) (sym (take_hands p b (t.val p b))) (balanced (held t) (one_of (t.val p b)) (held (with_val t p b None)) [] (held_val t w p a.has b None a.low));
        value_runs = λ longest z. val_turn t w p a.has b None longest z ∙ ap (λ (k : ℕ). value_groups longest t z + in_group longest z k) n;
        child_runs = λ z. ap (λ (k : ℕ). k + 0) (val_keeps t w p a.has b None z);
      }

  module _ (p : Path) (b : ℕ) (a : Here t p b 32) (short : length p < 25) (absent : t.has (p ++ b ∷ []) ≡ false) where
    move_add : Move t record_at (add p b)
    unfolding value_turn child_turn
    move_add = record {
      values = balanced (held t) [] (held (with_path t (p ++ b ∷ []) true)) [] (held_add t w p a.has short b a.low absent);
      value_runs = λ longest z. ap (λ (k : ℕ). k + 0) (add_keeps t w p a.has short b a.low absent longest z);
      child_runs = add_turn t w p a.has short b a.low absent;
    }

    move_plant : (v : V) → Move t record_at (plant p b v)
    unfolding value_turn child_turn
    move_plant v =
        let r : Path = p ++ b ∷ [] in
        let u : Tree V = with_path t r true in
        let wu : Plain u = plain_add t w p b a.has a.low short in
        let here : u.has r ≡ true = ap (λ (x : Bool). cond x true (t.has r)) (same_refl r) in
        let off : (c : ℕ) → u.val r c ≡ None = λ c. no_value t w r c absent in
        let none : value_count u r ≡ 0 = passing_none (λ c. is_some (u.val r c)) 31 (λ c. ap is_some (off c)) in
        let o : cond {A = ℕ} (is_some (u.val r 0)) 1 0 ≡ 0 = ap (λ (k : Option V). cond {A = ℕ} (is_some k) 1 0) (off 0) in
        let n : value_count (with_val u r 0 (Some v)) r ≡ 1 = omega (arith, count_val u r 0 (Some v) (omega arith)) in
        let x : Exchanged (held u) [] (held (with_val u r 0 (Some v))) (v ∷ []) = subst (λ (k : Option V). Exchanged (held u) (one_of k) (held (with_val u r 0 (Some v))) (v ∷ [])) (off 0) (held_val u wu r here 0 (Some v) (omega arith)) in
        record {
          values = balanced (held t) [] (held (with_val u r 0 (Some v))) (v ∷ []) (exchanged_after (held_add t w p a.has short b a.low absent) x);
          value_runs = λ longest z. omega (arith, val_turn u wu r here 0 (Some v) longest z, ap (in_group longest z) n, ap (in_group longest z) none, add_keeps t w p a.has short b a.low absent longest z);
          child_runs = λ z. omega (arith, val_keeps u wu r here 0 (Some v) z, add_turn t w p a.has short b a.low absent z);
        }

  move_drop : (p : Path) (b : ℕ) → Here t p b 32 → t.has (p ++ b ∷ []) ≡ true → is_bare t (p ++ b ∷ []) ≡ true → Move t record_at (drop p b)
  unfolding value_turn child_turn
  move_drop p b a there bare =
      let r : Path = p ++ b ∷ [] in
      let none : value_count t r + child_count t r ≡ 0 = eqb-true (value_count t r + child_count t r) 0 bare in
      let no_child : (c : ℕ) → t.has (r ++ c ∷ []) ≡ false = λ c. elim (cases_Bool (t.has (r ++ c ∷ []))) [
        | inl y ↦ none_passing (λ c. t.has (r ++ c ∷ [])) 32 c (omega arith) (w.closed r c y).1
        | inr n ↦ n
      ] in
      let no_val : (c : ℕ) → t.val r c ≡ None = λ c. none_of (t.val r c) (λ v e. false≢true (sym (none_passing (λ c. is_some (t.val r c)) 31 c (omega arith) (w.valued r c v e).1) ∙ ap is_some e)) in
      let u : Tree V = with_path t r false in
      let wu : Plain u = plain_drop t w r (not_nil p b) no_child no_val in
      let short : length p < 25 = (w.closed p b there).2 in
      let here : u.has p ≡ true = ap (λ (x : Bool). cond x false (t.has p)) (longer_off p b) ∙ a.has in
      let gone : u.has r ≡ false = ap (λ (x : Bool). cond x false (t.has r)) (same_refl r) in
      let back : with_path u r true ≡ t = restored t r there in
      let n : child_count t p ≡ child_count u p + 1 = ap (λ (k : Tree V). child_count k p) (sym back) ∙ count_add u p b a.low gone in
      let m : child_count t p - 1 ≡ child_count u p = omega arith in
      record {
        values = balanced (held t) [] (held u) [] (exchanged_back (subst (λ (k : Tree V). Exchanged (held u) [] (held k) []) back (held_add u wu p here short b a.low gone)));
        value_runs = λ longest z. omega (arith, add_keeps u wu p here short b a.low gone longest z, ap (λ (k : Tree V). value_groups longest k z) back);
        child_runs = λ z. omega (arith, add_turn u wu p here short b a.low gone z, ap (λ (k : Tree V). child_groups k z) back, ap (in_group 32 z) n, ap (in_group 32 z) m);
      }

  pub moves : (c : Call V) → Allowed t c → Move t record_at c
  unfolding Allowed value_turn child_turn
  moves (get p b) h = move_none (get p b) refl refl refl refl refl
  moves (put p b v) h = move_put p b v h.0 h.1
  moves (swap p b v) h = move_swap p b v h.0 h.1
  moves (take p b) h = move_take p b h.0 h.1
  moves (add p b) h = move_add p b h.0 h.1 h.2
  moves (plant p b v) h = move_plant p b h.0 h.1 h.2 v
  moves (drop p b) h = move_drop p b h.0 h.1 h.2
  moves (show p) h = move_none (show p) refl refl refl refl refl
