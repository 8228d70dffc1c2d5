-- The books of a history on two fresh tiered stores, moment by moment.
use Rattle.std.proofs.Common.{◌≡◌, ℕ, zero, suc, ◌<◌, ◌≤◌, List, [], ◌∷◌, take, Some, None, Option, sym, refl, ap, ◌∙◌, subst, inl, inr, arith}
use mathlib.Core.Path.{fun_ext}
use Rattle.std.proofs.lemmas.Bool.{cases_lt}
use Rattle.runs.specs.Lists.{nth}
use Rattle.runs.specs.Refusals.{refusal, Grant}
use Rattle.runs.specs.Runs.{Lawful}
use Rattle.runs.specs.declared.entry.NodeRow.{NodeRow}
use Rattle.tiered_model.specs.Tiered.{State, fresh, tiered}
use Rattle.tiered_model.specs.Groups.{Valid, groups, cells_of}
use Rattle.tiered_model.specs.Laws.{Iff, begun}
use Rattle.tiered_model.proofs.Taking.{fresh_valid}
use Rattle.tiered_model.proofs.Lawful.{lawful, claims}
use Rattle.table_model.specs.Tree.{Tree, bare}
use Rattle.table_model.specs.Refusals.{first, inside, passing}
use Rattle.table_model.specs.States.{Table}
use Rattle.history_model.specs.Calls.{Call, Out, Answer, done, refused, yes, says, out, no_call, changed, lists_in, record_in, stepped, played, answers}
use Rattle.history_model.specs.Books.{most, sum_below, over_nodes, value_groups, child_groups}
use Rattle.history_model.specs.Histories.{started, tree_at, stores_at, most_nodes, most_values, nodes_with, values_with, Room}
use Rattle.history_model.proofs.Allowed.{Allowed, asked, judged}
use Rattle.history_model.proofs.Moved.{moves}
use Rattle.history_model.proofs.Steps.{plain_of}
use Rattle.history_model.proofs.Stores.{Told, granted, short}
use Rattle.history_model.proofs.Rooms.{Good, good_again, good_step, means_of, with_children, with_values, node_asked, value_asked, asked_is, node_sum, value_sum, sides}
use Rattle.history_model.proofs.Runs.{begins, means, answer_at, next_at, sound, history}

-- ---- verdicts

not_short : (g : Grant) → g ≡ None → g ≡ Some (refusal 23 (0 ∷ [])) → ⊥
not_short g e q = let z : ◌≡◌ {A = Grant} None (Some (refusal 23 (0 ∷ []))) = sym e ∙ q in let y : ◌≡◌ {A = ℕ} 0 1 = cc in omega arith

module _ {V : Type 0} where
  number_of : Option (Answer V) → ℕ
  number_of None = 0
  number_of (Some (done o)) = 0
  number_of (Some (refused f)) = f.number

  abbrev both : Grant → Grant → Out V → Option (Answer V)
  both g h o = Some (says (first (inside 9 g) (inside 10 h)) o)

  both_first : (g h : Grant) (o : Out V) → g ≡ None → both g h o ≡ Some (says (inside 10 h) o)
  both_first g h o e = ap (λ (x : Grant). both x h o) e

  not_nine : (h : Grant) (o : Out V) → Told h → number_of (Some (says (inside 10 h) o)) ≡ 9 → ⊥
  unfolding number_of
  not_nine h o (granted e) q = let z : number_of (Some (says (inside 10 h) o)) ≡ 0 = ap (λ (x : Grant). number_of (Some (says (inside 10 x) o))) e in omega arith
  not_nine h o (short e) q = let z : number_of (Some (says (inside 10 h) o)) ≡ 10 = ap (λ (x : Grant). number_of (Some (says (inside 10 x) o))) e in omega arith

  nine : (g h : Grant) (o : Out V) (cells sum : ℕ) → Told g → Told h → Iff (g ≡ None) (sum ≤ cells) → Iff (both g h o ≡ Some (refused (refusal 9 (23 ∷ 0 ∷ [])))) (cells < sum)
  unfolding number_of
  nine g h o cells sum (granted e) k p = (
    λ q. absurd (not_nine h o k (ap number_of (sym (both_first g h o e)) ∙ ap number_of q)),
    λ l. absurd (let m = p.0 e in omega arith),
  )
  nine g h o cells sum (short e) k p = (
    λ q. elim (cases_lt cells sum) [ inl l ↦ l | inr l ↦ absurd (not_short g (p.1 l) e) ],
    λ l. ap (λ (x : Grant). both x h o) e,
  )

  ten : (g h : Grant) (o : Out V) (cells sum : ℕ) → g ≡ None → Told h → Iff (h ≡ None) (sum ≤ cells) → Iff (both g h o ≡ Some (refused (refusal 10 (23 ∷ 0 ∷ [])))) (cells < sum)
  unfolding number_of
  ten g h o cells sum n (granted e) p = (
    λ q. absurd (
        let z : number_of (both g h o) ≡ 0 = ap number_of (both_first g h o n) ∙ ap (λ (x : Grant). number_of (Some (says (inside 10 x) o))) e in
        let y : number_of (both g h o) ≡ 10 = ap number_of q in
        omega arith),
    λ l. absurd (let m = p.0 e in omega arith),
  )
  ten g h o cells sum n (short e) p = (
    λ q. elim (cases_lt cells sum) [ inl l ↦ l | inr l ↦ absurd (not_short h (p.1 l) e) ],
    λ l. both_first g h o n ∙ ap (λ (x : Grant). Some (says (inside 10 x) o)) e,
  )

iff_at : {A : Type 0} {Q : Type 0} (x y w : A) → x ≡ y → Iff (y ≡ w) Q → Iff (x ≡ w) Q
iff_at x y w e p = (λ q. p.0 (sym e ∙ q), λ q. e ∙ p.1 q)

-- ---- the start, and every moment

ln : Lawful (tiered {E = NodeRow} 32) 32 (Valid 32)
ln = lawful 32 (omega arith) (omega arith)

take_beyond : {X : Type 0} (xs : List X) (k : ℕ) → nth xs k ≡ None → take (suc k) xs ≡ take k xs
take_beyond [] zero e = refl
take_beyond [] (suc k) e = refl
take_beyond (x ∷ xs) zero e = absurd (let y : ◌≡◌ {A = ℕ} 0 1 = cc in omega arith)
take_beyond {X} (x ∷ xs) (suc k) e = ap (λ (l : List X). x ∷ l) (take_beyond xs k e)

bare_children : (V : Type 0) (z : ℕ) → child_groups (bare {V = V}) z ≡ 0
unfolding over_nodes sum_below passing
bare_children V z = refl

bare_values : (V : Type 0) (longest z : ℕ) → value_groups longest (bare {V = V}) z ≡ 0
unfolding over_nodes sum_below passing
bare_values V longest z = refl

module _ {V : Type 0} (longest : ℕ) (la : 31 ≤ longest) (lb : longest ≤ 32) where
  lv : Lawful (tiered {E = V} longest) longest (Valid longest)
  lv = lawful longest la lb

  module _ (a b : ℕ) (ha : a ≤ 16777216) (hb : b ≤ 16777216) (cs : List (Call V)) where
    abbrev start : Table (State NodeRow) (State V)
    start = started (fresh a) (fresh b)

    abbrev rs : List (Answer V)
    rs = answers (tiered 32) (tiered longest) start cs

    abbrev now : ℕ → Table (State NodeRow) (State V)
    now k = stores_at longest a b cs rs k

    tree_means : (k : ℕ) → means_of longest (now k) ≡ tree_at longest a b cs rs k
    tree_means k = means (tiered 32) (tiered longest) 32 longest (Valid 32) (Valid longest) ln lv (fresh a) (fresh b) (fresh_valid 32 a ha) (fresh_valid longest b hb) (λ i. refl) (λ i. refl) cs k

    good_start : Good longest a b start (most_nodes longest a b cs rs 0) (most_values longest a b cs rs 0)
    unfolding most
    good_start =
        let bareness : means_of longest start ≡ bare = begins (tiered 32) (tiered longest) 32 longest (Valid 32) (Valid longest) ln lv (fresh a) (fresh b) (fresh_valid 32 a ha) (fresh_valid longest b hb) (λ i. refl) (λ i. refl) cs in
        let kids : (z : ℕ) → groups 32 (fresh {E = NodeRow} a) z ≡ 0 = ((claims 32 (omega arith) (omega arith)).reached (fresh a) (λ _. 0) (begun a ha)).2 in
        let vals : (z : ℕ) → groups longest (fresh {E = V} b) z ≡ 0 = ((claims longest la lb).reached (fresh b) (λ _. 0) (begun b hb)).2 in
        record {
          sound = sound (tiered 32) (tiered longest) 32 longest (Valid 32) (Valid longest) ln lv (fresh a) (fresh b) (fresh_valid 32 a ha) (fresh_valid longest b hb) (λ i. refl) (λ i. refl) cs;
          nodes = λ z. omega (arith, kids z, ap (λ (u : Tree V). child_groups u z) bareness, bare_children V z);
          values = λ z. omega (arith, vals z, ap (λ (u : Tree V). value_groups longest u z) bareness, bare_values V longest z);
          nodes_made = λ z. kids z ∙ sym (bare_children V z);
          values_made = λ z. vals z ∙ sym (bare_values V longest z);
          node_cells = refl;
          value_cells = refl;
        }

    -- from one moment to the next
    good_next : (k : ℕ) (u : Table (State NodeRow) (State V)) → now (suc k) ≡ u → Good longest a b u (with_children longest (most_nodes longest a b cs rs k) (means_of longest u)) (with_values longest (most_values longest a b cs rs k) (means_of longest u)) → Good longest a b (now (suc k)) (most_nodes longest a b cs rs (suc k)) (most_values longest a b cs rs (suc k))
    unfolding most
    good_next k u e h =
        let f : ℕ → ℕ = most_nodes longest a b cs rs k in
        let g : ℕ → ℕ = most_values longest a b cs rs k in
        subst (λ (t : Tree V). Good longest a b (now (suc k)) (with_children longest f t) (with_values longest g t)) (tree_means (suc k))
        (subst (λ (x : Table (State NodeRow) (State V)). Good longest a b x (with_children longest f (means_of longest x)) (with_values longest g (means_of longest x))) (sym e) h)

    go_on : (k : ℕ) → Good longest a b (now k) (most_nodes longest a b cs rs k) (most_values longest a b cs rs k) → (o : Option (Call V)) → nth cs k ≡ o → Good longest a b (now (suc k)) (most_nodes longest a b cs rs (suc k)) (most_values longest a b cs rs (suc k))
    go_on k h None e = good_next k (now k) (ap (played (tiered 32) (tiered longest) start) (take_beyond cs k e)) (good_again longest la lb a b (now k) (most_nodes longest a b cs rs k) (most_values longest a b cs rs k) h)
    go_on k h (Some c) e = good_next k (stepped (tiered 32) (tiered longest) (now k) c) (next_at (tiered 32) (tiered longest) start cs k c e) (good_step longest la lb a b (now k) (most_nodes longest a b cs rs k) (most_values longest a b cs rs k) h c)

    good_at : (k : ℕ) → Good longest a b (now k) (most_nodes longest a b cs rs k) (most_values longest a b cs rs k)
    good_at zero = good_start
    good_at (suc k) = go_on k (good_at k) (nth cs k) refl

    -- ---- claimed cells

    claimed_nodes : (k : ℕ) → (now k).nodes.claimed ≡ cells_of 32 (most_nodes longest a b cs rs k)
    claimed_nodes k = let h = good_at k in h.sound.nodes_valid.tiles ∙ ap (cells_of 32) (fun_ext h.nodes_made)

    claimed_values : (k : ℕ) → (now k).vals.claimed ≡ cells_of longest (most_values longest a b cs rs k)
    claimed_values k = let h = good_at k in h.sound.vals_valid.tiles ∙ ap (cells_of longest) (fun_ext h.values_made)

    -- ---- refusals

    module _ (k : ℕ) (c : Call V) (e : nth cs k ≡ Some c) (fair : no_call (tree_at longest a b cs rs k) yes c ≡ None) where
      judgement : Allowed (means_of longest (now k)) c × (asked (means_of longest (now k)) yes c ≡ None) × (no_call (means_of longest (now k)) (lists_in (tiered 32) (tiered longest) (now k)) c ≡ asked (means_of longest (now k)) (lists_in (tiered 32) (tiered longest) (now k)) c)
      judgement = judged (means_of longest (now k)) c yes (lists_in (tiered 32) (tiered longest) (now k)) (ap (λ (u : Tree V). no_call u yes c) (tree_means k) ∙ fair)

      abbrev told : Out V
      told = out (means_of longest (now k)) (record_in (tiered 32) (tiered longest) (now k)) c

      abbrev node_grant : Grant
      node_grant = node_asked (means_of longest (now k)) (lists_in (tiered 32) (tiered longest) (now k)) c

      abbrev value_grant : Grant
      value_grant = value_asked (means_of longest (now k)) (lists_in (tiered 32) (tiered longest) (now k)) c

      verdict : nth rs k ≡ both node_grant value_grant told
      verdict =
          answer_at (tiered 32) (tiered longest) start cs k c e
          ∙ ap (λ (g : Grant). Some (says g told)) (judgement.2 ∙ asked_is (means_of longest (now k)) (lists_in (tiered 32) (tiered longest) (now k)) c)

      both_sides : (Told node_grant × Iff (node_grant ≡ None) (node_sum longest (now k) c ≤ (now k).nodes.cells)) × (Told value_grant × Iff (value_grant ≡ None) (value_sum longest (now k) c ≤ (now k).vals.cells))
      both_sides =
          let h = good_at k in
          sides longest la lb a b (now k) (most_nodes longest a b cs rs k) (most_values longest a b cs rs k) h c judgement.0
          (moves (means_of longest (now k)) (plain_of (tiered 32) (tiered longest) 32 longest (Valid 32) (Valid longest) ln lv (now k) h.sound) (record_in (tiered 32) (tiered longest) (now k)) c judgement.0)

      node_sum_is : node_sum longest (now k) c ≡ nodes_with longest a b cs rs k c
      node_sum_is = let h = good_at k in ap (cells_of 32) (fun_ext (λ z. omega (arith, h.nodes_made z, ap (λ (u : Tree V). child_groups (changed u c) z) (tree_means k))))

      value_sum_is : value_sum longest (now k) c ≡ values_with longest a b cs rs k c
      value_sum_is = let h = good_at k in ap (cells_of longest) (fun_ext (λ z. omega (arith, h.values_made z, ap (λ (u : Tree V). value_groups longest (changed u c) z) (tree_means k))))

      node_fits : Iff (node_grant ≡ None) (nodes_with longest a b cs rs k c ≤ a)
      node_fits =
          subst (λ (n : ℕ). Iff (node_grant ≡ None) (nodes_with longest a b cs rs k c ≤ n)) (good_at k).node_cells
          (subst (λ (n : ℕ). Iff (node_grant ≡ None) (n ≤ (now k).nodes.cells)) node_sum_is both_sides.0.1)

      value_fits : Iff (value_grant ≡ None) (values_with longest a b cs rs k c ≤ b)
      value_fits =
          subst (λ (n : ℕ). Iff (value_grant ≡ None) (values_with longest a b cs rs k c ≤ n)) (good_at k).value_cells
          (subst (λ (n : ℕ). Iff (value_grant ≡ None) (n ≤ (now k).vals.cells)) value_sum_is both_sides.1.1)

      short_of_nodes : Iff (nth rs k ≡ Some (refused (refusal 9 (23 ∷ 0 ∷ [])))) (a < nodes_with longest a b cs rs k c)
      short_of_nodes = iff_at (nth rs k) (both node_grant value_grant told) _ verdict (nine node_grant value_grant told a (nodes_with longest a b cs rs k c) both_sides.0.0 both_sides.1.0 node_fits)

      short_of_values : nodes_with longest a b cs rs k c ≤ a → Iff (nth rs k ≡ Some (refused (refusal 10 (23 ∷ 0 ∷ [])))) (b < values_with longest a b cs rs k c)
      short_of_values l = iff_at (nth rs k) (both node_grant value_grant told) _ verdict (ten node_grant value_grant told b (values_with longest a b cs rs k c) (node_fits.1 l) both_sides.1.0 value_fits)

      accepted : nodes_with longest a b cs rs k c ≤ a → values_with longest a b cs rs k c ≤ b → nth rs k ≡ Some (done (out (tree_at longest a b cs rs k) (record_in (tiered 32) (tiered longest) (now k)) c))
      accepted l r =
          verdict ∙ both_first node_grant value_grant told (node_fits.1 l) ∙ ap (λ (g : Grant). Some (says (inside 10 g) told)) (value_fits.1 r)
          ∙ ap (λ (u : Tree V). Some (done (out u (record_in (tiered 32) (tiered longest) (now k)) c))) (tree_means k)

    pub room : Room longest a b cs rs
    room = record {
      history = history (tiered 32) (tiered longest) 32 longest (Valid 32) (Valid longest) ln lv (fresh a) (fresh b) (fresh_valid 32 a ha) (fresh_valid longest b hb) (λ i. refl) (λ i. refl) cs;
      claimed_by_nodes = claimed_nodes;
      claimed_by_values = claimed_values;
      refused_for_nodes = short_of_nodes;
      refused_for_values = short_of_values;
      accepted_with_room = accepted;
    }
