-- Over lists of calls, by induction.
use Rattle.std.proofs.Common.{◌≡◌, ℕ, zero, suc, ◌<◌, ◌≤◌, List, [], ◌∷◌, ◌++◌, length, take, drop, Some, None, sym, refl, ap, ◌∙◌, subst, append_assoc, append-nil, add-one, arith}
use Rattle.std.specs.List.Sorted.{IsPermutation}
use Rattle.std.proofs.lemmas.List.Sorted.{IsPermutation-append_right, IsPermutation-refl, IsPermutation-trans}
use Rattle.std.proofs.lemmas.List.{map-append, take-append-drop, take_all}
use Rattle.runs.specs.Calls.{moved_on}
use Rattle.runs.specs.Lists.{nth}
use Rattle.runs.specs.Refusals.{Refusal, Grant}
use Rattle.runs.specs.Runs.{Model, Lawful}
use Rattle.runs.specs.declared.entry.NodeRow.{NodeRow}
use Rattle.tiered_model.specs.Laws.{Iff}
use Rattle.table_model.specs.Tree.{Path, Tree, bare, walk}
use Rattle.table_model.specs.Tree as plain_tree
use Rattle.table_model.specs.States.{Table, tree_in, Sound}
use Rattle.table_model.proofs.Whole.{start_law, show_law}
use Rattle.history_model.specs.Calls.{Call, Out, Answer, refused, says, no_call, out, after, after_all, lists_in, record_in, refuses, leads, stepped, played, answer, answers}
use Rattle.history_model.specs.Books.{given_by, given, handed_by, handed, values, nexts, left, outs}
use Rattle.history_model.specs.Histories.{started, at, plain, Walked, History}
use Rattle.history_model.proofs.Shuffles.{shuffled_front}
use Rattle.history_model.proofs.Changes.{held}
use Rattle.history_model.proofs.Moved.{moves}
use Rattle.history_model.proofs.Allowed.{judged}
use Rattle.history_model.proofs.Steps.{step, plain_of}

-- ---- lists

chained : {X : Type 0} (gv g t gt t2 h u : List X) → IsPermutation (gv ++ t) (gt ++ t2) → IsPermutation (g ++ t2) (h ++ u) → IsPermutation ((gv ++ g) ++ t) ((gt ++ h) ++ u)
chained {X} gv g t gt t2 h u one more =
    let a : IsPermutation (gv ++ (g ++ t)) (g ++ (gv ++ t)) = shuffled_front gv g t in
    let b : IsPermutation (g ++ (gv ++ t)) (g ++ (gt ++ t2)) = IsPermutation-append_right g (gv ++ t) (gt ++ t2) one in
    let c : IsPermutation (g ++ (gt ++ t2)) (gt ++ (g ++ t2)) = shuffled_front g gt t2 in
    let d : IsPermutation (gt ++ (g ++ t2)) (gt ++ (h ++ u)) = IsPermutation-append_right gt (g ++ t2) (h ++ u) more in
    let all : IsPermutation (gv ++ (g ++ t)) (gt ++ (h ++ u)) =
    IsPermutation-trans (gv ++ (g ++ t)) (g ++ (gv ++ t)) (gt ++ (h ++ u)) a
    (IsPermutation-trans (g ++ (gv ++ t)) (g ++ (gt ++ t2)) (gt ++ (h ++ u)) b
    (IsPermutation-trans (g ++ (gt ++ t2)) (gt ++ (g ++ t2)) (gt ++ (h ++ u)) c d)) in
    subst (λ (l : List X). IsPermutation l ((gt ++ h) ++ u)) (sym (append_assoc gv g t))
    (subst (λ (l : List X). IsPermutation (gv ++ (g ++ t)) l) (sym (append_assoc gt h u)) all)

module _ {X : Type 0} where
  take_nil : (n : ℕ) → ◌≡◌ {A = List X} (take n []) []
  take_nil zero = refl
  take_nil (suc n) = refl

  drop_nil : (n : ℕ) → ◌≡◌ {A = List X} (drop n []) []
  drop_nil zero = refl
  drop_nil (suc n) = refl

  pub outs_nexts : (xs : List X) (m : ℕ) → outs (nexts xs m) ≡ take m xs
  outs_nexts xs zero = refl
  outs_nexts [] (suc m) = outs_nexts [] m ∙ take_nil m
  outs_nexts (x ∷ xs) (suc m) = ap (λ (l : List X). x ∷ l) (outs_nexts xs m)

  pub left_is : (xs : List X) (m : ℕ) → left xs m ≡ drop m xs
  left_is xs zero = refl
  left_is [] (suc m) = left_is [] m ∙ drop_nil m
  left_is (x ∷ xs) (suc m) = left_is xs m

  none_nil : (m i : ℕ) → i < m → nth (nexts {X = X} [] m) i ≡ Some None
  none_nil zero i l = absurd (omega arith)
  none_nil (suc m) zero l = refl
  none_nil (suc m) (suc i) l = none_nil m i (omega arith)

  some_none : (x : X) → Some (Some x) ≡ Some None → ⊥
  some_none x e = let y : ◌≡◌ {A = ℕ} 0 1 = cc in omega arith

  none_when_out : (xs : List X) (m i : ℕ) → i < m → Iff (nth (nexts xs m) i ≡ Some None) (length xs ≤ i)
  none_when_out xs zero i l = absurd (omega arith)
  none_when_out [] (suc m) i l = (λ e. omega arith, λ e. none_nil (suc m) i l)
  none_when_out (x ∷ xs) (suc m) zero l = (λ e. absurd (some_none x e), λ e. absurd (omega arith))
  none_when_out (x ∷ xs) (suc m) (suc i) l = let h = none_when_out xs m i (omega arith) in (λ e. let k = h.0 e in omega arith, λ e. h.1 (omega arith))

  walked : (xs : List X) (m : ℕ) → Walked xs m
  walked xs m = record { first_are_handed_out = outs_nexts xs m; none_when_all_are_out = none_when_out xs m; others_are_left = left_is xs m }

-- what was handed out and what is left are what was to come
values_walked : {V : Type 0} (w : List (ℕ × V)) (m : ℕ) → values (outs (nexts w m)) ++ values (left w m) ≡ values w
values_walked {V} w m =
    ap (λ (x : List (ℕ × V)). values x ++ values (left w m)) (outs_nexts w m)
    ∙ ap (λ (x : List (ℕ × V)). values (take m w) ++ values x) (left_is w m)
    ∙ sym (map-append (λ (e : ℕ × V). e.1) (take m w) (drop m w))
    ∙ ap values (take-append-drop m w)

-- ---- runs

module _ {V N S : Type 0} (mn : Model NodeRow N) (mv : Model V S) where
  answers_length : (t : Table N S) (cs : List (Call V)) → length (answers mn mv t cs) ≡ length cs
  answers_length t [] = refl
  answers_length t (c ∷ cs) = ap suc (answers_length (stepped mn mv t c) cs)

  pub answers_take : (t : Table N S) (cs : List (Call V)) (k : ℕ) → take k (answers mn mv t cs) ≡ answers mn mv t (take k cs)
  answers_take t cs zero = refl
  answers_take t [] (suc k) = refl
  answers_take t (c ∷ cs) (suc k) = ap (λ (l : List (Answer V)). answer mn mv t c ∷ l) (answers_take (stepped mn mv t c) cs k)

  pub answer_at : (t : Table N S) (cs : List (Call V)) (k : ℕ) (c : Call V) → nth cs k ≡ Some c → nth (answers mn mv t cs) k ≡ Some (answer mn mv (played mn mv t (take k cs)) c)
  answer_at t [] zero c e = absurd (let z : ◌≡◌ {A = ℕ} 0 1 = cc in omega arith)
  answer_at t [] (suc k) c e = absurd (let z : ◌≡◌ {A = ℕ} 0 1 = cc in omega arith)
  answer_at t (d ∷ cs) zero c e = let q : d ≡ c = cc in ap (λ (x : Call V). Some (answer mn mv t x)) q
  answer_at t (d ∷ cs) (suc k) c e = answer_at (stepped mn mv t d) cs k c e

  pub next_at : (t : Table N S) (cs : List (Call V)) (k : ℕ) (c : Call V) → nth cs k ≡ Some c → played mn mv t (take (suc k) cs) ≡ stepped mn mv (played mn mv t (take k cs)) c
  next_at t [] zero c e = absurd (let z : ◌≡◌ {A = ℕ} 0 1 = cc in omega arith)
  next_at t [] (suc k) c e = absurd (let z : ◌≡◌ {A = ℕ} 0 1 = cc in omega arith)
  next_at t (d ∷ cs) zero c e = let q : d ≡ c = cc in ap (λ (x : Call V). stepped mn mv t x) q
  next_at t (d ∷ cs) (suc k) c e = next_at (stepped mn mv t d) cs k c e

  -- a refused call leaves the states
  stays : (t : Table N S) (c : Call V) (f : Refusal) → answer mn mv t c ≡ refused f → stepped mn mv t c ≡ t
  stays t c f e = go (refuses mn mv t c) (out (tree_in mn mv t) (record_in mn mv t) c) e
    where
      go : (g : Grant) (o : Out V) → says g o ≡ refused f → moved_on g t (leads mn mv t c) ≡ t
      go None o q = absurd (let z : ◌≡◌ {A = ℕ} 0 1 = cc in omega arith)
      go (Some h) o q = refl

  refused_stays : (t : Table N S) (cs : List (Call V)) (k : ℕ) (f : Refusal) → nth (answers mn mv t cs) k ≡ Some (refused f) → played mn mv t (take (suc k) cs) ≡ played mn mv t (take k cs)
  refused_stays t [] zero f e = refl
  refused_stays t [] (suc k) f e = refl
  refused_stays t (c ∷ cs) zero f e = let q : answer mn mv t c ≡ refused f = cc in stays t c f q
  refused_stays t (c ∷ cs) (suc k) f e = refused_stays (stepped mn mv t c) cs k f e

module _ {V N S : Type 0} (mn : Model NodeRow N) (mv : Model V S) (kn kv : ℕ) (VN : N → Type 0) (VS : S → Type 0) (ln : Lawful mn kn VN) (lv : Lawful mv kv VS) where
  pub sound_run : (t : Table N S) → Sound mn mv VN VS t → (cs : List (Call V)) → Sound mn mv VN VS (played mn mv t cs)
  sound_run t w [] = w
  sound_run t w (c ∷ cs) = sound_run (stepped mn mv t c) (step mn mv kn kv VN VS ln lv t w c).0 cs

  tree_run : (t : Table N S) → Sound mn mv VN VS t → (cs : List (Call V)) → tree_in mn mv (played mn mv t cs) ≡ after_all (tree_in mn mv t) cs (answers mn mv t cs)
  tree_run t w [] = refl
  tree_run t w (c ∷ cs) =
      let s = step mn mv kn kv VN VS ln lv t w c in
      tree_run (stepped mn mv t c) s.0 cs ∙ ap (λ (u : Tree V). after_all u cs (answers mn mv (stepped mn mv t c) cs)) s.1

  balance : (t : Table N S) → Sound mn mv VN VS t → (c : Call V) → IsPermutation (given_by c (answer mn mv t c) ++ held (tree_in mn mv t)) (handed_by c (answer mn mv t c) ++ held (tree_in mn mv (stepped mn mv t c)))
  balance t w c =
      subst (λ (u : Tree V). IsPermutation (given_by c (answer mn mv t c) ++ held (tree_in mn mv t)) (handed_by c (answer mn mv t c) ++ held u)) (sym (step mn mv kn kv VN VS ln lv t w c).1)
      (go (refuses mn mv t c) refl)
    where
      go : (g : Grant) → refuses mn mv t c ≡ g → IsPermutation (given_by c (says g (out (tree_in mn mv t) (record_in mn mv t) c)) ++ held (tree_in mn mv t)) (handed_by c (says g (out (tree_in mn mv t) (record_in mn mv t) c)) ++ held (after (tree_in mn mv t) c (says g (out (tree_in mn mv t) (record_in mn mv t) c))))
      go (Some f) e = IsPermutation-refl (held (tree_in mn mv t))
      go None e = (moves (tree_in mn mv t) (plain_of mn mv kn kv VN VS ln lv t w) (record_in mn mv t) c (judged (tree_in mn mv t) c (lists_in mn mv t) (lists_in mn mv t) e).0).values

  rearranged : (t : Table N S) → Sound mn mv VN VS t → (cs : List (Call V)) → IsPermutation (given cs (answers mn mv t cs) ++ held (tree_in mn mv t)) (handed cs (answers mn mv t cs) ++ held (tree_in mn mv (played mn mv t cs)))
  rearranged t w [] = IsPermutation-refl (held (tree_in mn mv t))
  rearranged t w (c ∷ cs) =
      let u : Table N S = stepped mn mv t c in
      chained (given_by c (answer mn mv t c)) (given cs (answers mn mv u cs)) (held (tree_in mn mv t)) (handed_by c (answer mn mv t c)) (held (tree_in mn mv u)) (handed cs (answers mn mv u cs)) (held (tree_in mn mv (played mn mv u cs)))
      (balance t w c) (rearranged u (step mn mv kn kv VN VS ln lv t w c).0 cs)

  held_bare : held (bare {V = V}) ≡ []
  unfolding held walk plain_tree.rising plain_tree.falling
  held_bare = refl

  held_walk : (t : Tree V) → held t ≡ values (walk 25 t)
  unfolding held
  held_walk t = refl

  module _ (n : N) (s : S) (vn : VN n) (vs : VS s) (zn : (i : ℕ) → mn.live n i ≡ []) (zs : (i : ℕ) → mv.live s i ≡ []) (cs : List (Call V)) where
    abbrev start : Table N S
    start = started n s

    abbrev rs : List (Answer V)
    rs = answers mn mv start cs

    abbrev now : ℕ → Table N S
    now k = at mn mv n s cs rs k

    abbrev tree : ℕ → Tree V
    tree k = plain mn mv n s cs rs k

    pub sound : Sound mn mv VN VS start
    sound = record { nodes_valid = vn; vals_valid = vs; agrees = (start_law (mn.live n) (mv.live s) zn zs).0 }

    pub begins : tree_in mn mv start ≡ bare
    begins = (start_law (mn.live n) (mv.live s) zn zs).1

    pub sound_at : (k : ℕ) → Sound mn mv VN VS (now k)
    sound_at k = sound_run start sound (take k cs)

    pub means : (k : ℕ) → tree_in mn mv (now k) ≡ tree k
    means k =
        tree_run start sound (take k cs) ∙ ap (λ (u : Tree V). after_all u (take k cs) (answers mn mv start (take k cs))) begins
        ∙ ap (λ (l : List (Answer V)). after_all bare (take k cs) l) (sym (answers_take mn mv start cs k))

    pub says_at : (k : ℕ) (c : Call V) → nth cs k ≡ Some c → nth rs k ≡ Some (says (no_call (tree k) (lists_in mn mv (now k)) c) (out (tree k) (record_in mn mv (now k)) c))
    says_at k c e =
        answer_at mn mv start cs k c e
        ∙ ap (λ (u : Tree V). Some (says (no_call u (lists_in mn mv (now k)) c) (out u (record_in mn mv (now k)) c))) (means k)

    from_start : (k : ℕ) → IsPermutation (given (take k cs) (take k rs)) (handed (take k cs) (take k rs) ++ values (walk 25 (tree k)))
    from_start k =
        let ds : List (Call V) = take k cs in
        let es : List (Answer V) = answers mn mv start ds in
        let none : given ds es ++ held (tree_in mn mv start) ≡ given ds es = ap (λ (u : Tree V). given ds es ++ held u) begins ∙ ap (λ (l : List V). given ds es ++ l) held_bare ∙ append-nil (given ds es) in
        let whole : IsPermutation (given ds es) (handed ds es ++ held (tree k)) =
        subst (λ (u : Tree V). IsPermutation (given ds es) (handed ds es ++ held u)) (means k) (subst (λ (l : List V). IsPermutation l (handed ds es ++ held (tree_in mn mv (now k)))) none (rearranged start sound ds)) in
        subst (λ (l : List V). IsPermutation (given ds (take k rs)) (handed ds (take k rs) ++ l)) (held_walk (tree k))
        (subst (λ (l : List (Answer V)). IsPermutation (given ds l) (handed ds l ++ held (tree k))) (sym (answers_take mn mv start cs k)) whole)

    at_end : IsPermutation (given cs rs) (handed cs rs ++ values (walk 25 (tree (length cs))))
    at_end =
        let a : take (length cs) cs ≡ cs = take_all (length cs) cs (omega arith) in
        let b : take (length cs) rs ≡ rs = take_all (length cs) rs (omega (arith, answers_length mn mv start cs)) in
        subst (λ (l : List (Call V)). IsPermutation (given l rs) (handed l rs ++ values (walk 25 (tree (length cs))))) a
        (subst (λ (l : List (Answer V)). IsPermutation (given (take (length cs) cs) l) (handed (take (length cs) cs) l ++ values (walk 25 (tree (length cs))))) b (from_start (length cs)))

    pub history : History mn mv n s cs rs
    history = record {
      answers_are_what_the_tree_and_the_lists_say = says_at;
      each_call_is_answered = answers_length mn mv start cs;
      table_means_the_tree = means;
      runs_belong_to_nodes = λ k. (sound_at k).agrees;
      records_show_the_tree = λ k p r e. show_law (mn.live (now k).nodes) (mv.live (now k).vals) (now k).root p r (sound_at k).agrees e;
      refusals_change_nothing = λ k f e. ap (λ (j : ℕ). played mn mv start (take j cs)) (add-one k) ∙ refused_stays mn mv start cs k f e;
      values_are_rearranged = from_start;
      may_be_broken_off = answers_take mn mv start cs;
      walk_is_the_trees = walked (walk 25 (tree (length cs)));
      walk_rearranges_the_values = λ m. subst (λ (l : List V). IsPermutation (given cs rs) (handed cs rs ++ l)) (sym (values_walked (walk 25 (tree (length cs))) m)) at_end;
    }
