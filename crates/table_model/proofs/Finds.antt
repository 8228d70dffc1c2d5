-- The record at a path, one bit at a time.
use Rattle.std.proofs.Common.{◌≡◌, ℕ, List, [], ◌∷◌, ◌++◌, Some, None, Option, sym, refl, ap, ◌∙◌}
use Rattle.std.proofs.lemmas.List.{append-nil, append_assoc}
use Rattle.table_model.specs.Tree.{Path}
use Rattle.table_model.specs.Table.{then, child, find}
use Rattle.runs.specs.declared.entry.NodeRow.{NodeRow}

then_some : {A : Type 0} (o : Option A) → then o (λ (s : A). Some s) ≡ o
then_some None = refl
then_some (Some a) = refl

pub then_then : {A B C : Type 0} (o : Option A) (f : A → Option B) (g : B → Option C) → then (then o f) g ≡ then o (λ (s : A). then (f s) g)
then_then None f g = refl
then_then (Some a) f g = refl

pub then_same : {A B : Type 0} (o : Option A) (f g : A → Option B) → ((s : A) → f s ≡ g s) → then o f ≡ then o g
then_same None f g h = refl
then_same (Some a) f g h = h a

pub find_nil : (m : ℕ → List NodeRow) (r : NodeRow) → find m r [] ≡ Some r
unfolding find
find_nil m r = refl

pub find_snoc : (m : ℕ → List NodeRow) (r : NodeRow) (q : Path) (c : ℕ) → find m r (q ++ c ∷ []) ≡ then (find m r q) (λ s. child m s c)
unfolding find
find_snoc m r [] c = then_some (child m r c)
find_snoc m r (d ∷ q) c =
    then_same (child m r d) (λ s. find m s (q ++ c ∷ [])) (λ s. then (find m s q) (λ t. child m t c)) (λ s. find_snoc m s q c)
    ∙ sym (then_then (child m r d) (λ s. find m s q) (λ t. child m t c))

-- A function of paths that begins and goes on as the search does is the search.
module _ (m : ℕ → List NodeRow) (G : Path → Option NodeRow) (step : (q : Path) (c : ℕ) → G (q ++ c ∷ []) ≡ then (G q) (λ s. child m s c)) where
  dead : (q t : Path) → G q ≡ None → G (q ++ t) ≡ None
  dead q [] e = ap G (append-nil q) ∙ e
  dead q (c ∷ t) e =
      ap G (sym (append_assoc q (c ∷ []) t))
      ∙ dead (q ++ c ∷ []) t (step q c ∙ ap (λ (o : Option NodeRow). then o (λ s. child m s c)) e)

  goes_on : (q : Path) (c : ℕ) (t : Path) (o : Option NodeRow) → G (q ++ c ∷ []) ≡ o → ((s : NodeRow) → G (q ++ c ∷ []) ≡ Some s → find m s t ≡ G ((q ++ c ∷ []) ++ t)) → then o (λ s. find m s t) ≡ G ((q ++ c ∷ []) ++ t)
  goes_on q c t None e h = sym (dead (q ++ c ∷ []) t e)
  goes_on q c t (Some s) e h = h s e

  goes : (q t : Path) (r : NodeRow) → G q ≡ Some r → find m r t ≡ G (q ++ t)
  unfolding find
  goes q [] r e = sym e ∙ ap G (sym (append-nil q))
  goes q (c ∷ t) r e =
      goes_on q c t (child m r c) (step q c ∙ ap (λ (o : Option NodeRow). then o (λ s. child m s c)) e) (λ s. goes (q ++ c ∷ []) t s)
      ∙ ap G (append_assoc q (c ∷ []) t)

  pub find_is : (root : NodeRow) → G [] ≡ Some root → (q : Path) → find m root q ≡ G q
  find_is root e q = goes [] q root e
