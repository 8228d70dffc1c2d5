-- Rearranged lists, joined.
use Rattle.std.proofs.Common.{◌≡◌, List, [], ◌∷◌, ◌++◌, subst}
use Rattle.std.specs.List.Sorted.{IsPermutation}
use Rattle.std.proofs.lemmas.List.Sorted.{IsPermutation-refl, IsPermutation-cons, IsPermutation-trans, IsPermutation-sym, IsPermutation-middle}

pub shuffled_is : {X : Type 0} (xs ys : List X) → xs ≡ ys → IsPermutation xs ys
shuffled_is xs ys e = subst (λ (zs : List _). IsPermutation xs zs) e (IsPermutation-refl xs)

-- the middle part to the front
pub shuffled_front : {X : Type 0} (a x b : List X) → IsPermutation (a ++ (x ++ b)) (x ++ (a ++ b))
shuffled_front [] x b = IsPermutation-refl (x ++ b)
shuffled_front (y ∷ a) x b =
    IsPermutation-trans (y ∷ (a ++ (x ++ b))) (y ∷ (x ++ (a ++ b))) (x ++ (y ∷ (a ++ b)))
    (IsPermutation-cons y (a ++ (x ++ b)) (x ++ (a ++ b)) (shuffled_front a x b))
    (IsPermutation-sym (x ++ y ∷ (a ++ b)) (y ∷ (x ++ (a ++ b))) (IsPermutation-middle x y (a ++ b)))
