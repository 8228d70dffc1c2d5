-- Paths: equal or not, and one bit longer.
use Rattle.std.proofs.Common.{◌≡◌, ℕ, true, false, eqb, ◌⊎◌, [], ◌∷◌, ◌++◌, length, sym, refl, ap, ◌∙◌, inl, inr, arith}
use Rattle.std.proofs.lemmas.Bool.{eqb-true, eq-eqb, and_parts, and_from, cases_Bool, both_ways, true≢false}
use Rattle.std.proofs.lemmas.List.{length_push, same_from_push}
use Rattle.table_model.specs.Tree.{Path, same_path}

pub same_refl : (p : Path) → same_path p p ≡ true
same_refl [] = refl
same_refl (x ∷ p) = and_from (eqb x x) (same_path p p) (eq-eqb x x refl) (same_refl p)

pub same_true : (p q : Path) → same_path p q ≡ true → p ≡ q
same_true [] [] e = refl
same_true [] (y ∷ q) e = absurd (true≢false (sym e))
same_true (x ∷ p) [] e = absurd (true≢false (sym e))
same_true (x ∷ p) (y ∷ q) e =
    let h = and_parts (eqb x y) (same_path p q) e in
    let a = eqb-true x y h.0 in
    let t = same_true p q h.1 in
    cc

pub eq_same : (p q : Path) → p ≡ q → same_path p q ≡ true
eq_same p q e = ap (λ (t : Path). same_path p t) (sym e) ∙ same_refl p

pub ne_same : (p q : Path) → (p ≡ q → ⊥) → same_path p q ≡ false
ne_same p q n = elim (cases_Bool (same_path p q)) [
  | inl t ↦ absurd (n (same_true p q t))
  | inr f ↦ f
]

pub cases_path : (p q : Path) → (p ≡ q) ⊎ (p ≡ q → ⊥)
cases_path p q = elim (cases_Bool (same_path p q)) [
  | inl t ↦ inl (same_true p q t)
  | inr f ↦ inr (λ e. both_ways (same_path p q) f (eq_same p q e))
]

pub longer : (p : Path) (c : ℕ) → p ++ c ∷ [] ≡ p → ⊥
longer p c e = omega (arith, ap length e, length_push p c)

pub not_nil : (p : Path) (c : ℕ) → p ++ c ∷ [] ≡ [] → ⊥
not_nil p c e = omega (arith, ap length e, length_push p c)

pub init_same : (p q : Path) (b c : ℕ) → p ++ b ∷ [] ≡ q ++ c ∷ [] → p ≡ q
init_same p q b c e = (same_from_push p q b c e).0

pub last_same : (p q : Path) (b c : ℕ) → p ++ b ∷ [] ≡ q ++ c ∷ [] → b ≡ c
last_same p q b c e = (same_from_push p q b c e).1

-- a path is empty or has a last bit
pub ends : (p : Path) → (p ≡ []) ⊎ ((q : Path) × (c : ℕ) × (p ≡ q ++ c ∷ []))
ends [] = inl refl
ends (x ∷ p) = elim (ends p) [
  | inl e ↦ inr ([], x, ap (λ (t : Path). x ∷ t) e)
  | inr g ↦ inr (x ∷ g.0, g.1, ap (λ (t : Path). x ∷ t) g.2)
]
