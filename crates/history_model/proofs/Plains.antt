-- A tree with a bare child more or less is plain as before.
use Rattle.std.proofs.Common.{◌≡◌, ℕ, ◌<◌, Bool, true, false, cond, [], ◌∷◌, ◌++◌, length, Some, None, Option, sym, refl, ap, ◌∙◌, subst, inl, inr, arith}
use Rattle.std.proofs.lemmas.Bool.{false≢true, cases_Bool}
use Rattle.table_model.specs.Tree.{Path, Tree, Plain, same_path, with_path}
use Rattle.std.proofs.lemmas.List.{same_from_push}
use Rattle.table_model.proofs.Paths.{same_true}

more : (x y : Bool) → y ≡ true → cond x true y ≡ true
more true y h = refl
more false y h = h

-- a path other than r is kept
kept : (r q : Path) (y : Bool) → y ≡ true → (r ≡ q → ⊥) → (x : Bool) → same_path r q ≡ x → cond x false y ≡ true
kept r q y h n true e = absurd (n (same_true r q e))
kept r q y h n false e = h

was : (x y : Bool) → cond x false y ≡ true → y ≡ true
was true y h = absurd (false≢true h)
was false y h = h

module _ {V : Type 0} where
  -- an absent path holds nothing
  pub no_child : (t : Tree V) → Plain t → (p : Path) (b : ℕ) → t.has p ≡ false → t.has (p ++ (b ∷ [])) ≡ false
  no_child t w p b h = elim (cases_Bool (t.has (p ++ (b ∷ [])))) [
    | inl y ↦ absurd (false≢true (sym h ∙ (w.closed p b y).0))
    | inr n ↦ n
  ]

  pub none_of : (o : Option V) → ((v : V) → o ≡ Some v → ⊥) → o ≡ None
  none_of None h = refl
  none_of (Some v) h = absurd (h v refl)

  pub no_value : (t : Tree V) → Plain t → (p : Path) (b : ℕ) → t.has p ≡ false → t.val p b ≡ None
  no_value t w p b h = none_of (t.val p b) (λ v e. false≢true (sym h ∙ (w.valued p b v e).0))

  child_at : (t : Tree V) → Plain t → (p : Path) (b : ℕ) → t.has p ≡ true → b < 32 → length p < 25 → (q : Path) (c : ℕ) (x : Bool) → same_path (p ++ (b ∷ [])) (q ++ (c ∷ [])) ≡ x → cond x true (t.has (q ++ (c ∷ []))) ≡ true → (t.has q ≡ true) × (c < 32) × (length q < 25)
  child_at t w p b h l s q c true e k =
      let a = same_from_push p q b c (same_true (p ++ b ∷ []) (q ++ c ∷ []) e) in
      (subst (λ (r : Path). t.has r ≡ true) a.0 h, subst (λ (n : ℕ). n < 32) a.1 l, subst (λ (r : Path). length r < 25) a.0 s)
  child_at t w p b h l s q c false e k = w.closed q c k

  pub plain_add : (t : Tree V) → Plain t → (p : Path) (b : ℕ) → t.has p ≡ true → b < 32 → length p < 25 → Plain (with_path t (p ++ (b ∷ [])) true)
  plain_add t w p b h l s = record {
    rooted = more (same_path (p ++ (b ∷ [])) []) (t.has []) w.rooted;
    closed = λ q c k.
        let a = child_at t w p b h l s q c (same_path (p ++ (b ∷ [])) (q ++ (c ∷ []))) refl k in
        (more (same_path (p ++ (b ∷ [])) q) (t.has q) a.0, a.1, a.2);
    valued = λ q c v k. let a = w.valued q c v k in (more (same_path (p ++ (b ∷ [])) q) (t.has q) a.0, a.1);
  }

  pub plain_drop : (t : Tree V) → Plain t → (r : Path) → (r ≡ [] → ⊥) → ((c : ℕ) → t.has (r ++ (c ∷ [])) ≡ false) → ((c : ℕ) → t.val r c ≡ None) → Plain (with_path t r false)
  plain_drop t w r n free empty = record {
    rooted = kept r [] (t.has []) w.rooted n (same_path r []) refl;
    closed = λ q c k.
        let y = was (same_path r (q ++ (c ∷ []))) (t.has (q ++ (c ∷ []))) k in
        let a = w.closed q c y in
        (kept r q (t.has q) a.0 (λ e. false≢true (sym (free c) ∙ subst (λ (s : Path). t.has (s ++ (c ∷ [])) ≡ true) (sym e) y)) (same_path r q) refl, a.1, a.2);
    valued = λ q c v k.
        let a = w.valued q c v k in
        (kept r q (t.has q) a.0 (λ e. let z : Some v ≡ None = sym k ∙ ap (λ (s : Path). t.val s c) (sym e) ∙ empty c in let u : ◌≡◌ {A = ℕ} 0 1 = cc in omega arith) (same_path r q) refl, a.1);
  }
