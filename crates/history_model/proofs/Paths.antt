-- Paths that are the same, and trees with one thing altered.
use Rattle.std.proofs.Common.{◌≡◌, ℕ, zero, suc, ◌<◌, ◌≤◌, Bool, true, false, cond, ◌&&◌, eqb, [], ◌∷◌, ◌++◌, length, Option, sym, refl, ap, ◌∙◌, subst, inl, inr, append_assoc, append-nil, arith}
use mathlib.Core.Path.{fun_ext}
use Rattle.std.proofs.lemmas.Bool.{eq-eqb, ne_eqb, and_right}
use Rattle.std.proofs.lemmas.List.{length_push}
use Rattle.table_model.proofs.Paths.{ne_same, longer, not_nil, ends}
use Rattle.table_model.specs.Tree.{Path, Tree, Plain, same_path, with_val, with_path, below}
use Rattle.history_model.proofs.Gathered.{On, sub, Away, LeafMore, left}

pub same_sub : (p r q : Path) → same_path (p ++ r) (p ++ q) ≡ same_path r q
same_sub [] r q = refl
same_sub (c ∷ p) r q = ap (λ (x : Bool). x && same_path (p ++ r) (p ++ q)) (eq-eqb c c refl) ∙ same_sub p r q

pub same_start : (p q : Path) → same_path p (p ++ q) ≡ same_path [] q
same_start p q = ap (λ (r : Path). same_path r (p ++ q)) (sym (append-nil p)) ∙ same_sub p [] q

-- a path with a bit more is another path, and not the empty one
pub longer_off : (p : Path) (b : ℕ) → same_path (p ++ (b ∷ [])) p ≡ false
longer_off p b = ne_same (p ++ b ∷ []) p (longer p b)

not_empty : (p : Path) (b : ℕ) → same_path (p ++ (b ∷ [])) [] ≡ false
not_empty p b = ne_same (p ++ b ∷ []) [] (not_nil p b)

module _ {V : Type 0} where
  -- ---- the altered tree, seen from p

  pub away_val : (p : Path) (t : Tree V) (b : ℕ) (o : Option V) → Away p t (with_val t p b o)
  away_val [] t b o = tt
  away_val (c ∷ p) t b o =
      let g : ℕ → Bool → Tree V = λ e x. record { has = λ q. t.has (e ∷ q); val = λ q k. cond ((x && same_path p q) && eqb b k) o (t.val (e ∷ q) k) } in
      (refl, λ e. refl, λ e n. ap (g e) (sym (ne_eqb c e n)), subst (λ (x : Bool). Away p (below t c) (g c x)) (sym (eq-eqb c c refl)) (away_val p (below t c) b o))

  pub away_path : (p : Path) (t : Tree V) (b : ℕ) (h : Bool) → Away p t (with_path t (p ++ (b ∷ [])) h)
  away_path [] t b h = tt
  away_path (c ∷ p) t b h =
      let g : ℕ → Bool → Tree V = λ e x. record { has = λ q. cond (x && same_path (p ++ (b ∷ [])) q) h (t.has (e ∷ q)); val = λ q. t.val (e ∷ q) } in (
        refl,
        λ e. ap (λ (x : Bool). cond x h (t.has (e ∷ []))) (sym (and_right (eqb c e) (same_path (p ++ (b ∷ [])) []) (not_empty p b))),
        λ e n. ap (g e) (sym (ne_eqb c e n)),
        subst (λ (x : Bool). Away p (below t c) (g c x)) (sym (eq-eqb c c refl)) (away_path p (below t c) b h),
      )

  pub sub_val : (p : Path) (t : Tree V) (b : ℕ) (o : Option V) → sub (with_val t p b o) p ≡ with_val (sub t p) [] b o
  sub_val p t b o =
      let g : (Path → Bool) → Tree V = λ m. record { has = λ q. t.has (p ++ q); val = λ q k. cond (m q && eqb b k) o (t.val (p ++ q) k) } in
      ap g (fun_ext (λ q. same_start p q))

  pub sub_path : (p : Path) (t : Tree V) (b : ℕ) (h : Bool) → sub (with_path t (p ++ (b ∷ [])) h) p ≡ with_path (sub t p) (b ∷ []) h
  sub_path p t b h =
      let g : (Path → Bool) → Tree V = λ m. record { has = λ q. cond (m q) h (t.has (p ++ q)); val = λ q. t.val (p ++ q) } in
      ap g (fun_ext (λ q. same_sub p (b ∷ []) q))

  pub leaf_more : (s : Tree V) (b : ℕ) → s.has (b ∷ []) ≡ false → ((c : ℕ) → s.has (b ∷ c ∷ []) ≡ false) → LeafMore b s (with_path s (b ∷ []) true)
  leaf_more s b off free =
      let g : ℕ → Bool → Tree V = λ e x. record { has = λ q. cond (x && same_path [] q) true (s.has (e ∷ q)); val = λ q. s.val (e ∷ q) } in
      record {
        absent = off;
        present = ap (λ (x : Bool). cond (x && true) true (s.has (b ∷ []))) (eq-eqb b b refl);
        alone = λ c l. ap (λ (x : Bool). cond x true (s.has (b ∷ c ∷ []))) (and_right (eqb b b) false refl) ∙ free c;
        children = λ c n. ap (λ (x : Bool). cond (x && true) true (s.has (c ∷ []))) (sym (ne_eqb b c n));
        same = λ c n. ap (g c) (sym (ne_eqb b c n));
      }

  -- ---- paths of a sound tree

  pub stem : (t : Tree V) → Plain t → (p q : Path) → t.has (p ++ q) ≡ true → t.has p ≡ true
  stem t w p [] h = subst (λ (r : Path). t.has r ≡ true) (append-nil p) h
  stem t w p (c ∷ q) h =
      (w.closed p c (stem t w (p ++ (c ∷ [])) q (subst (λ (r : Path). t.has r ≡ true) (sym (append_assoc p (c ∷ []) q)) h))).0

  leads : (t : Tree V) → ((p q : Path) → t.has (p ++ q) ≡ true → t.has p ≡ true) → ((p : Path) (b : ℕ) → t.has (p ++ (b ∷ [])) ≡ true → b < 32) → (p : Path) (d : ℕ) → length p ≤ d → t.has p ≡ true → On d t p
  leads t w k [] d l h = tt
  leads t w k (c ∷ p) zero l h = absurd (omega arith)
  leads t w k (c ∷ p) (suc d) l h = let e = w (c ∷ []) p h in (k [] c e, e, leads (below t c) (λ q r. w (c ∷ q) r) (λ q b. k (c ∷ q) b) p d (omega arith) h)

  pub on : (t : Tree V) → Plain t → (p : Path) (d : ℕ) → length p ≤ d → t.has p ≡ true → On d t p
  on t w p d l h = leads t (stem t w) (λ q b e. (w.closed q b e).1) p d l h

  -- a path of the tree is at most 25 long
  pub depth : (t : Tree V) → Plain t → (p : Path) → t.has p ≡ true → length p ≤ 25
  depth t w p h = elim (ends p) [
    | inl e ↦ omega (arith, ap length e)
    | inr g ↦ omega (arith, (w.closed g.0 g.1 (ap t.has (sym g.2) ∙ h)).2, ap length g.2, length_push g.0 g.1)
  ]

pub room : (p : Path) (d : ℕ) → length p < d → (k : ℕ) × (left d p ≡ suc k)
room [] zero l = absurd (omega arith)
room [] (suc d) l = (d, refl)
room (c ∷ p) zero l = absurd (omega arith)
room (c ∷ p) (suc d) l = room p d (omega arith)
