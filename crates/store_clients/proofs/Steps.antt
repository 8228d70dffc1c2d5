-- One run more in a store: opened, moved by an insertion or a removal, and ended.
use Rattle.std.proofs.Common.{◌≡◌, ℕ, List, [], ◌∷◌, length, sym, ap, ◌∙◌, inl, inr, arith}
use mathlib.Core.Path.{fun_ext}
use Rattle.std.proofs.lemmas.Bool.{cases_eq}
use Rattle.runs.specs.Lists.{at, with_new, without}
use Rattle.runs.specs.Runs.{Moved, Removing}
use Rattle.runs.specs.Runs.Removing.{ended, left}
use Rattle.runs.proofs.Counts.{put_same, put_other}

-- the map f, and the run xs beside it at j
pub record Beside {E : Type 0} (f : ℕ → List E) (j : ℕ) (xs : List E) (h : ℕ → List E) : Type 0 where
  pub none : f j ≡ []
  pub is : h ≡ at f j xs

module _ {E : Type 0} {f : ℕ → List E} {j : ℕ} {xs : List E} {h : ℕ → List E} (b : Beside f j xs h) where
  -- the run itself
  pub run : h j ≡ xs
  run = ap (λ (k : ℕ → List E). k j) b.is ∙ put_same f j xs

  -- the map without it
  pub without_run : at h j [] ≡ f
  without_run = fun_ext (λ k. elim (cases_eq k j) [
    | inl e ↦ ap (at h j []) e ∙ put_same h j [] ∙ sym b.none ∙ ap f (sym e)
    | inr ne ↦ put_other h j k [] ne ∙ ap (λ (q : ℕ → List E). q k) b.is ∙ put_other f j k xs ne
  ])

  pub moved : {i : ℕ} {ys : List E} {u : ℕ → List E} → Moved h j i ys u → Beside f i ys u
  moved {i} {ys} d = record {
    none = ap (λ (k : ℕ → List E). k i) (sym without_run) ∙ d.free;
    is = d.is ∙ ap (λ (k : ℕ → List E). at k i ys) without_run;
  }

-- a run of one is ended, and of two entries the second one stays
pub ends_run : {E : Type 0} {f : ℕ → List E} {j i : ℕ} {x : E} {h u : ℕ → List E} → Beside f j (x ∷ []) h → Removing h j 0 i u → u ≡ f
ends_run b (ended one to is) = is ∙ without_run b
ends_run {j = j} b (left more d) = let n = ap length (run b) in absurd (omega arith)

pub shortens : {E : Type 0} {f : ℕ → List E} {j i : ℕ} {x y : E} {h u : ℕ → List E} → Beside f j (x ∷ y ∷ []) h → Removing h j 0 i u → Beside f i (y ∷ []) u
shortens b (ended one to is) = let n = ap length (run b) in absurd (omega arith)
shortens {E} {f = f} {i = i} b (left more d) =
    let e = moved b d in
    record { none = e.none; is = e.is ∙ ap (λ (zs : List E). at f i (without zs 0)) (run b) }

pub lengthens : {E : Type 0} {f : ℕ → List E} {j i : ℕ} {x y : E} {h u : ℕ → List E} → Beside f j (x ∷ []) h → Moved h j i (with_new (h j) 0 y) u → Beside f i (y ∷ x ∷ []) u
lengthens {E} {f = f} {i = i} {y = y} b d =
    let e = moved b d in
    record { none = e.none; is = e.is ∙ ap (λ (zs : List E). at f i (with_new zs 0 y)) (run b) }
