-- One node's run changes, and the runs of all others stay: the runs are held again.
use Rattle.std.proofs.Common.{◌≡◌, ℕ, ◌^◌, ◌<◌, ◌⊎◌, Some, Option, sym, ap, ◌∙◌, subst, inl, inr, arith}
use Rattle.std.proofs.lemmas.Nat.{pow_pos}
use Rattle.std.proofs.lemmas.Bool.{cases_eq}
use Rattle.bitmap.specs.Ranks.{rank}
use Rattle.runs.specs.Lists.{empty}
use Rattle.table_model.specs.Tree.{Path}
use Rattle.table_model.specs.Table.{Holds}
use Rattle.runs.specs.declared.entry.NodeRow.{NodeRow}
use Rattle.bitmap.proofs.Ranks.{none_set, rank_of_zero}
use Rattle.table_model.proofs.Paths.{cases_path}

pub some_same : {A : Type 0} (o : Option A) (x y : A) → o ≡ Some x → o ≡ Some y → x ≡ y
some_same o x y e f = cc

-- The node at p has the record r before and r2 after. Other nodes with a run are found before and after alike; a bare one may come or go.
pub record Step (w : ℕ) (bitmap index : NodeRow → ℕ) (len len2 : ℕ → ℕ) (found found2 : Path → Option NodeRow) (p : Path) (r r2 : NodeRow) : Type 0 where
  pub before : found p ≡ Some r
  pub after : found2 p ≡ Some r2
  pub back : (q : Path) (s : NodeRow) → (q ≡ p → ⊥) → found2 q ≡ Some s → (found q ≡ Some s) ⊎ ((bitmap s ≡ 0) × (index s ≡ empty))
  pub on : (q : Path) (s : NodeRow) → (q ≡ p → ⊥) → found q ≡ Some s → (bitmap s ≡ 0 → ⊥) → found2 q ≡ Some s
  pub fits : bitmap r2 < 2 ^ w
  pub none : bitmap r2 ≡ 0 → index r2 ≡ empty
  pub some : index r2 ≡ empty → bitmap r2 ≡ 0
  pub full : len2 (index r2) ≡ rank (bitmap r2) w
  pub free : (index r2 ≡ index r) ⊎ (len (index r2) ≡ 0)
  pub left : (index r ≡ index r2 → ⊥) → len2 (index r) ≡ 0
  pub same : (i : ℕ) → (i ≡ index r → ⊥) → (i ≡ index r2 → ⊥) → len2 i ≡ len i

module _ (w : ℕ) (bitmap index : NodeRow → ℕ) (len : ℕ → ℕ) (found : Path → Option NodeRow) (h : Holds w bitmap index len found) where
  -- a run that is named is live
  pub live : (q : Path) (s : NodeRow) → found q ≡ Some s → (bitmap s ≡ 0 → ⊥) → len (index s) ≡ 0 → ⊥
  live q s f n z = n (none_set (bitmap s) w (h.fits q s f) (sym (h.full q s f) ∙ z))

  pub none_live : len empty ≡ 0
  none_live = elim (cases_eq (len empty) 0) [
    | inl e ↦ e
    | inr n ↦ let o = h.owned empty n in absurd (o.3 (h.some o.0 o.1 o.2 o.4))
  ]

  -- another node's run is neither the one that p had nor the one that it gets
  pub off_old : (p : Path) (r : NodeRow) → found p ≡ Some r → (q : Path) (s : NodeRow) → (q ≡ p → ⊥) → found q ≡ Some s → (bitmap s ≡ 0 → ⊥) → index s ≡ index r → ⊥
  off_old p r fp q s n f z e = elim (cases_eq (bitmap r) 0) [
    | inl y ↦ z (h.some q s f (e ∙ h.none p r fp y))
    | inr y ↦ n (h.apart q p s r f fp z y e)
  ]

  pub off_new : (p : Path) (r r2 : NodeRow) → found p ≡ Some r → (index r2 ≡ index r) ⊎ (len (index r2) ≡ 0) → (q : Path) (s : NodeRow) → (q ≡ p → ⊥) → found q ≡ Some s → (bitmap s ≡ 0 → ⊥) → index s ≡ index r2 → ⊥
  off_new p r r2 fp fr q s n f z e = elim fr [
    | inl y ↦ off_old p r fp q s n f z (e ∙ y)
    | inr y ↦ live q s f z (ap len e ∙ y)
  ]

  module _ (len2 : ℕ → ℕ) (found2 : Path → Option NodeRow) (p : Path) (r r2 : NodeRow) (c : Step w bitmap index len len2 found found2 p r r2) where
    none_live2 : len2 empty ≡ 0
    none_live2 = elim (cases_eq empty (index r2)) [
      | inl e ↦ ap len2 e ∙ c.full ∙ ap (λ (m : ℕ). rank m w) (c.some (sym e)) ∙ rank_of_zero w
      | inr n ↦ elim (cases_eq empty (index r)) [
        | inl e ↦ ap len2 e ∙ c.left (λ (y : index r ≡ index r2). n (e ∙ y))
        | inr k ↦ c.same empty k n ∙ none_live
      ]
    ]

    full_at : (q : Path) (s : NodeRow) → (q ≡ p → ⊥) → found q ≡ Some s → len2 (index s) ≡ rank (bitmap s) w
    full_at q s n f = elim (cases_eq (bitmap s) 0) [
      | inl z ↦ ap len2 (h.none q s f z) ∙ none_live2 ∙ sym (rank_of_zero w) ∙ ap (λ (m : ℕ). rank m w) (sym z)
      | inr z ↦ c.same (index s) (off_old p r c.before q s n f z) (off_new p r r2 c.before c.free q s n f z) ∙ h.full q s f
    ]

    -- what is shown of the node at p, of bare ones and of those that were there before is shown of all
    all : (P : NodeRow → Type 0) → P r2 → ((s : NodeRow) → bitmap s ≡ 0 → index s ≡ empty → P s) → ((q : Path) (s : NodeRow) → (q ≡ p → ⊥) → found q ≡ Some s → P s) → (q : Path) (s : NodeRow) → found2 q ≡ Some s → P s
    all P here bare old q s f = elim (cases_path q p) [
      | inl e ↦ subst P (some_same (found2 p) r2 s c.after (ap found2 (sym e) ∙ f)) here
      | inr n ↦ elim (c.back q s n f) [
        | inl g ↦ old q s n g
        | inr g ↦ bare s g.0 g.1
      ]
    ]

    is_old : (q : Path) (s : NodeRow) → (q ≡ p → ⊥) → found2 q ≡ Some s → (bitmap s ≡ 0 → ⊥) → found q ≡ Some s
    is_old q s n f z = elim (c.back q s n f) [
      | inl g ↦ g
      | inr g ↦ absurd (z g.0)
    ]

    is_new : (q : Path) (s : NodeRow) → q ≡ p → found2 q ≡ Some s → r2 ≡ s
    is_new q s e f = some_same (found2 p) r2 s c.after (ap found2 (sym e) ∙ f)

    apart_at : (q t : Path) (s u : NodeRow) → found2 q ≡ Some s → found2 t ≡ Some u → (bitmap s ≡ 0 → ⊥) → (bitmap u ≡ 0 → ⊥) → index s ≡ index u → q ≡ t
    apart_at q t s u f g y z e = elim (cases_path q p) [
      | inl a ↦ elim (cases_path t p) [
        | inl b ↦ a ∙ sym b
        | inr b ↦ absurd (off_new p r r2 c.before c.free t u b (is_old t u b g z) z (sym e ∙ ap index (sym (is_new q s a f))))
      ]
      | inr a ↦ elim (cases_path t p) [
        | inl b ↦ absurd (off_new p r r2 c.before c.free q s a (is_old q s a f y) y (e ∙ ap index (sym (is_new t u b g))))
        | inr b ↦ h.apart q t s u (is_old q s a f y) (is_old t u b g z) y z e
      ]
    ]

    owned_at : (i : ℕ) → (len2 i ≡ 0 → ⊥) → (q : Path) × (s : NodeRow) × (found2 q ≡ Some s) × (bitmap s ≡ 0 → ⊥) × (index s ≡ i)
    owned_at i n = elim (cases_eq i (index r2)) [
      | inl e ↦ (p, r2, c.after, (λ z. n (ap len2 e ∙ c.full ∙ ap (λ (m : ℕ). rank m w) z ∙ rank_of_zero w)), sym e)
      | inr k ↦ elim (cases_eq i (index r)) [
        | inl e ↦ absurd (n (ap len2 e ∙ c.left (λ y. k (e ∙ y))))
        | inr j ↦
            let o = h.owned i (λ z. n (c.same i j k ∙ z)) in
            let off : o.0 ≡ p → ⊥ = λ e. j (sym o.4 ∙ ap index (some_same (found p) o.1 r (ap found (sym e) ∙ o.2) c.before)) in
            (o.0, o.1, c.on o.0 o.1 off o.2 o.3, o.3, o.4)
      ]
    ]

    pub held : Holds w bitmap index len2 found2
    held = record {
      fits = all (λ s. bitmap s < 2 ^ w) c.fits (λ s z e. omega (arith, pow_pos w)) (λ q s n f. h.fits q s f);
      none = all (λ s. bitmap s ≡ 0 → index s ≡ empty) c.none (λ s z e y. e) (λ q s n f. h.none q s f);
      some = all (λ s. index s ≡ empty → bitmap s ≡ 0) c.some (λ s z e y. z) (λ q s n f. h.some q s f);
      full = all (λ s. len2 (index s) ≡ rank (bitmap s) w) c.full (λ s z e. ap len2 e ∙ none_live2 ∙ sym (rank_of_zero w) ∙ ap (λ (m : ℕ). rank m w) (sym z)) full_at;
      apart = apart_at;
      owned = owned_at;
    }
