-- The entries of a run by the bits of its bitmap, as one bit is set or cleared and one entry goes in or out.
use Rattle.std.proofs.Common.{◌≡◌, ℕ, suc, ◌^◌, ◌<◌, ◌≤◌, cond, eqb, List, length, set, Some, None, sym, ap, ◌∙◌, inl, inr, add-one, arith}
use native.Mathlib.Decide.{dec_le}
use Rattle.bitmap.specs.Ranks.{bit, rank, is_set}
use Rattle.bitmap.proofs.Ranks.{Added, cases_bit, set_nonzero, added_low, added_high, rank_up, rank_strict, rank_distinct, set_within}
use Rattle.runs.specs.Lists.{with_new, without, nth}
use Rattle.table_model.specs.Table.{is_some, entry}
use Rattle.table_model.proofs.Nths.{nth_new_at, nth_new_below, nth_new_above, nth_without_below, nth_without_above, nth_set_at, nth_set_other, nth_some_in, nth_in}

module _ {E : Type 0} where
  pub entry_set : (xs : List E) (m b : ℕ) → bit m b ≡ 1 → entry xs m b ≡ nth xs (rank m b)
  unfolding entry
  entry_set xs m b o = ap (λ (d : ℕ). cond (eqb d 1) (nth xs (rank m b)) None) o

  pub entry_clear : (xs : List E) (m b : ℕ) → bit m b ≡ 0 → entry xs m b ≡ None
  unfolding entry
  entry_clear xs m b o = ap (λ (d : ℕ). cond (eqb d 1) (nth xs (rank m b)) None) o

  pub entry_some : (xs : List E) (m b : ℕ) (e : E) → entry xs m b ≡ Some e → bit m b ≡ 1
  entry_some xs m b e h = elim (cases_bit m b) [
    | inl z ↦ let n = entry_clear xs m b z in absurd (let z : ◌≡◌ {A = ℕ} 0 1 = cc in omega arith)
    | inr o ↦ o
  ]

  pub entry_nth : (xs : List E) (m b : ℕ) (e : E) → entry xs m b ≡ Some e → nth xs (rank m b) ≡ Some e
  entry_nth xs m b e h = sym (entry_set xs m b (entry_some xs m b e h)) ∙ h

  -- an entry more
  pub new_here : (xs : List E) (m n b : ℕ) (e : E) → Added m n b → rank m b ≤ length xs → entry (with_new xs (rank m b) e) n b ≡ Some e
  new_here xs m n b e a h =
      entry_set (with_new xs (rank m b) e) n b a.here
      ∙ ap (nth (with_new xs (rank m b) e)) (added_low m n b a b (omega arith))
      ∙ nth_new_at xs (rank m b) e h

  pub new_other : (xs : List E) (m n b : ℕ) (e : E) → Added m n b → rank m b ≤ length xs → (c : ℕ) → (c ≡ b → ⊥) → entry (with_new xs (rank m b) e) n c ≡ entry xs m c
  new_other xs m n b e a h c ne = elim (cases_bit m c) [
    | inl z ↦ entry_clear (with_new xs (rank m b) e) n c (a.other c ne ∙ z) ∙ sym (entry_clear xs m c z)
    | inr o ↦ entry_set (with_new xs (rank m b) e) n c (a.other c ne ∙ o) ∙ placed o ∙ sym (entry_set xs m c o)
  ]
    where
      placed : bit m c ≡ 1 → nth (with_new xs (rank m b) e) (rank n c) ≡ nth xs (rank m c)
      placed o = elim (dec_le (suc c) b) [
        | yes l ↦ ap (nth (with_new xs (rank m b) e)) (added_low m n b a c (omega arith)) ∙ nth_new_below xs (rank m b) e (rank m c) h (rank_strict m c b o l)
        | no g ↦ ap (nth (with_new xs (rank m b) e)) (added_high m n b a c (omega arith) ∙ add-one (rank m c)) ∙ nth_new_above xs (rank m b) e (rank m c) h (rank_up m b c (omega arith))
      ]

  -- an entry less
  pub less_here : (xs : List E) (m n b : ℕ) → Added n m b → entry (without xs (rank m b)) n b ≡ None
  less_here xs m n b a = entry_clear (without xs (rank m b)) n b a.clear

  pub less_other : (xs : List E) (m n b : ℕ) → Added n m b → rank m b < length xs → (c : ℕ) → (c ≡ b → ⊥) → entry (without xs (rank m b)) n c ≡ entry xs m c
  less_other xs m n b a h c ne = elim (cases_bit n c) [
    | inl z ↦ entry_clear (without xs (rank m b)) n c z ∙ sym (entry_clear xs m c (a.other c ne ∙ z))
    | inr o ↦ entry_set (without xs (rank m b)) n c o ∙ placed o ∙ sym (entry_set xs m c (a.other c ne ∙ o))
  ]
    where
      placed : bit n c ≡ 1 → nth (without xs (rank m b)) (rank n c) ≡ nth xs (rank m c)
      placed o = elim (dec_le (suc c) b) [
        | yes l ↦
            let k : rank n c < rank m b = omega (arith, rank_strict n c b o l, added_low n m b a b (omega arith)) in
            nth_without_below xs (rank m b) (rank n c) h k ∙ ap (nth xs) (sym (added_low n m b a c (omega arith)))
        | no g ↦
            let k : rank m b ≤ rank n c = omega (arith, rank_up n b c (omega arith), added_low n m b a b (omega arith)) in
            nth_without_above xs (rank m b) (rank n c) h k ∙ ap (nth xs) (sym (added_high n m b a c (omega arith) ∙ add-one (rank n c)))
      ]

  -- another entry
  pub other_here : (xs : List E) (m b : ℕ) (e d : E) → entry xs m b ≡ Some d → entry (set xs (rank m b) e) m b ≡ Some e
  other_here xs m b e d h = entry_set (set xs (rank m b) e) m b (entry_some xs m b d h) ∙ nth_set_at xs (rank m b) e (nth_some_in xs (rank m b) d (entry_nth xs m b d h))

  pub other_other : (xs : List E) (m b : ℕ) (e d : E) → entry xs m b ≡ Some d → (c : ℕ) → (c ≡ b → ⊥) → entry (set xs (rank m b) e) m c ≡ entry xs m c
  other_other xs m b e d h c ne = elim (cases_bit m c) [
    | inl z ↦ entry_clear (set xs (rank m b) e) m c z ∙ sym (entry_clear xs m c z)
    | inr o ↦ entry_set (set xs (rank m b) e) m c o ∙ nth_set_other xs (rank m b) e (rank m c) (λ q. ne (rank_distinct m c b o (entry_some xs m b d h) q)) ∙ sym (entry_set xs m c o)
  ]

  pub entry_same : (xs ys : List E) (m c : ℕ) → ((m ≡ 0 → ⊥) → xs ≡ ys) → entry xs m c ≡ entry ys m c
  entry_same xs ys m c h = elim (cases_bit m c) [
    | inl z ↦ entry_clear xs m c z ∙ sym (entry_clear ys m c z)
    | inr o ↦ ap (λ (zs : List E). entry zs m c) (h (set_nonzero m c o))
  ]

  -- a run as long as its bitmap has set bits has an entry for each
  pub entry_is : (xs : List E) (m b w : ℕ) → m < 2 ^ w → length xs ≡ rank m w → is_some (entry xs m b) ≡ is_set m b
  entry_is xs m b w fits full = elim (cases_bit m b) [
    | inl z ↦ ap is_some (entry_clear xs m b z) ∙ sym (ap (λ (d : ℕ). eqb d 1) z)
    | inr o ↦
        let e = nth_in xs (rank m b) (omega (arith, full, rank_strict m b w o (set_within m b w fits o))) in
        ap is_some (entry_set xs m b o ∙ e.1) ∙ sym (ap (λ (d : ℕ). eqb d 1) o)
  ]
