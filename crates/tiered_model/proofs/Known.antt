-- That a store's memory agrees with itself is known by its type, which says only that it holds; here it is at hand again. The one part
-- that is no order and no equation, the size of the group that begins at a cell, is read off the runs and the freed groups.
use Rattle.std.proofs.Common.{◌≡◌, ℕ, zero, suc, ◌+◌, ◌<◌, ◌≤◌, cond, eqb, List, [], ◌∷◌, length, slice_index, sym, ap, ◌∙◌, subst, inl, inr, arith}
use Rattle.std.proofs.lemmas.Bool.{cases_eq, eq-eqb, ne_eqb}
use Rattle.runs.specs.Sizes.{size, times}
use Rattle.runs.proofs.Known.{le_known, eq_known, nil_known}
use Rattle.tiered_model.specs.Tiered.{State}
use Rattle.tiered_model.specs.Groups.{Valid}
use Rattle.tiered_model.specs.Ledger.{Linked, link_w, state_of, Sound}

-- the size below n under which a group is freed, 0 where it is not
unfoldable freed_size : (ℕ → List ℕ) → ℕ → ℕ → ℕ
freed_size free i zero = 0
freed_size free i (suc n) = cond (eqb (times i (free n)) 0) (freed_size free i n) n

freed_under : (free : ℕ → List ℕ) (i n : ℕ) → 1 ≤ freed_size free i n → 1 ≤ times i (free (freed_size free i n))
unfolding freed_size
freed_under free i zero h = absurd (omega arith)
freed_under free i (suc n) h = elim (cases_eq (times i (free n)) 0) [
  | inl e ↦ let b = eq-eqb (times i (free n)) 0 e in subst (λ (z : ℕ). 1 ≤ times i (free z)) (sym (ap (λ c. cond c (freed_size free i n) n) b)) (freed_under free i n (subst (λ (z : ℕ). 1 ≤ z) (ap (λ c. cond c (freed_size free i n) n) b) h))
  | inr ne ↦ let b = ne_eqb (times i (free n)) 0 ne in subst (λ (z : ℕ). 1 ≤ times i (free z)) (sym (ap (λ c. cond c (freed_size free i n) n) b)) (omega arith)
]

freed_once : (free : ℕ → List ℕ) (i z n : ℕ) → ((w : ℕ) → 1 ≤ times i (free w) → w ≡ z) → 1 ≤ times i (free z) → z < n → freed_size free i n ≡ z
unfolding freed_size
freed_once free i z zero one h l = absurd (omega arith)
freed_once free i z (suc n) one h l = elim (cases_eq (times i (free n)) 0) [
  | inl e ↦ ap (λ c. cond c (freed_size free i n) n) (eq-eqb (times i (free n)) 0 e) ∙ freed_once free i z n one h (elim (cases_eq z n) [ inl q ↦ absurd (omega (arith, ap (λ (w : ℕ). times i (free w)) q)) | inr q ↦ omega arith ])
  | inr ne ↦ ap (λ c. cond c (freed_size free i n) n) (ne_eqb (times i (free n)) 0 ne) ∙ one n (omega arith)
]

module _ {E : Type 0} (longest : ℕ) (s : State E) where
  -- the size of the group that begins at i, 0 where none does
  made_of : ℕ → ℕ
  made_of i = cond (eqb (length (s.live i)) 0) (freed_size s.free i 16777217) (size longest (length (s.live i)))

  made_live : (i : ℕ) → 1 ≤ length (s.live i) → made_of i ≡ size longest (length (s.live i))
  unfolding made_of
  made_live i h = ap (λ c. cond c (freed_size s.free i 16777217) (size longest (length (s.live i)))) (ne_eqb (length (s.live i)) 0 (λ e. omega arith))

  made_free : (i : ℕ) → length (s.live i) ≡ 0 → made_of i ≡ freed_size s.free i 16777217
  unfolding made_of
  made_free i h = ap (λ c. cond c (freed_size s.free i 16777217) (size longest (length (s.live i)))) (eq-eqb (length (s.live i)) 0 h)

  -- where it is some, it is the one that the state has
  made_same : (v : Valid longest s) (i : ℕ) → 1 ≤ made_of i → v.made i ≡ made_of i
  made_same v i h = elim (cases_eq (length (s.live i)) 0) [
    | inl e ↦ let m = made_free i e in (v.freed (freed_size s.free i 16777217) i (freed_under s.free i 16777217 (omega arith))).1 ∙ sym m
    | inr ne ↦ v.living i (omega arith) ∙ sym (made_live i (omega arith))
  ]

  made_freed : (v : Valid longest s) (z i : ℕ) → 1 ≤ times i (s.free z) → made_of i ≡ z
  made_freed v z i h =
      let f = v.freed z i h in
      made_free i (ap length f.2) ∙ freed_once s.free i z 16777217 (λ w k. sym (v.freed w i k).1 ∙ f.1) h
      (omega (arith, f.0, f.1, v.inside i (omega (arith, f.0, f.1)), v.enough, v.within))

  pub valid_known : {P : Type 0} → ∥ P ∥₁ → (P → Valid longest s) → Valid longest s
  valid_known t f = record {
    made = made_of;
    within = le_known t (λ p. (f p).within);
    enough = le_known t (λ p. (f p).enough);
    inside = λ i h. le_known t (λ p. subst (λ (z : ℕ). i + z ≤ s.claimed) (made_same (f p) i h) ((f p).inside i (omega (arith, made_same (f p) i h))));
    apart = λ i j l h k. le_known t (λ p. subst (λ (z : ℕ). i + z ≤ j) (made_same (f p) i h) ((f p).apart i j l (omega (arith, made_same (f p) i h)) (omega (arith, made_same (f p) j k))));
    short = λ i. le_known t (λ p. (f p).short i);
    living = λ i h. made_live i h;
    freed = λ z i h. (le_known t (λ p. ((f p).freed z i h).0), eq_known t (λ p. made_freed (f p) z i h), nil_known (s.live i) t (λ p. ((f p).freed z i h).2));
    once = λ z i. le_known t (λ p. (f p).once z i);
    tiles = eq_known t (λ p. (f p).tiles);
  }

linked_known : {P : Type 0} (ledger : List ℕ) (link : ℕ) (ps : List ℕ) → ∥ P ∥₁ → (P → Linked ledger link ps) → Linked ledger link ps
linked_known ledger link [] t f = eq_known t f
linked_known ledger link (p ∷ ps) t f = (eq_known t (λ x. (f x).0), linked_known ledger (link_w (slice_index ledger p)) ps t (λ x. (f x).1))

pub known : {E : Type 0} (longest : ℕ) (cells : List E) (ledger : List ℕ) (claimed : ℕ) (heads : List ℕ) (runs : ℕ) → ∥ Sound longest cells ledger claimed heads runs ∥₁ → Sound longest cells ledger claimed heads runs
known longest cells ledger claimed heads runs t = record {
  same = eq_known t (λ s. s.same);
  long = λ i. eq_known t (λ s. s.long i);
  ends = λ z. linked_known ledger _ _ t (λ s. s.ends z);
  counted = eq_known t (λ s. s.counted);
  valid = valid_known longest (state_of cells ledger claimed heads) t (λ s. s.valid);
}
