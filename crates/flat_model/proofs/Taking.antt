-- A group taken, a group freed, a run changed in its group: each leads from a state that can be to another.
use Rattle.std.proofs.Common.{◌≡◌, ℕ, ◌+◌, ◌%◌, ◌<◌, ◌≤◌, true, ◌||◌, leb, List, [], ◌∷◌, length, sym, refl, ap, ◌∙◌, subst, inl, inr, arith}
use Rattle.std.proofs.lemmas.Bool.{cases_eq, leb-true}
use Rattle.std.proofs.lemmas.List.{nil_from_length}
use Rattle.runs.specs.Lists.{indexes, at}
use Rattle.runs.specs.Sizes.{one, times}
use Rattle.runs.proofs.Counts.{put_both, put_same, put_other}
use Rattle.runs.proofs.Sizes.{one_same, one_other}
use Rattle.flat_model.specs.Flat.{State, next, some_free, fresh, kept, released, held_from, Begins, Valid}

-- ---- multiples of the two widths

by_width : (P : ℕ → Type 0) → P 31 → P 32 → (n : ℕ) → 31 ≤ n → n ≤ 32 → P n
by_width P a b n l h = elim (cases_eq n 31) [ inl e ↦ subst P (sym e) a | inr ne ↦ let e : 32 ≡ n = omega arith in subst P e b ]

none_whole : (n : ℕ) → 31 ≤ n → n ≤ 32 → 0 % n ≡ 0
none_whole n a b = by_width (λ n. 0 % n ≡ 0) refl refl n a b

more_whole : (n : ℕ) → 31 ≤ n → n ≤ 32 → (c : ℕ) → c % n ≡ 0 → (c + n) % n ≡ 0
more_whole n a b = by_width (λ n. (c : ℕ) → c % n ≡ 0 → (c + n) % n ≡ 0) (λ c h. omega arith) (λ c h. omega arith) n a b

pub whole_apart : (n : ℕ) → 31 ≤ n → n ≤ 32 → (i j : ℕ) → i % n ≡ 0 → j % n ≡ 0 → i < j → i + n ≤ j
whole_apart n a b = by_width (λ n. (i j : ℕ) → i % n ≡ 0 → j % n ≡ 0 → i < j → i + n ≤ j) (λ i j h k l. omega arith) (λ i j h k l. omega arith) n a b

-- ---- the states

pub gone : {E : Type 0} (f : ℕ → List E) (i j : ℕ) → f j ≡ [] → at f i [] j ≡ []
gone f i j e = put_both f i [] j (λ x. x ≡ []) (λ _. refl) (λ _. e)

pub fresh_valid : {E : Type 0} (longest cells : ℕ) → 31 ≤ longest → longest ≤ 32 → cells ≤ indexes → Valid {E = E} longest (fresh cells)
fresh_valid longest cells a b h = record {
  within = h;
  enough = omega arith;
  whole = none_whole longest a b;
  short = λ i. omega arith;
  living = λ i l. absurd (omega arith);
  freed = λ i l. absurd (omega arith);
  once = λ i. omega arith;
}

module _ {E : Type 0} (longest : ℕ) (la : 31 ≤ longest) (lb : longest ≤ 32) (s : State E) (v : Valid longest s) where
  pub low : (i : ℕ) → s.claimed ≤ i → s.live i ≡ []
  low i h = elim (cases_eq (length (s.live i)) 0) [ inl e ↦ nil_from_length (s.live i) e | inr ne ↦ absurd (omega (arith, (v.living i (omega arith)).1)) ]

  times_head : (f : ℕ) (fs : List ℕ) → s.free ≡ f ∷ fs → (i : ℕ) → times i s.free ≡ one f i + times i fs
  times_head f fs e i = ap (times i) e

  pub head_freed : (f : ℕ) (fs : List ℕ) → s.free ≡ f ∷ fs → Begins longest s.claimed f × (s.live f ≡ [])
  head_freed f fs e = v.freed f (omega (arith, times_head f fs e f, one_same f))

  pub next_dead : (fs : List ℕ) → s.free ≡ fs → s.live (next fs s.claimed) ≡ []
  next_dead [] e = low s.claimed (omega arith)
  next_dead (f ∷ fs) e = (head_freed f fs e).1

  module _ (ys : List E) (hl : length ys ≤ longest) where
    pub held_valid : (fs : List ℕ) → s.free ≡ fs → (some_free fs || leb (s.claimed + longest) s.cells) ≡ true → Valid longest (held_from longest s fs ys)
    held_valid [] e t =
        let none : (i : ℕ) → times i s.free ≡ 0 = λ i. ap (times i) e in
        record {
          within = v.within;
          enough = leb-true (s.claimed + longest) s.cells t;
          whole = more_whole longest la lb s.claimed v.whole;
          short = λ i. put_both s.live s.claimed ys i (λ x. length x ≤ longest) (λ _. hl) (λ _. v.short i);
          living = λ i. put_both s.live s.claimed ys i (λ x. 1 ≤ length x → Begins longest (s.claimed + longest) i)
              (λ q l. (ap (λ (k : ℕ). k % longest) q ∙ v.whole, omega arith))
              (λ q l. let b = v.living i l in (b.0, omega (arith, b.1)));
          freed = λ i l. absurd (omega arith);
          once = λ i. omega arith;
        }
    held_valid (f ∷ fs) e t =
        let b = (head_freed f fs e).0 in
        record {
          within = v.within;
          enough = v.enough;
          whole = v.whole;
          short = λ i. put_both s.live f ys i (λ x. length x ≤ longest) (λ _. hl) (λ _. v.short i);
          living = λ i. put_both s.live f ys i (λ x. 1 ≤ length x → Begins longest s.claimed i)
              (λ q l. subst (λ (k : ℕ). Begins longest s.claimed k) (sym q) b)
              (λ q l. v.living i l);
          freed = λ i l.
              let p = v.freed i (omega (arith, times_head f fs e i)) in
              let ne : i ≡ f → ⊥ = λ q. omega (arith, ap (λ (k : ℕ). times k fs) q, times_head f fs e f, v.once f, one_same f) in
              (p.0, put_other s.live f i ys ne ∙ p.1);
          once = λ i. omega (arith, times_head f fs e i, v.once i);
        }

  module _ (i : ℕ) (h : 1 ≤ length (s.live i)) where
    -- a live run's group is not among the freed ones
    pub not_freed : times i s.free ≡ 0
    not_freed = elim (cases_eq (times i s.free) 0) [ inl e ↦ e | inr ne ↦ absurd (omega (arith, ap length (v.freed i (omega arith)).1)) ]

    pub released_valid : Valid longest (released s i)
    released_valid = record {
      within = v.within;
      enough = v.enough;
      whole = v.whole;
      short = λ j. put_both s.live i [] j (λ x. length x ≤ longest) (λ _. omega arith) (λ _. v.short j);
      living = λ j. put_both s.live i [] j (λ x. 1 ≤ length x → Begins longest s.claimed j) (λ _ l. absurd (omega arith)) (λ _. v.living j);
      freed = λ j l. elim (cases_eq j i) [
        | inl q ↦ (subst (λ (k : ℕ). Begins longest s.claimed k) (sym q) (v.living i h), ap (at s.live i []) q ∙ put_same s.live i [])
        | inr q ↦ let p = v.freed j (omega (arith, one_other i j q)) in (p.0, gone s.live i j p.1)
      ];
      once = λ j. elim (cases_eq j i) [
        | inl q ↦ omega (arith, ap (λ (k : ℕ). one i k) q, ap (λ (k : ℕ). times k s.free) q, one_same i, not_freed)
        | inr q ↦ omega (arith, one_other i j q, v.once j)
      ];
    }

    pub kept_valid : (ys : List E) → length ys ≤ longest → Valid longest (kept s i ys)
    kept_valid ys hl = record {
      within = v.within;
      enough = v.enough;
      whole = v.whole;
      short = λ j. put_both s.live i ys j (λ x. length x ≤ longest) (λ _. hl) (λ _. v.short j);
      living = λ j. put_both s.live i ys j (λ x. 1 ≤ length x → Begins longest s.claimed j)
          (λ q l. subst (λ (k : ℕ). Begins longest s.claimed k) (sym q) (v.living i h))
          (λ _. v.living j);
      freed = λ j l. let p = v.freed j l in (p.0, put_other s.live i j ys (λ q. omega (arith, ap (λ (k : ℕ). times k s.free) q, not_freed)) ∙ p.1);
      once = v.once;
    }
