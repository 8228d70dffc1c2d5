-- What is gathered from a tree, where one place of it changes.
use Rattle.std.proofs.Common.{◌≡◌, ℕ, zero, suc, ◌<◌, Bool, true, false, cond, eqb, List, [], ◌∷◌, ◌++◌, sym, refl, ap, ◌∙◌, subst, inl, inr, append_assoc, append-nil, arith}
use mathlib.Core.Path.{fun_ext}
use Rattle.std.specs.List.Sorted.{IsPermutation}
use Rattle.std.proofs.lemmas.Bool.{eq-eqb, ne_eqb, eqb-false, cases_eq}
use Rattle.std.proofs.lemmas.List.Sorted.{IsPermutation-append_right, IsPermutation-append_left, IsPermutation-append_comm, IsPermutation-refl, IsPermutation-trans}
use Rattle.table_model.specs.Tree.{Path, Tree, below}
use Rattle.history_model.proofs.Gathered.{rising, falling, collect}
use Rattle.history_model.proofs.Gathered.{Local, On, sub, Away, ValuesDiffer, LeafMore, Exchanged, left}
use Rattle.history_model.proofs.Shuffles.{shuffled_is, shuffled_front}

-- ---- one bit of many

-- g with nothing at c
abbrev pub without : {X : Type 0} → ℕ → (ℕ → List X) → ℕ → List X
without c g b = cond (eqb c b) [] (g b)

without_same : {X : Type 0} (c : ℕ) (g h : ℕ → List X) → ((b : ℕ) → (c ≡ b → ⊥) → g b ≡ h b) → (b : ℕ) (x : Bool) → eqb c b ≡ x → cond x [] (g b) ≡ cond x [] (h b)
without_same c g h e b true k = refl
without_same c g h e b false k = e b (eqb-false c b k)

pub without_agree : {X : Type 0} (c : ℕ) (g h : ℕ → List X) → ((b : ℕ) → (c ≡ b → ⊥) → g b ≡ h b) → without c g ≡ without c h
without_agree c g h e = fun_ext (λ b. without_same c g h e b (eqb c b) refl)

without_here : {X : Type 0} (c : ℕ) (g : ℕ → List X) → without c g c ≡ []
without_here c g = ap (λ (x : Bool). cond x [] (g c)) (eq-eqb c c refl)

without_there : {X : Type 0} (c b : ℕ) (g : ℕ → List X) → (c ≡ b → ⊥) → without c g b ≡ g b
without_there c b g n = ap (λ (x : Bool). cond x [] (g b)) (ne_eqb c b n)

-- bits above c alone are as they were
falling_above : {X : Type 0} (n c : ℕ) (g : ℕ → List X) → n < suc c → falling n (without c g) ≡ falling n g
unfolding falling
falling_above zero c g h = refl
falling_above (suc n) c g h =
    let ih = falling_above n c g (omega arith) in
    let e = without_there c n g (omega arith) in
    cc

rising_above : {X : Type 0} (n c : ℕ) (g : ℕ → List X) → n < suc c → rising n (without c g) ≡ rising n g
unfolding rising
rising_above zero c g h = refl
rising_above (suc n) c g h =
    let ih = rising_above n c g (omega arith) in
    let e = without_there c n g (omega arith) in
    cc

pub falling_none : {X : Type 0} (n : ℕ) (g : ℕ → List X) → ((b : ℕ) → b < n → g b ≡ []) → falling n g ≡ []
unfolding falling
falling_none zero g e = refl
falling_none {X} (suc n) g e = ap (λ (l : List X). l ++ falling n g) (e n (omega arith)) ∙ falling_none n g (λ b l. e b (omega arith))

pub rising_none : {X : Type 0} (n : ℕ) (g : ℕ → List X) → ((b : ℕ) → b < n → g b ≡ []) → rising n g ≡ []
unfolding rising
rising_none zero g e = refl
rising_none {X} (suc n) g e = ap (λ (l : List X). rising n g ++ l) (e n (omega arith)) ∙ append-nil (rising n g) ∙ rising_none n g (λ b l. e b (omega arith))

-- the list of one bit stands in front of the others
pub falling_pick : {X : Type 0} (n c : ℕ) (g : ℕ → List X) → c < n → IsPermutation (falling n g) (g c ++ falling n (without c g))
unfolding falling
falling_pick zero c g h = absurd (omega arith)
falling_pick {X} (suc n) c g h = elim (cases_eq c n) [
  | inl e ↦
      let a = falling_above n c g (omega arith) in
      let z = without_here c g in
      let w : without c g n ++ falling n (without c g) ≡ falling n g = ap (λ (k : ℕ). without c g k ++ falling n (without c g)) (sym e) ∙ ap (λ (l : List X). l ++ falling n (without c g)) z ∙ a in
      shuffled_is (g n ++ falling n g) (g c ++ (without c g n ++ falling n (without c g))) (ap (λ (k : ℕ). g k ++ falling n g) (sym e) ∙ ap (λ (l : List X). g c ++ l) (sym w))
  | inr e ↦
      let ih = falling_pick n c g (omega arith) in
      let w = without_there c n g e in
      IsPermutation-trans (g n ++ falling n g) (g n ++ (g c ++ falling n (without c g))) (g c ++ (without c g n ++ falling n (without c g)))
      (IsPermutation-append_right (g n) (falling n g) (g c ++ falling n (without c g)) ih)
      (subst (λ (l : List X). IsPermutation (g n ++ (g c ++ falling n (without c g))) (g c ++ (l ++ falling n (without c g)))) (sym w) (shuffled_front (g n) (g c) (falling n (without c g))))
]

pub rising_pick : {X : Type 0} (n c : ℕ) (g : ℕ → List X) → c < n → IsPermutation (rising n g) (g c ++ rising n (without c g))
unfolding rising
rising_pick zero c g h = absurd (omega arith)
rising_pick {X} (suc n) c g h = elim (cases_eq c n) [
  | inl e ↦
      let a = rising_above n c g (omega arith) in
      let z = without_here c g in
      let w : rising n (without c g) ++ without c g n ≡ rising n g = ap (λ (k : ℕ). rising n (without c g) ++ without c g k) (sym e) ∙ ap (λ (l : List X). rising n (without c g) ++ l) z ∙ append-nil (rising n (without c g)) ∙ a in
      subst (λ (l : List X). IsPermutation (rising n g ++ g n) (g c ++ l)) (sym w) (subst (λ (k : ℕ). IsPermutation (rising n g ++ g k) (g c ++ rising n g)) e (IsPermutation-append_comm (rising n g) (g c)))
  | inr e ↦
      let ih = rising_pick n c g (omega arith) in
      let w = without_there c n g e in
      subst (λ (l : List X). IsPermutation (rising n g ++ g n) (g c ++ (rising n (without c g) ++ l))) (sym w)
      (subst (λ (l : List X). IsPermutation (rising n g ++ g n) l) (append_assoc (g c) (rising n (without c g)) (g n))
      (IsPermutation-append_left (g n) (rising n g) (g c ++ rising n (without c g)) ih))
]

-- ---- one place of a tree

module _ {V X : Type 0} (f : Tree V → List X) (near : Local f) where
  -- what is gathered below child bit b
  abbrev kid : ℕ → Tree V → ℕ → List X
  kid d t b = cond (t.has (b ∷ [])) (collect d f (below t b)) []

  kid_there : (d : ℕ) (t : Tree V) (b : ℕ) → t.has (b ∷ []) ≡ true → kid d t b ≡ collect d f (below t b)
  kid_there d t b h = ap (λ (x : Bool). cond x (collect d f (below t b)) []) h

  kid_none : (d : ℕ) (t : Tree V) (b : ℕ) → t.has (b ∷ []) ≡ false → kid d t b ≡ []
  kid_none d t b h = ap (λ (x : Bool). cond x (collect d f (below t b)) []) h

  kid_same : (d : ℕ) (s t : Tree V) (b : ℕ) → s.has (b ∷ []) ≡ t.has (b ∷ []) → below s b ≡ below t b → kid d s b ≡ kid d t b
  kid_same d s t b h e = ap (λ (x : Bool). cond x (collect d f (below s b)) []) h ∙ ap (λ (u : Tree V). cond (t.has (b ∷ [])) (collect d f u) []) e

  -- the part of a tree at p stands in front of the rest, which is the same for each tree that agrees away from p
  pub spread : (p : Path) (d : ℕ) (t : Tree V) → On d t p → (rest : List X) × ((s : Tree V) → Away p t s → IsPermutation (collect d f s) (collect (left d p) f (sub s p) ++ rest))
  unfolding collect
  spread [] d t on = ([], λ s a. shuffled_is (collect d f s) (collect d f s ++ []) (sym (append-nil (collect d f s))))
  spread (c ∷ p) zero t on = absurd on
  spread (c ∷ p) (suc d) t on =
      let ih = spread p d (below t c) on.2 in
      let r : List X = ih.0 in
      let o : List X = falling 32 (without c (kid d t)) in (
        f t ++ (r ++ o),
        λ s a.
            let y : List X = collect (left d p) f (sub (below s c) p) in
            let e : f s ≡ f t = sym (near t s a.0 a.1) in
            let k : kid d s c ≡ collect d f (below s c) = kid_there d s c (sym (a.1 c) ∙ on.1) in
            let w : without c (kid d s) ≡ without c (kid d t) = without_agree c (kid d s) (kid d t) (λ b n. kid_same d s t b (sym (a.1 b)) (sym (a.2 b n))) in
            let one : IsPermutation (falling 32 (kid d s)) (kid d s c ++ falling 32 (without c (kid d s))) = falling_pick 32 c (kid d s) on.0 in
            let two : IsPermutation (falling 32 (kid d s)) (collect d f (below s c) ++ o) = subst (λ (l : List X). IsPermutation (falling 32 (kid d s)) (l ++ o)) k (subst (λ (g : ℕ → List X). IsPermutation (falling 32 (kid d s)) (kid d s c ++ falling 32 g)) w one) in
            let three : IsPermutation (collect d f (below s c) ++ o) ((y ++ r) ++ o) = IsPermutation-append_left o (collect d f (below s c)) (y ++ r) (ih.1 (below s c) a.3) in
            let four : IsPermutation (falling 32 (kid d s)) (y ++ (r ++ o)) = subst (λ (l : List X). IsPermutation (falling 32 (kid d s)) l) (append_assoc y r o) (IsPermutation-trans (falling 32 (kid d s)) (collect d f (below s c) ++ o) ((y ++ r) ++ o) two three) in
            let five : IsPermutation (f s ++ falling 32 (kid d s)) (f t ++ (y ++ (r ++ o))) = subst (λ (l : List X). IsPermutation (f s ++ falling 32 (kid d s)) (l ++ (y ++ (r ++ o)))) e (IsPermutation-append_right (f s) (falling 32 (kid d s)) (y ++ (r ++ o)) four) in
            IsPermutation-trans (f s ++ falling 32 (kid d s)) (f t ++ (y ++ (r ++ o))) (y ++ (f t ++ (r ++ o))) five (shuffled_front (f t) y (r ++ o)),
      )

  away_refl : (p : Path) (t : Tree V) → Away p t t
  away_refl [] t = tt
  away_refl (c ∷ p) t = (refl, λ b. refl, λ b n. refl, away_refl p (below t c))

  -- a node alone: its own part and what hangs below it
  apart : (d : ℕ) (s t : Tree V) → ValuesDiffer s t → Exchanged (collect d f s) (f s) (collect d f t) (f t)
  unfolding collect
  apart zero s t h = record { rest = []; first = shuffled_is (f s) (f s ++ []) (sym (append-nil (f s))); second = shuffled_is (f t) (f t ++ []) (sym (append-nil (f t))) }
  apart (suc d) s t h =
      let e : kid d s ≡ kid d t = fun_ext (λ b. kid_same d s t b (h.children b) (h.same b)) in
      record {
        rest = falling 32 (kid d s);
        first = IsPermutation-refl (f s ++ falling 32 (kid d s));
        second = shuffled_is (f t ++ falling 32 (kid d t)) (f t ++ falling 32 (kid d s)) (ap (λ (g : ℕ → List X). f t ++ falling 32 g) (sym e));
      }

  -- the same below p
  within : (d : ℕ) (s t : Tree V) (p : Path) → On d s p → Away p s t → (m n : List X) → Exchanged (collect (left d p) f (sub s p)) m (collect (left d p) f (sub t p)) n → Exchanged (collect d f s) m (collect d f t) n
  within d s t p on a m n h =
      let q = spread p d s on in
      let u : List X = collect (left d p) f (sub s p) in
      let v : List X = collect (left d p) f (sub t p) in
      let r : List X = q.0 in
      let l : List X = h.rest in
      record {
        rest = l ++ r;
        first = subst (λ (x : List X). IsPermutation (collect d f s) x) (append_assoc m l r) (IsPermutation-trans (collect d f s) (u ++ r) ((m ++ l) ++ r) (q.1 s (away_refl p s)) (IsPermutation-append_left r u (m ++ l) h.first));
        second = subst (λ (x : List X). IsPermutation (collect d f t) x) (append_assoc n l r) (IsPermutation-trans (collect d f t) (v ++ r) ((n ++ l) ++ r) (q.1 t a) (IsPermutation-append_left r v (n ++ l) h.second));
      }

  pub changed : (d : ℕ) (s t : Tree V) (p : Path) → On d s p → Away p s t → ValuesDiffer (sub s p) (sub t p) → Exchanged (collect d f s) (f (sub s p)) (collect d f t) (f (sub t p))
  changed d s t p on a h = within d s t p on a (f (sub s p)) (f (sub t p)) (apart (left d p) (sub s p) (sub t p) h)
      -- a leaf has nothing below it

  alone : (d : ℕ) (t : Tree V) → ((c : ℕ) → c < 32 → t.has (c ∷ []) ≡ false) → collect d f t ≡ f t
  unfolding collect
  alone zero t h = refl
  alone (suc d) t h = ap (λ (l : List X). f t ++ l) (falling_none 32 (kid d t) (λ b l. kid_none d t b (h b l))) ∙ append-nil (f t)

  hung : (d : ℕ) (s t : Tree V) (b : ℕ) → b < 32 → LeafMore b s t → Exchanged (collect (suc d) f s) (f s) (collect (suc d) f t) (f t ++ f (below t b))
  unfolding collect
  hung d s t b lt h =
      let o : List X = falling 32 (without b (kid d s)) in
      let w : without b (kid d t) ≡ without b (kid d s) = without_agree b (kid d t) (kid d s) (λ c n. sym (kid_same d s t c (h.children c n) (h.same c n))) in
      let k : kid d t b ≡ f (below t b) = kid_there d t b h.present ∙ alone d (below t b) h.alone in
      let one : IsPermutation (falling 32 (kid d t)) (f (below t b) ++ o) = subst (λ (l : List X). IsPermutation (falling 32 (kid d t)) (l ++ o)) k (subst (λ (g : ℕ → List X). IsPermutation (falling 32 (kid d t)) (kid d t b ++ falling 32 g)) w (falling_pick 32 b (kid d t) lt)) in
      let two : IsPermutation (falling 32 (kid d s)) o = subst (λ (l : List X). IsPermutation (falling 32 (kid d s)) (l ++ o)) (kid_none d s b h.absent) (falling_pick 32 b (kid d s) lt) in
      record {
        rest = o;
        first = IsPermutation-append_right (f s) (falling 32 (kid d s)) o two;
        second = subst (λ (l : List X). IsPermutation (f t ++ falling 32 (kid d t)) l) (sym (append_assoc (f t) (f (below t b)) o)) (IsPermutation-append_right (f t) (falling 32 (kid d t)) (f (below t b) ++ o) one);
      }

  pub leaf : (d k : ℕ) (s t : Tree V) (p : Path) (b : ℕ) → On d s p → left d p ≡ suc k → b < 32 → Away p s t → LeafMore b (sub s p) (sub t p) → Exchanged (collect d f s) (f (sub s p)) (collect d f t) (f (sub t p) ++ f (below (sub t p) b))
  leaf d k s t p b on e lt a h =
      within d s t p on a (f (sub s p)) (f (sub t p) ++ f (below (sub t p) b))
      (subst (λ (j : ℕ). Exchanged (collect j f (sub s p)) (f (sub s p)) (collect j f (sub t p)) (f (sub t p) ++ f (below (sub t p) b))) (sym e) (hung k (sub s p) (sub t p) b lt h))
