-- Steps of a call put together, on states alone.
use Rattle.std.proofs.Common.{◌≡◌, ℕ, ◌+◌, ◌-◌, ◌<◌, ◌≤◌, min, Bool, true, false, cond, eqb, leb, List, [], ◌∷◌, ◌++◌, length, take, drop, set, None, sym, refl, ap, ◌∙◌, subst, inl, inr, arith, length-append, length-drop}
use mathlib.Core.Path.{fun_ext}
use Rattle.std.proofs.lemmas.Bool.{cases_eq, cond-true, cond-false, eq-eqb, ne_eqb, lt-leb}
use Rattle.std.proofs.lemmas.List.{take_all, take-take, take_at, take-append-le, length-take-le}
use Rattle.runs.specs.Lists.{at, with_new, without}
use Rattle.runs.specs.Runs.{no_insert, no_remove, grows}
use Rattle.runs.specs.Sizes.{size}
use Rattle.tiered_model.specs.Tiered.{State, held, ended, kept, group, has, change, moved, moved_to, size_at, put, put_to, tiered, growth, shrinkage}
use Rattle.tiered_model.specs.Groups.{Valid}
use Rattle.runs.proofs.Counts.{put_both, put_same, put_other}
use Rattle.tiered_model.proofs.Taking.{group_free}
use Rattle.tiered_model.proofs.Asking.{none_else, grows_is, insert_told, remove_told}
use Rattle.tiered_model.proofs.Lawful.{length_with_new, length_without}
use Rattle.tiered_model.specs.Resizes.{Resized}
use Rattle.runs.specs.Refusals.{refusal}

with_live : {E : Type 0} (s : State E) (f g : ℕ → List E) → f ≡ g
    → ◌≡◌ {A = State E} (record { cells = s.cells; claimed = s.claimed; free = s.free; live = f }) (record { cells = s.cells; claimed = s.claimed; free = s.free; live = g })
with_live {E} s f g e = ap (λ (k : ℕ → List E). record { cells = s.cells; claimed = s.claimed; free = s.free; live = k }) e

at_at : {E : Type 0} (f : ℕ → List E) (i : ℕ) (xs ys : List E) → at (at f i xs) i ys ≡ at f i ys
at_at f i xs ys = fun_ext (λ j. elim (cases_eq j i) [
  | inl e ↦ ap (at (at f i xs) i ys) e ∙ put_same (at f i xs) i ys ∙ sym (ap (at f i ys) e ∙ put_same f i ys)
  | inr ne ↦ put_other (at f i xs) i j ys ne ∙ put_other f i j xs ne ∙ sym (put_other f i j ys ne)
])

-- two places set in either order
at_comm : {E : Type 0} (f : ℕ → List E) (i j : ℕ) (xs ys : List E) → (i ≡ j → ⊥) → at (at f i xs) j ys ≡ at (at f j ys) i xs
at_comm f i j xs ys ne = fun_ext (λ k. elim (cases_eq k j) [
  | inl e ↦
      let ki : k ≡ i → ⊥ = λ q. ne (sym q ∙ e) in
      ap (at (at f i xs) j ys) e ∙ put_same (at f i xs) j ys ∙ sym (put_other (at f j ys) i k xs ki ∙ ap (at f j ys) e ∙ put_same f j ys)
  | inr nk ↦ put_other (at f i xs) j k ys nk ∙ put_both f i xs k (λ x. x ≡ at (at f j ys) i xs k)
      (λ q. sym (ap (at (at f j ys) i xs) q ∙ put_same (at f j ys) i xs))
      (λ q. sym (put_other (at f j ys) i k xs q ∙ put_other f j k ys nk))
])

pub kept_other : {E : Type 0} (s t : State E) (i j : ℕ) (ys : List E) → t ≡ kept s j ys → (i ≡ j → ⊥) → t.live i ≡ s.live i
kept_other {E} s t i j ys e ne = ap (λ (u : State E). u.live i) e ∙ put_other s.live j i ys ne

pub kept_same : {E : Type 0} (s t : State E) (i : ℕ) (ys : List E) → t ≡ kept s i ys → t.live i ≡ ys
kept_same {E} s t i ys e = ap (λ (u : State E). u.live i) e ∙ put_same s.live i ys

pub change_grows : {E : Type 0} (longest : ℕ) (s : State E) (n : ℕ) → 1 ≤ n → growth longest s n ≡ None → change s (size longest n) (size longest (n + 1)) ≡ None
change_grows longest s n l e = sym (cond-false (eqb n 0) _ _ (ne_eqb n 0 (λ q. omega arith))) ∙ e

pub change_shrinks : {E : Type 0} (longest : ℕ) (s : State E) (n : ℕ) → 1 < n → shrinkage longest s n ≡ None → change s (size longest n) (size longest (n - 1)) ≡ None
change_shrinks longest s n l e = sym (cond-false (leb n 1) _ _ (lt-leb n 1 l)) ∙ e

pub open_may : {E : Type 0} (longest : ℕ) (s : State E) → 1 ≤ longest → grows (tiered longest) s 0 ≡ None → has s 1 ≡ true
open_may longest s l e = (none_else (has s 1) (refusal 23 (0 ∷ [])) None (sym (grows_is longest s 0 l) ∙ e)).0

set_one : {E : Type 0} (xs : List E) (e : E) → length xs ≡ 1 → set xs 0 e ≡ e ∷ []
set_one [] e h = absurd (omega arith)
set_one (x ∷ []) e h = refl
set_one (x ∷ y ∷ xs) e h = absurd (omega arith)

pub held_live : {E : Type 0} (s t : State E) (y g : ℕ) (xs : List E) → g ≡ group s y → t ≡ held s y xs → t.live g ≡ xs
held_live {E} s t y g xs eg e = ap (λ (u : State E). u.live g) e ∙ ap (at s.live (group s y) xs) eg ∙ put_same s.live (group s y) xs

pub kept_kept : {E : Type 0} (s : State E) (i : ℕ) (xs ys : List E) → kept (kept s i xs) i ys ≡ kept s i ys
kept_kept s i xs ys = with_live s (at (at s.live i xs) i ys) (at s.live i ys) (at_at s.live i xs ys)

pub held_kept : {E : Type 0} (s : State E) (y : ℕ) (xs ys : List E) → kept (held s y xs) (group s y) ys ≡ held s y ys
held_kept s y xs ys = with_live (held s y xs) (at (at s.live (group s y) xs) (group s y) ys) (at s.live (group s y) ys) (at_at s.live (group s y) xs ys)

pub opened_all : {E : Type 0} (s t u : State E) (g : ℕ) (xs : List E) (e : E) → g ≡ group s 1 → length xs ≡ 1 → t ≡ held s 1 xs → u ≡ kept t g (set (t.live g) 0 e) → u ≡ held s 1 (e ∷ [])
opened_all {E} s t u g xs e eg lx et eu =
    eu ∙ ap (λ (ys : List E). kept t g (set ys 0 e)) (held_live s t 1 g xs eg et) ∙ ap (λ (ys : List E). kept t g ys) (set_one xs e lx)
    ∙ ap (λ (v : State E). kept v g (e ∷ [])) et ∙ ap (λ (j : ℕ). kept (held s 1 xs) j (e ∷ [])) eg ∙ held_kept s 1 xs (e ∷ [])

ended_kept : {E : Type 0} (s : State E) (z i g : ℕ) (ys : List E) → (i ≡ g → ⊥) → kept (ended s z i) g ys ≡ ended (kept s g ys) z i
ended_kept s z i g ys ne = with_live (ended s z i) (at (at s.live i []) g ys) (at (at s.live g ys) i []) (at_comm s.live i g [] ys ne)

module _ {E : Type 0} (longest : ℕ) (la : 31 ≤ longest) (lb : longest ≤ 32) (S : State E) (v : Valid longest S) (i n : ℕ) (h : length (S.live i) ≡ n) (hn : 1 ≤ n) where
  -- a group that is taken is not the run's own
  pub away : (y : ℕ) → i ≡ group S y → ⊥
  away y q = omega (arith, ap length (ap S.live q ∙ group_free longest S v y (S.free y) refl la lb))

  pub taken : (y g : ℕ) (S1 : State E) (xs : List E) → g ≡ group S y → S1 ≡ held S y xs → (S1.live i ≡ S.live i) × (S1.live g ≡ xs) × (i ≡ g → ⊥)
  taken y g S1 xs eg e = (
    ap (λ (t : State E). t.live i) e ∙ put_other S.live (group S y) i xs (away y),
    held_live S S1 y g xs eg e,
    λ q. away y (q ∙ eg),
  )

  pub put_here : (ys : List E) → size longest n ≡ size longest (length ys) → put longest S i ys ≡ kept S i ys
  put_here ys e = cond-true (eqb (size_at longest S i) (size longest (length ys))) _ _ (eq-eqb _ _ (ap (size longest) h ∙ e))

  pub put_away : (ys : List E) → (size longest n ≡ size longest (length ys) → ⊥) → put longest S i ys ≡ ended (held S (size longest (length ys)) ys) (size longest n) i
  put_away ys ne =
      cond-false (eqb (size_at longest S i) (size longest (length ys))) _ _ (ne_eqb _ _ (λ q. ne (sym (ap (size longest) h) ∙ q)))
      ∙ ap (λ (k : ℕ). ended (held S (size longest (length ys)) ys) (size longest k) i) h

  -- the run put where it goes can be written there
  pub put_kept : (xs ys : List E) → length xs ≡ length ys → kept (put longest S i xs) (put_to longest S i xs) ys ≡ put longest S i ys
  put_kept xs ys e =
      subst (λ (m : ℕ). kept (moved S i (size_at longest S i) (size longest m) xs) (moved_to S i (size_at longest S i) (size longest m)) ys ≡ put longest S i ys) (sym e)
      (by (size longest (length ys)) (size_at longest S i) (eqb (size_at longest S i) (size longest (length ys))))
    where
      by : (y z : ℕ) (b : Bool) → kept (cond b (kept S i xs) (ended (held S y xs) z i)) (cond b i (group S y)) ys ≡ cond b (kept S i ys) (ended (held S y ys) z i)
      by y z true = kept_kept S i xs ys
      by y z false = ended_kept (held S y xs) z i (group S y) ys (away y) ∙ ap (λ (t : State E). ended t z i) (held_kept S y xs ys)

  -- a run written before it goes elsewhere
  pub kept_put : (xs ys : List E) → length xs ≡ n → put longest (kept S i xs) i ys ≡ put longest S i ys
  kept_put xs ys e =
      let z : size_at longest (kept S i xs) i ≡ size_at longest S i = ap (λ (k : List E). size longest (length k)) (put_same S.live i xs) ∙ ap (size longest) (e ∙ sym h) in
      ap (λ (k : ℕ). moved (kept S i xs) i k (size longest (length ys)) ys) z ∙ by (size longest (length ys)) (size_at longest S i) (eqb (size_at longest S i) (size longest (length ys)))
    where
      by : (y z : ℕ) (b : Bool) → cond b (kept (kept S i xs) i ys) (ended (held (kept S i xs) y ys) z i) ≡ cond b (kept S i ys) (ended (held S y ys) z i)
      by y z true = kept_kept S i xs ys
      by y z false = with_live (ended (held S y ys) z i) (at (at (at S.live i xs) (group S y) ys) i []) (at (at S.live (group S y) ys) i [])
          (ap (λ (f : ℕ → List E). at f i []) (at_comm S.live i (group S y) xs ys (away y)) ∙ at_at (at S.live (group S y) ys) i xs [])

  module _ (m : ℕ) (hm : 1 ≤ m) (hl : m ≤ longest) where
    pub resized_here : (T : State E) (ys : List E) → size longest n ≡ size longest m → length ys ≡ m → T ≡ kept S i ys → ((k : ℕ) → k ≤ n → k ≤ m → take k ys ≡ take k (S.live i)) → Resized longest S i m i T
    resized_here T ys z ly e f =
        let l : T.live i ≡ ys = ap (λ (t : State E). t.live i) e ∙ put_same S.live i ys in
        record {
          place = sym (cond-true (eqb (size_at longest S i) (size longest m)) _ _ (eq-eqb _ _ (ap (size longest) h ∙ z)));
          long = ap length l ∙ ly;
          after = e ∙ sym (put_here ys (z ∙ ap (size longest) (sym ly))) ∙ ap (put longest S i) (sym l);
          first = λ k a b. ap (λ (xs : List E). take k xs) l ∙ f k (omega arith) b;
        }

    pub resized_away : (g y z k : ℕ) (S1 S2 T : State E) (xs : List E) → y ≡ size longest m → z ≡ size longest n → (size longest n ≡ size longest m → ⊥) → g ≡ group S y → length xs ≡ m
        → S1 ≡ held S y xs → S2 ≡ kept S1 g (take k (S1.live i) ++ drop k (S1.live g)) → T ≡ ended S2 z i → k ≡ min n m → Resized longest S i m g T
    resized_away g y z k S1 S2 T xs ey ez ne eg lx e1 e2 e3 ek =
        let tk = taken y g S1 xs eg e1 in
        let aw : i ≡ g → ⊥ = tk.2 in
        let li : S1.live i ≡ S.live i = tk.0 in
        let lg : S1.live g ≡ xs = tk.1 in
        let ys : List E = take k (S1.live i) ++ drop k (S1.live g) in
        let lk : length (take k (S1.live i)) ≡ k = length-take-le k (S1.live i) (omega (arith, ap length li)) in
        let ly : length ys ≡ m = length-append (take k (S1.live i)) (drop k (S1.live g)) ∙ (omega (arith, length-drop k (S1.live g), ap length lg)) in
        let t2 : T.live g ≡ ys = ap (λ (t : State E). t.live g) e3 ∙ put_other S2.live i g [] (λ q. aw (sym q)) ∙ ap (λ (t : State E). t.live g) e2 ∙ put_same S1.live g ys in
        let s2 : S2 ≡ held S y ys =
        e2 ∙ ap (λ (t : State E). kept t g ys) e1 ∙ ap (λ (j : ℕ). kept (held S y xs) j ys) eg ∙ held_kept S y xs ys in
        let all : T ≡ put longest S i ys =
        e3 ∙ ap (λ (t : State E). ended t z i) s2 ∙ ap (λ (q : ℕ). ended (held S y ys) q i) ez ∙ ap (λ (q : ℕ). ended (held S q ys) (size longest n) i) (ey ∙ ap (size longest) (sym ly))
        ∙ sym (put_away ys (λ q. ne (q ∙ ap (size longest) ly))) in
        record {
          place = eg ∙ ap (group S) ey ∙ sym (cond-false (eqb (size_at longest S i) (size longest m)) _ _ (ne_eqb _ _ (λ q. ne (sym (ap (size longest) h) ∙ q))));
          long = ap length t2 ∙ ly;
          after = all ∙ ap (put longest S i) (sym t2);
          first = λ j a b.
              ap (λ (q : List E). take j q) t2 ∙ take-append-le j (take k (S1.live i)) (drop k (S1.live g)) (omega arith) ∙ take-take j k (S1.live i) (omega arith)
              ∙ ap (λ (q : List E). take j q) li;
        }

  module _ (k : ℕ) (e : E) (may : no_insert (tiered longest) S i k ≡ None) where
    pub insert_may : (k ≤ n) × (n < longest) × (change S (size longest n) (size longest (n + 1)) ≡ None)
    insert_may =
        let t = insert_told longest S i k may in
        (omega (arith, t.1), omega (arith, t.2), change_grows longest S n (omega arith) (ap (growth longest S) (sym h) ∙ t.3))

    pub inserted_all : (j : ℕ) (T U : State E) → Resized longest S i (n + 1) j T → U ≡ kept T j (with_new (take n (T.live j)) k e)
        → (U ≡ (tiered longest).inserted S i k e) × (j ≡ (tiered longest).inserted_at S i k e)
    inserted_all j T U rs eu =
        let ys : List E = with_new (S.live i) k e in
        let ly : length ys ≡ n + 1 = length_with_new (S.live i) k e (omega (arith, insert_may.0)) ∙ ap (λ (q : ℕ). q + 1) h in
        let same : take n (T.live j) ≡ S.live i = rs.first n (omega arith) (omega arith) ∙ take_all n (S.live i) (omega arith) in
        let to : j ≡ put_to longest S i (T.live j) = rs.place ∙ ap (λ (q : ℕ). moved_to S i (size_at longest S i) (size longest q)) (sym rs.long) in (
          eu ∙ ap (λ (xs : List E). kept T j (with_new xs k e)) same ∙ ap (λ (t : State E). kept t j ys) rs.after ∙ ap (λ (q : ℕ). kept (put longest S i (T.live j)) q ys) to
              ∙ put_kept (T.live j) ys (rs.long ∙ sym ly),
          rs.place ∙ ap (λ (q : ℕ). moved_to S i (size_at longest S i) (size longest q)) (sym ly),
        )

  module _ (k : ℕ) (may : no_remove (tiered longest) S i k ≡ None) where
    pub remove_slot : k < n
    remove_slot = omega (arith, (remove_told longest S i k may (v.short i)).0)

    pub remove_may : (n ≡ 1 → ⊥) → (U : State E) (xs : List E) → U ≡ kept S i xs → change U (size longest n) (size longest (n - 1)) ≡ None
    remove_may ne U xs e =
        ap (λ (t : State E). change t (size longest n) (size longest (n - 1))) e
        ∙ change_shrinks longest S n (omega (arith, ne, hn)) (ap (shrinkage longest S) (sym h) ∙ (remove_told longest S i k may (v.short i)).1)

    pub removed_end : n ≡ 1 → ((tiered longest).removed S i k ≡ ended S 1 i) × ((tiered longest).removed_at S i k ≡ 4294967295)
    removed_end o =
        let b : eqb (length (S.live i)) 1 ≡ true = eq-eqb (length (S.live i)) 1 (h ∙ o) in
        (cond-true (eqb (length (S.live i)) 1) _ _ b, cond-true (eqb (length (S.live i)) 1) _ _ b)

    pub closed_length : length (without (S.live i) k ++ drop (n - 1) (S.live i)) ≡ n
    closed_length =
        let a = length_without (S.live i) k (omega (arith, remove_slot)) in
        length-append (without (S.live i) k) (drop (n - 1) (S.live i)) ∙ (omega (arith, length-drop (n - 1) (S.live i)))

    pub removed_all : (n ≡ 1 → ⊥) → (j : ℕ) (U T : State E) → U ≡ kept S i (without (S.live i) k ++ drop (n - 1) (S.live i)) → Resized longest U i (n - 1) j T
        → (T ≡ (tiered longest).removed S i k) × (j ≡ (tiered longest).removed_at S i k)
    removed_all ne j U T eu rs =
        let ys : List E = without (S.live i) k in
        let zs : List E = ys ++ drop (n - 1) (S.live i) in
        let ly : length ys ≡ n - 1 = (let a = length_without (S.live i) k (omega (arith, remove_slot)) in omega arith) in
        let ui : U.live i ≡ zs = kept_same S U i zs eu in
        let tj : T.live j ≡ ys =
        sym (take_all (n - 1) (T.live j) (omega (arith, rs.long))) ∙ rs.first (n - 1) (omega (arith, ap length ui, closed_length)) (omega arith) ∙ ap (λ (xs : List E). take (n - 1) xs) ui
        ∙ take_at ys (drop (n - 1) (S.live i)) (n - 1) ly in
        let b : eqb (length (S.live i)) 1 ≡ false = ne_eqb (length (S.live i)) 1 (λ q. ne (sym h ∙ q)) in
        let z : size_at longest U i ≡ size_at longest S i = ap (λ (xs : List E). size longest (length xs)) ui ∙ ap (size longest) (closed_length ∙ sym h) in (
          rs.after ∙ ap (put longest U i) tj ∙ ap (λ (t : State E). put longest t i ys) eu ∙ kept_put zs ys closed_length ∙ sym (cond-false (eqb (length (S.live i)) 1) _ _ b),
          rs.place ∙ ap (λ (q : ℕ). moved_to U i q (size longest (n - 1))) z ∙ ap (λ (t : State E). moved_to t i (size_at longest S i) (size longest (n - 1))) eu
              ∙ ap (λ (q : ℕ). moved_to S i (size_at longest S i) (size longest q)) (sym ly) ∙ sym (cond-false (eqb (length (S.live i)) 1) _ _ b),
        )
