-- A group taken, a group freed, a run changed within its group: each keeps the states that can be, and the counts of groups.
use Rattle.std.proofs.Common.{◌≡◌, ℕ, ◌+◌, ◌<◌, ◌≤◌, true, cond, ◌||◌, eqb, leb, List, [], ◌∷◌, length, sym, refl, ap, ◌∙◌, inl, inr, arith}
use Rattle.std.proofs.lemmas.Bool.{cases_eq, leb-true}
use Rattle.runs.specs.Lists.{at}
use Rattle.runs.specs.Sizes.{size, capacities, one, times}
use Rattle.tiered_model.specs.Tiered.{State, fresh, first_free, has_free, held_from, ended, kept}
use Rattle.tiered_model.specs.Groups.{of_size, weigh, standing_in, standing, groups, Valid, Most}
use Rattle.runs.proofs.Counts.{put_both, put_same, put_other, tally_put, tally_none}
use Rattle.runs.proofs.Sizes.{one_same, one_other, size_room}
use Rattle.tiered_model.proofs.Weights.{weigh_same, weigh_plus, weigh_none, size_weigh}

none_of : {E : Type 0} (xs : List E) → length xs < 1 → xs ≡ []
none_of [] h = refl
none_of (x ∷ xs) h = absurd (omega arith)

pub gone : {E : Type 0} (f : ℕ → List E) (i j : ℕ) → f j ≡ [] → at f i [] j ≡ []
gone f i j e = put_both f i [] j (λ x. x ≡ []) (λ _. refl) (λ _. e)

of_size_is : {E : Type 0} (longest w : ℕ) (xs : List E) → 1 ≤ length xs → of_size longest w xs ≡ one (size longest (length xs)) w
of_size_is longest w [] h = absurd (omega arith)
of_size_is longest w (x ∷ xs) h = refl

pub fresh_valid : {E : Type 0} (longest cells : ℕ) → cells ≤ 16777216 → Valid {E = E} longest (fresh cells)
fresh_valid {E} longest cells h = record {
  made = λ _. 0;
  within = h;
  enough = omega arith;
  inside = λ i l. absurd (omega arith);
  apart = λ i j l a b. absurd (omega arith);
  short = λ i. omega arith;
  living = λ i l. absurd (omega arith);
  freed = λ z i l. absurd (omega arith);
  once = λ z i. omega arith;
  tiles = sym (weigh_none (capacities longest) (groups {E = E} longest (fresh cells)) (λ w. omega (arith, tally_none {E = E} (of_size longest w) 16777216 refl)));
}

module _ {E : Type 0} (longest : ℕ) (s : State E) (v : Valid longest s) where
  -- where a group can be, and that a freed or an unclaimed one holds no run
  pub live_inside : (i : ℕ) → 31 ≤ longest → longest ≤ 32 → 1 ≤ length (s.live i) → (1 ≤ v.made i) × (i + v.made i ≤ s.claimed)
  live_inside i a b h =
      let r : length (s.live i) ≤ size longest (length (s.live i)) = size_room longest (length (s.live i)) a b h (v.short i) in
      let m : 1 ≤ v.made i = omega (arith, v.living i h) in
      (m, v.inside i m)

  pub low : (i : ℕ) → 31 ≤ longest → longest ≤ 32 → s.claimed ≤ i → s.live i ≡ []
  low i a b h = elim (cases_eq (length (s.live i)) 0) [
    | inl e ↦ none_of (s.live i) (omega arith)
    | inr ne ↦ absurd (let p = live_inside i a b (omega arith) in omega (arith, p.0, p.1))
  ]

  times_head : (y f : ℕ) (fs : List ℕ) → s.free y ≡ f ∷ fs → (i : ℕ) → times i (s.free y) ≡ one f i + times i fs
  times_head y f fs e i = ap (times i) e

  pub group_free : (y : ℕ) (fs : List ℕ) → s.free y ≡ fs → 31 ≤ longest → longest ≤ 32 → s.live (first_free fs s.claimed) ≡ []
  group_free y [] e a b = low s.claimed a b (omega arith)
  group_free y (f ∷ fs) e a b = (v.freed y f (omega (arith, times_head y f fs e f, one_same f))).2

  pub group_low : (y : ℕ) (fs : List ℕ) → s.free y ≡ fs → 1 ≤ y → (has_free fs || leb (s.claimed + y) s.cells) ≡ true → first_free fs s.claimed < 16777216
  group_low y [] e l h = omega (arith, leb-true (s.claimed + y) s.cells h, v.within)
  group_low y (f ∷ fs) e l h =
      let p = v.freed y f (omega (arith, times_head y f fs e f, one_same f)) in
      omega (arith, p.0, p.1, v.inside f (omega (arith, p.0, p.1)), v.enough, v.within)

-- ---- the counts

pub standing_new : {E : Type 0} (longest : ℕ) (f : ℕ → List E) (g y : ℕ) (ys : List E) (w : ℕ) → g < 16777216 → f g ≡ [] → 1 ≤ length ys → size longest (length ys) ≡ y
    → standing_in longest (at f g ys) w ≡ standing_in longest f w + one y w
standing_new longest f g y ys w l e h z =
    omega (arith, tally_put (of_size longest w) f g ys 16777216 l, ap (of_size longest w) e, of_size_is longest w ys h, ap (λ (k : ℕ). one k w) z)

pub standing_end : {E : Type 0} (longest : ℕ) (f : ℕ → List E) (i z : ℕ) (w : ℕ) → i < 16777216 → 1 ≤ length (f i) → size longest (length (f i)) ≡ z
    → standing_in longest (at f i []) w + one z w ≡ standing_in longest f w
standing_end longest f i z w l h e =
    omega (arith, tally_put (of_size longest w) f i [] 16777216 l, of_size_is longest w (f i) h, ap (λ (k : ℕ). one k w) e)

pub standing_kept : {E : Type 0} (longest : ℕ) (f : ℕ → List E) (i : ℕ) (ys : List E) (w : ℕ) → i < 16777216 → 1 ≤ length (f i) → 1 ≤ length ys → size longest (length (f i)) ≡ size longest (length ys)
    → standing_in longest (at f i ys) w ≡ standing_in longest f w
standing_kept longest f i ys w l h k e =
    omega (arith, tally_put (of_size longest w) f i ys 16777216 l, of_size_is longest w (f i) h, of_size_is longest w ys k, ap (λ (k : ℕ). one k w) e)

module _ {E : Type 0} (longest : ℕ) (s : State E) (v : Valid longest s) (la : 31 ≤ longest) (lb : longest ≤ 32) where
  module _ (y : ℕ) (ys : List E) (h : 1 ≤ length ys) (hl : length ys ≤ longest) (hy : size longest (length ys) ≡ y) where
    big : 1 ≤ y
    big = omega (arith, size_room longest (length ys) la lb h hl)

    pub held_standing : (fs : List ℕ) → s.free y ≡ fs → (has_free fs || leb (s.claimed + y) s.cells) ≡ true
        → (w : ℕ) → standing longest (held_from s fs y ys) w ≡ standing longest s w + one y w
    held_standing fs e t w = standing_new longest s.live (first_free fs s.claimed) y ys w (group_low longest s v y fs e big t) (group_free longest s v y fs e la lb) h hy

    -- a new group is made exactly where none is free
    pub held_new : s.free y ≡ [] → (has_free [] || leb (s.claimed + y) s.cells) ≡ true
        → (w : ℕ) → groups longest (held_from s [] y ys) w ≡ groups longest s w + one y w
    held_new e t w =
        let p : length (at s.free y [] w) ≡ length (s.free w) = put_both s.free y [] w (λ l. length l ≡ length (s.free w)) (λ q. sym (ap length (ap s.free q ∙ e))) (λ q. refl) in
        omega (arith, held_standing [] e t w, p)

    pub held_old : (f : ℕ) (fs : List ℕ) → s.free y ≡ f ∷ fs → (has_free (f ∷ fs) || leb (s.claimed + y) s.cells) ≡ true
        → (w : ℕ) → groups longest (held_from s (f ∷ fs) y ys) w ≡ groups longest s w
    held_old f fs e t w =
        let p : length (at s.free y fs w) + one y w ≡ length (s.free w) = put_both s.free y fs w (λ l. length l + one y w ≡ length (s.free w))
        (λ q. omega (arith, ap length (ap s.free q ∙ e), one_same y, ap (one y) q)) (λ q. omega (arith, one_other y w q)) in
        omega (arith, held_standing (f ∷ fs) e t w, p)

    put_live : (i : ℕ) → (i ≡ s.claimed → ⊥) → 1 ≤ length (at s.live s.claimed ys i) → cond (eqb i s.claimed) y (v.made i) ≡ size longest (length (at s.live s.claimed ys i))
    put_live i q = rw (put_other s.live s.claimed i ys q, put_other v.made s.claimed i y q) (v.living i)

    pub held_valid : (fs : List ℕ) → s.free y ≡ fs → (has_free fs || leb (s.claimed + y) s.cells) ≡ true → Valid longest (held_from s fs y ys)
    held_valid [] e t =
        let room : s.claimed + y ≤ s.cells = leb-true (s.claimed + y) s.cells t in
        record {
          made = λ i. cond (eqb i s.claimed) y (v.made i);
          within = v.within;
          enough = room;
          inside = λ i. put_both v.made s.claimed y i (λ m. 1 ≤ m → i + m ≤ s.claimed + y) (λ q l. omega arith) (λ q l. omega (arith, v.inside i l));
          apart = λ i j ij. put_both v.made s.claimed y i (λ m. 1 ≤ m → 1 ≤ cond (eqb j s.claimed) y (v.made j) → i + m ≤ j)
              (λ q l k. absurd (let n : cond (eqb j s.claimed) y (v.made j) ≡ v.made j = put_other v.made s.claimed j y (λ r. omega arith) in omega (arith, v.inside j (omega (arith, n)))))
              (λ q l. put_both v.made s.claimed y j (λ m. 1 ≤ m → i + v.made i ≤ j) (λ r k. omega (arith, v.inside i l)) (λ r k. v.apart i j ij l k));
          short = λ i. put_both s.live s.claimed ys i (λ x. length x ≤ longest) (λ q. hl) (λ q. v.short i);
          living = λ i. elim (cases_eq i s.claimed) [
            | inl q ↦ λ l. let m : cond (eqb i s.claimed) y (v.made i) ≡ y = ap (λ (k : ℕ). cond (eqb k s.claimed) y (v.made k)) q ∙ put_same v.made s.claimed y in
                let x : at s.live s.claimed ys i ≡ ys = ap (at s.live s.claimed ys) q ∙ put_same s.live s.claimed ys in
                m ∙ sym hy ∙ ap (λ (k : List E). size longest (length k)) (sym x)
            | inr q ↦ put_live i q
          ];
          freed = λ z i. put_both s.free y [] z (λ l. 1 ≤ times i l → (1 ≤ z) × (cond (eqb i s.claimed) y (v.made i) ≡ z) × (at s.live s.claimed ys i ≡ []))
              (λ q l. absurd (omega arith))
              (λ q l. let p = v.freed z i l in
              let ne : i ≡ s.claimed → ⊥ = λ r. omega (arith, p.0, p.1, v.inside i (omega (arith, p.0, p.1))) in
              (p.0, put_other v.made s.claimed i y ne ∙ p.1, put_other s.live s.claimed i ys ne ∙ p.2));
          once = λ z i. put_both s.free y [] z (λ l. times i l ≤ 1) (λ q. omega arith) (λ q. v.once z i);
          tiles = omega (arith, v.tiles, weigh_plus (capacities longest) (groups longest s) (one y) (groups longest (held_from s [] y ys)) (held_new e t), size_weigh longest (length ys) la lb h hl, ap (λ (k : ℕ). weigh (capacities longest) (one k)) hy);
        }
    held_valid (f ∷ fs) e t =
        let pf = v.freed y f (omega (arith, times_head longest s v y f fs e f, one_same f)) in
        record {
          made = v.made;
          within = v.within;
          enough = v.enough;
          inside = v.inside;
          apart = v.apart;
          short = λ i. put_both s.live f ys i (λ x. length x ≤ longest) (λ q. hl) (λ q. v.short i);
          living = λ i. put_both s.live f ys i (λ x. 1 ≤ length x → v.made i ≡ size longest (length x)) (λ q l. ap v.made q ∙ pf.1 ∙ sym hy) (λ q. v.living i);
          freed = λ z i. put_both s.free y fs z (λ l. 1 ≤ times i l → (1 ≤ z) × (v.made i ≡ z) × (at s.live f ys i ≡ []))
              (λ q l. let p = v.freed y i (omega (arith, times_head longest s v y f fs e i)) in
              let ne : i ≡ f → ⊥ = λ r. omega (arith, ap (λ (k : ℕ). times k fs) r, times_head longest s v y f fs e f, v.once y f, one_same f) in
              (omega (arith, p.0), p.1 ∙ sym q, put_other s.live f i ys ne ∙ p.2))
              (λ q l. let p = v.freed z i l in
              let ne : i ≡ f → ⊥ = λ r. q (sym p.1 ∙ ap v.made r ∙ pf.1) in
              (p.0, p.1, put_other s.live f i ys ne ∙ p.2));
          once = λ z i. put_both s.free y fs z (λ l. times i l ≤ 1) (λ q. omega (arith, times_head longest s v y f fs e i, v.once y i)) (λ q. v.once z i);
          tiles = v.tiles ∙ sym (weigh_same (capacities longest) (groups longest s) (groups longest (held_from s (f ∷ fs) y ys)) (held_old f fs e t));
        }

    pub held_most : (fs : List ℕ) → s.free y ≡ fs → (has_free fs || leb (s.claimed + y) s.cells) ≡ true → Most longest s (held_from s fs y ys)
    held_most [] e t w = elim (cases_eq w y) [
      | inl q ↦ omega (arith, held_new e t w, held_standing [] e t w, ap length (ap s.free q ∙ e))
      | inr q ↦ omega (arith, held_new e t w, held_standing [] e t w, one_other y w q)
    ]
    held_most (f ∷ fs) e t w = elim (cases_eq w y) [
      | inl q ↦ omega (arith, held_old f fs e t w, held_standing (f ∷ fs) e t w, ap length (ap s.free q ∙ e), one_same y, ap (one y) q)
      | inr q ↦ omega (arith, held_old f fs e t w, held_standing (f ∷ fs) e t w, one_other y w q)
    ]

  module _ (i : ℕ) (h : 1 ≤ length (s.live i)) where
    pub live_low : i < 16777216
    live_low = let p = live_inside longest s v i la lb h in omega (arith, p.0, p.1, v.enough, v.within)

    lives : s.live i ≡ [] → ⊥
    lives e = omega (arith, ap length e)

    pub ended_standing : (z : ℕ) → size longest (length (s.live i)) ≡ z → (w : ℕ) → standing longest (ended s z i) w + one z w ≡ standing longest s w
    ended_standing z hz w = standing_end longest s.live i z w live_low h hz

    pub ended_groups : (z : ℕ) → size longest (length (s.live i)) ≡ z → (w : ℕ) → groups longest (ended s z i) w ≡ groups longest s w
    ended_groups z hz w =
        let p : length (at s.free z (i ∷ s.free z) w) ≡ length (s.free w) + one z w = put_both s.free z (i ∷ s.free z) w (λ l. length l ≡ length (s.free w) + one z w)
        (λ q. omega (arith, ap (λ (k : ℕ). length (s.free k)) q, one_same z, ap (one z) q)) (λ q. omega (arith, one_other z w q)) in
        omega (arith, ended_standing z hz w, p)

    pub ended_valid : (z : ℕ) → size longest (length (s.live i)) ≡ z → Valid longest (ended s z i)
    ended_valid z hz =
        let m : v.made i ≡ z = v.living i h ∙ hz in
        let k : 1 ≤ z = omega (arith, (live_inside longest s v i la lb h).0) in
        record {
          made = v.made;
          within = v.within;
          enough = v.enough;
          inside = v.inside;
          apart = v.apart;
          short = λ j. put_both s.live i [] j (λ x. length x ≤ longest) (λ q. omega arith) (λ q. v.short j);
          living = λ j. put_both s.live i [] j (λ x. 1 ≤ length x → v.made j ≡ size longest (length x)) (λ q l. absurd (omega arith)) (λ q. v.living j);
          freed = λ w j. put_both s.free z (i ∷ s.free z) w (λ l. 1 ≤ times j l → (1 ≤ w) × (v.made j ≡ w) × (at s.live i [] j ≡ []))
              (λ q l. elim (cases_eq j i) [
                | inl r ↦ (omega arith, ap v.made r ∙ m ∙ sym q, ap (at s.live i []) r ∙ put_same s.live i [])
                | inr r ↦ let p = v.freed z j (omega (arith, one_other i j r)) in (omega arith, p.1 ∙ sym q, gone s.live i j p.2)
              ])
              (λ q l. let p = v.freed w j l in (p.0, p.1, gone s.live i j p.2));
          once = λ w j. put_both s.free z (i ∷ s.free z) w (λ l. times j l ≤ 1)
              (λ q. elim (cases_eq j i) [
                | inl r ↦ elim (cases_eq (times j (s.free z)) 0) [
                  | inl n ↦ put_both (λ (_ : ℕ). 0) i 1 j (λ x. x + times j (s.free z) ≤ 1) (λ _. omega arith) (λ _. omega arith)
                  | inr n ↦ absurd (lives (ap s.live (sym r) ∙ (v.freed z j (omega arith)).2))
                ]
                | inr r ↦ omega (arith, one_other i j r, v.once z j)
              ])
              (λ q. v.once w j);
          tiles = v.tiles ∙ sym (weigh_same (capacities longest) (groups longest s) (groups longest (ended s z i)) (ended_groups z hz));
        }

    module _ (ys : List E) (hy : 1 ≤ length ys) (hl : length ys ≤ longest) (e : size longest (length (s.live i)) ≡ size longest (length ys)) where
      pub kept_standing : (w : ℕ) → standing longest (kept s i ys) w ≡ standing longest s w
      kept_standing w = standing_kept longest s.live i ys w live_low h hy e

      pub kept_valid : Valid longest (kept s i ys)
      kept_valid = record {
        made = v.made;
        within = v.within;
        enough = v.enough;
        inside = v.inside;
        apart = v.apart;
        short = λ j. put_both s.live i ys j (λ x. length x ≤ longest) (λ q. hl) (λ q. v.short j);
        living = λ j. put_both s.live i ys j (λ x. 1 ≤ length x → v.made j ≡ size longest (length x)) (λ q l. ap v.made q ∙ v.living i h ∙ e) (λ q. v.living j);
        freed = λ w j l. let p = v.freed w j l in (p.0, p.1, put_other s.live i j ys (λ r. lives (ap s.live (sym r) ∙ p.2)) ∙ p.2);
        once = v.once;
        tiles = v.tiles ∙ sym (weigh_same (capacities longest) (groups longest s) (groups longest (kept s i ys)) (λ w. omega (arith, kept_standing w)));
      }

      pub kept_most : Most longest s (kept s i ys)
      kept_most w = omega (arith, kept_standing w)

    pub ended_most : (z : ℕ) → size longest (length (s.live i)) ≡ z → Most longest s (ended s z i)
    ended_most z hz w = omega (arith, ended_groups z hz w, ended_standing z hz w)
