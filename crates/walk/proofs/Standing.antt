-- The stack: a node's children have room on it, and stand on it as what is below them asks.
use Rattle.std.proofs.Common.{◌≡◌, ℕ, zero, suc, ◌+◌, ◌-◌, ◌/◌, ◌<◌, ◌≤◌, List, [], ◌∷◌, ◌++◌, length, Some, sym, refl, ap, ◌∙◌, subst, inl, inr, length-append, arith}
use Rattle.bitmap.specs.Ranks.{bit, rank}
use Rattle.bitmap.proofs.Ranks.{cases_bit, bit_two, rank_strict}
use Rattle.runs.specs.declared.entry.NodeRow.{NodeRow}
use Rattle.runs.specs.declared.index.NodeIndex.{NodeIndex}
use Rattle.runs.proofs.Known.{le_known}
use Rattle.runs.specs.Lists.{nth}
use Rattle.table_model.specs.Table.{child}
use Rattle.trunk.specs.declared.spot.Place.{Place}
use Rattle.walk.specs.Places.{run_places}
use Rattle.walk.specs.Standing.{Below, Here, Standing}
use Rattle.table_model.proofs.Entries.{entry_set}
use Rattle.walk.proofs.Places.{length_run}
use Rattle.walk.proofs.Rising.{child_of}
use Rattle.walk.proofs.Below.{below_known, wider, child_below, some_level, own_children}

rank_low : (m n : ℕ) → rank m n ≤ n
unfolding rank
rank_low m zero = omega arith
rank_low m (suc n) = omega (arith, rank_low m n, bit_two m n)

-- where the rank is not 0 a bit is set
some_bit : (m n : ℕ) → 0 < rank m n → (b : ℕ) × (b < n) × (bit m b ≡ 1)
unfolding rank
some_bit m zero h = absurd (omega arith)
some_bit m (suc n) h = elim (cases_bit m n) [
  | inl z ↦ let x = some_bit m n (omega arith) in (x.0, omega (arith, x.1), x.2)
  | inr o ↦ (n, omega arith, o)
]

module _ {V : Type 0} (nodes : ℕ → List NodeRow) (vals : ℕ → List V) where
  here_known : {P : Type 0} (i : ℕ) (p : Place) → ∥ P ∥₁ → (P → Here nodes vals i p) → Here nodes vals i p
  here_known i p t f = record {
    low = le_known t (λ k. (f k).low);
    inside = le_known t (λ k. (f k).inside);
    below = λ r e. below_known nodes vals _ r t (λ k. (f k).below r e);
  }

  pub standing_known : {P : Type 0} (ps : List Place) → ∥ P ∥₁ → (P → Standing nodes vals ps) → Standing nodes vals ps
  unfolding Standing
  standing_known [] t f = tt
  standing_known (p ∷ ps) t f = (here_known (length ps) p t (λ k. (f k).0), standing_known ps t (λ k. (f k).1))

  pub standing_first : (ps qs : List Place) (p : Place) → ps ≡ p ∷ qs → Standing nodes vals ps → Here nodes vals (length qs) p
  unfolding Standing
  standing_first ps qs p e s = (subst (λ (xs : List Place). Standing nodes vals xs) e s).0

  pub standing_rest : (ps qs : List Place) (p : Place) → ps ≡ p ∷ qs → Standing nodes vals ps → Standing nodes vals qs
  unfolding Standing
  standing_rest ps qs p e s = (subst (λ (xs : List Place). Standing nodes vals xs) e s).1

  -- a row with e levels below it, popped at slot k off a stack
  module _ (e k : ℕ) (r : NodeRow) (b : Below nodes vals e r) (ps : List Place) (level : e ≡ (744 + k - length ps) / 31) (low : k < 32) (room : length ps ≤ 775) (a : NodeIndex) (same : a.number ≡ r.children_index) where
    pub has_room : length ps + rank r.child_bitmap 32 ≤ 776
    has_room = by_rank (rank r.child_bitmap 32) refl
      where
        by_rank : (j : ℕ) → rank r.child_bitmap 32 ≡ j → length ps + j ≤ 776
        by_rank zero q = omega arith
        by_rank (suc j) q =
            let x = some_bit r.child_bitmap 32 (omega arith) in
            let s = child_of nodes r x.0 (own_children nodes vals e r b) x.1 x.2 in
            let one : 1 ≤ e = some_level nodes vals e r x.0 s.0 b s.1 in
            omega (arith, rank_low r.child_bitmap 32)

    stands_to : (n : ℕ) → n ≤ 32 → Standing nodes vals ps → Standing nodes vals (run_places a (rank r.child_bitmap n) ++ ps)
    unfolding Standing rank
    stands_to zero l s = s
    stands_to (suc n) l s = elim (cases_bit r.child_bitmap n) [
      | inl z ↦
          let q : rank r.child_bitmap n ≡ rank r.child_bitmap n + bit r.child_bitmap n = omega arith in
          subst (λ (j : ℕ). Standing nodes vals (run_places a j ++ ps)) q (stands_to n (omega arith) s)
      | inr o ↦
          let q : suc (rank r.child_bitmap n) ≡ rank r.child_bitmap n + bit r.child_bitmap n = omega arith in
          subst (λ (j : ℕ). Standing nodes vals (run_places a j ++ ps)) q (at_bit o, stands_to n (omega arith) s)
    ]
      where
        at_bit : bit r.child_bitmap n ≡ 1 → Here nodes vals (length (run_places a (rank r.child_bitmap n) ++ ps)) (record { run = a; slot = record { number = rank r.child_bitmap n } })
        at_bit o =
            let full = own_children nodes vals e r b in
            let c = child_of nodes r n full (omega arith) o in
            let i : length (run_places a (rank r.child_bitmap n) ++ ps) ≡ rank r.child_bitmap n + length ps = length-append (run_places a (rank r.child_bitmap n)) ps ∙ ap (λ (x : ℕ). x + length ps) (length_run a (rank r.child_bitmap n)) in
            let one : 1 ≤ e = some_level nodes vals e r n c.0 b c.1 in
            record {
              low = omega (arith, rank_low r.child_bitmap n);
              inside = omega (arith, full, ap length (ap nodes same), rank_strict r.child_bitmap n 32 o l);
              below = λ u f.
                  let q : child nodes r n ≡ Some u = entry_set (nodes r.children_index) r.child_bitmap n o ∙ ap (λ (x : ℕ). nth (nodes x) (rank r.child_bitmap n)) (sym same) ∙ f in
                  wider nodes vals (e - 1) ((744 + rank r.child_bitmap n - length (run_places a (rank r.child_bitmap n) ++ ps)) / 31) u (omega arith) (child_below nodes vals e r n u b q);
            }

    pub stands : Standing nodes vals ps → Standing nodes vals (run_places a (rank r.child_bitmap 32) ++ ps)
    stands = stands_to 32 (omega arith)
