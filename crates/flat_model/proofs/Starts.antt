-- A store with no run.
use Rattle.std.proofs.Common.{◌≡◌, ℕ, ◌<◌, ◌≤◌, List, [], length, replicate, get_or, take, drop, sym, refl, ap, ◌∙◌, subst, ⊎_elim, arith}
use lib.ListN.{length-replicate}
use mathlib.Core.Path.{fun_ext}
use Rattle.std.proofs.lemmas.List.{get_or_past, get_or-replicate}
use Rattle.std.proofs.lemmas.Bool.{cases_lt}
use Rattle.runs.specs.Lists.{indexes}
use Rattle.runs.specs.Runs.{one_run, count}
use Rattle.runs.proofs.Counts.{tally_none}
use Rattle.flat_model.specs.Flat.{State, fresh, Valid}
use Rattle.flat_model.specs.Ledger.{length_w, run_at, Linked, freed_from, state_of, Sound}
use Rattle.flat_model.proofs.Taking.{fresh_valid}
use Rattle.flat_model.proofs.Chains.{chain_is}
use Rattle.flat_model.proofs.Words.{state_is}

all_zero : (L : List ℕ) (n : ℕ) → L ≡ replicate n 0 → (k : ℕ) → get_or L k 0 ≡ 0
all_zero L n e k = ap (λ (xs : List ℕ). get_or xs k 0) e ∙ ⊎_elim
    (λ (h : k < n). get_or-replicate n k 0 0 h)
    (λ (h : n ≤ k). get_or_past (replicate n 0) k 0 (omega (arith, length-replicate {A = ℕ} n 0)))
    (cases_lt k n)

pub started : {E : Type 0} (longest : ℕ) → 31 ≤ longest → longest ≤ 32 → (C : List E) (L : List ℕ) (n : ℕ) → length L ≡ length C → length C ≤ indexes → L ≡ replicate n 0
    → (state_of C L 0 0 ≡ fresh (length C)) × Sound longest C L 0 0 0
started {E} longest la lb C L n e m z =
    let none : (i : ℕ) → run_at C L i ≡ [] = λ i. ap (λ (w : ℕ). take (length_w w) (drop i C)) (all_zero L n z i) in
    let free : freed_from L 0 ≡ [] = chain_is L (length L) 0 [] refl (omega arith) in
    let st : state_of C L 0 0 ≡ fresh (length C) = state_is C L 0 0 (fresh (length C)) refl refl free (fun_ext none) in (
      st,
      record {
        same = e;
        long = λ i. ap length (none i) ∙ sym (ap length_w (all_zero L n z i));
        ends = subst (λ (ps : List ℕ). Linked L 0 ps) (sym free) refl;
        counted = sym (ap (λ (f : ℕ → List E). count f) (fun_ext none) ∙ tally_none {E = E} one_run indexes refl);
        valid = subst (λ (k : State E). Valid longest k) (sym st) (fresh_valid longest (length C) la lb m);
      },
    )
