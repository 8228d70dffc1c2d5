-- A store with no run.
use Rattle.std.proofs.Common.{◌≡◌, ℕ, ◌<◌, ◌≤◌, T, eqb, List, [], length, get_or, take, drop, sym, refl, ap, ◌∙◌, subst, ⊎_elim, arith, eqb→eq}
use mathlib.Core.Path.{fun_ext}
use Rattle.std.proofs.lemmas.List.{get_or_past}
use Rattle.std.proofs.lemmas.Bool.{cases_lt}
use Rattle.runs.specs.Runs.{one_run, count}
use Rattle.tiered_model.specs.Tiered.{State, fresh}
use Rattle.tiered_model.specs.Groups.{Valid}
use Rattle.runs.proofs.Counts.{tally_none}
use Rattle.runs.proofs.Table.{every, at}
use Rattle.tiered_model.proofs.Taking.{fresh_valid}
use Rattle.tiered_model.specs.Ledger.{len_w, run_at, Linked, freed, state_of, Sound}
use Rattle.tiered_model.proofs.Chains.{chain_is}
use Rattle.tiered_model.proofs.Changes.{state_is}

pub all_zero : (L : List ℕ) → ((k : ℕ) → k < length L → get_or L k 0 ≡ 0) → (k : ℕ) → get_or L k 0 ≡ 0
all_zero L h k = ⊎_elim (h k) (λ (l : length L ≤ k). get_or_past L k 0 l) (cases_lt k (length L))

pub zeros : (H : List ℕ) → T (every (λ _ x. eqb x 0) 0 H) → (z : ℕ) → get_or H z 0 ≡ 0
zeros H t = all_zero H (λ k h. eqb→eq (get_or H k 0) 0 (at (λ _ x. eqb x 0) H t k h))

pub started : {E : Type 0} (longest : ℕ) (C : List E) (L H : List ℕ) → length L ≡ length C → length C ≤ 16777216 → ((k : ℕ) → k < length L → get_or L k 0 ≡ 0) → ((z : ℕ) → get_or H z 0 ≡ 0)
    → (state_of C L 0 H ≡ fresh (length C)) × Sound longest C L 0 H 0
started {E} longest C L H e m zl zh =
    let none : (i : ℕ) → run_at C L i ≡ [] = λ i. ap (λ (w : ℕ). take (len_w w) (drop i C)) (all_zero L zl i) in
    let free : (z : ℕ) → freed L H z ≡ [] = λ z. chain_is L (length L) (get_or H z 0) [] (zh z) (omega arith) in
    let st : state_of C L 0 H ≡ fresh (length C) = state_is C L 0 H (fresh (length C)) refl refl (fun_ext free) (fun_ext none) in (
      st,
      record {
        same = e;
        long = λ i. ap length (none i) ∙ sym (ap len_w (all_zero L zl i));
        ends = λ z. subst (λ (ps : List ℕ). Linked L (get_or H z 0) ps) (sym (free z)) (zh z);
        counted = sym (ap (λ (f : ℕ → List E). count f) (fun_ext none) ∙ tally_none {E = E} one_run 16777216 refl);
        valid = subst (λ (k : State E). Valid longest k) (sym st) (fresh_valid longest (length C) m);
      },
    )
