-- That a store's memory agrees with itself is known by its type, which says only that it holds; here it is at hand again.
use Rattle.std.proofs.Common.{ℕ, ◌∷◌, List, [], slice_index}
use Rattle.runs.proofs.Known.{le_known, eq_known, nil_known}
use Rattle.flat_model.specs.Flat.{State, Begins, Valid}
use Rattle.flat_model.specs.Ledger.{Linked, link_w, state_of, Sound}

begins_known : {P : Type 0} (longest claimed i : ℕ) → ∥ P ∥₁ → (P → Begins longest claimed i) → Begins longest claimed i
begins_known longest claimed i t f = (eq_known t (λ p. (f p).0), le_known t (λ p. (f p).1))

valid_known : {P E : Type 0} (longest : ℕ) (s : State E) → ∥ P ∥₁ → (P → Valid longest s) → Valid longest s
valid_known longest s t f = record {
  within = le_known t (λ p. (f p).within);
  enough = le_known t (λ p. (f p).enough);
  whole = eq_known t (λ p. (f p).whole);
  short = λ i. le_known t (λ p. (f p).short i);
  living = λ i h. begins_known longest s.claimed i t (λ p. (f p).living i h);
  freed = λ i h. (begins_known longest s.claimed i t (λ p. ((f p).freed i h).0), nil_known (s.live i) t (λ p. ((f p).freed i h).1));
  once = λ i. le_known t (λ p. (f p).once i);
}

linked_known : {P : Type 0} (ledger : List ℕ) (link : ℕ) (ps : List ℕ) → ∥ P ∥₁ → (P → Linked ledger link ps) → Linked ledger link ps
linked_known ledger link [] t f = eq_known t f
linked_known ledger link (p ∷ ps) t f = (eq_known t (λ x. (f x).0), linked_known ledger (link_w (slice_index ledger p)) ps t (λ x. (f x).1))

pub known : {E : Type 0} (longest : ℕ) (cells : List E) (ledger : List ℕ) (claimed head runs : ℕ) → ∥ Sound longest cells ledger claimed head runs ∥₁ → Sound longest cells ledger claimed head runs
known longest cells ledger claimed head runs t = record {
  same = eq_known t (λ s. s.same);
  long = λ i. eq_known t (λ s. s.long i);
  ends = linked_known ledger head _ t (λ s. s.ends);
  counted = eq_known t (λ s. s.counted);
  valid = valid_known longest (state_of cells ledger claimed head) t (λ s. s.valid);
}
