-- The lowest set bit of a bitmap from a bit on.
use Rattle.std.proofs.Common.{◌≡◌, ℕ, ◌+◌, ◌-◌, ◌/◌, ◌^◌, ◌%◌, ◌<◌, ◌≤◌, sym, ap, ◌∙◌, arith}
use Rattle.std.specs.Int.{trailing_zeros, w32}
use Rattle.std.proofs.Math.Nat.{div-div-eq-div-mul, div-le_self}
use Rattle.std.proofs.lemmas.Nat.{pow-add}
use Rattle.std.proofs.lemmas.Nat.Bits.{bit_at-trailing_zeros}
use Rattle.bitmap.specs.Ranks.{bit}
use Rattle.bitmap.proofs.Ranks.{bit_of_zero}

pub record Lowest (m b c : ℕ) : Type 0 where
  pub here : bit m c ≡ 1
  pub clear : (k : ℕ) → b ≤ k → k < c → bit m k ≡ 0

bit_shifted : (m b i : ℕ) → bit (m / 2 ^ b) i ≡ bit m (b + i)
unfolding bit
bit_shifted m b i = ap (λ (x : ℕ). x % 2) (div-div-eq-div-mul m (2 ^ b) (2 ^ i) ∙ ap (λ (x : ℕ). m / x) (sym (pow-add 2 b i)))

pub none_from : (m b k : ℕ) → m / 2 ^ b ≡ 0 → b ≤ k → bit m k ≡ 0
none_from m b k z l =
    let e : b + (k - b) ≡ k = omega arith in
    sym (ap (bit m) e) ∙ sym (bit_shifted m b (k - b)) ∙ ap (λ (x : ℕ). bit x (k - b)) z ∙ bit_of_zero (k - b)

lowest : (m b : ℕ) → 0 < m / 2 ^ b → m / 2 ^ b < 2 ^ 32 → Lowest m b (b + trailing_zeros w32 (m / 2 ^ b))
unfolding bit
lowest m b p h =
    let t = bit_at-trailing_zeros w32 (m / 2 ^ b) p h in
    record {
      here = sym (bit_shifted m b (trailing_zeros w32 (m / 2 ^ b))) ∙ t.1;
      clear = λ k l u.
          let e : b + (k - b) ≡ k = omega arith in
          sym (ap (bit m) e) ∙ sym (bit_shifted m b (k - b)) ∙ t.2 (k - b) (omega arith);
    }

-- where bits of a data bitmap are left, the lowest of them
pub found : (m b : ℕ) → m < 2 ^ 31 → (m / 2 ^ b ≡ 0 → ⊥) → Lowest m b (b + trailing_zeros w32 (m / 2 ^ b))
found m b h ne = lowest m b (omega arith) (omega (arith, div-le_self m (2 ^ b)))
