-- Bits of a bitmap and their ranks.
use Rattle.std.specs.Prelude.{◌≡◌, ℕ, zero, suc, ◌+◌, ◌/◌, ◌%◌, ◌^◌, ◌<◌, ◌≤◌, Bool, true, false, cond, ◌==◌, ◌≢◌, bit_or, bit_xor, nat_lt}

-- bit b of a bitmap, 0 or 1
unfoldable pub bit : ℕ → ℕ → ℕ
bit bitmap b = bitmap / 2 ^ b % 2

abbrev pub is_set : ℕ → ℕ → Bool
is_set bitmap b = bit bitmap b == 1

-- the rank of bit b: how many set bits stand below it; at the width, how many are set
unfoldable pub rank : ℕ → ℕ → ℕ
rank bitmap zero = 0
rank bitmap (suc b) = rank bitmap b + bit bitmap b

-- the bitmap with bit b set, and with bit b cleared
abbrev pub with_bit : ℕ → ℕ → ℕ
with_bit bitmap b = cond (nat_lt b 32) (bit_or bitmap (2 ^ b)) bitmap

abbrev pub without_bit : ℕ → ℕ → ℕ
without_bit bitmap b = cond (is_set bitmap b) (bit_xor bitmap (2 ^ b)) bitmap

-- n has the set bits of m and bit b, which is clear in m; ranks above b are one more
pub record Gains (m b n : ℕ) : Type 0 where
  pub clear : is_set m b ≡ false
  pub here : is_set n b ≡ true
  pub others : (k : ℕ) → (k ≢ b) → is_set n k ≡ is_set m k
  pub below : (k : ℕ) → k ≤ b → rank n k ≡ rank m k
  pub above : (k : ℕ) → b < k → rank n k ≡ rank m k + 1
