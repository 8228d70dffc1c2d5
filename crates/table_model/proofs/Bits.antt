-- One bit of a bitmap set or cleared: what it does to every other bit, and that the bitmap stays as narrow.
use Rattle.std.proofs.Common.{◌≡◌, ℕ, ◌^◌, ◌<◌, ◌≤◌, sym, subst, arith}
use Rattle.std.proofs.lemmas.Nat.{or_lt, xor_lt, pow_below}
use Rattle.bitmap.specs.Ranks.{bit, with_bit, without_bit}
use Rattle.bitmap.proofs.Ranks.{Added, or_added, xor_taken, with_bit_is, without_bit_is}

pub with_added : (m b : ℕ) → b < 32 → bit m b ≡ 0 → Added m (with_bit m b) b
with_added m b h z = subst (λ (n : ℕ). Added m n b) (sym (with_bit_is m b h)) (or_added m b z)

pub with_fits : (m b w : ℕ) → w ≤ 32 → m < 2 ^ w → b < w → with_bit m b < 2 ^ w
with_fits m b w l fits h = subst (λ (n : ℕ). n < 2 ^ w) (sym (with_bit_is m b (omega arith))) (or_lt w m (2 ^ b) fits (pow_below b w h))

pub without_taken : (m b : ℕ) → bit m b ≡ 1 → Added (without_bit m b) m b
without_taken m b o = subst (λ (n : ℕ). Added n m b) (sym (without_bit_is m b o)) (xor_taken m b o)

pub without_fits : (m b w : ℕ) → m < 2 ^ w → b < w → bit m b ≡ 1 → without_bit m b < 2 ^ w
without_fits m b w fits h o = subst (λ (n : ℕ). n < 2 ^ w) (sym (without_bit_is m b o)) (xor_lt w m (2 ^ b) fits (pow_below b w h))
