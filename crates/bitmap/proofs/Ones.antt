-- The number of ones of a bitmap is a rank.
use Rattle.std.proofs.Common.{◌≡◌, ℕ, zero, suc, ◌+◌, ◌-◌, ◌*◌, ◌%◌, ◌^◌, ◌<◌, sym, refl, ap, ◌∙◌, mod-eq_of_lt, one-add, arith}
use lib.Bits.{bit_and, and_mask}
use lib.Count.{ones, ones_cat}
use Rattle.std.proofs.lemmas.Nat.{mod-pow-add, pow_pos, mod_below}
use Rattle.bitmap.specs.Ranks.{bit, rank}
use Rattle.bitmap.proofs.Ranks.{bit_two}

digit : (d : ℕ) → d < 2 → ones d ≡ d
unfolding ones
digit zero h = refl
digit (suc zero) h = refl
digit (suc (suc d)) h = absurd (omega arith)

next : (m b : ℕ) → m % 2 ^ (suc b) ≡ bit m b * 2 ^ b + m % 2 ^ b
unfolding bit
next m b = ap (λ (k : ℕ). m % 2 ^ k) (sym (one-add b)) ∙ mod-pow-add m 1 b

-- the set digits of the low part are the rank
pub ones_low : (m b : ℕ) → ones (m % 2 ^ b) ≡ rank m b
unfolding rank ones
ones_low m zero =
    let z : m % 2 ^ 0 ≡ 0 = omega (arith, mod_below m 1 (omega arith)) in ap ones z
ones_low m (suc b) =
    ap ones (next m b) ∙ ones_cat b (bit m b) (m % 2 ^ b) (mod_below m (2 ^ b) (pow_pos b))
    ∙ omega (arith, digit (bit m b) (bit_two m b), ones_low m b)

pub ones_mask : (m b : ℕ) → ones (bit_and m (2 ^ b - 1)) ≡ rank m b
ones_mask m b = ap ones (and_mask m b) ∙ ones_low m b

pub ones_all : (m w : ℕ) → m < 2 ^ w → ones m ≡ rank m w
ones_all m w h = let e : m ≡ m % 2 ^ w = sym (mod-eq_of_lt h) in ap ones e ∙ ones_low m w
