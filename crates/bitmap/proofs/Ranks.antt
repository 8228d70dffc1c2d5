-- The laws of ranks.
use Rattle.std.proofs.Common.{◌≡◌, ℕ, zero, suc, ◌+◌, ◌-◌, ◌*◌, ◌/◌, ◌%◌, ◌^◌, ◌<◌, ◌≤◌, true, false, eqb, ◌⊎◌, sym, refl, ap, ◌∙◌, inl, inr, add-zero, add-suc, mod-eq_of_lt, pow-suc, one-add, arith}
use lib.Bits.{bit_or, bit_xor, or_zero_r, xor_zero_r, or_shr, or_mod, xor_shr, xor_mod}
use native.Mathlib.Decide.{dec_le}
use Rattle.std.proofs.lemmas.Nat.{mod-pow-add, pow_pos, mod_below, pow-add, shl-shr, div_below, pow_below}
use Rattle.std.proofs.lemmas.Bool.{cond-true, eqb-true, eqb-false, eq-eqb, ne_eqb, lt-ltb}
use Rattle.bitmap.specs.Ranks.{bit, is_set, rank, with_bit, without_bit, Gains}

-- n is m but for the bit b, which is set in n and clear in m
pub record Added (m n b : ℕ) : Type 0 where
  pub clear : bit m b ≡ 0
  pub here : bit n b ≡ 1
  pub other : (k : ℕ) → (k ≡ b → ⊥) → bit n k ≡ bit m k

pub bit_two : (m b : ℕ) → bit m b < 2
unfolding bit
bit_two m b = mod_below (m / 2 ^ b) 2 (omega arith)

pub cases_bit : (m b : ℕ) → (bit m b ≡ 0) ⊎ (bit m b ≡ 1)
cases_bit m b = elim (dec_le (bit m b) 0) [
  | yes h ↦ inl (omega arith)
  | no h ↦ inr (omega (arith, bit_two m b))
]

-- no bit is set at or above the width
pub bit_past : (m b : ℕ) → m < 2 ^ b → bit m b ≡ 0
unfolding bit
bit_past m b h = omega (arith, div_below m (2 ^ b) 1 (pow_pos b) (omega arith))

pub bit_of_zero : (b : ℕ) → bit 0 b ≡ 0
bit_of_zero b = bit_past 0 b (pow_pos b)

pub set_nonzero : (m b : ℕ) → bit m b ≡ 1 → m ≡ 0 → ⊥
set_nonzero m b o z = omega (arith, ap (λ (k : ℕ). bit k b) z, bit_of_zero b)

pub set_within : (m b w : ℕ) → m < 2 ^ w → bit m b ≡ 1 → b < w
set_within m b w h o = elim (dec_le (suc b) w) [
  | yes l ↦ l
  | no l ↦ elim (dec_le b w) [
    | yes e ↦ let e2 : b ≡ w = omega arith in absurd (omega (arith, bit_past m w h, ap (bit m) e2))
    | no g ↦ absurd (omega (arith, bit_past m b (omega (arith, pow_below w b (omega arith)))))
  ]
]

next : (m b : ℕ) → m % 2 ^ (suc b) ≡ bit m b * 2 ^ b + m % 2 ^ b
unfolding bit
next m b = ap (λ (k : ℕ). m % 2 ^ k) (sym (one-add b)) ∙ mod-pow-add m 1 b

low_zero : (m w : ℕ) → rank m w ≡ 0 → m % 2 ^ w ≡ 0
unfolding rank
low_zero m zero e = omega (arith, mod_below m 1 (omega arith))
low_zero m (suc w) e =
    let z : bit m w ≡ 0 = omega arith in
    omega (arith, next m w, low_zero m w (omega arith), ap (λ (k : ℕ). k * 2 ^ w) z)

pub none_set : (m w : ℕ) → m < 2 ^ w → rank m w ≡ 0 → m ≡ 0
none_set m w h e = sym (mod-eq_of_lt h) ∙ low_zero m w e

pub rank_of_zero : (w : ℕ) → rank 0 w ≡ 0
unfolding rank
rank_of_zero zero = refl
rank_of_zero (suc w) = omega (arith, rank_of_zero w, bit_of_zero w)

pub added_low : (m n b : ℕ) → Added m n b → (k : ℕ) → k ≤ b → rank n k ≡ rank m k
unfolding rank
added_low m n b a zero h = refl
added_low m n b a (suc k) h = omega (arith, added_low m n b a k (omega arith), a.other k (λ e. omega arith))

pub added_high : (m n b : ℕ) → Added m n b → (k : ℕ) → b < k → rank n k ≡ rank m k + 1
unfolding rank
added_high m n b a zero h = absurd (omega arith)
added_high m n b a (suc k) h = elim (dec_le k b) as (λ _. rank n (suc k) ≡ rank m (suc k) + 1) [
  | yes le ↦
      let e : k ≡ b = omega arith in
      omega (arith, added_low m n b a k (omega arith), ap (bit n) e, ap (bit m) e, a.clear, a.here)
  | no gt ↦ omega (arith, added_high m n b a k (omega arith), a.other k (λ e. omega arith))
]

pub rank_up : (m a b : ℕ) → a ≤ b → rank m a ≤ rank m b
unfolding rank
rank_up m a zero h = let e : a ≡ 0 = omega arith in rw e (omega arith)
rank_up m a (suc b) h = elim (dec_le a b) as (λ _. rank m a ≤ rank m (suc b)) [
  | yes le ↦ omega (arith, rank_up m a b le)
  | no gt ↦ let e : a ≡ suc b = omega arith in rw e (omega arith)
]

-- a set bit's rank is below each later rank
pub rank_strict : (m a b : ℕ) → bit m a ≡ 1 → a < b → rank m a < rank m b
unfolding rank
rank_strict m a b o h = let up : rank m a + bit m a ≤ rank m b = rank_up m (suc a) b h in omega arith

pub rank_distinct : (m a b : ℕ) → bit m a ≡ 1 → bit m b ≡ 1 → rank m a ≡ rank m b → a ≡ b
rank_distinct m a b oa ob e = elim (dec_le (suc a) b) as (λ _. a ≡ b) [
  | yes lt ↦ absurd (omega (arith, rank_strict m a b oa lt))
  | no ge ↦ elim (dec_le (suc b) a) as (λ _. a ≡ b) [
    | yes lt ↦ absurd (omega (arith, rank_strict m b a ob lt))
    | no ge2 ↦ omega arith
  ]
]

-- the digits of a power of two

pub power_here : (b : ℕ) → bit (2 ^ b) b ≡ 1
unfolding bit
power_here b =
    let e : 2 ^ b / 2 ^ b ≡ 1 = ap (λ (x : ℕ). x / 2 ^ b) (omega arith) ∙ shl-shr 1 b in ap (λ (x : ℕ). x % 2) e

pub power_under : (j k : ℕ) → bit (2 ^ (suc j + k)) k ≡ 0
unfolding bit
power_under j k =
    let e : 2 ^ (suc j + k) / 2 ^ k ≡ 2 ^ suc j = ap (λ (x : ℕ). x / 2 ^ k) (pow-add 2 (suc j) k) ∙ shl-shr (2 ^ suc j) k in
    omega (arith, e, pow-suc 2 j)

pub power_over : (b k : ℕ) → b < k → bit (2 ^ b) k ≡ 0
unfolding bit
power_over b k h = omega (arith, div_below (2 ^ b) (2 ^ k) 1 (pow_pos k) (omega (arith, pow_below b k h)))

pub power_other : (b k : ℕ) → (k ≡ b → ⊥) → bit (2 ^ b) k ≡ 0
power_other b k ne = elim (dec_le (suc k) b) as (λ _. bit (2 ^ b) k ≡ 0) [
  | yes h ↦ let e : b ≡ suc (b - suc k) + k = omega arith in rw e (power_under (b - suc k) k)
  | no h ↦ power_over b k (omega arith)
]

-- one digit turned

or_digit : (a c k : ℕ) → bit (bit_or a c) k ≡ bit_or (bit a k) (bit c k)
unfolding bit
or_digit a c k = ap (λ (x : ℕ). x % 2) (or_shr a c k) ∙ or_mod (a / 2 ^ k) (c / 2 ^ k) 1

xor_digit : (a c k : ℕ) → bit (bit_xor a c) k ≡ bit_xor (bit a k) (bit c k)
unfolding bit
xor_digit a c k = ap (λ (x : ℕ). x % 2) (xor_shr a c k) ∙ xor_mod (a / 2 ^ k) (c / 2 ^ k) 1

pub or_added : (m b : ℕ) → bit m b ≡ 0 → Added m (bit_or m (2 ^ b)) b
or_added m b z = record {
  clear = z;
  here = or_digit m (2 ^ b) b ∙ ap (λ (x : ℕ). bit_or x (bit (2 ^ b) b)) z ∙ ap (λ (x : ℕ). bit_or 0 x) (power_here b);
  other = λ k ne. or_digit m (2 ^ b) k ∙ ap (λ (x : ℕ). bit_or (bit m k) x) (power_other b k ne) ∙ or_zero_r (bit m k);
}

pub xor_taken : (m b : ℕ) → bit m b ≡ 1 → Added (bit_xor m (2 ^ b)) m b
xor_taken m b o = record {
  clear = xor_digit m (2 ^ b) b ∙ ap (λ (x : ℕ). bit_xor x (bit (2 ^ b) b)) o ∙ ap (λ (x : ℕ). bit_xor 1 x) (power_here b);
  here = o;
  other = λ k ne. sym (xor_digit m (2 ^ b) k ∙ ap (λ (x : ℕ). bit_xor (bit m k) x) (power_other b k ne) ∙ xor_zero_r (bit m k));
}

-- ---- the same by tests

pub is_set_lem : (m b : ℕ) → bit m b ≡ 1 → is_set m b ≡ true
is_set_lem m b o = eq-eqb (bit m b) 1 o

pub set_bit : (m b : ℕ) → is_set m b ≡ true → bit m b ≡ 1
set_bit m b t = eqb-true (bit m b) 1 t

pub is_clear : (m b : ℕ) → bit m b ≡ 0 → is_set m b ≡ false
is_clear m b z = ne_eqb (bit m b) 1 (λ o. omega arith)

pub clear_bit : (m b : ℕ) → is_set m b ≡ false → bit m b ≡ 0
clear_bit m b t = omega (arith, eqb-false (bit m b) 1 t, bit_two m b)

pub gained : (m n b : ℕ) → Added m n b → Gains m b n
gained m n b a = record {
  clear = is_clear m b a.clear;
  here = is_set_lem n b a.here;
  others = λ k ne. ap (λ (d : ℕ). eqb d 1) (a.other k ne);
  below = added_low m n b a;
  above = added_high m n b a;
}

pub with_bit_is : (m b : ℕ) → b < 32 → with_bit m b ≡ bit_or m (2 ^ b)
with_bit_is m b h = cond-true _ _ _ (lt-ltb b 32 h)

pub without_bit_is : (m b : ℕ) → bit m b ≡ 1 → without_bit m b ≡ bit_xor m (2 ^ b)
without_bit_is m b o = cond-true _ _ _ (is_set_lem m b o)

-- at and above the width nothing is set any more
pub bit_beyond : (m w b : ℕ) → m < 2 ^ w → w ≤ b → bit m b ≡ 0
bit_beyond m w b h l = elim (cases_bit m b) [
  | inl z ↦ z
  | inr o ↦ absurd (omega (arith, set_within m b w h o))
]

-- so the rank stays what it is at the width
pub rank_wide : (m w k : ℕ) → m < 2 ^ w → rank m (w + k) ≡ rank m w
unfolding rank
rank_wide m w zero h = ap (rank m) (add-zero w)
rank_wide m w (suc k) h = ap (rank m) (add-suc w k) ∙ omega (arith, rank_wide m w k h, bit_beyond m w (w + k) h (omega arith))

pub rank_beyond : (m w b : ℕ) → m < 2 ^ w → w ≤ b → rank m b ≡ rank m w
rank_beyond m w b h l = let e : b ≡ w + (b - w) = omega arith in ap (rank m) e ∙ rank_wide m w (b - w) h
