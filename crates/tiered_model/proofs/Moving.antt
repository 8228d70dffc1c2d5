-- A run that is put in place of another, in its group or in another one.
use Rattle.std.proofs.Common.{◌≡◌, ℕ, ◌≤◌, Bool, true, false, cond, eqb, List, [], ◌∷◌, length, None, sym, refl, ap, ◌∙◌, inl, inr, arith}
use mathlib.Core.Path.{fun_ext}
use Rattle.std.proofs.lemmas.Bool.{cases_eq, eqb-true, eqb-false}
use Rattle.runs.specs.Refusals.{refusal}
use Rattle.runs.specs.Lists.{at}
use Rattle.runs.specs.Sizes.{size}
use Rattle.tiered_model.specs.Tiered.{State, group, held, ended, kept, has, can, change, put, put_to, size_at}
use Rattle.tiered_model.specs.Groups.{Valid, Most}
use Rattle.runs.proofs.Counts.{put_both, put_same, put_other}
use Rattle.runs.proofs.Sizes.{one_other}
use Rattle.tiered_model.proofs.Taking.{gone, group_free, held_valid, held_most, held_standing, ended_valid, ended_groups, ended_standing, kept_valid, kept_most}
use Rattle.tiered_model.proofs.Asking.{none_else}

twice : {X : Type 0} (b : Bool) (x y a : X) → cond b x a ≡ cond b x (cond b y a)
twice true x y a = refl
twice false x y a = refl

pub at_again : {E : Type 0} (f : ℕ → List E) (i : ℕ) (ys : List E) → at f i ys ≡ at (at f i []) i ys
at_again f i ys = fun_ext (λ j. twice (eqb j i) ys [] (f j))

pub at_swap : {E : Type 0} (f : ℕ → List E) (i g : ℕ) (ys : List E) → (i ≡ g → ⊥) → at (at f g ys) i [] ≡ at (at f i []) g ys
at_swap f i g ys ne = fun_ext (λ j. elim (cases_eq j g) [
  | inl q ↦ put_other (at f g ys) i j [] (λ r. ne (sym r ∙ q)) ∙ ap (at f g ys) q ∙ put_same f g ys ∙ sym (put_same (at f i []) g ys) ∙ ap (at (at f i []) g ys) (sym q)
  | inr q ↦ put_both (at f g ys) i [] j (λ x. x ≡ at f i [] j)
      (λ r. sym (ap (at f i []) r ∙ put_same f i []))
      (λ r. put_other f g j ys q ∙ sym (put_other f i j [] r))
      ∙ sym (put_other (at f i []) g j ys q)
])

-- a run put in place of the one at i
pub record Put {E : Type 0} (longest : ℕ) (s : State E) (i : ℕ) (ys : List E) (j : ℕ) (t : State E) : Type 0 where
  pub valid : Valid longest t
  pub fresh : at s.live i [] j ≡ []
  pub live : t.live ≡ at (at s.live i []) j ys
  pub most : Most longest s t

module _ {E : Type 0} (longest : ℕ) (s : State E) (v : Valid longest s) (la : 31 ≤ longest) (lb : longest ≤ 32) (i : ℕ) (ys : List E) (h : 1 ≤ length (s.live i)) (hy : 1 ≤ length ys) (hl : length ys ≤ longest) where
  module _ (y z : ℕ) (ey : size longest (length ys) ≡ y) (ez : size longest (length (s.live i)) ≡ z) (ne : z ≡ y → ⊥) (t : has s y ≡ true) where
    away : i ≡ group s y → ⊥
    away q = omega (arith, ap length (ap s.live q ∙ group_free longest s v y (s.free y) refl la lb))

    stays : at s.live (group s y) ys i ≡ s.live i
    stays = put_other s.live (group s y) i ys away

    mid : Valid longest (held s y ys)
    mid = held_valid longest s v la lb y ys hy hl ey (s.free y) refl t

    there : 1 ≤ length ((held s y ys).live i)
    there = omega (arith, ap length stays)

    same : size longest (length ((held s y ys).live i)) ≡ z
    same = ap (λ (k : List E). size longest (length k)) stays ∙ ez

    moves : Put longest s i ys (group s y) (ended (held s y ys) z i)
    moves = record {
      valid = ended_valid longest (held s y ys) mid la lb i there z same;
      fresh = gone s.live i (group s y) (group_free longest s v y (s.free y) refl la lb);
      live = at_swap s.live i (group s y) ys away;
      most = λ w. elim (cases_eq w y) [
        | inl q ↦ omega (
          arith,
          ended_groups longest (held s y ys) mid la lb i there z same w,
          ended_standing longest (held s y ys) mid la lb i there z same w,
          held_most longest s v la lb y ys hy hl ey (s.free y) refl t w,
          one_other z w (λ r. ne (sym r ∙ q)),
        )
        | inr q ↦ omega (
          arith,
          ended_groups longest (held s y ys) mid la lb i there z same w,
          ended_standing longest (held s y ys) mid la lb i there z same w,
          held_most longest s v la lb y ys hy hl ey (s.free y) refl t w,
          held_standing longest s v la lb y ys hy hl ey (s.free y) refl t w,
          one_other y w q,
        )
      ];
    }

  puts_by : (y z : ℕ) → size longest (length ys) ≡ y → size longest (length (s.live i)) ≡ z → (b : Bool) → eqb z y ≡ b → cond b None (can s y) ≡ None
      → Put longest s i ys (cond b i (group s y)) (cond b (kept s i ys) (ended (held s y ys) z i))
  puts_by y z ey ez true e g =
      let q : size longest (length (s.live i)) ≡ size longest (length ys) = ez ∙ eqb-true z y e ∙ sym ey in
      record {
        valid = kept_valid longest s v la lb i h ys hy hl q;
        fresh = put_same s.live i [];
        live = at_again s.live i ys;
        most = kept_most longest s v la lb i h ys hy hl q;
      }
  puts_by y z ey ez false e g = moves y z ey ez (eqb-false z y e) (none_else (has s y) (refusal 23 (0 ∷ [])) None g).0

  pub puts : change s (size_at longest s i) (size longest (length ys)) ≡ None → Put longest s i ys (put_to longest s i ys) (put longest s i ys)
  puts g = puts_by (size longest (length ys)) (size_at longest s i) refl refl (eqb (size_at longest s i) (size longest (length ys))) refl g
