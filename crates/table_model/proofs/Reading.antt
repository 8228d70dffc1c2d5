-- A path read byte by byte.
use Rattle.std.proofs.Common.{◌≡◌, ℕ, ◌+◌, ◌≤◌, Bool, true, false, cond, ltb, Option, [], ◌∷◌, length, Some, None, sym, refl, ap, ◌∙◌}
use Rattle.std.specs.List.{position, position_from}
use Rattle.std.proofs.lemmas.Iterator.Adapters.{position_from-zero}
use Rattle.std.proofs.lemmas.Bool.{cond-false, le-ltb}
use Rattle.runs.specs.Refusals.{refusal, Grant}
use Rattle.table_model.specs.Tree.{Path}
use Rattle.table_model.specs.Refusals.{bad_byte, bad_path}

-- what is told of the position of the first byte above 31
abbrev pub told_at : Option ℕ → Grant
told_at None = None
told_at (Some i) = Some (refusal 2 (i ∷ []))

either : (t : Bool) (x y : Option ℕ) → cond t (told_at x) (told_at y) ≡ told_at (cond t x y)
either true x y = refl
either false x y = refl

bad_from : (i : ℕ) (p : Path) → bad_byte i p ≡ told_at (position_from (λ b. ltb 31 b) i p)
unfolding bad_byte
bad_from i [] = refl
bad_from i (b ∷ p) = ap (cond (ltb 31 b) (told_at (Some i))) (bad_from (i + 1) p) ∙ either (ltb 31 b) (Some i) (position_from (λ c. ltb 31 c) (i + 1) p)

-- a path that is not too long is told by that position
pub bad_at : (p : Path) → length p ≤ 25 → bad_path p ≡ told_at (position (λ b. ltb 31 b) p)
bad_at p l =
    cond-false (ltb 25 (length p)) (Some (refusal 1 [])) (bad_byte 0 p) (le-ltb 25 (length p) l) ∙ bad_from 0 p
    ∙ sym (ap told_at (position_from-zero (λ b. ltb 31 b) p))
