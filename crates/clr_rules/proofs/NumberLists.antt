-- What a function gives of numbers that follow one another, as of weeks.
use Rattle.std.proofs.Common.{◌≡◌, ℕ, zero, suc, ◌+◌, ◌∷◌, ◌++◌, [], map, ap, sym, ◌∙◌, arith}
use Rattle.clr_num.specs.Lists.{numbers}

-- one number more
pub numbers-more : {X : Type 0} (f : ℕ → X) (from count : ℕ) → map f (numbers from (suc count)) ≡ map f (numbers from count) ++ f (from + count) ∷ []
numbers-more f from zero = let e : from + 0 ≡ from = omega arith in ap (λ k. f k ∷ []) (sym e)
numbers-more f from (suc count) = let e : suc from + count ≡ from + suc count = omega arith in ap (λ l. f from ∷ l) (numbers-more f (suc from) count ∙ ap (λ k. map f (numbers (suc from) count) ++ f k ∷ []) e)
