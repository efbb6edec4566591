-- The proofs of what specs/Worked.antt states and of its worked cases. Assumes nothing.
use Rattle.std.specs.Prelude.{ℕ, ◌≡◌, refl, [], ◌∷◌}
use Rattle.strided.specs.Strided.{plane_digits, repeated, copied}

-- two rows of two words, the rows 1 apart and their words 3 apart, from word 1 on
pub rows-case : copied {W = ℕ} 0 (2 ∷ 2 ∷ 1 ∷ 2 ∷ 1 ∷ 3 ∷ []) 4 1 (10 ∷ 11 ∷ 12 ∷ 13 ∷ 14 ∷ 15 ∷ []) ≡ 11 ∷ 14 ∷ 12 ∷ 15 ∷ []
unfolding copied
rows-case = refl

-- a digit of stride 0 names the same words again
pub again-case : copied {W = ℕ} 0 (2 ∷ 2 ∷ 0 ∷ 2 ∷ 1 ∷ 2 ∷ []) 4 0 (10 ∷ 11 ∷ 12 ∷ []) ≡ 10 ∷ 12 ∷ 10 ∷ 12 ∷ []
unfolding copied
again-case = refl

-- two planes that are 5 apart, of two rows that are 2 apart, of two words that are 1 apart
pub planes-case : copied {W = ℕ} 0 (plane_digits 2 4 5 2 2 2 1) 8 0 (0 ∷ 1 ∷ 2 ∷ 3 ∷ 4 ∷ 5 ∷ 6 ∷ 7 ∷ 8 ∷ []) ≡ 0 ∷ 1 ∷ 2 ∷ 3 ∷ 5 ∷ 6 ∷ 7 ∷ 8 ∷ []
unfolding copied
planes-case = refl

-- two words again and again, not to a whole number of them
pub repeated-case : repeated {W = ℕ} 0 2 5 (7 ∷ 8 ∷ 9 ∷ []) ≡ 7 ∷ 8 ∷ 7 ∷ 8 ∷ 7 ∷ []
unfolding repeated
repeated-case = refl
