-- Vectors and matrices in arrays: a vector of 16 numbers, and a matrix of 256 with row i, column j at 16 i +
-- j. Past the order n there are zeros.
use mathlib.Core.{Bool.cond, Bool.◌&&◌, List.List, List.[], List.◌∷◌}
use Rattle.std.specs.Prelude.{ℕ, zero, suc, ◌+◌, ◌*◌, ◌/◌, ◌%◌}
use lib.{Dec.ltb, IntN.ℤ, IntN.pos, ListN.get_or, ListN.set}

-- ---- what an array holds

abbrev pub at : List ℤ → ℕ → ℤ
at v i = get_or v i (pos 0)

abbrev pub entry : List ℤ → ℕ → ℕ → ℤ
entry g i j = get_or g (16 * i + j) (pos 0)

-- ---- an array of given contents

-- f i, f (i + 1), .. , k of them
unfoldable pub list_from : (i k : ℕ) (f : ℕ → ℤ) → List ℤ
list_from i zero f = []
list_from i (suc k) f = f i ∷ list_from (suc i) k f

abbrev pub flat_vector : ℕ → (ℕ → ℤ) → List ℤ
flat_vector n B = list_from 0 16 (λ i. cond (ltb i n) (B i) (pos 0))

abbrev pub flat_matrix : ℕ → (ℕ → ℕ → ℤ) → List ℤ
flat_matrix n G = list_from 0 256 (λ k. cond (ltb (k / 16) n && ltb (k % 16) n) (G (k / 16) (k % 16)) (pos 0))

-- the array g after k stores, the t-th of them of `value t` at `place t`
unfoldable pub stores : (g : List ℤ) (place : ℕ → ℕ) (value : ℕ → ℤ) (k : ℕ) → List ℤ
stores g place value zero = g
stores g place value (suc k) = set (stores g place value k) (place k) (value k)

-- v with f's values in the rows below n
abbrev pub filled : (ℕ → ℤ) → List ℤ → ℕ → List ℤ
filled f v n = stores v (λ i. i) f n
