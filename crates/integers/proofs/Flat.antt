-- Laws of vectors and matrices in arrays: what is at a place of an array of given contents.
use mathlib.Core.Path.{◌≡◌, refl, ◌∙◌}
use mathlib.Core.Bool.{cond, ◌&&◌}
use Prim.Native.Nat.{ℕ, zero, suc, ◌+◌, ◌*◌, ◌/◌, ◌%◌, ◌<◌, ◌≤◌}
use native.Mathlib.Omega.{arith}
use borrow.Author.Tests.{lt-ltb}
use lib.Dec.{ltb}
use lib.IntN.{ℤ, pos}
use lib.ListN.{length}
use Rattle.integers.specs.Flat.{at, entry, list_from, flat_vector, flat_matrix}

pub length-list_from : (i k : ℕ) (f : ℕ → ℤ) → length (list_from i k f) ≡ k
unfolding list_from
length-list_from i zero f = refl
length-list_from i (suc k) f = rw (length-list_from (suc i) k f)

pub getD_list_from : (i k : ℕ) (f : ℕ → ℤ) (j : ℕ) → j < k → at (list_from i k f) j ≡ f (i + j)
unfolding list_from
getD_list_from i zero f j h = absurd (omega arith)
getD_list_from i (suc k) f zero h = let e : i + 0 ≡ i = omega arith in rw e
getD_list_from i (suc k) f (suc j) h =
    let e : i + suc j ≡ suc i + j = omega arith in
    rw e (getD_list_from (suc i) k f j (omega arith))

pub at-flat_vector : (n : ℕ) (B : ℕ → ℤ) (i : ℕ) → n ≤ 16 → i < n → at (flat_vector n B) i ≡ B i
at-flat_vector n B i h l =
    let e : 0 + i ≡ i = omega arith in
    getD_list_from 0 16 (λ i. cond (ltb i n) (B i) (pos 0)) i (omega arith) ∙ rw (e, lt-ltb i n l)

pub entry-flat_matrix : (n : ℕ) (G : ℕ → ℕ → ℤ) (i j : ℕ) → n ≤ 16 → i < n → j < n → entry (flat_matrix n G) i j ≡ G i j
entry-flat_matrix n G i j h l m =
    let e : 0 + (16 * i + j) ≡ 16 * i + j = omega arith in
    let a : (16 * i + j) / 16 ≡ i = omega arith in
    let b : (16 * i + j) % 16 ≡ j = omega arith in
    getD_list_from 0 256 (λ k. cond (ltb (k / 16) n && ltb (k % 16) n) (G (k / 16) (k % 16)) (pos 0)) (16 * i + j) (omega arith)
    ∙ rw (e, a, b, lt-ltb i n l, lt-ltb j n m)
