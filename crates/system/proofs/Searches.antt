-- What the searches for a heavy row and for a large residual find; and for callers, what a search for heavy
-- rows that finds none says of every row, and that it looks at rows and columns below the order only.
use mathlib.Core.Path.{◌≡◌, sym, ap}
use mathlib.Core.Bool.{true, not}
use mathlib.Core.List.{List}
use mathlib.Core.Logic.{◌↔◌}
use Prim.Native.Nat.{ℕ, ◌<◌, ◌≤◌}
use borrow.Author.Tests.{not-false}
use lib.IntN.{ℤ, pos, nat_abs}
use Rattle.integers.specs.Flat.{at, entry, flat_matrix}
use Rattle.integers.proofs.Flat.{entry-flat_matrix}
use Rattle.integers.specs.Sum.{weight}
use Rattle.integers.proofs.Product.{weight_ext}
use Rattle.job.specs.Header.{Limits}
use Rattle.system.specs.Rows.{first_row, light_enough, residual_kept, heavy_row, large_residual}
use Rattle.system.specs.Inner.{largest_light, residual_most, too_heavy, too_large}
use Rattle.job.specs.declared.Header.{Header}
use Rattle.system.proofs.FirstRow.{first_row-none, first_row_ext}
use Rattle.system.proofs.Light.{light_is, residual_is, not_leb}

-- ---- what the searches find: an array's rows with a limit L, and a vector's numbers with a bound M

pub heavy_found : (h : Header) (g : List ℤ) → Limits h → (L : ℤ) → L ≡ pos (largest_light h)
    → first_row h.n (too_heavy L h.n g) ≡ heavy_row h (entry g)
heavy_found h g l L e =
    first_row_ext h.n (too_heavy L h.n g) (λ i. not (light_enough h (weight h.n (entry g i))))
    (λ i k. rw (e, light_is l (weight h.n (entry g i))) (sym (not_leb (weight h.n (entry g i)) (largest_light h))))

pub residual_found : (h : Header) (s : ℕ) (z : List ℤ) (M : ℤ) → M ≡ pos (residual_most h s)
    → first_row h.n (too_large M z) ≡ large_residual h s (at z)
residual_found h s z M e =
    first_row_ext h.n (too_large M z) (λ i. not (residual_kept h s (at z i)))
    (λ i k. rw (e, residual_is h s (at z i)) (sym (not_leb (nat_abs (at z i)) (residual_most h s))))

-- ---- for callers

-- no row is found exactly where every row is light enough
pub none-heavy : (h : Header) (G : ℕ → ℕ → ℤ) → (heavy_row h G ≡ 0) ↔ ((i : ℕ) → i < h.n → light_enough h (weight h.n (G i)) ≡ true)
none-heavy h G =
    let none = first_row-none (λ i. not (light_enough h (weight h.n (G i)))) h.n in (
      (λ e i l. not-false (light_enough h (weight h.n (G i))) ((none.0 e).never i l)),
      (λ light. none.1 (record { never = λ i l. ap not (light i l) })),
    )

-- an array that holds a matrix gives the matrix's heavy row
pub heavy_flat : (h : Header) (G : ℕ → ℕ → ℤ) → h.n ≤ 16 → heavy_row h (entry (flat_matrix h.n G)) ≡ heavy_row h G
heavy_flat h G l =
    first_row_ext h.n (λ i. not (light_enough h (weight h.n (entry (flat_matrix h.n G) i)))) (λ i. not (light_enough h (weight h.n (G i))))
    (λ i p. ap (λ S. not (light_enough h S)) (weight_ext h.n (entry (flat_matrix h.n G) i) (G i) (λ j q. entry-flat_matrix h.n G i j l p q)))
