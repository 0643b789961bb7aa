-- Only the rows below n of a solution count. Cited by the exact values of curves.
use mathlib.Core.Path.{◌≡◌, refl}
use Prim.Native.Nat.{ℕ, ◌<◌}
use lib.IntN.{ℤ}
use Rattle.integers.proofs.Product.{dot_ext}
use Rattle.recurrence.specs.Recurrence.{Solves}

pub solves_ext : {n u D : ℕ} {G : ℕ → ℕ → ℤ} {B N M : ℕ → ℤ} → ((j : ℕ) → j < n → M j ≡ N j) → Solves n u D G B N → Solves n u D G B M
solves_ext {n} {u} {D} {G} {B} {N} {M} h s =
    record { solves = λ i l. rw (h i l, dot_ext n (G i) (G i) M N (λ j k. refl) h) (s.solves i l) }
