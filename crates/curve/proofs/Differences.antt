-- The system of a curve in another form, u N_i - x N_(i+1) = D p_i - N_0 q_i for i below n, with N_n = 0:
-- what N_0 / D is in every solution, by a telescoping sum, and a solution, by back substitution. The system
-- itself is brought to this form in `Rows`; cited by `Value`.
use mathlib.Core.Path.{◌≡◌, refl, sym, ◌∙◌}
use mathlib.Core.List.{[], ◌∷◌}
use Prim.Native.Nat.{ℕ, suc, ◌<◌}
use native.Mathlib.Omega.{arith}
use lib.IntN.{ℤ, pos, ◌+ℤ◌, ◌-ℤ◌, ◌*ℤ◌}
use Rattle.integers.proofs.Normal.{solve, polys}
use Rattle.integers.specs.Sum.{◌^ℤ◌}
use Rattle.curve.proofs.Horner.{horner, horner_lin, telescope, back, back_first, back_end, back_row}

pub record Differences (n : ℕ) (u x : ℤ) (p q : ℕ → ℤ) (D : ℤ) (N : ℕ → ℤ) : Type 0 where
  pub ends : N n ≡ pos 0
  pub row : (i : ℕ) → i < n → u *ℤ N i -ℤ x *ℤ N (suc i) ≡ D *ℤ p i -ℤ N 0 *ℤ q i

module _ (n : ℕ) (u x : ℤ) (p q : ℕ → ℤ) where
  -- the curve's numerator and denominator, as `Curve` has them
  abbrev P : ℤ
  P = horner x u p n 0

  abbrev Q : ℤ
  Q = u ^ℤ n +ℤ horner x u q n 0

  -- Multiply row i by x^i u^(n-1-i) and add: on the left only u^n N_0 stays.
  pub first_value : (D : ℤ) (N : ℕ → ℤ) → Differences n u x p q D N → Q *ℤ N 0 ≡ P *ℤ D
  first_value D N s =
      collect (u ^ℤ n) (x ^ℤ n) (N 0) (N n) P (horner x u q n 0) s.ends
      (sym (telescope x u N n) ∙ horner_lin x u p q (λ i. u *ℤ N i -ℤ x *ℤ N (suc i)) D (N 0) n 0 (λ t l. s.row t (omega arith)))
    where
      apart : (y z a h : ℤ) → (y +ℤ h) *ℤ a ≡ (y *ℤ a -ℤ z *ℤ pos 0) +ℤ h *ℤ a
      apart y z a h = solve (y ∷ z ∷ a ∷ h ∷ []) (search polys depth 9) (search polys depth 9) tt

      collect : (y z a b g h : ℤ) → b ≡ pos 0 → y *ℤ a -ℤ z *ℤ b ≡ D *ℤ g -ℤ a *ℤ h → (y +ℤ h) *ℤ a ≡ g *ℤ D
      collect y z a b g h e f =
          apart y z a h ∙ rw (rw e at f) (solve (a ∷ g ∷ h ∷ D ∷ []) (search polys depth 12) (search polys depth 12) tt)

  -- Back substitution from the coefficients Q p_i - P q_i gives a solution, with N_0 = P u^n and D = Q u^n.
  abbrev mixed : ℕ → ℤ
  mixed i = Q *ℤ p i -ℤ P *ℤ q i

  abbrev pub found : ℕ → ℤ
  found = back x u n mixed

  found_first : found 0 ≡ P *ℤ u ^ℤ n
  found_first =
      back_first x u n mixed
      ∙ horner_lin x u p q mixed Q P n 0 (λ t l. refl)
      ∙ solve ((u ^ℤ n) ∷ P ∷ horner x u q n 0 ∷ []) (search polys depth 12) (search polys depth 12) tt

  pub found_solves : Differences n u x p q (Q *ℤ u ^ℤ n) found
  found_solves =
      record {
        ends = back_end x u n mixed;
        row = λ i l. back_row x u n mixed i l ∙ rw found_first (spread Q P (p i) (q i) (u ^ℤ n));
      }
    where
      spread : (a b c d y : ℤ) → (a *ℤ c -ℤ b *ℤ d) *ℤ y ≡ (a *ℤ y) *ℤ c -ℤ (b *ℤ y) *ℤ d
      spread a b c d y = solve (a ∷ b ∷ c ∷ d ∷ y ∷ []) (search polys depth 12) (search polys depth 12) tt
