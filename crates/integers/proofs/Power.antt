-- Laws of powers of a whole number, and positive factors that cancel.
use mathlib.Core.Path.{◌≡◌, sym, ap, ◌∙◌}
use mathlib.Core.List.{[], ◌∷◌}
use Prim.Native.Nat.{ℕ, zero, suc, ◌+◌, ◌*◌, ◌<◌, ◌^◌}
use native.Mathlib.Nat.{pow-zero, pow-succ', one-le-pow, le_of_mul-le-mul_left}
use lib.Pow as powers
use native.Mathlib.Omega.{arith}
use lib.IntN.{ℤ, pos, nat_abs, ◌-ℤ◌, ◌*ℤ◌}
use lib.Signed.{◌<ℤ◌}
use Rattle.integers.proofs.Order.{zarith}
use Rattle.integers.proofs.Absolute.{abs-mul, abs_positive, eq_of_abs-sub}
use Rattle.integers.proofs.Ring.{*ℤ-assoc, one-*ℤ}
use Rattle.integers.proofs.Normal.{solve, polys}
use Rattle.integers.specs.Sum.{◌^ℤ◌}

-- at a natural number it is the power of ℕ
pub pow_pos : (u k : ℕ) → pos u ^ℤ k ≡ pos (u ^ k)
pow_pos u zero = ap pos (sym (pow-zero u))
pow_pos u (suc k) = rw (pow_pos u k, pow-succ')

pub pow-add : (u : ℤ) (i k : ℕ) → u ^ℤ (i + k) ≡ u ^ℤ i *ℤ u ^ℤ k
pow-add u zero k = let e : 0 + k ≡ k = omega arith in rw e (sym (one-*ℤ (u ^ℤ k)))
pow-add u (suc i) k =
    let e : suc i + k ≡ suc (i + k) = omega arith in
    rw (e, pow-add u i k) (sym (*ℤ-assoc u (u ^ℤ i) (u ^ℤ k)))

pub pow_positive : (u k : ℕ) → 0 < u → pos 0 <ℤ (pos u ^ℤ k)
pow_positive u k h = rw (pow_pos u k) (let l = one-le-pow k u h in omega zarith)

-- a power of a power, of natural numbers
pub pow-pow : (a m k : ℕ) → (a ^ m) ^ k ≡ a ^ (k * m)
pow-pow a m zero = let e : 0 * m ≡ 0 = omega arith in rw (pow-zero (a ^ m), e, pow-zero a)
pow-pow a m (suc k) = let e : suc k * m ≡ m + k * m = omega arith in rw (pow-succ' (a ^ m) k, e, pow-pow a m k, powers.pow-add a m (k * m))

-- a positive factor cancels
pub cancel : {d a b : ℤ} → pos 0 <ℤ d → d *ℤ a ≡ d *ℤ b → a ≡ b
cancel {d} {a} {b} h e =
    eq_of_abs-sub a b (le_of_mul-le-mul_left {m = nat_abs (a -ℤ b)} {n = 0} {k = nat_abs d} (omega (arith, abs-mul d (a -ℤ b), ap nat_abs none)) (abs_positive h))
  where
    apart : d *ℤ (a -ℤ b) ≡ d *ℤ a -ℤ d *ℤ b
    apart = solve (d ∷ a ∷ b ∷ []) (search polys depth 12) (search polys depth 12) tt

    none : d *ℤ (a -ℤ b) ≡ pos 0
    none = apart ∙ rw e (solve (d ∷ b ∷ []) (search polys depth 12) (search polys depth 12) tt)
