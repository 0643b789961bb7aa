-- Orders and bounds of ℤ with sums and products inside, by `omega`. The unknowns are listed once;
-- `search lins` reads each side, and what is left is an order of natural numbers.
--
--   linear : (z g : ℤ) → nat_abs z ≤ 8 → nat_abs g ≤ 60 → (pos 16 *ℤ (z +ℤ g)) ≤ℤ pos 1088
--   linear z g h k =
--    by_le (z ∷ g ∷ []) (search lins depth 9) (search lins depth 9) (omega (arith, abs_parts z, abs_parts g))
--
-- A hypothesis of ℤ goes into `omega`'s list by `use_le`, `use_lt` or `use_eq` with the same unknowns, a
-- bound on an absolute value by `abs_parts`. Both sides of ≤ℤ and <ℤ stand in parentheses: these bind tighter
-- than +ℤ.
use mathlib.Core.Path.{◌≡◌}
use mathlib.Core.List.{List}
use Prim.Native.Nat.{ℕ, ◌+◌, ◌*◌, ◌<◌, ◌≤◌}
use native.Mathlib.Omega.{arith}
use lib.IntN.{ℤ, pos, negsuc, neg_ℤ, nat_abs, ◌+ℤ◌, ◌*ℤ◌}
use lib.Signed.{◌≤ℤ◌, ◌<ℤ◌}
use Rattle.integers.proofs.Parts.{pos_part, neg_part, Difference, of_var, of_pos, of_negsuc, of_neg, of_add, of_mul}
use Rattle.integers.proofs.Order.{le_by, lt_by, of_le, of_lt, of_eq}
use Rattle.integers.specs.Sum.{Within}
use Rattle.integers.proofs.Absolute.{abs_le}
use Rattle.integers.proofs.Normal.{At, here, there}

-- z as a difference of natural numbers, in the parts of the unknowns ρ
pub record Lin (ρ : List ℤ) (z : ℤ) : Type 0 where
  pub at : Difference z

abbrev pub lin_var : {ρ : List ℤ} {z : ℤ} → At ρ z → Lin ρ z
lin_var {ρ} {z} r = record { at = of_var z }

abbrev pub lin_pos : {ρ : List ℤ} (k : ℕ) → Lin ρ (pos k)
lin_pos k = record { at = of_pos k }

abbrev pub lin_negsuc : {ρ : List ℤ} (k : ℕ) → Lin ρ (negsuc k)
lin_negsuc k = record { at = of_negsuc k }

abbrev pub lin_add : {ρ : List ℤ} {a b : ℤ} → Lin ρ a → Lin ρ b → Lin ρ (a +ℤ b)
lin_add r s = record { at = of_add r.at s.at }

abbrev pub lin_mul : {ρ : List ℤ} {a b : ℤ} → Lin ρ a → Lin ρ b → Lin ρ (a *ℤ b)
lin_mul r s = record { at = of_mul r.at s.at }

abbrev pub lin_neg : {ρ : List ℤ} {a : ℤ} → Lin ρ a → Lin ρ (neg_ℤ a)
lin_neg r = record { at = of_neg r.at }

pub ruleset lins = (lin_add, lin_mul, lin_neg, lin_pos, lin_negsuc, lin_var, here, there)

both_sides : (a : ℤ) (B p n : ℕ) → pos_part a + n ≡ p + neg_part a → (p ≤ n + B) × (n ≤ p + B) → nat_abs a ≤ B
both_sides a B p n e h = let l : 1 * nat_abs a ≤ B = abs_le 1 a B (omega arith) (omega arith) in omega arith

module _ (ρ : List ℤ) where
  -- ---- to prove
  pub by_le : {a b : ℤ} (r : Lin ρ a) (s : Lin ρ b) → r.at.p + s.at.n ≤ s.at.p + r.at.n → a ≤ℤ b
  by_le r s e = le_by r.at s.at e

  pub by_lt : {a b : ℤ} (r : Lin ρ a) (s : Lin ρ b) → r.at.p + s.at.n < s.at.p + r.at.n → a <ℤ b
  by_lt r s e = lt_by r.at s.at e

  pub by_abs : (a : ℤ) {B : ℕ} (r : Lin ρ a) → (r.at.p ≤ r.at.n + B) × (r.at.n ≤ r.at.p + B) → nat_abs a ≤ B
  by_abs a {B} r h = both_sides a B r.at.p r.at.n r.at.is h

  pub by_within : {a : ℤ} {B : ℕ} (r : Lin ρ a) → (r.at.p ≤ r.at.n + B) × (r.at.n ≤ r.at.p + B) → Within a B
  by_within {a} {B} r h = record { abs = by_abs a r h }

  -- ---- to use
  pub use_eq : {a b : ℤ} → a ≡ b → (r : Lin ρ a) (s : Lin ρ b) → r.at.p + s.at.n ≡ s.at.p + r.at.n
  use_eq h r s = of_eq r.at s.at h

  pub use_le : {a b : ℤ} → a ≤ℤ b → (r : Lin ρ a) (s : Lin ρ b) → r.at.p + s.at.n ≤ s.at.p + r.at.n
  use_le h r s = of_le r.at s.at h

  pub use_lt : {a b : ℤ} → a <ℤ b → (r : Lin ρ a) (s : Lin ρ b) → r.at.p + s.at.n < s.at.p + r.at.n
  use_lt h r s = of_lt r.at s.at h
