-- Weighing by the room that is left below a limit, which no i64 breaks, and numbers of a magnitude above a
-- bound. Cited by the proofs of `first_heavy` and `first_large`.
use mathlib.Core.Path.{◌≡◌, refl, sym, ◌∙◌}
use mathlib.Core.Bool.{Bool, true, false}
use mathlib.Core.List.{List}
use Prim.Native.Nat.{ℕ, zero, suc, ◌+◌, ◌-◌, ◌<◌, ◌≤◌, ◌^◌}
use native.Mathlib.Nat.{le_refl, add-zero, add-suc}
use native.Mathlib.Numerals.{add-one}
use native.Mathlib.Omega.{arith}
use borrow.Author.Tests.{lt-ltb, le-ltb}
use lib.Dec.{ltb, leb-suc-suc}
use lib.IntN.{ℤ, pos, negsuc, neg_ℤ, nat_abs, sub_ℕ, ◌+ℤ◌, ◌-ℤ◌, +ℤ_idl}
use lib.Signed.{mag, lt_z, ◌≤ℤ◌}
use mir.Syntax.{w64}
use mir.Val.{SFits, to_z, of_z}
use mir.Facts.{to_z-of_z}
use Rattle.integers.proofs.Parts.{cond_both, parts_add, pos_part_neg, neg_part_neg}
use Rattle.integers.proofs.Order.{zarith}
use Rattle.integers.specs.Flat.{at}
use Rattle.integers.specs.Sum.{weight}
use Rattle.integers.proofs.Product.{weight-zero, weight-suc}
use Rattle.system.specs.Inner.{too_large}

-- ---- an entry less: numbers that are not negative have a difference that fits

difference_fits : (a b : ℕ) → a < 2 ^ 63 → b < 2 ^ 63 → SFits w64 (sub_ℕ a (suc b))
difference_fits a b h k =
    cond_both (ltb a (suc b)) (negsuc (suc b - suc a)) (pos (a - suc b)) (λ z. SFits w64 z) (λ t. record { sfits = omega arith }) (λ t. record { sfits = omega arith })

less_negative : (room e : ℤ) → SFits w64 room → SFits w64 e → pos 0 ≤ℤ room → lt_z e (pos 0) ≡ true → SFits w64 (room +ℤ e)
less_negative (pos a) (negsuc b) f g h t = difference_fits a b f.sfits g.sfits
less_negative (pos a) (pos b) f g h t = absurd (omega (zarith, t))
less_negative (negsuc a) e f g h t = absurd h.le

less_positive : (room e : ℤ) → SFits w64 room → SFits w64 e → pos 0 ≤ℤ room → lt_z e (pos 0) ≡ false → SFits w64 (room -ℤ e)
less_positive (pos a) (pos zero) f g h t = let k : a < 2 ^ 63 = f.sfits in record { sfits = omega arith }
less_positive (pos a) (pos (suc b)) f g h t = let k : suc b < 2 ^ 63 = g.sfits in difference_fits a b f.sfits (omega arith)
less_positive (pos a) (negsuc b) f g h t = absurd (omega (zarith, t))
less_positive (negsuc a) e f g h t = absurd h.le

negative_is : (room e : ℤ) → lt_z e (pos 0) ≡ true → room +ℤ e ≡ room -ℤ pos (nat_abs e)
negative_is room (negsuc b) t = refl
negative_is room (pos b) t = absurd (omega (zarith, t))

positive_is : (room e : ℤ) → lt_z e (pos 0) ≡ false → room -ℤ e ≡ room -ℤ pos (nat_abs e)
positive_is room (pos b) t = refl
positive_is room (negsuc b) t = absurd (omega (zarith, t))

-- as the machine has them
module _ (room e : ℤ) (f : SFits w64 room) (g : SFits w64 e) (h : pos 0 ≤ℤ room) where
  pub add-fits : lt_z (to_z w64 (of_z w64 e)) (pos 0) ≡ true → SFits w64 (to_z w64 (of_z w64 room) +ℤ to_z w64 (of_z w64 e))
  add-fits t = rw (to_z-of_z f, to_z-of_z g) (less_negative room e f g h (rw (to_z-of_z g) at t))

  pub sub-fits : lt_z (to_z w64 (of_z w64 e)) (pos 0) ≡ false → SFits w64 (to_z w64 (of_z w64 room) -ℤ to_z w64 (of_z w64 e))
  sub-fits t = rw (to_z-of_z f, to_z-of_z g) (less_positive room e f g h (rw (to_z-of_z g) at t))

  pub room_plus : lt_z (to_z w64 (of_z w64 e)) (pos 0) ≡ true
      → to_z w64 (of_z w64 (to_z w64 (of_z w64 room) +ℤ to_z w64 (of_z w64 e))) ≡ room -ℤ pos (nat_abs e)
  room_plus t = to_z-of_z (add-fits t) ∙ rw (to_z-of_z f, to_z-of_z g) (negative_is room e (rw (to_z-of_z g) at t))

  pub room-minus : lt_z (to_z w64 (of_z w64 e)) (pos 0) ≡ false
      → to_z w64 (of_z w64 (to_z w64 (of_z w64 room) -ℤ to_z w64 (of_z w64 e))) ≡ room -ℤ pos (nat_abs e)
  room-minus t = to_z-of_z (sub-fits t) ∙ rw (to_z-of_z f, to_z-of_z g) (positive_is room e (rw (to_z-of_z g) at t))

-- ---- the room that is left

-- a part of a row, of weight w, leaves this room below the limit
pub record RoomLeft (limit room : ℤ) (w : ℕ) : Type 0 where
  pub left : pos 0 ≤ℤ room
  pub is : nat_abs room + w ≡ nat_abs limit

-- an entry of magnitude m more
room-more : (limit room next : ℤ) (w m : ℕ) → RoomLeft limit room w → next ≡ room -ℤ pos m → lt_z next (pos 0) ≡ false → RoomLeft limit next (w + m)
room-more limit (pos a) (pos b) w m r e t =
    record { left = omega zarith; is = omega (zarith, r.is, parts_add (pos a) (neg_ℤ (pos m)), pos_part_neg (pos m), neg_part_neg (pos m)) }
room-more limit (pos a) (negsuc b) w m r e t = absurd (omega (zarith, t))
room-more limit (negsuc a) next w m r e t = absurd r.left.le

room_gone : (limit room next : ℤ) (w m : ℕ) → RoomLeft limit room w → next ≡ room -ℤ pos m → lt_z next (pos 0) ≡ true → nat_abs limit < w + m
room_gone limit (pos a) (pos b) w m r e t = absurd (omega (zarith, t))
room_gone limit (pos a) (negsuc b) w m r e t = omega (zarith, r.is, parts_add (pos a) (neg_ℤ (pos m)), pos_part_neg (pos m), neg_part_neg (pos m))
room_gone limit (negsuc a) next w m r e t = absurd r.left.le

weight_grows : (j k : ℕ) (g : ℕ → ℤ) → weight j g ≤ weight (j + k) g
weight_grows j zero g = rw add-zero (le_refl (weight j g))
weight_grows j (suc k) g = rw add-suc (omega (arith, weight-suc (j + k) g, weight_grows j k g))

pub room-start : (limit : ℤ) (g : ℕ → ℤ) → pos 0 ≤ℤ limit → RoomLeft limit limit (weight 0 g)
room-start limit g h = record { left = h; is = omega (arith, weight-zero g) }

-- a whole row that leaves room is not too heavy
pub room-left : (limit room : ℤ) (g : ℕ → ℤ) (j n : ℕ) → RoomLeft limit room (weight j g) → j ≡ n → ltb (nat_abs limit) (weight n g) ≡ false
room-left limit room g j n r e = rw (← e) (le-ltb (nat_abs limit) (weight j g) (omega (arith, r.is)))

-- the room after one entry more, as the machine has it
module _ (limit room next : ℤ) (g : ℕ → ℤ) (j : ℕ) (r : RoomLeft limit room (weight j g)) (f : mag (g j) < 2 ^ 63) (k : mag next < 2 ^ 63)
    (e : next ≡ room -ℤ pos (nat_abs (to_z w64 (of_z w64 (g j))))) where
  entry_is : next ≡ room -ℤ pos (nat_abs (g j))
  entry_is = rw (to_z-of_z {w = w64} {z = g j} (record { sfits = f })) at e

  next_is : to_z w64 (of_z w64 next) ≡ next
  next_is = to_z-of_z {w = w64} {z = next} (record { sfits = k })

  pub room_next : lt_z (to_z w64 (of_z w64 next)) (pos 0) ≡ false → RoomLeft limit (to_z w64 (of_z w64 next)) (weight (j + 1) g)
  room_next t = rw (add-one, weight-suc, next_is) (room-more limit room next (weight j g) (nat_abs (g j)) r entry_is (rw next_is at t))

  -- none is left, whatever the rest of the row adds
  pub room_over : (n : ℕ) → j < n → lt_z (to_z w64 (of_z w64 next)) (pos 0) ≡ true → ltb (nat_abs limit) (weight n g) ≡ true
  room_over n l t =
      let q : suc j + (n - suc j) ≡ n = omega arith in
      lt-ltb (nat_abs limit) (weight n g)
      (omega (arith, room_gone limit room next (weight j g) (nat_abs (g j)) r entry_is (rw next_is at t), weight-suc j g, rw q at (weight_grows (suc j) (n - suc j) g)))

-- ---- a number above a bound

below_is : (bound e : ℤ) → pos 0 ≤ℤ bound → lt_z bound e ≡ false → lt_z e (neg_ℤ bound) ≡ ltb (nat_abs bound) (nat_abs e)
below_is (pos a) (pos b) h t = below_zero a ∙ sym t
  where
    below_zero : (a : ℕ) → lt_z (pos b) (neg_ℤ (pos a)) ≡ false
    below_zero zero = le-ltb b 0 (omega arith)
    below_zero (suc a) = refl
below_is (pos zero) (negsuc b) h t = sym (lt-ltb 0 (suc b) (omega arith))
below_is (pos (suc a)) (negsuc b) h t = sym (leb-suc-suc (suc a) b)
below_is (negsuc a) e h t = absurd h.le

above_is : (bound e : ℤ) → pos 0 ≤ℤ bound → lt_z bound e ≡ true → true ≡ ltb (nat_abs bound) (nat_abs e)
above_is (pos a) (pos b) h t = sym t
above_is (pos a) (negsuc b) h t = absurd (omega (zarith, t))
above_is (negsuc a) e h t = absurd h.le

-- as the machine has them
module _ (bound e : ℤ) (f : SFits w64 bound) (g : SFits w64 e) (h : pos 0 ≤ℤ bound) where
  pub negated_fits : SFits w64 (pos 0 -ℤ to_z w64 (of_z w64 bound))
  negated_fits = rw (to_z-of_z f) (less_positive (pos 0) bound (record { sfits = omega arith }) f (omega zarith) (nonnegative bound h))
    where
      nonnegative : (z : ℤ) → pos 0 ≤ℤ z → lt_z z (pos 0) ≡ false
      nonnegative (pos a) h = le-ltb a 0 (omega arith)
      nonnegative (negsuc a) h = absurd h.le

  pub above_high : lt_z (to_z w64 (of_z w64 bound)) (to_z w64 (of_z w64 e)) ≡ true → true ≡ ltb (nat_abs bound) (nat_abs e)
  above_high t = above_is bound e h (rw (to_z-of_z f, to_z-of_z g) at t)

  pub above_low : lt_z (to_z w64 (of_z w64 bound)) (to_z w64 (of_z w64 e)) ≡ false
      → lt_z (to_z w64 (of_z w64 e)) (to_z w64 (of_z w64 (pos 0 -ℤ to_z w64 (of_z w64 bound)))) ≡ ltb (nat_abs bound) (nat_abs e)
  above_low t = rw (to_z-of_z negated_fits, to_z-of_z f, to_z-of_z g, +ℤ_idl (neg_ℤ bound)) (below_is bound e h (rw (to_z-of_z f, to_z-of_z g) at t))

-- what the answer b for row i says of it
pub above_said : (half : ℤ) (z : List ℤ) (i : ℕ) (b t : Bool) → mag (at z i) < 2 ^ 63 → b ≡ ltb (nat_abs half) (nat_abs (to_z w64 (of_z w64 (at z i)))) → b ≡ t
    → too_large half z i ≡ t
above_said half z i b t f p q = rw (to_z-of_z {w = w64} {z = at z i} (record { sfits = f })) at (sym p ∙ q)
