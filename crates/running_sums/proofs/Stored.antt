-- Words stored one after the other. Cited by the proof of `put_column`.
use mathlib.Core.Path.{◌≡◌, refl}
use mathlib.Core.List.{List}
use Prim.Native.Nat.{ℕ, suc, ◌+◌, ◌-◌, ◌<◌, ◌≤◌}
use native.Mathlib.Omega.{arith}
use lib.IntN.{ℤ}
use lib.ListN.{set}
use lib.Seq.{sets}
use Rattle.integers.specs.Flat.{list_from}

-- the words f 0, f 1, .. of the first n stored into `given` from the word `to` on
module _ (f : ℕ → ℤ) (n to : ℕ) (given : List ℤ) where
  -- some are: `out` is a list into which those from the i-th on are left to be stored
  abbrev pub Left : (out : List ℤ) (i : ℕ) → Type 0
  Left out i = sets out (to + i) (list_from i (n - i) f) ≡ sets given to (list_from 0 n f)

  pub all_left : Left given 0
  all_left = let e : to + 0 ≡ to = omega arith in let k : n - 0 ≡ n = omega arith in rw (e, k) refl

  -- the next is stored
  pub fewer_left : (out : List ℤ) (i : ℕ) (x : ℤ) → i < n → x ≡ f i → Left out i → Left (set out (to + i) x) (i + 1)
  unfolding list_from
  fewer_left out i x l e h =
      let k : n - i ≡ suc (n - (i + 1)) = omega arith in
      let p : to + (i + 1) ≡ suc (to + i) = omega arith in
      let q : i + 1 ≡ suc i = omega arith in
      rw (e, p) (rw q (rw (k, q) at h))

  pub none_left : (out : List ℤ) (i : ℕ) → n ≤ i → Left out i → out ≡ sets given to (list_from 0 n f)
  unfolding list_from
  none_left out i l h = let k : n - i ≡ 0 = omega arith in rw k at h
