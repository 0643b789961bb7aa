-- The digits of step after step, over the code's variables: their places, and a turn of each loop. Assumes
-- nothing.
use mathlib.Core.Path.{◌≡◌, sym, ◌∙◌}
use mathlib.Core.List.{List}
use mathlib.Core.Logic.{inl}
use Prim.Native.Nat.{ℕ, ◌+◌, ◌*◌, ◌<◌, ◌≤◌}
use native.Mathlib.Nat.{mul-le-mul, mul-suc}
use native.Mathlib.Numerals.{add-one}
use native.Mathlib.Omega.{arith}
use lib.IntN.{ℤ}
use lib.Seq.{sets}
use Rattle.integers.specs.Flat.{at}
use Rattle.integers.proofs.Flat.{length-list_from, getD_list_from}
use Rattle.bitfields.specs.Twos.{numbers}
use Rattle.bitfields.proofs.Steps.{step_le}
use Rattle.bitfields.proofs.Twos.{getD_numbers, length-numbers}
use Rattle.trace.proofs.Digits.{digit_array-more, entry-digit_list, entry-none, place_lt}
use Rattle.trace.specs.Trace.{digit_list, digit_array}
use Rattle.trace.specs.Inner.{digits_from, ZerosAt}

-- ---- step after step

-- the place of step j + 1, and that there is room for it
pub place_next : (m n j p : ℕ) → p ≡ m + 5 * (n * j) → p + 5 * n ≡ m + 5 * (n * (j + 1))
place_next m n j p e = rw e (omega (arith, mul-suc n j))

pub place_room : (n k j : ℕ) → j < k → 5 * (n * j) + 5 * n ≤ 5 * (n * k)
place_room n k j h = omega (arith, step_le n j k h)

pub digit_count : (n j : ℕ) → n ≤ 16 → j ≤ 60 → n * j ≤ 960
digit_count n j h l = mul-le-mul h l

-- the places of the next step are clear
pub step_clear : (d v : List ℤ) (n j : ℕ) → j < 60 → d ≡ digit_array n j v → ZerosAt d (16 * j) 16
step_clear d v n j l e = record { each_zero = λ x h. rw e (entry-none n j v j x l h (inl (omega arith))) }

-- a turn: one more step
pub digits_read_turn : (s : List ℕ) (d e : List ℤ) (n k j p : ℕ) → n ≤ 16 → k ≤ 60 → j < k → p ≡ 6 + 5 * (n * j)
    → d ≡ digit_array n j (numbers s 6 5 (n * k)) → e ≡ sets d (16 * j) (numbers s p 5 n) → e ≡ digit_array n (j + 1) (numbers s 6 5 (n * k))
digits_read_turn s d e n k j p a b l f g h =
    h ∙ rw (g, add-one)
    (digit_array-more n j (numbers s 6 5 (n * k)) (numbers s p 5 n) a (omega arith) (length-numbers s p 5 n)
    (λ i m.
    let q : p + 5 * i ≡ 6 + 5 * (n * j + i) = omega arith in
    getD_numbers s p 5 n i m ∙ rw q (sym (getD_numbers s 6 5 (n * k) (n * j + i) (place_lt n k j i l m)))))

pub trimmed_turn : (ds d e : List ℤ) (n k j : ℕ) → n ≤ 16 → k ≤ 60 → j < k
    → d ≡ digit_array n j (digit_list n k ds) → e ≡ sets d (16 * j) (digits_from ds (16 * j) n) → e ≡ digit_array n (j + 1) (digit_list n k ds)
trimmed_turn ds d e n k j a b l g h =
    h ∙ rw (g, add-one)
    (digit_array-more n j (digit_list n k ds) (digits_from ds (16 * j) n) a (omega arith) (length-list_from 0 n (λ x. at ds (16 * j + x)))
    (λ i m.
    let o : 0 + i ≡ i = omega arith in
    getD_list_from 0 n (λ x. at ds (16 * j + x)) i m ∙ rw o (sym (entry-digit_list n k ds j i l m))))
