-- Digits stored one after the other, and zeros stored where zeros stand. Assumes nothing.
use mathlib.Core.Path.{◌≡◌, refl, sym, ap, ◌∙◌}
use mathlib.Core.List.{List, [], ◌∷◌, ◌++◌, append_assoc}
use mathlib.Core.Logic.{inr}
use Prim.Native.Nat.{ℕ, zero, suc, ◌+◌, ◌-◌, ◌<◌, ◌≤◌}
use native.Mathlib.Numerals.{add-one}
use native.Mathlib.Omega.{arith}
use lib.IntN.{ℤ, pos}
use borrow.Rule.Slice.PartMut.{put_mid}
use lib.ListN.{length, take, drop, set, replicate, length-drop}
use lib.Seq.{sets, sets-eq, ext_get_or, drop-drop, length-take-le}
use Rattle.std.proofs.lemmas.List.{get_or-take, get_or-drop}
use Rattle.integers.specs.Flat.{at, list_from}
use Rattle.integers.proofs.Flat.{length-list_from, getD_list_from}
use Rattle.trace.proofs.Digits.{at_sets_other, sets_append}
use Rattle.trace.specs.Inner.{ZerosAt, digits_from}

-- ---- lists

pub list_from-more : (i k : ℕ) (f : ℕ → ℤ) → list_from i (suc k) f ≡ list_from i k f ++ (f (i + k) ∷ [])
unfolding list_from
list_from-more i zero f = let e : i + 0 ≡ i = omega arith in rw e
list_from-more i (suc k) f = let e : i + suc k ≡ suc i + k = omega arith in rw e (ap (λ (l : List ℤ). f i ∷ l) (list_from-more (suc i) k f))

-- ---- digits stored one after the other

-- a turn: one more
pub store_turn : (d₀ d : List ℤ) (i x : ℕ) (f : ℕ → ℤ) (z : ℤ) → d ≡ sets d₀ i (list_from 0 x f) → z ≡ f x → set d (i + x) z ≡ sets d₀ i (list_from 0 (x + 1) f)
store_turn d₀ d i x f z e g =
    let o : 0 + x ≡ x = omega arith in
    rw (e, g, add-one, list_from-more 0 x f, o)
    (sym (sets_append d₀ i (list_from 0 x f) (f x ∷ []) ∙ rw (length-list_from 0 x f)))

-- digits of one array in the place of as many of another
read_off : (s : List ℤ) (i n : ℕ) → i + n ≤ length s → take n (drop i s) ≡ digits_from s i n
read_off s i n h =
    ext_get_or (pos 0) (take n (drop i s)) (digits_from s i n) (size ∙ sym (length-list_from 0 n (λ x. at s (i + x)))) (λ k l. same k (rw size at l))
  where
    size : length (take n (drop i s)) ≡ n
    size = length-take-le n (drop i s) (omega (arith, length-drop i s))

    same : (k : ℕ) → k < n → at (take n (drop i s)) k ≡ at (digits_from s i n) k
    same k l =
        let z : 0 + k ≡ k = omega arith in
        get_or-take n (drop i s) k (pos 0) l ∙ get_or-drop i s k (pos 0) ∙ sym (getD_list_from 0 n (λ x. at s (i + x)) k l ∙ ap (λ x. at s (i + x)) z)

pub copied : (d s part : List ℤ) (to from n : ℕ) → to + n ≤ length d → from + n ≤ length s → part ≡ take (from + n - from) (drop from s)
    → put_mid to (to + n - to) d part ≡ sets d to (digits_from s from n)
copied d s part to from n k h p =
    let a : to + n - to ≡ n = omega arith in
    let b : from + n - from ≡ n = omega arith in
    let size : length (digits_from s from n) ≡ n = length-list_from 0 n (λ x. at s (from + x)) in
    let room : to + length (digits_from s from n) ≤ length d = rw size k in
    rw (a, p, b, read_off s from n h, drop-drop n to d)
    (sym (sets-eq (digits_from s from n) d to room ∙ rw size (append_assoc (take to d) (digits_from s from n) (drop (to + n) d))))

-- ---- zeros stored where zeros stand

-- a zero stored where one stands
set-none : (d : List ℤ) (i : ℕ) → at d i ≡ pos 0 → set d i (pos 0) ≡ d
set-none [] i e = refl
set-none (x ∷ d) zero e = rw e
set-none (x ∷ d) (suc i) e = ap (λ (l : List ℤ). x ∷ l) (set-none d i e)

pub sets_none : (d : List ℤ) (i m : ℕ) → ZerosAt d i m → sets d i (replicate m (pos 0)) ≡ d
sets_none d i zero h = refl
sets_none d i (suc m) h =
    let o : i + 0 ≡ i = omega arith in
    let e : set d i (pos 0) ≡ d = set-none d i (rw o at (h.each_zero 0 (omega arith))) in
    ap (λ (l : List ℤ). sets l (suc i) (replicate m (pos 0))) e
    ∙ sets_none d (suc i) m (record { each_zero = λ x l. let q : i + suc x ≡ suc i + x = omega arith in rw q at (h.each_zero (suc x) (omega arith)) })

-- places past what is stored stay clear
pub clear_past : {d : List ℤ} {i m : ℕ} (vs : List ℤ) (c : ℕ) → length vs ≡ c → c ≤ m → ZerosAt d i m → ZerosAt (sets d i vs) (i + c) (m - c)
clear_past {d} {i} {m} vs c e l h = record {
  each_zero = λ x g.
      let q : i + c + x ≡ i + (c + x) = omega arith in
      at_sets_other d i vs (i + c + x) (inr (rw e (omega arith))) ∙ rw q (h.each_zero (c + x) (omega arith));
}

pub clear_front : {d : List ℤ} {i m : ℕ} (c : ℕ) → c ≤ m → ZerosAt d i m → ZerosAt d i c
clear_front c l h = record { each_zero = λ x g. h.each_zero x (omega arith) }
