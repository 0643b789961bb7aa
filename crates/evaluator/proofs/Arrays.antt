-- A list whose first words are replaced, one after the other. Cited by the proofs of `readings_from` and
-- `put_readings`.
use mathlib.Core.Path.{◌≡◌, refl, sym, ap, ◌∙◌}
use mathlib.Core.List.{List, ◌++◌}
use Prim.Native.Nat.{ℕ, ◌+◌, ◌-◌, ◌<◌, ◌≤◌}
use native.Mathlib.Nat.{zero-add, add-zero}
use native.Mathlib.Numerals.{add-one}
use native.Mathlib.Omega.{arith}
use lib.IntN.{ℤ, pos}
use lib.ListN.{length, set, take, drop, get_or}
use lib.Seq.{take_all, paste-suc}
use Rattle.std.proofs.lemmas.List.{get_or-append_right, get_or-drop, length-take-le, drop_all, append-nil}
use Rattle.integers.specs.Flat.{at, list_from}
use Rattle.integers.proofs.Flat.{length-list_from, getD_list_from}

-- ---- a list whose first words are replaced, one after the other

copy_turn : (d v : List ℤ) {out : List ℤ} (i : ℕ) {z : ℤ} → i < length v → length v ≤ length d → out ≡ take i v ++ drop i d → z ≡ get_or v i (pos 0)
    → set out i z ≡ take (i + 1) v ++ drop (i + 1) d
copy_turn d v i h l e f = rw (e, f, add-one) (simp zero-add at (paste-suc d 0 v i (pos 0) (rw zero-add (omega arith)) h))

-- a word of a list of f's values
listed : (f : ℕ → ℤ) (i k j : ℕ) (l : List ℤ) {x : ℤ} → j < k → l ≡ list_from i k f → x ≡ at l j → x ≡ f (i + j)
listed f i k j l h e g = g ∙ ap (λ t. at t j) e ∙ getD_list_from i k f j h

module _ (d : List ℤ) (n : ℕ) (f : ℕ → ℤ) where
  abbrev pub replaced : ℕ → List ℤ
  replaced i = take i (list_from 0 n f) ++ drop i d

  replaced_next : (out : List ℤ) (i : ℕ) (x : ℤ) → i < n → n ≤ length d → out ≡ replaced i → x ≡ f i → set out i x ≡ replaced (i + 1)
  replaced_next out i x l h e g =
      let a : 0 + i ≡ i = omega arith in
      let m : length (list_from 0 n f) ≡ n = length-list_from 0 n f in
      copy_turn d (list_from 0 n f) i (rw m l) (rw m h) e (g ∙ sym (getD_list_from 0 n f i l ∙ ap f a))

  -- two words, which a list of two holds
  pub replaced_two : (out : List ℤ) (i : ℕ) (two : List ℤ) {x y : ℤ} → i + 1 < n → n ≤ length d → out ≡ replaced i → two ≡ list_from i 2 f
      → x ≡ at two 0 → y ≡ at two 1 → set (set out i x) (i + 1) y ≡ replaced (i + 2)
  replaced_two out i two {x} {y} l h e g a b =
      let p : i + 1 + 1 ≡ i + 2 = omega arith in
      rw p at
      (replaced_next (set out i x) (i + 1) y l h (replaced_next out i x (omega arith) h e (listed f i 2 0 two (omega arith) g a ∙ ap f (add-zero i))) (listed f i 2 1 two (omega arith) g b))

  pub replaced_all : (out : List ℤ) (i : ℕ) → i ≡ n → out ≡ replaced i → out ≡ list_from 0 n f ++ drop n d
  replaced_all out i e g = g ∙ rw (e, take_all n (list_from 0 n f) (omega (arith, length-list_from 0 n f))) refl

  -- the last word alone, which a list of one holds
  pub replaced_last : (out : List ℤ) (i : ℕ) (one : List ℤ) {x : ℤ} → i < n → n ≤ i + 1 → n ≤ length d → out ≡ replaced i → one ≡ list_from i 1 f
      → x ≡ at one 0 → set out i x ≡ list_from 0 n f ++ drop n d
  replaced_last out i one {x} l m h e g a =
      replaced_all (set out i x) (i + 1) (omega arith) (replaced_next out i x l h e (listed f i 1 0 one (omega arith) g a ∙ ap f (add-zero i)))

-- ---- the words of a list turn from f's values to g's, one after the other

abbrev pub turned : (i n : ℕ) (g f : ℕ → ℤ) (t : ℕ) → List ℤ
turned i n g f t = take t (list_from i n g) ++ drop t (list_from i n f)

module _ (i n : ℕ) (g f : ℕ → ℤ) (y : List ℤ) (t : ℕ) (e : y ≡ turned i n g f t) where
  -- the next word is still f's
  pub turned_at : t < n → at y t ≡ f (i + t)
  turned_at l =
      let m : length (list_from i n g) ≡ n = length-list_from i n g in
      let p : t + (t - t) ≡ t = omega arith in
      ap (λ z. at z t) e ∙ get_or-append_right (take t (list_from i n g)) (drop t (list_from i n f)) t t (pos 0) (length-take-le t (list_from i n g) (omega arith)) (omega arith)
      ∙ get_or-drop t (list_from i n f) (t - t) (pos 0) ∙ ap (at (list_from i n f)) p ∙ getD_list_from i n f t l

  pub turned_next : (x : ℤ) → t < n → x ≡ g (i + t) → set y t x ≡ turned i n g f (t + 1)
  turned_next x l h =
      copy_turn (list_from i n f) (list_from i n g) t (rw (length-list_from i n g) l) (omega (arith, length-list_from i n g, length-list_from i n f)) e
      (h ∙ sym (getD_list_from i n g t l))

  pub turned_all : t ≡ n → y ≡ list_from i n g
  turned_all p =
      e ∙ rw (p, take_all n (list_from i n g) (omega (arith, length-list_from i n g)), drop_all n (list_from i n f) (omega (arith, length-list_from i n f))) (append-nil _)
