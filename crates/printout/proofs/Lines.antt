-- Lines of items put into a buffer one after the other. Cited by the proofs of the functions that put the
-- lines.
use mathlib.Core.Path.{◌≡◌, refl, sym, ap, ◌∙◌}
use mathlib.Core.List.{List, [], ◌∷◌, ◌++◌, append_assoc, append-nil}
use Prim.Native.Nat.{ℕ, zero, suc, ◌+◌, ◌*◌, ◌^◌, ◌<◌, ◌≤◌}
use native.Mathlib.Numerals.{add-one}
use native.Mathlib.Omega.{arith}
use borrow.Author.Tests.{eq-eqb, ne_eqb}
use lib.IntN.{ℤ}
use lib.ListN.{length, length-append}
use lib.Signed.{mag}
use mir.Syntax.{w8, w64}
use mir.Val.{to_z, of_z}
use Rattle.job.specs.Refused.{number_of}
use Rattle.job.specs.declared.refusals.Refused.{Refused}
use Rattle.job.specs.declared.refusals.Refused.TheVariants.{HeavyRow}
use Rattle.state.specs.State.{digits_of}
use Rattle.state.specs.declared.State.{State}
use Rattle.integers.proofs.Machine.{i8_kept, i64_kept}
use Rattle.text.specs.declared.Page.{Page}
use Rattle.text.specs.Text.{decimal, signed_decimal, line_end, RoomFor, Written}
use Rattle.text.proofs.Putting.{write_nothing, write_then, length-decimal, length_signed}
use Rattle.printout.specs.Printout.{items_from, step_line, step_lines, refused_word, refused_text}

-- ---- items of which the first k are put, each with a space before it

unfoldable pub spaced : ℕ → (ℕ → ℤ) → List ℕ
spaced zero f = []
spaced (suc k) f = spaced k f ++ (32 ∷ signed_decimal (f k))

pub length_spaced : (k : ℕ) (f : ℕ → ℤ) → length (spaced k f) ≤ 22 * k
unfolding spaced
length_spaced zero f = omega arith
length_spaced (suc k) f =
    omega (arith, length-append (spaced k f) (32 ∷ signed_decimal (f k)), length_spaced k f, length_signed (f k))

-- the first i, and a line's end with the k after them
spaced_end : (i k : ℕ) (f : ℕ → ℤ) → spaced i f ++ line_end (items_from i k f) ≡ spaced (i + k) f ++ (10 ∷ [])
unfolding spaced line_end items_from
spaced_end i zero f = let e : i + 0 ≡ i = omega arith in rw e
spaced_end i (suc k) f =
    let e : i + suc k ≡ suc i + k = omega arith in
    rw e (sym (append_assoc (spaced i f) (32 ∷ signed_decimal (f i)) (line_end (items_from (suc i) k f))) ∙ spaced_end (suc i) k f)

spaced_line : (n : ℕ) (f : ℕ → ℤ) → line_end (items_from 0 n f) ≡ spaced n f ++ (10 ∷ [])
unfolding spaced
spaced_line n f = let e : 0 + n ≡ n = omega arith in rw e at (spaced_end 0 n f)

-- ---- a line's items put one after the other

-- a digit that is widened is what was read
pub digit_read : (x y : ℤ) → mag x < 2 ^ 7 → mag y < 2 ^ 63 → y ≡ to_z w8 (of_z w8 x) → to_z w64 (of_z w64 y) ≡ x
digit_read x y h k e = i64_kept y k ∙ e ∙ i8_kept x h

module _ {page : Page} (f : ℕ → ℤ) where
  pub spaced_start : Written page (spaced 0 f) page
  unfolding spaced
  spaced_start = write_nothing page

  -- there is room for the next of at most 16, and for the newline
  module _ {mid : Page} {i : ℕ} (p : Written page (spaced i f) mid) (room : page.at + 353 ≤ length page.out.now) where
    pub next-room : (z : ℤ) → i < 16 → RoomFor mid (32 ∷ signed_decimal z)
    next-room z l = omega (arith, p.kept, p.put.ends, length_spaced i f, length_signed z)

    pub end_room : i ≤ 16 → mid.at + 1 ≤ length mid.out.now
    end_room l = omega (arith, p.kept, p.put.ends, length_spaced i f)

  pub spaced_next : {mid after : Page} {i : ℕ} {z : ℤ} → z ≡ f i → Written page (spaced i f) mid
      → Written mid (32 ∷ signed_decimal z) after → Written page (spaced (i + 1) f) after
  unfolding spaced
  spaced_next {i = i} e p q = rw (add-one i, ← e) (write_then p q)

  pub spaced_all : {mid after : Page} {i n : ℕ} → i ≡ n → Written page (spaced i f) mid
      → Written mid (10 ∷ []) after → Written page (line_end (items_from 0 n f)) after
  spaced_all {i = i} e p q = rw (← e, spaced_line i f) (write_then p q)

-- ---- the lines of steps, of which those of the first t are put

length-step_line : (s : State) (j : ℕ) → s.header.n ≤ 16 → length (step_line s j) ≤ 373
length-step_line s j h =
    let n = s.header.n in
    let f = digits_of s.digits j in
    omega (
      arith,
      length-append (decimal j) (line_end (items_from 0 n f)),
      length-decimal j,
      ap length (spaced_line n f),
      length-append (spaced n f) (10 ∷ []),
      length_spaced n f,
    )

pub length-step_lines : (s : State) (j k : ℕ) → s.header.n ≤ 16 → length (step_lines s j k) ≤ 373 * k
unfolding step_lines
length-step_lines s j zero h = omega arith
length-step_lines s j (suc k) h =
    omega (arith, length-append (step_line s j) (step_lines s (suc j) k), length-step_line s j h, length-step_lines s (suc j) k h)

-- the last of the steps apart
step_lines-last : (s : State) (j k : ℕ) → step_lines s j (suc k) ≡ step_lines s j k ++ step_line s (j + k)
unfolding step_lines
step_lines-last s j zero = let e : j + 0 ≡ j = omega arith in rw (e, append-nil (step_line s j))
step_lines-last s j (suc k) =
    let e : j + suc k ≡ suc j + k = omega arith in
    rw (e, step_lines-last s (suc j) k, append_assoc (step_line s j) (step_lines s (suc j) k) (step_line s (suc j + k)))

module _ {page : Page} (s : State) where
  pub steps-start : Written page (step_lines s 1 0) page
  unfolding step_lines
  steps-start = write_nothing page

  module _ (t : ℕ) {mid : Page} (p : Written page (step_lines s 1 t) mid) where
    pub step_room : s.header.n ≤ 16 → t < 60 → page.at + 22380 ≤ length page.out.now → mid.at + 373 ≤ length mid.out.now
    step_room h l room = omega (arith, p.kept, p.put.ends, length-step_lines s 1 t h)

    pub steps_next : {after : Page} → Written mid (step_line s (suc t)) after → Written page (step_lines s 1 (t + 1)) after
    steps_next q =
        let e : 1 + t ≡ suc t = omega arith in
        rw (add-one t, step_lines-last s 1 t, e) (write_then p q)

    pub steps_all : (k : ℕ) → t ≡ k → Written page (step_lines s 1 k) mid
    steps_all k e = rw e at p

-- ---- a refused frame: with 8 a row is given

-- 8 is the number of a heavy row alone
pub only_heavy : (e : Refused) → ((row : ℕ) → e ≡ HeavyRow row → ⊥) → number_of e ≡ 8 → ⊥
only_heavy (HeavyRow row) n z = n row refl
only_heavy _ n z = omega arith

module _ (c row : ℕ) {page after : Page} where
  pub refused-row : c ≡ 8 → Written page (refused_word ++ ((32 ∷ decimal c) ++ ((32 ∷ decimal row) ++ (10 ∷ [])))) after → Written page (refused_text c row) after
  unfolding line_end
  refused-row e p = rw (eq-eqb c 8 e) p

  pub refused_plain : (c ≡ 8 → ⊥) → Written page (refused_word ++ ((32 ∷ decimal c) ++ (10 ∷ []))) after → Written page (refused_text c row) after
  unfolding line_end
  refused_plain e p = rw (ne_eqb c 8 e) p
