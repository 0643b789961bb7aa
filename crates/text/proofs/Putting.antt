-- Laws of text in a buffer: one piece after another, how long pieces are, and numbers put digit by digit.
-- Cited by the proofs of this crate and by those that put whole lines.
use mathlib.Core.Path.{◌≡◌, refl, sym, ap, ◌∙◌}
use mathlib.Core.Bool.{Bool, true, false, cond}
use mathlib.Core.List.{List, [], ◌∷◌, ◌++◌, append_assoc, append-nil}
use mathlib.Core.Logic.{◌⊎◌, inl, inr}
use Prim.Native.Nat.{ℕ, zero, suc, ◌+◌, ◌-◌, ◌/◌, ◌%◌, ◌^◌, ◌<◌, ◌≤◌}
use native.Mathlib.Nat.{div-lt_iff_lt-mul, pow-suc}
use native.Mathlib.Numerals.{add-one}
use native.Mathlib.Omega.{arith}
use borrow.Author.Tests.{lt-ltb, le-ltb}
use borrow.Rule.Slice.PartMut.{put_mid}
use lib.Dec.{ltb}
use lib.IntN.{ℤ, pos, negsuc, nat_abs}
use lib.ListN.{length, take, drop, set, take-append-drop, length-append, drop_of_length-le}
use lib.Seq.{append_snoc, set_split, length-take-le, drop-append-add, drop-drop, take_at, take_all}
use lib.Signed.{lt_z}
use Rattle.integers.proofs.Maximum.{le_or_lt}
use Rattle.integers.proofs.Order.{zarith}
use Rattle.text.specs.declared.Page.{Page}
use Rattle.text.specs.Text.{digit_char, decimal_within, decimal, signed_decimal, with_text, HasRoom, Put, RoomFor, Written}

-- ---- text in a buffer

module _ (out : List ℕ) (at : ℕ) where
  pub put_nothing : Put out at [] out at
  unfolding with_text
  put_nothing = let e : at + 0 ≡ at = omega arith in record { holds = rw (e, append-nil (take at out), take-append-drop at out); ends = omega arith }

  pub put_one : (b : ℕ) → HasRoom out at (b ∷ []) → Put out at (b ∷ []) (set out at b) (at + 1)
  unfolding with_text
  put_one b h =
      record { holds = rw (add-one at) (set_split out at b (omega arith) ∙ sym (append_snoc (take at out) b (drop (suc at) out))); ends = refl }

  -- one piece after another
  text_after : (a b : List ℕ) → with_text (with_text out at a) (at + length a) b ≡ with_text out at (a ++ b)
  unfolding with_text
  text_after a b = by_case (le_or_lt at (length out))
    where
      l : at + length (a ++ b) ≡ at + length a + length b
      l = rw (length-append a b) (omega arith)

      by_case : (at ≤ length out) ⊎ (length out < at)
          → take (at + length a) (take at out ++ a ++ drop (at + length a) out) ++ b ++ drop (at + length a + length b) (take at out ++ a ++ drop (at + length a) out)
          ≡ take at out ++ (a ++ b) ++ drop (at + length (a ++ b)) out
      by_case (inl h) =
          let front : length (take at out ++ a) ≡ at + length a = simp (length-append, length-take-le at out h) in
          let past : drop (at + length a + length b) (take at out ++ a ++ drop (at + length a) out) ≡ drop (at + length a + length b) out =
          rw front at (drop-append-add (take at out ++ a) (drop (at + length a) out) (length b)) ∙ drop-drop (length b) (at + length a) out in
          rw (take_at (take at out ++ a) (drop (at + length a) out) (at + length a) front, past, l, append_assoc (take at out) a b)
      by_case (inr h) =
          let all : take at out ≡ out = take_all at out (omega arith) in
          let none : drop (at + length a) out ≡ [] = drop_of_length-le out {i = at + length a} (omega arith) in
          let long : length (out ++ a ++ []) ≤ at + length a = simp (append-nil, length-append) (omega arith) in
          rw (
            all,
            none,
            l,
            take_all (at + length a) (out ++ a ++ []) long,
            drop_of_length-le (out ++ a ++ []) {i = at + length a + length b} (omega arith),
            drop_of_length-le out {i = at + length a + length b} (omega arith),
            append-nil (out ++ a),
            append_assoc out a b,
          )

pub put_then : {out mid after : List ℕ} {at m end : ℕ} {a b : List ℕ} → Put out at a mid m → Put mid m b after end → Put out at (a ++ b) after end
put_then {out} {mid} {after} {at} {m} {end} {a} {b} p q =
    record {
      holds = q.holds ∙ rw (p.holds, p.ends) (text_after out at a b);
      ends = omega (arith, p.ends, q.ends, length-append a b);
    }

-- ---- on a page

module _ (page : Page) where
  pub write_nothing : Written page [] page
  write_nothing = record { same = refl; kept = refl; put = put_nothing page.out.now page.at }

pub write_then : {page mid after : Page} {a b : List ℕ} → Written page a mid → Written mid b after → Written page (a ++ b) after
write_then p q = record { same = q.same ∙ p.same; kept = q.kept ∙ p.kept; put = put_then p.put q.put }

-- a text at the front lies within the buffer
pub text_inside : (out text : List ℕ) {after : List ℕ} {r : ℕ} → r ≡ length text → after ≡ with_text out 0 text → r ≤ length after
unfolding with_text
text_inside out text e f = rw (e, f, length-append text (drop (0 + length text) out)) (omega arith)

-- ---- the digits of a number

-- more room than there are digits changes nothing
decimal-room : (k n : ℕ) → 0 < k → n < 10 ^ k → decimal_within (suc k) n ≡ decimal_within k n
unfolding decimal_within
decimal-room zero n p h = absurd (omega arith)
decimal-room (suc zero) n p h = let l : n < 10 = h in rw (lt-ltb n 10 l)
decimal-room (suc (suc k)) n p h =
    let l : n / 10 < 10 ^ suc k = (div-lt_iff_lt-mul {k = 10} {x = n} {y = 10 ^ suc k} (omega arith)).1 (rw (pow-suc 10 (suc k)) at h) in
    rw (decimal-room (suc k) (n / 10) (omega arith) l)

module _ (n : ℕ) where
  decimal-small : n < 10 → decimal n ≡ digit_char n ∷ []
  unfolding decimal_within
  decimal-small h = rw (lt-ltb n 10 h)

  decimal-large : 10 ≤ n → n < 2 ^ 64 → decimal n ≡ decimal (n / 10) ++ (digit_char (n % 10) ∷ [])
  unfolding decimal_within
  decimal-large h b = rw (le-ltb n 10 h, ← decimal-room 19 (n / 10) (omega arith) (omega arith))

-- ---- how long a number is

length-decimal_within : (k n : ℕ) → length (decimal_within k n) ≤ k
unfolding decimal_within
length-decimal_within zero n = omega arith
length-decimal_within (suc k) n = by_test (ltb n 10) (length-decimal_within k (n / 10))
  where
    by_test : (c : Bool) → length (decimal_within k (n / 10)) ≤ k → length (cond c (digit_char n ∷ []) (decimal_within k (n / 10) ++ (digit_char (n % 10) ∷ []))) ≤ suc k
    by_test true h = omega arith
    by_test false h = omega (arith, length-append (decimal_within k (n / 10)) (digit_char (n % 10) ∷ []))

pub length-decimal : (n : ℕ) → length (decimal n) ≤ 20
length-decimal n = length-decimal_within 20 n

pub length_signed : (z : ℤ) → length (signed_decimal z) ≤ 21
unfolding signed_decimal
length_signed (pos n) = omega (arith, length-decimal n)
length_signed (negsuc n) = omega (arith, length-decimal (suc n))

-- ---- a number put digit by digit

module _ (page : Page) (n : ℕ) where
  -- of one digit
  pub small-room : n < 10 → RoomFor page (decimal n) → page.at + 1 ≤ length page.out.now
  small-room h room = let e : length (decimal n) ≡ 1 = rw (decimal-small n h) in omega arith

  pub write_small : {after : Page} {x : ℕ} → n < 10 → x ≡ digit_char n → Written page (x ∷ []) after → Written page (decimal n) after
  write_small h e p = rw (decimal-small n h, ← e) p

  -- of more: the digits but the last, and then the last
  module _ (h : 10 ≤ n) (b : n < 2 ^ 64) where
    one_more : length (decimal n) ≡ length (decimal (n / 10)) + 1
    one_more = rw (decimal-large n h b) (length-append (decimal (n / 10)) (digit_char (n % 10) ∷ []))

    pub front_room : RoomFor page (decimal n) → RoomFor page (decimal (n / 10))
    front_room room = omega (arith, one_more)

    pub last-room : {mid : Page} → RoomFor page (decimal n) → Written page (decimal (n / 10)) mid → mid.at + 1 ≤ length mid.out.now
    last-room room p = omega (arith, one_more, p.kept, p.put.ends)

    pub write-large : {mid after : Page} {x : ℕ} → x ≡ digit_char (n % 10)
        → Written page (decimal (n / 10)) mid → Written mid (x ∷ []) after → Written page (decimal n) after
    write-large e p q = rw (decimal-large n h b, ← e) (write_then p q)

-- ---- a number with a sign: n is its absolute value

signed_negative : (z : ℤ) → lt_z z (pos 0) ≡ true → signed_decimal z ≡ 45 ∷ decimal (nat_abs z)
unfolding signed_decimal
signed_negative (pos n) h = absurd (omega (zarith, h))
signed_negative (negsuc n) h = refl

signed_nonnegative : (z : ℤ) → lt_z z (pos 0) ≡ false → signed_decimal z ≡ decimal (nat_abs z)
unfolding signed_decimal
signed_nonnegative (pos n) h = refl
signed_nonnegative (negsuc n) h = absurd (omega (zarith, h))

module _ (page : Page) (z : ℤ) (n : ℕ) (e : n ≡ nat_abs z) where
  module _ (h : lt_z z (pos 0) ≡ true) where
    pub sign_room : RoomFor page (signed_decimal z) → page.at + 1 ≤ length page.out.now
    sign_room room = omega (arith, ap length (signed_negative z h))

    pub past_sign_room : {mid : Page} → RoomFor page (signed_decimal z) → Written page (45 ∷ []) mid → RoomFor mid (decimal n)
    past_sign_room room p = rw e (omega (arith, ap length (signed_negative z h), p.kept, p.put.ends))

    pub write_negative : {mid after : Page} → Written page (45 ∷ []) mid → Written mid (decimal n) after → Written page (signed_decimal z) after
    write_negative p q = rw (signed_negative z h, ← e) (write_then p q)

  module _ (h : lt_z z (pos 0) ≡ false) where
    pub nonnegative_room : RoomFor page (signed_decimal z) → RoomFor page (decimal n)
    nonnegative_room room = rw (e, ← signed_nonnegative z h) room

    pub write_nonnegative : {after : Page} → Written page (decimal n) after → Written page (signed_decimal z) after
    write_nonnegative p = rw (signed_nonnegative z h, ← e) p

-- ---- the bytes of s, in the place of as many bytes of the buffer

pub put_part : (out : List ℕ) (at : ℕ) (s part : List ℕ) → part ≡ s → Put out at s (put_mid at (at + length s - at) out part) (at + length s)
unfolding with_text
put_part out at s part p =
    let e : at + length s - at ≡ length s = omega arith in
    record { holds = rw (e, p, drop-drop (length s) at out) (sym (append_assoc (take at out) s (drop (at + length s) out))); ends = refl }

-- the buffer keeps its length where there is room for what is put
pub put_kept : {out after text : List ℕ} {at end : ℕ} → HasRoom out at text → Put out at text after end → length after ≡ length out
unfolding with_text
put_kept {out} {after} {text} {at} room p =
    let front : length (take at out ++ text) ≡ at + length text = simp (length-append, length-take-le at out (omega arith)) in
    omega (
      arith,
      ap length p.holds,
      front,
      ap length (append_assoc (take at out) text (drop (at + length text) out)),
      length-append (take at out ++ text) (drop (at + length text) out),
      length-append (take (at + length text) out) (drop (at + length text) out),
      length-take-le (at + length text) out room,
      ap length (take-append-drop (at + length text) out),
    )
