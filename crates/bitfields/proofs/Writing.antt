-- Laws of written bytes: their length and fill, and that writing a list of fields is writing its parts one
-- after the other.
use mathlib.Core.Path.{◌≡◌, sym, ap, ◌∙◌}
use mathlib.Core.List.{List, [], ◌∷◌, ◌++◌}
use Prim.Native.Nat.{ℕ, ◌+◌, ◌-◌, ◌*◌, ◌^◌, ◌<◌, ◌≤◌}
use native.Mathlib.Nat.{add_assoc, add-mul, add-sub_of_le, div-one, mod-eq_of_lt, mul_assoc, mul-mod_left, zero-add, zero-mul}
use native.Mathlib.Omega.{arith}
use lib.Arith.{digits_lt}
use lib.ListN.{length, take, drop, length-append, length-drop}
use lib.Pow.{pow-add, shl_lt, shl-shr}
use lib.Seq.{drop-append-add, drop_at, drop-drop, take_at}
use Rattle.bitfields.specs.Layout.{Field, bits, number, Fit, bytes_for, fill, number8, Bytes, field, pack, write, put, written}
use Rattle.bitfields.proofs.Spelling.{bits-append, bits-one, bytes_drop, bytes-octets, length-octets, number_append, number_lt, number-one, number8-octets, total_width-widths}
use Rattle.bitfields.proofs.Reading.{field-append_front, field_lt}
use Rattle.bitfields.specs.RoundTrips.{FieldsFramed}

-- ---- the bytes of b bits

pub length-pack : (b x : ℕ) → length (pack b x) ≡ bytes_for b
unfolding pack
length-pack b x = length-octets (bytes_for b) (x * 2 ^ fill b)

pub bytes-pack : (b x : ℕ) → Bytes (pack b x)
unfolding pack
bytes-pack b x = bytes-octets (bytes_for b) (x * 2 ^ fill b)

module _ (b : ℕ) {x : ℕ} (h : x < 2 ^ b) where
  pub number8-pack : number8 (pack b x) ≡ x * 2 ^ fill b
  unfolding pack
  number8-pack =
      let e : b + fill b ≡ 8 * bytes_for b = omega arith in
      number8-octets (bytes_for b) (x * 2 ^ fill b) ∙ mod-eq_of_lt (rw e at (shl_lt b (fill b) h))

  -- the first b bits spell the number, whatever follows
  pub field-pack : {t : List ℕ} → Bytes t → field (pack b x ++ t) 0 b ≡ x
  unfolding field
  field-pack k =
      let l : 0 + b ≤ 8 * length (pack b x) = rw length-pack (omega arith) in
      let e : 8 * bytes_for b - (0 + b) ≡ fill b = omega arith in
      field-append_front (pack b x) 0 b k l ∙ rw (number8-pack, length-pack, e, shl-shr) (mod-eq_of_lt h)

  -- and those after it are 0
  pub fill-pack : field (pack b x) b (fill b) ≡ 0
  unfolding field
  fill-pack =
      let e : 8 * bytes_for b - (b + fill b) ≡ 0 = omega arith in
      rw (number8-pack, length-pack, e, div-one) (mul-mod_left x (2 ^ fill b))

-- ---- the bytes of fields

pub length-write : (fs : List Field) → length (write fs) ≡ bytes_for (bits fs)
length-write fs = length-pack (bits fs) (number fs)

pub bytes-write : (fs : List Field) → Bytes (write fs)
bytes-write fs = bytes-pack (bits fs) (number fs)

pub write_framed : {fs : List Field} → FieldsFramed fs
write_framed {fs} h = record {
  size = rw (total_width-widths fs) (length-write fs);
  zeros = rw (total_width-widths fs) (fill-pack (bits fs) (number_lt h));
}

-- ---- fields put into a buffer

pub length-put : (s : List ℕ) (at : ℕ) (fs : List Field) → at + bits fs ≤ 8 * length s → length (put s at fs) ≡ length s
unfolding put
length-put s at fs h = rw (length-append, length-pack, length-drop) (omega arith)

-- the bits up to the fields and theirs
pub field_put : {s : List ℕ} (at : ℕ) {fs : List Field} → Bytes s → Fit fs → field (put s at fs) 0 (at + bits fs) ≡ field s 0 at * 2 ^ bits fs + number fs
unfolding put
field_put {s} at {fs} k h =
    field-pack (at + bits fs) (rw pow-add (digits_lt (field_lt s 0 at) (number_lt h))) (bytes_drop (bytes_for (at + bits fs)) k)

-- the bytes past the fields
pub drop-put : (s : List ℕ) (at : ℕ) (fs : List Field) (n : ℕ) → bytes_for (at + bits fs) ≤ n → drop n (put s at fs) ≡ drop n s
unfolding put
drop-put s at fs n h =
    let b = bytes_for (at + bits fs) in
    let p = pack (at + bits fs) (field s 0 at * 2 ^ bits fs + number fs) in
    let l : length p ≡ b = length-pack _ _ in
    let e : b + (n - b) ≡ n = add-sub_of_le h in
    rw (l, e, drop-drop, e) at (drop-append-add p (drop b s) (n - b))

-- one list after the other
pub put-append : {s : List ℕ} (at : ℕ) {fs : List Field} (gs : List Field) → Bytes s → Fit fs → put s at (fs ++ gs) ≡ put (put s at fs) (at + bits fs) gs
unfolding put
put-append {s} at {fs} gs k h =
    let b : bits (fs ++ gs) ≡ bits fs + bits gs = bits-append fs gs in
    let a : at + (bits fs + bits gs) ≡ at + bits fs + bits gs = omega arith in
    rw (field_put at k h, drop-put s at fs (bytes_for (at + bits fs + bits gs)) (omega arith), number_append fs gs, b, a)
    (ap (λ (x : ℕ). pack (at + bits fs + bits gs) x ++ drop (bytes_for (at + bits fs + bits gs)) s) (regroup _ _ _ (bits fs) (bits gs)))
  where
    regroup : (q v m w b : ℕ) → q * 2 ^ (w + b) + (v * 2 ^ b + m) ≡ (q * 2 ^ w + v) * 2 ^ b + m
    regroup q v m w b = simp (pow-add, add-mul, mul_assoc, add_assoc)

-- fields side by side are one field
pub put_joined : (s : List ℕ) (at : ℕ) (fs : List Field) → put s at ((bits fs, number fs) ∷ []) ≡ put s at fs
unfolding put
put_joined s at fs = rw (bits-one, number-one)

-- ---- a buffer with the fields at its front

pub put-zero : (s : List ℕ) (fs : List Field) → put s 0 fs ≡ written s fs
unfolding put written
put-zero s fs =
    let z : field s 0 0 ≡ 0 = omega (arith, field_lt s 0 0) in
    rw (z, zero-mul, zero-add (bits fs), zero-add (number fs))

pub put_written : {s : List ℕ} {fs : List Field} (gs : List Field) → Bytes s → Fit fs → put (written s fs) (bits fs) gs ≡ written s (fs ++ gs)
put_written {s} {fs} gs k h =
    rw (← put-zero s fs, ← put-zero s (fs ++ gs)) (sym (rw zero-add at (put-append 0 gs k h)))

pub take-written : (s : List ℕ) (fs : List Field) → take (bytes_for (bits fs)) (written s fs) ≡ write fs
unfolding written
take-written s fs = take_at (write fs) (drop (bytes_for (bits fs)) s) (bytes_for (bits fs)) (length-write fs)

pub drop-written : (s : List ℕ) (fs : List Field) → drop (bytes_for (bits fs)) (written s fs) ≡ drop (bytes_for (bits fs)) s
unfolding written
drop-written s fs = drop_at (write fs) (drop (bytes_for (bits fs)) s) (bytes_for (bits fs)) (length-write fs)
