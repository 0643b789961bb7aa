-- The two round trips, for every list of widths: what was written is read, and what was read is written.
use mathlib.Core.Path.{◌≡◌, sym, ap, ◌∙◌}
use mathlib.Core.List.{List, [], ◌++◌, append-nil}
use Prim.Native.Nat.{ℕ, ◌+◌, ◌*◌, ◌^◌, ◌≤◌}
use native.Mathlib.Nat.{add-zero, zero-add}
use native.Mathlib.Omega.{arith}
use lib.ListN.{length, drop, length-append, length-map}
use lib.Seq.{drop-append_seam, drop_at}
use Rattle.bitfields.specs.Layout.{Field, bits, number, widths, total_width, Fit, none, each, fill, number8, Bytes, fields, values_from, Framed, write}
use Rattle.bitfields.proofs.Spelling.{bytes_fit, fit_append, number_inj, number_lt, number8_inj, total_width-widths, values, values-each, widths-append, widths-each}
use Rattle.bitfields.proofs.Reading.{bits-fields, field_all, field_join, fields-append, fit-fields, length_fields, number-fields, values_from-fields, widths-fields}
use Rattle.bitfields.proofs.Writing.{bytes-write, field-pack, length-write, number8-pack}
use Rattle.bitfields.specs.RoundTrips.{FieldsWriteRead, FieldsReadWrite}

-- ---- what was written is read

-- whatever bytes follow
pub fields_front : {fs : List Field} {t : List ℕ} → Fit fs → Bytes t → fields (write fs ++ t) 0 (widths fs) ≡ fs
fields_front {fs} {t} h k =
    let s = write fs ++ t in
    let w = total_width-widths fs in
    let l : 0 + bits fs ≤ 8 * length s = rw (length-append, length-write fs) (omega arith) in
    number_inj (fit-fields s 0 (widths fs)) h (widths-fields s 0 (widths fs))
    (number-fields s 0 (widths fs) (rw w l) ∙ rw w (field-pack (bits fs) (number_lt h) k))

pub fields-write : {fs : List Field} → FieldsWriteRead fs
fields-write h = rw append-nil at (fields_front {t = []} h (bytes_fit none))

-- the fields after others
pub fields-after : {fs gs : List Field} {t : List ℕ} → Fit fs → Fit gs → Bytes t → fields (write (fs ++ gs) ++ t) (bits fs) (widths gs) ≡ gs
fields-after {fs} {gs} {t} h g k =
    let s = write (fs ++ gs) ++ t in
    let a = fields-append s 0 (widths fs) (widths gs) in
    let e = rw (widths-append fs gs, a, total_width-widths fs, zero-add) at (fields_front (fit_append h g) k) in
    let l : length (fields s 0 (widths fs)) ≡ length fs = length_fields s 0 (widths fs) ∙ length-map fs _ in
    sym (drop_at (fields s 0 (widths fs)) _ (length fs) l) ∙ ap (drop (length fs)) e ∙ drop-append_seam fs gs

-- values of one width after other fields
pub values_from-after : {fs : List Field} (w : ℕ) (vs : List ℕ) {t : List ℕ} → Fit fs → Fit (each w vs) → Bytes t → values_from (write (fs ++ each w vs) ++ t) (bits fs) w (length vs) ≡ vs
values_from-after {fs} w vs {t} h g k =
    sym (values_from-fields _ (bits fs) w (length vs)) ∙ ap values (rw (widths-each w vs) at (fields-after h g k)) ∙ values-each w vs

-- ---- what was read is written

-- a framed list is its fields and the fill
number8_framed : {ws s : List ℕ} → Framed ws s → Bytes s → number8 s ≡ number (fields s 0 ws) * 2 ^ fill (total_width ws)
number8_framed {ws} {s} f k =
    let b = total_width ws in
    let l : 8 * length s ≡ b + fill b = rw f.size (omega arith) in
    let e : 0 + b ≡ b = omega arith in
    sym (field_all k)
    ∙ rw (number-fields s 0 ws (omega arith), l, field_join s 0 b (fill b) (omega arith), e, f.zeros, add-zero)

pub write-fields : {ws s : List ℕ} → FieldsReadWrite ws s
write-fields {ws} {s} f k =
    let b : bits (fields s 0 ws) ≡ total_width ws = bits-fields s 0 ws in
    number8_inj (bytes-write (fields s 0 ws)) k
    (length-write (fields s 0 ws) ∙ rw b (sym f.size))
    (number8-pack _ (number_lt (fit-fields s 0 ws)) ∙ rw b (sym (number8_framed f k)))
