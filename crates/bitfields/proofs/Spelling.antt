-- Laws of field lists, of the numbers that they spell, and of the bytes of a number (the first two parts of
-- `specs/Layout.antt`).
use mathlib.Core.Path.{◌≡◌, refl, sym, ap, ◌∙◌}
use mathlib.Core.List.{List, [], ◌∷◌, ◌++◌, map, map-append}
use Prim.Native.Nat.{ℕ, zero, suc, ◌+◌, ◌*◌, ◌/◌, ◌%◌, ◌^◌, ◌<◌}
use native.Mathlib.Nat.{add_assoc, add_comm, add-mul, mod-lt, mod-one, mul_assoc, mul-suc, mul-zero, zero-add, zero-mul}
use native.Mathlib.Omega.{arith}
use mir.Syntax.{w8}
use mir.Val.{Fits}
use lib.Arith.{digits_lt}
use lib.ListN.{length, replicate, take, drop, get_or, take-append-drop}
use lib.Pow.{high, low, mod-pow-add, pow-add, pow_pos}
use lib.Seq.{get_or-drop}
use Rattle.bitfields.specs.Layout.{Field, bits, number, widths, total_width, Fit, none, more, each, octets, number8, Bytes}

-- ---- one list of fields after another

pub bits-append : (fs gs : List Field) → bits (fs ++ gs) ≡ bits fs + bits gs
unfolding bits
bits-append [] gs = sym (zero-add _)
bits-append (f ∷ fs) gs = rw (bits-append fs gs, add_assoc)

pub number_append : (fs gs : List Field) → number (fs ++ gs) ≡ number fs * 2 ^ bits gs + number gs
unfolding number bits
number_append [] gs = simp (zero-mul, zero-add)
number_append (f ∷ fs) gs = simp (number_append fs gs, bits-append fs gs, pow-add, add-mul, mul_assoc, add_assoc)

pub total_width-append : (ws vs : List ℕ) → total_width (ws ++ vs) ≡ total_width ws + total_width vs
unfolding total_width
total_width-append [] vs = sym (zero-add _)
total_width-append (w ∷ ws) vs = rw (total_width-append ws vs, add_assoc)

pub widths-append : (fs gs : List Field) → widths (fs ++ gs) ≡ widths fs ++ widths gs
widths-append fs gs = map-append _ fs gs

pub total_width-widths : (fs : List Field) → total_width (widths fs) ≡ bits fs
unfolding total_width bits
total_width-widths [] = refl
total_width-widths (f ∷ fs) = rw (total_width-widths fs)

pub fit_append : {fs gs : List Field} → Fit fs → Fit gs → Fit (fs ++ gs)
fit_append none k = k
fit_append (more h r) k = more h (fit_append r k)

pub fit_front : (fs gs : List Field) → Fit (fs ++ gs) → Fit fs
fit_front [] gs h = none
fit_front (f ∷ fs) gs (more h r) = more h (fit_front fs gs r)

pub number_lt : {fs : List Field} → Fit fs → number fs < 2 ^ bits fs
unfolding number bits
number_lt none = omega arith
number_lt (more h r) = rw pow-add (digits_lt h (number_lt r))

-- a field alone
pub bits-one : (w v : ℕ) → bits ((w, v) ∷ []) ≡ w
unfolding bits
bits-one w v = omega arith

pub number-one : (w v : ℕ) → number ((w, v) ∷ []) ≡ v
unfolding number bits
number-one w v = omega arith

-- ---- fields of one width

pub bits_each : (w : ℕ) (vs : List ℕ) → bits (each w vs) ≡ w * length vs
unfolding bits
bits_each w [] = sym (mul-zero w)
bits_each w (v ∷ vs) = rw (mul-suc, bits_each w vs) (add_comm w _)

pub total_width_replicate : (w n : ℕ) → total_width (replicate n w) ≡ w * n
unfolding total_width
total_width_replicate w zero = sym (mul-zero w)
total_width_replicate w (suc n) = rw (mul-suc, total_width_replicate w n) (add_comm w _)

pub widths-each : (w : ℕ) (vs : List ℕ) → widths (each w vs) ≡ replicate (length vs) w
widths-each w [] = refl
widths-each w (v ∷ vs) = rw (widths-each w vs)

-- the values alone
abbrev pub values : List Field → List ℕ
values fs = map (λ (f : Field). f.1) fs

pub values-each : (w : ℕ) (vs : List ℕ) → values (each w vs) ≡ vs
values-each w [] = refl
values-each w (v ∷ vs) = rw (values-each w vs)

pub each_append : (w : ℕ) (us vs : List ℕ) → each w (us ++ vs) ≡ each w us ++ each w vs
each_append w us vs = map-append _ us vs

pub fit-each : (w : ℕ) (vs : List ℕ) → ((i : ℕ) → i < length vs → get_or vs i 0 < 2 ^ w) → Fit (each w vs)
fit-each w [] h = none
fit-each w (v ∷ vs) h = more (h 0 (omega arith)) (fit-each w vs (λ i l. h (suc i) (omega arith)))

-- past the end there is 0
pub each_lt : (w : ℕ) (vs : List ℕ) → Fit (each w vs) → (i : ℕ) → get_or vs i 0 < 2 ^ w
each_lt w [] h i = pow_pos w
each_lt w (v ∷ vs) (more h r) zero = h
each_lt w (v ∷ vs) (more h r) (suc i) = each_lt w vs r i

-- ---- fields that fit are known by their widths and their number

pub number_inj : {fs gs : List Field} → Fit fs → Fit gs → widths fs ≡ widths gs → number fs ≡ number gs → fs ≡ gs
unfolding number
number_inj none none e n = refl
number_inj none (more k q) e n = let z : ◌≡◌ {A = ℕ} 0 1 = cc in absurd (omega arith)
number_inj (more h r) none e n = let z : ◌≡◌ {A = ℕ} 0 1 = cc in absurd (omega arith)
number_inj (more {w} {v} {fs} h r) (more {w = w'} {v = v'} {fs = gs} k q) e n =
    let t : widths fs ≡ widths gs = cc in
    let b : bits fs ≡ bits gs = sym (total_width-widths fs) ∙ ap total_width t ∙ total_width-widths gs in
    let x : v ≡ v' = sym (high v (bits fs) (number_lt r)) ∙ rw (n, b) (high v' (bits gs) (number_lt q)) in
    let m : number fs ≡ number gs = sym (low v (bits fs) (number_lt r)) ∙ rw (n, b) (low v' (bits gs) (number_lt q)) in
    let i : fs ≡ gs = number_inj r q t m in
    cc

-- ---- bytes

pub bytes_fit : {s : List ℕ} → Fit (each 8 s) → Bytes s
bytes_fit {s} h = record { byte = each_lt 8 s h }

pub fit-bytes : {s : List ℕ} → Bytes s → Fit (each 8 s)
fit-bytes {s} h = fit-each 8 s (λ i l. h.byte i)

-- what the borrow checker knows of a byte slice (`c.slice_known-1.given` in a proof)
pub slice_bytes : (s : List ℕ) → ((i : ℕ) → Fits w8 (get_or s i 0)) → Bytes s
slice_bytes s h = record { byte = λ i. (h i).fits }

pub bytes-append : {s t : List ℕ} → Bytes s → Bytes t → Bytes (s ++ t)
bytes-append {s} {t} h k = bytes_fit (rw (each_append 8 s t) (fit_append (fit-bytes h) (fit-bytes k)))

pub bytes_take : (n : ℕ) {s : List ℕ} → Bytes s → Bytes (take n s)
bytes_take n {s} h =
    bytes_fit (fit_front _ (each 8 (drop n s)) (rw (← each_append 8 (take n s) (drop n s), take-append-drop n s) (fit-bytes h)))

pub bytes_drop : (n : ℕ) {s : List ℕ} → Bytes s → Bytes (drop n s)
bytes_drop n {s} h = record { byte = λ i. rw (get_or-drop n s i 0) (h.byte (n + i)) }

pub number8-append : (s t : List ℕ) → number8 (s ++ t) ≡ number8 s * 2 ^ (8 * length t) + number8 t
number8-append s t = rw (each_append 8 s t, number_append (each 8 s) (each 8 t), bits_each 8 t)

pub number8_lt : {s : List ℕ} → Bytes s → number8 s < 2 ^ (8 * length s)
number8_lt {s} h = rw (bits_each 8 s) at (number_lt (fit-bytes h))

pub length-octets : (n x : ℕ) → length (octets n x) ≡ n
unfolding octets
length-octets zero x = refl
length-octets (suc n) x = rw (length-octets n x)

pub bytes-octets : (n x : ℕ) → Bytes (octets n x)
unfolding octets
bytes-octets n x = bytes_fit (fit n)
  where
    fit : (n : ℕ) → Fit (each 8 (octets n x))
    fit zero = none
    fit (suc n) = more (mod-lt (x / 2 ^ (8 * n)) (pow_pos 8)) (fit n)

-- the bytes of a number, and back
pub number8-octets : (n x : ℕ) → number8 (octets n x) ≡ x % 2 ^ (8 * n)
unfolding octets number
number8-octets zero x = sym (mod-one x)
number8-octets (suc n) x =
    let e : 8 * suc n ≡ 8 + 8 * n = omega arith in
    rw (bits_each 8 (octets n x), length-octets n x, number8-octets n x, e) (sym (mod-pow-add x 8 (8 * n)))

pub number8_inj : {s t : List ℕ} → Bytes s → Bytes t → length s ≡ length t → number8 s ≡ number8 t → s ≡ t
number8_inj {s} {t} h k l n =
    let w : widths (each 8 s) ≡ widths (each 8 t) = rw (widths-each 8 s, widths-each 8 t, l) in
    sym (values-each 8 s) ∙ ap values (number_inj (fit-bytes h) (fit-bytes k) w n) ∙ values-each 8 t
