-- Digits put in order and written several at a time, after the header and the steps made, over the code's
-- variables. Assumes nothing.
use mathlib.Core.Path.{◌≡◌, refl, sym, ap, ◌∙◌}
use mathlib.Core.List.{List, [], ◌∷◌, ◌++◌, map, map-append, append_assoc, append-nil}
use mathlib.Core.Logic.{inl}
use Prim.Native.Nat.{ℕ, zero, suc, ◌+◌, ◌*◌, ◌/◌, ◌%◌, ◌^◌, ◌<◌, ◌≤◌}
use native.Mathlib.Nat.{mul-le-mul, mul-suc, mul-zero}
use native.Mathlib.Numerals.{add-one}
use native.Mathlib.Omega.{arith}
use lib.IntN.{ℤ}
use lib.ListN.{length, length-map}
use lib.Seq.{length-sets, sets}
use Rattle.integers.specs.Flat.{at, list_from}
use Rattle.integers.proofs.Flat.{length-list_from, getD_list_from}
use Rattle.bitfields.specs.Layout.{Field, bits, number, Fit, Bytes, put, written}
use Rattle.bitfields.specs.Twos.{encode, AllFit}
use Rattle.bitfields.proofs.Spelling.{bits_each, bits-append, bits-one, fit_append, number_append, number_lt, number-one}
use Rattle.bitfields.proofs.Writing.{put_joined, put_written, put-zero}
use Rattle.bitfields.proofs.Twos.{fit_encodes}
use Rattle.job.specs.Header.{Limits}
use Rattle.job.specs.declared.Header.{Header}
use Rattle.header.specs.Header.{header_fields}
use Rattle.header.proofs.Header.{fit-header}
use Rattle.trace.specs.Trace.{digit_list, trace_fields}
use Rattle.trace.specs.Inner.{digits_from, digit_fields, DigitsFit, Appended}
use Rattle.trace.proofs.Digits.{at_sets, at_sets_other, digit_list-more, digit_list-none, list_from_ext}
use Rattle.trace.proofs.Groups.{digits_more, front_fits}

-- ---- fields after fields

appended_none : (m : ℕ) (a : List ℕ) → Appended m [] a a
appended_none m a = record { more = λ s fs k h e d. d ∙ ap (written s) (sym (append-nil fs)) }

-- fields that are put as one field
appended_one : (m : ℕ) (gs : List Field) (a b : List ℕ) (w v : ℕ) → w ≡ bits gs → v ≡ number gs → b ≡ put a m ((w, v) ∷ []) → Appended m gs a b
appended_one m gs a b w v e d f = record {
  more = λ s fs k h q p. f ∙ rw (e, d, put_joined a m gs, p, ← q) (put_written gs k h);
}

appended_more : {m : ℕ} {gs hs : List Field} {a b c : List ℕ} → Fit gs → Appended m gs a b → Appended (m + bits gs) hs b c → Appended m (gs ++ hs) a c
appended_more {m} {gs} {hs} g p q = record {
  more = λ s fs k h e d.
      q.more s (fs ++ gs) k (fit_append h g) (bits-append fs gs ∙ rw e) (p.more s fs k h e d) ∙ ap (written s) (append_assoc fs gs hs);
}

-- ---- digits as fields

digit_fields-append : (u v : List ℤ) → digit_fields (u ++ v) ≡ digit_fields u ++ digit_fields v
digit_fields-append u v = rw (map-append (encode 5) u v, map-append _ (map (encode 5) u) (map (encode 5) v))

bits-digits : (v : List ℤ) → bits (digit_fields v) ≡ 5 * length v
bits-digits v = bits_each 5 (map (encode 5) v) ∙ rw (length-map v (encode 5))

digits-none : (ds : List ℤ) (i : ℕ) → digits_from ds i 0 ≡ []
unfolding list_from
digits-none ds i = refl

digits_append : (ds : List ℤ) (i a b : ℕ) → digits_from ds i (a + b) ≡ digits_from ds i a ++ digits_from ds (i + a) b
digits_append ds i a zero = let e : a + 0 ≡ a = omega arith in rw (e, digits-none ds (i + a)) (sym (append-nil (digits_from ds i a)))
digits_append ds i a (suc b) =
    let e : a + suc b ≡ a + b + 1 = omega arith in
    let d : suc b ≡ b + 1 = omega arith in
    let f : i + (a + b) ≡ i + a + b = omega arith in
    rw (e, d, digits_more ds i (a + b), digits_more ds (i + a) b, digits_append ds i a b, f) (append_assoc (digits_from ds i a) (digits_from ds (i + a) b) _)

bits_from : (ds : List ℤ) (i n : ℕ) → bits (digit_fields (digits_from ds i n)) ≡ 5 * n
bits_from ds i n = bits-digits (digits_from ds i n) ∙ rw (length-list_from 0 n (λ x. at ds (i + x)))

-- ---- the digits of step after step, one after the other

digits_same : (ds es : List ℤ) (i j c : ℕ) → ((x : ℕ) → x < c → at ds (i + x) ≡ at es (j + x)) → digits_from ds i c ≡ digits_from es j c
digits_same ds es i j c h =
    list_from_ext 0 c (λ x. at ds (i + x)) (digits_from es j c) (length-list_from 0 c (λ x. at es (j + x)))
    (λ t l. let o : 0 + t ≡ t = omega arith in rw o (h t l ∙ sym (getD_list_from 0 c (λ x. at es (j + x)) t l ∙ rw o)))

pub in_order-start : (n : ℕ) (ds es : List ℤ) → digits_from es 0 (n * 0) ≡ digit_list n 0 ds
in_order-start n ds es = rw (digit_list-none n ds, mul-zero) (digits-none es 0)

pub in_order-room : (n j : ℕ) → n ≤ 16 → j < 60 → n * j + 16 ≤ 960
in_order-room n j a l = omega (arith, mul-le-mul {n₁ = n} {m₁ = j} {n₂ = 16} {m₂ = 59} a (omega arith))

pub in_order-length : (e f : List ℤ) (to : ℕ) (vs : List ℤ) → f ≡ sets e to vs → length e ≡ 960 → length f ≡ 960
in_order-length e f to vs q l = ap length q ∙ length-sets e to vs ∙ l

-- a turn: one more step's, of which n stay
pub in_order_turn : (ds e f : List ℤ) (n j to : ℕ) → 0 < n → n ≤ 16 → n * j + 16 ≤ length e → to ≡ n * j
    → digits_from e 0 (n * j) ≡ digit_list n j ds → f ≡ sets e to (digits_from ds (16 * j) 16) → digits_from f 0 (n * (j + 1)) ≡ digit_list n (j + 1) ds
in_order_turn ds e f n j to p a r t g q =
    let s : n * (j + 1) ≡ n * j + n = omega (arith, mul-suc n j) in
    let o : 0 + n * j ≡ n * j = omega arith in
    let vs = digits_from ds (16 * j) 16 in
    let m : length vs ≡ 16 = length-list_from 0 16 (λ x. at ds (16 * j + x)) in
    let kept : digits_from f 0 (n * j) ≡ digits_from e 0 (n * j) = digits_same f e 0 0 (n * j) (λ x l. rw (q, t) (at_sets_other e (n * j) vs (0 + x) (inl (omega arith)))) in
    let new : digits_from f (n * j) n ≡ digits_from ds (16 * j) n =
    digits_same f ds (n * j) (16 * j) n
    (λ x l. let z : 0 + x ≡ x = omega arith in
    rw (q, t) (at_sets e (n * j) vs x (omega arith) (omega arith) ∙ getD_list_from 0 16 (λ x. at ds (16 * j + x)) x (omega arith) ∙ rw z)) in
    rw s (digits_append f 0 (n * j) n ∙ rw (o, kept, new, g, add-one) (sym (digit_list-more n j ds p)))

-- ---- a list of digits, eight at a time

pub fits-inside : {ds : List ℤ} {m : ℕ} → DigitsFit ds 0 m → (i c : ℕ) → i + c ≤ m → DigitsFit ds i c
fits-inside a i c l = record { each_fits = λ x h. let e : 0 + (i + x) ≡ i + x = omega arith in rw e at (a.each_fits (i + x) (omega arith)) }

pub list-start : (ds : List ℤ) (a : List ℕ) → Appended 30 (digit_fields (digits_from ds 0 (8 * 0))) a a
list-start ds a = rw (digits-none ds 0) (appended_none 30 a)

-- c digits after the first m, as one field
pub list_put : (ds : List ℤ) (o a b : List ℕ) (m c p v : ℕ) → DigitsFit ds 0 m → p ≡ 30 + 5 * m → Appended 30 (digit_fields (digits_from ds 0 m)) o a
    → v ≡ number (digit_fields (digits_from ds m c)) → b ≡ put a p ((5 * c, v) ∷ []) → Appended 30 (digit_fields (digits_from ds 0 (m + c))) o b
list_put ds o a b m c p v h e f g d =
    let z : 0 + m ≡ m = omega arith in
    let s : digit_fields (digits_from ds 0 (m + c)) ≡ digit_fields (digits_from ds 0 m) ++ digit_fields (digits_from ds m c) =
    rw (digits_append ds 0 m c, z) (digit_fields-append (digits_from ds 0 m) (digits_from ds m c)) in
    let w : 30 + bits (digit_fields (digits_from ds 0 m)) ≡ p = rw (bits_from ds 0 m, e) in
    let n : Appended p (digit_fields (digits_from ds m c)) a b =
    appended_one p (digit_fields (digits_from ds m c)) a b (5 * c) v (sym (bits_from ds m c)) g d in
    rw s (appended_more (fit_encodes {w = 5} (omega arith) (front_fits h m (omega arith))) f (rw w n))

-- a turn: eight more
pub eights_turn : (ds : List ℤ) (o a b : List ℕ) (g i q v : ℕ) → DigitsFit ds 0 (8 * g) → i < g → q ≡ 3 + 5 * i → Appended 30 (digit_fields (digits_from ds 0 (8 * i))) o a
    → v ≡ number (digit_fields (digits_from ds (8 * i) 8)) → b ≡ put a (8 * q + 6) ((40, v) ∷ []) → Appended 30 (digit_fields (digits_from ds 0 (8 * (i + 1)))) o b
eights_turn ds o a b g i q v h l e f c d =
    let s : 8 * (i + 1) ≡ 8 * i + 8 = omega arith in
    rw s (list_put ds o a b (8 * i) 8 (8 * q + 6) v (fits-inside h 0 (8 * i) (omega arith)) (omega arith) f c d)

-- what is left, and where nothing is
pub rest_put : (ds : List ℤ) (o a b : List ℕ) (m v : ℕ) → DigitsFit ds 0 m → Appended 30 (digit_fields (digits_from ds 0 (8 * (m / 8)))) o a
    → v ≡ number (digit_fields (digits_from ds (8 * (m / 8)) (m % 8))) → b ≡ put a (30 + 40 * (m / 8)) ((5 * (m % 8), v) ∷ [])
    → Appended 30 (digit_fields (digits_from ds 0 m)) o b
rest_put ds o a b m v h f c d =
    let s : 8 * (m / 8) + m % 8 ≡ m = omega arith in
    rw s at (list_put ds o a b (8 * (m / 8)) (m % 8) (30 + 40 * (m / 8)) v (fits-inside h 0 (8 * (m / 8)) (omega arith)) (omega arith) f c d)

pub rest-none : (ds : List ℤ) (o a : List ℕ) (m : ℕ) → m % 8 ≤ 0 → Appended 30 (digit_fields (digits_from ds 0 (8 * (m / 8)))) o a
    → Appended 30 (digit_fields (digits_from ds 0 m)) o a
rest-none ds o a m l f = let s : 8 * (m / 8) ≡ m = omega arith in rw s at f

-- digits that are those of k steps
pub list_five : (es v : List ℤ) (m : ℕ) → digits_from es 0 m ≡ v → AllFit 5 v → DigitsFit es 0 m
list_five es v m e f = record {
  each_fits = λ x h.
      let o : 0 + x ≡ x = omega arith in
      let k : length v ≡ m = ap length (sym e) ∙ length-list_from 0 m (λ y. at es (0 + y)) in
      let g : at v x ≡ at es (0 + x) = ap (λ (l : List ℤ). at l x) (sym e) ∙ getD_list_from 0 m (λ y. at es (0 + y)) x h ∙ ap (λ (y : ℕ). at es (0 + y)) o in
      rw (← g) (f.each_fits x (omega arith));
}

-- ---- the header, the steps, and then the digits

head_number : (h : Header) (k : ℕ) → number (header_fields h ++ ((6, k) ∷ [])) ≡ number (header_fields h) * 64 + k
head_number h k = number_append (header_fields h) ((6, k) ∷ []) ∙ rw (bits-one, number-one)

pub trace-put : (h : Header) (k : ℕ) (ds : List ℤ) (o a b : List ℕ) (x : ℕ) → Bytes o → Fit (header_fields h ++ ((6, k) ∷ [])) → x ≡ number (header_fields h)
    → a ≡ put o 0 ((30, x * 64 + k) ∷ []) → Appended 30 (digit_fields (digit_list h.n k ds)) a b → b ≡ written o (trace_fields h k ds)
unfolding bits
trace-put h k ds o a b x m f e d g =
    let fs = header_fields h ++ ((6, k) ∷ []) in
    g.more o fs m f refl (d ∙ rw (e, ← head_number h k) (put_joined o 0 fs ∙ put-zero o fs))

pub head_small : {h : Header} (x : ℕ) → Limits h → x ≡ number (header_fields h) → x < 2 ^ 24
unfolding bits
head_small x l e = rw e (number_lt (fit-header l))
