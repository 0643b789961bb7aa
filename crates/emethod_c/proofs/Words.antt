-- The words of a trace, and what reading a trace into words comes to, over the variables of the code.
use mathlib.Core.Path.{◌≡◌, sym, ap, ◌∙◌}
use mathlib.Core.Bool.{cond}
use mathlib.Core.List.{List, [], ◌∷◌, ◌++◌, map}
use Prim.Native.Nat.{ℕ, zero, suc, ◌+◌, ◌*◌, ◌^◌, ◌<◌, ◌≤◌, min}
use native.Mathlib.Nat.{mul-le-mul}
use native.Mathlib.Omega.{arith}
use borrow.Author.Tests.{ne_eqb, eq-eqb, lt-ltb, le-ltb}
use lib.Dec.{ltb}
use lib.IntN.{ℤ, pos}
use lib.ListN.{length, get_or, set, drop}
use lib.Seq.{sets, sets-eq, length-sets}
use lib.Signed.{mag}
use mir.Syntax.{w8}
use mir.Val.{to_z, of_z}
use Rattle.integers.specs.Flat.{at, list_from}
use Rattle.job.specs.Header.{Limits}
use Rattle.job.proofs.Refusal.{decided, refused-before, accepted-before}
use Rattle.job.proofs.Limits.{digit-small, steps-small}
use Rattle.job.specs.declared.Header.{Header}
use Rattle.trace.specs.Trace.{digit_list, trace_checks, trace_refusal, trace_record, trace_reader_answer, Recorded}
use Rattle.trace.proofs.Digits.{length-digit_list, digit_list-more, sets_append}
use Rattle.trace.specs.Inner.{digits_from}
use Rattle.integers.proofs.Machine.{i8_kept}
use Rattle.trace.proofs.Storing.{store_turn}
use Rattle.trace.proofs.Valid.{record_steps_most, trace-accepted}
use Rattle.emethod_c.specs.Foreign.{answer_of, counted_answer_of, header_words, words_of, word_count, trace_word_count, words_checks, words_refusal, words_answer, words_left, most_words, WordsEnough, WordsDecided}
use Rattle.emethod_c.proofs.Packed.{count_alone}

-- ---- the words of a trace

module _ (h : Header) (k : ℕ) where
  module _ (l : Limits h) (k_most : k ≤ 60) where
    small : (i : ℕ) → get_or (header_words h k) i 0 ≤ 60
    small zero = omega (arith, l.kind_most)
    small (suc zero) = omega (arith, l.code_most)
    small (suc (suc zero)) = omega (arith, digit-small h l)
    small (suc (suc (suc zero))) = omega (arith, l.fraction_most)
    small (suc (suc (suc (suc zero)))) = omega (arith, l.order_most)
    small (suc (suc (suc (suc (suc zero))))) = steps-small h l
    small (suc (suc (suc (suc (suc (suc zero)))))) = k_most
    small (suc (suc (suc (suc (suc (suc (suc i))))))) = omega arith

    pub header-small : (i r : ℕ) → r ≡ get_or (header_words h k) i 0 → r < 9223372036854775808
    header-small i r e = omega (arith, small i)

    pub word_count-most : word_count h k ≤ most_words
    word_count-most = omega (arith, mul-le-mul l.order_most k_most)

  -- a word of the header that is put
  abbrev pub word : ℕ → ℤ
  word i = pos (get_or (header_words h k) i 0)

  pub header_turn : (w out : List ℤ) (i r : ℕ) (z : ℤ) → out ≡ sets w 0 (list_from 0 i word)
      → r ≡ get_or (header_words h k) i 0 → z ≡ pos r → set out i z ≡ sets w 0 (list_from 0 (i + 1) word)
  header_turn w out i r z e f g =
      let o : 0 + i ≡ i = omega arith in
      rw o at (store_turn w out 0 i word z e (g ∙ ap pos f))

  pub header_all : (w out : List ℤ) (i : ℕ) → i ≡ 7 → out ≡ sets w 0 (list_from 0 i word)
      → out ≡ sets w 0 (map pos (header_words h k))
  unfolding list_from
  header_all w out i q e = let f : out ≡ sets w 0 (list_from 0 7 word) = rw q at e in f

  -- the header and all steps are put
  pub words_all : (ds w mid out : List ℤ) (j : ℕ) → j ≡ k → word_count h k ≤ length w
      → mid ≡ sets w 0 (map pos (header_words h k)) → out ≡ sets mid 7 (digit_list h.n j ds)
      → out ≡ words_of h k ds ++ drop (word_count h k) w
  words_all ds w mid out j q l e f =
      let c : 0 + length (words_of h k ds) ≡ word_count h k = omega (arith, length-digit_list h.n k ds) in
      f
      ∙ rw (e, q) (sym (sets_append w 0 (map pos (header_words h k)) (digit_list h.n k ds)))
      ∙ sets-eq (words_of h k ds) w 0 (omega (arith, c))
      ∙ ap (λ (x : ℕ). words_of h k ds ++ drop x w) c

-- the list keeps its length
pub same_sets : (w out : List ℤ) (i : ℕ) (vs : List ℤ) → out ≡ sets w i vs → length out ≡ length w
same_sets w out i vs e = ap length e ∙ length-sets w i vs

-- a turn: a digit of the first n that is put, and one past them that is not
module _ (ds w out left : List ℤ) (i to x n : ℕ) where
  pub digit-put : (z : ℤ) → x < n → out ≡ sets w to (digits_from ds i (min x n)) → left ≡ set out (to + x) z
      → z ≡ to_z w8 (of_z w8 (at ds (i + x))) → mag (at ds (i + x)) < 2 ^ 7 → left ≡ sets w to (digits_from ds i (min (x + 1) n))
  digit-put z l e f g m =
      let a : min x n ≡ x = omega arith in
      let b : min (x + 1) n ≡ x + 1 = omega arith in
      f ∙ rw b (store_turn w out to x (λ y. at ds (i + y)) z (rw a at e) (g ∙ i8_kept _ m))

  pub digit-none : n ≤ x → out ≡ sets w to (digits_from ds i (min x n)) → left ≡ out → left ≡ sets w to (digits_from ds i (min (x + 1) n))
  digit-none l e f =
      let a : min x n ≡ n = omega arith in
      let b : min (x + 1) n ≡ n = omega arith in
      f ∙ rw b (rw a at e)

-- a step that is put
pub words_turn : (ds w out left : List ℤ) (n j to : ℕ) → 0 < n → to ≡ 7 + n * j → out ≡ sets w 7 (digit_list n j ds) → left ≡ sets out to (digits_from ds (16 * j) n)
    → left ≡ sets w 7 (digit_list n (j + 1) ds)
words_turn ds w out left n j to p q e f =
    let s : j + 1 ≡ suc j = omega arith in
    let t : to ≡ 7 + length (digit_list n j ds) = omega (arith, length-digit_list n j ds) in
    f ∙ rw (e, t, s, digit_list-more n j ds p) (sym (sets_append w 7 (digit_list n j ds) (digits_from ds (16 * j) n)))

-- ---- a trace read into words

-- room for every trace
pub words_enough : WordsEnough
words_enough s e =
    let v = ((trace-accepted s).0 e).valid in
    word_count-most (trace_record s).header (trace_record s).k v.limits (record_steps_most v)

-- the checks decide
pub words_decided : WordsDecided
unfolding words_checks trace_checks
words_decided s room = decided (words_checks s room) tt

module _ (s : List ℕ) (c : Recorded) (e : c ≡ trace_reader_answer s) where
  refusal_is : c.refusal ≡ trace_refusal s
  unfolding trace_reader_answer
  refusal_is = ap (λ (x : Recorded). x.refusal) e

  module _ (h : 0 < c.refusal) where
    pub words_refused : (row r : ℕ) (given : List ℤ) → row ≡ 0 → r ≡ answer_of c.refusal row 0
        → (r ≡ words_answer s (length given)) × (given ≡ words_left s given)
    unfolding words_answer words_left words_checks
    words_refused row r given w f =
        let z : words_refusal s (length given) ≡ c.refusal = refused-before (trace_checks s) ((23, ltb (length given) (trace_word_count s)) ∷ []) c.refusal h (sym refusal_is) in
        let q = ne_eqb c.refusal 0 (λ o. omega arith) in
        (f ∙ rw (w, z, q), rw (z, q))

  module _ (h : c.refusal ≤ 0) where
    none : trace_refusal s ≡ 0
    none = omega (arith, refusal_is)

    trace_is : c.trace ≡ trace_record s
    unfolding trace_reader_answer
    trace_is = ap (λ (x : Recorded). x.trace) e ∙ rw (eq-eqb (trace_refusal s) 0 none)

    pub words_limits : Limits c.trace.header
    words_limits = rw trace_is ((trace-accepted s).0 none).valid.limits

    pub words_steps : c.trace.k ≤ 60
    words_steps = rw trace_is (record_steps_most ((trace-accepted s).0 none).valid)

    pub words_most : word_count c.trace.header c.trace.k ≤ most_words
    words_most = rw trace_is (words_enough s none)

    -- the last check
    room-left : (room : ℕ) → words_refusal s room ≡ cond (ltb room (trace_word_count s)) 23 0
    unfolding words_checks trace_checks
    room-left room = accepted-before (trace_checks s) ((23, ltb room (trace_word_count s)) ∷ []) tt none

    pub words_short : (r : ℕ) (given : List ℤ) → length given < word_count c.trace.header c.trace.k → r ≡ answer_of 23 0 0
        → (r ≡ words_answer s (length given)) × (given ≡ words_left s given)
    unfolding words_answer words_left
    words_short r given l f =
        let t = lt-ltb (length given) (trace_word_count s) (rw trace_is at l) in
        (f ∙ rw (room-left (length given), t), rw (room-left (length given), t))

    pub words_whole : (r : ℕ) (given left : List ℤ) → word_count c.trace.header c.trace.k ≤ length given
        → r ≡ counted_answer_of 0 0 (word_count c.trace.header c.trace.k) 0 0
        → left ≡ words_of c.trace.header c.trace.k c.trace.digits ++ drop (word_count c.trace.header c.trace.k) given
        → (r ≡ words_answer s (length given)) × (left ≡ words_left s given)
    unfolding words_answer words_left
    words_whole r given left l f g =
        let t = le-ltb (length given) (trace_word_count s) (rw trace_is at l) in
        (f ∙ count_alone (word_count c.trace.header c.trace.k) ∙ rw (room-left (length given), t, trace_is), g ∙ rw (room-left (length given), t, trace_is))
