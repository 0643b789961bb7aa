-- The laws of the frame writer's code of `src/lib.rt`, over its variables.
use mathlib.Core.Path.{◌≡◌, refl, sym, ap, ◌∙◌}
use mathlib.Core.Bool.{Bool, true, false, not, and-false}
use mathlib.Core.List.{List, [], ◌∷◌, ◌++◌, map, append-nil}
use Prim.Native.Nat.{ℕ, zero, suc, ◌+◌, ◌*◌, ◌<◌, ◌≤◌}
use native.Mathlib.Nat.{le_of_eq, mul-one}
use native.Mathlib.Omega.{arith}
use borrow.Author.Tests.{le-ltb, lt-ltb, eq-eqb, ne_eqb, not-false}
use lib.IntN.{ℤ, pos}
use lib.ListN.{length, take, drop, get_or, drop_of_length-le}
use lib.Seq.{length-take-le}
use Rattle.std.specs.Bool.{MatchBool}
use Rattle.std.specs.List.{AllWithin, HoldsAt}
use Rattle.bitfields.specs.Layout.{Field, bits, number, each, octets, bytes_for, Bytes, pack, write, put, written}
use Rattle.bitfields.specs.Twos.{encode, fitsb, AllFit}
use Rattle.bitfields.proofs.Writing.{put_written}
use Rattle.job.specs.Header.{number_bits, count, header_checks, Limits}
use Rattle.job.proofs.Limits.{limits_exactly, count-least}
use Rattle.job.specs.Refusal.{first_refusal}
use Rattle.job.specs.declared.Header.{Header}
use Rattle.job.specs.Refused.{Verdict, number_of, row_of, verdict_by}
use Rattle.job.specs.declared.refusals.Refused.{Refused}
use Rattle.job.proofs.Numbers.{number_positive}
use Rattle.header.specs.Header.{header_bits, header_fields}
use Rattle.header.proofs.Header.{fit-header}
use Rattle.system.specs.Inner.{Numbers}
use Rattle.frame.specs.Frame.{frame_fields, frame_length, number_checks, frame_row, all_fit, frame_buffer_too_short, frame_writer_checks, frame_writer_refusal, frame_writer_answer, frame_writer_buffer, sent_checks}
use Rattle.frame.specs.Theorems.{ValidJob}
use Rattle.frame.proofs.Valid.{frame_bits-most, all_fit_true, frame_writer_accepted}
use Rattle.frame.proofs.RoundTrip.{bits-frame}
use Rattle.frame.specs.Inner.{checks_verdict}
use Rattle.frame.proofs.Verdicts.{rowless, error_rowless, verdict_before, verdict_first, verdict_after, numbers-small}

-- ---- 13: whether every number fits, told by one that does not or by all that do

every_fits : (w : ℕ) (v : List ℤ) → ((k : ℕ) → k < length v → fitsb w (get_or v k (pos 0)) ≡ true) → true ≡ all_fit w v
unfolding all_fit
every_fits w [] h = refl
every_fits w (z ∷ v) h = rw (h 0 (omega arith)) (every_fits w v (λ k l. h (suc k) (omega arith)))

one_too_wide : (w : ℕ) (v : List ℤ) (k : ℕ) → k < length v → fitsb w (get_or v k (pos 0)) ≡ false → false ≡ all_fit w v
unfolding all_fit
one_too_wide w [] k l h = absurd (omega arith)
one_too_wide w (z ∷ v) zero l h = rw h refl
one_too_wide w (z ∷ v) (suc k) l h = rw (← one_too_wide w v k (omega arith) h) (sym (and-false (fitsb w z)))

pub fit_told : (w : ℕ) (v : List ℤ) (t : Bool)
    → MatchBool t (AllWithin (λ z. fitsb w z ≡ true) v 0 (length v)) ((k : ℕ) × (k < length v) × HoldsAt (λ z. fitsb w z ≡ false) v k) → t ≡ all_fit w v
fit_told w v true h = every_fits w v (λ k l. h k (pos 0) (omega arith) l)
fit_told w v false h = one_too_wide w v h.0 h.1 (h.2 (pos 0))

-- ---- 12, 13, 8 and 15

module _ (h : Header) (v : List ℤ) {n : ℕ} (k : n ≡ count h) where
  pub count_decides : (length v ≡ n → ⊥) → record { refusal = 12; row = 0 } ≡ checks_verdict (sent_checks h v) h v
  unfolding checks_verdict
  count_decides g = rw (ne_eqb (length v) (count h) (rw k at g))

  module _ {t : Bool} (g : length v ≡ n) (f : t ≡ all_fit (h.f + 2) v) where
    pub fit_decides : not t ≡ true → record { refusal = 13; row = 0 } ≡ checks_verdict (sent_checks h v) h v
    unfolding checks_verdict
    fit_decides e = rw (eq-eqb (length v) (count h) (g ∙ k), rw f at e)

    pub numbers-sent : not t ≡ false → Limits h → Limits h × Numbers (count h) v
    numbers-sent e l = (l, numbers-small l (g ∙ k) (all_fit_true (number_bits h) v (rw (← f, not-false t e) tt)))

    pub rows_decide : not t ≡ false → {d : Verdict} → d ≡ checks_verdict (number_checks h v) h v → d ≡ checks_verdict (sent_checks h v) h v
    unfolding checks_verdict
    rows_decide e o = rw (eq-eqb (length v) (count h) (g ∙ k), rw f at e) o

-- ---- all refusals in their order

module _ (h : Header) (v : List ℤ) (room : ℕ) where
  -- by the error e of the header
  pub header_decides : (e : Refused) → number_of e ≡ first_refusal (header_checks h) → verdict_by e ≡ checks_verdict (frame_writer_checks h v room) h v
  unfolding frame_writer_checks rowless
  header_decides e n =
      error_rowless (header_checks h) e tt n
      ∙ verdict_before h v (header_checks h) (sent_checks h v ++ ((23, frame_buffer_too_short h room) ∷ [])) tt refl (rw n at (number_positive e))

  -- by none of the header
  module _ (e : 0 ≡ first_refusal (header_checks h)) where
    pub writer_limits : Limits h
    writer_limits = (limits_exactly h).0 (sym e)

    past_header : checks_verdict (frame_writer_checks h v room) h v ≡ checks_verdict (sent_checks h v ++ ((23, frame_buffer_too_short h room) ∷ [])) h v
    unfolding frame_writer_checks
    past_header = verdict_after h v (header_checks h) (sent_checks h v ++ ((23, frame_buffer_too_short h room) ∷ [])) tt (sym e)

    module _ {d : Verdict} (f : d ≡ checks_verdict (sent_checks h v) h v) where
      pub numbers_decide : 0 < d.refusal → d ≡ checks_verdict (frame_writer_checks h v room) h v
      numbers_decide y = verdict_first h v (sent_checks h v) ((23, frame_buffer_too_short h room) ∷ []) f y ∙ sym past_header

      module _ (y : d.refusal ≤ 0) {b : ℕ} (g : b ≡ frame_length h) where
        past_numbers : checks_verdict (frame_writer_checks h v room) h v ≡ checks_verdict ((23, frame_buffer_too_short h room) ∷ []) h v
        unfolding checks_verdict
        past_numbers =
            past_header
            ∙ verdict_after h v (sent_checks h v) ((23, frame_buffer_too_short h room) ∷ []) tt (omega (arith, ap (λ (d : Verdict). d.refusal) f))

        pub room_decides : room < b → record { refusal = 23; row = 0 } ≡ checks_verdict (frame_writer_checks h v room) h v
        unfolding checks_verdict
        room_decides l = rw (lt-ltb room (frame_length h) (rw g at l)) at (sym past_numbers)

        pub none_decides : b ≤ room → record { refusal = 0; row = 0 } ≡ checks_verdict (frame_writer_checks h v room) h v
        unfolding checks_verdict
        none_decides l = rw (le-ltb room (frame_length h) (rw g at l)) at (sym past_numbers)

-- ---- the bytes of a valid job

bits-header : (h : Header) → bits (header_fields h) ≡ header_bits
unfolding bits
bits-header h = refl

-- they are three bytes
three_bytes : (fs : List Field) → bits fs ≡ header_bits → octets 3 (number fs) ≡ write fs
unfolding pack
three_bytes fs e = rw (e, mul-one)

-- the three bytes x of a header, at the front of a
header-put : (h : Header) (s : List ℕ) {x : ℕ} {a : List ℕ} → x ≡ number (header_fields h) → a ≡ take 0 s ++ octets 3 x ++ drop (0 + 3) s
    → a ≡ written s (header_fields h)
unfolding written
header-put h s e f = f ∙ rw (e, three_bytes (header_fields h) (bits-header h), bits-header h)

-- a buffer that the fields fill
written_whole : (s : List ℕ) (fs : List Field) → length s ≡ bytes_for (bits fs) → written s fs ≡ write fs
unfolding written
written_whole s fs e = rw (drop_of_length-le s (le_of_eq e)) (append-nil (write fs))

module _ (h : Header) (v : List ℤ) (s : List ℕ) (pre : ValidJob h v × (length s ≡ frame_length h)) where
  pub put-room : (a : List ℕ) → length a ≡ length s
      → (header_bits + (h.f + 2) * length v ≤ 8 * length a) × (0 < length v) × (0 < h.f + 2) × (h.f + 2 ≤ 48) × (length a ≤ 65536) × AllFit (h.f + 2) v
  put-room a e =
      let l = pre.0.limits in
      rw (e, pre.1, pre.0.counted)
      (omega arith, count-least h.kind h.n l.kind_most l.order_least, omega arith, omega (arith, l.fraction_most), omega (arith, frame_bits-most l), pre.0.fit)

  -- the header's three bytes give a, and then the numbers give b
  pub put_both : {x : ℕ} {a b : List ℕ} → Bytes s → x ≡ number (header_fields h) → a ≡ take 0 s ++ octets 3 x ++ drop (0 + 3) s
      → b ≡ put a header_bits (each (h.f + 2) (map (encode (h.f + 2)) v)) → b ≡ write (frame_fields h v)
  put_both k e f g =
      g
      ∙ rw (← header-put h s e f, bits-header h) at (put_written (each (h.f + 2) (map (encode (h.f + 2)) v)) k (fit-header pre.0.limits))
      ∙ written_whole s (frame_fields h v) (pre.1 ∙ ap bytes_for (sym (bits-frame h v pre.0.counted)))

-- ---- the answer and the buffer

pub write-refused : (h : Header) (v : List ℤ) (out : List ℕ) (e : Refused) → verdict_by e ≡ checks_verdict (frame_writer_checks h v (length out)) h v
    → (record { refusal = number_of e; row = row_of e; length = 0 } ≡ frame_writer_answer h v (length out)) × (out ≡ frame_writer_buffer h v out)
unfolding frame_writer_answer frame_writer_buffer checks_verdict
write-refused h v out e f =
    let c : number_of e ≡ frame_writer_refusal h v (length out) = ap (λ (d : Verdict). d.refusal) f in
    let r : row_of e ≡ frame_row (frame_writer_refusal h v (length out)) h v = ap (λ (d : Verdict). d.row) f in
    let n = ne_eqb (frame_writer_refusal h v (length out)) 0 (λ y. omega (arith, number_positive e)) in
    (rw (n, c, r), rw n)

module _ (h : Header) (v : List ℤ) (out : List ℕ) {d : Verdict} (e : d ≡ checks_verdict (frame_writer_checks h v (length out)) h v) where
  module _ (z : d.refusal ≤ 0) where
    no_refusal : frame_writer_refusal h v (length out) ≡ 0
    unfolding checks_verdict
    no_refusal = omega (arith, ap (λ (d : Verdict). d.refusal) e)

    pub write-valid : ValidJob h v × (frame_length h ≤ length out)
    write-valid = (frame_writer_accepted h v (length out)).0 no_refusal

    module _ {n : ℕ} (g : n ≡ frame_length h) where
      pub part_within : n ≤ length out
      part_within = rw g write-valid.1

      pub part_long : n ≡ length (take n out)
      part_long = sym (length-take-le n out part_within)

      pub part_ready : ValidJob h v × (length (take n out) ≡ frame_length h)
      part_ready = (write-valid.0, sym part_long ∙ g)

      pub write-taken : {p : List ℕ} → p ≡ write (frame_fields h v)
          → (record { refusal = 0; row = 0; length = n } ≡ frame_writer_answer h v (length out)) × (p ++ drop n out ≡ frame_writer_buffer h v out)
      unfolding frame_writer_answer frame_writer_buffer written
      write-taken f =
          let b = bits-frame h v write-valid.0.counted in
          (rw (no_refusal, g), rw (no_refusal, f, g) (ap (λ (b : ℕ). write (frame_fields h v) ++ drop (bytes_for b) out) (sym b)))
