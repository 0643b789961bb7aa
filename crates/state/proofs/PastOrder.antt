-- Of two states that agree below the order refusals 20 and 24 come out the same. Cited by `PastOrder` of the
-- evaluator and of traces.
use mathlib.Core.Path.{◌≡◌, refl, sym}
use mathlib.Core.List.{List}
use Prim.Native.Nat.{ℕ, zero, suc, ◌+◌, ◌*◌, ◌<◌, ◌≤◌}
use native.Mathlib.Omega.{arith}
use lib.Dec.{ltb}
use lib.IntN.{ℤ, pos, nat_abs}
use lib.ListN.{set}
use lib.Seq.{get_or-set_other}
use Rattle.integers.specs.Flat.{entry}
use Rattle.integers.proofs.Product.{weight_ext}
use Rattle.job.proofs.Limits.{last-small}
use Rattle.system.proofs.FirstRow.{first_row_ext}
use Rattle.state.specs.State.{beyond, breaks_limit, state_checks, SameBelow, PassesLimits}
use Rattle.state.specs.Inner.{state_of}
use Rattle.state.specs.declared.State.{State}
use Rattle.job.proofs.Refusal.{same_test}
use Rattle.state.proofs.PassesLimits.{passes-limits}

-- either may be named first
other_way : {s t : State} → SameBelow s t → SameBelow t s
other_way {s} {t} e =
    record {
      busy = sym e.busy;
      header = sym e.header;
      scale = sym e.scale;
      steps = sym e.steps;
      matrix = λ i j l m. sym (e.matrix i j (rw e.header l) (rw e.header m));
      residuals = λ i l. sym (e.residuals i (rw e.header l));
      digits = λ j i m l. sym (e.digits j i m (rw e.header l));
    }

-- For example: x stored past the order, in row i and column j of G, in row i of z, and in the digit of step c
-- + 1 and row i.
abbrev pub overwritten : (s : State) (i j c : ℕ) (x : ℤ) → State
overwritten s i j c x =
    state_of s.busy s.header s.scale s.k (set s.g (16 * i + j) x) (set s.z i x) (set s.digits (16 * c + i) x)

pub overwritten_below : (s : State) (i j c : ℕ) (x : ℤ) → s.header.n ≤ i → i < 16 → j < 16 → SameBelow s (overwritten s i j c x)
overwritten_below s i j c x o l m =
    record {
      busy = refl;
      header = refl;
      scale = refl;
      steps = refl;
      matrix = λ a b h k. sym (get_or-set_other s.g (16 * i + j) (16 * a + b) x (pos 0) (λ e. omega arith));
      residuals = λ a h. sym (get_or-set_other s.z i a x (pos 0) (λ e. omega arith));
      digits = λ t a h k. sym (get_or-set_other s.digits (16 * c + i) (16 * t + a) x (pos 0) (λ e. omega arith));
    }

-- ---- refusals 20 and 24

module _ {s t : State} (e : SameBelow s t) where
  -- what 24 asks of the one it asks of the other
  passes_too : PassesLimits s → PassesLimits t
  passes_too p =
      record {
        limits = rw (← e.header) p.limits;
        scaled = rw (← e.header, ← e.scale) p.scaled;
        steps = rw (← e.header, ← e.scale, ← e.steps) p.steps;
        light = λ i l.
            let a : i < s.header.n = rw e.header l in
            rw (← e.header, ← weight_ext s.header.n (entry s.g i) (entry t.g i) (λ j m. e.matrix i j a m)) (p.light i a);
        small = λ i l.
            let a : i < s.header.n = rw e.header l in
            rw (← e.header, ← e.scale, ← e.residuals i a) (p.small i a);
        made = λ j i m l.
            let a : i < s.header.n = rw e.header l in
            let b : j < s.k = rw e.steps m in
            rw (← e.header, ← e.digits j i (omega (arith, p.steps, last-small s.header s.scale p.scaled)) a) (p.made j i b a);
        later = λ j i m b l.
            let a : i < s.header.n = rw e.header l in
            rw (← e.digits j i b a) (p.later j i (rw e.steps m) b a);
      }

module _ {s t : State} (e : SameBelow s t) where
  breaks_alike : breaks_limit s ≡ breaks_limit t
  breaks_alike =
      same_test (breaks_limit s) (breaks_limit t)
      (λ p. (passes-limits t).1 (passes_too e ((passes-limits s).0 p)))
      (λ p. (passes-limits s).1 (passes_too (other_way e) ((passes-limits t).0 p)))

  pub checked_alike : state_checks s ≡ state_checks t
  checked_alike = rw (breaks_alike, e.busy)

-- ---- the digits that are looked at

-- only those of the c steps after the first j, in the rows below n
pub beyond_ext : (n b : ℕ) (ds ds' : List ℤ) (j c : ℕ) → ((t i : ℕ) → j ≤ t → t < j + c → i < n → entry ds t i ≡ entry ds' t i)
    → beyond n b ds j c ≡ beyond n b ds' j c
unfolding beyond
beyond_ext n b ds ds' j zero h = refl
beyond_ext n b ds ds' j (suc c) h =
    rw (
      first_row_ext n (λ i. ltb b (nat_abs (entry ds j i))) (λ i. ltb b (nat_abs (entry ds' j i)))
          (λ i l. rw (h j i (omega arith) (omega arith) l)),
      beyond_ext n b ds ds' (suc j) c (λ t i g l. h t i (omega arith) (omega arith)),
    )
