-- What the call answers and leaves, over the locals of its code: by what it is refused, and what the
-- functions that it calls ask. Cited by the proof of `running_sums`.
use mathlib.Core.Path.{◌≡◌, refl, sym, ◌∙◌}
use mathlib.Core.List.{List, [], ◌∷◌, ◌++◌}
use Prim.Native.Nat.{ℕ, ◌+◌, ◌*◌, ◌<◌, ◌≤◌}
use native.Mathlib.Omega.{arith}
use borrow.Author.Tests.{lt-ltb, le-ltb, ne_eqb}
use lib.IntN.{ℤ}
use lib.ListN.{length, drop}
use Rattle.integers.specs.Flat.{at, flat_vector}
use Rattle.integers.proofs.Flat.{at-flat_vector}
use Rattle.job.specs.Refusal.{first_refusal, None, none, also}
use Rattle.job.proofs.Limits.{last-small}
use Rattle.job.proofs.Refusal.{accepted_exactly, refused-before, accepted-before, fails}
use Rattle.state.specs.State.{PassesLimits, digits_of, state_checks}
use Rattle.state.specs.declared.State.{State}
use Rattle.state.proofs.PassesLimits.{passes-limits}
use Rattle.stepping.proofs.Kept.{keeps_limits}
use Rattle.stepping.proofs.Limits.{may-sum-rows}
use Rattle.running_sums.specs.RunningSums.{SumsWritten, columns_below, words_below, word_count_below, last_digit, word_count, sums_list_too_short, sums_checks, sums_refusal, sums_written, sums_list}
use Rattle.running_sums.specs.Inner.{MayPut}
use Rattle.running_sums.proofs.Columns.{columns_alike, words_alike, words_most}

-- what is to be shown where the code returns
abbrev pub Answered : (s : State) (out : List ℤ) (refusal count : ℕ) (left : List ℤ) → Type 0
Answered s out refusal count left = (◌≡◌ {A = SumsWritten} (record { refusal = refusal; count = count }) (sums_written s (length out))) × (left ≡ sums_list s out)

-- refused by number c, which is not 0
refuses : (s : State) (out : List ℤ) (c : ℕ) → 0 < c → sums_refusal s (length out) ≡ c → Answered s out c 0 out
unfolding sums_written sums_list
refuses s out c h e = let q = ne_eqb c 0 (λ z. omega arith) in (rw (e, q) refl, rw (e, q) refl)

module _ (s : State) (out : List ℤ) where
  abbrev n : ℕ
  n = s.header.n

  -- 20 and 24
  pub state_refuses : (c : ℕ) → c ≡ first_refusal (state_checks s) → 0 < c → Answered s out c 0 out
  unfolding sums_checks
  state_refuses c e h = refuses s out c h (refused-before (state_checks s) ((23, sums_list_too_short s (length out)) ∷ []) c h (sym e))

  module _ (passed : 0 ≡ first_refusal (state_checks s)) where
    passes : PassesLimits s
    passes = from ((accepted_exactly (state_checks s) tt).0 (sym passed))
      where
        from : None (state_checks s) → PassesLimits s
        from (also idle (also broken none)) = (passes-limits s).0 (fails _ broken)

    pub may_copy_digits : (s.k ≤ 60) × (n ≤ 16)
    may_copy_digits = (omega (arith, passes.steps, last-small s.header s.scale passes.scaled), passes.limits.order_most)

    -- the last check
    refusal_is : sums_refusal s (length out) ≡ first_refusal ((23, sums_list_too_short s (length out)) ∷ [])
    unfolding sums_checks
    refusal_is = accepted-before (state_checks s) ((23, sums_list_too_short s (length out)) ∷ []) tt (sym passed)

    -- `d` has the digits of the last step, and `c` columns are not skipped
    module _ (d : List ℤ) (ed : d ≡ flat_vector n (digits_of s.digits s.k)) (c : ℕ) (ec : c ≡ columns_below (at d) n) where
      digit_is : (j : ℕ) → j < n → at d j ≡ last_digit s j
      digit_is j l = rw ed (at-flat_vector n (digits_of s.digits s.k) j passes.limits.order_most l)

      count_is : (n + 1) * c ≡ word_count s
      count_is = rw (ec, columns_alike (at d) (last_digit s) n digit_is) refl

      pub count_small : (n + 1) * c ≤ 272
      count_small = rw ec (words_most (at d) n n passes.limits.order_most passes.limits.order_most)

      -- 23
      pub list_refuses : length out < (n + 1) * c → Answered s out 23 0 out
      list_refuses l = refuses s out 23 (omega arith) (refusal_is ∙ rw (← count_is, lt-ltb (length out) ((n + 1) * c) l) refl)

      module _ (l : (n + 1) * c ≤ length out) where
        accepted : sums_refusal s (length out) ≡ 0
        accepted = refusal_is ∙ rw (← count_is, le-ltb (length out) ((n + 1) * c) l) refl

        pub may-put : MayPut n s.g d (length out)
        may-put = record { order = passes.limits.order_most; sums = rw ed (may-sum-rows (keeps_limits s passes)); enough = rw ec at l }

        -- `left` is what `put_sums` left
        pub sums-put : (left : List ℤ) → left ≡ words_below n s.g (at d) n ++ drop (word_count_below n (at d) n) out → Answered s out 0 ((n + 1) * c) left
        unfolding sums_written sums_list
        sums-put left e = (
          rw (accepted, count_is) refl,
          e ∙ rw (accepted, words_alike (at d) (last_digit s) n s.g s.g n digit_is (λ i k l m. refl), columns_alike (at d) (last_digit s) n digit_is) refl,
        )
