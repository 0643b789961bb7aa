-- Entries past the order n, in G, z or the digits (document 01, "Calls"): they are 0 after a load, and no
-- call looks at them or changes them. Said of any state, whether or not a load made it, and whatever its
-- order is. `proofs/PastOrder.antt` has a proof of each statement.
--
-- That a call does not look at them: two states may differ there and be the same in all else, which is
-- `SameBelow` of the crate state; then the call answers the same of both, and the states that come back
-- differ there at most. That it does not change them: they are the same in the state that goes in and in the
-- one that comes back, which is `SamePast`.
use mathlib.Core.{Path.◌≡◌, List.List, Logic.◌⊎◌}
use Rattle.std.specs.Prelude.{ℕ, ◌<◌, ◌≤◌}
use lib.{IntN.ℤ, IntN.pos, ListN.length}
use Rattle.integers.specs.Flat.{at, entry}
use Rattle.state.specs.{State.all_steps, State.SameBelow, declared.State.State}
use Rattle.evaluator.specs.Evaluator.{loaded, advanced, readings_refusal, readings_list}

-- ---- what stands past the order: of the 16 rows and columns that the arrays have, G's entries in a row or a
-- column from n on, counted from 0, and the residuals and the digits of the rows from n on

-- it is the same in both states
pub record SamePast (s t : State) : Type 0 where
  pub header : s.header ≡ t.header
  pub matrix : (i j : ℕ) → i < 16 → j < 16 → (s.header.n ≤ i) ⊎ (s.header.n ≤ j) → entry s.g i j ≡ entry t.g i j
  pub residuals : (i : ℕ) → i < 16 → s.header.n ≤ i → at s.z i ≡ at t.z i
  pub digits : (j i : ℕ) → j < all_steps → i < 16 → s.header.n ≤ i → entry s.digits j i ≡ entry t.digits j i

-- it is 0
pub record ZeroPast (s : State) : Type 0 where
  pub matrix : (i j : ℕ) → i < 16 → j < 16 → (s.header.n ≤ i) ⊎ (s.header.n ≤ j) → entry s.g i j ≡ pos 0
  pub residuals : (i : ℕ) → i < 16 → s.header.n ≤ i → at s.z i ≡ pos 0
  pub digits : (j i : ℕ) → j < all_steps → i < 16 → s.header.n ≤ i → entry s.digits j i ≡ pos 0

-- The arrays that a step stores to are as long in the one state as in the other. In running code they always
-- are, 16 and 960 long; the lists that stand for them in a definition could have any length, and what is
-- stored past the end of a list is lost.
pub record SameLengths (s t : State) : Type 0 where
  pub residuals : length s.z ≡ length t.z
  pub digits : length s.digits ≡ length t.digits

-- ---- load

-- 0 past the order, whatever the bytes. A refused load gives the idle state, whose order is 0: of it this
-- says that every entry is 0.
abbrev pub LoadZeros : Type 0
LoadZeros = (bytes : List ℕ) → ZeroPast (loaded bytes).state

-- ---- advance

-- the same refusal and the same counts with every budget, and states that agree below the order again
pub record AdvancedAlike (s t : State) (budget : ℕ) : Type 0 where
  pub refusal : (advanced s budget).refusal ≡ (advanced t budget).refusal
  pub made : (advanced s budget).made ≡ (advanced t budget).made
  pub additions : SameLengths s t → (advanced s budget).additions ≡ (advanced t budget).additions
  pub state : SameLengths s t → SameBelow (advanced s budget).state (advanced t budget).state
  -- so that the same can be said of the next call
  pub lengths : SameLengths s t → SameLengths (advanced s budget).state (advanced t budget).state

abbrev pub AdvanceBelow : Type 0
AdvanceBelow = (s t : State) (budget : ℕ) → SameBelow s t → AdvancedAlike s t budget

-- what stands past the order comes back as it went in
abbrev pub AdvanceKeeps : Type 0
AdvanceKeeps = (s : State) (budget : ℕ) → SamePast s (advanced s budget).state

-- ---- readings, which give no state back

-- the same refusal with every room, and the same words in every list lent
pub record ReadAlike (s t : State) : Type 0 where
  pub refusal : (room : ℕ) → readings_refusal s room ≡ readings_refusal t room
  pub list : (out : List ℤ) → readings_list s out ≡ readings_list t out

abbrev pub ReadingsBelow : Type 0
ReadingsBelow = (s t : State) → SameBelow s t → ReadAlike s t
