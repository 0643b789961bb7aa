-- Refusals: every call that can refuse has a list of checks, each a refusal number of document 01 with its
-- condition, in document 01's order. It answers the number of the first condition that holds, and 0 where
-- none does.
use mathlib.Core.{Path.◌≡◌, Bool.Bool, Bool.not, Bool.cond, List.List, List.[], List.◌∷◌, Logic.◌↔◌}
use Rattle.std.specs.Prelude.{ℕ, ◌<◌, T}

-- a refusal number and its condition
abbrev pub Check : Type 0
Check = ℕ × Bool

-- the number of the first condition that holds; 0 where none does
abbrev pub first_refusal : List Check → ℕ
first_refusal [] = 0
first_refusal (c ∷ cs) = cond c.1 c.0 (first_refusal cs)

-- c's condition holds, and none before it does
pub data First (c : ℕ) : List Check → Type 0 where
  here : {b : Bool} {cs : List Check} → T b → First c ((c, b) ∷ cs)
  later : {k : ℕ} {b : Bool} {cs : List Check} → T (not b) → First c cs → First c ((k, b) ∷ cs)

-- no condition holds
pub data None : List Check → Type 0 where
  none : None []
  also : {k : ℕ} {b : Bool} {cs : List Check} → T (not b) → None cs → None ((k, b) ∷ cs)

-- Demand 1, of one call: its checks decide its answer. It answers c exactly when c's condition holds and none
-- before it does, and 0 exactly when no condition holds. Said of every call where the call's definitions are,
-- and proved there by `decided` of proofs/Refusal.antt.
pub record Decides (checks : List Check) (answer : ℕ) : Type 0 where
  pub refused : (c : ℕ) → 0 < c → (answer ≡ c) ↔ First c checks
  pub accepted : (answer ≡ 0) ↔ None checks
