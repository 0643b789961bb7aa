-- The law of refusals: a list of checks decides the number that is answered, whichever list it is (demand 1).
-- And laws of tests and of choices by a refusal number, which every crate with checks cites.
use mathlib.Core.Path.{◌≡◌, refl, sym}
use mathlib.Core.Bool.{Bool, true, false, not, cond, ◌||◌, true≢false}
use mathlib.Core.List.{List, [], ◌∷◌, ◌++◌}
use mathlib.Core.Logic.{◌↔◌}
use Prim.Native.Nat.{ℕ, zero, suc, ◌<◌}
use native.Mathlib.Omega.{arith}
use borrow.Author.Tests.{eq-eqb, ne_eqb}
use lib.Dec.{T, ltb, ltb→lt, eqb, eqb→eq, eqb-suc-zero}
use Rattle.integers.proofs.Normal.{both, both_left, both_right}
use Rattle.job.specs.Refusal.{Check, first_refusal, First, here, later, None, none, also, Decides}

-- no number is 0, which stands for accepted
abbrev pub numbered : List Check → Bool
numbered [] = true
numbered (c ∷ cs) = both (ltb 0 c.0) (numbered cs)

refused→first : (c : ℕ) (cs : List Check) → 0 < c → first_refusal cs ≡ c → First c cs
refused→first c [] h e = absurd (omega arith)
refused→first c ((k, true) ∷ cs) h e = rw e (here tt)
refused→first c ((k, false) ∷ cs) h e = later tt (refused→first c cs h e)

first→refused : (c : ℕ) (cs : List Check) → First c cs → first_refusal cs ≡ c
first→refused c [] x = elim x [ ]
first→refused c ((k, true) ∷ cs) (here t) = refl
first→refused c ((k, true) ∷ cs) (later t f) = absurd t
first→refused c ((k, false) ∷ cs) (here t) = absurd t
first→refused c ((k, false) ∷ cs) (later t f) = first→refused c cs f

accepted→none : (cs : List Check) → T (numbered cs) → first_refusal cs ≡ 0 → None cs
accepted→none [] t e = none
accepted→none ((k, true) ∷ cs) t e = absurd (omega (arith, ltb→lt 0 k (both_left (ltb 0 k) (numbered cs) t)))
accepted→none ((k, false) ∷ cs) t e = also tt (accepted→none cs (both_right (ltb 0 k) (numbered cs) t) e)

none→accepted : (cs : List Check) → None cs → first_refusal cs ≡ 0
none→accepted [] none = refl
none→accepted ((k, true) ∷ cs) (also t f) = absurd t
none→accepted ((k, false) ∷ cs) (also t f) = none→accepted cs f

-- accepted exactly when no condition holds
pub accepted_exactly : (cs : List Check) → T (numbered cs) → (first_refusal cs ≡ 0) ↔ None cs
accepted_exactly cs t = (accepted→none cs t, none→accepted cs)

-- the law
pub decided : (cs : List Check) → T (numbered cs) → Decides cs (first_refusal cs)
decided cs t = record { refused = λ c h. (refused→first c cs h, first→refused c cs); accepted = accepted_exactly cs t }

-- ---- checks one after the other

pub refused-before : (xs ys : List Check) (c : ℕ) → 0 < c → first_refusal xs ≡ c → first_refusal (xs ++ ys) ≡ c
refused-before [] ys c h e = absurd (omega arith)
refused-before ((k, true) ∷ xs) ys c h e = e
refused-before ((k, false) ∷ xs) ys c h e = refused-before xs ys c h e

pub accepted-before : (xs ys : List Check) → T (numbered xs) → first_refusal xs ≡ 0 → first_refusal (xs ++ ys) ≡ first_refusal ys
accepted-before [] ys t e = refl
accepted-before ((k, true) ∷ xs) ys t e = absurd (omega (arith, ltb→lt 0 k (both_left (ltb 0 k) (numbered xs) t)))
accepted-before ((k, false) ∷ xs) ys t e = accepted-before xs ys (both_right (ltb 0 k) (numbered xs) t) e

-- ---- tests that fail, as facts

pub fails : (b : Bool) → T (not b) → b ≡ false
fails true t = absurd t
fails false t = refl

pub not_failed : (b : Bool) → b ≡ false → T (not b)
not_failed b e = rw e tt

-- either test fails exactly when both do
pub or_fails : (a b : Bool) → ((a || b) ≡ false) ↔ ((a ≡ false) × (b ≡ false))
or_fails true b = ((λ e. absurd (true≢false e)), (λ e. e.0))
or_fails false b = ((λ e. (refl, e)), (λ e. e.1))

pub neither : (a b : Bool) → T (not (a || b)) → (a ≡ false) × (b ≡ false)
neither a b t = (or_fails a b).0 (fails (a || b) t)

pub both_fail : (a b : Bool) → a ≡ false → b ≡ false → T (not (a || b))
both_fail a b e f = not_failed (a || b) ((or_fails a b).1 (e, f))

-- two tests that fail together are one
pub same_test : (a b : Bool) → (a ≡ false → b ≡ false) → (b ≡ false → a ≡ false) → a ≡ b
same_test true true f g = refl
same_test true false f g = g refl
same_test false true f g = sym (f refl)
same_test false false f g = refl

-- an equality that is not found to fail
pub equal : (a b : ℕ) → T (not (not (eqb a b))) → a ≡ b
equal a b t = eqb→eq a b (double (eqb a b) t)
  where
    double : (c : Bool) → T (not (not c)) → T c
    double true t = tt
    double false t = absurd t

pub not_unequal : (a b : ℕ) → a ≡ b → T (not (not (eqb a b)))
not_unequal a b e = rw (eq-eqb a b e) tt

-- ---- a choice by a refusal number

pub refused_gives : {A : Type 0} (c : ℕ) (x y : A) → 0 < c → cond (eqb c 0) x y ≡ y
refused_gives c x y h = rw (ne_eqb c 0 (λ e. omega arith))

pub either : {A B : Type 0} (c : ℕ) (f : A → B) {x y : A} {z : B} → (c ≡ 0 → f x ≡ z) → f y ≡ z → f (cond (eqb c 0) x y) ≡ z
either zero f p q = p refl
either (suc c) f p q = rw (eqb-suc-zero c) q
