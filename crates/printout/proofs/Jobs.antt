-- Jobs: what a state that passes 20 and 24 gives for its printout, that its readings are not refused, and
-- how long its lines are. Cited by the proofs of the functions that put a whole job.
use mathlib.Core.Path.{◌≡◌, refl, sym, ap, ◌∙◌}
use mathlib.Core.List.{List, [], ◌∷◌, map}
use Prim.Native.Nat.{ℕ, zero, suc, ◌+◌, ◌*◌, ◌<◌, ◌≤◌}
use native.Mathlib.Omega.{arith}
use borrow.Author.Tests.{le-ltb}
use lib.IntN.{ℤ, pos}
use lib.ListN.{length, length-append}
use lib.Seq.{get_or-take}
use Rattle.integers.specs.Flat.{at}
use Rattle.integers.proofs.Flat.{getD_list_from}
use Rattle.job.specs.Header.{radix}
use Rattle.job.proofs.Limits.{last-small}
use Rattle.job.specs.Refusal.{first_refusal}
use Rattle.job.proofs.Refusal.{accepted-before}
use Rattle.job.specs.declared.Header.{Header}
use Rattle.state.specs.State.{PassesLimits, state_checks}
use Rattle.state.specs.declared.State.{State}
use Rattle.evaluator.specs.Evaluator.{state_reading, readings_list_too_short, readings_checks, readings_refusal, readings_list}
use Rattle.evaluator.proofs.Kept.{passes_exactly}
use Rattle.evaluator.proofs.Theorems.{readings_front}
use Rattle.text.specs.declared.Page.{Page}
use Rattle.text.specs.Text.{decimal, line_end, Written}
use Rattle.text.proofs.Putting.{length-decimal}
use Rattle.printout.specs.Printout.{items_from, header_line}

-- ---- how long a header's line is

length_naturals : (ns : List ℕ) → length (line_end (map decimal ns)) ≤ 21 * length ns + 1
unfolding line_end
length_naturals [] = omega arith
length_naturals (n ∷ ns) = omega (arith, length-append (decimal n) (line_end (map decimal ns)), length-decimal n, length_naturals ns)

pub length-header_line : (h : Header) (s : ℕ) → length (header_line h s) ≤ 147
length-header_line h s =
    let ns : List ℕ = radix h.code ∷ h.p ∷ h.f ∷ h.n ∷ h.m ∷ s ∷ [] in
    omega (arith, length-append (decimal h.kind) (line_end (map decimal ns)), length-decimal h.kind, length_naturals ns)

-- ---- items that are equal make the same text

items_ext : (i k : ℕ) (f g : ℕ → ℤ) → ((j : ℕ) → i ≤ j → j < i + k → f j ≡ g j) → items_from i k f ≡ items_from i k g
unfolding items_from
items_ext i zero f g h = refl
items_ext i (suc k) f g h = rw (h i (omega arith) (omega arith), items_ext (suc i) k f g (λ j a b. h j (omega arith) (omega arith)))

-- ---- a state that passes 20 and 24

module _ (s : State) (p : first_refusal (state_checks s) ≡ 0) where
  sound : PassesLimits s
  sound = ((passes_exactly s).0 p).1

  pub radix_code_small : s.header.code ≤ 3
  radix_code_small = sound.limits.code_most

  pub order_small : s.header.n ≤ 16
  order_small = sound.limits.order_most

  pub made-small : s.k ≤ 60
  made-small = omega (arith, sound.steps, last-small s.header s.scale sound.scaled)

  -- its readings are not refused
  readings_pass : (room : ℕ) → 16 ≤ room → readings_refusal s room ≡ 0
  unfolding readings_checks
  readings_pass room h = accepted-before (state_checks s) ((23, readings_list_too_short s room) ∷ []) tt p ∙ rw (le-ltb room s.header.n (omega (arith, order_small)))

  reading-at : (y out : List ℤ) (i : ℕ) → 16 ≤ length out → y ≡ readings_list s out → i < s.header.n → at y i ≡ state_reading s i
  reading-at y out i h e l =
      let n = s.header.n in
      let f = ap (λ (v : List ℤ). at v i) (readings_front s out (readings_pass (length out) h)) in
      let z : 0 + i ≡ i = omega arith in
      rw e (sym (get_or-take n (readings_list s out) i (pos 0) l) ∙ f ∙ rw z at (getD_list_from 0 n (state_reading s) i l))

  pub readings-put : {page after : Page} (y out : List ℤ) → 16 ≤ length out → y ≡ readings_list s out
      → Written page (line_end (items_from 0 s.header.n (at y))) after
      → Written page (line_end (items_from 0 s.header.n (state_reading s))) after
  readings-put y out h e q = rw (items_ext 0 s.header.n (at y) (state_reading s) (λ j a l. reading-at y out j h e (omega arith))) at q
