-- A text held against lines: what it is to begin with a line, how many entries agree, and that only the
-- table's text is found to be the same. Cited by the proofs of `after_line` and `compare_table`.
use mathlib.Core.Path.{◌≡◌, refl, sym, ap, ◌∙◌}
use mathlib.Core.Bool.{Bool, true, false, cond, false≢true, and-eq-true_iff}
use mathlib.Core.List.{List, [], ◌∷◌, ◌++◌, append_assoc, append-nil}
use Prim.Native.Nat.{ℕ, suc, ◌+◌, ◌-◌, ◌<◌, ◌≤◌}
use native.Mathlib.Numerals.{add-one}
use native.Mathlib.Omega.{arith}
use borrow.Author.Tests.{eqb-true, eq-eqb, ne_eqb}
use lib.Dec.{eqb}
use lib.IntN.{ℤ, pos}
use lib.ListN.{length, take, drop, take-append-drop, length-append, length-drop, drop_of_length-le}
use lib.Seq.{take-append_seam, drop-append_seam, drop-cons, drop-drop}
use Rattle.integers.specs.Flat.{at}
use Rattle.selection.specs.Selection.{estimate_count, selection_table}
use Rattle.selection.proofs.Chosen.{table-length}
use Rattle.std.specs.Prelude.{Option, Some, None}
use Rattle.text.specs.Text.{with_text, Put}
use Rattle.table_text.specs.TableText.{Compared, entry_line, entry_lines, table_text, begins_with, agreeing, table_compared, compared, SameText}
use Rattle.table_text.proofs.Lines.{first_lines, first_next, first_all}

-- ---- tests

refuted : (b : Bool) → (b ≡ true → ⊥) → b ≡ false
refuted true h = absurd (h refl)
refuted false h = refl

given-none : (b : Bool) (n : ℕ) → None ≡ cond b (Some n) None → b ≡ false
given-none true n e = cc
given-none false n e = refl

given_some : (b : Bool) {n m : ℕ} → Some m ≡ cond b (Some n) None → (b ≡ true) × (n ≡ m)
given_some true e = (refl, cc)
given_some false e = cc

cond_some : (b : Bool) (n : ℕ) {m : ℕ} → 0 < m → cond b n 0 ≡ m → (b ≡ true) × (n ≡ m)
cond_some true n h e = (refl, e)
cond_some false n h e = absurd (omega arith)

-- ---- a text that begins with another

begins_split : (s text : List ℕ) → begins_with s text ≡ true → text ++ drop (length text) s ≡ s
unfolding begins_with
begins_split s [] t = refl
begins_split [] (c ∷ text) t = absurd (false≢true t)
begins_split (b ∷ s) (c ∷ text) t =
    let h = (and-eq-true_iff (eqb b c) (begins_with s text)).0 t in
    rw (eqb-true b c h.0, begins_split s text h.1)

split_begins : (text rest : List ℕ) → begins_with (text ++ rest) text ≡ true
unfolding begins_with
split_begins [] rest = refl
split_begins (c ∷ text) rest = rw (eq-eqb c c refl) (split_begins text rest)

begins_take : (s text : List ℕ) → begins_with s text ≡ true → take (length text) s ≡ text
begins_take s text t = rw (begins_split s text t) at (take-append_seam text (drop (length text) s))

take_begins : (s text : List ℕ) → take (length text) s ≡ text → begins_with s text ≡ true
take_begins s text h = let e = rw h at (take-append-drop (length text) s) in rw e at (split_begins text (drop (length text) s))

begins_short : (s text : List ℕ) → begins_with s text ≡ true → length text ≤ length s
begins_short s text t = omega (arith, ap length (begins_split s text t), length-append text (drop (length text) s))

-- ---- the place after the line of z, where it stands in s from a place on

module _ (s : List ℕ) (from : ℕ) (z : ℤ) where
  abbrev stands : Bool
  stands = begins_with (drop from s) (entry_line z)

  abbrev place_after : Option ℕ
  place_after = cond stands (Some (from + length (entry_line z))) None

  absent : (stands ≡ true → ⊥) → None ≡ place_after
  absent h = rw (refuted stands h) refl

  -- `line` has z's line put at its front, and n is its length
  module _ {out line : List ℕ} {n : ℕ} (p : Put out 0 (entry_line z) line n) where
    line-put : take (n - 0) line ≡ entry_line z
    unfolding with_text
    line-put =
        let e : n - 0 ≡ length (entry_line z) = omega (arith, p.ends) in
        rw (e, p.holds) (take-append_seam (entry_line z) (drop (0 + length (entry_line z)) out))

    pub too_few : length s - from < n → None ≡ place_after
    too_few h = absent (λ t. omega (arith, p.ends, begins_short (drop from s) (entry_line z) t, length-drop from s))

    part_is : take (from + n - from) (drop from s) ≡ take (length (entry_line z)) (drop from s)
    part_is = let e : from + n - from ≡ length (entry_line z) = omega (arith, p.ends) in rw e

    -- `held` is what is held against s, and `b` is what `same` gave
    pub same_line : {held : List ℕ} → take (from + n - from) (drop from s) ≡ take (n - 0) held → held ≡ line → Some (from + n) ≡ place_after
    same_line h l =
        let t : stands ≡ true = take_begins (drop from s) (entry_line z) (sym part_is ∙ rw l at h ∙ line-put) in
        let e : n ≡ length (entry_line z) = omega (arith, p.ends) in
        rw (t, e)

    pub other_line : {held : List ℕ} {b : Bool} → b ≡ false → (take (from + n - from) (drop from s) ≡ take (n - 0) held → b ≡ true) → held ≡ line
        → None ≡ place_after
    other_line e h l = absent (λ t. false≢true (sym e ∙ h (rw l (part_is ∙ begins_take (drop from s) (entry_line z) t ∙ sym line-put))))

-- ---- the entries that agree

-- where the first k entries agree, with their lines from the front of s to a place
pub record Agreed (s : List ℕ) (k from : ℕ) : Type 0 where
  pub few : k ≤ estimate_count
  pub inside : from ≤ length s
  pub place : from ≡ length (first_lines k)
  pub count : agreeing selection_table s ≡ k + agreeing (drop k selection_table) (drop from s)

module _ (s : List ℕ) where
  pub none_agreed : Agreed s 0 0
  unfolding entry_lines
  none_agreed = record { few = omega arith; inside = omega arith; place = refl; count = omega arith }

  -- the next of the entries is `z`, and `after_line` gave no place, or the place `end`
  module _ {k from : ℕ} (a : Agreed s k from) (h : k < estimate_count) {z : ℤ} (e : z ≡ at selection_table k) where
    next-count : agreeing selection_table s ≡ k + cond (stands s from z) (suc (agreeing (drop (suc k) selection_table) (drop (from + length (entry_line z)) s))) 0
    unfolding agreeing
    next-count =
        a.count
        ∙ rw (drop-cons selection_table k (pos 0) (omega (arith, table-length)), ← e, ← drop-drop (length (entry_line z)) from s) refl

    pub other_agree : None ≡ place_after s from z → table_compared (Some k) ≡ compared s
    unfolding compared
    other_agree f =
        let n : stands s from z ≡ false = given-none (stands s from z) _ f in
        let c : agreeing selection_table s ≡ k = next-count ∙ rw n (omega arith) in
        rw (c, ne_eqb k estimate_count (λ q. omega arith)) refl

    pub next_agreed : {end : ℕ} → Some end ≡ place_after s from z → Agreed s (k + 1) end
    next_agreed f =
        let y = given_some (stands s from z) f in
        record {
          few = omega arith;
          inside = omega (arith, y.1, a.inside, begins_short (drop from s) (entry_line z) y.0, length-drop from s);
          place = rw (add-one k, first_next k h, ← e) (omega (arith, y.1, a.place, length-append (first_lines k) (entry_line z)));
          count = rw (add-one k, ← y.1) (next-count ∙ rw y.0 (omega arith));
        }

  pub all_agree : {k from : ℕ} → Agreed s k from → estimate_count ≤ k → ◌≡◌ {A = Compared} (record { same = eqb (length s) from; agreeing = estimate_count }) (compared s)
  unfolding compared agreeing
  all_agree {k} {from} a h =
      let none : drop k selection_table ≡ [] = drop_of_length-le selection_table {i = k} (omega (arith, table-length)) in
      let c : agreeing selection_table s ≡ estimate_count = a.count ∙ rw none (omega arith) in
      rw (c, ← first_all k h, ← a.place) refl

  -- nothing follows, or more does
  pub none_differs : {k from : ℕ} → Agreed s k from → estimate_count ≤ k → length s ≡ from → table_compared None ≡ compared s
  none_differs {k} {from} a h e = rw (eq-eqb (length s) from e) at (all_agree a h)

  pub more_follows : {k from : ℕ} → Agreed s k from → estimate_count ≤ k → (length s ≡ from → ⊥) → table_compared (Some estimate_count) ≡ compared s
  more_follows {k} {from} a h e = rw (ne_eqb (length s) from e) at (all_agree a h)

-- ---- only the table's text is the same

agreeing_split : (zs : List ℤ) (s : List ℕ) → agreeing zs s ≡ length zs → entry_lines zs ++ drop (length (entry_lines zs)) s ≡ s
unfolding agreeing entry_lines
agreeing_split [] s h = refl
agreeing_split (z ∷ zs) s h =
    let n = length (entry_line z) in
    let y = cond_some (begins_with s (entry_line z)) (suc (agreeing zs (drop n s))) (omega arith) h in
    rw (
      length-append (entry_line z) (entry_lines zs),
      ← drop-drop (length (entry_lines zs)) n s,
      append_assoc (entry_line z) (entry_lines zs) (drop (length (entry_lines zs)) (drop n s)),
      agreeing_split zs (drop n s) (omega (arith, y.1)),
    )
    (begins_split s (entry_line z) y.0)

split_agreeing : (zs : List ℤ) (rest : List ℕ) → agreeing zs (entry_lines zs ++ rest) ≡ length zs
unfolding agreeing entry_lines
split_agreeing [] rest = refl
split_agreeing (z ∷ zs) rest =
    rw (
      append_assoc (entry_line z) (entry_lines zs) rest,
      split_begins (entry_line z) (entry_lines zs ++ rest),
      drop-append_seam (entry_line z) (entry_lines zs ++ rest),
      split_agreeing zs rest,
    ) refl

pub same_text : SameText
unfolding compared table_text
same_text s = (only, found)
  where
    only : (compared s).same ≡ true → s ≡ entry_lines selection_table
    only t =
        let h = (and-eq-true_iff (eqb (agreeing selection_table s) estimate_count) (eqb (length s) (length table_text))).0 t in
        let l = eqb-true (length s) (length table_text) h.1 in
        let e = agreeing_split selection_table s (eqb-true (agreeing selection_table s) estimate_count h.0 ∙ sym table-length) in
        sym e ∙ rw (drop_of_length-le s {i = length table_text} (omega arith)) (append-nil (entry_lines selection_table))

    found : s ≡ entry_lines selection_table → (compared s).same ≡ true
    found e =
        let a = rw (append-nil (entry_lines selection_table)) at (split_agreeing selection_table []) in
        rw (e, a, table-length, eq-eqb (length table_text) (length table_text) refl) refl
