-- Columns put into a list one after the other: what a turn asks, and what it leaves. Cited by the proof of
-- `put_sums`.
use mathlib.Core.Path.{◌≡◌, refl, sym, ap, ◌∙◌}
use mathlib.Core.Bool.{true, false}
use mathlib.Core.List.{List, ◌∷◌, ◌++◌}
use Prim.Native.Nat.{ℕ, suc, ◌+◌, ◌-◌, ◌<◌, ◌≤◌}
use native.Mathlib.Numerals.{add-one}
use native.Mathlib.Omega.{arith}
use lib.IntN.{ℤ, pos}
use lib.ListN.{length, drop, replicate, length-append, length-drop}
use lib.Seq.{take_at, drop-append-add, drop-drop, sets, length-sets, sets-eq}
use mir.Syntax.{w8, w64}
use mir.Val.{to_z, of_z}
use Rattle.integers.specs.Flat.{at, entry, list_from, stores}
use Rattle.integers.proofs.Flat.{length-list_from}
use Rattle.integers.proofs.Product.{dot-zero}
use Rattle.column.specs.Column.{skipped, column_added, MayAddColumn}
use Rattle.state.proofs.Lists.{list_from_alike}
use Rattle.spans.specs.Inner.{Start, End}
use Rattle.spans.proofs.ColumnSum.{SoFar, may-add-next, sums-more}
use Rattle.integers.proofs.Filled.{at-zeros}
use Rattle.running_sums.specs.RunningSums.{running_sum, words_below, word_count_below}
use Rattle.running_sums.specs.Inner.{MayPut, MayPutColumn}
use Rattle.running_sums.proofs.Columns.{skipped_adds_none, no_column, column_not_counted, no_words, column_not_listed, column_listed, words_grow, words_most, words_counted, length_words}

-- words stored after the first `to`, which are `front`, the others being those of `given`
sets_after : (front vs given : List ℤ) (to : ℕ) → length front ≡ to → to + length vs ≤ length given
    → sets (front ++ drop to given) to vs ≡ front ++ vs ++ drop (to + length vs) given
sets_after front vs given to e l =
    let rest = drop to given in
    let size : to + length vs ≤ length (front ++ rest) = simp (length-append, length-drop) (omega arith) in
    let past : drop (to + length vs) (front ++ rest) ≡ drop (to + length vs) given = rw (← e) (drop-append-add front _ (length vs) ∙ drop-drop (length vs) (length front) given) in
    sets-eq vs (front ++ rest) to size
    ∙ rw (take_at front rest to e, past) refl

-- the columns below j are put: `s` has the rows' sums over them, and past the order what s₀ has; `to` counts
-- their words, and these stand before the words of `given` that are kept
pub record Put (n j : ℕ) (g d s₀ given s : List ℤ) (to : ℕ) (out : List ℤ) : Type 0 where
  pub sums : SoFar n j g d s₀ s
  pub place : to ≡ word_count_below n (at d) j
  pub size : length out ≡ length given
  pub words : out ≡ words_below n g (at d) j ++ drop to given

module _ {n : ℕ} {g d given : List ℤ} where
  pub none-put : Put n 0 g d (replicate 16 (pos 0)) given (replicate 16 (pos 0)) 0 given
  none-put =
      record {
        sums = record { size = refl; rows = λ i l. at-zeros i ∙ sym (dot-zero (entry g i) (at d)); past = λ i l. refl };
        place = rw (no_column (at d)) (omega arith);
        size = refl;
        words = rw (no_words n g (at d)) refl;
      }

  pub all_put : {s₀ s : List ℤ} {to j : ℕ} {out : List ℤ} → j ≡ n → Put n j g d s₀ given s to out
      → out ≡ words_below n g (at d) n ++ drop (word_count_below n (at d) n) given
  all_put e h = h.words ∙ rw (h.place, e) refl

  -- one column more
  module _ {s₀ s : List ℤ} {to j : ℕ} {out : List ℤ} (h : Put n j g d s₀ given s to out) where
    pub words_few : n ≤ 16 → j < n → to ≤ 272
    words_few a l = omega (arith, h.place, words_most (at d) n j a (omega arith))

    -- one that is skipped
    pub column-skipped : skipped (at d j) ≡ true → Put n (j + 1) g d s₀ given s to out
    column-skipped e =
        record {
          sums = record { size = h.sums.size; rows = λ i l. h.sums.rows i l ∙ skipped_adds_none (entry g i) (at d) j e; past = h.sums.past };
          place = rw (column_not_counted (at d) j e) h.place;
          size = h.size;
          words = rw (column_not_listed n g (at d) j e) h.words;
        }

    -- one that is not: `x` is the i64 made of its digit, and `s'` what `add_column` left
    module _ (may : MayPut n g d (length given)) (l : j < n) (x : ℤ) (ex : x ≡ to_z w8 (of_z w8 (at d j))) where
      first : Start n g j 0
      first = (omega arith, λ i a b. absurd (omega arith))

      last : End n g j n
      last = (omega arith, λ i a b. absurd (omega arith))

      pub may_add : MayAddColumn g j 0 n (to_z w64 (of_z w64 x)) s
      may_add = may-add-next may.order may.sums l h.sums x ex last

      module _ (e : skipped (at d j) ≡ false) where
        room : to + (n + 1) ≤ length given
        room = omega (arith, h.place, words_counted (at d) n j e, words_grow (at d) n (j + 1) n (omega arith), may.enough)

        pub may-put-column : MayPutColumn (j + 1) n to (length out)
        may-put-column =
            record {
              order = may.order;
              numbered = omega (arith, may.order);
              start = omega (arith, words_few may.order l);
              inside = omega (arith, room, h.size);
            }

        pub column-put : {s' out' : List ℤ} → s' ≡ stores s (λ t. 0 + t) (column_added g j 0 (to_z w64 (of_z w64 x)) s) (n - 0)
            → out' ≡ sets out to (pos (j + 1) ∷ list_from 0 n (at s')) → Put n (j + 1) g d s₀ given s' (to + (n + 1)) out'
        column-put {s'} {out'} es eo =
            record {
              sums = next;
              place = rw h.place (sym (words_counted (at d) n j e));
              size = ap length eo ∙ length-sets out to (pos (j + 1) ∷ list_from 0 n (at s')) ∙ h.size;
              words = eo ∙ rw (words_are, h.words) stored;
            }
          where
            next : SoFar n (j + 1) g d s₀ s'
            next = sums-more may.order may.sums l h.sums x ex first last es

            words : List ℤ
            words = pos (suc j) ∷ list_from 0 n (running_sum g (at d) (suc j))

            words_are : pos (j + 1) ∷ list_from 0 n (at s') ≡ words
            words_are = rw (add-one j, list_from_alike 0 n (at s') (running_sum g (at d) (suc j)) (λ i a b. rw (add-one j) at (next.rows i (omega arith)))) refl

            size : length words ≡ n + 1
            size = rw (length-list_from 0 n (running_sum g (at d) (suc j))) (sym (add-one n))

            stored : sets (words_below n g (at d) j ++ drop to given) to words ≡ words_below n g (at d) (j + 1) ++ drop (to + (n + 1)) given
            stored =
                sets_after (words_below n g (at d) j) words given to (length_words n g (at d) j ∙ sym h.place) (rw size room)
                ∙ rw (size, column_listed n g (at d) j e) refl
