-- Lists of calls that share one list lent: which part each readings call gets, what the calls leave in it,
-- and how many additions they count. Cited by the proofs of `make_call` and `make_calls`, and by `Performed`.
use mathlib.Core.Path.{◌≡◌, refl, sym, ap, ap₂, ◌∙◌}
use mathlib.Core.List.{List, [], ◌∷◌, ◌++◌, append_assoc, append-nil}
use mathlib.Core.Logic.{◌⊎◌, inl, inr}
use Prim.Native.Nat.{ℕ, zero, suc, ◌+◌, ◌*◌, ◌-◌, ◌<◌, ◌≤◌}
use native.Mathlib.Omega.{arith}
use borrow.Author.Tests.{le-ltb}
use lib.Dec.{nltb→le}
use lib.IntN.{ℤ, pos}
use lib.ListN.{length, take, drop, get_or, length-append, length-drop, take-append-drop, drop_of_length-le, get_or-append}
use lib.Seq.{length-take-le, take_all, take-length, take_at, drop_at, drop-drop, get_or-append-add, get_or-drop}
use Rattle.integers.specs.Flat.{at}
use Rattle.integers.proofs.Flat.{length-list_from}
use Rattle.integers.proofs.Maximum.{le_or_lt}
use Rattle.job.specs.Refusal.{first_refusal, None, none, also}
use Rattle.job.proofs.Refusal.{accepted-before}
use Rattle.job.proofs.Limits.{last-small}
use Rattle.job.specs.declared.Header.{Header}
use Rattle.state.specs.State.{state_checks}
use Rattle.state.specs.declared.State.{State}
use Rattle.evaluator.specs.Evaluator.{smaller, steps_made, advanced, state_reading, readings_checks, readings_refusal, readings_list}
use Rattle.evaluator.specs.Evaluator.{Advanced}
use Rattle.stepping.proofs.Steps.{steps-header}
use Rattle.stepping.proofs.Additions.{additions-small}
use Rattle.evaluator.proofs.Kept.{passes_exactly}
use Rattle.evaluator.proofs.Theorems.{made_grows, readings_decided, refused-readings, readings_past, advanced-passes}
use Rattle.accuracy.specs.Accuracy.{Call, advance, readings, state_after, run, call_additions, calls_additions}
use Rattle.calls.specs.Perform.{call_of, room_of, calls_of, room_of_all, part_after, parts_after, list_after, Untouched}
use Rattle.calls.specs.declared.one_by_one.Made.{Made}
use Rattle.calls.specs.declared.one_by_one.AllMade.{AllMade}
use Rattle.accuracy.proofs.Runs.{smaller-left, smaller_right}

-- ---- the states on the way

state-header : (s : State) (c : Call) → (state_after s c).header ≡ s.header
unfolding advanced
state-header s (advance budget) = steps-header s (steps_made s budget)
state-header s (readings part) = refl

pub run-header : (s : State) (cs : List Call) → (run s cs).header ≡ s.header
unfolding run
run-header s [] = refl
run-header s (c ∷ cs) = run-header (state_after s c) cs ∙ state-header s c

-- a state that passes 20 and 24 does so after any calls
pub run-passes : (s : State) (cs : List Call) → first_refusal (state_checks s) ≡ 0 → first_refusal (state_checks (run s cs)) ≡ 0
unfolding run
run-passes s [] e = e
run-passes s (advance budget ∷ cs) e = run-passes (advanced s budget).state cs (advanced-passes s budget e)
run-passes s (readings part ∷ cs) e = run-passes s cs e

-- and readings of it are refused only where the list has no word for some row
pub readings-taken : (s : State) (room : ℕ) → first_refusal (state_checks s) ≡ 0 → s.header.n ≤ room → readings_refusal s room ≡ 0
unfolding readings_checks
readings-taken s room e h = rw (accepted-before (state_checks s) _ tt e, le-ltb room s.header.n h)

room-enough : (s : State) (room : ℕ) → readings_refusal s room ≡ 0 → s.header.n ≤ room
unfolding readings_checks
room-enough s room e = taken ((readings_decided s room).accepted.0 e)
  where
    taken : None (readings_checks s room) → s.header.n ≤ room
    taken (also idle (also broken (also short none))) = nltb→le room s.header.n short

-- calls of such a state count at most 256 additions a step, of which there are at most 60
additions-left : (s : State) (cs : List Call) → first_refusal (state_checks s) ≡ 0 → calls_additions s cs + s.k * 256 ≤ 60 * 256
unfolding calls_additions advanced
additions-left s [] e =
    let p = ((passes_exactly s).0 e).1 in
    omega (arith, p.steps, last-small s.header s.scale p.scaled)
additions-left s (advance budget ∷ cs) e =
    let p = ((passes_exactly s).0 e).1 in
    omega (
      arith,
      additions-small s (steps_made s budget) p.limits.order_most,
      made_grows s budget,
      additions-left (advanced s budget).state cs (advanced-passes s budget e),
    )
additions-left s (readings part ∷ cs) e = omega (arith, additions-left s cs e)

additions-few : (s : State) (cs : List Call) → first_refusal (state_checks s) ≡ 0 → calls_additions s cs ≤ 15360
additions-few s cs e = omega (arith, additions-left s cs e)

-- ---- a readings call keeps the length of its list

length-readings : (s : State) (part : List ℤ) → length (readings_list s part) ≡ length part
unfolding readings_list
length-readings s part = by_case (le_or_lt (readings_refusal s (length part)) 0)
  where
    by_case : (readings_refusal s (length part) ≤ 0) ⊎ (0 < readings_refusal s (length part)) → length (readings_list s part) ≡ length part
    by_case (inl l) =
        let z : readings_refusal s (length part) ≡ 0 = omega arith in
        let h : s.header.n ≤ length part = room-enough s (length part) z in
        rw (z, length-append, length-list_from 0 s.header.n (state_reading s), length-drop) (omega arith)
    by_case (inr l) = ap length (refused-readings s part l)

length_part : (s : State) (c : Call) → length (part_after s c) ≡ room_of c
length_part s (advance budget) = refl
length_part s (readings part) = length-readings s part

length_parts : (s : State) (cs : List Call) → length (parts_after s cs) ≡ room_of_all cs
unfolding parts_after room_of_all
length_parts s [] = refl
length_parts s (c ∷ cs) = rw (length-append, length_part s c, length_parts (state_after s c) cs)

-- ---- one call: what `make_call` answers and leaves

part_cut : (value room : ℕ) (given : List ℤ) → room ≡ smaller value (length given) → (take value given ≡ take room given) × (room ≤ length given)
part_cut value room given e = by_case (le_or_lt value (length given))
  where
    by_case : (value ≤ length given) ⊎ (length given < value) → (take value given ≡ take room given) × (room ≤ length given)
    by_case (inl l) = let f = e ∙ smaller-left value (length given) l in (rw f, omega arith)
    by_case (inr l) =
        let f = e ∙ smaller_right value (length given) (omega arith) in
        (rw f (take_all value given (omega arith) ∙ sym (take-length given)), omega arith)

pub room_within : (value room : ℕ) (given : List ℤ) → room ≡ smaller value (length given) → room ≤ length given
room_within value room given e = (part_cut value room given e).1

-- what `make_call` answers
abbrev pub call_made : State → Call → Made
call_made s c = record { state = state_after s c; additions = call_additions s c; room = room_of c }

module _ (s : State) (value : ℕ) (given : List ℤ) where
  abbrev Answer : ℕ → Made → List ℤ → Type 0
  Answer kind r final =
      (r ≡ call_made s (call_of kind value given))
      × (final ≡ part_after s (call_of kind value given) ++ drop (room_of (call_of kind value given)) given)

  pub call_advance : (kind : ℕ) (a : Advanced) → kind ≡ 0 → a ≡ advanced s value → Answer kind (record { state = a.state; additions = a.additions; room = 0 }) given
  call_advance kind a k e = rw (k, e) (refl, refl)

  pub call_readings : (kind room : ℕ) (part : List ℤ) → (kind ≡ 0 → ⊥) → room ≡ smaller value (length given) → part ≡ readings_list s (take room given)
      → Answer kind (record { state = s; additions = 0; room = room }) (part ++ drop room given)
  call_readings zero room part k e f = absurd (k refl)
  call_readings (suc kind) room part k e f =
      let p = part_cut value room given e in
      let l : length (take room given) ≡ room = length-take-le room given p.1 in
      rw (p.0, l, f) (refl, refl)

-- ---- a list of calls, call by call: what `make_calls` has done before a turn

room_part : (kind value : ℕ) (given : List ℤ) → room_of (call_of kind value given) ≤ length given
room_part zero value given = omega arith
room_part (suc kind) value given = omega (arith, simp length-append at (ap length (take-append-drop value given)))

calls-next : (words : List ℕ) (given : List ℤ) → 2 ≤ length words
    → calls_of words given
    ≡ call_of (get_or words 0 0) (get_or words 1 0) given ∷ calls_of (drop 2 words) (drop (room_of (call_of (get_or words 0 0) (get_or words 1 0) given)) given)
unfolding calls_of
calls-next [] given h = absurd (omega arith)
calls-next (kind ∷ []) given h = absurd (omega arith)
calls-next (kind ∷ value ∷ words) given h = refl

calls_last : (words : List ℕ) (given : List ℤ) → length words < 2 → calls_of words given ≡ []
unfolding calls_of
calls_last [] given h = refl
calls_last (kind ∷ []) given h = refl
calls_last (kind ∷ value ∷ words) given h = absurd (omega arith)

-- the list after a call and those after it
list-next : (s : State) (c : Call) (cs : List Call) (given : List ℤ) → list_after s (c ∷ cs) given ≡ part_after s c ++ list_after (state_after s c) cs (drop (room_of c) given)
unfolding parts_after room_of_all
list-next s c cs given = rw (drop-drop (room_of_all cs) (room_of c) given) (append_assoc (part_after s c) (parts_after (state_after s c) cs) _)

-- what `make_calls` answers
abbrev pub calls-made : State → List Call → AllMade
calls-made s cs = record { state = run s cs; additions = calls_additions s cs }

-- what is left to do from here gives what the whole gives from the start, and counts what the whole counts
-- beyond what is counted so far
pub record Turn (s : State) (words : List ℕ) (given final : List ℤ) (t : State) (counted from : ℕ) (rest : List ℕ) : Type 0 where
  pub within : from ≤ length final
  pub room : length final ≡ length given
  pub state : run t (calls_of rest (drop from final)) ≡ run s (calls_of words given)
  pub additions : counted + calls_additions t (calls_of rest (drop from final)) ≡ calls_additions s (calls_of words given)
  pub list : take from final ++ list_after t (calls_of rest (drop from final)) (drop from final) ≡ list_after s (calls_of words given) given

module _ (s : State) (words : List ℕ) (given : List ℤ) where
  pub turn_first : Turn s words given given s 0 0 words
  turn_first = record { within = omega arith; room = refl; state = refl; additions = omega arith; list = refl }

  module _ (final : List ℤ) (t : State) (counted from : ℕ) (rest : List ℕ) (turn : Turn s words given final t counted from rest) where
    pub turn_last : length rest < 2
        → (record { state = t; additions = counted } ≡ calls-made s (calls_of words given)) × (final ≡ list_after s (calls_of words given) given)
    unfolding run calls_additions parts_after room_of_all
    turn_last h =
        let e : calls_of rest (drop from final) ≡ [] = calls_last rest (drop from final) h in
        let et : t ≡ run s (calls_of words given) = rw e at turn.state in
        let ec : counted ≡ calls_additions s (calls_of words given) = omega (arith, rw e at turn.additions) in
        (ap₂ (λ (t : State) (a : ℕ). record { state = t; additions = a }) et ec, sym (take-append-drop from final) ∙ (rw e at turn.list))

    -- what is left of the list, the call that the next two words make of it, and the calls after it
    abbrev ahead : List ℤ
    ahead = drop from final

    abbrev call_on : List ℤ → Call
    call_on list = call_of (get_or rest 0 0) (get_or rest 1 0) list

    abbrev call : Call
    call = call_on ahead

    abbrev calls : List Call
    calls = calls_of (drop 2 rest) (drop (room_of call) ahead)

    -- the list up to the end of the call's part, after it
    abbrev done : List ℤ
    done = take from final ++ part_after t call

    done_length : length done ≡ from + room_of call
    done_length = rw (length-append, length-take-le from final turn.within, length_part t call)

    next-within : from + room_of call ≤ length final
    next-within = omega (arith, room_part (get_or rest 0 0) (get_or rest 1 0) ahead, length-drop from final)

    next_turn : 2 ≤ length rest → Turn s words given (done ++ drop (room_of call) ahead) (state_after t call) (counted + call_additions t call) (from + room_of call) (drop 2 rest)
    unfolding run calls_additions
    next_turn h =
        let e = calls-next rest ahead h in
        let d : drop (from + room_of call) (done ++ drop (room_of call) ahead) ≡ drop (room_of call) ahead = drop_at done (drop (room_of call) ahead) _ done_length in
        let u : take (from + room_of call) (done ++ drop (room_of call) ahead) ≡ done = take_at done (drop (room_of call) ahead) _ done_length in
        let l : length (done ++ drop (room_of call) ahead) ≡ length final =
        rw (length-append, done_length, length-drop, length-drop) (omega (arith, next-within)) in
        record {
          within = rw l next-within;
          room = l ∙ turn.room;
          state = rw d (rw e at turn.state);
          additions = rw d (omega (arith, rw e at turn.additions));
          list = rw (u, d)
              (append_assoc (take from final) (part_after t call) _ ∙ ap (λ (list : List ℤ). take from final ++ list) (sym (list-next t call calls ahead)) ∙ (rw e at turn.list));
        }

    -- the same with the part lent and the list put together as the code has them
    abbrev lent : List ℤ
    lent = take (length final - from) ahead

    pub turn_next : 2 ≤ length rest → (m : Made) (part : List ℤ) → m ≡ call_made t (call_on lent)
        → part ≡ part_after t (call_on lent) ++ drop (room_of (call_on lent)) lent
        → Turn s words given (take from final ++ (part ++ drop (length final - from) ahead)) m.state (counted + m.additions) (from + m.room) (take (length rest - 2) (drop 2 rest))
    turn_next h m part em ep =
        let l : length ahead ≤ length final - from = omega (arith, length-drop from final) in
        let e : lent ≡ ahead = take_all (length final - from) ahead l in
        let later : take (length rest - 2) (drop 2 rest) ≡ drop 2 rest = take_all (length rest - 2) (drop 2 rest) (omega (arith, length-drop 2 rest)) in
        rw (em, ep, e, later, drop_of_length-le ahead l, append-nil, ← append_assoc (take from final) (part_after t call) (drop (room_of call) ahead)) (next_turn h)

    -- what is counted by the end of the call is far below 2^64
    pub turn_counts : 2 ≤ length rest → (m : Made) → m ≡ call_made t (call_on lent)
        → first_refusal (state_checks s) ≡ 0 → counted + m.additions ≤ 15360
    turn_counts h m em e = omega (arith, (turn_next h m _ em refl).additions, additions-few s (calls_of words given) e)

-- ---- word by word

parts_split : (s : State) (before rest : List Call) (part : List ℤ) → parts_after s (before ++ (readings part ∷ rest)) ≡ parts_after s before ++ (readings_list (run s before) part ++ parts_after (run s before) rest)
unfolding parts_after run
parts_split s [] rest part = refl
parts_split s (c ∷ before) rest part = rw (parts_split (state_after s c) before rest part) (simp append_assoc)

-- the words of a readings call's part, after all calls
pub at_part : (s : State) (before rest : List Call) (part tail : List ℤ) (i : ℕ) → i < length part
    → at (parts_after s (before ++ (readings part ∷ rest)) ++ tail) (room_of_all before + i) ≡ at (readings_list (run s before) part) i
at_part s before rest part tail i h =
    let l : i < length (readings_list (run s before) part) = rw (length-readings (run s before) part) h in
    rw (parts_split s before rest part, append_assoc, append_assoc, ← length_parts s before)
    (get_or-append-add (parts_after s before) _ i (pos 0) ∙ get_or-append (readings_list (run s before) part) _ (pos 0) i l)

-- lists that are the same from the n-th word on
same_past : (n j : ℕ) (a b : List ℤ) → n ≤ j → drop n a ≡ drop n b → at a j ≡ at b j
same_past n j a b h e =
    let z : n + (j - n) ≡ j = omega arith in
    rw (← z) (sym (get_or-drop n a (j - n) (pos 0)) ∙ rw e (get_or-drop n b (j - n) (pos 0)))

-- a word of a part to which no reading is handed
kept-reading : (s : State) (part : List ℤ) (j : ℕ) → (s.header.n ≤ length part → s.header.n ≤ j) → at (readings_list s part) j ≡ at part j
kept-reading s part j h = by_place (le_or_lt s.header.n j)
  where
    by_refusal : j < s.header.n → (readings_refusal s (length part) ≤ 0) ⊎ (0 < readings_refusal s (length part)) → at (readings_list s part) j ≡ at part j
    by_refusal m (inl l) = absurd (omega (arith, h (room-enough s (length part) (omega arith))))
    by_refusal m (inr l) = ap (λ (list : List ℤ). at list j) (refused-readings s part l)

    by_place : (s.header.n ≤ j) ⊎ (j < s.header.n) → at (readings_list s part) j ≡ at part j
    by_place (inl l) = same_past s.header.n j (readings_list s part) part l (readings_past s part)
    by_place (inr l) = by_refusal l (le_or_lt (readings_refusal s (length part)) 0)

kept_call : (s : State) (kind value : ℕ) (given : List ℤ) (cs : List Call) (j : ℕ) → Untouched s.header.n (call_of kind value given ∷ cs) j → j < room_of (call_of kind value given)
    → at (part_after s (call_of kind value given)) j ≡ at given j
unfolding room_of_all
kept_call s zero value given cs j free h = absurd (omega arith)
kept_call s (suc kind) value given cs j free h =
    kept-reading s (take value given) j (λ m. by_place m (le_or_lt s.header.n j))
    ∙ sym (get_or-append (take value given) (drop value given) (pos 0) j h) ∙ ap (λ (list : List ℤ). at list j) (take-append-drop value given)
  where
    by_place : s.header.n ≤ length (take value given) → (s.header.n ≤ j) ⊎ (j < s.header.n) → s.header.n ≤ j
    by_place m (inl l) = l
    by_place m (inr l) = absurd (free [] cs (take value given) refl m (omega arith) (omega arith))

untouched_next : (n : ℕ) (c : Call) (cs : List Call) (j : ℕ) → room_of c ≤ j → Untouched n (c ∷ cs) j → Untouched n cs (j - room_of c)
unfolding room_of_all
untouched_next n c cs j h free before rest part e m a b = free (c ∷ before) rest part (rw e refl) m (omega arith) (omega arith)

kept_step : (s : State) (c : Call) (cs : List Call) (given : List ℤ) (j : ℕ) → (j < room_of c → at (part_after s c) j ≡ at given j)
    → (room_of c ≤ j → at (list_after (state_after s c) cs (drop (room_of c) given)) (j - room_of c) ≡ at (drop (room_of c) given) (j - room_of c))
    → at (list_after s (c ∷ cs) given) j ≡ at given j
kept_step s c cs given j here later = rw (list-next s c cs given) (by_place (le_or_lt (room_of c) j))
  where
    by_place : (room_of c ≤ j) ⊎ (j < room_of c) → at (part_after s c ++ list_after (state_after s c) cs (drop (room_of c) given)) j ≡ at given j
    by_place (inl l) =
        let z : length (part_after s c) + (j - room_of c) ≡ j = omega (arith, length_part s c) in
        let y : room_of c + (j - room_of c) ≡ j = omega arith in
        ap (λ (k : ℕ). at (part_after s c ++ list_after (state_after s c) cs (drop (room_of c) given)) k) (sym z)
        ∙ get_or-append-add (part_after s c) _ (j - room_of c) (pos 0) ∙ later l ∙ get_or-drop (room_of c) given (j - room_of c) (pos 0) ∙ ap (at given) y
    by_place (inr l) =
        let m : j < length (part_after s c) = rw (length_part s c) l in
        get_or-append (part_after s c) _ (pos 0) j m ∙ here l

-- a word to which no reading is handed is as it was
pub kept_word : (s : State) (n : ℕ) (words : List ℕ) (given : List ℤ) (j : ℕ) → s.header.n ≡ n → Untouched n (calls_of words given) j → at (list_after s (calls_of words given) given) j ≡ at given j
unfolding calls_of parts_after room_of_all
kept_word s n [] given j e free = refl
kept_word s n (kind ∷ []) given j e free = refl
kept_word s n (kind ∷ value ∷ words) given j e free =
    let c = call_of kind value given in
    let cs = calls_of words (drop (room_of c) given) in
    kept_step s c cs given j (kept_call s kind value given cs j (rw e free))
    (λ l. kept_word (state_after s c) n words (drop (room_of c) given) (j - room_of c) (ap (λ (h : Header). h.n) (state-header s c) ∙ e) (untouched_next n c cs j l free))
