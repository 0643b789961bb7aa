-- Text: numbers in decimal, and lines of items with one space between them and a newline at the end. Bytes
-- are those of ASCII. Cited by the contracts of this crate and by the printout of a frame.
use mathlib.Core.{Path.◌≡◌, Bool.cond, List.List, List.[], List.◌∷◌, List.◌++◌}
use Rattle.std.specs.Prelude.{ℕ, zero, suc, ◌+◌, ◌/◌, ◌%◌, ◌≤◌}
use Rattle.text.specs.declared.Page.{Page}
use lib.{Dec.ltb, IntN.ℤ, IntN.pos, IntN.negsuc, ListN.length, ListN.take, ListN.drop}

-- the character of a digit from 0 to 9: that of 0 is 48
abbrev pub digit_char : ℕ → ℕ
digit_char d = 48 + d

-- n in decimal, where it has at most k digits
unfoldable pub decimal_within : ℕ → ℕ → List ℕ
decimal_within zero n = []
decimal_within (suc k) n = cond (ltb n 10) (digit_char n ∷ []) (decimal_within k (n / 10) ++ (digit_char (n % 10) ∷ []))

-- a number of 64 bits has at most 20 digits
abbrev pub decimal : ℕ → List ℕ
decimal n = decimal_within 20 n

-- a negative number has a minus sign, 45, before it
unfoldable pub signed_decimal : ℤ → List ℕ
signed_decimal (pos n) = decimal n
signed_decimal (negsuc n) = 45 ∷ decimal (suc n)

-- items after the first, each with a space, 32, before it, and the newline, 10
unfoldable pub line_end : List (List ℕ) → List ℕ
line_end [] = 10 ∷ []
line_end (item ∷ items) = 32 ∷ item ++ line_end items

-- a line that begins with the given item
abbrev pub line : List ℕ → List (List ℕ) → List ℕ
line item items = item ++ line_end items

-- a buffer with the text at the place `at`, and its own bytes before and past it
unfoldable pub with_text : List ℕ → ℕ → List ℕ → List ℕ
with_text out at text = take at out ++ text ++ drop (at + length text) out

-- the buffer has room for the text
abbrev pub HasRoom : List ℕ → ℕ → List ℕ → Type 0
HasRoom out at text = at + length text ≤ length out

-- what putting a text at `at` comes to: the buffer `out` holds it afterwards, as `after`, and `end` is the
-- place past it
pub record Put (out : List ℕ) (at : ℕ) (text after : List ℕ) (end : ℕ) : Type 0 where
  pub holds : after ≡ with_text out at text
  pub ends : end ≡ at + length text

-- ---- a page: a lent buffer and the place in it that comes next

-- the page has room for the text
abbrev pub RoomFor : Page → List ℕ → Type 0
RoomFor page text = HasRoom page.out.now page.at text

-- what writing a text on a page comes to: the text is put at its place, and the place past it comes next. It
-- is the same buffer, and keeps its length
pub record Written (page : Page) (text : List ℕ) (after : Page) : Type 0 where
  pub same : after.out.ghost_name ≡ page.out.ghost_name
  pub kept : length after.out.now ≡ length page.out.now
  pub put : Put page.out.now page.at text after.out.now after.at
