-- A step's five words, what they ask for, and an answer's five words. Assumes nothing.
use Rattle.std.specs.Prelude.{◌≤◌, ℕ, ◌/◌, ◌^◌, ◌<◌, ◌≡◌, Bool, cond, ◌&&◌, List, [], ◌∷◌, ltb, eqb}
use Rattle.tables.specs.Size.{Size, items, sums}

-- 01, "Steps": "A step is five words: kind and four arguments; unused words must be 0."
pub record Step : Type 0 where
  pub kind : ℕ
  pub a : ℕ
  pub b : ℕ
  pub c : ℕ
  pub d : ℕ

-- What a step asks for. Arguments as 01's table of kinds has them.
pub data Op : Type 0 where
  bad : Op
  opens : (slot guarantees : ℕ) → Op
  closes : (slot : ℕ) → Op
  reads : (slot item reach : ℕ) → Op
  writes : (slot item value reach : ℕ) → Op
  exchanges : (source target most : ℕ) → Op

-- "Reach is a bit set of servers, bit i for server i; bits at or above N are out of range."
unfoldable pub reach_in_range : ℕ → ℕ → Bool
reach_in_range n reach = eqb (reach / 2 ^ n) 0

-- Code 2, kind by kind: "slot, server, item, guarantees, reach or unused word out of range".
-- | 1 | open | slot, guarantees |
unfoldable pub open_in_range : Size → Step → Bool
open_in_range z x = ltb x.a z.p && (ltb x.b sums && (eqb x.c 0 && eqb x.d 0))

-- | 2 | close | slot |
unfoldable pub close_in_range : Size → Step → Bool
close_in_range z x = ltb x.a z.p && (eqb x.b 0 && (eqb x.c 0 && eqb x.d 0))

-- | 3 | read | slot, item, reach |
unfoldable pub read_in_range : Size → Step → Bool
read_in_range z x = ltb x.a z.p && (ltb x.b items && (reach_in_range z.n x.c && eqb x.d 0))

-- | 4 | write | slot, item, value, reach |
unfoldable pub write_in_range : Size → Step → Bool
write_in_range z x = ltb x.a z.p && (ltb x.b items && reach_in_range z.n x.d)

-- | 5 | exchange | from, to, most |
unfoldable pub exchange_in_range : Size → Step → Bool
exchange_in_range z x = ltb x.a z.n && (ltb x.b z.n && eqb x.d 0)

-- What is asked if the arguments are in range.
unfoldable pub if_in_range : Bool → Op → Op
if_in_range in_range o = cond in_range o bad

-- "The step is told apart by its kind, 1 to 5."
unfoldable pub of_kind : Size → Step → ℕ → Op
of_kind z x kind =
    cond (eqb kind 1) (if_in_range (open_in_range z x) (opens x.a x.b))
    (cond (eqb kind 2) (if_in_range (close_in_range z x) (closes x.a))
    (cond (eqb kind 3) (if_in_range (read_in_range z x) (reads x.a x.b x.c))
    (cond (eqb kind 4) (if_in_range (write_in_range z x) (writes x.a x.b x.c x.d))
    (cond (eqb kind 5) (if_in_range (exchange_in_range z x) (exchanges x.a x.b x.c))
    bad))))

unfoldable pub asked : Size → Step → Op
asked z x = of_kind z x x.kind

-- The same as a plain list of conditions: what makes a step proper. `bad-exactly` in StepLaws.antt says that `asked` gives `bad` exactly if
-- none of these holds.
pub data Proper (z : Size) (x : Step) : Type 0 where
  proper_open : x.kind ≡ 1 → x.a < z.p → x.b ≤ 15 → x.c ≡ 0 → x.d ≡ 0 → Proper z x
  proper_close : x.kind ≡ 2 → x.a < z.p → x.b ≡ 0 → x.c ≡ 0 → x.d ≡ 0 → Proper z x
  proper_read : x.kind ≡ 3 → x.a < z.p → x.b ≤ 255 → x.c < 2 ^ z.n → x.d ≡ 0 → Proper z x
  proper_write : x.kind ≡ 4 → x.a < z.p → x.b ≤ 255 → x.d < 2 ^ z.n → Proper z x
  proper_exchange : x.kind ≡ 5 → x.a < z.n → x.b < z.n → x.d ≡ 0 → Proper z x

-- 01, "Steps": "An answer is five words: code, server, origin, clock, value."
pub record Answer : Type 0 where
  pub code : ℕ
  pub server : ℕ
  pub origin : ℕ
  pub clock : ℕ
  pub value : ℕ

-- "A refused step answers its code and four zeros".
unfoldable pub refused : ℕ → Answer
refused code = record { code = code; server = 0; origin = 0; clock = 0; value = 0 }

-- Done, with zeros: what open and close answer.
unfoldable pub done : Answer
done = record { code = 0; server = 0; origin = 0; clock = 0; value = 0 }

-- A list of steps as words, and a list of words as steps, five by five; fewer than five at the end are none.
unfoldable pub step_words : List Step → List ℕ
step_words [] = []
step_words (x ∷ xs) = x.kind ∷ x.a ∷ x.b ∷ x.c ∷ x.d ∷ step_words xs

unfoldable pub steps_of : List ℕ → List Step
steps_of [] = []
steps_of (kind ∷ []) = []
steps_of (kind ∷ a ∷ []) = []
steps_of (kind ∷ a ∷ b ∷ []) = []
steps_of (kind ∷ a ∷ b ∷ c ∷ []) = []
steps_of (kind ∷ a ∷ b ∷ c ∷ d ∷ ws) = record { kind = kind; a = a; b = b; c = c; d = d } ∷ steps_of ws

unfoldable pub answer_words : List Answer → List ℕ
answer_words [] = []
answer_words (r ∷ rs) = r.code ∷ r.server ∷ r.origin ∷ r.clock ∷ r.value ∷ answer_words rs
