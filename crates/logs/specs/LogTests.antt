-- What 01, "A sound table", asks of a log by itself (c), of a log and its server's vector (d), and of two logs (e).
-- Assumes nothing.
use Rattle.std.specs.Prelude.{ℕ, suc, max, Bool, true, false, ◌&&◌, ◌||◌, List, [], ◌∷◌, ltb, leb, eqb}
use Rattle.words.specs.Lists.{keep}
use Rattle.logs.specs.Write.{Write, before, same}

-- c: "origin is below N and item at most 255" (of as many items as there are).
unfoldable pub in_range : ℕ → ℕ → Write → Bool
in_range n items w = ltb w.origin n && ltb w.item items

-- c: "entries ascend strictly by clock, then origin; .. each later clock equals the one before it or is one more".
unfoldable pub goes_on : ℕ → ℕ → Write → List Write → Bool
goes_on n items w [] = true
goes_on n items w (x ∷ xs) =
    in_range n items x && (before w x && ((eqb x.clock w.clock || eqb x.clock (suc w.clock)) && goes_on n items x xs))

-- c: "the first clock is 1".
unfoldable pub ordered : ℕ → ℕ → List Write → Bool
ordered n items [] = true
ordered n items (w ∷ ws) = in_range n items w && (eqb w.clock 1 && goes_on n items w ws)

-- e: the log's entries of one origin.
unfoldable pub of_origin : ℕ → List Write → List Write
of_origin j log = keep (λ w. eqb w.origin j) log

-- e: "with clock at most that vector component".
unfoldable pub up_to : ℕ → List Write → List Write
up_to c log = keep (λ w. leb w.clock c) log

-- d: "the greatest clock of origin j in log i, or 0".
unfoldable pub greatest_clock : List Write → ℕ
greatest_clock [] = 0
greatest_clock (w ∷ ws) = max w.clock (greatest_clock ws)

unfoldable pub greatest_of : ℕ → List Write → ℕ
greatest_of j log = greatest_clock (of_origin j log)

-- e: two lists of entries are exactly the same, item and value too.
unfoldable pub same_all : List Write → List Write → Bool
same_all [] [] = true
same_all [] (x ∷ xs) = false
same_all (w ∷ ws) [] = false
same_all (w ∷ ws) (x ∷ xs) = same w x && same_all ws xs

-- e: "log i's entries of origin j are exactly log j's entries of origin j with clock at most that vector component".
unfoldable pub agrees : ℕ → ℕ → List Write → List Write → Bool
agrees j c log home = same_all (of_origin j log) (up_to c (of_origin j home))
