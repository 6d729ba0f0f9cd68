-- The words of a log: 01, "Numbers": "L places of four words: origin, clock, item, value". Nothing above this crate reads or writes
-- the words of a place but through these. Assumes nothing.
use Rattle.std.specs.Prelude.{ℕ, zero, suc, ◌-◌, ◌*◌, List, [], ◌∷◌, ◌++◌, length, get_or, drop, replicate}
use Rattle.logs.specs.Write.{Write}

-- How many words a place has.
abbrev pub width : ℕ
width = 4

unfoldable pub spelled : List Write → List ℕ
spelled [] = []
spelled (w ∷ ws) = w.origin ∷ w.clock ∷ w.item ∷ w.value ∷ spelled ws

-- A log's writes in l places: b: "places past the count are all zero".
unfoldable pub places : ℕ → List Write → List ℕ
places l log = spelled log ++ replicate ((l - length log) * width) 0

-- The first of a list of places, as a write.
unfoldable pub entry : List ℕ → Write
entry ws = record { origin = get_or ws 0 0; clock = get_or ws 1 0; item = get_or ws 2 0; value = get_or ws 3 0 }

-- What a place says, where a log's places are lent one by one.
abbrev pub write_in : List ℕ → Write
write_in words = entry words

-- The first places of a log, as many as its count says.
unfoldable pub entries : ℕ → List ℕ → List Write
entries zero ws = []
entries (suc count) ws = entry ws ∷ entries count (drop width ws)
