-- What holds of a log's words: how many there are, and that writes and words are each other's. Assumes nothing.
use Rattle.std.specs.Prelude.{ℕ, zero, suc, ◌-◌, ◌+◌, ◌*◌, ◌≤◌, true, List, [], ◌∷◌, ◌++◌, ◌≡◌, refl, length, get_or, take, drop, replicate}
use Rattle.std.proofs.Common.{sym, ◌∙◌, ap, ap₂, arith, length-append, length-drop, take-append-drop, drop_at, take-add, get_or-drop}
use Rattle.std.proofs.lemmas.List.{length-replicate}
use Rattle.words.specs.Lists.{row, part}
use Rattle.words.specs.PartLaws.{row-part}
use Rattle.words.specs.Tests.{zeros}
use Rattle.words.specs.TestLaws.{zeros-are, replicate-zeros}
use Rattle.logs.specs.Write.{Write}
use Rattle.logs.specs.Places.{width, spelled, places, entry, entries}

-- ---- lengths

-- Each write has the words of a place.
pub length-spelled : (g : List Write) → length (spelled g) ≡ length g * width
unfolding spelled
length-spelled [] = refl
length-spelled (w ∷ g) = omega (arith, length-spelled g)

-- A log that has room fills its places.
pub length-places : (l : ℕ) (g : List Write) → length g ≤ l → length (places l g) ≡ l * width
unfolding places
length-places l g h =
    length-append (spelled g) _ ∙ omega (arith, length-spelled g, length-replicate {A = ℕ} ((l - length g) * width) 0)

-- As many writes as the count says.
pub length-entries : (c : ℕ) (ws : List ℕ) → length (entries c ws) ≡ c
unfolding entries
length-entries zero ws = refl
length-entries (suc c) ws = ap suc (length-entries c (drop width ws))

-- ---- one place

-- The write of a place, word by word.
pub entry-drop : (ws : List ℕ) (a : ℕ) → record { origin = get_or ws a 0; clock = get_or ws (a + 1) 0; item = get_or ws (a + 2) 0; value = get_or ws (a + 3) 0 } ≡ entry (drop a ws)
unfolding entry
entry-drop ws a =
    let at : a ≡ a + 0 = omega arith in
    rw (get_or-drop a ws 0 0, get_or-drop a ws 1 0, get_or-drop a ws 2 0, get_or-drop a ws 3 0)
    (ap (λ k. record { origin = get_or ws k 0; clock = get_or ws (a + 1) 0; item = get_or ws (a + 2) 0; value = get_or ws (a + 3) 0 }) at)

-- ---- from writes to words and back

-- Whatever stands behind them.
pub entries-spelled : (g : List Write) (rest : List ℕ) → entries (length g) (spelled g ++ rest) ≡ g
unfolding spelled entries entry
entries-spelled [] rest = refl
entries-spelled (w ∷ g) rest = ap {B = List Write} (λ r. w ∷ r) (entries-spelled g rest)

-- A log's places hold its writes.
pub entries-places : (l : ℕ) (g : List Write) → entries (length g) (places l g) ≡ g
unfolding places
entries-places l g = entries-spelled g _

-- The places past a log's writes are all zero.
pub zeros-places : (l : ℕ) (g : List Write) → zeros (drop (length g * width) (places l g)) ≡ true
unfolding places
zeros-places l g = rw (drop_at (spelled g) _ (length g * width) (length-spelled g)) (replicate-zeros ((l - length g) * width))

-- No writes: all places are zero.
pub places-nil : (l : ℕ) → places l [] ≡ replicate (l * width) 0
unfolding places spelled
places-nil l =
    let e : l - 0 ≡ l = omega arith in
    ap (λ (k : ℕ). replicate (k * width) 0) e

-- ---- from words to writes and back

-- The first places' writes spell those places.
pub spelled-entries : (c : ℕ) (ws : List ℕ) → c * width ≤ length ws → spelled (entries c ws) ≡ take (c * width) ws
unfolding spelled entries entry row part
spelled-entries zero ws h = refl
spelled-entries (suc c) ws h =
    let e : suc c * width ≡ width + c * width = omega arith in
    ap₂ (λ (place rest : List ℕ). place ++ rest) (row-part ws 0 width 0 (omega arith))
    (spelled-entries c (drop width ws) (omega (arith, length-drop width ws)))
    ∙ (sym (take-add width (c * width) ws) ∙ ap (λ (k : ℕ). take k ws) (sym e))

-- All l places, if those past the count are zero.
pub places-entries : (l c : ℕ) (ws : List ℕ) → length ws ≡ l * width → c ≤ l → zeros (drop (c * width) ws) ≡ true → places l (entries c ws) ≡ ws
unfolding places
places-entries l c ws e h o =
    ap₂ (λ (front rest : List ℕ). front ++ rest) (spelled-entries c ws (omega arith)) (zeros-are ((l - length (entries c ws)) * width)
    (drop (c * width) ws) (omega (arith, length-entries c ws, length-drop (c * width) ws)) o)
    ∙ take-append-drop (c * width) ws
