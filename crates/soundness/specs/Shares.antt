-- Each of the rules a, b and f: its share of one server or of one slot, on a table's words. Assumes nothing.
use Rattle.std.specs.Prelude.{ℕ, ◌*◌, Bool, ◌&&◌, List, leb, eqb, length, get_or, drop}
use Rattle.words.specs.Lists.{part}
use Rattle.words.specs.Tests.{all, zeros}
use Rattle.vectors.specs.Vector.{vector_of}
use Rattle.logs.specs.Places.{width}
use Rattle.tables.specs.Size.{Size, within, sums}
use Rattle.tables.specs.Layout.{size, count_at, guarantees_at, last_used_at, read_at, write_at, log_part, slot_part, decode}
use Rattle.tables.specs.Sound.{rule_b, rule_c, rule_d, rule_e, rule_f, slot_sound}

-- a, but for the fourth word of the header: the limits and the length
unfoldable pub laid_out : Size → List ℕ → Bool
laid_out z t = within z && eqb (length t) (size z)

-- b: "each count is at most L; places past the count are all zero"
unfoldable pub counted : Size → List ℕ → ℕ → Bool
counted z t i = leb (get_or t (count_at z i) 0) z.l && zeros (drop (get_or t (count_at z i) 0 * width) (log_part z t i))

-- f: "vector components at j no greater than server j's own vector at j"
unfoldable pub none_above : Size → List ℕ → (ℕ → ℕ) → Bool
none_above z t vector = all z.n (λ j. leb (vector j) ((decode z t).vector j j))

-- f: an open slot
unfoldable pub open_holds : Size → List ℕ → ℕ → Bool
open_holds z t k =
    leb (get_or t (guarantees_at z k) 0) sums && (leb (get_or t (last_used_at z k) 0) z.n && (none_above z t (vector_of (part t (read_at z k 0) z.n)) && none_above z t (vector_of (part t (write_at z k 0) z.n))))

-- f: one slot
unfoldable pub slot_holds : Size → List ℕ → ℕ → Bool
slot_holds z t k = slot_sound z.n (λ j. (decode z t).vector j j) (slot_part z t k)

-- The rules that need the counts to fit, and those that need only the length.
unfoldable pub rules_from_c : Size → List ℕ → Bool
rules_from_c z t = rule_c z (decode z t) && (rule_d z (decode z t) && (rule_e z (decode z t) && rule_f z (decode z t) t))

unfoldable pub rules_from_b : Size → List ℕ → Bool
rules_from_b z t = rule_b z t && rules_from_c z t
