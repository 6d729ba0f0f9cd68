-- 01, "A sound table": rules a to f, in the paper's order. a, b and f are tests of the words, c to e of the logs and vectors that the
-- words decode to. Assumes nothing.
use Rattle.std.specs.Prelude.{ℕ, ◌+◌, ◌*◌, Bool, cond, ◌&&◌, List, leb, eqb, length, get_or, drop}
use Rattle.words.specs.Tests.{all, zeros}
use Rattle.logs.specs.Places.{width}
use Rattle.logs.specs.LogTests.{ordered, greatest_of, agrees}
use Rattle.tables.specs.Size.{Size, within, items, sums}
use Rattle.tables.specs.State.{State}
use Rattle.tables.specs.Layout.{size, size_of, count_at, log_part, slot_part, decode}

-- a: "length and header as above"
unfoldable pub rule_a : Size → List ℕ → Bool
rule_a z t = within z && (eqb (get_or t 3 0) 0 && eqb (length t) (size z))

-- b: "each count is at most L; places past the count are all zero"
unfoldable pub rule_b : Size → List ℕ → Bool
rule_b z t =
    all z.n (λ i. leb (get_or t (count_at z i) 0) z.l && zeros (drop (get_or t (count_at z i) 0 * width) (log_part z t i)))

-- c: "in each log, origin is below N and item at most 255; entries ascend strictly by clock, then origin; the first clock is 1; each
-- later clock equals the one before it or is one more"
unfoldable pub rule_c : Size → State → Bool
rule_c z s = all z.n (λ i. ordered z.n items (s.log i))

-- d: "server i's vector at j is the greatest clock of origin j in log i, or 0"
unfoldable pub rule_d : Size → State → Bool
rule_d z s = all z.n (λ i. all z.n (λ j. eqb (s.vector i j) (greatest_of j (s.log i))))

-- e: "log i's entries of origin j are exactly log j's entries of origin j with clock at most that vector component, item and value
-- the same"
unfoldable pub rule_e : Size → State → Bool
rule_e z s = all z.n (λ i. all z.n (λ j. agrees j (s.vector i j) (s.log i) (s.log j)))

-- f: "a closed slot is all zero; an open one has guarantees 1 to 16, last-used 0 to N, and vector components at j no greater than
-- server j's own vector at j"
unfoldable pub slot_sound : ℕ → (ℕ → ℕ) → List ℕ → Bool
slot_sound n own ws =
    cond
    (eqb (get_or ws 0 0) 0)
    (zeros ws)
    (leb (get_or ws 0 0) sums && (leb (get_or ws 1 0) n && (all n (λ j. leb (get_or ws (2 + j) 0) (own j)) && all n (λ j. leb (get_or ws (2 + n + j) 0) (own j)))))

unfoldable pub rule_f : Size → State → List ℕ → Bool
rule_f z s t = all z.p (λ k. slot_sound z.n (λ j. s.vector j j) (slot_part z t k))

-- "All of these, else refusal 1"
unfoldable pub sound_at : Size → State → List ℕ → Bool
sound_at z s t = rule_a z t && (rule_b z t && (rule_c z s && (rule_d z s && (rule_e z s && rule_f z s t))))

unfoldable pub sound : List ℕ → Bool
sound t = sound_at (size_of t) (decode (size_of t) t) t
