-- What a table's vectors and logs mean: their words against the state that the table decodes to. Assumes nothing.
use Rattle.std.specs.Prelude.{ℕ, ◌+◌, ◌*◌, ◌<◌, List, ◌≡◌, length, get_or}
use Rattle.std.proofs.Common.{sym, ◌∙◌, ap₂, arith}
use Rattle.std.proofs.Math.Path.{ap}
use Rattle.words.specs.Lists.{part}
use Rattle.words.specs.ListLaws.{below_in}
use Rattle.words.specs.PartLaws.{length_part, get_or_part}
use Rattle.logs.specs.Places.{width, entries}
use Rattle.tables.proofs.BoundLaws.{vector-within, log-within}
use Rattle.tables.proofs.DecodeLaws.{decode-vector, decode-log}
use Rattle.tables.specs.Layout.{vector_at, count_at, log_at, log_part, decode}
use Rattle.tables.specs.Shape.{Laid}
use Rattle.tables.specs.Size.{Size}

module _ {z : Size} {t : List ℕ} (laid : Laid z t) (i : ℕ) (h : i < z.n) where
  -- ---- how long the parts are

  pub vector-length : length (part t (vector_at z i 0) z.n) ≡ z.n
  vector-length = length_part t (vector_at z i 0) z.n (omega (arith, vector-within z i h, laid.words))

  pub log-length : length (log_part z t i) ≡ z.l * 4
  unfolding log_part
  log-length = length_part t (log_at z i) (z.l * width) (omega (arith, log-within z i h, laid.words))

-- A word of a server's vector is that component.
pub component-read : (z : Size) (t : List ℕ) (i j : ℕ) → i < z.n → j < z.n
    → get_or (part t (vector_at z i 0) z.n) j 0 ≡ (decode z t).vector i j
unfolding vector_at
component-read z t i j h l =
    let at : 4 + i * (z.n + 1) + 0 + j ≡ vector_at z i j = omega arith in
    get_or_part t (vector_at z i 0) z.n j 0 l
    ∙ (ap (λ k. get_or t k 0) at
    ∙ sym (ap (λ (v : ℕ → ℕ). v j) (decode-vector z t i h) ∙ below_in z.n (λ j. get_or t (vector_at z i j) 0) 0 j l))

-- The first places of a server's log, as many as its count says, hold the log.
pub log-read : (z : Size) (t : List ℕ) {count : ℕ} {log : List ℕ} (i : ℕ) → i < z.n → count ≡ get_or t (count_at z i) 0 → log ≡ log_part z t i
    → entries count log ≡ (decode z t).log i
log-read z t i h e g = ap₂ (λ c ws. entries c ws) e g ∙ sym (decode-log z t i h)
