-- What a server lacks and how a vector follows depend on some of a vector's components only. Assumes nothing.
use Rattle.std.specs.Prelude.{ℕ, ◌<◌, cond, List, [], ◌∷◌, ◌≡◌, refl, ltb, eqb, length}
use Rattle.std.proofs.Common.{ap, ap₂}
use Rattle.words.specs.Lists.{In, here, there, keep, row, upd}
use Rattle.words.specs.RowLaws.{length-row, get_or-row, row-cong}
use Rattle.vectors.specs.Vector.{vector_of}
use Rattle.logs.specs.Write.{Write}
use Rattle.logs.specs.Log.{lacking, follow}

-- What a server lacks: the components of the writes' origins.
pub lacking-cong : (u v : ℕ → ℕ) (g : List Write) → ((w : Write) → In w g → u w.origin ≡ v w.origin) → lacking u g ≡ lacking v g
unfolding lacking keep
lacking-cong u v [] h = refl
lacking-cong u v (w ∷ g) h =
    ap₂ {C = List Write} (λ t r. cond t (w ∷ r) r) (ap (λ c. ltb c w.clock) (h w (here refl))) (lacking-cong u v g (λ x m. h x (there m)))

-- How a vector follows: the first n components, for the first n.
pub follow-cong : (n : ℕ) (ws : List Write) (u v : ℕ → ℕ) → ((j : ℕ) → j < n → u j ≡ v j) → (j : ℕ) → j < n → follow ws u j ≡ follow ws v j
unfolding follow upd
follow-cong n [] u v h = h
follow-cong n (w ∷ ws) u v h =
    follow-cong n ws (upd u w.origin w.clock) (upd v w.origin w.clock) (λ j l. ap (λ c. cond (eqb j w.origin) w.clock c) (h j l))

-- The promise of the code on a slice that holds a row.
pub follow-held : (n : ℕ) (ws : List Write) (v : ℕ → ℕ) → row (length (row n v)) (follow ws (vector_of (row n v))) ≡ row n (follow ws v)
follow-held n ws v = rw (length-row n v) (row-cong n _ _ (follow-cong n ws (vector_of (row n v)) v (λ j. get_or-row n v j 0)))
