-- What a write makes of a table's words, one after another: those that the rules say. Assumes nothing.
use Rattle.std.specs.Prelude.{ℕ, ◌+◌, ◌<◌, ◌≤◌, List, [], ◌∷◌, ◌++◌, ◌≡◌, length, set}
use Rattle.std.proofs.Math.Option.{some}
use Rattle.std.proofs.Common.{◌∙◌, arith}
use Rattle.std.proofs.Math.Path.{ap}
use Rattle.std.proofs.Math.Numerals.{add-one}
use Rattle.words.specs.Lists.{part}
use Rattle.vectors.specs.Vector.{vector_of, greatest}
use Rattle.vectors.specs.VectorLaws.{greatest-held, greatest-least}
use Rattle.tables.specs.Size.{Size}
use Rattle.tables.specs.State.{with_log}
use Rattle.tables.specs.Layout.{vector_at, last_used_at, write_at, encode, decode}
use Rattle.tables.proofs.SoundStateLaws.{vector-within}
use Rattle.tables.proofs.ViewLaws.{room-view, vector-view}
use Rattle.choice.specs.Outcome.{Asking, session_in}
use Rattle.rules.specs.Rules.{new_write, write_answer, write_to}
use Rattle.kinds.specs.Obeys.{Came}
use Rattle.serving.specs.ChangeLaws.{write-stores}

module _ {z : Size} {t : List ℕ} {k : ℕ} (asking : Asking z t k) (i : ℕ) (h : i < z.n) where
  -- The greatest component of the server's vector, as it was read,
  module _ {vector : List ℕ} {most : ℕ} (is : vector ≡ part t (vector_at z i 0) z.n) (so : most ≡ greatest (length vector) (vector_of vector)) where
    greatest-read : most ≡ greatest z.n ((decode z t).vector i)
    greatest-read =
        so ∙ (ap (λ (v : List ℕ). greatest (length v) (vector_of v)) (is ∙ vector-view asking.means i h) ∙ greatest-held z.n ((decode z t).vector i))

    -- is at most L,
    pub greatest-small : most ≤ z.l
    greatest-small =
        omega (arith, greatest-read, greatest-least z.n ((decode z t).vector i) z.l (λ j l. vector-within asking.means.state i j))

    -- and "clock is 1 plus the greatest component".
    pub clock-next : (item value : ℕ) → most + 1 ≡ (new_write z (decode z t) i item value).clock
    unfolding new_write
    clock-next item value = omega (arith, greatest-read)

  -- 01, "Write": "the vectors of server and session at that server become the clock; last-used is set."
  pub write_done : (item value : ℕ) {clock at-vector at-write at_last : ℕ} {added : List ℕ} → length ((decode z t).log i) < z.l
      → clock ≡ (new_write z (decode z t) i item value).clock
      → added ≡ encode z (with_log (decode z t) i ((decode z t).log i ++ (record { origin = i; clock = clock; item = item; value = value } ∷ [])))
      → at-vector ≡ vector_at z i i
      → at-write ≡ write_at z k i
      → at_last ≡ last_used_at z k
      → Came z (write_to z (decode z t) k item value (session_in z t k) (some i) (some i)) (record { code = 0; server = i; origin = i; clock = clock; value = value })
      (set (set (set added at-vector clock) at-write clock) at_last (i + 1))
  unfolding write_to write_answer new_write
  write_done item value free timed stored at-vector at-write at_last =
      let s = decode z t in
      let w = new_write z s i item value in
      record {
        answer_is = ap (λ c. record { code = 0; server = i; origin = i; clock = c; value = value }) timed;
        table_is = rw (stored, at-vector, at-write, at_last, timed, add-one i)
            (write-stores z s (room-view asking.means) k asking.below (session_in z t k) asking.is_open i h w free);
      }
