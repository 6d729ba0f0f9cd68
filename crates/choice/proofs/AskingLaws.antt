-- What the words of a sound table say of an open slot's session and of one server, as the search reads them. Assumes nothing.
use Rattle.std.specs.Prelude.{ℕ, zero, suc, ◌-◌, ◌*◌, ◌<◌, ◌/◌, ◌%◌, ◌^◌, Bool, true, false, not, ◌&&◌, List, ◌≡◌, eqb, ltb, length, get_or, Ok, Err}
use lib.Bits.{bit_and}
use borrow.Author.Tests.{eq-eqb, ne_eqb}
use Rattle.std.proofs.Math.Logic.{∥∥₁_elim}
use Rattle.std.proofs.Props.{props}
use Rattle.std.proofs.Math.Path.{subst}
use Rattle.std.proofs.lemmas.Nat.{pow_pos}
use Rattle.std.proofs.lemmas.Nat.Bits.{and_pow, bit_at-lt, bit_at_lowest}
use Rattle.tables.specs.Meaning.{Means}
use Rattle.tables.specs.Sound.{sound}
use Rattle.tables.specs.declared.refusal.Refusal.TheVariants.{Behind, Full}
use Rattle.tables.proofs.MeaningLaws.{means-sound, means-size, sound-means}
use Rattle.std.proofs.Math.Bool.{cond}
use Rattle.std.proofs.Common.{sym, ◌∙◌, arith}
use Rattle.std.proofs.Math.Path.{ap, ap₂}
use Rattle.words.specs.Lists.{row, part}
use Rattle.words.specs.RowLaws.{length-row}
use Rattle.words.specs.Tests.{implies}
use Rattle.vectors.specs.Vector.{dominates, vector_of}
use Rattle.vectors.specs.VectorLaws.{dominates-held}
use Rattle.tables.specs.Size.{Size}
use Rattle.tables.specs.Shape.{Laid}
use Rattle.tables.specs.Layout.{decode, size_of, vector_at, count_at, read_at, write_at, guarantees_at, last_used_at}
use Rattle.tables.proofs.LaidLaws.{laid}
use Rattle.tables.proofs.ViewLaws.{within-view, vector-view, count-view, read_view, write_view, guarantees-view, last_view, open-view}
use Rattle.rules.specs.Choice.{read_your_writes, monotonic_reads, writes_follow_reads, monotonic_writes, up_to_date, up_to_date_to_read, up_to_date_to_write, has_room, reaches, start_of}
use Rattle.rules.proofs.ChoiceLaws.{starts}
use Rattle.choice.specs.Outcome.{Asking, session_in, current, has_bit, read_verdict, write_verdict}

-- Tests of the words, that say as much as the fact.
abbrev Tested : Size → List ℕ → ℕ → Type 0
Tested z t k = (sound t ≡ true) × (size_of t ≡ z) × (k < z.p) × (get_or t (guarantees_at z k) 0 ≡ 0 → ⊥)

asking-tested : {z : Size} {t : List ℕ} {k : ℕ} → Asking z t k → Tested z t k
asking-tested {z} {t} {k} a =
    (means-sound a.means, means-size a.means, a.below, λ e. omega (arith, e, guarantees-view a.means k a.below (session_in z t k) a.is_open))

-- A struct keeps the fact without its proof, and by the tests it can be had again.
pub asking-had : {z : Size} {t : List ℕ} {k : ℕ} → ∥ Asking z t k ∥₁ → Asking z t k
asking-had {z} {t} {k} kept =
    let tests : Tested z t k = ∥∥₁_elim kept (hlevel props) asking-tested in
    let means : Means z (decode z t) t = subst (λ y. Means y (decode y t) t) tests.1 (sound-means t tests.0) in
    record { means = means; below = tests.2; is_open = open-view means k tests.2 tests.3 }

module _ {z : Size} {t : List ℕ} {k : ℕ} (asking : Asking z t k) where
  pub asking-laid : Laid z t
  asking-laid = laid asking.means

  -- The guarantees' word is one more than the guarantees.
  pub asking-guarantees : {word : ℕ} → word ≡ get_or t (guarantees_at z k) 0 → word ≡ suc (session_in z t k).guarantees
  asking-guarantees e = e ∙ guarantees-view asking.means k asking.below (session_in z t k) asking.is_open

  -- The search starts at the last-used server, or at 0.
  pub asking-last : {word : ℕ} → word ≡ get_or t (last_used_at z k) 0 → word - 1 ≡ start_of (session_in z t k)
  unfolding start_of
  asking-last e = ap (λ w. w - 1) (e ∙ last_view asking.means k asking.below (session_in z t k) asking.is_open)

  -- There is a server to start at.
  pub asking-starts : start_of (session_in z t k) < z.n
  asking-starts = starts (within-view asking.means).some_server asking.means.state k (session_in z t k) asking.is_open

  module _ (i : ℕ) (h : i < z.n) where
    -- Two slices that hold the server's vector and another one: they have one length,
    vector-long : {a b : List ℕ} (v : ℕ → ℕ) → a ≡ part t (vector_at z i 0) z.n → b ≡ row z.n v → length a ≡ length b
    vector-long v e f =
        ap length (e ∙ vector-view asking.means i h) ∙ (length-row z.n _ ∙ sym (ap length f ∙ length-row z.n v))

    -- and the check on the slices is the check on the vectors.
    vector-met : (wanted : Bool) {a b : List ℕ} (v : ℕ → ℕ) → a ≡ part t (vector_at z i 0) z.n → b ≡ row z.n v
        → implies wanted (dominates (length a) (vector_of a) (vector_of b)) ≡ implies wanted (dominates z.n ((decode z t).vector i) v)
    vector-met wanted v e f =
        ap (implies wanted) (ap₂ (λ x y. dominates (length x) (vector_of x) (vector_of y)) (e ∙ vector-view asking.means i h) f ∙ dominates-held z.n _ v)

    -- So for the session's read-vector,
    read_held : {b : List ℕ} → b ≡ part t (read_at z k 0) z.n → b ≡ row z.n (session_in z t k).read_vector
    read_held f = f ∙ read_view asking.means k asking.below (session_in z t k) asking.is_open

    pub reads-long : {a b : List ℕ} → a ≡ part t (vector_at z i 0) z.n → b ≡ part t (read_at z k 0) z.n → length a ≡ length b
    reads-long e f = vector-long _ e (read_held f)

    -- and for its write-vector.
    write-held : {b : List ℕ} → b ≡ part t (write_at z k 0) z.n → b ≡ row z.n (session_in z t k).write_vector
    write-held f = f ∙ write_view asking.means k asking.below (session_in z t k) asking.is_open

    pub writes-long : {a b : List ℕ} → a ≡ part t (vector_at z i 0) z.n → b ≡ part t (write_at z k 0) z.n → length a ≡ length b
    writes-long e f = vector-long _ e (write-held f)

    -- The second check counts if the first passes,
    pub both-met : (reads writes : Bool) {a b a' b' : List ℕ} {r₁ r₂ : Bool} → r₁ ≡ true
        → a ≡ part t (vector_at z i 0) z.n → b ≡ part t (read_at z k 0) z.n → r₁ ≡ implies reads (dominates (length a) (vector_of a) (vector_of b))
        → a' ≡ part t (vector_at z i 0) z.n → b' ≡ part t (write_at z k 0) z.n → r₂ ≡ implies writes (dominates (length a') (vector_of a') (vector_of b'))
        → r₂ ≡ current z t k reads writes i
    unfolding current
    both-met reads writes passed e f so e' f' so' =
        ap₂ (λ a b. a && b) (sym passed ∙ (so ∙ vector-met reads _ e (read_held f))) (so' ∙ vector-met writes _ e' (write-held f'))

    -- and else both fail.
    pub first-failed : (reads writes : Bool) {a b : List ℕ} {r : Bool} → r ≡ false
        → a ≡ part t (vector_at z i 0) z.n → b ≡ part t (read_at z k 0) z.n → r ≡ implies reads (dominates (length a) (vector_of a) (vector_of b))
        → r ≡ current z t k reads writes i
    unfolding current
    first-failed reads writes failed e f so =
        failed
        ∙ ap (λ b. b && implies writes (dominates z.n ((decode z t).vector i) (session_in z t k).write_vector)) (sym failed ∙ (so ∙ vector-met reads _ e (read_held f)))

-- ---- the verdicts by a sum's bits

-- A bit of a number, tested by a mask.
bit-test : (p b : ℕ) → 0 < p → b < 2 → not (eqb (b * p) 0) ≡ eqb b 1
bit-test p zero l h = ap not (eq-eqb (0 * p) 0 (omega arith))
bit-test p (suc zero) l h = ap not (ne_eqb (1 * p) 0 (λ e. omega (arith, e)))
bit-test p (suc (suc b)) l h = absurd (omega (arith, h))

mask-bit : (g k : ℕ) → not (eqb (bit_and g (2 ^ k)) 0) ≡ eqb (g / 2 ^ k % 2) 1
mask-bit g k = ap (λ m. not (eqb m 0)) (and_pow g k) ∙ bit-test (2 ^ k) (g / 2 ^ k % 2) (pow_pos k) (bit_at-lt g k)

module _ (z : Size) (t : List ℕ) (k reach i : ℕ) where
  -- A server in reach, by bits of the sum.
  pub reached : (reads writes : ℕ) {sum word : ℕ} {r : Bool} → sum ≡ (session_in z t k).guarantees → word ≡ reach / 2 ^ i % 2 → word ≡ 1
      → r ≡ current z t k (not (eqb (bit_and sum reads) 0)) (not (eqb (bit_and sum writes) 0)) i
      → r ≡ (reaches reach i && current z t k (has_bit z t k reads) (has_bit z t k writes) i)
  unfolding reaches has_bit
  reached reads writes {sum} {word} e bit one so =
      so
      ∙ (ap (λ s. current z t k (not (eqb (bit_and s reads) 0)) (not (eqb (bit_and s writes) 0)) i) e
      ∙ ap (λ b. b && current z t k (has_bit z t k reads) (has_bit z t k writes) i) (sym (eq-eqb _ 1 (sym bit ∙ one))))

  -- The verdict on a server for a read,
  pub reads-judged : {r : Bool} → r ≡ (reaches reach i && current z t k (has_bit z t k 2) (has_bit z t k 1) i)
      → cond r (Ok tt) (Err Behind) ≡ read_verdict z t k reach i
  unfolding read_verdict up_to_date_to_read up_to_date read_your_writes monotonic_reads current has_bit
  reads-judged so =
      let sum = (session_in z t k).guarantees in
      ap (λ b. cond b (Ok tt) (Err Behind)) (so ∙ ap₂ (λ a b. reaches reach i && current z t k a b i) (mask-bit sum 1) (mask-bit sum 0 ∙ ap (λ m. eqb m 1) (bit_at_lowest sum)))

  -- and for a write.
  pub writes-judged : Asking z t k → i < z.n → {count : ℕ} {r : Bool} → count ≡ get_or t (count_at z i) 0
      → r ≡ (reaches reach i && current z t k (has_bit z t k 4) (has_bit z t k 8) i)
      → cond r (cond (ltb count z.l) (Ok tt) (Err Full)) (Err Behind) ≡ write_verdict z t k reach i
  unfolding write_verdict up_to_date_to_write up_to_date writes_follow_reads monotonic_writes current has_room has_bit
  writes-judged asking h e so =
      let sum = (session_in z t k).guarantees in
      ap₂ (λ b c. cond b (cond (ltb c z.l) (Ok tt) (Err Full)) (Err Behind))
      (so ∙ ap₂ (λ a b. reaches reach i && current z t k a b i) (mask-bit sum 2) (mask-bit sum 3))
      (e ∙ count-view asking.means i h)
