-- A run from fresh in parts of lent words. Assumes nothing.
use Rattle.std.specs.Prelude.{ℕ, ◌*◌, ◌≤◌, ◌%◌, Bool, true, false, List, ◌≡◌, leb, length, take}
use Rattle.std.proofs.Math.Path.{refl}
use Rattle.std.proofs.Common.{sym, ◌∙◌, ap, arith, length-take-le}
use Rattle.std.proofs.Math.Nat.{mul-le-mul}
use borrow.Author.Tests.{leb-true, eq-eqb}
use Rattle.words.specs.TestLaws.{and_left, and_right, and_both}
use Rattle.words.specs.CheckLaws.{and-goes, and-fails}
use Rattle.logs.specs.Places.{width}
use Rattle.tables.specs.Size.{Size, within}
use Rattle.tables.specs.SizeLaws.{Within}
use Rattle.tables.proofs.SizeLaws.{within-exactly}
use Rattle.tables.specs.Layout.{size}
use Rattle.tables.proofs.BoundLaws.{heads-bound, slots-bound}
use Rattle.tables.specs.Make.{fresh, MakePromise}
use Rattle.tables.proofs.MakeLaws.{make-done}
use Rattle.rules.specs.Step.{steps_of, answer_words}
use Rattle.rules.specs.Calls.{walk, lengths_fit, RunPromise}
use Rattle.rules.proofs.RunLaws.{run_fits}
use Rattle.script.specs.Reply.{admissible}
use Rattle.script.specs.Promised.{answers_of}

-- ---- admissible sizes

-- By the test of the limits.
module _ (z : Size) {r : Bool} (is : r ≡ within z) where
  pub admissible-if : r ≡ true → leb z.l 128 ≡ admissible z
  unfolding admissible
  admissible-if e = and-goes (within z) (leb z.l 128) (sym is ∙ e) refl

  pub inadmissible : r ≡ false → false ≡ admissible z
  unfolding admissible
  inadmissible e = and-fails (within z) (leb z.l 128) (sym is ∙ e)

module _ (z : Size) (ok : admissible z ≡ true) where
  within-is : within z ≡ true
  unfolding admissible
  within-is = and_left (within z) (leb z.l 128) ok

  pub admissible-within : Within z
  admissible-within = (within-exactly z).0 within-is

  few_places : z.l ≤ 128
  unfolding admissible
  few_places = leb-true z.l 128 (and_right (within z) (leb z.l 128) ok)

  -- The largest table of a script.
  admissible-size : size z ≤ 9012
  unfolding size
  admissible-size =
      let logs : z.n * (z.l * width) ≤ 8192 = mul-le-mul {n₂ = 16} {m₂ = 512} (omega (arith, admissible-within.few_servers)) (omega (arith, few_places)) in
      omega (arith, logs, heads-bound z admissible-within, slots-bound z admissible-within)

  -- It stands at the front of a long enough buffer.
  module _ {r : ℕ} (is : r ≡ size z) (t : List ℕ) (long : 9012 ≤ length t) where
    pub table-room : r ≤ length t
    table-room = omega (arith, is, admissible-size)

    pub table-front : length (take r t) ≡ size z
    table-front = length-take-le r t table-room ∙ is

-- ---- the run

-- What is made in a buffer of its length is fresh.
pub made-fresh : (z : Size) → Within z → {code : ℕ} (buffer : List ℕ) {left : List ℕ} → length buffer ≡ size z → MakePromise z buffer code left → left ≡ fresh z
made-fresh z limits buffer fits made = made.buffer_is ∙ ap (λ m. m.buffer) (make-done z buffer ((within-exactly z).1 limits) fits)

-- On a fresh table its answers are those of the steps.
pub fresh-answers : (z : Size) (steps answers : List ℕ) {t : List ℕ} → t ≡ fresh z → length steps ≡ length answers → length steps % 5 ≡ 0
    → {code : ℕ} {table written : List ℕ} → RunPromise t steps answers code table written → written ≡ answer_words (answers_of z steps)
unfolding lengths_fit answers_of
fresh-answers z steps answers {t} is same whole ran =
    let fit = and_both _ _ (eq-eqb (length steps) (length answers) same) (eq-eqb (length steps % 5) 0 whole) in
    ran.answers_are
    ∙ (ap (λ r. r.answers) (run_fits t steps answers fit)
    ∙ ap (λ u. answer_words (walk u (steps_of steps)).answers) is)
