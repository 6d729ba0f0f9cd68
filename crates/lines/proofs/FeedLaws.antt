-- A line has one line feed, and it stands at its end: so the lines of a text are told apart by its line feeds. Assumes nothing.
use Rattle.std.specs.Prelude.{ℕ, zero, suc, ◌+◌, ◌/◌, ◌%◌, List, [], ◌∷◌, ◌++◌, ◌≡◌, refl, ltb, eqb}
use Rattle.std.proofs.Common.{◌∙◌, ap₂, arith, ne_eqb}
use Rattle.words.specs.TestLaws.{cond-elim, cond-false}
use Rattle.tables.specs.Size.{Size}
use Rattle.rules.specs.Step.{Step}
use Rattle.lines.specs.Decimal.{digits, decimal}
use Rattle.lines.specs.Line.{fields, numbers, size_line, StepLine, opens, closes, reads, writes, exchanges}
use Rattle.lines.specs.FeedLaws.{feeds}

pub feeds-append : (front bs : List ℕ) → feeds (front ++ bs) ≡ feeds front + feeds bs
unfolding feeds
feeds-append [] bs = omega arith
feeds-append (a ∷ front) bs = omega (arith, feeds-append front bs)

-- A digit is none.
feeds-digit : (d : ℕ) (bs : List ℕ) → feeds ((48 + d) ∷ bs) ≡ feeds bs
unfolding feeds
feeds-digit d bs = omega (arith, cond-false {A = ℕ} (eqb (48 + d) 10) 1 0 (ne_eqb (48 + d) 10 (λ e. omega arith)))

feeds-digits : (k x : ℕ) → feeds (digits k x) ≡ 0
unfolding digits feeds
feeds-digits zero x = feeds-digit x []
feeds-digits (suc k) x =
    cond-elim (λ (bs : List ℕ). feeds bs ≡ 0) (ltb x 10) (λ _. feeds-digit x [])
    (λ _. feeds-append (digits k (x / 10)) ((48 + x % 10) ∷ []) ∙ ap₂ (λ m n. m + n) (feeds-digits k (x / 10)) (feeds-digit (x % 10) []))

-- A line has one.
pub feeds-fields : (xs : List ℕ) → feeds (fields xs) ≡ 1
unfolding feeds fields decimal
feeds-fields [] = refl
feeds-fields (x ∷ xs) = omega (arith, feeds-append (digits x x) (fields xs), feeds-digits x x, feeds-fields xs)

feeds-numbers : (x : ℕ) (xs : List ℕ) → feeds (numbers x xs) ≡ 1
unfolding numbers decimal
feeds-numbers x xs = omega (arith, feeds-append (digits x x) (fields xs), feeds-digits x x, feeds-fields xs)

pub feeds-size_line : (z : Size) → feeds (size_line z) ≡ 1
unfolding size_line
feeds-size_line z = feeds-numbers _ _

pub feeds-step_line : {x : Step} {line : List ℕ} → StepLine x line → feeds line ≡ 1
unfolding feeds
feeds-step_line (opens slot guarantees h₁ h₂) = omega (arith, feeds-fields (slot ∷ guarantees ∷ []))
feeds-step_line (closes slot h₁) = omega (arith, feeds-fields (slot ∷ []))
feeds-step_line (reads slot item reach h₁ h₂ h₃) = omega (arith, feeds-fields (slot ∷ item ∷ reach ∷ []))
feeds-step_line (writes slot item value reach h₁ h₂ h₃ h₄) = omega (arith, feeds-fields (slot ∷ item ∷ value ∷ reach ∷ []))
feeds-step_line (exchanges source target most h₁ h₂ h₃) = omega (arith, feeds-fields (source ∷ target ∷ most ∷ []))
