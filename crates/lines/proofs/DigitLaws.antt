-- Reading a number finds exactly the numbers' spellings. Assumes nothing.
use Rattle.std.specs.Prelude.{ℕ, zero, suc, ◌+◌, ◌-◌, ◌*◌, ◌/◌, ◌%◌, ◌<◌, ◌≤◌, true, List, [], ◌∷◌, ◌++◌, ◌≡◌, refl, leb, eqb, length, Option, None, Some}
use Rattle.std.proofs.Common.{append_assoc, ⊎_elim, sym, ◌∙◌, ap, ap₂, subst, arith, leb-true, le-leb, eqb-true, ne_eqb}
use Rattle.std.proofs.lemmas.Bool.{eqb-false, lt-leb}
use Rattle.std.specs.Char.{IsNotAsciiDigit}
use Rattle.std.specs.List.{IsFirstAndRest}
use Rattle.words.specs.CaseLaws.{lt-or-le}
use Rattle.words.specs.TestLaws.{cond-elim, cond-true, cond-false, and_left, and_right, and_both}
use Rattle.lines.specs.Decimal.{decimal, greatest}
use Rattle.lines.proofs.DecimalLaws.{decimal-one, decimal-more}
use Rattle.lines.specs.Read.{Got, is_digit, more, read_number}
use Rattle.lines.proofs.GotLaws.{some_is, none-some}
use Rattle.lines.specs.DigitLaws.{NoDigit, Spelled, ends, other}

-- ---- digits

-- The digits are the bytes 48 to 57.
digit-passes : (d : ℕ) → d < 10 → is_digit (48 + d) ≡ true
unfolding is_digit
digit-passes d h = and_both (leb 48 (48 + d)) (leb (48 + d) 57) (le-leb 48 (48 + d) (omega arith)) (le-leb (48 + d) 57 (omega arith))

pub digit_low : (b : ℕ) → is_digit b ≡ true → 48 ≤ b
unfolding is_digit
digit_low b h = leb-true 48 b (and_left (leb 48 b) (leb b 57) h)

pub digit-high : (b : ℕ) → is_digit b ≡ true → b ≤ 57
unfolding is_digit
digit-high b h = leb-true b 57 (and_right (leb 48 b) (leb b 57) h)

-- A first digit is a number; a digit behind a number makes it another.
digit-alone : (b : ℕ) (bs : List ℕ) → is_digit b ≡ true → b ∷ bs ≡ decimal (b - 48) ++ bs
digit-alone b bs h =
    let e : 48 + (b - 48) ≡ b = omega (arith, digit_low b h) in
    sym (ap (λ ds. ds ++ bs) (decimal-one (b - 48) (omega (arith, digit-high b h))) ∙ ap (λ c. c ∷ bs) e)

digit-behind : (s b : ℕ) (bs : List ℕ) → 1 ≤ s → is_digit b ≡ true → decimal s ++ b ∷ bs ≡ decimal (s * 10 + (b - 48)) ++ bs
digit-behind s b bs l h =
    let high : b ≤ 57 = digit-high b h in
    let tenth : (s * 10 + (b - 48)) / 10 ≡ s = omega arith in
    let last : 48 + (s * 10 + (b - 48)) % 10 ≡ b = omega (arith, digit_low b h) in
    sym (ap (λ ds. ds ++ bs) (decimal-more (s * 10 + (b - 48)) (omega arith) ∙ ap₂ (λ t c. decimal t ++ (c ∷ [])) tenth last) ∙ append_assoc (decimal s) (b ∷ []) bs)

-- A text without a first byte, or with one that is no digit.
pub no_byte : (bs : List ℕ) → length bs ≡ 0 → NoDigit bs
no_byte [] h = ends
no_byte (b ∷ bs) h = absurd (omega arith)

pub other_byte : (bs : List ℕ) {b : ℕ} {rest : List ℕ} → IsFirstAndRest bs b rest → IsNotAsciiDigit b → NoDigit bs
unfolding is_digit
other_byte bs {b} is h =
    subst NoDigit (sym is.0)
    (⊎_elim (λ (low : b < 48). other (rw (lt-leb 48 b low)))
    (λ (low : 48 ≤ b). other (rw (le-leb 48 b low, lt-leb b 57 (omega arith)))) (lt-or-le b 48))

-- ---- a spelling is read

-- One digit: behind a number, and one too many; none behind it; and the first.
pub more-digit : (s d : ℕ) (bs : List ℕ) → d < 10 → s * 10 + d ≤ greatest → more s ((48 + d) ∷ bs) ≡ more (s * 10 + d) bs
unfolding more
more-digit s d bs h l =
    let e : 48 + d - 48 ≡ d = omega arith in
    cond-true (is_digit (48 + d)) _ _ (digit-passes d h)
    ∙ (cond-true (leb (s * 10 + (48 + d - 48)) greatest) _ _ (le-leb (s * 10 + (48 + d - 48)) greatest (omega arith))
    ∙ ap (λ k. more (s * 10 + k) bs) e)

pub more-overflows : (s d : ℕ) (bs : List ℕ) → d < 10 → greatest < s * 10 + d → more s ((48 + d) ∷ bs) ≡ None
unfolding more
more-overflows s d bs h l =
    cond-true (is_digit (48 + d)) _ _ (digit-passes d h)
    ∙ cond-false (leb (s * 10 + (48 + d - 48)) greatest) _ _ (lt-leb (s * 10 + (48 + d - 48)) greatest (omega arith))

pub more-stops : (s : ℕ) {bs : List ℕ} → NoDigit bs → more s bs ≡ Some (record { value = s; rest = bs })
unfolding more
more-stops s ends = refl
more-stops s (other {b = b} e) = cond-false (is_digit b) _ _ e

pub first-digit : (d : ℕ) (bs : List ℕ) → 1 ≤ d → d < 10 → read_number ((48 + d) ∷ bs) ≡ more d bs
unfolding read_number
first-digit d bs h l =
    let e : 48 + d - 48 ≡ d = omega arith in
    cond-true (is_digit (48 + d)) _ _ (digit-passes d l)
    ∙ (cond-false (eqb (48 + d) 48) _ _ (ne_eqb (48 + d) 48 (λ q. omega arith))
    ∙ ap (λ k. more k bs) e)

pub first-zero : (d : ℕ) (bs : List ℕ) → d ≡ 0 → read_number ((48 + d) ∷ bs) ≡ Some (record { value = 0; rest = bs })
unfolding read_number is_digit
first-zero d bs e = rw e

pub first-none : {bs : List ℕ} → NoDigit bs → read_number bs ≡ None
unfolding read_number
first-none ends = refl
first-none (other {b = b} e) = cond-false (is_digit b) _ _ e

pub ruleset digits = (more-digit, more-overflows, more-stops, first-digit, first-zero, first-none)

-- Behind its digits a number's value is what has been read.
digits-read : (k v : ℕ) → v ≤ k → 1 ≤ v → v ≤ greatest → (rest : List ℕ) → read_number (decimal v ++ rest) ≡ more v rest
digits-read zero v l h fits rest = absurd (omega arith)
digits-read (suc k) v l h fits rest =
    ⊎_elim (λ (small : v < 10). ap (λ ds. read_number (ds ++ rest)) (decimal-one v small) ∙ first-digit v rest h small)
    (λ (large : 10 ≤ v).
    let e : v / 10 * 10 + v % 10 ≡ v = omega arith in
    ap (λ ds. read_number (ds ++ rest)) (decimal-more v large)
    ∙ (ap read_number (append_assoc (decimal (v / 10)) ((48 + v % 10) ∷ []) rest)
    ∙ (digits-read k (v / 10) (omega arith) (omega arith) (omega arith) ((48 + v % 10) ∷ rest)
    ∙ (more-digit (v / 10) (v % 10) rest (omega arith) (omega arith)
    ∙ ap (λ n. more n rest) e)))) (lt-or-le v 10)

-- The spelling of a number is read.
pub number_read : (v : ℕ) → v ≤ greatest → {rest : List ℕ} → NoDigit rest → read_number (decimal v ++ rest) ≡ Some (record { value = v; rest = rest })
unfolding read_number is_digit
number_read zero fits {rest} h = ap (λ ds. read_number (ds ++ rest)) (decimal-one 0 (omega arith))
number_read (suc v) fits {rest} h = digits-read (suc v) (suc v) (omega arith) (omega arith) fits rest ∙ more-stops (suc v) h

-- ---- what is read is a spelling

-- What is read as a number is its spelling.
more-spelled : (s : ℕ) (bs : List ℕ) (g : Got ℕ) → 1 ≤ s → s ≤ greatest → more s bs ≡ Some g → Spelled (decimal s ++ bs) g
unfolding more
more-spelled s [] g low fits = some_is (Spelled (decimal s ++ [])) (refl, fits)
more-spelled s (b ∷ bs) g low fits =
    cond-elim (λ (o : Option (Got ℕ)). o ≡ Some g → Spelled (decimal s ++ b ∷ bs) g) (is_digit b)
    (λ digit. cond-elim (λ (o : Option (Got ℕ)). o ≡ Some g → Spelled (decimal s ++ b ∷ bs) g) (leb (s * 10 + (b - 48)) greatest)
    (λ small h.
    let so = more-spelled (s * 10 + (b - 48)) bs g (omega arith) (leb-true (s * 10 + (b - 48)) greatest small) h in
    (digit-behind s b bs low digit ∙ so.0, so.1))
    (λ large. none-some))
    (λ behind. some_is (Spelled (decimal s ++ b ∷ bs)) (refl, fits))

pub read-number : (bs : List ℕ) (g : Got ℕ) → read_number bs ≡ Some g → (bs ≡ decimal g.value ++ g.rest) × (g.value ≤ greatest)
unfolding read_number
read-number [] g = none-some
read-number (b ∷ bs) g =
    cond-elim (λ (o : Option (Got ℕ)). o ≡ Some g → Spelled (b ∷ bs) g) (is_digit b)
    (λ digit. cond-elim (λ (o : Option (Got ℕ)). o ≡ Some g → Spelled (b ∷ bs) g) (eqb b 48)
    (λ zero h.
    let e : b - 48 ≡ 0 = omega (arith, eqb-true b 48 zero) in
    some_is (Spelled (b ∷ bs)) (digit-alone b bs digit ∙ ap (λ v. decimal v ++ bs) e, omega arith) h)
    (λ large h.
    let so = more-spelled (b - 48) bs g (omega (arith, eqb-false b 48 large, digit_low b digit)) (omega (arith, digit-high b digit)) h in
    (digit-alone b bs digit ∙ so.0, so.1)))
    (λ behind. none-some)
