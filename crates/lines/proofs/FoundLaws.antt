-- What reading finds from a place of a text on, byte by byte. Assumes nothing.
use Rattle.std.specs.Prelude.{ℕ, ◌+◌, ◌-◌, ◌*◌, ◌≤◌, ◌<◌, Bool, true, false, cond, List, [], ◌∷◌, ◌≡◌, leb, eqb, length, get_or, drop, None, Some}
use Rattle.std.proofs.Common.{⊎_elim, sym, ◌∙◌, ap, add-one, le-leb, eq-eqb, ne_eqb, drop_of_length-le, drop-cons, drop-drop}
use Rattle.std.proofs.lemmas.Bool.{lt-leb}
use Rattle.words.specs.TestLaws.{cond-true, cond-false, true-not-false}
use Rattle.words.specs.CaseLaws.{lt-or-le}
use Rattle.lines.specs.Decimal.{greatest}
use Rattle.lines.specs.Read.{begins, is_digit, more, read_number, read_field, kind_of, read_arguments, read_step}

module _ (text : List ℕ) (at : ℕ) where
  -- ---- the byte at a place

  pub byte-there : at < length text → drop at text ≡ get_or text at 0 ∷ drop (at + 1) text
  byte-there h = drop-cons text at 0 h ∙ ap (λ k. get_or text at 0 ∷ drop k text) (sym (add-one at))

  pub nothing-there : length text ≤ at → drop at text ≡ []
  nothing-there h = drop_of_length-le text {i = at} h

  pub begins-there : (byte : ℕ) → at < length text → eqb (get_or text at 0) byte ≡ begins byte (drop at text)
  unfolding begins
  begins-there byte h = sym (ap (begins byte) (byte-there h))

  pub begins-nothing : (byte : ℕ) → length text ≤ at → false ≡ begins byte (drop at text)
  unfolding begins
  begins-nothing byte h = sym (ap (begins byte) (nothing-there h))

  -- ---- a number's further digits

  module _ (v : ℕ) where
    abbrev shifted : ℕ
    shifted = v * 10 + (get_or text at 0 - 48)

    -- They end before a byte that is no digit, and with the text.
    pub more-stops : at < length text → is_digit (get_or text at 0) ≡ false → more v (drop at text) ≡ Some (record { value = v; rest = drop at text })
    unfolding more
    more-stops h stops = ap (more v) (byte-there h) ∙ (cond-false (is_digit (get_or text at 0)) _ _ stops ∙ ap (λ r. Some (record { value = v; rest = r })) (sym (byte-there h)))

    pub more-ends : length text ≤ at → more v (drop at text) ≡ Some (record { value = v; rest = drop at text })
    unfolding more
    more-ends h = ap (more v) (nothing-there h) ∙ ap (λ r. Some (record { value = v; rest = r })) (sym (nothing-there h))

    more-digit : at < length text → is_digit (get_or text at 0) ≡ true → more v (drop at text) ≡ cond (leb shifted greatest) (more shifted (drop (at + 1) text)) None
    unfolding more
    more-digit h is = ap (more v) (byte-there h) ∙ cond-true (is_digit (get_or text at 0)) _ _ is

    -- One digit more, and one too many.
    pub more-passes : at < length text → is_digit (get_or text at 0) ≡ true → shifted ≤ greatest → more v (drop at text) ≡ more shifted (drop (at + 1) text)
    more-passes h is fits = more-digit h is ∙ cond-true (leb shifted greatest) _ _ (le-leb shifted greatest fits)

    pub more-overflows : at < length text → is_digit (get_or text at 0) ≡ true → greatest < shifted → more v (drop at text) ≡ None
    more-overflows h is over = more-digit h is ∙ cond-false (leb shifted greatest) _ _ (lt-leb shifted greatest over)

-- ---- a number

module _ (text : List ℕ) (at : ℕ) where
  pub number-nothing : length text ≤ at → None ≡ read_number (drop at text)
  unfolding read_number
  number-nothing h = sym (ap read_number (nothing-there text at h))

  number-there : at < length text → read_number (drop at text) ≡ read_number (get_or text at 0 ∷ drop (at + 1) text)
  number-there h = ap read_number (byte-there text at h)

  pub number-no-digit : at < length text → is_digit (get_or text at 0) ≡ false → None ≡ read_number (drop at text)
  unfolding read_number
  number-no-digit h stops = sym (number-there h ∙ cond-false (is_digit (get_or text at 0)) _ _ stops)

  number-digit : at < length text → is_digit (get_or text at 0) ≡ true
      → read_number (drop at text) ≡ cond (eqb (get_or text at 0) 48) (Some (record { value = 0; rest = drop (at + 1) text })) (more (get_or text at 0 - 48) (drop (at + 1) text))
  unfolding read_number
  number-digit h is = number-there h ∙ cond-true (is_digit (get_or text at 0)) _ _ is

  pub number-zero : at < length text → is_digit (get_or text at 0) ≡ true → get_or text at 0 ≡ 48 → Some (record { value = 0; rest = drop (at + 1) text }) ≡ read_number (drop at text)
  number-zero h is e = sym (number-digit h is ∙ cond-true (eqb (get_or text at 0) 48) _ _ (eq-eqb (get_or text at 0) 48 e))

  pub number_digits : at < length text → is_digit (get_or text at 0) ≡ true → (get_or text at 0 ≡ 48 → ⊥) → more (get_or text at 0 - 48) (drop (at + 1) text) ≡ read_number (drop at text)
  number_digits h is ne = sym (number-digit h is ∙ cond-false (eqb (get_or text at 0) 48) _ _ (ne_eqb (get_or text at 0) 48 ne))

  -- ---- a byte, and what stands behind it

  pub begins-within : (byte : ℕ) {r : Bool} → r ≡ begins byte (drop at text) → r ≡ true → at < length text
  begins-within byte e t = ⊎_elim (λ (h : at < length text). h) (λ h. true-not-false t (e ∙ sym (begins-nothing text at byte h))) (lt-or-le at (length text))

  rest-behind : drop 1 (drop at text) ≡ drop (at + 1) text
  rest-behind = drop-drop 1 at text

  pub field-there : {r : Bool} → r ≡ begins 32 (drop at text) → r ≡ true → read_number (drop (at + 1) text) ≡ read_field (drop at text)
  unfolding read_field
  field-there e t = sym (cond-true (begins 32 (drop at text)) _ _ (sym e ∙ t) ∙ ap read_number rest-behind)

  pub field-not-there : {r : Bool} → r ≡ begins 32 (drop at text) → r ≡ false → None ≡ read_field (drop at text)
  unfolding read_field
  field-not-there e f = sym (cond-false (begins 32 (drop at text)) _ _ (sym e ∙ f))

-- ---- a step

module _ (text : List ℕ) (at : ℕ) where
  pub step-nothing : length text ≤ at → None ≡ read_step (drop at text)
  unfolding read_step
  step-nothing h = sym (ap read_step (nothing-there text at h))

  module _ (h : at < length text) {kind : ℕ} (is : kind ≡ kind_of (get_or text at 0)) where
    pub step-unknown : kind ≡ 0 → None ≡ read_step (drop at text)
    unfolding read_step
    step-unknown e = sym (ap read_step (byte-there text at h) ∙ cond-true (eqb (kind_of (get_or text at 0)) 0) _ _ (eq-eqb (kind_of (get_or text at 0)) 0 (sym is ∙ e)))

    pub step-known : (kind ≡ 0 → ⊥) → read_arguments kind (drop (at + 1) text) ≡ read_step (drop at text)
    unfolding read_step
    step-known ne =
        ap (λ k. read_arguments k (drop (at + 1) text)) is
        ∙ sym (ap read_step (byte-there text at h) ∙ cond-false (eqb (kind_of (get_or text at 0)) 0) _ _ (ne_eqb (kind_of (get_or text at 0)) 0 (λ e. ne (is ∙ e))))
