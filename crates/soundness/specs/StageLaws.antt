-- Soundness in stages: the header and the length, and then the other rules. Assumes nothing.
use Rattle.std.specs.Prelude.{ℕ, ◌<◌, Bool, true, false, List, ◌≡◌, eqb, length, get_or}
use Rattle.std.proofs.Math.Path.{sym, ap}
use Rattle.std.proofs.Common.{◌∙◌, arith, eqb-true, eq-eqb}
use Rattle.words.specs.TestLaws.{and_left, and_right, and_both, not-true-false, true-not-false}
use Rattle.words.specs.CheckLaws.{and-goes}
use Rattle.tables.specs.Layout.{size, size_of}
use Rattle.tables.specs.Shape.{Laid}
use Rattle.tables.specs.Size.{Size, within}
use Rattle.tables.proofs.SizeLaws.{within-exactly}
use Rattle.tables.specs.Sound.{rule_a, sound_at, sound}
use Rattle.soundness.specs.Shares.{laid_out, rules_from_b, rules_from_c}

-- A slice that is laid out has the limits and the length.
pub laid_out-laid : {z : Size} {t : List ℕ} → laid_out z t ≡ true → Laid z t
unfolding laid_out
laid_out-laid {z} {t} h =
    record { limits = (within-exactly z).0 (and_left (within z) _ h); words = eqb-true (length t) (size z) (and_right (within z) _ h) }

module _ (t : List ℕ) where
  sound-rule_a : sound t ≡ true → rule_a (size_of t) t ≡ true
  unfolding sound sound_at
  sound-rule_a h = and_left (rule_a (size_of t) t) _ h

  -- A sound table's header ends with 0,
  sound-fourth : sound t ≡ true → get_or t 3 0 ≡ 0
  unfolding rule_a
  sound-fourth h = eqb-true (get_or t 3 0) 0 (and_left (eqb (get_or t 3 0) 0) _ (and_right (within (size_of t)) _ (sound-rule_a h)))

  -- and it is laid out,
  sound-laid_out : sound t ≡ true → laid_out (size_of t) t ≡ true
  unfolding rule_a laid_out
  sound-laid_out h =
      and_both (within (size_of t)) _ (and_left (within (size_of t)) _ (sound-rule_a h)) (and_right (eqb (get_or t 3 0) 0) _ (and_right (within (size_of t)) _ (sound-rule_a h)))

  -- So one with fewer than four words is not sound,
  pub sound-short : length t < 4 → false ≡ sound t
  unfolding size
  sound-short l = sym (not-true-false (sound t) (λ h. omega (arith, (laid_out-laid (sound-laid_out h)).words)))

  -- nor one with another fourth word,
  pub sound-header : (get_or t 3 0 ≡ 0 → ⊥) → false ≡ sound t
  sound-header o = sym (not-true-false (sound t) (λ h. o (sound-fourth h)))

  module _ {z : Size} (sizes : z ≡ size_of t) where
    -- nor one that is not laid out.
    pub sound-outside : laid_out z t ≡ false → false ≡ sound t
    sound-outside f =
        sym (not-true-false (sound t) (λ h. true-not-false (sound-laid_out h) (ap (λ z. laid_out z t) (sym sizes) ∙ f)))

    -- With header and length as they should be, the other rules say whether it is sound.
    pub sound-later : get_or t 3 0 ≡ 0 → laid_out z t ≡ true → {r : Bool} → r ≡ rules_from_b z t → r ≡ sound t
    unfolding sound sound_at rule_a laid_out rules_from_b rules_from_c
    sound-later o f x =
        let h = ap (λ z. laid_out z t) (sym sizes) ∙ f in
        let fourth = and_both (eqb (get_or t 3 0) 0) _ (eq-eqb (get_or t 3 0) 0 o) (and_right (within (size_of t)) _ h) in
        and-goes (rule_a (size_of t) t) _ (and_both (within (size_of t)) _ (and_left (within (size_of t)) _ h) fourth) (x ∙ ap (λ z. rules_from_b z t) sizes)
