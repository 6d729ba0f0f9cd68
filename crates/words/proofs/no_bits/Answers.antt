-- `words::no_bits` meets its contract: the bits of all words together are none where each word is 0.
use Rattle.std.proofs.Common.{rules, ℕ, List, [], ◌∷◌, ◌++◌, ◌≡◌, refl, sym, ap, ap₂, ◌∙◌, ◌&&◌, eqb, bit_or, arith, eqb-true, eq-eqb}
use Rattle.std.specs.Int.Bits.{or_self}
use Rattle.std.proofs.lemmas.Nat.{le_or_l, le_or_r}
use Rattle.std.proofs.lemmas.Fn.{fold_over, fronts}
use Rattle.std.proofs.lemmas.Iterator.{YieldsList-from_slice}
use Rattle.words.specs.Tests.{zeros}
use Rattle.words.specs.TestLaws.{same_test, and_left, and_right, and_both, and_true, and_three}
use Rattle.words.proofs.no_bits.Goals as goal

-- Two words have no bits together where neither has.
or-none : (a b : ℕ) → eqb (bit_or a b) 0 ≡ (eqb a 0 && eqb b 0)
or-none a b =
    same_test _ _
    (λ h. and_both (eqb a 0) (eqb b 0) (eq-eqb a 0 (omega (arith, eqb-true (bit_or a b) 0 h, le_or_l a b)))
    (eq-eqb b 0 (omega (arith, eqb-true (bit_or a b) 0 h, le_or_r a b))))
    (λ h. eq-eqb (bit_or a b) 0 (ap₂ bit_or (eqb-true a 0 (and_left (eqb a 0) (eqb b 0) h))
    (eqb-true b 0 (and_right (eqb a 0) (eqb b 0) h)) ∙ or_self 0))

-- One word more.
zeros-push : (ws : List ℕ) (w : ℕ) → zeros (ws ++ (w ∷ [])) ≡ (zeros ws && eqb w 0)
unfolding zeros
zeros-push [] w = and_true (eqb w 0)
zeros-push (v ∷ ws) w = ap (λ t. eqb v 0 && t) (zeros-push ws w) ∙ sym (and_three (eqb v 0) (zeros ws) (eqb w 0))

-- Bits that are none where all words so far are zero stay so with those of one word more.
bits-push : (ws : List ℕ) (bits w more : ℕ) → eqb bits 0 ≡ zeros ws → more ≡ bit_or bits w → eqb more 0 ≡ zeros (ws ++ (w ∷ []))
bits-push ws bits w more e is = ap (λ b. eqb b 0) is ∙ (or-none bits w ∙ (ap (λ t. t && eqb w 0) e ∙ sym (zeros-push ws w)))

pub returns : goal.returns
unfolding zeros
returns c =
    fold_over fronts (λ y. y.now) _ (λ ws bits. eqb bits 0 ≡ zeros ws) _
    (λ ws bits w more q e k. (bits-push ws bits w.now more e (search rules), search rules))
    c.iter.result c.args.a.now 0 c.fold.result (YieldsList-from_slice {s = c.iter.result} c.args.a.now cc).runs refl c.fold.ensures.ran
