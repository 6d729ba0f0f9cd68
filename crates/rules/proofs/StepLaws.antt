-- What is known of a step that is in range. Assumes nothing.
use Rattle.std.specs.Prelude.{◌≤◌, ℕ, ◌<◌, ◌/◌, ◌^◌, Bool, cond, ◌⊎◌, ◌↔◌, ◌≡◌, refl, eqb}
use Rattle.std.proofs.Math.Bool.{true}
use Rattle.std.proofs.Math.Logic.{inl}
use Rattle.std.proofs.Common.{inr, ⊎_elim, ◌∙◌, subst, one-mul, div-lt_iff_lt-mul, arith, pow_pos}
use Rattle.std.proofs.Math.Path.{ap}
use Rattle.std.proofs.Math.Nat.{div-eq_of_lt}
use borrow.Author.Tests.{ltb-true, eqb-true, lt-ltb, eq-eqb}
use Rattle.words.specs.TestLaws.{cond-elim, and_left, and_right, cond-true, and_both}
use Rattle.tables.specs.Size.{Size, items, sums}
use Rattle.rules.specs.Step.{Step, Op, bad, opens, closes, reads, writes, exchanges, reach_in_range, open_in_range, close_in_range, read_in_range, write_in_range, exchange_in_range, if_in_range, of_kind, asked, Proper, proper_open, proper_close, proper_read, proper_write, proper_exchange}
use Rattle.rules.specs.StepLaws.{InRange}

never : {A : Type 0} → ◌≡◌ {A = ℕ} 0 1 → A
never e = absurd (omega arith)

module _ (z : Size) (x : Step) where
  -- A fact on what is asked, from each kind that is in range.
  by_kind : (P : Op → Type 0)
      → (x.kind ≡ 1 → open_in_range z x ≡ true → P (opens x.a x.b))
      → (x.kind ≡ 2 → close_in_range z x ≡ true → P (closes x.a))
      → (x.kind ≡ 3 → read_in_range z x ≡ true → P (reads x.a x.b x.c))
      → (x.kind ≡ 4 → write_in_range z x ≡ true → P (writes x.a x.b x.c x.d))
      → (x.kind ≡ 5 → exchange_in_range z x ≡ true → P (exchanges x.a x.b x.c))
      → P bad
      → P (asked z x)
  unfolding asked of_kind if_in_range
  by_kind P p₁ p₂ p₃ p₄ p₅ p =
      row 1 (open_in_range z x) (opens x.a x.b) _ p₁ (row 2 (close_in_range z x) (closes x.a) _ p₂ (row 3 (read_in_range z x)
      (reads x.a x.b x.c) _ p₃ (row 4 (write_in_range z x) (writes x.a x.b x.c x.d) _ p₄
      (row 5 (exchange_in_range z x) (exchanges x.a x.b x.c) bad p₅ p))))
    where
      row : (kind : ℕ) (guard : Bool) (o rest : Op) → (x.kind ≡ kind → guard ≡ true → P o) → P rest → P (cond (eqb x.kind kind) (if_in_range guard o) rest)
      row kind guard o rest here there =
          cond-elim P (eqb x.kind kind) (λ t. cond-elim P guard (λ g. here (eqb-true x.kind kind t) g) (λ g. p)) (λ t. there)

  -- What is asked lies in its ranges.
  pub asked-in_range : InRange z (asked z x)
  unfolding open_in_range close_in_range read_in_range write_in_range exchange_in_range
  asked-in_range =
      by_kind (InRange z)
      (λ k g. (ltb-true _ _ (search and_left), ltb-true _ _ (search (and_left, and_right))))
      (λ k g. ltb-true _ _ (search and_left))
      (λ k g. (ltb-true _ _ (search and_left), ltb-true _ _ (search (and_left, and_right)), search (and_left, and_right)))
      (λ k g. (ltb-true _ _ (search and_left), ltb-true _ _ (search (and_left, and_right)), search (and_left, and_right)))
      (λ k g. (ltb-true _ _ (search and_left), ltb-true _ _ (search (and_left, and_right))))
      tt

  -- ---- what is asked, by the kind word

  -- A step of each kind asks for that, or is bad.
  abbrev Or-bad : Op → Op → Type 0
  Or-bad p o = (o ≡ p) ⊎ (o ≡ bad)

  pub asked-open : x.kind ≡ 1 → (asked z x ≡ opens x.a x.b) ⊎ (asked z x ≡ bad)
  asked-open e =
      by_kind (Or-bad (opens x.a x.b)) (λ k g. inl refl) (λ k g. absurd (omega arith)) (λ k g. absurd (omega arith))
      (λ k g. absurd (omega arith)) (λ k g. absurd (omega arith)) (inr refl)

  pub asked-closing : x.kind ≡ 2 → (asked z x ≡ closes x.a) ⊎ (asked z x ≡ bad)
  asked-closing e =
      by_kind (Or-bad (closes x.a)) (λ k g. absurd (omega arith)) (λ k g. inl refl) (λ k g. absurd (omega arith))
      (λ k g. absurd (omega arith)) (λ k g. absurd (omega arith)) (inr refl)

  pub asked-read : x.kind ≡ 3 → (asked z x ≡ reads x.a x.b x.c) ⊎ (asked z x ≡ bad)
  asked-read e =
      by_kind (Or-bad (reads x.a x.b x.c)) (λ k g. absurd (omega arith)) (λ k g. absurd (omega arith)) (λ k g. inl refl)
      (λ k g. absurd (omega arith)) (λ k g. absurd (omega arith)) (inr refl)

  pub asked-write : x.kind ≡ 4 → (asked z x ≡ writes x.a x.b x.c x.d) ⊎ (asked z x ≡ bad)
  asked-write e =
      by_kind (Or-bad (writes x.a x.b x.c x.d)) (λ k g. absurd (omega arith)) (λ k g. absurd (omega arith))
      (λ k g. absurd (omega arith)) (λ k g. inl refl) (λ k g. absurd (omega arith)) (inr refl)

  pub asked-exchange : x.kind ≡ 5 → (asked z x ≡ exchanges x.a x.b x.c) ⊎ (asked z x ≡ bad)
  asked-exchange e =
      by_kind (Or-bad (exchanges x.a x.b x.c)) (λ k g. absurd (omega arith)) (λ k g. absurd (omega arith))
      (λ k g. absurd (omega arith)) (λ k g. absurd (omega arith)) (λ k g. inl refl) (inr refl)

  -- Only kind 1 opens a slot, and only the slot that it names.
  pub asked-opens : (k g : ℕ) → asked z x ≡ opens k g → (x.kind ≡ 1) × (x.a ≡ k)
  asked-opens k g =
      by_kind (λ o. o ≡ opens k g → (x.kind ≡ 1) × (x.a ≡ k)) (λ p h e. (p, cc)) (λ p h e. never cc) (λ p h e. never cc)
      (λ p h e. never cc) (λ p h e. never cc) (λ e. never cc)

  -- Only kind 2 closes a slot, and only the slot that it names.
  pub asked-close : (k : ℕ) → asked z x ≡ closes k → (x.kind ≡ 2) × (x.a ≡ k)
  asked-close k =
      by_kind (λ o. o ≡ closes k → (x.kind ≡ 2) × (x.a ≡ k)) (λ p g e. never cc) (λ p g e. (p, cc)) (λ p g e. never cc)
      (λ p g e. never cc) (λ p g e. never cc) (λ e. never cc)

-- ---- what makes a step proper

-- "bits at or above N are out of range": reach is below 2 to the power of N.
pub reach-below : (n reach : ℕ) → (reach_in_range n reach ≡ true) ↔ (reach < 2 ^ n)
unfolding reach_in_range
reach-below n reach = (
  λ h. subst (λ (m : ℕ). reach < m) (one-mul (2 ^ n)) ((div-lt_iff_lt-mul (pow_pos n)).0 (omega (arith, eqb-true (reach / 2 ^ n) 0 h))),
  λ l. eq-eqb (reach / 2 ^ n) 0 (div-eq_of_lt l),
)

module _ (z : Size) (x : Step) where
  -- A step is proper or asks for nothing.
  pub proper-or-bad : Proper z x ⊎ (asked z x ≡ bad)
  unfolding open_in_range close_in_range read_in_range write_in_range exchange_in_range
  proper-or-bad =
      by_kind z x (λ o. Proper z x ⊎ (o ≡ bad))
      (λ k g. inl (proper_open k (ltb-true _ _ (search and_left)) (omega (arith, ltb-true x.b sums (search (and_left, and_right)))) (eqb-true _ _ (search (and_left, and_right))) (eqb-true _ _ (search (and_left, and_right)))))
      (λ k g. inl (proper_close k (ltb-true _ _ (search and_left)) (eqb-true _ _ (search (and_left, and_right))) (eqb-true _ _ (search (and_left, and_right))) (eqb-true _ _ (search (and_left, and_right)))))
      (λ k g. inl (proper_read k (ltb-true _ _ (search and_left)) (omega (arith, ltb-true x.b items (search (and_left, and_right)))) ((reach-below z.n x.c).0 (search (and_left, and_right))) (eqb-true _ _ (search (and_left, and_right)))))
      (λ k g. inl (proper_write k (ltb-true _ _ (search and_left)) (omega (arith, ltb-true x.b items (search (and_left, and_right)))) ((reach-below z.n x.d).0 (search (and_left, and_right)))))
      (λ k g. inl (proper_exchange k (ltb-true _ _ (search and_left)) (ltb-true _ _ (search (and_left, and_right))) (eqb-true _ _ (search (and_left, and_right)))))
      (inr refl)

  -- A proper step is asked for as it stands, kind by kind.
  pub serves-open : x.kind ≡ 1 → x.a < z.p → x.b ≤ 15 → x.c ≡ 0 → x.d ≡ 0 → asked z x ≡ opens x.a x.b
  unfolding asked of_kind if_in_range open_in_range
  serves-open k a b c d =
      ap (of_kind z x) k
      ∙ cond-true (open_in_range z x) _ _
      (and_both _ _ (lt-ltb _ _ a) (and_both _ _ (lt-ltb x.b sums (omega arith)) (and_both _ _ (eq-eqb _ _ c) (eq-eqb _ _ d))))

  pub serves-close : x.kind ≡ 2 → x.a < z.p → x.b ≡ 0 → x.c ≡ 0 → x.d ≡ 0 → asked z x ≡ closes x.a
  unfolding asked of_kind if_in_range close_in_range
  serves-close k a b c d =
      ap (of_kind z x) k
      ∙ cond-true (close_in_range z x) _ _
      (and_both _ _ (lt-ltb _ _ a) (and_both _ _ (eq-eqb _ _ b) (and_both _ _ (eq-eqb _ _ c) (eq-eqb _ _ d))))

  pub serves-read : x.kind ≡ 3 → x.a < z.p → x.b ≤ 255 → x.c < 2 ^ z.n → x.d ≡ 0 → asked z x ≡ reads x.a x.b x.c
  unfolding asked of_kind if_in_range read_in_range
  serves-read k a b c d =
      ap (of_kind z x) k
      ∙ cond-true (read_in_range z x) _ _
      (and_both _ _ (lt-ltb _ _ a) (and_both _ _ (lt-ltb x.b items (omega arith)) (and_both _ _ ((reach-below z.n x.c).1 c) (eq-eqb _ _ d))))

  pub serves-write : x.kind ≡ 4 → x.a < z.p → x.b ≤ 255 → x.d < 2 ^ z.n → asked z x ≡ writes x.a x.b x.c x.d
  unfolding asked of_kind if_in_range write_in_range
  serves-write k a b d =
      ap (of_kind z x) k
      ∙ cond-true (write_in_range z x) _ _ (and_both _ _ (lt-ltb _ _ a) (and_both _ _ (lt-ltb x.b items (omega arith)) ((reach-below z.n x.d).1 d)))

  pub serves-exchange : x.kind ≡ 5 → x.a < z.n → x.b < z.n → x.d ≡ 0 → asked z x ≡ exchanges x.a x.b x.c
  unfolding asked of_kind if_in_range exchange_in_range
  serves-exchange k a b d =
      ap (of_kind z x) k
      ∙ cond-true (exchange_in_range z x) _ _ (and_both _ _ (lt-ltb _ _ a) (and_both _ _ (lt-ltb _ _ b) (eq-eqb _ _ d)))

  -- What is asked for is not bad.
  pub proper-asked : Proper z x → asked z x ≡ bad → ⊥
  proper-asked (proper_open k a b c d) e = never (cc (serves-open k a b c d))
  proper-asked (proper_close k a b c d) e = never (cc (serves-close k a b c d))
  proper-asked (proper_read k a b c d) e = never (cc (serves-read k a b c d))
  proper-asked (proper_write k a b d) e = never (cc (serves-write k a b d))
  proper-asked (proper_exchange k a b d) e = never (cc (serves-exchange k a b d))

  -- Code 2, of the words: a step is out of range exactly if it is not proper.
  pub bad-exactly : (asked z x ≡ bad) ↔ (Proper z x → ⊥)
  bad-exactly = (λ e p. proper-asked p e, λ h. ⊎_elim (λ p. absurd (h p)) (λ e. e) proper-or-bad)
