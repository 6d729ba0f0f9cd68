-- What holds of places, or of entries, as the writes that they say: one more of them, each of them, and the last. Assumes nothing.
use Rattle.std.specs.Prelude.{ℕ, zero, suc, ◌+◌, ◌-◌, ◌<◌, ◌≤◌, ◌≡◌, refl, length, get_or, set, take, drop, map, List, [], ◌∷◌, ◌++◌}
use Rattle.std.proofs.Common.{◌∙◌, sym, ap, subst, arith, add-one, drop-cons, drop_of_length-le, take_all}
use Rattle.std.proofs.lemmas.List.{map-append, length-map, take_more, take_more_set, nil_from_length}
use Rattle.std.proofs.Math.Seq.{length-take-le}
use Rattle.words.specs.Lists.{In, here, there}
use Rattle.logs.specs.Write.{Write}

module _ {A : Type 0} (says : A → Write) where
  -- One more of them.
  pub said-next : (xs : List A) (e : ℕ) (d : A) → e < length xs → map says (take (e + 1) xs) ≡ map says (take e xs) ++ (says (get_or xs e d) ∷ [])
  said-next xs e d h = ap (map says) (take_more xs e d h) ∙ map-append says (take e xs) (get_or xs e d ∷ [])

  -- Each is one of all.
  pub said-in : (xs : List A) (e : ℕ) (d : A) → e < length xs → In (says (get_or xs e d)) (map says xs)
  said-in [] e d h = absurd (omega arith)
  said-in (x ∷ xs) zero d h = here refl
  said-in (x ∷ xs) (suc e) d h = there (said-in xs e d (omega arith))

  -- What holds of the origins of all holds of the origin in each.
  pub said-origin : {n : ℕ} (xs : List A) (e : ℕ) (d : A) (w : Write) → w ≡ says (get_or xs e d) → e < length xs
      → ((x : Write) → In x (map says xs) → x.origin < n)
      → w.origin < n
  said-origin {n} xs e d w is h below =
      subst (λ (x : Write). x.origin < n) (sym is) (below (says (get_or xs e d)) (said-in xs e d h))

  -- From one of them on: that one, and the others.
  pub said-from : (xs : List A) (e : ℕ) (d : A) → e < length xs → map says (drop e xs) ≡ says (get_or xs e d) ∷ map says (drop (e + 1) xs)
  said-from xs e d h = rw (add-one, drop-cons xs e d)

  -- From behind them on there is none.
  pub said-past : (xs : List A) (e : ℕ) → length xs ≤ e → map says (drop e xs) ≡ []
  said-past xs e h = ap (map says) (drop_of_length-le xs {i = e} h)

  -- The others, and the last.
  pub said-last : (xs : List A) (d : A) → 0 < length xs
      → map says xs ≡ map says (take (length xs - 1) xs) ++ (says (get_or xs (length xs - 1) d) ∷ [])
  said-last xs d h =
      ap (map says) (sym (take_all (length xs - 1 + 1) xs (omega arith))) ∙ said-next xs (length xs - 1) d (omega arith)

  -- None.
  pub said-none : (xs : List A) → length xs ≡ 0 → map says xs ≡ []
  said-none xs h = ap (map says) (nil_from_length xs h)

  -- As many as are taken.
  pub length-said : (k : ℕ) (xs : List A) → k ≤ length xs → length (map says (take k xs)) ≡ k
  length-said k xs h = length-map (take k xs) says ∙ length-take-le k xs h

  -- One more is put behind the first k.
  pub said-put : (k : ℕ) (xs : List A) (x : A) → k < length xs → map says (take (k + 1) (set xs k x)) ≡ map says (take k xs) ++ (says x ∷ [])
  said-put k xs x h = ap (map says) (take_more_set xs k x h) ∙ map-append says (take k xs) (x ∷ [])
