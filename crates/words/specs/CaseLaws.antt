-- Proofs by cases: on the order of two numbers, and on a list's first element and the others. Assumes nothing.
use Rattle.std.specs.Prelude.{ℕ, ◌<◌, ◌≤◌, List, ◌∷◌, ◌⊎◌, ltb}
use Rattle.std.proofs.Common.{inl, inr, ⊎_elim, sym, subst, ltb-true, ltb-false}
use Rattle.words.specs.Lists.{In, here, there}
use Rattle.words.specs.TestLaws.{either}

-- Of two numbers the first is below the second, or the second is at most the first.
pub lt-or-le : (a b : ℕ) → (a < b) ⊎ (b ≤ a)
lt-or-le a b = ⊎_elim (λ e. inl (ltb-true a b e)) (λ e. inr (ltb-false a b e)) (either (ltb a b))

-- A fact of the first and of all others is one of every member.
pub each : {A : Type 0} (P : A → Type 0) {x : A} {xs : List A} → P x → ((a : A) → In a xs → P a) → (a : A) → In a (x ∷ xs) → P a
each P p h a (here e) = subst P (sym e) p
each P p h a (there m) = h a m
