-- What is known of readings that found something. Assumes nothing.
use Rattle.std.specs.Prelude.{ℕ, true, List, [], ◌∷◌, ◌≡◌, refl, drop, Option, None, Some}
use Rattle.std.proofs.lemmas.Option.{same_Some}
use Rattle.std.proofs.lemmas.Option as option
use Rattle.std.proofs.Common.{ap, subst, eqb-true}
use Rattle.words.specs.TestLaws.{true-not-false}
use Rattle.lines.specs.Read.{Got, chain, begins}
use Rattle.lines.specs.GotLaws.{Chained}

-- A fact of what was found is one of what is said to be found; nothing is not something.
pub some_is : {A : Type 0} (P : A → Type 0) {r g : A} → P r → Some r ≡ Some g → P g
some_is P {r} {g} p h = subst P (same_Some r g h) p

pub none-some : {A B : Type 0} {a : A} → None ≡ Some a → B
none-some {a = a} h = absurd (option.none-some a h)

pub chained : {A B : Type 0} (first : Option (Got A)) (next : A → List ℕ → Option (Got B)) (g : Got B) → chain first next ≡ Some g → Chained first next g
unfolding chain
chained None next g h = none-some h
chained (Some f) next g h = record { found = f; first_is = refl; next_is = h }

-- A text that begins with a byte is that byte and the others.
pub begins-is : (byte : ℕ) (bs : List ℕ) → begins byte bs ≡ true → bs ≡ byte ∷ drop 1 bs
unfolding begins
begins-is byte [] h = true-not-false h refl
begins-is byte (b ∷ bs) h = ap (λ c. c ∷ bs) (eqb-true b byte h)
