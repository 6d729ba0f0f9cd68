-- What holds of the elements of a list that pass a test, by parts of the list. Assumes nothing.
use Rattle.std.specs.Prelude.{Bool, List, [], ◌∷◌, ◌++◌, ◌≡◌, refl}
use Rattle.std.proofs.Common.{ap}
use Rattle.words.specs.Lists.{keep}
use Rattle.words.specs.TestLaws.{cond_both}

-- Of two lists put together: those of the first, then those of the second.
pub keep_append : {A : Type 0} (passes : A → Bool) (xs ys : List A) → keep passes (xs ++ ys) ≡ keep passes xs ++ keep passes ys
unfolding keep
keep_append passes [] ys = refl
keep_append {A} passes (x ∷ xs) ys =
    let more = keep_append passes xs ys in
    cond_both (λ (l r : List A). l ≡ r ++ keep passes ys) (passes x) (ap {B = List A} (λ r. x ∷ r) more) more
