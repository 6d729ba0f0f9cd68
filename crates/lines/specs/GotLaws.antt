-- Two readings, one behind the other, that both found something. What is known of them stands in proofs/GotLaws.antt. Assumes nothing.
use Rattle.std.specs.Prelude.{ℕ, List, ◌≡◌, Option, Some}
use Rattle.lines.specs.Read.{Got}

-- Two readings one after the other found something if both did.
pub record Chained {A B : Type 0} (first : Option (Got A)) (next : A → List ℕ → Option (Got B)) (g : Got B) : Type 0 where
  pub found : Got A
  pub first_is : first ≡ Some found
  pub next_is : next found.value found.rest ≡ Some g
