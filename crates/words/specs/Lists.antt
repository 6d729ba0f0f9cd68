-- Lists of anything: membership, what passes a test, and functions from numbers as lists and back.
-- Assumes nothing.
use Rattle.std.specs.Prelude.{ℕ, zero, suc, Bool, cond, List, [], ◌∷◌, ◌++◌, ◌≡◌, ltb, eqb, take, drop}
use Rattle.std.proofs.Math.Option.{Option, none, some}

-- a stands in the list.
pub data In {A : Type 0} (a : A) : List A → Type 0 where
  here : {x : A} {xs : List A} → a ≡ x → In a (x ∷ xs)
  there : {x : A} {xs : List A} → In a xs → In a (x ∷ xs)

-- What stands in one list stands in the other.
pub record SameMembers {A : Type 0} (g h : List A) : Type 0 where
  pub over : (a : A) → In a g → In a h
  pub back : (a : A) → In a h → In a g

-- The elements that pass the test, in their order.
unfoldable pub keep : {A : Type 0} → (A → Bool) → List A → List A
keep passes [] = []
keep passes (x ∷ xs) = cond (passes x) (x ∷ keep passes xs) (keep passes xs)

-- The first element that passes the test.
unfoldable pub first : {A : Type 0} → (A → Bool) → List A → Option A
first passes [] = none
first passes (x ∷ xs) = cond (passes x) (some x) (first passes xs)

-- The first of two that is there.
unfoldable pub or_else : {A : Type 0} → Option A → Option A → Option A
or_else none o = o
or_else (some a) o = some a

-- n blocks, one behind the other: f 0, f 1, .., f (n - 1).
unfoldable pub blocks : {A : Type 0} → ℕ → (ℕ → List A) → List A
blocks zero f = []
blocks (suc n) f = blocks n f ++ f n

-- A function's first n values, in order.
unfoldable pub row : {A : Type 0} → ℕ → (ℕ → A) → List A
row zero f = []
row (suc n) f = row n f ++ (f n ∷ [])

-- The k elements from place a on.
unfoldable pub part : {A : Type 0} → List A → ℕ → ℕ → List A
part xs a k = take k (drop a xs)

-- The list with the k elements from place a on replaced.
unfoldable pub splice : {A : Type 0} → ℕ → ℕ → List A → List A → List A
splice a k xs ys = take a xs ++ (ys ++ drop k (drop a xs))

-- The function with the value at one number replaced.
unfoldable pub upd : {A : Type 0} → (ℕ → A) → ℕ → A → ℕ → A
upd f i a k = cond (eqb k i) a (f k)

-- The function below n, and one value from n on.
unfoldable pub below : {A : Type 0} → ℕ → (ℕ → A) → A → ℕ → A
below n f past k = cond (ltb k n) (f k) past
