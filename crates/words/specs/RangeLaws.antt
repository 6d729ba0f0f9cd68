-- A chain over a range that asks whether all its numbers pass. Assumes nothing.
use Rattle.std.specs.Prelude.{ℕ, zero, suc, ◌+◌, Bool, ◌&&◌, ◌≡◌, refl}
use Rattle.std.proofs.Common.{sym, ◌∙◌, ap, ap₂, arith}
use Rattle.std.specs.declared.ops.Range.{Range}
use Rattle.std.specs.Fn.{Called}
use Rattle.std.specs.Iterator.{ChecksAll}
use Rattle.std.specs.List.{list_all, range_with_len}
use Rattle.std.proofs.iter.Yields.{nat_range_steps}
use Rattle.std.proofs.lemmas.Iterator.{YieldsList-from_range}
use Rattle.std.proofs.lemmas.Iterator.Search.{all_from_yields_List}
use denote.Param.Members.{Mut}
use Rattle.words.specs.Tests.{all}
use Rattle.words.specs.TestLaws.{and_true, and_three}

-- The last number of a range by itself.
range-last : (passes : ℕ → Bool) (a n : ℕ) → list_all passes (range_with_len a (suc n)) ≡ (list_all passes (range_with_len a n) && passes (a + n))
range-last passes a zero = and_true (passes a) ∙ ap passes (omega arith)
range-last passes a (suc n) =
    let others = list_all passes (range_with_len (a + 1) n) in
    ap (λ t. passes a && t) (range-last passes (a + 1) n)
    ∙ (sym (and_three (passes a) others (passes (a + 1 + n))) ∙ ap (λ k. (passes a && others) && passes k) (omega arith))

range-all : (passes : ℕ → Bool) (n : ℕ) → list_all passes (range_with_len 0 n) ≡ all n passes
unfolding all
range-all passes zero = refl
range-all passes (suc n) = range-last passes 0 n ∙ ap₂ (λ t k. t && passes k) (range-all passes n) (omega arith)

-- Of a closure that answers of each number whether it passes.
pub all_of_range : {F : Type 0} {g : Mut F (ℕ × Unit {0}) Bool} {s : Range ℕ} (n : ℕ) (passes : ℕ → Bool) (u : Range ℕ) (f : F) (r : Bool)
    → ChecksAll nat_range_steps g s f r u → s ≡ record { start = 0; end = n }
    → ((x : ℕ) (b : Bool) (q : F) → Called g f (x, tt) b q → (q ≡ f) × (b ≡ passes x)) → r ≡ all n passes
all_of_range n passes u f r ran from answers =
    all_from_yields_List passes u f r ran (YieldsList-from_range 0 n n from (omega arith)) answers ∙ range-all passes n
