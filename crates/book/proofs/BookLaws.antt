-- What holds of sets of writes kept as lists in any order: what a read depends on, membership, inclusion, what is missing, and the latest
-- clock; and of the write order, where one write is not before another. Assumes nothing.
use Rattle.std.specs.Prelude.{ℕ, ◌≤◌, true, not, List, [], ◌∷◌, ◌⊎◌, ◌↔◌, ◌≡◌, refl}
use Rattle.std.proofs.Common.{inl, inr, ⊎_elim, sym, ◌∙◌, ap}
use native.Mathlib.Omega.{arith, max_cases}
use Rattle.words.specs.Lists.{In, here, there}
use Rattle.words.specs.ListLaws.{in-nil, in-keep, keep-passes, keep-in}
use Rattle.words.specs.CaseLaws.{each}
use Rattle.words.specs.TestLaws.{true-not-false, not-true-false, and_left, and_right, and_both, or_cases, or_left, or_right}
use Rattle.logs.specs.Write.{Write, same}
use Rattle.logs.proofs.WriteLaws.{same_true, eq-same}
use Rattle.logs.specs.Witness.{Timed}
use Rattle.book.specs.Book.{relevant, member, includes, latest_clock, missing}

-- ---- what a read depends on

-- The buyer's third demand: "a read is taken to depend on all that its server held", and on nothing else.
pub relevant-exactly : (item : ℕ) (holds : List Write) (w : Write) → In w (relevant item holds) ↔ In w holds
unfolding relevant
relevant-exactly item holds w = (λ m. m, λ m. m)

-- ---- membership and inclusion

-- The test of membership passes exactly for the members.
pub member-in : (w : Write) (ws : List Write) → member w ws ≡ true → In w ws
unfolding member
member-in w [] e = true-not-false e refl
member-in w (x ∷ xs) e =
    ⊎_elim (λ p. here (same_true w x p)) (λ p. there (member-in w xs p)) (or_cases (same w x) (member w xs) e)

pub in-member : (w : Write) {ws : List Write} → In w ws → member w ws ≡ true
unfolding member
in-member w (here {x = x} {xs = xs} e) = or_left (same w x) (member w xs) (eq-same w x e)
in-member w (there {x = x} {xs = xs} h) = or_right (same w x) (member w xs) (in-member w h)

-- The test of inclusion passes exactly if every member of the set stands in the list.
pub includes-at : (list set : List Write) → includes list set ≡ true → (w : Write) → In w set → In w list
unfolding includes
includes-at list [] e = λ w h. in-nil h
includes-at list (x ∷ xs) e =
    each (λ (y : Write). In y list) (member-in x list (and_left (member x list) (includes list xs) e))
    (includes-at list xs (and_right (member x list) (includes list xs) e))

pub includes-make : (list set : List Write) → ((w : Write) → In w set → In w list) → includes list set ≡ true
unfolding includes
includes-make list [] h = refl
includes-make list (x ∷ xs) h =
    and_both (member x list) (includes list xs) (in-member x (h x (here refl))) (includes-make list xs (λ w m. h w (there m)))

-- ---- what is missing

-- What is missing stands in the one list and not in the other, and all of that is missing.
pub in-missing : {w : Write} (list other : List Write) → In w (missing list other) → In w list
unfolding missing
in-missing list other h = in-keep (λ x. not (member x other)) list h

pub missing-not : {w : Write} (list other : List Write) → In w (missing list other) → In w other → ⊥
unfolding missing
missing-not {w} list other h k = true-not-false (keep-passes (λ x. not (member x other)) list h) (ap not (in-member w k))

pub missing-in : {w : Write} {list : List Write} (other : List Write) → In w list → (In w other → ⊥) → In w (missing list other)
unfolding missing
missing-in {w} other h k = keep-in (λ x. not (member x other)) h (ap not (not-true-false (member w other) (λ e. k (member-in w other e))))

-- ---- not before

-- ---- the latest clock

-- No member has a later clock, and a member has this one, unless it is 0.
pub latest_clock-above : {w : Write} {ws : List Write} → In w ws → w.clock ≤ latest_clock ws
unfolding latest_clock
latest_clock-above (here e) = omega (arith, ap (λ y. y.clock) e)
latest_clock-above (there h) = omega (arith, latest_clock-above h)

pub latest_clock-attained : (ws : List Write) → (latest_clock ws ≡ 0) ⊎ Timed ws (latest_clock ws)
unfolding latest_clock
latest_clock-attained [] = inl refl
latest_clock-attained (w ∷ ws) =
    max_cases w.clock (latest_clock ws) _
    (λ l e. ⊎_elim (λ z. inl (e ∙ z)) (λ t. inr (record { write = t.write; stored = there t.stored; timed = t.timed ∙ sym e })) (latest_clock-attained ws))
    (λ l e. inr (record { write = w; stored = here refl; timed = sym e }))
