-- From one moment of a schedule to a later one: the states that the tables mean, what servers keep, what a session remembers, and which
-- write precedes which. Assumes nothing.
use Rattle.std.specs.Prelude.{ℕ, true, List, [], ◌∷◌, ◌++◌, ◌≡◌}
use Rattle.std.proofs.Common.{sym, ◌∙◌, subst}
use Rattle.std.proofs.Math.Path.{ap}
use Rattle.words.specs.Lists.{In}
use Rattle.logs.specs.Write.{Write}
use Rattle.tables.specs.Size.{Size}
use Rattle.tables.specs.State.{Session, opened, State}
use Rattle.tables.specs.Sound.{sound}
use Rattle.tables.specs.Meaning.{Means}
use Rattle.tables.proofs.MeaningLaws.{means-state}
use Rattle.rules.specs.Step.{Step, Answer}
use Rattle.rules.proofs.StepLaws.{asked-in_range, asked-close}
use Rattle.rules.specs.Rules.{rule}
use Rattle.rules.proofs.SoundKept.{effect-keeps}
use Rattle.rules.specs.Calls.{onward, walk}
use Rattle.rules.proofs.CallLaws.{step-effect, step-answer, means-next, walk-append, walk-sound}
use Rattle.book.specs.Terms.{database, Stores, after, Lasts}
use Rattle.book.specs.Session.{Still}
use Rattle.book.proofs.Session.{later_refl, later_trans, effect-still}
use Rattle.book.specs.Propagation.{Precedes}
use Rattle.book.proofs.Propagation.{effect-precedes}
use Rattle.book.specs.Moments.{state_after}

-- One schedule behind another.
pub after-append : (t : List ℕ) (xs ys : List Step) → after t (xs ++ ys) ≡ after (after t xs) ys
unfolding after
after-append t xs ys = ap (λ w. w.table) (walk-append t xs ys)

-- A schedule keeps a sound table sound.
pub after-sound : (t : List ℕ) (xs : List Step) → sound t ≡ true → sound (after t xs) ≡ true
unfolding after
after-sound = walk-sound

module _ {z : Size} {s : State} {t : List ℕ} (means : Means z s t) where
  -- What the words store is what the state holds.
  pub database-is : (i : ℕ) → database t i ≡ s.log i
  unfolding database
  database-is i = ap (λ u. u.log i) (means-state means)

  -- From the words to the state,
  pub stored : (i : ℕ) (w : Write) → Stores t i w → In w (s.log i)
  stored i w m = subst (λ (g : List Write). In w g) (database-is i) m

  -- and back.
  pub stores : (i : ℕ) (w : Write) → In w (s.log i) → Stores t i w
  stores i w m = subst (λ (g : List Write). In w g) (sym (database-is i)) m

-- A table after a schedule means the state after it.
pub means-after : {z : Size} {s : State} {t : List ℕ} → Means z s t → (xs : List Step) → Means z (state_after z s xs) (after t xs)
unfolding state_after after walk onward
means-after means [] = means
means-after {z} {s} means (x ∷ xs) = means-after {s = (rule z s x).state} (means-next means x) xs

-- No server ever loses a write.
pub kept-after : {z : Size} {s : State} {t : List ℕ} → Means z s t → (xs : List Step) (i : ℕ) (w : Write) → In w (s.log i)
    → In w ((state_after z s xs).log i)
unfolding state_after
kept-after means [] i w m = m
kept-after {z} {s} means (x ∷ xs) i w m =
    kept-after {s = (rule z s x).state} (means-next means x) xs i w (effect-keeps means.state (asked-in_range z x) (step-effect means x) i w m)

-- A session that lasts is open, and forgets nothing.
pub still_after : {z : Size} {s : State} {t : List ℕ} → Means z s t → (k : ℕ) (q : Session) → s.slot k ≡ opened q → (xs : List Step) → Lasts k t xs
    → Still (state_after z s xs) k q
unfolding state_after
still_after means k q e [] lasts = record { session = q; is = e; later = later_refl q }
still_after {z} {s} {t} means k q e (x ∷ xs) lasts =
    let next : Still (rule z s x).state k q =
    effect-still means.state k q e (step-effect means x) (λ o d.
    let c = asked-close z x k o in
    lasts.0 (record { kind = c.0; slot = c.1; accepted = ap (λ (r : Answer). r.code) (step-answer means x) ∙ d })) in
    let end : Still (state_after z (rule z s x).state xs) k next.session =
    still_after {s = (rule z s x).state} (means-next means x) k next.session next.is xs lasts.1 in
    record { session = end.session; is = end.is; later = later_trans next.later end.later }

-- What precedes a write precedes it ever after.
pub precedes-after : {z : Size} {s : State} {t : List ℕ} → Means z s t → (xs : List Step) (w₁ w₂ : Write) → Precedes s w₁ w₂
    → Precedes (state_after z s xs) w₁ w₂
unfolding state_after
precedes-after means [] w₁ w₂ p = p
precedes-after {z} {s} means (x ∷ xs) w₁ w₂ p =
    precedes-after {s = (rule z s x).state} (means-next means x) xs w₁ w₂ (effect-precedes means.state w₁ w₂ p (asked-in_range z x) (step-effect means x))
