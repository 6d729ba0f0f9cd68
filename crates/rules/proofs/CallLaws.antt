-- What holds of a step on words and of steps one after another, for any table. Assumes nothing.
use Rattle.std.specs.Prelude.{ℕ, ◌≤◌, true, false, List, [], ◌∷◌, ◌++◌, ◌⊎◌, ◌≡◌, refl, length, replicate}
use Rattle.std.proofs.Common.{⊎_elim, sym, ◌∙◌, subst, subst₂, arith}
use Rattle.std.proofs.Math.Path.{ap, ap₂}
use Rattle.words.specs.Lists.{In}
use Rattle.words.specs.ListLaws.{in-nil, in-cons}
use Rattle.words.specs.TestLaws.{cond-true, cond-false, either}
use Rattle.logs.specs.Log.{last_on}
use Rattle.tables.proofs.SizeLaws.{within-exactly}
use Rattle.tables.specs.Size.{Size, within}
use Rattle.tables.specs.State.{State}
use Rattle.tables.specs.Layout.{size_of, encode, decode}
use Rattle.tables.specs.Make.{fresh}
use Rattle.tables.specs.Sound.{sound}
use Rattle.tables.specs.Meaning.{Means}
use Rattle.tables.proofs.MeaningLaws.{sound-means, means-sound, means-size, means-state, fresh-sound}
use Rattle.rules.specs.Step.{Step, Op, asked, Answer, refused, done, bad}
use Rattle.rules.proofs.StepLaws.{asked-in_range}
use Rattle.rules.specs.Rules.{write_answer, exchange_answer, rule}
use Rattle.rules.proofs.CodeLaws.{read-code}
use Rattle.rules.specs.Effects.{Effect, was_refused, was_opened, was_closed, was_read, was_written, was_exchanged}
use Rattle.rules.proofs.Effects.{effect}
use Rattle.rules.proofs.SoundKept.{effect-sound}
use Rattle.rules.specs.Calls.{written, step, onward, walk}
use Rattle.rules.specs.CallLaws.{Ended, Refusal, accepted, rejected}

-- Within the limits there is a server.
pub within-server : (z : Size) → within z ≡ true → 1 ≤ z.n
within-server z h = ((within-exactly z).0 h).some_server

-- ---- one step

-- An unsound table is refused with 1 and left as it is.
pub step-unsound : (t : List ℕ) (x : Step) → sound t ≡ false → step t x ≡ record { answer = refused 1; table = t }
unfolding step
step-unsound t x h = cond-false (sound t) _ _ h

module _ {z : Size} {s : State} {t : List ℕ} (means : Means z s t) (x : Step) where
  -- A step on a table that means a state is the rules' step on that state.
  pub step-means : step t x ≡ written z (rule z s x)
  unfolding step
  step-means =
      cond-true (sound t) _ _ (means-sound means) ∙ ap₂ (λ y u. written y (rule y u x)) (means-size means) (means-state means)

  -- It has one of the six effects.
  pub step-effect : Effect z s (asked z x) (rule z s x).answer (rule z s x).state
  unfolding rule
  step-effect = effect z s (within-server z means.limits) means.state (asked z x)

  -- The answer is the rules' answer.
  pub step-answer : (step t x).answer ≡ (rule z s x).answer
  unfolding written
  step-answer = ap (λ o. o.answer) step-means

  -- The table then means the state that the rules give.
  pub means-next : Means z (rule z s x).state (step t x).table
  unfolding written
  means-next =
      record {
        limits = means.limits;
        state = effect-sound means.state (asked-in_range z x) step-effect;
        words = ap (λ o. o.table) step-means;
      }

-- What is out of range is refused.
pub bad-refused : {A : Type 0} {z : Size} {s : State} {r : Answer} {after : State} → Effect z s bad r after → r.code ≡ 0 → A
unfolding refused
bad-refused (was_refused code h) e = absurd (omega arith)

-- An accepted step has the effect of what its kind asks for.
pub accepted-effect : {z : Size} {s : State} {t : List ℕ} (means : Means z s t) (x : Step) → (step t x).answer.code ≡ 0
    → (o : Op) → (asked z x ≡ o) ⊎ (asked z x ≡ bad) → Effect z s o (step t x).answer (rule z s x).state
accepted-effect {z} {s} {t} means x e o asks =
    let effect : (p : Op) → asked z x ≡ p → Effect z s p (step t x).answer (rule z s x).state =
    λ p q. subst₂ (λ (u : Op) (r : Answer). Effect z s u r (rule z s x).state) q (sym (step-answer means x)) (step-effect means x) in
    ⊎_elim (λ q. effect o q) (λ q. bad-refused (effect bad q) e) asks

-- Each step keeps a sound table sound.
pub step-sound : (t : List ℕ) (x : Step) → sound t ≡ true → sound (step t x).table ≡ true
step-sound t x h = means-sound (means-next (sound-means t h) x)

-- ---- refusals

-- Every effect ends in one of the two.
pub effect-ended : {z : Size} {s : State} {o : Op} {r : Answer} {after : State} → Effect z s o r after → Ended r s after
unfolding done write_answer exchange_answer
effect-ended (was_refused code h) = rejected code h refl refl
effect-ended (was_opened e) = accepted refl
effect-ended (was_closed q e) = accepted refl
effect-ended {s = s} (was_read {item = item} q i e c) = accepted (read-code i (last_on item (s.log i)))
effect-ended (was_written q i e c) = accepted refl
effect-ended (was_exchanged e) = accepted refl

step-ended : (t : List ℕ) (x : Step) → sound t ≡ true → Ended (step t x).answer (decode (size_of t) t) (rule (size_of t) (decode (size_of t) t) x).state
step-ended t x h =
    let means : Means (size_of t) (decode (size_of t) t) t = sound-means t h in
    subst (λ (r : Answer). Ended r (decode (size_of t) t) (rule (size_of t) (decode (size_of t) t) x).state) (sym (step-answer means x))
    (effect-ended (step-effect means x))

refused-words : (t : List ℕ) (x : Step) (code : ℕ) → (step t x).answer ≡ refused code → (step t x).table ≡ t → Refusal t x
unfolding refused
refused-words t x code e same =
    record {
      no_server = ap (λ r. r.server) e;
      no_origin = ap (λ r. r.origin) e;
      no_clock = ap (λ r. r.clock) e;
      no_value = ap (λ r. r.value) e;
      same_words = same;
    }

-- Whatever the code and whatever the table.
pub step-refused : (t : List ℕ) (x : Step) → ((step t x).answer.code ≡ 0 → ⊥) → Refusal t x
step-refused t x not_done = ⊎_elim (λ h. go h (step-ended t x h)) (λ h. unsound (step-unsound t x h)) (either (sound t))
  where
    unsound : step t x ≡ record { answer = refused 1; table = t } → Refusal t x
    unsound e = refused-words t x 1 (ap (λ o. o.answer) e) (ap (λ o. o.table) e)

    go : sound t ≡ true → Ended (step t x).answer (decode (size_of t) t) (rule (size_of t) (decode (size_of t) t) x).state → Refusal t x
    go h (accepted e) = absurd (not_done e)
    go h (rejected code l e same) =
        refused-words t x code e ((means-next (sound-means t h) x).words ∙ (ap (encode (size_of t)) same ∙ sym (sound-means t h).words))

-- ---- steps one after another

-- "It equals its steps one after another": a run of one step is that step, and a run of two lists is the second over what the first left.
pub walk-one : (t : List ℕ) (x : Step) → walk t (x ∷ []) ≡ record { answers = (step t x).answer ∷ []; table = (step t x).table }
unfolding walk onward
walk-one t x = refl

pub walk-append : (t : List ℕ) (xs ys : List Step)
    → walk t (xs ++ ys)
    ≡ record { answers = (walk t xs).answers ++ (walk (walk t xs).table ys).answers; table = (walk (walk t xs).table ys).table }
unfolding walk onward
walk-append t [] ys = refl
walk-append t (x ∷ xs) ys = ap (onward (step t x).answer) (walk-append (step t x).table xs ys)

-- A schedule keeps a sound table sound.
pub walk-sound : (t : List ℕ) (xs : List Step) → sound t ≡ true → sound (walk t xs).table ≡ true
unfolding walk onward
walk-sound t [] h = h
walk-sound t (x ∷ xs) h = walk-sound (step t x).table xs (step-sound t x h)

-- Over a sound table no step answers 1.
pub step-not-1 : (t : List ℕ) (x : Step) → sound t ≡ true → (step t x).answer.code ≡ 1 → ⊥
unfolding refused
step-not-1 t x h e = go (step-ended t x h)
  where
    go : Ended (step t x).answer (decode (size_of t) t) (rule (size_of t) (decode (size_of t) t) x).state → ⊥
    go (accepted d) = omega arith
    go (rejected code l d same) = omega (arith, ap (λ r. r.code) d)

-- And so no step of a schedule over a sound table does.
pub walk-not-1 : (t : List ℕ) (xs : List Step) → sound t ≡ true → (r : Answer) → In r (walk t xs).answers → r.code ≡ 1 → ⊥
unfolding walk onward
walk-not-1 t [] h r m e = in-nil m
walk-not-1 t (x ∷ xs) h r m e =
    ⊎_elim (λ q. step-not-1 t x h (ap (λ a. a.code) (sym q) ∙ e)) (λ m'. walk-not-1 (step t x).table xs (step-sound t x h) r m' e)
    (in-cons m)

-- No step of a schedule from a fresh table answers 1, and the table stays sound.
pub schedule-sound : (z : Size) → within z ≡ true → (xs : List Step) → sound (walk (fresh z) xs).table ≡ true
schedule-sound z limits xs = walk-sound (fresh z) xs (fresh-sound z limits)

-- The answers too.
pub schedule-not-1 : (z : Size) → within z ≡ true → (xs : List Step) (r : Answer) → In r (walk (fresh z) xs).answers → r.code ≡ 1 → ⊥
schedule-not-1 z limits xs = walk-not-1 (fresh z) xs (fresh-sound z limits)

-- Over an unsound table every step answers 1, and the table stays.
pub walk-unsound : (t : List ℕ) (xs : List Step) → sound t ≡ false → walk t xs ≡ record { answers = replicate (length xs) (refused 1); table = t }
unfolding walk onward
walk-unsound t [] h = refl
walk-unsound t (x ∷ xs) h =
    let e : step t x ≡ record { answer = refused 1; table = t } = step-unsound t x h in
    ap (λ o. onward o.answer (walk o.table xs)) e ∙ ap (onward (refused 1)) (walk-unsound t xs h)
