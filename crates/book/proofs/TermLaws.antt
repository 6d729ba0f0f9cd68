-- The terms of Terms.antt leave out no step that they should hold of; and a session begins exactly with an accepted open of its slot, and ends
-- exactly with an accepted close of it. Assumes nothing.
use Rattle.std.specs.Prelude.{ℕ, Bool, true, List, [], ◌∷◌, ◌⊎◌, ◌↔◌, ◌≡◌, refl, eqb}
use Rattle.std.proofs.Common.{inl, inr, sym, ◌∙◌, ap, eqb-true}
use Rattle.std.proofs.Math.Logic.{⊎_elim}
use Rattle.std.proofs.Math.Path.{subst}
use Rattle.std.proofs.lemmas.Bool.{eqb-false}
use Rattle.words.specs.TestLaws.{either}
use Rattle.words.specs.ListLaws.{upd_same, upd_other}
use Rattle.tables.specs.Size.{Size}
use Rattle.tables.specs.State.{Session, closed, opened, State, with_vector, with_log, with_slot}
use Rattle.tables.proofs.StateLaws.{not-both}
use Rattle.tables.specs.Layout.{size_of, decode}
use Rattle.tables.specs.Sound.{sound}
use Rattle.tables.specs.Meaning.{Means}
use Rattle.tables.proofs.MeaningLaws.{sound-means, means-state}
use Rattle.rules.specs.Step.{Step, Op, opens, Answer, done}
use Rattle.rules.proofs.StepLaws.{asked-opens}
use Rattle.rules.specs.Rules.{accepted, received}
use Rattle.rules.specs.Effects.{Effect, was_refused, was_opened, was_closed, was_read, was_written, was_exchanged}
use Rattle.rules.specs.Calls.{step}
use Rattle.rules.proofs.CallLaws.{step-effect, step-answer, means-next}
use Rattle.rules.specs.Done.{OpenDone, CloseDone}
use Rattle.rules.proofs.Exact.{open-exactly, close-exactly}
use Rattle.rules.specs.Acceptance.{Open}
use Rattle.book.specs.Terms.{Reads, Writes, Opens, Closes, Chose}
use Rattle.book.specs.Session.{Still}
use Rattle.book.specs.Moments.{state_after}
use Rattle.book.proofs.Moments.{still_after}
use Rattle.book.specs.TermLaws.{Done}

-- Every accepted read, write, open and close is one,
module _ (t : List ℕ) (x : Step) (accepted : (step t x).answer.code ≡ 0) where
  pub every-read : x.kind ≡ 3 → Reads t x x.a (step t x).answer.server
  every-read e = record { kind = e; slot = refl; accepted = accepted; server = refl }

  pub every-write : x.kind ≡ 4 → Writes t x x.a (record { origin = (step t x).answer.origin; clock = (step t x).answer.clock; item = x.b; value = x.c })
  every-write e = record { kind = e; slot = refl; accepted = accepted; made = refl }

  pub every-open : x.kind ≡ 1 → Opens t x x.a x.b
  every-open e = record { kind = e; slot = refl; asked = refl; accepted = accepted }

  pub every-close : x.kind ≡ 2 → Closes t x x.a
  every-close e = record { kind = e; slot = refl; accepted = accepted }

-- and every guarantee that the session of an open slot has is chosen.
pub every-choice : (t : List ℕ) (k : ℕ) (guarantee : ℕ → Bool) (q : Session) → (decode (size_of t) t).slot k ≡ opened q → guarantee q.guarantees ≡ true → Chose t k guarantee
every-choice t k guarantee q e g = record { session = q; is = e; chosen = g }

-- It is or it isn't.
done-or-not : (t : List ℕ) (x : Step) (kind k : ℕ) → Done t x kind k ⊎ (Done t x kind k → ⊥)
done-or-not t x kind k =
    ⊎_elim (λ a. ⊎_elim (λ b. ⊎_elim (λ c. inl (eqb-true x.kind kind a, eqb-true x.a k b, eqb-true (step t x).answer.code 0 c)) (λ c.
    inr (λ d. eqb-false (step t x).answer.code 0 c d.2)) (either (eqb (step t x).answer.code 0))) (λ b.
    inr (λ d. eqb-false x.a k b d.1)) (either (eqb x.a k))) (λ a. inr (λ d. eqb-false x.kind kind a d.0))
    (either (eqb x.kind kind))

-- A closed slot stays closed, unless it is opened.
closed-stays : {z : Size} {s : State} (k : ℕ) → s.slot k ≡ closed → {o : Op} {r : Answer} {after : State} → Effect z s o r after
    → ((g : ℕ) → o ≡ opens k g → r.code ≡ 0 → ⊥) → after.slot k ≡ closed
unfolding accepted received with_vector with_log with_slot done
closed-stays k e (was_refused code h) unopened = e
closed-stays {s = s} k e (was_opened {k = m} {g = g} p) unopened =
    ⊎_elim (λ t. absurd (unopened g (ap (λ j. opens j g) (sym (eqb-true k m t))) refl)) (λ t. upd_other s.slot m _ k (eqb-false k m t) ∙ e)
    (either (eqb k m))
closed-stays {s = s} k e (was_closed {k = m} q p) unopened =
    ⊎_elim (λ t. upd_same s.slot m closed k (eqb-true k m t)) (λ t. upd_other s.slot m closed k (eqb-false k m t) ∙ e) (either (eqb k m))
closed-stays {s = s} k e (was_read {k = m} q i p c) unopened =
    ⊎_elim (λ t. not-both (ap s.slot (eqb-true k m t) ∙ p) e) (λ t. upd_other s.slot m _ k (eqb-false k m t) ∙ e) (either (eqb k m))
closed-stays {s = s} k e (was_written {k = m} q i p c) unopened =
    ⊎_elim (λ t. not-both (ap s.slot (eqb-true k m t) ∙ p) e) (λ t. upd_other s.slot m _ k (eqb-false k m t) ∙ e) (either (eqb k m))
closed-stays k e (was_exchanged p) unopened = e

-- The buyer's third demand: "A session runs from its opening to its closing." Whatever the step,
module _ (t : List ℕ) (is_sound : sound t ≡ true) (x : Step) (k : ℕ) where
  abbrev before : State
  before = decode (size_of t) t

  abbrev then : State
  then = decode (size_of (step t x).table) (step t x).table

  abbrev means : Means (size_of t) before t
  means = sound-means t is_sound

  -- a closed slot is open after it exactly if the step opens it,
  pub begins-exactly : before.slot k ≡ closed → Open then k ↔ Opens t x k x.b
  begins-exactly shut = (
    λ o. ⊎_elim (λ d. record { kind = d.0; slot = d.1; asked = refl; accepted = d.2 }) (λ n. not-both o.is (stays n)) (done-or-not t x 1 k),
    λ o.
        let done : OpenDone before x.a x.b (step t x).answer then = open-exactly t x is_sound o.accepted o.kind in
        record { session = done.next; is = subst (λ (m : ℕ). then.slot m ≡ opened done.next) o.slot done.now_open },
  )
    where
      stays : (Done t x 1 k → ⊥) → then.slot k ≡ closed
      stays n =
          ap (λ u. u.slot k) (means-state (means-next means x))
          ∙ closed-stays k shut (step-effect means x) (λ g e c.
          let asks = asked-opens (size_of t) x k g e in
          n (asks.0, asks.1, ap (λ (r : Answer). r.code) (step-answer means x) ∙ c))

  -- and an open one is closed after it exactly if the step closes it.
  pub ends-exactly : Open before k → (then.slot k ≡ closed) ↔ Closes t x k
  unfolding state_after
  ends-exactly was = (
    λ shut. ⊎_elim (λ d. record { kind = d.0; slot = d.1; accepted = d.2 }) (λ n. not-both (stays n) shut) (done-or-not t x 2 k),
    λ c.
        let done : CloseDone before x.a (step t x).answer then = close-exactly t x is_sound c.accepted c.kind in
        subst (λ (m : ℕ). then.slot m ≡ closed) c.slot done.now_closed,
  )
    where
      still : (Done t x 2 k → ⊥) → Still (state_after (size_of t) before (x ∷ [])) k was.session
      still n = still_after means k was.session was.is (x ∷ []) (λ c. n (c.kind, c.slot, c.accepted), tt)

      stays : (n : Done t x 2 k → ⊥) → then.slot k ≡ opened (still n).session
      stays n = ap (λ u. u.slot k) (means-state (means-next means x)) ∙ (still n).is
