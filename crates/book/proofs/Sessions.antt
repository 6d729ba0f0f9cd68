-- Demand 3 in the buyer's own sentence: "for every session that chose them". A session is opened with a sum of guarantees; the four
-- guarantees of Guarantees.antt hold of it from its opening to its closing, for what that sum has in it. Assumes nothing.
use Rattle.std.specs.Prelude.{ℕ, Bool, true, List, [], ◌∷◌, ◌++◌, ◌≡◌}
use Rattle.std.proofs.Common.{◌∙◌, ap, subst}
use Rattle.logs.specs.Write.{Write, before}
use Rattle.tables.specs.Sound.{sound}
use Rattle.rules.specs.Step.{Step}
use Rattle.rules.specs.Choice.{read_your_writes, monotonic_reads, writes_follow_reads, monotonic_writes}
use Rattle.book.specs.Terms.{Stores, DependsOn, after, Reads, Writes, Opens, Lasts, Chose}
use Rattle.book.proofs.Moments.{after-append, after-sound}
use Rattle.book.proofs.Opening.{lasts-behind, chose-exactly}
use Rattle.book.proofs.Guarantees.{read-your-writes, monotonic-reads, writes-follow-reads, monotonic-writes}

-- Any schedule from a sound table, and so from a fresh one, with three of its steps marked: `pre`, the step o, `early`, the step x, `mid`,
-- the step y, and `post`.
module _ (t₀ : List ℕ) (is_sound : sound t₀ ≡ true) (pre : List Step) (o : Step) (early : List Step) (x : Step) (mid : List Step) (y : Step) (post : List Step) where
  -- The table before o, right after it, before x, right after it, before y, right after it, and at any later moment.
  abbrev pub t₁ : List ℕ
  t₁ = after t₀ pre

  abbrev pub t₂ : List ℕ
  t₂ = after t₁ (o ∷ [])

  abbrev pub t₃ : List ℕ
  t₃ = after t₂ early

  abbrev pub t₄ : List ℕ
  t₄ = after t₃ (x ∷ [])

  abbrev pub t₅ : List ℕ
  t₅ = after t₄ mid

  abbrev pub t₆ : List ℕ
  t₆ = after t₅ (y ∷ [])

  abbrev pub t₇ : List ℕ
  t₇ = after t₆ post

  -- They are moments of one schedule.
  pub one-schedule : after t₀ (pre ++ (o ∷ early) ++ (x ∷ mid) ++ (y ∷ post)) ≡ t₇
  one-schedule =
      after-append t₀ (pre ++ (o ∷ early) ++ (x ∷ mid)) (y ∷ post)
      ∙ (ap (λ t. after t (y ∷ post)) (after-append t₀ (pre ++ (o ∷ early)) (x ∷ mid) ∙ (ap (λ t. after t (x ∷ mid)) (after-append t₀ pre (o ∷ early) ∙ after-append t₁ (o ∷ []) early) ∙ after-append t₃ (x ∷ []) mid))
      ∙ after-append t₅ (y ∷ []) post)

  -- The session in slot k that o opens with the sum g, and that lasts until y.
  module _ (k g : ℕ) (opens : Opens t₁ o k g) (lasts : Lasts k t₂ (early ++ (x ∷ mid))) where
    sound₁ : sound t₁ ≡ true
    sound₁ = after-sound t₀ pre is_sound

    sound₂ : sound t₂ ≡ true
    sound₂ = after-sound t₁ (o ∷ []) sound₁

    -- It lasts from x to y,
    from-x : Lasts k t₄ mid
    from-x = lasts-behind k t₃ (x ∷ []) mid (lasts-behind k t₂ early (x ∷ mid) lasts)

    -- and at y has chosen what o asked for.
    at_y : (guarantee : ℕ → Bool) → guarantee g ≡ true → Chose t₅ k guarantee
    at_y guarantee e =
        subst (λ (t : List ℕ). Chose t k guarantee) (after-append t₂ early (x ∷ mid) ∙ after-append t₃ (x ∷ []) mid)
        ((chose-exactly t₁ sound₁ o k g opens (early ++ (x ∷ mid)) lasts guarantee).1 e)

    -- Read Your Writes: a read is served where every earlier write of the session is stored.
    pub session-reads-its-writes : read_your_writes g ≡ true → (j : ℕ) (w : Write) → Writes t₃ x k w → Reads t₅ y k j → Stores t₅ j w
    session-reads-its-writes e j w wrote read = read-your-writes t₂ sound₂ early x mid y post k j w wrote from-x read (at_y read_your_writes e)

    -- Monotonic Reads: a read is served where all is stored that an earlier read of the session depended on.
    pub session-reads-on : monotonic_reads g ≡ true → (i j : ℕ) → Reads t₃ x k i → Reads t₅ y k j → (w : Write) → DependsOn t₃ x i w → Stores t₅ j w
    session-reads-on e i j first second = monotonic-reads t₂ sound₂ early x mid y post k i j first from-x second (at_y monotonic_reads e)

    -- Writes Follow Reads: wherever a write of the session is stored, at every later moment, all is stored that an earlier read of the
    -- session depended on, and stands before it in the write order.
    pub session-writes-follow-its-reads : writes_follow_reads g ≡ true → (i : ℕ) (w₂ : Write) → Reads t₃ x k i → Writes t₅ y k w₂
        → (w₁ : Write) → DependsOn t₃ x i w₁ → (j : ℕ) → Stores t₇ j w₂ → Stores t₇ j w₁ × (before w₁ w₂ ≡ true)
    session-writes-follow-its-reads e i w₂ read wrote = writes-follow-reads t₂ sound₂ early x mid y post k i w₂ read from-x wrote (at_y writes_follow_reads e)

    -- Monotonic Writes: wherever a write of the session is stored, at every later moment, every earlier write of the session is stored, and
    -- stands before it in the write order.
    pub session-writes-on : monotonic_writes g ≡ true → (w₁ w₂ : Write) → Writes t₃ x k w₁ → Writes t₅ y k w₂
        → (j : ℕ) → Stores t₇ j w₂ → Stores t₇ j w₁ × (before w₁ w₂ ≡ true)
    session-writes-on e w₁ w₂ first second = monotonic-writes t₂ sound₂ early x mid y post k w₁ w₂ first from-x second (at_y monotonic_writes e)
