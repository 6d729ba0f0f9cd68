-- Demand 3: the four session guarantees, as 002, section 3, words them, for every schedule, of the writes that the table's words
-- store. Assumes nothing.
use Rattle.std.specs.Prelude.{ℕ, true, List, [], ◌∷◌, ◌++◌, ◌≡◌}
use Rattle.std.proofs.Common.{sym, ◌∙◌, ap, subst}
use Rattle.logs.specs.Write.{Write, before}
use Rattle.tables.specs.Size.{Size}
use Rattle.tables.specs.State.{State}
use Rattle.tables.specs.Layout.{size_of, decode}
use Rattle.tables.specs.Sound.{sound}
use Rattle.tables.specs.Meaning.{Means}
use Rattle.tables.proofs.MeaningLaws.{sound-means}
use Rattle.rules.specs.Step.{Step}
use Rattle.rules.specs.Choice.{read_your_writes, monotonic_reads, writes_follow_reads, monotonic_writes}
use Rattle.book.specs.Terms.{Stores, DependsOn, after, Reads, Writes, Lasts, Chose}
use Rattle.book.specs.Propagation.{Precedes}
use Rattle.book.specs.Moments.{state_after}
use Rattle.book.proofs.Moments.{after-append, stored, stores, means-after, kept-after, precedes-after}
use Rattle.book.proofs.Remembering.{read-remembers, write-remembers, read-after, write-after, read-served, write-served}

-- Any schedule from a sound table, and so from a fresh one (`fresh-sound`), with two of its steps marked: `pre`, the step x, `mid`, the
-- step y, and `post`.
module _ (t₀ : List ℕ) (is_sound : sound t₀ ≡ true) (pre : List Step) (x : Step) (mid : List Step) (y : Step) (post : List Step) where
  -- The table before x, right after it, before y, right after it, and at any later moment.
  abbrev pub t₁ : List ℕ
  t₁ = after t₀ pre

  abbrev pub t₂ : List ℕ
  t₂ = after t₁ (x ∷ [])

  abbrev pub t₃ : List ℕ
  t₃ = after t₂ mid

  abbrev pub t₄ : List ℕ
  t₄ = after t₃ (y ∷ [])

  abbrev pub t₅ : List ℕ
  t₅ = after t₄ post

  -- They are moments of one schedule.
  pub one-schedule : after t₀ (pre ++ (x ∷ mid) ++ (y ∷ post)) ≡ t₅
  one-schedule =
      after-append t₀ (pre ++ (x ∷ mid)) (y ∷ post)
      ∙ (ap (λ t. after t (y ∷ post)) (after-append t₀ pre (x ∷ mid) ∙ after-append t₁ (x ∷ []) mid) ∙ after-append t₃ (y ∷ []) post)

  -- The states that they mean.
  abbrev z : Size
  z = size_of t₀

  abbrev s₁ : State
  s₁ = state_after z (decode z t₀) pre

  abbrev s₂ : State
  s₂ = state_after z s₁ (x ∷ [])

  abbrev s₃ : State
  s₃ = state_after z s₂ mid

  abbrev s₄ : State
  s₄ = state_after z s₃ (y ∷ [])

  abbrev s₅ : State
  s₅ = state_after z s₄ post

  m₁ : Means z s₁ t₁
  m₁ = means-after (sound-means t₀ is_sound) pre

  m₂ : Means z s₂ t₂
  m₂ = means-after m₁ (x ∷ [])

  m₃ : Means z s₃ t₃
  m₃ = means-after m₂ mid

  m₄ : Means z s₄ t₄
  m₄ = means-after m₃ (y ∷ [])

  m₅ : Means z s₅ t₅
  m₅ = means-after m₄ post

  -- Read Your Writes. 002, 3.1: "If Read R follows Write W in a session and R is performed at server S at time t, then W is included in
  -- DB(S,t)."
  pub read-your-writes : (k j : ℕ) (w : Write) → Writes t₁ x k w → Lasts k t₂ mid → Reads t₃ y k j → Chose t₃ k read_your_writes → Stores t₃ j w
  unfolding state_after
  read-your-writes k j w wrote lasts read chose =
      read-served m₃ y k w read_your_writes (λ q. q.write_vector) (λ q v c. c.writes) j read chose
      (write-after m₂ k mid lasts w (write-remembers m₁ x k w wrote))

  -- Monotonic Reads. 002, 3.2: "If Read R1 occurs before R2 in a session and R1 accesses server S1 at time t1 and R2 accesses server S2 at
  -- time t2, then RelevantWrites(S1,t1,R1) is a subset of DB(S2,t2)."
  pub monotonic-reads : (k i j : ℕ) → Reads t₁ x k i → Lasts k t₂ mid → Reads t₃ y k j → Chose t₃ k monotonic_reads
      → (w : Write) → DependsOn t₁ x i w → Stores t₃ j w
  unfolding state_after
  monotonic-reads k i j first lasts second chose w depends =
      read-served m₃ y k w monotonic_reads (λ q. q.read_vector) (λ q v c. c.reads) j second chose
      (read-after m₂ k mid lasts w (read-remembers m₁ x k i first w depends))

  -- What a write is behind when it is made it is behind at every later moment and at every server.
  behind-for-ever : (w₁ w₂ : Write) → Precedes s₄ w₁ w₂ → (j : ℕ) → Stores t₅ j w₂ → Stores t₅ j w₁ × (before w₁ w₂ ≡ true)
  behind-for-ever w₁ w₂ p j m =
      let q : Precedes s₅ w₁ w₂ = precedes-after m₄ post w₁ w₂ p in
      (stores m₅ j w₁ (q.along j (stored m₅ j w₂ m)), q.ordered)

  -- Writes Follow Reads. 002, 3.3: "If Read R1 precedes Write W2 in a session and R1 is performed at server S1 at time t1, then, for any
  -- server S2, if W2 is in DB(S2) then any W1 in RelevantWrites(S1,t1,R1) is also in DB(S2) and WriteOrder(W1,W2)." At every later moment,
  -- also after the session has closed.
  pub writes-follow-reads : (k i : ℕ) (w₂ : Write) → Reads t₁ x k i → Lasts k t₂ mid → Writes t₃ y k w₂ → Chose t₃ k writes_follow_reads
      → (w₁ : Write) → DependsOn t₁ x i w₁ → (j : ℕ) → Stores t₅ j w₂ → Stores t₅ j w₁ × (before w₁ w₂ ≡ true)
  unfolding state_after
  writes-follow-reads k i w₂ read lasts wrote chose w₁ depends =
      behind-for-ever w₁ w₂ (write-served m₃ y k w₁ writes_follow_reads (λ q. q.read_vector) (λ q v c. c.reads) w₂ wrote chose
      (read-after m₂ k mid lasts w₁ (read-remembers m₁ x k i read w₁ depends)))

  -- Monotonic Writes. 002, 3.4: "If Write W1 precedes Write W2 in a session, then, for any server S2, if W2 is in DB(S2) then W1 is also
  -- in DB(S2) and WriteOrder(W1,W2)." At every later moment, also after the session has closed.
  pub monotonic-writes : (k : ℕ) (w₁ w₂ : Write) → Writes t₁ x k w₁ → Lasts k t₂ mid → Writes t₃ y k w₂ → Chose t₃ k monotonic_writes
      → (j : ℕ) → Stores t₅ j w₂ → Stores t₅ j w₁ × (before w₁ w₂ ≡ true)
  unfolding state_after
  monotonic-writes k w₁ w₂ first lasts second chose =
      behind-for-ever w₁ w₂ (write-served m₃ y k w₁ monotonic_writes (λ q. q.write_vector) (λ q v c. c.writes) w₂ second chose
      (write-after m₂ k mid lasts w₁ (write-remembers m₁ x k w₁ first)))

-- No server ever loses a write: what is stored at one moment is stored at every later one.
pub never-lost : (t₀ : List ℕ) → sound t₀ ≡ true → (pre post : List Step) (i : ℕ) (w : Write) → Stores (after t₀ pre) i w → Stores (after t₀ (pre ++ post)) i w
never-lost t₀ is_sound pre post i w m =
    let m₁ = means-after (sound-means t₀ is_sound) pre in
    subst (λ (t : List ℕ). Stores t i w) (sym (after-append t₀ pre post))
    (stores (means-after m₁ post) i w (kept-after m₁ post i w (stored m₁ i w m)))
