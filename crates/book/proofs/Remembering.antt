-- What a session remembers of its reads and writes, and why a server that passes its check stores all of it. Assumes nothing.
use Rattle.std.specs.Prelude.{ℕ, ◌≤◌, Bool, true, List, ◌≡◌, refl}
use Rattle.std.proofs.Common.{sym, ◌∙◌, ap, subst, arith}
use Rattle.words.specs.Lists.{In, here}
use Rattle.words.specs.ListLaws.{in_append_right}
use Rattle.logs.specs.Write.{Write}
use Rattle.tables.proofs.StateLaws.{one-session}
use Rattle.tables.specs.Size.{Size}
use Rattle.tables.specs.State.{Session, opened, State}
use Rattle.tables.specs.SoundState.{SoundState}
use Rattle.tables.specs.Meaning.{Means}
use Rattle.tables.proofs.MeaningLaws.{means-state}
use Rattle.rules.specs.Calls.{step}
use Rattle.rules.proofs.ChoiceLaws.{may-current}
use Rattle.rules.specs.Step.{Step}
use Rattle.rules.specs.Choice.{read_your_writes, monotonic_reads, writes_follow_reads, monotonic_writes}
use Rattle.rules.specs.CurrentLaws.{AtMost, Current}
use Rattle.rules.proofs.CurrentLaws.{current-to-read, current-to-write}
use Rattle.rules.specs.Rules.{rule}
use Rattle.rules.specs.Done.{ReadDone, WriteDone}
use Rattle.book.proofs.BookLaws.{relevant-exactly}
use Rattle.book.specs.Terms.{database, Stores, DependsOn, Reads, Writes, Lasts, Chose}
use Rattle.book.specs.Session.{Still, Later}
use Rattle.book.specs.Propagation.{Precedes}
use Rattle.book.proofs.Propagation.{accepted-precedes}
use Rattle.book.specs.Moments.{state_after}
use Rattle.book.proofs.Moments.{stored, stores, kept-after, still_after}
use Rattle.book.proofs.Accepted.{read-did, read_at, write-did, write_is}
use Rattle.book.specs.Remembering.{Remembers}

-- ---- a server that passes the check has what the vector covers

module _ {z : Size} {s : State} (sound : SoundState z s) where
  -- A write at or below a vector that the server's vector dominates is stored there.
  dominated-stored : (i : ℕ) (v : ℕ → ℕ) → AtMost z.n v (s.vector i) → (w : Write) → In w (s.log w.origin) → w.clock ≤ v w.origin
      → In w (s.log i)
  dominated-stored i v h w m l = sound.complete i w m (omega (arith, h w.origin (sound.origins w.origin w m)))

-- ---- what a session remembers of a read and of a write

module _ {z : Size} {s : State} {t : List ℕ} (means : Means z s t) (x : Step) (k : ℕ) where
  -- After a read the read-vector covers all that the server held.
  pub read-remembers : (i : ℕ) → Reads t x k i → (w : Write) → DependsOn t x i w → Remembers (rule z s x).state k (λ q. q.read_vector) w
  read-remembers i r w m =
      let d : ReadDone z s k x.b x.c (step t x).answer (rule z s x).state = read-did means x k i r in
      let holds : In w (s.log i) = stored means i w ((relevant-exactly x.b (database t i) w).0 m) in
      let there : In w (s.log d.server) = subst (λ (j : ℕ). In w (s.log j)) (sym (read_at means x k i r)) holds in
      record {
        session = d.next;
        is = d.still_open;
        covers = omega (arith, means.state.covered d.server w there, d.raised w.origin);
        made = subst (λ (g : List Write). In w g) (sym (d.rest.logs w.origin)) (means.state.home d.server w there);
      }

  -- After a write the write-vector covers it.
  pub write-remembers : (w : Write) → Writes t x k w → Remembers (rule z s x).state k (λ q. q.write_vector) w
  write-remembers w r =
      let d : WriteDone z s k x.b x.c x.d (step t x).answer (rule z s x).state = write-did means x k w r in
      let home : d.write.origin ≡ d.server = ap (λ v. v.origin) d.write_is in
      let new : Remembers (rule z s x).state k (λ q. q.write_vector) d.write =
      record {
        session = d.next;
        is = d.still_open;
        covers = omega (arith, ap (λ v. v.clock) d.write_is, d.set, ap d.next.write_vector home);
        made = subst (λ (j : ℕ). In d.write ((rule z s x).state.log j)) (sym home)
            (subst (λ (g : List Write). In d.write g) (sym d.stored) (in_append_right (s.log d.server) (here refl)));
      } in
      subst (Remembers (rule z s x).state k (λ q. q.write_vector)) (sym (write_is means x k w r)) new

-- Still remembered at a later moment of the session.
module _ {z : Size} {s : State} {t : List ℕ} (means : Means z s t) (k : ℕ) (xs : List Step) (lasts : Lasts k t xs) (w : Write) where
  remembers-after : (vector : Session → ℕ → ℕ) → ((q r : Session) → Later q r → (j : ℕ) → vector q j ≤ vector r j)
      → Remembers s k vector w → Remembers (state_after z s xs) k vector w
  remembers-after vector rises m =
      let still : Still (state_after z s xs) k m.session = still_after means k m.session m.is xs lasts in
      record {
        session = still.session;
        is = still.is;
        covers = omega (arith, m.covers, rises m.session still.session still.later w.origin);
        made = kept-after means xs w.origin w m.made;
      }

  -- By the read-vector,
  pub read-after : Remembers s k (λ q. q.read_vector) w → Remembers (state_after z s xs) k (λ q. q.read_vector) w
  read-after = remembers-after (λ q. q.read_vector) (λ q r l. l.read)

  -- and by the write-vector.
  pub write-after : Remembers s k (λ q. q.write_vector) w → Remembers (state_after z s xs) k (λ q. q.write_vector) w
  write-after = remembers-after (λ q. q.write_vector) (λ q r l. l.wrote)

-- ---- the later step is served by a server that stores what the session remembers

module _ {z : Size} {s : State} {t : List ℕ} (means : Means z s t) (y : Step) (k : ℕ) (w : Write) where
  chose-here : (guarantee : ℕ → Bool) (q : Session) → s.slot k ≡ opened q → Chose t k guarantee → guarantee q.guarantees ≡ true
  chose-here guarantee q e c =
      subst (λ (r : Session). guarantee r.guarantees ≡ true) (one-session (ap (λ u. u.slot k) (sym (means-state means)) ∙ c.is) e)
      c.chosen

  -- A read that is served by a guarantee is served where the write is stored.
  pub read-served : (guarantee : ℕ → Bool) (vector : Session → ℕ → ℕ)
      → ((q : Session) (v : ℕ → ℕ) → Current monotonic_reads read_your_writes z.n q v → guarantee q.guarantees ≡ true → AtMost z.n (vector q) v)
      → (j : ℕ) → Reads t y k j → Chose t k guarantee → Remembers s k vector w → Stores t j w
  read-served guarantee vector checked j r c m =
      let d : ReadDone z s k y.b y.c (step t y).answer (rule z s y).state = read-did means y k j r in
      let q = d.session in
      stores means j w (subst (λ (i : ℕ). In w (s.log i)) (read_at means y k j r) (dominated-stored means.state d.server (vector q)
      (checked q (s.vector d.server) ((current-to-read z s q d.server).0 d.chosen.passed) (chose-here guarantee q d.open_slot c)) w m.made
      (subst (λ (p : Session). w.clock ≤ vector p w.origin) (one-session m.is d.open_slot) m.covers)))

  -- A write that is taken by a guarantee comes behind the write remembered.
  pub write-served : (guarantee : ℕ → Bool) (vector : Session → ℕ → ℕ)
      → ((q : Session) (v : ℕ → ℕ) → Current writes_follow_reads monotonic_writes z.n q v → guarantee q.guarantees ≡ true → AtMost z.n (vector q) v)
      → (w₂ : Write) → Writes t y k w₂ → Chose t k guarantee → Remembers s k vector w → Precedes (rule z s y).state w w₂
  write-served guarantee vector checked w₂ r c m =
      let d : WriteDone z s k y.b y.c y.d (step t y).answer (rule z s y).state = write-did means y k w₂ r in
      let q = d.session in
      let held : In w (s.log d.server) =
      dominated-stored means.state d.server (vector q) (checked q (s.vector d.server)
      ((current-to-write z s q d.server).0 (may-current z s q d.server d.chosen.passed))
      (chose-here guarantee q d.open_slot c)) w m.made
      (subst (λ (p : Session). w.clock ≤ vector p w.origin) (one-session m.is d.open_slot) m.covers) in
      subst (λ (v : Write). Precedes (rule z s y).state w v) (sym (write_is means y k w₂ r)) (accepted-precedes means.state d w held)
