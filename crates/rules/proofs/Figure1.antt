-- Figure 1 of 002, line by line, and the rest of what a read, a write and an opening leave of a session. "Both vectors are updated
-- whichever guarantees were chosen, as in Figure 1." Assumes nothing.
use Prim.Native.Nat.{ℕ, suc, max}
use Rattle.std.specs.Prelude.{[], ◌∷◌, ◌++◌, ◌≡◌}
use Rattle.std.proofs.Math.Path.{refl, ap}
use Rattle.std.proofs.Common.{◌∙◌, sym}
use Rattle.words.specs.Lists.{upd}
use Rattle.words.specs.ListLaws.{upd_same, upd_other, upd-elim}
use Rattle.vectors.specs.Vector.{join}
use Rattle.logs.specs.Write.{Write}
use Rattle.tables.specs.State.{Session, State, with_vector, with_log, with_slot}
use Rattle.rules.specs.Rules.{new_session, after_read, after_write, accepted}

-- "read-vector := MAX(read-vector, relevant-write-vector)", and the server's whole vector stands for the relevant writes.
module _ (q : Session) (i : ℕ) (vector : ℕ → ℕ) where
  pub read-raises : (j : ℕ) → (after_read q i vector).read_vector j ≡ max (q.read_vector j) (vector j)
  unfolding after_read join
  read-raises j = refl

  -- The write-vector stays,
  pub read-leaves : (j : ℕ) → (after_read q i vector).write_vector j ≡ q.write_vector j
  unfolding after_read
  read-leaves j = refl

  -- and so do the guarantees.
  pub read-chosen : (after_read q i vector).guarantees ≡ q.guarantees
  unfolding after_read
  read-chosen = refl

  -- "Last-used becomes the server."
  pub read-uses : (after_read q i vector).last_used ≡ suc i
  unfolding after_read
  read-uses = refl

-- "write-vector[S] := wid.clock"
module _ (q : Session) (i clock : ℕ) where
  pub write-sets : (j : ℕ) → j ≡ i → (after_write q i clock).write_vector j ≡ clock
  unfolding after_write
  write-sets j e = upd_same q.write_vector i clock j e

  -- The other components stay,
  pub write-leaves : (j : ℕ) → (j ≡ i → ⊥) → (after_write q i clock).write_vector j ≡ q.write_vector j
  unfolding after_write
  write-leaves j e = upd_other q.write_vector i clock j e

  -- and so does the read-vector.
  pub write-reads : (j : ℕ) → (after_write q i clock).read_vector j ≡ q.read_vector j
  unfolding after_write
  write-reads j = refl

  -- The guarantees stay.
  pub write-chosen : (after_write q i clock).guarantees ≡ q.guarantees
  unfolding after_write
  write-chosen = refl

  -- "last-used is set"
  pub write-uses : (after_write q i clock).last_used ≡ suc i
  unfolding after_write
  write-uses = refl

-- 01, "Write": "The write is added at the end; the vectors of server and session at that server become the clock".
module _ (s : State) (k : ℕ) (q : Session) (i : ℕ) (w : Write) where
  pub accepted-log : (accepted s k q i w).log i ≡ s.log i ++ (w ∷ [])
  unfolding accepted with_slot with_vector with_log
  accepted-log = upd_same s.log i (s.log i ++ (w ∷ [])) i refl

  -- The server's own component becomes the clock.
  pub accepted-clock : (accepted s k q i w).vector i i ≡ w.clock
  unfolding accepted with_slot with_vector with_log
  accepted-clock =
      ap (λ (v : ℕ → ℕ). v i) (upd_same s.vector i (upd (s.vector i) i w.clock) i refl) ∙ upd_same (s.vector i) i w.clock i refl

  -- Every other component of every server stays.
  pub accepted-others : (h j : ℕ) → (h ≡ i → j ≡ i → ⊥) → (accepted s k q i w).vector h j ≡ s.vector h j
  unfolding accepted with_slot with_vector with_log
  accepted-others h j e =
      upd-elim (λ (v : ℕ → ℕ). v j ≡ s.vector h j) s.vector i (upd (s.vector i) i w.clock) h
      (λ d. upd_other (s.vector i) i w.clock j (e d) ∙ ap (λ m. s.vector m j) (sym d)) (λ d. refl)

-- 01: "Open sets guarantees, zeros the rest."
module _ (g : ℕ) where
  pub new-chosen : (new_session g).guarantees ≡ g
  unfolding new_session
  new-chosen = refl

  pub new-unused : (new_session g).last_used ≡ 0
  unfolding new_session
  new-unused = refl

  pub new-reads : (j : ℕ) → (new_session g).read_vector j ≡ 0
  unfolding new_session
  new-reads j = refl

  pub new-writes : (j : ℕ) → (new_session g).write_vector j ≡ 0
  unfolding new_session
  new-writes j = refl
