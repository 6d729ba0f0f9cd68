-- The words that a read and a write store, one after another, are those of the state that the rules give. Assumes nothing.
use Rattle.std.specs.Prelude.{ℕ, suc, ◌<◌, [], ◌∷◌, ◌++◌, ◌≡◌, length}
use Rattle.std.proofs.Common.{◌∙◌, arith}
use Rattle.std.proofs.Math.Path.{ap}
use Rattle.std.proofs.Math.ListN.{set, length-append}
use Rattle.words.specs.Lists.{row, splice, upd}
use Rattle.vectors.specs.Vector.{join}
use Rattle.logs.specs.Write.{Write}
use Rattle.tables.specs.Size.{Size}
use Rattle.tables.specs.State.{State, Session, opened, with_vector, with_log, with_slot}
use Rattle.tables.specs.Layout.{encode, vector_at, last_used_at, read_at, write_at}
use Rattle.tables.specs.LayoutLaws.{Room}
use Rattle.tables.proofs.PutLaws.{put_vector, put_last, put-read-row, put-write, with_slot-now, with_slot-twice, room-with_vector, room-with_slot, room-with_log}
use Rattle.rules.specs.Rules.{after_read, after_write, accepted}

module _ (z : Size) (s : State) (room : Room z s) where
  module _ (k : ℕ) (below : k < z.p) (q : Session) (is_open : s.slot k ≡ opened q) where
    -- A read raises the read-vector and sets the last-used server.
    pub read-stores : (i : ℕ) → set (splice (read_at z k 0) z.n (encode z s) (row z.n (join q.read_vector (s.vector i)))) (last_used_at z k) (suc i)
        ≡ encode z (with_slot s k (opened (after_read q i (s.vector i))))
    unfolding after_read
    read-stores i =
        let raised : Session = record { guarantees = q.guarantees; last_used = q.last_used; read_vector = join q.read_vector (s.vector i); write_vector = q.write_vector } in
        let s₁ = with_slot s k (opened raised) in
        ap (λ t. set t (last_used_at z k) (suc i)) (put-read-row z s room k below q is_open (join q.read_vector (s.vector i)))
        ∙ (put_last z s₁ (room-with_slot z s room k (opened raised)) k below raised (with_slot-now s k (opened raised)) (suc i)
        ∙ ap (encode z) (with_slot-twice s k (opened raised) _))

    -- A write that stands in the log stores its clock in two vectors, and sets the last-used server.
    pub write-stores : (i : ℕ) → i < z.n → (w : Write) → length (s.log i) < z.l
        → set (set (set (encode z (with_log s i (s.log i ++ (w ∷ [])))) (vector_at z i i) w.clock) (write_at z k i) w.clock) (last_used_at z k) (suc i)
        ≡ encode z (accepted s k q i w)
    unfolding accepted after_write with_vector with_log
    write-stores i h w free =
        let g = s.log i ++ (w ∷ []) in
        let s₁ = with_log s i g in
        let room₁ = room-with_log z s room i g (omega (arith, length-append (s.log i) (w ∷ []))) in
        let s₂ = with_vector s₁ i (upd (s.vector i) i w.clock) in
        let room₂ = room-with_vector z s₁ room₁ i (upd (s.vector i) i w.clock) in
        let known : Session = record { guarantees = q.guarantees; last_used = q.last_used; read_vector = q.read_vector; write_vector = upd q.write_vector i w.clock } in
        let s₃ = with_slot s₂ k (opened known) in
        ap (λ t. set (set t (write_at z k i) w.clock) (last_used_at z k) (suc i)) (put_vector z s₁ i h i w.clock h)
        ∙ (ap (λ t. set t (last_used_at z k) (suc i)) (put-write z s₂ room₂ k below q is_open i w.clock h)
        ∙ (put_last z s₃ (room-with_slot z s₂ room₂ k (opened known)) k below known (with_slot-now s₂ k (opened known)) (suc i)
        ∙ ap (encode z) (with_slot-twice s₂ k (opened known) _)))
