-- A write and an exchange are a growth of one server's log, with C1 and C2 of 002, section 4. Assumes nothing.
use Prim.Native.Nat.{ℕ, suc, ◌-◌, ◌<◌, ◌≤◌}
use Rattle.std.specs.Prelude.{true, false, [], ◌∷◌, ◌++◌, ◌⊎◌, ◌≡◌, length}
use Rattle.std.proofs.Math.Logic.{inl, inr, ⊎_elim}
use Rattle.std.proofs.Math.Path.{refl, sym, ap, subst}
use Rattle.std.proofs.Common.{◌∙◌, ltb-true, ltb-false}
use native.Mathlib.Omega.{arith}
use Rattle.std.proofs.Math.Dec.{ltb}
use Rattle.std.proofs.Math.ListN.{length-append, length-take}
use Rattle.words.specs.Lists.{In, here, upd}
use Rattle.words.specs.ListLaws.{in_one, in_append_left, in_append_right, in-append-cases, in_take, upd_same, upd_other, upd-elim}
use Rattle.words.specs.TestLaws.{either}
use Rattle.vectors.specs.VectorLaws.{greatest-above, greatest-attained, GreatestAt}
use Rattle.logs.specs.Write.{Write, before}
use Rattle.logs.proofs.WriteLaws.{before-clock}
use Rattle.logs.specs.Log.{insert_all, lacking, follow}
use Rattle.logs.specs.Ascending.{Ascending}
use Rattle.logs.proofs.AscendingLaws.{key-unique, ascending-snoc}
use Rattle.logs.specs.Witness.{Witness, Timed}
use Rattle.logs.proofs.LogLaws.{in-insert_all, insert_all-old, insert_all-new, length-insert_all, insert_all-ascending, take-ascending, take-before, in-lacking, lacking-above, lacking-in, lacking-ascending, follow-either, follow-base, follow-above}
use Rattle.tables.specs.Size.{Size, items}
use Rattle.tables.specs.State.{State}
use Rattle.tables.specs.SoundState.{SoundState}
use Rattle.tables.specs.Growth.{Grows}
use Rattle.rules.specs.Rules.{new_write, going_over, sent}

-- ---- a write

module _ {z : Size} {s : State} (sound : SoundState z s) (i item value : ℕ) (server : i < z.n) where
  -- C1: "new Writes are ordered after Writes that are already known to a server".
  pub new-clock : (x : Write) → In x (s.log i) → x.clock < (new_write z s i item value).clock
  unfolding new_write
  new-clock x m = omega (arith, sound.covered i x m, greatest-above z.n (s.vector i) x.origin (sound.origins i x m))

  -- So the new write stands after all that its server held.
  pub new-last : (x : Write) → In x (s.log i) → before x (new_write z s i item value) ≡ true
  new-last x m = before-clock x (new_write z s i item value) (new-clock x m)

  -- The new clock is above all that the server knows of.
  pub new-above : (j : ℕ) → j < z.n → s.vector i j < (new_write z s i item value).clock
  unfolding new_write
  new-above j h = omega (arith, greatest-above z.n (s.vector i) j h)

  new-gapless : (c : ℕ) → (new_write z s i item value).clock ≡ suc (suc c) → Timed (s.log i) (suc c)
  unfolding new_write
  new-gapless c e =
      ⊎_elim (λ q. absurd (omega arith)) (λ (g : GreatestAt z.n (s.vector i)). ⊎_elim (λ q. absurd (omega (arith, g.equal)))
      (λ (f : Witness (s.log i) g.at (s.vector i g.at)).
      record { write = f.write; stored = f.stored; timed = omega (arith, f.timed, g.equal) }) (sound.attained i g.at))
      (greatest-attained z.n (s.vector i))

  -- An accepted write is a growth of its server's log.
  pub write-grows : length (s.log i) < z.l → item < items
      → Grows
      z s i (new_write z s i item value ∷ []) (s.log i ++ (new_write z s i item value ∷ []))
      (upd (s.vector i) i (new_write z s i item value).clock)
  unfolding new_write
  write-grows room in_range =
      let w = new_write z s i item value in
      let one : (P : Write → Type 0) → P w → (x : Write) → In x (w ∷ []) → P x = λ P p x m. subst P (sym (in_one m)) p in
      record {
        server = server;
        fits = omega (arith, room, length-append (s.log i) (w ∷ []));
        ordered = ascending-snoc w (sound.ascending i) new-last;
        old = λ x m. in_append_left (w ∷ []) m;
        new = λ x m. in_append_right (s.log i) m;
        only = λ x m. ⊎_elim (λ m'. inr m') (λ m'. inl m') (in-append-cases (s.log i) m);
        new_origin = one (λ x. x.origin < z.n) server;
        new_item = one (λ x. x.item < items) in_range;
        new_started = one (λ x. 1 ≤ x.clock) (omega arith);
        new_gapless =
            one (λ x. (c : ℕ) → x.clock ≡ suc (suc c) → Timed (s.log i ++ (w ∷ [])) (suc c)) (λ c e.
            let f : Timed (s.log i) (suc c) = new-gapless c e in
            record { write = f.write; stored = in_append_left (w ∷ []) f.stored; timed = f.timed });
        new_home = one (λ x. (x.origin ≡ i) ⊎ In x (s.log x.origin)) (inl refl);
        new_own = one (λ x. x.origin ≡ i → s.vector i i < x.clock) (λ e. new-above i server);
        above =
            λ j. upd-elim (λ c. s.vector i j ≤ c) (s.vector i) i w.clock j (λ e. omega (arith, new-above i server, ap (s.vector i) e))
            (λ e. omega arith);
        new_covered =
            one (λ x. x.clock ≤ upd (s.vector i) i w.clock x.origin) (omega (arith, upd_same (s.vector i) i w.clock i refl));
        followed =
            λ j. upd-elim (λ c. (c ≡ s.vector i j) ⊎ Witness (w ∷ []) j c) (s.vector i) i w.clock j
            (λ e. inr (record { write = w; stored = here refl; from = sym e; timed = refl })) (λ e. inl refl);
        fetched =
            λ x e m l. in_append_left (w ∷ []) (sound.complete i x m (omega (arith, upd_other (s.vector i) i w.clock x.origin e)));
      }

-- ---- an exchange

module _ {z : Size} {s : State} (sound : SoundState z s) (source target most : ℕ) where
  -- What goes over goes in write order.
  pub sent-ascending : Ascending (sent z s source target most)
  unfolding sent
  sent-ascending = take-ascending (going_over z s source target most) (lacking-ascending (s.vector target) (sound.ascending source))

  -- What goes over is lacking.
  pub sent-lacks : (w : Write) → In w (sent z s source target most) → In w (lacking (s.vector target) (s.log source))
  unfolding sent
  sent-lacks w m = in_take (going_over z s source target most) (lacking (s.vector target) (s.log source)) m

  -- It stands in the log of "from",
  pub sent-from : (w : Write) → In w (sent z s source target most) → In w (s.log source)
  sent-from w m = in-lacking (s.vector target) (s.log source) (sent-lacks w m)

  -- and above what the vector of "to" covers.
  pub sent-above : (w : Write) → In w (sent z s source target most) → s.vector target w.origin < w.clock
  sent-above w m = lacking-above (s.vector target) (s.log source) (sent-lacks w m)

  -- k is the number that goes over.
  pub length-sent : length (sent z s source target most) ≡ going_over z s source target most
  unfolding sent going_over
  length-sent = length-take (going_over z s source target most) (lacking (s.vector target) (s.log source)) ∙ omega arith

  -- There is room for it.
  pub sent-fits : length (sent z s source target most) ≤ z.l - length (s.log target)
  unfolding going_over
  sent-fits = omega (arith, length-sent)

  -- C2: "if W2 is propagated from server S1 to server S2 .. then any W1 in DB(S1,t) such that WriteOrder(W1,W2) is also
  -- propagated to S2".
  pub sent-after : (w x : Write) → In w (sent z s source target most) → In x (s.log source) → before x w ≡ true
      → In x (insert_all (sent z s source target most) (s.log target))
  unfolding sent
  sent-after w x m h b =
      ⊎_elim (λ (e : ltb (s.vector target x.origin) x.clock ≡ true). insert_all-new (sent z s source target most) (s.log target)
      (take-before (going_over z s source target most) (lacking-ascending (s.vector target) (sound.ascending source)) w x m
      (lacking-in (s.vector target) h (ltb-true (s.vector target x.origin) x.clock e)) b))
      (λ (e : ltb (s.vector target x.origin) x.clock ≡ false). insert_all-old (sent z s source target most)
      (sound.complete target x (sound.home source x h) (ltb-false (s.vector target x.origin) x.clock e)))
      (either (ltb (s.vector target x.origin) x.clock))

  -- What the vector then covers is there.
  sent-fetched : (w : Write) → In w (s.log w.origin) → w.clock ≤ follow (sent z s source target most) (s.vector target) w.origin
      → In w (insert_all (sent z s source target most) (s.log target))
  sent-fetched w m l =
      ⊎_elim (λ e. insert_all-old (sent z s source target most) (sound.complete target w m (omega arith)))
      (λ (f : Witness (sent z s source target most) w.origin (follow (sent z s source target most) (s.vector target) w.origin)).
      let x = f.write in
      let k = sound.covered source x (sent-from x f.stored) in
      let h : In w (s.log source) = sound.complete source w m (omega (arith, k, f.timed, ap (s.vector source) f.from)) in
      ⊎_elim (λ (e : ltb w.clock x.clock ≡ true). sent-after x w f.stored h (before-clock w x (ltb-true w.clock x.clock e)))
      (λ (e : ltb w.clock x.clock ≡ false).
      let same : w.clock ≡ x.clock = omega (arith, ltb-false w.clock x.clock e, f.timed) in
      insert_all-new (sent z s source target most) (s.log target) (subst (λ (y : Write). In y (sent z s source target most))
      (key-unique (sound.ascending source) x w (sent-from x f.stored) h (sym same, f.from)) f.stored))
      (either (ltb w.clock x.clock))) (follow-either (sent z s source target most) (s.vector target) w.origin)

  -- An exchange is a growth of the log of "to".
  pub exchange-grows : target < z.n
      → Grows
      z s target (sent z s source target most) (insert_all (sent z s source target most) (s.log target))
      (follow (sent z s source target most) (s.vector target))
  exchange-grows server =
      let ws = sent z s source target most in
      record {
        server = server;
        fits = omega (arith, length-insert_all ws (s.log target), sent-fits, sound.room target);
        ordered =
            insert_all-ascending ws sent-ascending (sound.ascending target)
            (λ w x m h k. omega (arith, sent-above w m, sound.covered target x h, k.0, ap (s.vector target) k.1));
        old = λ w m. insert_all-old ws m;
        new = λ w m. insert_all-new ws (s.log target) m;
        only = λ w m. in-insert_all ws (s.log target) m;
        new_origin = λ w m. sound.origins source w (sent-from w m);
        new_item = λ w m. sound.items_fit source w (sent-from w m);
        new_started = λ w m. sound.started source w (sent-from w m);
        new_gapless =
            λ w m c e.
            let f : Timed (s.log source) (suc c) = sound.gapless source w (sent-from w m) c e in
            record {
              write = f.write;
              stored = sent-after w f.write m f.stored (before-clock f.write w (omega (arith, f.timed)));
              timed = f.timed;
            };
        new_home = λ w m. inr (sound.home source w (sent-from w m));
        new_own = λ w m e. omega (arith, sent-above w m, ap (s.vector target) e);
        above = follow-base ws (s.vector target) sent-ascending sent-above;
        new_covered = λ w m. follow-above (s.vector target) sent-ascending w m;
        followed = follow-either ws (s.vector target);
        fetched = λ w e m l. sent-fetched w m l;
      }
