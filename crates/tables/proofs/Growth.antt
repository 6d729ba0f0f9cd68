-- A sound state in which one server's log grew, or one slot was set, is sound. Writes and exchanges are both such a growth.
-- Assumes nothing.
use Prim.Native.Nat.{ℕ, suc, ◌<◌, ◌≤◌}
use Rattle.std.proofs.Math.Bool.{true, false}
use Rattle.std.specs.Prelude.{Bool, cond, List, ◌⊎◌, ◌≡◌, eqb}
use Rattle.std.proofs.Common.{inl, inr, ⊎_elim, sym, ◌∙◌, ap, subst, arith, eqb-true}
use Rattle.std.proofs.lemmas.Bool.{eqb-false}
use Rattle.std.proofs.Math.ListN.{length}
use Rattle.words.specs.Lists.{In, upd}
use Rattle.words.specs.ListLaws.{upd_same, upd_other, upd-elim}
use Rattle.words.specs.TestLaws.{either}
use Rattle.logs.specs.Write.{Write}
use Rattle.logs.specs.Ascending.{Ascending}
use Rattle.logs.specs.Witness.{Witness, Timed}
use Rattle.tables.specs.Size.{Size, items}
use Rattle.tables.specs.State.{State, Slot, closed, opened, with_vector, with_log, with_slot}
use Rattle.tables.specs.SoundState.{SoundState, SoundSlot}
use Rattle.tables.specs.Growth.{Grows}

-- No server knows of a later write of an origin than the origin itself.
pub vector-below-own : {z : Size} {s : State} → SoundState z s → (i j : ℕ) → s.vector i j ≤ s.vector j j
vector-below-own {z} {s} sound i j =
    ⊎_elim (λ e. omega arith) (λ (f : Witness (s.log i) j (s.vector i j)).
    let own = sound.covered f.write.origin f.write (sound.home i f.write f.stored) in
    omega (arith, own, f.timed, ap (λ k. s.vector k k) f.from)) (sound.attained i j)

-- A slot's session may lag ever further behind.
pub slot-above : (n : ℕ) (own₁ own₂ : ℕ → ℕ) → ((j : ℕ) → own₁ j ≤ own₂ j) → (o : Slot) → SoundSlot n own₁ o → SoundSlot n own₂ o
slot-above n own₁ own₂ h closed c = tt
slot-above n own₁ own₂ h (opened q) c =
    record {
      chosen = c.chosen;
      used = c.used;
      read_below = λ j. omega (arith, c.read_below j, h j);
      write_below = λ j. omega (arith, c.write_below j, h j);
    }

module _ {z : Size} {s : State} (sound : SoundState z s) where
  -- One slot set.
  pub slot-sound : (k : ℕ) (o : Slot) → k < z.p → SoundSlot z.n (λ j. s.vector j j) o → SoundState z (with_slot s k o)
  unfolding with_slot
  slot-sound k o h c =
      record {
        room = sound.room;
        origins = sound.origins;
        items_fit = sound.items_fit;
        ascending = sound.ascending;
        started = sound.started;
        gapless = sound.gapless;
        covered = sound.covered;
        attained = sound.attained;
        home = sound.home;
        complete = sound.complete;
        slots = λ m. upd-elim (SoundSlot z.n (λ j. s.vector j j)) s.slot k o m (λ e. c) (λ e. sound.slots m);
        no_server = sound.no_server;
        no_slot = λ m l. upd_other s.slot k o m (λ e. omega arith) ∙ sound.no_slot m l;
      }

  module _ {t : ℕ} {news g : List Write} {v : ℕ → ℕ} (grows : Grows z s t news g v) where
    -- A fact on every write of every log, from the writes that came and those that were there.
    everywhere : (P : Write → Type 0) → ((w : Write) → In w news → P w) → ((i : ℕ) (w : Write) → In w (s.log i) → P w)
        → (i : ℕ) (w : Write) → In w (upd s.log t g i) → P w
    everywhere P came was i w =
        upd-elim (λ (l : List Write). In w l → P w) s.log t g i (λ e m. ⊎_elim (λ m'. came w m') (λ m'. was t w m') (grows.only w m))
        (λ e m. was i w m)

    -- No log loses a write.
    pub grows-keeps : (i : ℕ) (w : Write) → In w (s.log i) → In w (upd s.log t g i)
    grows-keeps i w m =
        upd-elim (λ (l : List Write). In w l) s.log t g i (λ e. grows.old w (subst (λ (k : ℕ). In w (s.log k)) e m)) (λ e. m)

    -- No server's own component falls.
    pub grows-above : (j : ℕ) → s.vector j j ≤ upd s.vector t v j j
    grows-above j =
        upd-elim (λ (u : ℕ → ℕ). s.vector j j ≤ u j) s.vector t v j (λ e. omega (arith, grows.above j, ap (λ k. s.vector k j) e))
        (λ e. omega arith)

    -- What stands at home of an origin other than t stood there.
    home-was : (w : Write) → (w.origin ≡ t → ⊥) → In w (upd s.log t g w.origin) → In w (s.log w.origin)
    home-was w e m = subst (λ (l : List Write). In w l) (upd_other s.log t g w.origin e) m

    home_here : (w : Write) → w.origin ≡ t → In w (upd s.log t g w.origin) → In w g
    home_here w e m = subst (λ (l : List Write). In w l) (upd_same s.log t g w.origin e) m

    by-origin : {A : Type 0} (w : Write) → (w.origin ≡ t → A) → ((w.origin ≡ t → ⊥) → A) → A
    by-origin w yea nay =
        ⊎_elim (λ e. yea (eqb-true w.origin t e)) (λ e. nay (eqb-false w.origin t e)) (either (eqb w.origin t))

    -- Another server's vector covers none of what came.
    complete-other : (i : ℕ) (w : Write) → In w (upd s.log t g w.origin) → w.clock ≤ s.vector i w.origin → In w (s.log i)
    complete-other i w m l =
        by-origin w (λ e. ⊎_elim (λ m'. absurd
        (omega (arith, grows.new_own w m' e, vector-below-own sound i w.origin, ap (λ k. s.vector k k) e)))
        (λ m'. sound.complete i w (subst (λ (k : ℕ). In w (s.log k)) (sym e) m') l) (grows.only w (home_here w e m)))
        (λ e. sound.complete i w (home-was w e m) l)

    complete-here : (w : Write) → In w (upd s.log t g w.origin) → w.clock ≤ v w.origin → In w g
    complete-here w m l = by-origin w (λ e. home_here w e m) (λ e. grows.fetched w e (home-was w e m) l)

    attained-here : (j : ℕ) → (v j ≡ 0) ⊎ Witness g j (v j)
    attained-here j =
        ⊎_elim (λ (e : v j ≡ s.vector t j). ⊎_elim (λ q. inl (e ∙ q)) (λ (f : Witness (s.log t) j (s.vector t j)).
        inr (record { write = f.write; stored = grows.old f.write f.stored; from = f.from; timed = f.timed ∙ sym e }))
        (sound.attained t j)) (λ (f : Witness news j (v j)).
        inr (record { write = f.write; stored = grows.new f.write f.stored; from = f.from; timed = f.timed })) (grows.followed j)

    gapless-here : (w : Write) → In w g → (c : ℕ) → w.clock ≡ suc (suc c) → Timed g (suc c)
    gapless-here w m c e =
        ⊎_elim (λ m'. grows.new_gapless w m' c e) (λ m'.
        let f : Timed (s.log t) (suc c) = sound.gapless t w m' c e in
        record { write = f.write; stored = grows.old f.write f.stored; timed = f.timed }) (grows.only w m)

    covered-here : (w : Write) → In w g → w.clock ≤ v w.origin
    covered-here w m =
        ⊎_elim (λ m'. grows.new_covered w m') (λ m'. omega (arith, sound.covered t w m', grows.above w.origin)) (grows.only w m)

    home-still : (w : Write) → In w news → In w (upd s.log t g w.origin)
    home-still w m =
        ⊎_elim (λ e. subst (λ (l : List Write). In w l) (sym (upd_same s.log t g w.origin e)) (grows.new w m))
        (λ h. grows-keeps w.origin w h) (grows.new_home w m)

    -- The server at t, or another.
    at-server : (i : ℕ) (P : List Write → (ℕ → ℕ) → Type 0) → P g v → P (s.log i) (s.vector i) → P (upd s.log t g i) (upd s.vector t v i)
    unfolding upd
    at-server i P yea nay = cases (eqb i t)
      where
        cases : (b : Bool) → P (cond b g (s.log i)) (cond b v (s.vector i))
        cases true = yea
        cases false = nay

    -- A sound state that grew so is sound.
    pub grows-sound : SoundState z (with_vector (with_log s t g) t v)
    unfolding with_vector with_log
    grows-sound =
        record {
          room = λ i. at-server i (λ l u. length l ≤ z.l) grows.fits (sound.room i);
          origins = everywhere (λ w. w.origin < z.n) grows.new_origin sound.origins;
          items_fit = everywhere (λ w. w.item < items) grows.new_item sound.items_fit;
          ascending = λ i. at-server i (λ l u. Ascending l) grows.ordered (sound.ascending i);
          started = everywhere (λ w. 1 ≤ w.clock) grows.new_started sound.started;
          gapless =
              λ i.
              at-server i (λ l u. (w : Write) → In w l → (c : ℕ) → w.clock ≡ suc (suc c) → Timed l (suc c)) gapless-here (sound.gapless i);
          covered = λ i. at-server i (λ l u. (w : Write) → In w l → w.clock ≤ u w.origin) covered-here (sound.covered i);
          attained = λ i. at-server i (λ l u. (j : ℕ) → (u j ≡ 0) ⊎ Witness l j (u j)) attained-here (sound.attained i);
          home =
              everywhere
              (λ w. In w (upd s.log t g w.origin)) home-still (λ i w m. grows-keeps w.origin w (sound.home i w m));
          complete =
              λ i. at-server i (λ l u. (w : Write) → In w (upd s.log t g w.origin) → w.clock ≤ u w.origin → In w l) complete-here
              (complete-other i);
          slots =
              λ k. slot-above z.n (λ j. s.vector j j) (λ j. upd s.vector t v j j) grows-above (s.slot k) (sound.slots k);
          no_server = λ i l. upd_other s.log t g i (λ e. omega (arith, grows.server)) ∙ sound.no_server i l;
          no_slot = sound.no_slot;
        }
