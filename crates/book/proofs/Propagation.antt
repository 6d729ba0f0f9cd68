-- A write that a server accepts follows, at every server and for ever, each write that its server held: C1 orders it behind, and C2 lets
-- it travel no faster. Assumes nothing.
use Rattle.std.specs.Prelude.{ℕ, ◌<◌, ◌⊎◌, ◌≡◌, refl, eqb}
use mathlib.Core.List.{List, [], ◌∷◌, ◌++◌}
use Rattle.std.proofs.Common.{⊎_elim, inl, inr, sym, ◌∙◌, subst₂, arith, eqb-true}
use Rattle.std.proofs.Math.Path.{subst, ap}
use Rattle.std.proofs.lemmas.Bool.{eqb-false}
use Rattle.words.specs.TestLaws.{either}
use Rattle.words.specs.Lists.{In, here, upd}
use Rattle.words.specs.ListLaws.{in_one, in_append_left, in_append_right, in-append-cases, upd-elim}
use Rattle.logs.specs.Write.{Write}
use Rattle.logs.specs.Log.{insert_all}
use Rattle.logs.proofs.LogLaws.{in-insert_all, insert_all-old}
use Rattle.tables.specs.Size.{Size}
use Rattle.tables.specs.State.{State, with_vector, with_log, with_slot}
use Rattle.tables.specs.SoundState.{SoundState}
use Rattle.rules.specs.Done.{WriteDone}
use Rattle.rules.specs.Step.{Op, Answer}
use Rattle.rules.specs.StepLaws.{InRange}
use Rattle.rules.specs.Rules.{new_write, accepted, sent, received}
use Rattle.rules.specs.Effects.{Effect, was_refused, was_opened, was_closed, was_read, was_written, was_exchanged}
use Rattle.rules.proofs.Arrivals.{new-clock, sent-from, sent-after}
use Rattle.rules.proofs.SoundKept.{effect-keeps}
use Rattle.book.specs.Propagation.{Precedes}

same_or_not : (a b : ℕ) → (a ≡ b) ⊎ (a ≡ b → ⊥)
same_or_not a b = ⊎_elim (λ e. inl (eqb-true a b e)) (λ e. inr (eqb-false a b e)) (either (eqb a b))

module _ {z : Size} {s : State} (sound : SoundState z s) where
  -- A new write is nowhere yet.
  new-nowhere : {A : Type 0} (j item value : ℕ) → j < z.n → (i : ℕ) → In (new_write z s j item value) (s.log i) → A
  unfolding new_write
  new-nowhere j item value h i m =
      absurd (omega (arith, new-clock sound j item value h (new_write z s j item value) (sound.home i (new_write z s j item value) m)))

  -- What a server holds precedes the write that it accepts.
  pub accepted-precedes : {after : State} {k item value reach : ℕ} {r : Answer} (d : WriteDone z s k item value reach r after)
      → (w₁ : Write) → In w₁ (s.log d.server) → Precedes after w₁ d.write
  unfolding new_write
  accepted-precedes {after} {item = item} {value = value} d w₁ m =
      let j = d.server in
      let w₂ = d.write in
      record {
        ordered = d.last w₁ m;
        made = subst (λ (i : ℕ). In w₂ (after.log i)) (sym (ap (λ w. w.origin) d.write_is))
            (subst (λ (g : List Write). In w₂ g) (sym d.stored) (in_append_right (s.log j) (here refl)));
        along = λ i m'. at-server i (same_or_not i d.server) m';
      }
    where
      new_is : record { origin = d.server; clock = d.clock; item = item; value = value } ≡ new_write z s d.server item value
      new_is = ap (λ (c : ℕ). record { origin = d.server; clock = c; item = item; value = value }) d.clocked

      at-server : (i : ℕ) → (i ≡ d.server) ⊎ (i ≡ d.server → ⊥) → In d.write (after.log i) → In w₁ (after.log i)
      at-server i (inl e) l =
          subst (λ (g : List Write). In w₁ g) (sym (ap after.log e ∙ d.stored)) (in_append_left (d.write ∷ []) m)
      at-server i (inr e) l =
          new-nowhere d.server item value d.chosen.server i
          (subst₂ (λ (w : Write) (g : List Write). In w g) (d.write_is ∙ new_is) (d.other_logs i e) l)

  module _ (w₁ w₂ : Write) (precedes : Precedes s w₁ w₂) where
    along-written : (j item value : ℕ) → j < z.n → (i : ℕ)
        → In w₂ (upd s.log j (s.log j ++ (new_write z s j item value ∷ [])) i)
        → In w₁ (upd s.log j (s.log j ++ (new_write z s j item value ∷ [])) i)
    along-written j item value h i =
        let w = new_write z s j item value in
        upd-elim (λ (g : List Write). In w₂ g → In w₁ g) s.log j (s.log j ++ (w ∷ [])) i (λ e m. in_append_left (w ∷ []) (⊎_elim
        (λ m'. precedes.along j m')
        (λ m'. new-nowhere j item value h w₂.origin (subst (λ (x : Write). In x (s.log w₂.origin)) (in_one m') precedes.made))
        (in-append-cases (s.log j) m))) (λ e m. precedes.along i m)

    along-received : (source target most i : ℕ)
        → In w₂ (upd s.log target (insert_all (sent z s source target most) (s.log target)) i)
        → In w₁ (upd s.log target (insert_all (sent z s source target most) (s.log target)) i)
    along-received source target most i =
        let ws = sent z s source target most in
        upd-elim (λ (g : List Write). In w₂ g → In w₁ g) s.log target (insert_all ws (s.log target)) i (λ e m. ⊎_elim (λ m'. sent-after
        sound source target most w₂ w₁ m' (precedes.along source (sent-from sound source target most w₂ m')) precedes.ordered)
        (λ m'. insert_all-old ws (precedes.along target m')) (in-insert_all ws (s.log target) m)) (λ e m. precedes.along i m)

    -- No step parts them.
    pub effect-precedes : {o : Op} {r : Answer} {after : State} → InRange z o → Effect z s o r after → Precedes after w₁ w₂
    unfolding accepted received with_slot with_vector with_log
    effect-precedes range effect =
        record {
          ordered = precedes.ordered;
          made = effect-keeps sound range effect w₂.origin w₂ precedes.made;
          along = along effect;
        }
      where
        along : {o : Op} {r : Answer} {after : State} → Effect z s o r after → (i : ℕ) → In w₂ (after.log i) → In w₁ (after.log i)
        along (was_refused code h) i m = precedes.along i m
        along (was_opened e) i m = precedes.along i m
        along (was_closed q e) i m = precedes.along i m
        along (was_read q j e c) i m = precedes.along i m
        along (was_written {item = item} {value = value} q j e c) i m = along-written j item value c.server i m
        along (was_exchanged {source = source} {target = target} {most = most} e) i m = along-received source target most i m
