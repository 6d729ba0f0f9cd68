-- What a session chose is what its opening asked for, from the accepted open of its slot to the accepted close. Assumes nothing.
use Rattle.std.specs.Prelude.{ℕ, suc, ◌<◌, Bool, true, List, [], ◌∷◌, ◌++◌, ◌↔◌, ◌≡◌, get_or}
use Rattle.std.proofs.Common.{⊎_elim, ◌∙◌}
use Rattle.std.proofs.Math.Path.{ap, subst}
use Rattle.words.specs.CaseLaws.{lt-or-le}
use Rattle.tables.specs.Size.{Size}
use Rattle.tables.specs.State.{Session, opened, State}
use Rattle.tables.proofs.StateLaws.{one-session, not-both}
use Rattle.tables.specs.Layout.{size_of, decode, guarantees_at}
use Rattle.tables.specs.Sound.{sound}
use Rattle.tables.specs.Meaning.{Means}
use Rattle.tables.proofs.MeaningLaws.{sound-means, means-state}
use Rattle.tables.proofs.ViewLaws.{guarantees-view}
use Rattle.rules.specs.Step.{Step}
use Rattle.rules.specs.Calls.{onward, walk, step}
use Rattle.rules.specs.Done.{OpenDone}
use Rattle.rules.proofs.Exact.{open-exactly}
use Rattle.book.specs.Terms.{after, Opens, Lasts, Chose}
use Rattle.book.specs.Session.{Still}
use Rattle.book.specs.Moments.{state_after}
use Rattle.book.proofs.Moments.{after-sound, means-after, still_after}
use Rattle.book.specs.Opening.{Has}

-- A session that lasts over one schedule behind another lasts over each.
pub lasts-behind : (k : ℕ) (t : List ℕ) (xs ys : List Step) → Lasts k t (xs ++ ys) → Lasts k (after t xs) ys
unfolding after walk onward
lasts-behind k t [] ys lasts = lasts
lasts-behind k t (x ∷ xs) ys lasts = lasts-behind k (step t x).table xs ys lasts.1

pub lasts-front : (k : ℕ) (t : List ℕ) (xs ys : List Step) → Lasts k t (xs ++ ys) → Lasts k t xs
lasts-front k t [] ys lasts = tt
lasts-front k t (x ∷ xs) ys lasts = (lasts.0, lasts-front k (step t x).table xs ys lasts.1)

-- An open slot is one of the table's.
open-below : {z : Size} {s : State} {t : List ℕ} → Means z s t → (k : ℕ) (q : Session) → s.slot k ≡ opened q → k < z.p
open-below {z} means k q e = ⊎_elim (λ l. l) (λ l. not-both e (means.state.no_slot k l)) (lt-or-le k z.p)

-- Any sound table, the step that opens slot k, and a schedule behind it that does not close the slot.
module _ (t : List ℕ) (is_sound : sound t ≡ true) (o : Step) (k g : ℕ) (opens : Opens t o k g) (xs : List Step) (lasts : Lasts k (after t (o ∷ [])) xs) where
  -- The table behind the schedule.
  abbrev then : List ℕ
  then = after (after t (o ∷ [])) xs

  -- The session is open then, with the sum that the opening asked for.
  pub has-asked : Has then k g
  unfolding after walk onward
  has-asked =
      let done : OpenDone (decode (size_of t) t) o.a o.b (step t o).answer (decode (size_of (step t o).table) (step t o).table) =
      open-exactly t o is_sound opens.accepted opens.kind in
      let means = sound-means (step t o).table (after-sound t (o ∷ []) is_sound) in
      let here : (decode (size_of (step t o).table) (step t o).table).slot k ≡ opened done.next =
      subst (λ (m : ℕ). (decode (size_of (step t o).table) (step t o).table).slot m ≡ opened done.next) opens.slot done.now_open in
      let still : Still (state_after _ _ xs) k done.next = still_after means k done.next here xs lasts in
      record {
        session = still.session;
        is = ap (λ u. u.slot k) (means-state (means-after means xs)) ∙ still.is;
        sum = still.later.chosen ∙ (done.chosen ∙ opens.asked);
      }

  -- In words: the slot's first word is one more than that sum.
  pub asked-word : get_or then (guarantees_at (size_of then) k) 0 ≡ suc g
  asked-word =
      let means : Means (size_of then) (decode (size_of then) then) then = sound-means then (after-sound (after t (o ∷ [])) xs (after-sound t (o ∷ []) is_sound)) in
      guarantees-view means k (open-below means k has-asked.session has-asked.is) has-asked.session has-asked.is ∙ ap suc has-asked.sum

  -- So a guarantee is chosen then exactly if it was asked for.
  pub chose-exactly : (guarantee : ℕ → Bool) → Chose then k guarantee ↔ (guarantee g ≡ true)
  chose-exactly guarantee = (
    λ c. subst (λ (m : ℕ). guarantee m ≡ true) (ap (λ q. q.guarantees) (one-session c.is has-asked.is) ∙ has-asked.sum) c.chosen,
    λ e. record { session = has-asked.session; is = has-asked.is; chosen = ap guarantee has-asked.sum ∙ e },
  )
