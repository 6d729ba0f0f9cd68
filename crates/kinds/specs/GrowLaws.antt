-- What a table's words are when a server's log has grown, by one write at the end or by several in their places. Assumes nothing.
use Rattle.std.specs.Prelude.{ℕ, ◌+◌, ◌-◌, ◌*◌, ◌<◌, ◌≤◌, List, [], ◌∷◌, ◌++◌, ◌≡◌, length, set, take, drop}
use Rattle.std.proofs.Common.{sym, ◌∙◌, ap, ap₂, arith, length-append}
use Rattle.words.specs.Lists.{splice}
use Rattle.words.specs.SpanLaws.{span}
use Rattle.words.specs.LentLaws.{lent, length-lent, length_back}
use Rattle.logs.specs.Write.{Write}
use Rattle.logs.specs.Log.{insert_all}
use Rattle.logs.proofs.LogLaws.{length-insert_all}
use Rattle.logs.specs.Ascending.{Ascending}
use Rattle.logs.specs.Places.{width, places}
use Rattle.tables.specs.Size.{Size}
use Rattle.tables.specs.State.{with_log}
use Rattle.tables.specs.Layout.{count_at, log_at, encode, decode, log_part}
use Rattle.tables.proofs.BoundLaws.{log-within}
use Rattle.tables.proofs.ViewLaws.{room-view, length-view, log-view}
use Rattle.tables.proofs.PutLaws.{put-log}
use Rattle.kinds.specs.Obeys.{Held, Fitting}

-- Server i's places, lent from one place to another: the table has as many words once they are back.
module _ {z : Size} {t : List ℕ} (held : Held z t) (i : ℕ) (h : i < z.n) {from to : ℕ} (begins : from ≡ log_at z i) (ends : to ≡ from + z.l * width) where
  pub log_back : (left : List ℕ) → length left ≡ length (take (to - from) (drop from t)) → length (take from t ++ (left ++ drop (to - from) (drop from t))) ≡ length t
  log_back left = length_back t left (z.l * width) begins ends (omega (arith, length-view held, log-within z i h))

-- Server i's log, whose count was read and whose places are lent from one place to another.
module _ {z : Size} {t : List ℕ} (held : Held z t) (i : ℕ) (h : i < z.n)
    {count from to : ℕ} (many : count ≡ length ((decode z t).log i)) (begins : from ≡ log_at z i) (ends : to ≡ from + z.l * width) where
  -- How many places are lent.
  pub log-lent : length (take (to - from) (drop from t)) ≡ z.l * width
  log-lent = length-lent t (z.l * width) begins ends (omega (arith, length-view held, log-within z i h))

  -- They hold the log.
  places-lent : take (to - from) (drop from t) ≡ places z.l ((decode z t).log i)
  unfolding log_part
  places-lent = span t (z.l * width) begins ends ∙ log-view held i h

  -- Another log and its count.
  log-stored : (g : List Write) {left : List ℕ} {at size : ℕ} → left ≡ places z.l g → at ≡ count_at z i → size ≡ length g
      → set (take from t ++ (left ++ drop (to - from) (drop from t))) at size ≡ encode z (with_log (decode z t) i g)
  log-stored g {at = at} {size = size} so there counted =
      ap (λ (ws : List ℕ). set ws at size) (lent t (z.l * width) begins ends so
      ∙ ap (λ (ws : List ℕ). splice (log_at z i) (z.l * width) ws (places z.l g)) held.words)
      ∙ (ap₂ (set (splice (log_at z i) (z.l * width) (encode z (decode z t)) (places z.l g))) there counted
      ∙ put-log z (decode z t) i h (room-view held) g)

  -- One write more, as the code promises it of any log.
  pub write-added : (w : Write) {left : List ℕ} {at : ℕ} → length ((decode z t).log i) < z.l
      → ((l : ℕ) (g : List Write) → take (to - from) (drop from t) ≡ places l g → length g ≡ count → count < l → left ≡ places l (g ++ (w ∷ [])))
      → at ≡ count_at z i
      → set (take from t ++ (left ++ drop (to - from) (drop from t))) at (count + 1) ≡ encode z (with_log (decode z t) i ((decode z t).log i ++ (w ∷ [])))
  write-added w free added there =
      let log = (decode z t).log i in
      log-stored (log ++ (w ∷ [])) (added z.l log places-lent (sym many) (omega arith)) there (omega (arith, length-append log (w ∷ [])))

  -- Several, each in its place.
  pub writes-inserted : {ws : List Write} {k at : ℕ} {left : List ℕ} → Fitting z (decode z t) i ws → k ≡ length ws
      → ((l : ℕ) (g : List Write) → take (to - from) (drop from t) ≡ places l g → length g ≡ count → count + k ≤ l → Ascending g → Ascending ws → left ≡ places l (insert_all ws g))
      → at ≡ count_at z i
      → set (take from t ++ (left ++ drop (to - from) (drop from t))) at (count + k) ≡ encode z (with_log (decode z t) i (insert_all ws ((decode z t).log i)))
  writes-inserted {ws} fitting many-more inserted there =
      let log = (decode z t).log i in
      log-stored (insert_all ws log) (inserted z.l log places-lent (sym many) (omega (arith, fitting.fit)) (held.state.ascending i) fitting.ordered) there
      (omega (arith, length-insert_all ws log))
