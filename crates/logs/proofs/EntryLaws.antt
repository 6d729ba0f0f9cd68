-- What holds of a log's first places, of a place into which a write is put, and of a log that has grown. Assumes nothing.
use Prim.Native.Nat.{ℕ, zero, suc, ◌+◌, ◌-◌, ◌*◌, ◌<◌, ◌≤◌}
use Rattle.std.specs.Prelude.{true, ◌≡◌, length, take, drop, get_or, map, ◌/◌}
use mathlib.Core.List.{List, [], ◌∷◌, ◌++◌}
use Rattle.std.proofs.Math.Path.{refl, ap, ap₂}
use Rattle.std.proofs.Common.{sym, ◌∙◌, subst, zero-add, suc-add, take-append-drop, drop-drop}
use native.Mathlib.Omega.{arith}
use Rattle.words.specs.Lists.{In, here}
use Rattle.words.specs.ListLaws.{in_append_right}
use Rattle.words.specs.SpliceLaws.{length-splice, take-splice, drop-splice, drop-splice-past, zeros-drop}
use Rattle.words.specs.Tests.{zeros}
use Rattle.logs.specs.Write.{Write}
use Rattle.std.specs.Simd.{first_chunks}
use Rattle.std.proofs.Math.Seq.{length-take-le, take-take, get_or_at}
use Rattle.std.proofs.lemmas.List.{get_or-map}
use Rattle.logs.specs.Places.{spelled, places, entry, entries, write_in}
use Rattle.logs.proofs.PlacesLaws.{length-entries, length-places, entries-spelled, entries-places, zeros-places, spelled-entries, places-entries}
use Rattle.logs.specs.EntryLaws.{put_at}

-- ---- the first places

-- The first e places, then m more.
pub entries-add : (e m : ℕ) (ws : List ℕ) → entries (e + m) ws ≡ entries e ws ++ entries m (drop (e * 4) ws)
unfolding entries
entries-add zero m ws = ap (λ n. entries n ws) (zero-add m)
entries-add (suc e) m ws =
    let next : 4 + e * 4 ≡ suc e * 4 = omega arith in
    ap (λ n. entries n ws) (suc-add e m)
    ∙ ap {B = List Write} (λ r. entry ws ∷ r) (entries-add e m (drop 4 ws)
    ∙ ap (λ (r : List ℕ). entries e (drop 4 ws) ++ entries m r) (drop-drop (e * 4) 4 ws ∙ ap (λ n. drop n ws) next))

-- One place more.
pub entries_next : (e : ℕ) (ws : List ℕ) → entries (e + 1) ws ≡ entries e ws ++ (entry (drop (e * 4) ws) ∷ [])
unfolding entries
entries_next e ws = entries-add e 1 ws

-- A place below the count holds one of the log's writes.
pub in-entries : (e count : ℕ) (ws : List ℕ) → e < count → In (entry (drop (e * 4) ws)) (entries count ws)
unfolding entries
in-entries e count ws h =
    let more : count ≡ e + suc (count - suc e) = omega arith in
    subst (λ (g : List Write). In (entry (drop (e * 4) ws)) g) (sym (ap (λ n. entries n ws) more ∙ entries-add e (suc (count - suc e)) ws))
    (in_append_right (entries e ws) (here refl))

-- The writes that words spell, whatever stands behind them.
pub entries-front : (e : ℕ) (g : List Write) (rest : List ℕ) → length g ≡ e → entries e (spelled g ++ rest) ≡ g
entries-front e g rest h = ap (λ n. entries n (spelled g ++ rest)) (sym h) ∙ entries-spelled g rest

-- The first places depend on their own words only.
pub entries-same : (e : ℕ) (ws vs : List ℕ) → e * 4 ≤ length ws → take (e * 4) vs ≡ take (e * 4) ws → entries e vs ≡ entries e ws
entries-same e ws vs h same =
    ap (entries e) (sym (take-append-drop (e * 4) vs) ∙ ap (λ (r : List ℕ). r ++ drop (e * 4) vs) (same ∙ sym (spelled-entries e ws h)))
    ∙ entries-front e (entries e ws) (drop (e * 4) vs) (length-entries e ws)

-- ---- places lent one by one

-- A place is its first four words.
entry-take : (ws : List ℕ) → write_in (take 4 ws) ≡ entry ws
unfolding entry
entry-take [] = refl
entry-take (a ∷ []) = refl
entry-take (a ∷ b ∷ []) = refl
entry-take (a ∷ b ∷ c ∷ []) = refl
entry-take (a ∷ b ∷ c ∷ d ∷ ws) = refl

-- Words by fours say what the places say.
pub entries-chunks : (count : ℕ) (ws : List ℕ) → map write_in (first_chunks 4 count ws) ≡ entries count ws
unfolding entries
entries-chunks zero ws = refl
entries-chunks (suc count) ws = ap₂ {C = List Write} (λ w g. w ∷ g) (entry-take ws) (entries-chunks count (drop 4 ws))

-- The first words by fours, as many as fit.
pub places-chunks : (count : ℕ) (ws : List ℕ) → count * 4 ≤ length ws
    → map write_in (first_chunks 4 (length (take (count * 4) ws) / 4) (take (count * 4) ws)) ≡ entries count ws
places-chunks count ws h =
    let size : length (take (count * 4) ws) ≡ count * 4 = length-take-le (count * 4) ws h in
    let many : length (take (count * 4) ws) / 4 ≡ count = omega (arith, size) in
    ap (λ n. map write_in (first_chunks 4 n (take (count * 4) ws))) many
    ∙ (entries-chunks count (take (count * 4) ws) ∙ entries-same count ws (take (count * 4) ws) h (take-take (count * 4) (count * 4) ws (omega arith)))

-- One of the first n places.
pub place-at : (e n : ℕ) (ws : List ℕ) (ps : List (List ℕ)) (d : List ℕ) → map write_in ps ≡ entries n ws → length ps ≡ n → e < n
    → write_in (get_or ps e d) ≡ entry (drop (e * 4) ws)
unfolding entries
place-at e n ws ps d says many h =
    let more : e + suc (n - suc e) ≡ n = omega arith in
    sym (get_or-map write_in ps e d (write_in d) (omega (arith, many)))
    ∙ (ap (λ (g : List Write). get_or g e (write_in d)) (says ∙ (ap (λ m. entries m ws) (sym more) ∙ entries-add e (suc (n - suc e)) ws))
    ∙ get_or_at (entries e ws) (entry (drop (e * 4) ws)) (entries (n - suc e) (drop 4 (drop (e * 4) ws))) (write_in d) e (length-entries e ws))

-- ---- a write put into place e

module _ (e : ℕ) (ws : List ℕ) (w : Write) (h : e * 4 + 4 ≤ length ws) where
  -- The log has as many words as before.
  pub length-put : length (put_at e ws w) ≡ length ws
  unfolding spelled
  length-put = length-splice (e * 4) 4 ws (spelled (w ∷ [])) h refl

  -- The places in front of it stay.
  pub take_put : (m : ℕ) → m ≤ e → take (m * 4) (put_at e ws w) ≡ take (m * 4) ws
  unfolding spelled
  take_put m l = take-splice (e * 4) 4 ws (spelled (w ∷ [])) h refl (m * 4) (omega arith)

  -- The places behind it stay.
  pub drop-put : (m : ℕ) → e < m → drop (m * 4) (put_at e ws w) ≡ drop (m * 4) ws
  unfolding spelled
  drop-put m l = drop-splice-past (e * 4) 4 ws (spelled (w ∷ [])) h refl (m * 4) (omega arith)

  -- The write, and m places behind it.
  pub entries-put : (m : ℕ) → entries (suc m) (drop (e * 4) (put_at e ws w)) ≡ w ∷ entries m (drop (suc e * 4) ws)
  unfolding spelled entries entry
  entries-put m =
      let next : e * 4 + 4 ≡ suc e * 4 = omega arith in
      ap (entries (suc m)) (drop-splice (e * 4) 4 ws (spelled (w ∷ [])) h refl)
      ∙ ap (λ n. w ∷ entries m (drop n ws)) next

  -- The places up to it.
  pub entries-put-last : entries (e + 1) (put_at e ws w) ≡ entries e ws ++ (w ∷ [])
  unfolding entries
  entries-put-last =
      entries-add e 1 (put_at e ws w)
      ∙ ap₂ (λ (front last : List Write). front ++ last) (entries-same e ws (put_at e ws w) (omega arith) (take_put e (omega arith))) (entries-put 0)

-- ---- a log that has grown

-- A log's places hold its writes.
pub entries-held : (l : ℕ) (g : List Write) {count : ℕ} {ws : List ℕ} → ws ≡ places l g → length g ≡ count → entries count ws ≡ g
entries-held l g {count} held e = ap (entries count) held ∙ (ap (λ n. entries n (places l g)) (sym e) ∙ entries-places l g)

-- From each place past its writes on a log's words are all zero.
pub zeros-past : (l : ℕ) (g : List Write) (n : ℕ) → length g ≤ n → zeros (drop (n * 4) (places l g)) ≡ true
zeros-past l g n h =
    let more : length g * 4 + (n - length g) * 4 ≡ n * 4 = omega arith in
    let past = drop-drop ((n - length g) * 4) (length g * 4) (places l g) ∙ ap (λ m. drop m (places l g)) more in
    subst (λ (r : List ℕ). zeros r ≡ true) past (zeros-drop ((n - length g) * 4) (drop (length g * 4) (places l g)) (zeros-places l g))

-- Words that are as in a log's places from place n on, which is past its writes, are the places of their first n writes.
pub places-grown : (l : ℕ) (g : List Write) (n : ℕ) {old ws : List ℕ} → old ≡ places l g → length g ≤ n → n ≤ l → length ws ≡ length old
    → drop (n * 4) ws ≡ drop (n * 4) old
    → ws ≡ places l (entries n ws)
places-grown l g n {ws = ws} held h room size past =
    sym (places-entries l n ws (size ∙ (ap length held ∙ length-places l g (omega arith))) room
    (ap zeros (past ∙ ap (drop (n * 4)) held) ∙ zeros-past l g n h))

-- A write put behind a log's writes.
pub places-put : (l : ℕ) (g : List Write) (count : ℕ) (ws : List ℕ) (w : Write) → count * 4 + 4 ≤ length ws → ws ≡ places l g → length g ≡ count
    → count < l
    → put_at count ws w ≡ places l (g ++ (w ∷ []))
places-put l g count ws w h held e room =
    places-grown l g (count + 1) held (omega arith) (omega arith) (length-put count ws w h) (drop-put count ws w h (count + 1) (omega arith))
    ∙ ap (places l) (entries-put-last count ws w h ∙ ap (λ (front : List Write). front ++ (w ∷ [])) (entries-held l g held e))
