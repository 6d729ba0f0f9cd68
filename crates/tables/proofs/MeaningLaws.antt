-- A table is sound, by rules a to f on its words, exactly if it is the words of a sound state; and nothing is lost either way.
-- Assumes nothing.
use Prim.Native.Nat.{ℕ, ◌≤◌, ◌*◌}
use Rattle.std.specs.Prelude.{true, ◌&&◌, ◌⊎◌, ◌↔◌, ◌≡◌, refl, eqb, drop}
use mathlib.Core.List.{List, []}
use Rattle.std.proofs.Common.{inl, inr, sym, ◌∙◌, ap₂, subst}
use Rattle.std.proofs.Math.Logic.{⊎_elim}
use Rattle.std.proofs.Math.Path.{ap, subst₂}
use native.Mathlib.Omega.{arith}
use borrow.Author.Tests.{leb-true, eqb-true, le-leb, eq-eqb}
use Rattle.std.proofs.Math.Dec.{leb}
use Rattle.std.proofs.Math.ListN.{length, get_or}
use Rattle.words.specs.CaseLaws.{lt-or-le}
use Rattle.words.specs.ListLaws.{below_in, below-past, in-nil}
use Rattle.words.specs.Tests.{zeros}
use Rattle.words.specs.TestLaws.{and_left, and_right, and_both, all-at, all-make}
use Rattle.logs.specs.Ascending.{ascending_nil}
use Rattle.logs.specs.Places.{width, places}
use Rattle.logs.proofs.PlacesLaws.{length-entries, zeros-places}
use Rattle.tables.specs.Size.{Size, within}
use Rattle.tables.specs.State.{State, closed, empty}
use Rattle.tables.specs.Layout.{size, size_of, encode, decode, count_at, log_part, slot_part}
use Rattle.tables.specs.Sound.{rule_a, rule_b, rule_c, rule_d, rule_e, rule_f, sound_at, sound}
use Rattle.tables.specs.Make.{fresh}
use Rattle.tables.proofs.MakeLaws.{fresh-encode}
use Rattle.tables.specs.SoundState.{SoundState, SoundSlot}
use Rattle.tables.proofs.SoundStateLaws.{rules-sound, rules-slots, closed-zeros, sound-rule_c, sound-rule_d, sound-rule_e, sound-rule_f}
use Rattle.tables.proofs.LayoutLaws.{size_of-encode, fourth-encode, count-encode, length-encode, log_part-encode, slot_part-encode}
use Rattle.tables.proofs.DecodeLaws.{decode-log, decode-slot, decode-encode, encode-decode}
use Rattle.tables.specs.Meaning.{Means}

-- ---- the words of a sound state pass

module _ (z : Size) (s : State) (limits : within z ≡ true) (state : SoundState z s) where
  -- They pass a,
  pub encode-rule_a : rule_a z (encode z s) ≡ true
  unfolding rule_a
  encode-rule_a =
      and_both _ _ limits (and_both _ _ (eq-eqb (get_or (encode z s) 3 0) 0 (fourth-encode z s))
      (eq-eqb (length (encode z s)) (size z) (length-encode z s (λ i l. state.room i))))

  -- b,
  pub encode-rule_b : rule_b z (encode z s) ≡ true
  unfolding rule_b
  encode-rule_b =
      all-make z.n (λ i.
      leb (get_or (encode z s) (count_at z i) 0) z.l && zeros (drop (get_or (encode z s) (count_at z i) 0 * width) (log_part z (encode z s) i)))
      (λ i l. subst₂ (λ (c : ℕ) (ws : List ℕ). (leb c z.l && zeros (drop (c * width) ws)) ≡ true) (sym (count-encode z s i l))
      (sym (log_part-encode z s (λ j m. state.room j) i l)) (and_both (leb (length (s.log i)) z.l)
      (zeros (drop (length (s.log i) * width) (places z.l (s.log i)))) (le-leb (length (s.log i)) z.l (state.room i))
      (zeros-places z.l (s.log i))))

  encode-sound_at : sound_at z s (encode z s) ≡ true
  unfolding sound_at
  encode-sound_at =
      and_both (rule_a z (encode z s)) _ encode-rule_a (and_both (rule_b z (encode z s)) _ encode-rule_b (and_both (rule_c z s) _
      (sound-rule_c state) (and_both (rule_d z s) _ (sound-rule_d state)
      (and_both (rule_e z s) _ (sound-rule_e state) (sound-rule_f state (encode z s) (slot_part-encode z s (λ i l. state.room i)))))))

  -- and so all six.
  pub encode-sound : sound (encode z s) ≡ true
  unfolding sound
  encode-sound =
      subst₂ (λ (y : Size) (u : State). sound_at y u (encode z s) ≡ true) (sym (size_of-encode z s))
      (sym (ap (λ y. decode y (encode z s)) (size_of-encode z s) ∙ decode-encode z s state)) encode-sound_at

-- ---- a table that passes is the words of a sound state

module _ (z : Size) (t : List ℕ) (passes : sound_at z (decode z t) t ≡ true) where
  a-holds : rule_a z t ≡ true
  unfolding sound_at
  a-holds = and_left (rule_a z t) _ passes

  past-a : (rule_b z t && (rule_c z (decode z t) && (rule_d z (decode z t) && (rule_e z (decode z t) && rule_f z (decode z t) t)))) ≡ true
  unfolding sound_at
  past-a = and_right (rule_a z t) _ passes

  b-holds : rule_b z t ≡ true
  b-holds = and_left (rule_b z t) _ past-a

  past-b : (rule_c z (decode z t) && (rule_d z (decode z t) && (rule_e z (decode z t) && rule_f z (decode z t) t))) ≡ true
  past-b = and_right (rule_b z t) _ past-a

  past-c : (rule_d z (decode z t) && (rule_e z (decode z t) && rule_f z (decode z t) t)) ≡ true
  past-c = and_right (rule_c z (decode z t)) _ past-b

  past-d : (rule_e z (decode z t) && rule_f z (decode z t) t) ≡ true
  past-d = and_right (rule_d z (decode z t)) _ past-c

  f-holds : rule_f z (decode z t) t ≡ true
  f-holds = and_right (rule_e z (decode z t)) _ past-d

  no_server : (i : ℕ) → z.n ≤ i → (decode z t).log i ≡ []
  unfolding decode
  no_server i l = below-past z.n _ [] i l

  no-slot : (k : ℕ) → z.p ≤ k → (decode z t).slot k ≡ closed
  unfolding decode
  no-slot k l = below-past z.p _ closed k l

  outside : (i j : ℕ) → (z.n ≤ i) ⊎ (z.n ≤ j) → (decode z t).vector i j ≡ 0
  unfolding decode
  outside i j (inl l) = ap (λ (v : ℕ → ℕ). v j) (below-past z.n _ (λ m. 0) i l)
  outside i j (inr l) =
      ⊎_elim (λ m. ap (λ (v : ℕ → ℕ). v j) (below_in z.n _ (λ c. 0) i m) ∙ below-past z.n _ 0 j l)
      (λ m. ap (λ (v : ℕ → ℕ). v j) (below-past z.n _ (λ c. 0) i m)) (lt-or-le i z.n)

  fits : (i : ℕ) → length ((decode z t).log i) ≤ z.l
  unfolding rule_b
  fits i =
      ⊎_elim (λ m.
      let count = get_or t (count_at z i) 0 in
      let b = all-at z.n _ b-holds i m in
      omega (
        arith,
        ap length (decode-log z t i m),
        length-entries count (log_part z t i),
        leb-true count z.l (and_left (leb count z.l) (zeros (drop (count * width) (log_part z t i))) b),
      ))
      (λ m. omega (arith, ap length (no_server i m))) (lt-or-le i z.n)

  slots-sound : (k : ℕ) → SoundSlot z.n (λ j. (decode z t).vector j j) ((decode z t).slot k)
  slots-sound k =
      ⊎_elim
      (λ m. subst (SoundSlot z.n (λ j. (decode z t).vector j j)) (sym (decode-slot z t k m)) (rules-slots z (decode z t) t f-holds k m))
      (λ m. subst (SoundSlot z.n (λ j. (decode z t).vector j j)) (sym (no-slot k m)) tt) (lt-or-le k z.p)

  decoded-state : SoundState z (decode z t)
  decoded-state =
      rules-sound z (decode z t) fits no_server no-slot outside (and_left (rule_c z (decode z t)) _ past-b)
      (and_left (rule_d z (decode z t)) _ past-c) (and_left (rule_e z (decode z t)) _ past-d) slots-sound

  decoded-words : size_of t ≡ z → encode z (decode z t) ≡ t
  unfolding rule_a rule_f
  decoded-words e =
      let past = and_right (within z) _ a-holds in
      encode-decode z t e (eqb-true (get_or t 3 0) 0 (and_left (eqb (get_or t 3 0) 0) _ past))
      (eqb-true (length t) (size z) (and_right (eqb (get_or t 3 0) 0) _ past)) b-holds (λ k m.
      closed-zeros z.n (λ j. (decode z t).vector j j) (slot_part z t k) (all-at z.p _ f-holds k m))

  decoded-limits : within z ≡ true
  unfolding rule_a
  decoded-limits = and_left (within z) _ a-holds

-- ---- both ways

-- A sound table means the state that its words decode to.
pub sound-means : (t : List ℕ) → sound t ≡ true → Means (size_of t) (decode (size_of t) t) t
unfolding sound
sound-means t h =
    record {
      limits = decoded-limits (size_of t) t h;
      state = decoded-state (size_of t) t h;
      words = sym (decoded-words (size_of t) t h refl);
    }

module _ {z : Size} {s : State} {t : List ℕ} (means : Means z s t) where
  -- A table that means a sound state is sound,
  pub means-sound : sound t ≡ true
  means-sound = ap sound means.words ∙ encode-sound z s means.limits means.state

  -- its header is the size,
  pub means-size : size_of t ≡ z
  means-size = ap size_of means.words ∙ size_of-encode z s

  -- and its words decode to the state.
  pub means-state : decode (size_of t) t ≡ s
  means-state = ap₂ decode means-size means.words ∙ decode-encode z s means.state

-- "All of these, else refusal 1": a table is sound exactly if it is the words of a sound state within the limits.
pub sound-exactly : (t : List ℕ) → (sound t ≡ true) ↔ ((z : Size) × (s : State) × Means z s t)
sound-exactly t = (λ h. (size_of t, decode (size_of t) t, sound-means t h), λ m. means-sound m.2)

-- From words to the state and back, and from a sound state to its words and back, nothing is lost.
pub words-kept : (t : List ℕ) → sound t ≡ true → encode (size_of t) (decode (size_of t) t) ≡ t
words-kept t h = sym (sound-means t h).words

-- And the other way round.
pub state-kept : (z : Size) (s : State) → SoundState z s → (size_of (encode z s) ≡ z) × (decode z (encode z s) ≡ s)
state-kept z s h = (size_of-encode z s, decode-encode z s h)

-- ---- a fresh table

-- The empty state is sound.
pub empty-sound : (z : Size) → SoundState z empty
unfolding empty
empty-sound z =
    record {
      room = λ i. omega arith;
      origins = λ i w m. in-nil m;
      items_fit = λ i w m. in-nil m;
      ascending = λ i. ascending_nil;
      started = λ i w m. in-nil m;
      gapless = λ i w m. in-nil m;
      covered = λ i w m. in-nil m;
      attained = λ i j. inl refl;
      home = λ i w m. in-nil m;
      complete = λ i w m. in-nil m;
      slots = λ k. tt;
      no_server = λ i l. refl;
      no_slot = λ k l. refl;
    }

-- A fresh table is the words of the empty state, and so is sound.
pub fresh-means : (z : Size) → within z ≡ true → Means z empty (fresh z)
fresh-means z limits = record { limits = limits; state = empty-sound z; words = fresh-encode z }

-- A fresh table is sound.
pub fresh-sound : (z : Size) → within z ≡ true → sound (fresh z) ≡ true
fresh-sound z limits = means-sound (fresh-means z limits)
