-- What holds of the search order and of reach. Assumes nothing.
use Rattle.std.specs.Prelude.{ℕ, zero, suc, ◌+◌, ◌-◌, ◌*◌, ◌/◌, ◌%◌, ◌^◌, ◌<◌, ◌≤◌, Bool, true, false, ◌&&◌, List, ◌∷◌, ◌++◌, ◌≡◌, refl, length, eqb}
use Rattle.std.proofs.Common.{⊎_elim, sym, ◌∙◌, ap, ap₂, subst, pow-suc, div-one, one-mul, mul-add, mul-one, mul_assoc, arith}
use Rattle.std.proofs.Math.Option.{none, some}
use Rattle.std.proofs.Math.Nat.{pow-succ', div-div-eq-div-mul, zero-div, div-eq_of_lt}
use borrow.Author.Tests.{eqb-true, eqb-false, eq-eqb, ne_eqb, ltb-true, lt-ltb}
use Rattle.words.specs.Tests.{all}
use Rattle.words.specs.CaseLaws.{lt-or-le}
use Rattle.words.specs.Lists.{In, here, there}
use Rattle.words.specs.ListLaws.{in-nil, in-cons, in_append_left, in_append_right, Found, first_found, first-none}
use Rattle.words.specs.TestLaws.{cond-elim, cond-true, cond-false, either, true-not-false, and_left, and_right, and_both, not-true-false, all-at}
use Rattle.tables.specs.Size.{Size, sums}
use Rattle.tables.specs.State.{Session, opened, State}
use Rattle.tables.specs.SoundState.{SoundState, SoundSession, SoundSlot}
use Rattle.rules.specs.Chosen.{Chosen, Reachable}
use Rattle.rules.specs.Step.{reach_in_range}
use Rattle.rules.specs.Choice.{reaches, start_of, next, onwards, around, choose, up_to_date_to_write, has_room, may_write_to, read_your_writes, monotonic_reads, writes_follow_reads, monotonic_writes}
use Rattle.rules.specs.ChoiceLaws.{bits, reach_bits, up_from, weight}

-- ---- the guarantee bits

-- 01, "Numbers": "Guarantee bits: RYW 1, MR 2, WFR 4, MW 8; any sum 0 to 15."
pub guarantee-bits : (g : ℕ) → g < sums → g ≡ bits g
unfolding all bits weight read_your_writes monotonic_reads writes_follow_reads monotonic_writes
guarantee-bits g h = eqb-true g (bits g) (all-at sums (λ k. eqb k (bits k)) refl g h)

same-parity : (a b k : ℕ) → a ≡ 2 * k + b → a % 2 ≡ b % 2
same-parity a b k e = omega arith

-- Of any number, in range or not, the four are its lowest bits.
pub guarantee-bits-any : (g : ℕ) → bits g ≡ g % 16
unfolding bits weight read_your_writes monotonic_reads writes_follow_reads monotonic_writes
guarantee-bits-any g =
    let e₁ : g % 2 ≡ g % 16 % 2 = omega arith in
    let e₂ : g / 2 % 2 ≡ g % 16 / 2 % 2 = same-parity (g / 2) (g % 16 / 2) (4 * (g / 16)) (omega arith) in
    let e₄ : g / 4 % 2 ≡ g % 16 / 4 % 2 = same-parity (g / 4) (g % 16 / 4) (2 * (g / 16)) (omega arith) in
    let e₈ : g / 8 % 2 ≡ g % 16 / 8 % 2 = same-parity (g / 8) (g % 16 / 8) (1 * (g / 16)) (omega arith) in
    let w : ℕ → ℕ → ℕ = λ bit r. weight (eqb r 1) bit in
    ap₂ (λ a b. a + b) (ap₂ (λ a b. a + b) (ap₂ (λ a b. a + b) (ap (w 1) e₁) (ap (w 2) e₂)) (ap (w 4) e₄)) (ap (w 8) e₈)
    ∙ sym (guarantee-bits (g % 16) (omega arith))

-- ---- the bits of a reach set

-- A reach set is the bits of the servers below n and what is left above them.
reach-digits : (n reach : ℕ) → reach ≡ reach_bits n reach + 2 ^ n * (reach / 2 ^ n)
unfolding reach_bits weight reaches
reach-digits zero reach = omega (arith, one-mul (reach / 2 ^ 0), div-one reach)
reach-digits (suc n) reach =
    let q = reach / 2 ^ n in
    let half : q / 2 ≡ reach / 2 ^ suc n = div-div-eq-div-mul reach (2 ^ n) 2 ∙ ap (λ m. reach / m) (sym (pow-suc 2 n)) in
    let above : 2 ^ suc n * (reach / 2 ^ suc n) ≡ 2 ^ n * (2 * (reach / 2 ^ suc n)) =
    ap (λ m. m * (reach / 2 ^ suc n)) (pow-suc 2 n) ∙ mul_assoc (2 ^ n) 2 (reach / 2 ^ suc n) in
    let bit : (d : ℕ) → q ≡ 2 * (reach / 2 ^ suc n) + d → 2 ^ n * q ≡ 2 ^ n * (2 * (reach / 2 ^ suc n)) + 2 ^ n * d =
    λ d e. ap (λ m. 2 ^ n * m) e ∙ mul-add (2 ^ n) (2 * (reach / 2 ^ suc n)) d in
    cond-elim (λ (w : ℕ). reach ≡ reach_bits n reach + w + 2 ^ suc n * (reach / 2 ^ suc n)) (eqb (q % 2) 1)
    (λ t. omega (arith, reach-digits n reach, above, bit 1 (omega (arith, half, eqb-true (q % 2) 1 t)), mul-one (2 ^ n)))
    (λ t. omega (arith, reach-digits n reach, above, bit 0 (omega (arith, half, eqb-false (q % 2) 1 t))))

-- 01, "Steps": "Reach is a bit set of servers, bit i for server i". A set of servers below n is the sum of the bits of its servers; the
-- rules and the plain book share this reading, so it is fixed here in plain terms.
pub reach-bits : (n reach : ℕ) → reach < 2 ^ n → reach ≡ reach_bits n reach
reach-bits n reach l = omega (arith, reach-digits n reach, ap (λ m. 2 ^ n * m) (div-eq_of_lt l))

-- ---- the search order

next_up : (n i : ℕ) → (suc i ≡ n → ⊥) → next n i ≡ suc i
unfolding next
next_up n i h = cond-false (eqb (suc i) n) _ _ (ne_eqb (suc i) n h)

next-wraps : (n i : ℕ) → suc i ≡ n → next n i ≡ 0
unfolding next
next-wraps n i h = cond-true (eqb (suc i) n) _ _ (eq-eqb (suc i) n h)

-- Up to the last server the search goes up by one.
onwards-up : (n k i : ℕ) → i + k ≤ n → onwards n k i ≡ up_from i k
unfolding onwards up_from
onwards-up n zero i h = refl
onwards-up n (suc zero) i h = refl
onwards-up n (suc (suc k)) i h =
    ap {B = List ℕ} (λ l. i ∷ l) (ap (λ m. onwards n (suc k) m) (next_up n i (λ e. omega arith)) ∙ onwards-up n (suc k) (suc i) (omega arith))

-- From the last server it passes to 0.
onwards-wraps : (n a b i : ℕ) → i + suc a ≡ n → onwards n (suc a + b) i ≡ up_from i (suc a) ++ onwards n b 0
unfolding onwards up_from
onwards-wraps n zero b i h =
    let e : suc zero + b ≡ suc b = omega arith in
    ap (λ k. onwards n k i) e ∙ ap {B = List ℕ} (λ l. i ∷ l) (ap (λ m. onwards n b m) (next-wraps n i (omega arith)))
onwards-wraps n (suc a) b i h =
    let e : suc (suc a) + b ≡ suc (suc a + b) = omega arith in
    ap (λ k. onwards n k i) e
    ∙ ap {B = List ℕ} (λ l. i ∷ l) (ap (λ m. onwards n (suc a + b) m) (next_up n i (λ q. omega arith)) ∙ onwards-wraps n a b (suc i) (omega arith))

-- 01, "Choice": from the start up to the last server, and then from 0 up to the start.
pub around-is : (n start : ℕ) → start < n → around n start ≡ up_from start (n - start) ++ up_from 0 start
unfolding around
around-is n start h =
    let e : n ≡ suc (n - suc start) + start = omega arith in
    let f : suc (n - suc start) ≡ n - start = omega arith in
    ap (λ k. onwards n k start) e
    ∙ (onwards-wraps n (n - suc start) start start (omega arith)
    ∙ ap₂ (λ k l. up_from start k ++ l) f (onwards-up n start 0 (omega arith)))

in-up_from : (i k j : ℕ) → i ≤ j → j < i + k → In j (up_from i k)
unfolding up_from
in-up_from i zero j h l = absurd (omega arith)
in-up_from i (suc k) j h l =
    ⊎_elim (λ e. here (eqb-true j i e)) (λ e. there (in-up_from (suc i) k j (omega (arith, eqb-false j i e)) (omega arith)))
    (either (eqb j i))

-- Every server is tried.
pub around-all : (n start : ℕ) → start < n → (i : ℕ) → i < n → In i (around n start)
around-all n start h i l =
    subst (λ (s : List ℕ). In i s) (sym (around-is n start h)) (⊎_elim
    (λ (e : i < start). in_append_right (up_from start (n - start)) (in-up_from 0 start i (omega arith) (omega arith)))
    (λ (e : start ≤ i). in_append_left (up_from 0 start) (in-up_from start (n - start) i e (omega arith))) (lt-or-le i start))

-- Nothing but servers is tried.
onwards-below : (n k i : ℕ) → i < n → (j : ℕ) → In j (onwards n k i) → j < n
unfolding onwards next
onwards-below n zero i h j m = in-nil m
onwards-below n (suc k) i h j m =
    ⊎_elim (λ e. omega arith) (λ m'. onwards-below n k (next n i) next-below j m') (in-cons m)
  where
    next-below : next n i < n
    next-below = cond-elim (λ (c : ℕ). c < n) (eqb (suc i) n) (λ e. omega arith) (λ e. omega (arith, eqb-false (suc i) n e))

-- And so of the whole round.
pub around-below : (n start : ℕ) → start < n → (j : ℕ) → In j (around n start) → j < n
unfolding around
around-below n start h = onwards-below n n start h

-- 01, "Choice": "The search starts at the last-used server (0 if none)".
pub starts-last : (q : Session) (i : ℕ) → q.last_used ≡ suc i → start_of q ≡ i
unfolding start_of
starts-last q i e = omega arith

-- "0 if none"
pub starts_none : (q : Session) → q.last_used ≡ 0 → start_of q ≡ 0
unfolding start_of
starts_none q e = omega arith

-- An open slot's search starts at a server.
pub starts : {z : Size} {s : State} → 1 ≤ z.n → SoundState z s → (k : ℕ) (q : Session) → s.slot k ≡ opened q → start_of q < z.n
unfolding start_of
starts {z} {s} some_server sound k q e =
    let c : SoundSession z.n (λ j. s.vector j j) q = subst (SoundSlot z.n (λ j. s.vector j j)) e (sound.slots k) in
    omega (arith, c.used)

-- ---- who may be written to

module _ (z : Size) (s : State) (q : Session) (i : ℕ) where
  -- A server that may be written to is up to date and has a free place,
  pub may-current : may_write_to z s q i ≡ true → up_to_date_to_write z s q i ≡ true
  unfolding may_write_to
  may-current h = and_left (up_to_date_to_write z s q i) (has_room z s i) h

  pub may-room : may_write_to z s q i ≡ true → length (s.log i) < z.l
  unfolding may_write_to has_room
  may-room h = ltb-true (length (s.log i)) z.l (and_right (up_to_date_to_write z s q i) (has_room z s i) h)

  -- and every server that is and has may be.
  pub may_write : up_to_date_to_write z s q i ≡ true → length (s.log i) < z.l → may_write_to z s q i ≡ true
  unfolding may_write_to has_room
  may_write h l = and_both (up_to_date_to_write z s q i) (has_room z s i) h (lt-ltb (length (s.log i)) z.l l)

-- ---- what the search found

-- The server found is the first in search order that is reachable and passes.
pub choose-some : (n start reach : ℕ) (passes : ℕ → Bool) (i : ℕ) → start < n → choose n start reach passes ≡ some i → Chosen n start reach passes i
unfolding choose
choose-some n start reach passes i h e =
    let f : Found (λ j. reaches reach j && passes j) (around n start) i = first_found (λ j. reaches reach j && passes j) (around n start) i e in
    record {
      earlier = f.front;
      untried = f.rest;
      order = f.split;
      server =
          around-below n start h i (subst (λ (l : List ℕ). In i l) (sym f.split) (in_append_right f.front (here refl)));
      reachable = and_left (reaches reach i) (passes i) f.passed;
      passed = and_right (reaches reach i) (passes i) f.passed;
      failed = f.failed;
    }

-- Where none is found, every reachable server fails.
pub choose-none : (n start reach : ℕ) (passes : ℕ → Bool) → start < n → choose n start reach passes ≡ none
    → (i : ℕ) → i < n → reaches reach i ≡ true → passes i ≡ false
unfolding choose
choose-none n start reach passes h e i l r =
    not-true-false (passes i) (λ p. true-not-false (and_both (reaches reach i) (passes i) r p)
    (first-none (λ j. reaches reach j && passes j) (around n start) e i (around-all n start h i l)))

-- ---- reach

-- With reach 0 no server is reachable.
pub reach-none : (n : ℕ) → Reachable n 0 → ⊥
unfolding reaches
reach-none n f =
    let e : 0 / 2 ^ f.server ≡ 0 = zero-div (2 ^ f.server) in
    true-not-false f.reached (ap (λ r. eqb (r % 2) 1) e)

-- A reach set that is in range and not 0 has a server in it.
pub reach-some : (n reach : ℕ) → reach_in_range n reach ≡ true → (reach ≡ 0 → ⊥) → Reachable n reach
unfolding reach_in_range reaches
reach-some zero reach e h = absurd (h (sym (div-one reach) ∙ eqb-true (reach / 2 ^ 0) 0 e))
reach-some (suc n) reach e h =
    ⊎_elim (λ (o : eqb (reach % 2) 1 ≡ true).
    record {
      server = 0;
      below = omega arith;
      reached = ap (λ r. eqb (r % 2) 1) (div-one reach) ∙ o;
    }) (λ (o : eqb (reach % 2) 1 ≡ false).
    let half : (reach / 2) / 2 ^ n ≡ reach / 2 ^ suc n = div-div-eq-div-mul reach 2 (2 ^ n) ∙ ap (λ m. reach / m) (sym (pow-succ' 2 n)) in
    further (reach-some n (reach / 2) (ap (λ r. eqb r 0) half ∙ e) (λ d. h (omega (arith, eqb-false (reach % 2) 1 o)))))
    (either (eqb (reach % 2) 1))
  where
    further : Reachable n (reach / 2) → Reachable (suc n) reach
    further f =
        record {
          server = suc f.server;
          below = omega (arith, f.below);
          reached =
              ap (λ r. eqb (r % 2) 1) (ap (λ m. reach / m) (pow-succ' 2 f.server) ∙ sym (div-div-eq-div-mul reach 2 (2 ^ f.server)))
              ∙ f.reached;
        }
