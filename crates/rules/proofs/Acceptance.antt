-- When a step on words is done, kind by kind: each code of 01's table but 0 is a refusal, and what is left when none applies is said here by
-- itself. Assumes nothing.
use Rattle.std.specs.Prelude.{ℕ, true, List, ◌⊎◌, ◌↔◌, ◌≡◌}
use Rattle.std.proofs.Common.{⊎_elim, sym, subst, arith}
use Rattle.tables.specs.Size.{Size}
use Rattle.tables.specs.State.{State, closed}
use Rattle.tables.specs.Layout.{size_of, decode}
use Rattle.tables.specs.Sound.{sound}
use Rattle.rules.specs.Step.{Step, Op, bad, opens, closes, reads, writes, exchanges, asked}
use Rattle.rules.proofs.StepLaws.{asked-open, asked-closing, asked-read, asked-write, asked-exchange, proper-or-bad, proper-asked, bad-exactly}
use Rattle.rules.specs.Choice.{up_to_date_to_read}
use Rattle.rules.specs.Codes.{ServedBy, TakenBy, Accepted, opens_closed, closes_open, reads_served, writes_taken, exchanges_apart}
use Rattle.rules.specs.Calls.{step}
use Rattle.rules.proofs.Exact.{done-exactly, range-exactly}
use Rattle.rules.specs.Acceptance.{Open, DoneIf}

module _ (t : List ℕ) (x : Step) where
  -- The size and the state that the table's words mean.
  abbrev z : Size
  z = size_of t

  abbrev s : State
  s = decode (size_of t) t

  -- What is out of range is not done.
  not-bad : {A : Type 0} → (step t x).answer.code ≡ 0 → sound t ≡ true → asked z x ≡ bad → A
  not-bad e h b = absurd (omega (arith, (range-exactly t x).1 (h, (bad-exactly z x).0 b)))

  done-if : {condition : Type 0} {o : Op} → (asked z x ≡ o) ⊎ (asked z x ≡ bad) → Accepted z s o ↔ condition → DoneIf t x condition
  done-if {condition} {o} asks means = (
    λ e. let d = (done-exactly t x).0 e in (
      d.0,
      ⊎_elim (λ p. p) (not-bad e d.0) (proper-or-bad z x),
      means.0 (⊎_elim (λ q. subst (Accepted z s) q d.1) (not-bad e d.0) asks),
    ),
    λ d. (done-exactly t x).1 (d.0, ⊎_elim (λ q. subst (Accepted z s) (sym q) (means.1 d.2)) (λ b. absurd (proper-asked z x d.1 b)) asks),
  )

  -- An open: its slot is closed.
  pub open-accepted : x.kind ≡ 1 → DoneIf t x (s.slot x.a ≡ closed)
  open-accepted k = done-if (asked-open z x k) (apart, opens_closed)
    where
      apart : Accepted z s (opens x.a x.b) → s.slot x.a ≡ closed
      apart (opens_closed e) = e

  -- A close: its slot is open.
  pub close-accepted : x.kind ≡ 2 → DoneIf t x (Open s x.a)
  close-accepted k = done-if (asked-closing z x k) (apart, λ o. closes_open o.session o.is)
    where
      apart : Accepted z s (closes x.a) → Open s x.a
      apart (closes_open q e) = record { session = q; is = e }

  -- A read: its slot is open, and a reachable server is up to date.
  pub read-accepted : x.kind ≡ 3 → DoneIf t x (ServedBy z s (up_to_date_to_read z s) x.a x.c)
  read-accepted k = done-if (asked-read z x k) (apart, reads_served)
    where
      apart : Accepted z s (reads x.a x.b x.c) → ServedBy z s (up_to_date_to_read z s) x.a x.c
      apart (reads_served b) = b

  -- A write: its slot is open, and a reachable server is up to date and has a free place.
  pub write-accepted : x.kind ≡ 4 → DoneIf t x (TakenBy z s x.a x.d)
  write-accepted k = done-if (asked-write z x k) (apart, writes_taken)
    where
      apart : Accepted z s (writes x.a x.b x.c x.d) → TakenBy z s x.a x.d
      apart (writes_taken b) = b

  -- An exchange: from one server to another, full or not, whether anything goes over or not.
  pub exchange-accepted : x.kind ≡ 5 → DoneIf t x (x.a ≡ x.b → ⊥)
  exchange-accepted k = done-if (asked-exchange z x k) (apart, exchanges_apart)
    where
      apart : Accepted z s (exchanges x.a x.b x.c) → x.a ≡ x.b → ⊥
      apart (exchanges_apart e) = e
