-- What an accepted read or write of a schedule did, for the state that its table means. Assumes nothing.
use Rattle.std.specs.Prelude.{ℕ, List, ◌≡◌}
use Rattle.std.proofs.Common.{sym, ◌∙◌, subst}
use Rattle.logs.specs.Write.{Write}
use Rattle.tables.specs.Size.{Size}
use Rattle.tables.specs.State.{State}
use Rattle.tables.specs.Meaning.{Means}
use Rattle.rules.specs.Step.{Step, reads, writes, Answer}
use Rattle.rules.proofs.StepLaws.{asked-read, asked-write}
use Rattle.rules.specs.Rules.{rule}
use Rattle.rules.specs.Done.{Answers, Shows, shows_nothing, shows_last, ReadDone, WriteDone}
use Rattle.rules.proofs.DoneLaws.{read_done, write_done}
use Rattle.rules.specs.Calls.{step}
use Rattle.rules.proofs.CallLaws.{accepted-effect}
use Rattle.book.specs.Terms.{Reads, Writes}

-- The server that a read names.
shows-server : {item i : ℕ} {g : List Write} {r : Answer} → Shows item i g r → r.server ≡ i
shows-server (shows_nothing h a) = a.server_is
shows-server (shows_last w l a) = a.server_is

module _ {z : Size} {s : State} {t : List ℕ} (means : Means z s t) (x : Step) (k : ℕ) where
  -- An accepted read did what is said of it,
  pub read-did : (i : ℕ) → Reads t x k i → ReadDone z s k x.b x.c (step t x).answer (rule z s x).state
  read-did i r =
      subst (λ (m : ℕ). ReadDone z s m x.b x.c (step t x).answer (rule z s x).state) r.slot
      (read_done means.state (accepted-effect means x r.accepted (reads x.a x.b x.c) (asked-read z x r.kind)) r.accepted)

  -- at the server that it named.
  pub read_at : (i : ℕ) (r : Reads t x k i) → (read-did i r).server ≡ i
  read_at i r = sym (shows-server (read-did i r).shows) ∙ r.server

  -- And so did an accepted write.
  pub write-did : (w : Write) → Writes t x k w → WriteDone z s k x.b x.c x.d (step t x).answer (rule z s x).state
  write-did w r =
      subst (λ (m : ℕ). WriteDone z s m x.b x.c x.d (step t x).answer (rule z s x).state) r.slot
      (write_done means.state (accepted-effect means x r.accepted (writes x.a x.b x.c x.d) (asked-write z x r.kind)) r.accepted)

  -- The write made is the one answered.
  pub write_is : (w : Write) (r : Writes t x k w) → w ≡ (write-did w r).write
  write_is w r =
      let a : Answers (step t x).answer 0 (write-did w r).server (write-did w r).server (write-did w r).clock x.c = (write-did w r).answered in
      r.made ∙ ((λ d. record { origin = a.origin_is d; clock = a.clock_is d; item = x.b; value = x.c }) ∙ sym (write-did w r).write_is)
