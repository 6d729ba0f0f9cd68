-- What the promise of `serve` comes to where there is room. Assumes nothing.
use Rattle.std.specs.Prelude.{ℕ, ◌≤◌, List, ◌≡◌, Ok, Err, Some, None, IfSome, OnOk, Option, Result, length, take}
use Rattle.std.specs.Io.KnownBytes.{Appends}
use Rattle.std.proofs.Common.{◌∙◌, ap, sym, subst, arith, length-take-le}
use Rattle.script.specs.Reply.{Reply}
use Rattle.script.proofs.ReplyLaws.{reply-whole}
use Rattle.script.specs.Promised.{Room}
use Rattle.script.proofs.PromisedLaws.{replied-front}
use Rattle.desk.specs.Served.{ServePromise, WorkPromise, Answered}

module _ {table steps answers out text' table' steps' answers' out' : List ℕ} {read code count : ℕ}
    (served : ServePromise table steps answers out read code count text' table' steps' answers' out') (room : Room table steps answers out) where
  pub served-work : length text' ≤ 16385 → WorkPromise read code count
  served-work few =
      record {
        text = take read text';
        out = out;
        left = out';
        read_is = sym (length-take-le read text' served.within);
        few = omega (arith, served.within);
        replied = served.replied.with_room room;
      }

  -- Of an input of any length 16,385 bytes are enough: if these are what was read, the front of `out` is the reply to the whole input.
  pub served-reply : (input : List ℕ) → take read text' ≡ take 16385 input → Reply input (take count out')
  served-reply input is =
      reply-whole input (take count out') (subst (λ t. Reply t (take count out')) is (replied-front (served.replied.with_room room)))

  -- So where the bytes of input and output are known, and reading and writing went well, the reply to the whole input was written.
  pub served-answered : {T U E : Type 0} (ended : Result T E) (written : Result U E) (known before after : Option (List ℕ)) → length text' ≡ 16385
      → OnOk ended (IfSome known (λ xs. take read text' ≡ take (length text') xs)) → OnOk written (Appends before after (take count out'))
      → OnOk ended (OnOk written (IfSome known (λ xs. Answered xs before after)))
  served-answered (Ok t) (Ok u) (Some xs) before after long is wrote =
      record { bytes = take count out'; is_reply = served-reply xs (is ∙ ap (λ n. take n xs) long); written = wrote }
  served-answered (Ok t) (Ok u) None before after long is wrote = tt
  served-answered (Ok t) (Err e) known before after long is wrote = tt
  served-answered (Err e) written known before after long is wrote = tt
