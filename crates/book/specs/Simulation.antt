-- An outcome of the rules and one of the book that answer alike and still match. That all of them do stands in proofs/Simulation.antt. Assumes nothing.
use Rattle.std.specs.Prelude.{◌≡◌}
use Rattle.rules.specs.Rules.{Outcome}
use Rattle.book.specs.Book.{BookOutcome}
use Rattle.book.specs.Matching.{Matching}

-- Two outcomes have the same answer, and what they leave matches.
abbrev pub Alike : Outcome → BookOutcome → Type 0
Alike o p = (o.answer ≡ p.answer) × Matching o.state p.book
