-- What a call answers is told by its numbers: two refusals have two codes, and two answers differ in a word. Assumes nothing.
use Rattle.std.specs.Prelude.{ℕ, cond, eqb, Result, Ok, Err, ◌≡◌, refl}
use Rattle.std.proofs.Common.{sym, ◌∙◌, ap, arith}
use Rattle.tables.specs.Refused.{code_of, code_in}
use Rattle.tables.specs.declared.refusal.Refusal.{Refusal}
use Rattle.tables.specs.declared.refusal.Refusal.TheVariants.{Unsound, OutOfRange, SlotState, ToItself, NoReach, Behind, Full, Length}
use Rattle.rules.specs.Step.{refused}
use Rattle.kinds.specs.Obeys.{answer_of}
use Rattle.kinds.specs.declared.Answer.{Answer}

-- The refusal of a code.
named : ℕ → Refusal
named c =
    cond (eqb c 1) Unsound
    (cond (eqb c 2) OutOfRange
    (cond (eqb c 3) SlotState
    (cond (eqb c 4) ToItself
    (cond (eqb c 5) NoReach
    (cond (eqb c 6) Behind
    (cond (eqb c 7) Full
    Length))))))

named-code : (r : Refusal) → named (code_of r) ≡ r
unfolding named
named-code Unsound = refl
named-code OutOfRange = refl
named-code SlotState = refl
named-code ToItself = refl
named-code NoReach = refl
named-code Behind = refl
named-code Full = refl
named-code Length = refl

pub code_of-one : (a b : Refusal) → code_of a ≡ code_of b → a ≡ b
code_of-one a b e = sym (named-code a) ∙ ap named e ∙ named-code b

-- No refusal has the code 0.
pub code_of-refuses : (a : Refusal) → code_of a ≡ 0 → ⊥
code_of-refuses Unsound e = absurd (omega (arith, e))
code_of-refuses OutOfRange e = absurd (omega (arith, e))
code_of-refuses SlotState e = absurd (omega (arith, e))
code_of-refuses ToItself e = absurd (omega (arith, e))
code_of-refuses NoReach e = absurd (omega (arith, e))
code_of-refuses Behind e = absurd (omega (arith, e))
code_of-refuses Full e = absurd (omega (arith, e))
code_of-refuses Length e = absurd (omega (arith, e))

-- What making and a run answer,
pub code_in-one : (a b : Result (Unit {0}) Refusal) → code_in a ≡ code_in b → a ≡ b
code_in-one (Ok done) (Ok also) e = refl
code_in-one (Ok done) (Err b) e = absurd (code_of-refuses b (sym e))
code_in-one (Err a) (Ok done) e = absurd (code_of-refuses a e)
code_in-one (Err a) (Err b) e = ap Err (code_of-one a b e)

-- and what a step does.
pub answer_of-one : (a b : Result Answer Refusal) → answer_of a ≡ answer_of b → a ≡ b
unfolding refused
answer_of-one (Ok a) (Ok b) e = ap (λ r. Ok (record { server = r.server; origin = r.origin; clock = r.clock; value = r.value })) e
answer_of-one (Ok a) (Err b) e = absurd (code_of-refuses b (sym (ap (λ r. r.code) e)))
answer_of-one (Err a) (Ok b) e = absurd (code_of-refuses a (ap (λ r. r.code) e))
answer_of-one (Err a) (Err b) e = ap Err (code_of-one a b (ap (λ r. r.code) e))
